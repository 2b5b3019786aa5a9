-- The match as a whole: the answer is the definition's.
use Rattle.std.proofs.Common.{◌≡◌, ◌∙◌, ℕ, ◌+◌, ◌<◌, ◌≤◌, List, ◌++◌, length, ap, arith}
use Rattle.shape_data.specs.declared.symbolic.Exp.{Exp}
use Rattle.shape_data.specs.declared.symbolic.Fact.{Fact}
use Rattle.shape_data.specs.declared.symbolic.SymHeap.{SymHeap}
use Rattle.sym_matching.specs.declared.matching.Abd.{Abd}
use Rattle.sym_matching.specs.declared.matching.Matching.{Matching}
use Rattle.sym_matching.specs.declared.matching.Mode.{Mode}
use Rattle.sym_matching.specs.declared.matching.Turned.{Turned}
use Rattle.sym_matching.specs.Matches.{answer_abd, argument_variables, matching, rules_of, start_of, want_heap}
use Rattle.sym_matching.specs.Rooms.{IsWithinSizes, fields_of_all}
use Rattle.sym_matching.proofs.AnswerLaws.{few_names}
use Rattle.sym_matching.proofs.RoomLaws.{few_fields}
use Rattle.sym_matching.specs.Answers.{names_of_all}
use Rattle.sym_matching.specs.RuleSteps.InSetting.{rules_with}

pub start-used : (a : SymHeap) (bound : List (ℕ × Exp)) (used : List ℕ) (next : ℕ) (m : Matching) → m ≡ start_of a bound used next →
    m.used ≡ used
start-used a bound used next m is = ap (λ (k : Matching). k.used) is

pub start-next : (a : SymHeap) (bound : List (ℕ × Exp)) (used : List ℕ) (next : ℕ) (m : Matching) → m ≡ start_of a bound used next →
    m.next ≡ next
start-next a bound used next m is = ap (λ (k : Matching). k.next) is

module _ (mode : Mode) (a b : SymHeap) (bound : List (ℕ × Exp)) (flexible avoid : List ℕ) (next : ℕ) where
  pub answered : (facts : List Fact) (used : List ℕ) (m : Matching) (turned : Turned) (found : Abd) → facts ≡ a.pure →
      used ≡ argument_variables a b bound flexible ++ avoid → m ≡ start_of a bound used next →
      turned ≡ want_heap (rules_with mode facts flexible) b m → found ≡ answer_abd (rules_with mode facts flexible) b turned →
      found ≡ answer_abd (rules_of mode a flexible) b (matching mode a b bound flexible avoid next)
  answered facts used m turned found facts_is used_is m_is went told =
      let first : found ≡ answer_abd (rules_with mode facts flexible) b (want_heap (rules_with mode facts flexible) b m) =
      told ∙ ap (answer_abd (rules_with mode facts flexible) b) went in
      let started : m ≡ start_of a bound (argument_variables a b bound flexible ++ avoid) next =
      m_is ∙ ap (λ names. start_of a bound names next) used_is in
      first
      ∙ ap (λ k. answer_abd (rules_with mode facts flexible) b (want_heap (rules_with mode facts flexible) b k)) started
      ∙ ap (λ list. answer_abd (rules_with mode list flexible) b
      (want_heap (rules_with mode list flexible) b (start_of a bound (argument_variables a b bound flexible ++ avoid) next))) facts_is

-- ---- room for new logical variables

-- a heap within the sizes takes at most 131,076,000
pub names_within : (b : SymHeap) → IsWithinSizes b → names_of_all b.spatial ≤ 131076000
names_within b other =
    let names : names_of_all b.spatial ≤ fields_of_all b.spatial + length b.spatial = few_names b.spatial in
    let fields : fields_of_all b.spatial ≤ 131072000 = few_fields b other in
    let parts : length b.pure + length b.spatial ≤ 4000 = other.parts in
    omega arith

pub arguments-names : (b : SymHeap) (next start : ℕ) → IsWithinSizes b → start ≡ next → next ≤ 65536 →
    start + names_of_all b.spatial < 4294967296
arguments-names b next start other is low = let names : names_of_all b.spatial ≤ 131076000 = names_within b other in omega arith
