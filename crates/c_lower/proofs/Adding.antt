-- What is found in one part and then in another.
use Rattle.std.proofs.Common.{◌≡◌, ℕ, ◌+◌, ◌<◌, ◌≤◌, List, [], ◌∷◌, ◌++◌, length, take, drop, get_or, append_assoc, refl, sym, ap}
use Rattle.std.proofs.Common.{◌∙◌, subst, arith}
use Rattle.std.proofs.lemmas.List.{append-nil, at_drop_more, take_all, take-append-le, length-take, length-append}
use Rattle.shape_data.specs.declared.program.Proc.{Proc}
use Rattle.c_grammar.specs.declared.tokens.places.Refusal.{Refusal}
use Rattle.c_types_rules.proofs.KnownTables.{nil_left, nil_right}
use Rattle.c_types_names.specs.declared.first_refusal.FirstRefusal.{FirstRefusal}
use Rattle.c_types_names.specs.FirstRefusal.{with_refusals}
use Rattle.c_types_names.proofs.FirstRefusals as more
use Rattle.c_lower.specs.declared.building.Building.{Building}
use Rattle.c_lower.specs.Building.{Part, no_part, ◌⊹◌, Adds, AddsUpTo}

-- THE FIRST THAT ARE KEPT

-- those that are kept are some
shorter : (most : ℕ) (kept met : List Proc) → kept ≡ take most met → length kept ≤ length met
shorter most kept met is = omega (arith, ap length is, length-take most met)

-- where there are enough, a further one is not kept
pub kept_same : (most : ℕ) (kept : List Proc) → most ≤ length kept → (met further : List Proc) → kept ≡ take most met
    → kept ≡ take most (met ++ further)
kept_same most kept enough met further is =
    is ∙ sym (take-append-le most met further (omega (arith, enough, shorter most kept met is)))

-- where there is room, all are kept, and one more
pub kept_more : (most : ℕ) (kept : List Proc) → length kept < most → (p : Proc) (met : List Proc) → kept ≡ take most met
    → kept ++ p ∷ [] ≡ take most (met ++ p ∷ [])
kept_more most kept room p met is =
    let few : length met < most = omega (arith, room, ap length is, length-take most met) in
    ap (λ ps. ps ++ p ∷ []) (is ∙ take_all most met (omega (arith, few)))
    ∙ sym (take_all most (met ++ p ∷ []) (omega (arith, few, length-append met (p ∷ []))))

-- where none is added, those that are kept stay
kept_none : (most : ℕ) (kept met : List Proc) → kept ≡ take most met → kept ≡ take most (met ++ [])
kept_none most kept met is = is ∙ ap (take most) (sym (append-nil met))

-- PARTS

-- nothing is found
pub nothing : (b : Building) → Adds no_part b b
nothing b = record { first = more.nothing b.first; most = refl; procs = λ none. kept_none b.most b.procs }

-- something is refused
pub refused : (all : List Refusal) (b : Building) (first : FirstRefusal) → first ≡ with_refusals b.first all
    → Adds (record { refusals = all; procs = [] }) b (record b { first = first })
refused all b first is = record { first = is; most = refl; procs = λ none. kept_none b.most b.procs }

-- one part, and then the other
pub then : {one other : Part} {a b c : Building} → Adds one a b → Adds other b c → Adds (one ⊹ other) a c
then {one = one} {other = other} {a = a} {b = b} {c = c} first next = record {
  first = more.then a.first b.first c.first one.refusals other.refusals first.first next.first;
  most = next.most ∙ first.most;
  procs = λ none met are.
      let kept : b.procs ≡ take b.most (met ++ one.procs) =
      first.procs (nil_left one.refusals other.refusals none) met are ∙ ap (λ n. take n (met ++ one.procs)) (sym first.most) in
      next.procs (nil_right one.refusals other.refusals none) (met ++ one.procs) kept
      ∙ ap (λ n. take n ((met ++ one.procs) ++ other.procs)) first.most
      ∙ ap (take a.most) (append_assoc met one.procs other.procs);
}

-- the same findings
pub same : {one : Part} {a b : Building} → Adds one a b → (other : Part) → one ≡ other → Adds other a b
same {a = a} {b = b} now other is = subst (λ p. Adds p a b) is now

-- before the first turn of a loop
pub begun : (all : Part) (b : Building) → AddsUpTo all all b b
begun all b = record { whole = λ after now. now }

-- a turn of a loop
turn : {left all one : Part} {start now next : Building} (rest : Part) → AddsUpTo left all start now → Adds one now next → left ≡ one ⊹ rest
    → AddsUpTo rest all start next
turn {now = now} rest before step parts =
    record { whole = λ after more. before.whole after (subst (λ p. Adds p now after) (sym parts) (then step more)) }

-- behind the last turn
pub over : {left all : Part} {start now : Building} → AddsUpTo left all start now → left ≡ no_part → Adds all start now
over {now = now} before none = before.whole now (subst (λ p. Adds p now now) (sym none) (nothing now))

-- a turn of a loop over a list
module _ {X : Type 0} (all : List X → Part) (one : X → Part) (step : (x : X) (xs : List X) → all (x ∷ xs) ≡ one x ⊹ all xs)
    (xs : List X) (i : ℕ) (x : X) (within : i < length xs) (is : x ≡ get_or xs i x) where
  parts : all (drop i xs) ≡ one x ⊹ all (drop (i + 1) xs)
  parts = at_drop_more all xs i x within ∙ step (get_or xs i x) (drop (i + 1) xs) ∙ ap (λ y. one y ⊹ all (drop (i + 1) xs)) (sym is)

  pub turned : {whole : Part} {start now after : Building} → AddsUpTo (all (drop i xs)) whole start now → Adds (one x) now after
      → AddsUpTo (all (drop (i + 1) xs)) whole start after
  turned before more = turn (all (drop (i + 1) xs)) before more parts
