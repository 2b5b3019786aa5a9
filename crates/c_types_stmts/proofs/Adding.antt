-- What is found in one part and then in another.
use Rattle.std.proofs.Common.{◌≡◌, ℕ, ◌+◌, ◌<◌, List, ◌∷◌, length, drop, get_or, Result, Ok, Err, OnOk, sym, ap, ◌∙◌}
use Rattle.std.proofs.Common.{subst}
use Rattle.std.proofs.lemmas.List.{at_drop_more}
use Rattle.c_grammar.specs.declared.tokens.places.Refusal.{Refusal}
use Rattle.c_types_rules.specs.Statements.{Found, nothing_found, refuses, ◌⊹◌}
use Rattle.c_types_names.specs.declared.first_refusal.FirstRefusal.{FirstRefusal}
use Rattle.c_types_names.specs.FirstRefusal.{with_refusals}
use Rattle.c_types_names.proofs.FirstRefusals as more
use Rattle.c_types_exprs.specs.Listing.{with_kinds}
use Rattle.c_types_exprs.proofs.ListedKinds.{with_none, with_two}
use Rattle.c_types_stmts.specs.declared.finding.Finding.{Finding}
use Rattle.c_types_stmts.specs.Adding.{Adds, AddsUpTo}

-- nothing is found
pub nothing : (f : Finding) → Adds nothing_found f f
nothing f = record { first = more.nothing f.first; kinds = sym (with_none f.kinds) }

-- something is refused
pub refused : (all : List Refusal) (f : Finding) (first : FirstRefusal) → first ≡ with_refusals f.first all
    → Adds (refuses all) f (record { first = first; kinds = f.kinds })
refused all f first is = record { first = is; kinds = sym (with_none f.kinds) }

-- one part, and then the other
pub then : {one other : Found} {a b c : Finding} → Adds one a b → Adds other b c → Adds (one ⊹ other) a c
then {one = one} {other = other} {a = a} {b = b} {c = c} first next = record {
  first = more.then a.first b.first c.first one.refusals other.refusals first.first next.first;
  kinds = next.kinds ∙ ap (λ ks. with_kinds ks other.kinds) first.kinds ∙ with_two a.kinds one.kinds other.kinds;
}

-- the same, where the second is what a function ends with
pub ends : {T E : Type 0} (r : Result T E) (other : Found) (c : Finding) {one : Found} {a b : Finding} → Adds one a b
    → OnOk r (Adds other b c) → OnOk r (Adds (one ⊹ other) a c)
ends (Ok x) other c first next = then first next
ends (Err e) other c first next = tt

-- the same findings
pub same : {one : Found} {a b : Finding} → Adds one a b → (other : Found) → one ≡ other → Adds other a b
same {a = a} {b = b} now other is = subst (λ f. Adds f a b) is now

pub ends_same : {T E : Type 0} (r : Result T E) (one other : Found) (a b : Finding) → OnOk r (Adds one a b) → one ≡ other
    → OnOk r (Adds other a b)
ends_same (Ok x) one other a b now is = same now other is
ends_same (Err e) one other a b now is = tt

-- before the first turn of a loop
pub begun : (all : Found) (f : Finding) → AddsUpTo all all f f
begun all f = record { whole = λ after now. now }

-- a turn of a loop
pub turn : {left all one : Found} {start now next : Finding} (rest : Found) → AddsUpTo left all start now → Adds one now next
    → left ≡ one ⊹ rest → AddsUpTo rest all start next
turn {now = now} rest before step parts =
    record { whole = λ after more. before.whole after (subst (λ f. Adds f now after) (sym parts) (then step more)) }

-- behind the last turn
pub over : {left all : Found} {start now : Finding} → AddsUpTo left all start now → left ≡ nothing_found → Adds all start now
over {now = now} before none = before.whole now (subst (λ f. Adds f now now) (sym none) (nothing now))

-- a turn of a loop over a list, in which a state goes on: an environment, or what is declared before
module _ {S X : Type 0} (all : S → List X → Found) (one : S → X → Found) (next : S → X → S)
    (step : (s : S) (x : X) (xs : List X) → all s (x ∷ xs) ≡ one s x ⊹ all (next s x) xs)
    (xs : List X) (i : ℕ) (x : X) (within : i < length xs) (is : x ≡ get_or xs i x) (s to : S) (goes : to ≡ next s x) where
  parts : all s (drop i xs) ≡ one s x ⊹ all to (drop (i + 1) xs)
  parts =
      at_drop_more (all s) xs i x within
      ∙ step s (get_or xs i x) (drop (i + 1) xs)
      ∙ ap (λ y. one s y ⊹ all (next s y) (drop (i + 1) xs)) (sym is)
      ∙ ap (λ t. one s x ⊹ all t (drop (i + 1) xs)) (sym goes)

  pub turned : {whole : Found} {start now after : Finding} → AddsUpTo (all s (drop i xs)) whole start now → Adds (one s x) now after
      → AddsUpTo (all to (drop (i + 1) xs)) whole start after
  turned before more = turn (all to (drop (i + 1) xs)) before more parts

-- where the state is behind the loop
module _ {S X T : Type 0} (end : S → List X → T) (next : S → X → S)
    (step : (s : S) (x : X) (xs : List X) → end s (x ∷ xs) ≡ end (next s x) xs)
    (xs : List X) (i : ℕ) (x : X) (within : i < length xs) (is : x ≡ get_or xs i x) (s to : S) (goes : to ≡ next s x) where
  pub passed : (all : T) → end s (drop i xs) ≡ all → end to (drop (i + 1) xs) ≡ all
  passed all before =
      ap (λ t. end t (drop (i + 1) xs)) goes
      ∙ ap (λ y. end (next s y) (drop (i + 1) xs)) is
      ∙ sym (step s (get_or xs i x) (drop (i + 1) xs))
      ∙ sym (at_drop_more (end s) xs i x within)
      ∙ before
