-- What keeps its value: the expressions whose variables are logical or in use.
use Rattle.std.specs.Prelude.{◌≡◌, ℕ, zero, suc, ◌==◌, ltb, ℤ, Bool, true, List, [], ◌∷◌, ◌++◌, map, take, drop, All, slice_index_or}
use Rattle.std.specs.List.{insert}
use Rattle.std.proofs.Common.{refl, sym, ap₂, ◌∙◌, ⊎_elim}
use Rattle.std.proofs.lemmas.Bool.{eq-eqb, lt-ltb, or_cases, or_left, or_right}
use Rattle.std.proofs.lemmas.List.Elements.{All-nil, All-cons, All-head, All-tail, All-append, All-take, All-drop, All-weaker}
use Rattle.std.proofs.lemmas.List.Folds.{list_any-append}
use Rattle.shape_data.specs.declared.machine.Cell.{Cell}
use Rattle.shape_data.specs.declared.program.StructDef.{StructDef}
use Rattle.shape_data.specs.declared.symbolic.Atom.{Atom}
use Rattle.shape_data.specs.declared.symbolic.Atom.TheVariants.{Points, Seg, Junk}
use Rattle.shape_data.specs.declared.symbolic.Exp.{Exp}
use Rattle.shape_data.specs.declared.symbolic.Exp.TheVariants.{Var, Const}
use Rattle.shape_data.specs.declared.symbolic.Fact.{Fact}
use Rattle.shape_data.specs.declared.symbolic.Fact.TheVariants.{Eq, Ne}
use Rattle.shape_data.specs.Meaning.{value, IsTrueFact, AreTrueFacts, HoldsAtom, HoldsAtoms, AgreesOnLogical}
use Rattle.sym_parts.specs.Laws.Each.{EachInAtom, EachInFact}
use Rattle.sym_parts.specs.Laws.Fresh.{is_one_of}
use Rattle.sym_matching.specs.Laws.{is_kept, AgreesOn}
use Rattle.sym_matching.specs.Reading.{is_logical}

-- ---- lists

pub All-insert : {X : Type 0} (P : X → Type 0) (xs : List X) (place : ℕ) (x : X) → P x → All P xs → All P (insert xs place x)
All-insert P xs place x one h =
    All-append P (take place xs) (x ∷ drop place xs) (All-take P place xs h) (All-cons P x (drop place xs) one (All-drop P place xs h))

pub All-or : {X : Type 0} (P : X → Type 0) (xs : List X) (place : ℕ) (other : X) → P other → All P xs → P (slice_index_or xs place other)
All-or P [] place other none h = none
All-or P (x ∷ xs) zero other none h = All-head P x xs h
All-or P (x ∷ xs) (suc place) other none h = All-or P xs place other none (All-tail P x xs h)

pub All-left : {X : Type 0} (P : X → Type 0) (xs ys : List X) → All P (xs ++ ys) → All P xs
All-left P [] ys h = All-nil P
All-left P (x ∷ xs) ys h = All-cons P x xs (All-head P x (xs ++ ys) h) (All-left P xs ys (All-tail P x (xs ++ ys) h))

pub All-right : {X : Type 0} (P : X → Type 0) (xs ys : List X) → All P (xs ++ ys) → All P ys
All-right P [] ys h = h
All-right P (x ∷ xs) ys h = All-right P xs ys (All-tail P x (xs ++ ys) h)

-- ---- names in lists

pub one_of-left : (xs ys : List ℕ) (x : ℕ) → is_one_of xs x ≡ true → is_one_of (xs ++ ys) x ≡ true
one_of-left xs ys x h = rw (list_any-append (λ name. x == name) xs ys) (or_left (is_one_of xs x) (is_one_of ys x) h)

pub one_of-right : (xs ys : List ℕ) (x : ℕ) → is_one_of ys x ≡ true → is_one_of (xs ++ ys) x ≡ true
one_of-right xs ys x h = rw (list_any-append (λ name. x == name) xs ys) (or_right (is_one_of xs x) (is_one_of ys x) h)

pub one_of-first : (x : ℕ) (xs : List ℕ) → is_one_of (x ∷ xs) x ≡ true
one_of-first x xs = or_left (x == x) (is_one_of xs x) (eq-eqb x x refl)

-- ---- values

-- two assignments under which the expressions of P have the same values
module _ (P : Exp → Type 0) (s t : ℕ → ℤ) (same : (e : Exp) → P e → value t e ≡ value s e) where
  pub values-alike : (es : List Exp) → All P es → map (value t) es ≡ map (value s) es
  values-alike [] each = refl
  values-alike (e ∷ es) each = ap₂ (λ v vs. v ∷ vs) (same e (All-head P e es each)) (values-alike es (All-tail P e es each))

  pub HoldsAtom-alike : (structs : List StructDef) (atom : Atom) (own : List Cell) → EachInAtom P atom → HoldsAtom structs s atom own
      → HoldsAtom structs t atom own
  HoldsAtom-alike structs (Points at kind fields) own each h = rw (values-alike fields each.1, same at each.0) h
  HoldsAtom-alike structs (Seg kind link from to) own each h = rw (same from each.0, same to each.1) h
  HoldsAtom-alike structs Junk own each h = h

  pub HoldsAtoms-alike : (structs : List StructDef) (atoms : List Atom) (heap : List Cell) → All (EachInAtom P) atoms
      → HoldsAtoms structs s atoms heap → HoldsAtoms structs t atoms heap
  HoldsAtoms-alike structs [] heap each h = h
  HoldsAtoms-alike structs (atom ∷ atoms) heap each h = (
    h.0,
    h.1,
    h.2,
    HoldsAtom-alike structs atom h.0 (All-head (EachInAtom P) atom atoms each) h.3,
    HoldsAtoms-alike structs atoms h.1
        (All-tail (EachInAtom P) atom atoms each) h.4,
  )

  IsTrueFact-alike : (fact : Fact) → EachInFact P fact → IsTrueFact s fact → IsTrueFact t fact
  IsTrueFact-alike (Eq left right) each h = same left each.0 ∙ h ∙ sym (same right each.1)
  IsTrueFact-alike (Ne left right) each h = λ e. h (sym (same left each.0) ∙ e ∙ same right each.1)

  pub AreTrueFacts-alike : (facts : List Fact) → All (EachInFact P) facts → AreTrueFacts s facts → AreTrueFacts t facts
  AreTrueFacts-alike [] each h = h
  AreTrueFacts-alike (fact ∷ facts) each h = (
    IsTrueFact-alike fact (All-head (EachInFact P) fact facts each) h.0,
    AreTrueFacts-alike facts
        (All-tail (EachInFact P) fact facts each) h.1,
  )

-- what holds of each expression may be weaker
module _ (P Q : Exp → Type 0) (to : (e : Exp) → P e → Q e) where
  pub each-atom : (atom : Atom) → EachInAtom P atom → EachInAtom Q atom
  each-atom (Points at kind fields) h = (to at h.0, All-weaker P Q to fields h.1)
  each-atom (Seg kind link from to') h = (to from h.0, to to' h.1)
  each-atom Junk h = tt

  pub each-atoms : (atoms : List Atom) → All (EachInAtom P) atoms → All (EachInAtom Q) atoms
  each-atoms = All-weaker (EachInAtom P) (EachInAtom Q) each-atom

  pub each-fact : (fact : Fact) → EachInFact P fact → EachInFact Q fact
  each-fact (Eq left right) h = (to left h.0, to right h.1)
  each-fact (Ne left right) h = (to left h.0, to right h.1)

  pub each-facts : (facts : List Fact) → All (EachInFact P) facts → All (EachInFact Q) facts
  each-facts = All-weaker (EachInFact P) (EachInFact Q) each-fact

-- ---- what is kept

abbrev pub is_kept_exp : List ℕ → Exp → Bool
is_kept_exp used (Var x) = is_kept used x
is_kept_exp used (Const n) = true

-- the expression's variable is kept
abbrev pub IsKept : List ℕ → Exp → Type 0
IsKept used e = is_kept_exp used e ≡ true

-- the expression is logical
abbrev pub IsLogical : Exp → Type 0
IsLogical e = is_logical e ≡ true

-- the second list has the names of the first
abbrev pub Within : List ℕ → List ℕ → Type 0
Within some all = (x : ℕ) → is_one_of some x ≡ true → is_one_of all x ≡ true

pub value-kept : (used : List ℕ) (s t : ℕ → ℤ) → AgreesOn used s t → (e : Exp) → IsKept used e → value t e ≡ value s e
value-kept used s t agrees (Var x) h = agrees x h
value-kept used s t agrees (Const n) h = refl

pub logical-kept : (used : List ℕ) (e : Exp) → IsLogical e → IsKept used e
logical-kept used (Var x) h = or_left (ltb x 65536) (is_one_of used x) h
logical-kept used (Const n) h = refl

pub kept-name : (used : List ℕ) (x : ℕ) → is_one_of used x ≡ true → is_kept used x ≡ true
kept-name used x h = or_right (ltb x 65536) (is_one_of used x) h

pub kept-more : (used more : List ℕ) → Within used more → (x : ℕ) → is_kept used x ≡ true → is_kept more x ≡ true
kept-more used more within x h =
    ⊎_elim (λ low. or_left (ltb x 65536) (is_one_of more x) low) (λ is. or_right (ltb x 65536) (is_one_of more x) (within x is))
    (or_cases (ltb x 65536) (is_one_of used x) h)

pub IsKept-more : (used more : List ℕ) → Within used more → (e : Exp) → IsKept used e → IsKept more e
IsKept-more used more within (Var x) h = kept-more used more within x h
IsKept-more used more within (Const n) h = refl

-- new names are kept
pub kept-names : (xs more : List ℕ) → Within xs more → All (IsKept more) (map Var xs)
kept-names [] more within = All-nil (IsKept more)
kept-names (x ∷ xs) more within =
    All-cons (IsKept more) (Var x) (map Var xs) (kept-name more x (within x (one_of-first x xs)))
    (kept-names xs more (λ y h. within y (or_right (y == x) (is_one_of xs y) h)))

pub AgreesOn-refl : (used : List ℕ) (s : ℕ → ℤ) → AgreesOn used s s
AgreesOn-refl used s x h = refl

pub AgreesOn-trans : (used more : List ℕ) (s t u : ℕ → ℤ) → Within used more → AgreesOn used s t → AgreesOn more t u → AgreesOn used s u
AgreesOn-trans used more s t u within first second x h = second x (kept-more used more within x h) ∙ first x h

pub AgreesOn-logical : (used : List ℕ) (s t : ℕ → ℤ) → AgreesOn used s t → AgreesOnLogical s t
AgreesOn-logical used s t agrees x low = agrees x (or_left (ltb x 65536) (is_one_of used x) (lt-ltb x 65536 low))
