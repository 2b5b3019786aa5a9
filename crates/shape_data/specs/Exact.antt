-- When a test or a copy of values is exact, and how those of structs, variants, options and lists are made of those of
-- their parts. A struct's fields and a variant's fields are tuples here, as (first, (second, tt)).
use Rattle.std.specs.Prelude.{◌≡◌, Bool, true, false, ◌&&◌, List, [], ◌∷◌, nat_eq, refl}
use Rattle.std.proofs.Common.{ap, sym, ◌∙◌, inl, inr}
use mathlib.Core.Bool.{beq}
use denote.Enum.Compared.{Each, by}
use denote.Enum.Declared.{Record as Enum}
use denote.Struct.Field.{Field}
use denote.Struct.Record.{Record as Struct, Propositions, values_one}
use denote.Struct.Values.{Values}
use Rattle.std.specs.Bool.{Decides}
use Rattle.std.specs.Cmp.Lexicographic.{pointwise}
use Rattle.std.specs.List.{AllZip}
use Rattle.std.specs.Option.{option_eq}
use Rattle.std.specs.Ordering.{int_eq}
use Rattle.std.specs.declared.option.Option.{Option}
use Rattle.std.specs.declared.option.Option.TheVariants.{None, Some}
use Rattle.std.proofs.lemmas.Bool.Decides.{Decides-and, Decides-eqb, Decides-int_eq, Decides-like}
use Rattle.std.proofs.lemmas.Slice.Eq.{slice_eq-Decides}

-- the test answers whether two values are the same
abbrev pub IsExactTest : {A : Type 0} → (A → A → Bool) → Type 0
IsExactTest {A} E = (x y : A) → Decides (E x y) (x ≡ y)

-- what a copy of a value may be is that value alone
abbrev pub IsExactCopy : {A : Type 0} → (A → A → Type 0) → Type 0
IsExactCopy {A} R = (x y : A) → R x y → y ≡ x

-- ---- numbers and booleans

pub number_same : IsExactTest nat_eq
number_same = Decides-eqb

pub signed_same : IsExactTest int_eq
signed_same = Decides-int_eq

pub bool_same : IsExactTest beq
bool_same true true = (λ _. refl, λ _. refl)
bool_same true false = (λ e. cc, λ e. cc)
bool_same false true = (λ e. cc, λ e. cc)
bool_same false false = (λ _. refl, λ _. refl)

-- a copy of bits is the value
pub itself : {A : Type 0} → IsExactCopy {A = A} (λ x y. y ≡ x)
itself x y h = h

-- ---- lists and options

pub row_same : {A : Type 0} {E : A → A → Bool} → IsExactTest E → IsExactTest (pointwise E)
row_same same xs ys = slice_eq-Decides same xs ys _ refl

pub row_copied : {A : Type 0} {R : A → A → Type 0} → IsExactCopy R → IsExactCopy (AllZip R)
row_copied copied [] [] h = refl
row_copied copied [] (y ∷ ys) h = absurd h
row_copied copied (x ∷ xs) [] h = absurd h
row_copied copied (x ∷ xs) (y ∷ ys) h = let first : y ≡ x = copied x y h.0 in let others : ys ≡ xs = row_copied copied xs ys h.1 in cc

pub option_same : {A : Type 0} {E : A → A → Bool} → IsExactTest E → IsExactTest (option_eq E)
option_same same None None = (λ _. refl, λ _. refl)
option_same same None (Some y) = (λ e. cc, λ e. cc)
option_same same (Some x) None = (λ e. cc, λ e. cc)
option_same same (Some x) (Some y) = let here = same x y in (λ e. ap (λ v. Some v) (here.0 e), λ e. here.1 cc)

-- Q is what `Option`'s clone says: of two values it says R, and it holds of no value beside `None`
pub option_copied : {A : Type 0} {R : A → A → Type 0} (Q : Option A → Option A → Type 0) → ((x y : A) → Q (Some x) (Some y) → R x y)
    → ((y : A) → ¬ Q None (Some y)) → ((x : A) → ¬ Q (Some x) None) → IsExactCopy R → IsExactCopy Q
option_copied Q both right left copied None None h = refl
option_copied Q both right left copied None (Some y) h = absurd (right y h)
option_copied Q both right left copied (Some x) None h = absurd (left x h)
option_copied Q both right left copied (Some x) (Some y) h = ap (λ v. Some v) (copied x y (both x y h))

-- ---- fields

pub and_same : {A B : Type 0} {E : A → A → Bool} {F : B → B → Bool} → IsExactTest E → IsExactTest F
    → IsExactTest {A = A × B} (λ x y. E x.0 y.0 && F x.1 y.1)
and_same first others x y =
    Decides-like _ (λ p. λ i. (p.0 i, p.1 i)) (λ e. (ap (λ v. v.0) e, ap (λ v. v.1) e)) (Decides-and _ _ (first x.0 y.0) (others x.1 y.1))

pub last_same : {A : Type 0} {E : A → A → Bool} → IsExactTest E → IsExactTest {A = A × Unit {0}} (λ x y. E x.0 y.0)
last_same last x y = Decides-like _ (λ p. λ i. (p i, tt)) (λ e. ap (λ v. v.0) e) (last x.0 y.0)

pub no_field_same : IsExactTest {A = Unit {0}} (λ x y. true)
no_field_same x y = (λ _. refl, λ _. refl)

pub and_copied : {A B : Type 0} {R : A → A → Type 0} {S : B → B → Type 0} → IsExactCopy R → IsExactCopy S
    → IsExactCopy {A = A × B} (λ x y. R x.0 y.0 × S x.1 y.1)
and_copied first others x y h = let p = first x.0 y.0 h.0 in let q = others x.1 y.1 h.1 in λ i. (p i, q i)

pub last_copied : {A : Type 0} {R : A → A → Type 0} → IsExactCopy R → IsExactCopy {A = A × Unit {0}} (λ x y. R x.0 y.0)
last_copied last x y h = let p = last x.0 y.0 h in λ i. (p i, tt)

-- ---- structs

-- a struct whose fields are compared exactly
pub struct_same : (N : Struct) → Propositions N → {E : Values N.parts → Values N.parts → Bool} → IsExactTest E
    → IsExactTest {A = N.D} (λ x y. E (N.as_values x) (N.as_values y))
struct_same N no_more fields x y =
    Decides-like _ (values_one N no_more x y) (λ e. ap N.as_values e) (fields (N.as_values x) (N.as_values y))

-- a struct whose fields are copied exactly
pub struct_copied : (N : Struct) → Propositions N → {R : Values N.parts → Values N.parts → Type 0} → IsExactCopy R
    → IsExactCopy {A = N.D} (λ x y. R (N.as_values x) (N.as_values y))
struct_copied N no_more fields x y h = values_one N no_more y x (fields (N.as_values x) (N.as_values y) h)

-- ---- enums

-- for each variant, that its test is exact
abbrev pub AllExact : (Fss : List (List Field)) → Each Bool Fss → Type 0
AllExact [] each = Unit {0}
AllExact (Fs ∷ Fss) each = IsExactTest each.0 × AllExact Fss each.1

-- an exact test for each variant
pub record ExactTests (Fss : List (List Field)) : Type 0 where
  pub each : Each Bool Fss
  pub all : AllExact Fss each

abbrev pub no_variant : ExactTests []
no_variant = record { each = tt; all = tt }

abbrev pub variant : {Fs : List Field} {Fss : List (List Field)} {E : Values Fs → Values Fs → Bool} → IsExactTest E → ExactTests Fss
    → ExactTests (Fs ∷ Fss)
variant {E = E} first others = record { each = (E, others.each); all = (first, others.all) }

choice_same : (Fss : List (List Field)) (each : Each Bool Fss) → AllExact Fss each → IsExactTest (by false false Fss each)
choice_same [] each all c d = absurd c
choice_same (Fs ∷ Fss) each all (inl x) (inl y) = let here = all.0 x y in (λ e. ap inl (here.0 e), λ e. here.1 cc)
choice_same (Fs ∷ Fss) each all (inl x) (inr d) = (λ e. cc, λ e. cc)
choice_same (Fs ∷ Fss) each all (inr c) (inl y) = (λ e. cc, λ e. cc)
choice_same (Fs ∷ Fss) each all (inr c) (inr d) = let later = choice_same Fss each.1 all.1 c d in (λ e. ap inr (later.0 e), λ e. later.1 cc)

-- an enum each of whose variants is compared exactly
pub enum_same : (N : Enum) (tests : ExactTests N.parts)
    → IsExactTest {A = N.D} (λ x y. by false false N.parts tests.each (N.as_values x) (N.as_values y))
enum_same N tests x y =
    Decides-like _ (λ e. sym (N.eta x) ∙ ap N.make e ∙ N.eta y) (λ e. ap N.as_values e)
    (choice_same N.parts tests.each tests.all (N.as_values x) (N.as_values y))
