-- The callee that is found under a name.
use Rattle.std.specs.Prelude.{◌≡◌, ℕ, Bool, true, false, List, [], ◌∷◌, length, All}
use Rattle.std.specs.List.{find}
use Rattle.std.specs.Option.{option_or}
use Rattle.std.specs.Str.{bytes_eq}
use Rattle.std.specs.declared.option.Option.{Option}
use Rattle.std.specs.declared.option.Option.TheVariants.{None, Some}
use Rattle.std.proofs.Common.{refl, subst, ◌∙◌}
use Rattle.std.proofs.lemmas.List.Elements.{All-head, All-tail}
use Rattle.std.proofs.lemmas.Slice.Eq.{bytes_eq-Decides}
use Rattle.shape_data.specs.declared.answer.Callee.{Callee}
use Rattle.shape_data.specs.declared.program.Cmd.TheVariants as cmd
use Rattle.shape_data.specs.declared.program.Operand.{Operand}
use Rattle.shape_data.specs.declared.program.StructDef.{StructDef}
use Rattle.shape_data.specs.WellFormed.{IsCallee, widest}
use Rattle.sym_matching.proofs.KeptLaws.{All-left, All-right}
use Rattle.exec_laws.specs.declared.parts.Table.{Table}
use Rattle.exec_laws.specs.Calling.{callee_named, callee_of}
use Rattle.exec_laws.specs.Laws.{FitsTable, IsTable}

-- what is found passes the test, and has what all of the list have
pub found_passes : {A : Type 0} (P : A → Type 0) (test : A → Bool) (xs : List A) (x : A) → find test xs ≡ Some x → All P xs →
    P x × (test x ≡ true)
found_passes P test [] x is each = cc
found_passes P test (y ∷ ys) x is each = by_test (test y) refl (found_passes P test ys x)
  where
    by_test : (b : Bool) → test y ≡ b → (find test ys ≡ Some x → All P ys → P x × (test x ≡ true)) → P x × (test x ≡ true)
    by_test true e later = let here : Some y ≡ Some x = rw e at is in let same : y
        ≡ x = cc in subst (λ z. P z × (test z ≡ true)) same (All-head P y ys each, e)
    by_test false e later = later (rw e at is) (All-tail P y ys each)

-- a callee that is found under a name
from_named : (structs : List StructDef) (name : List ℕ) (count : ℕ) (callees : List Callee) (callee : Callee) →
    callee_named callees name ≡ Some callee → All (IsCallee widest structs) callees →
    All (λ (one : Callee). one.name ≡ name → length one.params ≡ count) callees →
    IsCallee widest structs callee × (length callee.params ≡ count)
from_named structs name count callees callee is good fits =
    let one : IsCallee widest structs callee × (bytes_eq callee.name name ≡ true) =
    found_passes (IsCallee widest structs) (λ (one : Callee). bytes_eq one.name name) callees callee is good in
    let other : (callee.name ≡ name → length callee.params ≡ count) × (bytes_eq callee.name name ≡ true) =
    found_passes (λ (one : Callee). one.name ≡ name → length one.params ≡ count)
    (λ (one : Callee). bytes_eq one.name name) callees callee is fits in
    (one.0, other.0 ((bytes_eq-Decides callee.name name).0 one.1))

-- the callee of a call is well formed, and has a parameter for each argument
pub callee_fits : (structs : List StructDef) (table : Table) (name : List ℕ) (args : List Operand) (next : ℕ) (to : Option ℕ)
    (callee : Callee) → callee_of table name ≡ Some callee → IsTable structs table →
    FitsTable table (cmd.Call to name args next) → IsCallee widest structs callee × (length callee.params ≡ length args)
callee_fits structs table name args next to callee is good fits =
    by_own (callee_named table.own name) refl is
    (All-left (IsCallee widest structs) table.own table.outer good) (All-right (IsCallee widest structs) table.own table.outer good)
    (All-left (λ (one : Callee). one.name ≡ name → length one.params ≡ length args) table.own table.outer fits)
    (All-right (λ (one : Callee). one.name ≡ name → length one.params ≡ length args) table.own table.outer fits)
  where
    by_own : (own : Option Callee) → callee_named table.own name ≡ own → option_or own (callee_named table.outer name) ≡ Some callee →
        All (IsCallee widest structs) table.own → All (IsCallee widest structs) table.outer →
        All (λ (one : Callee). one.name ≡ name → length one.params ≡ length args) table.own →
        All (λ (one : Callee). one.name ≡ name → length one.params ≡ length args) table.outer →
        IsCallee widest structs callee × (length callee.params ≡ length args)
    by_own None own_is found own outer own_fits outer_fits = from_named structs name (length args) table.outer callee found outer outer_fits
    by_own (Some one) own_is found own outer own_fits outer_fits =
        from_named structs name (length args) table.own callee (own_is ∙ found) own own_fits
