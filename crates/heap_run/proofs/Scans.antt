-- Loops over the fields of a structure, and over the procedures of a program.
use Rattle.std.proofs.Common.{◌≡◌, ◌≢◌, ◌∙◌, ℕ, zero, suc, ℤ, Bool, true, false, List, [], ◌∷◌, length, drop, Some, IsSomeAnd, slice_get}
use Rattle.std.proofs.Common.{refl, ap}
use Rattle.std.specs.Str.{bytes_eq}
use Rattle.std.proofs.lemmas.Slice.Eq.{bytes_eq-Decides}
use Rattle.shape_data.specs.declared.program.Field.{Field}
use Rattle.shape_data.specs.declared.program.Proc.{Proc}
use Rattle.shape_data.specs.Machine.{are_of_fields, is_of_type, proc_named_from}

-- numbers that are not one for each field
pub counts_differ : (fields : List Field) (values : List ℤ) → length fields ≢ length values → are_of_fields fields values ≡ false
counts_differ [] [] apart = absurd (apart refl)
counts_differ [] (value ∷ values) apart = refl
counts_differ (field ∷ fields) [] apart = refl
counts_differ (field ∷ fields) (value ∷ values) apart =
    by_test (counts_differ fields values (λ e. apart (ap suc e))) (is_of_type field.ty value) refl
  where
    by_test : are_of_fields fields values ≡ false → (b : Bool) → is_of_type field.ty value ≡ b →
        are_of_fields (field ∷ fields) (value ∷ values) ≡ false
    by_test later true e = rw e later
    by_test later false e = rw e refl

-- from a place on, a list is what stands there and the rest
drop_at : {A : Type 0} (xs : List A) (place : ℕ) (x : A) → slice_get xs place ≡ Some x → drop place xs ≡ x ∷ drop (suc place) xs
drop_at [] place x is = cc
drop_at (first ∷ others) zero x is = let same : first ≡ x = cc in rw same refl
drop_at (first ∷ others) (suc place) x is = drop_at others place x is

-- the first procedure of the name stands at the number
pub number_found : (procs : List Proc) (name : List ℕ) (number : ℕ) (proc : Proc) → slice_get procs number ≡ Some proc →
    proc.flow.name ≡ name →
    proc_named_from 0 procs name ≡ proc_named_from number (drop number procs) name →
    IsSomeAnd (slice_get procs number) (λ proc. proc_named_from 0 procs name ≡ Some (number, proc))
number_found procs name number proc is is_name rest =
    let front : drop number procs ≡ proc ∷ drop (suc number) procs = drop_at procs number proc is in
    let passes : bytes_eq proc.flow.name name ≡ true = (bytes_eq-Decides proc.flow.name name).1 is_name in
    rw is (rest ∙ rw (front, passes) refl)
