-- What a name finds.
use Rattle.std.specs.Prelude.{◌≡◌, ◌≢◌, ℕ, zero, suc, ◌+◌, ◌<◌, Bool, true, false, List, [], ◌∷◌, length, slice_get, slice_index_or}
use Rattle.std.specs.Prelude.{if◌then◌else◌, All}
use Rattle.std.specs.Str.{bytes_eq}
use Rattle.std.specs.declared.option.Option.TheVariants.{Some}
use Rattle.std.proofs.Common.{refl, sym, ap, ◌∙◌, arith}
use Rattle.std.proofs.lemmas.List.Elements.{All-cons, All-nil}
use Rattle.std.proofs.lemmas.Option.{slice_get_within, get_or_from_slice_get}
use Rattle.std.proofs.lemmas.Slice.Eq.{bytes_eq-Decides}
use Rattle.shape_data.specs.declared.program.Proc.{Proc}
use Rattle.shape_data.specs.declared.program.Program.{Program}
use Rattle.shape_data.specs.Machine.{proc_named_from}
use Rattle.shape_data.specs.Names.{HaveDifferentNames}
use Rattle.sym_parts.proofs.ShapesLemmas.StepsStacks.{proc_found}
use Rattle.sound_laws.specs.Procedures.{Finds, FoundByName, HasFlow, HasOwnFlows}

-- what is found stands at its number
pub found_stands : (program : Program) (name : List ℕ) (number : ℕ) (proc : Proc) → Finds program name number proc →
    slice_get program.procs number ≡ Some proc
found_stands program name number proc found =
    let told = proc_found 0 program.procs name (number, proc) found in
    let place : number ≡ told.0 = told.1 ∙ omega arith in
    rw place told.2

-- a name finds one procedure
pub found_once : (program : Program) (name : List ℕ) (number other : ℕ) (proc again : Proc) → Finds program name number proc →
    Finds program name other again →
    (number ≡ other) × (proc ≡ again)
found_once program name number other proc again found refound = same_found (number, proc) (other, again) (sym found ∙ refound)
  where
    same_found : (one two : ℕ × Proc) → Some one ≡ Some two → (one.0 ≡ two.0) × (one.1 ≡ two.1)
    same_found one two both =
        let same : one ≡ two = cc in
        (ap (λ (found : ℕ × Proc). found.0) same, ap (λ (found : ℕ × Proc). found.1) same)

-- the same of another name that is equal
pub found_as : (program : Program) (name other : List ℕ) (number : ℕ) (proc : Proc) → name ≡ other → Finds program name number proc →
    Finds program other number proc
found_as program name other number proc same found = ap (λ called. proc_named_from 0 program.procs called) (sym same) ∙ found

found_from : (k : ℕ) (procs : List Proc) (number : ℕ) (proc : Proc) → HaveDifferentNames (λ (one : Proc). one.flow.name) procs →
    slice_get procs number ≡ Some proc → proc_named_from k procs proc.flow.name ≡ Some (k + number, proc)
found_from k [] number proc different is = cc
found_from k (first ∷ procs) zero proc different is =
    let same : first ≡ proc = cc in
    let none : k + 0 ≡ k = omega arith in
    let here : bytes_eq first.flow.name proc.flow.name ≡ true =
    (bytes_eq-Decides first.flow.name proc.flow.name).1 (ap (λ (one : Proc). one.flow.name) same) in
    rw (here, none, same) refl
found_from k (first ∷ procs) (suc number) proc different is =
    let inside : number < length procs = slice_get_within procs number proc is in
    let later : proc_named_from (k + 1) procs proc.flow.name ≡ Some (k + 1 + number, proc) =
    found_from (k + 1) procs number proc (λ i j d below within. different (suc i) (suc j) d (omega arith) (omega arith)) is in
    let there : slice_index_or procs number proc ≡ proc = get_or_from_slice_get procs number proc proc is in
    let differs : first.flow.name ≢ proc.flow.name =
    λ same. different 0 (suc number) proc (omega arith) (omega arith) (same ∙ ap (λ (one : Proc). one.flow.name) (sym there)) in
    let moved : k + 1 + number ≡ k + suc number = omega arith in
    by_test (bytes_eq first.flow.name proc.flow.name) refl differs (later ∙ ap (λ n. Some (n, proc)) moved)
  where
    by_test : (b : Bool) → bytes_eq first.flow.name proc.flow.name ≡ b → first.flow.name ≢ proc.flow.name →
        proc_named_from (k + 1) procs proc.flow.name ≡ Some (k + suc number, proc) →
        (if b then Some (k, first) else proc_named_from (k + 1) procs proc.flow.name) ≡ Some (k + suc number, proc)
    by_test true e differs later = absurd (differs ((bytes_eq-Decides first.flow.name proc.flow.name).0 e))
    by_test false e differs later = later

-- what holds of each thing at its place holds of all
pub each_place : {A : Type 0} (P : A → Type 0) (things : List A) →
    ((place : ℕ) (thing : A) → slice_get things place ≡ Some thing → P thing) → All P things
each_place P [] each = All-nil P
each_place P (thing ∷ things) each =
    All-cons P thing things (each 0 thing refl) (each_place P things (λ place one is. each (suc place) one is))

pub procedure_is_found : FoundByName
procedure_is_found program number proc different is =
    let none : 0 + number ≡ number = omega arith in
    found_from 0 program.procs number proc different is ∙ ap (λ n. Some (n, proc)) none

pub has_own_flows : HasOwnFlows
has_own_flows program different =
    each_place (λ (proc : Proc). HasFlow program proc.flow) program.procs
    (λ number proc is. record { number = number; proc = proc; found = procedure_is_found program number proc different is; same = refl })
