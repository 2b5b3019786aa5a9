-- The fields of a cell, one after the other.
use Rattle.std.proofs.Common.{◌≡◌, ◌∙◌, ℕ, zero, suc, ◌≤◌, List, [], ◌∷◌, refl, ap, length, drop, arith}
use Rattle.shape_data.specs.declared.symbolic.Exp.{Exp}
use Rattle.sym_matching.specs.declared.matching.Matching.{Matching}
use Rattle.sym_matching.specs.Steps.{Rules}
use Rattle.sym_matching.specs.WantedCells.{take_fields}

drop_past : {A : Type 0} (place : ℕ) (xs : List A) → length xs ≤ place → drop place xs ≡ []
drop_past zero [] past = refl
drop_past zero (x ∷ xs) past = absurd (omega arith)
drop_past (suc place) [] past = refl
drop_past (suc place) (x ∷ xs) past = drop_past place xs (omega arith)

none_there : (rules : Rules) (number : ℕ) (wants : List Exp) (m : Matching) → take_fields rules number wants [] m ≡ m
none_there rules number [] m = refl
none_there rules number (want ∷ wants) m = refl

-- where no more fields are there, all is done
pub fields_end : (rules : Rules) (number place : ℕ) (wants haves : List Exp) (m : Matching) → length haves ≤ place
    → take_fields rules number wants (drop place haves) m ≡ m
fields_end rules number place wants haves m past =
    ap (λ list. take_fields rules number wants list m) (drop_past place haves past) ∙ none_there rules number wants m
