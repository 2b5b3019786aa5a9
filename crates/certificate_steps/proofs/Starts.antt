-- The variables of parameters, one after the other.
use Rattle.std.specs.Prelude.{◌≡◌, ℕ, zero, suc, ◌+◌, List, [], ◌∷◌, ◌++◌, length}
use Rattle.std.proofs.Common.{refl, sym, ap, ◌∙◌, arith, append_assoc}
use Rattle.std.proofs.lemmas.List.{append-nil, length_push}
use Rattle.shape_data.specs.declared.symbolic.Exp.{Exp}
use Rattle.shape_data.specs.declared.symbolic.Exp.TheVariants.{Var}
use Rattle.sound_laws.specs.Certificates.{variables_from}
use Rattle.certificate_steps.specs.InTask.{variables_below}

pub below-more : (count : ℕ) → variables_below (count + 1) ≡ variables_below count ++ Var count ∷ []
below-more count = let next : count + 1 ≡ suc count = omega arith in rw next refl

both : (k : ℕ) (params : List (List ℕ)) → variables_below k ++ variables_from k params ≡ variables_below (k + length params)
both k [] = let none : k + 0 ≡ k = omega arith in rw none (append-nil (variables_below k))
both k (param ∷ params) =
    let next : k + length (param ∷ params) ≡ k + 1 + length params = omega arith in
    sym (append_assoc (variables_below k) (Var k ∷ []) (variables_from (k + 1) params))
    ∙ ap (λ (front : List Exp). front ++ variables_from (k + 1) params) (sym (below-more k))
    ∙ both (k + 1) params
    ∙ ap variables_below (sym next)

pub below-all : (params : List (List ℕ)) → variables_below (length params) ≡ variables_from 0 params
below-all params = let none : 0 + length params ≡ length params = omega arith in sym (both 0 params ∙ ap variables_below none)

pub below-length : (count : ℕ) → length (variables_below count) ≡ count
below-length zero = refl
below-length (suc count) =
    let before : length (variables_below count) ≡ count = below-length count in
    let pushed : length (variables_below count ++ Var count ∷ []) ≡ length (variables_below count) + 1 =
    length_push (variables_below count) (Var count) in
    omega (arith, before, pushed)

pub ruleset starting = (below-more, below-all, below-length)
