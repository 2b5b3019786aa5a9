-- Tests of expressions.
use Rattle.std.specs.Prelude.{◌≡◌, Bool, true, false, Decides, ◌&&◌, ◌||◌, List, [], ◌∷◌}
use Rattle.std.proofs.Common.{refl, sym, ap, ◌∙◌, ⊎_elim}
use Rattle.std.proofs.lemmas.Bool.{or_cases, or_left, or_right, and_from}
use Rattle.std.proofs.lemmas.Bool.Decides.{Decides-int_eq, Decides-eqb}
use Rattle.shape_data.specs.declared.symbolic.Exp.{Exp}
use Rattle.shape_data.specs.declared.symbolic.Exp.TheVariants.{Var, Const}
use Rattle.sym_parts.specs.Laws.Expressions.{same_exp, is_among, are_two}

pub same_exp-Decides : (e f : Exp) → Decides (same_exp e f) (e ≡ f)
same_exp-Decides (Var x) (Var y) = (λ h. ap (λ z. Var z) ((Decides-eqb x y).0 h), λ h. (Decides-eqb x y).1 cc)
same_exp-Decides (Var x) (Const n) = (λ h. cc, λ h. cc)
same_exp-Decides (Const m) (Var y) = (λ h. cc, λ h. cc)
same_exp-Decides (Const m) (Const n) = (λ h. ap (λ z. Const z) ((Decides-int_eq m n).0 h), λ h. (Decides-int_eq m n).1 cc)

pub same_exp-equal : (e f : Exp) → same_exp e f ≡ true → e ≡ f
same_exp-equal e f h = (same_exp-Decides e f).0 h

pub same_exp-itself : (e : Exp) → same_exp e e ≡ true
same_exp-itself e = (same_exp-Decides e e).1 refl

pub same_exp-sym : (e f : Exp) → same_exp e f ≡ same_exp f e
same_exp-sym e f = by_test (same_exp e f) refl (same_exp f e) refl
  where
    by_test : (b : Bool) → same_exp e f ≡ b → (d : Bool) → same_exp f e ≡ d → same_exp e f ≡ same_exp f e
    by_test true g true h = cc
    by_test true g false h = let k : same_exp f e ≡ true = (same_exp-Decides f e).1 (sym (same_exp-equal e f g)) in cc
    by_test false g true h = let k : same_exp e f ≡ true = (same_exp-Decides e f).1 (sym (same_exp-equal f e h)) in cc
    by_test false g false h = cc

-- two different expressions of a list stand at two places
pub are_two-different : (e f : Exp) (es : List Exp) → same_exp e f ≡ false → is_among e es ≡ true → is_among f es ≡ true
    → are_two e f es ≡ true
are_two-different e f [] apart e_in f_in = cc
are_two-different e f (g ∷ gs) apart e_in f_in =
    ⊎_elim (λ e_here. ⊎_elim (λ f_here. absurd (both_here e_here f_here))
    (λ f_later. or_left (same_exp e g && is_among f gs) _ (and_from (same_exp e g) (is_among f gs) e_here f_later))
    (or_cases (same_exp f g) (is_among f gs) f_in))
    (λ e_later. or_right (same_exp e g && is_among f gs) ((same_exp f g && is_among e gs) || are_two e f gs)
    (⊎_elim (λ f_here. or_left (same_exp f g && is_among e gs) (are_two e f gs) (and_from (same_exp f g) (is_among e gs) f_here e_later))
    (λ f_later. or_right (same_exp f g && is_among e gs) (are_two e f gs) (are_two-different e f gs apart e_later f_later))
    (or_cases (same_exp f g) (is_among f gs) f_in)))
    (or_cases (same_exp e g) (is_among e gs) e_in)
  where
    both_here : same_exp e g ≡ true → same_exp f g ≡ true → ⊥
    both_here h k = let same : same_exp e f ≡ true = (same_exp-Decides e f).1 (same_exp-equal e g h ∙ sym (same_exp-equal f g k)) in cc
