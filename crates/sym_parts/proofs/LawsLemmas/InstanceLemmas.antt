-- A state is weaker than each of its instances.
use Rattle.std.specs.Prelude.{◌≡◌, ℕ, ◌≤◌, ◌==◌, ℤ, Bool, true, false, if◌then◌else◌}
use Rattle.std.proofs.Common.{refl, sym, ap, subst, ◌∙◌, arith}
use Rattle.std.proofs.lemmas.Bool.{eqb-true}
use Rattle.shape_data.specs.declared.symbolic.Exp.{Exp}
use Rattle.shape_data.specs.declared.symbolic.Exp.TheVariants.{Var, Const}
use Rattle.shape_data.specs.declared.symbolic.Post.{Post}
use Rattle.shape_data.specs.declared.symbolic.SymState.{SymState}
use Rattle.shape_data.specs.Meaning.{value, AgreesOnLogical, MeetsPost, MeetsState}
use Rattle.sym_parts.specs.Laws.Instances.{
  in_place_of,
  with_images,
  ForgottenPostMeets,
  ForgottenStateMeets,
  InstanceMeets,
  InstancePostMeets,
}
use Rattle.sym_parts.specs.Laws.Instances.{InstanceStateMeets, KeepsLogical}
use Rattle.sym_parts.proofs.LawsLemmas.MappedLemmas.{Holds-mapped, values-mapped}

-- each variable has the value of what stands in its place
abbrev values_of : (ℕ → Exp) → (ℕ → ℤ) → ℕ → ℤ
values_of image t x = value t (image x)

reads_image : (image : ℕ → Exp) (t : ℕ → ℤ) (e : Exp) → value t (with_images image e) ≡ value (values_of image t) e
reads_image image t (Var x) = refl
reads_image image t (Const n) = refl

keeps_logical : (image : ℕ → Exp) → KeepsLogical image → (s t : ℕ → ℤ) → AgreesOnLogical s t → AgreesOnLogical s (values_of image t)
keeps_logical image keeps s t agrees x low = ap (value t) (keeps x low) ∙ agrees x low

pub instance_meets : InstanceMeets
instance_meets image keeps structs s heap shape meets = (
  values_of image meets.0,
  keeps_logical image keeps s meets.0 meets.1,
  (Holds-mapped meets.0 (values_of image meets.0) (with_images image) (reads_image image meets.0) structs heap shape).0 meets.2,
)

pub instance_state_meets : InstanceStateMeets
instance_state_meets image keeps structs s locals heap state meets = (
  values_of image meets.0,
  keeps_logical image keeps s meets.0 meets.1,
  meets.2 ∙ values-mapped meets.0 (values_of image meets.0) (with_images image) (reads_image image meets.0) state.locals,
  (Holds-mapped meets.0 (values_of image meets.0) (with_images image) (reads_image image meets.0) structs heap state.heap).0 meets.3,
)

pub instance_post_meets : InstancePostMeets
instance_post_meets image keeps structs s ret heap post meets = (
  values_of image meets.0,
  keeps_logical image keeps s meets.0 meets.1,
  meets.2 ∙ reads_image image meets.0 post.ret,
  (Holds-mapped meets.0 (values_of image meets.0) (with_images image) (reads_image image meets.0) structs heap post.heap).0 meets.3,
)

-- an existential variable is no logical one
one_keeps : (x : ℕ) (e : Exp) → 65536 ≤ x → KeepsLogical (in_place_of x e)
one_keeps x e high y low = by_test (y == x) refl
  where
    by_test : (b : Bool) → (y == x) ≡ b → (if b then e else Var y) ≡ Var y
    by_test true f = let same : y ≡ x = eqb-true y x f in absurd (omega arith)
    by_test false f = refl

pub forgotten_state_meets : ForgottenStateMeets
forgotten_state_meets x e high first forgetting is structs s locals heap meets =
    instance_state_meets (in_place_of x e) (one_keeps x e high) structs s locals heap forgetting
    (subst (λ (state : SymState). MeetsState structs s locals heap state) (sym is) meets)

pub forgotten_post_meets : ForgottenPostMeets
forgotten_post_meets x e high first forgetting is structs s ret heap meets =
    instance_post_meets (in_place_of x e) (one_keeps x e high) structs s ret heap forgetting
    (subst (λ (post : Post). MeetsPost structs s ret heap post) (sym is) meets)
