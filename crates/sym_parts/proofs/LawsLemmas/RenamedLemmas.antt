-- Other numbers for the existential variables keep what meets.
use Rattle.std.specs.Prelude.{◌≡◌, ◌↔◌, ℕ, ℤ, List}
use Rattle.std.proofs.Common.{refl, sym, ap, ◌∙◌}
use Rattle.shape_data.specs.declared.machine.Cell.{Cell}
use Rattle.shape_data.specs.declared.program.StructDef.{StructDef}
use Rattle.shape_data.specs.declared.symbolic.Exp.{Exp}
use Rattle.shape_data.specs.declared.symbolic.Exp.TheVariants.{Var, Const}
use Rattle.shape_data.specs.declared.symbolic.Post.{Post}
use Rattle.shape_data.specs.declared.symbolic.SymState.{SymState}
use Rattle.shape_data.specs.Meaning.{value, AgreesOnLogical, MeetsState, MeetsPost}
use Rattle.sym_parts.specs.Laws.Mapped.{on_post, on_state, renamed, IsRenaming, RenamedStateMeets, RenamedPostMeets}
use Rattle.sym_parts.proofs.LawsLemmas.MappedLemmas.{values-mapped, Holds-mapped}

module _ (number back : ℕ → ℕ) (is : IsRenaming number back) where
  -- the value of a renamed expression, where each number is read back
  reads-back : (t : ℕ → ℤ) (e : Exp) → value (λ y. t (back y)) (renamed number e) ≡ value t e
  reads-back t (Var x) = ap t (is.undone x)
  reads-back t (Const n) = refl

  reads-number : (u : ℕ → ℤ) (e : Exp) → value u (renamed number e) ≡ value (λ x. u (number x)) e
  reads-number u (Var x) = refl
  reads-number u (Const n) = refl

  back-agrees : (s t : ℕ → ℤ) → AgreesOnLogical s t → AgreesOnLogical s (λ y. t (back y))
  back-agrees s t agrees x low = ap t (ap back (sym (is.keeps x low)) ∙ is.undone x) ∙ agrees x low

  number-agrees : (s u : ℕ → ℤ) → AgreesOnLogical s u → AgreesOnLogical s (λ x. u (number x))
  number-agrees s u agrees x low = ap u (is.keeps x low) ∙ agrees x low

  pub state-renamed : (structs : List StructDef) (s : ℕ → ℤ) (locals : List ℤ) (heap : List Cell) (state : SymState) →
      MeetsState structs s locals heap state ↔ MeetsState structs s locals heap (on_state (renamed number) state)
  state-renamed structs s locals heap state = (
    λ m. let u : ℕ → ℤ = λ y. m.0 (back y) in (
      u,
      back-agrees s m.0 m.1,
      m.2 ∙ sym (values-mapped u m.0 (renamed number) (reads-back m.0) state.locals),
      (Holds-mapped u m.0 (renamed number) (reads-back m.0) structs heap state.heap).1 m.3,
    ),
    λ m. let t : ℕ → ℤ = λ x. m.0 (number x) in (
      t,
      number-agrees s m.0 m.1,
      m.2 ∙ values-mapped m.0 t (renamed number) (reads-number m.0) state.locals,
      (Holds-mapped m.0 t (renamed number) (reads-number m.0) structs heap state.heap).0 m.3,
    ),
  )

  pub post-renamed : (structs : List StructDef) (s : ℕ → ℤ) (ret : ℤ) (heap : List Cell) (post : Post) →
      MeetsPost structs s ret heap post ↔ MeetsPost structs s ret heap (on_post (renamed number) post)
  post-renamed structs s ret heap post = (
    λ m. let u : ℕ → ℤ = λ y. m.0 (back y) in (
      u,
      back-agrees s m.0 m.1,
      m.2 ∙ sym (reads-back m.0 post.ret),
      (Holds-mapped u m.0 (renamed number) (reads-back m.0) structs heap post.heap).1 m.3,
    ),
    λ m. let t : ℕ → ℤ = λ x. m.0 (number x) in (
      t,
      number-agrees s m.0 m.1,
      m.2 ∙ reads-number m.0 post.ret,
      (Holds-mapped m.0 t (renamed number) (reads-number m.0) structs heap post.heap).0 m.3,
    ),
  )

pub renamed_state_meets : RenamedStateMeets
renamed_state_meets number back is = state-renamed number back is

pub renamed_post_meets : RenamedPostMeets
renamed_post_meets number back is = post-renamed number back is
