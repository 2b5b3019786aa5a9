-- The canonical form keeps the meaning.
use Rattle.std.specs.Prelude.{◌≡◌, ◌↔◌, ℕ, ℤ, List, [], ◌∷◌, map}
use Rattle.std.proofs.Common.{refl, sym, ap, subst, ◌∙◌}
use Rattle.shape_data.specs.declared.machine.Cell.{Cell}
use Rattle.shape_data.specs.declared.program.StructDef.{StructDef}
use Rattle.shape_data.specs.declared.symbolic.Post.{Post}
use Rattle.shape_data.specs.declared.symbolic.SymState.{SymState}
use Rattle.shape_data.specs.Meaning.{value, AreTrueFacts, MeetsState, MeetsPost}
use Rattle.sym_parts.specs.Laws.Mapped.{on_state, renamed}
use Rattle.sym_parts.specs.Laws.Orders.{SayTheSame}
use Rattle.sym_parts.proofs.LawsLemmas.OrderLemmas.{same-refl, same-sym}
use Rattle.sym_parts.proofs.LawsLemmas.RenamedLemmas.{state-renamed}
use Rattle.sym_canon.specs.declared.parts.Variables.TheVariants.{Existential}
use Rattle.sym_canon.specs.Canonical.{sight_state, with_atoms_placed, with_existentials_numbered, arranged, state_with_facts_sorted}
use Rattle.sym_canon.specs.Canonical.{as_state, canon_post}
use Rattle.sym_canon.specs.Laws.{CanonStateKeepsMeaning, CanonPostKeepsMeaning}
use Rattle.sym_canon.proofs.FactLaws.{sorted-true}
use Rattle.sym_canon.proofs.FrontLaws.{to_front, from_front}
use Rattle.sym_canon.proofs.NumberLaws.{front-renaming, state-numbered}
use Rattle.sym_canon.proofs.PlacingLaws.{placed-same}
use Rattle.sym_canon.proofs.SightLaws.{AreSeen, none-seen, state-seen, state-known}

-- two ways of meeting, one after the other
pub both-trans : {A B C : Type 0} → A ↔ B → B ↔ C → A ↔ C
both-trans e f = (λ h. f.0 (e.0 h), λ h. e.1 (f.1 h))

module _ (structs : List StructDef) (s : ℕ → ℤ) (locals : List ℤ) (heap : List Cell) where
  -- facts and atoms that say the same
  meets-alike : (state other : SymState) → other.locals ≡ state.locals →
      ((t : ℕ → ℤ) → AreTrueFacts t state.heap.pure → AreTrueFacts t other.heap.pure) → SayTheSame state.heap.spatial other.heap.spatial →
      MeetsState structs s locals heap state → MeetsState structs s locals heap other
  meets-alike state other same facts atoms m = (
    m.0,
    m.1,
    m.2
        ∙ ap (map (value m.0)) (sym same),
    record { facts = facts m.0 m.3.facts; atoms = (atoms structs m.0 heap).0 m.3.atoms },
  )

  pub placed-meets : (params : ℕ) (state : SymState) → MeetsState structs s locals heap state
      ↔ MeetsState structs s locals heap (with_atoms_placed params state)
  placed-meets params state = (
    meets-alike state (with_atoms_placed params state) refl (λ t h. h) (placed-same params state.locals state.heap.spatial),
    meets-alike (with_atoms_placed params state) state refl (λ t h. h)
        (same-sym state.heap.spatial (with_atoms_placed params state).heap.spatial (placed-same params state.locals state.heap.spatial)),
  )

  pub numbered-meets : (state : SymState) → MeetsState structs s locals heap state
      ↔ MeetsState structs s locals heap (with_existentials_numbered state)
  numbered-meets state =
      let seen : List ℕ = sight_state Existential state [] in
      let are : AreSeen Existential seen = state-seen Existential state [] (none-seen Existential) in
      let same : with_existentials_numbered state ≡ on_state (renamed (to_front 65536 seen)) state =
      state-numbered Existential seen are state (state-known Existential state []) in
      let P : SymState → Type 0 = λ made. MeetsState structs s locals heap state ↔ MeetsState structs s locals heap made in
      subst P (sym same) (state-renamed (to_front 65536 seen) (from_front 65536 seen) (front-renaming seen are) structs s locals heap state)

  pub arranged-meets : (params : ℕ) (state : SymState) → MeetsState structs s locals heap state
      ↔ MeetsState structs s locals heap (arranged params state)
  arranged-meets params state = both-trans (placed-meets params state) (numbered-meets (with_atoms_placed params state))

  pub sorted-meets : (state : SymState) → MeetsState structs s locals heap state
      ↔ MeetsState structs s locals heap (state_with_facts_sorted state)
  sorted-meets state = (
    meets-alike state (state_with_facts_sorted state) refl (λ t h. (sorted-true t state.heap.pure).0 h) (same-refl state.heap.spatial),
    meets-alike (state_with_facts_sorted state) state refl (λ t h. (sorted-true t state.heap.pure).1 h) (same-refl state.heap.spatial),
  )

pub canon_state_keeps_meaning : CanonStateKeepsMeaning
canon_state_keeps_meaning state params structs s locals heap =
    both-trans (arranged-meets structs s locals heap params state) (sorted-meets structs s locals heap (arranged params state))

-- a post is a state with one local
module _ (structs : List StructDef) (s : ℕ → ℤ) (ret : ℤ) (heap : List Cell) (post : Post) where
  as_state-meets : MeetsPost structs s ret heap post → MeetsState structs s (ret ∷ []) heap (as_state post)
  as_state-meets m = (m.0, m.1, ap (λ v. v ∷ []) m.2, m.3)

  post-meets : MeetsState structs s (ret ∷ []) heap (as_state post) → MeetsPost structs s ret heap post
  post-meets m = (m.0, m.1, cc, m.3)

pub canon_post_keeps_meaning : CanonPostKeepsMeaning
canon_post_keeps_meaning post params structs s ret heap =
    let state : MeetsState structs s (ret ∷ []) heap (as_state post)
    ↔ MeetsState structs s (ret ∷ []) heap (as_state (canon_post post params)) =
    canon_state_keeps_meaning (as_state post) params structs s (ret ∷ []) heap in (
      λ m. post-meets structs s ret heap (canon_post post params) (state.0 (as_state-meets structs s ret heap post m)),
      λ m. post-meets structs s ret heap post (state.1 (as_state-meets structs s ret heap (canon_post post params) m)),
    )
