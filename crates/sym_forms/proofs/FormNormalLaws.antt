-- The canonical form of what is normal is normal; so are the parts of a pair's normal form.
use Rattle.std.specs.Prelude.{◌≡◌, ℕ, true, not, ◌&&◌, List, []}
use Rattle.std.specs.List.{list_all}
use Rattle.std.proofs.Common.{sym, ap, subst, ◌∙◌}
use Rattle.std.proofs.lemmas.Bool.{and_parts}
use Rattle.shape_data.specs.declared.symbolic.SymState.{SymState}
use Rattle.sym_parts.specs.Laws.Mapped.{on_state, renamed, IsRenaming}
use Rattle.sym_pure.specs.IsNormal.{are_in_order, are_normal_atoms, are_normal_facts, has_redundant, is_normal, is_normal_heap, is_read}
use Rattle.sym_pure.specs.IsNormal.{is_read_fact}
use Rattle.sym_pure.specs.Contradictions.{has_clash}
use Rattle.sym_parts.specs.Laws.Addresses.{addresses}
use Rattle.sym_canon.specs.declared.parts.Variables.TheVariants.{Existential}
use Rattle.sym_canon.specs.Canonical.{arranged, as_state, sight_state, with_atoms_placed, with_existentials_numbered}
use Rattle.sym_canon.proofs.FrontLaws.{from_front, to_front}
use Rattle.sym_canon.proofs.NumberLaws.{front-renaming, state-numbered}
use Rattle.sym_canon.proofs.SightLaws.{AreSeen, none-seen, state-known, state-seen}
use Rattle.sym_forms.specs.Laws.{CanonPostIsNormal, CanonStateIsNormal}
use Rattle.sym_forms.proofs.PlacedLaws.{heap-same, placed-counts}
use Rattle.sym_forms.proofs.RenamedLaws.{order-low, renamed-normal}
use Rattle.sym_forms.proofs.SortedLaws.{sorted-normal}

-- the facts of a normal state are in order
pub normal-order : (state : SymState) → is_normal state ≡ true → are_in_order 0 state.heap.pure ≡ true
normal-order state h =
    let parts = and_parts (is_normal_heap state.heap) (list_all (is_read state.heap.pure) state.locals) h in
    let heap =
    and_parts (are_normal_facts state.heap && are_normal_atoms state.heap) (not (has_clash state.heap.pure state.heap.spatial)) parts.0 in
    let both = and_parts (are_normal_facts state.heap) (are_normal_atoms state.heap) heap.0 in
    let three =
    and_parts (are_in_order 0 state.heap.pure && list_all (is_read_fact state.heap.pure) state.heap.pure)
    (not (has_redundant (addresses state.heap.spatial) state.heap.pure)) both.0 in
    (and_parts (are_in_order 0 state.heap.pure) (list_all (is_read_fact state.heap.pure) state.heap.pure) three.0).0

placed-normal : (params : ℕ) (state : SymState) → is_normal state ≡ true → is_normal (with_atoms_placed params state) ≡ true
placed-normal params state h =
    ap (λ b. b && list_all (is_read state.heap.pure) state.locals)
    (heap-same state.heap (with_atoms_placed params state).heap.spatial (placed-counts params state.locals state.heap.spatial)) ∙ h

numbered-normal : (state : SymState) → is_normal state ≡ true → is_normal (with_existentials_numbered state) ≡ true
numbered-normal state h =
    let seen : List ℕ = sight_state Existential state [] in
    let are : AreSeen Existential seen = state-seen Existential state [] (none-seen Existential) in
    let same : with_existentials_numbered state ≡ on_state (renamed (to_front 65536 seen)) state =
    state-numbered Existential seen are state (state-known Existential state []) in
    let renaming : IsRenaming (to_front 65536 seen) (from_front 65536 seen) = front-renaming seen are in
    let P : SymState → Type 0 = λ made. is_normal made ≡ true in
    subst P (sym same)
    (renamed-normal (to_front 65536 seen) (from_front 65536 seen) renaming.undone 65536 renaming.keeps state
    (order-low state.heap.pure 0 (normal-order state h)) h)

pub arranged-normal : (params : ℕ) (state : SymState) → is_normal state ≡ true → is_normal (arranged params state) ≡ true
arranged-normal params state h = numbered-normal (with_atoms_placed params state) (placed-normal params state h)

pub canon_state_is_normal : CanonStateIsNormal
canon_state_is_normal state params h = sorted-normal (arranged params state) (arranged-normal params state h)

pub canon_post_is_normal : CanonPostIsNormal
canon_post_is_normal post params h = canon_state_is_normal (as_state post) params h
