-- What states and posts within the sizes have, and that well-formed ones are so.
use Rattle.std.specs.Prelude.{◌≡◌, ℕ, ◌+◌, ◌<◌, ◌≤◌, List, [], length}
use Rattle.std.proofs.Common.{refl, ap, arith}
use Rattle.std.proofs.lemmas.List.{length-map}
use Rattle.std.proofs.lemmas.List.Elements.{All-weaker}
use Rattle.shape_data.specs.declared.symbolic.SymState.{SymState}
use Rattle.shape_data.specs.WellFormed.{IsExp, widest}
use Rattle.sym_parts.specs.Laws.Mapped.{renamed}
use Rattle.sym_matching.specs.Answers.{names_of_all}
use Rattle.sym_matching.specs.Covers.{apart_from, existentials}
use Rattle.sym_matching.specs.NewVariables.{HasRoom, number_apart}
use Rattle.sym_matching.specs.Rooms.{IsSmall, IsWithinSizes, fields_of_all}
use Rattle.sym_matching.specs.Variables.{with_state}
use Rattle.sym_matching.proofs.RoomLaws.{few_fields, room_of_few}
use Rattle.sym_matching.proofs.SizeLaws.{small, well_formed_is_within_sizes}
use Rattle.sym_matching.proofs.RenamingLemmas.SizeLemmas.{few_state_variables, mapped_is_within_sizes, small_renamed, state_room}
use Rattle.matching.proofs.MatchSteps.{names_within}
use Rattle.subtraction.specs.Conditions.{IsStateWithinSizes, WellFormedPostIsWithinSizes, WellFormedStateIsWithinSizes}

-- the variables of a state are few
few-variables : (a : SymState) → IsStateWithinSizes a → length (with_state [] a) ≤ 131108768
few-variables a one =
    let low : length a.locals ≤ 32768 = one.few in
    let all : length (with_state [] a) ≤ 0 + length a.locals + 131076000 = few_state_variables [] a one.heap in
    omega arith

pub variables-few : (a : SymState) (names : List ℕ) → IsStateWithinSizes a → names ≡ with_state [] a → length names ≤ 1073741824
variables-few a names one is =
    let counted : length names ≡ length (with_state [] a) = ap (λ xs. length xs) is in
    let all : length (with_state [] a) ≤ 131108768 = few-variables a one in
    omega arith

-- the wanted state, renamed apart, is within the sizes, with as many locals
apart-within : (a b : SymState) → IsStateWithinSizes a → IsStateWithinSizes b → IsWithinSizes (apart_from a b).heap
apart-within a b one other =
    let room : length (with_state [] a) + length (existentials b) < 2147418112 =
    state_room (with_state [] a) (existentials b) b (variables-few a (with_state [] a) one refl) other.few other.heap refl in
    mapped_is_within_sizes (renamed (number_apart (with_state [] a) (existentials b))) b.heap
    (small_renamed (with_state [] a) (existentials b) room) other.heap

apart-slots : (a b : SymState) → length (apart_from a b).locals ≡ length b.locals
apart-slots a b = length-map b.locals (renamed (number_apart (with_state [] a) (existentials b)))

pub covering-room : (a b apart : SymState) → IsStateWithinSizes a → IsStateWithinSizes b → apart ≡ apart_from a b
    → HasRoom (fields_of_all apart.heap.spatial) (with_state (with_state [] a) apart)
covering-room a b apart one other is =
    let within : IsWithinSizes (apart_from a b).heap = apart-within a b one other in
    let slots : length (apart_from a b).locals ≡ length b.locals = apart-slots a b in
    let low : length b.locals ≤ 32768 = other.few in
    let fields : fields_of_all (apart_from a b).heap.spatial ≤ 131072000 = few_fields (apart_from a b).heap within in
    let first : length (with_state [] a) ≤ 131108768 = few-variables a one in
    let both : length (with_state (with_state [] a) (apart_from a b))
    ≤ length (with_state [] a) + length (apart_from a b).locals + 131076000 =
    few_state_variables (with_state [] a) (apart_from a b) within in
    rw is (room_of_few (fields_of_all (apart_from a b).heap.spatial) (with_state (with_state [] a) (apart_from a b)) (omega arith))

pub covering-few : (a b apart : SymState) → IsStateWithinSizes a → IsStateWithinSizes b → apart ≡ apart_from a b
    → length apart.heap.spatial + length apart.heap.pure < 4294967296
covering-few a b apart one other is =
    let parts : length (apart_from a b).heap.pure + length (apart_from a b).heap.spatial ≤ 4000 = (apart-within a b one other).parts in
    rw is (omega arith)

pub covering-names : (a b apart : SymState) → IsStateWithinSizes a → IsStateWithinSizes b → apart ≡ apart_from a b
    → names_of_all apart.heap.spatial < 4294967296
covering-names a b apart one other is =
    let names : names_of_all (apart_from a b).heap.spatial ≤ 131076000 = names_within (apart_from a b).heap (apart-within a b one other) in
    rw is (omega arith)

-- ---- well-formed states and posts

pub state_within : WellFormedStateIsWithinSizes
state_within structs params slots state are few is =
    let same : length state.locals ≡ slots = is.one_each in
    record {
      locals = All-weaker (IsExp widest params) IsSmall (small params) state.locals is.locals;
      few = omega arith;
      heap = well_formed_is_within_sizes structs params state.heap are is.heap;
    }

pub post_within : WellFormedPostIsWithinSizes
post_within structs params post are is =
    record { ret = small params post.ret is.ret; heap = well_formed_is_within_sizes structs params post.heap are is.heap }
