-- What abstraction answers is normal, and no larger than what was given.
use Rattle.std.specs.Prelude.{◌≡◌, ℕ, zero, suc, ◌+◌, ◌<◌, ◌≤◌, Bool, true, false, not, List, [], ◌∷◌, ◌++◌, filter, length, map}
use Rattle.std.specs.Prelude.{option_map}
use Rattle.std.specs.List.{list_all}
use Rattle.std.specs.declared.option.Option.{Option}
use Rattle.std.specs.declared.option.Option.TheVariants.{None, Some}
use Rattle.std.proofs.Common.{refl, sym, ap, subst, ◌∙◌, arith, length-append}
use Rattle.std.proofs.lemmas.List.{length-map}
use Rattle.shape_data.specs.declared.program.Flow.{Flow}
use Rattle.shape_data.specs.declared.program.HeadMark.{HeadMark}
use Rattle.shape_data.specs.declared.program.StructDef.{StructDef}
use Rattle.shape_data.specs.declared.symbolic.Atom.{Atom}
use Rattle.shape_data.specs.declared.symbolic.Atom.TheVariants.{Junk}
use Rattle.shape_data.specs.declared.symbolic.Exp.{Exp}
use Rattle.shape_data.specs.declared.symbolic.Post.{Post}
use Rattle.shape_data.specs.declared.symbolic.SymHeap.{SymHeap}
use Rattle.shape_data.specs.declared.symbolic.SymState.{SymState}
use Rattle.sym_pure.specs.declared.parts.Normal.{Normal}
use Rattle.sym_pure.specs.declared.parts.Normal.TheVariants.{Is, Contradiction}
use Rattle.sym_pure.specs.IsNormal.{is_normal}
use Rattle.sym_pure.specs.Laws.{HasNoMoreParts}
use Rattle.sym_pure.specs.Normal.{normal}
use Rattle.sym_pure.proofs.FormLaws.{form_is_normal}
use Rattle.sym_pure.proofs.PartsLaws.{filter-fewer, form_has_no_more_parts}
use Rattle.sym_canon.specs.declared.parts.Pair.{Pair}
use Rattle.sym_canon.specs.declared.parts.Variables.TheVariants.{Existential}
use Rattle.sym_canon.specs.Canonical.{as_state, canon_post, canon_state, sight_state, with_atoms_placed, without_locals}
use Rattle.sym_canon.specs.FactOrder.{sorted_facts}
use Rattle.sym_canon.specs.Numbering.{with_number}
use Rattle.sym_parts.specs.Laws.Mapped.{on_atom, on_fact}
use Rattle.sym_forms.specs.Forms.{of_form}
use Rattle.sym_forms.specs.PairForms.{pair_form}
use Rattle.sym_forms.proofs.FormNormalLaws.{canon_state_is_normal}
use Rattle.sym_forms.proofs.PairFormLaws.{canon_pair_keeps_missing_normal}
use Rattle.sym_forms.proofs.WellFormedLaws.{placed-length, sorted-length}
use Rattle.sym_forms.specs.Sizes.{fields_of}
use Rattle.abstraction_laws.specs.Forgetting.{first_new, forget, forget_atoms, forget_slots}
use Rattle.abstraction_laws.specs.Heads.{at_exit, at_head, forget_if_recursive, post_of, reduced, result_of}
use Rattle.abstraction_laws.specs.Joining.{Join, find_join, with_join}
use Rattle.abstraction_laws.specs.Losing.{is_disequality_of, is_lost_among}
use Rattle.abstraction_laws.specs.Occurrences.{exps_of_atoms}
use Rattle.abstraction_laws.specs.Pairs.{beside_nothing, canon_of, five_steps, join_pair, pair_in_forms}
use Rattle.abstraction_laws.specs.Reaching.{is_kept, keep_reached, keep_seen, seen_from}
use Rattle.abstraction_laws.specs.Repeating.{is_inner, join_inner, reduce, reduce_once, reduce_times, size_of}
use Rattle.abstraction_laws.specs.Results.{AbstractExitHasNoMoreParts, AbstractExitIsNormal, AbstractHeadHasNoMoreParts}
use Rattle.abstraction_laws.specs.Results.{AbstractHeadIsNormal, AbstractPairIsNormal, AbstractPreIsNormal}
use Rattle.abstraction_laws.proofs.DoneLaws.{join-shorter}
use Rattle.abstraction_laws.proofs.JoinLaws.{found-is}

-- ---- what an answer is made of

-- a form, and what was made of it
pub record IsMade {A : Type 0} (make : SymState → A) (state : SymState) (answer : A) : Type 0 where
  pub form : SymState
  pub form_is : normal state ≡ Is form
  pub made : make form ≡ answer

pub made-of : {A : Type 0} (make : SymState → A) (state : SymState) (answer : A) → of_form make (normal state) ≡ Some answer
    → IsMade make state answer
made-of {A} make state answer h = by_form (normal state) refl h
  where
    by_form : (n : Normal) → normal state ≡ n → of_form make n ≡ Some answer → IsMade make state answer
    by_form (Is form) e k = record { form = form; form_is = e; made = cc }
    by_form Contradiction e k = cc

pub abstract_head_is_normal : AbstractHeadIsNormal
abstract_head_is_normal state answer flow mark kinds h =
    let is : IsMade (λ form. canon_state form (length flow.params)) (at_head kinds mark state) answer =
    made-of (λ form. canon_state form (length flow.params)) (at_head kinds mark state) answer h in
    subst (λ made. is_normal made ≡ true) is.made
    (canon_state_is_normal is.form (length flow.params) (form_is_normal (at_head kinds mark state) is.form is.form_is))

-- a state with one local is a post
pub one-local : (other : Exp) (state : SymState) → length state.locals ≡ 1 → as_state (post_of other state) ≡ state
one-local other state one = by_locals state.locals refl one
  where
    by_locals : (locals : List Exp) → state.locals ≡ locals → length locals ≡ 1 → as_state (post_of other state) ≡ state
    by_locals [] e k = cc
    by_locals (e ∷ []) same k = ap (λ locals. record { locals = result_of other locals ∷ []; heap = state.heap }) same
        ∙ ap (λ locals. record { locals = locals; heap = state.heap }) (sym same)
    by_locals (e ∷ f ∷ es) same k = absurd (omega (arith, k))

pub exit-locals : (recursive : Bool) (kinds : List StructDef) (flow : Flow) (post : Post) (form : SymState)
    → normal (at_exit recursive kinds flow post) ≡ Is form → length form.locals ≡ 1
exit-locals recursive kinds flow post form is = (form_has_no_more_parts (at_exit recursive kinds flow post) form is).locals

pub abstract_exit_is_normal : AbstractExitIsNormal
abstract_exit_is_normal post answer flow kinds recursive h =
    let make : SymState → Post = λ form. canon_post (post_of post.ret form) (length flow.params) in
    let is : IsMade make (at_exit recursive kinds flow post) answer = made-of make (at_exit recursive kinds flow post) answer h in
    let same : as_state (post_of post.ret is.form) ≡ is.form =
    one-local post.ret is.form (exit-locals recursive kinds flow post is.form is.form_is) in
    let form_normal : is_normal (as_state (post_of post.ret is.form)) ≡ true =
    subst (λ s. is_normal s ≡ true) (sym same) (form_is_normal (at_exit recursive kinds flow post) is.form is.form_is) in
    subst (λ made. is_normal (as_state made) ≡ true) is.made
    (canon_state_is_normal (as_state (post_of post.ret is.form)) (length flow.params) form_normal)

pub missing-normal : (params : ℕ) (pair answer : Pair) → params ≤ 65536 → pair_in_forms params pair ≡ Some answer
    → is_normal (without_locals answer.missing) ≡ true
missing-normal params pair answer few h = by_form (pair_form params pair) refl h
  where
    by_form : (o : Option Pair) → pair_form params pair ≡ o → option_map (canon_of params) o ≡ Some answer
        → is_normal (without_locals answer.missing) ≡ true
    by_form None e k = cc
    by_form (Some form) e k = let same : canon_of params form
        ≡ answer =
        cc in subst (λ made. is_normal (without_locals made.missing) ≡ true) same (canon_pair_keeps_missing_normal params pair form few e)

pub abstract_pair_is_normal : AbstractPairIsNormal
abstract_pair_is_normal pair answer flow mark kinds few h =
    missing-normal (length flow.params) (five_steps (length flow.params) kinds mark pair) answer few h

pub abstract_pre_is_normal : AbstractPreIsNormal
abstract_pre_is_normal missing answer params few h = by_pair (pair_in_forms params (join_pair params (beside_nothing missing))) refl h
  where
    by_pair : (o : Option Pair) → pair_in_forms params (join_pair params (beside_nothing missing)) ≡ o
        → option_map (λ pair. pair.missing) o ≡ Some answer → is_normal (without_locals answer) ≡ true
    by_pair None e k = cc
    by_pair (Some pair) e k = let same : pair.missing
        ≡ answer =
        cc in subst (λ heap. is_normal (without_locals heap) ≡ true) same
        (missing-normal params (join_pair params (beside_nothing missing)) pair few e)

-- ---- sizes

-- the parts of a heap
abbrev pub parts_of : SymHeap → ℕ
parts_of heap = length heap.pure + length heap.spatial

filter-shorter : {A : Type 0} (test : A → Bool) (xs : List A) → list_all test xs ≡ false → length (filter test xs) < length xs
filter-shorter test [] h = cc
filter-shorter test (x ∷ xs) h = by_test (test x) refl h (filter-fewer test xs) (filter-shorter test xs)
  where
    by_test : (b : Bool) → test x ≡ b → list_all test (x ∷ xs) ≡ false → length (filter test xs) ≤ length xs
        → (list_all test xs ≡ false → length (filter test xs) < length xs) → length (filter test (x ∷ xs)) < length (x ∷ xs)
    by_test true e k few go_on = let rest : list_all test xs ≡ false = rw e at k in let less : length (filter test xs)
        < length xs = go_on rest in rw e (omega (arith, less))
    by_test false e k few go_on = rw e (omega (arith, few))

pub kept-short : (locals : List Exp) (atoms : List Atom) → length (keep_reached locals atoms) ≤ length atoms
kept-short locals atoms = by_test (list_all (is_kept (seen_from locals atoms)) atoms) refl
  where
    by_test : (b : Bool) → list_all (is_kept (seen_from locals atoms)) atoms ≡ b
        → length (keep_seen (seen_from locals atoms) atoms) ≤ length atoms
    by_test true e = rw e (omega arith)
    by_test false e =
        let less : length (filter (is_kept (seen_from locals atoms)) atoms) < length atoms =
        filter-shorter (is_kept (seen_from locals atoms)) atoms e in
        rw e (omega (arith, less, length-append (filter (is_kept (seen_from locals atoms)) atoms) (Junk ∷ [])))

pub joined-short : (may : ℕ → Bool) (atoms : List Atom) → length (with_join atoms (find_join may atoms)) ≤ length atoms
joined-short may atoms = by_found (find_join may atoms) refl
  where
    by_found : (o : Option Join) → find_join may atoms ≡ o → length (with_join atoms o) ≤ length atoms
    by_found None e = omega arith
    by_found (Some join) e = let less : length (with_join atoms (Some join))
        < length atoms = join-shorter atoms join (found-is may atoms join e) in omega (arith, less)

pub inner-short : (joins : Bool) (locals : List Exp) (atoms : List Atom) → length (join_inner joins locals atoms) ≤ length atoms
inner-short true locals atoms = joined-short (is_inner locals) atoms
inner-short false locals atoms = omega arith

once-small : (joins : Bool) (locals : List Exp) (heap : SymHeap) → parts_of (reduce_once joins locals heap) ≤ parts_of heap
once-small joins locals heap =
    let kept : length (keep_reached locals heap.spatial) ≤ length heap.spatial = kept-short locals heap.spatial in
    let inner : length (join_inner joins locals (keep_reached locals heap.spatial)) ≤ length (keep_reached locals heap.spatial) =
    inner-short joins locals (keep_reached locals heap.spatial) in
    let facts =
    filter-fewer
    (λ fact. not
    (is_disequality_of
    (is_lost_among 65536 (locals ++ exps_of_atoms (join_inner joins locals (keep_reached locals heap.spatial)))) fact)) heap.pure in
    omega (arith, kept, inner, facts)

times-small : (turns : ℕ) (joins : Bool) (locals : List Exp) (heap : SymHeap)
    → parts_of (reduce_times turns joins locals heap) ≤ parts_of heap
times-small zero joins locals heap = omega arith
times-small (suc turns) joins locals heap =
    let first : parts_of (reduce_once joins locals heap) ≤ parts_of heap = once-small joins locals heap in
    let rest : parts_of (reduce_times turns joins locals (reduce_once joins locals heap)) ≤ parts_of (reduce_once joins locals heap) =
    times-small turns joins locals (reduce_once joins locals heap) in
    omega (arith, first, rest)

pub reduce-small : (joins : Bool) (locals : List Exp) (heap : SymHeap) → parts_of (reduce joins locals heap) ≤ parts_of heap
reduce-small joins locals heap = times-small (size_of heap) joins locals heap

pub forgotten-atoms : (kinds : List StructDef) (next : ℕ) (atoms : List Atom) → length (forget_atoms kinds next atoms) ≡ length atoms
forgotten-atoms kinds next [] = refl
forgotten-atoms kinds next (atom ∷ atoms) = let rest = forgotten-atoms kinds (next + fields_of atom) atoms in ap suc rest

pub forgotten-slots : (mark : HeadMark) (next slot : ℕ) (es : List Exp) → length (forget_slots mark next slot es) ≡ length es
forgotten-slots mark next slot [] = refl
forgotten-slots mark next slot (e ∷ es) = ap suc (forgotten-slots mark (next + 1) (slot + 1) es)

-- the canonical form is as large
canon-large : (params : ℕ) (state : SymState) → HasNoMoreParts state (canon_state state params)
canon-large params state =
    let number : Exp → Exp = with_number 65536 (sight_state Existential (with_atoms_placed params state) []) in
    let placed : List Atom = (with_atoms_placed params state).heap.spatial in
    let atoms : length (map (on_atom number) placed) ≡ length placed = length-map placed (on_atom number) in
    let long : length placed ≡ length state.heap.spatial = placed-length params state.locals state.heap.spatial in
    let facts : length (map (on_fact number) state.heap.pure) ≡ length state.heap.pure = length-map state.heap.pure (on_fact number) in
    let sorted : length (sorted_facts (map (on_fact number) state.heap.pure)) ≡ length (map (on_fact number) state.heap.pure) =
    sorted-length (map (on_fact number) state.heap.pure) in
    record { parts = omega (arith, atoms, long, facts, sorted); locals = length-map state.locals number }

pub larger-trans : (a b c : SymState) → HasNoMoreParts a b → HasNoMoreParts b c → HasNoMoreParts a c
larger-trans a b c first second = record { parts = omega (arith, first.parts, second.parts); locals = second.locals ∙ first.locals }

pub at_head-small : (kinds : List StructDef) (mark : HeadMark) (state : SymState) → HasNoMoreParts state (at_head kinds mark state)
at_head-small kinds mark state =
    let forgotten : SymState = forget kinds mark state in
    let small : parts_of (reduce true forgotten.locals forgotten.heap) ≤ parts_of forgotten.heap =
    reduce-small true forgotten.locals forgotten.heap in
    let atoms : length (forget_atoms kinds (first_new state + length state.locals) state.heap.spatial) ≡ length state.heap.spatial =
    forgotten-atoms kinds (first_new state + length state.locals) state.heap.spatial in
    record { parts = omega (arith, small, atoms); locals = forgotten-slots mark (first_new state) 0 state.locals }

pub abstract_head_has_no_more_parts : AbstractHeadHasNoMoreParts
abstract_head_has_no_more_parts state answer flow mark kinds h =
    let is : IsMade (λ form. canon_state form (length flow.params)) (at_head kinds mark state) answer =
    made-of (λ form. canon_state form (length flow.params)) (at_head kinds mark state) answer h in
    subst (λ made. HasNoMoreParts state made) is.made
    (larger-trans state is.form (canon_state is.form (length flow.params))
    (larger-trans state (at_head kinds mark state) is.form (at_head-small kinds mark state)
    (form_has_no_more_parts (at_head kinds mark state) is.form is.form_is)) (canon-large (length flow.params) is.form))

if_recursive-small : (recursive : Bool) (kinds : List StructDef) (flow : Flow) (post : Post)
    → HasNoMoreParts (as_state post) (as_state (forget_if_recursive recursive kinds flow post))
if_recursive-small true kinds flow post =
    let atoms : length (forget_atoms kinds (first_new (as_state post) + 1) post.heap.spatial) ≡ length post.heap.spatial =
    forgotten-atoms kinds (first_new (as_state post) + 1) post.heap.spatial in
    record { parts = omega (arith, atoms); locals = refl }
if_recursive-small false kinds flow post = record { parts = omega arith; locals = refl }

pub at_exit-small : (recursive : Bool) (kinds : List StructDef) (flow : Flow) (post : Post)
    → HasNoMoreParts (as_state post) (at_exit recursive kinds flow post)
at_exit-small recursive kinds flow post =
    let forgotten : SymState = as_state (forget_if_recursive recursive kinds flow post) in
    let small : parts_of (reduce recursive forgotten.locals forgotten.heap) ≤ parts_of forgotten.heap =
    reduce-small recursive forgotten.locals forgotten.heap in
    larger-trans (as_state post) forgotten (reduced recursive forgotten) (if_recursive-small recursive kinds flow post)
    (record { parts = small; locals = refl })

pub abstract_exit_has_no_more_parts : AbstractExitHasNoMoreParts
abstract_exit_has_no_more_parts post answer flow kinds recursive h =
    let make : SymState → Post = λ form. canon_post (post_of post.ret form) (length flow.params) in
    let state : SymState = at_exit recursive kinds flow post in
    let is : IsMade make state answer = made-of make state answer h in
    let same : as_state (post_of post.ret is.form) ≡ is.form =
    one-local post.ret is.form (exit-locals recursive kinds flow post is.form is.form_is) in
    let form_small : HasNoMoreParts (as_state post) is.form =
    larger-trans (as_state post) state is.form (at_exit-small recursive kinds flow post)
    (form_has_no_more_parts state is.form is.form_is) in
    let post_small : HasNoMoreParts (as_state post) (as_state (post_of post.ret is.form)) =
    subst (λ s. HasNoMoreParts (as_state post) s) (sym same) form_small in
    subst (λ made. HasNoMoreParts (as_state post) (as_state made)) is.made
    (larger-trans (as_state post) (as_state (post_of post.ret is.form))
    (canon_state (as_state (post_of post.ret is.form)) (length flow.params)) post_small
    (canon-large (length flow.params) (as_state (post_of post.ret is.form))))
