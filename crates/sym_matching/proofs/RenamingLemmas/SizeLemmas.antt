-- The sizes of what gets new numbers.
use Rattle.std.specs.Prelude.{◌≡◌, ℕ, ◌+◌, ◌*◌, ◌<◌, ◌≤◌, ◌==◌, ltb, leb, zero, suc, Bool, true, false, List, [], ◌∷◌, ◌++◌, length, filter}
use Rattle.std.specs.Prelude.{map, All}
use Rattle.std.specs.Option.{is_none}
use Rattle.std.proofs.Common.{refl, sym, ap, subst, ◌∙◌, arith}
use Rattle.std.specs.declared.option.Option.{Option}
use Rattle.std.specs.declared.option.Option.TheVariants.{None, Some}
use Rattle.std.proofs.lemmas.Bool.{or_right}
use Rattle.std.proofs.lemmas.List.{length-map, length_push}
use Rattle.std.proofs.lemmas.List.Elements.{All-cons, All-head, All-map, All-nil, All-tail, All-weaker}
use Rattle.shape_data.specs.declared.program.StructDef.{StructDef}
use Rattle.shape_data.specs.declared.symbolic.Atom.{Atom}
use Rattle.shape_data.specs.declared.symbolic.Atom.TheVariants.{Points, Seg, Junk}
use Rattle.shape_data.specs.declared.symbolic.Exp.{Exp}
use Rattle.shape_data.specs.declared.symbolic.Exp.TheVariants.{Var, Const}
use Rattle.shape_data.specs.declared.symbolic.Fact.{Fact}
use Rattle.shape_data.specs.declared.symbolic.Fact.TheVariants.{Eq, Ne}
use Rattle.shape_data.specs.declared.symbolic.Post.{Post}
use Rattle.shape_data.specs.declared.symbolic.SymHeap.{SymHeap}
use Rattle.shape_data.specs.declared.symbolic.SymState.{SymState}
use Rattle.shape_data.specs.WellFormed.{IsAtom, IsExp, IsFact, IsPost, IsState, IsSymHeap, Limits}
use Rattle.sym_parts.specs.Laws.Fresh.{is_one_of}
use Rattle.sym_parts.specs.Laws.Mapped.{on_atom, on_fact, on_heap, on_post, on_state, renamed}
use Rattle.sym_parts.proofs.LawsLemmas.EachLemmas.{each-on_atoms, each-on_facts}
use Rattle.sym_canon.specs.Numbering.{sides}
use Rattle.sym_canon.specs.Placing.{exps_of}
use Rattle.sym_matching.specs.NewVariables.{HasRoom, distinct, fresh_variables}
use Rattle.sym_matching.specs.Reading.{bound_to}
use Rattle.sym_matching.specs.Rooms.{IsSmall, IsWithinSizes, fields_of}
use Rattle.sym_matching.specs.Variables.{with_atoms, with_binding, with_exps, with_facts, with_heap, with_state, with_variable}
use Rattle.sym_matching.proofs.KeptLaws.{one_of-first}
use Rattle.sym_matching.proofs.NewNumberLaws.{distinct-has}
use Rattle.sym_matching.proofs.RoomLaws.{room_of_few}
use Rattle.sym_matching.specs.declared.renaming.parts.Numbers.{Numbers}
use Rattle.sym_matching.specs.Renaming.Apart.{number_of, numbers_apart}
use Rattle.sym_matching.specs.Renaming.Calls.{
  bound_in,
  bound_or_new,
  in_caller,
  new_in_post,
  parameters_bound,
  post_numbers,
  post_variables,
}
use Rattle.sym_matching.specs.Renaming.Calls.{variables_from}
use Rattle.sym_matching.specs.Renaming.Sizes.{AreSmall, CalledIsWithinSizes, FewBindingVariables, FewHeapVariables, FewStateVariables}
use Rattle.sym_matching.specs.Renaming.Sizes.{IsSmallBinding, MappedHeapIsWellFormed, MappedIsWithinSizes, MappedPostIsWellFormed}
use Rattle.sym_matching.specs.Renaming.Sizes.{MappedStateIsWellFormed, PostIsWithinSizes}
use Rattle.sym_matching.proofs.RenamingLemmas.NumberLemmas.{few_distinct, fresh_small, numbers_are_apart}

-- ---- how many variables

few_variable : (names : List ℕ) (e : Exp) → length (with_variable names e) ≤ length names + 1
few_variable names (Var x) = let more : length (names ++ x ∷ []) ≡ length names + 1 = length_push names x in omega arith
few_variable names (Const n) = omega arith

pub few_exps : (es : List Exp) (names : List ℕ) → length (with_exps names es) ≤ length names + length es
few_exps [] names = omega arith
few_exps (e ∷ es) names =
    let first : length (with_variable names e) ≤ length names + 1 = few_variable names e in
    let later : length (with_exps (with_variable names e) es) ≤ length (with_variable names e) + length es =
    few_exps es (with_variable names e) in
    omega arith

two_sides : (fact : Fact) → length (sides fact) ≤ 2
two_sides (Eq left right) = omega arith
two_sides (Ne left right) = omega arith

few_facts : (facts : List Fact) (names : List ℕ) → length (with_facts names facts) ≤ length names + 2 * length facts
few_facts [] names = omega arith
few_facts (fact ∷ facts) names =
    let two : length (sides fact) ≤ 2 = two_sides fact in
    let first : length (with_exps names (sides fact)) ≤ length names + length (sides fact) = few_exps (sides fact) names in
    let later : length (with_facts (with_exps names (sides fact)) facts) ≤ length (with_exps names (sides fact)) + 2 * length facts =
    few_facts facts (with_exps names (sides fact)) in
    omega arith

few_in_atom : (atom : Atom) → fields_of atom ≤ 32768 → length (exps_of atom) ≤ 32769
few_in_atom (Points at kind fields) h = omega arith
few_in_atom (Seg kind link from to) h = omega arith
few_in_atom Junk h = omega arith

few_atoms : (atoms : List Atom) (names : List ℕ) → All (λ atom. fields_of atom ≤ 32768) atoms →
    length (with_atoms names atoms) ≤ length names + 32769 * length atoms
few_atoms [] names each = omega arith
few_atoms (atom ∷ atoms) names each =
    let narrow : length (exps_of atom) ≤ 32769 = few_in_atom atom (All-head (λ a. fields_of a ≤ 32768) atom atoms each) in
    let first : length (with_exps names (exps_of atom)) ≤ length names + length (exps_of atom) = few_exps (exps_of atom) names in
    let later : length (with_atoms (with_exps names (exps_of atom)) atoms)
    ≤ length (with_exps names (exps_of atom)) + 32769 * length atoms =
    few_atoms atoms (with_exps names (exps_of atom)) (All-tail (λ a. fields_of a ≤ 32768) atom atoms each) in
    omega arith

pub few_heap_variables : FewHeapVariables
few_heap_variables names heap sizes =
    let parts : length heap.pure + length heap.spatial ≤ 4000 = sizes.parts in
    let first : length (with_facts names heap.pure) ≤ length names + 2 * length heap.pure = few_facts heap.pure names in
    let later : length (with_atoms (with_facts names heap.pure) heap.spatial)
    ≤ length (with_facts names heap.pure) + 32769 * length heap.spatial =
    few_atoms heap.spatial (with_facts names heap.pure) sizes.fields in
    omega arith

pub few_state_variables : FewStateVariables
few_state_variables names state sizes =
    let first : length (with_exps names state.locals) ≤ length names + length state.locals = few_exps state.locals names in
    let later : length (with_heap (with_exps names state.locals) state.heap) ≤ length (with_exps names state.locals) + 131076000 =
    few_heap_variables (with_exps names state.locals) state.heap sizes in
    omega arith

pub few_binding_variables : FewBindingVariables
few_binding_variables names [] = omega arith
few_binding_variables names (bound ∷ binding) =
    let one : length (names ++ bound.0 ∷ []) ≡ length names + 1 = length_push names bound.0 in
    let first : length (with_variable (names ++ bound.0 ∷ []) bound.1) ≤ length (names ++ bound.0 ∷ []) + 1 =
    few_variable (names ++ bound.0 ∷ []) bound.1 in
    let later : length (with_binding (with_variable (names ++ bound.0 ∷ []) bound.1) binding)
    ≤ length (with_variable (names ++ bound.0 ∷ []) bound.1) + 2 * length binding =
    few_binding_variables (with_variable (names ++ bound.0 ∷ []) bound.1) binding in
    omega arith

pub few_passing : (test : ℕ → Bool) (xs : List ℕ) → length (filter test xs) ≤ length xs
few_passing test [] = omega arith
few_passing test (x ∷ xs) = by_test (test x) refl (few_passing test xs)
  where
    by_test : (b : Bool) → test x ≡ b → length (filter test xs) ≤ length xs → length (filter test (x ∷ xs)) ≤ length (x ∷ xs)
    by_test true e later = rw e (omega arith)
    by_test false e later = rw e (omega arith)

pub few_from : (x count : ℕ) → length (variables_from x count) ≡ count
few_from x zero = refl
few_from x (suc count) = let later : length (variables_from (x + 1) count) ≡ count = few_from (x + 1) count in omega arith

pub few_post_variables : (post : Post) → IsWithinSizes post.heap → length (post_variables post) ≤ 131076001
few_post_variables post sizes =
    let first : length (with_variable [] post.ret) ≤ 0 + 1 = few_variable [] post.ret in
    let later : length (with_heap (with_variable [] post.ret) post.heap) ≤ length (with_variable [] post.ret) + 131076000 =
    few_heap_variables (with_variable [] post.ret) post.heap sizes in
    omega arith

-- ---- room in the calls

pub apart_room : (used list names : List ℕ) (count : ℕ) → length used + length list < 2147418112 → names ≡ distinct list →
    count ≡ length names → HasRoom count used
apart_room used list names count room is same =
    let few : length (distinct list) ≤ length list = few_distinct list in
    let counted : count ≡ length (distinct list) = same ∙ ap (λ xs. length xs) is in
    room_of_few count used (omega arith)

pub apart_small : (used list names numbers row : List ℕ) (count : ℕ) → length used + length list < 2147418112 → names ≡ distinct list →
    count ≡ length names → numbers ≡ fresh_variables count used → row ≡ numbers → AreSmall row
apart_small used list names numbers row count room is same made given =
    let few : length (distinct list) ≤ length list = few_distinct list in
    let counted : count ≡ length (distinct list) = same ∙ ap (λ xs. length xs) is in
    subst (λ xs. AreSmall xs) (sym (given ∙ made)) (fresh_small count used (omega arith))

pub pre_room : (used start names : List ℕ) (params : ℕ) (pre : SymHeap) → length used ≤ 1073741824 → params ≤ 32768 → IsWithinSizes pre →
    start ≡ variables_from 0 params → names ≡ with_heap start pre → length used + length names < 2147418112
pre_room used start names params pre few low sizes is made =
    let counted : length (variables_from 0 params) ≡ params = few_from 0 params in
    let began : length start ≡ length (variables_from 0 params) = ap (λ xs. length xs) is in
    let same : length names ≡ length (with_heap start pre) = ap (λ xs. length xs) made in
    let all : length (with_heap start pre) ≤ length start + 131076000 = few_heap_variables start pre sizes in
    omega arith

pub post_room : (used avoid names list : List ℕ) (apart : Numbers) (binding : List (ℕ × Exp)) (post : Post) → length used ≤ 1073741824 →
    length binding ≤ 268435456 → IsWithinSizes post.heap →
    length avoid ≡ length used → names ≡ with_binding avoid binding → list ≡ new_in_post apart binding post →
    length names + length list < 2147418112
post_room used avoid names list apart binding post few short sizes same made is =
    let named : length names ≡ length (with_binding avoid binding) = ap (λ xs. length xs) made in
    let listed : length list ≡ length (new_in_post apart binding post) = ap (λ xs. length xs) is in
    let bound : length (with_binding avoid binding) ≤ length avoid + 2 * length binding = few_binding_variables avoid binding in
    let passing : length (new_in_post apart binding post) ≤ length (post_variables post) =
    few_passing (λ x. is_none (bound_in apart binding x)) (post_variables post) in
    let all : length (post_variables post) ≤ 131076001 = few_post_variables post sizes in
    omega arith

pub state_room : (used list : List ℕ) (state : SymState) → length used ≤ 1073741824 → length state.locals ≤ 32768 →
    IsWithinSizes state.heap → list ≡ filter (λ x. leb 65536 x) (with_state [] state) → length used + length list < 2147418112
state_room used list state few low sizes is =
    let listed : length list ≡ length (filter (λ x. leb 65536 x) (with_state [] state)) = ap (λ xs. length xs) is in
    let passing : length (filter (λ x. leb 65536 x) (with_state [] state)) ≤ length (with_state [] state) =
    few_passing (λ x. leb 65536 x) (with_state [] state) in
    let all : length (with_state [] state) ≤ 0 + length state.locals + 131076000 = few_state_variables [] state sizes in
    omega arith

-- ---- heaps that are mapped

fields_mapped : (f : Exp → Exp) (atom : Atom) → fields_of (on_atom f atom) ≡ fields_of atom
fields_mapped f (Points at kind fields) = length-map fields f
fields_mapped f (Seg kind link from to) = refl
fields_mapped f Junk = refl

narrow_mapped : (f : Exp → Exp) (atom : Atom) → fields_of atom ≤ 32768 → fields_of (on_atom f atom) ≤ 32768
narrow_mapped f atom h = let same : fields_of (on_atom f atom) ≡ fields_of atom = fields_mapped f atom in omega arith

pub mapped_is_within_sizes : MappedIsWithinSizes
mapped_is_within_sizes f heap small sizes =
    let facts : length (map (on_fact f) heap.pure) ≡ length heap.pure = length-map heap.pure (on_fact f) in
    let atoms : length (map (on_atom f) heap.spatial) ≡ length heap.spatial = length-map heap.spatial (on_atom f) in
    let parts : length heap.pure + length heap.spatial ≤ 4000 = sizes.parts in record {
      variables =
          record {
            facts = each-on_facts IsSmall IsSmall f small heap.pure sizes.variables.facts;
            atoms = each-on_atoms IsSmall IsSmall f small heap.spatial sizes.variables.atoms;
          };
      parts = omega arith;
      fields =
          All-map (λ atom. fields_of atom ≤ 32768) (on_atom f) heap.spatial
          (All-weaker (λ atom. fields_of atom ≤ 32768) (λ atom. fields_of (on_atom f atom) ≤ 32768)
          (narrow_mapped f) heap.spatial sizes.fields);
    }

module _ (limits : Limits) (structs : List StructDef) (before after : ℕ) (f : Exp → Exp)
    (gives : (e : Exp) → IsExp limits before e → IsExp limits after (f e)) where
  exps_mapped : (es : List Exp) → All (IsExp limits before) es → All (IsExp limits after) (map f es)
  exps_mapped es h = All-map (IsExp limits after) f es (All-weaker (IsExp limits before) (λ e. IsExp limits after (f e)) gives es h)

  fact_mapped : (fact : Fact) → IsFact limits before fact → IsFact limits after (on_fact f fact)
  fact_mapped (Eq left right) h = (gives left h.0, gives right h.1)
  fact_mapped (Ne left right) h = (gives left h.0, gives right h.1)

  atom_mapped : (atom : Atom) → IsAtom limits structs before atom → IsAtom limits structs after (on_atom f atom)
  atom_mapped (Points at kind fields) h = (gives at h.0, rw (length-map fields f) h.1, exps_mapped fields h.2)
  atom_mapped (Seg kind link from to) h = (h.0, gives from h.1, gives to h.2)
  atom_mapped Junk h = h

  pub heap_mapped : (heap : SymHeap) → IsSymHeap limits structs before heap → IsSymHeap limits structs after (on_heap f heap)
  heap_mapped heap is =
      let facts : length (map (on_fact f) heap.pure) ≡ length heap.pure = length-map heap.pure (on_fact f) in
      let atoms : length (map (on_atom f) heap.spatial) ≡ length heap.spatial = length-map heap.spatial (on_atom f) in
      let parts : length heap.pure + length heap.spatial ≤ limits.parts = is.parts in record {
        parts = omega arith;
        facts =
            All-map (IsFact limits after) (on_fact f) heap.pure
            (All-weaker (IsFact limits before) (λ fact. IsFact limits after (on_fact f fact)) fact_mapped heap.pure is.facts);
        atoms =
            All-map (IsAtom limits structs after) (on_atom f) heap.spatial
            (All-weaker (IsAtom limits structs before)
            (λ atom. IsAtom limits structs after (on_atom f atom)) atom_mapped heap.spatial is.atoms);
      }

  pub state_mapped : (slots : ℕ) (state : SymState) → IsState limits structs before slots state →
      IsState limits structs after slots (on_state f state)
  state_mapped slots state is =
      record {
        one_each = length-map state.locals f ∙ is.one_each;
        locals = exps_mapped state.locals is.locals;
        heap = heap_mapped state.heap is.heap;
      }

  pub post_mapped : (post : Post) → IsPost limits structs before post → IsPost limits structs after (on_post f post)
  post_mapped post is = record { ret = gives post.ret is.ret; heap = heap_mapped post.heap is.heap }

pub mapped_heap_is_well_formed : MappedHeapIsWellFormed
mapped_heap_is_well_formed limits structs before after f heap gives is = heap_mapped limits structs before after f gives heap is

pub mapped_state_is_well_formed : MappedStateIsWellFormed
mapped_state_is_well_formed limits structs before after slots f state gives is =
    state_mapped limits structs before after f gives slots state is

pub mapped_post_is_well_formed : MappedPostIsWellFormed
mapped_post_is_well_formed limits structs before after f post gives is = post_mapped limits structs before after f gives post is

-- ---- small numbers

small_number : (used list : List ℕ) → length used + length list < 2147418112 → (x : ℕ) → x < 2147483648 →
    number_of (numbers_apart used list) x < 2147483648
small_number used list room x low = by_test (is_one_of list x) refl
  where
    by_test : (b : Bool) → is_one_of list x ≡ b → number_of (numbers_apart used list) x < 2147483648
    by_test true e = let near : number_of (numbers_apart used list) x
        < 65536 + length used + length list = (numbers_are_apart used list).near x e in omega arith
    by_test false e = let same : number_of (numbers_apart used list) x ≡ x = (numbers_are_apart used list).others x e in omega arith

pub small_renamed : (used list : List ℕ) → length used + length list < 2147418112 → (e : Exp) → IsSmall e →
    IsSmall (renamed (number_of (numbers_apart used list)) e)
small_renamed used list room (Var x) small = small_number used list room x small
small_renamed used list room (Const n) small = tt

mapped_small : (f : ℕ → ℕ) (xs : List ℕ) → ((x : ℕ) → is_one_of xs x ≡ true → f x < 2147483648) → AreSmall (map f xs)
mapped_small f [] each = All-nil (λ x. x < 2147483648)
mapped_small f (x ∷ xs) each =
    All-cons (λ y. y < 2147483648) (f x) (map f xs) (each x (one_of-first x xs))
    (mapped_small f xs (λ y is. each y (or_right (y == x) (is_one_of xs y) is)))

bound_small : (used list : List ℕ) (room : length used + length list < 2147418112) (k : ℕ) (args : List Exp) → k + length args ≤ 32768 →
    All IsSmall args → IsSmallBinding (parameters_bound (numbers_apart used list) k args)
bound_small used list room k [] low each = All-nil (λ bound. (bound.0 < 2147483648) × IsSmall bound.1)
bound_small used list room k (arg ∷ args) low each =
    All-cons (λ bound. (bound.0 < 2147483648) × IsSmall bound.1) (number_of (numbers_apart used list) k, arg)
    (parameters_bound (numbers_apart used list) (k + 1) args)
    (small_number used list room k (omega arith), All-head IsSmall arg args each)
    (bound_small used list room (k + 1) args (omega arith) (All-tail IsSmall arg args each))

in_filter : (test : ℕ → Bool) (xs : List ℕ) (x : ℕ) → is_one_of (filter test xs) x ≡ true → is_one_of xs x ≡ true
in_filter test [] x is = cc
in_filter test (y ∷ xs) x is = by_test (test y) refl (in_filter test xs x) (x == y) refl
  where
    by_test : (b : Bool) → test y ≡ b → (is_one_of (filter test xs) x ≡ true → is_one_of xs x ≡ true) → (d : Bool) → (x == y) ≡ d →
        is_one_of (y ∷ xs) x ≡ true
    by_test b e later true f = rw f refl
    by_test true e later false f = let rest : is_one_of (filter test xs) x ≡ true = rw (e, f) at is in rw f (later rest)
    by_test false e later false f = let rest : is_one_of (filter test xs) x ≡ true = rw e at is in rw f (later rest)

pub called_is_within_sizes : CalledIsWithinSizes
called_is_within_sizes used args pre few low each sizes =
    let list : List ℕ = with_heap (variables_from 0 (length args)) pre in
    let room : length used + length list < 2147418112 =
    pre_room used (variables_from 0 (length args)) list (length args) pre few low sizes refl refl in record {
      pre = mapped_is_within_sizes (renamed (number_of (numbers_apart used list))) pre (small_renamed used list room) sizes;
      bound = bound_small used list room 0 args (omega arith) each;
      flexible =
          mapped_small (number_of (numbers_apart used list)) (filter (λ x. leb (length args) x) (distinct list))
          (λ x is. listed used list room x (sym (distinct-has list x) ∙ in_filter (λ y. leb (length args) y) (distinct list) x is));
    }
  where
    listed : (used' list : List ℕ) → length used' + length list < 2147418112 → (x : ℕ) → is_one_of list x ≡ true →
        number_of (numbers_apart used' list) x < 2147483648
    listed used' list room x is = let near : number_of (numbers_apart used' list) x
        < 65536 + length used' + length list = (numbers_are_apart used' list).near x is in omega arith

bound_to_small : (binding : List (ℕ × Exp)) (x : ℕ) (e : Exp) → IsSmallBinding binding → bound_to binding x ≡ Some e → IsSmall e
bound_to_small [] x e each is = cc
bound_to_small (bound ∷ binding) x e each is =
    by_test (bound.0 == x) refl (bound_to_small binding x e (All-tail (λ b. (b.0 < 2147483648) × IsSmall b.1) bound binding each))
  where
    here : IsSmall bound.1
    here = (All-head (λ b. (b.0 < 2147483648) × IsSmall b.1) bound binding each).1

    by_test : (b : Bool) → (bound.0 == x) ≡ b → (bound_to binding x ≡ Some e → IsSmall e) → IsSmall e
    by_test true f later = let same : Some bound.1 ≡ Some e = rw f at is in let one : bound.1 ≡ e = cc in subst (λ d. IsSmall d) one here
    by_test false f later = let rest : bound_to binding x ≡ Some e = rw f at is in later rest

module _ (used : List ℕ) (apart : Numbers) (binding : List (ℕ × Exp)) (post : Post) (each : IsSmallBinding binding)
    (room : length (with_binding used binding) + length (new_in_post apart binding post) < 2147418112) where
  small_bound_in : (x : ℕ) (e : Exp) → bound_in apart binding x ≡ Some e → IsSmall e
  small_bound_in x e is = by_test (ltb x 65536) refl
    where
      by_test : (b : Bool) → ltb x 65536 ≡ b → IsSmall e
      by_test true f = let there : bound_to binding (number_of apart x)
          ≡ Some e = rw f at is in bound_to_small binding (number_of apart x) e each there
      by_test false f = let none : None ≡ Some e = rw f at is in cc

  pub small_in_caller : (e : Exp) → IsSmall e → IsSmall (in_caller apart binding (post_numbers used apart binding post) e)
  small_in_caller (Var x) small = by_bound (bound_in apart binding x) refl
    where
      by_bound : (o : Option Exp) → bound_in apart binding x ≡ o → IsSmall (bound_or_new (post_numbers used apart binding post) x o)
      by_bound None f = small_number (with_binding used binding) (new_in_post apart binding post) room x small
      by_bound (Some e) f = small_bound_in x e f
  small_in_caller (Const n) small = tt

pub post_is_within_sizes : PostIsWithinSizes
post_is_within_sizes used apart binding post few short each ret sizes =
    let room : length (with_binding used binding) + length (new_in_post apart binding post) < 2147418112 =
    post_room used used (with_binding used binding) (new_in_post apart binding post) apart binding post few short sizes refl refl refl in (
      small_in_caller used apart binding post each room post.ret ret,
      mapped_is_within_sizes (in_caller apart binding (post_numbers used apart binding post)) post.heap
          (small_in_caller used apart binding post each room) sizes,
    )
