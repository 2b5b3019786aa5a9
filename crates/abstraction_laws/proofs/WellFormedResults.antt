-- What abstraction answers is well formed where what was given is.
use Rattle.std.specs.Prelude.{◌≡◌, ℕ, zero, suc, ◌+◌, ◌*◌, ◌<◌, ◌≤◌, Bool, true, false, not, ◌==◌, ◌&&◌, if◌then◌else◌, List, [], ◌∷◌, ◌++◌}
use Rattle.std.specs.Prelude.{length, slice_get, position, All}
use Rattle.std.specs.Option.{IsSomeAnd}
use Rattle.std.specs.Str.{bytes_eq}
use Rattle.std.specs.declared.option.Option.{Option}
use Rattle.std.specs.declared.option.Option.TheVariants.{None, Some}
use Rattle.std.proofs.Common.{refl, sym, ap, subst, ◌∙◌, arith, lit≤}
use Rattle.std.proofs.lemmas.Bool.{lt-ltb, ltb-true}
use Rattle.std.proofs.lemmas.List.Elements.{All-cons, All-filter, All-head, All-nil, All-tail, All-weaker}
use Rattle.shape_data.specs.declared.program.Field.{Field}
use Rattle.shape_data.specs.declared.program.Flow.{Flow}
use Rattle.shape_data.specs.declared.program.HeadMark.{HeadMark}
use Rattle.shape_data.specs.declared.program.StructDef.{StructDef}
use Rattle.shape_data.specs.declared.symbolic.Atom.{Atom}
use Rattle.shape_data.specs.declared.symbolic.Atom.TheVariants.{Points, Seg, Junk}
use Rattle.shape_data.specs.declared.symbolic.Exp.{Exp}
use Rattle.shape_data.specs.declared.symbolic.Exp.TheVariants.{Var, Const}
use Rattle.shape_data.specs.declared.symbolic.Fact.{Fact}
use Rattle.shape_data.specs.declared.symbolic.Fact.TheVariants.{Eq, Ne}
use Rattle.shape_data.specs.declared.symbolic.Post.{Post}
use Rattle.shape_data.specs.declared.symbolic.SymHeap.{SymHeap}
use Rattle.shape_data.specs.declared.symbolic.SymState.{SymState}
use Rattle.shape_data.specs.Heap.{struct_named}
use Rattle.shape_data.specs.WellFormed.{AreStructs, IsAtom, IsExp, IsFact, IsField, IsPost, IsState, widest}
use Rattle.sym_parts.specs.Laws.Expressions.{same_exp}
use Rattle.sym_pure.specs.Laws.{HasNoMoreParts}
use Rattle.sym_pure.proofs.EmptyingLaws.{position-found}
use Rattle.sym_pure.proofs.WellFormedLaws.{form_is_well_formed}
use Rattle.sym_pure.proofs.EachLaws.{All-get}
use Rattle.sym_canon.specs.Canonical.{as_state, canon_post, canon_state}
use Rattle.sym_forms.specs.Sizes.{bounded, fields_in, fields_of, most_exps}
use Rattle.sym_forms.proofs.WellFormedLaws.{canon_state_is_well_formed}
use Rattle.abstraction_laws.specs.Forgetting.{first_new, forget, forget_atom, forget_atoms, forget_cell, forget_fields, forget_slots}
use Rattle.abstraction_laws.specs.Forgetting.{forget_value, is_constant, is_forgotten, is_int}
use Rattle.abstraction_laws.specs.Heads.{at_exit, at_head, forget_at_exit, post_of, reduced}
use Rattle.abstraction_laws.specs.Joining.{end_by, segment_by, segment_of, segment_to, start_of}
use Rattle.abstraction_laws.specs.Losing.{is_disequality_of, is_lost_among}
use Rattle.abstraction_laws.specs.Occurrences.{exps_of_atoms}
use Rattle.abstraction_laws.specs.Reaching.{keep_reached}
use Rattle.abstraction_laws.specs.Repeating.{join_inner, reduce_once, reduce_times, size_of}
use Rattle.abstraction_laws.specs.Results.{AbstractExitIsWellFormed, AbstractHeadIsWellFormed, with_at_most}
use Rattle.abstraction_laws.specs.Rooms.{HasRoom}
use Rattle.abstraction_laws.proofs.KeptLaws.{reduce-each}
use Rattle.abstraction_laws.proofs.NormalResults.{at_exit-small, at_head-small, exit-locals, forgotten-slots, made-of, one-local}
use Rattle.abstraction_laws.proofs.RoomLaws.{few-fields, well_formed_is_within_room}

-- each number below a limit may be a variable
module _ (limit : ℕ) (wide : 2147483648 ≤ limit) (structs : List StructDef) (params : ℕ) where
  pub loosen : (e : Exp) → IsExp widest params e → IsExp (bounded limit) params e
  loosen (Var x) is = let low : x < 2147483648 = ltb-true x 2147483648 is in lt-ltb x limit (omega (arith, low, wide))
  loosen (Const n) is = tt

  new-fits : (next : ℕ) → next < limit → IsExp (bounded limit) params (Var next)
  new-fits next low = lt-ltb next limit low

  or-new : (b : Bool) (next : ℕ) (e : Exp) → next < limit → IsExp widest params e → IsExp (bounded limit) params (if b then Var next else e)
  or-new true next e low is = new-fits next low
  or-new false next e low is = loosen e is

  loosen-all : (es : List Exp) → All (IsExp widest params) es → All (IsExp (bounded limit) params) es
  loosen-all es is = All-weaker (IsExp widest params) (IsExp (bounded limit) params) loosen es is

  pub loosen-fact : (fact : Fact) → IsFact widest params fact → IsFact (bounded limit) params fact
  loosen-fact (Eq left right) is = (loosen left is.0, loosen right is.1)
  loosen-fact (Ne left right) is = (loosen left is.0, loosen right is.1)

  pub loosen-atom : (atom : Atom) → IsAtom widest structs params atom → IsAtom (bounded limit) structs params atom
  loosen-atom (Points at kind fields) is = (loosen at is.0, is.1, loosen-all fields is.2)
  loosen-atom (Seg kind link from to) is = (is.0, loosen from is.1, loosen to is.2)
  loosen-atom Junk is = tt

  -- ---- constants forgotten

  slots-fit : (mark : HeadMark) (next slot : ℕ) (es : List Exp) → next + length es ≤ limit → All (IsExp widest params) es →
      All (IsExp (bounded limit) params) (forget_slots mark next slot es)
  slots-fit mark next slot [] room is = All-nil (IsExp (bounded limit) params)
  slots-fit mark next slot (e ∷ es) room is =
      All-cons (IsExp (bounded limit) params) (if is_forgotten mark slot e then Var next else e)
      (forget_slots mark (next + 1) (slot + 1) es)
      (or-new (is_forgotten mark slot e) next e (omega (arith, room)) (All-head (IsExp widest params) e es is))
      (slots-fit mark (next + 1) (slot + 1) es (omega (arith, room)) (All-tail (IsExp widest params) e es is))

  fields-fit : (next : ℕ) (fields : List Field) (es : List Exp) → next + length es ≤ limit → All (IsExp widest params) es →
      All (IsExp (bounded limit) params) (forget_fields next fields es)
  fields-fit next fields [] room is = All-nil (IsExp (bounded limit) params)
  fields-fit next [] (e ∷ es) room is = loosen-all (e ∷ es) is
  fields-fit next (field ∷ fields) (e ∷ es) room is =
      All-cons (IsExp (bounded limit) params) (forget_value next field.ty e) (forget_fields (next + 1) fields es)
      (or-new (is_int field.ty && is_constant e) next e (omega (arith, room)) (All-head (IsExp widest params) e es is))
      (fields-fit (next + 1) fields es (omega (arith, room)) (All-tail (IsExp widest params) e es is))

  fields-long : (next : ℕ) (fields : List Field) (es : List Exp) → length (forget_fields next fields es) ≡ length es
  fields-long next fields [] = refl
  fields-long next [] (e ∷ es) = refl
  fields-long next (field ∷ fields) (e ∷ es) = ap suc (fields-long (next + 1) fields es)

  cell-fits : (next : ℕ) (o : Option StructDef) (es : List Exp) → next + length es ≤ limit → All (IsExp widest params) es →
      All (IsExp (bounded limit) params) (forget_cell next o es) × (length (forget_cell next o es) ≡ length es)
  cell-fits next None es room is = (loosen-all es is, refl)
  cell-fits next (Some def) es room is = (fields-fit next def.fields es room is, fields-long next def.fields es)

  as-long : (values new : List Exp) (def : Option StructDef) → length new ≡ length values →
      IsSomeAnd def (λ d. length values ≡ length d.fields) → IsSomeAnd def (λ d. length new ≡ length d.fields)
  as-long values new None same h = h
  as-long values new (Some def) same h = same ∙ h

  atom-fits : (kinds : List StructDef) (next : ℕ) (atom : Atom) → next + fields_of atom ≤ limit → IsAtom widest structs params atom →
      IsAtom (bounded limit) structs params (forget_atom kinds next atom)
  atom-fits kinds next (Points at kind fields) room is =
      let cell = cell-fits next (struct_named kinds kind) fields room is.2 in
      (loosen at is.0, as-long fields (forget_cell next (struct_named kinds kind) fields) (struct_named structs kind) cell.1 is.1, cell.0)
  atom-fits kinds next (Seg kind link from to) room is = loosen-atom (Seg kind link from to) is
  atom-fits kinds next Junk room is = tt

  atoms-fit : (kinds : List StructDef) (next : ℕ) (atoms : List Atom) → next + fields_in atoms ≤ limit →
      All (IsAtom widest structs params) atoms → All (IsAtom (bounded limit) structs params) (forget_atoms kinds next atoms)
  atoms-fit kinds next [] room is = All-nil (IsAtom (bounded limit) structs params)
  atoms-fit kinds next (atom ∷ atoms) room is =
      All-cons (IsAtom (bounded limit) structs params) (forget_atom kinds next atom) (forget_atoms kinds (next + fields_of atom) atoms)
      (atom-fits kinds next atom (omega (arith, room)) (All-head (IsAtom widest structs params) atom atoms is))
      (atoms-fit kinds (next + fields_of atom) atoms (omega (arith, room)) (All-tail (IsAtom widest structs params) atom atoms is))

  -- ---- segments that joins make

  end-fits : (kind : List ℕ) (link : ℕ) (atom : Atom) (to : Exp) → end_by kind link atom ≡ Some to →
      IsAtom (bounded limit) structs params atom → IsExp (bounded limit) params to
  end-fits kind link (Points other fields-kind fields) to ends is = by_kind (bytes_eq fields-kind kind) refl
    where
      by_kind : (b : Bool) → bytes_eq fields-kind kind ≡ b → IsExp (bounded limit) params to
      by_kind true e = let got : slice_get fields link
          ≡ Some to = rw e at ends in All-get (IsExp (bounded limit) params) fields link to got is.2
      by_kind false e = let bad : None ≡ Some to = rw e at ends in cc
  end-fits kind link (Seg other field from end) to ends is = by_kind (bytes_eq other kind && field == link) refl
    where
      by_kind : (b : Bool) → (bytes_eq other kind && field == link) ≡ b → IsExp (bounded limit) params to
      by_kind true e = let same : Some end ≡ Some to = rw e at ends in let equal : end
          ≡ to = cc in subst (IsExp (bounded limit) params) equal is.2
      by_kind false e = let bad : None ≡ Some to = rw e at ends in cc
  end-fits kind link Junk to ends is = cc

  to-fits : (kind : List ℕ) (link : ℕ) (from : Exp) (other segment : Atom) (o : Option Exp) → end_by kind link other ≡ o →
      segment_to kind link from o ≡ Some segment → IsField structs kind link → IsExp (bounded limit) params from →
      IsAtom (bounded limit) structs params other → IsAtom (bounded limit) structs params segment
  to-fits kind link from other segment None ends makes field start is = cc
  to-fits kind link from other segment (Some to) ends makes field start is =
      let same : Seg kind link from to ≡ segment = cc in
      subst (IsAtom (bounded limit) structs params) same (field, start, end-fits kind link other to ends is)

  got-low : (fields : List Exp) (link : ℕ) (e : Exp) → slice_get fields link ≡ Some e → link < length fields
  got-low [] link e h = cc
  got-low (f ∷ fs) zero e h = omega arith
  got-low (f ∷ fs) (suc link) e h = let rest : link < length fs = got-low fs link e h in omega (arith, rest)

  field-there : (fields : List Exp) (link : ℕ) (def : Option StructDef) → link < length fields →
      IsSomeAnd def (λ d. length fields ≡ length d.fields) → IsSomeAnd def (λ d. link < length d.fields)
  field-there fields link None low h = h
  field-there fields link (Some def) low h = subst (λ n. link < n) h low

  pub joined-fits : (v : Exp) (one other segment : Atom) → start_of other ≡ Some v → segment_of v one other ≡ Some segment →
      IsAtom (bounded limit) structs params one → IsAtom (bounded limit) structs params other →
      IsAtom (bounded limit) structs params segment
  joined-fits v (Points at kind fields) other segment starts makes is also = by_link (position (same_exp v) fields) refl makes
    where
      by_link : (o : Option ℕ) → position (same_exp v) fields ≡ o → segment_by kind at other o ≡ Some segment →
          IsAtom (bounded limit) structs params segment
      by_link None e f = cc
      by_link (Some link) e f =
          let found = position-found (same_exp v) fields link e in
          to-fits kind link at other segment (end_by kind link other) refl f
          (field-there fields link (struct_named structs kind) (got-low fields link found.0 found.1) is.1) is.0 also
  joined-fits v (Seg kind link from to) other segment starts makes is also = by_test (same_exp v to) makes
    where
      by_test : (b : Bool) → (if b then segment_to kind link from (end_by kind link other) else None) ≡ Some segment →
          IsAtom (bounded limit) structs params segment
      by_test true f = to-fits kind link from other segment (end_by kind link other) refl f is.0 is.1 also
      by_test false f = cc
  joined-fits v Junk other segment starts makes is also = cc

  -- ---- reduced

  times-facts : (turns : ℕ) (joins : Bool) (locals : List Exp) (heap : SymHeap) → All (IsFact (bounded limit) params) heap.pure →
      All (IsFact (bounded limit) params) (reduce_times turns joins locals heap).pure
  times-facts zero joins locals heap h = h
  times-facts (suc turns) joins locals heap h =
      times-facts turns joins locals (reduce_once joins locals heap)
      (All-filter (λ fact. not
      (is_disequality_of (is_lost_among 65536 (locals ++ exps_of_atoms (join_inner joins locals (keep_reached locals heap.spatial)))) fact))
      (IsFact (bounded limit) params) heap.pure h)

  reduced-fits : (parts slots : ℕ) (joins : Bool) (state small : SymState) → HasNoMoreParts small (reduced joins state) →
      length small.heap.pure + length small.heap.spatial ≤ parts → length state.locals ≡ slots →
      All (IsExp (bounded limit) params) state.locals →
      All (IsFact (bounded limit) params) state.heap.pure → All (IsAtom (bounded limit) structs params) state.heap.spatial →
      IsState (record (bounded limit) { parts = parts }) structs params slots (reduced joins state)
  reduced-fits parts slots joins state small less few one_each locals facts atoms = record {
    one_each = one_each;
    locals = locals;
    heap = record {
      parts = omega (arith, less.parts, few);
      facts = times-facts (size_of state.heap) joins state.locals state.heap facts;
      atoms = reduce-each (IsAtom (bounded limit) structs params) tt joined-fits joins state.locals state.heap atoms;
    };
  }

-- ---- canonical

module _ (structs : List StructDef) (params : ℕ) where
  canon-fits : (slots : ℕ) (state : SymState) → AreStructs structs → slots ≤ 32768 →
      IsState (bounded 4294967296) structs params slots state → IsState widest structs params slots (canon_state state params)
  canon-fits slots state are few is =
      let fields : fields_in state.heap.spatial ≤ length state.heap.spatial * 32768 =
      few-fields (bounded 4294967296) structs params are.each state.heap.spatial is.heap.atoms in
      let parts : length state.heap.pure + length state.heap.spatial ≤ 4000 = is.heap.parts in
      let one_each : length state.locals ≡ slots = is.one_each in
      let most : most_exps state ≤ 131200000 = omega (arith, fields, parts, one_each, few) in
      canon_state_is_well_formed (bounded 4294967296) widest structs params slots state
      (record {
        logical = λ x low is. lt-ltb x 2147483648 (omega (arith, low));
        numbered = λ place low. lt-ltb (65536 + place) 2147483648 (omega (arith, low, most));
        parts = omega arith;
      }) is

-- a state that has room at the head of a loop, however many parts there are
pub head-fits-within : (parts : ℕ) (structs kinds : List StructDef) (params slots : ℕ) (state : SymState) (mark : HeadMark) →
    HasRoom state → IsState (with_at_most parts) structs params slots state →
    IsState (record (bounded 4294967296) { parts = parts }) structs params slots (at_head kinds mark state)
head-fits-within parts structs kinds params slots state mark room is =
    reduced-fits 4294967296 (lit≤ tt) structs params parts slots true (forget kinds mark state) state
    (at_head-small kinds mark state) is.heap.parts (forgotten-slots mark (first_new state) 0 state.locals ∙ is.one_each)
    (slots-fit 4294967296 (lit≤ tt) structs params mark (first_new state) 0 state.locals (omega (arith, room)) is.locals)
    (All-weaker (IsFact widest params) (IsFact (bounded 4294967296) params)
    (loosen-fact 4294967296 (lit≤ tt) structs params) state.heap.pure is.heap.facts)
    (atoms-fit 4294967296 (lit≤ tt) structs params kinds (first_new state + length state.locals) state.heap.spatial
    (omega (arith, room)) is.heap.atoms)

head-fits : (structs kinds : List StructDef) (params slots : ℕ) (state : SymState) (mark : HeadMark) → AreStructs structs → slots ≤ 32768 →
    IsState widest structs params slots state → IsState (bounded 4294967296) structs params slots (at_head kinds mark state)
head-fits structs kinds params slots state mark are few is =
    head-fits-within 4000 structs kinds params slots state mark
    (well_formed_is_within_room structs params slots state are few is).variables is

pub abstract_head_is_well_formed : AbstractHeadIsWellFormed
abstract_head_is_well_formed structs kinds slots state answer flow mark are few is h =
    let params : ℕ = length flow.params in
    let made = made-of (λ form. canon_state form params) (at_head kinds mark state) answer h in
    subst (IsState widest structs params slots) made.made
    (canon-fits structs params slots made.form are few
    (form_is_well_formed (bounded 4294967296) structs params slots (at_head kinds mark state) made.form made.form_is
    (head-fits structs kinds params slots state mark are few is)))

-- a post as a state
as_state-fits : (structs : List StructDef) (params : ℕ) (post : Post) → IsPost widest structs params post →
    IsState widest structs params 1 (as_state post)
as_state-fits structs params post is =
    record { one_each = refl; locals = All-cons (IsExp widest params) post.ret [] is.ret (All-nil (IsExp widest params)); heap = is.heap }

exit-fits : (structs kinds : List StructDef) (params : ℕ) (flow : Flow) (post : Post) (recursive : Bool) → AreStructs structs →
    IsPost widest structs params post → IsState (bounded 4294967296) structs params 1 (at_exit recursive kinds flow post)
exit-fits structs kinds params flow post true are is =
    let room : HasRoom (as_state post) =
    (well_formed_is_within_room structs params 1 (as_state post) are (omega arith) (as_state-fits structs params post is)).variables in
    reduced-fits 4294967296 (lit≤ tt) structs params 4000 1 true (as_state (forget_at_exit kinds flow post)) (as_state post)
    (at_exit-small true kinds flow post) is.heap.parts refl
    (All-cons (IsExp (bounded 4294967296) params) (forget_value (first_new (as_state post)) flow.ret post.ret) []
    (or-new 4294967296 (lit≤ tt) structs params (is_int flow.ret && is_constant post.ret) (first_new (as_state post)) post.ret
    (omega (arith, room)) is.ret) (All-nil (IsExp (bounded 4294967296) params)))
    (All-weaker (IsFact widest params) (IsFact (bounded 4294967296) params)
    (loosen-fact 4294967296 (lit≤ tt) structs params) post.heap.pure is.heap.facts)
    (atoms-fit 4294967296 (lit≤ tt) structs params kinds (first_new (as_state post) + 1) post.heap.spatial
    (omega (arith, room)) is.heap.atoms)
exit-fits structs kinds params flow post false are is =
    reduced-fits 4294967296 (lit≤ tt) structs params 4000 1 false (as_state post) (as_state post)
    (at_exit-small false kinds flow post) is.heap.parts refl
    (All-cons (IsExp (bounded 4294967296) params) post.ret [] (loosen 4294967296 (lit≤ tt) structs params post.ret is.ret)
    (All-nil (IsExp (bounded 4294967296) params)))
    (All-weaker (IsFact widest params) (IsFact (bounded 4294967296) params)
    (loosen-fact 4294967296 (lit≤ tt) structs params) post.heap.pure is.heap.facts)
    (All-weaker (IsAtom widest structs params) (IsAtom (bounded 4294967296) structs params)
    (loosen-atom 4294967296 (lit≤ tt) structs params) post.heap.spatial is.heap.atoms)

pub abstract_exit_is_well_formed : AbstractExitIsWellFormed
abstract_exit_is_well_formed structs kinds post answer flow recursive are is h =
    let params : ℕ = length flow.params in
    let make : SymState → Post = λ form. canon_post (post_of post.ret form) params in
    let made = made-of make (at_exit recursive kinds flow post) answer h in
    let form_fits : IsState (bounded 4294967296) structs params 1 made.form =
    form_is_well_formed (bounded 4294967296) structs params 1 (at_exit recursive kinds flow post) made.form made.form_is
    (exit-fits structs kinds params flow post recursive are is) in
    let same : as_state (post_of post.ret made.form) ≡ made.form =
    one-local post.ret made.form (exit-locals recursive kinds flow post made.form made.form_is) in
    let post_fits : IsState (bounded 4294967296) structs params 1 (as_state (post_of post.ret made.form)) =
    subst (IsState (bounded 4294967296) structs params 1) (sym same) form_fits in
    let fits : IsState widest structs params 1 (canon_state (as_state (post_of post.ret made.form)) params) =
    canon-fits structs params 1 (as_state (post_of post.ret made.form)) are (omega arith) post_fits in
    subst (IsPost widest structs params) made.made
    (record { ret = All-head (IsExp widest params) (canon_post (post_of post.ret made.form) params).ret [] fits.locals; heap = fits.heap })
