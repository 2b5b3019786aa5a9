-- Cells keep few fields: what joins make are segments.
use Rattle.std.specs.Prelude.{◌≡◌, ℕ, suc, ◌+◌, ◌≤◌, Bool, true, false, if◌then◌else◌, List, [], ◌∷◌, length, position}
use Rattle.std.specs.declared.option.Option.{Option}
use Rattle.std.specs.declared.option.Option.TheVariants.{None, Some}
use Rattle.std.proofs.Common.{refl, sym, ap, arith}
use Rattle.std.proofs.lemmas.List.Elements.{All-cons, All-head, All-nil, All-tail}
use Rattle.shape_data.specs.declared.program.Field.{Field}
use Rattle.shape_data.specs.declared.program.Flow.{Flow}
use Rattle.shape_data.specs.declared.program.HeadMark.{HeadMark}
use Rattle.shape_data.specs.declared.program.StructDef.{StructDef}
use Rattle.shape_data.specs.declared.symbolic.Atom.{Atom}
use Rattle.shape_data.specs.declared.symbolic.Atom.TheVariants.{Points, Seg, Junk}
use Rattle.shape_data.specs.declared.symbolic.Exp.{Exp}
use Rattle.shape_data.specs.declared.symbolic.Post.{Post}
use Rattle.shape_data.specs.declared.symbolic.SymHeap.{SymHeap}
use Rattle.shape_data.specs.declared.symbolic.SymState.{SymState}
use Rattle.shape_data.specs.Heap.{struct_named}
use Rattle.sym_parts.specs.Laws.Expressions.{same_exp}
use Rattle.sym_canon.specs.declared.parts.Pair.{Pair}
use Rattle.sym_canon.specs.Canonical.{as_state}
use Rattle.sym_forms.specs.Sizes.{fields_of}
use Rattle.abstraction_laws.specs.Forgetting.{first_new, forget, forget_atom, forget_atoms, forget_cell, forget_fields}
use Rattle.abstraction_laws.specs.Heads.{at_head, forget_if_recursive}
use Rattle.abstraction_laws.specs.Joining.{end_by, segment_by, segment_of, segment_to, start_of}
use Rattle.abstraction_laws.specs.Pairs.{join_pair_once}
use Rattle.abstraction_laws.specs.Reaching.{keep_reached}
use Rattle.abstraction_laws.specs.Repeating.{reduce_once}
use Rattle.abstraction_laws.specs.Rooms.{HaveFewFields}
use Rattle.abstraction_laws.proofs.KeptLaws.{kept-each, once-each, pair_once-each, reduce-each}

-- the atom has few fields
abbrev HasFew : Atom → Type 0
HasFew atom = fields_of atom ≤ 32768

to-few : (kind : List ℕ) (link : ℕ) (from : Exp) (o : Option Exp) (segment : Atom) → segment_to kind link from o ≡ Some segment
    → fields_of segment ≡ 0
to-few kind link from None segment h = cc
to-few kind link from (Some to) segment h = let same : Seg kind link from to ≡ segment = cc in ap fields_of (sym same)

segment-few : (v : Exp) (first second segment : Atom) → segment_of v first second ≡ Some segment → fields_of segment ≡ 0
segment-few v (Points at kind fields) second segment h = by_link (position (same_exp v) fields) h
  where
    by_link : (o : Option ℕ) → segment_by kind at second o ≡ Some segment → fields_of segment ≡ 0
    by_link None f = cc
    by_link (Some link) f = to-few kind link at (end_by kind link second) segment f
segment-few v (Seg kind link from to) second segment h = by_test (same_exp v to) h
  where
    by_test : (b : Bool) → (if b then segment_to kind link from (end_by kind link second) else None) ≡ Some segment → fields_of segment ≡ 0
    by_test true f = to-few kind link from (end_by kind link second) segment f
    by_test false f = cc
segment-few v Junk second segment h = cc

joined-few : (v : Exp) (one other segment : Atom) → start_of other ≡ Some v → segment_of v one other ≡ Some segment → HasFew one
    → HasFew other → HasFew segment
joined-few v one other segment starts makes few less =
    let none : fields_of segment ≡ 0 = segment-few v one other segment makes in omega (arith, none)

junk-few : HasFew Junk
junk-few = omega arith

pub once-few : (joins : Bool) (locals : List Exp) (heap : SymHeap) → HaveFewFields heap.spatial
    → HaveFewFields (reduce_once joins locals heap).spatial
once-few joins locals heap h = once-each HasFew junk-few joined-few joins locals heap h

pub pair-few : (params : ℕ) (pair : Pair) → HaveFewFields pair.missing.spatial → HaveFewFields pair.state.heap.spatial
    → HaveFewFields (join_pair_once params pair).missing.spatial × HaveFewFields (join_pair_once params pair).state.heap.spatial
pair-few params pair h k = pair_once-each HasFew junk-few joined-few params pair (h, k)

pub kept-few : (locals : List Exp) (atoms : List Atom) → HaveFewFields atoms → HaveFewFields (keep_reached locals atoms)
kept-few locals atoms h = kept-each HasFew junk-few joined-few locals atoms h

-- forgetting keeps the number of fields
fields-long : (next : ℕ) (fields : List Field) (es : List Exp) → length (forget_fields next fields es) ≡ length es
fields-long next fields [] = refl
fields-long next [] (e ∷ es) = refl
fields-long next (field ∷ fields) (e ∷ es) = ap suc (fields-long (next + 1) fields es)

cell-long : (next : ℕ) (o : Option StructDef) (es : List Exp) → length (forget_cell next o es) ≡ length es
cell-long next None es = refl
cell-long next (Some def) es = fields-long next def.fields es

atom-few : (kinds : List StructDef) (next : ℕ) (atom : Atom) → HasFew atom → HasFew (forget_atom kinds next atom)
atom-few kinds next (Points at kind fields) h = let long : length (forget_cell next (struct_named kinds kind) fields)
    ≡ length fields = cell-long next (struct_named kinds kind) fields in omega (arith, long, h)
atom-few kinds next (Seg kind link from to) h = h
atom-few kinds next Junk h = h

pub forgotten-few : (kinds : List StructDef) (next : ℕ) (atoms : List Atom) → HaveFewFields atoms
    → HaveFewFields (forget_atoms kinds next atoms)
forgotten-few kinds next [] h = All-nil HasFew
forgotten-few kinds next (atom ∷ atoms) h =
    All-cons HasFew (forget_atom kinds next atom) (forget_atoms kinds (next + fields_of atom) atoms)
    (atom-few kinds next atom (All-head HasFew atom atoms h))
    (forgotten-few kinds (next + fields_of atom) atoms (All-tail HasFew atom atoms h))

pub at_head-few : (kinds : List StructDef) (mark : HeadMark) (state : SymState) → HaveFewFields state.heap.spatial
    → HaveFewFields (at_head kinds mark state).heap.spatial
at_head-few kinds mark state h =
    reduce-each HasFew junk-few joined-few true (forget kinds mark state).locals (forget kinds mark state).heap
    (forgotten-few kinds (first_new state + length state.locals) state.heap.spatial h)

pub if_recursive-few : (recursive : Bool) (kinds : List StructDef) (flow : Flow) (post : Post) → HaveFewFields post.heap.spatial
    → HaveFewFields (forget_if_recursive recursive kinds flow post).heap.spatial
if_recursive-few true kinds flow post h = forgotten-few kinds (first_new (as_state post) + 1) post.heap.spatial h
if_recursive-few false kinds flow post h = h
