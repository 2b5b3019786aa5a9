-- Abstraction at the head of a loop, and at an exit, makes no logical variable.
use Rattle.std.specs.Prelude.{◌≡◌, ℕ, ◌+◌, ◌<◌, ◌≤◌, Bool, true, false, ◌&&◌, if◌then◌else◌, List, [], ◌∷◌, length, All}
use Rattle.std.specs.declared.option.Option.{Option}
use Rattle.std.specs.declared.option.Option.TheVariants.{None, Some}
use Rattle.std.proofs.Common.{sym, subst, arith}
use Rattle.std.proofs.lemmas.List.Elements.{All-cons, All-head, All-nil, All-tail}
use Rattle.shape_data.specs.declared.program.Field.{Field}
use Rattle.shape_data.specs.declared.program.Flow.{Flow}
use Rattle.shape_data.specs.declared.program.HeadMark.{HeadMark}
use Rattle.shape_data.specs.declared.program.StructDef.{StructDef}
use Rattle.shape_data.specs.declared.symbolic.Atom.{Atom}
use Rattle.shape_data.specs.declared.symbolic.Atom.TheVariants.{Points, Seg, Junk}
use Rattle.shape_data.specs.declared.symbolic.Exp.{Exp}
use Rattle.shape_data.specs.declared.symbolic.Exp.TheVariants.{Var}
use Rattle.shape_data.specs.declared.symbolic.Post.{Post}
use Rattle.shape_data.specs.declared.symbolic.SymState.{SymState}
use Rattle.shape_data.specs.Heap.{struct_named}
use Rattle.sym_parts.specs.Laws.Each.{EachInAtom, EachInPost, EachInState}
use Rattle.sym_pure.proofs.EachLaws.{form-each}
use Rattle.sym_canon.specs.Canonical.{as_state, canon_post, canon_state}
use Rattle.sym_forms.specs.Sizes.{fields_of}
use Rattle.abstraction_laws.specs.Forgetting.{first_new, forget, forget_atom, forget_atoms, forget_cell, forget_fields, forget_slots}
use Rattle.abstraction_laws.specs.Forgetting.{forget_value, is_constant, is_forgotten, is_int}
use Rattle.abstraction_laws.specs.Heads.{abstract_exit, abstract_head, at_exit, at_head, forget_if_recursive, post_of, reduced}
use Rattle.abstraction_laws.specs.Repeating.{size_of}
use Rattle.abstraction_laws.proofs.ForgetLaws.{logical-low}
use Rattle.abstraction_laws.proofs.KeptLaws.{reduce-each}
use Rattle.abstraction_laws.proofs.NormalResults.{exit-locals, made-of, one-local}
use Rattle.abstraction_laws.proofs.PairRoomLaws.{joined-each, times-facts}
use Rattle.solve_laws.proofs.LimitsLemmas.Numbered.{as_state-each, canon-kept, canon_post-kept, of_state-each}

module _ (P : Exp → Type 0) (new : (x : ℕ) → 65536 ≤ x → P (Var x)) where
  -- ---- constants forgotten

  or-new : (b : Bool) (next : ℕ) (e : Exp) → 65536 ≤ next → P e → P (if b then Var next else e)
  or-new true next e high is = new next high
  or-new false next e high is = is

  slots-kept : (mark : HeadMark) (next slot : ℕ) (es : List Exp) → 65536 ≤ next → All P es → All P (forget_slots mark next slot es)
  slots-kept mark next slot [] high is = All-nil P
  slots-kept mark next slot (e ∷ es) high is =
      All-cons P (if is_forgotten mark slot e then Var next else e) (forget_slots mark (next + 1) (slot + 1) es)
      (or-new (is_forgotten mark slot e) next e high (All-head P e es is))
      (slots-kept mark (next + 1) (slot + 1) es (omega (arith, high)) (All-tail P e es is))

  fields-kept : (next : ℕ) (fields : List Field) (es : List Exp) → 65536 ≤ next → All P es → All P (forget_fields next fields es)
  fields-kept next fields [] high is = All-nil P
  fields-kept next [] (e ∷ es) high is = is
  fields-kept next (field ∷ fields) (e ∷ es) high is =
      All-cons P (forget_value next field.ty e) (forget_fields (next + 1) fields es)
      (or-new (is_int field.ty && is_constant e) next e high (All-head P e es is))
      (fields-kept (next + 1) fields es (omega (arith, high)) (All-tail P e es is))

  cell-kept : (next : ℕ) (def : Option StructDef) (es : List Exp) → 65536 ≤ next → All P es → All P (forget_cell next def es)
  cell-kept next None es high is = is
  cell-kept next (Some def) es high is = fields-kept next def.fields es high is

  atom-kept : (kinds : List StructDef) (next : ℕ) (atom : Atom) → 65536 ≤ next → EachInAtom P atom
      → EachInAtom P (forget_atom kinds next atom)
  atom-kept kinds next (Points at kind fields) high is = (is.0, cell-kept next (struct_named kinds kind) fields high is.1)
  atom-kept kinds next (Seg kind link from to) high is = is
  atom-kept kinds next Junk high is = tt

  atoms-kept : (kinds : List StructDef) (next : ℕ) (atoms : List Atom) → 65536 ≤ next → All (EachInAtom P) atoms
      → All (EachInAtom P) (forget_atoms kinds next atoms)
  atoms-kept kinds next [] high is = All-nil (EachInAtom P)
  atoms-kept kinds next (atom ∷ atoms) high is =
      All-cons (EachInAtom P) (forget_atom kinds next atom) (forget_atoms kinds (next + fields_of atom) atoms)
      (atom-kept kinds next atom high (All-head (EachInAtom P) atom atoms is))
      (atoms-kept kinds (next + fields_of atom) atoms (omega (arith, high)) (All-tail (EachInAtom P) atom atoms is))

  first-high : (state : SymState) → 65536 ≤ first_new state
  first-high state = let last : 65535 < first_new state = logical-low state 65535 (omega arith) in omega (arith, last)

  -- ---- reduced

  reduced-kept : (joins : Bool) (state : SymState) → EachInState P state → EachInState P (reduced joins state)
  reduced-kept joins state is = record {
    locals = is.locals;
    heap = record {
      facts = times-facts P (size_of state.heap) joins state.locals state.heap is.heap.facts;
      atoms = reduce-each (EachInAtom P) tt (joined-each P) joins state.locals state.heap is.heap.atoms;
    };
  }

  -- ---- at the head of a loop

  head-kept : (kinds : List StructDef) (mark : HeadMark) (state : SymState) → EachInState P state → EachInState P (at_head kinds mark state)
  head-kept kinds mark state is =
      let high : 65536 ≤ first_new state = first-high state in
      reduced-kept true (forget kinds mark state)
      (record {
        locals = slots-kept mark (first_new state) 0 state.locals high is.locals;
        heap =
            record {
              facts = is.heap.facts;
              atoms = atoms-kept kinds (first_new state + length state.locals) state.heap.spatial (omega (arith, high)) is.heap.atoms;
            };
      })

  pub abstract_head-kept : (state form : SymState) (flow : Flow) (mark : HeadMark) (kinds : List StructDef) → EachInState P state
      → abstract_head state flow mark kinds ≡ Some form → EachInState P form
  abstract_head-kept state form flow mark kinds is h =
      let made = made-of (λ one. canon_state one (length flow.params)) (at_head kinds mark state) form h in
      subst (EachInState P) made.made
      (canon-kept P new made.form (length flow.params)
      (form-each P (at_head kinds mark state) made.form made.form_is (head-kept kinds mark state is)))

  -- ---- at an exit

  exit-forgets : (recursive : Bool) (kinds : List StructDef) (flow : Flow) (post : Post) → EachInPost P post
      → EachInPost P (forget_if_recursive recursive kinds flow post)
  exit-forgets false kinds flow post is = is
  exit-forgets true kinds flow post is =
      let high : 65536 ≤ first_new (as_state post) = first-high (as_state post) in
      record {
        ret = or-new (is_int flow.ret && is_constant post.ret) (first_new (as_state post)) post.ret high is.ret;
        heap =
            record {
              facts = is.heap.facts;
              atoms = atoms-kept kinds (first_new (as_state post) + 1) post.heap.spatial (omega (arith, high)) is.heap.atoms;
            };
      }

  exit-kept : (recursive : Bool) (kinds : List StructDef) (flow : Flow) (post : Post) → EachInPost P post
      → EachInState P (at_exit recursive kinds flow post)
  exit-kept recursive kinds flow post is =
      reduced-kept recursive (as_state (forget_if_recursive recursive kinds flow post))
      (as_state-each P (forget_if_recursive recursive kinds flow post) (exit-forgets recursive kinds flow post is))

  pub abstract_exit-kept : (post form : Post) (flow : Flow) (kinds : List StructDef) (recursive : Bool) → EachInPost P post
      → abstract_exit post flow kinds recursive ≡ Some form → EachInPost P form
  abstract_exit-kept post form flow kinds recursive is h =
      let params : ℕ = length flow.params in
      let made = made-of (λ one. canon_post (post_of post.ret one) params) (at_exit recursive kinds flow post) form h in
      let each : EachInState P made.form =
      form-each P (at_exit recursive kinds flow post) made.form made.form_is (exit-kept recursive kinds flow post is) in
      let same : as_state (post_of post.ret made.form) ≡ made.form =
      one-local post.ret made.form (exit-locals recursive kinds flow post made.form made.form_is) in
      subst (EachInPost P) made.made
      (canon_post-kept P new (post_of post.ret made.form) params
      (of_state-each P (post_of post.ret made.form) (subst (EachInState P) (sym same) each)))
