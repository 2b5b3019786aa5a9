-- What is well formed over a list of structures is so over a smaller one, where that has each structure that is named.
use Rattle.std.proofs.Common.{◌≡◌, ◌≢◌, ℕ, ◌<◌, ◌≤◌, nat_eq, Bool, true, List, [], ◌++◌, length, map, slice_get, get_or, Some, None, Option}
use Rattle.std.proofs.Common.{refl, sym, ap, ◌∙◌, subst, filter, filter_map, arith, AllPairs, IsSome}
use Rattle.std.specs.Cmp.Lexicographic.{pointwise}
use Rattle.std.specs.List.{Contains, flat_map, position_or_len}
use Rattle.std.specs.Option.{IsSomeAnd, option_map, option_to_list}
use Rattle.std.specs.Str.{bytes_eq}
use Rattle.std.proofs.lemmas.List.Elements.{Contains-append_left, Contains-append_right}
use Rattle.std.proofs.lemmas.List.Kept.{AllPairs-filter}
use Rattle.std.proofs.lemmas.Option.{slice_get-get_or, get_or_from_slice_get, slice_get_within}
use Rattle.shape_data.specs.Exact.{IsExactTest, row_same, number_same}
use Rattle.shape_data.specs.declared.answer.Callee.{Callee}
use Rattle.shape_data.specs.declared.program.Cmd.{Cmd}
use Rattle.shape_data.specs.declared.program.Cmd.TheVariants as cmd
use Rattle.shape_data.specs.declared.program.Flow.{Flow}
use Rattle.shape_data.specs.declared.program.Node.{Node}
use Rattle.shape_data.specs.declared.program.StructDef.{StructDef}
use Rattle.shape_data.specs.declared.symbolic.Atom.{Atom}
use Rattle.shape_data.specs.declared.symbolic.Atom.TheVariants.{Points, Seg, Junk}
use Rattle.shape_data.specs.declared.symbolic.Post.{Post}
use Rattle.shape_data.specs.declared.symbolic.Spec.{Spec}
use Rattle.shape_data.specs.declared.symbolic.SymHeap.{SymHeap}
use Rattle.shape_data.specs.Heap.{struct_named}
use Rattle.shape_data.specs.Structures.{ContainsStructures}
use Rattle.shape_data.specs.WellFormed.{AreStructs, IsAtom, IsCallee, IsCmd, IsField, IsFlow, IsKind, IsNode, IsPost, IsSpec, IsStruct}
use Rattle.shape_data.specs.WellFormed.{IsSymHeap, Limits}
use Rattle.component_keys.specs.Components.{holds, by_name, reached_from}
use Rattle.component_keys.specs.Structures.{atom_struct, command_struct, named_by_callee, named_by_flow, named_by_heap, named_by_spec}
use Rattle.component_keys.specs.Structures.{named_numbers, pointed_rows, struct_number, structs_from, structs_used, type_struct}
use Rattle.component_keys.proofs.Basics.{some_same, found, is_found, at_map}
use Rattle.component_keys.proofs.Ordered.{held_at}
use Rattle.component_keys.proofs.Reach.{holds_at}
use Rattle.component_keys.proofs.Whole.{by_name_holds, from_filter_map, in_filter_holds, in_filter_map, length-by_name, reached_keeps}
use Rattle.component_keys.proofs.Basics.{filter_less}
use Rattle.call_components.proofs.Graphs.{differ_at}
use Rattle.key_laws.proofs.Elements.{all_of, all_where, in_flat_map, contained_at, place_of_contained, length-filter_map, pairs_mapped}
use Rattle.key_laws.proofs.Elements.{first_place, position_found}
use Rattle.key_laws.proofs.Rising.{IsBelow, HasNameBelow, named, by_name_rising, below_differ}

names_exact : IsExactTest (pointwise nat_eq)
names_exact = row_same number_same

-- ---- over a list with the structures that are named

-- the smaller list has the structure that the larger has of a name
abbrev pub Keeps : List StructDef → List StructDef → List ℕ → Type 0
Keeps larger smaller name = (def : StructDef) → struct_named larger name ≡ Some def → struct_named smaller name ≡ Some def

module _ (larger smaller : List StructDef) where
  kind_kept : (kind : List ℕ) → Keeps larger smaller kind → IsKind larger kind → IsKind smaller kind
  kind_kept kind keeps some = by_found (struct_named larger kind) refl some
    where
      by_found : (o : Option StructDef) → struct_named larger kind ≡ o → IsSome o → IsKind smaller kind
      by_found None is some = cc
      by_found (Some def) is some = rw (keeps def is) refl

  named_kept : (kind : List ℕ) (P : StructDef → Type 0) → Keeps larger smaller kind → IsSomeAnd (struct_named larger kind) P →
      IsSomeAnd (struct_named smaller kind) P
  named_kept kind P keeps some = by_found (struct_named larger kind) refl some
    where
      by_found : (o : Option StructDef) → struct_named larger kind ≡ o → IsSomeAnd o P → IsSomeAnd (struct_named smaller kind) P
      by_found None is some = absurd some
      by_found (Some def) is some = rw (keeps def is) some

  field_kept : (kind : List ℕ) (field : ℕ) → Keeps larger smaller kind → IsField larger kind field → IsField smaller kind field
  field_kept kind field keeps some = named_kept kind (λ def. field < length def.fields) keeps some

  cmd_kept : (slots nodes : ℕ) (cmd : Cmd) → ((name : List ℕ) → command_struct cmd ≡ Some name → Keeps larger smaller name) →
      IsCmd larger slots nodes cmd → IsCmd smaller slots nodes cmd
  cmd_kept slots nodes (cmd.Copy to from next) keeps is = is
  cmd_kept slots nodes (cmd.Arith to op left right next) keeps is = is
  cmd_kept slots nodes (cmd.Any to ty next) keeps is = is
  cmd_kept slots nodes (cmd.Load to base kind field next) keeps is = (is.0, is.1, field_kept kind field (keeps kind refl) is.2, is.3)
  cmd_kept slots nodes (cmd.Store base kind field from next) keeps is = (is.0, field_kept kind field (keeps kind refl) is.1, is.2, is.3)
  cmd_kept slots nodes (cmd.New to kind next) keeps is = (is.0, kind_kept kind (keeps kind refl) is.1, is.2)
  cmd_kept slots nodes (cmd.Free base kind next) keeps is = (is.0, kind_kept kind (keeps kind refl) is.1, is.2)
  cmd_kept slots nodes (cmd.Call to callee args next) keeps is = is
  cmd_kept slots nodes (cmd.Branch op pointers left right on_true on_false) keeps is = is
  cmd_kept slots nodes (cmd.Return value) keeps is = is

  -- a procedure
  pub flow_kept : (flow : Flow) → ((name : List ℕ) → Contains (named_by_flow flow) name → Keeps larger smaller name) → IsFlow larger flow →
      IsFlow smaller flow
  flow_kept flow keeps is = record {
    name = is.name;
    params = is.params;
    param_slots = is.param_slots;
    slots = is.slots;
    types = is.types;
    ret = is.ret;
    entry = is.entry;
    countable = is.countable;
    nodes =
        all_where (IsNode larger (length flow.slots) (length flow.nodes))
        (IsNode smaller (length flow.slots) (length flow.nodes)) flow.nodes
        (λ i node at one. record {
          command = cmd_kept (length flow.slots) (length flow.nodes) node.cmd
              (λ name is_named.
              let there = in_filter_map (λ (other : Node). command_struct other.cmd) flow.nodes i node name at is_named in
              keeps name (Contains-append_right (filter_map type_struct flow.slots ++ option_to_list (type_struct flow.ret))
              (filter_map (λ (other : Node). command_struct other.cmd) flow.nodes) name
              (contained_at (filter_map (λ (other : Node). command_struct other.cmd) flow.nodes) there.0 name there.1)))
              one.command;
          head = one.head;
        }) is.nodes;
  }

  module _ (limits : Limits) (params : ℕ) where
    atom_kept : (atom : Atom) → ((name : List ℕ) → atom_struct atom ≡ Some name → Keeps larger smaller name) →
        IsAtom limits larger params atom → IsAtom limits smaller params atom
    atom_kept (Points at kind fields) keeps is =
        (is.0, named_kept kind (λ def. length fields ≡ length def.fields) (keeps kind refl) is.1, is.2)
    atom_kept (Seg kind link from to) keeps is = (field_kept kind link (keeps kind refl) is.0, is.1, is.2)
    atom_kept Junk keeps is = is

    heap_kept : (heap : SymHeap) → ((name : List ℕ) → Contains (named_by_heap heap) name → Keeps larger smaller name) →
        IsSymHeap limits larger params heap → IsSymHeap limits smaller params heap
    heap_kept heap keeps is = record {
      parts = is.parts;
      facts = is.facts;
      atoms = all_where (IsAtom limits larger params) (IsAtom limits smaller params) heap.spatial
          (λ i atom at one. atom_kept atom
          (λ name is_named. let there = in_filter_map atom_struct heap.spatial i atom name at is_named in keeps name
          (contained_at (filter_map atom_struct heap.spatial) there.0 name there.1)) one) is.atoms;
    }

    spec_kept : (spec : Spec) → ((name : List ℕ) → Contains (named_by_spec spec) name → Keeps larger smaller name) →
        IsSpec limits larger params spec → IsSpec limits smaller params spec
    spec_kept spec keeps is = record {
      pre =
          heap_kept spec.pre
          (λ name c. keeps name
          (Contains-append_left (named_by_heap spec.pre) (flat_map (λ post. named_by_heap post.heap) spec.posts) name c)) is.pre;
      countable = is.countable;
      posts = all_where (IsPost limits larger params) (IsPost limits smaller params) spec.posts
          (λ i post at one. record {
            ret = one.ret;
            heap = heap_kept post.heap
                (λ name c. keeps name
                (Contains-append_right (named_by_heap spec.pre) (flat_map (λ other. named_by_heap other.heap) spec.posts) name
                (in_flat_map (λ (other : Post). named_by_heap other.heap) spec.posts i post name at c)))
                one.heap;
          }) is.posts;
    }

-- a callee
pub callee_kept : (larger smaller : List StructDef) (limits : Limits) (callee : Callee) →
    ((name : List ℕ) → Contains (named_by_callee callee) name → Keeps larger smaller name) →
    IsCallee limits larger callee → IsCallee limits smaller callee
callee_kept larger smaller limits callee keeps is = record {
  name = is.name;
  params = is.params;
  few = is.few;
  specs = all_where (IsSpec limits larger (length callee.params)) (IsSpec limits smaller (length callee.params)) callee.specs
      (λ i spec at one. spec_kept larger smaller limits (length callee.params) spec
      (λ name c. keeps name (in_flat_map named_by_spec callee.specs i spec name at c)) one) is.specs;
}

-- ---- the structures used

module _ (structs : List StructDef) (are : AreStructs structs) where
  abbrev struct_names : List (List ℕ)
  struct_names = map (λ (def : StructDef). def.name) structs

  abbrev order : List ℕ
  order = by_name struct_names (length structs)

  name_at : (i : ℕ) (def : StructDef) → slice_get structs i ≡ Some def → named struct_names i ≡ def.name
  name_at i def at =
      get_or_from_slice_get struct_names i def.name []
      (at_map (λ (one : StructDef). one.name) structs i ∙ ap (option_map (λ (one : StructDef). one.name)) at)

  order_rises : AllPairs (HasNameBelow struct_names) order
  order_rises = by_name_rising struct_names (length structs) (λ i j lt less same.
      let d : StructDef = record { name = []; fields = [] } in
      let one = slice_get-get_or structs i d lt in
      let other = slice_get-get_or structs j d less in
      differ_at (λ (def : StructDef). def.name) structs are.different i j (get_or structs i d) (get_or structs j d) one other
      (sym (name_at i (get_or structs i d) one) ∙ same ∙ name_at j (get_or structs j d) other))

  module _ (numbers : List ℕ) where
    abbrev is_reached : ℕ → Bool
    is_reached = holds (reached_from (pointed_rows structs) numbers)

    abbrev kept : List StructDef
    kept = structs_from structs numbers

    kept_from : (k : ℕ) (def : StructDef) → slice_get kept k ≡ Some def → (i : ℕ) × (slice_get structs i ≡ Some def)
    kept_from k def at = let from = from_filter_map (slice_get structs) (filter is_reached order) k def at in (from.1, from.3)

    -- one of a name is the one of that name
    same_def : (i j : ℕ) (one other : StructDef) → slice_get structs i ≡ Some one → slice_get structs j ≡ Some other →
        one.name ≡ other.name → one ≡ other
    same_def i j one other at at' same =
        let place : i ≡ j = differ_at (λ (def : StructDef). def.name) structs are.different i j one other at at' same in
        some_same (sym at ∙ ap (slice_get structs) place ∙ at')

    pub kept_are : AreStructs kept
    kept_are = record {
      countable =
          let less : length kept ≤ length (filter is_reached order) = length-filter_map (slice_get structs) (filter is_reached order) in
          let few : length (filter is_reached order) ≤ length order = filter_less is_reached order in
          let all : length order ≡ length structs = length-by_name struct_names (length structs) in
          let small : length structs < 4294967296 = are.countable in
          omega (arith, less, few, all, small);
      each =
          all_of IsStruct kept
          (λ k def at. let from = kept_from k def at in subst IsStruct (get_or_from_slice_get structs from.0 def def from.1)
          (are.each from.0 def (slice_get_within structs from.0 def from.1)));
      different = pairs_mapped (slice_get structs) (HasNameBelow struct_names) (λ one other. one.name ≢ other.name)
          (λ i j one other less at at'. below_differ one.name other.name
          (subst (λ n. IsBelow n other.name) (name_at i one at) (subst (IsBelow (named struct_names i)) (name_at j other at') less)))
          (filter is_reached order) (AllPairs-filter (HasNameBelow struct_names) is_reached order order_rises);
    }

    -- what is kept is the list's
    pub kept_contained : ContainsStructures structs kept
    kept_contained name def is =
        let there = found (λ (one : StructDef). bytes_eq one.name name) kept def is in
        let from = kept_from there.1.0 def there.1.1 in
        let first = is_found (λ (one : StructDef). bytes_eq one.name name) structs from.0 def from.1 there.0 in
        let own = found (λ (one : StructDef). bytes_eq one.name name) structs first.0 first.1 in
        let same : first.0
        ≡ def =
        same_def own.1.0 from.0 first.0 def own.1.1 from.1
        ((names_exact first.0.name name).0 own.0 ∙ sym ((names_exact def.name name).0 there.0)) in
        first.1 ∙ ap (λ one. Some one) same

    -- and what is named is kept
    pub numbered_kept : (name : List ℕ) → ((number : ℕ) → struct_number structs name ≡ Some number → holds numbers number ≡ true) →
        Keeps structs kept name
    numbered_kept name is_named def is =
        let test = λ (one : StructDef). bytes_eq one.name name in
        let place : ℕ = position_or_len test structs in
        let at : slice_get structs place ≡ Some def = first_place test structs def is in
        let start : holds numbers place ≡ true = is_named place (position_found test structs def is) in
        let reached : is_reached place ≡ true = reached_keeps (length (pointed_rows structs)) (pointed_rows structs) numbers place start in
        let ordered : holds order place ≡ true =
        by_name_holds struct_names (length structs) place (slice_get_within structs place def at) in
        let in_filter : holds (filter is_reached order) place ≡ true = in_filter_holds is_reached order place ordered reached in
        let held = held_at (filter is_reached order) place in_filter in
        let there = in_filter_map (slice_get structs) (filter is_reached order) held.0 place def held.1 at in
        let passes : test def ≡ true = (found test structs def is).0 in
        let first = is_found test kept there.0 def there.1 passes in
        let own = found test kept first.0 first.1 in
        let from = kept_from own.1.0 first.0 own.1.1 in
        let same : first.0
        ≡ def =
        same_def from.0 place first.0 def from.1 at
        ((names_exact first.0.name name).0 own.0 ∙ sym ((names_exact def.name name).0 passes)) in
        first.1 ∙ ap (λ one. Some one) same

  module _ (flows : List Flow) (callees : List Callee) where
    used_is : structs_used structs flows callees ≡ structs_from structs (named_numbers structs flows callees)
    unfolding structs_used
    used_is = refl

    pub used_are : AreStructs (structs_used structs flows callees)
    used_are = subst AreStructs (sym used_is) (kept_are (named_numbers structs flows callees))

    pub used_contained : ContainsStructures structs (structs_used structs flows callees)
    used_contained = subst (ContainsStructures structs) (sym used_is) (kept_contained (named_numbers structs flows callees))

    -- what a procedure or a callee names is used
    pub named_used : (name : List ℕ) → Contains (flat_map named_by_flow flows ++ flat_map named_by_callee callees) name →
        Keeps structs (structs_used structs flows callees) name
    named_used name c =
        subst (λ l. Keeps structs l name) (sym used_is)
        (numbered_kept (named_numbers structs flows callees) name
        (λ number is.
        let place = place_of_contained (flat_map named_by_flow flows ++ flat_map named_by_callee callees) name c in
        let there =
        in_filter_map (struct_number structs)
        (flat_map named_by_flow flows ++ flat_map named_by_callee callees) place.0 name number place.1 is in
        holds_at (named_numbers structs flows callees) there.0 number there.1))
