-- Marks, nodes and flows are read as they were written, and only so.
use Rattle.std.specs.Prelude.{◌≡◌, ℕ, true, codes, List, [], ◌∷◌, All, IfSome}
use Rattle.std.specs.declared.option.Option.{Option}
use Rattle.std.specs.declared.option.Option.TheVariants.{Some}
use Rattle.std.specs.Str.{bytes_eq}
use Rattle.std.proofs.Common.{refl, sym, ap, ◌∙◌, subst}
use Rattle.std.proofs.lemmas.Bool.{and_parts}
use Rattle.std.proofs.lemmas.Slice.Eq.{bytes_eq-Decides}
use Rattle.serde_json.specs.Data.{Data, null, boolean, number, string, array, object, Members, no_members, member}
use Rattle.shape_data.specs.declared.program.Cmd.{Cmd}
use Rattle.shape_data.specs.declared.program.Flow.{Flow}
use Rattle.shape_data.specs.declared.program.HeadMark.{HeadMark}
use Rattle.shape_data.specs.declared.program.Node.{Node}
use Rattle.shape_data.specs.declared.program.Ty.{Ty}
use Rattle.flow_json.specs.Commands.{cmd_data, read_cmd}
use Rattle.flow_json.specs.Flows.{flow_data, flow_members, flow_names, mark_data, mark_parts, node_data, node_parts, read_flow, read_mark}
use Rattle.flow_json.specs.Flows.{read_node}
use Rattle.flow_json.specs.Forms.{count_data, go_on, list_data, names_are, option_data, read_count, read_list, read_name, read_option}
use Rattle.flow_json.specs.Forms.{tuple}
use Rattle.flow_json.specs.Laws.{FlowFits, IsCount, IsInverse, IsName, MarkFits, NodeFits, TyFits}
use Rattle.flow_json.specs.Types.{read_ty, ty_data}
use Rattle.flow_json.proofs.CommandLaws.{cmd_inverse}
use Rattle.flow_json.proofs.InverseLemmas.{cons_is, count_inverse, go_on_is, go_on_some, last_is, list_inverse, name_inverse}
use Rattle.flow_json.proofs.InverseLemmas.{option_inverse, some_is, test_true}
use Rattle.flow_json.proofs.TypeLaws.{of_parts, ty_inverse}

-- a mark, a node, and a flow, of its parts
abbrev mark_of : List ℕ → List ℕ → HeadMark
mark_of ints dead = record { ints = ints; dead = dead }

abbrev node_of : ℕ → Option HeadMark → Cmd → Node
node_of line head cmd = record { line = line; cmd = cmd; head = head }

abbrev flow_of : List ℕ → List (List ℕ) → List Ty → Ty → List Node → Flow
flow_of name params slots ret nodes = record { name = name; params = params; slots = slots; ret = ret; nodes = nodes }

counts_inverse : IsInverse (All IsCount) (list_data count_data) (read_list read_count)
counts_inverse = list_inverse IsCount count_data read_count count_inverse

mark_parts_back : (ints : List ℕ) (dead : List ℕ) → MarkFits (mark_of ints dead) →
    mark_parts (list_data count_data ints ∷ list_data count_data dead ∷ []) ≡ Some (mark_of ints dead)
mark_parts_back ints dead fits =
    go_on_is _ _ ints _ (counts_inverse.back ints fits.0) (go_on_is _ _ dead _ (counts_inverse.back dead fits.1) refl)

mark_parts_only : (ds : List Data) (thing : HeadMark) → mark_parts ds ≡ Some thing → (mark_data thing ≡ tuple ds) × MarkFits thing
mark_parts_only (ints ∷ dead ∷ []) thing is =
    let r0 =
    go_on_some (read_list read_count ints) (λ ints'. go_on (read_list read_count dead) (λ dead'. Some (mark_of ints' dead'))) thing is in
    let e0 = counts_inverse.only ints r0.0 r0.1 in
    let r1 = go_on_some (read_list read_count dead) (λ dead'. Some (mark_of r0.0 dead')) thing r0.2 in
    let e1 = counts_inverse.only dead r1.0 r1.1 in
    let same : mark_of r0.0 r1.0 ≡ thing = some_is _ thing r1.2 in
    subst (λ one. (mark_data one ≡ tuple (ints ∷ dead ∷ [])) × MarkFits one) same (ap tuple (cons_is e0.0 (last_is e1.0)), (e0.1, e1.1))
mark_parts_only _ thing is = cc

mark_inverse : IsInverse MarkFits mark_data read_mark
mark_inverse =
    record {
      back = λ mark fits. go_on_is _ _ _ _ refl (mark_parts_back mark.ints mark.dead fits);
      only = of_parts MarkFits mark_data mark_parts mark_parts_only;
    }

head_inverse : IsInverse (λ mark. IfSome mark MarkFits) (option_data mark_data) (read_option read_mark)
head_inverse = option_inverse MarkFits mark_data read_mark mark_inverse (λ mark. refl)

node_parts_back : (line : ℕ) (head : Option HeadMark) (cmd : Cmd) → NodeFits (node_of line head cmd) →
    node_parts (count_data line ∷ option_data mark_data head ∷ cmd_data cmd ∷ []) ≡ Some (node_of line head cmd)
node_parts_back line head cmd fits =
    go_on_is _ _ line _ (count_inverse.back line fits.0)
    (go_on_is _ _ head _ (head_inverse.back head fits.1) (go_on_is _ _ cmd _ (cmd_inverse.back cmd fits.2) refl))

node_parts_only : (ds : List Data) (thing : Node) → node_parts ds ≡ Some thing → (node_data thing ≡ tuple ds) × NodeFits thing
node_parts_only (line ∷ head ∷ cmd ∷ []) thing is =
    let r0 =
    go_on_some (read_count line)
    (λ line'. go_on (read_option read_mark head) (λ head'. go_on (read_cmd cmd) (λ cmd'. Some (node_of line' head' cmd')))) thing is in
    let e0 = count_inverse.only line r0.0 r0.1 in
    let r1 = go_on_some (read_option read_mark head) (λ head'. go_on (read_cmd cmd) (λ cmd'. Some (node_of r0.0 head' cmd'))) thing r0.2 in
    let e1 = head_inverse.only head r1.0 r1.1 in
    let r2 = go_on_some (read_cmd cmd) (λ cmd'. Some (node_of r0.0 r1.0 cmd')) thing r1.2 in
    let e2 = cmd_inverse.only cmd r2.0 r2.1 in
    let same : node_of r0.0 r1.0 r2.0 ≡ thing = some_is _ thing r2.2 in
    subst (λ one. (node_data one ≡ tuple (line ∷ head ∷ cmd ∷ [])) × NodeFits one) same
    (ap tuple (cons_is e0.0 (cons_is e1.0 (last_is e2.0))), (e0.1, e1.1, e2.1))
node_parts_only _ thing is = cc

node_inverse : IsInverse NodeFits node_data read_node
node_inverse =
    record {
      back = λ node fits. go_on_is _ _ _ _ refl (node_parts_back node.line node.head node.cmd fits);
      only = of_parts NodeFits node_data node_parts node_parts_only;
    }

nodes_inverse : IsInverse (All NodeFits) (list_data node_data) (read_list read_node)
nodes_inverse = list_inverse NodeFits node_data read_node node_inverse

pub names_inverse : IsInverse (All IsName) (list_data string) (read_list read_name)
names_inverse = list_inverse IsName string read_name name_inverse

types_inverse : IsInverse (All TyFits) (list_data ty_data) (read_list read_ty)
types_inverse = list_inverse TyFits ty_data read_ty ty_inverse

-- ---- flows

-- an object's first member, and the others
pub first_member : (name : List ℕ) (names : List (List ℕ)) (members : Members) → names_are (name ∷ names) members ≡ true →
    (d : Data) × (others : Members) × (members ≡ member name d others) × (names_are names others ≡ true)
first_member name names no_members is = cc
first_member name names (member key d others) is =
    let both = and_parts (bytes_eq key name) (names_are names others) is in
    (d, others, ap (λ one. member one d others) ((bytes_eq-Decides key name).0 both.0), both.1)

pub no_member : (members : Members) → names_are [] members ≡ true → members ≡ no_members
no_member no_members is = refl
no_member (member key d others) is = cc

-- an object with the members of a flow
abbrev flow_object : Data → Data → Data → Data → Data → Data
flow_object name nodes params ret slots =
    object (member (codes "name") name
    (member (codes "nodes") nodes (member (codes "params") params (member (codes "ret") ret (member (codes "slots") slots no_members)))))

flow_shape : (members : Members) → names_are flow_names members ≡ true →
    (name : Data) × (nodes : Data) × (params : Data) × (ret : Data) × (slots : Data)
    × (object members ≡ flow_object name nodes params ret slots)
flow_shape members is =
    let one = first_member (codes "name") (codes "nodes" ∷ codes "params" ∷ codes "ret" ∷ codes "slots" ∷ []) members is in
    let two = first_member (codes "nodes") (codes "params" ∷ codes "ret" ∷ codes "slots" ∷ []) one.1 one.3 in
    let three = first_member (codes "params") (codes "ret" ∷ codes "slots" ∷ []) two.1 two.3 in
    let four = first_member (codes "ret") (codes "slots" ∷ []) three.1 three.3 in
    let five = first_member (codes "slots") [] four.1 four.3 in
    let none = no_member five.1 five.3 in (
      one.0,
      two.0,
      three.0,
      four.0,
      five.0,
      ap object (one.2 ∙ ap (λ rest. member (codes "name") one.0 rest) (two.2 ∙
          ap (λ rest. member (codes "nodes") two.0 rest) (three.2 ∙ ap (λ rest. member (codes "params") three.0 rest) (four.2 ∙
          ap (λ rest. member (codes "ret") four.0 rest) (five.2 ∙ ap (λ rest. member (codes "slots") five.0 rest) none))))),
    )

members_back : (flow : Flow) → FlowFits flow → flow_members (flow_data flow) ≡ Some flow
members_back flow fits =
    go_on_is _ _ flow.name _ (go_on_is _ _ (string flow.name) _ refl (name_inverse.back flow.name fits.name)) (
    go_on_is _ _ flow.nodes _ (go_on_is _ _ (list_data node_data flow.nodes) _ refl (nodes_inverse.back flow.nodes fits.nodes)) (
    go_on_is _ _ flow.params _ (go_on_is _ _ (list_data string flow.params) _ refl (names_inverse.back flow.params fits.params)) (
    go_on_is _ _ flow.ret _ (go_on_is _ _ (ty_data flow.ret) _ refl (ty_inverse.back flow.ret fits.ret)) (
    go_on_is _ _ flow.slots _ (go_on_is _ _ (list_data ty_data flow.slots) _ refl (types_inverse.back flow.slots fits.slots)) refl))))

-- what is gone on with at a thing that is there
pub at_some : {A B : Type 0} (a : A) (next : A → Option B) (b : B) → go_on (Some a) next ≡ Some b → next a ≡ Some b
unfolding go_on
at_some a next b is = is

members_only : (name nodes params ret slots : Data) (flow : Flow) → flow_members (flow_object name nodes params ret slots) ≡ Some flow →
    (flow_data flow ≡ flow_object name nodes params ret slots) × FlowFits flow
members_only name nodes params ret slots flow is =
    let r0 =
    go_on_some (go_on (Some name) (read_name))
    (λ name'. go_on (go_on (Some nodes) (read_list read_node))
    (λ nodes'. go_on (go_on (Some params) (read_list read_name))
    (λ params'. go_on (go_on (Some ret) (read_ty))
    (λ ret'. go_on (go_on (Some slots) (read_list read_ty)) (λ slots'. Some (flow_of name' params' slots' ret' nodes')))))) flow is in
    let e0 = name_inverse.only name r0.0 (at_some name (read_name) r0.0 r0.1) in
    let r1 =
    go_on_some (go_on (Some nodes) (read_list read_node))
    (λ nodes'. go_on (go_on (Some params) (read_list read_name))
    (λ params'. go_on (go_on (Some ret) (read_ty))
    (λ ret'. go_on (go_on (Some slots) (read_list read_ty)) (λ slots'. Some (flow_of r0.0 params' slots' ret' nodes'))))) flow r0.2 in
    let e1 = nodes_inverse.only nodes r1.0 (at_some nodes (read_list read_node) r1.0 r1.1) in
    let r2 =
    go_on_some (go_on (Some params) (read_list read_name))
    (λ params'. go_on (go_on (Some ret) (read_ty))
    (λ ret'. go_on (go_on (Some slots) (read_list read_ty)) (λ slots'. Some (flow_of r0.0 params' slots' ret' r1.0)))) flow r1.2 in
    let e2 = names_inverse.only params r2.0 (at_some params (read_list read_name) r2.0 r2.1) in
    let r3 =
    go_on_some (go_on (Some ret) (read_ty))
    (λ ret'. go_on (go_on (Some slots) (read_list read_ty)) (λ slots'. Some (flow_of r0.0 r2.0 slots' ret' r1.0))) flow r2.2 in
    let e3 = ty_inverse.only ret r3.0 (at_some ret (read_ty) r3.0 r3.1) in
    let r4 = go_on_some (go_on (Some slots) (read_list read_ty)) (λ slots'. Some (flow_of r0.0 r2.0 slots' r3.0 r1.0)) flow r3.2 in
    let e4 = types_inverse.only slots r4.0 (at_some slots (read_list read_ty) r4.0 r4.1) in
    subst (λ flow. (flow_data flow ≡ flow_object name nodes params ret slots) × FlowFits flow)
    (some_is (flow_of r0.0 r2.0 r4.0 r3.0 r1.0) flow r4.2)
    (rw (e0.0, e1.0, e2.0, e3.0, e4.0) refl, record { name = e0.1; nodes = e1.1; params = e2.1; ret = e3.1; slots = e4.1 })

pub flow_inverse : IsInverse FlowFits flow_data read_flow
flow_inverse = record { back = members_back; only = only }
  where
    only : (d : Data) (flow : Flow) → read_flow d ≡ Some flow → (flow_data flow ≡ d) × FlowFits flow
    only null flow is = cc
    only (boolean b) flow is = cc
    only (number n) flow is = cc
    only (string s) flow is = cc
    only (array ds) flow is = cc
    only (object members) flow is =
        let tested = test_true (names_are flow_names members) (flow_members (object members)) flow is in
        let shape = flow_shape members tested.0 in
        let read : flow_members (flow_object shape.0 shape.1 shape.2 shape.3 shape.4) ≡ Some flow =
        ap flow_members (sym shape.5) ∙ tested.1 in
        let one = members_only shape.0 shape.1 shape.2 shape.3 shape.4 flow read in
        (one.0 ∙ sym shape.5, one.1)
