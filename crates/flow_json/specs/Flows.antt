-- The JSON forms of nodes and flows.
use Rattle.std.specs.Prelude.{ℕ, codes, List, [], ◌∷◌, All, IsUtf8}
use Rattle.std.specs.declared.option.Option.{Option}
use Rattle.std.specs.declared.option.Option.TheVariants.{None, Some}
use Rattle.serde_json.specs.Data.{Data, string, object, member, no_members}
use Rattle.serde_json.specs.Find.{get}
use Rattle.shape_data.specs.declared.program.Flow.{Flow}
use Rattle.shape_data.specs.declared.program.HeadMark.{HeadMark}
use Rattle.shape_data.specs.declared.program.Node.{Node}
use Rattle.flow_json.specs.Commands.{cmd_data, read_cmd, CmdIsText}
use Rattle.flow_json.specs.Forms.{as_list, count_data, go_on, list_data, option_data, read_count, read_list, read_name, read_object}
use Rattle.flow_json.specs.Forms.{read_option, tuple}
use Rattle.flow_json.specs.Types.{read_ty, ty_data, TyIsText}

-- the mark of a loop head: `[ints,dead]`
abbrev pub mark_data : HeadMark → Data
mark_data mark = tuple (list_data count_data mark.ints ∷ list_data count_data mark.dead ∷ [])

abbrev pub mark_parts : List Data → Option HeadMark
mark_parts (ints ∷ dead ∷ []) =
    go_on (read_list read_count ints) (λ ints. go_on (read_list read_count dead) (λ dead. Some (record { ints = ints; dead = dead })))
mark_parts _ = None

abbrev pub read_mark : Data → Option HeadMark
read_mark d = go_on (as_list d) mark_parts

-- a node: `[line,null or [ints,dead],command]`
abbrev pub node_data : Node → Data
node_data node = tuple (count_data node.line ∷ option_data mark_data node.head ∷ cmd_data node.cmd ∷ [])

abbrev pub node_parts : List Data → Option Node
node_parts (line ∷ head ∷ cmd ∷ []) =
    go_on (read_count line)
    (λ line. go_on (read_option read_mark head)
    (λ head. go_on (read_cmd cmd) (λ cmd. Some (record { line = line; cmd = cmd; head = head }))))
node_parts _ = None

abbrev pub read_node : Data → Option Node
read_node d = go_on (as_list d) node_parts

-- a flow: `{"name","nodes","params","ret","slots"}`
abbrev pub flow_data : Flow → Data
flow_data flow =
    object (member (codes "name") (string flow.name) (member (codes "nodes") (list_data node_data flow.nodes)
    (member (codes "params") (list_data string flow.params) (member (codes "ret") (ty_data flow.ret)
    (member (codes "slots") (list_data ty_data flow.slots) no_members)))))

abbrev pub flow_names : List (List ℕ)
flow_names = codes "name" ∷ codes "nodes" ∷ codes "params" ∷ codes "ret" ∷ codes "slots" ∷ []

abbrev pub flow_members : Data → Option Flow
flow_members d =
    go_on (go_on (get (codes "name") d) read_name) (λ name.
    go_on (go_on (get (codes "nodes") d) (read_list read_node)) (λ nodes.
    go_on (go_on (get (codes "params") d) (read_list read_name)) (λ params.
    go_on (go_on (get (codes "ret") d) read_ty) (λ ret.
    go_on (go_on (get (codes "slots") d) (read_list read_ty)) (λ slots.
    Some (record { name = name; params = params; slots = slots; ret = ret; nodes = nodes }))))))

abbrev pub read_flow : Data → Option Flow
read_flow d = read_object flow_names flow_members d

-- WHAT CAN BE WRITTEN

abbrev pub NodeIsText : Node → Type 0
NodeIsText node = CmdIsText node.cmd

pub record FlowIsText (flow : Flow) : Type 0 where
  pub name : IsUtf8 flow.name
  pub params : All IsUtf8 flow.params
  pub slots : All TyIsText flow.slots
  pub ret : TyIsText flow.ret
  pub nodes : All NodeIsText flow.nodes
