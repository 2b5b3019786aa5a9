-- The flow form of procedures and programs, and what is too large for it.
use Rattle.std.specs.Prelude.{ℕ, suc, ◌+◌, nat_le, Option, Some, None, List, [], ◌∷◌, ◌++◌, map, length, pos}
use Rattle.shape_data.specs.declared.program.Cmd.TheVariants as cmd
use Rattle.shape_data.specs.declared.program.Flow.{Flow}
use Rattle.shape_data.specs.declared.program.Operand.TheVariants.{Slot, Num}
use Rattle.shape_data.specs.declared.program.Proc.{Proc}
use Rattle.shape_data.specs.declared.program.Program.{Program}
use Rattle.shape_data.specs.declared.program.Ty.{Ty}
use Rattle.shape_data.specs.declared.program.Ty.TheVariants.{Void}
use Rattle.c_grammar.specs.declared.tokens.places.Place.{Place}
use Rattle.c_grammar.specs.declared.tokens.places.Refusal.{Refusal}
use Rattle.c_grammar.specs.Trees.{Name, Fields, Param, Head, Stmts, Item, File}
use Rattle.c_types_rules.specs.declared.at.At.{At}
use Rattle.c_grammar.specs.FirstPlaces.{place_of_head}
use Rattle.c_types_rules.specs.Types.{unless}
use Rattle.c_types_rules.specs.Tables.{Tables, param_kind, kind_of_result}
use Rattle.c_types_rules.specs.Items.{listed, param_names, param_variables, field_names}
use Rattle.c_types_rules.specs.Programs.{known, tables_of, structs_of, in_unit, first_of}
use Rattle.c_lower_rules.specs.Code.{command, ◌⨾◌, onto, begun}
use Rattle.c_lower_rules.specs.Temporaries.{Temp, Taken, take_temp}
use Rattle.c_lower_rules.specs.Contexts.{Context, Bound}
use Rattle.c_lower_rules.specs.Values.{slot_taken}
use Rattle.c_lower_rules.specs.Statements.{State, Lowered, from_place, stmts, stmts_kinds}
use Rattle.c_lower_rules.specs.Marks.{marked}

-- PROCEDURES

-- a parameter as a variable in scope, before others; one without a name is none
abbrev pub bound_param : ℕ → Option Name → List Bound → List Bound
bound_param slot None behind = behind
bound_param slot (Some n) behind = record { name = n.text; slot = slot } ∷ behind

-- the parameters as variables in scope, the last first
abbrev pub bound_params : ℕ → List Param → List Bound → List Bound
bound_params slot [] behind = behind
bound_params slot (first ∷ others) behind = bound_params (suc slot) others (bound_param slot first.name behind)

-- the types of the parameters
abbrev pub param_types : Tables → Head → List Ty
param_types tables head = map (λ p. known (param_kind tables p)) (listed head.params)

-- the type of the result
abbrev pub result_type : Tables → Head → Ty
result_type tables head = known (kind_of_result tables head)

-- where a procedure's body begins, with so many locals
abbrev pub at_body : Tables → Head → ℕ → Context
at_body tables head locals = record {
  env = record { tables = tables; scopes = record { here = param_variables tables (listed head.params) []; around = [] } };
  bound = bound_params 0 (listed head.params) [];
  first_local = length (listed head.params);
  first_temp = length (listed head.params) + locals;
  result = result_type tables head;
  first_line = (place_of_head head).line;
  line = 0;
}

-- any value of the result's type is returned
abbrev pub any_value : Context → Ty → Taken → Lowered → Lowered
any_value c kind taken l = record {
  code = l.code ⨾ command c.line (cmd.Any (slot_taken c taken) kind) ⨾ command c.line (λ next. cmd.Return (Slot (slot_taken c taken)));
  behind = record l.behind { temps = taken.temps };
}

-- what always stands at the end: nothing is returned, or any value
abbrev pub closed_by : Ty → Context → List Temp → Lowered → Lowered
closed_by Void c temps l = record { code = l.code ⨾ command c.line (λ next. cmd.Return (Num (pos 0))); behind = l.behind }
closed_by kind c temps l = any_value c kind (take_temp kind temps) l

-- what closes a body that ends with these temporaries and this line
abbrev pub closed_from : Ty → State → Lowered → Lowered
closed_from result here l = closed_by result here.context here.temps l

-- a body and what closes it, at the place of its `}`
abbrev pub closed : Ty → Place → Lowered → Lowered
closed result place l = closed_from result (from_place l.behind place) l

-- with its run beginning at node 0
abbrev pub opened : Lowered → Lowered
opened l = record l { code = begun l.code }

-- a body as the code of its procedure
abbrev pub lowered_body : Tables → Head → Stmts → Place → Lowered
lowered_body tables head body place =
    opened (closed (result_type tables head) place
    (stmts body (record { temps = []; locals = 0; context = at_body tables head (length (stmts_kinds tables body)) })))

-- the type of a temporary
abbrev pub temp_kind : Temp → Ty
temp_kind temp = temp.kind

-- the types of the slots: the parameters, the locals, the temporaries
abbrev pub slot_types : Tables → Head → Stmts → List Temp → List Ty
slot_types tables head body temps = param_types tables head ++ stmts_kinds tables body ++ map temp_kind temps

-- the text of a name
abbrev pub name_text : Name → List ℕ
name_text n = n.text

-- a procedure's nodes are laid from 0 on, and end with `return`, so that none goes on behind them
abbrev pub flow_by : Tables → Head → Stmts → Lowered → Flow
flow_by tables head body l = record {
  name = head.declarator.name.text;
  params = map name_text (param_names (listed head.params));
  slots = slot_types tables head body l.behind.temps;
  ret = result_type tables head;
  nodes = marked (slot_types tables head body l.behind.temps) (l.code.loops 0) (l.code.nodes 0 (onto 0));
}

-- the flow form of a procedure
abbrev pub flow_of : Tables → Head → Stmts → Place → Flow
flow_of tables head body place = flow_by tables head body (lowered_body tables head body place)

-- WHAT IS TOO LARGE, and where that is refused

-- how many nodes a procedure may have
abbrev pub MOST_NODES : ℕ
MOST_NODES = 512

-- how many parameters and locals together
abbrev pub MOST_LOCALS : ℕ
MOST_LOCALS = 32

-- how many temporaries
abbrev pub MOST_TEMPORARIES : ℕ
MOST_TEMPORARIES = 16

-- how many parameters
abbrev pub MOST_PARAMETERS : ℕ
MOST_PARAMETERS = 8

-- how many fields a structure may have
abbrev pub MOST_FIELDS : ℕ
MOST_FIELDS = 16

-- the code of more nodes
abbrev pub NODES : ℕ
NODES = 131

-- the code of more locals or temporaries
abbrev pub SLOTS : ℕ
SLOTS = 132

-- the code of more parameters
abbrev pub PARAMETERS : ℕ
PARAMETERS = 133

-- the code of more fields
abbrev pub FIELDS : ℕ
FIELDS = 134

-- a procedure, whose parameters count as locals
abbrev pub size_refusals : Tables → Head → Stmts → Lowered → List Refusal
size_refusals tables head body l =
    unless (nat_le (length (l.code.nodes 0 (onto 0))) MOST_NODES) (place_of_head head) NODES
    ++ unless (nat_le (length (listed head.params) + length (stmts_kinds tables body)) MOST_LOCALS) (place_of_head head) SLOTS
    ++ unless (nat_le (length l.behind.temps) MOST_TEMPORARIES) (place_of_head head) SLOTS
    ++ unless (nat_le (length (listed head.params)) MOST_PARAMETERS) (place_of_head head) PARAMETERS

-- a structure, at the first token of its declaration, `typedef` included
abbrev pub fields_refusals : Place → List Fields → List Refusal
fields_refusals place lines = unless (nat_le (length (field_names lines)) MOST_FIELDS) place FIELDS

-- an item: only structures and definitions of procedures may be too large
abbrev pub item_refusals : Tables → Item → List Refusal
item_refusals tables (Item.StructItem place tag lines) = fields_refusals place lines
item_refusals tables (Item.TypedefStruct place tag lines alias) = fields_refusals place lines
item_refusals tables (Item.TypedefAlias place tag alias) = []
item_refusals tables (Item.Prototype head) = []
item_refusals tables (Item.Definition head place body end) = size_refusals tables head body (lowered_body tables head body end)

-- items in their order
abbrev pub items_refusals : Tables → List Item → List Refusal
items_refusals tables [] = []
items_refusals tables (first ∷ others) = item_refusals tables first ++ items_refusals tables others

-- files in their order, numbered from one on
abbrev pub files_refusals : Tables → ℕ → List File → List At
files_refusals tables unit [] = []
files_refusals tables unit (file ∷ files) = map (in_unit unit) (items_refusals tables file.items) ++ files_refusals tables (suc unit) files

-- what is refused first
abbrev pub first_too_large : List File → Option At
first_too_large files = first_of (files_refusals (tables_of files) 0 files)

-- PROGRAMS

-- a procedure: its flow form, its file, and the line of its first token
abbrev pub proc_of : Tables → List ℕ → Head → Stmts → Place → Proc
proc_of tables file head body end = record { flow = flow_of tables head body end; file = file; line = (place_of_head head).line }

-- the procedure that an item defines, if it defines one
abbrev pub item_procs : Tables → List ℕ → Item → List Proc
item_procs tables file (Item.Definition head place body end) = proc_of tables file head body end ∷ []
item_procs tables file _ = []

-- the procedures that items define, in their order
abbrev pub items_procs : Tables → List ℕ → List Item → List Proc
items_procs tables file [] = []
items_procs tables file (first ∷ others) = item_procs tables file first ++ items_procs tables file others

-- the procedures of files with these names
abbrev pub files_procs : Tables → List (List ℕ) → List File → List Proc
files_procs tables (name ∷ names) (file ∷ files) = items_procs tables name file.items ++ files_procs tables names files
files_procs tables _ _ = []

-- the program that files with these names are
abbrev pub program_of : List (List ℕ) → List File → Program
program_of names files = record { structs = structs_of files; procs = files_procs (tables_of files) names files }
