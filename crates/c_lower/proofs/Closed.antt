-- Bodies that are closed.
use Rattle.std.proofs.Common.{◌≡◌, ℕ, ◌+◌, ◌-◌, ◌<◌, ◌≤◌, List, [], ◌∷◌, length, map, refl, sym, ap, ◌∙◌, subst, arith}
use Rattle.std.proofs.lemmas.List.{length-map}
use Rattle.shape_data.specs.declared.program.Cmd.TheVariants as cmd
use Rattle.shape_data.specs.declared.program.Operand.{Operand}
use Rattle.shape_data.specs.declared.program.Operand.TheVariants.{Slot}
use Rattle.shape_data.specs.declared.program.Ty.{Ty}
use Rattle.shape_data.specs.declared.program.Ty.TheVariants.{Int, Ptr, Void}
use Rattle.c_grammar.specs.declared.tokens.places.Place.{Place}
use Rattle.c_lower_rules.specs.Code.{Code, command, no_nodes, ◌⨾◌, ◌⊳◌, straight}
use Rattle.c_lower_rules.specs.Contexts.{Context, at_place}
use Rattle.c_lower_rules.specs.Temporaries.{Temp, released, released_one, take_temp}
use Rattle.c_lower_rules.specs.Values.{Piece, Making, made, slot_taken}
use Rattle.c_lower_rules.specs.Statements.{Lowered, stmts}
use Rattle.c_lower_rules.specs.Programs.{closed, temp_kind}
use Rattle.c_types_names.specs.declared.kinds.CType.{CType}
use Rattle.c_types_names.specs.declared.kinds.CType.TheVariants as ctype
use Rattle.c_types_names.specs.Seen.{type_seen}
use Rattle.c_tree.specs.Syntax.{BlockTree}
use Rattle.c_lower_emit.specs.declared.drafts.Label.{Label}
use Rattle.c_lower_emit.specs.declared.drafts.Label.TheVariants.{At, Next}
use Rattle.c_lower_emit.specs.declared.uses.Use.TheVariants.{Value}
use Rattle.c_lower_emit.specs.Drafts.{redirect, next_at}
use Rattle.c_lower_emit.specs.Emitting.{Out, HasRoom, with_draft, led_out, EmitsCode, EmitsMaking, Emits}
use Rattle.c_lower_emit.proofs.Joining.{behind_nodes, room_first, room_then, straight_none, code_one, code_behind, same_code, code_then}
use Rattle.c_lower_exprs.specs.Contexts.{on_line, IsWithin}
use Rattle.c_lower_stmts.specs.declared.laid.Laid.{Laid}
use Rattle.c_lower_stmts.specs.Laying.{Lays, EmitsLowered}
use Rattle.c_lower_stmts.specs.Standing.{state, HasSlots}
use Rattle.c_lower.specs.Closing.{value_closing, closing, closed_body, Closes}

-- WHAT CLOSES A BODY

pub value_closed : (c : Context) (kind ty : Ty) (line first : ℕ) (o m n : Out) (found : Operand) → ty ≡ kind → first ≡ c.first_temp
    → ((at : Context) → at.line ≡ line → at.first_temp ≡ first → (making : List Temp → Making) → (before : Out)
    → EmitsMaking (making before.temps) (cmd.Any 0 ty 0) first before o → Emits Value (made at kind making) first before m found)
    → n ≡ with_draft line (cmd.Return found) Next Next m → HasRoom c.first_temp 1 o
    → EmitsCode (value_closing (on_line c line) kind (take_temp kind o.temps)).code (take_temp kind o.temps).temps (At (length o.nodes)) o n
value_closed c kind ty line first o m n found is at_first makes pushes room =
    let slot = slot_taken c (take_temp kind o.temps) in
    let e =
    makes (on_line c line) refl (sym at_first) (λ ts. record { code = no_nodes; make = λ to next. cmd.Any to kind next; temps = ts }) o
    (λ _. record { before = straight_none o; is = λ to next other. ap (λ k. cmd.Any to k next) is })
    (subst (λ f. HasRoom f 1 o) (sym at_first) room) in
    let any = straight (no_nodes ⊳ command line (cmd.Any slot kind)) in
    let ends = command line (λ next. cmd.Return (Slot slot)) in
    let returns : EmitsCode ends m.temps (At (length m.nodes)) m n =
    subst (λ x. EmitsCode ends m.temps (At (length m.nodes)) m x) (sym (pushes ∙ ap (λ v. with_draft line (cmd.Return v) Next Next m) e.1))
    (code_one line (λ next. cmd.Return (Slot slot)) (cmd.Return (Slot slot)) Next m (λ _ _. refl)) in
    same_code (any ⊳ ends) (command line (cmd.Any slot kind) ⨾ ends) (take_temp kind o.temps).temps (At (length o.nodes)) o n
    (record { size = refl; entry = λ at exits. refl; nodes = λ at exits. refl; loops = λ at. refl })
    (code_behind any ends (take_temp kind o.temps).temps (take_temp kind o.temps).temps (At (length m.nodes)) o m n e.0
    (subst (λ ts. EmitsCode ends ts (At (length m.nodes)) m n) e.0.grows.temps returns))

value_closes : (kind : CType) (c : Context) (temps : List Temp) → (kind ≡ ctype.Void → ⊥)
    → closing (type_seen kind) c temps ≡ value_closing c (type_seen kind) (take_temp (type_seen kind) temps)
value_closes ctype.Int c temps not = refl
value_closes (ctype.Pointer tag) c temps not = refl
value_closes ctype.Void c temps not = absurd (not refl)

pub closed_with_value : (c : Context) (line : ℕ) (place : Place) (kind : CType) (o r n : Out) → (kind ≡ ctype.Void → ⊥)
    → type_seen kind ≡ c.result
    → line ≡ place.line - c.first_line → r ≡ record o { temps = released o.temps }
    → (HasRoom c.first_temp 1 r → EmitsCode (value_closing (on_line c line) (type_seen kind) (take_temp (type_seen kind) r.temps)).code
    (take_temp (type_seen kind) r.temps).temps (At (length r.nodes)) r n)
    → HasRoom c.first_temp (closing c.result (at_place c place) (released o.temps)).code.size o
    → EmitsCode (closing c.result (at_place c place) (released o.temps)).code (closing c.result (at_place c place) (released o.temps)).temps
    (At (length o.nodes))
    (record o { temps = released o.temps }) n
closed_with_value c line place kind o r n not kind_is line_is releases emits =
    let o' = record o { temps = released o.temps } in
    let is : closing c.result (at_place c place) (released o.temps)
    ≡ value_closing (on_line c line) (type_seen kind) (take_temp (type_seen kind) (released o.temps)) =
    ap (λ k. closing k (at_place c place) (released o.temps)) (sym kind_is)
    ∙ ap (λ n. closing (type_seen kind) (on_line c n) (released o.temps)) (sym line_is)
    ∙ value_closes kind (on_line c line) (released o.temps) not in
    let same = length-map o.temps released_one in
    subst (λ (k : Piece). HasRoom c.first_temp k.code.size o → EmitsCode k.code k.temps (At (length o.nodes)) o' n) (sym is)
    (λ room.
    let nodes = room.nodes in
    let temps = room.temps in
    subst (λ x. HasRoom c.first_temp 1 x
    → EmitsCode (value_closing (on_line c line) (type_seen kind) (take_temp (type_seen kind) x.temps)).code
    (take_temp (type_seen kind) x.temps).temps (At (length x.nodes)) x n) releases emits
    (record { nodes = omega (arith, nodes); temps = omega (arith, temps, same) }))

-- CLOSED BODIES

released_kinds : (temps : List Temp) → map temp_kind (released temps) ≡ map temp_kind temps
released_kinds [] = refl
released_kinds (t ∷ ts) = ap (λ ks. temp_kind t ∷ ks) (released_kinds ts)

-- what closes a body stands behind it
closed_is : (result : Ty) (place : Place) (l : Lowered)
    → (closed result place l).code ≡ l.code ⨾ (closing result (at_place l.behind.context place) (released l.behind.temps)).code
closed_is Int place l = refl
closed_is (Ptr tag) place l = refl
closed_is Void place l = refl

closed_kinds : (result : Ty) (place : Place) (l : Lowered)
    → map temp_kind (closing result (at_place l.behind.context place) (released l.behind.temps)).temps
    ≡ map temp_kind (closed result place l).behind.temps
closed_kinds Int place l = refl
closed_kinds (Ptr tag) place l = refl
closed_kinds Void place l = released_kinds l.behind.temps

closing_size : (result : Ty) (c : Context) (temps : List Temp) → (closing result c temps).code.size ≤ 2
closing_size Int c temps = omega arith
closing_size (Ptr tag) c temps = omega arith
closing_size Void c temps = omega arith

pub closed_size : (result : Ty) (place : Place) (l : Lowered) → (closed result place l).code.size ≤ l.code.size + 2
closed_size result place l =
    let size = ap (λ (c : Code). c.size) (closed_is result place l) in
    omega (arith, size, closing_size result (at_place l.behind.context place) (released l.behind.temps))

-- temporaries are released behind the code
code_released : (code : Code) (t : List Temp) (begin : Label) (o m : Out) → EmitsCode code t begin o m
    → EmitsCode code (released t) begin o (record m { temps = released m.temps })
code_released code t begin o m h = record {
  drafts = h.drafts;
  grows = record {
    nodes = h.grows.nodes;
    size = h.grows.size;
    temps = ap released h.grows.temps;
    grown = subst (λ n. n ≤ length o.temps + code.size) (sym (length-map t released_one)) h.grows.grown;
  };
  laid = h.laid;
  entry = h.entry;
  loops = h.loops;
}

module _ (c after : Context) (block : BlockTree) (line : ℕ) (o m n new : Out) (laid : Laid) where
  abbrev statements : Lowered
  statements = stmts block.body (state (on_line c line) 0 o)

  abbrev whole : Lowered
  whole = closed_body (on_line c line) block o

  abbrev end : Piece
  end = closing c.result (at_place statements.behind.context block.end) (released statements.behind.temps)

  -- what `close` says, of the state behind the statements
  abbrev Ends : Ty → Context → List Temp → Type 0
  Ends result at temps =
      HasRoom after.first_temp (closing result at temps).code.size m
      → EmitsCode (closing result at temps).code (closing result at temps).temps (At (length m.nodes))
      (record m { temps = released m.temps }) n

  both_closed : Lays statements c 0 after laid o m
      → EmitsCode end.code end.temps (At (length m.nodes)) (record m { temps = released m.temps }) n
      → EmitsCode whole.code end.temps (redirect (next_at (At (length m.nodes))) laid.begin) o
      (led_out (length o.nodes) (length m.nodes) (next_at (At (length m.nodes))) n)
  both_closed lays closes =
      subst (λ x. EmitsCode x end.temps (redirect (next_at (At (length m.nodes))) laid.begin) o
      (led_out (length o.nodes) (length m.nodes) (next_at (At (length m.nodes))) n))
      (sym (closed_is c.result block.end statements))
      (code_then statements.code end.code (released statements.behind.temps) end.temps laid.begin (At (length m.nodes)) o
      (record m { temps = released m.temps }) n
      (code_released statements.code statements.behind.temps laid.begin o m lays.emits) closes)

  pub body_closed : (from past here : ℕ) → IsWithin c after → EmitsLowered statements c 0 after laid o m
      → Ends after.result (at_place after block.end) (released m.temps)
      → from ≡ length o.nodes → past ≡ length m.nodes → (length m.nodes < 4294967296 → here ≡ length m.nodes)
      → (from ≤ past → past ≤ length n.nodes → new ≡ led_out from past (next_at (At here)) n)
      → HasRoom c.first_temp whole.code.size o → HasSlots c 0 whole.code.size → Closes whole (redirect (next_at (At here)) laid.begin) o new
  body_closed from past here within lowered ends at there goes leads room slots =
      let is = closed_is c.result block.end statements in
      let room' = subst (λ (x : Code). HasRoom c.first_temp x.size o) is room in
      let size = ap (λ (x : Code). x.size) is in
      let lays = lowered (room_first c.first_temp statements.code.size end.code.size o room') (omega (arith, slots, size)) in
      let context : at_place after block.end ≡ at_place statements.behind.context block.end =
      ap (λ (x : Context). at_place x block.end) lays.context in
      let ends' = subst (λ r. Ends r (at_place statements.behind.context block.end) (released statements.behind.temps)) within.result
      (subst (λ x. Ends after.result x (released statements.behind.temps)) context
      (subst (λ ts. Ends after.result (at_place after block.end) (released ts)) lays.emits.grows.temps ends)) in
      let behind = room_then c.first_temp statements.code.size end.code.size o m room' lays.emits.grows in
      let closes = ends' (subst (λ f. HasRoom f end.code.size m) (sym within.first_temp) behind) in
      let emits = both_closed lays closes in
      let nodes = room'.nodes in
      let first = behind_nodes o m lays.emits.grows in
      let second = behind_nodes (record m { temps = released m.temps }) n closes.grows in
      let here_is = goes (omega (arith, nodes, first)) in
      let led = led_out (length o.nodes) (length m.nodes) (next_at (At (length m.nodes))) n in
      let is_led : new ≡ led =
      leads (omega (arith, at, there, first)) (omega (arith, there, second)) ∙ ap (λ x. led_out x past (next_at (At here)) n) at
      ∙ ap (λ x. led_out (length o.nodes) x (next_at (At here)) n) there
      ∙ ap (λ x. led_out (length o.nodes) (length m.nodes) (next_at (At x)) n) here_is in
      record {
        emits = subst (λ x. EmitsCode whole.code x.temps (redirect (next_at (At here)) laid.begin) o x) (sym is_led)
            (subst (λ h. EmitsCode whole.code n.temps (redirect (next_at (At h)) laid.begin) o led) (sym here_is)
            (subst (λ ts. EmitsCode whole.code ts (redirect (next_at (At (length m.nodes))) laid.begin) o led)
            (sym closes.grows.temps) emits));
        temps = ap (λ (x : Out). map temp_kind x.temps) is_led ∙ ap (map temp_kind) closes.grows.temps
            ∙ closed_kinds c.result block.end statements;
      }
