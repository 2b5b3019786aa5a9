-- A new value that is put into the field that it comes from.
use Rattle.std.proofs.Common.{◌≡◌, ℕ, ◌+◌, false, true, List, length, subst}
use Rattle.shape_data.specs.declared.program.ArithOp.{ArithOp}
use Rattle.shape_data.specs.declared.program.Cmd.TheVariants as cmd
use Rattle.shape_data.specs.declared.program.Operand.{Operand}
use Rattle.shape_data.specs.declared.program.Ty.TheVariants.{Int}
use Rattle.c_lower_rules.specs.Code.{command, ◌⊹◌}
use Rattle.c_lower_rules.specs.Temporaries.{Temp}
use Rattle.c_lower_rules.specs.Contexts.{Context}
use Rattle.c_lower_rules.specs.Values.{Value, Lowering, at_hand}
use Rattle.c_lower_rules.specs.Expressions.{Field, slot_read, arithmetic}
use Rattle.c_lower_rules.specs.Statements.{Target, field_at_hand, update}
use Rattle.c_lower_emit.specs.declared.drafts.Label.TheVariants.{At}
use Rattle.c_lower_emit.specs.declared.uses.Use.TheVariants as used
use Rattle.c_lower_emit.specs.Emitting.{Out, HasRoom, EmitsStraight, EmitsCode}
use Rattle.c_lower_emit.proofs.Joining.{room_first, room_then, straight_then, code_behind}
use Rattle.c_lower_exprs.specs.declared.members.Found.{Found}
use Rattle.c_lower_exprs.specs.Lowered.{IsLowered}
use Rattle.c_lower_stmts.specs.Simples.{EmitsPiece}

module _ (c : Context) (first : ℕ) (op : ArithOp) (base : Lowering) (field : Field) where
  -- the store of a value behind a pointer
  abbrev pub Stores : Operand → Operand → List Temp → Out → Out → Type 0
  Stores pointer value temps q e =
      EmitsCode (command c.line (cmd.Store (slot_read pointer) field.tag field.place value)) temps (At (length q.nodes)) q e

  -- a value was emitted, where there is room for it
  abbrev Gives : Value → Operand → Out → Out → Type 0
  Gives v operand o n = HasRoom first v.code.size o → EmitsStraight v.code v.temps o n × (operand ≡ v.operand)

  pub updated : (by : Lowering) (o m q e : Out) (b v : Found) → IsLowered used.Value base first o m b
      → IsLowered used.Value (arithmetic c op (field_at_hand c field b.operand) by) first m q v → Stores b.operand v.operand q.temps q e
      → EmitsPiece (update c (Target.Member base field) op false by) first o e
  updated by o m q e b v h l s = λ room.
      let bv = base.value o.temps in
      let vv = (arithmetic c op (field_at_hand c field bv.operand) by).value bv.temps in
      let both = room_first first (bv.code.size + vv.code.size) 1 o room in
      let one = h.emits (room_first first bv.code.size vv.code.size o both) in
      let moved = subst (λ p. Gives ((arithmetic c op (field_at_hand c field p) by).value m.temps) v.operand m q) one.1 l.emits in
      let two = subst (λ ts. Gives ((arithmetic c op (field_at_hand c field bv.operand) by).value ts) v.operand m q) one.0.grows.temps moved
      (room_then first bv.code.size vv.code.size o m both one.0.grows) in
      let store =
      subst (λ p. Stores p vv.operand vv.temps q e) one.1
      (subst (λ x. Stores b.operand x vv.temps q e) two.1 (subst (λ ts. Stores b.operand v.operand ts q e) two.0.grows.temps s)) in
      code_behind (bv.code ⊹ vv.code) _ vv.temps vv.temps (At (length q.nodes)) o q e
      (straight_then bv.code vv.code bv.temps vv.temps o m q one.0 two.0) store

  -- a call comes before the load
  pub updated_by_call : (by : Lowering) (o m n q e : Out) (b called v : Found) → IsLowered used.Value base first o m b
      → IsLowered used.Value by first m n called
      → IsLowered used.Value (arithmetic c op (field_at_hand c field b.operand) (at_hand c Int called.operand)) first n q v
      → Stores b.operand v.operand q.temps q e
      → EmitsPiece (update c (Target.Member base field) op true by) first o e
  updated_by_call by o m n q e b called v h k l s = λ room.
      let bv = base.value o.temps in
      let cv = by.value bv.temps in
      let sum = λ (p r : Operand) (ts : List Temp). (arithmetic c op (field_at_hand c field p) (at_hand c Int r)).value ts in
      let vv = sum bv.operand cv.operand cv.temps in
      let three = room_first first (bv.code.size + cv.code.size + vv.code.size) 1 o room in
      let both = room_first first (bv.code.size + cv.code.size) vv.code.size o three in
      let one = h.emits (room_first first bv.code.size cv.code.size o both) in
      let two =
      subst (λ ts. Gives (by.value ts) called.operand m n) one.0.grows.temps k.emits
      (room_then first bv.code.size cv.code.size o m both one.0.grows) in
      let before = straight_then bv.code cv.code bv.temps cv.temps o m n one.0 two.0 in
      let moved =
      subst (λ r. Gives (sum bv.operand r n.temps) v.operand n q) two.1
      (subst (λ p. Gives (sum p called.operand n.temps) v.operand n q) one.1 l.emits) in
      let last = subst (λ ts. Gives (sum bv.operand cv.operand ts) v.operand n q) before.grows.temps moved
      (room_then first (bv.code.size + cv.code.size) vv.code.size o n three before.grows) in
      let store =
      subst (λ p. Stores p vv.operand vv.temps q e) one.1
      (subst (λ x. Stores b.operand x vv.temps q e) last.1 (subst (λ ts. Stores b.operand v.operand ts q e) last.0.grows.temps s)) in
      code_behind ((bv.code ⊹ cv.code) ⊹ vv.code) _ vv.temps vv.temps (At (length q.nodes)) o q e
      (straight_then (bv.code ⊹ cv.code) vv.code cv.temps vv.temps o n q before last.0) store
