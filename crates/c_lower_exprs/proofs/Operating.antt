-- Operators behind their operands.
use Rattle.std.proofs.Common.{◌≡◌, ℕ, ◌+◌, ◌≤◌, Bool, ◌||◌, List, length, refl, sym, ap, ◌∙◌, subst, arith}
use Rattle.shape_data.specs.declared.program.Operand.{Operand}
use Rattle.shape_data.specs.declared.program.TestOp.{TestOp}
use Rattle.shape_data.specs.declared.program.Ty.TheVariants.{Int}
use Rattle.c_lower_rules.specs.Code.{branch, test_behind, both, either, opposite}
use Rattle.c_lower_rules.specs.Contexts.{Context}
use Rattle.c_lower_rules.specs.Temporaries.{Temp}
use Rattle.c_lower_rules.specs.Values.{Lowering, Tested, is_pointer, truth}
use Rattle.c_lower_rules.specs.Expressions.{compare_both, comparison, conjunction, disjunction, negation, new}
use Rattle.c_types_names.specs.Seen.{type_seen}
use Rattle.c_lower_emit.specs.declared.uses.Use.{Use}
use Rattle.c_lower_emit.specs.declared.uses.Use.TheVariants.{Value}
use Rattle.c_lower_emit.specs.Emitting.{Out, led_out, HasRoom, EmitsStraight, EmitsTest, Emits, EmitsTested}
use Rattle.c_lower_emit.specs.Emitting.{BeginsTruth, LeadsWhereHolds, LeadsWhereFails}
use Rattle.c_lower_emit.specs.declared.drafts.Label.TheVariants.{At, Holds, Fails}
use Rattle.c_lower_emit.specs.Drafts.{as_they_are}
use Rattle.c_lower_emit.proofs.Joining.{behind_nodes, room_first, room_then, grows_led, test_then, test_led, both_then, either_then}
use Rattle.c_lower_exprs.specs.declared.members.Found.{Found}
use Rattle.c_lower_exprs.specs.Lowered.{IsLowered}

pub compared_made : (used : Use) (c : Context) (op : TestOp) (pointers : Bool) (to from first : ℕ) (l r : Lowering)
    (before start mid now tested new : Out) (left right found : Found)
    → BeginsTruth used first before start to → from ≡ length start.nodes → IsLowered Value l first start mid left
    → IsLowered Value r first mid now right → type_seen found.kind ≡ Int
    → pointers ≡ (is_pointer (type_seen left.kind) || is_pointer (type_seen right.kind))
    → EmitsTest (branch c.line op pointers left.operand right.operand) now.temps now tested
    → ((testing : List Temp → Tested) (before start : Out) → BeginsTruth used first before start to → from ≡ length start.nodes
    → EmitsTested (testing start.temps) first start tested
    → Emits used (truth c testing) first before new found.operand)
    → IsLowered used (comparison c op l r) first before new found
compared_made used c op pointers to from first l r before start mid now tested new left right found begins at h k kind points tests ends =
    record {
      kind = kind;
      emits =
          ends (λ temps. compare_both c op (is_pointer l.kind || is_pointer r.kind) (l.value temps)
          (r.value (l.value temps).temps)) before start begins at (λ room.
          let lv = l.value start.temps in
          let rv = r.value lv.temps in
          let same : pointers ≡ (is_pointer l.kind || is_pointer r.kind) =
          points ∙ ap (λ t. is_pointer t || is_pointer (type_seen right.kind)) h.kind
          ∙ ap (λ t. is_pointer l.kind || is_pointer t) k.kind in
          let e = h.emits (room_first first lv.code.size (rv.code.size + 1) start room) in
          let room' = room_then first lv.code.size (rv.code.size + 1) start mid room e.0.grows in
          let f =
          subst (λ ts. HasRoom first (r.value ts).code.size mid
          → EmitsStraight (r.value ts).code (r.value ts).temps mid now × (right.operand ≡ (r.value ts).operand)) e.0.grows.temps k.emits
          (room_first first rv.code.size 1 mid room') in
          let b =
          subst (λ ts. EmitsTest
          (branch c.line op (is_pointer l.kind || is_pointer r.kind) lv.operand rv.operand) ts now tested) f.0.grows.temps
          (subst (λ o. EmitsTest (branch c.line op (is_pointer l.kind || is_pointer r.kind) lv.operand o) now.temps now tested) f.1
          (subst (λ o. EmitsTest (branch c.line op (is_pointer l.kind || is_pointer r.kind) o right.operand) now.temps now tested) e.1
          (subst (λ p. EmitsTest (branch c.line op p left.operand right.operand) now.temps now tested) same tests))) in
          test_then lv.code
          (test_behind rv.code
          (branch c.line op (is_pointer l.kind || is_pointer r.kind) lv.operand rv.operand)) lv.temps rv.temps start mid tested e.0
          (test_then rv.code
          (branch c.line op (is_pointer l.kind || is_pointer r.kind) lv.operand rv.operand) rv.temps rv.temps mid now tested f.0 b));
    }

pub both_tested : (first : ℕ) (l r : Lowering) (from : ℕ) (start one led now : Out) → from ≡ length start.nodes
    → EmitsTested (l.test start.temps) first start one
    → LeadsWhereHolds from one led → EmitsTested (r.test led.temps) first led now
    → EmitsTested
    (record {
      test = both (l.test start.temps).test (r.test (l.test start.temps).temps).test;
      temps = (r.test (l.test start.temps).temps).temps;
    }) first start now
both_tested first l r from start one led now at h leads k room =
    let lt = l.test start.temps in
    let rt = r.test lt.temps in
    let w = record as_they_are { holds = At (length one.nodes) } in
    let nodes = room.nodes in
    let e = h (room_first first lt.test.size rt.test.size start room) in
    let behind = behind_nodes start one e.grows in
    let is : led ≡ led_out (length start.nodes) (length one.nodes) w one =
    subst (λ f. led ≡ led_out f (length one.nodes) w one) at (leads (omega (arith, at, behind)) (omega (arith, nodes, behind))) in
    let k' = subst (λ (x : Out). EmitsTested (r.test x.temps) first x now) is k in
    let k'' = subst (λ ts. EmitsTested (r.test ts) first (led_out (length start.nodes) (length one.nodes) w one) now) e.grows.temps k' in
    both_then w lt.test rt.test lt.temps rt.temps start one now e
    (k'' (room_then first lt.test.size rt.test.size start (led_out (length start.nodes) (length one.nodes) w one) room
    (grows_led w start one e.grows))) (λ p. refl) (λ p. refl)

pub either_tested : (first : ℕ) (l r : Lowering) (from : ℕ) (start one led now : Out) → from ≡ length start.nodes
    → EmitsTested (l.test start.temps) first start one
    → LeadsWhereFails from one led → EmitsTested (r.test led.temps) first led now
    → EmitsTested
    (record {
      test = either (l.test start.temps).test (r.test (l.test start.temps).temps).test;
      temps = (r.test (l.test start.temps).temps).temps;
    }) first start now
either_tested first l r from start one led now at h leads k room =
    let lt = l.test start.temps in
    let rt = r.test lt.temps in
    let w = record as_they_are { fails = At (length one.nodes) } in
    let nodes = room.nodes in
    let e = h (room_first first lt.test.size rt.test.size start room) in
    let behind = behind_nodes start one e.grows in
    let is : led ≡ led_out (length start.nodes) (length one.nodes) w one =
    subst (λ f. led ≡ led_out f (length one.nodes) w one) at (leads (omega (arith, at, behind)) (omega (arith, nodes, behind))) in
    let k' = subst (λ (x : Out). EmitsTested (r.test x.temps) first x now) is k in
    let k'' = subst (λ ts. EmitsTested (r.test ts) first (led_out (length start.nodes) (length one.nodes) w one) now) e.grows.temps k' in
    either_then w lt.test rt.test lt.temps rt.temps start one now e
    (k'' (room_then first lt.test.size rt.test.size start (led_out (length start.nodes) (length one.nodes) w one) room
    (grows_led w start one e.grows))) (λ p. refl) (λ p. refl)

pub opposite_tested : (first : ℕ) (l : Lowering) (from past : ℕ) (start one led : Out) → from ≡ length start.nodes → past ≡ length one.nodes
    → EmitsTested (l.test start.temps) first start one
    → (from ≤ past → past ≤ length one.nodes → led ≡ led_out from past (record as_they_are { holds = Fails; fails = Holds }) one)
    → EmitsTested (record { test = opposite (l.test start.temps).test; temps = (l.test start.temps).temps }) first start led
opposite_tested first l from past start one led at there h leads room =
    let lt = l.test start.temps in
    let w = record as_they_are { holds = Fails; fails = Holds } in
    let e = h room in
    let behind = behind_nodes start one e.grows in
    let is : led ≡ led_out (length start.nodes) (length one.nodes) w one =
    subst (λ f. led ≡ led_out f (length one.nodes) w one) at
    (subst (λ x. led ≡ led_out from x w one) there (leads (omega (arith, at, behind, there)) (omega (arith, there)))) in
    subst (λ x. EmitsTest (opposite lt.test) lt.temps start x) (sym is)
    (test_led w lt.test (opposite lt.test) lt.temps start one e refl (λ p. refl))

-- what the end of a test promises
abbrev pub TruthEnds : Use → Context → ℕ → ℕ → Out → Out → Operand → ℕ → Type 0
TruthEnds used c to from now new operand first =
    (testing : List Temp → Tested) (before start : Out) → BeginsTruth used first before start to → from ≡ length start.nodes
    → EmitsTested (testing start.temps) first start now
    → Emits used (truth c testing) first before new operand

pub both_made : (used : Use) (c : Context) (to from first : ℕ) (l r : Lowering) (before start one led now new : Out) (found : Found)
    → type_seen found.kind ≡ Int
    → TruthEnds used c to from now new found.operand first → BeginsTruth used first before start to → from ≡ length start.nodes
    → EmitsTested (l.test start.temps) first start one
    → LeadsWhereHolds from one led → EmitsTested (r.test led.temps) first led now
    → IsLowered used (conjunction c l r) first before new found
both_made used c to from first l r before start one led now new found kind ends begins at h leads k = record {
  kind = kind;
  emits =
      ends (λ temps.
      record {
        test = both (l.test temps).test (r.test (l.test temps).temps).test;
        temps = (r.test (l.test temps).temps).temps;
      }) before start begins at
      (both_tested first l r from start one led now at h leads k);
}

pub either_made : (used : Use) (c : Context) (to from first : ℕ) (l r : Lowering) (before start one led now new : Out) (found : Found)
    → type_seen found.kind ≡ Int
    → TruthEnds used c to from now new found.operand first → BeginsTruth used first before start to → from ≡ length start.nodes
    → EmitsTested (l.test start.temps) first start one
    → LeadsWhereFails from one led → EmitsTested (r.test led.temps) first led now
    → IsLowered used (disjunction c l r) first before new found
either_made used c to from first l r before start one led now new found kind ends begins at h leads k = record {
  kind = kind;
  emits =
      ends (λ temps.
      record {
        test = either (l.test temps).test (r.test (l.test temps).temps).test;
        temps = (r.test (l.test temps).temps).temps;
      }) before start begins at
      (either_tested first l r from start one led now at h leads k);
}

pub negation_made : (used : Use) (c : Context) (to from past first : ℕ) (l : Lowering) (before start one led new : Out) (found : Found)
    → type_seen found.kind ≡ Int
    → TruthEnds used c to from led new found.operand first → BeginsTruth used first before start to → from ≡ length start.nodes
    → past ≡ length one.nodes
    → EmitsTested (l.test start.temps) first start one
    → (from ≤ past → past ≤ length one.nodes → led ≡ led_out from past (record as_they_are { holds = Fails; fails = Holds }) one)
    → IsLowered used (negation c l) first before new found
negation_made used c to from past first l before start one led new found kind ends begins at there h leads = record {
  kind = kind;
  emits = ends (λ temps. record { test = opposite (l.test temps).test; temps = (l.test temps).temps }) before start begins at
      (opposite_tested first l from past start one led at there h leads);
}
