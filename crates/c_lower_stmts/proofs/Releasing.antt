-- Statements and conditions before which no temporary is used.
use Rattle.std.proofs.Common.{◌≡◌, ℕ, ◌≤◌, List, length, refl, sym, subst, arith}
use Rattle.std.proofs.lemmas.List.{length-map}
use Rattle.c_lower_rules.specs.Code.{Code, Test, choose}
use Rattle.c_lower_rules.specs.Temporaries.{Temp, released, released_one}
use Rattle.c_lower_rules.specs.Values.{Tested}
use Rattle.c_lower_emit.specs.declared.drafts.Label.TheVariants.{At}
use Rattle.c_lower_emit.specs.declared.drafts.Ways.{Ways}
use Rattle.c_lower_emit.specs.Emitting.{Out, led_out, HasRoom, EmitsTest, EmitsCode, EmitsTested}
use Rattle.c_lower_emit.proofs.Joining.{behind_nodes, chosen}

-- with no temporary in use
abbrev pub released_out : Out → Out
released_out o = record o { temps = released o.temps }

pub same_count : (temps : List Temp) → length (released temps) ≡ length temps
same_count temps = length-map temps released_one

pub room_released : (first n : ℕ) (o : Out) → HasRoom first n o → HasRoom first n (released_out o)
room_released first n o h =
    let temps = h.temps in
    let same = same_count o.temps in
    record { nodes = h.nodes; temps = omega (arith, temps, same) }

pub test_released : (first : ℕ) (tested : Tested) (o m : Out) → EmitsTested tested first (released_out o) m → EmitsTested tested first o m
test_released first tested o m h room =
    let e = h (room_released first tested.test.size o room) in
    let grown = e.grows.grown in
    let same = same_count o.temps in
    record {
      drafts = e.drafts;
      grows = record { nodes = e.grows.nodes; size = e.grows.size; temps = e.grows.temps; grown = omega (arith, grown, same) };
      laid = e.laid;
      loops = e.loops;
    }

pub chosen_at : (w : Ways) (test : Test) (one other : Code) (s t u : List Temp) (o m m' n new : Out) (from past : ℕ) → from ≡ length o.nodes
    → past ≡ length m.nodes
    → EmitsTest test s o m → EmitsCode one t w.holds m m' → EmitsCode other u w.fails m' n
    → (from ≤ past → past ≤ length n.nodes → new ≡ led_out from past w n) → EmitsCode (choose test one other) u (At (length o.nodes)) o new
chosen_at w test one other s t u o m m' n new from past at there h k l leads =
    let a = behind_nodes o m h.grows in
    let b = behind_nodes m m' k.grows in
    let c = behind_nodes m' n l.grows in
    let is : new ≡ led_out (length o.nodes) (length m.nodes) w n =
    subst (λ x. new ≡ led_out x (length m.nodes) w n) at
    (subst (λ y. new ≡ led_out from y w n) there (leads (omega (arith, at, there, a)) (omega (arith, there, b, c)))) in
    subst (λ x. EmitsCode (choose test one other) u (At (length o.nodes)) o x) (sym is)
    (chosen w test one other s t u w.holds w.fails o m m' n h k l refl refl)
