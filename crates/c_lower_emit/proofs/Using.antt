-- Expressions in their uses.
use Rattle.std.proofs.Common.{◌≡◌, ℕ, ◌+◌, ◌<◌, ◌≤◌, Bool, true, false, cond, List, [], ◌∷◌, ◌++◌, length, min, refl, sym, ap, ◌∙◌, subst}
use Rattle.std.proofs.Common.{arith}
use Rattle.std.proofs.Math.Nat.{min-eq_left}
use Rattle.std.specs.Prelude.{pos}
use Rattle.shape_data.specs.declared.program.Cmd.{Cmd}
use Rattle.shape_data.specs.declared.program.Cmd.TheVariants as cmd
use Rattle.shape_data.specs.declared.program.Operand.{Operand}
use Rattle.shape_data.specs.declared.program.Operand.TheVariants.{Slot, Num}
use Rattle.shape_data.specs.declared.program.TestOp.TheVariants as test
use Rattle.shape_data.specs.declared.program.Ty.{Ty}
use Rattle.shape_data.specs.declared.program.Ty.TheVariants.{Int}
use Rattle.c_lower_rules.specs.Code.{no_nodes, node, straight, command, ◌⊳◌, branch}
use Rattle.c_lower_rules.specs.Temporaries.{Temp, Taken, is_free, behind_temp, take_temp}
use Rattle.c_lower_rules.specs.Contexts.{Context}
use Rattle.c_lower_rules.specs.Values.{Value as ValueCode, Tested, Making, is_pointer, not_zero, at_hand, made_value, made, put_truth}
use Rattle.c_lower_rules.specs.Values.{truth}
use Rattle.c_lower_emit.specs.declared.drafts.Label.TheVariants.{At}
use Rattle.c_lower_emit.specs.declared.drafts.Ways.{Ways}
use Rattle.c_lower_emit.specs.declared.uses.Use.{Use}
use Rattle.c_lower_emit.specs.declared.uses.Use.TheVariants.{Value, Test as AsTest}
use Rattle.c_lower_emit.specs.Drafts.{resolve, put_to}
use Rattle.c_lower_emit.specs.Emitting.{Out, with_draft, led_out, HasRoom, EmitsStraight, EmitsTest, EmitsCode, Emits, IsMadeValue}
use Rattle.c_lower_emit.specs.Emitting.{EmitsMaking, EmitsTested, BeginsTruth}
use Rattle.c_lower_emit.proofs.Joining.{behind_nodes, grows_then, room_first, room_then, laid_both, straight_none, test_then, chosen}
use Rattle.c_lower_emit.proofs.Joining.{straight_led}

-- TEMPORARIES

-- what is taken, by whether the first is free
abbrev found : Ty → Temp → List Temp → Bool → Taken
found kind first others b =
    cond b (record { place = 0; temps = record first { used = true } ∷ others }) (behind_temp first (take_temp kind others))

take_within : (kind : Ty) (temps : List Temp) → (take_temp kind temps).place ≤ length temps
take_within kind [] = omega arith
take_within kind (first ∷ others) = by_test (is_free kind first) (take_within kind others)
  where
    by_test : (b : Bool) → (take_temp kind others).place ≤ length others → (found kind first others b).place ≤ length (first ∷ others)
    by_test true h = omega arith
    by_test false h = omega (arith, h)

take_grows : (kind : Ty) (temps : List Temp) → length (take_temp kind temps).temps ≤ length temps + 1
take_grows kind [] = omega arith
take_grows kind (first ∷ others) = by_test (is_free kind first) (take_grows kind others)
  where
    by_test : (b : Bool) → length (take_temp kind others).temps ≤ length others + 1
        → length (found kind first others b).temps ≤ length (first ∷ others) + 1
    by_test true h = omega arith
    by_test false h = omega (arith, h)

pub slot_is : (first : ℕ) (kind : Ty) (o : Out) (place slot : ℕ) → HasRoom first 1 o
    → (length o.temps < 4294967296 → place ≡ (take_temp kind o.temps).place)
    → slot ≡ min (first + place) 4294967295 → slot ≡ first + (take_temp kind o.temps).place
slot_is first kind o place slot room h sat =
    let temps = room.temps in
    let within = take_within kind o.temps in
    let same : place ≡ (take_temp kind o.temps).place = h (omega (arith, temps)) in
    sat ∙ min-eq_left (omega (arith, temps, within, same)) ∙ ap (λ n. first + n) same

pub behind_is : (o : Out) (here behind : ℕ) → length o.nodes + 1 < 4294967296 → (length o.nodes < 4294967296 → here ≡ length o.nodes)
    → behind ≡ min (here + 1) 4294967295 → behind ≡ length o.nodes + 1
behind_is o here behind room h sat =
    let same : here ≡ length o.nodes = h (omega (arith, room)) in
    sat ∙ min-eq_left (omega (arith, room, same)) ∙ ap (λ n. n + 1) same

-- VALUES

pub value_pushed : (first line : ℕ) (kind : Ty) (command : Cmd) (o taken new : Out) (place slot here behind : ℕ) (put : Cmd)
    → taken ≡ record o { temps = (take_temp kind o.temps).temps } → (length o.temps < 4294967296 → place ≡ (take_temp kind o.temps).place)
    → slot ≡ min (first + place) 4294967295 → (length taken.nodes < 4294967296 → here ≡ length taken.nodes)
    → behind ≡ min (here + 1) 4294967295
    → put ≡ put_to command slot → new ≡ with_draft line put (At behind) (At behind) taken
    → HasRoom first 1 o → IsMadeValue first line kind command o new (Slot slot)
value_pushed first line kind cmd o taken new place slot here behind put takes at sat there sat' puts pushes room =
    let nodes = room.nodes in
    let is = slot_is first kind o place slot room at sat in
    let same = ap (λ (x : Out). length x.nodes) takes in
    let next : behind ≡ length o.nodes + 1 = behind_is taken here behind (omega (arith, nodes, same)) there sat' ∙ ap (λ n. n + 1) same in
    record {
      operand = ap Slot is;
      out =
          pushes ∙ ap (λ x. with_draft line put (At behind) (At behind) x) takes
          ∙ ap (λ x. with_draft line x (At behind) (At behind) (record o { temps = (take_temp kind o.temps).temps }))
          (puts ∙ ap (put_to cmd) is)
          ∙ ap (λ x. with_draft line (put_to cmd (first + (take_temp kind o.temps).place)) (At x) (At x)
          (record o { temps = (take_temp kind o.temps).temps })) next;
    }

pub value_made : (c : Context) (kind : Ty) (making : List Temp → Making) (command : Cmd) (before mid new : Out) (operand : Operand)
    → (HasRoom c.first_temp 1 mid → IsMadeValue c.first_temp c.line kind command mid new operand)
    → EmitsMaking (making before.temps) command c.first_temp before mid → Emits Value (made c kind making) c.first_temp before new operand
value_made c kind making cmd before mid new operand value start room =
    let m = making before.temps in
    let k = start (room_first c.first_temp m.code.size 1 before room) in
    let v = value (room_then c.first_temp m.code.size 1 before mid room k.before.grows) in
    let slot = c.first_temp + (take_temp kind mid.temps).place in
    let behind = behind_nodes before mid k.before.grows in
    let place : length mid.nodes + 1 ≡ length before.nodes + (m.code.size + 1) = omega (arith, behind) in
    subst (λ ts. EmitsStraight (straight (m.code ⊳ command c.line (m.make (c.first_temp + (take_temp kind ts).place))))
    (take_temp kind ts).temps before new
    × (operand ≡ Slot (c.first_temp + (take_temp kind ts).place))) k.before.grows.temps (
      subst (λ o. EmitsStraight (straight (m.code ⊳ command c.line (m.make slot))) (take_temp kind mid.temps).temps before o) (sym v.out)
          (record {
            drafts = k.before.drafts ++ record {
              line = c.line;
              cmd = put_to cmd slot;
              next = At (length mid.nodes + 1);
              other = At (length mid.nodes + 1);
            } ∷ [];
            grows =
                grows_then before mid _ k.before.grows
                (record { nodes = refl; size = refl; temps = refl; grown = take_grows kind mid.temps });
            laid = λ p.
                laid_both p k.before.drafts _ _ _ (k.before.laid p)
                (ap (λ n. node c.line n ∷ []) (k.is slot (length mid.nodes + 1) (length mid.nodes + 1) ∙ ap (m.make slot) place));
            loops = k.before.loops;
          }),
      v.operand,
    )

-- the same, where the line and the first slot of temporaries are known by other names
pub value_made_at : (used : Use) → used ≡ Value → (c : Context) (first line : ℕ) → c.line ≡ line → c.first_temp ≡ first
    → (kind : Ty) (making : List Temp → Making) (command : Cmd)
    (before mid new : Out) (operand : Operand) → (HasRoom first 1 mid → IsMadeValue first line kind command mid new operand)
    → EmitsMaking (making before.temps) command first before mid → Emits used (made c kind making) first before new operand
value_made_at used as_value c first line on_line at_first kind making cmd before mid new operand =
    subst (λ f. (HasRoom f 1 mid → IsMadeValue f line kind cmd mid new operand) → EmitsMaking (making before.temps) cmd f before mid
    → Emits used (made c kind making) f before new operand) at_first
    (subst (λ l. (HasRoom c.first_temp 1 mid → IsMadeValue c.first_temp l kind cmd mid new operand)
    → EmitsMaking (making before.temps) cmd c.first_temp before mid
    → Emits used (made c kind making) c.first_temp before new operand) on_line
    (subst (λ u. (HasRoom c.first_temp 1 mid → IsMadeValue c.first_temp c.line kind cmd mid new operand)
    → EmitsMaking (making before.temps) cmd c.first_temp before mid
    → Emits u (made c kind making) c.first_temp before new operand) (sym as_value)
    (value_made c kind making cmd before mid new operand)))

-- a value as a test
pub value_tested : (c : Context) (kind : Ty) (first : ℕ) (value : ValueCode) (before mid new : Out) (operand : Operand)
    → (HasRoom first value.code.size before → EmitsStraight value.code value.temps before mid × (operand ≡ value.operand))
    → EmitsTest (branch c.line test.Ne (is_pointer kind) operand (Num (pos 0))) mid.temps mid new
    → EmitsTested (not_zero c kind value) first before new
value_tested c kind first value before mid new operand emits tests room =
    let e = emits (room_first first value.code.size 1 before room) in
    test_then value.code (branch c.line test.Ne (is_pointer kind) value.operand (Num (pos 0))) value.temps value.temps before mid new e.0
    (subst (λ ts. EmitsTest (branch c.line test.Ne (is_pointer kind) value.operand (Num (pos 0))) ts mid new) e.0.grows.temps
    (subst (λ v. EmitsTest (branch c.line test.Ne (is_pointer kind) v (Num (pos 0))) mid.temps mid new) e.1 tests))

-- the same, as a test
pub test_made_at : (used : Use) → used ≡ AsTest → (c : Context) (first line : ℕ) → c.line ≡ line → c.first_temp ≡ first
    → (kind : Ty) (making : List Temp → Making) (command : Cmd)
    (before mid value new : Out) (operand : Operand) → (HasRoom first 1 mid → IsMadeValue first line kind command mid value operand)
    → EmitsTest (branch c.line test.Ne (is_pointer kind) operand (Num (pos 0))) value.temps value new
    → EmitsMaking (making before.temps) command first before mid → Emits used (made c kind making) first before new operand
test_made_at used as_test c first line on_line at_first kind making cmd before mid value new operand made_value tests start =
    subst (λ u. Emits u (made c kind making) first before new operand) (sym as_test)
    (value_tested c kind first ((made c kind making).value before.temps) before value new operand
    (value_made_at Value refl c first line on_line at_first kind making cmd before mid value operand made_value start) tests)

pub hand_tested : (c : Context) (kind : Ty) (first : ℕ) (operand : Operand) (before new : Out)
    → EmitsTest (branch c.line test.Ne (is_pointer kind) operand (Num (pos 0))) before.temps before new
    → Emits AsTest (at_hand c kind operand) first before new operand
hand_tested c kind first operand before new tests =
    value_tested c kind first (record { code = no_nodes; operand = operand; temps = before.temps }) before before new operand
    (λ room. (straight_none before, refl)) tests

-- TRUTH

pub truth_put : (w : Ways) (c : Context) (to : ℕ) (tested : Tested) (start o m n : Out) → EmitsTest tested.test tested.temps start o
    → EmitsCode (command c.line (cmd.Copy to (Num (pos 1)))) o.temps (At (length o.nodes)) o m
    → EmitsCode (command c.line (cmd.Copy to (Num (pos 0)))) m.temps (At (length m.nodes)) m n
    → w.holds ≡ At (length o.nodes) → w.fails ≡ At (length m.nodes)
    → EmitsCode (put_truth c to tested).code tested.temps (At (length start.nodes)) start
    (led_out (length start.nodes) (length o.nodes) w n)
truth_put w c to tested start o m n h k l holds fails =
    let k' = subst (λ ts. EmitsCode (command c.line (cmd.Copy to (Num (pos 1)))) ts (At (length o.nodes)) o m) h.grows.temps k in
    let l' = subst (λ ts. EmitsCode (command c.line (cmd.Copy to (Num (pos 0)))) ts (At (length m.nodes)) m n) k'.grows.temps l in
    chosen w tested.test _ _ tested.temps tested.temps tested.temps (At (length o.nodes))
    (At (length m.nodes)) start o m n h k' l' holds fails

pub truth_put_at : (w : Ways) (c : Context) (to : ℕ) (tested : Tested) (start o m n new : Out) (from past holds fails : ℕ)
    → from ≡ length start.nodes → past ≡ length o.nodes
    → length start.nodes + (tested.test.size + 2) < 4294967296 → EmitsTest tested.test tested.temps start o
    → EmitsCode (command c.line (cmd.Copy to (Num (pos 1)))) o.temps (At (length o.nodes)) o m
    → EmitsCode (command c.line (cmd.Copy to (Num (pos 0)))) m.temps (At (length m.nodes)) m n
    → (length o.nodes < 4294967296 → holds ≡ length o.nodes) → (length m.nodes < 4294967296 → fails ≡ length m.nodes) → w.holds ≡ At holds
    → w.fails ≡ At fails
    → (from ≤ past → past ≤ length n.nodes → new ≡ led_out from past w n)
    → EmitsCode (put_truth c to tested).code tested.temps (At (length start.nodes)) start new
truth_put_at w c to tested start o m n new from past holds fails begin there room tests one other at_holds at_fails is_holds is_fails
    leads =
    let behind = behind_nodes start o tests.grows in
    let behind' = behind_nodes o m one.grows in
    let behind'' = behind_nodes m n other.grows in
    let is : new ≡ led_out (length start.nodes) (length o.nodes) w n =
    subst (λ x. new ≡ led_out x (length o.nodes) w n) begin (subst (λ y. new ≡ led_out from y w n) there
    (leads (omega (arith, begin, there, behind)) (omega (arith, there, behind', behind'')))) in
    subst (λ x. EmitsCode (put_truth c to tested).code tested.temps (At (length start.nodes)) start x) (sym is)
    (truth_put w c to tested start o m n tests one other
    (is_holds ∙ ap At (at_holds (omega (arith, behind, room)))) (is_fails ∙ ap At (at_fails (omega (arith, behind, behind', room)))))

-- the value of a test, whose temporary was taken before it
pub truth_valued : (w : Ways) (c : Context) (to : ℕ) (testing : List Temp → Tested) (before start o n new : Out)
    → (HasRoom c.first_temp 1 before
    → (to ≡ c.first_temp + (take_temp Int before.temps).place) × (start ≡ record before { temps = (take_temp Int before.temps).temps }))
    → EmitsTested (testing start.temps) c.first_temp start o
    → (length start.nodes + ((testing start.temps).test.size + 2) < 4294967296
    → EmitsTest (testing start.temps).test (testing start.temps).temps start o
    → EmitsCode (put_truth c to (testing start.temps)).code (testing start.temps).temps (At (length start.nodes)) start n)
    → (length n.nodes < 4294967296 → w.next ≡ At (length n.nodes))
    → (length start.nodes ≤ length n.nodes → new ≡ led_out (length start.nodes) (length n.nodes) w n)
    → Emits Value (truth c testing) c.first_temp before new (Slot to)
truth_valued w c to testing before start o n new begins tests puts next leads room =
    let t = testing (take_temp Int before.temps).temps in
    let nodes = room.nodes in
    let temps = room.temps in
    let grows = take_grows Int before.temps in
    let b = begins (record { nodes = omega (arith, nodes); temps = omega (arith, temps) }) in
    let begun = record before { temps = (take_temp Int before.temps).temps } in
    let tested : EmitsTest t.test t.temps begun o =
    subst (λ s. EmitsTested (testing s.temps) c.first_temp s o) b.1 tests
    (record { nodes = omega (arith, nodes); temps = omega (arith, temps, grows) }) in
    let put : EmitsCode (put_truth c to t).code t.temps (At (length before.nodes)) begun n =
    subst (λ s. length s.nodes + ((testing s.temps).test.size + 2) < 4294967296
    → EmitsTest (testing s.temps).test (testing s.temps).temps s o
    → EmitsCode (put_truth c to (testing s.temps)).code (testing s.temps).temps (At (length s.nodes)) s n) b.1 puts
    (omega (arith, nodes)) tested in
    let behind = behind_nodes begun n put.grows in
    let there = next (omega (arith, nodes, behind)) in
    let code = (put_truth c to t).code in
    let is : new ≡ led_out (length before.nodes) (length n.nodes) w n =
    subst (λ s. length s.nodes ≤ length n.nodes → new ≡ led_out (length s.nodes) (length n.nodes) w n) b.1 leads (omega (arith, behind)) in
    let led_code : EmitsStraight (straight code) t.temps begun (led_out (length before.nodes) (length n.nodes) w n) =
    straight_led w code t.temps (At (length before.nodes)) begun n put
    (λ p. ap (λ x.
    (t.test.nodes (length before.nodes) (length before.nodes + t.test.size) (length before.nodes + t.test.size + 1)
    ++ node c.line (cmd.Copy to (Num (pos 1)) x) ∷ [])
    ++ node c.line (cmd.Copy to (Num (pos 0)) x) ∷ []) (ap (resolve p) there ∙ behind))
    (λ at. refl) in
    let grown = tested.grows.grown in
    let out : EmitsStraight (straight code) t.temps before (led_out (length before.nodes) (length n.nodes) w n) = record {
      drafts = led_code.drafts;
      grows =
          record {
            nodes = led_code.grows.nodes;
            size = led_code.grows.size;
            temps = led_code.grows.temps;
            grown = omega (arith, grown, grows);
          };
      laid = led_code.laid;
      loops = led_code.loops;
    } in (
      subst (λ x. EmitsStraight (straight (put_truth c x t).code) t.temps before new) b.0
          (subst (λ x. EmitsStraight (straight code) t.temps before x) (sym is) out),
      ap Slot b.0,
    )

pub truth_valued_at : (used : Use) → used ≡ Value → (w : Ways) (c : Context) (first : ℕ) → c.first_temp ≡ first
    → (to from past : ℕ) (testing : List Temp → Tested) (before start o n new : Out)
    → BeginsTruth used first before start to → from ≡ length start.nodes → past ≡ length n.nodes
    → EmitsTested (testing start.temps) first start o
    → (length start.nodes + ((testing start.temps).test.size + 2) < 4294967296
    → EmitsTest (testing start.temps).test (testing start.temps).temps start o
    → EmitsCode (put_truth c to (testing start.temps)).code (testing start.temps).temps (At (length start.nodes)) start n)
    → (length n.nodes < 4294967296 → w.next ≡ At (length n.nodes))
    → (from ≤ past → past ≤ length n.nodes → new ≡ led_out from past w n)
    → Emits used (truth c testing) first before new (Slot to)
truth_valued_at used as_value w c first at_first to from past testing before start o n new begins begin there tests puts next leads =
    let leads' : length start.nodes ≤ length n.nodes → new ≡ led_out (length start.nodes) (length n.nodes) w n =
    λ le. subst (λ x. new ≡ led_out x (length n.nodes) w n) begin
    (subst (λ y. new ≡ led_out from y w n) there (leads (omega (arith, begin, there, le)) (omega (arith, there)))) in
    subst (λ f. BeginsTruth used f before start to → EmitsTested (testing start.temps) f start o
    → Emits used (truth c testing) f before new (Slot to)) at_first
    (subst (λ u. BeginsTruth u c.first_temp before start to → EmitsTested (testing start.temps) c.first_temp start o
    → Emits u (truth c testing) c.first_temp before new (Slot to)) (sym as_value)
    (λ b t. truth_valued w c to testing before start o n new b t puts next leads')) begins tests
