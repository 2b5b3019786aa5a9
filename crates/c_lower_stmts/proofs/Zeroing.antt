-- 0 in an int temporary.
use Rattle.std.proofs.Common.{◌≡◌, ℕ, ◌+◌, ◌<◌, ◌≤◌, Bool, true, false, cond, List, [], ◌∷◌, length, min, refl, sym, ap, ◌∙◌, subst, arith}
use Rattle.std.proofs.lemmas.List.{append-nil}
use Rattle.std.specs.Prelude.{pos}
use Rattle.shape_data.specs.declared.program.Cmd.TheVariants as cmd
use Rattle.shape_data.specs.declared.program.Operand.TheVariants.{Num}
use Rattle.shape_data.specs.declared.program.Ty.{Ty}
use Rattle.shape_data.specs.declared.program.Ty.TheVariants.{Int}
use Rattle.c_lower_rules.specs.Code.{command}
use Rattle.c_lower_rules.specs.Temporaries.{Temp, Taken, is_free, behind_temp, take_temp}
use Rattle.c_lower_emit.specs.declared.drafts.Label.TheVariants.{At, Next}
use Rattle.c_lower_emit.specs.Emitting.{Out, with_draft, HasRoom, EmitsCode}
use Rattle.c_lower_emit.proofs.Using.{slot_is}

-- what is taken, by whether the first is free
abbrev found_by : Ty → Temp → List Temp → Bool → Taken
found_by kind first others b =
    cond b (record { place = 0; temps = record first { used = true } ∷ others }) (behind_temp first (take_temp kind others))

take_grows : (kind : Ty) (temps : List Temp) → length (take_temp kind temps).temps ≤ length temps + 1
take_grows kind [] = omega arith
take_grows kind (first ∷ others) = by_test (is_free kind first) (take_grows kind others)
  where
    by_test : (b : Bool) → length (take_temp kind others).temps ≤ length others + 1
        → length (found_by kind first others b).temps ≤ length (first ∷ others) + 1
    by_test true h = omega arith
    by_test false h = omega (arith, h)

-- 0 goes to an int temporary
abbrev pub Zeroes : ℕ → ℕ → Out → Out → Type 0
Zeroes first line o new =
    HasRoom first 1 o
    → EmitsCode (command line (cmd.Copy (first + (take_temp Int o.temps).place) (Num (pos 0)))) (take_temp Int o.temps).temps
    (At (length o.nodes)) o new

pub zero_put : (first line : ℕ) (o taken new : Out) (place slot : ℕ) → taken ≡ record o { temps = (take_temp Int o.temps).temps }
    → (length o.temps < 4294967296 → place ≡ (take_temp Int o.temps).place) → slot ≡ min (first + place) 4294967295
    → new ≡ with_draft line (cmd.Copy slot (Num (pos 0)) 0) Next Next taken → Zeroes first line o new
zero_put first line o taken new place slot takes at sat pushes room =
    let is = slot_is first Int o place slot room at sat in
    let to = first + (take_temp Int o.temps).place in
    let out : new ≡ with_draft line (cmd.Copy to (Num (pos 0)) 0) Next Next (record o { temps = (take_temp Int o.temps).temps }) =
    pushes ∙ ap (with_draft line (cmd.Copy slot (Num (pos 0)) 0) Next Next) takes
    ∙ ap (λ s. with_draft line (cmd.Copy s (Num (pos 0)) 0) Next Next (record o { temps = (take_temp Int o.temps).temps })) is in
    subst (λ x. EmitsCode (command line (cmd.Copy to (Num (pos 0)))) (take_temp Int o.temps).temps (At (length o.nodes)) o x) (sym out)
    (record {
      drafts = record { line = line; cmd = cmd.Copy to (Num (pos 0)) 0; next = Next; other = Next } ∷ [];
      grows = record { nodes = refl; size = refl; temps = refl; grown = take_grows Int o.temps };
      laid = λ p. refl;
      entry = λ p. refl;
      loops = sym (append-nil o.loops);
    })
