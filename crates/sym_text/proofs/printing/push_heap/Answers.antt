use Rattle.std.proofs.Common.{◌≡◌, arith, map, length}
use Rattle.std.proofs.lemmas.Bool.Decides.{nat_tests}
use Rattle.std.proofs.lemmas.Result.{IfOk-weaker}
use Rattle.sym_text.specs.Text.{fact_text, atom_text}
use Rattle.sym_text.proofs.LedTexts.{led_heap, led_by_facts, led_by_parts}
use Rattle.sym_text.proofs.printing.push_heap.Goals as goal
use Rattle.sym_text.proofs.printing.push_heap.Goals.{else-is_empty-via-then-is_empty+else-is_empty-2, else-is_empty-via-else-is_empty}

pub returns : goal.returns
returns c =
    let facts = c.args.heap.now.pure in
    let atoms = c.args.heap.now.spatial in
    let e = rw c.as_slice-2.ensures at c.push_atoms.ensures in
    let f = rw c.as_slice.ensures at c.in_ok-push_facts.ensures in
    let some : length facts ≡ 0 → length atoms ≡ 0 → ⊥ = λ no_fact no_atom. elim c.else-is_empty.branch [
      | else-is_empty-via-then-is_empty+else-is_empty-2 w ↦ grind (arith, nat_tests)
      | else-is_empty-via-else-is_empty w ↦ grind (arith, nat_tests)
    ] in
    IfOk-weaker c.push_atoms.result _ _
    (λ x second. led_heap c.args.text.now.items c.push_facts.new.text.items _ (map (fact_text c.args.params.now) facts)
    (map (atom_text c.args.structs.now c.args.params.now) atoms) _
    (led_by_facts facts (fact_text c.args.params.now) _ c.is_empty-2.ensures)
    (led_by_parts facts atoms (fact_text c.args.params.now) (atom_text c.args.structs.now c.args.params.now) some)
    f second) e
