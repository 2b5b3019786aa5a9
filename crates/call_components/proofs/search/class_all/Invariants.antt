use Rattle.std.proofs.Common.{◌≡◌, ℕ, length, take}
use Rattle.std.specs.Prelude.{if◌then◌else◌}
use Rattle.component_keys.specs.Components.{holds}
use Rattle.call_components.specs.declared.marks.Mark.TheVariants.{Done}
use Rattle.call_components.specs.Searching.{mark_of}
use Rattle.call_components.proofs.search.class_all.Given as goal

abbrev pub invariant-loop-number : goal.invariant-loop-number
invariant-loop-number l =
    record {
      lengths : length l.marks.items ≡ length l.initial.marks.items;
      classed : (number : ℕ)
          → mark_of l.marks.items number
          ≡ (if holds (take l.number-index l.numbers) number then Done l.class else mark_of l.initial.marks.items number);
    }
