use Rattle.std.proofs.Common.{rules, refl}
use Rattle.std.specs.Int.{int_wrap, w32}
use Rattle.std.proofs.lemmas.Int.{to_z-of_z}
use mir.Val.{SFits}
use mir.Syntax.{w128}
use Rattle.heap_run.proofs.numbers.wrapped.Goals as goal

pub returns : goal.returns
unfolding int_wrap
returns c =
    let low_fits : SFits w128 c.rem_euclid-low.result = search rules in
    let result_fits : SFits w32 c.cast_signed.result = search rules in
    rw (
      to_z-of_z w32 c.cast_signed.result result_fits,
      c.cast_signed.ensures,
      to_z-of_z w128 c.rem_euclid-low.result low_fits,
      c.rem_euclid-low.ensures.value,
      to_z-of_z w128 c.args.value c.ranges.value,
    ) refl
