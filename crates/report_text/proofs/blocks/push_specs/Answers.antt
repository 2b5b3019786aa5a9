-- Each spec is one of those that are.
use Rattle.std.proofs.Common.{arith, sym, subst}
use Rattle.sym_text.specs.Shape.{IsShapedSpec}
use Rattle.report_text.proofs.blocks.push_specs.Goals as goal

pub push_spec-requires : goal.push_spec-requires
push_spec-requires c =
    subst (IsShapedSpec c.args.structs.now) (sym c.spec-item.is) (c.requires c.loop-spec.spec-index c.spec-item.result (omega arith))
