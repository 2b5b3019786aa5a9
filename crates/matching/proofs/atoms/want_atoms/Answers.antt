-- Each turn is one of the definition.
use Rattle.std.proofs.Common.{◌∙◌, ◌<◌, length, sym, arith}
use Rattle.sym_matching.specs.RuleSteps.InSetting.{rules_in}
use Rattle.matching.proofs.AtomTurns.{atoms_go, atoms_stop}
use Rattle.matching.proofs.atoms.want_atoms.Goals as goal

pub returns-in-Stuck : goal.returns-in-Stuck
returns-in-Stuck c =
    let inside : c.loop-done.done < length c.args.wanted = omega (arith, c.len-turns.ensures) in
    sym (c.loop-done.invariant.0
    ∙ atoms_stop (rules_in c.args.setting.now)
    (length c.args.wanted) c.loop-done.done c.loop-done.left c.want_next.new.wanted c.loop-done.current c.in_ok-next.field-0 inside
    c.in_ok-next.ensures.goes c.in-Stuck.number c.in-Stuck.is)

pub loop-done-preserved : goal.loop-done-preserved
loop-done-preserved c =
    let inside : c.loop-done.done < length c.args.wanted = omega (arith, c.len-turns.ensures) in (
      c.loop-done.invariant.0
          ∙ atoms_go (rules_in c.args.setting.now)
          (length c.args.wanted) c.loop-done.done c.loop-done.left c.want_next.new.wanted c.loop-done.current c.in_ok-next.field-0 inside
          c.in_ok-next.ensures.goes c.in-On.next c.in-On.is,
      c.in_ok-next.ensures.room c.in-On.next c.in-On.is,
      c.in_ok-next.ensures.names c.in-On.next c.in-On.is,
    )
