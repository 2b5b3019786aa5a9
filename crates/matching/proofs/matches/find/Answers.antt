-- There is room beside the arguments' variables, and the answer is the definition's.
use Rattle.std.proofs.Common.{◌≡◌, ◌∙◌}
use Rattle.std.proofs.lemmas.Result.{IfOk-weaker}
use Rattle.sym_matching.specs.declared.matching.Turned.TheVariants.{On}
use Rattle.sym_matching.specs.Matches.{answer_abd, matching, rules_of}
use Rattle.sym_matching.specs.RuleSteps.InSetting.{rules_with}
use Rattle.matching.proofs.MatchSteps.{answered, arguments-names, start-next, start-used}
use Rattle.matching.proofs.SmallLaws.{arguments-room}
use Rattle.matching.proofs.matches.find.Goals as goal

pub want_heap-requires-clause-room : goal.want_heap-requires-clause-room
want_heap-requires-clause-room c =
    arguments-room c.args.a.now c.args.b.now c.args.bound.now c.args.flexible.now c.args.avoid.now c.in_ok-m.m.used c.requires.a
    c.requires.b c.requires.bound c.requires.flexible c.requires.avoid
    (start-used c.args.a.now c.args.bound.now c.in_ok-used.used.items c.args.next c.in_ok-m.m c.in_ok-m.ensures ∙ c.in_ok-used.ensures)

pub want_heap-requires-clause-names : goal.want_heap-requires-clause-names
want_heap-requires-clause-names c =
    arguments-names c.args.b.now c.args.next c.in_ok-m.m.next c.requires.b
    (start-next c.args.a.now c.args.bound.now c.in_ok-used.used.items c.args.next c.in_ok-m.m c.in_ok-m.ensures) c.requires.next

pub returns-in-On : goal.returns-in-On
returns-in-On c =
    IfOk-weaker c.answer.result
    (λ found. found ≡ answer_abd (rules_with c.args.mode c.as_slice.result.now c.args.flexible.now) c.args.b.now (On c.in-On.n))
    (λ found. found
    ≡ answer_abd (rules_of c.args.mode c.args.a.now c.args.flexible.now) c.args.b.now
    (matching c.args.mode c.args.a.now c.args.b.now c.args.bound.now c.args.flexible.now c.args.avoid.now c.args.next))
    (λ found told. answered c.args.mode c.args.a.now c.args.b.now c.args.bound.now c.args.flexible.now c.args.avoid.now c.args.next
    c.as_slice.result.now c.in_ok-used.used.items c.in_ok-m.m (On c.in-On.n) found
    c.as_slice.ensures c.in_ok-used.ensures c.in_ok-m.ensures (rw c.in-On.is at c.in_ok-n.ensures) told)
    c.answer.ensures
