use Rattle.std.proofs.Common.{◌≡◌, ◌≤◌, map, length, ap, ◌∙◌, rules, arith}
use Rattle.std.proofs.Math.Nat.{min-eq_left}
use Rattle.std.proofs.lemmas.List.{length-map}
use Rattle.std.specs.List.{insert}
use Rattle.c_lower_emit.specs.Seen.{loop_seen}
use Rattle.c_lower_emit.specs.Emitting.{Out, with_loop}
use Rattle.c_lower_emit.proofs.Inserting.{map-insert}
use Rattle.c_lower_emit.proofs.output.Output.add_loop.Goals as goal

pub returns : goal.returns
returns c = λ within lt.
    let len : c.len.result ≡ length c.self.inside.loops.items = search rules in
    let seen = ap (λ (o : Out). length o.loops) c.self.view_is in
    let many = length-map c.self.inside.loops.items loop_seen in
    let le : c.args.place ≤ c.len.result = omega (arith, within, len, seen, many) in
    let place : c.min.result ≡ c.args.place = c.min.ensures ∙ min-eq_left le in
    ap (λ (o : Out). record o { loops = map loop_seen c.insert.new.self.items }) c.self.view_is
    ∙ ap (λ xs. record c.args.self.now { loops = map loop_seen xs })
    (c.in_ok-insert.ensures.items
    ∙ ap (λ n. insert c.self.inside.loops.items n
    (record { head = c.args.head; past = c.here-past.result; visible = c.args.visible })) place)
    ∙ ap (λ ls. record c.args.self.now { loops = ls })
    (map-insert loop_seen c.self.inside.loops.items c.args.place
    (record { head = c.args.head; past = c.here-past.result; visible = c.args.visible }))
    ∙ ap (λ (o : Out). with_loop c.args.place (record { head = c.args.head; past = c.here-past.result; visible = c.args.visible })
    (record c.args.self.now { loops = o.loops })) c.self.view_is
    ∙ ap (λ n. with_loop c.args.place (record { head = c.args.head; past = n; visible = c.args.visible }) c.args.self.now)
    (c.here-past.ensures lt)
