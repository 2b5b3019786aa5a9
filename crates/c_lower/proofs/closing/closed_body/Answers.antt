use Rattle.std.proofs.Common.{ℕ, length, sym, subst}
use Rattle.c_grammar.specs.declared.tokens.places.Place.{Place}
use Rattle.c_grammar.specs.Trees.{Stmts}
use Rattle.c_lower_rules.specs.Contexts.{at_place}
use Rattle.c_lower_rules.specs.Temporaries.{released}
use Rattle.c_lower_rules.specs.Numbers.{StmtsHaveIntNumbers}
use Rattle.c_lower_rules.specs.Statements.{stmts}
use Rattle.c_tree.specs.Syntax.{block_tree}
use Rattle.c_lower_emit.specs.declared.drafts.Label.TheVariants.{At}
use Rattle.c_lower_emit.specs.Emitting.{HasRoom, EmitsCode}
use Rattle.c_lower_exprs.specs.Contexts.{on_line}
use Rattle.c_lower_stmts.specs.Laying.{EmitsLowered}
use Rattle.c_lower_stmts.specs.Standing.{state}
use Rattle.c_lower.specs.Closing.{closing, closed_body, Closes}
use Rattle.c_lower.proofs.Closed.{body_closed}
use Rattle.c_lower.proofs.Whole.{block_is, end_is}
use Rattle.c_lower.proofs.closing.closed_body.Goals as goal

pub returns-clause-code : goal.returns-clause-code
returns-clause-code c = λ line room slots.
    let block = block_tree c.args.body.now in
    let before = c.args.context.now in
    let after = c.stmts.new.context in
    let o = c.args.out.now in
    let m = c.stmts.new.out in
    let n = c.close.new.out in
    let lays =
    subst (λ (t : Stmts). StmtsHaveIntNumbers t → (at : ℕ)
    → EmitsLowered (stmts t (state (on_line before at) 0 o)) before 0 after c.in_ok-laid.laid o m)
    (sym (block_is c.args.body.now)) c.in_ok-laid.ensures.laid in
    let ends = subst (λ (p : Place). HasRoom after.first_temp (closing after.result (at_place after p) (released m.temps)).code.size m
    → EmitsCode (closing after.result (at_place after p) (released m.temps)).code
    (closing after.result (at_place after p) (released m.temps)).temps (At (length m.nodes))
    (record m { temps = released m.temps }) n) (sym (end_is c.args.body.now)) c.in_ok-close.ensures in
    subst (λ begin. Closes (closed_body (on_line before line) block o) begin o c.lead_next.new.self) (sym c.redirect.ensures)
    (body_closed before after block line o m n c.lead_next.new.self c.in_ok-laid.laid c.len-from.result c.len-past.result c.here.result
    c.in_ok-laid.ensures.within
    (lays c.requires line) ends c.len-from.ensures c.len-past.ensures c.here.ensures c.lead_next.ensures room slots)
