-- The line's bytes, and those behind it, were taken.
use Rattle.std.proofs.Common.{◌≡◌, ◌∙◌, ap, drop, arith}
use Rattle.session_lines.specs.Reading.{Reading}
use Rattle.session_lines.proofs.LineLemmas.{body_small}
use Rattle.session_lines.proofs.Streams.{kept_behind}
use Rattle.session_lines.proofs.session.take_line.Goals as goal

pub returns-in_err-command-clause-kept : goal.returns-in_err-command-clause-kept
returns-in_err-command-clause-kept g c =
    let is : c.skip.new.self ≡ drop c.args.size c.args.commands.now.ahead =
    c.skip.ensures ∙ ap (λ (r : Reading). drop c.args.size r.ahead) c.commands.view_is in
    kept_behind c.args.size c.args.commands.now.ahead c.skip.new.self _ _ is c.command_with.ensures.kept

pub returns-in-Command-clause-kept : goal.returns-in-Command-clause-kept
returns-in-Command-clause-kept g c =
    let is : c.skip.new.self ≡ drop c.args.size c.args.commands.now.ahead =
    c.skip.ensures ∙ ap (λ (r : Reading). drop c.args.size r.ahead) c.commands.view_is in
    kept_behind c.args.size c.args.commands.now.ahead c.skip.new.self _ _ is c.command_with.ensures.kept

pub returns-in-Short-clause-kept : goal.returns-in-Short-clause-kept
returns-in-Short-clause-kept g c =
    let is : c.skip.new.self ≡ drop c.args.size c.args.commands.now.ahead =
    c.skip.ensures ∙ ap (λ (r : Reading). drop c.args.size r.ahead) c.commands.view_is in
    kept_behind c.args.size c.args.commands.now.ahead c.skip.new.self _ _ is c.command_with.ensures.kept

pub returns-in-Failed-clause-kept : goal.returns-in-Failed-clause-kept
returns-in-Failed-clause-kept g c =
    let is : c.skip.new.self ≡ drop c.args.size c.args.commands.now.ahead =
    c.skip.ensures ∙ ap (λ (r : Reading). drop c.args.size r.ahead) c.commands.view_is in
    kept_behind c.args.size c.args.commands.now.ahead c.skip.new.self _ _ is c.command_with.ensures.kept

pub invariant_of-commands-in-Command : goal.invariant_of-commands-in-Command
invariant_of-commands-in-Command g c =
    let same : c.commands.inside.taken ≡ c.args.commands.now.taken = ap (λ (r : Reading). r.taken) c.commands.view_is in
    let small = body_small c.in-Some.line (c.requires.allowed c.in-Some.line c.in-Some.is) in
    (omega (arith, c.requires.few), omega (arith, c.commands.invariant, c.from.ensures, c.body_size.ensures, c.requires.short))
