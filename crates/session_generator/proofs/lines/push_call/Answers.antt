-- The front of the line, and then the call.
use Rattle.std.proofs.Common.{◌≡◌, ◌-◌, ◌++◌}
use Rattle.std.specs.Prelude.{codes}
use Rattle.std.proofs.lemmas.Result.{IfOk-weaker}
use Rattle.session_generator.specs.Generated.{call_line, proc_name}
use Rattle.session_generator.proofs.Appending.{joined}
use Rattle.session_generator.proofs.lines.push_call.Goals as goal

pub returns : goal.returns
returns c =
    IfOk-weaker c.push_callee.result
    (λ _. c.push_callee.new.text.items ≡ c.push_named.new.text.items ++ (proc_name (c.args.number - 2) ++ codes "(x); }\n"))
    (λ _. c.push_callee.new.text.items ≡ c.args.text.now.items ++ call_line c.args.number)
    (λ _ is. joined c.args.text.now.items c.push_named.new.text.items c.push_callee.new.text.items
    (codes "void " ++ proc_name c.args.number ++ codes "(struct cell *x) { ")
    (proc_name (c.args.number - 2)) (codes "(x); }\n") c.in_ok-push_named.ensures is)
    c.push_callee.ensures
