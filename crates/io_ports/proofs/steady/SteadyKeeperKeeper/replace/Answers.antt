use Rattle.std.proofs.Common.{Some, ap, ◌∙◌}
use Rattle.io_ports.proofs.Found.{found_put, found_other}
use Rattle.io_ports.proofs.steady.SteadyKeeperKeeper.replace.Goals as goal

pub returns-in-Ok-insert-clause-replaced : goal.returns-in-Ok-insert-clause-replaced
returns-in-Ok-insert-clause-replaced c =
    found_put c.self.inside.files c.insert.new.self c.in-Ok.path c.in-Ok-from_slice.bytes c.in-Ok-insert.ensures.updates c.args.path.now
    c.in-Ok.ensures.ok
    ∙ ap Some c.in-Ok-from_slice.ensures.items

pub returns-in-Ok-insert-clause-others : goal.returns-in-Ok-insert-clause-others
returns-in-Ok-insert-clause-others c other differs =
    found_other c.self.inside.files c.insert.new.self c.in-Ok.path c.in-Ok-from_slice.bytes c.in-Ok-insert.ensures.updates c.args.path.now
    other c.in-Ok.ensures.ok differs _ c.self.view_is
