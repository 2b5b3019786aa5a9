use Rattle.std.proofs.Common.{Some, ap, sym, ◌∙◌}
use Rattle.std.specs.Option.{option_map}
use Rattle.io_ports.proofs.Found.{found_there}
use Rattle.io_ports.proofs.steady.SteadyKeeper.get.Goals as goal

pub returns-in-Some : goal.returns-in-Some
returns-in-Some c =
    ap Some c.as_slice.ensures.value ∙ ap (option_map (λ bytes. bytes.items)) c.in-Some.ensures.value
    ∙ sym (found_there c.self.inside.files _ c.self.view_is c.args.path.now)

pub returns-in-None : goal.returns-in-None
returns-in-None c =
    ap (option_map (λ bytes. bytes.items)) c.in-None.ensures.value
    ∙ sym (found_there c.self.inside.files _ c.self.view_is c.args.path.now)
