-- A run over two lists of choices, one after the other.
use Rattle.std.specs.Prelude.{◌≡◌, ℕ, ◌+◌, List, [], ◌∷◌, ◌++◌, length}
use Rattle.std.proofs.Common.{refl, ap, ◌∙◌, arith, zero-add, add-zero}
use Rattle.shape_data.specs.declared.machine.Choice.{Choice}
use Rattle.shape_data.specs.declared.machine.Config.{Config}
use Rattle.shape_data.specs.declared.machine.Stepped.{Stepped}
use Rattle.shape_data.specs.declared.machine.Stepped.TheVariants as stepped
use Rattle.shape_data.specs.declared.program.Program.{Program}
use Rattle.shape_data.specs.Machine.{step, run_after, run_from, run}
use Rattle.sym_parts.specs.Shapes.Continued.{continued}

pub run_from-append : (program : Program) (first second : List Choice) (config : Config) (index : ℕ) →
    run_from program config (first ++ second) index ≡ continued program (index + length first) second (run_from program config first index)
run_from-append program [] second config index = rw (add-zero index) refl
run_from-append program (choice ∷ choices) second config index =
    by_step (step program config choice) (λ next. run_from-append program choices second next (index + 1))
  where
    counted : (index + 1) + length choices ≡ index + length (choice ∷ choices)
    counted = omega arith

    by_step : (to : Stepped) →
        ((next : Config) →
        run_from program next (choices ++ second) (index + 1)
        ≡ continued program ((index + 1) + length choices) second (run_from program next choices (index + 1))) →
        run_after index (λ next. run_from program next (choices ++ second) (index + 1)) to
        ≡ continued program (index + length (choice ∷ choices)) second
        (run_after index (λ next. run_from program next choices (index + 1)) to)
    by_step (stepped.On next) later = later next ∙ ap (λ n. continued program n second (run_from program next choices (index + 1))) counted
    by_step (stepped.Returned value heap) later = refl
    by_step (stepped.Fault line cause) later = refl
    by_step stepped.BadChoice later = refl

pub run-append : (program : Program) (config : Config) (first second : List Choice) →
    run program config (first ++ second) ≡ continued program (length first) second (run program config first)
run-append program config first second =
    run_from-append program first second config 0
    ∙ ap (λ n. continued program n second (run program config first)) (zero-add (length first))
