-- What is made of a normal form, if there is one.
use Rattle.std.specs.declared.option.Option.{Option}
use Rattle.std.specs.declared.option.Option.TheVariants.{None, Some}
use Rattle.shape_data.specs.declared.symbolic.SymState.{SymState}
use Rattle.sym_pure.specs.declared.parts.Normal.{Normal}
use Rattle.sym_pure.specs.declared.parts.Normal.TheVariants.{Is, Contradiction}

-- what a function makes of the form; of a contradiction nothing
abbrev pub of_form : {A : Type 0} → (SymState → A) → Normal → Option A
of_form make (Is form) = Some (make form)
of_form make Contradiction = None

-- what a function that may make nothing makes of the form
abbrev pub of_form_some : {A : Type 0} → (SymState → Option A) → Normal → Option A
of_form_some make (Is form) = make form
of_form_some make Contradiction = None
