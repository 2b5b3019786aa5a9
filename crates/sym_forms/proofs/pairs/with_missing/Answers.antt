use Rattle.std.proofs.Common.{◌≡◌, ◌∙◌, ap, sym}
use Rattle.std.specs.declared.option.Option.TheVariants.{Some}
use Rattle.sym_parts.specs.Laws.Mapped.{on_state}
use Rattle.sym_pure.specs.declared.parts.Normal.TheVariants.{Is}
use Rattle.sym_pure.specs.Equations.{read_through}
use Rattle.sym_pure.specs.Normal.{normal}
use Rattle.sym_forms.specs.Forms.{of_form}
use Rattle.sym_forms.specs.PairForms.{pair_of}
use Rattle.sym_forms.proofs.pairs.with_missing.Goals as goal

pub returns-in_ok-pair_of-in-Is : goal.returns-in_ok-pair_of-in-Is
returns-in_ok-pair_of-in-Is c =
    let read : c.in_ok-read.read ≡ on_state (read_through c.args.missing.pure) c.args.state.now =
    rw c.as_slice.ensures at c.in_ok-read.ensures in
    let form : normal c.in_ok-read.read ≡ Is c.in-Is.state = sym c.in_ok-normal.ensures ∙ c.in-Is.is in
    ap (λ pair. Some pair) c.in_ok-pair_of-in-Is.ensures
    ∙ sym (ap (λ n. of_form (pair_of c.args.params c.args.missing) n) (ap normal (sym read) ∙ form))
