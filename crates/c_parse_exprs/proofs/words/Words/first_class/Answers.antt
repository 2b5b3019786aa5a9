use Rattle.std.proofs.Common.{◌∙◌, ap, sym}
use Rattle.std.specs.Option.{option_copied}
use Rattle.c_grammar.specs.Readers.{class_at}
use Rattle.c_parse_exprs.proofs.Cursor.{first_seen, none_seen}
use Rattle.c_parse_exprs.proofs.words.Words.first_class.Goals as goal

pub returns-in-Some : goal.returns-in-Some
returns-in-Some c =
    first_seen c.self.inside.tokens.now c.self.inside.classes.now c.in-Some.class.now c.self.invariant.classes
    (sym c.first.ensures.value ∙ ap option_copied c.in-Some.is)
    ∙ ap class_at c.self.view_is

pub returns-in-None : goal.returns-in-None
returns-in-None c =
    none_seen c.self.inside.tokens.now c.self.inside.classes.now c.self.invariant.classes
    (sym c.first.ensures.value ∙ ap option_copied c.in-None.is)
    ∙ ap class_at c.self.view_is
