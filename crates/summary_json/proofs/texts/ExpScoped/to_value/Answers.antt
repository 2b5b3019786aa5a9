use Rattle.std.proofs.Common.{sym, ◌∙◌, subst, IsUtf8}
use Rattle.summary_json.proofs.PlainTexts.{exp_is_utf8}
use Rattle.summary_json.proofs.texts.ExpScoped.to_value.Goals as goal

pub text_value-requires : goal.text_value-requires
text_value-requires c =
    subst IsUtf8 (sym (c.as_slice.ensures.value ∙ c.in_ok-text.ensures)) (exp_is_utf8 c.args.params.now c.requires.params c.args.self.now)
