-- A printed number is text, and parses as itself.
use Rattle.std.proofs.Common.{◌∙◌, sym, ap, arith}
use Rattle.std.specs.Str.{IsUtf8}
use Rattle.std.specs.Fmt.{decimal}
use Rattle.std.proofs.lemmas.Fmt.{IsAscii-decimal, parse-decimal}
use Rattle.std.proofs.lemmas.Str.{IsUtf8-from_ascii}
use Rattle.std.specs.Result.{result_ok}
use Rattle.session_lines.proofs.Results.{at_ok, at_err}
use Rattle.session_lines.proofs.lines.number_in.Goals as goal

pub returns-in_err-ok : goal.returns-in_err-ok
returns-in_err-ok c = λ n small text.
    let (fault, is) = at_err c.from_utf8.result _ _ c.from_utf8.ensures.cases (sym c.in_err-ok.ensures.value) in
    let is_text : IsUtf8 c.args.digits.now = rw text (IsUtf8-from_ascii (decimal n) (IsAscii-decimal n (omega arith))) in
    absurd (is.0 is_text)

pub returns : goal.returns
returns c = λ n small text.
    let is = at_ok c.from_utf8.result _ _ c.in_ok-ok.field-0 c.from_utf8.ensures.cases (sym c.in_ok-ok.ensures.value) in
    let parsed = parse-decimal 32 n c.in_ok-ok.field-0.now c.parse.result small (omega arith) (is.0 ∙ text) c.parse.ensures.value.0 in
    c.ok-2.ensures.value ∙ ap result_ok parsed
