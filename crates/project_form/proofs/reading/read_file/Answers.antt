-- What a file is read as is noted.
use Rattle.std.proofs.Common.{◌≡◌, true, false, rules}
use Rattle.project_form.specs.Kept.{HasUnit}
use Rattle.project_form.specs.Reads.{NoTokens, NoFile, IsRead}
use Rattle.project_form.proofs.Units.{noted-tree, noted-tokens, noted-syntax}
use Rattle.project_form.proofs.reading.read_file.Goals as goal

pub returns-in-Ok-clause-noted : goal.returns-in-Ok-clause-noted
returns-in-Ok-clause-noted c =
    let has : HasUnit c.args.file.now.file.bytes = c.in-Ok.ensures.unit in
    let kept : c.read.new.self ≡ record c.args.file.now { is_kept = true } = search rules in
    noted-tree c.args.file.now c.read.new.self c.args.firsts.now has kept

pub returns-in-Err-Tokens-clause-noted : goal.returns-in-Err-Tokens-clause-noted
returns-in-Err-Tokens-clause-noted c =
    let same : c.read.new.self ≡ c.args.file.now = search rules in
    let lost : c.args.file.now.is_kept ≡ false = search rules in
    let is : IsRead c.args.file.now.file.bytes (NoTokens c.in-Err-Tokens.refusal) = search rules in
    let named : c.name.result.now ≡ c.args.file.now.file.name = search rules in
    noted-tokens c.note.result c.args.file.now c.read.new.self c.name.result.now c.in-Err-Tokens.refusal c.args.firsts.now c.note.new.first
    same lost is named c.note.ensures

pub returns-in-Err-Syntax-clause-noted : goal.returns-in-Err-Syntax-clause-noted
returns-in-Err-Syntax-clause-noted c =
    let same : c.read.new.self ≡ c.args.file.now = search rules in
    let lost : c.args.file.now.is_kept ≡ false = search rules in
    let is : IsRead c.args.file.now.file.bytes (NoFile c.in-Err-Syntax.refusal) = search rules in
    let named : c.name-in-Err-Syntax.result.now ≡ c.args.file.now.file.name = search rules in
    noted-syntax c.note-in-Err-Syntax.result c.args.file.now c.read.new.self c.name-in-Err-Syntax.result.now c.in-Err-Syntax.refusal
    c.args.firsts.now c.note-in-Err-Syntax.new.first same lost is named c.note-in-Err-Syntax.ensures
