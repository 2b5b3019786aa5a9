use Rattle.std.proofs.Common.{subst, ◌≡◌}
use Rattle.std.specs.Prelude.{Ok}
use Rattle.std.proofs.lemmas.Result.{IfOk-weaker, IfErr-weaker}
use Rattle.c_grammar.specs.Readers.{read_file}
use Rattle.c_tree.specs.Syntax.{unit_tree}
use Rattle.c_parse_exprs.specs.Reads.{Halts}
use Rattle.c_grammar.proofs.TokenWords.{file_spells}
use Rattle.c_parse.proofs.Whole.{fault_is_told, spelled_lacks_memory}
use Rattle.c_parse.proofs.file.parse.Goals as goal

pub returns-clause-unit : goal.returns-clause-unit
returns-clause-unit c =
    IfOk-weaker c.read_file.result _ _
    (λ unit is. (file_spells c.args.tokens.now c.requires.listed (unit_tree unit)
    (subst (λ w. read_file 64 w ≡ Ok (unit_tree unit)) c.new-words.ensures is)).0) c.read_file.ensures.unit

pub returns-clause-levels : goal.returns-clause-levels
returns-clause-levels c =
    IfOk-weaker c.read_file.result _ _
    (λ unit is. (file_spells c.args.tokens.now c.requires.listed (unit_tree unit)
    (subst (λ w. read_file 64 w ≡ Ok (unit_tree unit)) c.new-words.ensures is)).1) c.read_file.ensures.unit

pub returns-clause-fault : goal.returns-clause-fault
returns-clause-fault c =
    IfErr-weaker c.read_file.result _ _
    (λ fault h. fault_is_told c.args.tokens.now c.requires.listed fault
    (subst (λ w. Halts fault (read_file 64 w)) c.new-words.ensures h)) c.read_file.ensures.fault

pub returns-clause-complete : goal.returns-clause-complete
returns-clause-complete c file spells fits =
    IfErr-weaker c.read_file.result _ _
    (λ fault h. spelled_lacks_memory c.args.tokens.now c.requires.listed file spells fits fault
    (subst (λ w. Halts fault (read_file 64 w)) c.new-words.ensures h)) c.read_file.ensures.fault
