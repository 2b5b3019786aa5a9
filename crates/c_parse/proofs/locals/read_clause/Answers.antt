use Rattle.std.proofs.Common.{◌∙◌, sym}
use Rattle.c_parse.specs.Clauses.{is_type}
use Rattle.c_parse.proofs.Cases.{tested, clause_typed, clause_other, clause_of_name}
use Rattle.c_parse.proofs.locals.read_clause.Goals as goal

pub returns-then-is_type-clause-value : goal.returns-then-is_type-clause-value
returns-then-is_type-clause-value c =
    rw (clause_typed c.args.levels c.args.words.now
    (tested is_type c.args.words.now _ _ _ c.first_class.ensures c.is_type.ensures c.if-is_type.true)) c.read_typed.ensures.value

pub returns-then-not-sees-clause-value : goal.returns-then-not-sees-clause-value
returns-then-not-sees-clause-value c =
    rw (clause_other c.args.levels c.args.words.now
    (tested is_type c.args.words.now _ _ _ c.first_class.ensures c.is_type.ensures c.if-is_type.false)
    (sym c.sees.ensures ∙ c.if-not-sees.true)) c.read_clause_of_other.ensures.value

pub returns-clause-value : goal.returns-clause-value
returns-clause-value c =
    rw (clause_of_name c.args.levels c.args.words.now _ _ c.in_ok-name.ensures.value) c.read_clause_of_name.ensures.value
