use Rattle.std.proofs.lemmas.Result.{IfOk-weaker, IfErr-weaker}
use Rattle.c_grammar.proofs.TokensLemmas.TextLaws.{has_read, listed, fault_read}
use Rattle.c_grammar.proofs.tokens.reading.tokens.Goals as goal

pub returns-clause-tokens : goal.returns-clause-tokens
returns-clause-tokens c =
    IfOk-weaker c.read.result _ _ (λ found is. has_read c.args.bytes.now found.items is) c.read.ensures.tokens

pub returns-clause-listed : goal.returns-clause-listed
returns-clause-listed c =
    IfOk-weaker c.read.result _ _
    (λ found is. listed c.args.bytes.now found.items (has_read c.args.bytes.now found.items is)) c.read.ensures.tokens

pub returns-clause-fault : goal.returns-clause-fault
returns-clause-fault c =
    IfErr-weaker c.read.result _ _ (λ fault is. fault_read c.args.bytes.now fault is) c.read.ensures.fault
