use Rattle.std.proofs.Common.{◌≡◌}
use Rattle.c_grammar.specs.declared.tokens.fault.ReadFault.TheVariants.{OutOfMemory}
use Rattle.c_grammar.specs.Placeless.{placeless}
use Rattle.c_tree.specs.Syntax.{unit_tree}
use Rattle.c_front.proofs.Exits.{err_is, ok_never, no_tokens, unit_of_text, fault_of_text, spelled, printed, same_tree}
use Rattle.c_front.proofs.reading.read_unit.Goals as goal

pub returns-in_err-found-clause-complete : goal.returns-in_err-found-clause-complete
returns-in_err-found-clause-complete c file u =
    err_is (λ fault. fault ≡ OutOfMemory) c.from_residual.result _ c.from_residual.ensures.1
    (no_tokens c.tokens_or_refusal.ensures c.args.bytes.now _ c.in_err-found.ensures.fault file u)

pub returns-in_err-found-clause-reads_back : goal.returns-in_err-found-clause-reads_back
returns-in_err-found-clause-reads_back c listed file is_list spells fits e =
    let p = printed c.round_trip.ensures c.args.bytes.now listed file is_list spells fits e in
    record {
      same = ok_never (λ unit. placeless (unit_tree unit) ≡ placeless file) c.from_residual.result _ c.from_residual.ensures.1;
      memory = returns-in_err-found-clause-complete c p.same p.unit;
    }

pub returns-clause-unit : goal.returns-clause-unit
returns-clause-unit c =
    unit_of_text c.args.bytes.now c.in_ok-found.found.items c.in_ok-found.ensures.tokens c.parse.result
    (rw c.as_slice.ensures.value at c.parse.ensures.unit) c.parse.ensures.levels

pub returns-clause-fault : goal.returns-clause-fault
returns-clause-fault c =
    fault_of_text c.args.bytes.now c.in_ok-found.found.items c.in_ok-found.ensures.tokens c.parse.result
    (rw c.as_slice.ensures.value at c.parse.ensures.fault)

pub returns-clause-complete : goal.returns-clause-complete
returns-clause-complete c file u =
    c.parse.ensures.complete file
    (rw c.as_slice.ensures.value
    (spelled c.one_reading.ensures c.args.bytes.now c.in_ok-found.found.items c.in_ok-found.ensures.tokens file u)) u.levels

pub returns-clause-reads_back : goal.returns-clause-reads_back
returns-clause-reads_back c listed file is_list spells fits e =
    let p = printed c.round_trip.ensures c.args.bytes.now listed file is_list spells fits e in
    record {
      same =
          same_tree c.one_reading.ensures c.one_tree.ensures c.args.bytes.now c.in_ok-found.found.items file c.in_ok-found.ensures.tokens
          c.parse.result (rw c.as_slice.ensures.value at c.parse.ensures.unit) p;
      memory = returns-clause-complete c p.same p.unit;
    }
