use Rattle.std.specs.Prelude.{map}
use Rattle.std.proofs.Common.{arith}
use Rattle.std.proofs.lemmas.List.{length-map}
use Rattle.std.proofs.lemmas.Result.{IfOk-weaker}
use Rattle.claim_core.specs.Views.{solution_of}
use Rattle.summary_store.specs.Loading.{contents_of, AreLoaded, IsLeftOf}
use Rattle.summary_store.specs.declared.loading.Loaded.{Loaded}
use Rattle.summary_store.proofs.LoadLaws.{entries_are_read, left_is_good}
use Rattle.summary_store.proofs.loading.load.Goals as goal

pub checked-requires-clause-read : goal.checked-requires-clause-read
checked-requires-clause-read c =
    rw c.as_slice.ensures (entries_are_read c.args.bytes.now c.in-Ok.entries (rw c.in-Ok.is at c.in_ok-entries.ensures))

pub checked-requires-clause-few : goal.checked-requires-clause-few
checked-requires-clause-few c =
    let few = c.entries_are_few.ensures c.args.bytes.now (map solution_of c.in-Ok.entries) (rw c.in-Ok.is at c.in_ok-entries.ensures) in
    let mapped = length-map c.in-Ok.entries solution_of in
    let short = c.requires in
    rw c.as_slice.ensures (omega (arith, few, mapped, short))

pub returns-in-Ok-clause-inductive : goal.returns-in-Ok-clause-inductive
returns-in-Ok-clause-inductive c =
    IfOk-weaker c.checked.result (λ (loaded : Loaded). IsLeftOf (map solution_of c.as_slice.result.now) (contents_of loaded)) AreLoaded
    (λ loaded left. left_is_good c.args.bytes.now (map solution_of c.in-Ok.entries) loaded (rw c.in-Ok.is at c.in_ok-entries.ensures)
    (rw c.as_slice.ensures at left)) c.checked.ensures
