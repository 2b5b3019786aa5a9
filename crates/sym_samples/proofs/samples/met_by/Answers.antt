-- The law.
use Rattle.std.proofs.Common.{◌≡◌}
use Rattle.std.proofs.lemmas.Result.{IfOk-weaker}
use Rattle.shape_data.specs.Meaning.{Meets}
use Rattle.sym_samples.specs.Samples.{heap_of, number_of}
use Rattle.sym_samples.proofs.SampleLaws.{met_by}
use Rattle.sym_samples.proofs.samples.met_by.Goals as goal

pub returns : goal.returns
returns c =
    IfOk-weaker c.heap_of_all.result (λ heap. heap ≡ heap_of c.args.structs.now (number_of c.args.pre.now.pure) c.args.pre.now.spatial)
    (λ heap. Meets c.args.structs.now (number_of c.args.pre.now.pure) heap c.args.pre.now)
    (λ heap is. met_by c.args.structs.now c.args.pre.now heap c.requires.shaped c.heap_has_bits.ensures c.requires.has is)
    c.heap_of_all.ensures
