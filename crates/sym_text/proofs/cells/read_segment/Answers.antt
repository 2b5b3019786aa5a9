use Rattle.sym_text.proofs.StructLaws.{few_fields}
use Rattle.sym_text.proofs.cells.read_segment.Goals as goal

pub read_link-requires : goal.read_link-requires
read_link-requires c =
    rw c.as_slice.ensures
    (few_fields c.args.structs.now c.in_ok-def.def.now.name c.in_ok-def.def.now c.requires.structs.each c.in_ok-def.ensures.named)
