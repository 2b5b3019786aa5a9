use Rattle.sym_abstract.proofs.heads.abstract_head.Goals as goal

pub at_head-requires-clause-room : goal.at_head-requires-clause-room
at_head-requires-clause-room c = c.requires.sizes.variables

pub at_head-requires-clause-few : goal.at_head-requires-clause-few
at_head-requires-clause-few c = c.requires.sizes.fields
