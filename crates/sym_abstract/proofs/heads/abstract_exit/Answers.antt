use Rattle.sym_abstract.proofs.heads.abstract_exit.Goals as goal

pub at_exit-requires-clause-room : goal.at_exit-requires-clause-room
at_exit-requires-clause-room c = c.requires.sizes.variables

pub at_exit-requires-clause-few : goal.at_exit-requires-clause-few
at_exit-requires-clause-few c = c.requires.sizes.fields
