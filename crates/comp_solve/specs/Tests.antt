-- How what stands is tested again.
use Rattle.shape_data.specs.declared.symbolic.Cert.{Cert}
use Rattle.shape_data.specs.declared.symbolic.Spec.{Spec}
use Rattle.solve_laws.specs.Certificates.Coming as coming
use Rattle.solve_laws.specs.declared.parts.Trial.{Trial}
use Rattle.solve_laws.specs.Solving.{annotated_again, checked_again}
use Rattle.comp_solve.specs.declared.passes.Test.{Test}
use Rattle.comp_solve.specs.declared.passes.Test.TheVariants.{Annotation, Check}

-- the definition's test
abbrev pub test_of : Test → coming.Task → Spec → Cert → Trial
test_of Annotation = annotated_again
test_of Check = checked_again
