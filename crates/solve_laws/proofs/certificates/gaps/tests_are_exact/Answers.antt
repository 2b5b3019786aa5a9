use Rattle.solve_laws.proofs.CertificatesLemmas.CoveringLaws.{
  post_test_is_exact,
  posts_test_is_exact,
  state_test_is_exact,
  states_test_is_exact,
}
use Rattle.solve_laws.proofs.certificates.gaps.tests_are_exact.Goals as goal

pub returns-clause-state : goal.returns-clause-state
returns-clause-state c = state_test_is_exact

pub returns-clause-post : goal.returns-clause-post
returns-clause-post c = post_test_is_exact

pub returns-clause-states : goal.returns-clause-states
returns-clause-states c = states_test_is_exact

pub returns-clause-posts : goal.returns-clause-posts
returns-clause-posts c = posts_test_is_exact
