-- What is given to calls has the sizes that their code asks for.
use Rattle.std.specs.Prelude.{◌≡◌, ℕ, List, slice_get, length, All}
use Rattle.std.specs.declared.option.Option.TheVariants.{Some}
use Rattle.std.proofs.lemmas.List.Elements.{All-weaker}
use Rattle.shape_data.specs.declared.symbolic.Cert.{Cert}
use Rattle.shape_data.specs.declared.symbolic.Post.{Post}
use Rattle.shape_data.specs.declared.symbolic.Spec.{Spec}
use Rattle.shape_data.specs.declared.symbolic.SymState.{SymState}
use Rattle.subtraction.specs.Conditions.{IsPostWithinSizes, IsStateWithinSizes}
use Rattle.subtraction.proofs.StateConditions.{post_within, state_within}
use Rattle.solve_laws.specs.Certificates.Coming.{Task}
use Rattle.solve_laws.specs.Certificates.Conditions.{IsGivenState, IsTask, IsTaskCert, IsTaskPost, IsTaskSpec, IsTaskState}
use Rattle.solve_laws.proofs.CertificatesLemmas.GivenLaws.{exits-wide, node-given, posts-wide, state-wide}

module _ (task : Task) (good : IsTask task) where
  pub state-sizes : (state : SymState) → IsTaskState task state → IsStateWithinSizes state
  state-sizes state is = state_within task.structs (length task.flow.params) (length task.flow.slots) state good.structs good.flow.slots is

  pub post-sizes : (post : Post) → IsTaskPost task post → IsPostWithinSizes post
  post-sizes post is = post_within task.structs (length task.flow.params) post good.structs is

  module _ (cert : Cert) (is_cert : IsTaskCert task cert) where
    pub node-sizes : (at : ℕ) (states : List SymState) → slice_get cert.nodes at ≡ Some states → All IsStateWithinSizes states
    node-sizes at states is =
        All-weaker (IsGivenState task) IsStateWithinSizes (λ state given. state-sizes state (state-wide task good state given)) states
        (node-given task good cert is_cert at states is)

    pub exits-sizes : All IsPostWithinSizes cert.exits
    exits-sizes = All-weaker (IsTaskPost task) IsPostWithinSizes post-sizes cert.exits (exits-wide task good cert is_cert)

  module _ (spec : Spec) (is_spec : IsTaskSpec task spec) where
    pub posts-sizes : All IsPostWithinSizes spec.posts
    posts-sizes = All-weaker (IsTaskPost task) IsPostWithinSizes post-sizes spec.posts (posts-wide task good spec is_spec)
