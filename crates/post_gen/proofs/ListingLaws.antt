-- What is listed stays well formed, and has the sizes that the tests of coverings ask for.
use Rattle.std.specs.Prelude.{◌≡◌, ℕ, ◌<◌, List, [], ◌∷◌, ◌++◌, length, map, slice_index_or, All}
use Rattle.std.proofs.Common.{sym, ◌∙◌, subst}
use Rattle.std.proofs.lemmas.List.{get_or_default, length-map, length-set}
use Rattle.std.proofs.lemmas.List.Elements.{All-cons, All-get_or, All-head, All-nil, All-push, All-same, All-set, All-tail, All-weaker}
use Rattle.shape_data.specs.declared.program.Node.{Node}
use Rattle.shape_data.specs.declared.symbolic.Post.{Post}
use Rattle.shape_data.specs.declared.symbolic.SymState.{SymState}
use Rattle.subtraction.specs.Conditions.{IsPostWithinSizes, IsStateWithinSizes}
use Rattle.solve_laws.specs.Annotation.Annotation.{empty_listing}
use Rattle.solve_laws.specs.Annotation.Listing.{Listing, listed_at, with_exit, with_state}
use Rattle.solve_laws.specs.Certificates.Coming.{Task}
use Rattle.solve_laws.specs.Certificates.Conditions.{IsGivenPost, IsGivenState, IsTask}
use Rattle.solve_laws.proofs.CertificatesLemmas.GivenLaws.{post-wide, state-wide}
use Rattle.certificate_steps.proofs.SizeLaws.{post-sizes, state-sizes}
use Rattle.post_gen.specs.Conditions.{IsListing, IsWaiting}

module _ (task : Task) where
  -- the states of one node
  abbrev AreGiven : List SymState → Type 0
  AreGiven states = All (IsGivenState task) states

  -- ---- nothing is listed

  empty-nodes : (nodes : List Node) → All AreGiven (map (λ node. []) nodes)
  empty-nodes [] = All-nil AreGiven
  empty-nodes (node ∷ nodes) = All-cons AreGiven [] (map (λ node. []) nodes) (All-nil (IsGivenState task)) (empty-nodes nodes)

  pub empty-given : IsListing task (empty_listing task)
  empty-given = record {
    one_each = length-map task.flow.nodes (λ node. []);
    nodes = empty-nodes task.flow.nodes;
    exits = All-nil (IsGivenPost task);
    queue = All-nil (IsWaiting task);
  }

  module _ (listing : Listing) (is : IsListing task listing) where
    -- ---- one more

    node-given : (node : ℕ) → node < length task.flow.nodes → AreGiven (listed_at node listing)
    node-given node within =
        let there : node < length listing.nodes = subst (λ n. node < n) (sym is.one_each) within in
        All-get_or AreGiven listing.nodes node [] there is.nodes

    pub state-listed : (node : ℕ) (state : SymState) → node < length task.flow.nodes → IsGivenState task state
        → IsListing task (with_state node state listing)
    state-listed node state within given = record {
      one_each = length-set listing.nodes node (listed_at node listing ++ state ∷ []) ∙ is.one_each;
      nodes =
          All-set AreGiven listing.nodes node (listed_at node listing ++ state ∷ [])
          (All-push (IsGivenState task) (listed_at node listing) state (node-given node within) given) is.nodes;
      exits = is.exits;
      queue = All-push (IsWaiting task) listing.queue (node, state) is.queue (within, given);
    }

    pub exit-listed : (post : Post) → IsGivenPost task post → IsListing task (with_exit post listing)
    exit-listed post given = record {
      one_each = is.one_each;
      nodes = is.nodes;
      exits = All-push (IsGivenPost task) listing.exits post is.exits given;
      queue = is.queue;
    }

    -- ---- the first of the queue is taken

    module _ (item : ℕ × SymState) (rest : List (ℕ × SymState)) (first : listing.queue ≡ item ∷ rest) where
      waiting : All (IsWaiting task) (item ∷ rest)
      waiting = subst (λ queue. All (IsWaiting task) queue) first is.queue

      pub item-given : IsGivenState task item.1
      item-given = (All-head (IsWaiting task) item rest waiting).1

      pub rest-given : IsListing task (record { nodes = listing.nodes; exits = listing.exits; queue = rest })
      rest-given =
          record { one_each = is.one_each; nodes = is.nodes; exits = is.exits; queue = All-tail (IsWaiting task) item rest waiting }

    -- ---- sizes

    module _ (good : IsTask task) where
      state-within : (state : SymState) → IsGivenState task state → IsStateWithinSizes state
      state-within state given = state-sizes task good state (state-wide task good state given)

      pub node-within : (node : ℕ) (states : List SymState) → node < length task.flow.nodes
          → states ≡ slice_index_or listing.nodes node states → All IsStateWithinSizes states
      node-within node states within same =
          let there : node < length listing.nodes = subst (λ n. node < n) (sym is.one_each) within in
          All-weaker (IsGivenState task) IsStateWithinSizes state-within states
          (All-same (IsGivenState task) states (listed_at node listing) (same ∙ get_or_default listing.nodes node states [] there)
          (node-given node within))

      post-within : (post : Post) → IsGivenPost task post → IsPostWithinSizes post
      post-within post given = post-sizes task good post (post-wide task good post given)

      pub exits-within : All IsPostWithinSizes listing.exits
      exits-within = All-weaker (IsGivenPost task) IsPostWithinSizes post-within listing.exits is.exits
