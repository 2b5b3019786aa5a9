-- What is listed is well formed, with at most 96 parts in each heap, where what comes is well formed.
use Rattle.std.specs.Prelude.{◌≡◌, ℕ, ◌≤◌, List, [], ◌∷◌, ◌++◌, length, All, IfSome}
use Rattle.std.specs.declared.option.Option.{Option}
use Rattle.std.specs.declared.option.Option.TheVariants.{None, Some}
use Rattle.std.proofs.Common.{refl, sym, ◌∙◌, subst, ⊎_elim}
use Rattle.std.proofs.lemmas.Bool.{cases_lt}
use Rattle.std.proofs.lemmas.List.{get_or_past, length-map}
use Rattle.std.proofs.lemmas.List.Elements.{All-get_or, All-head, All-map, All-nil, All-push, All-same, All-set, All-tail, All-weaker}
use Rattle.shape_data.specs.declared.program.Node.{Node}
use Rattle.shape_data.specs.declared.symbolic.Post.{Post}
use Rattle.shape_data.specs.declared.symbolic.SymHeap.{SymHeap}
use Rattle.shape_data.specs.declared.symbolic.SymState.{SymState}
use Rattle.shape_data.specs.WellFormed.{IsSymHeap, widest}
use Rattle.exec_laws.specs.declared.parts.Step.{Step}
use Rattle.exec_laws.specs.declared.parts.Step.TheVariants as step
use Rattle.solve_laws.specs.Certificates.Coming.{Task, at_exit, at_node, start_at_node}
use Rattle.solve_laws.specs.Certificates.Conditions.{IsGivenPost, IsGivenState, IsGivenStep, IsTask, IsTaskPost, IsTaskState}
use Rattle.solve_laws.specs.Certificates.Inductive.{OfExits, OfNexts}
use Rattle.solve_laws.proofs.CertificatesLemmas.GivenLaws.{post-wide, state-wide}
use Rattle.solve_laws.proofs.CertificatesLemmas.ResultLaws.{at_exit_is_well_formed, at_node_is_well_formed, start_at_node_is_well_formed}
use Rattle.solve_laws.specs.Annotation.Annotation.{after_step, empty_listing, kept, post_comes, result_comes, started}
use Rattle.solve_laws.specs.Annotation.Listing.{
  Goes,
  Listing,
  MOST_PARTS,
  all_come,
  exit_comes,
  listed_at,
  parts_of,
  state_comes,
  with_exit,
}
use Rattle.solve_laws.specs.Annotation.Listing.{with_state}
use Rattle.solve_laws.proofs.AnnotationLemmas.Coming.{
  after-step-leads,
  all-come-keep,
  exit-came,
  exit-comes-leads,
  started-leads,
  state-came,
}
use Rattle.solve_laws.proofs.AnnotationLemmas.Coming.{state-comes-leads, then-went, unless-none-keeps}
use Rattle.solve_laws.proofs.AnnotationLemmas.KeptLaws.{kept-each}

-- each listed state and each that waits is such, and each listed exit
pub record AreListed (S : SymState → Type 0) (E : Post → Type 0) (listing : Listing) : Type 0 where
  pub nodes : All (All S) listing.nodes
  pub exits : All E listing.exits
  pub queue : All (λ (item : ℕ × SymState). S item.1) listing.queue

-- a state, or a post, is such if it has no more parts than may be listed
abbrev pub IfFew : (SymState → Type 0) → SymState → Type 0
IfFew S state = parts_of state.heap ≤ MOST_PARTS → S state

abbrev pub IfPostFew : (Post → Type 0) → Post → Type 0
IfPostFew E post = parts_of post.heap ≤ MOST_PARTS → E post

-- ---- any property of what comes is one of what is listed

module _ (S : SymState → Type 0) (E : Post → Type 0) where
  pub listed-each : (listing : Listing) → AreListed S E listing → (at : ℕ) → All S (listed_at at listing)
  listed-each listing are at =
      ⊎_elim (λ within. All-get_or (All S) listing.nodes at [] within are.nodes)
      (λ beyond. All-same S (listed_at at listing) [] (get_or_past listing.nodes at [] beyond) (All-nil S))
      (cases_lt at (length listing.nodes))

  with-state-listed : (node : ℕ) (state : SymState) (from : Listing) → S state → AreListed S E from →
      AreListed S E (with_state node state from)
  with-state-listed node state from is are = record {
    nodes =
        All-set (All S) from.nodes node (listed_at node from ++ state ∷ [])
        (All-push S (listed_at node from) state (listed-each from are node) is) are.nodes;
    exits = are.exits;
    queue = All-push (λ (item : ℕ × SymState). S item.1) from.queue (node, state) are.queue is;
  }

  with-exit-listed : (post : Post) (from : Listing) → E post → AreListed S E from → AreListed S E (with_exit post from)
  with-exit-listed post from is are = record { nodes = are.nodes; exits = All-push E from.exits post are.exits is; queue = are.queue }

  pub state-comes-listed : (node : ℕ) (state : SymState) (from to : Listing) → IfFew S state → AreListed S E from →
      state_comes node state from ≡ Goes to → AreListed S E to
  state-comes-listed node state from to is are h =
      let all = state-came node state from to h in
      ⊎_elim (λ out. subst (AreListed S E) out.1 are)
      (λ listed. subst (AreListed S E) listed.1 (with-state-listed node state from (is all.few_parts) are)) all.course

  pub exit-comes-listed : (post : Post) (from to : Listing) → IfPostFew E post → AreListed S E from → exit_comes post from ≡ Goes to →
      AreListed S E to
  exit-comes-listed post from to is are h =
      let all = exit-came post from to h in
      ⊎_elim (λ out. subst (AreListed S E) out.1 are)
      (λ listed. subst (AreListed S E) listed.1 (with-exit-listed post from (is all.few_parts) are)) all.course

  -- the first of the queue is such, and so is the rest
  pub popped-listed : (listing : Listing) (item : ℕ × SymState) (rest : List (ℕ × SymState)) → listing.queue ≡ item ∷ rest →
      AreListed S E listing →
      S item.1 × AreListed S E (record { nodes = listing.nodes; exits = listing.exits; queue = rest })
  popped-listed listing item rest is are =
      let all = All-same (λ (one : ℕ × SymState). S one.1) (item ∷ rest) listing.queue (sym is) are.queue in (
        All-head (λ (one : ℕ × SymState). S one.1) item rest all,
        record { nodes = are.nodes; exits = are.exits; queue = All-tail (λ (one : ℕ × SymState). S one.1) item rest all },
      )

  module _ (task : Task) where
    -- what becomes of a state, or of a post, that an execution gave
    abbrev pub MayCome : ℕ × SymState → Type 0
    MayCome item = IfSome (at_node task item.0 item.1) (IfFew S)

    abbrev pub MayLeave : Post → Type 0
    MayLeave post = IfSome (at_exit task post) (IfPostFew E)

    pub result-comes-listed : (item : ℕ × SymState) (from to : Listing) → MayCome item → AreListed S E from →
        result_comes task item from ≡ Goes to → AreListed S E to
    result-comes-listed item from to is are h =
        unless-none-keeps (state_comes item.0) (IfFew S) (AreListed S E) (state-comes-listed item.0)
        (at_node task item.0 item.1) from to is are h

    pub post-comes-listed : (post : Post) (from to : Listing) → MayLeave post → AreListed S E from → post_comes task post from ≡ Goes to →
        AreListed S E to
    post-comes-listed post from to is are h =
        unless-none-keeps exit_comes (IfPostFew E) (AreListed S E) exit-comes-listed (at_exit task post) from to is are h

    pub after-step-listed : (one : Step) (from to : Listing) → OfNexts MayCome one → OfExits MayLeave one → AreListed S E from →
        after_step task one from ≡ Goes to → AreListed S E to
    after-step-listed (step.Next nexts exits) from to come leave are h =
        let went = then-went (all_come (post_comes task) exits) (all_come (result_comes task) nexts from) to h in
        all-come-keep (post_comes task) MayLeave (AreListed S E) post-comes-listed exits went.0 to leave
        (all-come-keep (result_comes task) MayCome (AreListed S E) result-comes-listed nexts from went.0 come are went.1) went.2
    after-step-listed (step.Fail cause line) from to come leave are h = cc

    pub empty-listed : AreListed S E (empty_listing task)
    empty-listed = record {
      nodes = All-map (All S) (λ (node : Node). []) task.flow.nodes (λ k d below. All-nil S);
      exits = All-nil E;
      queue = All-nil (λ (item : ℕ × SymState). S item.1);
    }

    pub started-listed : (pre : SymHeap) (first : Listing) → IfSome (start_at_node task pre) (IfFew S) → started task pre ≡ Goes first →
        AreListed S E first
    started-listed pre first is h =
        unless-none-keeps (state_comes 0) (IfFew S) (AreListed S E) (state-comes-listed 0) (start_at_node task pre)
        (empty_listing task) first is empty-listed h

-- ---- well-formedness

-- all that is listed is well formed, with at most 96 parts in each heap, and there is a list for each node
pub record IsGivenListing (task : Task) (listing : Listing) : Type 0 where
  pub one_each : length listing.nodes ≡ length task.flow.nodes
  pub listed : AreListed (IsGivenState task) (IsGivenPost task) listing

module _ (task : Task) where
  -- what has no more parts than may be listed can be given to an execution
  pub few-given : (state : SymState) → IsTaskState task state → IfFew (IsGivenState task) state
  few-given state is few =
      record { one_each = is.one_each; locals = is.locals; heap = record { parts = few; facts = is.heap.facts; atoms = is.heap.atoms } }

  pub few-post-given : (post : Post) → IsTaskPost task post → IfPostFew (IsGivenPost task) post
  few-post-given post is few = record { ret = is.ret; heap = record { parts = few; facts = is.heap.facts; atoms = is.heap.atoms } }

module _ (task : Task) (good : IsTask task) where
  pub may-come : (item : ℕ × SymState) → IsTaskState task item.1 → MayCome (IsGivenState task) (IsGivenPost task) task item
  may-come item is = by_form (at_node task item.0 item.1) refl
    where
      by_form : (o : Option SymState) → at_node task item.0 item.1 ≡ o → IfSome o (IfFew (IsGivenState task))
      by_form None e = tt
      by_form (Some form) e =
          few-given task form (at_node_is_well_formed task item.0 (length task.flow.slots) item.1 form good.structs good.flow.slots is e)

  pub may-leave : (post : Post) → IsTaskPost task post → MayLeave (IsGivenState task) (IsGivenPost task) task post
  may-leave post is = by_form (at_exit task post) refl
    where
      by_form : (o : Option Post) → at_exit task post ≡ o → IfSome o (IfPostFew (IsGivenPost task))
      by_form None e = tt
      by_form (Some form) e = few-post-given task form (at_exit_is_well_formed task post form good.structs is e)

  pub start-may-come : (pre : SymHeap) → IsSymHeap widest task.structs (length task.flow.params) pre →
      IfSome (start_at_node task pre) (IfFew (IsGivenState task))
  start-may-come pre is = by_form (start_at_node task pre) refl
    where
      by_form : (o : Option SymState) → start_at_node task pre ≡ o → IfSome o (IfFew (IsGivenState task))
      by_form None e = tt
      by_form (Some form) e = few-given task form (start_at_node_is_well_formed task pre form good.structs good.flow is e)

  -- all that an execution gave may come
  pub nexts-may-come : (one : Step) → IsGivenStep task one → OfNexts (MayCome (IsGivenState task) (IsGivenPost task) task) one
  nexts-may-come (step.Next nexts exits) is =
      All-weaker (λ (next : ℕ × SymState). IsTaskState task next.1)
      (MayCome (IsGivenState task) (IsGivenPost task) task) may-come nexts is.0
  nexts-may-come (step.Fail cause line) is = tt

  pub exits-may-leave : (one : Step) → IsGivenStep task one → OfExits (MayLeave (IsGivenState task) (IsGivenPost task) task) one
  exits-may-leave (step.Next nexts exits) is =
      All-weaker (IsTaskPost task) (MayLeave (IsGivenState task) (IsGivenPost task) task) may-leave exits is.1
  exits-may-leave (step.Fail cause line) is = tt

  -- ---- for the code of annotation: what is given stays so

  pub state-comes-given : (node : ℕ) (state : SymState) (from to : Listing) → IsTaskState task state → IsGivenListing task from →
      state_comes node state from ≡ Goes to → IsGivenListing task to
  state-comes-given node state from to is given h = record {
    one_each = (state-comes-leads node state from to h).grows.one_each ∙ given.one_each;
    listed = state-comes-listed (IsGivenState task) (IsGivenPost task) node state from to (few-given task state is) given.listed h;
  }

  pub exit-comes-given : (post : Post) (from to : Listing) → IsTaskPost task post → IsGivenListing task from →
      exit_comes post from ≡ Goes to → IsGivenListing task to
  exit-comes-given post from to is given h = record {
    one_each = (exit-comes-leads post from to h).grows.one_each ∙ given.one_each;
    listed = exit-comes-listed (IsGivenState task) (IsGivenPost task) post from to (few-post-given task post is) given.listed h;
  }

  pub after-step-given : (one : Step) (from to : Listing) → IsGivenStep task one → IsGivenListing task from →
      after_step task one from ≡ Goes to → IsGivenListing task to
  after-step-given one from to is given h = record {
    one_each = (after-step-leads task one from to h).grows.one_each ∙ given.one_each;
    listed =
        after-step-listed (IsGivenState task) (IsGivenPost task) task one from to (nexts-may-come one is)
        (exits-may-leave one is) given.listed h;
  }

  pub empty-given : IsGivenListing task (empty_listing task)
  empty-given =
      record {
        one_each = length-map task.flow.nodes (λ (node : Node). []);
        listed = empty-listed (IsGivenState task) (IsGivenPost task) task;
      }

  pub started-given : (pre : SymHeap) (first : Listing) → IsSymHeap widest task.structs (length task.flow.params) pre →
      started task pre ≡ Goes first → IsGivenListing task first
  started-given pre first is h = record {
    one_each = (started-leads task pre first h).grows.one_each ∙ length-map task.flow.nodes (λ (node : Node). []);
    listed = started-listed (IsGivenState task) (IsGivenPost task) task pre first (start-may-come pre is) h;
  }

  -- the first of the queue can be executed, and the rest is given
  pub popped-given : (listing : Listing) (item : ℕ × SymState) (rest : List (ℕ × SymState)) → listing.queue ≡ item ∷ rest →
      IsGivenListing task listing →
      IsGivenState task item.1 × IsGivenListing task (record { nodes = listing.nodes; exits = listing.exits; queue = rest })
  popped-given listing item rest is given =
      let all =
      popped-listed (IsGivenState task)
      (IsGivenPost task) listing item rest is given.listed in (all.0, record { one_each = given.one_each; listed = all.1 })

  -- what stands in it can be compared with what comes
  pub listed-given : (listing : Listing) → IsGivenListing task listing → (at : ℕ) → All (IsGivenState task) (listed_at at listing)
  listed-given listing given at = listed-each (IsGivenState task) (IsGivenPost task) listing given.listed at

  pub listed-wide : (listing : Listing) → IsGivenListing task listing → (at : ℕ) → All (IsTaskState task) (listed_at at listing)
  listed-wide listing given at =
      All-weaker (IsGivenState task) (IsTaskState task) (state-wide task good) (listed_at at listing) (listed-given listing given at)

  pub exits-wide : (listing : Listing) → IsGivenListing task listing → All (IsTaskPost task) listing.exits
  exits-wide listing given = All-weaker (IsGivenPost task) (IsTaskPost task) (post-wide task good) listing.exits given.listed.exits

  -- and the posts that are kept
  pub kept-given : (exits : List Post) → All (IsGivenPost task) exits → All (IsGivenPost task) (kept exits)
  kept-given exits given = kept-each (IsGivenPost task) exits given
