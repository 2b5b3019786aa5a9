-- All turns: while states wait for their turn, each listed one waits or leads to listed ones alone; in the end none waits.
use Rattle.std.specs.Prelude.{◌≡◌, ◌⊎◌, ℕ, zero, suc, ◌<◌, ◌≤◌, true, List, [], ◌∷◌, length, map, slice_index_or, Contains, IfSome}
use Rattle.std.specs.declared.option.Option.{Option}
use Rattle.std.specs.declared.option.Option.TheVariants.{None, Some}
use Rattle.std.proofs.Common.{refl, ◌∙◌, subst, arith, inl, inr, ⊎_elim}
use Rattle.std.proofs.lemmas.List.{length-map}
use Rattle.std.proofs.lemmas.List.Elements.{All-map, All-weaker}
use Rattle.shape_data.specs.declared.program.Node.{Node}
use Rattle.shape_data.specs.declared.symbolic.Cert.{Cert}
use Rattle.shape_data.specs.declared.symbolic.Post.{Post}
use Rattle.shape_data.specs.declared.symbolic.SymHeap.{SymHeap}
use Rattle.shape_data.specs.declared.symbolic.SymState.{SymState}
use Rattle.shape_data.specs.WellFormed.{IsSymHeap, widest}
use Rattle.sym_pure.specs.IsNormal.{is_normal}
use Rattle.sym_canon.specs.Canonical.{as_state}
use Rattle.exec_laws.specs.declared.parts.Step.{Step}
use Rattle.exec_laws.specs.declared.parts.Step.TheVariants as step
use Rattle.solve_laws.specs.Certificates.Coming.{Task, at_exit, at_node, start_at_node}
use Rattle.solve_laws.specs.Certificates.Conditions.{IsGivenPost, IsGivenState, IsGivenStep, IsTask, IsTaskPost, IsTaskState}
use Rattle.solve_laws.specs.Certificates.Coverings.{IsCovered}
use Rattle.solve_laws.specs.Certificates.Inductive.{DoesNotFail, OfExits, OfNexts, execution}
use Rattle.solve_laws.proofs.CertificatesLemmas.GivenLaws.{step-given}
use Rattle.solve_laws.proofs.CertificatesLemmas.ResultLaws.{at_exit_is_well_formed, at_node_is_well_formed, start_at_node_is_well_formed}
use Rattle.solve_laws.specs.declared.annotation.parts.Annotated.{Annotated}
use Rattle.solve_laws.specs.declared.annotation.parts.Annotated.TheVariants.{Done}
use Rattle.solve_laws.specs.Annotation.Annotation.{
  after_step,
  all_done,
  annotate,
  empty_listing,
  end_of,
  kept,
  post_comes,
  result_comes,
  started,
}
use Rattle.solve_laws.specs.Annotation.Annotation.{turn_of, turns, with_turn, without_turns, MOST_TURNS}
use Rattle.solve_laws.specs.Annotation.Laws.{IsSmallCert}
use Rattle.solve_laws.specs.Annotation.Listing.{Course, Ends, Goes, Listing, MOST_STATES, all_come, listed_at}
use Rattle.solve_laws.proofs.AnnotationLemmas.Coming.{
  Arrived,
  HasLeft,
  IsNotDone,
  IsOpen,
  after-step-leads,
  after-step-open,
  all-come-arrive,
}
use Rattle.solve_laws.proofs.AnnotationLemmas.Coming.{
  all-come-leads,
  arrived-stays,
  left-stays,
  post-comes-leads,
  post-leaves,
  result-arrives,
}
use Rattle.solve_laws.proofs.AnnotationLemmas.Coming.{result-comes-leads, start-arrives, started-leads, started-open, then-went}
use Rattle.solve_laws.proofs.AnnotationLemmas.Growing.{Grows, Leads, cert_of, covered-grows, grows-refl, grows-trans}
use Rattle.solve_laws.proofs.AnnotationLemmas.KeptLaws.{Contains-cons_cases}
use Rattle.solve_laws.proofs.AnnotationLemmas.ListedLaws.{
  AreListed,
  IfFew,
  IfPostFew,
  MayCome,
  MayLeave,
  after-step-listed,
  few-given,
  few-post-given,
}
use Rattle.solve_laws.proofs.AnnotationLemmas.ListedLaws.{popped-listed, started-listed}
use Rattle.solve_laws.proofs.AnnotationLemmas.NormalLaws.{at-exit-normal, at-node-normal, nexts-normal, start-normal}

-- ---- a state leads to listed ones

-- what an execution gave: it did not fail, and what it gave, abstracted, is covered by what is listed
pub record IsGood (task : Task) (listing : Listing) (one : Step) : Type 0 where
  pub runs : DoesNotFail one
  pub nexts : OfNexts (λ item. Arrived task item listing) one
  pub exits : OfExits (λ exit. HasLeft task exit listing) one

good-grows : (task : Task) (from to : Listing) → Grows from to → (one : Step) → IsGood task from one → IsGood task to one
good-grows task from to grows (step.Next nexts exits) is = record {
  runs = tt;
  nexts =
      All-weaker (λ item. Arrived task item from) (λ item. Arrived task item to)
      (λ item here. arrived-stays task item from to grows here) nexts is.nexts;
  exits =
      All-weaker (λ exit. HasLeft task exit from) (λ exit. HasLeft task exit to)
      (λ exit here. left-stays task exit from to grows here) exits is.exits;
}
good-grows task from to grows (step.Fail cause line) is = absurd is.runs

after-step-good : (task : Task) (one : Step) (from to : Listing) → after_step task one from ≡ Goes to → IsGood task to one
after-step-good task (step.Next nexts exits) from to h =
    let went = then-went (all_come (post_comes task) exits) (all_come (result_comes task) nexts from) to h in
    let later = all-come-leads (post_comes task) (post-comes-leads task) exits went.0 to went.2 in
    let arrived =
    all-come-arrive (result_comes task) (result-comes-leads task) (Arrived task) (arrived-stays task)
    (result-arrives task) nexts from went.0 went.1 in record {
      runs = tt;
      nexts =
          All-weaker (λ item. Arrived task item went.0) (λ item. Arrived task item to)
          (λ item here. arrived-stays task item went.0 to later.grows here) nexts arrived;
      exits =
          all-come-arrive (post_comes task) (post-comes-leads task) (HasLeft task) (left-stays task)
          (post-leaves task) exits went.0 to went.2;
    }
after-step-good task (step.Fail cause line) from to h = cc

-- ---- what is listed while there are turns

-- a listed state is well formed, with at most 96 parts, and normal; and so is a listed post
abbrev pub IsTurnState : Task → SymState → Type 0
IsTurnState task state = IsGivenState task state × (is_normal state ≡ true)

abbrev pub IsTurnPost : Task → Post → Type 0
IsTurnPost task post = IsGivenPost task post × (is_normal (as_state post) ≡ true)

-- each listed state waits, or leads to listed ones
pub record IsUnderWay (task : Task) (listing : Listing) : Type 0 where
  pub one_each : length listing.nodes ≡ length task.flow.nodes
  pub listed : AreListed (IsTurnState task) (IsTurnPost task) listing
  pub done : (at : ℕ) (state : SymState) → Contains (listed_at at listing) state →
      Contains listing.queue (at, state) ⊎ IsGood task listing (execution task at state)

-- the listing only grows in a turn
turn-grows : (task : Task) (from : Listing) (at : ℕ) (state : SymState) (rest : List (ℕ × SymState)) (mid : Listing) →
    turn_of task at state (record { nodes = from.nodes; exits = from.exits; queue = rest }) ≡ Goes mid → Grows from mid
turn-grows task from at state rest mid h =
    let grows =
    (after-step-leads task (execution task at state) (record { nodes = from.nodes; exits = from.exits; queue = rest }) mid h).grows in
    record { one_each = grows.one_each; states = grows.states; exits = grows.exits; small = grows.small }

module _ (task : Task) (good : IsTask task) where
  may-come : (item : ℕ × SymState) → IsTaskState task item.1 → is_normal item.1 ≡ true →
      MayCome (IsTurnState task) (IsTurnPost task) task item
  may-come item is normal = by_form (at_node task item.0 item.1) refl
    where
      by_form : (o : Option SymState) → at_node task item.0 item.1 ≡ o → IfSome o (IfFew (IsTurnState task))
      by_form None e = tt
      by_form (Some form) e =
          λ few. (
            few-given task form
                (at_node_is_well_formed task item.0
                (length task.flow.slots) item.1 form good.structs good.flow.slots is e) few,
            at-node-normal task item.0 item.1 form normal e,
          )

  may-leave : (post : Post) → IsTaskPost task post → MayLeave (IsTurnState task) (IsTurnPost task) task post
  may-leave post is = by_form (at_exit task post) refl
    where
      by_form : (o : Option Post) → at_exit task post ≡ o → IfSome o (IfPostFew (IsTurnPost task))
      by_form None e = tt
      by_form (Some form) e =
          λ few. (few-post-given task form (at_exit_is_well_formed task post form good.structs is e) few, at-exit-normal task post form e)

  start-may-come : (pre : SymHeap) → IsSymHeap widest task.structs (length task.flow.params) pre →
      IfSome (start_at_node task pre) (IfFew (IsTurnState task))
  start-may-come pre is = by_form (start_at_node task pre) refl
    where
      by_form : (o : Option SymState) → start_at_node task pre ≡ o → IfSome o (IfFew (IsTurnState task))
      by_form None e = tt
      by_form (Some form) e =
          λ few. (
            few-given task form
                (start_at_node_is_well_formed task pre form good.structs good.flow is e) few,
            start-normal task pre form e,
          )

  nexts-may-come : (one : Step) → IsGivenStep task one → OfNexts (λ (next : ℕ × SymState). is_normal next.1 ≡ true) one →
      OfNexts (MayCome (IsTurnState task) (IsTurnPost task) task) one
  nexts-may-come (step.Next nexts exits) is normal = λ k d below. may-come (slice_index_or nexts k d) (is.0 k d below) (normal k d below)
  nexts-may-come (step.Fail cause line) is normal = tt

  exits-may-leave : (one : Step) → IsGivenStep task one → OfExits (MayLeave (IsTurnState task) (IsTurnPost task) task) one
  exits-may-leave (step.Next nexts exits) is =
      All-weaker (IsTaskPost task) (MayLeave (IsTurnState task) (IsTurnPost task) task) may-leave exits is.1
  exits-may-leave (step.Fail cause line) is = tt

  -- the first of the queue has its turn
  turn-goes : (from : Listing) (at : ℕ) (state : SymState) (rest : List (ℕ × SymState)) (to : Listing) → from.queue ≡ (at, state) ∷ rest →
      IsUnderWay task from →
      turn_of task at state (record { nodes = from.nodes; exits = from.exits; queue = rest }) ≡ Goes to → IsUnderWay task to
  turn-goes from at state rest to queued way h =
      let popped : Listing = record { nodes = from.nodes; exits = from.exits; queue = rest } in
      let all = popped-listed (IsTurnState task) (IsTurnPost task) from (at, state) rest queued way.listed in
      let one = execution task at state in
      let given = step-given task good at state all.0.0 one refl in
      let leads = after-step-leads task one popped to h in record {
        one_each = leads.grows.one_each ∙ way.one_each;
        listed =
            after-step-listed (IsTurnState task) (IsTurnPost task) task one popped to
            (nexts-may-come one given (nexts-normal task at state one refl)) (exits-may-leave one given) all.1 h;
        done = λ there other is. ⊎_elim (before leads there other) inl (leads.news there other is);
      }
    where
      before : Leads (record { nodes = from.nodes; exits = from.exits; queue = rest }) to → (there : ℕ) (other : SymState) →
          Contains (listed_at there from) other →
          Contains to.queue (there, other) ⊎ IsGood task to (execution task there other)
      before leads there other is =
          ⊎_elim waiting (λ was. inr (good-grows task from to (turn-grows task from at state rest to h) (execution task there other) was))
          (way.done there other is)
        where
          waiting : Contains from.queue (there, other) → Contains to.queue (there, other) ⊎ IsGood task to (execution task there other)
          waiting has =
              ⊎_elim (λ same. inr
              (subst (λ (item : ℕ × SymState). IsGood task to (execution task item.0 item.1)) same
              (after-step-good task (execution task at state) (record { nodes = from.nodes; exits = from.exits; queue = rest }) to h)))
              (λ later. inl (leads.waits (there, other) later))
              (Contains-cons_cases (at, state) rest (there, other) (subst (λ all. Contains all (there, other)) queued has))

-- ---- to the end

-- an annotation is done from a listing on: the last listing is larger, gives what is done, and there no state waits
pub record Finishes (task : Task) (from : Listing) (posts : List Post) (cert : Cert) : Type 0 where
  pub last : Listing
  pub grows : Grows from last
  pub posts_are : kept last.exits ≡ posts
  pub cert_is : cert_of last ≡ cert
  pub empty : last.queue ≡ []
  pub under_way : IsTask task → IsUnderWay task from → IsUnderWay task last

finishes-here : (task : Task) (listing : Listing) (posts : List Post) (cert : Cert) → listing.queue ≡ [] →
    all_done listing ≡ Done posts cert → Finishes task listing posts cert
finishes-here task listing posts cert empty h =
    let same_posts : kept listing.exits ≡ posts = cc in
    let same_cert : cert_of listing ≡ cert = cc in
    record {
      last = listing;
      grows = grows-refl listing;
      posts_are = same_posts;
      cert_is = same_cert;
      empty = empty;
      under_way = λ good way. way;
    }

-- what was done is what further turns give
pub end-went : (again : Listing → Annotated) (course : Course) (posts : List Post) (cert : Cert) → IsOpen course →
    end_of again course ≡ Done posts cert →
    (mid : Listing) × (course ≡ Goes mid) × (again mid ≡ Done posts cert)
end-went again (Goes mid) posts cert is_open h = (mid, refl, h)
end-went again (Ends annotated) posts cert is_open h = absurd (subst IsNotDone h is_open)

pub turns-finish : (left : ℕ) (task : Task) (listing : Listing) (posts : List Post) (cert : Cert) →
    turns left task listing ≡ Done posts cert → Finishes task listing posts cert
turns-finish zero task listing posts cert h = by_queue listing.queue refl h
  where
    by_queue : (queue : List (ℕ × SymState)) → listing.queue ≡ queue → without_turns listing queue ≡ Done posts cert →
        Finishes task listing posts cert
    by_queue [] e k = finishes-here task listing posts cert e k
    by_queue (item ∷ queue) e k = cc
turns-finish (suc left) task listing posts cert h = by_queue (λ mid k. turns-finish left task mid posts cert k) listing.queue refl h
  where
    by_queue : ((mid : Listing) → turns left task mid ≡ Done posts cert → Finishes task mid posts cert) → (queue : List (ℕ × SymState)) →
        listing.queue ≡ queue →
        with_turn (turns left task) task listing queue ≡ Done posts cert → Finishes task listing posts cert
    by_queue again [] e k = finishes-here task listing posts cert e k
    by_queue again ((at, state) ∷ queue) e k =
        let popped : Listing = record { nodes = listing.nodes; exits = listing.exits; queue = queue } in
        let went =
        end-went (turns left task) (turn_of task at state popped) posts cert (after-step-open task (execution task at state) popped) k in
        let later = again went.0 went.2 in record {
          last = later.last;
          grows = grows-trans listing went.0 later.last (turn-grows task listing at state queue went.0 went.1) later.grows;
          posts_are = later.posts_are;
          cert_is = later.cert_is;
          empty = later.empty;
          under_way = λ good way. later.under_way good (turn-goes task good listing at state queue went.0 e way went.1);
        }

-- ---- from the start

listed-nowhere : {A : Type 0} (nodes : List A) (at : ℕ) (state : SymState) →
    Contains (slice_index_or (map (λ (node : A). []) nodes) at []) state → ⊥
listed-nowhere [] at state (place, within, is) = omega arith
listed-nowhere (node ∷ nodes) zero state (place, within, is) = omega arith
listed-nowhere (node ∷ nodes) (suc at) state has = listed-nowhere nodes at state has

empty-small : (task : Task) → IsSmallCert (cert_of (empty_listing task))
empty-small task =
    record {
      nodes = All-map (λ (states : List SymState). length states ≤ MOST_STATES) (λ (node : Node). []) task.flow.nodes
          (λ k d below. omega arith);
      exits = omega arith;
    }

pub started-small : (task : Task) (pre : SymHeap) (first : Listing) → started task pre ≡ Goes first → IsSmallCert (cert_of first)
started-small task pre first h = (started-leads task pre first h).grows.small (empty-small task)

started-under-way : (task : Task) (pre : SymHeap) (first : Listing) → IsTask task →
    IsSymHeap widest task.structs (length task.flow.params) pre → started task pre ≡ Goes first → IsUnderWay task first
started-under-way task pre first good is h =
    let leads = started-leads task pre first h in record {
      one_each = leads.grows.one_each ∙ length-map task.flow.nodes (λ (node : Node). []);
      listed = started-listed (IsTurnState task) (IsTurnPost task) task pre first (start-may-come task good pre is) h;
      done = λ at state has. ⊎_elim (λ before. absurd (listed-nowhere task.flow.nodes at state before)) inl (leads.news at state has);
    }

-- an annotation of a precondition is done: the listing after its start, and all turns
pub record Annotates (task : Task) (pre : SymHeap) (posts : List Post) (cert : Cert) : Type 0 where
  pub first : Listing
  pub starts : started task pre ≡ Goes first
  pub finishes : Finishes task first posts cert

-- it is finished: no listed state waits
pub record IsFinished (task : Task) (pre : SymHeap) (listing : Listing) : Type 0 where
  pub one_each : length listing.nodes ≡ length task.flow.nodes
  pub listed : AreListed (IsTurnState task) (IsTurnPost task) listing
  pub start : IfSome (start_at_node task pre) (IsCovered (listed_at 0 listing))
  pub done : (at : ℕ) (state : SymState) → Contains (listed_at at listing) state → IsGood task listing (execution task at state)

pub annotates : (task : Task) (pre : SymHeap) (posts : List Post) (cert : Cert) → annotate task pre ≡ Done posts cert →
    Annotates task pre posts cert
unfolding annotate
annotates task pre posts cert h =
    let went = end-went (turns MOST_TURNS task) (started task pre) posts cert (started-open task pre) h in
    record { first = went.0; starts = went.1; finishes = turns-finish MOST_TURNS task went.0 posts cert went.2 }

pub is-finished : (task : Task) (pre : SymHeap) (posts : List Post) (cert : Cert) → IsTask task →
    IsSymHeap widest task.structs (length task.flow.params) pre →
    (all : Annotates task pre posts cert) → IsFinished task pre all.finishes.last
is-finished task pre posts cert good is all =
    let last = all.finishes.last in
    let way = all.finishes.under_way good (started-under-way task pre all.first good is all.starts) in record {
      one_each = way.one_each;
      listed = way.listed;
      start = by_start (start_at_node task pre) (start-arrives task pre all.first all.starts some_nodes);
      done = λ at state has. ⊎_elim (λ waits. absurd (nothing_waits at state waits)) (λ done. done) (way.done at state has);
    }
  where
    some_nodes : 0 < length all.first.nodes
    some_nodes =
        let leads = started-leads task pre all.first all.starts in
        let as_many : length all.first.nodes ≡ length task.flow.nodes =
        leads.grows.one_each ∙ length-map task.flow.nodes (λ (node : Node). []) in
        let entry : 0 < length task.flow.nodes = good.flow.entry in
        omega arith

    by_start : (o : Option SymState) → IfSome o (IsCovered (listed_at 0 all.first)) → IfSome o (IsCovered (listed_at 0 all.finishes.last))
    by_start None covered = tt
    by_start (Some form) covered = covered-grows all.first all.finishes.last all.finishes.grows 0 form covered

    nothing_waits : (at : ℕ) (state : SymState) → Contains all.finishes.last.queue (at, state) → ⊥
    nothing_waits at state waits = none (subst (λ (queue : List (ℕ × SymState)). Contains queue (at, state)) all.finishes.empty waits)
      where
        none : Contains {X = ℕ × SymState} [] (at, state) → ⊥
        none (place, within, is) = omega arith
