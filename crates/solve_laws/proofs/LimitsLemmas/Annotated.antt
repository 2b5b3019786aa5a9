-- What an annotation gives of a precondition within the limits of a store is within them.
use Rattle.std.specs.Prelude.{◌≡◌, ℕ, zero, suc, ◌+◌, ◌-◌, ◌≤◌, pos, List, [], ◌∷◌, length, replicate, slice_index_or, All, IfSome}
use Rattle.std.specs.Option.{option_and_then}
use Rattle.std.specs.declared.option.Option.{Option}
use Rattle.std.specs.declared.option.Option.TheVariants.{None, Some}
use Rattle.std.proofs.Common.{refl, sym, subst, arith}
use Rattle.std.proofs.lemmas.List.Elements.{All-append, All-cons, All-nil, All-replicate, All-weaker}
use Rattle.shape_data.specs.declared.program.HeadMark.{HeadMark}
use Rattle.shape_data.specs.declared.symbolic.Cert.{Cert}
use Rattle.shape_data.specs.declared.symbolic.Exp.{Exp}
use Rattle.shape_data.specs.declared.symbolic.Exp.TheVariants.{Const, Var}
use Rattle.shape_data.specs.declared.symbolic.Post.{Post}
use Rattle.shape_data.specs.declared.symbolic.SymHeap.{SymHeap}
use Rattle.shape_data.specs.declared.symbolic.SymState.{SymState}
use Rattle.shape_data.specs.WellFormed.{AreStates, IsExp, IsPost, IsState, IsSymHeap, storable, widest}
use Rattle.sym_parts.specs.Laws.Each.{EachInHeap, EachInState}
use Rattle.sym_canon.specs.Canonical.{as_state, canon_post, canon_state}
use Rattle.sym_pure.proofs.EachLaws.{form-each}
use Rattle.sym_forms.specs.Sizes.{most_exps}
use Rattle.abstraction_laws.specs.Heads.{at_exit as state_at_exit, at_head, post_of}
use Rattle.abstraction_laws.proofs.NormalResults.{made-of}
use Rattle.exec_laws.specs.declared.parts.Step.{Step}
use Rattle.exec_laws.specs.declared.parts.Step.TheVariants as step
use Rattle.exec_laws.specs.Laws.{IsForm}
use Rattle.exec_laws.proofs.FormedLemmas.{answers_are_forms}
use Rattle.sound_laws.specs.Certificates.{start_state, variables_from}
use Rattle.solve_laws.specs.Certificates.Coming.{Task, at_exit, at_mark, at_node, mark_at, start_at_node, start_form}
use Rattle.solve_laws.specs.Certificates.Conditions.{IsGivenPost, IsGivenState, IsGivenStep, IsTask, IsTaskPost, IsTaskState}
use Rattle.solve_laws.specs.Certificates.Inductive.{OfExits, OfNexts, execution}
use Rattle.solve_laws.specs.Certificates.Limits.{analysable}
use Rattle.solve_laws.proofs.CertificatesLemmas.GivenLaws.{step-given}
use Rattle.solve_laws.proofs.CertificatesLemmas.LimitLaws as limits
use Rattle.solve_laws.proofs.CertificatesLemmas.ResultLaws.{at_exit_is_well_formed, at_node_is_well_formed, start_at_node_is_well_formed}
use Rattle.solve_laws.specs.declared.annotation.parts.Annotated.TheVariants.{Done}
use Rattle.solve_laws.specs.Annotation.Annotation.{all_done, annotate, kept, started, turn_of, turns, with_turn, without_turns, MOST_TURNS}
use Rattle.solve_laws.specs.Annotation.Listing.{Goes, Listing, MOST_STATES}
use Rattle.solve_laws.proofs.AnnotationLemmas.AnnotationLaws.{done_is_small, done_is_well_formed}
use Rattle.solve_laws.proofs.AnnotationLemmas.Coming.{after-step-open, started-open}
use Rattle.solve_laws.proofs.AnnotationLemmas.Growing.{cert_of}
use Rattle.solve_laws.proofs.AnnotationLemmas.KeptLaws.{kept-each}
use Rattle.solve_laws.proofs.AnnotationLemmas.ListedLaws.{
  AreListed,
  IfFew,
  IfPostFew,
  MayCome,
  MayLeave,
  after-step-listed,
  few-given,
  few-post-given,
}
use Rattle.solve_laws.proofs.AnnotationLemmas.ListedLaws.{popped-listed, started-listed}
use Rattle.solve_laws.proofs.AnnotationLemmas.Turns.{end-went}
use Rattle.solve_laws.specs.Limits.Laws.{DoneIsStorable, PostHasStorableLogical, HasStorableLogical}
use Rattle.solve_laws.specs.Limits.Numbers.{IsLowExistential}
use Rattle.solve_laws.specs.Limits.Sizes.{HasTaskSizes}
use Rattle.solve_laws.proofs.LimitsLemmas.Counted.{
  IsLogicalStorable,
  constant-fits,
  logical-fits,
  existential-fits,
  post-storable,
  state-storable,
}
use Rattle.solve_laws.proofs.LimitsLemmas.Counted.{storable-fits, to-atoms, to-facts, heap-both}
use Rattle.solve_laws.proofs.LimitsLemmas.Executed.{execution_keeps_logical, exits_keep_logical, nodes_keep_logical}
use Rattle.solve_laws.proofs.LimitsLemmas.Numbered.{canon-kept, forms_have_low_existentials}

-- ---- what holds of all that comes holds of all that is listed

module _ (task : Task) (S : SymState → Type 0) (E : Post → Type 0)
    (runs : (at : ℕ) (state : SymState) → S state → (one : Step) → one ≡ execution task at state →
    OfNexts (MayCome S E task) one × OfExits (MayLeave S E task) one) where
  turn-listed : (from : Listing) (at : ℕ) (state : SymState) (rest : List (ℕ × SymState)) (to : Listing) → from.queue ≡ (at, state) ∷ rest →
      AreListed S E from →
      turn_of task at state (record { nodes = from.nodes; exits = from.exits; queue = rest }) ≡ Goes to → AreListed S E to
  turn-listed from at state rest to queued are h =
      let popped : Listing = record { nodes = from.nodes; exits = from.exits; queue = rest } in
      let all = popped-listed S E from (at, state) rest queued are in
      let both = runs at state all.0 (execution task at state) refl in
      after-step-listed S E task (execution task at state) popped to both.0 both.1 all.1 h

  -- all that is given
  abbrev AreDone : List Post → Cert → Type 0
  AreDone posts cert = All E posts × All (All S) cert.nodes × All E cert.exits

  here-done : (listing : Listing) (posts : List Post) (cert : Cert) → AreListed S E listing → all_done listing ≡ Done posts cert →
      AreDone posts cert
  here-done listing posts cert are h =
      let same_posts : kept listing.exits ≡ posts = cc in
      let same_cert : cert_of listing ≡ cert = cc in (
        subst (All E) same_posts (kept-each E listing.exits are.exits),
        subst (λ (one : Cert). All (All S) one.nodes) same_cert are.nodes,
        subst (λ (one : Cert). All E one.exits) same_cert are.exits,
      )

  turns-done : (left : ℕ) (listing : Listing) (posts : List Post) (cert : Cert) → AreListed S E listing →
      turns left task listing ≡ Done posts cert → AreDone posts cert
  turns-done zero listing posts cert are h = by_queue listing.queue h
    where
      by_queue : (queue : List (ℕ × SymState)) → without_turns listing queue ≡ Done posts cert → AreDone posts cert
      by_queue [] k = here-done listing posts cert are k
      by_queue (item ∷ queue) k = cc
  turns-done (suc left) listing posts cert are h = by_queue (λ mid is k. turns-done left mid posts cert is k) listing.queue refl h
    where
      by_queue : ((mid : Listing) → AreListed S E mid → turns left task mid ≡ Done posts cert → AreDone posts cert) →
          (queue : List (ℕ × SymState)) → listing.queue ≡ queue →
          with_turn (turns left task) task listing queue ≡ Done posts cert → AreDone posts cert
      by_queue again [] e k = here-done listing posts cert are k
      by_queue again ((at, state) ∷ queue) e k =
          let popped : Listing = record { nodes = listing.nodes; exits = listing.exits; queue = queue } in
          let went =
          end-went (turns left task) (turn_of task at state popped) posts cert
          (after-step-open task (execution task at state) popped) k in
          again went.0 (turn-listed listing at state queue went.0 e are went.1) went.2

  pub annotated-done : (pre : SymHeap) (posts : List Post) (cert : Cert) → IfSome (start_at_node task pre) (IfFew S) →
      annotate task pre ≡ Done posts cert → AreDone posts cert
  unfolding annotate
  annotated-done pre posts cert start h =
      let went = end-went (turns MOST_TURNS task) (started task pre) posts cert (started-open task pre) h in
      turns-done MOST_TURNS went.0 posts cert (started-listed S E task pre went.0 start went.1) went.2

-- ---- what comes has low existential variables

abbrev HasLowExistentials : SymState → Type 0
HasLowExistentials state = EachInState (IsLowExistential (most_exps state)) state

form-low : (params : ℕ) (state : SymState) → IsForm params state → HasLowExistentials state
form-low params state is = subst HasLowExistentials (sym is.2) (forms_have_low_existentials is.0 params)

mark-low : (task : Task) (mark : Option HeadMark) (state form : SymState) → HasLowExistentials state → at_mark task mark state ≡ Some form →
    HasLowExistentials form
mark-low task None state form is h = let same : state ≡ form = cc in subst HasLowExistentials same is
mark-low task (Some mark) state form is h =
    let made = made-of (λ one. canon_state one (length task.flow.params)) (at_head task.structs mark state) form h in
    subst HasLowExistentials made.made (forms_have_low_existentials made.form (length task.flow.params))

node-low : (task : Task) (at : ℕ) (state form : SymState) → HasLowExistentials state → at_node task at state ≡ Some form →
    HasLowExistentials form
node-low task at state form is h = mark-low task (mark_at task.flow at) state form is h

exit-low : (task : Task) (post form : Post) → at_exit task post ≡ Some form → HasLowExistentials (as_state form)
exit-low task post form h =
    let params : ℕ = length task.flow.params in
    let made =
    made-of (λ one. canon_post (post_of post.ret one) params) (state_at_exit task.recursive task.structs task.flow post) form h in
    subst (λ (one : Post). HasLowExistentials (as_state one)) made.made
    (forms_have_low_existentials (as_state (post_of post.ret made.form)) params)

-- ---- the start

variables-fit : {A : Type 0} (count k : ℕ) (params : List A) → k + length params ≤ count →
    All (IsLogicalStorable count) (variables_from k params)
variables-fit count k [] few = All-nil (IsLogicalStorable count)
variables-fit count k (param ∷ params) few =
    All-cons (IsLogicalStorable count) (Var k) (variables_from (k + 1) params) (logical-fits count k (omega (arith, few)))
    (variables-fit count (k + 1) params (omega (arith, few)))

module _ (task : Task) (good : IsTask task) (pre : SymHeap) (is_pre : IsSymHeap storable task.structs (length task.flow.params) pre) where
  start-fits : HasStorableLogical task (start_state task.flow pre)
  start-fits =
      let params : ℕ = length task.flow.params in
      let P : Exp → Type 0 = IsLogicalStorable params in
      let stored : EachInHeap (IsExp storable params) pre =
      record {
        facts = to-facts storable storable task.structs params pre.pure is_pre.facts;
        atoms = to-atoms storable storable task.structs params pre.spatial is_pre.atoms;
      } in
      record {
        locals =
            All-append P (variables_from 0 task.flow.params) (replicate (length task.flow.slots - length task.flow.params) (Const (pos 0)))
            (variables-fit params 0 task.flow.params (omega arith))
            (All-replicate P (length task.flow.slots - length task.flow.params) (Const (pos 0)) (constant-fits params (pos 0)));
        heap = heap-both (IsExp storable params) (IsExp storable params) P (λ e one other. storable-fits params e one) pre stored stored;
      }

  start_form-fits : (start : SymState) → start_form task.flow pre ≡ Some start → HasStorableLogical task start × HasLowExistentials start
  start_form-fits start h =
      let params : ℕ = length task.flow.params in
      let made = made-of (λ one. canon_state one params) (start_state task.flow pre) start h in (
        subst (HasStorableLogical task) made.made
            (canon-kept (IsLogicalStorable params) (existential-fits params) made.form params
            (form-each (IsLogicalStorable params) (start_state task.flow pre) made.form made.form_is start-fits)),
        subst HasLowExistentials made.made (forms_have_low_existentials made.form params),
      )

-- ---- what is listed

module _ (task : Task) (good : IsTask task) (sizes : HasTaskSizes task) where
  abbrev Listed : SymState → Type 0
  Listed state = IsGivenState task state × HasStorableLogical task state × HasLowExistentials state

  abbrev Exit : Post → Type 0
  Exit post = IsGivenPost task post × PostHasStorableLogical task post × HasLowExistentials (as_state post)

  may-come : (item : ℕ × SymState) → IsTaskState task item.1 → HasStorableLogical task item.1 → HasLowExistentials item.1 →
      MayCome Listed Exit task item
  may-come item is logical low = by_form (at_node task item.0 item.1) refl
    where
      by_form : (o : Option SymState) → at_node task item.0 item.1 ≡ o → IfSome o (IfFew Listed)
      by_form None e = tt
      by_form (Some form) e = λ few. (
        few-given task form (at_node_is_well_formed task item.0 (length task.flow.slots) item.1 form good.structs good.flow.slots is e) few,
        nodes_keep_logical task item.0 item.1 form logical e,
        node-low task item.0 item.1 form low e,
      )

  may-leave : (post : Post) → IsTaskPost task post → PostHasStorableLogical task post → MayLeave Listed Exit task post
  may-leave post is logical = by_form (at_exit task post) refl
    where
      by_form : (o : Option Post) → at_exit task post ≡ o → IfSome o (IfPostFew Exit)
      by_form None e = tt
      by_form (Some form) e = λ few. (
        few-post-given task form (at_exit_is_well_formed task post form good.structs is e) few,
        exits_keep_logical task post form logical e,
        exit-low task post form e,
      )

  step-may : (at : ℕ) (state : SymState) → Listed state → (one : Step) → one ≡ execution task at state → IsGivenStep task one →
      OfNexts (MayCome Listed Exit task) one × OfExits (MayLeave Listed Exit task) one
  step-may at state is (step.Fail cause line) same given = (tt, tt)
  step-may at state is (step.Next nexts exits) same given =
      let keeps = execution_keeps_logical task at state nexts exits good sizes is.0 is.1 (sym same) in
      let forms = answers_are_forms task.flow task.structs at state task.table nexts exits (sym same) in (
        λ k d below. may-come (slice_index_or nexts k d) (given.0 k d below) (keeps.0 k d below)
            (form-low (length task.flow.params) (slice_index_or nexts k d).1 (forms.0 k d below)),
        λ k d below. may-leave (slice_index_or exits k d) (given.1 k d below) (keeps.1 k d below),
      )

  runs : (at : ℕ) (state : SymState) → Listed state → (one : Step) → one ≡ execution task at state →
      OfNexts (MayCome Listed Exit task) one × OfExits (MayLeave Listed Exit task) one
  runs at state is one same = step-may at state is one same (step-given task good at state is.0 one same)

  module _ (pre : SymHeap) (is_pre : IsSymHeap storable task.structs (length task.flow.params) pre) where
    pre-given : IsSymHeap analysable task.structs (length task.flow.params) pre
    pre-given = limits.heap storable analysable limits.storable_is_analysable.0 (length task.flow.params) task.structs pre is_pre

    pre-wide : IsSymHeap widest task.structs (length task.flow.params) pre
    pre-wide = limits.heap analysable widest limits.storable_is_analysable.1 (length task.flow.params) task.structs pre pre-given

    start-may-come : IfSome (start_at_node task pre) (IfFew Listed)
    start-may-come = by_form (start_at_node task pre) refl
      where
        by_start : (form : SymState) (o : Option SymState) → start_form task.flow pre ≡ o → option_and_then (at_node task 0) o ≡ Some form →
            HasStorableLogical task form × HasLowExistentials form
        by_start form None e k = cc
        by_start form (Some start) e k =
            let began =
            start_form-fits task good pre is_pre start
            e in (nodes_keep_logical task 0 start form began.0 k, node-low task 0 start form began.1 k)

        by_form : (o : Option SymState) → start_at_node task pre ≡ o → IfSome o (IfFew Listed)
        by_form None e = tt
        by_form (Some form) e = λ few.
            let began = by_start form (start_form task.flow pre) refl e in
            (few-given task form (start_at_node_is_well_formed task pre form good.structs good.flow pre-wide e) few, began.0, began.1)

    -- ---- within the limits

    listed-storable : (state : SymState) → Listed state →
        IsState storable task.structs (length task.flow.params) (length task.flow.slots) state
    listed-storable state is =
        state-storable task.structs (length task.flow.params) sizes.structs (length task.flow.slots) state sizes.flow is.0 is.1 is.2

    exit-storable : (post : Post) → Exit post → IsPost storable task.structs (length task.flow.params) post
    exit-storable post is = post-storable task.structs (length task.flow.params) sizes.structs post is.0 is.1 is.2

    nodes-storable : (nodes : List (List SymState)) → All (λ (states : List SymState). length states ≤ MOST_STATES) nodes →
        All (All Listed) nodes →
        All (AreStates storable task.structs (length task.flow.params) (length task.flow.slots)) nodes
    nodes-storable nodes small listed k d below =
        let states : List SymState = slice_index_or nodes k d in
        record {
          few = small k d below;
          each =
              All-weaker Listed (IsState storable task.structs (length task.flow.params) (length task.flow.slots)) listed-storable states
              (listed k d below);
        }

pub done_is_storable : DoneIsStorable
done_is_storable task pre posts cert good sizes is_pre h =
    let done =
    annotated-done task (Listed task good sizes) (Exit task good sizes) (runs task good sizes) pre posts cert
    (start-may-come task good sizes pre is_pre) h in
    let formed = done_is_well_formed task pre posts cert good (pre-given task good sizes pre is_pre) h in
    let small = done_is_small task pre posts cert h in (
      record {
        pre = is_pre;
        countable = formed.0.countable;
        posts =
            All-weaker (Exit task good sizes) (IsPost storable task.structs (length task.flow.params))
            (exit-storable task good sizes pre is_pre) posts done.0;
      },
      record {
        one_each = formed.1.one_each;
        nodes = nodes-storable task good sizes pre is_pre cert.nodes small.1.nodes done.1;
        few = small.1.exits;
        exits =
            All-weaker (Exit task good sizes) (IsPost storable task.structs (length task.flow.params))
            (exit-storable task good sizes pre is_pre) cert.exits done.2;
      },
    )
