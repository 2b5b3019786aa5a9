-- What is done is inductive, well formed and small.
use Rattle.std.specs.Prelude.{◌≡◌, ℕ, ◌<◌, ◌≤◌, List, length, slice_index_or, All, IfSome}
use Rattle.std.proofs.Common.{refl, sym, subst, arith}
use Rattle.std.proofs.lemmas.List.Elements.{All-weaker, Contains-get_or}
use Rattle.shape_data.specs.declared.symbolic.Cert.{Cert}
use Rattle.shape_data.specs.declared.symbolic.Post.{Post}
use Rattle.shape_data.specs.declared.symbolic.SymHeap.{SymHeap}
use Rattle.shape_data.specs.declared.symbolic.SymState.{SymState}
use Rattle.shape_data.specs.WellFormed.{AreStates, IsSymHeap, widest}
use Rattle.sound_laws.specs.Certificates.{states_at}
use Rattle.exec_laws.specs.declared.parts.Step.{Step}
use Rattle.exec_laws.specs.declared.parts.Step.TheVariants as step
use Rattle.solve_laws.specs.Certificates.Coming.{Task, at_node, normal_post}
use Rattle.solve_laws.specs.Certificates.Conditions.{GoesOnWithin, IsGivenPost, IsGivenState, IsTask, IsTaskCert, IsTaskSpec}
use Rattle.solve_laws.specs.Certificates.Coverings.{IsCovered, IsPostCovered}
use Rattle.solve_laws.specs.Certificates.Inductive.{DoesNotFail, IsInductiveCert, OfExecutions, OfExits, OfNexts, execution}
use Rattle.solve_laws.specs.Certificates.Limits.{analysable}
use Rattle.solve_laws.proofs.CertificatesLemmas.GivenLaws.{step-within}
use Rattle.solve_laws.proofs.CertificatesLemmas.LimitLaws as limits
use Rattle.solve_laws.specs.Annotation.Annotation.{kept}
use Rattle.solve_laws.specs.Annotation.Laws.{DoneIsInductive, DoneIsSmall, DoneIsWellFormed, IsSmallCert, spec_of}
use Rattle.solve_laws.specs.Annotation.Listing.{Listing, MOST_STATES, listed_at}
use Rattle.solve_laws.proofs.AnnotationLemmas.Coming.{Arrived, HasLeft}
use Rattle.solve_laws.proofs.AnnotationLemmas.Growing.{cert_of}
use Rattle.solve_laws.proofs.AnnotationLemmas.KeptLaws.{kept-cover, kept-each, kept-fewer}
use Rattle.solve_laws.proofs.AnnotationLemmas.ListedLaws.{listed-each}
use Rattle.solve_laws.proofs.AnnotationLemmas.NormalLaws.{normal-post-itself, normal-state-itself}
use Rattle.solve_laws.proofs.AnnotationLemmas.Turns.{
  Annotates,
  IsFinished,
  IsGood,
  IsTurnPost,
  IsTurnState,
  annotates,
  is-finished,
  started-small,
}

-- ---- small

small-first : (task : Task) (pre : SymHeap) (posts : List Post) (cert : Cert) (all : Annotates task pre posts cert) →
    IsSmallCert (cert_of all.finishes.last)
small-first task pre posts cert all = all.finishes.grows.small (started-small task pre all.first all.starts)

pub done_is_small : DoneIsSmall
done_is_small task pre posts cert h =
    let all = annotates task pre posts cert h in
    let small = small-first task pre posts cert all in
    let fewer : length (kept all.finishes.last.exits) ≤ length all.finishes.last.exits = kept-fewer all.finishes.last.exits in
    let few : length all.finishes.last.exits ≤ MOST_STATES = small.exits in
    let fits : length (kept all.finishes.last.exits) ≤ MOST_STATES = omega arith in
    (subst (λ (ones : List Post). length ones ≤ MOST_STATES) all.finishes.posts_are fits, subst IsSmallCert all.finishes.cert_is small)

-- ---- inductive

module _ (task : Task) (good : IsTask task) (pre : SymHeap) (last : Listing) (is : IsFinished task pre last) where
  -- a listed state is its own normal form, so what holds of its execution is what the rules ask for
  each-execution : (P : Step → Type 0) →
      ((at : ℕ) (state : SymState) → IsTurnState task state → IsGood task last (execution task at state) → P (execution task at state)) →
      OfExecutions task (cert_of last) P
  each-execution P each at k d below =
      let states = listed_at at last in
      let state = slice_index_or states k d in
      let turn = listed-each (IsTurnState task) (IsTurnPost task) last is.listed at k d below in
      subst (λ form. IfSome form (λ one. P (execution task at one))) (sym (normal-state-itself state turn.1))
      (each at state turn (is.done at state (Contains-get_or states k d below)))

  nexts-covered : (one : Step) → GoesOnWithin task one → OfNexts (λ item. Arrived task item last) one →
      OfNexts (λ (next : ℕ × SymState). IfSome (at_node task next.0 next.1) (IsCovered (states_at (cert_of last) next.0))) one
  nexts-covered (step.Next nexts exits) within arrived = λ k d below.
      let inside : (slice_index_or nexts k d).0 < length task.flow.nodes = within k d below in
      let as_many : length last.nodes ≡ length task.flow.nodes = is.one_each in
      arrived k d below (omega arith)
  nexts-covered (step.Fail cause line) within arrived = tt

  posts-cover : All (λ exit. IfSome (normal_post exit) (IsPostCovered (kept last.exits))) last.exits
  posts-cover k d below =
      let exit = slice_index_or last.exits k d in
      let turn = is.listed.exits k d below in
      subst (λ form. IfSome form (IsPostCovered (kept last.exits))) (sym (normal-post-itself exit turn.1)) (kept-cover last.exits k d below)

  finished-inductive : IsInductiveCert task (spec_of pre (kept last.exits)) (cert_of last)
  finished-inductive = record {
    start = is.start;
    runs = each-execution DoesNotFail (λ at state turn done. done.runs);
    nexts =
        each-execution
        (OfNexts (λ (next : ℕ × SymState). IfSome (at_node task next.0 next.1) (IsCovered (states_at (cert_of last) next.0))))
        (λ at state turn done. nexts-covered (execution task at state)
        (step-within task good at state turn.0 (execution task at state) refl) done.nexts);
    exits = each-execution (OfExits (λ exit. HasLeft task exit last)) (λ at state turn done. done.exits);
    posts = posts-cover;
  }

  module _ (is_pre : IsSymHeap analysable task.structs (length task.flow.params) pre) (small : IsSmallCert (cert_of last)) where
    finished-spec : IsTaskSpec task (spec_of pre (kept last.exits))
    finished-spec =
        let fewer : length (kept last.exits) ≤ length last.exits = kept-fewer last.exits in
        let few : length last.exits ≤ MOST_STATES = small.exits in record {
          pre = is_pre;
          countable = omega arith;
          posts =
              kept-each (IsGivenPost task) last.exits
              (All-weaker (IsTurnPost task) (IsGivenPost task) (λ post turn. turn.0) last.exits is.listed.exits);
        }

    finished-states : All (AreStates analysable task.structs (length task.flow.params) (length task.flow.slots)) last.nodes
    finished-states k d below =
        let states = slice_index_or last.nodes k d in
        let few : length states ≤ MOST_STATES = small.nodes k d below in
        record {
          few = omega arith;
          each = All-weaker (IsTurnState task) (IsGivenState task) (λ state turn. turn.0) states (is.listed.nodes k d below);
        }

    finished-cert : IsTaskCert task (cert_of last)
    finished-cert =
        let few : length last.exits ≤ MOST_STATES = small.exits in record {
          one_each = is.one_each;
          nodes = finished-states;
          few = omega arith;
          exits = All-weaker (IsTurnPost task) (IsGivenPost task) (λ post turn. turn.0) last.exits is.listed.exits;
        }

pre-wide : (task : Task) (pre : SymHeap) → IsSymHeap analysable task.structs (length task.flow.params) pre →
    IsSymHeap widest task.structs (length task.flow.params) pre
pre-wide task pre is = limits.heap analysable widest limits.storable_is_analysable.1 (length task.flow.params) task.structs pre is

pub done_is_inductive : DoneIsInductive
done_is_inductive task pre posts cert good is_pre h =
    let all = annotates task pre posts cert h in
    let last = all.finishes.last in
    let inductive = finished-inductive task good pre last (is-finished task pre posts cert good (pre-wide task pre is_pre) all) in
    subst (λ one. IsInductiveCert task (spec_of pre posts) one) all.finishes.cert_is
    (subst (λ (ones : List Post). IsInductiveCert task (spec_of pre ones) (cert_of last)) all.finishes.posts_are inductive)

pub done_is_well_formed : DoneIsWellFormed
done_is_well_formed task pre posts cert good is_pre h =
    let all = annotates task pre posts cert h in
    let last = all.finishes.last in
    let finished = is-finished task pre posts cert good (pre-wide task pre is_pre) all in
    let small = small-first task pre posts cert all in (
      subst (λ (ones : List Post). IsTaskSpec task (spec_of pre ones)) all.finishes.posts_are
          (finished-spec task good pre last finished is_pre small),
      subst (IsTaskCert task) all.finishes.cert_is (finished-cert task good pre last finished is_pre small),
    )
