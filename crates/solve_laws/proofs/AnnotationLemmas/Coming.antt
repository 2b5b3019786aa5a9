-- What comes to a listing: a course that goes on leads to a larger listing, where what came is covered, and it never ends by being done.
use Rattle.std.specs.Prelude.{◌≡◌, ◌⊎◌, ℕ, ◌<◌, ◌≤◌, Bool, true, false, cond, leb, ltb, List, [], ◌∷◌, length, All, IfSome}
use Rattle.std.specs.declared.option.Option.{Option}
use Rattle.std.specs.declared.option.Option.TheVariants.{None, Some}
use Rattle.std.proofs.Common.{refl, sym, subst, arith, inl, inr, ⊎_elim}
use Rattle.std.proofs.lemmas.Bool.{leb-false, ltb-false}
use Rattle.std.proofs.lemmas.List.Elements.{All-cons, All-head, All-nil, All-tail, Contains-push}
use Rattle.shape_data.specs.declared.answer.Budget.TheVariants as budget
use Rattle.shape_data.specs.declared.symbolic.Post.{Post}
use Rattle.shape_data.specs.declared.symbolic.SymHeap.{SymHeap}
use Rattle.shape_data.specs.declared.symbolic.SymState.{SymState}
use Rattle.exec_laws.specs.declared.parts.Step.{Step}
use Rattle.exec_laws.specs.declared.parts.Step.TheVariants as step
use Rattle.solve_laws.specs.Certificates.Coming.{Task, at_exit, at_node, start_at_node}
use Rattle.solve_laws.specs.Certificates.Coverings.{IsCovered, IsPostCovered, is_covered, is_post_covered}
use Rattle.solve_laws.proofs.CertificatesLemmas.CoveringLaws.{is_covered-Decides, is_post_covered-Decides}
use Rattle.solve_laws.specs.declared.annotation.parts.Annotated.{Annotated}
use Rattle.solve_laws.specs.declared.annotation.parts.Annotated.TheVariants.{Done, Fail, Spent}
use Rattle.solve_laws.specs.Annotation.Annotation.{after_step, empty_listing, post_comes, result_comes, started}
use Rattle.solve_laws.specs.Annotation.Listing.{
  Course,
  Ends,
  Goes,
  Listing,
  MOST_PARTS,
  MOST_STATES,
  all_come,
  exit_comes,
  listed_at,
  parts_of,
}
use Rattle.solve_laws.specs.Annotation.Listing.{state_comes, then_on, unless_none, with_exit, with_state}
use Rattle.solve_laws.proofs.AnnotationLemmas.Growing.{Grows, Leads, covered-grows, exit-covered-grows, exit-leads, leads-refl, leads-trans}
use Rattle.solve_laws.proofs.AnnotationLemmas.Growing.{state-is-there, state-leads}

-- ---- one comes

-- three tests are made one after the other
tested : (large covered full : Bool) (parts states : Annotated) (from more to : Listing) →
    cond large (Ends parts) (cond covered (Goes from) (cond full (Ends states) (Goes more))) ≡ Goes to →
    (large ≡ false) × (((covered ≡ true) × (from ≡ to)) ⊎ ((full ≡ false) × (more ≡ to)))
tested true covered full parts states from more to h = cc
tested false true full parts states from more to h = let same : from ≡ to = cc in (refl, inl (refl, same))
tested false false true parts states from more to h = cc
tested false false false parts states from more to h = let same : more ≡ to = cc in (refl, inr (refl, same))

-- it is no larger than it may be, and what came of it: it was left out, or listed
pub record Came (parts : ℕ) (is_left_out : Bool) (count : ℕ) (from more to : Listing) : Type 0 where
  pub few_parts : parts ≤ MOST_PARTS
  pub course : ((is_left_out ≡ true) × (from ≡ to)) ⊎ ((count < MOST_STATES) × (more ≡ to))

came : (parts : ℕ) (covered : Bool) (count : ℕ) (large full : Annotated) (from more to : Listing) →
    cond (ltb MOST_PARTS parts) (Ends large) (cond covered (Goes from) (cond (leb MOST_STATES count) (Ends full) (Goes more))) ≡ Goes to →
    Came parts covered count from more to
came parts covered count large full from more to h =
    let all = tested (ltb MOST_PARTS parts) covered (leb MOST_STATES count) large full from more to h in
    record {
      few_parts = ltb-false MOST_PARTS parts all.0;
      course = ⊎_elim inl (λ listed. inr (leb-false MOST_STATES count listed.0, listed.1)) all.1;
    }

pub state-came : (node : ℕ) (state : SymState) (from to : Listing) → state_comes node state from ≡ Goes to →
    Came (parts_of state.heap) (is_covered (listed_at node from) state) (length (listed_at node from)) from (with_state node state from) to
state-came node state from to h =
    came (parts_of state.heap) (is_covered (listed_at node from) state) (length (listed_at node from)) (Spent budget.Parts 97)
    (Spent budget.States 17) from (with_state node state from) to h

pub exit-came : (post : Post) (from to : Listing) → exit_comes post from ≡ Goes to →
    Came (parts_of post.heap) (is_post_covered from.exits post) (length from.exits) from (with_exit post from) to
exit-came post from to h =
    came (parts_of post.heap) (is_post_covered from.exits post) (length from.exits) (Spent budget.Parts 97) (Spent budget.States 17) from
    (with_exit post from) to h

-- a course went on to a listing, and from there
pub then-went : (go_on : Listing → Course) (course : Course) (to : Listing) → then_on go_on course ≡ Goes to →
    (mid : Listing) × (course ≡ Goes mid) × (go_on mid ≡ Goes to)
then-went go_on (Goes mid) to h = (mid, refl, h)
then-went go_on (Ends annotated) to h = cc

-- ---- it leads to a larger listing

pub state-comes-leads : (node : ℕ) (state : SymState) (from to : Listing) → state_comes node state from ≡ Goes to → Leads from to
state-comes-leads node state from to h =
    ⊎_elim (λ out. subst (Leads from) out.1 (leads-refl from))
    (λ listed. subst (Leads from) listed.1 (state-leads node state from listed.0)) (state-came node state from to h).course

pub exit-comes-leads : (post : Post) (from to : Listing) → exit_comes post from ≡ Goes to → Leads from to
exit-comes-leads post from to h =
    ⊎_elim (λ out. subst (Leads from) out.1 (leads-refl from)) (λ listed. subst (Leads from) listed.1 (exit-leads post from listed.0))
    (exit-came post from to h).course

module _ {A : Type 0} (comes : A → Listing → Course)
    (leads : (thing : A) (from to : Listing) → comes thing from ≡ Goes to → Leads from to) where
  pub unless-none-leads : (thing : Option A) (from to : Listing) → unless_none comes thing from ≡ Goes to → Leads from to
  unless-none-leads None from to h = let same : from ≡ to = cc in subst (Leads from) same (leads-refl from)
  unless-none-leads (Some thing) from to h = leads thing from to h

  pub all-come-leads : (things : List A) (from to : Listing) → all_come comes things from ≡ Goes to → Leads from to
  all-come-leads [] from to h = let same : from ≡ to = cc in subst (Leads from) same (leads-refl from)
  all-come-leads (thing ∷ things) from to h =
      let went = then-went (all_come comes things) (comes thing from) to h in
      leads-trans from went.0 to (leads thing from went.0 went.1) (all-come-leads things went.0 to went.2)

  -- and what each brings about holds in the end, if it stays
  module _ (Q : A → Listing → Type 0) (stays : (thing : A) (from to : Listing) → Grows from to → Q thing from → Q thing to)
      (each : (thing : A) (from to : Listing) → comes thing from ≡ Goes to → Q thing to) where
    pub all-come-arrive : (things : List A) (from to : Listing) → all_come comes things from ≡ Goes to → All (λ thing. Q thing to) things
    all-come-arrive [] from to h = All-nil (λ thing. Q thing to)
    all-come-arrive (thing ∷ things) from to h =
        let went = then-went (all_come comes things) (comes thing from) to h in
        All-cons (λ one. Q one to) thing things
        (stays thing went.0 to (all-come-leads things went.0 to went.2).grows (each thing from went.0 went.1))
        (all-come-arrive things went.0 to went.2)

-- what each keeps, all keep
module _ {A : Type 0} (comes : A → Listing → Course) (P : A → Type 0) (K : Listing → Type 0)
    (keeps : (thing : A) (from to : Listing) → P thing → K from → comes thing from ≡ Goes to → K to) where
  pub unless-none-keeps : (thing : Option A) (from to : Listing) → IfSome thing P → K from → unless_none comes thing from ≡ Goes to → K to
  unless-none-keeps None from to is kept h = let same : from ≡ to = cc in subst K same kept
  unless-none-keeps (Some thing) from to is kept h = keeps thing from to is kept h

  pub all-come-keep : (things : List A) (from to : Listing) → All P things → K from → all_come comes things from ≡ Goes to → K to
  all-come-keep [] from to are kept h = let same : from ≡ to = cc in subst K same kept
  all-come-keep (thing ∷ things) from to are kept h =
      let went = then-went (all_come comes things) (comes thing from) to h in
      all-come-keep things went.0 to (All-tail P thing things are)
      (keeps thing from went.0 (All-head P thing things are) kept went.1) went.2

module _ (task : Task) where
  pub result-comes-leads : (item : ℕ × SymState) (from to : Listing) → result_comes task item from ≡ Goes to → Leads from to
  result-comes-leads item from to h =
      unless-none-leads (state_comes item.0) (state-comes-leads item.0) (at_node task item.0 item.1) from to h

  pub post-comes-leads : (post : Post) (from to : Listing) → post_comes task post from ≡ Goes to → Leads from to
  post-comes-leads post from to h = unless-none-leads exit_comes exit-comes-leads (at_exit task post) from to h

  pub after-step-leads : (one : Step) (from to : Listing) → after_step task one from ≡ Goes to → Leads from to
  after-step-leads (step.Next nexts exits) from to h =
      let went = then-went (all_come (post_comes task) exits) (all_come (result_comes task) nexts from) to h in
      leads-trans from went.0 to (all-come-leads (result_comes task) result-comes-leads nexts from went.0 went.1)
      (all-come-leads (post_comes task) post-comes-leads exits went.0 to went.2)
  after-step-leads (step.Fail cause line) from to h = cc

  pub started-leads : (pre : SymHeap) (first : Listing) → started task pre ≡ Goes first → Leads (empty_listing task) first
  started-leads pre first h = unless-none-leads (state_comes 0) (state-comes-leads 0) (start_at_node task pre) (empty_listing task) first h

-- ---- what came is covered

pub state-comes-covered : (node : ℕ) (state : SymState) (from to : Listing) → state_comes node state from ≡ Goes to →
    node < length to.nodes → IsCovered (listed_at node to) state
state-comes-covered node state from to h within = ⊎_elim left_out listed (state-came node state from to h).course
  where
    left_out : (is_covered (listed_at node from) state ≡ true) × (from ≡ to) → IsCovered (listed_at node to) state
    left_out (covered, same) =
        subst (λ (one : Listing). IsCovered (listed_at node one) state) same ((is_covered-Decides (listed_at node from) state).0 covered)

    listed : (length (listed_at node from) < MOST_STATES) × (with_state node state from ≡ to) → IsCovered (listed_at node to) state
    listed (few, same) =
        let leads = state-leads node state from few in
        let as_many : length (with_state node state from).nodes ≡ length from.nodes = leads.grows.one_each in
        let there : node < length (with_state node state from).nodes =
        subst (λ (one : Listing). node < length one.nodes) (sym same) within in
        let inside : node < length from.nodes = omega arith in
        subst (λ (one : Listing). IsCovered (listed_at node one) state) same (state, state-is-there node state from inside, inl refl)

pub exit-comes-covered : (post : Post) (from to : Listing) → exit_comes post from ≡ Goes to → IsPostCovered to.exits post
exit-comes-covered post from to h =
    ⊎_elim (λ out. subst (λ (one : Listing). IsPostCovered one.exits post) out.1 ((is_post_covered-Decides from.exits post).0 out.0))
    (λ listed. subst (λ (one : Listing). IsPostCovered one.exits post) listed.1 (post, Contains-push from.exits post, inl refl))
    (exit-came post from to h).course

-- a state, abstracted, is covered at its node, if there is such a node
abbrev pub Arrived : Task → ℕ × SymState → Listing → Type 0
Arrived task item listing = item.0 < length listing.nodes → IfSome (at_node task item.0 item.1) (IsCovered (listed_at item.0 listing))

-- a post, abstracted, is covered by an exit
abbrev pub HasLeft : Task → Post → Listing → Type 0
HasLeft task post listing = IfSome (at_exit task post) (IsPostCovered listing.exits)

module _ (task : Task) where
  pub arrived-stays : (item : ℕ × SymState) (from to : Listing) → Grows from to → Arrived task item from → Arrived task item to
  arrived-stays item from to grows is within = by_form (at_node task item.0 item.1) (is inside)
    where
      inside : item.0 < length from.nodes
      inside = let as_many : length to.nodes ≡ length from.nodes = grows.one_each in omega arith

      by_form : (o : Option SymState) → IfSome o (IsCovered (listed_at item.0 from)) → IfSome o (IsCovered (listed_at item.0 to))
      by_form None covered = tt
      by_form (Some form) covered = covered-grows from to grows item.0 form covered

  pub left-stays : (post : Post) (from to : Listing) → Grows from to → HasLeft task post from → HasLeft task post to
  left-stays post from to grows is = by_form (at_exit task post) is
    where
      by_form : (o : Option Post) → IfSome o (IsPostCovered from.exits) → IfSome o (IsPostCovered to.exits)
      by_form None covered = tt
      by_form (Some form) covered = exit-covered-grows from to grows form covered

  pub result-arrives : (item : ℕ × SymState) (from to : Listing) → result_comes task item from ≡ Goes to → Arrived task item to
  result-arrives item from to h within = by_form (at_node task item.0 item.1) h
    where
      by_form : (o : Option SymState) → unless_none (state_comes item.0) o from ≡ Goes to → IfSome o (IsCovered (listed_at item.0 to))
      by_form None k = tt
      by_form (Some form) k = state-comes-covered item.0 form from to k within

  pub post-leaves : (post : Post) (from to : Listing) → post_comes task post from ≡ Goes to → HasLeft task post to
  post-leaves post from to h = by_form (at_exit task post) h
    where
      by_form : (o : Option Post) → unless_none exit_comes o from ≡ Goes to → IfSome o (IsPostCovered to.exits)
      by_form None k = tt
      by_form (Some form) k = exit-comes-covered form from to k

  pub start-arrives : (pre : SymHeap) (first : Listing) → started task pre ≡ Goes first → 0 < length first.nodes →
      IfSome (start_at_node task pre) (IsCovered (listed_at 0 first))
  start-arrives pre first h within = by_form (start_at_node task pre) h
    where
      by_form : (o : Option SymState) → unless_none (state_comes 0) o (empty_listing task) ≡ Goes first →
          IfSome o (IsCovered (listed_at 0 first))
      by_form None k = tt
      by_form (Some form) k = state-comes-covered 0 form (empty_listing task) first k within

-- ---- it does not end by being done

abbrev pub IsNotDone : Annotated → Type 0
IsNotDone (Done posts cert) = ⊥
IsNotDone (Fail cause line) = Unit {0}
IsNotDone (Spent what count) = Unit {0}

abbrev pub IsOpen : Course → Type 0
IsOpen (Goes listing) = Unit {0}
IsOpen (Ends annotated) = IsNotDone annotated

tests-open : (large covered full : Bool) (parts states : Annotated) (from more : Listing) → IsNotDone parts → IsNotDone states →
    IsOpen (cond large (Ends parts) (cond covered (Goes from) (cond full (Ends states) (Goes more))))
tests-open true covered full parts states from more one other = one
tests-open false true full parts states from more one other = tt
tests-open false false true parts states from more one other = other
tests-open false false false parts states from more one other = tt

pub state-comes-open : (node : ℕ) (state : SymState) (from : Listing) → IsOpen (state_comes node state from)
state-comes-open node state from =
    tests-open (ltb MOST_PARTS (parts_of state.heap)) (is_covered (listed_at node from) state)
    (leb MOST_STATES (length (listed_at node from))) (Spent budget.Parts 97) (Spent budget.States 17) from
    (with_state node state from) tt tt

pub exit-comes-open : (post : Post) (from : Listing) → IsOpen (exit_comes post from)
exit-comes-open post from =
    tests-open (ltb MOST_PARTS (parts_of post.heap)) (is_post_covered from.exits post) (leb MOST_STATES (length from.exits))
    (Spent budget.Parts 97) (Spent budget.States 17) from (with_exit post from) tt tt

then-open : (go_on : Listing → Course) → ((listing : Listing) → IsOpen (go_on listing)) → (course : Course) → IsOpen course →
    IsOpen (then_on go_on course)
then-open go_on each (Goes listing) is = each listing
then-open go_on each (Ends annotated) is = is

module _ {A : Type 0} (comes : A → Listing → Course) (each : (thing : A) (from : Listing) → IsOpen (comes thing from)) where
  pub unless-none-open : (thing : Option A) (from : Listing) → IsOpen (unless_none comes thing from)
  unless-none-open None from = tt
  unless-none-open (Some thing) from = each thing from

  pub all-come-open : (things : List A) (from : Listing) → IsOpen (all_come comes things from)
  all-come-open [] from = tt
  all-come-open (thing ∷ things) from = then-open (all_come comes things) (all-come-open things) (comes thing from) (each thing from)

module _ (task : Task) where
  result-comes-open : (item : ℕ × SymState) (from : Listing) → IsOpen (result_comes task item from)
  result-comes-open item from = unless-none-open (state_comes item.0) (state-comes-open item.0) (at_node task item.0 item.1) from

  post-comes-open : (post : Post) (from : Listing) → IsOpen (post_comes task post from)
  post-comes-open post from = unless-none-open exit_comes exit-comes-open (at_exit task post) from

  pub after-step-open : (one : Step) (from : Listing) → IsOpen (after_step task one from)
  after-step-open (step.Next nexts exits) from =
      then-open (all_come (post_comes task) exits) (all-come-open (post_comes task) post-comes-open exits)
      (all_come (result_comes task) nexts from) (all-come-open (result_comes task) result-comes-open nexts from)
  after-step-open (step.Fail cause line) from = tt

  pub started-open : (pre : SymHeap) → IsOpen (started task pre)
  started-open pre = unless-none-open (state_comes 0) (state-comes-open 0) (start_at_node task pre) (empty_listing task)
