-- There is no gap exactly where the rules hold.
use Rattle.std.specs.Prelude.{◌≡◌, ℕ, zero, suc, ◌+◌, ◌<◌, ◌≤◌, Bool, true, false, Decides, ◌&&◌, List, [], ◌∷◌, length, option_map}
use Rattle.std.specs.Prelude.{slice_get, slice_index_or, zip, All, IfSome}
use Rattle.std.specs.List.{list_all}
use Rattle.std.specs.Option.{option_and_then, option_or}
use Rattle.std.specs.declared.option.Option.{Option}
use Rattle.std.specs.declared.option.Option.TheVariants.{None, Some}
use Rattle.std.proofs.Common.{refl, sym, ap, subst, arith, ⊎_elim}
use Rattle.std.proofs.lemmas.Bool.Decides.{Decides-and, Decides-by_and}
use Rattle.std.proofs.lemmas.List.{get_or_past}
use Rattle.std.proofs.lemmas.List.Elements.{All-nil, All-same, All-weaker}
use Rattle.std.proofs.lemmas.Option.{get_or_from_slice_get, slice_get_cases}
use Rattle.shape_data.specs.declared.answer.Answer.{Answer}
use Rattle.shape_data.specs.declared.answer.Key.{Key}
use Rattle.shape_data.specs.declared.answer.ProcSummary.{ProcSummary}
use Rattle.shape_data.specs.declared.program.Flow.{Flow}
use Rattle.shape_data.specs.declared.symbolic.Cert.{Cert}
use Rattle.shape_data.specs.declared.symbolic.Post.{Post}
use Rattle.shape_data.specs.declared.symbolic.Spec.{Spec}
use Rattle.shape_data.specs.declared.symbolic.SymState.{SymState}
use Rattle.sym_parts.proofs.ShapesLemmas.StepsStacks.{All-at}
use Rattle.sound_laws.specs.Answers.{StandAt, Summarizes}
use Rattle.sound_laws.specs.Certificates.{states_at}
use Rattle.sound_laws.proofs.ProcedureLemmas.{each_place}
use Rattle.exec_laws.specs.declared.parts.Step.{Step}
use Rattle.exec_laws.specs.declared.parts.Step.TheVariants as step
use Rattle.solve_laws.specs.Certificates.Coming.{Task, at_exit, at_node, normal_post, normal_state, start_at_node}
use Rattle.solve_laws.specs.Certificates.Coverings.{IsCovered, IsPostCovered, is_covered, is_post_covered}
use Rattle.solve_laws.specs.Certificates.Gaps.{first_found, first_gap, is_exit_covered, is_next_covered, node_gap, passes, placed, post_gap}
use Rattle.solve_laws.specs.Certificates.Gaps.{spec_gap, start_gap, state_gap, step_gap, summary_gap, uncovered_unless}
use Rattle.solve_laws.specs.Certificates.Inductive.{DoesNotFail, ExitsAreCovered, IsInductiveCert, IsInductiveSummary, NextsAreCovered}
use Rattle.solve_laws.specs.Certificates.Inductive.{
  NoStateFails,
  OfExecutions,
  OfExits,
  OfNexts,
  PostsCover,
  StartIsCovered,
  execution,
  task_of,
}
use Rattle.solve_laws.specs.Certificates.Laws.{NoGap, NoSpecGap}
use Rattle.solve_laws.proofs.CertificatesLemmas.CoveringLaws.{is_covered-Decides, is_post_covered-Decides}

-- ---- nothing is found exactly where something holds

pub record NoneWhere {A : Type 0} (found : Option A) (P : Type 0) : Type 0 where
  pub holds : found ≡ None → P
  pub is_none : P → found ≡ None

like : {A P Q : Type 0} (found : Option A) → (P → Q) → (Q → P) → NoneWhere found P → NoneWhere found Q
like found to from where_none = record { holds = λ none. to (where_none.holds none); is_none = λ q. where_none.is_none (from q) }

either : {A P Q : Type 0} (found other : Option A) → NoneWhere found P → NoneWhere other Q → NoneWhere (option_or found other) (P × Q)
either None other first second = record { holds = λ none. (first.holds refl, second.holds none); is_none = λ both. second.is_none both.1 }
either (Some thing) other first second = record { holds = λ none. cc; is_none = λ both. first.is_none both.0 }

mapped : {A B P : Type 0} (f : A → B) (found : Option A) → NoneWhere found P → NoneWhere (option_map f found) P
mapped {A = A} f None where_none = record { holds = λ none. where_none.holds refl; is_none = λ p. refl }
mapped {A = A} f (Some thing) where_none =
    record { holds = λ none. cc; is_none = λ p. let never : ◌≡◌ {A = Option A} (Some thing) None = where_none.is_none p in cc }

unless : (b : Bool) (P : Type 0) (task : Task) (at : ℕ) → Decides b P → NoneWhere (uncovered_unless b task at) P
unless true P task at decides = record { holds = λ none. decides.0 refl; is_none = λ p. refl }
unless false P task at decides = record { holds = λ none. cc; is_none = λ p. let never : false ≡ true = decides.1 p in cc }

chained : {A B : Type 0} (search : A → Option B) (P : A → Type 0) (thing : Option A) → ((one : A) → NoneWhere (search one) (P one)) →
    NoneWhere (option_and_then search thing) (IfSome thing P)
chained search P None each = record { holds = λ none. tt; is_none = λ nothing. refl }
chained search P (Some thing) each = each thing

-- what stands at each place has the property
abbrev EachAt : {A : Type 0} → (ℕ → A → Type 0) → ℕ → List A → Type 0
EachAt {A} P from things = (k : ℕ) (thing : A) → slice_get things k ≡ Some thing → P (from + k) thing

module _ {A B : Type 0} (search : ℕ → A → Option B) (P : ℕ → A → Type 0)
    (each : (place : ℕ) (thing : A) → NoneWhere (search place thing) (P place thing)) where
  together : (from : ℕ) (first : A) (things : List A) → P from first × EachAt P (suc from) things → EachAt P from (first ∷ things)
  together from first things both zero thing is =
      let same : first ≡ thing = cc in
      let here : from + 0 ≡ from = omega arith in
      rw here (subst (P from) same both.0)
  together from first things both (suc k) thing is =
      let here : from + suc k ≡ suc from + k = omega arith in
      rw here (both.1 k thing is)

  apart : (from : ℕ) (first : A) (things : List A) → EachAt P from (first ∷ things) → P from first × EachAt P (suc from) things
  apart from first things all =
      let none : from + 0 ≡ from = omega arith in (
        subst (λ place. P place first) none (all 0 first refl),
        λ k thing is. let here : from + suc k ≡ suc from + k = omega arith in subst (λ place. P place thing) here (all (suc k) thing is),
      )

  first-none : (from : ℕ) (things : List A) → NoneWhere (first_found search from things) (EachAt P from things)
  first-none from [] = record { holds = λ none k thing is. cc; is_none = λ all. refl }
  first-none from (thing ∷ things) =
      like (option_or (search from thing) (first_found search (suc from) things)) (together from thing things) (apart from thing things)
      (either (search from thing) (first_found search (suc from) things) (each from thing) (first-none (suc from) things))

-- the same of properties that don't look at the place
all-at : {A : Type 0} (P : A → Type 0) (things : List A) → EachAt (λ place. P) 0 things → All P things
all-at P things each = each_place P things each

at-all : {A : Type 0} (P : A → Type 0) (things : List A) → All P things → EachAt (λ place. P) 0 things
at-all P things all k thing is = All-at P things k thing all is

-- ---- tests

passes-Decides : {A : Type 0} (test : A → Bool) (P : A → Type 0) (thing : Option A) → ((one : A) → Decides (test one) (P one)) →
    Decides (passes test thing) (IfSome thing P)
passes-Decides test P None each = (λ t. tt, λ nothing. refl)
passes-Decides test P (Some thing) each = each thing

all-Decides : {A : Type 0} (test : A → Bool) (P : A → Type 0) → ((one : A) → Decides (test one) (P one)) → (things : List A) →
    Decides (list_all test things) (All P things)
all-Decides test P each things = Decides-by_and test P (list_all test) each refl (λ _ _. refl) things

-- ---- a spec

module _ (task : Task) (cert : Cert) where
  abbrev NextIsCovered : ℕ × SymState → Type 0
  NextIsCovered next = IfSome (at_node task next.0 next.1) (IsCovered (states_at cert next.0))

  abbrev ExitIsCovered : Post → Type 0
  ExitIsCovered exit = IfSome (at_exit task exit) (IsPostCovered cert.exits)

  -- the second to the fourth rule of one execution
  record IsGoodStep (one : Step) : Type 0 where
    runs : DoesNotFail one
    nexts : OfNexts NextIsCovered one
    exits : OfExits ExitIsCovered one

  next-Decides : (next : ℕ × SymState) → Decides (is_next_covered task cert next) (NextIsCovered next)
  next-Decides next =
      passes-Decides (is_covered (states_at cert next.0)) (IsCovered (states_at cert next.0)) (at_node task next.0 next.1)
      (is_covered-Decides (states_at cert next.0))

  exit-Decides : (exit : Post) → Decides (is_exit_covered task cert exit) (ExitIsCovered exit)
  exit-Decides exit =
      passes-Decides (is_post_covered cert.exits) (IsPostCovered cert.exits) (at_exit task exit) (is_post_covered-Decides cert.exits)

  step-none : (at : ℕ) (one : Step) → NoneWhere (step_gap task cert at one) (IsGoodStep one)
  step-none at (step.Next nexts exits) =
      like (step_gap task cert at (step.Next nexts exits))
      (λ (both : All NextIsCovered nexts × All ExitIsCovered exits). record { runs = tt; nexts = both.0; exits = both.1 })
      (λ good. (good.nexts, good.exits))
      (unless (list_all (is_next_covered task cert) nexts && list_all (is_exit_covered task cert) exits)
      (All NextIsCovered nexts × All ExitIsCovered exits) task at
      (Decides-and (list_all (is_next_covered task cert) nexts) (list_all (is_exit_covered task cert) exits)
      (all-Decides (is_next_covered task cert) NextIsCovered next-Decides nexts)
      (all-Decides (is_exit_covered task cert) ExitIsCovered exit-Decides exits)))
  step-none at (step.Fail cause line) = record { holds = λ none. cc; is_none = λ good. absurd good.runs }

  abbrev IsGoodState : ℕ → SymState → Type 0
  IsGoodState at state = IfSome (normal_state state) (λ form. IsGoodStep (execution task at form))

  state-none : (at : ℕ) (state : SymState) → NoneWhere (state_gap task cert at state) (IsGoodState at state)
  state-none at state =
      chained (λ form. step_gap task cert at (execution task at form)) (λ form. IsGoodStep (execution task at form)) (normal_state state)
      (λ form. step-none at (execution task at form))

  node-none : (at : ℕ) (states : List SymState) → NoneWhere (node_gap task cert at states) (All (IsGoodState at) states)
  node-none at states =
      like (node_gap task cert at states) (all-at (IsGoodState at) states) (at-all (IsGoodState at) states)
      (first-none (λ place state. state_gap task cert at state) (λ place. IsGoodState at) (λ place state. state-none at state) 0 states)

  -- the states of each node, by place and by number
  abbrev AreGood : Type 0
  AreGood = OfExecutions task cert IsGoodStep

  by-number : EachAt (λ at. All (IsGoodState at)) 0 cert.nodes → AreGood
  by-number each at = ⊎_elim within past (slice_get_cases cert.nodes at).1
    where
      within : (states : List SymState) × (at < length cert.nodes) × (slice_get cert.nodes at ≡ Some states)
          × (slice_index_or cert.nodes at states ≡ states) → All (IsGoodState at) (states_at cert at)
      within (states, below, is, same) =
          let here : states_at cert at ≡ states = get_or_from_slice_get cert.nodes at states [] is in
          let none : 0 + at ≡ at = omega arith in
          All-same (IsGoodState at) (states_at cert at) states here
          (subst (λ place. All (IsGoodState place) states) none (each at states is))

      past : (length cert.nodes ≤ at) × (slice_get cert.nodes at ≡ None) → All (IsGoodState at) (states_at cert at)
      past (beyond, is) = All-same (IsGoodState at) (states_at cert at) [] (get_or_past cert.nodes at [] beyond) (All-nil (IsGoodState at))

  by-place : AreGood → EachAt (λ at. All (IsGoodState at)) 0 cert.nodes
  by-place good at states is =
      let here : states_at cert at ≡ states = get_or_from_slice_get cert.nodes at states [] is in
      let none : 0 + at ≡ at = omega arith in
      rw none (All-same (IsGoodState at) states (states_at cert at) (sym here) (good at))

  states-none : NoneWhere (first_found (node_gap task cert) 0 cert.nodes) AreGood
  states-none =
      like (first_found (node_gap task cert) 0 cert.nodes) by-number by-place
      (first-none (node_gap task cert) (λ at. All (IsGoodState at)) node-none 0 cert.nodes)

  module _ (spec : Spec) where
    start-none : NoneWhere (start_gap task spec cert) (StartIsCovered task spec cert)
    start-none =
        unless (passes (is_covered (states_at cert 0)) (start_at_node task spec.pre)) (StartIsCovered task spec cert) task 0
        (passes-Decides (is_covered (states_at cert 0)) (IsCovered (states_at cert 0)) (start_at_node task spec.pre)
        (is_covered-Decides (states_at cert 0)))

    post-none : NoneWhere (post_gap task spec cert) (PostsCover spec cert)
    post-none =
        unless (list_all (λ exit. passes (is_post_covered spec.posts) (normal_post exit)) cert.exits) (PostsCover spec cert) task 0
        (all-Decides (λ exit. passes (is_post_covered spec.posts) (normal_post exit))
        (λ exit. IfSome (normal_post exit) (IsPostCovered spec.posts))
        (λ exit. passes-Decides (is_post_covered spec.posts) (IsPostCovered spec.posts) (normal_post exit)
        (is_post_covered-Decides spec.posts)) cert.exits)

    -- the second to the fourth rule, apart and together
    part : (P : Step → Type 0) → ((one : Step) → IsGoodStep one → P one) → AreGood → OfExecutions task cert P
    part P weaker good at =
        All-weaker (IsGoodState at) (λ state. IfSome (normal_state state) (λ form. P (execution task at form)))
        (λ state. if_form (normal_state state)) (states_at cert at) (good at)
      where
        if_form : (o : Option SymState) → IfSome o (λ form. IsGoodStep (execution task at form)) →
            IfSome o (λ form. P (execution task at form))
        if_form None is = tt
        if_form (Some form) is = weaker (execution task at form) is

    whole : NoStateFails task cert → NextsAreCovered task cert → ExitsAreCovered task cert → AreGood
    whole runs nexts exits at k d below =
        if_form (normal_state (slice_index_or (states_at cert at) k d)) (runs at k d below) (nexts at k d below) (exits at k d below)
      where
        if_form : (o : Option SymState) → IfSome o (λ form. DoesNotFail (execution task at form)) →
            IfSome o (λ form. OfNexts NextIsCovered (execution task at form)) →
            IfSome o (λ form. OfExits ExitIsCovered (execution task at form)) → IfSome o (λ form. IsGoodStep (execution task at form))
        if_form None run next exit = tt
        if_form (Some form) run next exit = record { runs = run; nexts = next; exits = exit }

    spec-none : NoneWhere (spec_gap task spec cert) (IsInductiveCert task spec cert)
    spec-none =
        like (spec_gap task spec cert)
        (λ (all : StartIsCovered task spec cert × (AreGood × PostsCover spec cert)). record {
          start = all.0;
          runs = part DoesNotFail (λ one good. good.runs) all.1.0;
          nexts = part (OfNexts NextIsCovered) (λ one good. good.nexts) all.1.0;
          exits = part (OfExits ExitIsCovered) (λ one good. good.exits) all.1.0;
          posts = all.1.1;
        })
        (λ is. (is.start, (whole is.runs is.nexts is.exits, is.posts)))
        (either (start_gap task spec cert) (option_or (first_found (node_gap task cert) 0 cert.nodes) (post_gap task spec cert)) start-none
        (either (first_found (node_gap task cert) 0 cert.nodes) (post_gap task spec cert) states-none post-none))

pub no_spec_gap : NoSpecGap
no_spec_gap task spec cert = ((spec-none task cert spec).holds, (spec-none task cert spec).is_none)

-- ---- an answer

-- what stands at a place of two lists stands there in the list of pairs, and the other way round
zip-both : {A B : Type 0} (ones : List A) (others : List B) (place : ℕ) (both : A × B) → slice_get (zip ones others) place ≡ Some both →
    StandAt ones others place both.0 both.1
zip-both {A = A} {B = B} [] others place both is = cc
zip-both {A = A} {B = B} (one ∷ ones) [] place both is = cc
zip-both {A = A} {B = B} (one ∷ ones) (other ∷ others) zero both is =
    let same : (one, other) ≡ both = cc in
    (ap (λ (pair : A × B). Some pair.0) same, ap (λ (pair : A × B). Some pair.1) same)
zip-both {A = A} {B = B} (one ∷ ones) (other ∷ others) (suc place) both is = zip-both ones others place both is

both-zip : {A B : Type 0} (ones : List A) (others : List B) (place : ℕ) (one : A) (other : B) → StandAt ones others place one other →
    slice_get (zip ones others) place ≡ Some (one, other)
both-zip {A = A} {B = B} [] others place one other stand = let never : ◌≡◌ {A = Option A} None (Some one) = stand.0 in cc
both-zip {A = A} {B = B} (first ∷ ones) [] place one other stand = let never : ◌≡◌ {A = Option B} None (Some other) = stand.1 in cc
both-zip {A = A} {B = B} (first ∷ ones) (second ∷ others) zero one other stand =
    let same : first ≡ one = let is : ◌≡◌ {A = Option A} (Some first) (Some one) = stand.0 in cc in
    let alike : second ≡ other = let is : ◌≡◌ {A = Option B} (Some second) (Some other) = stand.1 in cc in
    λ i. Some (same i, alike i)
both-zip {A = A} {B = B} (first ∷ ones) (second ∷ others) (suc place) one other stand = both-zip ones others place one other stand

summary-none : (task : Task) (proc : ℕ) (summary : ProcSummary) →
    NoneWhere (summary_gap task proc summary) (IsInductiveSummary task summary)
summary-none task proc summary =
    like (summary_gap task proc summary)
    (λ each at spec cert stand. each at (spec, cert) (both-zip summary.specs summary.certs at spec cert stand))
    (λ each at both is. each at both.0 both.1 (zip-both summary.specs summary.certs at both is))
    (first-none (λ place (both : Spec × Cert). option_map (placed proc place) (spec_gap task both.0 both.1))
    (λ place (both : Spec × Cert). IsInductiveCert task both.0 both.1)
    (λ place both. mapped (placed proc place) (spec_gap task both.0 both.1) (spec-none task both.1 both.0)) 0
    (zip summary.specs summary.certs))

-- the rules for each spec of each procedure
abbrev AreInductiveSummaries : Key → Answer → Type 0
AreInductiveSummaries key answer =
    (flow : Flow) (summary : ProcSummary) → Summarizes key answer flow summary → IsInductiveSummary (task_of key answer flow) summary

gap-none : (key : Key) (answer : Answer) → NoneWhere (first_gap key answer) (AreInductiveSummaries key answer)
gap-none key answer =
    like (first_gap key answer)
    (λ each flow summary stand. each stand.0 (flow, summary) (both-zip key.procs answer.procs stand.0 flow summary stand.1))
    (λ each place both is. each both.0 both.1 (place, zip-both key.procs answer.procs place both is))
    (first-none (λ place (both : Flow × ProcSummary). summary_gap (task_of key answer both.0) place both.1)
    (λ place (both : Flow × ProcSummary). IsInductiveSummary (task_of key answer both.0) both.1)
    (λ place both. summary-none (task_of key answer both.0) place both.1) 0 (zip key.procs answer.procs))

pub no_gap : NoGap
no_gap key answer is_key is_answer = (
  λ none. record { is_key = is_key; is_answer = is_answer; specs = (gap-none key answer).holds none },
  λ is.
      (gap-none key answer).is_none is.specs,
)
