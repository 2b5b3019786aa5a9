-- Where states lead, by the one that is met; and what a command does, by more.
use Rattle.std.specs.Prelude.{◌≡◌, ℕ, zero, suc, ◌<◌, ℤ, List, [], ◌∷◌, ◌++◌, length, slice_index_or, All, Contains}
use Rattle.std.proofs.Common.{refl, arith, inl, inr}
use Rattle.std.proofs.lemmas.List.Elements.{All-cons, All-contains, All-nil}
use Rattle.shape_data.specs.declared.answer.Callee.{Callee}
use Rattle.shape_data.specs.declared.machine.Cell.{Cell}
use Rattle.shape_data.specs.declared.machine.Choice.{Choice}
use Rattle.shape_data.specs.declared.machine.Stepped.{Stepped}
use Rattle.shape_data.specs.declared.machine.Stepped.TheVariants as stepped
use Rattle.shape_data.specs.declared.program.Cmd.{Cmd}
use Rattle.shape_data.specs.declared.program.Cmd.TheVariants as cmd
use Rattle.shape_data.specs.declared.program.Program.{Program}
use Rattle.shape_data.specs.declared.program.StructDef.{StructDef}
use Rattle.shape_data.specs.declared.symbolic.Post.{Post}
use Rattle.shape_data.specs.declared.symbolic.SymState.{SymState}
use Rattle.shape_data.specs.Machine.{step_cmd}
use Rattle.shape_data.specs.Meaning.{MeetsOne, MeetsPost, MeetsState}
use Rattle.sound_laws.specs.Commands.{alone, Does, Lands, NodeAssertion, ResultAssertion}
use Rattle.sound_laws.specs.Leading.{NextIsMet, PostIsMet, MeetsNext, MeetsSome, RowIsSound, StateLeads, PostLeads, StateLeadsOn}
use Rattle.sound_laws.specs.Leading.{PostLeadsOn, ListedStateLeads, ListedPostLeads, CoveredStateLeads, CoveredPostLeads, CasesDo}
use Rattle.sound_laws.specs.Leading.{RowMayWeaken}

-- ---- members of lists

pub Contains-first : {A : Type 0} (thing : A) (things : List A) → Contains (thing ∷ things) thing
Contains-first thing things = (0, omega arith, refl)

pub Contains-later : {A : Type 0} (first : A) (things : List A) (thing : A) → Contains things thing → Contains (first ∷ things) thing
Contains-later first things thing has =
    let within : suc has.0 < length (first ∷ things) = let below : has.0 < length things = has.1 in omega arith in
    (suc has.0, within, has.2)

-- ---- the one that is met

pub MeetsSome-is : (structs : List StructDef) (s : ℕ → ℤ) (locals : List ℤ) (heap : List Cell) (states : List SymState) →
    MeetsSome structs s locals heap states →
    (state : SymState) × Contains states state × MeetsState structs s locals heap state
MeetsSome-is structs s locals heap [] meets = absurd meets
MeetsSome-is structs s locals heap (state ∷ states) (inl meets) = (state, Contains-first state states, meets)
MeetsSome-is structs s locals heap (state ∷ states) (inr meets) =
    let later = MeetsSome-is structs s locals heap states meets in
    (later.0, Contains-later state states later.0 later.1, later.2)

pub MeetsNext-is : (structs : List StructDef) (s : ℕ → ℤ) (node : ℕ) (locals : List ℤ) (heap : List Cell) (nexts : List (ℕ × SymState)) →
    MeetsNext structs s node locals heap nexts →
    (next : ℕ × SymState) × Contains nexts next × (next.0 ≡ node) × MeetsState structs s locals heap next.1
MeetsNext-is structs s node locals heap [] meets = absurd meets
MeetsNext-is structs s node locals heap (next ∷ nexts) (inl meets) = (next, Contains-first next nexts, meets.0, meets.1)
MeetsNext-is structs s node locals heap (next ∷ nexts) (inr meets) =
    let later = MeetsNext-is structs s node locals heap nexts meets in
    (later.0, Contains-later next nexts later.0 later.1, later.2, later.3)

pub MeetsOne-is : (structs : List StructDef) (s : ℕ → ℤ) (value : ℤ) (heap : List Cell) (posts : List Post) →
    MeetsOne structs s value heap posts →
    (post : Post) × Contains posts post × MeetsPost structs s value heap post
MeetsOne-is structs s value heap [] meets = absurd meets
MeetsOne-is structs s value heap (post ∷ posts) (inl meets) = (post, Contains-first post posts, meets)
MeetsOne-is structs s value heap (post ∷ posts) (inr meets) =
    let later = MeetsOne-is structs s value heap posts meets in
    (later.0, Contains-later post posts later.0 later.1, later.2)

-- ---- one of more

pub MeetsNext-left : (structs : List StructDef) (s : ℕ → ℤ) (node : ℕ) (locals : List ℤ) (heap : List Cell)
    (nexts others : List (ℕ × SymState)) →
    MeetsNext structs s node locals heap nexts → MeetsNext structs s node locals heap (nexts ++ others)
MeetsNext-left structs s node locals heap [] others meets = absurd meets
MeetsNext-left structs s node locals heap (next ∷ nexts) others (inl meets) = inl meets
MeetsNext-left structs s node locals heap (next ∷ nexts) others (inr meets) =
    inr (MeetsNext-left structs s node locals heap nexts others meets)

pub MeetsNext-right : (structs : List StructDef) (s : ℕ → ℤ) (node : ℕ) (locals : List ℤ) (heap : List Cell)
    (nexts others : List (ℕ × SymState)) →
    MeetsNext structs s node locals heap others → MeetsNext structs s node locals heap (nexts ++ others)
MeetsNext-right structs s node locals heap [] others meets = meets
MeetsNext-right structs s node locals heap (next ∷ nexts) others meets = inr (MeetsNext-right structs s node locals heap nexts others meets)

pub MeetsOne-left : (structs : List StructDef) (s : ℕ → ℤ) (value : ℤ) (heap : List Cell) (posts others : List Post) →
    MeetsOne structs s value heap posts → MeetsOne structs s value heap (posts ++ others)
MeetsOne-left structs s value heap [] others meets = absurd meets
MeetsOne-left structs s value heap (post ∷ posts) others (inl meets) = inl meets
MeetsOne-left structs s value heap (post ∷ posts) others (inr meets) = inr (MeetsOne-left structs s value heap posts others meets)

pub MeetsOne-right : (structs : List StructDef) (s : ℕ → ℤ) (value : ℤ) (heap : List Cell) (posts others : List Post) →
    MeetsOne structs s value heap others → MeetsOne structs s value heap (posts ++ others)
MeetsOne-right structs s value heap [] others meets = meets
MeetsOne-right structs s value heap (post ∷ posts) others meets = inr (MeetsOne-right structs s value heap posts others meets)

-- ---- what leads where

pub state_leads_on : StateLeadsOn
state_leads_on structs state cases states leads each s locals heap meets =
    let one = MeetsSome-is structs s locals heap cases (leads s locals heap meets) in
    All-contains (λ case. StateLeads structs case states) cases one.0 each one.1 s locals heap one.2

pub post_leads_on : PostLeadsOn
post_leads_on structs post cases posts leads each s value heap meets =
    let one = MeetsOne-is structs s value heap cases (leads s value heap meets) in
    All-contains (λ case. PostLeads structs case posts) cases one.0 each one.1 s value heap one.2

listed_state : (structs : List StructDef) (s : ℕ → ℤ) (locals : List ℤ) (heap : List Cell) (states : List SymState) (state : SymState)
    (place : ℕ) →
    place < length states → slice_index_or states place state ≡ state → MeetsState structs s locals heap state →
    MeetsSome structs s locals heap states
listed_state structs s locals heap [] state place within is meets = absurd (omega arith)
listed_state structs s locals heap (first ∷ states) state zero within is meets = rw is (inl meets)
listed_state structs s locals heap (first ∷ states) state (suc place) within is meets =
    let inside : place < length states = omega arith in
    inr (listed_state structs s locals heap states state place inside is meets)

listed_post : (structs : List StructDef) (s : ℕ → ℤ) (value : ℤ) (heap : List Cell) (posts : List Post) (post : Post) (place : ℕ) →
    place < length posts → slice_index_or posts place post ≡ post → MeetsPost structs s value heap post →
    MeetsOne structs s value heap posts
listed_post structs s value heap [] post place within is meets = absurd (omega arith)
listed_post structs s value heap (first ∷ posts) post zero within is meets = rw is (inl meets)
listed_post structs s value heap (first ∷ posts) post (suc place) within is meets =
    let inside : place < length posts = omega arith in
    inr (listed_post structs s value heap posts post place inside is meets)

pub listed_state_leads : ListedStateLeads
listed_state_leads structs states state has s locals heap meets = listed_state structs s locals heap states state has.0 has.1 has.2 meets

pub listed_post_leads : ListedPostLeads
listed_post_leads structs posts post has s value heap meets = listed_post structs s value heap posts post has.0 has.1 has.2 meets

-- a list of one thing, of which something holds
pub of_one : {A : Type 0} (P : A → Type 0) (thing : A) → P thing → All P (thing ∷ [])
of_one P thing holds = All-cons P thing [] holds (All-nil P)

pub covered_state_leads : CoveredStateLeads
covered_state_leads structs states state form cover formed covered has =
    state_leads_on structs state (form ∷ []) states formed
    (of_one (λ case. StateLeads structs case states) form
    (state_leads_on structs form (cover ∷ []) states covered
    (of_one (λ case. StateLeads structs case states) cover (listed_state_leads structs states cover has))))

pub covered_post_leads : CoveredPostLeads
covered_post_leads structs posts post form cover formed covered has =
    post_leads_on structs post (form ∷ []) posts formed
    (of_one (λ case. PostLeads structs case posts) form
    (post_leads_on structs form (cover ∷ []) posts covered
    (of_one (λ case. PostLeads structs case posts) cover (listed_post_leads structs posts cover has))))

pub cases_do : CasesDo
cases_do program callees state cases command nexts exits leads each s locals heap meets =
    let one = MeetsSome-is program.structs s locals heap cases (leads s locals heap meets) in
    All-contains (λ case. RowIsSound program callees case command nexts exits) cases one.0 each one.1 s locals heap one.2

-- ---- what a command does, by more

module _ (At More : NodeAssertion) (Ends Leaves : ResultAssertion)
    (on_at : (node : ℕ) (locals : List ℤ) (heap : List Cell) → At node locals heap → More node locals heap)
    (on_end : (value : ℤ) (heap : List Cell) → Ends value heap → Leaves value heap) where
  pub Lands-weaker : (number : ℕ) (to : Stepped) → Lands At Ends number to → Lands More Leaves number to
  Lands-weaker number (stepped.On config) lands = (lands.0, lands.1, lands.2, on_at lands.0 lands.1 config.heap lands.3)
  Lands-weaker number (stepped.Returned value heap) lands = on_end value heap lands
  Lands-weaker number (stepped.Fault line cause) lands = lands
  Lands-weaker number stepped.BadChoice lands = lands

  module _ (program : Program) (callees : List Callee) (locals : List ℤ) (heap : List Cell) where
    lands_weaker : (number node line : ℕ) (choice : Choice) (command : Cmd) →
        Lands At Ends number (step_cmd program [] (alone number node locals) heap choice line command) →
        Lands More Leaves number (step_cmd program [] (alone number node locals) heap choice line command)
    lands_weaker number node line choice command lands =
        Lands-weaker number (step_cmd program [] (alone number node locals) heap choice line command) lands

    pub Does-weaker : (command : Cmd) → Does program callees At Ends locals heap command →
        Does program callees More Leaves locals heap command
    Does-weaker (cmd.Copy to from next) does =
        λ number node line choice. lands_weaker number node line choice (cmd.Copy to from next) (does number node line choice)
    Does-weaker (cmd.Arith to op left right next) does =
        λ number node line choice. lands_weaker number node line choice (cmd.Arith to op left right next) (does number node line choice)
    Does-weaker (cmd.Any to ty next) does =
        λ number node line choice. lands_weaker number node line choice (cmd.Any to ty next) (does number node line choice)
    Does-weaker (cmd.Load to base kind field next) does =
        λ number node line choice. lands_weaker number node line choice (cmd.Load to base kind field next) (does number node line choice)
    Does-weaker (cmd.Store base kind field from next) does =
        λ number node line choice. lands_weaker number node line choice (cmd.Store base kind field from next) (does number node line choice)
    Does-weaker (cmd.New to kind next) does =
        λ number node line choice. lands_weaker number node line choice (cmd.New to kind next) (does number node line choice)
    Does-weaker (cmd.Free base kind next) does =
        λ number node line choice. lands_weaker number node line choice (cmd.Free base kind next) (does number node line choice)
    Does-weaker (cmd.Call to name args next) does = record {
      callee = does.callee;
      is_callee = does.is_callee;
      is_named = does.is_named;
      spec = does.spec;
      is_spec = does.is_spec;
      s = does.s;
      arguments = does.arguments;
      lent = does.lent;
      kept = does.kept;
      sum = does.sum;
      pre = does.pre;
      back = λ value given whole sum meets. on_at next _ whole (does.back value given whole sum meets);
    }
    Does-weaker (cmd.Branch op pointers left right on_true on_false) does =
        λ number node line choice. lands_weaker number node line choice (cmd.Branch op pointers left right on_true on_false)
        (does number node line choice)
    Does-weaker (cmd.Return value) does =
        λ number node line choice. lands_weaker number node line choice (cmd.Return value) (does number node line choice)

pub row_may_weaken : RowMayWeaken
row_may_weaken program callees state command nexts others exits posts row on_next on_exit s locals heap meets =
    Does-weaker (NextIsMet program.structs s nexts) (NextIsMet program.structs s others) (PostIsMet program.structs s exits)
    (PostIsMet program.structs s posts)
    (on_next s) (on_exit s) program callees locals heap command (row s locals heap meets)
