-- The laws of inductive answers: they have no gap, and are sound.
use Rattle.std.specs.Prelude.{◌≡◌, ◌↔◌, ℕ, true, List, All}
use Rattle.std.specs.declared.option.Option.TheVariants.{None}
use Rattle.shape_data.specs.declared.answer.Answer.{Answer}
use Rattle.shape_data.specs.declared.answer.Key.{Key}
use Rattle.shape_data.specs.declared.program.Program.{Program}
use Rattle.shape_data.specs.declared.symbolic.Cert.{Cert}
use Rattle.shape_data.specs.declared.symbolic.Post.{Post}
use Rattle.shape_data.specs.declared.symbolic.Spec.{Spec}
use Rattle.shape_data.specs.declared.symbolic.SymState.{SymState}
use Rattle.shape_data.specs.Structures.{ContainsStructures}
use Rattle.shape_data.specs.WellFormed.{IsAnswer, IsKey, widest}
use Rattle.sym_matching.specs.Covers.{PostCovers, StateCovers}
use Rattle.sound_laws.specs.Answers.{AreValidIn, StandAt, StandsIn}
use Rattle.sound_laws.specs.BottomUp.{IsAnsweredBefore}
use Rattle.sound_laws.specs.Procedures.{HasFlow}
use Rattle.solve_laws.specs.Certificates.Coming.{Task}
use Rattle.solve_laws.specs.Certificates.Coverings.{IsCovered, IsPostCovered, covers_post, covers_state, is_covered, is_post_covered}
use Rattle.solve_laws.specs.Certificates.Gaps.{first_gap, spec_gap}
use Rattle.solve_laws.specs.Certificates.Inductive.{Inductive, IsInductiveCert}

-- THE TESTS

-- the test of a covering answers whether it is one
abbrev pub StateTestIsExact : Type 0
StateTestIsExact = (b a : SymState) → (covers_state b a ≡ true) ↔ StateCovers b a

abbrev pub PostTestIsExact : Type 0
PostTestIsExact = (b a : Post) → (covers_post b a ≡ true) ↔ PostCovers b a

-- so does the test whether one of a list covers
abbrev pub StatesTestIsExact : Type 0
StatesTestIsExact = (states : List SymState) (state : SymState) → (is_covered states state ≡ true) ↔ IsCovered states state

abbrev pub PostsTestIsExact : Type 0
PostsTestIsExact = (posts : List Post) (post : Post) → (is_post_covered posts post ≡ true) ↔ IsPostCovered posts post

-- a certificate has no gap exactly where it is inductive
abbrev pub NoSpecGap : Type 0
NoSpecGap = (task : Task) (spec : Spec) (cert : Cert) → (spec_gap task spec cert ≡ None) ↔ IsInductiveCert task spec cert

-- an answer that is well formed has no gap exactly where it is inductive
abbrev pub NoGap : Type 0
NoGap =
    (key : Key) (answer : Answer) → IsKey widest key → IsAnswer widest key answer → (first_gap key answer ≡ None) ↔ Inductive key answer

-- SOUNDNESS

-- each spec of an inductive answer is valid for its procedure, in every program in which the key stands: which has the key's
-- structures, its procedures under their names, and its callees with their parameters and valid specs
abbrev pub InductiveIsValid : Type 0
InductiveIsValid = (program : Program) (key : Key) (answer : Answer) → StandsIn program key → Inductive key answer →
    AreValidIn program key answer

-- UP THE COMPONENTS

-- the key at a place has structures and procedures of the program, its answer is inductive, and its callees are procedures of
-- earlier keys, with specs that their answers have
pub record IsInductiveAt (program : Program) (keys : List Key) (answers : List Answer) (at : ℕ) (key : Key) (answer : Answer) : Type 0 where
  pub structs : ContainsStructures program.structs key.structs
  pub flows : All (HasFlow program) key.procs
  pub inductive : Inductive key answer
  pub callees : All (IsAnsweredBefore keys answers at) key.callees

-- keys and their answers stand bottom-up, and each answer is inductive
abbrev pub AreInductive : Program → List Key → List Answer → Type 0
AreInductive program keys answers =
    (at : ℕ) (key : Key) (answer : Answer) → StandAt keys answers at key answer → IsInductiveAt program keys answers at key answer

-- then all specs of all answers are valid: nothing is assumed of any of them
abbrev pub AllAreValid : Type 0
AllAreValid =
    (program : Program) (keys : List Key) (answers : List Answer) → AreInductive program keys answers →
    (at : ℕ) (key : Key) (answer : Answer) → StandAt keys answers at key answer → AreValidIn program key answer
