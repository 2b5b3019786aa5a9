-- Where states and posts lead, said by what meets them alone. Covering, abstraction, normal and canonical form, and the cases of
-- an unfolding are all of this one kind: what meets the one meets one of the others.
use Rattle.std.specs.Prelude.{◌≡◌, ◌⊎◌, ℕ, ℤ, List, [], ◌∷◌, All, Contains}
use Rattle.shape_data.specs.declared.answer.Callee.{Callee}
use Rattle.shape_data.specs.declared.machine.Cell.{Cell}
use Rattle.shape_data.specs.declared.program.Cmd.{Cmd}
use Rattle.shape_data.specs.declared.program.Program.{Program}
use Rattle.shape_data.specs.declared.program.StructDef.{StructDef}
use Rattle.shape_data.specs.declared.symbolic.Post.{Post}
use Rattle.shape_data.specs.declared.symbolic.SymState.{SymState}
use Rattle.shape_data.specs.Meaning.{MeetsOne, MeetsPost, MeetsState}
use Rattle.sound_laws.specs.Commands.{Does, NodeAssertion, ResultAssertion}

-- locals and a heap meet one of the states
abbrev pub MeetsSome : List StructDef → (ℕ → ℤ) → List ℤ → List Cell → List SymState → Type 0
MeetsSome structs s locals heap [] = ⊥
MeetsSome structs s locals heap (state ∷ states) = MeetsState structs s locals heap state ⊎ MeetsSome structs s locals heap states

-- locals and a heap at a node meet one of the successors, which are states with their nodes
abbrev pub MeetsNext : List StructDef → (ℕ → ℤ) → ℕ → List ℤ → List Cell → List (ℕ × SymState) → Type 0
MeetsNext structs s node locals heap [] = ⊥
MeetsNext structs s node locals heap (next ∷ nexts) =
    ((next.0 ≡ node) × MeetsState structs s locals heap next.1) ⊎ MeetsNext structs s node locals heap nexts

-- the assertion that one of the successors is met
abbrev pub NextIsMet : List StructDef → (ℕ → ℤ) → List (ℕ × SymState) → NodeAssertion
NextIsMet structs s nexts node locals heap = MeetsNext structs s node locals heap nexts

-- the assertion that one of the posts is met
abbrev pub PostIsMet : List StructDef → (ℕ → ℤ) → List Post → ResultAssertion
PostIsMet structs s posts value heap = MeetsOne structs s value heap posts

-- what meets the state meets one of the others
abbrev pub StateLeads : List StructDef → SymState → List SymState → Type 0
StateLeads structs state states =
    (s : ℕ → ℤ) (locals : List ℤ) (heap : List Cell) → MeetsState structs s locals heap state →
    MeetsSome structs s locals heap states

-- what meets the post meets one of the others
abbrev pub PostLeads : List StructDef → Post → List Post → Type 0
PostLeads structs post posts =
    (s : ℕ → ℤ) (value : ℤ) (heap : List Cell) → MeetsPost structs s value heap post → MeetsOne structs s value heap posts

-- what meets one of the successors at its node meets one of the others there
abbrev pub NextsLead : List StructDef → List (ℕ × SymState) → List (ℕ × SymState) → Type 0
NextsLead structs nexts others =
    (s : ℕ → ℤ) (node : ℕ) (locals : List ℤ) (heap : List Cell) → MeetsNext structs s node locals heap nexts →
    MeetsNext structs s node locals heap others

-- what meets one of the posts meets one of the others
abbrev pub PostsLead : List StructDef → List Post → List Post → Type 0
PostsLead structs posts others =
    (s : ℕ → ℤ) (value : ℤ) (heap : List Cell) → MeetsOne structs s value heap posts → MeetsOne structs s value heap others

-- a row of execution is sound: from what meets the state, the command leads to what meets one of the successors at its node, or
-- one of the exits. (The law of execution says this of each program whose structures contain those of the call.)
abbrev pub RowIsSound : Program → List Callee → SymState → Cmd → List (ℕ × SymState) → List Post → Type 0
RowIsSound program callees state command nexts exits =
    (s : ℕ → ℤ) (locals : List ℤ) (heap : List Cell) → MeetsState program.structs s locals heap state →
    Does program callees (NextIsMet program.structs s nexts) (PostIsMet program.structs s exits) locals heap command

-- LAWS

-- a state leads to those that its cases lead to
abbrev pub StateLeadsOn : Type 0
StateLeadsOn =
    (structs : List StructDef) (state : SymState) (cases states : List SymState) → StateLeads structs state cases →
    All (λ case. StateLeads structs case states) cases → StateLeads structs state states

-- a post leads to those that its cases lead to
abbrev pub PostLeadsOn : Type 0
PostLeadsOn =
    (structs : List StructDef) (post : Post) (cases posts : List Post) → PostLeads structs post cases →
    All (λ case. PostLeads structs case posts) cases → PostLeads structs post posts

-- a state leads to each list that has it
abbrev pub ListedStateLeads : Type 0
ListedStateLeads =
    (structs : List StructDef) (states : List SymState) (state : SymState) → Contains states state → StateLeads structs state states

-- a post leads to each list that has it
abbrev pub ListedPostLeads : Type 0
ListedPostLeads =
    (structs : List StructDef) (posts : List Post) (post : Post) → Contains posts post → PostLeads structs post posts

-- a state leads to a list of states where it leads to a form of it (a normal form, an abstraction) that one of them covers
abbrev pub CoveredStateLeads : Type 0
CoveredStateLeads =
    (structs : List StructDef) (states : List SymState) (state form cover : SymState) → StateLeads structs state (form ∷ []) →
    StateLeads structs form (cover ∷ []) → Contains states cover → StateLeads structs state states

-- a post leads to a list of posts where it leads to a form of it that one of them covers
abbrev pub CoveredPostLeads : Type 0
CoveredPostLeads =
    (structs : List StructDef) (posts : List Post) (post form cover : Post) → PostLeads structs post (form ∷ []) →
    PostLeads structs form (cover ∷ []) → Contains posts cover → PostLeads structs post posts

-- a row is sound of a state where it is sound of each of its cases. (So a contradiction, which has no case, does anything.)
abbrev pub CasesDo : Type 0
CasesDo =
    (program : Program) (callees : List Callee) (state : SymState) (cases : List SymState)
    (command : Cmd) (nexts : List (ℕ × SymState)) (exits : List Post) →
    StateLeads program.structs state cases → All (λ case. RowIsSound program callees case command nexts exits) cases →
    RowIsSound program callees state command nexts exits

-- a row stays sound with other successors and exits that are met wherever its own are
abbrev pub RowMayWeaken : Type 0
RowMayWeaken =
    (program : Program) (callees : List Callee) (state : SymState) (command : Cmd) (nexts others : List (ℕ × SymState))
    (exits posts : List Post) →
    RowIsSound program callees state command nexts exits → NextsLead program.structs nexts others → PostsLead program.structs exits posts →
    RowIsSound program callees state command others posts
