-- Laws of the canonical form: it keeps the meaning.
use Rattle.std.specs.Prelude.{◌≡◌, ◌↔◌, ℕ, ◌+◌, ◌<◌, ◌≤◌, ℤ, Bool, true, not, ◌&&◌, List, [], ◌∷◌, length}
use Rattle.std.specs.List.{list_all}
use Rattle.shape_data.specs.declared.machine.Cell.{Cell}
use Rattle.shape_data.specs.declared.program.StructDef.{StructDef}
use Rattle.shape_data.specs.declared.symbolic.Atom.{Atom}
use Rattle.shape_data.specs.declared.symbolic.Exp.{Exp}
use Rattle.shape_data.specs.declared.symbolic.Fact.{Fact}
use Rattle.shape_data.specs.declared.symbolic.Post.{Post}
use Rattle.shape_data.specs.declared.symbolic.SymHeap.{SymHeap}
use Rattle.shape_data.specs.declared.symbolic.SymState.{SymState}
use Rattle.shape_data.specs.Meaning.{Meets, MeetsState, MeetsPost}
use Rattle.sym_canon.specs.Canonical.{canon_state, canon_post, canon_pair}
use Rattle.sym_canon.specs.FactOrder.{is_fact_before, sorted_facts}
use Rattle.sym_canon.specs.Placing.{place}

-- the same locals and heaps meet a state and its canonical form, under each assignment to the logical variables
abbrev pub CanonStateKeepsMeaning : Type 0
CanonStateKeepsMeaning =
    (state : SymState) (params : ℕ) (structs : List StructDef) (s : ℕ → ℤ) (locals : List ℤ) (heap : List Cell) →
    MeetsState structs s locals heap state ↔ MeetsState structs s locals heap (canon_state state params)

-- the same results and heaps meet a post and its canonical form
abbrev pub CanonPostKeepsMeaning : Type 0
CanonPostKeepsMeaning =
    (post : Post) (params : ℕ) (structs : List StructDef) (s : ℕ → ℤ) (ret : ℤ) (heap : List Cell) →
    MeetsPost structs s ret heap post ↔ MeetsPost structs s ret heap (canon_post post params)

-- other numbers for the logical variables that are no parameters: an exchange among these
pub record IsRenumbering (params : ℕ) (number back : ℕ → ℕ) : Type 0 where
  pub undone : (x : ℕ) → back (number x) ≡ x
  pub redone : (x : ℕ) → number (back x) ≡ x
  pub keeps_parameters : (x : ℕ) → x < params → number x ≡ x
  pub keeps_existential : (x : ℕ) → 65536 ≤ x → number x ≡ x
  pub stays_logical : (x : ℕ) → x < 65536 → number x < 65536

-- the pair's canonical form means the same, where each logical variable has the value that its new number has: one
-- renumbering serves both parts
pub record MeansTheSameRenumbered (lacking : SymHeap) (given : SymState) (params : ℕ) : Type 0 where
  pub number : ℕ → ℕ
  pub back : ℕ → ℕ
  pub renumbers : IsRenumbering params number back
  pub missing : (structs : List StructDef) (s : ℕ → ℤ) (heap : List Cell) →
      Meets structs (λ x. s (number x)) heap lacking ↔ Meets structs s heap (canon_pair lacking given params).missing
  pub state : (structs : List StructDef) (s : ℕ → ℤ) (locals : List ℤ) (heap : List Cell) →
      MeetsState structs (λ x. s (number x)) locals heap given ↔ MeetsState structs s locals heap (canon_pair lacking given params).state

abbrev pub CanonPairKeepsMeaning : Type 0
CanonPairKeepsMeaning = (missing : SymHeap) (state : SymState) (params : ℕ) → MeansTheSameRenumbered missing state params

-- as many turns of placing as there are atoms are enough: more change nothing
abbrev pub MoreTurnsChangeNothing : Type 0
MoreTurnsChangeNothing = (more : ℕ) (queue : List Exp) (left : List Atom) →
    place (length left + more) queue left ≡ place (length left) queue left

-- no fact comes before one that stands in front of it
abbrev pub are_in_order : List Fact → Bool
are_in_order [] = true
are_in_order (fact ∷ facts) = list_all (λ later. not (is_fact_before later fact)) facts && are_in_order facts

-- sorted facts are in order
abbrev pub FactsAreInOrder : Type 0
FactsAreInOrder = (facts : List Fact) → are_in_order (sorted_facts facts) ≡ true
