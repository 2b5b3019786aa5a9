-- The certificate of the recursive procedure supports itself, and so its spec is valid.
use Rattle.std.specs.Prelude.{◌≡◌, ◌⊎◌, ℕ, zero, suc, ◌==◌, if◌then◌else◌, ℤ, pos, Bool, true, false, List, [], ◌∷◌, slice_get, slice_set}
use Rattle.std.specs.Prelude.{slice_index_or, All}
use Rattle.std.specs.declared.option.Option.TheVariants.{Some}
use Rattle.std.proofs.Common.{refl, ap, ◌∙◌, inl, inr, arith, lit<}
use Rattle.std.proofs.lemmas.Bool.{eqb-true}
use Rattle.std.proofs.lemmas.List.Elements.{All-cons, All-contains, All-nil}
use Rattle.shape_data.specs.declared.machine.Cell.{Cell}
use Rattle.shape_data.specs.declared.program.ArithOp.TheVariants.{Sub}
use Rattle.shape_data.specs.declared.program.Cmd.{Cmd}
use Rattle.shape_data.specs.declared.program.Cmd.TheVariants as cmd
use Rattle.shape_data.specs.declared.program.Node.{Node}
use Rattle.shape_data.specs.declared.program.Operand.TheVariants.{Slot, Num}
use Rattle.shape_data.specs.declared.program.TestOp.TheVariants as test
use Rattle.shape_data.specs.declared.symbolic.Cert.{Cert}
use Rattle.shape_data.specs.declared.symbolic.Exp.TheVariants.{Var, Const}
use Rattle.shape_data.specs.declared.symbolic.Post.{Post}
use Rattle.shape_data.specs.declared.symbolic.SymState.{SymState}
use Rattle.shape_data.specs.Heap.{IsSum}
use Rattle.shape_data.specs.Machine.{arith_value, go_to, operand_value, test_passes}
use Rattle.shape_data.specs.Meaning.{AgreesOnLogical, MeetsOne}
use Rattle.shape_data.specs.Valid.{Valid}
use Rattle.sym_parts.specs.Shapes.Examples.{on_line}
use Rattle.sym_parts.specs.Shapes.Symbolic.{emp}
use Rattle.sym_parts.proofs.ShapesLemmas.Sums.{IsHeap-empty, IsSum-unit, IsSum-empty_left}
use Rattle.sound_laws.specs.Certificates.{states_at, GoesOn, IsInductive, IsInductiveFor, IsSupported, Claim, IsClaimed, SupportEachOther}
use Rattle.sound_laws.specs.Commands.{alone, Lands}
use Rattle.sound_laws.specs.Examples.{bare, down_callees, down_cert, down_claims, down_flow, down_proc, down_program, down_spec}
use Rattle.sound_laws.specs.Leading.{MeetsNext, PostLeads, RowIsSound, StateLeads}
use Rattle.sound_laws.proofs.CertificateLemmas.{claimed_is_valid}
use Rattle.sound_laws.proofs.LeadingLemmas.{Contains-first, of_one}

-- under the assignment with another number for the first existential variable
abbrev with_first : (ℕ → ℤ) → ℤ → ℕ → ℤ
with_first t number x = if x == 65536 then number else t x

with_first-logical : (s t : ℕ → ℤ) (number : ℤ) → AgreesOnLogical s t → AgreesOnLogical s (with_first t number)
with_first-logical s t number agrees x below = by_test (x == 65536) refl
  where
    by_test : (b : Bool) → (x == 65536) ≡ b → (if b then number else t x) ≡ s x
    by_test true e = let same : x ≡ 65536 = eqb-true x 65536 e in absurd (omega arith)
    by_test false e = agrees x below

-- ---- the rows, node by node

abbrev at_start : SymState
at_start = bare (Var 0) (Const (pos 0)) (Const (pos 0))

abbrev at_call : SymState
at_call = bare (Var 0) (Var 65536) (Const (pos 0))

abbrev at_end : SymState
at_end = bare (Var 0) (Var 65536) (Const (pos 7))

abbrev seven : Post
seven = record { ret = Const (pos 7); heap = emp }

branch : RowIsSound down_program down_callees at_start (cmd.Branch test.Eq false (Slot 0) (Num (pos 0)) 1 2)
    ((1, at_start) ∷ (2, at_start) ∷ []) []
branch s locals heap meets number node line choice = by_test (test_passes test.Eq (operand_value locals (Slot 0)) (pos 0))
  where
    by_test : (b : Bool) →
        Lands (λ next locals heap. MeetsNext [] s next locals heap ((1, at_start) ∷ (2, at_start) ∷ []))
        (λ value heap. MeetsOne [] s value heap [])
        number (go_to [] (alone number node locals) heap (if b then 1 else 2))
    by_test true = (1, locals, refl, inl (refl, meets))
    by_test false = (2, locals, refl, inr (inl (refl, meets)))

return_seven : RowIsSound down_program down_callees at_start (cmd.Return (Num (pos 7))) [] (seven ∷ [])
return_seven s locals heap meets number node line choice = inl (meets.0, meets.1, refl, meets.3)

less_one : RowIsSound down_program down_callees at_start (cmd.Arith 1 Sub (Slot 0) (Num (pos 1)) 3) ((3, at_call) ∷ []) []
less_one s locals heap meets number node line choice =
    let less = arith_value Sub (operand_value locals (Slot 0)) (pos 1) in (
      3,
      _,
      refl,
      inl (
        refl,
        (
          with_first meets.0 less,
          with_first-logical s meets.0 less meets.1,
          ap (λ (values : List ℤ). slice_set values 1 less) meets.2,
          record { facts = tt; atoms = meets.3.atoms },
        ),
      ),
    )

call : RowIsSound down_program down_callees at_call (cmd.Call (Some 2) down_flow.name (Slot 1 ∷ []) 4) ((4, at_end) ∷ []) []
call s locals heap meets = record {
  callee = record { name = down_flow.name; params = down_flow.params; specs = down_spec ∷ [] };
  is_callee = Contains-first _ [];
  is_named = refl;
  spec = down_spec;
  is_spec = Contains-first down_spec [];
  s = λ x. meets.0 65536;
  arguments = ap (λ (values : List ℤ). slice_index_or values 1 (pos 0) ∷ []) meets.2;
  lent = [];
  kept = [];
  sum = rw meets.3.atoms (IsSum-unit (IsHeap-empty []));
  pre = ((λ x. meets.0 65536), (λ x below. refl), record { facts = tt; atoms = refl });
  back = λ value given whole sum returned. came_back value given whole sum returned;
}
  where
    came_back : (value : ℤ) (given whole : List Cell) → IsSum [] whole given [] →
        MeetsOne [] (λ x. meets.0 65536) value given down_spec.posts →
        MeetsNext [] s 4 (slice_set locals 2 value) whole ((4, at_end) ∷ [])
    came_back value given whole sum (inl returned) =
        let none : IsSum [] whole [] [] = rw returned.3.atoms at sum in
        inl (
          refl,
          (
            meets.0,
            meets.1,
            ap (λ (values : List ℤ). slice_set values 2 value) meets.2 ∙ ap (λ r. meets.0 0 ∷ meets.0 65536 ∷ r ∷ []) returned.2,
            record { facts = tt; atoms = IsSum-empty_left none },
          ),
        )
    came_back value given whole sum (inr never) = absurd never

return_result : RowIsSound down_program down_callees at_end (cmd.Return (Slot 2)) [] (seven ∷ [])
return_result s locals heap meets number node line choice =
    inl (meets.0, meets.1, ap (λ (values : List ℤ). slice_index_or values 2 (pos 0)) meets.2, meets.3)

-- ---- the certificate

-- one state leads to the list of it alone, and one post
state_stays : (state : SymState) → StateLeads [] state (state ∷ [])
state_stays state s locals heap meets = inl meets

post_stays : PostLeads [] seven (seven ∷ [])
post_stays s value heap meets = inl meets

-- a successor is the certificate's one state at its node
abbrev IsCovered : ℕ × SymState → Type 0
IsCovered next = StateLeads [] next.1 (states_at down_cert next.0)

goes : (command : Cmd) (state : SymState) (nexts : List (ℕ × SymState)) → All IsCovered nexts →
    RowIsSound down_program down_callees state command nexts [] → GoesOn down_program down_callees down_cert command state
goes command state nexts covered row =
    record { nexts = nexts; exits = []; executed = row; covered = covered; left = All-nil (λ exit. PostLeads [] exit down_cert.exits) }

leaves : (command : Cmd) (state : SymState) → RowIsSound down_program down_callees state command [] (seven ∷ []) →
    GoesOn down_program down_callees down_cert command state
leaves command state row = record {
  nexts = [];
  exits = seven ∷ [];
  executed = row;
  covered = All-nil IsCovered;
  left = of_one (λ exit. PostLeads [] exit down_cert.exits) seven post_stays;
}

-- the one state of a node with this command
at_node : (command : Cmd) (node : Node) (state : SymState) → Some (on_line 0 command) ≡ Some node →
    GoesOn down_program down_callees down_cert command state →
    All (GoesOn down_program down_callees down_cert node.cmd) (state ∷ [])
at_node command node state is goes =
    let same : on_line 0 command ≡ node = cc in
    rw (← same) (of_one (GoesOn down_program down_callees down_cert command) state goes)

states_go_on : (at : ℕ) (node : Node) → slice_get down_flow.nodes at ≡ Some node →
    All (GoesOn down_program down_callees down_cert node.cmd) (states_at down_cert at)
states_go_on zero node is =
    at_node _ node at_start is
    (goes _ at_start ((1, at_start) ∷ (2, at_start) ∷ [])
    (All-cons IsCovered (1, at_start) ((2, at_start) ∷ []) (state_stays at_start)
    (of_one IsCovered (2, at_start) (state_stays at_start))) branch)
states_go_on (suc zero) node is = at_node _ node at_start is (leaves _ at_start return_seven)
states_go_on (suc (suc zero)) node is =
    at_node _ node at_start is (goes _ at_start ((3, at_call) ∷ []) (of_one IsCovered (3, at_call) (state_stays at_call)) less_one)
states_go_on (suc (suc (suc zero))) node is =
    at_node _ node at_call is (goes _ at_call ((4, at_end) ∷ []) (of_one IsCovered (4, at_end) (state_stays at_end)) call)
states_go_on (suc (suc (suc (suc zero)))) node is = at_node _ node at_end is (leaves _ at_end return_result)
states_go_on (suc (suc (suc (suc (suc at))))) node is = cc

down_inductive : IsInductive down_program down_callees down_flow down_spec down_cert
down_inductive = record {
  entry = state_stays at_start;
  states = states_go_on;
  posts = of_one (λ exit. PostLeads [] exit down_spec.posts) seven post_stays;
}

-- ---- the claim, which its call uses

abbrev IsItsOwn : Claim → Type 0
IsItsOwn claim = IsInductiveFor down_program down_callees claim.number claim.spec claim.cert

pub down_supports_itself : SupportEachOther down_program down_callees (IsClaimed down_claims)
down_supports_itself = record {
  claims = λ number spec cert claimed.
      All-contains IsItsOwn down_claims (record { number = number; spec = spec; cert = cert }) (of_one IsItsOwn _ inductive_for) claimed;
  callees_supported = of_one (IsSupported down_program (IsClaimed down_claims)) _ supported;
}
  where
    inductive_for : IsInductiveFor down_program down_callees 0 down_spec down_cert
    inductive_for = record { proc = down_proc; is_proc = refl; logical = lit< tt; inductive = down_inductive }

    supported : IsSupported down_program (IsClaimed down_claims)
        (record { name = down_flow.name; params = down_flow.params; specs = down_spec ∷ [] })
    supported = record {
      number = 0;
      proc = down_proc;
      found = refl;
      params = refl;
      specs =
          of_one (λ spec. Valid down_program 0 spec ⊎ ((cert : Cert) × IsClaimed down_claims 0 spec cert)) down_spec
          (inr (down_cert, Contains-first _ []));
    }

pub down_is_valid : Valid down_program 0 down_spec
down_is_valid =
    claimed_is_valid down_program down_callees (IsClaimed down_claims) down_supports_itself 0 down_spec down_cert (Contains-first _ [])
