-- Only a `Return` leaves a procedure.
use Rattle.std.specs.Prelude.{ℕ, Bool, true, false, if◌then◌else◌, List, [], ◌∷◌, ◌++◌, filter_map, flat_map, map, slice_get, All}
use Rattle.std.specs.Str.{bytes_eq}
use Rattle.std.specs.declared.option.Option.{Option}
use Rattle.std.specs.declared.option.Option.TheVariants.{None, Some}
use Rattle.std.proofs.lemmas.List.Elements.{All-append, All-cons, All-nil}
use Rattle.shape_data.specs.declared.answer.Callee.{Callee}
use Rattle.shape_data.specs.declared.answer.Fault.TheVariants as fault
use Rattle.shape_data.specs.declared.program.Cmd.{Cmd}
use Rattle.shape_data.specs.declared.program.Cmd.TheVariants as cmd
use Rattle.shape_data.specs.declared.program.StructDef.{StructDef}
use Rattle.shape_data.specs.declared.program.TestOp.{TestOp}
use Rattle.shape_data.specs.declared.program.TestOp.TheVariants as test
use Rattle.shape_data.specs.declared.symbolic.Atom.{Atom}
use Rattle.shape_data.specs.declared.symbolic.Atom.TheVariants.{Points, Seg, Junk}
use Rattle.shape_data.specs.declared.symbolic.Exp.{Exp}
use Rattle.shape_data.specs.declared.symbolic.Exp.TheVariants.{Const}
use Rattle.shape_data.specs.declared.symbolic.Fact.{Fact}
use Rattle.shape_data.specs.declared.symbolic.Fact.TheVariants.{Eq, Ne}
use Rattle.shape_data.specs.declared.symbolic.Post.{Post}
use Rattle.shape_data.specs.Heap.{struct_named}
use Rattle.std.specs.Prelude.{pos}
use Rattle.sym_parts.specs.Laws.Expressions.{same_exp}
use Rattle.sym_canon.specs.declared.parts.Pair.{Pair}
use Rattle.sym_pure.specs.Sources.{differs}
use Rattle.exec_laws.specs.declared.parts.Case.{Case}
use Rattle.exec_laws.specs.declared.parts.Case.TheVariants.{On, Leaves, Drops}
use Rattle.exec_laws.specs.declared.parts.Exposed.{Exposed}
use Rattle.exec_laws.specs.declared.parts.Exposed.TheVariants.{Shown, Lacking}
use Rattle.exec_laws.specs.declared.parts.Mode.{Mode}
use Rattle.exec_laws.specs.declared.parts.Mode.TheVariants.{Strict, Search}
use Rattle.exec_laws.specs.Branching.{are_equal, branch_equal, branch_on, branch_other, branch_unequal, passes, where_test_is}
use Rattle.exec_laws.specs.Calling.{Fit, after_fit, after_found, after_post, call_of, call_with, callee_of, first_subtracted, found, is_cut}
use Rattle.exec_laws.specs.Calling.{without_fit}
use Rattle.exec_laws.specs.Cells.{at_place, cell_place, for_each_case, free_at, free_cell, free_null, goes_on, in_case, load_cell}
use Rattle.exec_laws.specs.Cells.{load_fields, new_struct, store_cell, store_fields, with_fields, without_cell}
use Rattle.exec_laws.specs.Execution.{cases_of}
use Rattle.exec_laws.specs.Exposing.{expose}
use Rattle.exec_laws.specs.Pairs.{Setting, atoms_of, in_slot, unless_left_out, where_true, where_true_in_state, with_slot}
use Rattle.exec_laws.specs.Values.{operand}

-- the case does not leave
abbrev pub GoesOn : Case → Type 0
GoesOn (On node pair) = Unit {0}
GoesOn (Leaves pair) = ⊥
GoesOn (Drops cause) = Unit {0}

-- the command is no Return
abbrev pub IsNoReturn : Cmd → Type 0
IsNoReturn (cmd.Return value) = ⊥
IsNoReturn _ = Unit {0}

one : (case : Case) → GoesOn case → All GoesOn (case ∷ [])
one case goes = All-cons GoesOn case [] goes (All-nil GoesOn)

left_out : (go_on : Pair → List Case) → ((pair : Pair) → All GoesOn (go_on pair)) → (o : Option Pair) → All GoesOn (unless_left_out go_on o)
left_out go_on each None = All-nil GoesOn
left_out go_on each (Some pair) = each pair

next-goes : (next : ℕ) (o : Option Pair) → All GoesOn (goes_on next o)
next-goes next None = All-nil GoesOn
next-goes next (Some pair) = one (On next pair) tt

-- ---- the commands on cells

fields-go : (kind : List ℕ) (use_fields : Exp → List Exp → Case) → ((at : Exp) (fields : List Exp) → GoesOn (use_fields at fields)) →
    (e : Exp) (cell : Option Atom) →
    GoesOn (with_fields kind use_fields e cell)
fields-go kind use_fields each e None = tt
fields-go kind use_fields each e (Some (Points at other fields)) = by_kind (bytes_eq other kind)
  where
    by_kind : (b : Bool) → GoesOn (if b then use_fields at fields else Drops fault.Kind)
    by_kind true = each at fields
    by_kind false = tt
fields-go kind use_fields each e (Some (Seg other link from to)) = tt
fields-go kind use_fields each e (Some Junk) = tt

place-goes : (use_atom : ℕ → Option Atom → Case) → ((place : ℕ) (atom : Option Atom) → GoesOn (use_atom place atom)) →
    (slot : ℕ) (pair : Pair) (place : Option ℕ) →
    GoesOn (at_place use_atom slot pair place)
place-goes use_atom each slot pair None = tt
place-goes use_atom each slot pair (Some place) = each place (slice_get (atoms_of pair) place)

case-goes : (use_atom : Pair → ℕ → Option Atom → Case) →
    ((pair : Pair) (place : ℕ) (atom : Option Atom) → GoesOn (use_atom pair place atom)) → (slot : ℕ) (exposed : Exposed) →
    GoesOn (in_case use_atom slot exposed)
case-goes use_atom each slot (Shown pair) = place-goes (use_atom pair) (each pair) slot pair (cell_place slot pair)
case-goes use_atom each slot (Lacking cause) = tt

each-goes : (use_atom : Pair → ℕ → Option Atom → Case) →
    ((pair : Pair) (place : ℕ) (atom : Option Atom) → GoesOn (use_atom pair place atom)) → (slot : ℕ) (cases : List Exposed) →
    All GoesOn (for_each_case use_atom slot cases)
each-goes use_atom each slot [] = All-nil GoesOn
each-goes use_atom each slot (exposed ∷ cases) =
    All-cons GoesOn (in_case use_atom slot exposed) (for_each_case use_atom slot cases) (case-goes use_atom each slot exposed)
    (each-goes use_atom each slot cases)

struct-goes : (to : ℕ) (kind : List ℕ) (next : ℕ) (pair : Pair) (def : Option StructDef) → GoesOn (new_struct to kind next pair def)
struct-goes to kind next pair None = tt
struct-goes to kind next pair (Some def) = tt

free-goes : (setting : Setting) (base : ℕ) (kind : List ℕ) (e : Exp) (next : ℕ) (pair : Pair) →
    All GoesOn (free_at setting base kind e next pair)
free-goes setting base kind e next pair = by_null (same_exp e (Const (pos 0)))
  where
    by_differs : (b : Bool) → All GoesOn (if b then [] else goes_on next (where_true setting (Eq e (Const (pos 0))) pair))
    by_differs true = All-nil GoesOn
    by_differs false = next-goes next (where_true setting (Eq e (Const (pos 0))) pair)

    cell : All GoesOn (free_cell setting base kind e next pair)
    cell =
        left_out (λ apart. for_each_case (without_cell next) base (expose setting kind base apart))
        (λ apart. each-goes (without_cell next) (λ other place atom. tt) base
        (expose setting kind base apart)) (where_true setting (Ne e (Const (pos 0))) pair)

    by_null : (b : Bool) →
        All GoesOn (if b then On next pair ∷ [] else free_null setting e next pair ++ free_cell setting base kind e next pair)
    by_null true = one (On next pair) tt
    by_null false =
        All-append GoesOn (free_null setting e next pair) (free_cell setting base kind e next pair)
        (by_differs (differs pair.state.heap e (Const (pos 0)))) cell

-- ---- branches

test-goes : (setting : Setting) (pointers : Bool) (fact : Fact) (next : ℕ) (pair : Pair) →
    All GoesOn (where_test_is setting pointers fact next pair)
test-goes setting true fact next pair = next-goes next (where_true setting fact pair)
test-goes setting false fact next pair = next-goes next (where_true_in_state setting fact pair)

equal-goes : (setting : Setting) (pointers : Bool) (e f : Exp) (on_true on_false : ℕ) (pair : Pair) (o : Option Bool) →
    All GoesOn (branch_equal setting pointers e f on_true on_false pair o)
equal-goes setting pointers e f on_true on_false pair None =
    All-append GoesOn (where_test_is setting pointers (Eq e f) on_true pair) (where_test_is setting pointers (Ne e f) on_false pair)
    (test-goes setting pointers (Eq e f) on_true pair)
    (test-goes setting pointers (Ne e f) on_false pair)
equal-goes setting pointers e f on_true on_false pair (Some equal) = one (On (if equal then on_true else on_false) pair) tt

unequal-goes : (setting : Setting) (pointers : Bool) (e f : Exp) (on_true on_false : ℕ) (pair : Pair) (o : Option Bool) →
    All GoesOn (branch_unequal setting pointers e f on_true on_false pair o)
unequal-goes setting pointers e f on_true on_false pair None =
    All-append GoesOn (where_test_is setting pointers (Ne e f) on_true pair) (where_test_is setting pointers (Eq e f) on_false pair)
    (test-goes setting pointers (Ne e f) on_true pair)
    (test-goes setting pointers (Eq e f) on_false pair)
unequal-goes setting pointers e f on_true on_false pair (Some equal) = one (On (if equal then on_false else on_true) pair) tt

other-goes : (on_true on_false : ℕ) (pair : Pair) (o : Option Bool) → All GoesOn (branch_other on_true on_false pair o)
other-goes on_true on_false pair None = All-cons GoesOn (On on_true pair) (On on_false pair ∷ []) tt (one (On on_false pair) tt)
other-goes on_true on_false pair (Some passed) = one (On (if passed then on_true else on_false) pair) tt

branch-goes : (setting : Setting) (op : TestOp) (pointers : Bool) (e f : Exp) (on_true on_false : ℕ) (pair : Pair) →
    All GoesOn (branch_on setting op pointers e f on_true on_false pair)
branch-goes setting test.Eq pointers e f on_true on_false pair =
    equal-goes setting pointers e f on_true on_false pair (are_equal pair.state.heap e f)
branch-goes setting test.Ne pointers e f on_true on_false pair =
    unequal-goes setting pointers e f on_true on_false pair (are_equal pair.state.heap e f)
branch-goes setting test.Lt pointers e f on_true on_false pair = other-goes on_true on_false pair (passes test.Lt e f)
branch-goes setting test.Le pointers e f on_true on_false pair = other-goes on_true on_false pair (passes test.Le e f)
branch-goes setting test.Gt pointers e f on_true on_false pair = other-goes on_true on_false pair (passes test.Gt e f)
branch-goes setting test.Ge pointers e f on_true on_false pair = other-goes on_true on_false pair (passes test.Ge e f)

-- ---- calls

module _ (setting : Setting) (to : Option ℕ) (next : ℕ) (args : List Exp) (pair : Pair) where
  posts-go : (fit : Fit) (posts : List Post) → All GoesOn (map (after_post to next pair fit) posts)
  posts-go fit [] = All-nil GoesOn
  posts-go fit (post ∷ posts) =
      All-cons GoesOn (after_post to next pair fit post) (map (after_post to next pair fit) posts) tt (posts-go fit posts)

  fits-go : (fits : List Fit) → All GoesOn (flat_map (after_fit to next pair) fits)
  fits-go [] = All-nil GoesOn
  fits-go (fit ∷ fits) =
      All-append GoesOn (after_fit to next pair fit) (flat_map (after_fit to next pair) fits) (posts-go fit fit.posts) (fits-go fits)

  found-goes : (fits : List Fit) → All GoesOn (after_found to next pair fits)
  found-goes [] = one (Drops fault.Callee) tt
  found-goes (fit ∷ fits) = fits-go (fit ∷ fits)

  without-goes : (mode : Mode) (cut : Bool) (callee : Callee) → All GoesOn (without_fit mode setting cut to next args pair callee)
  without-goes Strict true callee = All-nil GoesOn
  without-goes Strict false callee = one (Drops fault.Callee) tt
  without-goes Search cut callee = found-goes (filter_map (found setting args pair) callee.specs)

  with-goes : (cut : Bool) (callee : Callee) (o : Option Fit) → All GoesOn (call_with setting cut to next args pair callee o)
  with-goes cut callee None = without-goes setting.mode cut callee
  with-goes cut callee (Some fit) = posts-go fit fit.posts

  call-goes : (cut : Bool) (o : Option Callee) → All GoesOn (call_of setting cut to next args pair o)
  call-goes cut None = one (Drops fault.Callee) tt
  call-goes cut (Some callee) = with-goes cut callee (first_subtracted args pair callee.specs)

-- ---- all commands

pub no_return_goes_on : (setting : Setting) (pair : Pair) (command : Cmd) → IsNoReturn command → All GoesOn (cases_of setting pair command)
no_return_goes_on setting pair (cmd.Copy to from next) stays = one (On next (with_slot to (operand pair from) pair)) tt
no_return_goes_on setting pair (cmd.Arith to op left right next) stays = All-cons GoesOn _ [] tt (All-nil GoesOn)
no_return_goes_on setting pair (cmd.Any to ty next) stays = All-cons GoesOn _ [] tt (All-nil GoesOn)
no_return_goes_on setting pair (cmd.Load to base kind field next) stays =
    each-goes (load_cell to base kind field next)
    (λ other place cell. fields-go kind (load_fields to field next other) (λ at fields. tt) (in_slot other base) cell) base
    (expose setting kind base pair)
no_return_goes_on setting pair (cmd.Store base kind field from next) stays =
    each-goes (store_cell base kind field from next)
    (λ other place cell. fields-go kind (store_fields kind field from next other place) (λ at fields. tt)
    (in_slot other base) cell) base (expose setting kind base pair)
no_return_goes_on setting pair (cmd.New to kind next) stays =
    All-cons GoesOn (On next (with_slot to (Const (pos 0)) pair)) (new_struct to kind next pair (struct_named setting.structs kind) ∷ []) tt
    (one (new_struct to kind next pair (struct_named setting.structs kind))
    (struct-goes to kind next pair (struct_named setting.structs kind)))
no_return_goes_on setting pair (cmd.Free base kind next) stays = free-goes setting base kind (in_slot pair base) next pair
no_return_goes_on setting pair (cmd.Call to callee args next) stays =
    call-goes setting to next (map (operand pair) args) pair (is_cut setting.table callee) (callee_of setting.table callee)
no_return_goes_on setting pair (cmd.Branch op pointers left right on_true on_false) stays =
    branch-goes setting op pointers (operand pair left) (operand pair right) on_true on_false pair
no_return_goes_on setting pair (cmd.Return value) stays = absurd stays
