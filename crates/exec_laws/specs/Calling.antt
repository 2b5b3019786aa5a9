-- The row of Call: the first spec of the callee whose precondition is subtracted, its parameters bound to the arguments and its
-- other variables flexible: for each post, frame and post together, the post's existential variables new, the result in its
-- slot. None: in a cut table and a callee of the component no state; else the path is dropped.
-- In the search, where no spec is subtracted, every spec that is found by abduction, its missing part added to the missing
-- heap, unless that becomes a contradiction. None: the path is dropped, in a cut table too.
use Rattle.std.specs.Prelude.{ℕ, Bool, ◌&&◌, if◌then◌else◌, List, [], ◌∷◌, flat_map, map, slice_set}
use Rattle.std.specs.List.{filter_map, find}
use Rattle.std.specs.Option.{is_some, option_or}
use Rattle.std.specs.Str.{bytes_eq}
use Rattle.std.specs.declared.option.Option.{Option}
use Rattle.std.specs.declared.option.Option.TheVariants.{None, Some}
use Rattle.shape_data.specs.declared.answer.Callee.{Callee}
use Rattle.shape_data.specs.declared.answer.Fault.TheVariants as fault
use Rattle.shape_data.specs.declared.program.Operand.{Operand}
use Rattle.shape_data.specs.declared.symbolic.Exp.{Exp}
use Rattle.shape_data.specs.declared.symbolic.Post.{Post}
use Rattle.shape_data.specs.declared.symbolic.Spec.{Spec}
use Rattle.shape_data.specs.declared.symbolic.SymHeap.{SymHeap}
use Rattle.shape_data.specs.declared.symbolic.SymState.{SymState}
use Rattle.sym_parts.specs.Shapes.Symbolic.{beside}
use Rattle.sym_canon.specs.declared.parts.Pair.{Pair}
use Rattle.sym_matching.specs.declared.matching.Abd.{Abd}
use Rattle.sym_matching.specs.declared.matching.Abd.TheVariants as abd
use Rattle.sym_matching.specs.declared.matching.Sub.{Sub}
use Rattle.sym_matching.specs.declared.matching.Sub.TheVariants as sub
use Rattle.sym_matching.specs.Matches.{biabduce_avoiding, subtract_avoiding}
use Rattle.sym_matching.specs.Steps.{contradicts}
use Rattle.sym_matching.specs.Variables.{with_heap}
use Rattle.sym_matching.specs.declared.renaming.parts.CalledPre.{CalledPre}
use Rattle.sym_matching.specs.declared.renaming.parts.Numbers.{Numbers}
use Rattle.sym_matching.specs.Renaming.Calls.{called_with, post_in_caller}
use Rattle.exec_laws.specs.declared.parts.Case.{Case}
use Rattle.exec_laws.specs.declared.parts.Case.TheVariants.{On, Drops}
use Rattle.exec_laws.specs.declared.parts.Mode.{Mode}
use Rattle.exec_laws.specs.declared.parts.Mode.TheVariants.{Strict, Search}
use Rattle.exec_laws.specs.declared.parts.Table.{Table}
use Rattle.exec_laws.specs.Pairs.{Setting, new_logical, pair_variables, with_pair}
use Rattle.exec_laws.specs.Values.{operand}

-- THE CALLEE

-- the callee of a name
abbrev pub callee_named : List Callee → List ℕ → Option Callee
callee_named callees name = find (λ callee. bytes_eq callee.name name) callees

-- the callee of a name in the table, the component's own first
abbrev pub callee_of : Table → List ℕ → Option Callee
callee_of table name = option_or (callee_named table.own name) (callee_named table.outer name)

-- the table is cut, and the callee is of the component
abbrev pub is_cut : Table → List ℕ → Bool
is_cut table name = table.cut && is_some (callee_named table.own name)

-- A SPEC THAT FITS

-- how a spec fits: the missing heap with what is missing for its precondition, what is left beside it, what its variables in
-- their new numbers are bound to, and its posts
pub record Fit : Type 0 where
  pub missing : SymHeap
  pub frame : SymHeap
  pub apart : Numbers
  pub binding : List (ℕ × Exp)
  pub posts : List Post

-- a spec whose precondition is subtracted
abbrev pub fit_of_sub : Pair → Spec → Numbers → Sub → Option Fit
fit_of_sub pair spec apart (sub.Match frame binding) =
    Some (record { missing = pair.missing; frame = frame; apart = apart; binding = binding; posts = spec.posts })
fit_of_sub pair spec apart (sub.NoMatch wanted) = None

abbrev pub subtracted_by : CalledPre → Pair → Spec → Option Fit
subtracted_by called pair spec =
    fit_of_sub pair spec called.numbers (subtract_avoiding pair.state.heap called.pre called.bound called.flexible (pair_variables pair))

-- its variables have numbers of their own, that stand nowhere in the pair; the parameters, one for each argument, are bound to the
-- arguments, and the others are flexible
abbrev pub subtracted : List Exp → Pair → Spec → Option Fit
subtracted args pair spec = subtracted_by (called_with (pair_variables pair) args spec.pre) pair spec

-- the first spec that is subtracted
abbrev pub first_subtracted : List Exp → Pair → List Spec → Option Fit
first_subtracted args pair [] = None
first_subtracted args pair (spec ∷ specs) = option_or (subtracted args pair spec) (first_subtracted args pair specs)

-- a spec whose precondition is found by abduction, and by whose missing part the missing heap does not become a contradiction
abbrev pub fit_of_abd : Pair → Spec → Numbers → Abd → Option Fit
fit_of_abd pair spec apart (abd.Found missing frame binding) =
    if contradicts (beside pair.missing missing)
    then None
    else Some (record { missing = beside pair.missing missing; frame = frame; apart = apart; binding = binding; posts = spec.posts })
fit_of_abd pair spec apart (abd.NoMatch wanted) = None

abbrev pub found_by : CalledPre → ℕ → Pair → Spec → Option Fit
found_by called first pair spec =
    fit_of_abd pair spec called.numbers
    (biabduce_avoiding pair.state.heap called.pre called.bound called.flexible first (pair_variables pair))

abbrev pub found : Setting → List Exp → Pair → Spec → Option Fit
found setting args pair spec = found_by (called_with (pair_variables pair) args spec.pre) (new_logical setting.params pair) pair spec

-- THE POSTS

-- the variables that the new ones of a post avoid: those of what the match left, and of the pair
abbrev pub in_use : Pair → Fit → List ℕ
in_use pair fit = with_pair (with_heap [] fit.frame) pair

-- the post of a spec that fits, read in the caller: its logical variables as the match bound them, others being new
abbrev pub in_caller : Pair → Fit → Post → Post
in_caller pair fit post = post_in_caller (in_use pair fit) fit.apart fit.binding post

-- the locals with the result in its slot, where there is one
abbrev pub with_received : Option ℕ → Exp → List Exp → List Exp
with_received None e locals = locals
with_received (Some to) e locals = slice_set locals to e

-- the state after a call: what is left of the caller's heap and the post's heap together, and the result in its slot
abbrev pub state_after : List Exp → Option ℕ → SymHeap → Post → SymState
state_after locals to frame post = record { locals = with_received to post.ret locals; heap = beside frame post.heap }

-- the pair after a call, by a post that is read in the caller
abbrev pub after_post : Option ℕ → ℕ → Pair → Fit → Post → Case
after_post to next pair fit post =
    On next (record { missing = fit.missing; state = state_after pair.state.locals to fit.frame (in_caller pair fit post) })

-- for each post of a spec that fits
abbrev pub after_fit : Option ℕ → ℕ → Pair → Fit → List Case
after_fit to next pair fit = map (after_post to next pair fit) fit.posts

-- THE ROW

-- IN THE SEARCH, for each spec that is found by abduction, each post; the path is dropped where there is none
abbrev pub after_found : Option ℕ → ℕ → Pair → List Fit → List Case
after_found to next pair [] = Drops fault.Callee ∷ []
after_found to next pair (fit ∷ fits) = flat_map (after_fit to next pair) (fit ∷ fits)

-- no spec is subtracted
abbrev pub without_fit : Mode → Setting → Bool → Option ℕ → ℕ → List Exp → Pair → Callee → List Case
without_fit Strict setting cut to next args pair callee = if cut then [] else Drops fault.Callee ∷ []
without_fit Search setting cut to next args pair callee = after_found to next pair (filter_map (found setting args pair) callee.specs)

-- by the first spec that is subtracted, if there is one
abbrev pub call_with : Setting → Bool → Option ℕ → ℕ → List Exp → Pair → Callee → Option Fit → List Case
call_with setting cut to next args pair callee None = without_fit setting.mode setting cut to next args pair callee
call_with setting cut to next args pair callee (Some fit) = after_fit to next pair fit

-- the callee that the table has, if it has one
abbrev pub call_of : Setting → Bool → Option ℕ → ℕ → List Exp → Pair → Option Callee → List Case
call_of setting cut to next args pair None = Drops fault.Callee ∷ []
call_of setting cut to next args pair (Some callee) =
    call_with setting cut to next args pair callee (first_subtracted args pair callee.specs)

-- CALL
abbrev pub call : Setting → Option ℕ → List ℕ → List Operand → ℕ → Pair → List Case
call setting to callee args next pair =
    call_of setting (is_cut setting.table callee) to next (map (operand pair) args) pair (callee_of setting.table callee)
