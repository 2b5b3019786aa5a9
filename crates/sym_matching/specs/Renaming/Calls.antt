-- A spec in its caller: the variables of its precondition get new numbers, the parameters are bound to the arguments, and the others
-- are flexible; a post is then read through what the match bound, its other variables being new again. (An existential variable of a
-- post is not that of the precondition; a logical one is.)
use Rattle.std.specs.Prelude.{ℕ, zero, suc, ◌+◌, if◌then◌else◌, leb, ltb, List, [], ◌∷◌, filter, length, map}
use Rattle.std.specs.Option.{is_none}
use Rattle.std.specs.declared.option.Option.{Option}
use Rattle.std.specs.declared.option.Option.TheVariants.{None, Some}
use Rattle.shape_data.specs.declared.symbolic.Exp.{Exp}
use Rattle.shape_data.specs.declared.symbolic.Exp.TheVariants.{Var, Const}
use Rattle.shape_data.specs.declared.symbolic.Post.{Post}
use Rattle.shape_data.specs.declared.symbolic.SymHeap.{SymHeap}
use Rattle.sym_parts.specs.Laws.Mapped.{on_heap, on_post, renamed}
use Rattle.sym_matching.specs.Reading.{bound_exp, bound_to}
use Rattle.sym_matching.specs.Variables.{with_binding, with_heap, with_variable}
use Rattle.sym_matching.specs.declared.renaming.parts.CalledPre.{CalledPre}
use Rattle.sym_matching.specs.declared.renaming.parts.Numbers.{Numbers}
use Rattle.sym_matching.specs.Renaming.Apart.{number_of, numbers_apart}

-- THE PRECONDITION

-- so many variables, numbered from x on
abbrev pub variables_from : ℕ → ℕ → List ℕ
variables_from x zero = []
variables_from x (suc count) = x ∷ variables_from (x + 1) count

-- new numbers for the callee's parameters, whether they occur or not, and for the other variables of its precondition
abbrev pub pre_numbers : List ℕ → ℕ → SymHeap → Numbers
pre_numbers used params pre = numbers_apart used (with_heap (variables_from 0 params) pre)

-- the precondition in its new numbers
abbrev pub pre_apart : Numbers → SymHeap → SymHeap
pre_apart apart pre = on_heap (renamed (number_of apart)) pre

-- the parameters from k on, in their new numbers, bound to the arguments
abbrev pub parameters_bound : Numbers → ℕ → List Exp → List (ℕ × Exp)
parameters_bound apart k [] = []
parameters_bound apart k (arg ∷ args) = (number_of apart k, arg) ∷ parameters_bound apart (k + 1) args

-- the variables that are no parameters, in their new numbers: these are flexible
abbrev pub others_flexible : Numbers → ℕ → List ℕ
others_flexible apart params = map (number_of apart) (filter (λ x. leb params x) apart.variables)

-- the precondition for a match in the caller, with as many parameters as arguments
abbrev pub called_by : Numbers → List Exp → SymHeap → CalledPre
called_by apart args pre =
    record {
      numbers = apart;
      pre = pre_apart apart pre;
      bound = parameters_bound apart 0 args;
      flexible = others_flexible apart (length args);
    }

abbrev pub called_with : List ℕ → List Exp → SymHeap → CalledPre
called_with used args pre = called_by (pre_numbers used (length args) pre) args pre

-- what a variable of the precondition stands for in the caller, by what the match bound
abbrev pub stands_for : Numbers → List (ℕ × Exp) → ℕ → Exp
stands_for apart binding x = bound_exp binding (Var (number_of apart x))

-- THE POSTS

-- what a logical variable of a post was bound to by the match. An existential one is not that of the precondition
abbrev pub bound_in : Numbers → List (ℕ × Exp) → ℕ → Option Exp
bound_in apart binding x = if ltb x 65536 then bound_to binding (number_of apart x) else None

-- the variables of a post, those of its result first
abbrev pub post_variables : Post → List ℕ
post_variables post = with_heap (with_variable [] post.ret) post.heap

-- those that are new in the caller: the existential ones, and the logical ones that the match left unbound
abbrev pub new_in_post : Numbers → List (ℕ × Exp) → Post → List ℕ
new_in_post apart binding post = filter (λ x. is_none (bound_in apart binding x)) (post_variables post)

-- new numbers for these, apart from those in use and from what the match bound
abbrev pub post_numbers : List ℕ → Numbers → List (ℕ × Exp) → Post → Numbers
post_numbers used apart binding post = numbers_apart (with_binding used binding) (new_in_post apart binding post)

-- what a variable stands for: what it was bound to, or itself in its new number
abbrev pub bound_or_new : Numbers → ℕ → Option Exp → Exp
bound_or_new own x None = Var (number_of own x)
bound_or_new own x (Some e) = e

-- an expression of a post in the caller, its new variables having numbers of their own
abbrev pub in_caller : Numbers → List (ℕ × Exp) → Numbers → Exp → Exp
in_caller apart binding own (Var x) = bound_or_new own x (bound_in apart binding x)
in_caller apart binding own (Const n) = Const n

-- the post in the caller
abbrev pub post_in_caller : List ℕ → Numbers → List (ℕ × Exp) → Post → Post
post_in_caller used apart binding post = on_post (in_caller apart binding (post_numbers used apart binding post)) post
