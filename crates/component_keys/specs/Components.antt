-- Which procedures are analysed together, by plain reachability, and in which order: a class of procedures that call one another
-- stands behind all that they call.
use Rattle.std.specs.Prelude.{ℕ, zero, suc, Bool, false, ◌&&◌, ◌||◌, not, ◌==◌, nat_eq, List, [], ◌∷◌, ◌++◌, map, length, slice_get}
use Rattle.std.specs.Prelude.{slice_index_or, if◌then◌else◌}
use Rattle.std.specs.List.{list_any, list_all, filter, find, filter_map, range_with_len}
use Rattle.std.specs.Cmp.Lexicographic.{pointwise, slice_cmp}
use Rattle.std.specs.Ordering.{nat_cmp, is_lt}
use Rattle.std.specs.declared.option.Option.{Option}
use Rattle.std.specs.declared.option.Option.TheVariants.{None, Some}

-- the two lists of names are the same
abbrev pub same_names : List (List ℕ) → List (List ℕ) → Bool
same_names = pointwise (pointwise nat_eq)

-- the number is in the list
abbrev pub holds : List ℕ → ℕ → Bool
holds numbers number = list_any (λ other. other == number) numbers

-- whom a procedure calls
abbrev pub calls_of : List (List ℕ) → ℕ → List ℕ
calls_of calls number = slice_index_or calls number []

-- a number that is not yet reached, and that one that is reached calls
abbrev pub is_called_new : List (List ℕ) → List ℕ → ℕ → Bool
is_called_new calls seen number = not (holds seen number) && list_any (λ one. holds (calls_of calls one) number) seen

abbrev pub with_called : (List ℕ → List ℕ) → List ℕ → Option ℕ → List ℕ
with_called again seen None = seen
with_called again seen (Some number) = again (seen ++ number ∷ [])

-- one more that is called, so many times
abbrev pub reached_after : ℕ → List (List ℕ) → List ℕ → List ℕ
reached_after zero calls seen = seen
reached_after (suc turns) calls seen =
    with_called (reached_after turns calls) seen (find (is_called_new calls seen) (range_with_len 0 (length calls)))

-- the numbers and all that they call, directly or not
abbrev pub reached_from : List (List ℕ) → List ℕ → List ℕ
reached_from calls numbers = reached_after (length calls) calls numbers

-- the procedure and all that it calls, directly or not
abbrev pub reached : List (List ℕ) → ℕ → List ℕ
reached calls number = reached_from calls (number ∷ [])

-- each reaches the other
abbrev pub are_mutual : List (List ℕ) → ℕ → ℕ → Bool
are_mutual calls one other = holds (reached calls one) other && holds (reached calls other) one

-- a number put into a list of numbers in order of their names
abbrev pub in_name_order : List (List ℕ) → ℕ → List ℕ → List ℕ
in_name_order names number [] = number ∷ []
in_name_order names number (first ∷ others) =
    if is_lt (slice_cmp nat_cmp (slice_index_or names number []) (slice_index_or names first []))
    then number ∷ first ∷ others
    else first ∷ in_name_order names number others

-- the numbers below, in order of their names
abbrev pub by_name : List (List ℕ) → ℕ → List ℕ
by_name names zero = []
by_name names (suc number) = in_name_order names number (by_name names number)

-- all that call one another with this one, in order of their names
abbrev pub class_of : List (List ℕ) → List ℕ → ℕ → List ℕ
class_of calls order number = filter (are_mutual calls number) order

-- the number is the first of the list
abbrev pub is_first : ℕ → List ℕ → Bool
is_first number [] = false
is_first number (first ∷ others) = number == first

-- each class once, in order of the least names
abbrev pub classes : List (List ℕ) → List ℕ → List (List ℕ)
classes calls order = map (class_of calls order) (filter (λ number. is_first number (class_of calls order number)) order)

-- the names of a class
abbrev pub names_at : List (List ℕ) → List ℕ → List (List ℕ)
names_at names class = filter_map (slice_get names) class

-- the class is not listed, and each that it calls is listed or in it
abbrev pub is_next : List (List ℕ) → List (List ℕ) → List (List ℕ) → List ℕ → Bool
is_next names calls listed class =
    not (list_any (λ other. same_names (names_at names other) (names_at names class)) listed) &&
    list_all (λ number. list_all (λ callee. holds class callee || list_any (λ other. holds other callee) listed)
    (calls_of calls number)) class

-- the list goes on behind the class that was found, else it ends
abbrev pub with_next : (List (List ℕ) → List (List ℕ)) → List (List ℕ) → Option (List ℕ) → List (List ℕ)
with_next again listed None = listed
with_next again listed (Some class) = again (listed ++ class ∷ [])

-- next is always the first class, by least name, whose callees are all listed
abbrev pub listed_after : ℕ → List (List ℕ) → List (List ℕ) → List (List ℕ) → List (List ℕ) → List (List ℕ)
listed_after zero names calls all listed = listed
listed_after (suc turns) names calls all listed =
    with_next (listed_after turns names calls all) listed (find (is_next names calls listed) all)

-- the classes, callees first
unfoldable pub components : List (List ℕ) → List (List ℕ) → List (List ℕ)
components names calls = listed_after (length names) names calls (classes calls (by_name names (length names))) []
