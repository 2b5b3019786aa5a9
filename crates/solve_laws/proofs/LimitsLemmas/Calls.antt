-- A call makes no logical variable: what a match leaves and binds are expressions of the caller, or existential variables.
use Rattle.std.specs.Prelude.{◌≡◌, ℕ, ◌+◌, ◌*◌, ◌≤◌, Bool, true, false, ◌==◌, if◌then◌else◌, leb, ltb, List, [], ◌∷◌, ◌++◌, filter, length}
use Rattle.std.specs.Prelude.{map, All, Contains}
use Rattle.std.specs.Option.{IsSomeAnd, is_none}
use Rattle.std.specs.declared.option.Option.{Option}
use Rattle.std.specs.declared.option.Option.TheVariants.{None, Some}
use Rattle.std.proofs.Common.{refl, sym, ap, subst, ◌∙◌, arith}
use Rattle.std.proofs.lemmas.Bool.{or_right}
use Rattle.std.proofs.lemmas.List.{length-map}
use Rattle.std.proofs.lemmas.List.Elements.{All-append, All-cons, All-contains, All-filter, All-head, All-map, All-nil, All-set, All-tail}
use Rattle.std.proofs.lemmas.List.Elements.{All-weaker}
use Rattle.shape_data.specs.declared.answer.Callee.{Callee}
use Rattle.shape_data.specs.declared.answer.Fault.TheVariants as fault
use Rattle.shape_data.specs.declared.program.Operand.{Operand}
use Rattle.shape_data.specs.declared.program.StructDef.{StructDef}
use Rattle.shape_data.specs.declared.symbolic.Atom.{Atom}
use Rattle.shape_data.specs.declared.symbolic.Atom.TheVariants.{Points, Seg, Junk}
use Rattle.shape_data.specs.declared.symbolic.Exp.{Exp}
use Rattle.shape_data.specs.declared.symbolic.Exp.TheVariants.{Var, Const}
use Rattle.shape_data.specs.declared.symbolic.Post.{Post}
use Rattle.shape_data.specs.declared.symbolic.Spec.{Spec}
use Rattle.shape_data.specs.declared.symbolic.SymHeap.{SymHeap}
use Rattle.shape_data.specs.Heap.{struct_named}
use Rattle.shape_data.specs.WellFormed.{IsAtom, IsCallee, IsSpec, widest}
use Rattle.sym_parts.specs.Laws.Each.{EachInAtom, EachInFact, EachInHeap, EachInPost, EachInState}
use Rattle.sym_parts.specs.Laws.Fresh.{is_one_of}
use Rattle.sym_parts.specs.Laws.Mapped.{on_atom, on_fact, renamed}
use Rattle.sym_parts.proofs.LawsLemmas.EachLemmas.{each-on_atoms, each-on_exps, each-on_facts}
use Rattle.sym_canon.specs.declared.parts.Pair.{Pair}
use Rattle.sym_matching.specs.declared.matching.Matching.{Matching}
use Rattle.sym_matching.specs.declared.matching.Mode.TheVariants.{Subtract}
use Rattle.sym_matching.specs.declared.matching.Sub.{Sub}
use Rattle.sym_matching.specs.declared.matching.Sub.TheVariants as sub
use Rattle.sym_matching.specs.declared.matching.Turned.{Turned}
use Rattle.sym_matching.specs.declared.matching.Turned.TheVariants as turned
use Rattle.sym_matching.specs.Answers.{HasParts, IsBound, MayOccur, names_of_all}
use Rattle.sym_matching.specs.Matches.{answer_sub, argument_variables, frame_of, has_junk, left_over, matching, rules_of, subtract_avoiding}
use Rattle.sym_matching.specs.NewVariables.{distinct, fresh_variables}
use Rattle.sym_matching.specs.Reading.{bound_to}
use Rattle.sym_matching.specs.Rooms.{fields_of_all}
use Rattle.sym_matching.specs.Variables.{with_binding, with_heap, with_variable}
use Rattle.sym_matching.proofs.AnswerLaws.{match_is_well_formed}
use Rattle.sym_matching.proofs.KeptLaws.{one_of-first}
use Rattle.sym_matching.proofs.NewNumberLaws.{distinct-has}
use Rattle.sym_matching.proofs.VariableLaws.{heap-within}
use Rattle.sym_matching.specs.declared.renaming.parts.CalledPre.{CalledPre}
use Rattle.sym_matching.specs.declared.renaming.parts.Numbers.{Numbers}
use Rattle.sym_matching.specs.Renaming.Apart.{number_of}
use Rattle.sym_matching.specs.Renaming.Calls.{bound_in, bound_or_new, called_with, in_caller as in_caller_by, new_in_post, parameters_bound}
use Rattle.sym_matching.specs.Renaming.Calls.{post_in_caller, post_numbers, post_variables, pre_numbers, variables_from}
use Rattle.sym_matching.proofs.RenamingLemmas.CallLemmas.{listed_from}
use Rattle.sym_matching.proofs.RenamingLemmas.CoveringLemmas.{filtered}
use Rattle.sym_matching.proofs.RenamingLemmas.ListedLemmas.{IsListed, heap-listed, listed-more, variable-listed}
use Rattle.sym_matching.proofs.RenamingLemmas.NumberLemmas.{numbers_are_apart}
use Rattle.exec_laws.specs.declared.parts.Case.{Case}
use Rattle.exec_laws.specs.declared.parts.Case.TheVariants.{Drops}
use Rattle.exec_laws.specs.declared.parts.Table.{Table}
use Rattle.exec_laws.specs.Calling.{Fit, after_post, call, call_of, call_with, callee_of, first_subtracted, fit_of_sub, in_caller, in_use}
use Rattle.exec_laws.specs.Calling.{is_cut, subtracted, with_received}
use Rattle.exec_laws.specs.Laws.{IsTableWithin, callees_of}
use Rattle.exec_laws.specs.Pairs.{pair_variables}
use Rattle.exec_laws.specs.Rooms.{with_parts}
use Rattle.exec_laws.specs.Values.{operand}
use Rattle.exec_laws.proofs.CallRows.{callee-found, first-found}
use Rattle.solve_laws.specs.Limits.Numbers.{storable_logical}
use Rattle.shape_data.specs.Sizes.{IsNarrow}
use Rattle.solve_laws.proofs.LimitsLemmas.Counted.{
  IsLogicalStorable,
  atoms-of,
  facts-of,
  few-names,
  constant-fits,
  logical-fits,
  existential-fits,
}
use Rattle.solve_laws.proofs.LimitsLemmas.Counted.{to-atoms, to-facts}
use Rattle.solve_laws.proofs.LimitsLemmas.Rows.{CaseGood, fresh-high, operand-good, strict}

-- ---- lists of variables

-- each variable of a list is one of it
all-listed : (xs : List ℕ) → All (λ x. is_one_of xs x ≡ true) xs
all-listed [] = All-nil (λ x. is_one_of [] x ≡ true)
all-listed (x ∷ xs) =
    All-cons (λ y. is_one_of (x ∷ xs) y ≡ true) x xs (one_of-first x xs)
    (All-weaker (λ y. is_one_of xs y ≡ true) (λ y. is_one_of (x ∷ xs) y ≡ true) (λ y is. or_right (y == x) (is_one_of xs y) is) xs
    (all-listed xs))

-- ---- a precondition in the caller

module _ (structs : List StructDef) (params before : ℕ) (used : List ℕ) (args : List Exp) (pre : SymHeap) where
  abbrev list : List ℕ
  list = with_heap (variables_from 0 (length args)) pre

  abbrev apart : Numbers
  apart = pre_numbers used (length args) pre

  abbrev called : CalledPre
  called = called_with used args pre

  -- new numbers are existential
  number-fits : (x : ℕ) → is_one_of list x ≡ true → IsLogicalStorable params (Var (number_of apart x))
  number-fits x listed = existential-fits params (number_of apart x) ((numbers_are_apart used list).existential x listed)

  renamed-fits : (e : Exp) → IsListed list e → IsLogicalStorable params (renamed (number_of apart) e)
  renamed-fits (Var x) listed = number-fits x listed
  renamed-fits (Const n) listed = tt

  as-many : (fields : List Exp) (def : Option StructDef) → IsSomeAnd def (λ one. length fields ≡ length one.fields) →
      IsSomeAnd def (λ one. length (map (renamed (number_of apart)) fields) ≡ length one.fields)
  as-many fields None h = h
  as-many fields (Some def) h = length-map fields (renamed (number_of apart)) ∙ h

  atom-called : (atom : Atom) → IsAtom widest structs before atom → EachInAtom (IsListed list) atom →
      IsAtom storable_logical structs params (on_atom (renamed (number_of apart)) atom)
  atom-called (Points at kind fields) is each = (
    renamed-fits at each.0,
    as-many fields (struct_named structs kind) is.1,
    each-on_exps (IsListed list) (IsLogicalStorable params)
        (renamed (number_of apart)) renamed-fits fields each.1,
  )
  atom-called (Seg kind link from to) is each = (is.0, renamed-fits from each.0, renamed-fits to each.1)
  atom-called Junk is each = tt

  atoms-called : (atoms : List Atom) → All (IsAtom widest structs before) atoms → All (EachInAtom (IsListed list)) atoms →
      All (IsAtom storable_logical structs params) (map (on_atom (renamed (number_of apart))) atoms)
  atoms-called [] is each = All-nil (IsAtom storable_logical structs params)
  atoms-called (atom ∷ atoms) is each =
      All-cons (IsAtom storable_logical structs params) (on_atom (renamed (number_of apart)) atom)
      (map (on_atom (renamed (number_of apart))) atoms)
      (atom-called atom (All-head (IsAtom widest structs before) atom atoms is) (All-head (EachInAtom (IsListed list)) atom atoms each))
      (atoms-called atoms (All-tail (IsAtom widest structs before) atom atoms is) (All-tail (EachInAtom (IsListed list)) atom atoms each))

  pub called-parts : All (IsAtom widest structs before) pre.spatial → HasParts storable_logical structs params called.pre
  called-parts is =
      let each : EachInHeap (IsListed list) pre = heap-listed pre (variables_from 0 (length args)) in record {
        facts = facts-of storable_logical storable_logical structs params (map (on_fact (renamed (number_of apart))) pre.pure)
            (each-on_facts (IsListed list) (IsLogicalStorable params) (renamed (number_of apart)) renamed-fits pre.pure each.facts);
        atoms = atoms-called pre.spatial is each.atoms;
      }

  -- what the parameters are bound to, and what may be bound
  bound-from : (k : ℕ) (es : List Exp) → k + length es ≤ length args → All (IsLogicalStorable params) es →
      All (IsBound storable_logical params) (parameters_bound apart k es)
  bound-from k [] room each = All-nil (IsBound storable_logical params)
  bound-from k (e ∷ es) room each =
      let listed : is_one_of list k ≡ true =
      heap-within pre (variables_from 0 (length args)) k (listed_from 0 (length args) k (omega arith) (omega (arith, room))) in
      All-cons (IsBound storable_logical params) (number_of apart k, e) (parameters_bound apart (k + 1) es)
      (number-fits k listed, All-head (IsLogicalStorable params) e es each)
      (bound-from (k + 1) es (omega (arith, room)) (All-tail (IsLogicalStorable params) e es each))

  pub called-bound : All (IsLogicalStorable params) args → All (IsBound storable_logical params) called.bound
  called-bound each = bound-from 0 args (omega arith) each

  pub called-flexible : All (MayOccur storable_logical params) called.flexible
  called-flexible =
      All-map (MayOccur storable_logical params) (number_of apart) (filter (λ x. leb (length args) x) (distinct list))
      (All-filter (λ x. leb (length args) x) (λ x. MayOccur storable_logical params (number_of apart x)) (distinct list)
      (All-weaker (λ x. is_one_of (distinct list) x ≡ true) (λ x. MayOccur storable_logical params (number_of apart x))
      (λ x is. number-fits x (sym (distinct-has list x) ∙ is)) (distinct list) (all-listed (distinct list))))

  pub called-atoms : length called.pre.spatial ≡ length pre.spatial
  called-atoms = length-map pre.spatial (on_atom (renamed (number_of apart)))

-- ---- a post in the caller

module _ (params : ℕ) (used : List ℕ) (apart : Numbers) (binding : List (ℕ × Exp))
    (fits : All (IsBound storable_logical params) binding) where
  bound_to-fits : (some : List (ℕ × Exp)) (x : ℕ) (e : Exp) → All (IsBound storable_logical params) some → bound_to some x ≡ Some e →
      IsLogicalStorable params e
  bound_to-fits [] x e each is = cc
  bound_to-fits (bound ∷ some) x e each is =
      by_test (bound.0 == x) refl (bound_to-fits some x e (All-tail (IsBound storable_logical params) bound some each))
    where
      here : IsLogicalStorable params bound.1
      here = (All-head (IsBound storable_logical params) bound some each).1

      by_test : (b : Bool) → (bound.0 == x) ≡ b → (bound_to some x ≡ Some e → IsLogicalStorable params e) → IsLogicalStorable params e
      by_test true f later = let same : Some bound.1 ≡ Some e = rw f at is in let one : bound.1
          ≡ e = cc in subst (IsLogicalStorable params) one here
      by_test false f later = let rest : bound_to some x ≡ Some e = rw f at is in later rest

  bound_in-fits : (x : ℕ) (e : Exp) → bound_in apart binding x ≡ Some e → IsLogicalStorable params e
  bound_in-fits x e is = by_test (ltb x 65536) refl
    where
      by_test : (b : Bool) → ltb x 65536 ≡ b → IsLogicalStorable params e
      by_test true f = let there : bound_to binding (number_of apart x)
          ≡ Some e = rw f at is in bound_to-fits binding (number_of apart x) e fits there
      by_test false f = let none : None ≡ Some e = rw f at is in cc

  module _ (post : Post) where
    read-fits : (e : Exp) → IsListed (post_variables post) e →
        IsLogicalStorable params (in_caller_by apart binding (post_numbers used apart binding post) e)
    read-fits (Const n) listed = tt
    read-fits (Var x) listed = by_bound (bound_in apart binding x) refl
      where
        by_bound : (o : Option Exp) → bound_in apart binding x ≡ o →
            IsLogicalStorable params (bound_or_new (post_numbers used apart binding post) x o)
        by_bound (Some e) is = bound_in-fits x e is
        by_bound None is =
            let new : is_one_of (new_in_post apart binding post) x ≡ true =
            filtered (λ y. is_none (bound_in apart binding y)) (post_variables post) x listed (ap is_none is) in
            existential-fits params (number_of (post_numbers used apart binding post) x)
            ((numbers_are_apart (with_binding used binding) (new_in_post apart binding post)).existential x new)

    pub read-post-fits : EachInPost (IsLogicalStorable params) (post_in_caller used apart binding post)
    read-post-fits =
        let names : List ℕ = post_variables post in
        let f : Exp → Exp = in_caller_by apart binding (post_numbers used apart binding post) in
        let each : EachInHeap (IsListed names) post.heap = heap-listed post.heap (with_variable [] post.ret) in record {
          ret =
              read-fits post.ret
              (listed-more (with_variable [] post.ret) names (heap-within post.heap (with_variable [] post.ret)) post.ret
              (variable-listed [] post.ret));
          heap = record {
            facts = each-on_facts (IsListed names) (IsLogicalStorable params) f read-fits post.heap.pure each.facts;
            atoms = each-on_atoms (IsListed names) (IsLogicalStorable params) f read-fits post.heap.spatial each.atoms;
          };
        }

-- ---- the row

module _ (structs : List StructDef) (narrow : All IsNarrow structs) (params : ℕ) (table : Table)
    (table_fits : IsTableWithin structs 96 table)
    (pair : Pair) (atoms_fit : All (IsAtom widest structs params) pair.state.heap.spatial)
    (good : EachInState (IsLogicalStorable params) pair.state) where
  abbrev GoodCase : Case → Type 0
  GoodCase case = CaseGood (IsLogicalStorable params) (constant-fits params) (existential-fits params) structs params table case

  -- a spec that is subtracted
  module _ (args : List Exp) (args_fit : All (IsLogicalStorable params) args) (before : ℕ) (spec : Spec)
      (is_spec : IsSpec (with_parts 96) structs before spec) where
    abbrev pre : CalledPre
    pre = called_with (pair_variables pair) args spec.pre

    pre_parts : HasParts storable_logical structs params pre.pre
    pre_parts = called-parts structs params before (pair_variables pair) args spec.pre is_spec.pre.atoms

    few_names : names_of_all pre.pre.spatial ≤ 32768
    few_names =
        let names : names_of_all pre.pre.spatial ≤ 16 * length pre.pre.spatial =
        few-names storable_logical structs params narrow pre.pre.spatial pre_parts.atoms in
        let same : length pre.pre.spatial ≡ length spec.pre.spatial =
        called-atoms structs params before (pair_variables pair) args spec.pre in
        let parts : length spec.pre.pure + length spec.pre.spatial ≤ 96 = is_spec.pre.parts in
        omega (arith, names, same, parts)

    -- what is left, and what was bound
    abbrev Fits : SymHeap → List (ℕ × Exp) → Type 0
    Fits frame binding = EachInHeap (IsLogicalStorable params) frame × All (IsBound storable_logical params) binding

    left-fits : (n : Matching) → All (IsAtom storable_logical structs params) n.left →
        All (IsAtom storable_logical structs params) (left_over pre.pre n)
    left-fits n each = by_junk (has_junk pre.pre)
      where
        by_junk : (c : Bool) → All (IsAtom storable_logical structs params) (if c then [] else n.left)
        by_junk true = All-nil (IsAtom storable_logical structs params)
        by_junk false = each

    matched-fits : (frame : SymHeap) (binding : List (ℕ × Exp)) →
        subtract_avoiding pair.state.heap pre.pre pre.bound pre.flexible (pair_variables pair) ≡ sub.Match frame binding →
        Fits frame binding
    matched-fits frame binding h = by_turn (matching Subtract pair.state.heap pre.pre pre.bound pre.flexible (pair_variables pair) 0) refl h
      where
        by_turn : (r : Turned) → matching Subtract pair.state.heap pre.pre pre.bound pre.flexible (pair_variables pair) 0 ≡ r →
            answer_sub (rules_of Subtract pair.state.heap pre.flexible) pre.pre r ≡ sub.Match frame binding → Fits frame binding
        by_turn (turned.Stuck number) e f = cc
        by_turn (turned.On n) e f =
            let same_frame : frame_of (rules_of Subtract pair.state.heap pre.flexible) pre.pre n ≡ frame = cc in
            let same_binding : n.binding ≡ binding = cc in
            let used : List ℕ = argument_variables pair.state.heap pre.pre pre.bound pre.flexible ++ pair_variables pair in
            let state_parts : HasParts storable_logical structs params pair.state.heap =
            record {
              facts = facts-of storable_logical storable_logical structs params pair.state.heap.pure good.heap.facts;
              atoms = atoms-of widest storable_logical structs params pair.state.heap.spatial atoms_fit good.heap.atoms;
            } in
            let fine =
            match_is_well_formed storable_logical structs params Subtract pair.state.heap pre.pre pre.bound pre.flexible
            (pair_variables pair) 0 n state_parts pre_parts
            (called-bound structs params before (pair_variables pair) args spec.pre args_fit)
            (called-flexible structs params before (pair_variables pair) args spec.pre)
            (record {
              fresh =
                  All-weaker (λ x. 65536 ≤ x) (MayOccur storable_logical params) (existential-fits params)
                  (fresh_variables (fields_of_all pre.pre.spatial) used) (fresh-high (fields_of_all pre.pre.spatial) used);
              logical = λ x low. let few = few_names in logical-fits params x (omega (arith, low, few));
            }) e in
            let made : EachInHeap (IsLogicalStorable params) (frame_of (rules_of Subtract pair.state.heap pre.flexible) pre.pre n) =
            record {
              facts =
                  All-append (EachInFact (IsLogicalStorable params)) pair.state.heap.pure n.missing.pure good.heap.facts
                  (to-facts storable_logical storable_logical structs params n.missing.pure fine.missing.facts);
              atoms = to-atoms storable_logical storable_logical structs params (left_over pre.pre n) (left-fits n fine.left);
            } in (
              subst (EachInHeap (IsLogicalStorable params)) same_frame made,
              subst
                  (All (IsBound storable_logical params)) same_binding fine.binding,
            )

    subtracted-fits : (fit : Fit) → subtracted args pair spec ≡ Some fit → Fits fit.frame fit.binding
    subtracted-fits fit is = by_sub (subtract_avoiding pair.state.heap pre.pre pre.bound pre.flexible (pair_variables pair)) refl is
      where
        by_sub : (r : Sub) → subtract_avoiding pair.state.heap pre.pre pre.bound pre.flexible (pair_variables pair) ≡ r →
            fit_of_sub pair spec pre.numbers r ≡ Some fit → Fits fit.frame fit.binding
        by_sub (sub.NoMatch wanted) matched h = cc
        by_sub (sub.Match frame binding) matched h =
            let one : record { missing = pair.missing; frame = frame; apart = pre.numbers; binding = binding; posts = spec.posts } ≡ fit =
            cc in
            subst (λ (some : Fit). Fits some.frame some.binding) one (matched-fits frame binding matched)

  -- its posts
  received-fits : (to : Option ℕ) (e : Exp) → IsLogicalStorable params e →
      All (IsLogicalStorable params) (with_received to e pair.state.locals)
  received-fits None e is = good.locals
  received-fits (Some slot) e is = All-set (IsLogicalStorable params) pair.state.locals slot e is good.locals

  post-good : (to : Option ℕ) (next : ℕ) (fit : Fit) → EachInHeap (IsLogicalStorable params) fit.frame →
      All (IsBound storable_logical params) fit.binding → (post : Post) → GoodCase (after_post to next pair fit post)
  post-good to next fit frame binding post =
      let read : Post = in_caller pair fit post in
      let each : EachInPost (IsLogicalStorable params) read =
      read-post-fits params (in_use pair fit) fit.apart fit.binding binding post in record {
        locals = received-fits to read.ret each.ret;
        heap = record {
          facts = All-append (EachInFact (IsLogicalStorable params)) fit.frame.pure read.heap.pure frame.facts each.heap.facts;
          atoms = All-append (EachInAtom (IsLogicalStorable params)) fit.frame.spatial read.heap.spatial frame.atoms each.heap.atoms;
        };
      }

  posts-good : (to : Option ℕ) (next : ℕ) (fit : Fit) → EachInHeap (IsLogicalStorable params) fit.frame →
      All (IsBound storable_logical params) fit.binding → (posts : List Post) → All GoodCase (map (after_post to next pair fit) posts)
  posts-good to next fit frame binding [] = All-nil GoodCase
  posts-good to next fit frame binding (post ∷ posts) =
      All-cons GoodCase (after_post to next pair fit post) (map (after_post to next pair fit) posts)
      (post-good to next fit frame binding post) (posts-good to next fit frame binding posts)

  drop-good : All GoodCase (Drops fault.Callee ∷ [])
  drop-good = All-cons GoodCase (Drops fault.Callee) [] tt (All-nil GoodCase)

  module _ (to : Option ℕ) (name : List ℕ) (args : List Operand) (next : ℕ) where
    abbrev exps : List Exp
    exps = map (operand pair) args

    exps-fit : (some : List Operand) → All (IsLogicalStorable params) (map (operand pair) some)
    exps-fit [] = All-nil (IsLogicalStorable params)
    exps-fit (one ∷ some) =
        All-cons (IsLogicalStorable params) (operand pair one) (map (operand pair) some)
        (operand-good (IsLogicalStorable params) (constant-fits params) (existential-fits params) structs params table pair good one)
        (exps-fit some)

    with-good : (callee : Callee) → Contains (callees_of table) callee → (cut : Bool) (o : Option Fit) →
        first_subtracted exps pair callee.specs ≡ o →
        All GoodCase
        (call_with (strict (IsLogicalStorable params) (constant-fits params)
        (existential-fits params) structs params table) cut to next exps pair callee o)
    with-good callee listed true None is = All-nil GoodCase
    with-good callee listed false None is = drop-good
    with-good callee listed cut (Some fit) is =
        let is_callee : IsCallee (with_parts 96) structs callee =
        All-contains (IsCallee (with_parts 96) structs) (callees_of table) callee table_fits listed in
        let one = first-found exps pair callee.specs fit is in
        let is_spec = All-contains (IsSpec (with_parts 96) structs (length callee.params)) callee.specs one.0 is_callee.specs one.1 in
        let fits = subtracted-fits exps (exps-fit args) (length callee.params) one.0 is_spec fit one.2 in
        posts-good to next fit fits.0 fits.1 fit.posts

    pub call-good : All GoodCase
        (call (strict (IsLogicalStorable params) (constant-fits params)
        (existential-fits params) structs params table) to name args next pair)
    call-good = by_callee (callee_of table name) refl
      where
        by_callee : (o : Option Callee) → callee_of table name ≡ o →
            All GoodCase
            (call_of (strict (IsLogicalStorable params) (constant-fits params) (existential-fits params) structs params table)
            (is_cut table name) to next exps pair o)
        by_callee None is = drop-good
        by_callee (Some callee) is =
            with-good callee (callee-found table name callee is).0 (is_cut table name) (first_subtracted exps pair callee.specs) refl
