-- The row of calls: a spec whose precondition is subtracted fits, and the cases of its posts cover the call.
use Rattle.std.specs.Prelude.{◌≡◌, ℕ, ◌<◌, ltb, ℤ, pos, Bool, true, false, ◌&&◌, if◌then◌else◌, List, [], ◌∷◌, length, map, All, Contains}
use Rattle.std.specs.Option.{is_some, option_or}
use Rattle.std.specs.Str.{bytes_eq}
use Rattle.std.specs.declared.option.Option.{Option}
use Rattle.std.specs.declared.option.Option.TheVariants.{None, Some}
use Rattle.std.proofs.Common.{refl, sym, ap, ap₂, ◌∙◌, subst, inl, inr, ⊎_elim}
use Rattle.std.proofs.Math.ListN.{get_or-map}
use Rattle.std.proofs.lemmas.Bool.{ltb-true, or_cases}
use Rattle.std.proofs.lemmas.List.{length-map, map-set}
use Rattle.std.proofs.lemmas.List.Elements.{All-contains, All-map, All-weaker, Contains-append_left, Contains-append_right}
use Rattle.std.proofs.lemmas.Slice.Eq.{bytes_eq-Decides}
use Rattle.shape_data.specs.declared.answer.Callee.{Callee}
use Rattle.shape_data.specs.declared.answer.Fault.TheVariants as fault
use Rattle.shape_data.specs.declared.machine.Cell.{Cell}
use Rattle.shape_data.specs.declared.program.Cmd.TheVariants as cmd
use Rattle.shape_data.specs.declared.program.Operand.{Operand}
use Rattle.shape_data.specs.declared.program.Operand.TheVariants.{Slot, Num}
use Rattle.shape_data.specs.declared.program.Program.{Program}
use Rattle.shape_data.specs.declared.program.StructDef.{StructDef}
use Rattle.shape_data.specs.declared.symbolic.Atom.{Atom}
use Rattle.shape_data.specs.declared.symbolic.Atom.TheVariants.{Points, Seg, Junk}
use Rattle.shape_data.specs.declared.symbolic.Exp.{Exp}
use Rattle.shape_data.specs.declared.symbolic.Exp.TheVariants.{Const}
use Rattle.shape_data.specs.declared.symbolic.Post.{Post}
use Rattle.shape_data.specs.declared.symbolic.Spec.{Spec}
use Rattle.shape_data.specs.Heap.{IsSum}
use Rattle.shape_data.specs.Machine.{operand_value}
use Rattle.shape_data.specs.Meaning.{value, Holds, MeetsOne, MeetsPost}
use Rattle.shape_data.specs.Structures.{ContainsStructures}
use Rattle.shape_data.specs.WellFormed.{IsCallee, IsSpec, widest}
use Rattle.sym_parts.specs.Laws.Fresh.{is_one_of}
use Rattle.sym_parts.specs.Laws.Mapped.{on_atom, renamed}
use Rattle.sym_canon.specs.declared.parts.Pair.{Pair}
use Rattle.sym_matching.specs.declared.matching.Sub.{Sub}
use Rattle.sym_matching.specs.declared.matching.Sub.TheVariants as sub
use Rattle.sym_matching.specs.Laws.{AgreesOn, FitsAtom}
use Rattle.sym_matching.specs.Matches.{subtract_avoiding}
use Rattle.sym_matching.specs.Variables.{with_heap, with_state}
use Rattle.sym_matching.proofs.GivesLaws.{subtract_gives_beside}
use Rattle.sym_matching.proofs.KeptLaws.{AgreesOn-logical, IsKept, value-kept, values-alike}
use Rattle.sym_matching.proofs.SizeLaws.{fitting_carries, well_formed_fits}
use Rattle.sym_matching.proofs.VariableLaws.{heap-within, locals-kept, state-within}
use Rattle.sym_matching.specs.declared.renaming.parts.Numbers.{Numbers}
use Rattle.sym_matching.specs.Renaming.Apart.{number_of}
use Rattle.sym_matching.specs.Renaming.Calls.{others_flexible, parameters_bound, pre_apart, pre_numbers}
use Rattle.sym_matching.specs.Renaming.Laws.{IsCalled, standing}
use Rattle.sym_matching.proofs.RenamingLemmas.CallLemmas.{match_is_call, post_is_beside_frame}
use Rattle.sound_laws.specs.Commands.{received_locals}
use Rattle.sound_laws.proofs.LeadingLemmas.{Contains-first, Contains-later}
use Rattle.exec_laws.specs.declared.parts.Case.{Case}
use Rattle.exec_laws.specs.declared.parts.Case.TheVariants.{Drops}
use Rattle.exec_laws.specs.declared.parts.Mode.TheVariants.{Strict}
use Rattle.exec_laws.specs.declared.parts.Table.{Table}
use Rattle.exec_laws.specs.Calling.{Fit, after_fit, after_post, call, call_of, call_with, callee_named, callee_of, first_subtracted}
use Rattle.exec_laws.specs.Calling.{fit_of_sub, in_caller, in_use, is_cut, state_after, subtracted, with_received}
use Rattle.exec_laws.specs.Laws.{FitsTable, IsTable, callees_of}
use Rattle.exec_laws.specs.Meanings.{Cover, GoesOn, SomeOf}
use Rattle.exec_laws.specs.Pairs.{Setting, pair_variables}
use Rattle.exec_laws.specs.Values.{operand}
use Rattle.exec_laws.proofs.Forms.{IsMet}

-- ---- other numbers

atom-mapped : (structs : List StructDef) (f : Exp → Exp) (atom : Atom) → FitsAtom structs atom → FitsAtom structs (on_atom f atom)
atom-mapped structs f (Points at kind fields) h = let count : length (map f fields) ≡ length fields = length-map fields f in rw count h
atom-mapped structs f (Seg kind link from to) h = h
atom-mapped structs f Junk h = h

-- ---- the callee, and the spec

named-found : (callees : List Callee) (name : List ℕ) (callee : Callee) → callee_named callees name ≡ Some callee →
    Contains callees callee × (callee.name ≡ name)
named-found [] name callee is = cc
named-found (first ∷ callees) name callee is = by_test (named-found callees name callee) (bytes_eq first.name name) refl is
  where
    by_test : (callee_named callees name ≡ Some callee → Contains callees callee × (callee.name ≡ name)) → (b : Bool) →
        bytes_eq first.name name ≡ b →
        (if b then Some first else callee_named callees name) ≡ Some callee → Contains (first ∷ callees) callee × (callee.name ≡ name)
    by_test later true same h =
        let one : first ≡ callee = cc in
        subst (λ c. Contains (first ∷ callees) c × (c.name ≡ name)) one
        (Contains-first first callees, (bytes_eq-Decides first.name name).0 same)
    by_test later false other h = let found = later h in (Contains-later first callees callee found.0, found.1)

pub callee-found : (table : Table) (name : List ℕ) (callee : Callee) → callee_of table name ≡ Some callee →
    Contains (callees_of table) callee × (callee.name ≡ name)
callee-found table name callee is = by_own (callee_named table.own name) refl is
  where
    by_own : (o : Option Callee) → callee_named table.own name ≡ o → option_or o (callee_named table.outer name) ≡ Some callee →
        Contains (callees_of table) callee × (callee.name ≡ name)
    by_own None is_own h =
        let found = named-found table.outer name callee h in (Contains-append_right table.own table.outer callee found.0, found.1)
    by_own (Some one) is_own h =
        let found = named-found table.own name callee (is_own ∙ h) in (Contains-append_left table.own table.outer callee found.0, found.1)

pub first-found : (args : List Exp) (pair : Pair) (specs : List Spec) (fit : Fit) → first_subtracted args pair specs ≡ Some fit →
    (spec : Spec) × Contains specs spec × (subtracted args pair spec ≡ Some fit)
first-found args pair [] fit is = cc
first-found args pair (spec ∷ specs) fit is = by_first (first-found args pair specs fit) (subtracted args pair spec) refl is
  where
    by_first : (first_subtracted args pair specs ≡ Some fit → (one : Spec) × Contains specs one × (subtracted args pair one ≡ Some fit)) →
        (o : Option Fit) → subtracted args pair spec ≡ o →
        option_or o (first_subtracted args pair specs) ≡ Some fit →
        (one : Spec) × Contains (spec ∷ specs) one × (subtracted args pair one ≡ Some fit)
    by_first later None is_first h = let found = later h in (found.0, Contains-later spec specs found.0 found.1, found.2)
    by_first later (Some one) is_first h = (spec, Contains-first spec specs, is_first ∙ h)

-- ---- what is given back

received_are : (t : ℕ → ℤ) (to : Option ℕ) (e : Exp) (exps : List Exp) →
    received_locals to (value t e) (map (value t) exps) ≡ map (value t) (with_received to e exps)
received_are t None e exps = refl
received_are t (Some slot) e exps = sym (map-set (value t) exps slot e)

module _ (structs : List StructDef) (pair : Pair) (fit : Fit) (t s : ℕ → ℤ) (agrees : (x : ℕ) → x < 65536 → t x ≡ s x) (locals : List ℤ)
    (are : locals ≡ map (value t) pair.state.locals)
    (to : Option ℕ) (next : ℕ) (result : ℤ) (given kept whole : List Cell) (sum : IsSum structs whole given kept)
    (rest : Holds structs t kept fit.frame) where
  -- one post is met, and so is the state after the call by it
  post-met : (post : Post) → MeetsPost structs (standing fit.apart fit.binding t) result given post →
      IsMet structs s (received_locals to result locals) whole
      (record { missing = fit.missing; state = state_after pair.state.locals to fit.frame (in_caller pair fit post) })
  post-met post meets =
      let held = post_is_beside_frame structs (in_use pair fit) fit.apart fit.binding post fit.frame t result whole given kept
      (λ x is. heap-within pair.missing (with_state (with_heap [] fit.frame) pair.state) x
      (state-within pair.state (with_heap [] fit.frame) x is)) rest sum meets in
      let same : map (value t) pair.state.locals ≡ map (value held.w) pair.state.locals =
      sym (values-alike (IsKept (in_use pair fit)) t held.w (value-kept (in_use pair fit) t held.w held.agrees) pair.state.locals
      (locals-kept pair.state (with_heap [] fit.frame) (in_use pair fit)
      (heap-within pair.missing (with_state (with_heap [] fit.frame) pair.state)))) in (
        held.w,
        (λ x below. AgreesOn-logical (in_use pair fit) t held.w held.agrees x below ∙ agrees x below),
        ap₂ (λ v (values : List ℤ). received_locals to v values) held.result (are ∙ same)
            ∙ received_are held.w to (in_caller pair fit post).ret pair.state.locals,
        held.holds,
      )

  -- one of the posts
  posts-met : (posts : List Post) → MeetsOne structs (standing fit.apart fit.binding t) result given posts →
      SomeOf (GoesOn structs s next (received_locals to result locals) whole) (map (after_post to next pair fit) posts)
  posts-met [] meets = meets
  posts-met (post ∷ posts) (inl meets) = inl (refl, post-met post meets)
  posts-met (post ∷ posts) (inr meets) = inr (posts-met posts meets)

-- ---- a spec that fits

module _ (program : Program) (s : ℕ → ℤ) (locals : List ℤ) (heap : List Cell) (pair : Pair)
    (meets : IsMet program.structs s locals heap pair)
    (params : ℕ) (structs : List StructDef) (table : Table) (contains : ContainsStructures program.structs structs)
    (good : IsTable structs table)
    (to : Option ℕ) (name : List ℕ) (args : List Operand) (next : ℕ) where
  abbrev strict : Setting
  strict = record { mode = Strict; params = params; structs = structs; table = table }

  abbrev Fits : List Case → Type 0
  Fits cases = Cover program (callees_of table) s locals heap (cmd.Call to name args next) cases

  -- the arguments, as expressions
  abbrev exps : List Exp
  exps = map (operand pair) args

  operands-are : (t : ℕ → ℤ) (some : List Operand) →
      map (operand_value (map (value t) pair.state.locals)) some ≡ map (value t) (map (operand pair) some)
  operands-are t [] = refl
  operands-are t (Slot slot ∷ some) =
      ap₂ (λ v vs. v ∷ vs) (get_or-map (value t) pair.state.locals slot (Const (pos 0))) (operands-are t some)
  operands-are t (Num n ∷ some) = ap (λ vs. n ∷ vs) (operands-are t some)

  module _ (callee : Callee) (listed : Contains (callees_of table) callee) (named : callee.name ≡ name)
      (counted : length callee.params ≡ length args) (spec : Spec) (has : Contains callee.specs spec) where
    -- its variables' numbers
    abbrev apart : Numbers
    apart = pre_numbers (pair_variables pair) (length exps) spec.pre

    as_many : length callee.params ≡ length exps
    as_many = counted ∙ sym (length-map args (operand pair))

    pre-fits : (f : Exp → Exp) → All (FitsAtom program.structs) (map (on_atom f) spec.pre.spatial)
    pre-fits f =
        let is_callee : IsCallee widest structs callee = All-contains (IsCallee widest structs) (callees_of table) callee good listed in
        let is_spec : IsSpec widest structs (length callee.params) spec =
        All-contains (IsSpec widest structs (length callee.params)) callee.specs spec is_callee.specs has in
        let fits : All (FitsAtom structs) spec.pre.spatial = well_formed_fits widest structs (length callee.params) spec.pre is_spec.pre in
        All-map (FitsAtom program.structs) (on_atom f) spec.pre.spatial
        (All-weaker (FitsAtom program.structs) (λ atom. FitsAtom program.structs (on_atom f atom))
        (atom-mapped program.structs f) spec.pre.spatial (fitting_carries program.structs structs contains spec.pre.spatial fits))

    -- what is lent meets the precondition, and whatever is given back leads to a case
    lent-fits : (fit : Fit) → fit.posts ≡ spec.posts →
        IsCalled program.structs meets.0 heap pair.state.heap
        (pair_variables pair) callee.params exps spec.pre fit.apart fit.binding fit.frame → Fits (after_fit to next pair fit)
    lent-fits fit posts called =
        let agrees : AgreesOn (pair_variables pair) meets.0 called.t =
        λ x is. ⊎_elim (λ low. called.logical x (ltb-true x 65536 low)) (λ used. called.avoids x used)
        (or_cases (ltb x 65536) (is_one_of (pair_variables pair) x) is) in
        let same : map (value called.t) pair.state.locals ≡ map (value meets.0) pair.state.locals =
        values-alike (IsKept (pair_variables pair)) meets.0 called.t
        (value-kept (pair_variables pair) meets.0 called.t agrees) pair.state.locals
        (locals-kept pair.state [] (pair_variables pair) (heap-within pair.missing (with_state [] pair.state))) in
        let are : locals ≡ map (value called.t) pair.state.locals = meets.2 ∙ sym same in
        inr (record {
          callee = callee;
          is_callee = listed;
          is_named = named;
          spec = spec;
          is_spec = has;
          s = standing fit.apart fit.binding called.t;
          arguments = ap (λ (values : List ℤ). map (operand_value values) args) are ∙ operands-are called.t args ∙ sym called.arguments;
          lent = called.lent;
          kept = called.kept;
          sum = called.sum;
          pre = (standing fit.apart fit.binding called.t, (λ x below. refl), called.wanted);
          back = λ result given whole sum met.
              posts-met program.structs pair fit called.t s
              (λ x below. called.logical x below
              ∙ meets.1 x below) locals are to next result given called.kept whole sum called.rest fit.posts (rw posts met);
        })

    -- the spec is subtracted
    subtracted-fits : (fit : Fit) → subtracted exps pair spec ≡ Some fit → Fits (after_fit to next pair fit)
    subtracted-fits fit is =
        by_sub (subtract_avoiding pair.state.heap (pre_apart apart spec.pre) (parameters_bound apart 0 exps)
        (others_flexible apart (length exps)) (pair_variables pair)) refl is
      where
        by_sub : (r : Sub) →
            subtract_avoiding pair.state.heap (pre_apart apart spec.pre) (parameters_bound apart 0 exps)
            (others_flexible apart (length exps))
            (pair_variables pair) ≡ r → fit_of_sub pair spec apart r ≡ Some fit → Fits (after_fit to next pair fit)
        by_sub (sub.Match frame binding) matched h =
            let one : record { missing = pair.missing; frame = frame; apart = apart; binding = binding; posts = spec.posts } ≡ fit = cc in
            let gives =
            subtract_gives_beside program.structs pair.state.heap (pre_apart apart spec.pre) (parameters_bound apart 0 exps)
            (others_flexible apart (length exps)) (pair_variables pair) frame binding
            (pre-fits (renamed (number_of apart))) matched meets.0 heap meets.3 in
            subst (λ f. Fits (after_fit to next pair f)) one
            (lent-fits (record { missing = pair.missing; frame = frame; apart = apart; binding = binding; posts = spec.posts }) refl
            (match_is_call program.structs meets.0 heap pair.state.heap (pair_variables pair)
            (pair_variables pair) callee.params exps spec.pre binding frame as_many gives))
        by_sub (sub.NoMatch wanted) matched h = cc

  pub call-row : FitsTable table (cmd.Call to name args next) → table.cut ≡ false →
      Cover program (callees_of table) s locals heap (cmd.Call to name args next) (call strict to name args next pair)
  call-row fits uncut = by_callee (callee_of table name) refl
    where
      by_cut : (b : Bool) → b ≡ false → Fits (if b && is_some (callee_named table.own name) then [] else Drops fault.Callee ∷ [])
      by_cut true is = cc
      by_cut false is = inl (inl tt)

      by_fit : (callee : Callee) → Contains (callees_of table) callee → callee.name ≡ name → (o : Option Fit) →
          first_subtracted exps pair callee.specs ≡ o →
          Fits (call_with strict (is_cut table name) to next exps pair callee o)
      by_fit callee listed named None is = by_cut table.cut uncut
      by_fit callee listed named (Some fit) is =
          let found = first-found exps pair callee.specs fit is in
          let counted : length callee.params ≡ length args =
          All-contains (λ (one : Callee). one.name ≡ name → length one.params ≡ length args)
          (callees_of table) callee fits listed named in
          subtracted-fits callee listed named counted found.0 found.1 fit found.2

      by_callee : (o : Option Callee) → callee_of table name ≡ o → Fits (call_of strict (is_cut table name) to next exps pair o)
      by_callee None is = inl (inl tt)
      by_callee (Some callee) is =
          let found = callee-found table name callee is in
          by_fit callee found.0 found.1 (first_subtracted exps pair callee.specs) refl
