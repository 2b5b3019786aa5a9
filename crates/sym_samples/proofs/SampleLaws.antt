-- A normal heap whose sources are pairwise distinct variables is met by the cells of its atoms.
use Rattle.std.specs.Prelude.{◌≡◌, ℕ, ◌+◌, ◌<◌, ℤ, pos, ◌<ℤ◌, Bool, true, false, not, ◌&&◌, List, [], ◌∷◌, length, map, All, slice_set}
use Rattle.std.specs.Prelude.{slice_index_or}
use Rattle.std.proofs.Common.{refl, sym, ap, subst, ◌∙◌, arith}
use Rattle.std.specs.List.{list_all, list_any}
use Rattle.std.specs.Option.{IsSomeAnd}
use Rattle.std.specs.Ordering.{int_eq}
use Rattle.std.specs.declared.option.Option.{Option}
use Rattle.std.specs.declared.option.Option.TheVariants.{None, Some}
use Rattle.std.proofs.lemmas.Bool.{or_parts}
use Rattle.std.proofs.lemmas.Bool.Decides.{Decides-int_eq}
use Rattle.std.proofs.lemmas.Int.{ints}
use Rattle.std.proofs.lemmas.List.{get_or-set_same, length-map, length-set}
use Rattle.std.proofs.lemmas.List.Elements.{All-cons, All-head, All-nil, All-tail, All-weaker}
use Rattle.shape_data.specs.declared.machine.Cell.{Cell}
use Rattle.shape_data.specs.declared.program.Field.{Field}
use Rattle.shape_data.specs.declared.program.StructDef.{StructDef}
use Rattle.shape_data.specs.declared.symbolic.Atom.{Atom}
use Rattle.shape_data.specs.declared.symbolic.Atom.TheVariants.{Points, Seg, Junk}
use Rattle.shape_data.specs.declared.symbolic.Exp.{Exp}
use Rattle.shape_data.specs.declared.symbolic.Exp.TheVariants.{Var, Const}
use Rattle.shape_data.specs.declared.symbolic.Fact.{Fact}
use Rattle.shape_data.specs.declared.symbolic.SymHeap.{SymHeap}
use Rattle.shape_data.specs.Heap.{cell_at, put, struct_named, HasShape, IsHeap, IsSum}
use Rattle.shape_data.specs.Meaning.{value, AreTrueFacts, HoldsAtoms, Meets}
use Rattle.shape_data.specs.WellFormed.{IsAtom, Limits}
use Rattle.sym_parts.proofs.ShapesLemmas.Atoms.{HoldsAtoms-is_heap}
use Rattle.sym_parts.proofs.ShapesLemmas.Cells.{cell_at-put_other, IsHeap-put}
use Rattle.sym_parts.proofs.ShapesLemmas.Sums.{IsHeap-empty, IsSum-unit, IsSum-unit_right}
use Rattle.sym_parts.specs.Laws.Expressions.{has_double, is_among, same_exp}
use Rattle.sym_parts.specs.Laws.Addresses.{addresses}
use Rattle.sym_parts.specs.Laws.Each.{EachInFact}
use Rattle.sym_parts.proofs.LawsLemmas.CellLemmas.{put_is_sum}
use Rattle.sym_parts.proofs.LawsLemmas.ExpressionLemmas.{same_exp-itself}
use Rattle.sym_pure.specs.Contradictions.{do_sources_clash, has_clash, has_same_sides}
use Rattle.sym_pure.specs.IsNormal.{are_in_order, are_normal_atoms, are_normal_facts, has_redundant, has_two_junk, is_normal_heap, is_read}
use Rattle.sym_pure.specs.IsNormal.{is_read_atom, is_read_fact}
use Rattle.sym_pure.specs.Emptying.{is_empty}
use Rattle.sym_samples.specs.Laws.{IsLow, IsShaped, NormalIsMet, WellFormedIsShaped}
use Rattle.sym_samples.specs.Samples.{has_sample, heap_of, is_variable, number_of, plain, starts, zeros}
use Rattle.sym_samples.proofs.NumberLaws.{both_true, not_true, plain-same, read_value, true_facts}

-- ---- shapes of the cells

shaped-map : (structs : List StructDef) (s : ℕ → ℤ) (kind : List ℕ) (fields : List Exp) (found : Option StructDef) →
    IsSomeAnd found (λ def. length fields ≡ length def.fields) → IsSomeAnd found (λ def. length (map (value s) fields) ≡ length def.fields)
shaped-map structs s kind fields None h = h
shaped-map structs s kind fields (Some def) h = length-map fields (value s) ∙ h

shaped-link : (found : Option StructDef) (link : ℕ) (to : ℤ) → IsSomeAnd found (λ def. link < length def.fields) →
    IsSomeAnd found (λ def. length (slice_set (zeros found) link to) ≡ length def.fields)
shaped-link None link to h = h
shaped-link (Some def) link to h = length-set (zeros (Some def)) link to ∙ length-map def.fields (λ (field : Field). pos 0)

linked : (found : Option StructDef) (link : ℕ) (to : ℤ) → IsSomeAnd found (λ def. link < length def.fields) →
    slice_index_or (slice_set (zeros found) link to) link (pos 0) ≡ to
linked None link to h = absurd h
linked (Some def) link to h =
    let same : length (zeros (Some def)) ≡ length def.fields = length-map def.fields (λ (field : Field). pos 0) in
    let within : link < length def.fields = h in
    get_or-set_same (zeros (Some def)) link to (pos 0) (omega arith)

-- ---- the sources

-- a source is a variable with its plain number
abbrev IsPlain : (ℕ → ℤ) → Exp → Type 0
IsPlain s e = (x : ℕ) × (e ≡ Var x) × (s x ≡ plain x)

positive : (s : ℕ → ℤ) (e : Exp) → IsPlain s e → pos 0 <ℤ value s e
positive s e (x, is, plainly) = let number : value s e ≡ pos (4294967296 + x) = ap (value s) is ∙ plainly in rw number (grind (arith, ints))

-- different sources have different numbers
differ : (s : ℕ → ℤ) (e f : Exp) → IsPlain s e → IsPlain s f → same_exp e f ≡ false → int_eq (value s f) (value s e) ≡ false
differ s e f (x, e_is, e_plain) (y, f_is, f_plain) apart = by_test (int_eq (value s f) (value s e)) refl
  where
    by_test : (b : Bool) → int_eq (value s f) (value s e) ≡ b → int_eq (value s f) (value s e) ≡ false
    by_test false h = h
    by_test true h =
        let same : value s f ≡ value s e = (Decides-int_eq (value s f) (value s e)).0 h in
        let numbers : plain y ≡ plain x = sym (ap (value s) f_is ∙ f_plain) ∙ same ∙ ap (value s) e_is ∙ e_plain in
        let is : y ≡ x = plain-same y x numbers in
        let equal : e ≡ f = e_is ∙ ap (λ z. Var z) (sym is) ∙ sym f_is in
        let wrong : same_exp e f ≡ true = ap (same_exp e) (sym equal) ∙ same_exp-itself e in
        let no : true ≡ false = sym wrong ∙ apart in cc

module _ (structs : List StructDef) (s : ℕ → ℤ) where
  -- an address that is no source has no cell
  none_there : (atoms : List Atom) (e : Exp) → IsPlain s e → All (IsPlain s) (starts atoms) → is_among e (starts atoms) ≡ false →
      cell_at (heap_of structs s atoms) (value s e) ≡ None
  none_there [] e plainly others out = refl
  none_there (Points at kind fields ∷ atoms) e plainly others out =
      let parts : (same_exp e at ≡ false) × (is_among e (starts atoms) ≡ false) =
      or_parts (same_exp e at) (is_among e (starts atoms)) out in
      cell_at-put_other (record { at = value s at; kind = kind; fields = map (value s) fields }) (heap_of structs s atoms) (value s e)
      (differ s e at plainly (All-head (IsPlain s) at (starts atoms) others) parts.0)
      ∙ none_there atoms e plainly (All-tail (IsPlain s) at (starts atoms) others) parts.1
  none_there (Seg kind link from to ∷ atoms) e plainly others out =
      let parts : (same_exp e from ≡ false) × (is_among e (starts atoms) ≡ false) =
      or_parts (same_exp e from) (is_among e (starts atoms)) out in
      cell_at-put_other
      (record { at = value s from; kind = kind; fields = slice_set (zeros (struct_named structs kind)) link (value s to) })
      (heap_of structs s atoms) (value s e) (differ s e from plainly (All-head (IsPlain s) from (starts atoms) others) parts.0)
      ∙ none_there atoms e plainly (All-tail (IsPlain s) from (starts atoms) others) parts.1
  none_there (Junk ∷ atoms) e plainly others out = none_there atoms e plainly others out

  pub holds_atoms : (atoms : List Atom) → All (IsShaped structs) atoms → All (IsPlain s) (starts atoms) →
      has_double (starts atoms) ≡ false → HoldsAtoms structs s atoms (heap_of structs s atoms)
  holds_atoms [] formed plainly distinct = refl
  holds_atoms (Points at kind fields ∷ atoms) formed plainly distinct =
      let here : IsShaped structs (Points at kind fields) = All-head (IsShaped structs) (Points at kind fields) atoms formed in
      let parts : (is_among at (starts atoms) ≡ false) × (has_double (starts atoms) ≡ false) =
      or_parts (is_among at (starts atoms)) (has_double (starts atoms)) distinct in
      let own : IsPlain s at = All-head (IsPlain s) at (starts atoms) plainly in
      let later : HoldsAtoms structs s atoms (heap_of structs s atoms) =
      holds_atoms atoms (All-tail (IsShaped structs) (Points at kind fields) atoms formed)
      (All-tail (IsPlain s) at (starts atoms) plainly) parts.1 in
      let cell : Cell = record { at = value s at; kind = kind; fields = map (value s) fields } in (
        cell ∷ [],
        heap_of structs s atoms,
        put_is_sum structs cell (heap_of structs s atoms) (positive s at own)
            (shaped-map structs s kind fields (struct_named structs kind) here)
            (none_there atoms at own (All-tail (IsPlain s) at (starts atoms) plainly) parts.0) (HoldsAtoms-is_heap structs s atoms later),
        refl,
        later,
      )
  holds_atoms (Seg kind link from to ∷ atoms) formed plainly distinct =
      let here : IsShaped structs (Seg kind link from to) = All-head (IsShaped structs) (Seg kind link from to) atoms formed in
      let parts : (is_among from (starts atoms) ≡ false) × (has_double (starts atoms) ≡ false) =
      or_parts (is_among from (starts atoms)) (has_double (starts atoms)) distinct in
      let own : IsPlain s from = All-head (IsPlain s) from (starts atoms) plainly in
      let later : HoldsAtoms structs s atoms (heap_of structs s atoms) =
      holds_atoms atoms (All-tail (IsShaped structs) (Seg kind link from to) atoms formed)
      (All-tail (IsPlain s) from (starts atoms) plainly) parts.1 in
      let cell : Cell =
      record { at = value s from; kind = kind; fields = slice_set (zeros (struct_named structs kind)) link (value s to) } in
      let shape : HasShape structs cell = shaped-link (struct_named structs kind) link (value s to) here in
      let alone : IsHeap structs (cell ∷ []) = IsHeap-put cell (positive s from own) shape (IsHeap-empty structs) in (
        cell ∷ [],
        heap_of structs s atoms,
        put_is_sum structs cell (heap_of structs s atoms) (positive s from own) shape
            (none_there atoms from own (All-tail (IsPlain s) from (starts atoms) plainly) parts.0)
            (HoldsAtoms-is_heap structs s atoms later),
        (cell ∷ [], (refl, refl, linked (struct_named structs kind) link (value s to) here), ([], IsSum-unit_right alone, refl)),
        later,
      )
  holds_atoms (Junk ∷ atoms) formed plainly distinct =
      let later : HoldsAtoms structs s atoms (heap_of structs s atoms) =
      holds_atoms atoms (All-tail (IsShaped structs) Junk atoms formed) plainly distinct in
      ([], heap_of structs s atoms, IsSum-unit (HoldsAtoms-is_heap structs s atoms later), tt, later)

-- the sources of a normal heap that are variables have plain numbers
plain_start : (facts : List Fact) (e : Exp) → is_read facts e ≡ true → is_variable e ≡ true → IsPlain (number_of facts) e
plain_start facts (Var x) reads is = (x, refl, read_value facts (Var x) reads)
plain_start facts (Const n) reads is = let no : false ≡ true = is in cc

plain_starts : (facts : List Fact) (atoms : List Atom) → list_all (is_read_atom facts) atoms ≡ true →
    list_all is_variable (starts atoms) ≡ true → All (IsPlain (number_of facts)) (starts atoms)
plain_starts facts [] reads are = All-nil (IsPlain (number_of facts))
plain_starts facts (Points at kind fields ∷ atoms) reads are =
    let read_parts : ((is_read facts at && list_all (is_read facts) fields) ≡ true) × (list_all (is_read_atom facts) atoms ≡ true) =
    both_true (is_read facts at && list_all (is_read facts) fields) (list_all (is_read_atom facts) atoms) reads in
    let parts : (is_variable at ≡ true) × (list_all is_variable (starts atoms) ≡ true) =
    both_true (is_variable at) (list_all is_variable (starts atoms)) are in
    All-cons (IsPlain (number_of facts)) at (starts atoms)
    (plain_start facts at (both_true (is_read facts at) (list_all (is_read facts) fields) read_parts.0).0 parts.0)
    (plain_starts facts atoms read_parts.1 parts.1)
plain_starts facts (Seg kind link from to ∷ atoms) reads are =
    let read_parts : ((is_read facts from && is_read facts to) ≡ true) × (list_all (is_read_atom facts) atoms ≡ true) =
    both_true (is_read facts from && is_read facts to) (list_all (is_read_atom facts) atoms) reads in
    let parts : (is_variable from ≡ true) × (list_all is_variable (starts atoms) ≡ true) =
    both_true (is_variable from) (list_all is_variable (starts atoms)) are in
    All-cons (IsPlain (number_of facts)) from (starts atoms)
    (plain_start facts from (both_true (is_read facts from) (is_read facts to) read_parts.0).0 parts.0)
    (plain_starts facts atoms read_parts.1 parts.1)
plain_starts facts (Junk ∷ atoms) reads are = plain_starts facts atoms (both_true true (list_all (is_read_atom facts) atoms) reads).1 are

facts_hold : (pre : SymHeap) → All (EachInFact IsLow) pre.pure → are_normal_facts pre ≡ true → has_clash pre.pure pre.spatial ≡ false →
    AreTrueFacts (number_of pre.pure) pre.pure
facts_hold pre low normal clash =
    let one : ((are_in_order 0 pre.pure && list_all (is_read_fact pre.pure) pre.pure) ≡ true)
    × (not (has_redundant (addresses pre.spatial) pre.pure) ≡ true) =
    both_true (are_in_order 0 pre.pure && list_all (is_read_fact pre.pure) pre.pure)
    (not (has_redundant (addresses pre.spatial) pre.pure)) normal in
    let two : (are_in_order 0 pre.pure ≡ true) × (list_all (is_read_fact pre.pure) pre.pure ≡ true) =
    both_true (are_in_order 0 pre.pure) (list_all (is_read_fact pre.pure) pre.pure) one.0 in
    true_facts pre.pure pre.pure 0 two.0 two.1 (or_parts (has_same_sides pre.pure) (do_sources_clash pre.pure pre.spatial) clash).0 low
    (λ y above. refl)

atoms_read : (pre : SymHeap) → are_normal_atoms pre ≡ true → list_all (is_read_atom pre.pure) pre.spatial ≡ true
atoms_read pre normal =
    let one : ((list_all (is_read_atom pre.pure) pre.spatial && not (list_any (is_empty [] (addresses pre.spatial)) pre.spatial)) ≡ true)
    × (not (has_two_junk pre.spatial) ≡ true) =
    both_true (list_all (is_read_atom pre.pure) pre.spatial && not (list_any (is_empty [] (addresses pre.spatial)) pre.spatial))
    (not (has_two_junk pre.spatial)) normal in
    (both_true (list_all (is_read_atom pre.pure) pre.spatial) (not (list_any (is_empty [] (addresses pre.spatial)) pre.spatial)) one.0).0

pub normal_is_met : NormalIsMet
normal_is_met structs pre formed low has =
    let first : (is_normal_heap pre ≡ true)
    × ((list_all is_variable (starts pre.spatial) && not (has_double (starts pre.spatial))) ≡ true) =
    both_true (is_normal_heap pre) (list_all is_variable (starts pre.spatial) && not (has_double (starts pre.spatial))) has in
    let second : (list_all is_variable (starts pre.spatial) ≡ true) × (not (has_double (starts pre.spatial)) ≡ true) =
    both_true (list_all is_variable (starts pre.spatial)) (not (has_double (starts pre.spatial))) first.1 in
    let normal : ((are_normal_facts pre && are_normal_atoms pre) ≡ true) × (not (has_clash pre.pure pre.spatial) ≡ true) =
    both_true (are_normal_facts pre && are_normal_atoms pre) (not (has_clash pre.pure pre.spatial)) first.0 in
    let both : (are_normal_facts pre ≡ true) × (are_normal_atoms pre ≡ true) =
    both_true (are_normal_facts pre) (are_normal_atoms pre) normal.0 in (
      number_of pre.pure,
      (λ x logical. refl),
      record {
        facts = facts_hold pre low both.0 (not_true (has_clash pre.pure pre.spatial) normal.1);
        atoms =
            holds_atoms structs (number_of pre.pure) pre.spatial formed (plain_starts pre.pure pre.spatial (atoms_read pre both.1) second.0)
            (not_true (has_double (starts pre.spatial)) second.1);
      },
    )

shaped : (limits : Limits) (structs : List StructDef) (params : ℕ) (atom : Atom) → IsAtom limits structs params atom → IsShaped structs atom
shaped limits structs params (Points at kind fields) h = h.1
shaped limits structs params (Seg kind link from to) h = h.0
shaped limits structs params Junk h = tt

pub well_formed_is_shaped : WellFormedIsShaped
well_formed_is_shaped limits structs params heap is =
    All-weaker (IsAtom limits structs params) (IsShaped structs) (shaped limits structs params) heap.spatial is.atoms

pub met_by : (structs : List StructDef) (pre : SymHeap) (heap : List Cell) → All (IsShaped structs) pre.spatial →
    All (EachInFact IsLow) pre.pure → has_sample pre ≡ true → heap ≡ heap_of structs (number_of pre.pure) pre.spatial →
    Meets structs (number_of pre.pure) heap pre
met_by structs pre heap formed low has is =
    subst (λ (cells : List Cell). Meets structs (number_of pre.pure) cells pre) (sym is) (normal_is_met structs pre formed low has)
