-- Canonical forms are well formed, and as large as what they are made of.
use Rattle.std.specs.Prelude.{◌≡◌, ℕ, zero, suc, ◌+◌, ◌*◌, ◌<◌, ◌≤◌, pos, Bool, true, false, not, ◌==◌, ◌&&◌, leb, nat_lt, IsTrue, List, []}
use Rattle.std.specs.Prelude.{◌∷◌, ◌++◌, length, filter, drop, map, position, slice_index_or, All}
use Rattle.std.specs.List.{list_any, position_or_len}
use Rattle.std.specs.Option.{IsSomeAnd}
use Rattle.std.specs.declared.option.Option.{Option}
use Rattle.std.specs.declared.option.Option.TheVariants.{None, Some}
use Rattle.std.proofs.Common.{refl, sym, ap, ◌∙◌, arith, length-append}
use Rattle.std.proofs.lemmas.Bool.{leb-false, lt-ltb, ltb-true}
use Rattle.std.proofs.lemmas.List.{length-map}
use Rattle.std.proofs.lemmas.List.Elements.{All-append, All-cons, All-filter, All-head, All-nil, All-tail}
use Rattle.shape_data.specs.declared.program.StructDef.{StructDef}
use Rattle.shape_data.specs.declared.symbolic.Atom.{Atom}
use Rattle.shape_data.specs.declared.symbolic.Atom.TheVariants.{Points, Seg, Junk}
use Rattle.shape_data.specs.declared.symbolic.Exp.{Exp}
use Rattle.shape_data.specs.declared.symbolic.Exp.TheVariants.{Var, Const}
use Rattle.shape_data.specs.declared.symbolic.Fact.{Fact}
use Rattle.shape_data.specs.declared.symbolic.Fact.TheVariants.{Eq, Ne}
use Rattle.shape_data.specs.declared.symbolic.SymState.{SymState}
use Rattle.shape_data.specs.Heap.{struct_named}
use Rattle.shape_data.specs.WellFormed.{IsAtom, IsExp, IsFact, IsState, Limits}
use Rattle.sym_parts.specs.Laws.Each.{EachInAtom, EachInFact, EachInState}
use Rattle.sym_parts.specs.Laws.Fresh.{is_one_of}
use Rattle.sym_parts.specs.Laws.Junks.{is_junk, is_other}
use Rattle.sym_parts.specs.Laws.Mapped.{on_atom, on_fact}
use Rattle.sym_canon.specs.declared.parts.Variables.{Variables}
use Rattle.sym_canon.specs.declared.parts.Variables.TheVariants.{Existential}
use Rattle.sym_canon.specs.Canonical.{arranged, sight_state, with_atoms_placed}
use Rattle.sym_canon.specs.FactOrder.{is_before, is_fact_before, sorted_among, sorted_facts, with_fact, with_sides_in_order}
use Rattle.sym_canon.specs.Numbering.{is_numbered, sides, sight, sight_atoms, sight_facts, with_number, with_sight}
use Rattle.sym_canon.specs.Placing.{exps_of, all_lead_to, is_placed, places_some, place_at, place, params_from, placed}
use Rattle.sym_canon.proofs.SightLaws.{Known, state-known}
use Rattle.sym_forms.specs.Laws.{CanonStateIsWellFormed}
use Rattle.sym_forms.specs.Sizes.{Brings, fields_in, fields_of, most_exps}
use Rattle.sym_forms.proofs.CountLaws.{count}
use Rattle.sym_forms.proofs.PlacedLaws.{placed-counts}
use Rattle.sym_forms.proofs.SortedLaws.{blind, sorted-count}

-- ---- placing keeps what holds of each atom, and their number

module _ (P : Atom → Type 0) where
  at-each : (again : List Exp → List Atom → List Atom) → ((queue : List Exp) (left : List Atom) → All P left → All P (again queue left)) →
      (queue : List Exp) (left : List Atom) (o : Option ℕ) → All P left → All P (place_at again queue left o)
  at-each again each queue [] None h = each [] [] h
  at-each again each queue (first ∷ rest) None h =
      All-cons P first (again (exps_of first) rest) (All-head P first rest h) (each (exps_of first) rest (All-tail P first rest h))
  at-each again each queue left (Some k) h =
      let e : Exp = slice_index_or queue k (Const (pos 0)) in
      let now : List Atom = filter (is_placed left e) left in
      let others : List Atom = filter (λ atom. not (is_placed left e atom)) left in
      All-append P now (again (drop (k + 1) queue ++ all_lead_to now) others) (All-filter (is_placed left e) P left h)
      (each (drop (k + 1) queue ++ all_lead_to now) others (All-filter (λ atom. not (is_placed left e atom)) P left h))

  place-each : (turns : ℕ) (queue : List Exp) (left : List Atom) → All P left → All P (place turns queue left)
  place-each zero queue left h = h
  place-each (suc turns) queue left h =
      at-each (λ later others. place turns later others) (λ later others k. place-each turns later others k) queue left
      (position (places_some left) queue) h

  pub placed-each : (params : ℕ) (locals : List Exp) (atoms : List Atom) → All P atoms → All P (placed params locals atoms)
  placed-each params locals atoms h =
      All-append P (place (length (filter is_other atoms)) (params_from 0 params ++ locals) (filter is_other atoms)) (filter is_junk atoms)
      (place-each (length (filter is_other atoms)) (params_from 0 params ++ locals) (filter is_other atoms) (All-filter is_other P atoms h))
      (All-filter is_junk P atoms h)

count-all : {A : Type 0} (xs : List A) → count (λ x. true) xs ≡ length xs
count-all [] = refl
count-all (x ∷ xs) = ap suc (count-all xs)

pub placed-length : (params : ℕ) (locals : List Exp) (atoms : List Atom) → length (placed params locals atoms) ≡ length atoms
placed-length params locals atoms =
    sym (count-all (placed params locals atoms)) ∙ (placed-counts params locals atoms (λ atom. true) ∙ count-all atoms)

-- and how many fields they have
fields-append : (xs ys : List Atom) → fields_in (xs ++ ys) ≡ fields_in xs + fields_in ys
fields-append [] ys = omega arith
fields-append (x ∷ xs) ys = let rest : fields_in (xs ++ ys) ≡ fields_in xs + fields_in ys = fields-append xs ys in omega (arith, rest)

fields-parted : (test : Atom → Bool) (xs : List Atom) →
    fields_in (filter test xs) + fields_in (filter (λ atom. not (test atom)) xs) ≡ fields_in xs
fields-parted test [] = omega arith
fields-parted test (x ∷ xs) = by_test (test x) refl (fields-parted test xs)
  where
    by_test : (b : Bool) → test x ≡ b → fields_in (filter test xs) + fields_in (filter (λ atom. not (test atom)) xs) ≡ fields_in xs →
        fields_in (filter test (x ∷ xs)) + fields_in (filter (λ atom. not (test atom)) (x ∷ xs)) ≡ fields_in (x ∷ xs)
    by_test true e k = rw e (omega (arith, k))
    by_test false e k = rw e (omega (arith, k))

at-fields : (again : List Exp → List Atom → List Atom) →
    ((queue : List Exp) (left : List Atom) → fields_in (again queue left) ≡ fields_in left) →
    (queue : List Exp) (left : List Atom) (o : Option ℕ) → fields_in (place_at again queue left o) ≡ fields_in left
at-fields again each queue [] None = each [] []
at-fields again each queue (first ∷ rest) None = ap (λ n. fields_of first + n) (each (exps_of first) rest)
at-fields again each queue left (Some k) =
    let e : Exp = slice_index_or queue k (Const (pos 0)) in
    let now : List Atom = filter (is_placed left e) left in
    let others : List Atom = filter (λ atom. not (is_placed left e atom)) left in
    fields-append now (again (drop (k + 1) queue ++ all_lead_to now) others)
    ∙ (ap (λ n. fields_in now + n) (each (drop (k + 1) queue ++ all_lead_to now) others) ∙ fields-parted (is_placed left e) left)

place-fields : (turns : ℕ) (queue : List Exp) (left : List Atom) → fields_in (place turns queue left) ≡ fields_in left
place-fields zero queue left = refl
place-fields (suc turns) queue left =
    at-fields (λ later others. place turns later others) (λ later others. place-fields turns later others) queue left
    (position (places_some left) queue)

junk-fields : (atoms : List Atom) → fields_in (filter is_junk atoms) ≡ fields_in (filter (λ atom. not (is_other atom)) atoms)
junk-fields [] = refl
junk-fields (Points at kind fields ∷ atoms) = junk-fields atoms
junk-fields (Seg kind link from to ∷ atoms) = junk-fields atoms
junk-fields (Junk ∷ atoms) = ap (λ n. 0 + n) (junk-fields atoms)

placed-fields : (params : ℕ) (locals : List Exp) (atoms : List Atom) → fields_in (placed params locals atoms) ≡ fields_in atoms
placed-fields params locals atoms =
    let others : List Atom = filter is_other atoms in
    let all : fields_in (placed params locals atoms)
    ≡ fields_in (place (length others) (params_from 0 params ++ locals) others) + fields_in (filter is_junk atoms) =
    fields-append (place (length others) (params_from 0 params ++ locals) others) (filter is_junk atoms) in
    let same : fields_in (place (length others) (params_from 0 params ++ locals) others) ≡ fields_in others =
    place-fields (length others) (params_from 0 params ++ locals) others in
    let parts : fields_in others + fields_in (filter (λ atom. not (is_other atom)) atoms) ≡ fields_in atoms =
    fields-parted is_other atoms in
    let junk : fields_in (filter is_junk atoms) ≡ fields_in (filter (λ atom. not (is_other atom)) atoms) = junk-fields atoms in
    omega (arith, all, same, parts, junk)

-- ---- sorting keeps what holds of each fact, either way round, and their number

module _ (P : Fact → Type 0) (turned : (left right : Exp) → P (Ne left right) → P (Ne right left)) where
  sides-each : (fact : Fact) → P fact → P (with_sides_in_order fact)
  sides-each (Eq left right) h = h
  sides-each (Ne left right) h = by_test (is_before right left) refl
    where
      by_test : (b : Bool) → is_before right left ≡ b → P (with_sides_in_order (Ne left right))
      by_test true e = rw e (turned left right h)
      by_test false e = rw e h

  with-each : (fact : Fact) (facts : List Fact) → P fact → All P facts → All P (with_fact fact facts)
  with-each fact [] one h = All-cons P fact [] one h
  with-each fact (first ∷ facts) one h = by_test (is_fact_before fact first) refl (with-each fact facts one (All-tail P first facts h))
    where
      by_test : (b : Bool) → is_fact_before fact first ≡ b → All P (with_fact fact facts) → All P (with_fact fact (first ∷ facts))
      by_test true e k = rw e (All-cons P fact (first ∷ facts) one h)
      by_test false e k = rw e (All-cons P first (with_fact fact facts) (All-head P first facts h) k)

  among-each : (facts sorted : List Fact) → All P facts → All P sorted → All P (sorted_among facts sorted)
  among-each [] sorted h k = k
  among-each (fact ∷ facts) sorted h k =
      among-each facts (with_fact (with_sides_in_order fact) sorted) (All-tail P fact facts h)
      (with-each (with_sides_in_order fact) sorted (sides-each fact (All-head P fact facts h)) k)

  pub sorted-each : (facts : List Fact) → All P facts → All P (sorted_facts facts)
  sorted-each facts h = among-each facts [] h (All-nil P)

pub sorted-length : (facts : List Fact) → length (sorted_facts facts) ≡ length facts
sorted-length facts = sym (count-all (sorted_facts facts))
    ∙ (sorted-count (λ fact. true) (blind (λ fact. true) (λ left right. refl)) facts ∙ count-all facts)

-- ---- numbering

-- no more variables come into sight than there are expressions
step-longer : (which : Variables) (seen : List ℕ) (e : Exp) → length (with_sight which seen e) ≤ length seen + 1
step-longer which seen (Const n) = omega arith
step-longer which seen (Var x) = by_test (is_numbered which x && not (is_one_of seen x)) refl
  where
    by_test : (b : Bool) → (is_numbered which x && not (is_one_of seen x)) ≡ b → length (with_sight which seen (Var x)) ≤ length seen + 1
    by_test true e = rw e (omega (arith, length-append seen (x ∷ [])))
    by_test false e = rw e (omega arith)

sight-longer : (which : Variables) (es : List Exp) (seen : List ℕ) → length (sight which es seen) ≤ length seen + length es
sight-longer which [] seen = omega arith
sight-longer which (e ∷ es) seen =
    let one : length (with_sight which seen e) ≤ length seen + 1 = step-longer which seen e in
    let rest : length (sight which es (with_sight which seen e)) ≤ length (with_sight which seen e) + length es =
    sight-longer which es (with_sight which seen e) in
    omega (arith, one, rest)

exps-few : (atom : Atom) → length (exps_of atom) ≤ fields_of atom + 2
exps-few (Points at kind fields) = omega arith
exps-few (Seg kind link from to) = omega arith
exps-few Junk = omega arith

sides-two : (fact : Fact) → length (sides fact) ≡ 2
sides-two (Eq left right) = refl
sides-two (Ne left right) = refl

atoms-longer : (which : Variables) (atoms : List Atom) (seen : List ℕ) →
    length (sight_atoms which atoms seen) ≤ length seen + (fields_in atoms + 2 * length atoms)
atoms-longer which [] seen = omega arith
atoms-longer which (atom ∷ atoms) seen =
    let one : length (sight which (exps_of atom) seen) ≤ length seen + length (exps_of atom) = sight-longer which (exps_of atom) seen in
    let few : length (exps_of atom) ≤ fields_of atom + 2 = exps-few atom in
    let rest : length (sight_atoms which atoms (sight which (exps_of atom) seen))
    ≤ length (sight which (exps_of atom) seen) + (fields_in atoms + 2 * length atoms) =
    atoms-longer which atoms (sight which (exps_of atom) seen) in
    omega (arith, one, few, rest)

facts-longer : (which : Variables) (facts : List Fact) (seen : List ℕ) →
    length (sight_facts which facts seen) ≤ length seen + 2 * length facts
facts-longer which [] seen = omega arith
facts-longer which (fact ∷ facts) seen =
    let one : length (sight which (sides fact) seen) ≤ length seen + length (sides fact) = sight-longer which (sides fact) seen in
    let two : length (sides fact) ≡ 2 = sides-two fact in
    let rest : length (sight_facts which facts (sight which (sides fact) seen))
    ≤ length (sight which (sides fact) seen) + 2 * length facts = facts-longer which facts (sight which (sides fact) seen) in
    omega (arith, one, two, rest)

pub seen-longer : (which : Variables) (state : SymState) (seen : List ℕ) →
    length (sight_state which state seen) ≤ length seen + most_exps state
seen-longer which state seen =
    let locals : length (sight which state.locals seen) ≤ length seen + length state.locals = sight-longer which state.locals seen in
    let atoms = atoms-longer which state.heap.spatial (sight which state.locals seen) in
    let facts = facts-longer which state.heap.pure (sight_atoms which state.heap.spatial (sight which state.locals seen)) in
    omega (arith, locals, atoms, facts)

pub few-seen : (state : SymState) → length (sight_state Existential state []) ≤ most_exps state
few-seen state = let few : length (sight_state Existential state [])
    ≤ 0 + most_exps state = seen-longer Existential state [] in omega (arith, few)

-- the place of what is in a list
place-low : (test : ℕ → Bool) (xs : List ℕ) → list_any test xs ≡ true → position_or_len test xs < length xs
place-low test [] h = cc
place-low test (x ∷ xs) h = by_test (test x) refl (place-low test xs) h
  where
    by_test : (b : Bool) → test x ≡ b → (list_any test xs ≡ true → position_or_len test xs < length xs) → list_any test (x ∷ xs) ≡ true →
        position_or_len test (x ∷ xs) < length (x ∷ xs)
    by_test true e go_on k = rw e (omega arith)
    by_test false e go_on k =
        let told : list_any test xs ≡ true = rw e at k in
        let inner : position_or_len test xs < length xs = go_on told in
        rw e (omega (arith, inner))

-- ---- limits

module _ (from to : Limits) (structs : List StructDef) (params : ℕ) where
  -- a function that brings expressions within the limits brings atoms and facts
  module _ (P : Exp → Type 0) (f : Exp → Exp) (brings : (e : Exp) → P e → IsExp from params e → IsExp to params (f e)) where
    exps-brought : (es : List Exp) → All P es → All (IsExp from params) es → All (IsExp to params) (map f es)
    exps-brought [] each is = All-nil (IsExp to params)
    exps-brought (e ∷ es) each is =
        All-cons (IsExp to params) (f e) (map f es) (brings e (All-head P e es each) (All-head (IsExp from params) e es is))
        (exps-brought es (All-tail P e es each) (All-tail (IsExp from params) e es is))

    as-many : (fields : List Exp) (def : Option StructDef) → IsSomeAnd def (λ d. length fields ≡ length d.fields) →
        IsSomeAnd def (λ d. length (map f fields) ≡ length d.fields)
    as-many fields None h = h
    as-many fields (Some def) h = length-map fields f ∙ h

    atom-brought : (atom : Atom) → EachInAtom P atom → IsAtom from structs params atom → IsAtom to structs params (on_atom f atom)
    atom-brought (Points at kind fields) each is =
        (brings at each.0 is.0, as-many fields (struct_named structs kind) is.1, exps-brought fields each.1 is.2)
    atom-brought (Seg kind link from to) each is = (is.0, brings from each.0 is.1, brings to each.1 is.2)
    atom-brought Junk each is = tt

    fact-brought : (fact : Fact) → EachInFact P fact → IsFact from params fact → IsFact to params (on_fact f fact)
    fact-brought (Eq left right) each is = (brings left each.0 is.0, brings right each.1 is.1)
    fact-brought (Ne left right) each is = (brings left each.0 is.0, brings right each.1 is.1)

    pub atoms-brought : (atoms : List Atom) → All (EachInAtom P) atoms → All (IsAtom from structs params) atoms →
        All (IsAtom to structs params) (map (on_atom f) atoms)
    atoms-brought [] each is = All-nil (IsAtom to structs params)
    atoms-brought (atom ∷ atoms) each is =
        All-cons (IsAtom to structs params) (on_atom f atom) (map (on_atom f) atoms)
        (atom-brought atom (All-head (EachInAtom P) atom atoms each) (All-head (IsAtom from structs params) atom atoms is))
        (atoms-brought atoms (All-tail (EachInAtom P) atom atoms each) (All-tail (IsAtom from structs params) atom atoms is))

    pub facts-brought : (facts : List Fact) → All (EachInFact P) facts → All (IsFact from params) facts →
        All (IsFact to params) (map (on_fact f) facts)
    facts-brought [] each is = All-nil (IsFact to params)
    facts-brought (fact ∷ facts) each is =
        All-cons (IsFact to params) (on_fact f fact) (map (on_fact f) facts)
        (fact-brought fact (All-head (EachInFact P) fact facts each) (All-head (IsFact from params) fact facts is))
        (facts-brought facts (All-tail (EachInFact P) fact facts each) (All-tail (IsFact from params) fact facts is))

  turned-fact : (left right : Exp) → IsFact to params (Ne left right) → IsFact to params (Ne right left)
  turned-fact left right h = (h.1, h.0)

  -- numbering by first sight
  module _ (seen : List ℕ) (count : ℕ) (few : length seen ≤ count) (b : Brings from to params count) where
    number-brings : (e : Exp) → Known Existential seen e → IsExp from params e → IsExp to params (with_number 65536 seen e)
    number-brings (Const n) known is = tt
    number-brings (Var x) known is = by_place (nat_lt (position_or_len (λ y. x == y) seen) (length seen)) refl
      where
        logical : (d : Bool) → leb 65536 x ≡ d → nat_lt (position_or_len (λ y. x == y) seen) (length seen) ≡ false →
            IsTrue (to.variables params x)
        logical true e outside =
            let there : is_one_of seen x ≡ true = rw e at known in
            let inside : nat_lt (position_or_len (λ y. x == y) seen) (length seen) ≡ true =
            lt-ltb (position_or_len (λ y. x == y) seen) (length seen) (place-low (λ y. x == y) seen there) in
            cc
        logical false e outside = b.logical x (leb-false 65536 x e) is

        by_place : (c : Bool) → nat_lt (position_or_len (λ y. x == y) seen) (length seen) ≡ c →
            IsExp to params (with_number 65536 seen (Var x))
        by_place true e =
            let low : position_or_len (λ y. x == y) seen < length seen = ltb-true (position_or_len (λ y. x == y) seen) (length seen) e in
            rw e (b.numbered (position_or_len (λ y. x == y) seen) (omega (arith, low, few)))
        by_place false e = rw e (logical (leb 65536 x) refl e)

pub arranged_is_well_formed : (from to : Limits) (structs : List StructDef) (params slots : ℕ) (state : SymState) →
    Brings from to params (most_exps state) →
    IsState from structs params slots state → IsState to structs params slots (arranged params state)
arranged_is_well_formed from to structs params slots state b is =
    let before : SymState = with_atoms_placed params state in
    let seen : List ℕ = sight_state Existential before [] in
    let known : EachInState (Known Existential seen) before = state-known Existential before [] in
    let atoms : All (IsAtom from structs params) before.heap.spatial =
    placed-each (IsAtom from structs params) params state.locals state.heap.spatial is.heap.atoms in
    let fields : fields_in before.heap.spatial ≡ fields_in state.heap.spatial = placed-fields params state.locals state.heap.spatial in
    let long : length before.heap.spatial ≡ length state.heap.spatial = placed-length params state.locals state.heap.spatial in
    let most : length seen ≤ most_exps before = few-seen before in
    let few : length seen ≤ most_exps state = omega (arith, most, fields, long) in
    let brings : (e : Exp) → Known Existential seen e → IsExp from params e → IsExp to params (with_number 65536 seen e) =
    number-brings from to structs params seen (most_exps state) few b in
    let facts : All (IsFact to params) (map (on_fact (with_number 65536 seen)) state.heap.pure) =
    facts-brought from to structs params (Known Existential seen)
    (with_number 65536 seen) brings state.heap.pure known.heap.facts is.heap.facts in
    let mapped : length (map (on_fact (with_number 65536 seen)) state.heap.pure) ≡ length state.heap.pure =
    length-map state.heap.pure (on_fact (with_number 65536 seen)) in
    let numbered_atoms : length (map (on_atom (with_number 65536 seen)) before.heap.spatial) ≡ length before.heap.spatial =
    length-map before.heap.spatial (on_atom (with_number 65536 seen)) in
    record {
      one_each = length-map state.locals (with_number 65536 seen) ∙ is.one_each;
      locals =
          exps-brought from to structs params (Known Existential seen) (with_number 65536 seen) brings state.locals known.locals is.locals;
      heap = record {
        parts = let small : from.parts ≤ to.parts = b.parts in omega (arith, mapped, numbered_atoms, long, is.heap.parts, small);
        facts = facts;
        atoms =
            atoms-brought from to structs params (Known Existential seen)
            (with_number 65536 seen) brings before.heap.spatial known.heap.atoms atoms;
      };
    }

pub canon_state_is_well_formed : CanonStateIsWellFormed
canon_state_is_well_formed from to structs params slots state b is =
    let fits : IsState to structs params slots (arranged params state) = arranged_is_well_formed from to structs params slots state b is in
    let sorted : length (sorted_facts (arranged params state).heap.pure) ≡ length (arranged params state).heap.pure =
    sorted-length (arranged params state).heap.pure in
    record {
      one_each = fits.one_each;
      locals = fits.locals;
      heap = record {
        parts = omega (arith, sorted, fits.heap.parts);
        facts = sorted-each (IsFact to params) (turned-fact from to structs params) (arranged params state).heap.pure fits.heap.facts;
        atoms = fits.heap.atoms;
      };
    }
