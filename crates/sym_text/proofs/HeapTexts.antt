-- What is read as a heap is the text of a well-formed heap, and the other way round.
use Rattle.std.proofs.Common.{◌≡◌, not, ℕ, zero, suc, ◌+◌, ◌<◌, ◌≤◌, Bool, true, false, List, [], ◌∷◌, ◌++◌, length, map, ◌⊎◌, inl, inr}
use Rattle.std.proofs.Common.{refl, sym, ap, ◌∙◌, subst, append_assoc, arith}
use Rattle.std.proofs.lemmas.List.{append-nil}
use Rattle.std.proofs.lemmas.List.Elements.{All-nil, All-cons, All-head, All-tail}
use Rattle.std.proofs.lemmas.Bool.Decides.{nat_tests}
use Rattle.std.specs.Prelude.{codes, All}
use Rattle.shape_data.specs.declared.program.StructDef.{StructDef}
use Rattle.shape_data.specs.declared.symbolic.Atom.{Atom}
use Rattle.shape_data.specs.declared.symbolic.Fact.{Fact}
use Rattle.shape_data.specs.declared.symbolic.SymHeap.{SymHeap}
use Rattle.shape_data.specs.WellFormed.{IsFact, IsAtom}
use Rattle.sym_text.specs.declared.parts.Part.{Part}
use Rattle.sym_text.specs.declared.parts.Part.TheVariants as part
use Rattle.sym_text.specs.Grammar.{written, HasInts, HoldsInts, IsWritten}
use Rattle.sym_text.specs.Led.{led_texts}
use Rattle.sym_text.specs.Reading.{has_some, with_part, more_may_come}
use Rattle.sym_text.specs.Text.{fact_text, atom_text, joined_texts, heap_text}
use Rattle.sym_text.proofs.Exactly.{Language}
use Rattle.sym_text.proofs.HeapLaws.{SepText, AfterSep, PartsText}
use Rattle.sym_text.proofs.LedTexts.{led_join}
use Rattle.sym_text.proofs.PartTexts.{PartText}

-- the text behind the parts
abbrev pub tail_of : Bool → List ℕ
tail_of true = codes " ret="
tail_of false = []

-- the text of a part
abbrev pub part_text : List StructDef → List (List ℕ) → Part → List ℕ
part_text structs params (part.Fact fact) = fact_text params fact
part_text structs params (part.Atom atom) = atom_text structs params atom
part_text structs params part.Nothing = codes "emp"

-- a part that may stand behind those of a heap
abbrev pub IsPart : List StructDef → List (List ℕ) → SymHeap → Part → Type 0
IsPart structs params heap (part.Fact fact) = (has_some heap.spatial ≡ false) × IsFact written (length params) fact × HasInts fact
IsPart structs params heap (part.Atom atom) = IsAtom written structs (length params) atom × HoldsInts atom
IsPart structs params heap part.Nothing = ⊥

abbrev pub ArePartsOf : List StructDef → List (List ℕ) → SymHeap → List Part → Type 0
ArePartsOf structs params heap [] = Unit {0}
ArePartsOf structs params heap (one ∷ parts) = IsPart structs params heap one × ArePartsOf structs params (with_part heap one) parts

abbrev pub with_parts : SymHeap → List Part → SymHeap
with_parts heap [] = heap
with_parts heap (one ∷ parts) = with_parts (with_part heap one) parts

led_more : (text : List ℕ) (texts : List (List ℕ))
    → led_texts (codes " * ") true (text ∷ texts) ≡ codes " * " ++ led_texts (codes " * ") false (text ∷ texts)
led_more text texts = append_assoc (codes " * ") text (led_texts (codes " * ") true texts)

-- parts that are read, behind those of a heap
pub record AreRead (with_ret : Bool) (structs : List StructDef) (params : List (List ℕ)) (left : ℕ) (heap h : SymHeap)
    (text : List ℕ) : Type 0 where
  pub head : Part
  pub others : List Part
  pub few : suc (length others) ≤ left
  pub are : ArePartsOf structs params heap (head ∷ others)
  pub whole : h ≡ with_parts heap (head ∷ others)
  pub text_so : text ≡ led_texts (codes " * ") false (map (part_text structs params) (head ∷ others)) ++ tail_of with_ret

-- or the heap is empty, and `emp` is read
pub record IsEmp (with_ret is_first : Bool) (heap h : SymHeap) (text : List ℕ) : Type 0 where
  pub is_first_so : is_first ≡ true
  pub whole : h ≡ heap
  pub text_so : text ≡ codes "emp" ++ tail_of with_ret

not_true : (b : Bool) → not b ≡ true → b ≡ false
not_true true is = absurd (let never_so : false ≡ true = is in cc)
not_true false is = refl

sep_end : (with_ret more : Bool) (text : List ℕ) → SepText with_ret more false text → text ≡ tail_of with_ret
sep_end true more text is = is
sep_end false more text is = is

end_sep : (with_ret more : Bool) → SepText with_ret more false (tail_of with_ret)
end_sep true more = refl
end_sep false more = refl

is_part_of : (structs : List StructDef) (params : List (List ℕ)) (is_first : Bool) (heap : SymHeap) (one : Part) (text : List ℕ)
    → PartText structs params (not (has_some heap.spatial)) is_first one text
    → (IsPart structs params heap one × (text ≡ part_text structs params one))
    ⊎ ((one ≡ part.Nothing) × (is_first ≡ true) × (text ≡ codes "emp"))
is_part_of structs params is_first heap (part.Fact fact) text is = inl ((not_true (has_some heap.spatial) is.0, is.1, is.2), is.3)
is_part_of structs params is_first heap (part.Atom atom) text is = inl ((is.0, is.1), is.2)
is_part_of structs params is_first heap part.Nothing text is = inr (refl, is.0, is.1)

pub parts_to : (with_ret : Bool) (structs : List StructDef) (params : List (List ℕ)) (left : ℕ) (is_first : Bool) (heap h : SymHeap)
    (text : List ℕ) → PartsText with_ret structs params left is_first heap h text
    → AreRead with_ret structs params left heap h text ⊎ IsEmp with_ret is_first heap h text
parts_to with_ret structs params zero is_first heap h text is = absurd is
parts_to with_ret structs params (suc left) is_first heap h text row =
    by_sep row.at row.is_right.at row.is_right.is_left row.is_right.is_right
    (is_part_of structs params is_first heap row.at row.left row.is_left)
    (λ is. parts_to with_ret structs params left false (with_part heap row.at) h row.is_right.right is)
    (row.cut ∙ ap (λ t. row.left ++ t) row.is_right.cut)
  where
    Rest : Part → Type 0
    Rest one = AreRead with_ret structs params left (with_part heap one) h row.is_right.right
        ⊎ IsEmp with_ret false (with_part heap one) h row.is_right.right

    by_sep : (one : Part) (more : Bool) → SepText with_ret (more_may_come left one) more row.is_right.left
        → AfterSep (PartsText with_ret structs params left false (with_part heap one)) (with_part heap one) more h row.is_right.right
        → (IsPart structs params heap one × (row.left ≡ part_text structs params one))
        ⊎ ((one ≡ part.Nothing) × (is_first ≡ true) × (row.left ≡ codes "emp"))
        → (PartsText with_ret structs params left false (with_part heap one) h row.is_right.right
        → AreRead with_ret structs params left (with_part heap one) h row.is_right.right
        ⊎ IsEmp with_ret false (with_part heap one) h row.is_right.right)
        → text ≡ row.left ++ (row.is_right.left ++ row.is_right.right)
        → AreRead with_ret structs params (suc left) heap h text ⊎ IsEmp with_ret is_first heap h text
    by_sep one true sep after (inl (is, t)) rest cut = elim (rest after) [
      | inl more ↦ inl (record {
        head = one;
        others = more.head ∷ more.others;
        few = omega (arith, more.few);
        are = (is, more.are);
        whole = more.whole;
        text_so = cut ∙ ap (λ x. x ++ (row.is_right.left ++ row.is_right.right)) t
            ∙ ap (λ x. part_text structs params one ++ x)
            (ap (λ x. x ++ row.is_right.right) sep.1 ∙ ap (λ x. codes " * " ++ x) more.text_so
            ∙ sym (append_assoc (codes " * ") (led_texts (codes " * ") false (map (part_text structs params) (more.head ∷ more.others)))
            (tail_of with_ret))
            ∙ ap (λ x. x ++ tail_of with_ret)
            (sym (led_more (part_text structs params more.head) (map (part_text structs params) more.others))))
            ∙ sym (append_assoc (part_text structs params one)
            (led_texts (codes " * ") true (map (part_text structs params) (more.head ∷ more.others))) (tail_of with_ret));
      })
      | inr emp ↦ absurd (let never_so : false ≡ true = emp.is_first_so in cc)
    ]
    by_sep one true sep after (inr (nothing, so, t)) rest cut =
        absurd (let never_so : more_may_come left part.Nothing
        ≡ true = subst (λ (p : Part). more_may_come left p ≡ true) nothing sep.0 in cc)
    by_sep one false sep after (inl (is, t)) rest cut = inl (record {
      head = one;
      others = [];
      few = omega arith;
      are = (is, tt);
      whole = after.0;
      text_so = cut ∙ ap (λ x. x ++ (row.is_right.left ++ row.is_right.right)) t
          ∙ ap (λ x. part_text structs params one ++ x)
          (ap (λ x. row.is_right.left ++ x) after.1 ∙ append-nil row.is_right.left
          ∙ sep_end with_ret (more_may_come left one) row.is_right.left sep)
          ∙ ap (λ x. x ++ tail_of with_ret) (sym (append-nil (part_text structs params one)));
    })
    by_sep one false sep after (inr (nothing, so, t)) rest cut = inr (record {
      is_first_so = so;
      whole = after.0 ∙ ap (with_part heap) nothing;
      text_so = cut ∙ ap (λ x. x ++ (row.is_right.left ++ row.is_right.right)) t
          ∙ ap (λ x. codes "emp" ++ x)
          (ap (λ x. row.is_right.left ++ x) after.1 ∙ append-nil row.is_right.left
          ∙ sep_end with_ret (more_may_come left one) row.is_right.left sep);
    })

text_of_part : (structs : List StructDef) (params : List (List ℕ)) (is_first : Bool) (heap : SymHeap) (one : Part)
    → IsPart structs params heap one → PartText structs params (not (has_some heap.spatial)) is_first one (part_text structs params one)
text_of_part structs params is_first heap (part.Fact fact) is = (rw is.0 refl, is.1, is.2, refl)
text_of_part structs params is_first heap (part.Atom atom) is = (is.0, is.1, refl)
text_of_part structs params is_first heap part.Nothing is = absurd is

may_more : (structs : List StructDef) (params : List (List ℕ)) (heap : SymHeap) (left : ℕ) (one : Part) → IsPart structs params heap one
    → 0 < left → more_may_come left one ≡ true
may_more structs params heap left (part.Fact fact) is some = grind (arith, nat_tests)
may_more structs params heap left (part.Atom atom) is some = grind (arith, nat_tests)
may_more structs params heap left part.Nothing is some = absurd is

pub parts_back : (with_ret : Bool) (structs : List StructDef) (params : List (List ℕ)) (left : ℕ) (is_first : Bool) (heap : SymHeap)
    (one : Part) (others : List Part) → suc (length others) ≤ left → ArePartsOf structs params heap (one ∷ others)
    → PartsText with_ret structs params left is_first heap (with_parts heap (one ∷ others))
    (led_texts (codes " * ") false (map (part_text structs params) (one ∷ others)) ++ tail_of with_ret)
parts_back with_ret structs params zero is_first heap one others few are = absurd (omega arith)
parts_back with_ret structs params (suc left) is_first heap one [] few are = record {
  at = one;
  left = part_text structs params one;
  right = tail_of with_ret ++ [];
  is_left = text_of_part structs params is_first heap one are.0;
  is_right =
      record {
        at = false;
        left = tail_of with_ret;
        right = [];
        is_left = end_sep with_ret (more_may_come left one);
        is_right = (refl, refl);
        cut = refl;
      };
  cut = ap (λ x. x ++ tail_of with_ret) (append-nil (part_text structs params one))
      ∙ ap (λ x. part_text structs params one ++ x) (sym (append-nil (tail_of with_ret)));
}
parts_back with_ret structs params (suc left) is_first heap one (next ∷ others) few are =
    let rest = parts_back with_ret structs params left false (with_part heap one) next others (omega arith) are.1 in
    let texts = map (part_text structs params) (next ∷ others) in
    record {
      at = one;
      left = part_text structs params one;
      right = codes " * " ++ (led_texts (codes " * ") false texts ++ tail_of with_ret);
      is_left = text_of_part structs params is_first heap one are.0;
      is_right =
          record {
            at = true;
            left = codes " * ";
            right = led_texts (codes " * ") false texts ++ tail_of with_ret;
            is_left = (may_more structs params heap left one are.0 (omega arith), refl);
            is_right = rest;
            cut = refl;
          };
      cut = append_assoc (part_text structs params one) (led_texts (codes " * ") true texts) (tail_of with_ret)
          ∙ ap (λ x. part_text structs params one ++ x)
          (ap (λ x. x ++ tail_of with_ret) (led_more (part_text structs params next) (map (part_text structs params) others))
          ∙ append_assoc (codes " * ") (led_texts (codes " * ") false texts) (tail_of with_ret));
    }

-- FACTS AND ATOMS

abbrev pub parts_of : List Fact → List Atom → List Part
parts_of [] [] = []
parts_of [] (atom ∷ atoms) = part.Atom atom ∷ parts_of [] atoms
parts_of (fact ∷ facts) atoms = part.Fact fact ∷ parts_of facts atoms

pub texts_of : (structs : List StructDef) (params : List (List ℕ)) (facts : List Fact) (atoms : List Atom)
    → map (part_text structs params) (parts_of facts atoms) ≡ map (fact_text params) facts ++ map (atom_text structs params) atoms
texts_of structs params [] [] = refl
texts_of structs params [] (atom ∷ atoms) = ap (λ x. atom_text structs params atom ∷ x) (texts_of structs params [] atoms)
texts_of structs params (fact ∷ facts) atoms = ap (λ x. fact_text params fact ∷ x) (texts_of structs params facts atoms)

pub many_parts : (facts : List Fact) (atoms : List Atom) → length (parts_of facts atoms) ≡ length facts + length atoms
many_parts [] [] = refl
many_parts [] (atom ∷ atoms) = let rest = many_parts [] atoms in omega (arith, rest)
many_parts (fact ∷ facts) atoms = let rest = many_parts facts atoms in omega (arith, rest)

-- parts are facts, and then atoms
pub record InOrder (structs : List StructDef) (params : List (List ℕ)) (heap : SymHeap) (parts : List Part) : Type 0 where
  pub facts : List Fact
  pub atoms : List Atom
  pub are : parts ≡ parts_of facts atoms
  pub whole : with_parts heap parts ≡ record { pure = heap.pure ++ facts; spatial = heap.spatial ++ atoms }
  pub no_fact : has_some heap.spatial ≡ true → facts ≡ []
  pub facts_so : All (IsFact written (length params)) facts
  pub fact_ints : All HasInts facts
  pub atoms_so : All (IsAtom written structs (length params)) atoms
  pub atom_ints : All HoldsInts atoms

has_more : (atoms : List Atom) (atom : Atom) → has_some (atoms ++ (atom ∷ [])) ≡ true
has_more [] atom = refl
has_more (one ∷ atoms) atom = refl

pub in_order : (structs : List StructDef) (params : List (List ℕ)) (heap : SymHeap) (parts : List Part)
    → ArePartsOf structs params heap parts → InOrder structs params heap parts
in_order structs params heap [] are = record {
  facts = [];
  atoms = [];
  are = refl;
  whole = ap (λ (h : SymHeap). h) (same_heap heap (append-nil heap.pure) (append-nil heap.spatial));
  no_fact = λ some. refl;
  facts_so = All-nil (IsFact written (length params));
  fact_ints = All-nil HasInts;
  atoms_so = All-nil (IsAtom written structs (length params));
  atom_ints = All-nil HoldsInts;
}
  where
    same_heap : (heap : SymHeap) {pure : List Fact} {spatial : List Atom} → pure ≡ heap.pure → spatial ≡ heap.spatial
        → heap ≡ record { pure = pure; spatial = spatial }
    same_heap heap p q = rw (p, q) refl
in_order structs params heap (part.Fact fact ∷ parts) are =
    let rest = in_order structs params (with_part heap (part.Fact fact)) parts are.1 in
    record {
      facts = fact ∷ rest.facts;
      atoms = rest.atoms;
      are = ap (λ x. part.Fact fact ∷ x) rest.are;
      whole = rest.whole
          ∙ ap (λ (x : List Fact). record { pure = x; spatial = heap.spatial ++ rest.atoms })
          (append_assoc heap.pure (fact ∷ []) rest.facts);
      no_fact = λ some. absurd (let never_so : true ≡ false = sym some ∙ are.0.0 in cc);
      facts_so = All-cons (IsFact written (length params)) fact rest.facts are.0.1 rest.facts_so;
      fact_ints = All-cons HasInts fact rest.facts are.0.2 rest.fact_ints;
      atoms_so = rest.atoms_so;
      atom_ints = rest.atom_ints;
    }
in_order structs params heap (part.Atom atom ∷ parts) are =
    let rest = in_order structs params (with_part heap (part.Atom atom)) parts are.1 in
    let none = rest.no_fact (has_more heap.spatial atom) in
    record {
      facts = [];
      atoms = atom ∷ rest.atoms;
      are = ap (λ x. part.Atom atom ∷ x) (rest.are ∙ ap (λ (x : List Fact). parts_of x rest.atoms) none);
      whole = rest.whole
          ∙ ap (λ (x : List Fact). record { pure = heap.pure ++ x; spatial = (heap.spatial ++ (atom ∷ [])) ++ rest.atoms }) none
          ∙ ap (λ (x : List Atom). record { pure = heap.pure ++ []; spatial = x }) (append_assoc heap.spatial (atom ∷ []) rest.atoms);
      no_fact = λ some. refl;
      facts_so = All-nil (IsFact written (length params));
      fact_ints = All-nil HasInts;
      atoms_so = All-cons (IsAtom written structs (length params)) atom rest.atoms are.0.0 rest.atoms_so;
      atom_ints = All-cons HoldsInts atom rest.atoms are.0.1 rest.atom_ints;
    }
in_order structs params heap (part.Nothing ∷ parts) are = absurd are.0

pub are_parts : (structs : List StructDef) (params : List (List ℕ)) (heap : SymHeap) (facts : List Fact) (atoms : List Atom)
    → has_some heap.spatial ≡ false ⊎ (facts ≡ []) → All (IsFact written (length params)) facts → All HasInts facts
    → All (IsAtom written structs (length params)) atoms → All HoldsInts atoms
    → ArePartsOf structs params heap (parts_of facts atoms)
    × (with_parts heap (parts_of facts atoms) ≡ record { pure = heap.pure ++ facts; spatial = heap.spatial ++ atoms })
are_parts structs params heap [] [] ordered facts fact_ints atoms_so atom_ints =
    (tt, same_heap heap (append-nil heap.pure) (append-nil heap.spatial))
  where
    same_heap : (heap : SymHeap) {pure : List Fact} {spatial : List Atom} → pure ≡ heap.pure → spatial ≡ heap.spatial
        → heap ≡ record { pure = pure; spatial = spatial }
    same_heap heap p q = rw (p, q) refl
are_parts structs params heap [] (atom ∷ atoms) ordered facts_so fact_ints atoms_so atom_ints =
    let rest =
    are_parts structs params (with_part heap (part.Atom atom)) [] atoms (inr refl) facts_so fact_ints
    (All-tail (IsAtom written structs (length params)) atom atoms atoms_so) (All-tail HoldsInts atom atoms atom_ints) in (
      ((All-head (IsAtom written structs (length params)) atom atoms atoms_so, All-head HoldsInts atom atoms atom_ints), rest.0),
      rest.1
          ∙ ap (λ (x : List Atom). record { pure = heap.pure ++ []; spatial = x }) (append_assoc heap.spatial (atom ∷ []) atoms),
    )
are_parts structs params heap (fact ∷ facts) atoms ordered facts_so fact_ints atoms_so atom_ints =
    let none : has_some heap.spatial ≡ false =
    elim ordered [ inl none ↦ none | inr never_so ↦ absurd (let e : fact ∷ facts ≡ [] = never_so in cc) ] in
    let rest =
    are_parts structs params (with_part heap (part.Fact fact)) facts atoms (inl none)
    (All-tail (IsFact written (length params)) fact facts facts_so) (All-tail HasInts fact facts fact_ints) atoms_so atom_ints in (
      ((none, All-head (IsFact written (length params)) fact facts facts_so, All-head HasInts fact facts fact_ints), rest.0),
      rest.1
          ∙ ap (λ (x : List Fact). record { pure = x; spatial = heap.spatial ++ atoms }) (append_assoc heap.pure (fact ∷ []) facts),
    )

-- THE WHOLE

abbrev pub emp_heap : SymHeap
emp_heap = record { pure = []; spatial = [] }

-- the text of a well-formed heap, and what stands behind its parts
abbrev pub HeapText : Bool → List StructDef → List (List ℕ) → Language SymHeap
HeapText with_ret structs params heap text = IsWritten structs params heap × (text ≡ heap_text structs params heap ++ tail_of with_ret)

joined_led : (text : List ℕ) (texts : List (List ℕ)) → led_texts (codes " * ") false (text ∷ texts) ≡ joined_texts (text ∷ texts)
joined_led text texts = led_join (codes " * ") (text ∷ texts)

pub heap_to : (with_ret : Bool) (structs : List StructDef) (params : List (List ℕ)) (h : SymHeap) (text : List ℕ)
    → PartsText with_ret structs params 4000 true emp_heap h text → HeapText with_ret structs params h text
heap_to with_ret structs params h text is =
    elim (parts_to with_ret structs params 4000 true emp_heap h text is) [ inl read ↦ of_parts read | inr emp ↦ of_emp emp ]
  where
    of_emp : IsEmp with_ret true emp_heap h text → HeapText with_ret structs params h text
    of_emp emp = subst (λ (x : SymHeap). HeapText with_ret structs params x text) (sym emp.whole) (
      record {
        formed = record {
          parts = omega arith;
          facts = All-nil (IsFact written (length params));
          atoms = All-nil (IsAtom written structs (length params));
        };
        facts = All-nil HasInts;
        atoms = All-nil HoldsInts;
      },
      emp.text_so,
    )

    of_parts : AreRead with_ret structs params 4000 emp_heap h text → HeapText with_ret structs params h text
    of_parts read =
        let o = in_order structs params emp_heap (read.head ∷ read.others) read.are in
        let many : suc (length read.others) ≡ length o.facts + length o.atoms = ap length o.are ∙ many_parts o.facts o.atoms in
        let texts : map (part_text structs params) (read.head ∷ read.others)
        ≡ map (fact_text params) o.facts ++ map (atom_text structs params) o.atoms =
        ap (map (part_text structs params)) o.are ∙ texts_of structs params o.facts o.atoms in
        subst (λ (x : SymHeap). HeapText with_ret structs params x text) (sym (read.whole ∙ o.whole)) (
          record {
            formed = record { parts = omega (arith, read.few, many); facts = o.facts_so; atoms = o.atoms_so };
            facts = o.fact_ints;
            atoms = o.atom_ints;
          },
          read.text_so
              ∙ ap (λ x. x ++ tail_of with_ret)
              (joined_led (part_text structs params read.head) (map (part_text structs params) read.others) ∙ ap joined_texts texts),
        )

pub heap_back : (with_ret : Bool) (structs : List StructDef) (params : List (List ℕ)) (h : SymHeap) (text : List ℕ)
    → HeapText with_ret structs params h text → PartsText with_ret structs params 4000 true emp_heap h text
heap_back with_ret structs params h text is =
    subst (λ (t : List ℕ). PartsText with_ret structs params 4000 true emp_heap h t) (sym is.1)
    (of_lists h.pure h.spatial is.0.formed.parts is.0.formed.facts is.0.facts is.0.formed.atoms is.0.atoms)
  where
    of_list : (facts : List Fact) (atoms : List Atom) (parts : List Part) → parts ≡ parts_of facts atoms → length parts ≤ 4000
        → ArePartsOf structs params emp_heap parts → with_parts emp_heap parts ≡ record { pure = facts; spatial = atoms }
        → map (part_text structs params) parts ≡ map (fact_text params) facts ++ map (atom_text structs params) atoms
        → PartsText with_ret structs params 4000 true emp_heap (record { pure = facts; spatial = atoms })
        (joined_texts (map (fact_text params) facts ++ map (atom_text structs params) atoms) ++ tail_of with_ret)
    of_list facts atoms [] same few are whole texts =
        subst (λ (x : SymHeap). PartsText with_ret structs params 4000 true emp_heap x
        (joined_texts (map (fact_text params) facts ++ map (atom_text structs params) atoms) ++ tail_of with_ret)) whole
        (subst (λ (x : List (List ℕ)). PartsText with_ret structs params 4000 true emp_heap emp_heap
        (joined_texts x ++ tail_of with_ret)) texts
        (record {
          at = part.Nothing;
          left = codes "emp";
          right = tail_of with_ret ++ [];
          is_left = (refl, refl);
          is_right =
              record {
                at = false;
                left = tail_of with_ret;
                right = [];
                is_left = end_sep with_ret false;
                is_right = (refl, refl);
                cut = refl;
              };
          cut = ap (λ x. codes "emp" ++ x) (sym (append-nil (tail_of with_ret)));
        }))
    of_list facts atoms (one ∷ others) same few are whole texts =
        subst (λ (x : SymHeap). PartsText with_ret structs params 4000 true emp_heap x
        (joined_texts (map (fact_text params) facts ++ map (atom_text structs params) atoms) ++ tail_of with_ret)) whole
        (subst (λ (x : List ℕ). PartsText with_ret structs params 4000 true emp_heap (with_parts emp_heap (one ∷ others))
        (x ++ tail_of with_ret)) (joined_led (part_text structs params one) (map (part_text structs params) others) ∙ ap joined_texts texts)
        (parts_back with_ret structs params 4000 true emp_heap one others few are))

    of_lists : (facts : List Fact) (atoms : List Atom) → length facts + length atoms ≤ 4000 → All (IsFact written (length params)) facts
        → All HasInts facts → All (IsAtom written structs (length params)) atoms → All HoldsInts atoms
        → PartsText with_ret structs params 4000 true emp_heap (record { pure = facts; spatial = atoms })
        (joined_texts (map (fact_text params) facts ++ map (atom_text structs params) atoms) ++ tail_of with_ret)
    of_lists facts atoms few facts_so fact_ints atoms_so atom_ints =
        let (are, whole) = are_parts structs params emp_heap facts atoms (inl refl) facts_so fact_ints atoms_so atom_ints in
        of_list facts atoms (parts_of facts atoms) refl (let many = many_parts facts atoms in omega arith) are whole
        (texts_of structs params facts atoms)
