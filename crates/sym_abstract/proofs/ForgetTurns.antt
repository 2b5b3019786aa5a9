-- Numbers above the variables of lists, and what is forgotten, one after another.
use Rattle.std.specs.Prelude.{◌≡◌, ℕ, zero, suc, ◌+◌, ◌<◌, length, List, [], ◌∷◌, ◌++◌, if◌then◌else◌, slice_get}
use Rattle.std.proofs.Common.{refl, sym, ap, ◌∙◌, arith, add-one, append_assoc, drop, drop-cons, get_or}
use Rattle.shape_data.specs.declared.program.Field.{Field}
use Rattle.shape_data.specs.declared.program.HeadMark.{HeadMark}
use Rattle.shape_data.specs.declared.program.StructDef.{StructDef}
use Rattle.shape_data.specs.declared.symbolic.Atom.{Atom}
use Rattle.shape_data.specs.declared.symbolic.Exp.{Exp}
use Rattle.shape_data.specs.declared.symbolic.Exp.TheVariants.{Var}
use Rattle.shape_data.specs.declared.symbolic.SymState.{SymState}
use Rattle.sym_canon.specs.Placing.{exps_of}
use Rattle.sym_forms.specs.Sizes.{fields_of}
use Rattle.abstraction_laws.specs.Forgetting.{above, above_exp, first_new, forget_atom, forget_atoms, forget_fields, forget_slots}
use Rattle.abstraction_laws.specs.Forgetting.{is_forgotten}
use Rattle.abstraction_laws.specs.Occurrences.{exps_of_atoms, exps_of_facts, exps_of_heap}
use Rattle.sym_forms.specs.Sizes.{fields_in}
use Rattle.sym_abstract.specs.Places.{forget_at}
use Rattle.sym_abstract.proofs.Adding.{next-is}

pub above-append : (first : ℕ) (xs ys : List Exp) → above first (xs ++ ys) ≡ above (above first xs) ys
above-append first [] ys = refl
above-append first (e ∷ es) ys = above-append (above_exp first e) es ys

-- a turn over atoms
pub above-turn : (atoms : List Atom) (i first now next : ℕ) (atom : Atom) → i < length atoms → atom ≡ get_or atoms i atom →
    above first (exps_of_atoms atoms) ≡ above now (exps_of_atoms (drop i atoms)) → next ≡ above now (exps_of atom) →
    above first (exps_of_atoms atoms) ≡ above next (exps_of_atoms (drop (i + 1) atoms))
above-turn atoms i first now next atom low is before step =
    before ∙ (ap (λ rest. above now (exps_of_atoms rest)) (next-is atoms i atom low is)
    ∙ (above-append now (exps_of atom) (exps_of_atoms (drop (i + 1) atoms))
    ∙ ap (λ n. above n (exps_of_atoms (drop (i + 1) atoms))) (sym step)))

pub first-in-turn : (state : SymState) (locals atoms all : ℕ) → locals ≡ above 65536 state.locals →
    atoms ≡ above locals (exps_of_atoms state.heap.spatial) → all ≡ above atoms (exps_of_facts state.heap.pure) → all ≡ first_new state
first-in-turn state locals atoms all a b c =
    c ∙ (ap (λ n. above n (exps_of_facts state.heap.pure)) (b ∙ ap (λ n. above n (exps_of_atoms state.heap.spatial)) a)
    ∙ sym (above-append 65536 state.locals (exps_of_heap state.heap)
    ∙ above-append (above 65536 state.locals) (exps_of_atoms state.heap.spatial) (exps_of_facts state.heap.pure)))

-- a turn over slots
pub slot-turn : (mark : HeadMark) (locals : List Exp) (first i : ℕ) (d : Exp) (made next : List Exp) → i < length locals →
    forget_slots mark first 0 locals ≡ made ++ forget_slots mark (first + i) i (drop i locals) →
    next ≡ made ++ (if is_forgotten mark i (get_or locals i d) then Var (first + i) else get_or locals i d) ∷ [] →
    forget_slots mark first 0 locals ≡ next ++ forget_slots mark (first + (i + 1)) (i + 1) (drop (i + 1) locals)
slot-turn mark locals first i d made next low before step =
    let there : drop i locals ≡ get_or locals i d ∷ drop (i + 1) locals = rw add-one (drop-cons locals i d low) in
    let on : first + i + 1 ≡ first + (i + 1) = omega arith in
    before ∙ (ap (λ rest. made ++ forget_slots mark (first + i) i rest) there
    ∙ (ap (λ n. made ++ (if is_forgotten mark i (get_or locals i d) then Var (first + i) else get_or locals i d)
    ∷ forget_slots mark n (i + 1) (drop (i + 1) locals)) on
    ∙ (sym (append_assoc made ((if is_forgotten mark i (get_or locals i d) then Var (first + i) else get_or locals i d) ∷ [])
    (forget_slots mark (first + (i + 1)) (i + 1) (drop (i + 1) locals)))
    ∙ ap (λ front. front ++ forget_slots mark (first + (i + 1)) (i + 1) (drop (i + 1) locals)) (sym step))))

-- a turn over fields
next-field : (fields : List Field) (i next : ℕ) (e : Exp) (es : List Exp) →
    forget_fields next (drop i fields) (e ∷ es) ≡ forget_at next (slice_get fields i) e ∷ forget_fields (next + 1) (drop (i + 1) fields) es
next-field [] zero next e [] = refl
next-field [] zero next e (g ∷ es) = refl
next-field [] (suc i) next e [] = refl
next-field [] (suc i) next e (g ∷ es) = let same : suc i + 1 ≡ suc (i + 1) = omega arith in rw same refl
next-field (field ∷ fields) zero next e es = refl
next-field (field ∷ fields) (suc i) next e es = let same : suc i + 1 ≡ suc (i + 1) = omega arith in rw same (next-field fields i next e es)

pub field-turn : (fields : List Field) (values : List Exp) (first i : ℕ) (d : Exp) (made next : List Exp) → i < length values →
    forget_fields first fields values ≡ made ++ forget_fields (first + i) (drop i fields) (drop i values) →
    next ≡ made ++ forget_at (first + i) (slice_get fields i) (get_or values i d) ∷ [] →
    forget_fields first fields values ≡ next ++ forget_fields (first + (i + 1)) (drop (i + 1) fields) (drop (i + 1) values)
field-turn fields values first i d made next low before step =
    let there : drop i values ≡ get_or values i d ∷ drop (i + 1) values = rw add-one (drop-cons values i d low) in
    let on : first + i + 1 ≡ first + (i + 1) = omega arith in
    before ∙ (ap (λ rest. made ++ forget_fields (first + i) (drop i fields) rest) there
    ∙ (ap (λ rest. made ++ rest) (next-field fields i (first + i) (get_or values i d) (drop (i + 1) values))
    ∙ (ap (λ n. made ++ forget_at (first + i) (slice_get fields i) (get_or values i d)
    ∷ forget_fields n (drop (i + 1) fields) (drop (i + 1) values)) on
    ∙ (sym (append_assoc made (forget_at (first + i) (slice_get fields i) (get_or values i d) ∷ [])
    (forget_fields (first + (i + 1)) (drop (i + 1) fields) (drop (i + 1) values)))
    ∙ ap (λ front. front ++ forget_fields (first + (i + 1)) (drop (i + 1) fields) (drop (i + 1) values)) (sym step)))))

-- a turn over atoms
module _ (structs : List StructDef) (atoms : List Atom) (i : ℕ) (atom : Atom) (low : i < length atoms)
    (is : atom ≡ get_or atoms i atom) where
  pub atom-turn : (first now : ℕ) (made next : List Atom) (one : Atom) →
      forget_atoms structs first atoms ≡ made ++ forget_atoms structs now (drop i atoms) → one ≡ forget_atom structs now atom →
      next ≡ made ++ one ∷ [] →
      forget_atoms structs first atoms ≡ next ++ forget_atoms structs (now + fields_of atom) (drop (i + 1) atoms)
  atom-turn first now made next one before here step =
      before ∙ (ap (λ rest. made ++ forget_atoms structs now rest) (next-is atoms i atom low is)
      ∙ (ap (λ a. made ++ a ∷ forget_atoms structs (now + fields_of atom) (drop (i + 1) atoms)) (sym here)
      ∙ (sym (append_assoc made (one ∷ []) (forget_atoms structs (now + fields_of atom) (drop (i + 1) atoms)))
      ∙ ap (λ front. front ++ forget_atoms structs (now + fields_of atom) (drop (i + 1) atoms)) (sym step))))

  pub fields-turn : fields_in (drop i atoms) ≡ fields_of atom + fields_in (drop (i + 1) atoms)
  fields-turn = ap fields_in (next-is atoms i atom low is)
