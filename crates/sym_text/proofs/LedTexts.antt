-- Texts with separators between them, as they are joined.
use Rattle.std.proofs.Common.{◌≡◌, ℕ, zero, suc, ◌+◌, ◌<◌, ◌≤◌, Bool, true, false, not, List, [], ◌∷◌, ◌++◌, length, map, get_or, drop}
use Rattle.std.proofs.Common.{refl, sym, ap, ◌∙◌, append_assoc, add-one, drop-cons, nat_eq, arith}
use Rattle.std.proofs.lemmas.List.{append-nil}
use Rattle.std.specs.Prelude.{codes}
use Rattle.shape_data.specs.declared.program.Field.{Field}
use Rattle.shape_data.specs.declared.symbolic.Exp.{Exp}
use Rattle.shape_data.specs.declared.symbolic.Fact.{Fact}
use Rattle.shape_data.specs.declared.symbolic.Atom.{Atom}
use Rattle.sym_text.specs.Text.{exp_text, field_texts, atom_text, joined_texts}
use Rattle.std.specs.Prelude.{Some}
use Rattle.std.proofs.lemmas.Bool.Decides.{nat_tests}
use Rattle.shape_data.specs.Heap.{struct_named}
use Rattle.shape_data.specs.declared.program.StructDef.{StructDef}
use Rattle.shape_data.specs.declared.symbolic.Atom.TheVariants.{Points}
use Rattle.std.specs.List.{join_by, flat_map}
use Rattle.sym_text.specs.Led.{led_texts}

led_flat : (separator : List ℕ) (texts : List (List ℕ)) → led_texts separator true texts ≡ flat_map (λ text. separator ++ text) texts
led_flat separator [] = refl
led_flat separator (text ∷ texts) = ap (λ rest. separator ++ text ++ rest) (led_flat separator texts)

pub led_join : (separator : List ℕ) (texts : List (List ℕ)) → led_texts separator false texts ≡ join_by (λ text. text) separator texts
led_join separator [] = refl
led_join separator (text ∷ texts) = ap (λ rest. text ++ rest) (led_flat separator texts)

-- whether something stands before what follows
abbrev pub leads : List (List ℕ) → Bool
leads [] = false
leads (text ∷ texts) = true

led_true : (separator : List ℕ) (texts more : List (List ℕ))
    → led_texts separator true (texts ++ more) ≡ led_texts separator true texts ++ led_texts separator true more
led_true separator [] more = refl
led_true separator (text ∷ texts) more = ap (λ rest. separator ++ text ++ rest) (led_true separator texts more)
    ∙ sym (append_assoc (separator ++ text) (led_texts separator true texts) (led_texts separator true more))

pub led_append : (separator : List ℕ) (texts more : List (List ℕ))
    → led_texts separator false (texts ++ more) ≡ led_texts separator false texts ++ led_texts separator (leads texts) more
led_append separator [] more = refl
led_append separator (text ∷ texts) more = ap (λ rest. text ++ rest) (led_true separator texts more)
    ∙ sym (append_assoc text (led_texts separator true texts) (led_texts separator true more))

pub ruleset joining = (append_assoc, append-nil, led_join)

-- the names of the fields that are left
drop_names : (fields : List Field) (i : ℕ)
    → drop i (map (λ (field : Field). field.name) fields) ≡ map (λ (field : Field). field.name) (drop i fields)
drop_names fields zero = refl
drop_names [] (suc i) = refl
drop_names (field ∷ fields) (suc i) = drop_names fields i

-- the next field is the one at this place
pub fields_step : (params : List (List ℕ)) (fields : List Field) (values : List Exp) (i : ℕ) (field : Field) (value : Exp)
    → i < length fields → i < length values
    → field_texts params (drop i (map (λ (field : Field). field.name) fields)) (drop i values)
    ≡ ((get_or fields i field).name ++ codes ":" ++ exp_text params (get_or values i value))
    ∷ field_texts params (drop (i + 1) (map (λ (field : Field). field.name) fields)) (drop (i + 1) values)
fields_step params fields values i field value a b =
    rw (drop_names fields i, drop_names fields (i + 1), add-one, drop-cons fields i field a, drop-cons values i value b) refl

-- a text more is written
pub led_step : (separator : List ℕ) (whole before behind text : List ℕ) (left rest : List (List ℕ)) → left ≡ text ∷ rest
    → before ++ led_texts separator false left ≡ whole → behind ≡ before ++ text → behind ++ led_texts separator true rest ≡ whole
led_step separator whole before behind text left rest is so written = rw (written, append_assoc) (rw is at so)

pub led_step_on : (separator : List ℕ) (whole before between behind text : List ℕ) (left rest : List (List ℕ)) → left ≡ text ∷ rest
    → before ++ led_texts separator true left ≡ whole → between ≡ before ++ separator → behind ≡ between ++ text
    → behind ++ led_texts separator true rest ≡ whole
led_step_on separator whole before between behind text left rest is so led_by written =
    let e : before ++ ((separator ++ text) ++ led_texts separator true rest) ≡ whole = rw is at so in
    simp (written, led_by, append_assoc) (simp append_assoc at e)

-- the facts and then the atoms are the heap
pub led_heap : (before middle after : List ℕ) (facts atoms : List (List ℕ)) (led : Bool) → led ≡ leads facts → leads (facts ++ atoms) ≡ true
    → middle ≡ before ++ led_texts (codes " * ") false facts → after ≡ middle ++ led_texts (codes " * ") led atoms
    → after ≡ before ++ joined_texts (facts ++ atoms)
led_heap before middle after facts atoms led is_led some first second =
    let joined : led_texts (codes " * ") false (facts ++ atoms) ≡ joined_texts (facts ++ atoms) = joined_some (facts ++ atoms) some in
    rw (second, first, is_led, append_assoc, ← led_append, joined) refl
  where
    joined_some : (texts : List (List ℕ)) → leads texts ≡ true → led_texts (codes " * ") false texts ≡ joined_texts texts
    joined_some [] never = cc
    joined_some (text ∷ texts) some = led_join (codes " * ") (text ∷ texts)

-- the text of a cell, over its structure
pub cell_text : (structs : List StructDef) (params : List (List ℕ)) (before : List ℕ) (at : Exp) (kind : List ℕ) (def : StructDef)
    (named : List Field) (fields shown : List Exp) → Some def ≡ struct_named structs kind → named ≡ def.fields → shown ≡ fields
    → before ++ (exp_text params at ++ codes "|->" ++ kind
    ++ codes "(" ++ join_by (λ one. one) (codes ",") (field_texts params (map (λ (field : Field). field.name) named) shown) ++ codes ")")
    ≡ before ++ atom_text structs params (Points at kind fields)
cell_text structs params before at kind def named fields shown is same alike = rw (same, alike, ← is) refl

-- whether there are facts
pub led_by_facts : (facts : List Fact) (text : Fact → List ℕ) (none : Bool) → none ≡ nat_eq (length facts) 0
    → not none ≡ leads (map text facts)
led_by_facts [] text none is = rw is refl
led_by_facts (fact ∷ facts) text none is = let no : none ≡ false = grind (arith, nat_tests) in rw no refl

pub led_by_parts : (facts : List Fact) (atoms : List Atom) (text : Fact → List ℕ) (atom_text : Atom → List ℕ)
    → (length facts ≡ 0 → length atoms ≡ 0 → ⊥) → leads (map text facts ++ map atom_text atoms) ≡ true
led_by_parts [] [] text atom_text some = absurd (some refl refl)
led_by_parts [] (atom ∷ atoms) text atom_text some = refl
led_by_parts (fact ∷ facts) atoms text atom_text some = refl

-- no field is left
pub fields_end : (separator : List ℕ) (params : List (List ℕ)) (fields : List Field) (values : List Exp) (i : ℕ) (led : Bool)
    (before after : List ℕ) (all : List (List ℕ)) → length values ≤ i
    → after ++ led_texts separator led (field_texts params (drop i (map (λ (field : Field). field.name) fields)) (drop i values))
    ≡ before ++ led_texts separator false all → after ≡ before ++ join_by (λ one. one) separator all
fields_end separator params fields values i led before after all end so =
    let none : drop i values ≡ [] = drop_past i values end in
    let empty = no_values params (drop i (map (λ (field : Field). field.name) fields)) in
    let h : after ++ led_texts separator led [] ≡ before ++ join_by (λ one. one) separator all = rw (none, empty, led_join) at so in
    sym (append-nil after) ∙ h
  where
    no_values : (params : List (List ℕ)) (names : List (List ℕ)) → field_texts params names [] ≡ []
    no_values params [] = refl
    no_values params (name ∷ names) = refl

    drop_past : (i : ℕ) (values : List Exp) → length values ≤ i → drop i values ≡ []
    drop_past zero [] end = refl
    drop_past zero (value ∷ values) end = absurd (omega arith)
    drop_past (suc i) [] end = refl
    drop_past (suc i) (value ∷ values) end = drop_past i values (omega arith)
