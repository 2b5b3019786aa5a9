-- Cells and list segments are read exactly.
use Rattle.std.proofs.Common.{◌≡◌, ℕ, ◌+◌, Bool, true, false, List, [], ◌∷◌, ◌++◌, map, inl, refl, sym, ap, ◌∙◌, subst, arith}
use Rattle.std.specs.Prelude.{codes}
use Rattle.shape_data.specs.declared.program.StructDef.{StructDef}
use Rattle.shape_data.specs.declared.symbolic.Atom.TheVariants.{Points, Seg, Junk}
use Rattle.shape_data.specs.declared.symbolic.Exp.{Exp}
use Rattle.sym_text.specs.declared.parts.Part.{Part}
use Rattle.sym_text.specs.declared.parts.Part.TheVariants as part
use Rattle.shape_data.specs.declared.program.Field.{Field}
use Rattle.sym_text.specs.declared.starts.Next.TheVariants as next
use Rattle.sym_text.specs.Grammar.{written}
use Rattle.sym_text.specs.Outcome.{give, never, first}
use Rattle.sym_text.specs.Reading.{place_of, next_of, read_word, read_exp, kinds, linked, has_some, read_field, read_fields, read_link}
use Rattle.sym_text.specs.Reading.{read_cell, read_segment}
use Rattle.sym_text.specs.Text.{field_names}
use Rattle.sym_text.proofs.Exactly.{Language, Ends, AnyEnd, Reads, Anything, Behind, Under, InRow, bind-Reads, give-Reads, behind-Reads}
use Rattle.sym_text.proofs.Exactly.{under-Reads, from-Reads}
use Rattle.sym_text.proofs.ExpLaws.{GoodParams, ExpText, exp-Reads, some_exp}
use Rattle.sym_text.proofs.NameLaws.{are_names}
use Rattle.sym_text.proofs.StructLaws.{GoodStructs, kind_named, linked_kind, linked_some, found_names, are_linked_names, names_of}
use Rattle.sym_text.proofs.WordLaws.{Member, AreNames, IsWord, NotName, WordEnds, word-Reads}

-- a value of which nothing is written
abbrev pub Given : {A : Type 0} → A → Language A
Given value one text = (one ≡ value) × (text ≡ [])

-- a separator, a name, a colon and an expression
abbrev pub FieldText : List (List ℕ) → List ℕ → List ℕ → Language Exp
FieldText params separator name = Behind separator (Behind name (Behind (codes ":") (ExpText params)))

-- fields and what closes them
abbrev pub FieldsText : List (List ℕ) → List ℕ → List (List ℕ) → List Exp → Language (List Exp)
FieldsText params separator [] values all text = Behind (codes ")") (Given values) all text
FieldsText params separator (name ∷ names) values all text =
    InRow (FieldText params separator name) (λ value. FieldsText params (codes ",") names (values ++ (value ∷ []))) all text

field_some : (params : List (List ℕ)) (separator name : List ℕ)
    → (value : Exp) × (text : List ℕ) × FieldText params separator name value text
field_some params separator name =
    let (value, t, is) =
    some_exp params in (
      value,
      separator
          ++ (name ++ (codes ":" ++ t)),
      (name ++ (codes ":" ++ t), refl, (codes ":" ++ t, refl, (t, refl, is))),
    )

fields_some : (params : List (List ℕ)) (separator : List ℕ) (names : List (List ℕ)) (values : List Exp)
    → (all : List Exp) × (text : List ℕ) × FieldsText params separator names values all text
fields_some params separator [] values = (values, codes ")", ([], refl, (refl, refl)))
fields_some params separator (name ∷ names) values =
    let (value, t, is) = field_some params separator name in
    let (all, rest, more) = fields_some params (codes ",") names (values ++ (value ∷ [])) in
    (all, t ++ rest, record { at = value; left = t; right = rest; is_left = is; is_right = more; cut = refl })

fields_start : (params : List (List ℕ)) (names : List (List ℕ)) (values all : List Exp) (text beyond : List ℕ)
    → FieldsText params (codes ",") names values all text → NotName (first (text ++ beyond))
fields_start params [] values all text beyond (rest, cut, is) = rw cut refl
fields_start params (name ∷ names) values all text beyond row =
    let (rest, cut, is) = row.is_left in
    let begins : text ++ beyond ≡ codes "," ++ (rest ++ row.right ++ beyond) =
    ap (λ t. t ++ beyond) (row.cut ∙ ap (λ t. t ++ row.right) cut) in
    subst (λ t. NotName (first t)) (sym begins) refl

field-Reads : (params : List (List ℕ)) → GoodParams params → (separator name : List ℕ)
    → Reads Anything (FieldText params separator name) WordEnds (read_field params separator name)
unfolding read_field
field-Reads params good separator name =
    let (value, t, is) = some_exp params in
    behind-Reads Anything separator (Behind name (Behind (codes ":") (ExpText params))) WordEnds _
    (behind-Reads Anything name (Behind (codes ":") (ExpText params)) WordEnds _
    (behind-Reads Anything (codes ":") (ExpText params) WordEnds (read_exp params) (exp-Reads params good) (some_exp params))
    (value, codes ":" ++ t, (t, refl, is)))
    (value, name ++ (codes ":" ++ t), (codes ":" ++ t, refl, (t, refl, is)))

pub fields-Reads : (params : List (List ℕ)) → GoodParams params → (separator : List ℕ) (names : List (List ℕ)) (values : List Exp)
    → Reads Anything (FieldsText params separator names values) AnyEnd (read_fields params separator names values)
unfolding read_fields
fields-Reads params good separator [] values = behind-Reads Anything (codes ")") (Given values) AnyEnd (give values)
    (give-Reads values AnyEnd) (values, [], (refl, refl))
fields-Reads params good separator (name ∷ names) values =
    let after = λ (value : Exp). FieldsText params (codes ",") names (values ++ (value ∷ [])) in
    bind-Reads Anything (FieldText params separator name) WordEnds after AnyEnd (read_field params separator name)
    (λ value. read_fields params (codes ",") names (values ++ (value ∷ []))) (field-Reads params good separator name)
    (λ value x is. from-Reads Anything (WordEnds value) (after value) AnyEnd _ (λ byte so. tt)
    (fields-Reads params good (codes ",") names (values ++ (value ∷ []))))
    (λ value x y b beyond is more so. fields_start params names (values ++ (value ∷ [])) b y beyond more)
    (λ value x is. fields_some params (codes ",") names (values ++ (value ∷ [])))

-- the byte ends a part: none, or a blank
abbrev pub PartEnds : Ends Part
PartEnds (part.Fact fact) byte = NotName byte
PartEnds (part.Atom (Points at kind fields)) byte = Unit {0}
PartEnds (part.Atom (Seg kind link source target)) byte = Unit {0}
PartEnds (part.Atom Junk) byte = next_of byte ≡ next.End
PartEnds part.Nothing byte = next_of byte ≡ next.End

-- a cell behind its address
abbrev pub CellBehind : List StructDef → List (List ℕ) → Exp → List ℕ → Language Part
CellBehind structs params at kind =
    Behind (codes "(") (Under (λ values. part.Atom (Points at kind values)) (FieldsText params [] (field_names structs kind) []))

abbrev pub CellRaw : List StructDef → List (List ℕ) → Exp → Language Part
CellRaw structs params at = Behind (codes "|->") (InRow (IsWord (kinds structs)) (CellBehind structs params at))

cell_some : (structs : List StructDef) (params : List (List ℕ)) (at : Exp) (kind : List ℕ)
    → (p : Part) × (t : List ℕ) × CellBehind structs params at kind p t
cell_some structs params at kind =
    let (values, t, is) = fields_some params [] (field_names structs kind) [] in
    (part.Atom (Points at kind values), codes "(" ++ t, (t, refl, (values, refl, is)))

row_some : (structs : List StructDef) (params : List (List ℕ)) (at : Exp) → has_some structs ≡ true
    → (p : Part) × (t : List ℕ) × InRow (IsWord (kinds structs)) (CellBehind structs params at) p t
row_some [] params at some = absurd (let never : false ≡ true = some in cc)
row_some (def ∷ structs) params at some =
    let (p, t, is) = cell_some (def ∷ structs) params at def.name in
    (p, def.name ++ t, record { at = def.name; left = def.name; right = t; is_left = (inl refl, refl); is_right = is; cut = refl })

pub cell_some_whole : (structs : List StructDef) (params : List (List ℕ)) (at : Exp) → has_some structs ≡ true
    → (p : Part) × (t : List ℕ) × CellRaw structs params at p t
cell_some_whole structs params at some = let (p, t, is) = row_some structs params at some in (p, codes "|->" ++ t, (t, refl, is))

pub cell-Reads : (structs : List StructDef) (params : List (List ℕ)) → GoodStructs structs → GoodParams params → has_some structs ≡ true
    → (at : Exp) → Reads Anything (CellRaw structs params at) PartEnds (read_cell structs params at)
unfolding read_cell
cell-Reads structs params good_s good some at =
    behind-Reads Anything (codes "|->") (InRow (IsWord (kinds structs)) (CellBehind structs params at)) PartEnds _
    (bind-Reads Anything (IsWord (kinds structs)) WordEnds (CellBehind structs params at) PartEnds (read_word (kinds structs)) _
    (word-Reads (kinds structs) (are_names (kinds structs) good_s.names))
    (λ kind x is. behind-Reads (WordEnds kind)
    (codes "(") (Under (λ values. part.Atom (Points at kind values)) (FieldsText params [] (field_names structs kind) [])) PartEnds _
    (under-Reads Anything (λ values. part.Atom (Points at kind values))
    (FieldsText params [] (field_names structs kind) []) AnyEnd PartEnds _ (λ a byte so. tt) (λ a byte so. tt)
    (fields-Reads params good [] (field_names structs kind) []))
    (let (values, t, is_fields) = fields_some params []
    (field_names structs kind) [] in (part.Atom (Points at kind values), t, (values, refl, is_fields))))
    (λ kind x y b beyond is more so. rw more.1 refl)
    (λ kind x is. cell_some structs params at kind))
    (row_some structs params at some)

-- SEGMENTS

abbrev pub SegmentEnd : List StructDef → List ℕ → ℕ → Exp → Exp → Language Part
SegmentEnd structs kind link source target = Behind (codes ")") (Given (part.Atom (Seg kind link source target)))

-- the name of a field, by its place
abbrev pub LinkText : List (List ℕ) → Language ℕ
LinkText names = Under (place_of names) (IsWord names)

abbrev pub SegmentTo : List StructDef → List (List ℕ) → List ℕ → ℕ → Exp → Language Part
SegmentTo structs params kind link source = Behind (codes ",") (InRow (ExpText params) (SegmentEnd structs kind link source))

abbrev pub SegmentFrom : List StructDef → List (List ℕ) → List ℕ → ℕ → Language Part
SegmentFrom structs params kind link = Behind (codes "](") (InRow (ExpText params) (SegmentTo structs params kind link))

abbrev pub SegmentLink : List StructDef → List (List ℕ) → List ℕ → Language Part
SegmentLink structs params kind = Behind (codes ".") (InRow (LinkText (field_names structs kind)) (SegmentFrom structs params kind))

abbrev pub SegmentRaw : List StructDef → List (List ℕ) → Language Part
SegmentRaw structs params = Behind (codes "[") (InRow (IsWord (linked structs)) (SegmentLink structs params))

in_row : {A B : Type 0} (one : Language A) (two : A → Language B) (a : A) (x : List ℕ) → one a x → (b : B) × (y : List ℕ) × two a b y
    → (b : B) × (t : List ℕ) × InRow one two b t
in_row one two a x is (b, y, more) = (b, x ++ y, record { at = a; left = x; right = y; is_left = is; is_right = more; cut = refl })

put_behind : {A : Type 0} (word : List ℕ) (L : Language A) → (a : A) × (t : List ℕ) × L a t → (a : A) × (t : List ℕ) × Behind word L a t
put_behind word L (a, t, is) = (a, word ++ t, (t, refl, is))

segment_end : (structs : List StructDef) (kind : List ℕ) (link : ℕ) (source target : Exp)
    → (p : Part) × (t : List ℕ) × SegmentEnd structs kind link source target p t
segment_end structs kind link source target = (part.Atom (Seg kind link source target), codes ")", ([], refl, (refl, refl)))

exp_row : (params : List (List ℕ)) (two : Exp → Language Part) → ((e : Exp) → (p : Part) × (t : List ℕ) × two e p t)
    → (p : Part) × (t : List ℕ) × InRow (ExpText params) two p t
exp_row params two some = let (e, t, is) = some_exp params in in_row (ExpText params) two e t is (some e)

segment_to : (structs : List StructDef) (params : List (List ℕ)) (kind : List ℕ) (link : ℕ) (source : Exp)
    → (p : Part) × (t : List ℕ) × SegmentTo structs params kind link source p t
segment_to structs params kind link source =
    put_behind (codes ",") (InRow (ExpText params) (SegmentEnd structs kind link source))
    (exp_row params (SegmentEnd structs kind link source) (segment_end structs kind link source))

segment_from : (structs : List StructDef) (params : List (List ℕ)) (kind : List ℕ) (link : ℕ)
    → (p : Part) × (t : List ℕ) × SegmentFrom structs params kind link p t
segment_from structs params kind link =
    put_behind (codes "](") (InRow (ExpText params) (SegmentTo structs params kind link))
    (exp_row params (SegmentTo structs params kind link) (segment_to structs params kind link))

some_word : (words : List (List ℕ)) → has_some words ≡ true → (word : List ℕ) × (t : List ℕ) × IsWord words word t
some_word [] some = absurd (let never : false ≡ true = some in cc)
some_word (word ∷ words) some = (word, word, (inl refl, refl))

-- the structure of a name with a field has a name of a field
some_link : (structs : List StructDef) (kind : List ℕ) → GoodStructs structs → Member kind (linked structs)
    → has_some (field_names structs kind) ≡ true
some_link structs kind good is =
    let named = kind_named structs kind good.fields (linked_kind structs kind is) in
    let has = linked_some structs kind named.def good.differ is named.named in
    ap has_some (found_names structs kind named.def named.named) ∙ of_fields named.def.fields has
  where
    of_fields : (fields : List Field) → has_some fields ≡ true → has_some (map (λ (field : Field). field.name) fields) ≡ true
    of_fields [] some = some
    of_fields (field ∷ fields) some = refl

segment_link : (structs : List StructDef) (params : List (List ℕ)) (kind : List ℕ) → GoodStructs structs → Member kind (linked structs)
    → (p : Part) × (t : List ℕ) × SegmentLink structs params kind p t
segment_link structs params kind good is =
    let (link, t, is_link) = some_word (field_names structs kind) (some_link structs kind good is) in
    put_behind (codes ".") (InRow (LinkText (field_names structs kind)) (SegmentFrom structs params kind))
    (in_row (LinkText (field_names structs kind)) (SegmentFrom structs params kind) (place_of (field_names structs kind) link) t
    (link, refl, is_link) (segment_from structs params kind (place_of (field_names structs kind) link)))

pub segment_some : (structs : List StructDef) (params : List (List ℕ)) → GoodStructs structs → has_some (linked structs) ≡ true
    → (p : Part) × (t : List ℕ) × SegmentRaw structs params p t
segment_some structs params good some =
    let (kind, t, is) = some_word (linked structs) some in
    put_behind (codes "[") (InRow (IsWord (linked structs)) (SegmentLink structs params))
    (in_row (IsWord (linked structs)) (SegmentLink structs params) kind t is (segment_link structs params kind good is.0))

link_names : (structs : List StructDef) (kind : List ℕ) → GoodStructs structs → Member kind (linked structs)
    → AreNames (field_names structs kind)
link_names structs kind good is =
    let named = kind_named structs kind good.fields (linked_kind structs kind is) in
    subst AreNames (sym (found_names structs kind named.def named.named)) (are_names (names_of named.def) named.names)

link-Reads : (names : List (List ℕ)) → AreNames names → Reads Anything (LinkText names) WordEnds (read_link names)
unfolding read_link
link-Reads names are =
    under-Reads Anything (place_of names) (IsWord names) WordEnds WordEnds (read_word names) (λ a byte so. so) (λ a byte so. so)
    (word-Reads names are)

pub segment-Reads : (structs : List StructDef) (params : List (List ℕ)) → GoodStructs structs → GoodParams params
    → has_some (linked structs) ≡ true → Reads Anything (SegmentRaw structs params) PartEnds (read_segment structs params)
unfolding read_segment
segment-Reads structs params good_s good some =
    let kind_row = λ (kind : List ℕ). λ (x : List ℕ). λ (is : IsWord (linked structs) kind x).
    behind-Reads (WordEnds kind) (codes ".") (InRow (LinkText (field_names structs kind)) (SegmentFrom structs params kind)) PartEnds _
    (bind-Reads Anything (LinkText (field_names structs kind)) WordEnds (SegmentFrom structs params kind) PartEnds
    (read_link (field_names structs kind)) _ (link-Reads (field_names structs kind) (link_names structs kind good_s is.0))
    (λ link x is. behind-Reads (WordEnds link) (codes "](") (InRow (ExpText params) (SegmentTo structs params kind link)) PartEnds _
    (bind-Reads Anything (ExpText params) WordEnds (SegmentTo structs params kind link) PartEnds (read_exp params) _ (exp-Reads params good)
    (λ source x is. behind-Reads (WordEnds source) (codes ",") (InRow (ExpText params) (SegmentEnd structs kind link source)) PartEnds _
    (bind-Reads Anything (ExpText params) WordEnds (SegmentEnd structs kind link source) PartEnds (read_exp params) _
    (exp-Reads params good)
    (λ target x is. behind-Reads (WordEnds target) (codes ")") (Given (part.Atom (Seg kind link source target))) PartEnds _
    (give-Reads (part.Atom (Seg kind link source target)) PartEnds) (part.Atom (Seg kind link source target), [], (refl, refl)))
    (λ target x y b beyond is more so. rw more.1 refl)
    (λ target x is. segment_end structs kind link source target))
    (exp_row params (SegmentEnd structs kind link source) (segment_end structs kind link source)))
    (λ source x y b beyond is more so. rw more.1 refl)
    (λ source x is. segment_to structs params kind link source))
    (exp_row params (SegmentTo structs params kind link) (segment_to structs params kind link)))
    (λ link x y b beyond is more so. rw more.1 refl)
    (λ link x is. segment_from structs params kind link))
    (let (link, t, is_link) = some_word (field_names structs kind) (some_link structs kind good_s is.0) in in_row
    (LinkText (field_names structs kind)) (SegmentFrom structs params kind) (place_of (field_names structs kind) link) t
    (link, refl, is_link) (segment_from structs params kind (place_of (field_names structs kind) link))) in
    behind-Reads Anything (codes "[") (InRow (IsWord (linked structs)) (SegmentLink structs params)) PartEnds _
    (bind-Reads Anything (IsWord (linked structs)) WordEnds (SegmentLink structs params) PartEnds (read_word (linked structs)) _
    (word-Reads (linked structs) (are_names (linked structs) (are_linked_names structs good_s)))
    kind_row
    (λ kind x y b beyond is more so. rw more.1 refl)
    (λ kind x is. segment_link structs params kind good_s is.0))
    (let (kind, t, is) = some_word (linked structs) some in in_row (IsWord (linked structs)) (SegmentLink structs params) kind t is
    (segment_link structs params kind good_s is.0))
