-- What is read as a cell or a segment is its text, and the other way round.
use Rattle.std.proofs.Common.{◌≡◌, ℕ, suc, ◌+◌, ◌<◌, Bool, true, false, List, [], ◌∷◌, ◌++◌, length, map, get_or, Some, refl, sym, ap, ◌∙◌}
use Rattle.std.proofs.Common.{subst, append_assoc, arith}
use Rattle.std.proofs.lemmas.List.{append-nil}
use Rattle.std.proofs.lemmas.List.Elements.{All-nil, All-cons, All-head, All-tail}
use Rattle.std.specs.Prelude.{All, codes}
use Rattle.std.specs.List.{join_by}
use Rattle.std.specs.Option.{IsSomeAnd}
use Rattle.shape_data.specs.declared.program.Field.{Field}
use Rattle.shape_data.specs.declared.program.StructDef.{StructDef}
use Rattle.shape_data.specs.declared.symbolic.Atom.{Atom}
use Rattle.shape_data.specs.declared.symbolic.Atom.TheVariants.{Points, Seg}
use Rattle.shape_data.specs.declared.symbolic.Exp.{Exp}
use Rattle.shape_data.specs.Heap.{struct_named}
use Rattle.shape_data.specs.WellFormed.{IsExp, IsAtom, IsField}
use Rattle.sym_text.specs.declared.parts.Part.{Part}
use Rattle.sym_text.specs.declared.parts.Part.TheVariants as part
use Rattle.sym_text.specs.Grammar.{written, IsInt, HoldsInts}
use Rattle.sym_text.specs.Led.{led_texts}
use Rattle.sym_text.specs.Reading.{linked, has_some}
use Rattle.sym_text.specs.Text.{exp_text, field_names, field_texts, atom_text}
use Rattle.sym_text.proofs.CellLaws.{FieldsText, CellRaw, SegmentRaw}
use Rattle.sym_text.proofs.LedTexts.{led_join}
use Rattle.sym_text.proofs.NameLaws.{Differ, place_within, place_at, member_at}
use Rattle.sym_text.proofs.StructLaws.{GoodStructs, kind_named, named_kind, linked_kind, linked_found, found_names}
use Rattle.sym_text.proofs.WordLaws.{Member}

-- the separator before a field
abbrev pub comma_if : Bool → List ℕ
comma_if true = codes ","
comma_if false = []

regroup_led : (a b c d e f : List ℕ) → a ++ (b ++ (c ++ (d ++ (e ++ f)))) ≡ ((a ++ ((b ++ c) ++ d)) ++ e) ++ f
regroup_led a b c d e f = sym (simp append_assoc)

regroup_row : (a b c d e : List ℕ) → (a ++ (b ++ (c ++ d))) ++ e ≡ a ++ (b ++ (c ++ (d ++ e)))
regroup_row a b c d e = simp append_assoc

led_field : (led : Bool) (name value : List ℕ) (texts : List (List ℕ))
    → comma_if led ++ (name ++ (codes ":" ++ (value ++ (led_texts (codes ",") true texts ++ codes ")"))))
    ≡ led_texts (codes ",") led (((name ++ codes ":") ++ value) ∷ texts) ++ codes ")"
led_field true name value texts = regroup_led (codes ",") name (codes ":") value (led_texts (codes ",") true texts) (codes ")")
led_field false name value texts = regroup_led [] name (codes ":") value (led_texts (codes ",") true texts) (codes ")")

-- values of fields, and their texts
pub record ValuesOf (params : List (List ℕ)) (led : Bool) (names : List (List ℕ)) (values all : List Exp) (text : List ℕ) : Type 0 where
  pub more : List Exp
  pub all_so : all ≡ values ++ more
  pub many : length more ≡ length names
  pub exps : All (IsExp written (length params)) more
  pub ints : All IsInt more
  pub text_so : text ≡ led_texts (codes ",") led (field_texts params names more) ++ codes ")"

pub fields_to : (params : List (List ℕ)) (led : Bool) (names : List (List ℕ)) (values all : List Exp) (text : List ℕ)
    → FieldsText params (comma_if led) names values all text → ValuesOf params led names values all text
fields_to params led [] values all text (rest, cut, (same, none)) = record {
  more = [];
  all_so = same ∙ sym (append-nil values);
  many = refl;
  exps = All-nil (IsExp written (length params));
  ints = All-nil IsInt;
  text_so = cut ∙ ap (λ t. codes ")" ++ t) none;
}
fields_to params led (name ∷ names) values all text row =
    let (r1, c1, (r2, c2, (r3, c3, is))) = row.is_left in
    let rest = fields_to params true names (values ++ (row.at ∷ [])) all row.right row.is_right in
    record {
      more = row.at ∷ rest.more;
      all_so = rest.all_so ∙ append_assoc values (row.at ∷ []) rest.more;
      many = ap suc rest.many;
      exps = All-cons (IsExp written (length params)) row.at rest.more is.0 rest.exps;
      ints = All-cons IsInt row.at rest.more is.1 rest.ints;
      text_so = row.cut
          ∙ ap (λ t. t ++ row.right) (c1 ∙ ap (λ t. comma_if led ++ t) (c2 ∙ ap (λ t. name ++ t) (c3 ∙ ap (λ t. codes ":" ++ t) is.2)))
          ∙ ap (λ t. (comma_if led ++ (name ++ (codes ":" ++ exp_text params row.at))) ++ t) rest.text_so
          ∙ regroup_row (comma_if led) name (codes ":") (exp_text params row.at)
          (led_texts (codes ",") true (field_texts params names rest.more) ++ codes ")")
          ∙ led_field led name (exp_text params row.at) (field_texts params names rest.more);
    }

pub fields_back : (params : List (List ℕ)) (led : Bool) (names : List (List ℕ)) (values more : List Exp) → length more ≡ length names
    → All (IsExp written (length params)) more → All IsInt more
    → FieldsText params (comma_if led) names values (values ++ more)
    (led_texts (codes ",") led (field_texts params names more) ++ codes ")")
fields_back params led [] values [] many exps ints = ([], refl, (append-nil values, refl))
fields_back params led [] values (value ∷ more) many exps ints = absurd (omega (arith, many))
fields_back params led (name ∷ names) values [] many exps ints = absurd (omega (arith, many))
fields_back params led (name ∷ names) values (value ∷ more) many exps ints =
    let rest =
    fields_back params true names (values ++ (value ∷ [])) more (omega (arith, many))
    (All-tail (IsExp written (length params)) value more exps) (All-tail IsInt value more ints) in
    let tail = led_texts (codes ",") true (field_texts params names more) ++ codes ")" in
    record {
      at = value;
      left = comma_if led ++ (name ++ (codes ":" ++ exp_text params value));
      right = tail;
      is_left = (
        name ++ (codes ":" ++ exp_text params value),
        refl,
        (
          codes ":" ++ exp_text params value,
          refl,
          (exp_text params value, refl, (All-head (IsExp written (length params)) value more exps, All-head IsInt value more ints, refl)),
        ),
      );
      is_right =
          subst (λ (v : List Exp). FieldsText params (codes ",") names (values ++ (value ∷ [])) v tail)
          (append_assoc values (value ∷ []) more) rest;
      cut = sym (led_field led name (exp_text params value) (field_texts params names more))
          ∙ sym (regroup_row (comma_if led) name (codes ":") (exp_text params value) tail);
    }

-- the text of a cell behind its address
abbrev pub cell_tail : List StructDef → List (List ℕ) → List ℕ → List Exp → List ℕ
cell_tail structs params kind values = codes "|->"
    ++ (kind ++ (codes "(" ++ (join_by (λ one. one) (codes ",") (field_texts params (field_names structs kind) values) ++ codes ")")))

-- a cell that is read
pub record IsCell (structs : List StructDef) (params : List (List ℕ)) (at : Exp) (p : Part) (text : List ℕ) : Type 0 where
  pub kind : List ℕ
  pub values : List Exp
  pub is : p ≡ part.Atom (Points at kind values)
  pub listed : IsSomeAnd (struct_named structs kind) (λ (def : StructDef). length values ≡ length def.fields)
  pub exps : All (IsExp written (length params)) values
  pub ints : All IsInt values
  pub text_so : text ≡ cell_tail structs params kind values

length_names : (fields : List Field) → length (map (λ (field : Field). field.name) fields) ≡ length fields
length_names [] = refl
length_names (field ∷ fields) = ap suc (length_names fields)

pub cell_to : (structs : List StructDef) (params : List (List ℕ)) → GoodStructs structs → (at : Exp) (p : Part) (text : List ℕ)
    → CellRaw structs params at p text → IsCell structs params at p text
cell_to structs params good at p text (r1, c1, row) =
    let (r2, c2, (values, same, fields)) = row.is_right in
    let all = fields_to params false (field_names structs row.at) [] values r2 fields in
    let named = kind_named structs row.at good.fields row.is_left.0 in
    let many : length values ≡ length named.def.fields =
    ap length all.all_so ∙ all.many ∙ ap length (found_names structs row.at named.def named.named) ∙ length_names named.def.fields in
    record {
      kind = row.at;
      values = values;
      is = same;
      listed = rw named.named many;
      exps = subst (λ (v : List Exp). All (IsExp written (length params)) v) (sym all.all_so) all.exps;
      ints = subst (λ (v : List Exp). All IsInt v) (sym all.all_so) all.ints;
      text_so = c1
          ∙ ap (λ t. codes "|->" ++ t)
          (row.cut ∙ ap (λ t. t ++ row.right) row.is_left.1 ∙ ap (λ t. row.at ++ t) (c2 ∙ ap (λ t. codes "(" ++ t) (all.text_so
          ∙ ap (λ t. t ++ codes ")")
          (ap (λ (v : List Exp). led_texts (codes ",") false (field_texts params (field_names structs row.at) v)) (sym all.all_so)
          ∙ led_join (codes ",") (field_texts params (field_names structs row.at) values)))));
    }

pub cell_back : (structs : List StructDef) (params : List (List ℕ)) (at : Exp) (kind : List ℕ) (values : List Exp)
    → IsSomeAnd (struct_named structs kind) (λ (def : StructDef). length values ≡ length def.fields)
    → All (IsExp written (length params)) values → All IsInt values
    → CellRaw structs params at (part.Atom (Points at kind values)) (cell_tail structs params kind values)
cell_back structs params at kind values listed exps ints =
    let (member, (def, found, many)) = named_kind structs kind (λ (def : StructDef). length values ≡ length def.fields) listed in
    let all =
    fields_back params false (field_names structs kind) [] values
    (many ∙ sym (ap length (found_names structs kind def found) ∙ length_names def.fields)) exps ints in
    let joined = led_join (codes ",") (field_texts params (field_names structs kind) values) in
    let tail = join_by (λ one. one) (codes ",") (field_texts params (field_names structs kind) values) ++ codes ")" in (
      kind ++ (codes "(" ++ tail),
      refl,
      record {
        at = kind;
        left = kind;
        right = codes "(" ++ tail;
        is_left = (member, refl);
        is_right = (
          tail,
          refl,
          (
            values,
            refl,
            subst (λ (t : List ℕ). FieldsText params [] (field_names structs kind) [] values t)
                (ap (λ t. t ++ codes ")") joined) all,
          ),
        );
        cut = refl;
      },
    )

-- a cell's text with its address
pub cell_whole : (structs : List StructDef) (params : List (List ℕ)) (at : Exp) (kind : List ℕ) (values : List Exp)
    → atom_text structs params (Points at kind values) ≡ exp_text params at ++ cell_tail structs params kind values
cell_whole structs params at kind values =
    regroup (exp_text params at) (codes "|->") kind
    (codes "(") (join_by (λ one. one) (codes ",") (field_texts params (field_names structs kind) values)) (codes ")")
  where
    regroup : (a b c d e f : List ℕ) → a ++ b ++ c ++ d ++ e ++ f ≡ a ++ (b ++ (c ++ (d ++ (e ++ f))))
    regroup a b c d e f = simp append_assoc

-- SEGMENTS

-- a segment that is read, behind `ls`
pub record IsSegment (structs : List StructDef) (params : List (List ℕ)) (p : Part) (text : List ℕ) : Type 0 where
  pub kind : List ℕ
  pub link : ℕ
  pub source : Exp
  pub target : Exp
  pub is : p ≡ part.Atom (Seg kind link source target)
  pub atom : IsAtom written structs (length params) (Seg kind link source target)
  pub ints : HoldsInts (Seg kind link source target)
  pub text_so : codes "ls" ++ text ≡ atom_text structs params (Seg kind link source target)

regroup_nine : (a b c d e f g h i : List ℕ)
    → a ++ b ++ c ++ d ++ e ++ f ++ g ++ h ++ i ≡ a ++ (b ++ (c ++ (d ++ (e ++ (f ++ (g ++ (h ++ i)))))))
regroup_nine a b c d e f g h i = simp append_assoc

field_found : (structs : List StructDef) (kind : List ℕ) (def : StructDef) (link : ℕ) → struct_named structs kind ≡ Some def
    → link < length def.fields → IsField structs kind link
field_found structs kind def link found inside = rw found inside

pub segment_to_text : (structs : List StructDef) (params : List (List ℕ)) → GoodStructs structs → (p : Part) (text : List ℕ)
    → SegmentRaw structs params p text → IsSegment structs params p text
segment_to_text structs params good p text (r1, c1, kind_row) =
    let kind = kind_row.at in
    let (r2, c2, link_row) = kind_row.is_right in
    let (r3, c3, from_row) = link_row.is_right in
    let (r4, c4, to_row) = from_row.is_right in
    let (r5, c5, (same, none)) = to_row.is_right in
    let (word, place_so, is_word) = link_row.is_left in
    let named = kind_named structs kind good.fields (linked_kind structs kind kind_row.is_left.0) in
    let (inside, at_place) = place_within (field_names structs kind) word [] is_word.0 in
    let many : length (field_names structs kind) ≡ length named.def.fields =
    ap length (found_names structs kind named.def named.named) ∙ length_names named.def.fields in
    let inside_def : link_row.at < length named.def.fields = omega (arith, place_so) in
    record {
      kind = kind;
      link = link_row.at;
      source = from_row.at;
      target = to_row.at;
      is = same;
      atom = (field_found structs kind named.def link_row.at named.named inside_def, from_row.is_left.0, to_row.is_left.0);
      ints = (from_row.is_left.1, to_row.is_left.1);
      text_so =
          ap (λ t. codes "ls" ++ t)
          (c1 ∙ ap (λ t. codes "[" ++ t)
          (kind_row.cut ∙ ap (λ t. t ++ kind_row.right) kind_row.is_left.1
          ∙ ap (λ t. kind ++ t) (c2 ∙ ap (λ t. codes "." ++ t) (link_row.cut ∙ ap (λ t. t ++ link_row.right) is_word.1
          ∙ ap (λ t. word ++ t)
          (c3 ∙ ap (λ t. codes "](" ++ t)
          (from_row.cut ∙ ap (λ t. t ++ from_row.right) from_row.is_left.2
          ∙ ap (λ t. exp_text params from_row.at ++ t)
          (c4 ∙ ap (λ t. codes "," ++ t) (to_row.cut ∙ ap (λ t. t ++ to_row.right) to_row.is_left.2
          ∙ ap (λ t. exp_text params to_row.at ++ t) (c5 ∙ ap (λ t. codes ")" ++ t) none)))))))))
          ∙ ap (λ (w : List ℕ). codes "ls["
          ++ (kind ++ (codes "."
          ++ (w ++ (codes "](" ++ (exp_text params from_row.at ++ (codes "," ++ (exp_text params to_row.at ++ codes ")"))))))))
          (sym (ap (λ (n : ℕ). get_or (field_names structs kind) n []) place_so ∙ at_place))
          ∙ sym (regroup_nine
          (codes "ls[") kind (codes ".") (get_or (field_names structs kind) link_row.at []) (codes "](") (exp_text params from_row.at)
          (codes ",") (exp_text params to_row.at) (codes ")"));
    }

-- the text of a segment behind `ls`
abbrev pub segment_tail : List StructDef → List (List ℕ) → List ℕ → ℕ → Exp → Exp → List ℕ
segment_tail structs params kind link source target =
    codes "[" ++ (kind
    ++ (codes "."
    ++ (get_or (field_names structs kind) link []
    ++ (codes "](" ++ (exp_text params source ++ (codes "," ++ (exp_text params target ++ codes ")")))))))

pub segment_back : (structs : List StructDef) (params : List (List ℕ)) → GoodStructs structs
    → (kind : List ℕ) (link : ℕ) (source target : Exp) → IsAtom written structs (length params) (Seg kind link source target)
    → HoldsInts (Seg kind link source target)
    → SegmentRaw structs params (part.Atom (Seg kind link source target)) (segment_tail structs params kind link source target)
    × (has_some (linked structs) ≡ true)
    × (atom_text structs params (Seg kind link source target) ≡ codes "ls" ++ segment_tail structs params kind link source target)
segment_back structs params good kind link source target is ints =
    let (member, (def, found, inside)) = named_kind structs kind (λ (def : StructDef). link < length def.fields) is.0 in
    let has = has_from link def.fields inside in
    let in_linked = linked_found structs kind def found has in
    let named = kind_named structs kind good.fields member in
    let names_so = found_names structs kind def found in
    let many : length (field_names structs kind) ≡ length def.fields = ap length names_so ∙ length_names def.fields in
    let within : link < length (field_names structs kind) = omega arith in
    let differ = subst Differ (sym (found_names structs kind named.def named.named)) named.differ in
    let place = place_at (field_names structs kind) link [] differ within in
    let name = get_or (field_names structs kind) link [] in (
      (
        kind ++ (codes "." ++ (name ++ (codes "](" ++ (exp_text params source ++ (codes "," ++ (exp_text params target ++ codes ")")))))),
        refl,
        record {
          at = kind;
          left = kind;
          right = codes "." ++ (name ++ (codes "](" ++ (exp_text params source ++ (codes "," ++ (exp_text params target ++ codes ")")))));
          is_left = (in_linked, refl);
          is_right = (
            name ++ (codes "](" ++ (exp_text params source ++ (codes "," ++ (exp_text params target ++ codes ")")))),
            refl,
            record {
              at = link;
              left = name;
              right = codes "](" ++ (exp_text params source ++ (codes "," ++ (exp_text params target ++ codes ")")));
              is_left = (name, sym place, (member_at (field_names structs kind) link [] within, refl));
              is_right = (
                exp_text params source ++ (codes "," ++ (exp_text params target ++ codes ")")),
                refl,
                record {
                  at = source;
                  left = exp_text params source;
                  right = codes "," ++ (exp_text params target ++ codes ")");
                  is_left = (is.1, ints.0, refl);
                  is_right = (
                    exp_text params target ++ codes ")",
                    refl,
                    record {
                      at = target;
                      left = exp_text params target;
                      right = codes ")";
                      is_left = (is.2, ints.1, refl);
                      is_right = ([], refl, (refl, refl));
                      cut = refl;
                    },
                  );
                  cut = refl;
                },
              );
              cut = refl;
            },
          );
          cut = refl;
        },
      ),
      some_member kind (linked structs) in_linked,
      regroup_nine
          (codes "ls[") kind (codes ".") name (codes "](") (exp_text params source) (codes ",") (exp_text params target) (codes ")"),
    )
  where
    has_from : (link : ℕ) (fields : List Field) → link < length fields → has_some fields ≡ true
    has_from link [] inside = absurd (omega arith)
    has_from link (field ∷ fields) inside = refl

    some_member : (word : List ℕ) (words : List (List ℕ)) → Member word words → has_some words ≡ true
    some_member word [] is = absurd is
    some_member word (one ∷ words) is = refl
