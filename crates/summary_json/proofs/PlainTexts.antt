-- The texts of well-formed heaps are UTF-8, and short: what holds of names, expressions and literals and is kept by putting texts together
-- holds of the texts of heaps.
use Rattle.std.specs.Prelude.{◌≡◌, ℕ, zero, suc, ◌+◌, ◌-◌, ◌*◌, ◌/◌, ◌%◌, ◌<◌, ◌≤◌, ◌==◌, pos, negsuc, nat_lt, not, ◌||◌, Bool}
use Rattle.std.specs.Prelude.{true, false, if◌then◌else◌, codes, List, [], ◌∷◌, ◌++◌, length, map, slice_index_or, All}
use Rattle.std.specs.Prelude.{IsAscii, IsUtf8}
use Rattle.std.specs.List.{flat_map, join_by, list_all}
use Rattle.std.specs.Option.{IsSomeAnd}
use Rattle.std.specs.Str.{bytes_eq}
use Rattle.std.specs.Fmt.{decimal, digit_glyph, digits, digits_onto}
use Rattle.std.specs.declared.option.Option.TheVariants.{Some}
use Rattle.std.proofs.Common.{refl, sym, ap, subst, length-append, arith}
use Rattle.std.proofs.lemmas.Bool.{and_parts, ltb-true}
use Rattle.std.proofs.lemmas.Fmt.{length-decimal-le}
use Rattle.std.proofs.lemmas.List.Elements.{All-append, All-cons, All-head, All-map, All-nil, All-tail, All-weaker}
use Rattle.std.proofs.lemmas.Slice.Eq.{bytes_eq-Decides}
use Rattle.std.proofs.lemmas.Str.{IsUtf8-append, IsUtf8-from_ascii}
use Rattle.shape_data.specs.declared.program.Field.{Field}
use Rattle.shape_data.specs.declared.program.StructDef.{StructDef}
use Rattle.shape_data.specs.declared.symbolic.Atom.{Atom}
use Rattle.shape_data.specs.declared.symbolic.Atom.TheVariants.{Points, Seg, Junk}
use Rattle.shape_data.specs.declared.symbolic.Exp.{Exp}
use Rattle.shape_data.specs.declared.symbolic.Exp.TheVariants.{Var, Const}
use Rattle.shape_data.specs.declared.symbolic.Fact.{Fact}
use Rattle.shape_data.specs.declared.symbolic.Fact.TheVariants.{Eq, Ne}
use Rattle.shape_data.specs.declared.symbolic.Post.{Post}
use Rattle.shape_data.specs.declared.symbolic.SymHeap.{SymHeap}
use Rattle.shape_data.specs.Heap.{struct_named}
use Rattle.shape_data.specs.Names.{IsCName}
use Rattle.shape_data.specs.WellFormed.{storable, AreParams, AreStructs, IsAtom, IsExp, IsFact, IsPost, IsStruct, IsSymHeap}
use Rattle.sym_text.specs.Grammar.{HasInts, HoldsInts, IsInt}
use Rattle.sym_text.specs.Text.{atom_text, exp_text, fact_text, field_names, field_texts, heap_text, joined_texts, post_text}
use Rattle.flow_json.specs.Laws.{FieldFits, StructFits}
use Rattle.flow_json.proofs.TextLaws.{name_is_text}
use Rattle.summary_json.specs.Fits.{HeapFits, PostFits}
use Rattle.summary_json.specs.Texts.{most_of_heap}

-- ---- what holds of texts, with a bound on their bytes

abbrev are_small : List ℕ → Bool
are_small bytes = list_all (λ byte. nat_lt byte 128) bytes

pub record IsTextLaw (P : ℕ → List ℕ → Type 0) : Type 0 where
  pub append : (m n : ℕ) (one other : List ℕ) → P m one → P n other → P (m + n) (one ++ other)
  pub more : (m n : ℕ) (text : List ℕ) → m ≤ n → P m text → P n text
  pub literal : (text : List ℕ) → are_small text ≡ true → P (length text) text

-- ---- what structures are asked for

kind_named : (Q : List ℕ → Type 0) (structs : List StructDef) → All (λ (def : StructDef). Q def.name) structs →
    (kind : List ℕ) (R : StructDef → Type 0) → IsSomeAnd (struct_named structs kind) R → Q kind
kind_named Q [] all kind R found = absurd found
kind_named Q (def ∷ structs) all kind R found =
    by_name (bytes_eq def.name kind) refl found (kind_named Q structs (All-tail (λ (def : StructDef). Q def.name) def structs all) kind R)
  where
    by_name : (b : Bool) → bytes_eq def.name kind ≡ b → IsSomeAnd (if b then Some def else struct_named structs kind) R →
        (IsSomeAnd (struct_named structs kind) R → Q kind) → Q kind
    by_name true same found further = subst Q ((bytes_eq-Decides def.name kind).0 same)
        (All-head (λ (def : StructDef). Q def.name) def structs all)
    by_name false other found further = further found

-- what holds of the names of each structure's fields holds of those that a kind has
fields_named : (Q : List (List ℕ) → Type 0) → Q [] → (structs : List StructDef) →
    All (λ (def : StructDef). Q (map (λ (field : Field). field.name) def.fields)) structs → (kind : List ℕ) → Q (field_names structs kind)
fields_named Q none [] all kind = none
fields_named Q none (def ∷ structs) all kind =
    by_name (bytes_eq def.name kind) refl (fields_named Q none structs (All-tail
    (λ (def : StructDef). Q (map (λ (field : Field). field.name) def.fields)) def structs all) kind)
  where
    by_name : (b : Bool) → bytes_eq def.name kind ≡ b → Q (field_names structs kind) → Q (field_names (def ∷ structs) kind)
    by_name true same further = rw same (All-head (λ (def : StructDef). Q (map (λ (field : Field). field.name) def.fields)) def structs all)
    by_name false other further = rw other further

length_of : {X Y : Type 0} (f : X → Y) (xs : List X) → length (map f xs) ≡ length xs
length_of f [] = refl
length_of f (x ∷ xs) = ap suc (length_of f xs)

few_fields : (structs : List StructDef) → AreStructs structs → (kind : List ℕ) → length (field_names structs kind) ≤ 32768
few_fields structs are_structs kind = fields_named (λ names. length names ≤ 32768) (omega arith) structs
    (All-weaker IsStruct (λ (def : StructDef). length (map (λ (field : Field). field.name) def.fields) ≤ 32768)
    (λ def is. subst (λ n. n ≤ 32768) (sym (length_of (λ (field : Field). field.name) def.fields)) is.fields) structs are_structs.each) kind

-- ---- heaps

module _ (P : ℕ → List ℕ → Type 0) (law : IsTextLaw P) (structs : List StructDef) (params : List (List ℕ)) (Good : Exp → Type 0)
    (exps : (e : Exp) → Good e → P 64 (exp_text params e))
    (fields : (kind : List ℕ) → All (P 64) (field_names structs kind)) (few : (kind : List ℕ) →
    length (field_names structs kind) ≤ 32768) where
  abbrev FactIs : Fact → Type 0
  FactIs (Eq left right) = Good left × Good right
  FactIs (Ne left right) = Good left × Good right

  abbrev AtomIs : Atom → Type 0
  AtomIs (Points at kind values) = P 64 kind × Good at × All Good values
  AtomIs (Seg kind link source target) = P 64 kind × Good source × Good target
  AtomIs Junk = Unit {0}

  empty : P 0 []
  empty = law.literal [] refl

  -- a text behind a literal
  behind : (front : List ℕ) (n : ℕ) (text : List ℕ) → are_small front ≡ true → P n text → P (length front + n) (front ++ text)
  behind front n text small is = law.append (length front) n front text (law.literal front small) is

  -- a text before a literal
  before : (n : ℕ) (text last : List ℕ) → are_small last ≡ true → P n text → P (n + length last) (text ++ last)
  before n text last small is = law.append n (length last) text last is (law.literal last small)

  fact_is : (fact : Fact) → FactIs fact → P 4300000 (fact_text params fact)
  fact_is (Eq left right) is =
      law.more 129 4300000 (fact_text params (Eq left right)) (omega arith)
      (law.append 65 64 (exp_text params left ++ codes "=") (exp_text params right)
      (before 64 (exp_text params left) (codes "=") refl (exps left is.0)) (exps right is.1))
  fact_is (Ne left right) is =
      law.more 130 4300000 (fact_text params (Ne left right)) (omega arith)
      (law.append 66 64 (exp_text params left ++ codes "!=") (exp_text params right)
      (before 64 (exp_text params left) (codes "!=") refl (exps left is.0)) (exps right is.1))

  -- fields, with commas between
  fields_are : (names : List (List ℕ)) (values : List Exp) → All (P 64) names → All Good values →
      All (P 129) (field_texts params names values)
  fields_are [] values all good = All-nil (P 129)
  fields_are (name ∷ names) [] all good = All-nil (P 129)
  fields_are (name ∷ names) (value ∷ values) all good =
      All-cons (P 129) (name ++ codes ":" ++ exp_text params value) (field_texts params names values)
      (law.append 65 64 (name ++ codes ":") (exp_text params value) (before 64 name (codes ":") refl (All-head (P 64) name names all))
      (exps value (All-head Good value values good)))
      (fields_are names values (All-tail (P 64) name names all) (All-tail Good value values good))

  fields_few : (names : List (List ℕ)) (values : List Exp) → length (field_texts params names values) ≤ length names
  fields_few [] values = omega arith
  fields_few (name ∷ names) [] = omega arith
  fields_few (name ∷ names) (value ∷ values) = let less = fields_few names values in omega arith

  commas_behind : (texts : List (List ℕ)) → All (P 129) texts → P (130 * length texts) (flat_map (λ text. codes "," ++ text) texts)
  commas_behind [] all = empty
  commas_behind (text ∷ texts) all =
      law.more (130 + 130 * length texts) (130 * length (text ∷ texts)) (flat_map (λ text. codes "," ++ text) (text ∷ texts)) (omega arith)
      (law.append 130 (130 * length texts) (codes "," ++ text) (flat_map (λ text. codes "," ++ text) texts)
      (behind (codes ",") 129 text refl (All-head (P 129) text texts all)) (commas_behind texts (All-tail (P 129) text texts all)))

  commas_between : (texts : List (List ℕ)) → All (P 129) texts → P (130 * length texts) (join_by (λ text. text) (codes ",") texts)
  commas_between [] all = empty
  commas_between (text ∷ texts) all =
      law.more (129 + 130 * length texts) (130 * length (text ∷ texts)) (join_by (λ text. text) (codes ",") (text ∷ texts)) (omega arith)
      (law.append 129 (130 * length texts) text (flat_map (λ text. codes "," ++ text) texts) (All-head (P 129) text texts all)
      (commas_behind texts (All-tail (P 129) text texts all)))

  name_at : (names : List (List ℕ)) → All (P 64) names → (place : ℕ) → P 64 (slice_index_or names place [])
  name_at [] all place = law.more 0 64 [] (omega arith) empty
  name_at (name ∷ names) all zero = All-head (P 64) name names all
  name_at (name ∷ names) all (suc place) = name_at names (All-tail (P 64) name names all) place

  atom_is : (atom : Atom) → AtomIs atom → P 4300000 (atom_text structs params atom)
  atom_is (Points at kind values) is =
      let texts = field_texts params (field_names structs kind) values in
      let between : List ℕ = join_by (λ text. text) (codes ",") texts in
      let less = fields_few (field_names structs kind) values in
      let all = few kind in
      let front : List ℕ = exp_text params at ++ codes "|->" ++ kind ++ codes "(" in
      law.more (132 + 130 * length texts + 1) 4300000 (atom_text structs params (Points at kind values)) (omega arith)
      (before (132 + 130 * length texts) (front ++ between) (codes ")") refl
      (law.append 132 (130 * length texts) front between
      (before 131 (exp_text params at ++ codes "|->" ++ kind) (codes "(") refl
      (law.append 67 64 (exp_text params at ++ codes "|->") kind (before 64 (exp_text params at) (codes "|->") refl (exps at is.1)) is.0))
      (commas_between texts (fields_are (field_names structs kind) values (fields kind) is.2))))
  atom_is (Seg kind link source target) is =
      let name : List ℕ = slice_index_or (field_names structs kind) link [] in
      let whole : List ℕ = codes "ls[" ++ kind ++ codes "." ++ name in
      law.more 264 4300000 (atom_text structs params (Seg kind link source target)) (omega arith)
      (before 263 (whole ++ codes "](" ++ exp_text params source ++ codes "," ++ exp_text params target) (codes ")") refl
      (law.append 199 64 (whole ++ codes "](" ++ exp_text params source ++ codes ",") (exp_text params target)
      (before 198 (whole ++ codes "](" ++ exp_text params source) (codes ",") refl
      (law.append 134 64 (whole ++ codes "](") (exp_text params source)
      (before 132 whole (codes "](") refl
      (law.append 68 64 (codes "ls[" ++ kind ++ codes ".") name
      (before 67 (codes "ls[" ++ kind) (codes ".") refl (behind (codes "ls[") 64 kind refl is.0))
      (name_at (field_names structs kind) (fields kind) link)))
      (exps source is.1)))
      (exps target is.2)))
  atom_is Junk is = law.more 4 4300000 (codes "junk") (omega arith) (law.literal (codes "junk") refl)

  -- parts, with ` * ` between
  stars_behind : (texts : List (List ℕ)) → All (P 4300000) texts → P (4300003 * length texts) (flat_map (λ text. codes " * " ++ text) texts)
  stars_behind [] all = empty
  stars_behind (text ∷ texts) all =
      law.more (4300003 + 4300003 * length texts) (4300003 * length (text ∷ texts))
      (flat_map (λ text. codes " * " ++ text) (text ∷ texts)) (omega arith)
      (law.append 4300003 (4300003 * length texts) (codes " * " ++ text) (flat_map (λ text. codes " * " ++ text) texts)
      (behind (codes " * ") 4300000 text refl (All-head (P 4300000) text texts all))
      (stars_behind texts (All-tail (P 4300000) text texts all)))

  joined_are : (texts : List (List ℕ)) → length texts ≤ 96 → All (P 4300000) texts → P 412800300 (joined_texts texts)
  joined_are [] few_so all = law.more 3 412800300 (codes "emp") (omega arith) (law.literal (codes "emp") refl)
  joined_are (text ∷ texts) few_so all =
      law.more (4300000 + 4300003 * length texts) 412800300 (joined_texts (text ∷ texts)) (omega arith)
      (law.append 4300000 (4300003 * length texts) text (flat_map (λ text. codes " * " ++ text) texts)
      (All-head (P 4300000) text texts all) (stars_behind texts (All-tail (P 4300000) text texts all)))

  heap_is : (heap : SymHeap) → length heap.pure + length heap.spatial ≤ 96 → All FactIs heap.pure → All AtomIs heap.spatial →
      P 412800300 (heap_text structs params heap)
  heap_is heap parts facts atoms =
      let few_so : length (map (fact_text params) heap.pure ++ map (atom_text structs params) heap.spatial) ≤ 96 =
      subst (λ n. n ≤ 96) (sym (length-append (map (fact_text params) heap.pure) (map (atom_text structs params) heap.spatial)))
      (let one = length_of (fact_text params) heap.pure in let other =
      length_of (atom_text structs params) heap.spatial in omega arith) in
      joined_are (map (fact_text params) heap.pure ++ map (atom_text structs params) heap.spatial) few_so
      (All-append (P 4300000) (map (fact_text params) heap.pure) (map (atom_text structs params) heap.spatial)
      (All-map (P 4300000) (fact_text params) heap.pure (All-weaker FactIs
      (λ fact. P 4300000 (fact_text params fact)) fact_is heap.pure facts))
      (All-map (P 4300000) (atom_text structs params) heap.spatial (All-weaker AtomIs
      (λ atom. P 4300000 (atom_text structs params atom)) atom_is heap.spatial atoms)))

  post_is : (post : Post) → length post.heap.pure + length post.heap.spatial ≤ 96 → All FactIs post.heap.pure →
      All AtomIs post.heap.spatial → Good post.ret → P 412800400 (post_text structs params true post)
  post_is post parts facts atoms ret =
      law.more (412800300 + 69) 412800400 (post_text structs params true post) (omega arith)
      (law.append 412800300 69 (heap_text structs params post.heap) (codes " ret=" ++ exp_text params post.ret)
      (heap_is post.heap parts facts atoms) (behind (codes " ret=") 64 (exp_text params post.ret) refl (exps post.ret ret)))

-- ---- UTF-8

small_byte : (b : ℕ) → nat_lt b 128 ≡ true → b < 128
small_byte b is = ltb-true b 128 is

pub small_ascii : (bytes : List ℕ) → are_small bytes ≡ true → IsAscii bytes
small_ascii [] is i = omega arith
small_ascii (b ∷ bytes) is zero = small_byte b (and_parts (nat_lt b 128) (are_small bytes) is).0
small_ascii (b ∷ bytes) is (suc i) = small_ascii bytes (and_parts (nat_lt b 128) (are_small bytes) is).1 i

glyph_small : (d : ℕ) → d < 10 → digit_glyph false d < 128
glyph_small d small = by_test (nat_lt d 10)
  where
    by_test : (b : Bool) → (if b then 48 + d else 87 + d) < 128
    by_test true = omega arith
    by_test false = omega arith

ascii_more : (byte : ℕ) (bytes : List ℕ) → byte < 128 → IsAscii bytes → IsAscii (byte ∷ bytes)
ascii_more byte bytes small all zero = small
ascii_more byte bytes small all (suc i) = all i

digit_ascii : (n : ℕ) (behind : List ℕ) → IsAscii behind → IsAscii (digit_glyph false (n % 10) ∷ behind)
digit_ascii n behind all = ascii_more (digit_glyph false (n % 10)) behind (glyph_small (n % 10) (omega arith)) all

onto_ascii : (k n : ℕ) (behind : List ℕ) → IsAscii behind → IsAscii (digits_onto k 10 false n behind)
onto_ascii zero n behind all = all
onto_ascii (suc k) n behind all = by_last (n / 10 == 0) (digit_ascii n behind all)
    (onto_ascii k (n / 10) (digit_glyph false (n % 10) ∷ behind) (digit_ascii n behind all))
  where
    by_last : (b : Bool) → IsAscii (digit_glyph false (n % 10) ∷ behind) →
        IsAscii (digits_onto k 10 false (n / 10) (digit_glyph false (n % 10) ∷ behind)) →
        IsAscii (if b then digit_glyph false (n % 10) ∷ behind else digits_onto k 10 false (n / 10) (digit_glyph false (n % 10) ∷ behind))
    by_last true here further = here
    by_last false here further = further

decimal_ascii : (n : ℕ) → IsAscii (decimal n)
unfolding digits
decimal_ascii n = onto_ascii 64 n [] (λ i. omega arith)

decimal_utf8 : (n : ℕ) → IsUtf8 (decimal n)
decimal_utf8 n = IsUtf8-from_ascii (decimal n) (decimal_ascii n)

utf8_law : IsTextLaw (λ m text. IsUtf8 text)
utf8_law = record {
  append = λ m n one other is so. IsUtf8-append one other is so;
  more = λ m n text less is. is;
  literal = λ text small. IsUtf8-from_ascii text (small_ascii text small);
}

utf8_at : (names : List (List ℕ)) → All IsUtf8 names → (place : ℕ) → IsUtf8 (slice_index_or names place [])
utf8_at [] all place = utf8_law.literal [] refl
utf8_at (name ∷ names) all zero = All-head IsUtf8 name names all
utf8_at (name ∷ names) all (suc place) = utf8_at names (All-tail IsUtf8 name names all) place

exp_utf8 : (params : List (List ℕ)) → All IsUtf8 params → (e : Exp) → IsUtf8 (exp_text params e)
exp_utf8 params all (Var x) = by_param (nat_lt x (length params)) (nat_lt x 65536)
  where
    by_param : (a b : Bool) → IsUtf8 (if a then slice_index_or params x [] else
        (if b then codes "$" ++ decimal (x - length params + 1) else codes "?" ++ decimal (x - 65535)))
    by_param true b = utf8_at params all x
    by_param false true = IsUtf8-append (codes "$") (decimal (x - length params + 1)) (utf8_law.literal (codes "$") refl)
        (decimal_utf8 (x - length params + 1))
    by_param false false = IsUtf8-append (codes "?") (decimal (x - 65535)) (utf8_law.literal (codes "?") refl) (decimal_utf8 (x - 65535))
exp_utf8 params all (Const (pos n)) = decimal_utf8 n
exp_utf8 params all (Const (negsuc n)) = IsUtf8-append (45 ∷ []) (decimal (suc n)) (utf8_law.literal (45 ∷ []) refl) (decimal_utf8 (suc n))

pub names_are_utf8 : (names : List (List ℕ)) → All IsCName names → All IsUtf8 names
names_are_utf8 names all = All-weaker IsCName IsUtf8 name_is_text names all

pub exp_is_utf8 : (params : List (List ℕ)) → AreParams params → (e : Exp) → IsUtf8 (exp_text params e)
exp_is_utf8 params are e = exp_utf8 params (names_are_utf8 params are.names) e

module _ (structs : List StructDef) (params : List (List ℕ)) (are_structs : AreStructs structs) (are_params : AreParams params) where
  fields_utf8 : (kind : List ℕ) → All IsUtf8 (field_names structs kind)
  fields_utf8 kind = fields_named (All IsUtf8) (All-nil IsUtf8) structs
      (All-weaker IsStruct (λ (def : StructDef). All IsUtf8 (map (λ (field : Field). field.name) def.fields))
      (λ def is. All-map IsUtf8 (λ (field : Field). field.name) def.fields
      (All-weaker (λ (field : Field). IsCName field.name) (λ (field : Field). IsUtf8 field.name)
      (λ field name. name_is_text field.name name) def.fields is.field_names))
      structs are_structs.each) kind

  names_utf8 : All (λ (def : StructDef). IsUtf8 def.name) structs
  names_utf8 = All-weaker IsStruct (λ (def : StructDef). IsUtf8 def.name) (λ def is. name_is_text def.name is.name) structs are_structs.each

  -- every expression is good here
  abbrev Any : Exp → Type 0
  Any e = Unit {0}

  utf8_fact : (fact : Fact) → IsFact storable (length params) fact → FactIs (λ m text. IsUtf8 text) utf8_law structs params Any
      (λ e is. exp_is_utf8 params are_params e) fields_utf8 (few_fields structs are_structs) fact
  utf8_fact (Eq left right) is = (tt, tt)
  utf8_fact (Ne left right) is = (tt, tt)

  utf8_atom : (atom : Atom) → IsAtom storable structs (length params) atom →
      AtomIs (λ m text. IsUtf8 text) utf8_law structs params Any (λ e is. exp_is_utf8 params are_params e) fields_utf8
      (few_fields structs are_structs) atom
  utf8_atom (Points at kind values) is = (
    kind_named IsUtf8 structs names_utf8 kind (λ def. length values ≡ length def.fields) is.1,
    tt,
    λ k d within. tt,
  )
  utf8_atom (Seg kind link source target) is = (kind_named IsUtf8 structs names_utf8 kind (λ def. link < length def.fields) is.0, tt, tt)
  utf8_atom Junk is = tt

  pub heap_is_utf8 : (heap : SymHeap) → IsSymHeap storable structs (length params) heap → IsUtf8 (heap_text structs params heap)
  heap_is_utf8 heap is = heap_is (λ m text. IsUtf8 text) utf8_law structs params Any (λ e is. exp_is_utf8 params are_params e) fields_utf8
      (few_fields structs are_structs) heap is.parts
      (All-weaker (IsFact storable (length params)) _ utf8_fact heap.pure is.facts)
      (All-weaker (IsAtom storable structs (length params)) _ utf8_atom heap.spatial is.atoms)

  pub post_is_utf8 : (post : Post) → IsPost storable structs (length params) post → IsUtf8 (post_text structs params true post)
  post_is_utf8 post is =
      IsUtf8-append (heap_text structs params post.heap) _ (heap_is_utf8 post.heap is.heap)
      (IsUtf8-append (codes " ret=") (exp_text params post.ret) (utf8_law.literal (codes " ret=") refl)
      (exp_is_utf8 params are_params post.ret))

-- ---- short texts

short_law : IsTextLaw (λ m text. length text ≤ m)
short_law = record {
  append = λ m n one other is so. let sum = length-append one other in omega arith;
  more = λ m n text less is. omega arith;
  literal = λ text small. omega arith;
}

abbrev pub IsShort : List ℕ → Type 0
IsShort text = length text ≤ 64

short_at : (names : List (List ℕ)) → All IsShort names → (place : ℕ) → length (slice_index_or names place []) ≤ 64
short_at [] all place = omega arith
short_at (name ∷ names) all zero = All-head IsShort name names all
short_at (name ∷ names) all (suc place) = short_at names (All-tail IsShort name names all) place

pub exp_is_short : (params : List (List ℕ)) → All IsShort params → (e : Exp) → IsExp storable (length params) e × IsInt e →
    length (exp_text params e) ≤ 64
exp_is_short params all (Var x) is = by_param (nat_lt x (length params)) (nat_lt x 65536)
  where
    small : x < 98304
    small = ltb-true x 98304 (and_parts (not (nat_lt x 65536) || nat_lt x (length params + 32768)) (nat_lt x 98304) is.0).1

    by_param : (a b : Bool) → length (if a then slice_index_or params x [] else
        (if b then codes "$" ++ decimal (x - length params + 1) else codes "?" ++ decimal (x - 65535))) ≤ 64
    by_param true b = short_at params all x
    by_param false true = let under : x < 98304 = small in let few = length-decimal-le 5 (x - length params + 1) (omega arith)
        (omega arith) (omega arith) in omega arith
    by_param false false = let under : x < 98304 = small in let few = length-decimal-le 5 (x - 65535) (omega arith) (omega arith)
        (omega arith) in omega arith
exp_is_short params all (Const (pos n)) is = let small : n ≤ 2147483647 = is.1 in let few =
    length-decimal-le 10 n (omega arith) (omega arith) (omega arith) in omega arith
exp_is_short params all (Const (negsuc n)) is = let small : n ≤ 2147483647 = is.1 in let few =
    length-decimal-le 10 (suc n) (omega arith) (omega arith) (omega arith) in omega arith

module _ (structs : List StructDef) (params : List (List ℕ)) (are_structs : AreStructs structs) (fit : All StructFits structs)
    (short : All IsShort params) where
  fields_short : (kind : List ℕ) → All IsShort (field_names structs kind)
  fields_short kind = fields_named (All IsShort) (All-nil IsShort) structs
      (All-weaker StructFits (λ (def : StructDef). All IsShort (map (λ (field : Field). field.name) def.fields))
      (λ def is. All-map IsShort (λ (field : Field). field.name) def.fields
      (All-weaker FieldFits (λ (field : Field). IsShort field.name) (λ field it. it.0.1) def.fields is.1)) structs fit) kind

  names_short : All (λ (def : StructDef). IsShort def.name) structs
  names_short = All-weaker StructFits (λ (def : StructDef). IsShort def.name) (λ def is. is.0.1) structs fit

  -- expressions that have a short text
  abbrev Small : Exp → Type 0
  Small e = IsExp storable (length params) e × IsInt e

  short_fact : (fact : Fact) → IsFact storable (length params) fact × HasInts fact →
      FactIs (λ m text. length text ≤ m) short_law structs params Small (exp_is_short params short) fields_short
      (few_fields structs are_structs) fact
  short_fact (Eq left right) is = ((is.0.0, is.1.0), (is.0.1, is.1.1))
  short_fact (Ne left right) is = ((is.0.0, is.1.0), (is.0.1, is.1.1))

  short_atom : (atom : Atom) → IsAtom storable structs (length params) atom × HoldsInts atom →
      AtomIs (λ m text. length text ≤ m) short_law structs params Small (exp_is_short params short) fields_short
      (few_fields structs are_structs) atom
  short_atom (Points at kind values) is = (
    kind_named IsShort structs names_short kind (λ def. length values ≡ length def.fields) is.0.1,
    (is.0.0, is.1.0),
    λ k d within. (is.0.2 k d within, is.1.1 k d within),
  )
  short_atom (Seg kind link source target) is = (
    kind_named IsShort structs names_short kind (λ def. link < length def.fields) is.0.0,
    (is.0.1, is.1.0),
    (is.0.2, is.1.1),
  )
  short_atom Junk is = tt

  short_facts : (facts : List Fact) → All (IsFact storable (length params)) facts → All HasInts facts →
      All (FactIs (λ m text. length text ≤ m) short_law structs params Small (exp_is_short params short) fields_short
      (few_fields structs are_structs)) facts
  short_facts facts all ints k d within = short_fact (slice_index_or facts k d) (all k d within, ints k d within)

  short_atoms : (atoms : List Atom) → All (IsAtom storable structs (length params)) atoms → All HoldsInts atoms →
      All (AtomIs (λ m text. length text ≤ m) short_law structs params Small (exp_is_short params short) fields_short
      (few_fields structs are_structs)) atoms
  short_atoms atoms all ints k d within = short_atom (slice_index_or atoms k d) (all k d within, ints k d within)

  pub heap_is_short : (heap : SymHeap) → IsSymHeap storable structs (length params) heap → HeapFits heap →
      length (heap_text structs params heap) ≤ most_of_heap
  heap_is_short heap is fits =
      let few = heap_is (λ m text. length text ≤ m) short_law structs params Small (exp_is_short params short) fields_short
      (few_fields structs are_structs) heap is.parts
      (short_facts heap.pure is.facts fits.0) (short_atoms heap.spatial is.atoms fits.1) in
      omega arith

  pub post_is_short : (post : Post) → IsPost storable structs (length params) post → PostFits post →
      length (post_text structs params true post) ≤ most_of_heap
  post_is_short post is fits =
      let few = post_is (λ m text. length text ≤ m) short_law structs params Small (exp_is_short params short) fields_short
      (few_fields structs are_structs) post is.heap.parts
      (short_facts post.heap.pure is.heap.facts fits.1.0) (short_atoms post.heap.spatial is.heap.atoms fits.1.1) (is.ret, fits.0) in
      omega arith
