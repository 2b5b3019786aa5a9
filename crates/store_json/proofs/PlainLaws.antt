-- The text that is written of a value reads as that value (RFC 8259), if the value is plain: its integers have 64 bits, its strings are
-- UTF-8, the members of its objects stand in order, and it has few levels.
use Rattle.std.specs.Prelude.{◌≡◌, ◌<◌, ◌≤◌, ◌^◌, ℕ, zero, suc, pos, negsuc, Bool, true, false, ◌&&◌, List, [], ◌∷◌, ◌++◌, option_and_then}
use Rattle.std.specs.Prelude.{option_map, IsUtf8}
use Rattle.std.specs.Cmp.Lexicographic.{slice_cmp}
use Rattle.std.specs.Ordering.{match_ordering, nat_cmp}
use Rattle.std.specs.declared.cmp.Ordering.{Ordering}
use Rattle.std.specs.declared.cmp.Ordering.TheVariants.{Equal, Greater, Less}
use Rattle.std.specs.declared.option.Option.TheVariants.{Some}
use Rattle.std.proofs.Common.{refl, sym, ap, ◌∙◌, arith, append-nil}
use Rattle.std.proofs.lemmas.Bool.{and_parts}
use Rattle.std.proofs.lemmas.Str.{IsUtf8-append}
use Rattle.json.specs.Json as json
use Rattle.json.specs.Lex.{tokens}
use Rattle.json.specs.Print.{IsNumber}
use Rattle.json.specs.Tree as tree
use Rattle.json.proofs.Printed.Decimals.{IsNumber-decimal, IsNumber-signed_decimal}
use Rattle.json.proofs.Printed.Tokens.{tokens-print}
use Rattle.json.proofs.Printed.Trees.{ArePrintable-json_tokens, value-json_tokens}
use Rattle.json.proofs.Printed.Utf8.{are_ascii, IsUtf8-are_ascii, IsUtf8-boolean, IsUtf8-quoted}
use Rattle.serde_json.specs.Data.{Num, unsigned, negative, float, Data, null, boolean, number, string, array, object, Items, no_items, item}
use Rattle.serde_json.specs.Data.{Members, no_members, member, put}
use Rattle.serde_json.specs.Read.{max_depth, number_of, of_items, of_json, of_members, read}
use Rattle.serde_json.specs.Written.{comma_if, compact_text, items_outline, items_text, members_outline, members_text, number_text, outline}
use Rattle.serde_json.proofs.Numbers.{number_of-decimal, number_of-negative}
use Rattle.serde_json.proofs.Texts.{print-outline}
use Rattle.shape_data.specs.declared.symbolic.Exp.TheVariants.{Const}
use Rattle.summary_json.proofs.KeyTexts.{no_params}
use Rattle.summary_json.proofs.PlainTexts.{exp_is_utf8}

-- ---- members in order

abbrev pub joined : Members → Members → Members
joined no_members others = others
joined (member k d ms) others = member k d (joined ms others)

-- the name is above those of the members
abbrev pub is_above : List ℕ → Members → Bool
is_above k no_members = true
is_above k (member l d ms) = match_ordering (slice_cmp nat_cmp k l) false false true && is_above k ms

-- each of the second members is above those before it
abbrev pub are_in_order : Members → Members → Bool
are_in_order found no_members = true
are_in_order found (member k d ms) = is_above k found && are_in_order (joined found (member k d no_members)) ms

is_greater : (o : Ordering) → match_ordering o false false true ≡ true → o ≡ Greater
is_greater Less is = cc
is_greater Equal is = cc
is_greater Greater is = refl

put_last : (k : List ℕ) (d : Data) (found : Members) → is_above k found ≡ true → put k d found ≡ joined found (member k d no_members)
put_last k d no_members is = refl
put_last k d (member l e ms) is =
    let parts = and_parts (match_ordering (slice_cmp nat_cmp k l) false false true) (is_above k ms) is in
    let above : slice_cmp nat_cmp k l ≡ Greater = is_greater (slice_cmp nat_cmp k l) parts.0 in
    rw above (ap (λ others. member l e others) (put_last k d ms parts.1))

joined_nothing : (ms : Members) → joined ms no_members ≡ ms
joined_nothing no_members = refl
joined_nothing (member k d ms) = ap (λ others. member k d others) (joined_nothing ms)

joined_more : (found ms : Members) (k : List ℕ) (d : Data) → joined (joined found (member k d no_members)) ms ≡ joined found (member k d ms)
joined_more no_members ms k d = refl
joined_more (member l e found) ms k d = ap (λ others. member l e others) (joined_more found ms k d)

-- ---- plain values

abbrev pub IsPlainNum : Num → Type 0
IsPlainNum (unsigned n) = n < 2 ^ 64
IsPlainNum (negative (pos n)) = ⊥
IsPlainNum (negative (negsuc n)) = suc n < 2 ^ 63
IsPlainNum (float x) = ⊥

abbrev mutual
  -- with at most so many levels
  pub IsPlain : Data → ℕ → Type 0
  IsPlain null levels = Unit {0}
  IsPlain (boolean b) levels = Unit {0}
  IsPlain (number k) levels = IsPlainNum k
  IsPlain (string s) levels = IsUtf8 s
  IsPlain (array ds) zero = ⊥
  IsPlain (array ds) (suc levels) = ArePlain ds levels
  IsPlain (object ms) zero = ⊥
  IsPlain (object ms) (suc levels) = (are_in_order no_members ms ≡ true) × ArePlainMembers ms levels

  pub ArePlain : Items → ℕ → Type 0
  ArePlain no_items levels = Unit {0}
  ArePlain (item d ds) levels = IsPlain d levels × ArePlain ds levels

  pub ArePlainMembers : Members → ℕ → Type 0
  ArePlainMembers no_members levels = Unit {0}
  ArePlainMembers (member k d ms) levels = IsUtf8 k × IsPlain d levels × ArePlainMembers ms levels

-- ---- what is made of the outline

num_read : (k : Num) → IsPlainNum k → number_of (number_text k) ≡ Some k
num_read (unsigned n) is = number_of-decimal n is
num_read (negative (pos n)) is = absurd is
num_read (negative (negsuc n)) is = number_of-negative n (omega arith)
num_read (float x) is = absurd is

mutual
  of_value : (d : Data) (levels : ℕ) → IsPlain d levels → of_json (outline d) ≡ Some d
  of_value null levels is = refl
  of_value (boolean b) levels is = refl
  of_value (number k) levels is = ap (option_map number) (num_read k is)
  of_value (string s) levels is = refl
  of_value (array ds) zero is = absurd is
  of_value (array ds) (suc levels) is = ap (option_map array) (of_values ds levels is)
  of_value (object ms) zero is = absurd is
  of_value (object ms) (suc levels) is = ap (option_map object) (of_all ms no_members levels is.0 is.1)

  of_values : (ds : Items) (levels : ℕ) → ArePlain ds levels → of_items (items_outline ds) ≡ Some ds
  of_values no_items levels is = refl
  of_values (item d ds) levels is =
      ap (option_and_then (λ one. option_map (item one) (of_items (items_outline ds)))) (of_value d levels is.0)
      ∙ ap (option_map (item d)) (of_values ds levels is.1)

  of_all : (ms found : Members) (levels : ℕ) → are_in_order found ms ≡ true → ArePlainMembers ms levels →
      of_members (members_outline ms) found ≡ Some (joined found ms)
  of_all no_members found levels order is = ap Some (sym (joined_nothing found))
  of_all (member k d ms) found levels order is =
      let parts = and_parts (is_above k found) (are_in_order (joined found (member k d no_members)) ms) order in
      ap (option_and_then (λ one. of_members (members_outline ms) (put k one found))) (of_value d levels is.1)
      ∙ ap (of_members (members_outline ms)) (put_last k d found parts.0)
      ∙ of_all ms (joined found (member k d no_members)) levels parts.1 is.2 ∙ ap Some (joined_more found ms k d)

num_is_number : (k : Num) → IsPlainNum k → IsNumber (number_text k)
num_is_number (unsigned n) is = IsNumber-decimal n is
num_is_number (negative (pos n)) is = absurd is
num_is_number (negative (negsuc n)) is = let few : n < 2 ^ 63 = omega arith in IsNumber-signed_decimal (negsuc n) few
num_is_number (float x) is = absurd is

mutual
  numbers : (d : Data) (levels : ℕ) → IsPlain d levels → tree.HasNumbers (outline d)
  numbers null levels is = tt
  numbers (boolean b) levels is = tt
  numbers (number k) levels is = num_is_number k is
  numbers (string s) levels is = tt
  numbers (array ds) zero is = absurd is
  numbers (array ds) (suc levels) is = items_numbers ds levels is
  numbers (object ms) zero is = absurd is
  numbers (object ms) (suc levels) is = members_numbers ms levels is.1

  items_numbers : (ds : Items) (levels : ℕ) → ArePlain ds levels → tree.ItemsHaveNumbers (items_outline ds)
  items_numbers no_items levels is = tt
  items_numbers (item d ds) levels is = (numbers d levels is.0, items_numbers ds levels is.1)

  members_numbers : (ms : Members) (levels : ℕ) → ArePlainMembers ms levels → tree.MembersHaveNumbers (members_outline ms)
  members_numbers no_members levels is = tt
  members_numbers (member k d ms) levels is = (numbers d levels is.1, members_numbers ms levels is.2)

mutual
  few_levels : (d : Data) (levels : ℕ) → IsPlain d levels → tree.depth (outline d) ≤ levels
  few_levels null levels is = omega arith
  few_levels (boolean b) levels is = omega arith
  few_levels (number k) levels is = omega arith
  few_levels (string s) levels is = omega arith
  few_levels (array ds) zero is = absurd is
  few_levels (array ds) (suc levels) is = let few = few_items ds levels is in omega (arith, few)
  few_levels (object ms) zero is = absurd is
  few_levels (object ms) (suc levels) is = let few = few_members ms levels is.1 in omega (arith, few)

  few_items : (ds : Items) (levels : ℕ) → ArePlain ds levels → tree.items_depth (items_outline ds) ≤ levels
  few_items no_items levels is = omega arith
  few_items (item d ds) levels is =
      let one = few_levels d levels is.0 in let others = few_items ds levels is.1 in omega (arith, one, others)

  few_members : (ms : Members) (levels : ℕ) → ArePlainMembers ms levels → tree.members_depth (members_outline ms) ≤ levels
  few_members no_members levels is = omega arith
  few_members (member k d ms) levels is =
      let one = few_levels d levels is.1 in let others = few_members ms levels is.2 in omega (arith, one, others)

-- ---- what is written is UTF-8

pub literal : (text : List ℕ) → are_ascii text ≡ true → IsUtf8 text
literal text small = IsUtf8-are_ascii text small

num_is_utf8 : (k : Num) → IsPlainNum k → IsUtf8 (number_text k)
num_is_utf8 (unsigned n) is = exp_is_utf8 [] no_params (Const (pos n))
num_is_utf8 (negative (pos n)) is = absurd is
num_is_utf8 (negative (negsuc n)) is = exp_is_utf8 [] no_params (Const (negsuc n))
num_is_utf8 (float x) is = absurd is

comma_is_utf8 : (later : Bool) → IsUtf8 (comma_if later)
comma_is_utf8 true = literal (44 ∷ []) refl
comma_is_utf8 false = literal [] refl

mutual
  value_is_utf8 : (d : Data) (levels : ℕ) → IsPlain d levels → IsUtf8 (compact_text d)
  value_is_utf8 null levels is = literal _ refl
  value_is_utf8 (boolean b) levels is = IsUtf8-boolean b
  value_is_utf8 (number k) levels is = num_is_utf8 k is
  value_is_utf8 (string s) levels is = IsUtf8-quoted s is
  value_is_utf8 (array ds) zero is = absurd is
  value_is_utf8 (array ds) (suc levels) is =
      IsUtf8-append (91 ∷ []) (items_text false ds) (literal (91 ∷ []) refl) (items_are_utf8 false ds levels is)
  value_is_utf8 (object ms) zero is = absurd is
  value_is_utf8 (object ms) (suc levels) is =
      IsUtf8-append (123 ∷ []) (members_text false ms) (literal (123 ∷ []) refl) (members_are_utf8 false ms levels is.1)

  items_are_utf8 : (later : Bool) (ds : Items) (levels : ℕ) → ArePlain ds levels → IsUtf8 (items_text later ds)
  items_are_utf8 later no_items levels is = literal (93 ∷ []) refl
  items_are_utf8 later (item d ds) levels is =
      IsUtf8-append (comma_if later) (compact_text d ++ items_text true ds) (comma_is_utf8 later)
      (IsUtf8-append (compact_text d) (items_text true ds) (value_is_utf8 d levels is.0) (items_are_utf8 true ds levels is.1))

  members_are_utf8 : (later : Bool) (ms : Members) (levels : ℕ) → ArePlainMembers ms levels → IsUtf8 (members_text later ms)
  members_are_utf8 later no_members levels is = literal (125 ∷ []) refl
  members_are_utf8 later (member k d ms) levels is =
      IsUtf8-append (comma_if later) _ (comma_is_utf8 later)
      (IsUtf8-append _ _ (IsUtf8-quoted k is.0)
      (IsUtf8-append (58 ∷ []) (compact_text d ++ members_text true ms) (literal (58 ∷ []) refl)
      (IsUtf8-append (compact_text d) (members_text true ms) (value_is_utf8 d levels is.1) (members_are_utf8 true ms levels is.2))))

pub text_is_utf8 : (d : Data) (levels : ℕ) → IsPlain d levels → IsUtf8 (compact_text d)
text_is_utf8 d levels is = value_is_utf8 d levels is

-- ---- what is written is read back

pub text_is_read : (d : Data) → IsPlain d max_depth → read (compact_text d) ≡ Some d
text_is_read d is =
    let printed : tokens (compact_text d) ≡ tree.json_tokens (outline d) =
    ap tokens (sym (print-outline d))
    ∙ tokens-print (tree.json_tokens (outline d)) (ArePrintable-json_tokens (outline d) (numbers d max_depth is)) in
    let all : json.value max_depth (tokens (compact_text d)) ≡ Some (outline d, []) =
    ap (json.value max_depth) (printed ∙ sym (append-nil (tree.json_tokens (outline d))))
    ∙ value-json_tokens (outline d) max_depth [] (few_levels d max_depth is) in
    ap (λ found. option_and_then of_json (option_and_then (λ p. json.if_last p.0 p.1) found)) all ∙ of_value d max_depth is
