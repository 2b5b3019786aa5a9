-- What is read has no more entries than there are bytes: each takes at least one token, and each token takes a byte.
use Rattle.std.specs.Prelude.{◌≡◌, ◌+◌, ◌≤◌, ℕ, zero, suc, Bool, true, false, List, [], ◌∷◌, ◌++◌, length, map, option_and_then, option_map}
use Rattle.std.specs.Cmp.Lexicographic.{slice_cmp}
use Rattle.std.specs.Ordering.{match_ordering, nat_cmp}
use Rattle.std.specs.declared.cmp.Ordering.{Ordering}
use Rattle.std.specs.declared.cmp.Ordering.TheVariants.{Equal, Greater, Less}
use Rattle.std.specs.declared.option.Option.{Option}
use Rattle.std.specs.declared.option.Option.TheVariants.{None, Some}
use Rattle.std.proofs.Common.{refl, ap, subst, arith, length-append}
use Rattle.json.specs.Token.{Token}
use Rattle.json.specs.Lex.{lex, lex_byte, begins_colon, if_allowed, place_token, punctuate, tokens, Class, Lexeme, Mode, Place}
use Rattle.json.specs.Lex.{token, comma, colon, between, in_word, in_string, in_escape, fresh, after_value, after_comma, after_key}
use Rattle.json.specs.Lex as class
use Rattle.json.specs.Json as json
use Rattle.json.proofs.Grammar.{after_end_array-shorter, read_key-shorter}
use Rattle.serde_json.specs.Data.{Data, null, boolean, number, string, array, object, Items, no_items, item, Members, no_members, member}
use Rattle.serde_json.specs.Data.{put}
use Rattle.serde_json.specs.Read.{max_depth, number_of, of_items, of_json, of_members, read}
use Rattle.serde_json.specs.View.{items_of}
use Rattle.claim_core.specs.Views.{Solution}
use Rattle.store_json.specs.Laws.{EntriesAreFew}
use Rattle.store_json.specs.Texts.{entry_data, store_data, trailer_of}

-- ---- there are no more tokens than bytes, but for one

lex_turn : (n : ℕ) (mode : Mode) (kind : Class) (x : ℕ) (xs : List ℕ) (k : Mode → List Lexeme) → ((next : Mode) → length (k next) ≤ n) →
    length (lex_byte mode kind x xs k) ≤ suc n
lex_turn n between class.quote x xs k few = let it = few in_string in omega (arith, it)
lex_turn n between class.backslash x xs k few = let it = few in_word in omega (arith, it)
lex_turn n between class.operator x xs k few = let it = few between in omega (arith, it)
lex_turn n between class.space x xs k few = let it = few between in omega (arith, it)
lex_turn n between class.other x xs k few = let it = few in_word in omega (arith, it)
lex_turn n in_word class.quote x xs k few = let it = few in_word in omega (arith, it)
lex_turn n in_word class.backslash x xs k few = let it = few in_word in omega (arith, it)
lex_turn n in_word class.operator x xs k few = let it = few between in omega (arith, it)
lex_turn n in_word class.space x xs k few = let it = few between in omega (arith, it)
lex_turn n in_word class.other x xs k few = let it = few in_word in omega (arith, it)
lex_turn n in_string class.quote x xs k few = let it = few between in omega (arith, it)
lex_turn n in_string class.backslash x xs k few = let it = few in_escape in omega (arith, it)
lex_turn n in_string class.operator x xs k few = let it = few in_string in omega (arith, it)
lex_turn n in_string class.space x xs k few = let it = few in_string in omega (arith, it)
lex_turn n in_string class.other x xs k few = let it = few in_string in omega (arith, it)
lex_turn n in_escape kind x xs k few = let it = few in_string in omega (arith, it)

few_lexemes : (mode : Mode) (xs : List ℕ) → length (lex mode xs) ≤ length xs
unfolding lex
few_lexemes mode [] = omega arith
few_lexemes mode (x ∷ xs) = lex_turn (length xs) mode (class.class x) x xs (λ next. lex next xs) (λ next. few_lexemes next xs)

allowed : (n : ℕ) (b : Bool) (t : Token) (k : Place → List Token) (next : Place) → length (k next) ≤ n →
    length (if_allowed b t k next) ≤ suc n
allowed n true t k next few = omega arith
allowed n false t k next few = omega arith

placed : (n : ℕ) (p : Place) (t : Token) (before_colon : Bool) (k : Place → List Token) → ((next : Place) → length (k next) ≤ n) →
    length (place_token p t before_colon k) ≤ suc n
placed n p Token.begin_object before_colon k few = allowed n _ _ k fresh (few fresh)
placed n p Token.end_object before_colon k few = allowed n _ _ k after_value (few after_value)
placed n p Token.begin_array before_colon k few = allowed n _ _ k fresh (few fresh)
placed n p Token.end_array before_colon k few = allowed n _ _ k after_value (few after_value)
placed n p (Token.key s) before_colon k few = omega arith
placed n p (Token.string s) true k few = allowed n _ _ k after_key (few after_key)
placed n p (Token.string s) false k few = allowed n _ _ k after_value (few after_value)
placed n p (Token.number s) before_colon k few = allowed n _ _ k after_value (few after_value)
placed n p (Token.boolean b) before_colon k few = allowed n _ _ k after_value (few after_value)
placed n p Token.null before_colon k few = allowed n _ _ k after_value (few after_value)
placed n p Token.bad before_colon k few = omega arith

few_tokens_from : (p : Place) (ls : List Lexeme) → length (punctuate p ls) ≤ suc (length ls)
unfolding punctuate
few_tokens_from fresh [] = omega arith
few_tokens_from after_value [] = omega arith
few_tokens_from after_comma [] = omega arith
few_tokens_from after_key [] = omega arith
few_tokens_from fresh (token t ∷ ls) =
    placed (suc (length ls)) fresh t (begins_colon ls) (λ next. punctuate next ls) (λ next. few_tokens_from next ls)
few_tokens_from after_value (token t ∷ ls) =
    placed (suc (length ls)) after_value t (begins_colon ls) (λ next. punctuate next ls) (λ next. few_tokens_from next ls)
few_tokens_from after_comma (token t ∷ ls) =
    placed (suc (length ls)) after_comma t (begins_colon ls) (λ next. punctuate next ls) (λ next. few_tokens_from next ls)
few_tokens_from after_key (token t ∷ ls) =
    placed (suc (length ls)) after_key t (begins_colon ls) (λ next. punctuate next ls) (λ next. few_tokens_from next ls)
few_tokens_from fresh (comma ∷ ls) = omega arith
few_tokens_from after_value (comma ∷ ls) = let it = few_tokens_from after_comma ls in omega (arith, it)
few_tokens_from after_comma (comma ∷ ls) = omega arith
few_tokens_from after_key (comma ∷ ls) = omega arith
few_tokens_from fresh (colon ∷ ls) = omega arith
few_tokens_from after_value (colon ∷ ls) = omega arith
few_tokens_from after_comma (colon ∷ ls) = omega arith
few_tokens_from after_key (colon ∷ ls) = let it = few_tokens_from fresh ls in omega (arith, it)

few_tokens : (text : List ℕ) → length (tokens text) ≤ suc (length text)
few_tokens text =
    let all = few_tokens_from fresh (lex between text) in let bytes = few_lexemes between text in omega (arith, all, bytes)

-- ---- what is read of tokens takes so many of them

abbrev mutual
  size : json.Json → ℕ
  size json.null = 1
  size (json.boolean b) = 1
  size (json.number s) = 1
  size (json.string s) = 1
  size (json.array js) = suc (items_size js)
  size (json.object ms) = suc (members_size ms)

  items_size : json.Items → ℕ
  items_size json.no_items = 1
  items_size (json.item j js) = size j + items_size js

  members_size : json.Members → ℕ
  members_size json.no_members = 1
  members_size (json.member k j ms) = suc (size j + members_size ms)

abbrev AtMost : {A : Type 0} → (A → ℕ) → List Token → Option (A × List Token) → Type 0
AtMost f ts None = Unit {0}
AtMost f ts (Some p) = f p.0 + length p.1 ≤ length ts

abbrev Takes : {A : Type 0} → (A → ℕ) → json.Parse A → Type 0
Takes f p = (ts : List Token) → AtMost f ts (p ts)

mapped : {A B : Type 0} (f : A → ℕ) (g : B → ℕ) (ts us : List Token) (h : A → B) →
    ((a : A) (n : ℕ) → f a + n ≤ length ts → g (h a) + n ≤ length us) → (o : Option (A × List Token)) → AtMost f ts o →
    AtMost g us (json.parse_map h o)
mapped f g ts us h k None x = tt
mapped f g ts us h k (Some p) x = k p.0 (length p.1) x

and_more : {B : Type 0} (g : B → ℕ) (extra : ℕ) (h : json.Json → B → B) → ((j : json.Json) (b : B) → g (h j b) ≡ extra + (size j + g b)) →
    (more : json.Parse B) → Takes g more → (ts us : List Token) → extra + length ts ≤ length us → (o : Option (json.Json × List Token)) →
    AtMost size ts o → AtMost g us (option_and_then (λ q. json.parse_map (h q.0) (more q.1)) o)
and_more g extra h is more takes ts us fits None x = tt
and_more g extra h is more takes ts us fits (Some q) x =
    mapped g g q.1 us (h q.0) (λ b n y. let same = is q.0 b in omega (arith, same, x, y, fits)) (more q.1) (takes q.1)

module _ (p : json.Parse json.Json) (takes : Takes size p) where
  item_turn : (more : json.Parse json.Items) → Takes items_size more → (ts : List Token) (o : Option (List Token)) →
      json.after_end_array ts ≡ o → AtMost items_size ts (json.items_step p more ts o)
  item_turn more again ts (Some r) is = let shorter = after_end_array-shorter ts r is in omega (arith, shorter)
  item_turn more again ts None is = and_more items_size 0 json.item (λ j b. omega arith) more again ts ts (omega arith) (p ts) (takes ts)

  takes_items : (n : ℕ) → Takes items_size (json.items p n)
  unfolding json.items
  takes_items zero ts = tt
  takes_items (suc n) ts = item_turn (json.items p n) (takes_items n) ts (json.after_end_array ts) refl

  member_turn : (more : json.Parse json.Members) → Takes members_size more → (ts : List Token) (o : Option (Option (List ℕ) × List Token)) →
      json.read_key ts ≡ o → AtMost members_size ts (option_and_then (λ q. json.members_step p more q.0 q.1) o)
  member_turn more again ts None is = tt
  member_turn more again ts (Some (None, s)) is = let shorter = read_key-shorter ts None s is in omega (arith, shorter)
  member_turn more again ts (Some (Some k, s)) is =
      let shorter = read_key-shorter ts (Some k) s is in
      and_more members_size 1 (json.member k) (λ j b. omega arith) more again s ts (omega (arith, shorter)) (p s) (takes s)

  takes_members : (n : ℕ) → Takes members_size (json.members p n)
  unfolding json.members
  takes_members zero ts = tt
  takes_members (suc n) ts = member_turn (json.members p n) (takes_members n) ts (json.read_key ts) refl

one_level : (a : json.Parse json.Items) (o : json.Parse json.Members) →
    ((ts : List Token) → AtMost size (Token.begin_array ∷ ts) (json.parse_map json.array (a ts))) →
    ((ts : List Token) → AtMost size (Token.begin_object ∷ ts) (json.parse_map json.object (o ts))) → Takes size (json.value_with a o)
one_level a o p q [] = tt
one_level a o p q (Token.begin_object ∷ ts) = q ts
one_level a o p q (Token.end_object ∷ ts) = tt
one_level a o p q (Token.begin_array ∷ ts) = p ts
one_level a o p q (Token.end_array ∷ ts) = tt
one_level a o p q (Token.key s ∷ ts) = tt
one_level a o p q (Token.string s ∷ ts) = omega arith
one_level a o p q (Token.number s ∷ ts) = omega arith
one_level a o p q (Token.boolean b ∷ ts) = omega arith
one_level a o p q (Token.null ∷ ts) = omega arith
one_level a o p q (Token.bad ∷ ts) = tt

takes_value : (levels : ℕ) → Takes size (json.value levels)
unfolding json.value
takes_value zero = one_level (λ ts. None) (λ ts. None) (λ ts. tt) (λ ts. tt)
takes_value (suc levels) =
    one_level (λ ts. json.items (json.value levels) (length ts) ts) (λ ts. json.members (json.value levels) (length ts) ts)
    (λ ts. mapped items_size size ts (Token.begin_array ∷ ts) json.array (λ js n x. omega (arith, x)) _
    (takes_items (json.value levels) (takes_value levels) (length ts) ts))
    (λ ts. mapped members_size size ts (Token.begin_object ∷ ts) json.object (λ ms n x. omega (arith, x)) _
    (takes_members (json.value levels) (takes_value levels) (length ts) ts))

-- ---- the items of all arrays of a value

abbrev mutual
  weight : Data → ℕ
  weight null = 0
  weight (boolean b) = 0
  weight (number k) = 0
  weight (string s) = 0
  weight (array ds) = items_weight ds
  weight (object ms) = members_weight ms

  items_weight : Items → ℕ
  items_weight no_items = 0
  items_weight (item d ds) = suc (weight d + items_weight ds)

  members_weight : Members → ℕ
  members_weight no_members = 0
  members_weight (member k d ms) = weight d + members_weight ms

abbrev Below : {A : Type 0} → (A → ℕ) → ℕ → Option A → Type 0
Below f n None = Unit {0}
Below f n (Some a) = f a ≤ n

by_map : {A B : Type 0} (f : A → ℕ) (g : B → ℕ) (m n : ℕ) (h : A → B) → ((a : A) → f a ≤ m → g (h a) ≤ n) → (o : Option A) → Below f m o →
    Below g n (option_map h o)
by_map f g m n h k None x = tt
by_map f g m n h k (Some a) x = k a x

by_then : {A B : Type 0} (f : A → ℕ) (g : B → ℕ) (m n : ℕ) (h : A → Option B) → ((a : A) → f a ≤ m → Below g n (h a)) → (o : Option A) →
    Below f m o → Below g n (option_and_then h o)
by_then f g m n h k None x = tt
by_then f g m n h k (Some a) x = k a x

flat : {A : Type 0} (o : Option A) → Below (λ _. 0) 0 o
flat None = tt
flat (Some a) = omega arith

either_weight : (o : Ordering) (a b c : Members) (n : ℕ) → members_weight a ≤ n → members_weight b ≤ n → members_weight c ≤ n →
    members_weight (match_ordering o a b c) ≤ n
either_weight Less a b c n p q r = p
either_weight Equal a b c n p q r = q
either_weight Greater a b c n p q r = r

put_weight : (k : List ℕ) (d : Data) (ms : Members) → members_weight (put k d ms) ≤ weight d + members_weight ms
put_weight k d no_members = omega arith
put_weight k d (member l e ms) =
    let further = put_weight k d ms in
    either_weight (slice_cmp nat_cmp k l) (member k d (member l e ms)) (member l d ms) (member l e (put k d ms))
    (weight d + (weight e + members_weight ms))
    (omega arith) (omega arith) (omega (arith, further))

mutual
  value_weight : (j : json.Json) → Below (λ d. suc (weight d)) (size j) (of_json j)
  value_weight json.null = omega arith
  value_weight (json.boolean b) = omega arith
  value_weight (json.number s) = by_map (λ _. 0) (λ d. suc (weight d)) 0 1 number (λ a x. omega arith) (number_of s) (flat (number_of s))
  value_weight (json.string s) = omega arith
  value_weight (json.array js) =
      by_map (λ ds. suc (items_weight ds)) (λ d. suc (weight d)) (items_size js) (suc (items_size js)) array (λ ds x. omega (arith, x))
      (of_items js)
      (items_weights js)
  value_weight (json.object ms) =
      by_map members_weight (λ d. suc (weight d)) (members_size ms) (suc (members_size ms)) object (λ all x. omega (arith, x))
      (of_members ms no_members)
      (members_weights ms no_members (members_size ms) (omega arith))

  items_weights : (js : json.Items) → Below (λ ds. suc (items_weight ds)) (items_size js) (of_items js)
  items_weights json.no_items = omega arith
  items_weights (json.item j js) =
      by_then (λ d. suc (weight d)) (λ ds. suc (items_weight ds)) (size j) (size j + items_size js) (λ d. option_map (item d) (of_items js))
      (λ d x. by_map (λ ds. suc (items_weight ds)) (λ ds. suc (items_weight ds)) (items_size js) (size j + items_size js) (item d)
      (λ ds y. omega (arith, x, y)) (of_items js) (items_weights js)) (of_json j) (value_weight j)

  members_weights : (ms : json.Members) (found : Members) (n : ℕ) → members_size ms + members_weight found ≤ n →
      Below members_weight n (of_members ms found)
  members_weights json.no_members found n fits = omega (arith, fits)
  members_weights (json.member k j ms) found n fits =
      by_then (λ d. suc (weight d)) members_weight (size j) n (λ d. of_members ms (put k d found))
      (λ d x. members_weights ms (put k d found) n (let more = put_weight k d found in omega (arith, x, fits, more))) (of_json j)
      (value_weight j)

-- ---- what is read of a text

last_weight : (text : List ℕ) (o : Option (json.Json × List Token)) → AtMost size (tokens text) o →
    Below (λ d. weight d) (length text) (option_and_then of_json (option_and_then (λ p. json.if_last p.0 p.1) o))
last_weight text None x = tt
last_weight text (Some (j, [])) x =
    let few = few_tokens text in below (size j) (length text) (omega (arith, x, few)) (of_json j) (value_weight j)
  where
    below : (m n : ℕ) → m ≤ suc n → (o : Option Data) → Below (λ d. suc (weight d)) m o → Below (λ d. weight d) n o
    below m n less None x = tt
    below m n less (Some d) x = omega (arith, x, less)
last_weight text (Some (j, t ∷ ts)) x = tt

read_weight : (text : List ℕ) (d : Data) → read text ≡ Some d → weight d ≤ length text
read_weight text d is =
    subst (Below (λ d. weight d) (length text)) is
    (last_weight text (json.value max_depth (tokens text)) (takes_value max_depth (tokens text)))

each_weighs : (entries : List Solution) → length entries ≤ items_weight (items_of (map entry_data entries))
each_weighs [] = omega arith
each_weighs (entry ∷ entries) = let others = each_weighs entries in omega (arith, others)

pub entries_are_few : EntriesAreFew
entries_are_few bytes entries is =
    let text = read_weight is.0 is.1 is.3.1 in
    let all : weight (store_data entries) ≡ weight is.1 = ap weight is.4.1 in
    let each = each_weighs entries in
    let whole : length (is.0 ++ trailer_of is.0) ≡ length bytes = ap length is.2 in
    let parts = length-append is.0 (trailer_of is.0) in
    omega (arith, text, all, each, whole, parts)
