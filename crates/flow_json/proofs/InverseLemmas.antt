-- Numbers, names, lists and options are read as they were written, and only so.
use Rattle.std.specs.Prelude.{◌≡◌, ℕ, ◌<◌, ◌≤◌, ℤ, pos, negsuc, Bool, true, false, if◌then◌else◌, ◌&&◌, int_le, int_lt, nat_le, nat_lt}
use Rattle.std.specs.Prelude.{List, [], ◌∷◌, map, length, All, IfSome}
use Rattle.std.specs.Str.{bytes_eq}
use Rattle.std.specs.declared.option.Option.{Option}
use Rattle.std.specs.declared.option.Option.TheVariants.{None, Some}
use Rattle.std.proofs.Common.{refl, sym, ap, ◌∙◌, subst, arith}
use Rattle.std.proofs.lemmas.Bool.{and_parts, le-leb, leb-true, lt-ltb, ltb-true}
use Rattle.std.proofs.lemmas.List.Elements.{All-cons, All-head, All-nil, All-tail}
use Rattle.std.proofs.lemmas.Slice.Eq.{bytes_eq-Decides}
use Rattle.serde_json.specs.Data.{unsigned, negative, float, Data, null, boolean, number, string, array, object, Items, no_items, item}
use Rattle.serde_json.specs.Find.{as_bool, as_null, as_str}
use Rattle.serde_json.specs.View.{items_of}
use Rattle.flow_json.specs.Forms.{as_list, count_data, flag_data, name_of, go_on, int_data, list_data, list_of, option_data, read_count}
use Rattle.flow_json.specs.Forms.{read_each, read_int, read_list, read_name, read_option, tuple}
use Rattle.flow_json.specs.Laws.{IsCount, IsInt, IsInverse, IsName}
use Rattle.flow_json.proofs.FormLemmas.{list_of_items}

-- ---- what was gone on with

pub go_on_some : {A B : Type 0} (o : Option A) (next : A → Option B) (b : B) → go_on o next ≡ Some b →
    (a : A) × (o ≡ Some a) × (next a ≡ Some b)
unfolding go_on
go_on_some None next b is = cc
go_on_some (Some a) next b is = (a, refl, is)

pub go_on_is : {A B : Type 0} (o : Option A) (next : A → Option B) (a : A) (r : Option B) → o ≡ Some a → next a ≡ r → go_on o next ≡ r
unfolding go_on
go_on_is o next a r is later = rw is later

-- by a word: this one, or another one
pub on_word : {A : Type 0} (P : Type 0) (word tag : List ℕ) (x y : Option A) (a : A) → (if bytes_eq word tag then x else y) ≡ Some a →
    (word ≡ tag → x ≡ Some a → P) → (y ≡ Some a → P) → P
on_word {A = A} P word tag x y a is this other = by_test (bytes_eq word tag) refl is
  where
    by_test : (b : Bool) → bytes_eq word tag ≡ b → (if b then x else y) ≡ Some a → P
    by_test true same is = this ((bytes_eq-Decides word tag).0 same) is
    by_test false same is = other is

pub some_is : {A : Type 0} (a b : A) → Some a ≡ Some b → a ≡ b
some_is a b is = cc

pub last_is : {A : Type 0} {a b : A} → a ≡ b → a ∷ [] ≡ b ∷ []
last_is {a = a} {b = b} same = ap (λ one. one ∷ []) same

pub cons_is : {A : Type 0} {a b : A} {others more : List A} → a ≡ b → others ≡ more → a ∷ others ≡ b ∷ more
cons_is {a = a} {b = b} {others = others} {more = more} first later = cc

-- ---- arrays

items_of_list : (ds : Items) → items_of (list_of ds) ≡ ds
items_of_list no_items = refl
items_of_list (item d ds) = ap (λ others. item d others) (items_of_list ds)

pub list_only : (d : Data) (ds : List Data) → as_list d ≡ Some ds → tuple ds ≡ d
list_only null ds is = cc
list_only (boolean b) ds is = cc
list_only (number n) ds is = cc
list_only (string s) ds is = cc
list_only (array items) ds is = let same : list_of items ≡ ds = cc in rw (← same, items_of_list items) refl
list_only (object ms) ds is = cc

pub list_back : (ds : List Data) → as_list (tuple ds) ≡ Some ds
list_back ds = ap (λ all. Some all) (list_of_items ds)

module _ {A : Type 0} (Fits : A → Type 0) (write : A → Data) (read : Data → Option A) (inverse : IsInverse Fits write read) where
  each_back : (things : List A) → All Fits things → read_each read (map write things) ≡ Some things
  each_back [] fit = refl
  each_back (thing ∷ things) fit =
      go_on_is _ _ thing _ (inverse.back thing (All-head Fits thing things fit))
      (go_on_is _ _ things _ (each_back things (All-tail Fits thing things fit)) refl)

  each_only : (ds : List Data) (things : List A) → read_each read ds ≡ Some things → (map write things ≡ ds) × All Fits things
  each_only [] things is = let none : [] ≡ things = cc in rw (← none) (refl, All-nil Fits)
  each_only (d ∷ ds) things is =
      let one = go_on_some (read d) (λ thing. go_on (read_each read ds) (λ others. Some (thing ∷ others))) things is in
      let others = go_on_some (read_each read ds) (λ others. Some (one.0 ∷ others)) things one.2 in
      let first = inverse.only d one.0 one.1 in
      let later = each_only ds others.0 others.1 in
      let all : one.0 ∷ others.0 ≡ things = cc in
      rw (← all) (rw (first.0, later.0) refl, All-cons Fits one.0 others.0 first.1 later.1)

  pub list_inverse : IsInverse (All Fits) (list_data write) (read_list read)
  list_inverse = record {
    back = λ things fit. go_on_is _ _ (map write things) _ (list_back (map write things)) (each_back things fit);
    only = λ d things is.
        let ds = go_on_some (as_list d) (read_each read) things is in
        let each = each_only ds.0 things ds.2 in
        (ap tuple each.0 ∙ list_only d ds.0 ds.1, each.1);
  }

-- ---- options

module _ {A : Type 0} (Fits : A → Type 0) (write : A → Data) (read : Data → Option A) (inverse : IsInverse Fits write read)
    (is_there : (thing : A) → as_null (write thing) ≡ None) where
  option_back : (thing : Option A) → IfSome thing Fits → read_option read (option_data write thing) ≡ Some thing
  option_back None fit = refl
  option_back (Some thing) fit = rw (is_there thing) (go_on_is _ _ thing _ (inverse.back thing fit) refl)

  some_only : (d : Data) (thing : Option A) → go_on (read d) (λ thing. Some (Some thing)) ≡ Some thing →
      (option_data write thing ≡ d) × IfSome thing Fits
  some_only d thing is =
      let one = go_on_some (read d) (λ thing. Some (Some thing)) thing is in
      let same : Some one.0 ≡ thing = cc in
      rw (← same) (inverse.only d one.0 one.1)

  option_only : (d : Data) (thing : Option A) → read_option read d ≡ Some thing → (option_data write thing ≡ d) × IfSome thing Fits
  option_only null thing is = let none : None ≡ thing = cc in rw (← none) (refl, tt)
  option_only (boolean b) thing is = some_only (boolean b) thing is
  option_only (number n) thing is = some_only (number n) thing is
  option_only (string s) thing is = some_only (string s) thing is
  option_only (array ds) thing is = some_only (array ds) thing is
  option_only (object ms) thing is = some_only (object ms) thing is

  pub option_inverse : IsInverse (λ thing. IfSome thing Fits) (option_data write) (read_option read)
  option_inverse = record { back = option_back; only = option_only }

-- ---- numbers, truth values, names

pub test_true : {A : Type 0} (b : Bool) (x : Option A) (a : A) → (if b then x else None) ≡ Some a → (b ≡ true) × (x ≡ Some a)
test_true true x a is = (refl, is)
test_true false x a is = cc

pub count_inverse : IsInverse IsCount count_data read_count
unfolding go_on
count_inverse = record { back = back; only = only }
  where
    back : (n : ℕ) → IsCount n → read_count (count_data n) ≡ Some n
    back n fits = rw (lt-ltb n 4294967296 fits) refl

    only : (d : Data) (n : ℕ) → read_count d ≡ Some n → (count_data n ≡ d) × IsCount n
    only null n is = cc
    only (boolean b) n is = cc
    only (number (unsigned m)) n is =
        let tested = test_true (nat_lt m 4294967296) (Some m) n is in
        let same : m ≡ n = some_is m n tested.1 in
        subst (λ k. (count_data k ≡ number (unsigned m)) × IsCount k) same (refl, ltb-true m 4294967296 tested.0)
    only (number (negative z)) n is = cc
    only (number (float x)) n is = cc
    only (string s) n is = cc
    only (array ds) n is = cc
    only (object ms) n is = cc

pub int_inverse : IsInverse IsInt int_data read_int
int_inverse = record { back = back; only = only }
  where
    back : (z : ℤ) → IsInt z → read_int (int_data z) ≡ Some z
    back (pos n) fits = rw (lt-ltb n 2147483648 fits) refl
    back (negsuc n) fits = let within : n ≤ 2147483647 = omega arith in rw (le-leb n 2147483647 within) refl

    only : (d : Data) (z : ℤ) → read_int d ≡ Some z → (int_data z ≡ d) × IsInt z
    only null z is = cc
    only (boolean b) z is = cc
    only (number (unsigned m)) z is =
        let tested = test_true (nat_lt m 2147483648) (Some (pos m)) z is in
        let same : pos m ≡ z = some_is (pos m) z tested.1 in
        subst (λ k. (int_data k ≡ number (unsigned m)) × IsInt k) same (refl, ltb-true m 2147483648 tested.0)
    only (number (negative (pos m))) z is =
        let tested = test_true (int_le (negsuc 2147483647) (pos m) && int_lt (pos m) (pos 0)) (Some (pos m)) z is in
        let below : m < 0 = ltb-true m 0 (and_parts (int_le (negsuc 2147483647) (pos m)) (int_lt (pos m) (pos 0)) tested.0).1 in
        absurd (omega arith)
    only (number (negative (negsuc m))) z is =
        let tested = test_true (int_le (negsuc 2147483647) (negsuc m) && int_lt (negsuc m) (pos 0)) (Some (negsuc m)) z is in
        let same : negsuc m ≡ z = some_is (negsuc m) z tested.1 in
        let within : m
        ≤ 2147483647 = leb-true m 2147483647 (and_parts (int_le (negsuc 2147483647) (negsuc m)) (int_lt (negsuc m) (pos 0)) tested.0).0 in
        subst (λ k. (int_data k ≡ number (negative (negsuc m))) × IsInt k) same (refl, omega arith)
    only (number (float x)) z is = cc
    only (string s) z is = cc
    only (array ds) z is = cc
    only (object ms) z is = cc

pub flag_inverse : IsInverse (λ (b : Bool). Unit {0}) flag_data as_bool
flag_inverse = record { back = λ b fits. refl; only = only }
  where
    only : (d : Data) (b : Bool) → as_bool d ≡ Some b → (flag_data b ≡ d) × Unit {0}
    only null b is = cc
    only (boolean a) b is = (ap boolean (sym (some_is a b is)), tt)
    only (number n) b is = cc
    only (string s) b is = cc
    only (array ds) b is = cc
    only (object ms) b is = cc

pub string_only : (d : Data) (word : List ℕ) → as_str d ≡ Some word → string word ≡ d
string_only null word is = cc
string_only (boolean b) word is = cc
string_only (number n) word is = cc
string_only (string s) word is = ap string (sym (some_is s word is))
string_only (array ds) word is = cc
string_only (object ms) word is = cc

pub name_inverse : IsInverse IsName string read_name
unfolding go_on
name_inverse = record { back = back; only = only }
  where
    back : (name : List ℕ) → IsName name → read_name (string name) ≡ Some name
    back name fits = rw (le-leb 1 (length name) fits.0, le-leb (length name) 64 fits.1) refl

    only : (d : Data) (name : List ℕ) → read_name d ≡ Some name → (string name ≡ d) × IsName name
    only d name is =
        let word = go_on_some (as_str d) name_of name is in
        let tested = test_true (nat_le 1 (length word.0) && nat_le (length word.0) 64) (Some word.0) name word.2 in
        let parts = and_parts (nat_le 1 (length word.0)) (nat_le (length word.0) 64) tested.0 in
        subst (λ one. (string one ≡ d) × IsName one) (some_is word.0 name tested.1)
        (string_only d word.0 word.1, (leb-true 1 (length word.0) parts.0, leb-true (length word.0) 64 parts.1))
