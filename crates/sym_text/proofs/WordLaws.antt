-- Words of a list are read exactly.
use Rattle.std.proofs.Common.{◌≡◌, ◌==◌, ◌||◌, ◌&&◌, if◌then◌else◌, eq-eqb, length-drop, length-take-le, ℕ, suc, ◌+◌, ◌<◌, ◌≤◌, Bool, true}
use Rattle.std.proofs.Common.{false, List, [], ◌∷◌, ◌++◌, length, take, drop, ◌⊎◌, inl, inr, Option, Some, None, refl, sym, ap, ◌∙◌, subst}
use Rattle.std.proofs.Common.{append_assoc, arith}
use Rattle.std.proofs.lemmas.List.{take-append-drop}
use Rattle.std.proofs.Math.Seq.{take-append_seam, drop-append_seam}
use Rattle.std.proofs.lemmas.Slice.Eq.{bytes_eq-Decides}
use Rattle.std.specs.Prelude.{nat_lt}
use Rattle.std.proofs.lemmas.Bool.Decides.{nat_tests}
use Rattle.std.specs.List.{list_all, prefix_len}
use Rattle.std.specs.Str.{bytes_eq}
use Rattle.shape_data.specs.Names.{is_name_byte}
use Rattle.sym_text.specs.declared.fault.Fault.{Fault}
use Rattle.sym_text.specs.Outcome.{Got, Stopped, first, IsStop}
use Rattle.sym_text.specs.Reading.{common, reach_from, reach, is_one_of, front_name, read_word}
use Rattle.sym_text.proofs.Exactly.{Language, IsStopped, Answers, Reads, Anything, same_byte}

-- the byte ends a name
abbrev pub NotName : Option ℕ → Type 0
NotName None = Unit {0}
NotName (Some byte) = is_name_byte byte ≡ false

pub both_true : (a b : Bool) → (a && b) ≡ true → (a ≡ true) × (b ≡ true)
both_true true b is = (refl, is)
both_true false b is = absurd (let no : false ≡ true = is in cc)

abbrev pub Member : List ℕ → List (List ℕ) → Type 0
Member word [] = ⊥
Member word (one ∷ words) = (one ≡ word) ⊎ Member word words

abbrev pub AreNames : List (List ℕ) → Type 0
AreNames [] = Unit {0}
AreNames (word ∷ words) = (list_all is_name_byte word ≡ true) × AreNames words

pub member_name : (word : List ℕ) (words : List (List ℕ)) → AreNames words → Member word words → list_all is_name_byte word ≡ true
member_name word [] names is = absurd is
member_name word (one ∷ words) names (inl same) = subst (λ (w : List ℕ). list_all is_name_byte w ≡ true) same names.0
member_name word (one ∷ words) names (inr is) = member_name word words names.1 is

-- one of these words, and nothing more
abbrev pub IsWord : List (List ℕ) → Language (List ℕ)
IsWord words value text = Member value words × (text ≡ value)

abbrev pub WordEnds : {A : Type 0} → A → Option ℕ → Type 0
WordEnds value byte = NotName byte

common_cut : (word text : List ℕ) → word ≡ take (common word text) text ++ drop (common word text) word
common_cut [] text = refl
common_cut (byte ∷ word) [] = refl
common_cut (byte ∷ word) (other ∷ text) = by_test (byte == other) refl (common_cut word text)
  where
    by_test : (same : Bool) → (byte == other) ≡ same → word ≡ take (common word text) text ++ drop (common word text) word
        → (byte ∷ word
        ≡ take (if same then suc (common word text) else 0) (other ∷ text)
        ++ drop (if same then suc (common word text) else 0) (byte ∷ word))
    by_test true is rest = let alike = same_byte byte other is in cc
    by_test false is rest = refl

not_here : (beyond front : List ℕ) (byte : ℕ) (behind others : List ℕ) → beyond ≡ front ++ (byte ∷ behind) → NotName (first beyond)
    → prefix_len is_name_byte (front ++ (byte ∷ others)) ≡ 0
not_here beyond [] byte behind others same ends =
    let no : NotName (Some byte) = subst (λ (t : List ℕ). NotName (first t)) same ends in rw no refl
not_here beyond (b ∷ front) byte behind others same ends =
    let no : NotName (Some b) = subst (λ (t : List ℕ). NotName (first t)) same ends in rw no refl

-- a word and a text with the same front: the word goes on further, or ends there in both
pub meets : (word beyond front behind others : List ℕ) (byte : ℕ) → word ++ beyond ≡ front ++ (byte ∷ behind) → NotName (first beyond)
    → list_all is_name_byte word ≡ true
    → (length front < common word (front ++ (byte ∷ others)))
    ⊎ ((prefix_len is_name_byte (front ++ (byte ∷ others)) ≡ length word) × (take (length word) (front ++ (byte ∷ others)) ≡ word))
meets [] beyond front behind others byte same ends name = inr (not_here beyond front byte behind others same ends, refl)
meets (b ∷ word) beyond [] behind others byte same ends name =
    let alike : b ≡ byte = cc in
    let test : (b == byte) ≡ true = eq-eqb b byte alike in
    inl (rw test (omega arith))
meets (b ∷ word) beyond (f ∷ front) behind others byte same ends name =
    let alike : b ≡ f = cc in
    let tails : word ++ beyond ≡ front ++ (byte ∷ behind) = cc in
    let names = both_true (is_name_byte b) (list_all is_name_byte word) name in
    let test : (b == f) ≡ true = eq-eqb b f alike in
    let in_name : is_name_byte f ≡ true = subst (λ (x : ℕ). is_name_byte x ≡ true) alike names.0 in
    elim (meets word beyond front behind others byte tails ends names.1) [
      | inl more ↦ inl (rw test (omega arith))
      | inr ended ↦ inr (rw in_name (omega (arith, ended.0)), ap (λ t. f ∷ t) ended.1 ∙ ap (λ (x : ℕ). x ∷ word) (sym alike))
    ]

-- REACH

max_left : (a b : ℕ) → a ≤ (if nat_lt b a then a else b)
max_left a b = grind (arith, nat_tests)

max_right : (a b : ℕ) → b ≤ (if nat_lt b a then a else b)
max_right a b = grind (arith, nat_tests)

max_cases : (a b : ℕ) → ((if nat_lt b a then a else b) ≡ a) ⊎ ((if nat_lt b a then a else b) ≡ b)
max_cases a b = by_test (nat_lt b a)
  where
    by_test : (more : Bool) → ((if more then a else b) ≡ a) ⊎ ((if more then a else b) ≡ b)
    by_test true = inl refl
    by_test false = inr refl

reach_most : (most : ℕ) (words : List (List ℕ)) (text : List ℕ) → most ≤ reach_from most words text
reach_most most [] text = omega arith
reach_most most (one ∷ words) text =
    let here = max_right (common one text) most in
    let rest = reach_most (if nat_lt most (common one text) then common one text else most) words text in
    omega arith

above_from : (most : ℕ) (word : List ℕ) (words : List (List ℕ)) (text : List ℕ) → Member word words
    → common word text ≤ reach_from most words text
above_from most word [] text is = absurd is
above_from most word (one ∷ words) text (inl same) =
    let here = max_left (common one text) most in
    let rest = reach_most (if nat_lt most (common one text) then common one text else most) words text in
    subst (λ (w : List ℕ). common w text ≤ reach_from most (one ∷ words) text) same (omega arith)
above_from most word (one ∷ words) text (inr is) =
    above_from (if nat_lt most (common one text) then common one text else most) word words text is

pub reach_above : (word : List ℕ) (words : List (List ℕ)) (text : List ℕ) → Member word words → common word text ≤ reach words text
reach_above word words text is = above_from 0 word words text is

-- nothing more is reached, or a word goes so far
reached_from : (most : ℕ) (words : List (List ℕ)) (text : List ℕ)
    → (reach_from most words text ≡ most) ⊎ ((word : List ℕ) × Member word words × (common word text ≡ reach_from most words text))
reached_from most [] text = inl refl
reached_from most (one ∷ words) text = elim (reached_from (if nat_lt most (common one text) then common one text else most) words text) [
  | inl none ↦ elim
      (max_cases (common one text) most) [ inl here ↦ inr (one, inl refl, sym (none ∙ here)) | inr before ↦ inl (none ∙ before) ]
  | inr (word, is_word, so) ↦ inr (word, inr is_word, so)
]

pub reached : (words : List (List ℕ)) (text : List ℕ)
    → (reach words text ≡ 0) ⊎ ((word : List ℕ) × Member word words × (common word text ≡ reach words text))
reached words text = reached_from 0 words text

pub reach_append : (most : ℕ) (words more : List (List ℕ)) (text : List ℕ)
    → reach_from most (words ++ more) text ≡ reach_from (reach_from most words text) more text
reach_append most [] more text = refl
reach_append most (one ∷ words) more text = reach_append (if nat_lt most (common one text) then common one text else most) words more text

-- MEMBERS

pub same_bytes : (one other : List ℕ) → bytes_eq one other ≡ true → one ≡ other
same_bytes one other is = (bytes_eq-Decides one other).0 is

pub member_test : (words : List (List ℕ)) (word : List ℕ) → Member word words → is_one_of words word ≡ true
member_test [] word is = absurd is
member_test (one ∷ words) word (inl same) = let yes : bytes_eq one word ≡ true = (bytes_eq-Decides one word).1 same in rw yes refl
member_test (one ∷ words) word (inr is) = let yes = member_test words word is in or_true (bytes_eq one word) (is_one_of words word) yes
  where
    or_true : (a b : Bool) → b ≡ true → (a || b) ≡ true
    or_true true b so = refl
    or_true false b so = so

pub test_member : (words : List (List ℕ)) (word : List ℕ) → is_one_of words word ≡ true → Member word words
test_member [] word is = let no : false ≡ true = is in absurd cc
test_member (one ∷ words) word is = by_test (bytes_eq one word) refl is (test_member words word)
  where
    by_test : (same : Bool) → bytes_eq one word ≡ same → (same || is_one_of words word) ≡ true
        → (is_one_of words word ≡ true → Member word words) → (one ≡ word) ⊎ Member word words
    by_test true same so rest = inl (same_bytes one word same)
    by_test false same so rest = inr (rest so)

-- FRONT NAMES

ends_name : (text : List ℕ) → NotName (first (drop (prefix_len is_name_byte text) text))
ends_name [] = tt
ends_name (byte ∷ text) = by_test (is_name_byte byte) refl (ends_name text)
  where
    by_test : (name : Bool) → is_name_byte byte ≡ name → NotName (first (drop (prefix_len is_name_byte text) text))
        → NotName (first (drop (if name then 1 + prefix_len is_name_byte text else 0) (byte ∷ text)))
    by_test true is rest = let more : 1 + prefix_len is_name_byte text ≡ suc (prefix_len is_name_byte text) = omega arith in rw more rest
    by_test false is rest = is

prefix_of_word : (word beyond : List ℕ) → list_all is_name_byte word ≡ true → NotName (first beyond)
    → prefix_len is_name_byte (word ++ beyond) ≡ length word
prefix_of_word [] [] name ends = refl
prefix_of_word [] (byte ∷ beyond) name ends = rw ends refl
prefix_of_word (byte ∷ word) beyond name ends =
    let names = both_true (is_name_byte byte) (list_all is_name_byte word) name in
    let rest = prefix_of_word word beyond names.1 ends in rw names.0 (omega arith)

-- words of a list are read exactly
pub word-Reads : (words : List (List ℕ)) → AreNames words → Reads Anything (IsWord words) WordEnds (read_word words)
unfolding read_word
word-Reads words names = record {
  answers = λ text so. by_test text (is_one_of words (front_name text)) refl;
  complete = λ one piece beyond (is, same) ends.
      let name = member_name one words names is in
      let long : prefix_len is_name_byte (one ++ beyond) ≡ length one = prefix_of_word one beyond name ends in
      let front : front_name (one ++ beyond) ≡ one = ap (λ n. take n (one ++ beyond)) long ∙ take-append_seam one beyond in
      let rest : drop (prefix_len is_name_byte (one ++ beyond)) (one ++ beyond) ≡ beyond =
      ap (λ n. drop n (one ++ beyond)) long ∙ drop-append_seam one beyond in
      rw (same, front, member_test words one is, rest) refl;
}
  where
    not_member : (text : List ℕ) → is_one_of words (front_name text) ≡ false → Member (front_name text) words → ⊥
    not_member text not_one is =
        let yes = member_test words (front_name text) is in absurd (let never : true ≡ false = sym yes ∙ not_one in cc)

    stopped : (text : List ℕ) → is_one_of words (front_name text) ≡ false
        → IsStopped (IsWord words) WordEnds text (drop (reach words text) text)
    stopped text not_one = record {
      front = take (reach words text) text;
      cut = sym (take-append-drop (reach words text) text);
      begun = elim (reached words text) [
        | inl none ↦ inl (rw none refl)
        | inr (word, is, so) ↦ inr
            (record {
              value = word;
              piece = word;
              more = drop (reach words text) word;
              is = (is, refl);
              text = subst (λ (n : ℕ). word ≡ take n text ++ drop n word) so (common_cut word text);
            })
      ];
      none = λ byte others left. λ value piece beyond behind (is, same) ends alike.
          let front = take (reach words text) text in
          let whole : text ≡ front ++ (byte ∷ others) = sym (take-append-drop (reach words text) text) ∙ ap (λ t. front ++ t) left in
          let begins : value ++ beyond ≡ front ++ (byte ∷ behind) =
          ap (λ t. t ++ beyond) (sym same) ∙ alike ∙ append_assoc front (byte ∷ []) behind in
          let few : reach words text < length text = some_left (reach words text) text byte others left in
          let long : length front ≡ reach words text = length-take-le (reach words text) text (omega arith) in
          let above = reach_above value words text is in
          elim (meets value beyond front behind others byte begins ends (member_name value words names is)) [
            | inl more ↦ let more_so : length front < common value text =
                subst (λ (t : List ℕ). length front < common value t) (sym whole) more in absurd (omega arith)
            | inr ended ↦
                let at : prefix_len is_name_byte text ≡ length value = ap (prefix_len is_name_byte) whole ∙ ended.0 in
                let named : front_name text ≡ value = ap (λ n. take n text) at ∙ ap (take (length value)) whole ∙ ended.1 in
                not_member text not_one (subst (λ (w : List ℕ). Member w words) (sym named) is)
          ];
    }
      where
        some_left : (n : ℕ) (text : List ℕ) (byte : ℕ) (others : List ℕ) → drop n text ≡ byte ∷ others → n < length text
        some_left n text byte others left = let e = ap length left in omega (arith, length-drop n text)

    by_test : (text : List ℕ) (one : Bool) → is_one_of words (front_name text) ≡ one
        → Answers (IsWord words) WordEnds text
        (if one then Got (front_name text) (drop (prefix_len is_name_byte text) text) else Stopped (drop (reach words text) text))
    by_test text true is =
        record {
          piece = front_name text;
          is = (test_member words (front_name text) is, refl);
          cut = sym (take-append-drop (prefix_len is_name_byte text) text);
          ends_so = ends_name text;
        }
    by_test text false is = stopped text is

-- what the code finds
pub word_got : (words : List (List ℕ)) (text word rest : List ℕ) → word ≡ front_name text → rest ≡ drop (prefix_len is_name_byte text) text
    → is_one_of words word ≡ true → read_word words text ≡ Got word rest
unfolding read_word
word_got words text word rest is behind one =
    let test : is_one_of words (front_name text) ≡ true = ap (is_one_of words) (sym is) ∙ one in rw (test, is, behind) refl

pub word_stopped : (words : List (List ℕ)) (text word : List ℕ) (fault : Fault) (len : ℕ) → word ≡ front_name text
    → is_one_of words word ≡ false → len ≡ reach words text → IsStop {A = List ℕ} fault (Stopped (drop len text))
    → IsStop fault (read_word words text)
unfolding read_word
word_stopped words text word fault len is other reaches stop =
    let test : is_one_of words (front_name text) ≡ false = ap (is_one_of words) (sym is) ∙ other in rw (test, ← reaches) stop
