-- The words that a part may begin with, as the code goes through them.
use Rattle.std.proofs.Common.{◌≡◌, ◌&&◌, ◌||◌, if◌then◌else◌, ℕ, Bool, true, false, List, [], ◌∷◌, ◌++◌, refl, sym, ap, ◌∙◌}
use Rattle.std.specs.Prelude.{codes}
use Rattle.std.specs.Str.{bytes_eq}
use Rattle.shape_data.specs.declared.program.StructDef.{StructDef}
use Rattle.sym_text.specs.Reading.{exps_may_come, has_some, linked, is_one_of, lead_words, reach, reach_from}
use Rattle.sym_text.proofs.WordLaws.{reach_append}

or_assoc : (a b c : Bool) → (a || b || c) ≡ (a || (b || c))
or_assoc true b c = refl
or_assoc false b c = refl

or_false : (a : Bool) → (a || false) ≡ a
or_false true = refl
or_false false = refl

any_append : (words more : List (List ℕ)) (word : List ℕ) → is_one_of (words ++ more) word ≡ (is_one_of words word || is_one_of more word)
any_append [] more word = refl
any_append (one ∷ words) more word = ap (λ b. bytes_eq one word || b) (any_append words more word)
    ∙ sym (or_assoc (bytes_eq one word) (is_one_of words word) (is_one_of more word))

of_flag : (may : Bool) (words : List (List ℕ)) (word : List ℕ) → is_one_of (if may then words else []) word ≡ (may && is_one_of words word)
of_flag true words word = refl
of_flag false words word = refl

one_flag : (may : Bool) (one word : List ℕ) → is_one_of (if may then one ∷ [] else []) word ≡ (may && bytes_eq one word)
one_flag true one word = or_false (bytes_eq one word)
one_flag false one word = refl

pub lead_test : (structs : List StructDef) (params : List (List ℕ)) (facts is_first : Bool) (word : List ℕ)
    → is_one_of (lead_words structs params facts is_first) word
    ≡ ((exps_may_come structs facts && is_one_of params word) || (has_some (linked structs) && bytes_eq (codes "ls") word)
    || bytes_eq (codes "junk") word || (is_first && bytes_eq (codes "emp") word))
lead_test structs params facts is_first word =
    any_append (if exps_may_come structs facts then params else []) _ word
    ∙ ap (λ b. is_one_of (if exps_may_come structs facts then params else []) word || b)
    (any_append (if has_some (linked structs) then codes "ls" ∷ [] else []) _ word)
    ∙ flags (is_one_of (if exps_may_come structs facts then params else []) word) _
    (is_one_of (if has_some (linked structs) then codes "ls" ∷ [] else []) word) _ (bytes_eq (codes "junk") word)
    (is_one_of (if is_first then codes "emp" ∷ [] else []) word) _
    (of_flag (exps_may_come structs facts) params word) (one_flag (has_some (linked structs)) (codes "ls") word)
    (one_flag is_first (codes "emp") word)
  where
    flags : (a a2 b b2 c d d2 : Bool) → a ≡ a2 → b ≡ b2 → d ≡ d2 → (a || (b || (c || d))) ≡ (a2 || b2 || c || d2)
    flags a a2 b b2 c d d2 p q r = rw (p, q, r) (sym (or_assoc (a2 || b2) c d2 ∙ or_assoc a2 b2 (c || d2)))

pub lead_reach : (names segment : List (List ℕ)) (junk : List ℕ) (emp : List (List ℕ)) (text : List ℕ)
    → reach_from (reach_from (reach_from (reach_from 0 names text) segment text) (junk ∷ []) text) emp text
    ≡ reach (names ++ (segment ++ (junk ∷ emp))) text
lead_reach names segment junk emp text =
    sym (reach_append 0 names (segment ++ (junk ∷ emp)) text ∙ reach_append (reach_from 0 names text) segment (junk ∷ emp) text)
