-- What the reader of files gives: the file that spells the words, or where they are refused.
use Rattle.std.proofs.Common.{◌≡◌, ℕ, zero, suc, ◌≤◌, Bool, true, false, List, [], ◌∷◌, ◌++◌, length, refl, sym, ap, ◌∙◌, subst}
use Rattle.std.proofs.Common.{append_assoc, append-nil, arith, rules}
use Rattle.std.specs.Prelude.{◌==◌, ◌||◌, Result, Ok, Err}
use Rattle.grammar_laws.specs.Form.{Many, is_in, Derives, Avoids}
use Rattle.grammar_laws.specs.Reading.{Done, Stop, reads}
use Rattle.grammar_laws.proofs.Avoided.{avoided}
use Rattle.grammar_laws.proofs.Complete.{complete}
use Rattle.grammar_laws.proofs.Halted.{GoesOn, halts}
use Rattle.c_grammar.specs.Classes
use Rattle.c_grammar.specs.Forms
use Rattle.c_grammar.specs.Words.{Word, classes, IsEnded}
use Rattle.c_grammar.specs.Trees.{File}
use Rattle.c_grammar.specs.Nesting.{file_nesting}
use Rattle.c_grammar.specs.Spelling.{Spells, word}
use Rattle.c_grammar.specs.Refusals.{MOST_LEVELS, IsRefused}
use Rattle.c_grammar.specs.Readers.{Halt, ◌>>=◌, take, read_each, begins_item, read_item, read_file}
use Rattle.c_grammar.proofs.OneWordAhead.{file_good}
use Rattle.c_grammar.specs.declared.class.Class.TheVariants as class
use Rattle.grammar_laws.proofs.Classes.{or_right, out_of_left}
use Rattle.grammar_laws.proofs.Taken.{takes}
use Rattle.c_grammar.proofs.Exact.{code_of, longer, refused}
use Rattle.c_grammar.proofs.Agreement.{AreProper, IsBehind, AgreesAs}
use Rattle.c_grammar.proofs.AgreesFiles.{FileGot, read_file_with, file_rule, file_agrees}
use Rattle.c_grammar.proofs.Within.{file_within}

unary_avoids : (n : ℕ) → Avoids Classes.END (Forms.unary_form n)
unary_avoids zero = search rules
unary_avoids (suc n) = let below : Avoids Classes.END (Forms.unary_form n) = unary_avoids n in search below

expr_avoids : (n : ℕ) → Avoids Classes.END (Forms.expr_form n)
expr_avoids n = let unary : Avoids Classes.END (Forms.unary_form n) = unary_avoids n in search unary

simple_avoids : (n : ℕ) → Avoids Classes.END (Forms.simple_form n)
simple_avoids zero = let e = expr_avoids zero in search e
simple_avoids (suc n) = let e = expr_avoids (suc n) in let f = expr_avoids n in search (e, f)

clause_avoids : (n : ℕ) → Avoids Classes.END (Forms.clause_form n)
clause_avoids zero = let e = expr_avoids zero in search e
clause_avoids (suc n) = let e = expr_avoids (suc n) in let f = expr_avoids n in search (e, f)

flat_avoids : (n : ℕ) → Avoids Classes.END (Forms.flat_form n)
flat_avoids n = let e = expr_avoids n in let c = clause_avoids n in search (e, c)

stmt_avoids : (n : ℕ) → Avoids Classes.END (Forms.stmt_form n)
stmt_avoids zero = let f = flat_avoids zero in search f
stmt_avoids (suc n) =
    let f = flat_avoids (suc n) in
    let e = expr_avoids n in
    let c = clause_avoids n in
    let s = simple_avoids n in
    let b : Avoids Classes.END (Forms.stmt_form n) = stmt_avoids n in
    search (f, e, c, s, b)

item_avoids : (n : ℕ) → Avoids Classes.END (Forms.item_form n)
item_avoids zero = search rules
item_avoids (suc n) = let s = stmt_avoids n in search s

-- the end is among words that are ended, and nothing stands behind it
has_end : (words : List Word) → IsEnded words → is_in 0 (classes words) ≡ true
has_end [] ended = absurd ended
has_end (word ∷ []) ended = subst (λ n. ((n == 0) || false) ≡ true) (sym ended) refl
has_end (word ∷ next ∷ words) ended = or_right (word.class == 0) (is_in 0 (classes (next ∷ words))) (has_end (next ∷ words) ended.1)

end_is_last : (front : List ℕ) (words : List Word) (back : List ℕ) → IsEnded words → classes words ≡ front ++ 0 ∷ back → back ≡ []
end_is_last front [] back ended e = absurd ended
end_is_last [] (word ∷ []) back ended e = cc
end_is_last [] (word ∷ next ∷ words) back ended e = absurd (ended.0 (let c : word.class ≡ 0 = cc in c))
end_is_last (class ∷ front) (word ∷ []) back ended e = absurd (nothing_behind front (let r : [] ≡ front ++ 0 ∷ back = cc in r))
  where
    nothing_behind : (f : List ℕ) → [] ≡ f ++ 0 ∷ back → ⊥
    nothing_behind [] g = cc
    nothing_behind (c ∷ f) g = cc
end_is_last (class ∷ front) (word ∷ next ∷ words) back ended e =
    end_is_last front (next ∷ words) back ended.1 (let r : classes (next ∷ words) ≡ front ++ 0 ∷ back = cc in r)

no_classes : (words : List Word) → classes words ≡ [] → words ≡ []
no_classes [] e = refl
no_classes (word ∷ words) e = absurd (cc)

-- a reading does not stop behind the end
not_at_end : (n : ℕ) (words : List Word) (deep : Bool) → IsEnded words → reads (Forms.file_form n) (classes words) ≡ Stop deep [] → ⊥
not_at_end n words deep ended e =
    let h = halts (Forms.file_form n) (file_good n) deep (classes words) [] e in
    let g : GoesOn (Forms.file_form n) h.words = h.goes_on refl in
    by_more h.words (h.splits ∙ append-nil h.words) g.more (g.derives [] refl)
  where
    by_more : (taken : List ℕ) → classes words ≡ taken → (more : List ℕ) → Derives (Forms.file_form n) (taken ++ more) [] → ⊥
    by_more taken same [] d =
        let r : reads (Forms.file_form n) ((taken ++ []) ++ []) ≡ Done [] =
        complete (Forms.file_form n) (file_good n) (taken ++ []) [] d refl in
        let t : (taken ++ []) ++ [] ≡ classes words = append-nil (taken ++ []) ∙ append-nil taken ∙ sym same in
        let z : Done [] ≡ Stop deep [] = sym r ∙ ap (reads (Forms.file_form n)) t ∙ e in cc
    by_more taken same (m ∷ more) (front, back, split, items, last) =
        let whole : taken ++ m ∷ more ≡ front ++ 0 ∷ [] = split ∙ ap (λ b. front ++ b) last in
        let (k, is) = longer taken (m ∷ more) front (0 ∷ []) whole (omega arith) in
        let none : is_in 0 front ≡ false = avoided 0 (Many (Forms.item_form n)) (item_avoids n) front _ items in
        let out : is_in 0 taken ≡ false = out_of_left 0 taken k (subst (λ f. is_in 0 f ≡ false) is none) in
        let there : is_in 0 taken ≡ true = subst (λ t. is_in 0 t ≡ true) same (has_end words ended) in
        let z : true ≡ false = sym there ∙ out in cc

-- what reading a file gives: a file that spells the words and is within the levels, or where they are refused
abbrev pub ParseIs : Result File Halt → List Word → Type 0
ParseIs (Ok file) words = Spells file words × (file_nesting file ≤ MOST_LEVELS)
ParseIs (Err halt) words =
    (front : List Word) × (first : Word) × (others : List Word) × (words ≡ front ++ first ∷ others) × (halt.at ≡ first ∷ others)
    × IsRefused words front first (code_of halt.deep)

abbrev drop_rest : FileGot → Result File Halt
drop_rest (Ok got) = Ok got.0
drop_rest (Err halt) = Err halt

same_file : (n : ℕ) (words : List Word) → read_file n words ≡ drop_rest (read_file_with n words)
unfolding read_file
same_file n words = by_items (read_each (length words) begins_item (read_item n) words)
  where
    by_take : (items : List Rattle.c_grammar.specs.Trees.Item) (t : Result (List Word) Halt)
        → (t >>= (λ rest. Ok (record { items = items }))) ≡ drop_rest (t >>= (λ rest. Ok (record { items = items }, rest)))
    by_take items (Ok rest) = refl
    by_take items (Err halt) = refl

    by_items : (got : Result (List Rattle.c_grammar.specs.Trees.Item × List Word) Halt)
        → (got >>= (λ items. take class.End items.1 >>= (λ rest. Ok (record { items = items.0 }))))
        ≡ drop_rest (got >>= (λ items. take class.End items.1 >>= (λ rest. Ok (record { items = items.0 }, rest))))
    by_items (Ok got) = by_take got.0 (take class.End got.1)
    by_items (Err halt) = refl

-- what the reader of files gives is right
pub parsed : (words : List Word) → AreProper words → IsEnded words → ParseIs (read_file MOST_LEVELS words) words
parsed words proper ended =
    subst (λ r. ParseIs r words) (sym (same_file MOST_LEVELS words))
    (by_got (read_file_with MOST_LEVELS words) (file_agrees MOST_LEVELS words proper) (same_file MOST_LEVELS words))
  where
    by_rest : (file : File) (rest : List Word) → reads (Forms.file_form MOST_LEVELS) (classes words) ≡ Done (classes rest)
        → file_rule file words rest → Spells file words
    by_rest file rest e h =
        let t = takes (Forms.file_form MOST_LEVELS) (file_good MOST_LEVELS) (classes words) (classes rest) e in
        let (front, back, split, items, last) = t.derives in
        let whole : classes words ≡ front ++ 0 ∷ classes rest =
        t.splits ∙ ap (λ w. w ++ classes rest) (split ∙ ap (λ b. front ++ b) last) ∙ append_assoc front (0 ∷ []) (classes rest) in
        subst (λ r. file_rule file words r) (no_classes rest (end_is_last front words (classes rest) ended whole)) h

    by_at : (deep : Bool) (at : List Word) → reads (Forms.file_form MOST_LEVELS) (classes words) ≡ Stop deep (classes at)
        → IsBehind at words → ParseIs (Err (record { deep = deep; at = at })) words
    by_at deep [] e b = absurd (not_at_end MOST_LEVELS words deep ended e)
    by_at deep (first ∷ others) e (front, split) = (front, first, others, split, refl, refused words front first others deep split e)

    by_got : (got : FileGot) → AgreesAs file_rule words got (reads (Forms.file_form MOST_LEVELS) (classes words))
        → read_file MOST_LEVELS words ≡ drop_rest got → ParseIs (drop_rest got) words
    by_got (Ok got) h same = (by_rest got.0 got.1 h.0 h.1, file_within MOST_LEVELS words got.0 same)
    by_got (Err halt) h same = by_at halt.deep halt.at h.0 h.1

-- a file within the levels that spells the words is read
pub spelled : (words : List Word) → AreProper words → IsEnded words → (file : File) → Spells file words → file_nesting file ≤ MOST_LEVELS
    → (read : File) × (read_file MOST_LEVELS words ≡ Ok read) × Spells read words × (file_nesting read ≤ MOST_LEVELS)
spelled words proper ended file spells fits = by_read (read_file MOST_LEVELS words) refl (parsed words proper ended)
  where
    by_read : (got : Result File Halt) → read_file MOST_LEVELS words ≡ got → ParseIs got words
        → (read : File) × (read_file MOST_LEVELS words ≡ Ok read) × Spells read words × (file_nesting read ≤ MOST_LEVELS)
    by_read (Ok read) e h = (read, e, h.0, h.1)
    by_read (Err halt) e (front, first, others, split, at, refusal) =
        absurd (refusal.stops
        (file, others, subst (λ w. Spells file w) (split ∙ sym (append_assoc front (first ∷ []) others)) spells, fits))
