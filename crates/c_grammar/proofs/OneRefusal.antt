-- Words are refused at one place, with one code, and not where a file within the levels spells them.
use Rattle.std.proofs.Common.{◌≡◌, ◌⊎◌, inl, inr, ℕ, ◌≤◌, List, [], ◌∷◌, ◌++◌, refl, sym, ap, ◌∙◌, subst, append_assoc}
use Rattle.std.specs.Prelude.{Result, Ok, Err}
use Rattle.c_grammar.specs.declared.tokens.places.Refusal.{Refusal}
use Rattle.c_grammar.specs.Laws.{HaveOneRefusal, HaveNotBoth, HaveEither}
use Rattle.c_grammar.specs.Nesting.{file_nesting}
use Rattle.c_grammar.specs.Readers.{Halt, read_file, refusal_of}
use Rattle.c_grammar.specs.Refusals.{MOST_LEVELS, Begin, BeginWithin, IsRefused, RefusedAt}
use Rattle.c_grammar.specs.Spelling.{Spells}
use Rattle.c_grammar.specs.Trees.{File}
use Rattle.c_grammar.specs.Words.{Word, words_of}
use Rattle.c_grammar.proofs.TokenWords.{file_spells, stop_is_refused}

-- what begins a file begins it also where it is cut behind its first word
shorter : (front : List Word) (first : Word) (more : List Word) → BeginWithin MOST_LEVELS (front ++ first ∷ more)
    → BeginWithin MOST_LEVELS (front ++ first ∷ [])
shorter front first more (file, behind, spells, fits) =
    let split : (front ++ first ∷ more) ++ behind ≡ (front ++ first ∷ []) ++ (more ++ behind) =
    append_assoc front (first ∷ more) behind ∙ sym (append_assoc front (first ∷ []) (more ++ behind)) in
    (file, more ++ behind, subst (λ w. Spells file w) split spells, fits)

-- two cuts of the same words: at one place, or one of them before the other
data Cuts (front other : List Word) (first second : Word) : Type 0 where
  Same : front ≡ other → first ≡ second → Cuts front other first second
  Before : (more : List Word) → other ≡ front ++ first ∷ more → Cuts front other first second
  Behind : (more : List Word) → front ≡ other ++ second ∷ more → Cuts front other first second

cuts : (front other : List Word) (first second : Word) (rest more : List Word) → front ++ first ∷ rest ≡ other ++ second ∷ more
    → Cuts front other first second
cuts [] [] first second rest more e = Same refl (cc)
cuts [] (w ∷ other) first second rest more e =
    let same : w ≡ first = cc in Before other (ap (λ x. x ∷ other) same)
cuts (w ∷ front) [] first second rest more e =
    let same : w ≡ second = cc in Behind front (ap (λ x. x ∷ front) same)
cuts (v ∷ front) (w ∷ other) first second rest more e =
    let same : v ≡ w = cc in
    further v w same (cuts front other first second rest more (let f : front ++ first ∷ rest ≡ other ++ second ∷ more = cc in f))
  where
    further : (x y : Word) → x ≡ y → Cuts front other first second → Cuts (x ∷ front) (y ∷ other) first second
    further x y s (Same f g) = Same (ap (λ z. z ∷ front) s ∙ ap (λ k. y ∷ k) f) g
    further x y s (Before k f) = Before k (ap (λ z. y ∷ z) f ∙ ap (λ z. z ∷ front ++ first ∷ k) (sym s))
    further x y s (Behind k f) = Behind k (ap (λ z. x ∷ z) f ∙ ap (λ z. z ∷ other ++ second ∷ k) s)

same_code : (words front : List Word) (first : Word) (code other : ℕ) → IsRefused words front first code → IsRefused words front first other
    → code ≡ other
same_code words front first code other f g = by_cause f.cause g.cause
  where
    by_cause : ((code ≡ 111) × (Begin (front ++ first ∷ []) → ⊥)) ⊎ ((code ≡ 112) × Begin (front ++ first ∷ []))
        → ((other ≡ 111) × (Begin (front ++ first ∷ []) → ⊥)) ⊎ ((other ≡ 112) × Begin (front ++ first ∷ [])) → code ≡ other
    by_cause (inl (c, none)) (inl (d, never)) = c ∙ sym d
    by_cause (inr (c, some)) (inr (d, one)) = c ∙ sym d
    by_cause (inl (c, none)) (inr (d, one)) = absurd (none one)
    by_cause (inr (c, some)) (inl (d, never)) = absurd (never some)

pub one_refusal : HaveOneRefusal
one_refusal words one other (front, first, code, f, e) (back, second, third, g, h) =
    by_cuts (cuts front back first second f.others g.others (sym f.splits ∙ g.splits))
  where
    by_cuts : Cuts front back first second → one ≡ other
    by_cuts (Same same word) =
        let g' : IsRefused words front first third =
        subst (λ w. IsRefused words front w third) (sym word) (subst (λ l. IsRefused words l second third) (sym same) g) in
        let codes : code ≡ third = same_code words front first code third f g' in
        e ∙ (λ i. record { line = (word i).place.line; column = (word i).place.column; code = codes i }) ∙ sym h
    by_cuts (Before more is) = absurd (f.stops (shorter front first more (subst (λ l. BeginWithin MOST_LEVELS l) is g.begins)))
    by_cuts (Behind more is) = absurd (g.stops (shorter back second more (subst (λ l. BeginWithin MOST_LEVELS l) is f.begins)))

pub not_both : HaveNotBoth
not_both words file refusal spells fits (front, first, code, f, e) =
    f.stops (file, f.others, subst (λ w. Spells file w) (f.splits ∙ sym (append_assoc front (first ∷ []) f.others)) spells, fits)

pub either : HaveEither
either tokens listed = by_got (read_file MOST_LEVELS (words_of tokens)) refl
  where
    by_got : (got : Result File Halt) → read_file MOST_LEVELS (words_of tokens) ≡ got
        → ((file : File) × Spells file (words_of tokens) × (file_nesting file ≤ MOST_LEVELS))
        ⊎ ((refusal : Refusal) × RefusedAt (words_of tokens) refusal)
    by_got (Ok file) e = let (spells, fits) = file_spells tokens listed file e in inl (file, spells, fits)
    by_got (Err halt) e = inr (refusal_of halt, stop_is_refused tokens listed halt e)
