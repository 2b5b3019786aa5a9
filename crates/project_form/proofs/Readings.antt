-- A text is read in one way, and in some way; so files are one program, or are refused at one place.
use Rattle.std.proofs.Common.{◌≡◌, ℕ, ◌≤◌, Bool, true, false, List, [], ◌∷◌, Result, ◌⊎◌, inl, inr, refl, sym, ap, ap₂, ◌∙◌, subst}
use Rattle.std.specs.Prelude.{◌↔◌}
use Rattle.shape_data.specs.declared.program.Program.{Program}
use Rattle.c_grammar.specs.declared.tokens.places.Refusal.{Refusal}
use Rattle.c_grammar.specs.declared.tokens.token.Token.{Token}
use Rattle.c_grammar.specs.Tokens.Grammar.{HasTokens, Refuses}
use Rattle.c_grammar.proofs.TokensLemmas.TextLaws.{one_reading, one_refusal, not_both, either, listed}
use Rattle.c_grammar.specs.Nesting.{file_nesting}
use Rattle.c_grammar.specs.Refusals.{MOST_LEVELS, RefusedAt}
use Rattle.c_grammar.specs.Spelling.{Spells}
use Rattle.c_grammar.specs.Trees.{File}
use Rattle.c_grammar.specs.Words.{words_of}
use Rattle.c_grammar.proofs.OneTree.{one_tree}
use Rattle.c_grammar.proofs.OneRefusal as words
use Rattle.c_front.specs.Units.{IsUnitOf}
use Rattle.project_form.specs.declared.fault.Refused.{Refused}
use Rattle.project_form.specs.Files.{SourceFile}
use Rattle.project_form.specs.Kept.{HasUnit}
use Rattle.project_form.specs.Parts.{is_tree}
use Rattle.project_form.specs.Reads.{Reading, NoTokens, NoFile, Tree, IsRead, AreReadings, Reads, answer_of}

-- ONE WAY

one_file : (text : List ℕ) (one other : File) → IsUnitOf text one → IsUnitOf text other → one ≡ other
one_file text one other u v =
    let same = one_reading text u.tokens v.tokens u.has v.has in
    one_tree (words_of u.tokens) one other u.spells (subst (λ ts. Spells other (words_of ts)) (sym same) v.spells)

file_or_refused : (text : List ℕ) (file : File) (refusal : Refusal) (tokens : List Token) → IsUnitOf text file → HasTokens text tokens
    → RefusedAt (words_of tokens) refusal → ⊥
file_or_refused text file refusal tokens u has at =
    let same = one_reading text u.tokens tokens u.has has in
    words.not_both (words_of tokens) file refusal (subst (λ ts. Spells file (words_of ts)) same u.spells) u.levels at

pub same_reading : (text : List ℕ) (one other : Reading) → IsRead text one → IsRead text other → one ≡ other
same_reading text (NoTokens r) (NoTokens s) a b = ap NoTokens (one_refusal text r s a b)
same_reading text (NoTokens r) (NoFile s) a (tokens, has, at) = absurd (not_both text tokens r has a)
same_reading text (NoTokens r) (Tree file) a u = absurd (not_both text u.tokens r u.has a)
same_reading text (NoFile r) (NoTokens s) (tokens, has, at) b = absurd (not_both text tokens s has b)
same_reading text (NoFile r) (NoFile s) (tokens, has, at) (tokens', has', at') =
    let same = one_reading text tokens tokens' has has' in
    ap NoFile (words.one_refusal (words_of tokens) r s at (subst (λ ts. RefusedAt (words_of ts) s) (sym same) at'))
same_reading text (NoFile r) (Tree file) (tokens, has, at) u = absurd (file_or_refused text file r tokens u has at)
same_reading text (Tree file) (NoTokens s) u b = absurd (not_both text u.tokens s u.has b)
same_reading text (Tree file) (NoFile s) u (tokens, has, at) = absurd (file_or_refused text file s tokens u has at)
same_reading text (Tree one) (Tree other) u v = ap Tree (one_file text one other u v)

same_readings : (files : List SourceFile) (one other : List Reading) → AreReadings files one → AreReadings files other → one ≡ other
same_readings [] [] [] a b = refl
same_readings [] [] (s ∷ ss) a b = absurd b
same_readings [] (r ∷ rs) other a b = absurd a
same_readings (file ∷ files) [] other a b = absurd a
same_readings (file ∷ files) (r ∷ rs) [] a b = absurd b
same_readings (file ∷ files) (r ∷ rs) (s ∷ ss) a b =
    ap₂ (λ x xs. x ∷ xs) (same_reading file.bytes r s a.0 b.0) (same_readings files rs ss a.1 b.1)

pub one_answer : (files : List SourceFile) (one other : Result Program Refused) → Reads files one → Reads files other → one ≡ other
one_answer files one other a b = a.means ∙ ap (answer_of files) (same_readings files a.readings b.readings a.read b.read) ∙ sym b.means

-- a text has a tree exactly where it is read as one
pub tree-HasUnit : (text : List ℕ) (reading : Reading) → IsRead text reading → (is_tree reading ≡ true) ↔ HasUnit text
tree-HasUnit text reading is = (to reading is, λ has. ap is_tree (same_reading text reading (Tree has.0) is has.1))
  where
    to : (reading : Reading) → IsRead text reading → is_tree reading ≡ true → HasUnit text
    to (NoTokens r) is told = cc
    to (NoFile r) is told = cc
    to (Tree file) is told = (file, is)

-- SOME WAY

some_reading : (text : List ℕ) → (reading : Reading) × IsRead text reading
some_reading text = at_tokens (either text)
  where
    at_words : (tokens : List Token) → HasTokens text tokens
        → ((file : File) × Spells file (words_of tokens) × (file_nesting file ≤ MOST_LEVELS))
        ⊎ ((refusal : Refusal) × RefusedAt (words_of tokens) refusal)
        → (reading : Reading) × IsRead text reading
    at_words tokens has (inl (file, spells, levels)) = (Tree file, record { tokens = tokens; has = has; spells = spells; levels = levels })
    at_words tokens has (inr (refusal, at)) = (NoFile refusal, (tokens, has, at))

    at_tokens : ((tokens : List Token) × HasTokens text tokens) ⊎ ((refusal : Refusal) × Refuses text refusal)
        → (reading : Reading) × IsRead text reading
    at_tokens (inl (tokens, has)) = at_words tokens has (words.either tokens (listed text tokens has))
    at_tokens (inr (refusal, r)) = (NoTokens refusal, r)

some_readings : (files : List SourceFile) → (readings : List Reading) × AreReadings files readings
some_readings [] = ([], tt)
some_readings (file ∷ files) =
    let (first, is) = some_reading file.bytes in
    let (others, are) = some_readings files in
    (first ∷ others, (is, are))

pub some_answer : (files : List SourceFile) → (answer : Result Program Refused) × Reads files answer
some_answer files =
    let (readings, are) = some_readings files in
    (answer_of files readings, record { readings = readings; read = are; means = refl })
