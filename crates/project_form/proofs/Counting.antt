-- A text has no more tokens than bytes, a file no more items than tokens, and files no more structures than items.
use Rattle.std.proofs.Common.{◌≡◌, ℕ, suc, ◌+◌, ◌<◌, ◌≤◌, Bool, true, false, cond, List, [], ◌∷◌, ◌++◌, length, length-append, refl, ap}
use Rattle.std.proofs.Common.{◌∙◌, arith}
use Rattle.std.specs.List.{AllZip}
use Rattle.std.proofs.lemmas.List.{length-map}
use Rattle.std.proofs.lemmas.List.Sums.{sum_by-cons}
use Rattle.c_grammar.specs.declared.tokens.token.Token.{Token}
use Rattle.c_grammar.specs.Tokens.Grammar.{Position, IsPiece, Reads, HasTokens}
use Rattle.c_grammar.proofs.TokensLemmas.TokenLemmas.{token_lexeme}
use Rattle.c_grammar.proofs.TokensLemmas.Texts.{lexeme_some}
use Rattle.c_grammar.specs.Forms
use Rattle.c_grammar.specs.Nesting.{deepest, item_nesting}
use Rattle.c_grammar.specs.Spelling.{each, word, item, Spells}
use Rattle.c_grammar.specs.Classes
use Rattle.c_grammar.specs.Trees.{Item, File}
use Rattle.c_grammar.specs.Words.{Word, words_of}
use Rattle.c_grammar.proofs.OneWordAhead.{item_good}
use Rattle.c_grammar.proofs.SpelledFiles.{is_item}
use Rattle.c_grammar.proofs.Synced.{fewer}
use Rattle.c_types_rules.specs.Tables.{Structure, declares, declared_by, items_of}
use Rattle.c_types_rules.specs.Programs.{is_among, first_structures, struct_def, structs_of, tables_of}
use Rattle.c_front.specs.Units.{IsUnitOf}
use Rattle.project_form.specs.Files.{SourceFile, bytes_of, text_length}

-- TOKENS

piece_tokens : (at : Position) (piece behind : List ℕ) (found : List Token) (fresh : Bool) → IsPiece at piece behind found fresh
    → length found ≤ length piece
piece_tokens at piece behind _ _ (IsPiece.line_feed is) = omega arith
piece_tokens at piece behind _ _ (IsPiece.gap is) = omega arith
piece_tokens at piece behind _ _ (IsPiece.line_comment is) = omega arith
piece_tokens at piece behind _ _ (IsPiece.include fresh is) = omega arith
piece_tokens at piece behind _ _ (IsPiece.token kind is longest) = let some = lexeme_some piece (token_lexeme kind piece is) in omega arith

read_tokens : (at to : Position) (bytes rest : List ℕ) (tokens : List Token) → Reads at bytes tokens to rest → length tokens ≤ length bytes
read_tokens _ _ _ _ _ (Reads.none at bytes) = omega arith
read_tokens _ _ _ _ _ (Reads.piece at to piece behind rest found tokens fresh is others) =
    let one = piece_tokens at piece behind found fresh is in
    let more = read_tokens _ to behind rest tokens others in
    let left = length-append found tokens in
    let right = length-append piece behind in
    omega arith

text_tokens : (text : List ℕ) (tokens : List Token) → HasTokens text tokens → length tokens ≤ length text + 1
text_tokens text tokens has =
    let few = read_tokens _ _ text [] has.found has.reads in
    let all = ap length has.is ∙ length-append has.found _ in
    omega arith

length-words_of : (tokens : List Token) → length (words_of tokens) ≡ length tokens
length-words_of [] = refl
length-words_of (token ∷ tokens) = ap (λ n. suc n) (length-words_of tokens)

-- ITEMS

items_few : (n : ℕ) (items : List Item) (from to : List Word) → deepest item_nesting items ≤ n → each item items from to
    → length items + length to ≤ length from
items_few n [] from to fits is = let same = ap length is in omega arith
items_few n (first ∷ others) from to fits (mid, one, more) =
    let shorter = fewer (Forms.item_form n) (item_good n) refl from mid (is_item first n from mid (omega arith) one) in
    let rest = items_few n others mid to (omega arith) more in
    omega arith

word_some : (class : ℕ) (from to : List Word) → word class from to → length to < length from
word_some class [] to is = absurd is
word_some class (first ∷ others) to is = let same = ap length is.1 in omega arith

file_items : (file : File) (words : List Word) → Spells file words → length file.items < length words
file_items file words (mid, items, end) =
    let few = items_few (deepest item_nesting file.items) file.items words mid (omega arith) items in
    let some = word_some Classes.END mid [] end in
    omega arith

text_items : (text : List ℕ) (file : File) → IsUnitOf text file → length file.items ≤ length text
text_items text file unit =
    let few = file_items file (words_of unit.tokens) unit.spells in
    let same = length-words_of unit.tokens in
    let most = text_tokens text unit.tokens unit.has in
    omega arith

-- STRUCTURES

item_structures : (one : Item) → length (declares one).structures ≤ 1
item_structures (Item.StructItem place tag lines) = omega arith
item_structures (Item.TypedefStruct place tag lines alias) = omega arith
item_structures (Item.TypedefAlias place tag alias) = omega arith
item_structures (Item.Prototype head) = omega arith
item_structures (Item.Definition head place body end) = omega arith

items_structures : (items : List Item) → length (declared_by items).structures ≤ length items
items_structures [] = omega arith
items_structures (first ∷ others) =
    let one = item_structures first in
    let more = items_structures others in
    let both = length-append (declares first).structures (declared_by others).structures in
    omega arith

left_or_kept : (b : Bool) (first : Structure) (one other : List Structure) (n : ℕ) → length one ≤ n → length other ≤ n
    → length (cond b one (first ∷ other)) ≤ suc n
left_or_kept true first one other n left kept = omega arith
left_or_kept false first one other n left kept = omega arith

first_few : (all before : List Structure) → length (first_structures before all) ≤ length all
first_few [] before = omega arith
first_few (first ∷ others) before =
    left_or_kept (is_among before first) first _ _ (length others) (first_few others before) (first_few others (before ++ first ∷ []))

structs_few : (files : List File) → length (structs_of files) ≤ length (items_of files)
structs_few files =
    let mapped = length-map (first_structures [] (tables_of files).structures) (struct_def (tables_of files)) in
    let few = first_few (tables_of files).structures [] in
    let most = items_structures (items_of files) in
    omega arith

-- FILES OF A PROJECT

-- the texts of the files are these trees
abbrev pub AreTrees : List SourceFile → List File → Type 0
AreTrees files trees = AllZip (λ (file : SourceFile) tree. IsUnitOf file.bytes tree) files trees

files_items : (files : List SourceFile) (trees : List File) → AreTrees files trees → length (items_of trees) ≤ bytes_of files
files_items [] [] are = omega arith
files_items [] (tree ∷ trees) are = absurd are
files_items (file ∷ files) [] are = absurd are
files_items (file ∷ files) (tree ∷ trees) are =
    let one = text_items file.bytes tree are.0 in
    let more = files_items files trees are.1 in
    let both = length-append tree.items (items_of trees) in
    let all = sum_by-cons text_length file files in
    omega (arith, one, more, both, all)

-- files have no more structures than bytes
pub files_structs : (files : List SourceFile) (trees : List File) → AreTrees files trees → length (structs_of trees) ≤ bytes_of files
files_structs files trees are =
    let few = structs_few trees in
    let most = files_items files trees are in
    omega arith
