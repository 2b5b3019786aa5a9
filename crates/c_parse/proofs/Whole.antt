-- What reading a whole file says of the words of a list of tokens.
use Rattle.std.proofs.Common.{◌≡◌, ◌≤◌, List, refl, sym, subst}
use Rattle.c_grammar.specs.declared.tokens.token.Token.{Token}
use Rattle.c_grammar.specs.Tokens.TokenLists.{IsTokenList}
use Rattle.c_grammar.specs.declared.tokens.fault.ReadFault.{ReadFault}
use Rattle.c_grammar.specs.declared.tokens.fault.ReadFault.TheVariants.{Refused, OutOfMemory}
use Rattle.c_grammar.specs.Nesting.{file_nesting}
use Rattle.c_grammar.specs.Readers.{read_file}
use Rattle.c_grammar.specs.Refusals.{MOST_LEVELS, RefusedAt}
use Rattle.c_grammar.specs.Spelling.{Spells}
use Rattle.c_grammar.specs.Trees.{File}
use Rattle.c_grammar.specs.Words.{words_of}
use Rattle.c_grammar.proofs.TokenWords.{stop_is_refused, spelled_is_read}
use Rattle.c_parse_exprs.specs.Reads.{Halts}
use Rattle.c_parse.specs.Faults.{IsSyntaxFault}

pub fault_is_told : (tokens : List Token) → IsTokenList tokens → (fault : ReadFault) → Halts fault (read_file MOST_LEVELS (words_of tokens))
    → IsSyntaxFault (words_of tokens) fault
fault_is_told tokens listed OutOfMemory h = tt
fault_is_told tokens listed (Refused refusal) h =
    let (halt, same, place) = h.told refusal refl in
    subst (λ r. RefusedAt (words_of tokens) r) (sym place) (stop_is_refused tokens listed halt same)

pub spelled_lacks_memory : (tokens : List Token) → IsTokenList tokens → (file : File) → Spells file (words_of tokens)
    → file_nesting file ≤ MOST_LEVELS
    → (fault : ReadFault) → Halts fault (read_file MOST_LEVELS (words_of tokens)) → fault ≡ OutOfMemory
spelled_lacks_memory tokens listed file spells fits OutOfMemory h = refl
spelled_lacks_memory tokens listed file spells fits (Refused refusal) h =
    let (halt, same, place) = h.told refusal refl in
    absurd (spelled_is_read tokens listed file spells fits halt same)
