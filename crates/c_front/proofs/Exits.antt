-- How reading ends.
use Rattle.std.proofs.Common.{inr, ◌≡◌, ℕ, ◌≤◌, List, refl, subst, sym, ap, ◌∙◌}
use Rattle.std.specs.Prelude.{Result, Ok, Err, IfOk, IfErr, IsErrAnd}
use Rattle.c_grammar.specs.declared.tokens.token.Token.{Token}
use Rattle.c_grammar.specs.Tokens.Grammar.{HasTokens, IsTokenFault}
use Rattle.c_grammar.specs.Tokens.Laws.{HaveOneReading, HaveNotBoth}
use Rattle.c_grammar.specs.Tokens.TokenLists.{IsTokenList}
use Rattle.c_grammar.specs.declared.tokens.fault.ReadFault.{ReadFault}
use Rattle.c_grammar.specs.declared.tokens.fault.ReadFault.TheVariants.{Refused, OutOfMemory}
use Rattle.c_grammar.specs.Laws.{HaveOneTree, HaveRoundTrip}
use Rattle.c_grammar.specs.Nesting.{file_nesting}
use Rattle.c_grammar.specs.Placeless.{placeless}
use Rattle.c_grammar.specs.Printing.{printed_text}
use Rattle.c_grammar.specs.Refusals.{MOST_LEVELS}
use Rattle.c_grammar.specs.Spelling.{Spells}
use Rattle.c_grammar.specs.Trees.{File}
use Rattle.c_grammar.specs.Words.{words_of}
use Rattle.c_tree.specs.declared.items.Unit.{Unit as UnitValue}
use Rattle.c_tree.specs.Syntax.{unit_tree}
use Rattle.c_parse.specs.Faults.{IsSyntaxFault}
use Rattle.c_front.specs.Units.{IsUnitOf, IsReadFault}

-- an exit of `?`
pub err_is : {A E : Type 0} (P : E → Type 0) (r : Result A E) (e : E) → IsErrAnd r (λ y. y ≡ e) → P e → IfErr r P
err_is P (Ok x) e exit h = absurd exit
err_is P (Err y) e exit h = subst P (sym exit) h

pub ok_never : {A E : Type 0} (P : A → Type 0) (r : Result A E) (e : E) → IsErrAnd r (λ y. y ≡ e) → IfOk r P
ok_never P (Ok x) e exit = absurd exit
ok_never P (Err y) e exit = tt

-- a text that is a file has tokens
pub no_tokens : HaveNotBoth → (text : List ℕ) (fault : ReadFault) → IsTokenFault text fault → (file : File) → IsUnitOf text file
    → fault ≡ OutOfMemory
no_tokens never text (Refused refusal) h file u = absurd (never text u.tokens refusal u.has h)
no_tokens never text OutOfMemory h file u = refl

-- what is read of the tokens is read of the text
pub unit_of_text : (text : List ℕ) (found : List Token) → HasTokens text found → (r : Result UnitValue ReadFault)
    → IfOk r (λ unit. Spells (unit_tree unit) (words_of found))
    → IfOk r (λ unit. file_nesting (unit_tree unit) ≤ MOST_LEVELS) → IfOk r (λ unit. IsUnitOf text (unit_tree unit))
unit_of_text text found has (Ok unit) spells levels = record { tokens = found; has = has; spells = spells; levels = levels }
unit_of_text text found has (Err fault) spells levels = tt

-- what is refused of the tokens is refused of the text
refused_text : (text : List ℕ) (found : List Token) (fault : ReadFault) → HasTokens text found → IsSyntaxFault (words_of found) fault
    → IsReadFault text fault
refused_text text found (Refused refusal) has h = inr (found, has, h)
refused_text text found OutOfMemory has h = tt

pub fault_of_text : (text : List ℕ) (found : List Token) → HasTokens text found → (r : Result UnitValue ReadFault)
    → IfErr r (IsSyntaxFault (words_of found)) → IfErr r (IsReadFault text)
fault_of_text text found has (Ok unit) h = tt
fault_of_text text found has (Err fault) h = refused_text text found fault has h

-- the file that the tokens spell
pub spelled : HaveOneReading → (text : List ℕ) (found : List Token) → HasTokens text found → (file : File) → IsUnitOf text file
    → Spells file (words_of found)
spelled one text found has file u = subst (λ all. Spells file (words_of all)) (one text u.tokens found u.has has) u.spells

-- the text that is printed of a file is the same file, up to places
pub record IsPrinted (text : List ℕ) (file : File) : Type 0 where
  pub same : File
  pub unit : IsUnitOf text same
  pub alike : placeless same ≡ placeless file

pub printed : HaveRoundTrip → (text : List ℕ) (listed : List Token) (file : File) → IsTokenList listed → Spells file (words_of listed)
    → file_nesting file ≤ MOST_LEVELS → text ≡ printed_text file
    → IsPrinted text file
printed trip text listed file is_list spells fits e =
    let (again, same, has, spells_same, alike, nesting) = trip listed file is_list spells in
    record {
      same = same;
      unit = record {
        tokens = again;
        has = subst (λ t. HasTokens t again) (sym e) has;
        spells = spells_same;
        levels = subst (λ n. n ≤ MOST_LEVELS) (sym nesting) fits;
      };
      alike = alike;
    }

-- what is read of the tokens of a printed text is the file that was printed, up to places
pub same_tree : HaveOneReading → HaveOneTree → (text : List ℕ) (found : List Token) (file : File) → HasTokens text found
    → (r : Result UnitValue ReadFault) → IfOk r (λ unit. Spells (unit_tree unit) (words_of found))
    → IsPrinted text file → IfOk r (λ unit. placeless (unit_tree unit) ≡ placeless file)
same_tree one trees text found file has (Ok unit) spells p =
    ap placeless (trees (words_of found) (unit_tree unit) p.same spells (spelled one text found has p.same p.unit)) ∙ p.alike
same_tree one trees text found file has (Err fault) spells p = tt
