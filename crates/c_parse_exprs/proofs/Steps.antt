-- Readers one after another: what the exit of a `?` gives, and what is read behind what was read.
use Rattle.std.proofs.Common.{◌≡◌, false, List, refl, sym, ap, ◌∙◌, subst}
use Rattle.std.specs.Prelude.{Result, Ok, Err}
use Rattle.std.specs.Result.{IsErrAnd}
use Rattle.c_grammar.specs.declared.tokens.fault.ReadFault.{ReadFault}
use Rattle.c_grammar.specs.declared.tokens.fault.ReadFault.TheVariants.{Refused, OutOfMemory}
use Rattle.c_grammar.specs.Words.{Word}
use Rattle.c_grammar.specs.Readers.{Halt, Got, ◌>>=◌, refusal_of, class_at, is_class, is_open, take, take_open, read_name}
use Rattle.c_grammar.specs.declared.class.Class.{Class}
use Rattle.c_grammar.specs.declared.class.Class.TheVariants as class
use Rattle.c_parse_exprs.specs.Reads.{Halts, Reads, wrong_at}

-- where the first reader halts, the whole halts
pub halts : {A B : Type 0} (fault : ReadFault) (got : Result A Halt) (next : A → Result B Halt) → Halts fault got
    → Halts fault (got >>= next)
halts fault got next h =
    record { told = λ refusal is. let (halt, same, place) = h.told refusal is in (halt, ap (λ g. g >>= next) same, place) }

-- want of memory says nothing
pub no_memory : {A : Type 0} (fault : ReadFault) (got : Result A Halt) → fault ≡ OutOfMemory → Halts fault got
no_memory fault got none = record { told = λ refusal is. let e : OutOfMemory ≡ Refused refusal = sym none ∙ is in cc }

-- a reading that halts, by where it halts
pub halts_at : {A : Type 0} (fault : ReadFault) (got : Result A Halt) (halt : Halt) → got ≡ Err halt → fault ≡ Refused (refusal_of halt)
    → Halts fault got
halts_at fault got halt same place =
    record { told = λ refusal is. let e : Refused (refusal_of halt) ≡ Refused refusal = sym place ∙ is in (halt, same, cc) }

pub take_stops : (fault : ReadFault) (kind : Class) (words : List Word) → is_class kind (class_at words) ≡ false → fault ≡ wrong_at words
    → Halts fault (take kind words)
take_stops fault kind words seen place = halts_at fault _ (record { deep = false; at = words }) (rw seen refl) place

pub open_stops : (fault : ReadFault) (words : List Word) → is_open (class_at words) ≡ false → fault ≡ wrong_at words
    → Halts fault (take_open words)
open_stops fault words seen place = halts_at fault _ (record { deep = false; at = words }) (rw seen refl) place

pub name_stops : (fault : ReadFault) (words : List Word) → is_class class.Name (class_at words) ≡ false → fault ≡ wrong_at words
    → Halts fault (read_name words)
name_stops fault words seen place = halts_at fault _ (record { deep = false; at = words }) (rw seen refl) place

pub ruleset stops = (take_stops, open_stops, name_stops)

-- the exit of a `?` on a reader that halts, and on want of memory
pub exit_halts : {A B : Type 0} (got : Got B) (tree : A → B) (r : Result A ReadFault) (left : List Word) (fault : ReadFault)
    → IsErrAnd r (λ y. y ≡ fault) → Halts fault got → Reads got tree r left
exit_halts got tree (Ok x) left fault exit h = absurd exit
exit_halts got tree (Err y) left fault exit h = subst (λ f. Halts f got) (sym exit) h

pub exit_memory : {A B : Type 0} (got : Got B) (tree : A → B) (r : Result A ReadFault) (left : List Word)
    → IsErrAnd r (λ y. y ≡ OutOfMemory) → Reads got tree r left
exit_memory got tree (Ok x) left exit = absurd exit
exit_memory got tree (Err y) left exit = no_memory y got exit

-- where the reading goes on as another one that halts, it halts
pub halts_same : {A : Type 0} (fault : ReadFault) (got other : Result A Halt) → got ≡ other → Halts fault other → Halts fault got
halts_same fault got other same h = subst (λ g. Halts fault g) (sym same) h
