-- What a function of the parser gives: what the reader of the grammar gives, unless memory ends.
use Rattle.std.specs.Prelude.{◌≡◌, ℕ, true, false, List, Result, Ok, Err}
use Rattle.c_grammar.specs.declared.tokens.places.Refusal.{Refusal}
use Rattle.c_grammar.specs.declared.tokens.places.Place.{Place}
use Rattle.c_grammar.specs.declared.tokens.fault.ReadFault.{ReadFault}
use Rattle.c_grammar.specs.declared.tokens.fault.ReadFault.TheVariants.{Refused}
use Rattle.c_grammar.specs.Trees.{Name}
use Rattle.c_grammar.specs.Words.{Word}
use Rattle.c_grammar.specs.Readers.{Halt, Got, refusal_of}

-- the first of the words cannot stand there
abbrev pub wrong_at : List Word → ReadFault
wrong_at words = Refused (refusal_of (record { deep = false; at = words }))

-- the first of the words opens a level too many
abbrev pub too_deep_at : List Word → ReadFault
too_deep_at words = Refused (refusal_of (record { deep = true; at = words }))

-- the reading halts, and the refusal says where and why
pub record Halts {A : Type 0} (fault : ReadFault) (got : Result A Halt) : Type 0 where
  pub told : (refusal : Refusal) → fault ≡ Refused refusal → (halt : Halt) × (got ≡ Err halt) × (refusal ≡ refusal_of halt)

-- what was read is the tree, and these words are left; or the reading halts
abbrev pub Reads : {A B : Type 0} → Got B → (A → B) → Result A ReadFault → List Word → Type 0
Reads got tree (Ok x) left = got ≡ Ok (tree x, left)
Reads got tree (Err fault) left = Halts fault got

-- words were taken, and these are left; or the reading halts
abbrev pub Takes : Result (List Word) Halt → Result (Unit {0}) ReadFault → List Word → Type 0
Takes got (Ok done) left = got ≡ Ok left
Takes got (Err fault) left = Halts fault got

-- a name, by its place and its text
abbrev pub name_of : Place × List ℕ → Name
name_of found = record { place = found.0; text = found.1 }
