-- Answers that are looked up by a key.
use Rattle.std.specs.Prelude.{◌≡◌, false, ℕ, List, [], ◌∷◌}
use Rattle.std.specs.List.{find}
use Rattle.std.specs.Option.{option_map, unwrap_or}
use Rattle.std.specs.declared.option.Option.{Option}
use Rattle.std.specs.declared.option.Option.TheVariants.{None, Some}
use Rattle.indexmap.specs.IndexMap.{IndexMap, get}
use Rattle.shape_data.specs.declared.answer.Answer.{Answer}
use Rattle.shape_data.specs.declared.answer.Key.{Key}
use Rattle.shape_data.specs.declared.program.Flow.{Flow}
use Rattle.component_keys.specs.Tests.{key_test}
use Rattle.claim_core.specs.Views.{Solution}

-- the first entry that has the key
abbrev pub first_entry : List Solution → Key → Option Solution
first_entry loaded key = find (λ (one : Solution). key_test.0 one.key key) loaded

-- the answer of the first entry that has the key
abbrev pub first_answer : List Solution → Key → Option Answer
first_answer loaded key = option_map (λ (one : Solution). one.answer) (first_entry loaded key)

-- the answer to a key: that of the first entry that has it, else what the function gives, which is that of solving it
abbrev pub lookup : (Key → Answer) → List Solution → Key → Answer
lookup answer_of loaded key = unwrap_or (first_answer loaded key) (answer_of key)

-- a map finds for each key the answer of the first entry that has it
abbrev pub AreFound : {A S : Type 0} → (A → Answer) → List Solution → IndexMap Key A S → Type 0
AreFound value loaded found = (key : Key) → option_map value (get key_test.0 found key) ≡ first_answer loaded key

-- AGREEMENT

-- it is the answer that was found; where none was found, it was read from no store
abbrev pub IsFoundOrSolved : Option Answer → Answer → Type 0
IsFoundOrSolved None answer = answer.stored ≡ false
IsFoundOrSolved (Some found) answer = answer ≡ found

-- the entry has the answer that the loaded entries have for its key
abbrev pub Agrees : List Solution → Solution → Type 0
Agrees loaded one = IsFoundOrSolved (first_answer loaded one.key) one.answer

-- HASHING

-- the name of the first of a key's procedures
abbrev pub first_name : List Flow → List ℕ
first_name [] = []
first_name (flow ∷ flows) = flow.name
