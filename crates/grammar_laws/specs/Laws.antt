-- The laws of reading.
use Rattle.std.specs.Prelude.{◌≡◌, ℕ, Bool, true, false, List, ◌∷◌, ◌++◌}
use Rattle.grammar_laws.specs.Form.{Form, begins_in, Derives, continues, lacks, derives_some, IsGood}
use Rattle.grammar_laws.specs.Reading.{Done, Stop, reads, Opens, Follows}

abbrev pub WhatIsReadIsDerived : Type 0
WhatIsReadIsDerived =
    (form : Form) → IsGood form → (from rest : List ℕ) → reads form from ≡ Done rest
    → (words : List ℕ) × (from ≡ words ++ rest) × Derives form words rest

abbrev pub WhatIsDerivedIsRead : Type 0
WhatIsDerivedIsRead =
    (form : Form) → IsGood form → (words rest : List ℕ) → Derives form words rest → begins_in (continues form) rest ≡ false
    → reads form (words ++ rest) ≡ Done rest

-- the words begin something that the form derives, and with the first word behind them they begin nothing of it
pub record StopsExactly (form : Form) (words at : List ℕ) : Type 0 where
  pub more : List ℕ
  pub begins : (rest : List ℕ) → begins_in (lacks form) rest ≡ false → Derives form (words ++ more) rest
  pub stops : (word : ℕ) (left others derived rest : List ℕ) → at ≡ word ∷ left → Derives form derived rest
      → begins_in (continues form) rest ≡ false
      → derived ++ rest ≡ words ++ word ∷ others → ⊥

abbrev pub StopsWhereItMust : Type 0
StopsWhereItMust =
    (form : Form) → IsGood form → derives_some form ≡ true → (deep : Bool) (from at : List ℕ) → reads form from ≡ Stop deep at
    → (words : List ℕ) × (from ≡ words ++ at) × StopsExactly form words at

abbrev pub LevelsOpen : Type 0
LevelsOpen = (form other : Form) → Opens form other → (from : List ℕ) → Follows (reads form from) (reads other from)
