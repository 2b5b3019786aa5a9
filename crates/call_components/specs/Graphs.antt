-- Graphs of calls by what a test looks at.
use Rattle.std.specs.Prelude.{◌≡◌, ℕ, ◌<◌, List, length, All}
use Rattle.std.specs.Global.{Vec}
use Rattle.shape_data.specs.Names.{HaveDifferentNames}

-- there is a row for each name, names differ, and each that is called has a name
pub record IsTested (names : List (List ℕ)) (calls : List (Vec ℕ)) : Type 0 where
  pub lengths : length names ≡ length calls
  pub apart : HaveDifferentNames (λ (name : List ℕ). name) names
  pub within : All (λ (row : Vec ℕ). All (λ number. number < length calls) row.items) calls
