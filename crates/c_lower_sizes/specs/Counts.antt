-- Counts up to a limit, by which the code counts.
use Rattle.std.specs.Prelude.{◌≡◌, ℕ, min}
use Rattle.c_lower_sizes.specs.declared.counts.UseCounts.{UseCounts}
use Rattle.c_lower_sizes.specs.Sizes.{Uses}

-- the greatest count, which stands for every number that is no smaller: it is more than any procedure may have
abbrev pub MOST_COUNTED : ℕ
MOST_COUNTED = 1000

-- a number as it is counted
abbrev pub capped : ℕ → ℕ
capped n = min n MOST_COUNTED

-- the counts as they stand
abbrev pub seen : UseCounts → Uses
seen counts = record { value = counts.value; into = counts.into; test = counts.test }

-- the nodes of an expression in each of its uses are counted
pub record AreCounts (uses : Uses) (counts : UseCounts) : Type 0 where
  pub value : counts.value ≡ capped uses.value
  pub into : counts.into ≡ capped uses.into
  pub test : counts.test ≡ capped uses.test
