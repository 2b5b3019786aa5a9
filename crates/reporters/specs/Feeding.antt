-- What reporters are after an entry was offered to each of them.
use Rattle.std.specs.Prelude.{◌≡◌, ◌≤◌, ℕ, false, List, [], ◌∷◌}
use Rattle.std.specs.List.{count_by}
use Rattle.reporters.specs.declared.reporter.Entry.{Entry}
use Rattle.reporters.specs.Known.{Known, after_taken, is_reached}

-- it stays: it has taken the entry behind its old ones, and has not as many now as its stop says
pub record Stays (entry : Entry) (old new : Known) : Type 0 where
  pub taken : new.taken ≡ after_taken old.taken entry
  pub more : is_reached new.stop new.taken ≡ false
  pub steady : new.steady ≡ old.steady
  pub stop : new.stop ≡ old.stop
  pub never_falls : old.faults ≤ new.faults

-- those that stay are some of those before, in their order, and none that is gone was steady
pub data AreFed (entry : Entry) : List Known → List Known → Type 0 where
  nobody : AreFed entry [] []
  stays : (old new : Known) (olds news : List Known) → Stays entry old new → AreFed entry olds news → AreFed entry (old ∷ olds) (new ∷ news)
  goes : (old : Known) (olds news : List Known) → old.steady ≡ false → AreFed entry olds news → AreFed entry (old ∷ olds) news

-- how many are steady
abbrev pub steady_count : List Known → ℕ
steady_count all = count_by (λ (one : Known). one.steady) all
