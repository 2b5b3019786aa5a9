-- What callers see of a source, a sink and a keeper in memory that are told which of their calls fail, and of what tells them.
use Rattle.std.specs.Prelude.{ℕ, List}
use Rattle.io_ports.specs.Places.{Stored}

-- the numbers of the calls that fail, how many calls there were, and how many of them failed
pub record CallScript : Type 0 where
  pub fail_at : List ℕ
  pub calls : ℕ
  pub faults : ℕ

-- the bytes left, the numbers of the calls that fail, how many calls there were, and how many of them failed
pub record SourceScript : Type 0 where
  pub left : List ℕ
  pub fail_at : List ℕ
  pub calls : ℕ
  pub faults : ℕ

-- the bytes held, the numbers of the calls that fail, how many calls there were, and how many of them failed
pub record SinkScript : Type 0 where
  pub held : List ℕ
  pub fail_at : List ℕ
  pub calls : ℕ
  pub faults : ℕ

-- the files, the numbers of the calls that fail, how many calls there were, and how many of them failed
pub record KeeperScript : Type 0 where
  pub files : List Stored
  pub fail_at : List ℕ
  pub calls : ℕ
  pub faults : ℕ
