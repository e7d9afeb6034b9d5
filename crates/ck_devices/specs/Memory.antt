-- What contracts see of the devices in memory.
use Rattle.std.specs.Prelude.{ℕ, List}
use Rattle.ck_devices.specs.Files.{Files}
use Rattle.ck_devices.specs.Plans.{Plan}

-- a source: the bytes that are left, the most that one read takes, and its faults
pub record SourceState : Type 0 where
  pub left : List ℕ
  pub piece : ℕ
  pub plan : Plan

-- a sink: the bytes that it took, the most that one write takes, and its faults
pub record SinkState : Type 0 where
  pub held : List ℕ
  pub piece : ℕ
  pub plan : Plan

-- counting words: the number of the next word, and its faults
pub record WordsState : Type 0 where
  pub next : ℕ
  pub plan : Plan

-- a shelf: its files, and its faults
pub record ShelfState : Type 0 where
  pub files : Files
  pub plan : Plan
