-- The state of a `Gathered`, an output that collects bytes in a buffer and writes them to another output.
use Rattle.dm_table.specs.Base.{ℕ, List, Bool, true, nat_lt}
use Rattle.dm_table.specs.io.DeviceIo.{OutputPast}
use Rattle.std.specs.Prelude.{◌≡◌, ◌≤◌, ◌++◌, ◌||◌}

-- a gathering output: the history of the output behind it, the bytes in its buffer, whether the output behind it has failed, and its own fault and flush counts
pub record Gathering : Type 0 where
  pub behind : OutputPast
  pub held : List ℕ
  pub broken : Bool
  pub faults : ℕ
  pub flushes : ℕ

-- the history of a gathering output, in which the bytes in its buffer count as accepted but not yet flushed
abbrev pub past_of : Gathering → OutputPast
past_of g = record {
  written = g.behind.written ++ g.held;
  waiting = g.behind.waiting ++ g.held;
  faults = g.faults;
  flushes = g.flushes;
}

-- a fault of the output behind a gathering output sets `broken` for good, and once `broken` is set, the output behind isn't called any more
pub record MindsFaults (old new : Gathering) : Type 0 where
  pub grows : old.behind.faults ≤ new.behind.faults
  pub broken : new.broken ≡ (old.broken || nat_lt old.behind.faults new.behind.faults)
  pub left_alone : old.broken ≡ true → new.behind ≡ old.behind
