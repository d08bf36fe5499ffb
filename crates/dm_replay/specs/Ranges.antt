-- Ranges of consecutive sectors of a disk, and their values.
use Rattle.dm_replay.specs.Base.{ℕ, Bool, nat_le, nat_lt, Value}
use Rattle.dm_replay.specs.declared.range_values.RangeValues.{RangeValues}
use Rattle.dm_replay.specs.Values.{Values, further}
use Rattle.std.specs.Prelude.{◌≡◌, ◌+◌, ◌-◌, ◌≤◌, ◌<◌, ◌&&◌, ◌==◌, if◌then◌else◌}

-- whether the sector of `disk` is one of the `len` sectors of disk `on` that begin at `start`
abbrev pub is_within : (on start len disk sector : ℕ) → Bool
is_within on start len disk sector = disk == on && (nat_le start sector && nat_lt sector (start + len))

-- the values after a range was changed: in the range they count up from `first`, and elsewhere they are as before
abbrev pub ranged : Values → (on start len : ℕ) → Value → Values
ranged values on start len first disk sector = if is_within on start len disk sector then further first (sector - start) else values disk sector

-- the values of the `len` sectors of a disk that begin at `start` count up from `first`
abbrev pub HoldOn : Values → (disk start len : ℕ) → Value → Type 0
HoldOn values disk start len first = (i : ℕ) → i < len → values disk (start + i) ≡ further first i

-- the first `range.len` of the `len` sectors, at least one, have the values of `range`
pub record AreFirst (values : Values) (disk start len : ℕ) (range : RangeValues) : Type 0 where
  pub some : 1 ≤ range.len
  pub most : range.len ≤ len
  pub hold : HoldOn values disk start range.len range.first

-- `len` sectors can be copied at once, because none of them is overwritten before it is read
abbrev pub CanCopyAtOnce : (disk start to to_start len : ℕ) → Type 0
CanCopyAtOnce disk start to to_start len = disk ≡ to → start < to_start → start + len ≤ to_start
