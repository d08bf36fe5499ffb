-- The values stored in the sectors of a disk, as a map from the first sector of each range to the range.
use Rattle.dm_replay.specs.Base.{ℕ, nat_le, nat_lt, List, [], Option, Some, None, get_or, nat_cmp, BTreeMap, IsOrdered, get, Value}
use Rattle.dm_replay.specs.declared.range_values.RangeValues.{RangeValues}
use Rattle.dm_replay.specs.declared.value.Value.TheVariants as value
use Rattle.dm_replay.specs.Values.{Values, further}
use Rattle.std.specs.Prelude.{◌≡◌, ◌+◌, ◌-◌, ◌^◌, ◌<◌, ◌≤◌, ◌&&◌, ◌∷◌, if◌then◌else◌}

-- the value that was stored in each sector of a disk; None if nothing was
abbrev pub Stored : Type 0
Stored = ℕ → Option Value

-- the value stored in a sector by these ranges; if several ranges contain the sector, the first one counts
unfoldable pub stored_in : List (ℕ × RangeValues) → Stored
stored_in [] sector = None
stored_in (entry ∷ later) sector = if nat_le entry.0 sector && nat_lt sector (entry.0 + entry.1.len) then Some (further entry.1.first (sector - entry.0)) else stored_in later sector

-- the value of a disk's sector: the stored one or, if nothing was stored, the old one
abbrev pub held : (disk : ℕ) → Option Value → (sector : ℕ) → Value
held disk None sector = value.Old disk sector
held disk (Some stored) sector = stored

-- the values of all sectors of all disks, given the ranges stored on each disk
abbrev pub values_of : List (List (ℕ × RangeValues)) → Values
values_of disks disk sector = held disk (stored_in (get_or disks disk []) sector) sector

-- the stored values after a range was stored: in its sectors they count up from `first`, and in all others they are as before
abbrev pub spanned : Stored → (start len : ℕ) → Value → Stored
spanned stored start len first sector = if nat_le start sector && nat_lt sector (start + len) then Some (further first (sector - start)) else stored sector

-- no range is empty, no two ranges overlap, and all ranges end below 2^64
pub record AreApart (ranges : BTreeMap ℕ RangeValues) : Type 0 where
  pub ordered : IsOrdered nat_cmp ranges
  pub some : (start : ℕ) (range : RangeValues) → get nat_cmp ranges start ≡ Some range → 0 < range.len
  pub small : (start : ℕ) (range : RangeValues) → get nat_cmp ranges start ≡ Some range → start + range.len < 2 ^ 64
  pub apart : (start later : ℕ) (range after : RangeValues) → get nat_cmp ranges start ≡ Some range → get nat_cmp ranges later ≡ Some after → start < later → start + range.len ≤ later

-- this range, which begins at `start`, contains the sector
pub record Has (ranges : BTreeMap ℕ RangeValues) (sector start : ℕ) (range : RangeValues) : Type 0 where
  pub is : get nat_cmp ranges start ≡ Some range
  pub from : start ≤ sector
  pub before : sector < start + range.len

-- no range contains this sector
abbrev pub IsBare : BTreeMap ℕ RangeValues → (sector : ℕ) → Type 0
IsBare ranges sector = (start : ℕ) (range : RangeValues) → get nat_cmp ranges start ≡ Some range → start ≤ sector → sector < start + range.len → ⊥

-- the ranges hold exactly the stored values: a sector in no range has no stored value
pub record Shows (ranges : BTreeMap ℕ RangeValues) (stored : Stored) : Type 0 where
  pub hold : (start : ℕ) (range : RangeValues) (sector : ℕ) → get nat_cmp ranges start ≡ Some range → start ≤ sector → sector < start + range.len → stored sector ≡ Some (further range.first (sector - start))
  pub bare : (sector : ℕ) → IsBare ranges sector → stored sector ≡ None

-- no range contains both this sector and the one before it
abbrev pub IsCut : BTreeMap ℕ RangeValues → (sector : ℕ) → Type 0
IsCut ranges sector = (start : ℕ) (range : RangeValues) → get nat_cmp ranges start ≡ Some range → start < sector → start + range.len ≤ sector

-- every value that was stored before is still stored
abbrev pub KeepsStored : (old new : BTreeMap ℕ RangeValues) → Type 0
KeepsStored old new = (stored : Stored) → Shows old stored → Shows new stored

-- if no range contained both a sector and the one before it, none does now
abbrev pub KeepsCuts : (old new : BTreeMap ℕ RangeValues) → Type 0
KeepsCuts old new = (sector : ℕ) → IsCut old sector → IsCut new sector

-- this range, which begins at `start`, is the last one that begins before the sector
pub record IsLastBefore (ranges : BTreeMap ℕ RangeValues) (sector start : ℕ) (range : RangeValues) : Type 0 where
  pub is : get nat_cmp ranges start ≡ Some range
  pub before : start < sector
  pub last : (other : ℕ) (after : RangeValues) → get nat_cmp ranges other ≡ Some after → other < sector → other ≤ start

-- `first` is the first sector where a range begins, from `start` to before `end`
pub record IsFirstFrom (ranges : BTreeMap ℕ RangeValues) (start end first : ℕ) : Type 0 where
  pub range : RangeValues
  pub is : get nat_cmp ranges first ≡ Some range
  pub from : start ≤ first
  pub before : first < end
  pub least : (other : ℕ) (after : RangeValues) → get nat_cmp ranges other ≡ Some after → start ≤ other → other < end → first ≤ other

-- no range begins in the sectors from `start` to before `end`
abbrev pub NoneFrom : BTreeMap ℕ RangeValues → (start end : ℕ) → Type 0
NoneFrom ranges start end = (other : ℕ) (after : RangeValues) → get nat_cmp ranges other ≡ Some after → start ≤ other → other < end → ⊥

-- no range was added, and only ranges that begin in the sectors from `start` to before `end` were removed
pub record IsCleared (old new : BTreeMap ℕ RangeValues) (start end : ℕ) : Type 0 where
  pub some : (at : ℕ) (range : RangeValues) → get nat_cmp old at ≡ Some range → (start ≤ at → at < end → ⊥) → get nat_cmp new at ≡ Some range
  pub only : (at : ℕ) (range : RangeValues) → get nat_cmp new at ≡ Some range → get nat_cmp old at ≡ Some range

-- nothing is stored in the sectors from `start` to before `end`: ranges were split at both ends, and those in between were removed
pub record IsRoomMade (old new : BTreeMap ℕ RangeValues) (start end : ℕ) : Type 0 where
  pub cut : BTreeMap ℕ RangeValues
  pub same : KeepsStored old cut
  pub cut_start : IsCut cut start
  pub cut_end : IsCut cut end
  pub is_cleared : IsCleared cut new start end
