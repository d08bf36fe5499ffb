-- Units, values and answers that name only disks with ids below a number, such as the number of a stack's disks.
use Rattle.dm_replay.specs.Base.{ℕ, List, AllByRecursion, BlockUnit, ReadOf, CopyOf, Value, ValueRun}
use Rattle.dm_replay.specs.declared.value.Value.TheVariants as value
use Rattle.dm_replay.specs.declared.value_run.ValueRun.TheVariants as runs
use Rattle.dm_replay.specs.Runs.{AreMaximal, flat}
use Rattle.dm_replay.specs.Values.{Answer, Gives, Failed, Values}
use Rattle.std.specs.Prelude.{◌≡◌, ◌<◌}

-- if the value names a disk, the disk's id is below `disks`
abbrev pub IsValueOf : (disks : ℕ) → Value → Type 0
IsValueOf disks (value.Old disk sector) = disk < disks
IsValueOf disks other = Unit {0}

-- if the answer's value names a disk, the disk's id is below `disks`
abbrev pub IsAnswerOf : (disks : ℕ) → Answer → Type 0
IsAnswerOf disks (Gives given) = IsValueOf disks given
IsAnswerOf disks Failed = Unit {0}

-- if the run names a disk, the disk's id is below `disks`
abbrev pub IsRunOf : (disks : ℕ) → ValueRun → Type 0
IsRunOf disks (runs.Old disk start len) = disk < disks
IsRunOf disks run = Unit {0}

-- if the unit reads or copies from a disk, the disk's id is below `disks`
abbrev pub IsUnitOf : (disks : ℕ) → BlockUnit → Type 0
IsUnitOf disks (ReadOf disk sector) = disk < disks
IsUnitOf disks (CopyOf disk sector to to_sector) = disk < disks
IsUnitOf disks unit = Unit {0}

-- all disks that the units read or copy from have ids below `disks`
abbrev pub AreUnitsOf : (disks : ℕ) → List BlockUnit → Type 0
AreUnitsOf disks units = AllByRecursion (IsUnitOf disks) units

-- on all disks with ids below `disks`, values name only disks with ids below `disks`
abbrev pub AreValuesOf : (disks : ℕ) → Values → Type 0
AreValuesOf disks values = (disk sector : ℕ) → disk < disks → IsValueOf disks (values disk sector)

-- the runs are the only maximal runs with these answers, and they name only disks with ids below `disks`
pub record AreRunsOf (disks : ℕ) (answers : List Answer) (runs : List ValueRun) : Type 0 where
  pub are : flat runs ≡ answers
  pub maximal : AreMaximal runs
  pub one : (others : List ValueRun) → AreMaximal others → flat others ≡ answers → others ≡ runs
  pub on : AllByRecursion (IsRunOf disks) runs
