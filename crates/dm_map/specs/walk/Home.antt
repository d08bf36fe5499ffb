-- If the sectors of a request are consecutive sectors of one disk, their place is returned and no piece is handed over.
use Rattle.dm_map.specs.Base.{ℕ, List, Option, None, Some, Result, Ok, Err, Op, Description}
use Rattle.dm_map.specs.declared.walk.home.Home.{Home}
use Rattle.dm_map.specs.pieces.Sink.{SinkPast}
use Rattle.dm_map.specs.pieces.Units.{BlockUnit, IsOnDisk, disk_unit, units_in}
use Rattle.std.specs.Prelude.{◌≡◌}

-- the units read or write len consecutive sectors of a disk, from `home` on, and the disk has all of these sectors
pub record IsHome (stack : Description) (op : Op) (len : ℕ) (home : Home) (of : List BlockUnit) : Type 0 where
  pub units : of ≡ units_in (disk_unit op home.disk home.start) len
  pub lies : IsOnDisk stack home.disk home.start len

-- the sink received the units; or the sink is unchanged, and the units are on consecutive disk sectors from the home in the result on
abbrev pub HasTakenOrIsHome : {S F : Type 0} → (S → List BlockUnit → S → Type 0) → Description → Op → ℕ → Result (Option Home) F → S → List BlockUnit → S → Type 0
HasTakenOrIsHome takes stack op len (Ok (Some home)) old units new = IsHome stack op len home units × (new ≡ old)
HasTakenOrIsHome takes stack op len (Ok None) old units new = takes old units new
HasTakenOrIsHome takes stack op len (Err fault) old units new = Unit {0}

-- what contracts know about a sink that received the units or, if the result contains their home, did not change
abbrev pub or_home : {S F : Type 0} → SinkPast S → Description → Op → ℕ → Result (Option Home) F → SinkPast S
or_home past stack op len result = record past { took = HasTakenOrIsHome past.took stack op len result }

-- the result of a request whose units were all handed to the sink, so it contains no home
abbrev pub handed : {F : Type 0} → Result (Unit {0}) F → Result (Option Home) F
handed (Ok done) = Ok None
handed (Err fault) = Err fault
