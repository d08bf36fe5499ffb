-- The result of reading a part of a load from its input: a text, or the fault that stopped the read.
use Rattle.dm_table.specs.Base.{ℕ, List, length, nat_lt, Part, LoadFault, Read, Long}
use Rattle.dm_table.specs.load.LoadFault.{fault_at}
use Rattle.dm_table.specs.io.DeviceIo.{Stand, Clean, Failed, Open, Delivery}
use Rattle.dm_table.specs.declared.load.part_input.TheConstants.{MOST_PART_BYTES}
use Rattle.std.specs.Prelude.{if◌then◌else◌}

-- the result of reading a part: its text, the fault for which it is refused, or Unread if the input met neither an end nor a fault
pub data PartRead : Type 0 where
  TextOf : List ℕ → PartRead
  Refuses : LoadFault → PartRead
  Unread : PartRead

-- the result of reading a part that isn't too long, by how the reads stopped
abbrev pub part_by : Part → Stand → List ℕ → PartRead
part_by part Clean bytes = TextOf bytes
part_by part Failed bytes = Refuses (fault_at part Read 0)
part_by part Open bytes = Unread

-- the result of reading a part; if the part is too long and the input also failed, it counts as too long
abbrev pub part_read : Part → Delivery → PartRead
part_read part delivered =
    if nat_lt MOST_PART_BYTES (length delivered.bytes) then Refuses (fault_at part Long 0) else part_by part delivered.stand delivered.bytes
