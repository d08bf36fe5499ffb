-- The message for a sector that has no bytes.
use Rattle.dm_read.specs.Base.{ℕ, List, codes, decimal, ByteFault, Error, Unread, Stop}
use Rattle.dm_store.specs.declared.fault.SectorFault.TheVariants.{Missing, Read}
use Rattle.std.specs.Prelude.{◌++◌}

-- the word for a fault in the message
abbrev pub fault_word : ByteFault → List ℕ
fault_word Error = codes "error"
fault_word (Unread Missing) = codes "missing"
fault_word (Unread Read) = codes "read"

-- the message: a line with the word for the fault and the number of the sector
abbrev pub stop_message : Stop → List ℕ
stop_message stop = codes "dmremap: device: " ++ fault_word stop.fault ++ codes " at " ++ decimal stop.sector ++ codes "\n"
