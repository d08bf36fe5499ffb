-- The message that reports a refused load on standard error.
use Rattle.dm_table.specs.Base.{ℕ, List, codes, decimal, Part, Source, Disks, Paths, LoadKind, LoadFault}
use Rattle.dm_table.specs.declared.load.load_fault.LoadKind.TheVariants as kinds
use Rattle.std.specs.Prelude.{◌++◌}

-- the word for a part of the load in messages
abbrev pub part_word : Part → List ℕ
part_word Source = codes "source"
part_word Disks = codes "disks"
part_word Paths = codes "paths"

-- the word for a kind of fault in messages
abbrev pub kind_word : LoadKind → List ℕ
kind_word kinds.Read = codes "read"
kind_word kinds.Long = codes "long"
kind_word kinds.NotText = codes "text"
kind_word kinds.Syntax = codes "syntax"
kind_word kinds.Field = codes "field"
kind_word kinds.Name = codes "name"
kind_word kinds.Twice = codes "twice"
kind_word kinds.Empty = codes "empty"
kind_word kinds.Gap = codes "gap"
kind_word kinds.Overlap = codes "overlap"
kind_word kinds.Unknown = codes "unknown"
kind_word kinds.Cycle = codes "cycle"
kind_word kinds.Deep = codes "deep"
kind_word kinds.Range = codes "range"
kind_word kinds.Stripe = codes "stripe"
kind_word kinds.Snapshot = codes "snapshot"
kind_word kinds.Store = codes "store"
kind_word kinds.Extents = codes "extents"
kind_word kinds.Limit = codes "limit"
kind_word kinds.Memory = codes "memory"

-- the message for a fault of a part as a whole, without a line number
abbrev pub part_message : Part → LoadKind → List ℕ
part_message part kind = codes "dmremap: " ++ part_word part ++ codes ": " ++ kind_word kind ++ codes "\n"

-- the message for a load that ran out of memory
abbrev pub memory_message : List ℕ
memory_message = codes "dmremap: memory\n"

-- the message for a fault of this kind in a part; a part that could not be read or is too long has no line number
abbrev pub kind_message : Part → LoadKind → ℕ → List ℕ
kind_message part kinds.Read number = part_message part kinds.Read
kind_message part kinds.Long number = part_message part kinds.Long
kind_message part kinds.Memory number = memory_message
kind_message part kind number =
    codes "dmremap: " ++ part_word part ++ codes ": " ++ kind_word kind ++ codes " at " ++ decimal number ++ codes "\n"

-- the message for a refused load
abbrev pub load_message : LoadFault → List ℕ
load_message fault = kind_message fault.at.part fault.kind fault.at.number
