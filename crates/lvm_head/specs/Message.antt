-- The message for a refused head.
use Rattle.lvm_head.specs.Base.{ℕ, List, codes, memory_message, HeadFault, Unread, Partitions, Array, Label, Header, Long, Text, Differ, Twice, Foreign, Missing, Ends, Memory}
use Rattle.std.specs.Prelude.{◌++◌}

-- the word for a fault in messages
abbrev pub fault_word : HeadFault → List ℕ
fault_word Unread = codes "read"
fault_word Partitions = codes "partitions"
fault_word Array = codes "array"
fault_word Label = codes "label"
fault_word Header = codes "header"
fault_word Long = codes "long"
fault_word Text = codes "text"
fault_word Differ = codes "differ"
fault_word Twice = codes "twice"
fault_word Foreign = codes "foreign"
fault_word Missing = codes "missing"
fault_word Ends = codes "ends"
fault_word Memory = codes "memory"

-- the message for a fault of the disk with this name, with a newline at the end; Memory has a message of its own, which doesn't name the disk
abbrev pub head_message : (disk : List ℕ) → HeadFault → List ℕ
head_message disk Memory = memory_message
head_message disk fault = codes "dmremap: disk " ++ disk ++ codes ": " ++ fault_word fault ++ codes "\n"
