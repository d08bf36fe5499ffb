-- The message for a refused store.
use Rattle.dm_store.specs.Base.{ℕ, List, codes, Order, Range, Again, Missing, Read, StoreFault, Unread, Magic, Version, Chunk, Gap, Listed}
use Rattle.std.specs.Prelude.{◌++◌}

-- the word for a fault in messages
abbrev pub fault_word : StoreFault → List ℕ
fault_word (Unread Missing) = codes "missing"
fault_word (Unread Read) = codes "read"
fault_word Magic = codes "magic"
fault_word Version = codes "version"
fault_word Chunk = codes "chunk"
fault_word Gap = codes "gap"
fault_word (Listed Order) = codes "order"
fault_word (Listed Range) = codes "range"
fault_word (Listed Again) = codes "again"

-- the message: a line with the name of the store's snapshot and the word for the fault
abbrev pub store_message : (name : List ℕ) → StoreFault → List ℕ
store_message name fault = codes "dmremap: store " ++ name ++ codes ": " ++ fault_word fault ++ codes "\n"
