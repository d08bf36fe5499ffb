-- How a node of a trie is packed into 32 bits.
use Rattle.dm_map.specs.Base.{ℕ, nat_lt, Node, Empty, Number, Fork}
use Rattle.std.specs.Prelude.{◌-◌, ◌/◌, ◌%◌, ◌^◌, ◌==◌, if◌then◌else◌}

-- the node that a 32-bit code encodes: 0 is an empty node, n + 1 is the number n, and a code from 2^31 on is a fork, whose bit is in the upper 6 of the other 31 bits
abbrev pub node_of : (code : ℕ) → Node
node_of code =
    if nat_lt code (2 ^ 31) then (if code == 0 then Empty else Number (code - 1))
    else Fork ((code - 2 ^ 31) / 2 ^ 25) ((code - 2 ^ 31) % 2 ^ 25)
