-- A trie that finds the number of a taken chunk: a look-up starts at the chunk's slot, and passes forks that test one bit each.
use Rattle.dm_map.specs.Base.{ℕ, zero, suc, Bool, true, false, List, [], length, nat_eq, nat_le, bit_at, bit_xor, list_any, slice_index_or, Node, Empty, Number, Fork}
use Rattle.std.specs.Int.Bits.{bit_and}
use Rattle.dm_map.specs.declared.state.trie_taken.slots.Slots.{Slots}
use Rattle.dm_map.specs.declared.state.trie_taken.slots.TheConstants.{SPREAD}
use Rattle.std.specs.Prelude.{◌≡◌, ◌<◌, ◌≤◌, ◌+◌, ◌*◌, ◌/◌, ◌%◌, ◌^◌, ◌∷◌, if◌then◌else◌}

-- the node at this index, or an empty node past the end of the list
abbrev pub node_at : List Node → (at : ℕ) → Node
node_at nodes at = slice_index_or nodes at Empty

-- the chunk with this number, or 0 past the end of the list
abbrev pub chunk_at : List ℕ → (number : ℕ) → ℕ
chunk_at chunks number = slice_index_or chunks number 0

-- the index to which a chunk's way leads from a node at this index: a fork has one link for each value of the bit that it tests, and any other node ends the way
abbrev pub next_at : (chunk at : ℕ) → Node → ℕ
next_at chunk at (Fork bit pair) = pair + bit_at chunk bit
next_at chunk at _ = at

-- the index that a chunk's way reaches after this many steps from the start
unfoldable pub way : List Node → (chunk start steps : ℕ) → ℕ
way nodes chunk start zero = start
way nodes chunk start (suc steps) = next_at chunk (way nodes chunk start steps) (node_at nodes (way nodes chunk start steps))

-- the index at which a chunk's way starts: the chunk itself if it is small enough to be a slot, else its low bits mixed with a hash of the higher ones
abbrev pub slot_of : Slots → (chunk : ℕ) → ℕ
slot_of slots chunk = if nat_le chunk slots.mask then chunk else bit_and (bit_xor chunk ((bit_and chunk slots.above * SPREAD) % 2 ^ 64 / 2 ^ 28)) slots.mask

-- the index of the node at which a chunk's way ends, after at most 64 forks
abbrev pub end_of : List Node → Slots → (chunk : ℕ) → ℕ
end_of nodes slots chunk = way nodes chunk (slot_of slots chunk) 64

-- the node is a fork
abbrev pub is_fork : Node → Bool
is_fork (Fork bit pair) = true
is_fork _ = false

-- two chunks agree in each bit of the list
abbrev pub Agree : (bits : List ℕ) → (chunk other : ℕ) → Type 0
Agree bits chunk other = (bit : ℕ) → list_any (nat_eq bit) bits ≡ true → bit_at chunk bit ≡ bit_at other bit

-- for the node at each index, which bits are tested on the way to the node, and an example of a chunk whose way passes the node
pub record Marks : Type 0 where
  pub tested : ℕ → List ℕ
  pub like : ℕ → ℕ

-- the marks on one side of a fork: the fork's bit is tested, too, and the example chunk of this side has this value of the bit
pub record IsSide (marks : Marks) (at bit pair value : ℕ) : Type 0 where
  pub tested : marks.tested (pair + value) ≡ bit ∷ marks.tested at
  pub agree : Agree (marks.tested at) (marks.like (pair + value)) (marks.like at)
  pub parted : bit_at (marks.like (pair + value)) bit ≡ value

-- a fork tests a bit below 64 that no fork above it tests, and both of its links have indices below count
pub record IsFork (marks : Marks) (count at bit pair : ℕ) : Type 0 where
  pub within : pair + 1 < count
  pub small : bit < 64
  pub fresh : list_any (nat_eq bit) (marks.tested at) ≡ false
  pub sides : (value : ℕ) → value < 2 → IsSide marks at bit pair value

-- the number in a node is that of a taken chunk, which agrees with the node's example in all bits that were tested on the way to the node
pub record IsNumber (marks : Marks) (chunks : List ℕ) (at number : ℕ) : Type 0 where
  pub within : number < length chunks
  pub agree : Agree (marks.tested at) (chunk_at chunks number) (marks.like at)

-- the node at this index agrees with the marks, whichever of the three kinds it is
abbrev pub Fits : Marks → (chunks : List ℕ) → (count at : ℕ) → Node → Type 0
Fits marks chunks count at Empty = Unit {0}
Fits marks chunks count at (Number number) = IsNumber marks chunks at number
Fits marks chunks count at (Fork bit pair) = IsFork marks count at bit pair

-- some marks fit every node, so no way tests a bit twice
pub record HasMarks (chunks : List ℕ) (nodes : List Node) (slots : Slots) : Type 0 where
  pub marks : Marks
  pub start : (at : ℕ) → at ≤ slots.mask → marks.tested at ≡ []
  pub fits : (at : ℕ) → at < length nodes → Fits marks chunks (length nodes) at (node_at nodes at)

-- the nodes are a trie of the taken chunks: no way tests a bit twice, and the way of each taken chunk ends at its number
pub record IsTrie (chunks : List ℕ) (nodes : List Node) (slots : Slots) : Type 0 where
  pub marked : HasMarks chunks nodes slots
  pub ends : (number : ℕ) → number < length chunks → node_at nodes (end_of nodes slots (chunk_at chunks number)) ≡ Number number

-- the number of every taken chunk is at the index that equals the chunk, so no two chunks share a slot
abbrev pub AreInOwnSlots : (chunks : List ℕ) (nodes : List Node) → Type 0
AreInOwnSlots chunks nodes = (at number : ℕ) → at < length nodes → node_at nodes at ≡ Number number → (number < length chunks) × (chunk_at chunks number ≡ at)
