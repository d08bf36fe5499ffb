use Rattle.dm_map.proofs.Prelude.{replicate, vec_capacity, Empty}
use Rattle.dm_map.proofs.state.trie_taken.slots_with_room.Given as goal
use Rattle.std.specs.Prelude.{◌≡◌, ◌≤◌}

abbrev pub invariant-loop-slot : goal.invariant-loop-slot
invariant-loop-slot l = record {
  items : l.links.items ≡ replicate l._slot Empty;
  room : l.room ≤ vec_capacity l.links;
}
