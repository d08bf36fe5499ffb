-- `at` is where the chunk's way is after `tested` steps from its slot
use Rattle.dm_map.proofs.Prelude.{length, slot_of, way}
use Rattle.dm_map.proofs.state.trie_taken.TrieTaken.end_of.Given as goal
use Rattle.std.specs.Prelude.{◌≡◌, ◌-◌, ◌<◌, ◌≤◌}

abbrev pub invariant-loop-bit : goal.invariant-loop-bit
invariant-loop-bit l = record {
  there : l.at ≡ way l.self.links.items l.chunk (slot_of l.self.slots l.chunk) l.tested;
  within : l.at < length l.self.links.items;
  few : l.tested ≤ 64;
}

abbrev pub decreases-loop-bit : goal.decreases-loop-bit
decreases-loop-bit l = 64 - l.tested
