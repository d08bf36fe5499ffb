use Rattle.dm_map.proofs.Prelude.{◌∙◌, [], ap, length, replicate, arith, IsDistinct, merely, length-replicate, pow_pos, Empty}
use Rattle.dm_map.proofs.state.TrieLemmas.{no_trie, none_own}
use Rattle.dm_map.proofs.state.trie_taken.TrieTakenTaken.for_chunks.Goals as goal
use Rattle.std.specs.Prelude.{◌≡◌, ◌<◌}

pub invariant_of-result : goal.invariant_of-result
unfolding IsDistinct
invariant_of-result c =
    let slots = c.next_power_of_two-slots.result in
    let none : c.from_vec.result.items ≡ [] = c.from_vec.ensures.items ∙ c.in_ok-with_capacity.ensures.items in
    let empty : c.from_vec-2.result.items ≡ replicate slots Empty = c.from_vec-2.ensures.items ∙ c.in_ok-slots_with_room.ensures.items in
    let count = ap length empty ∙ length-replicate slots Empty in
    let some : 0 < slots = let power = c.next_power_of_two-slots.ensures.power in omega (arith, power.1, pow_pos power.0) in
    record {
      reserved = omega (arith, c.from_vec.ensures.room, c.in_ok-with_capacity.ensures.capacity);
      room = omega (arith, c.with_count.ensures, c.from_vec-2.ensures.room, c.in_ok-slots_with_room.ensures.room);
      small = omega (arith, c.with_count.ensures, c.next_power_of_two-slots.ensures.upper_bound);
      table = omega (arith, some, count, c.with_count.ensures);
      forks = omega (arith, c.with_count.ensures, count);
      fits = rw none (omega arith);
      once = rw none tt;
      leads = rw (none, empty) (merely (no_trie slots c.with_count.result));
      own = rw (none, empty) (merely (λ on. none_own slots));
    }
