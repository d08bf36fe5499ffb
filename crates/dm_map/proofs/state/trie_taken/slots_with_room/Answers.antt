use Rattle.dm_map.proofs.Prelude.{ap, length, arith, length-replicate, Empty}
use Rattle.dm_map.proofs.state.trie_taken.slots_with_room.Goals as goal

pub push_reserved-requires : goal.push_reserved-requires
push_reserved-requires c =
    let l = c.loop-slot in
    omega (arith, ap length l.invariant.items, length-replicate l._slot Empty, l.invariant.room, c.requires, l.links.ok)
