use Rattle.dm_map.proofs.state.Numbers.{distinct_more}
use Rattle.dm_map.proofs.state.plain_taken.PlainTakenTaken.take.Goals as goal

pub invariant_of-self-clause-once : goal.invariant_of-self-clause-once
invariant_of-self-clause-once c = rw c.push.ensures.items (distinct_more c.args.chunk c.args.self.now.chunks.items c.args.self.now.once c.requires.fresh)
