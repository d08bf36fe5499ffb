-- Every device named has its depth among those given.
use Rattle.dm_stack.proofs.checks.RoundLemmas.{named_within}
use Rattle.dm_stack.proofs.checks.graph.next_depths.Goals as goal

pub depth_over-requires-clause-closed : goal.depth_over-requires-clause-closed
depth_over-requires-clause-closed c = named_within c.args.links.now _ c.loop-named.named-index c.named-item.result c.loop-named-test.true c.named-item.is c.requires.closed c.deref.result.now c.deref.ensures.value
