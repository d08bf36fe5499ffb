-- the state of the search so far; each turn looks at one waiting device, and each device waits at most once
use Rattle.dm_stack.proofs.Prelude.{length, links_in, unvisited}
use Rattle.dm_stack.proofs.checks.SearchLemmas.{Searched}
use Rattle.dm_stack.proofs.checks.graph.reaches_itself.Given as goal
use Rattle.std.specs.Prelude.{◌+◌}

abbrev pub invariant-loop-next : goal.invariant-loop-next
invariant-loop-next l = Searched (links_in l.links) l.device l.visited.items l.waiting.items

abbrev pub decreases-loop-next : goal.decreases-loop-next
decreases-loop-next l = unvisited l.visited.items + length l.waiting.items
