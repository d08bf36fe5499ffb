-- the depths so far, followed by those of the devices left, are the depths of all devices
use Rattle.dm_stack.proofs.Prelude.{map, drop, depth_over, links_in}
use Rattle.dm_stack.proofs.checks.graph.next_depths.Given as goal
use Rattle.std.specs.Prelude.{◌≡◌, ◌++◌}

abbrev pub invariant-loop-named : goal.invariant-loop-named
invariant-loop-named l = l.next.items ++ map (depth_over l.depths) (links_in (drop l.named-index l.links)) ≡ map (depth_over l.depths) (links_in l.links)
