-- the links so far are those of the devices so far
use Rattle.dm_stack.proofs.Prelude.{map, range_with_len, links_in, store_links_at}
use Rattle.dm_stack.proofs.checks.stores.store_links.Given as goal
use Rattle.std.specs.Prelude.{◌≡◌}

abbrev pub invariant-loop-id : goal.invariant-loop-id
invariant-loop-id l = links_in l.marked.items ≡ map (store_links_at l.stack) (range_with_len 0 l.id)
