-- the claims so far are those of the devices so far
use Rattle.dm_stack.proofs.Prelude.{flat_map, range_with_len, device_claims}
use Rattle.dm_stack.proofs.claims.claim.claims.Given as goal
use Rattle.std.specs.Prelude.{◌≡◌}

abbrev pub invariant-loop-id : goal.invariant-loop-id
invariant-loop-id l = l.claims.items ≡ flat_map (device_claims l.stack) (range_with_len 0 l.id)
