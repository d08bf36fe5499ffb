-- `free` marks the devices on which none of the claims so far is
use Rattle.dm_stack.proofs.Prelude.{ℕ, false, length, not, slice_index_or, take, list_any, is_device}
use Rattle.dm_stack.proofs.claims.claim.unclaimed.Given as goal
use Rattle.std.specs.Prelude.{◌≡◌, ◌<◌}

abbrev pub invariant-loop-claim : goal.invariant-loop-claim
invariant-loop-claim l = record {
  count : length l.free.items ≡ l.devices;
  each : (device : ℕ) → device < l.devices → slice_index_or l.free.items device false ≡ not (list_any (λ claim. is_device device claim.to) (take l.claim-index l.claims));
}
