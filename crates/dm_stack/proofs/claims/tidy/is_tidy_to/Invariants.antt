-- no two of the claims so far clash, and `reaches` is how far they reach
use Rattle.dm_stack.proofs.Prelude.{[], drop, length, take, Lower, has_pair, reach_at, reach_of, rivals}
use Rattle.dm_stack.proofs.claims.tidy.is_tidy_to.Given as goal
use Rattle.std.specs.Prelude.{◌≡◌}

abbrev pub invariant-loop-next : goal.invariant-loop-next
invariant-loop-next l = record {
  reaches : (lower : Lower) → reach_at l.reaches lower ≡ reach_of l.count lower (take l.next-index l.order);
  left : has_pair (rivals l.count) (take l.next-index l.order) (drop l.next-index l.order) ≡ has_pair (rivals l.count) [] l.order;
  devices : length l.reaches.devices.items ≡ l.devices;
  disks : length l.reaches.disks.items ≡ l.disks;
}
