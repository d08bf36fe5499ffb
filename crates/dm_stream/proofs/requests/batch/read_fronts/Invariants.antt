use Rattle.dm_stream.proofs.Prelude.{Some, length, drop, All, AreFirst, front_requests, device_of, MOST_REQUESTS}
use Rattle.arrayvec.specs.ArrayVec.{array_vec_len}
use Rattle.dm_stream.specs.declared.requests.batch.TheConstants.{MOST_FRONTS}
use Rattle.dm_stream.proofs.requests.batch.read_fronts.Given as goal
use Rattle.std.specs.Prelude.{◌≡◌, ◌+◌, ◌-◌, ◌≤◌}

abbrev pub invariant-fronts : goal.invariant-fronts
invariant-fronts l = record {
  first : AreFirst (l.done + 1) l.held (front_requests l.fronts.items) (l.done + length l.fronts.items + 1) (drop l.len l.held);
  within : l.len ≤ length l.held;
  few : l.done + length l.fronts.items ≤ MOST_REQUESTS;
  fits : array_vec_len l.fronts ≤ MOST_FRONTS;
  found : All (λ front. device_of l.stack front.request.device.now ≡ Some front.device) l.fronts.items;
}

abbrev pub decreases-fronts : goal.decreases-fronts
decreases-fronts l = MOST_FRONTS - array_vec_len l.fronts
