-- the sectors before `part` are settled
use Rattle.dm_map.proofs.Prelude.{ℕ, true, is_settled, taken_at}
use Rattle.dm_map.proofs.walk.serving.settled_in.Given as goal
use Rattle.std.specs.Prelude.{◌≡◌, ◌+◌, ◌-◌, ◌/◌, ◌<◌, ◌≤◌}

abbrev pub invariant-loop-part : goal.invariant-loop-part
invariant-loop-part g l = record {
  some : 1 ≤ l.part;
  most : l.part ≤ l.most;
  settled : (i : ℕ) → i < l.part → is_settled (taken_at l.walker.state l.one.device) ((l.sector + i) / l.one.snapshot.chunk) ≡ true;
}

abbrev pub decreases-loop-part : goal.decreases-loop-part
decreases-loop-part g l = l.most - l.part
