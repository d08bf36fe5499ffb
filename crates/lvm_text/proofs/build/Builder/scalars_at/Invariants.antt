use Rattle.lvm_text.proofs.Prelude.{length, drop, views, scalar_views}
use Rattle.lvm_text.proofs.Building.{ListSoFar}
use Rattle.lvm_text.proofs.build.Builder.scalars_at.Given as goal
use Rattle.std.specs.Prelude.{◌≤◌, ◌-◌}

abbrev pub invariant-loop-scalar : goal.invariant-loop-scalar
invariant-loop-scalar l = record {
  so_far : ListSoFar (views (drop l.start l.self.tokens.now)) (scalar_views l.scalars.items) (views (drop l.at l.self.tokens.now));
  begun : l.start ≤ l.at;
  within : l.at ≤ length l.self.tokens.now;
}

abbrev pub decreases-loop-scalar : goal.decreases-loop-scalar
decreases-loop-scalar l = length l.self.tokens.now - l.at
