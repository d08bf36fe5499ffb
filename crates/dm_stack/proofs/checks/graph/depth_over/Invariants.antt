-- the greatest depth so far and the greatest of those left give that of all, and no depth is above its bound
use Rattle.dm_stack.proofs.Prelude.{max, map, drop, get_or, greatest}
use Rattle.dm_stack.proofs.checks.graph.depth_over.Given as goal
use Rattle.std.specs.Prelude.{◌≡◌, ◌≤◌}

abbrev pub invariant-loop-device : goal.invariant-loop-device
invariant-loop-device l =
    record {
      all : max l.greatest (greatest (map (λ e. get_or l.depths e 0) (drop l.device-index l.named))) ≡ greatest (map (λ e. get_or l.depths e 0) l.named);
      bounded : l.greatest ≤ 33;
    }
