-- no two claims with numbers below the lower bound clash, and some below the upper bound do
use Rattle.dm_stack.proofs.Prelude.{false, length, true, is_tidy_to}
use Rattle.dm_stack.proofs.claims.tidy.tidy_len.Given as goal
use Rattle.std.specs.Prelude.{◌≡◌, ◌<◌, ◌≤◌, ◌-◌}

abbrev pub invariant-loop-tidy : goal.invariant-loop-tidy
invariant-loop-tidy l = record {
  apart : l.tidy < l.clashing;
  within : l.clashing ≤ length l.order;
  tidy : is_tidy_to l.tidy l.order ≡ true;
  clash : is_tidy_to l.clashing l.order ≡ false;
}

abbrev pub decreases-loop-tidy : goal.decreases-loop-tidy
decreases-loop-tidy l = l.clashing - l.tidy
