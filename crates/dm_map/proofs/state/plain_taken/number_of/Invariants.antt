use Rattle.dm_map.proofs.Prelude.{length, None, take, number_in}
use Rattle.dm_map.proofs.state.plain_taken.number_of.Given as goal
use Rattle.std.specs.Prelude.{◌-◌, ◌≡◌, ◌≤◌}

abbrev pub invariant-loop-number : goal.invariant-loop-number
invariant-loop-number l = record {
  passed : number_in l.chunk (take l.number l.chunks) ≡ None;
  within : l.number ≤ length l.chunks;
}

abbrev pub decreases-loop-number : goal.decreases-loop-number
decreases-loop-number l = length l.chunks - l.number
