use Rattle.dm_table.proofs.Prelude.{take}
use Rattle.dm_table.proofs.io.block.put_array.Given as goal
use Rattle.std.specs.Prelude.{◌≡◌, ◌+◌, ◌-◌, ◌≤◌, ◌++◌}

-- the bytes copied so far are the front of the array, at offset `at` of the block
abbrev pub invariant-sixteens : goal.invariant-sixteens
invariant-sixteens g l = record {
  within : l.done ≤ g.row.LEN;
  put : take (l.at + l.done) l.block ≡ take l.at l.fn.block ++ take l.done l.bytes;
}

abbrev pub decreases-sixteens : goal.decreases-sixteens
decreases-sixteens g l = g.row.LEN - l.done
