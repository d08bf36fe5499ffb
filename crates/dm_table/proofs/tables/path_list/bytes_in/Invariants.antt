-- what was read of the digits is their value so far
use Rattle.dm_table.proofs.Prelude.{length, IsReadTo}
use Rattle.dm_table.proofs.tables.path_list.bytes_in.Given as goal
use Rattle.std.specs.Prelude.{◌-◌}

abbrev pub invariant-loop-len : goal.invariant-loop-len
invariant-loop-len l = IsReadTo l.digits l.len l.value

abbrev pub decreases-loop-len : goal.decreases-loop-len
decreases-loop-len l = length l.digits - l.len
