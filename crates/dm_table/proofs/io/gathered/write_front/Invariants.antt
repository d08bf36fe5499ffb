use Rattle.dm_table.proofs.Prelude.{take}
use Rattle.dm_table.proofs.io.gathered.write_front.Given as goal
use Rattle.std.specs.Prelude.{◌≡◌, ◌≤◌, ◌-◌, ◌++◌}

-- the bytes before `sent` have been written, and no write failed
abbrev pub invariant-rest : goal.invariant-rest
invariant-rest g l = record {
  within : l.sent ≤ l.len;
  written : (g.W.Output.past l.output).written ≡ (g.W.Output.past l.fn.output).written ++ take l.sent l.block;
  waiting : (g.W.Output.past l.output).waiting ≡ (g.W.Output.past l.fn.output).waiting ++ take l.sent l.block;
  faults : (g.W.Output.past l.output).faults ≡ (g.W.Output.past l.fn.output).faults;
}

abbrev pub decreases-rest : goal.decreases-rest
decreases-rest g l = l.len - l.sent
