-- the stores so far are within the limit, and the lines left have the first fault of all lines
use Rattle.dm_stack.proofs.Prelude.{None, drop, first_or, all_lines, crowded}
use Rattle.dm_stack.proofs.checks.CrowdLemmas.{crowded_from}
use Rattle.dm_stack.proofs.checks.store_limit.check_places.Given as goal
use Rattle.std.specs.Prelude.{◌≡◌, ◌+◌, ◌≤◌, ◌++◌}

abbrev pub invariant-loop-index : goal.invariant-loop-index
invariant-loop-index l = record {
  few : l.used ≤ 4194304;
  left : first_or (crowded_from l.stack l.used (drop l.index l.line-items ++ all_lines (drop (l.id + 1) l.stack.devices))) None ≡ first_or (crowded l.stack) None;
}

abbrev pub invariant-loop-id : goal.invariant-loop-id
invariant-loop-id l = record {
  few : l.used ≤ 4194304;
  left : first_or (crowded_from l.stack l.used (all_lines (drop l.id l.stack.devices))) None ≡ first_or (crowded l.stack) None;
}
