use Rattle.lvm_text.proofs.Prelude.{drop, views, head_line, deep_lines}
use Rattle.lvm_text.proofs.check.deep_line.Given as goal
use Rattle.std.specs.Prelude.{◌≡◌, ◌≤◌}

abbrev pub invariant-loop-at_line : goal.invariant-loop-at_line
invariant-loop-at_line l = record {
  same : head_line (deep_lines l.level (views (drop l.at_line-index l.tokens))) ≡ head_line (deep_lines 0 (views l.tokens));
  shallow : l.level ≤ l.at_line-index;
}
