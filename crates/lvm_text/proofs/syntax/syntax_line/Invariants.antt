use Rattle.lvm_text.proofs.Prelude.{take, Some, run, views, Key}
use Rattle.lvm_text.proofs.syntax.syntax_line.Given as goal
use Rattle.std.specs.Prelude.{◌≡◌, ◌≤◌}

abbrev pub invariant-loop-at_line : goal.invariant-loop-at_line
invariant-loop-at_line l = record {
  reached : run 0 Key (views (take l.at_line-index l.tokens)) ≡ Some (l.depth, l.stage);
  shallow : l.depth ≤ l.at_line-index;
}
