use Rattle.lvm_text.proofs.Prelude.{drop, token_view, views, head_line, number_lines}
use Rattle.lvm_text.specs.Token as spec
use Rattle.lvm_text.proofs.check.number_line.Given as goal
use Rattle.std.specs.Prelude.{◌≡◌}

abbrev pub invariant-loop-at_line : goal.invariant-loop-at_line
invariant-loop-at_line l = head_line (number_lines (token_view l.before) (views (drop l.at_line-index l.tokens))) ≡ head_line (number_lines spec.Close (views l.tokens))
