use Rattle.lvm_text.proofs.Prelude.{drop, position_of}
use Rattle.lvm_text.proofs.index.position_among.Given as goal
use Rattle.std.specs.Prelude.{◌≡◌}

abbrev pub invariant-loop-at : goal.invariant-loop-at
invariant-loop-at l = position_of l.key 0 l.entries ≡ position_of l.key l.at (drop l.at l.entries)
