use Rattle.lvm_head.proofs.Prelude.{map, range_with_len, area_at}
use Rattle.lvm_head.proofs.label.Label.pairs.Given as goal
use Rattle.std.specs.Prelude.{◌≡◌}

abbrev pub invariant-loop-number : goal.invariant-loop-number
invariant-loop-number l = l.pairs.items ≡ map (area_at l.self) (range_with_len 0 l.number)
