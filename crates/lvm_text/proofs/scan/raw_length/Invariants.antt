use Rattle.lvm_text.proofs.Prelude.{drop, length, raw_length}
use Rattle.lvm_text.proofs.Searches.{plus}
use Rattle.lvm_text.proofs.scan.raw_length.Given as goal
use Rattle.std.specs.Prelude.{◌≡◌, ◌-◌, ◌≤◌}

abbrev pub invariant-loop-plain : goal.invariant-loop-plain
invariant-loop-plain l = record { in_range : l.at ≤ length l.bytes; same : plus l.at (raw_length (drop l.at l.bytes)) ≡ raw_length l.bytes }

abbrev pub decreases-loop-plain : goal.decreases-loop-plain
decreases-loop-plain l = length l.bytes - l.at
