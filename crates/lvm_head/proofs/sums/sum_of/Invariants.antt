use Rattle.lvm_head.proofs.Prelude.{take, fold, sum_byte}
use Rattle.lvm_head.proofs.sums.sum_of.Given as goal
use Rattle.std.specs.Prelude.{◌≡◌}

abbrev pub invariant-loop-byte : goal.invariant-loop-byte
invariant-loop-byte l = l.sum ≡ fold sum_byte 0xF597A6CF (take l.byte-index l.bytes)
