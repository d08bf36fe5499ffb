use Rattle.lvm_text.proofs.Prelude.{take, digits_value}
use Rattle.lvm_text.proofs.number.value_of.Given as goal
use Rattle.std.specs.Prelude.{◌≡◌}

abbrev pub invariant-loop-byte : goal.invariant-loop-byte
invariant-loop-byte l = l.value ≡ digits_value 10 (take l.byte-index l.word)
