use Rattle.lvm_volume.proofs.Prelude.{take, string_bytes, doubled}
use Rattle.lvm_volume.proofs.names.push_doubled.Given as goal
use Rattle.std.specs.Prelude.{◌≡◌, ◌++◌}

abbrev pub invariant-loop-byte : goal.invariant-loop-byte
invariant-loop-byte l = string_bytes l.text ≡ string_bytes l.initial.text ++ doubled (take l.byte-index l.byte-items)
