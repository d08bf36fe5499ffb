use Rattle.lvm_text.proofs.Prelude.{drop, leading_word_bytes}
use Rattle.lvm_text.proofs.scan.leading_word_bytes.Given as goal
use Rattle.std.specs.Prelude.{◌≡◌, ◌+◌}

abbrev pub invariant-loop-i : goal.invariant-loop-i
invariant-loop-i l = l.i + leading_word_bytes (drop l.i l.bytes) ≡ leading_word_bytes l.bytes
