use Rattle.lvm_text.proofs.Prelude.{drop, newlines}
use Rattle.lvm_text.proofs.reading.end_line.Given as goal
use Rattle.std.specs.Prelude.{◌≡◌, ◌≤◌, ◌+◌}

abbrev pub invariant-loop-byte : goal.invariant-loop-byte
invariant-loop-byte l = record {
  same : l.line + newlines (drop l.byte-index l.bytes) ≡ 1 + newlines l.bytes;
  most : l.line ≤ 1 + l.byte-index;
}
