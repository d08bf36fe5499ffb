-- the flag so far and the test of the bytes left give the test of all bytes
use Rattle.dm_table.proofs.Prelude.{drop, is_printable}
use Rattle.dm_table.proofs.load.text_checks.is_printable.Given as goal
use Rattle.std.specs.Prelude.{◌≡◌, ◌&&◌}

abbrev pub invariant-loop-byte : goal.invariant-loop-byte
invariant-loop-byte l = (l.printed && is_printable (drop l.byte-index l.text)) ≡ is_printable l.text
