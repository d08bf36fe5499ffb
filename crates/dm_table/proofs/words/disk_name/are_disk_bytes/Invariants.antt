-- the flag so far and the test of the bytes left give the test of all bytes
use Rattle.dm_table.proofs.Prelude.{drop, list_all, is_disk_byte}
use Rattle.dm_table.proofs.words.disk_name.are_disk_bytes.Given as goal
use Rattle.std.specs.Prelude.{◌≡◌, ◌&&◌}

abbrev pub invariant-loop-byte : goal.invariant-loop-byte
invariant-loop-byte l = (l.allowed && list_all is_disk_byte (drop l.byte-index l.bytes)) ≡ list_all is_disk_byte l.bytes
