-- the bytes so far may all occur in a device name, and the count for the whole text is that of the text left plus `len`
use Rattle.dm_table.proofs.Prelude.{length, drop, prefix_len, is_device_byte}
use Rattle.dm_table.proofs.words.device_name.leading_bytes.Given as goal
use Rattle.std.specs.Prelude.{◌≡◌, ◌≤◌, ◌+◌, ◌-◌}

abbrev pub invariant-loop-len : goal.invariant-loop-len
invariant-loop-len l = (l.len ≤ length l.text) × (l.len + prefix_len is_device_byte (drop l.len l.text) ≡ prefix_len is_device_byte l.text)

abbrev pub decreases-loop-len : goal.decreases-loop-len
decreases-loop-len l = length l.text - l.len
