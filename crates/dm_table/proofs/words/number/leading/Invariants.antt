-- the bytes so far are digits, and the count for the whole text is that of the text left plus `len`
use Rattle.dm_table.proofs.Prelude.{drop, length, is_ascii_digit, prefix_len, IsReadTo}
use Rattle.dm_table.proofs.words.number.leading.Given as goal
use Rattle.std.specs.Prelude.{◌≡◌, ◌+◌, ◌-◌}

abbrev pub invariant-loop-len : goal.invariant-loop-len
invariant-loop-len l = record {
  read : IsReadTo l.text l.len l.value;
  left : l.len + prefix_len is_ascii_digit (drop l.len l.text) ≡ prefix_len is_ascii_digit l.text;
}

abbrev pub decreases-loop-len : goal.decreases-loop-len
decreases-loop-len l = length l.text - l.len
