-- 1 to 127 bytes that may all occur in a device name are one.
use Rattle.dm_table.proofs.Prelude.{take, inl, inr, arith, prefix_len, length-prefix_len, is_device_byte}
use Rattle.dm_table.proofs.words.ByteLemmas.{device_name_front, device_name_length}
use Rattle.dm_table.proofs.words.device_name.leading_name.Goals as goal

pub returns-then-len-le127-clause-name : goal.returns-then-len-le127-clause-name
returns-then-len-le127-clause-name c = device_name_front c.args.text.now c.leading_bytes-len.result c.leading_bytes-len.ensures c.if-len-ge1.true c.if-len-le127.true

pub returns-else-len-ge1-clause-other : goal.returns-else-len-ge1-clause-other
returns-else-len-ge1-clause-other c =
    let long = length-prefix_len is_device_byte c.args.text.now in
    let len = c.leading_bytes-len.ensures in
    device_name_length (take (prefix_len is_device_byte c.args.text.now) c.args.text.now) (elim c.else-len-ge1.either [
      | inl more ↦ inr (omega (arith, more.1))
      | inr none ↦ inl (omega arith)
    ])
