use Rattle.dm_table.proofs.Prelude.{length, take, ap, ◌∙◌, append_assoc, arith}
use Rattle.dm_table.proofs.words.ByteLemmas.{device_name_len}
use Rattle.dm_table.proofs.tables.line_head.put_name.Goals as goal
use Rattle.std.specs.Prelude.{◌≤◌}

pub returns-in-Device : goal.returns-in-Device
returns-in-Device c =
    let before = take c.args.at c.args.block.now in
    let bytes = c.as_bytes.result.now in
    let known = c.as_bytes.ensures.value ∙ c.as_str.ensures.text in
    let short : length bytes ≤ 127 = rw known (device_name_len _ c.as_str.ensures.name) in
    rw c.in-Device.is (record {
      put = record {
        ends = omega (arith, ap length known, c.put_bytes-at.ensures.ends, c.put_bytes.ensures.ends);
        holds = cc (append_assoc _ _ _);
      };
      few = omega (arith, short, c.put_bytes-at.ensures.ends, c.put_bytes.ensures.ends);
    })
