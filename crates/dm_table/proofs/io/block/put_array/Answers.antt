use Rattle.dm_table.proofs.Prelude.{refl, drop, take, length, rules, arith}
use Rattle.dm_table.proofs.io.BlockLemmas.{next_part, array_text}
use Rattle.dm_table.proofs.io.block.put_array.Goals as goal
use Rattle.std.specs.Prelude.{◌≡◌, ◌+◌, ◌-◌}

pub sixteens-preserved : goal.sixteens-preserved
sixteens-preserved g c =
    let front = take c.args.at c.args.block.now in
    let bytes = c.as_slice-bytes.result.now in
    let first = next_part (c.args.at + c.sixteens.done) c.put_known-middle.result c.sixteens.done (c.sixteens.done + 8) c.put_known-middle.new.block c.sixteens.block front c.as_array.result.now bytes
    (omega arith) c.sixteens.invariant.put c.put_known-middle.ensures.holds c.as_array.ensures in
    let second = next_part c.put_known-middle.result c.put_known-end.result (c.sixteens.done + 8) (c.sixteens.done + 16) c.put_known-end.new.block c.put_known-middle.new.block front c.as_array-in-sixteens.result.now bytes
    (omega arith) first c.put_known-end.ensures.holds c.as_array-in-sixteens.ensures in
    let eight : length c.as_array.result.now ≡ 8 = search (rules, c.as_array.ensures, c.told-array, c.as_slice-bytes.ensures, c.sixteens-test.true) in
    let others : length c.as_array-in-sixteens.result.now ≡ 8 = search (rules, c.as_array-in-sixteens.ensures, c.told-array, c.as_slice-bytes.ensures, c.sixteens-test.true) in
    let ends : c.put_known-end.result ≡ c.args.at + (c.sixteens.done + 16) = omega (arith, c.put_known-middle.ensures.ends, c.put_known-end.ensures.ends, eight, others) in
    record {
      within = omega (arith, c.sixteens-test.true);
      put = rw ends at second;
    }

pub returns-clause-put : goal.returns-clause-put
returns-clause-put g c =
    let front = take c.args.at c.args.block.now in
    let bytes = c.as_slice-bytes.result.now in
    let whole = next_part (c.args.at + c.sixteens.done) c.put_any-end.result c.sixteens.done g.row.LEN c.put_any-end.new.block c.sixteens.block front (take (g.row.LEN - c.sixteens.done) (drop c.sixteens.done bytes)) bytes
    c.sixteens.invariant.within c.sixteens.invariant.put c.put_any-end.ensures.holds refl in
    let before : length front ≡ c.args.at = search (rules, c.requires.within) in
    let rest : length (take (g.row.LEN - c.sixteens.done) (drop c.sixteens.done bytes)) ≡ g.row.LEN - c.sixteens.done = search (rules, c.told-array, c.as_slice-bytes.ensures) in
    let ends : c.put_any-end.result ≡ c.args.at + g.row.LEN = omega (arith, rest, c.put_any-end.ensures.ends, c.sixteens.invariant.within) in
    record {
      ends = search (rules, c.requires.text);
      holds = rw c.as_slice-bytes.ensures at (array_text c.args.at c.put_any-end.result g.row.LEN c.args.len c.put_any-end.new.block front bytes before ends c.requires.text whole);
    }
