use Rattle.dm_table.proofs.Prelude.{rules, length, decimal, arith, length-decimal-le}
use Rattle.dm_table.proofs.io.BlockLemmas.{digits_front}
use Rattle.dm_table.proofs.io.block.put_digits.Goals as goal
use Rattle.std.specs.Prelude.{◌≤◌}

pub overflow_add-end : goal.overflow_add-end
overflow_add-end c =
    let few : length (decimal c.args.number) ≤ 20 = search (rules, length-decimal-le 20) in
    omega (arith, few)

pub write_digits-start-requires : goal.write_digits-start-requires
write_digits-start-requires c =
    let few : length (decimal c.args.number) ≤ 20 = search (rules, length-decimal-le 20) in
    (omega (arith, few), omega (arith, few))

pub returns-clause-few : goal.returns-clause-few
returns-clause-few c =
    let few : length (decimal c.args.number) ≤ 20 = search (rules, length-decimal-le 20) in
    omega (arith, few)

pub returns-clause-put : goal.returns-clause-put
returns-clause-put c =
    let put = c.write_digits-start in
    record {
      ends = omega arith;
      holds = digits_front c.args.at put.result _ put.new.buf c.args.block.now _ _ (omega arith) (omega arith) put.ensures.before put.ensures.written;
    }
