use Rattle.dm_table.proofs.Prelude.{sym, ◌∙◌, arith, length, take, digits_value_short, length-take-le}
use Rattle.dm_table.proofs.words.NumberLemmas.{next_below, numerals, read_more}
use Rattle.dm_table.proofs.tables.path_list.bytes_in.Goals as goal
use Rattle.std.specs.Prelude.{◌≤◌}

pub overflow_mul-value : goal.overflow_mul-value
overflow_mul-value c =
    let digit = sym c.is_ascii_digit.ensures.value ∙ c.if-not-is_ascii_digit.false in
    let next = next_below c.args.digits.now c.loop-len.len c.loop-len.invariant.digits digit c.loop-len-test.true (omega arith) in
    omega (arith, next, c.loop-len.invariant.value)

pub overflow_add-value : goal.overflow_add-value
overflow_add-value c =
    let digit = sym c.is_ascii_digit.ensures.value ∙ c.if-not-is_ascii_digit.false in
    let next = next_below c.args.digits.now c.loop-len.len c.loop-len.invariant.digits digit c.loop-len-test.true (omega arith) in
    omega (arith, next, c.loop-len.invariant.value, c.from.ensures)

pub loop-len-preserved : goal.loop-len-preserved
loop-len-preserved c =
    let digit = sym c.is_ascii_digit.ensures.value ∙ c.if-not-is_ascii_digit.false in
    rw c.from.ensures (read_more c.args.digits.now c.loop-len.len c.loop-len.value c.loop-len.invariant digit c.loop-len-test.true (omega arith))

-- the value of at most 18 digits
pub returns-clause-near : goal.returns-clause-near
returns-clause-near c =
    let read = c.loop-len.invariant in
    let few : length (take c.loop-len.len c.args.digits.now) ≤ 18 = omega (arith, length-take-le c.loop-len.len c.args.digits.now read.within) in
    omega (arith, read.value, digits_value_short numerals (take c.loop-len.len c.args.digits.now) 18 read.digits few)
