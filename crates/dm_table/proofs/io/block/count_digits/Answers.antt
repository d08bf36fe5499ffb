-- A number from one power of ten up to below the next has one digit more than the exponent.
use Rattle.dm_table.proofs.Prelude.{ℕ, zero, suc, length, decimal, sym, arith, pow-succ'}
use Rattle.itoa.proofs.Decimal.{length_one, length_step_wide}
use Rattle.dm_table.proofs.io.block.count_digits.Goals as goal
use Rattle.std.specs.Prelude.{◌≡◌, ◌+◌, ◌*◌, ◌/◌, ◌^◌, ◌<◌, ◌≤◌}

some_power : (power : ℕ) → 1 ≤ 10 ^ power
some_power zero = omega arith
some_power (suc power) = let more = pow-succ' 10 power in omega (arith, more, some_power power)

length_by_power : (power number : ℕ) → 10 ^ power ≤ number → number < 10 * 10 ^ power → number < 2 ^ 64 → length (decimal number) ≡ power + 1
length_by_power zero number from below fits = length_one number (omega (arith, below))
length_by_power (suc power) number from below fits =
    let more = pow-succ' 10 power in
    let step = length_step_wide number (omega (arith, from, more, some_power power)) (omega (arith, fits)) in
    let rest = length_by_power power (number / 10) (omega (arith, from, more)) (omega (arith, below, more)) (omega (arith, fits)) in
    omega (arith, step, rest)

pub returns-in-Some : goal.returns-in-Some
returns-in-Some c = sym (length_by_power c.in-Some.power c.args.number c.in-Some.ensures.power_le c.in-Some.ensures.next_power_gt (omega arith))

pub returns-in-None : goal.returns-in-None
returns-in-None c = cc (length_one 0 (omega arith), c.in-None.ensures.none)
