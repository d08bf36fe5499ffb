use Rattle.dm_table.proofs.Prelude.{ℕ, true, eqb, List, get_or, length, take, drop, refl, sym, arith, length-drop, length-take-le, number_from_digits, take-add, agree_below_at, eqb-true, number_after_append, take-take}
use Rattle.dm_table.specs.declared.words.front_digits.TheConstants.{POWERS}
use Rattle.dm_table.proofs.words.LaneDigits.{each_part, number_after}
use Rattle.dm_table.proofs.words.front_digits.number_ahead.Goals as goal
use Rattle.std.specs.Prelude.{◌≡◌, ◌+◌, ◌-◌, ◌*◌, ◌^◌, ◌<◌, ◌++◌}

powers : (k : ℕ) → k < 8 → get_or POWERS k 0 ≡ 10 ^ k
powers k few = eqb-true _ _ (agree_below_at (λ n. eqb (get_or POWERS n 0) (10 ^ n)) (λ n. true) 8 k refl few)

-- more than eight digits are the first eight and the others
in_two : (len : ℕ) (digits : List ℕ) → 8 < len → take len digits ≡ take 8 digits ++ take (len - 8) (drop 8 digits)
in_two len digits more = let all : 8 + (len - 8) ≡ len = omega arith in rw (← take-add, all)

pub number_in_word-requires-clause-digits : goal.number_in_word-requires-clause-digits
number_in_word-requires-clause-digits c =
    let first : c.as_array-first.result.now ≡ take 8 c.args.digits.now = c.as_array-first.ensures in
    rw (first, take-take c.args.len 8 c.args.digits.now c.if-len-le8.true) c.requires.digits

pub returns-then-len-le8 : goal.returns-then-len-le8
returns-then-len-le8 c =
    cc (take-take c.args.len 8 c.args.digits.now c.if-len-le8.true)

pub number_in_word-requires-2-clause-digits : goal.number_in_word-requires-2-clause-digits
number_in_word-requires-2-clause-digits c =
    let digits = c.args.digits.now in
    let first : c.as_array-first.result.now ≡ take 8 digits = c.as_array-first.ensures in
    let parts = each_part (take 8 digits) (take (c.args.len - 8) (drop 8 digits)) (rw (← in_two c.args.len digits c.if-len-le8.false) c.requires.digits) in
    rw (first, take-take 8 8 digits (omega arith)) parts.0

pub number_in_word-requires-3-clause-digits : goal.number_in_word-requires-3-clause-digits
number_in_word-requires-3-clause-digits c =
    let digits = c.args.digits.now in
    let last : c.as_array-last.result.now ≡ take 8 (drop 8 digits) = c.as_array-last.ensures in
    let parts = each_part (take 8 digits) (take (c.args.len - 8) (drop 8 digits)) (rw (← in_two c.args.len digits c.if-len-le8.false) c.requires.digits) in
    rw (last, take-take (c.args.len - 8) 8 (drop 8 digits) (omega (arith, c.requires.within))) parts.1

pub returns : goal.returns
returns c =
    let digits = c.args.digits.now in
    let more = c.args.len - 8 in
    let front = take 8 digits in
    let rest = take more (drop 8 digits) in
    let long : length rest ≡ more = length-take-le more (drop 8 digits) (omega (arith, length-drop 8 digits, c.told-digits, c.requires.within)) in
    let one : c.number_in_word-2.result ≡ number_from_digits 10 front = cc (take-take 8 8 digits (omega arith)) in
    let other : c.number_in_word-3.result ≡ number_from_digits 10 rest = cc (take-take more 8 (drop 8 digits) (omega (arith, c.requires.within))) in
    let power = powers more (omega (arith, c.requires.within)) in
    let whole : number_from_digits 10 (take c.args.len digits) ≡ number_from_digits 10 front * 10 ^ more + number_from_digits 10 rest =
    cc (in_two c.args.len digits c.if-len-le8.false, number_after_append _ _ _ _, number_after (number_from_digits 10 front) rest) in
    rw (one, other, power) (sym whole)
