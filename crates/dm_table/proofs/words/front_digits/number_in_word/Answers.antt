use Rattle.dm_table.proofs.Prelude.{length, take, arith, length-take-le, number_from_digits, number_lt}
use Rattle.dm_table.proofs.words.LaneDigits.{each_below}
use Rattle.dm_table.proofs.words.WordLemmas.{front_value}
use Rattle.dm_table.proofs.words.front_digits.number_in_word.Goals as goal
use Rattle.std.specs.Prelude.{◌≡◌, ◌^◌, ◌<◌}

pub returns-clause-number : goal.returns-clause-number
returns-clause-number c =
    cc (front_value c.args.len c.args.digits.now c.told-digits c.fits-digits c.requires.some c.requires.within c.requires.digits)

pub returns-clause-below : goal.returns-clause-below
returns-clause-below c =
    let digits = take c.args.len c.args.digits.now in
    let long : length digits ≡ c.args.len = length-take-le c.args.len c.args.digits.now (omega (arith, c.told-digits)) in
    let below : number_from_digits 10 digits < 10 ^ c.args.len = rw long at (number_lt 10 digits (each_below digits c.requires.digits)) in
    rw returns-clause-number below
