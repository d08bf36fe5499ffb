-- What consecutive units change in the values of disks, and what they answer.
use Rattle.dm_replay.proofs.Prelude.{ℕ, zero, suc, [], refl, sym, ◌∙◌, arith, sector_past, stored, ReadOf, WriteOf, Zeros, Drops, Fails, CopyOf, FillOf, units_in, Value, CanCopyAtOnce, HoldOn, ranged, AreSame, answers_in, Gives, Failed, Values, next_value, played, played_answers}
use Rattle.dm_map.specs.own.Contents.{played as contents_played}
use Rattle.dm_replay.specs.declared.value.Value.TheVariants as value
use Rattle.dm_replay.proofs.RangeLemmas.{hold_here, hold_later, ranged_none, ranged_step, stored_other}
use Rattle.std.specs.Prelude.{◌≡◌, ◌+◌, ◌<◌, ◌≤◌}

-- Units that change nothing

pub reads_played : (request sector disk start n : ℕ) (values : Values) → played request sector (units_in (ReadOf disk start) n) values ≡ values
unfolding contents_played
reads_played request sector disk start zero values = refl
reads_played request sector disk start (suc n) values = reads_played request (suc sector) disk (suc start) n values

pub zeros_played : (request sector n : ℕ) (values : Values) → played request sector (units_in Zeros n) values ≡ values
unfolding contents_played
zeros_played request sector zero values = refl
zeros_played request sector (suc n) values = zeros_played request (suc sector) n values

pub drops_played : (request sector n : ℕ) (values : Values) → played request sector (units_in Drops n) values ≡ values
unfolding contents_played
drops_played request sector zero values = refl
drops_played request sector (suc n) values = drops_played request (suc sector) n values

pub fails_played : (request sector n : ℕ) (values : Values) → played request sector (units_in Fails n) values ≡ values
unfolding contents_played
fails_played request sector zero values = refl
fails_played request sector (suc n) values = fails_played request (suc sector) n values

-- What consecutive units answer

pub reads_answer : (request sector disk start n : ℕ) (values : Values) (first : Value) → HoldOn values disk start n first → played_answers request sector (units_in (ReadOf disk start) n) values ≡ answers_in (Gives first) n
unfolding played_answers
reads_answer request sector disk start zero values first hold = refl
reads_answer request sector disk start (suc n) values first hold =
    rw (hold_here values disk start n first hold, reads_answer request (suc sector) disk (suc start) n values (next_value first) (hold_later values disk start n first hold))

pub zeros_answer : (request sector n : ℕ) (values : Values) → played_answers request sector (units_in Zeros n) values ≡ answers_in (Gives value.Zero) n
unfolding played_answers
zeros_answer request sector zero values = refl
zeros_answer request sector (suc n) values = rw (zeros_answer request (suc sector) n values)

pub drops_answer : (request sector n : ℕ) (values : Values) → played_answers request sector (units_in Drops n) values ≡ answers_in (Gives value.Zero) n
unfolding played_answers
drops_answer request sector zero values = refl
drops_answer request sector (suc n) values = rw (drops_answer request (suc sector) n values)

pub fails_answer : (request sector n : ℕ) (values : Values) → played_answers request sector (units_in Fails n) values ≡ answers_in Failed n
unfolding played_answers
fails_answer request sector zero values = refl
fails_answer request sector (suc n) values = rw (fails_answer request (suc sector) n values)

pub writes_answer : (request sector on at n : ℕ) (values : Values) → played_answers request sector (units_in (WriteOf on at) n) values ≡ answers_in (Gives (value.Wrote request sector)) n
unfolding played_answers
writes_answer request sector on at zero values = refl
writes_answer request sector on at (suc n) values =
    rw (writes_answer request (suc sector) on (suc at) n (stored values on at (value.Wrote request sector)))

pub fills_answer : (request sector on at n : ℕ) (values : Values) → played_answers request sector (units_in (FillOf on at) n) values ≡ []
unfolding played_answers
fills_answer request sector on at zero values = refl
fills_answer request sector on at (suc n) values = fills_answer request sector on (suc at) n (stored values on at value.Zero)

pub copies_answer : (request sector disk start to to_start n : ℕ) (values : Values) → played_answers request sector (units_in (CopyOf disk start to to_start) n) values ≡ []
unfolding played_answers
copies_answer request sector disk start to to_start zero values = refl
copies_answer request sector disk start to to_start (suc n) values = copies_answer request sector disk (suc start) to (suc to_start) n (stored values to to_start (values disk start))

-- The next sector to answer after consecutive units

next_later : (sector n : ℕ) → suc sector + n ≡ sector + suc n
next_later sector n = omega arith

next_none : (sector : ℕ) → sector ≡ sector + 0
next_none sector = omega arith

pub reads_past : (disk start n sector : ℕ) → sector_past (units_in (ReadOf disk start) n) sector ≡ sector + n
unfolding sector_past
reads_past disk start zero sector = next_none sector
reads_past disk start (suc n) sector = reads_past disk (suc start) n (suc sector) ∙ next_later sector n

pub writes_past : (on at n sector : ℕ) → sector_past (units_in (WriteOf on at) n) sector ≡ sector + n
unfolding sector_past
writes_past on at zero sector = next_none sector
writes_past on at (suc n) sector = writes_past on (suc at) n (suc sector) ∙ next_later sector n

pub zeros_past : (n sector : ℕ) → sector_past (units_in Zeros n) sector ≡ sector + n
unfolding sector_past
zeros_past zero sector = next_none sector
zeros_past (suc n) sector = zeros_past n (suc sector) ∙ next_later sector n

pub drops_past : (n sector : ℕ) → sector_past (units_in Drops n) sector ≡ sector + n
unfolding sector_past
drops_past zero sector = next_none sector
drops_past (suc n) sector = drops_past n (suc sector) ∙ next_later sector n

pub fails_past : (n sector : ℕ) → sector_past (units_in Fails n) sector ≡ sector + n
unfolding sector_past
fails_past zero sector = next_none sector
fails_past (suc n) sector = fails_past n (suc sector) ∙ next_later sector n

pub fills_past : (on at n sector : ℕ) → sector_past (units_in (FillOf on at) n) sector ≡ sector
unfolding sector_past
fills_past on at zero sector = refl
fills_past on at (suc n) sector = fills_past on (suc at) n sector

pub copies_past : (disk start to to_start n sector : ℕ) → sector_past (units_in (CopyOf disk start to to_start) n) sector ≡ sector
unfolding sector_past
copies_past disk start to to_start zero sector = refl
copies_past disk start to to_start (suc n) sector = copies_past disk (suc start) to (suc to_start) n sector

-- Units that store values

pub writes_played : (request sector on at n : ℕ) (values : Values) → AreSame (played request sector (units_in (WriteOf on at) n) values) (ranged values on at n (value.Wrote request sector))
unfolding contents_played
writes_played request sector on at zero values disk s = sym (ranged_none values on at (value.Wrote request sector) disk s)
writes_played request sector on at (suc n) values disk s =
    writes_played request (suc sector) on (suc at) n (stored values on at (value.Wrote request sector)) disk s ∙ ranged_step values on at n (value.Wrote request sector) disk s

pub fills_played : (request sector on at n : ℕ) (values : Values) → AreSame (played request sector (units_in (FillOf on at) n) values) (ranged values on at n value.Zero)
unfolding contents_played
fills_played request sector on at zero values disk s = sym (ranged_none values on at value.Zero disk s)
fills_played request sector on at (suc n) values disk s = fills_played request sector on (suc at) n (stored values on at value.Zero) disk s ∙ ranged_step values on at n value.Zero disk s

pub copies_played : (request sector disk start to to_start n : ℕ) (values : Values) (first : Value) → HoldOn values disk start n first → CanCopyAtOnce disk start to to_start n
    → AreSame (played request sector (units_in (CopyOf disk start to to_start) n) values) (ranged values to to_start n first)
unfolding contents_played
copies_played request sector disk start to to_start zero values first hold at_once on s = sym (ranged_none values to to_start first on s)
copies_played request sector disk start to to_start (suc n) values first hold at_once on s =
    let here = hold_here values disk start n first hold in
    let after = stored values to to_start (values disk start) in
    cc (copies_played request sector disk (suc start) to (suc to_start) n after (next_value first) (λ i within. stored_other values to to_start (values disk start) disk (suc start + i) (λ same at. never start to_start n i within (at_once same (omega (arith, at))) at) ∙ hold_later values disk start n first hold i within) (λ same before. let far = at_once same (omega (arith, before)) in omega (arith, far)) on s, ranged_step values to to_start n first on s)
  where
    never : (start to_start n i : ℕ) → i < n → start + suc n ≤ to_start → suc start + i ≡ to_start → ⊥
    never start to_start n i within far at = omega arith
