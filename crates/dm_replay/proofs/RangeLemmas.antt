-- Ranges of stored values.
use Rattle.dm_replay.proofs.Prelude.{ℕ, suc, cond, refl, sym, ap, ◌∙◌, arith, nat_le, nat_lt, nat_tests, stored, Value, HoldOn, ranged, Values, further, next_value}
use Rattle.dm_replay.specs.declared.value.Value.TheVariants as value
use Rattle.std.specs.Prelude.{◌≡◌, ◌+◌, ◌-◌, ◌<◌, ◌==◌, ◌&&◌}

pub further_next : (first : Value) (n : ℕ) → further (next_value first) n ≡ further first (suc n)
further_next (value.Old disk sector) n = rw (let e : suc sector + n ≡ sector + suc n = omega arith in e)
further_next value.Zero n = refl
further_next (value.Wrote request sector) n = rw (let e : suc sector + n ≡ sector + suc n = omega arith in e)

pub further_none : (first : Value) → further first 0 ≡ first
further_none (value.Old disk sector) = rw (let e : sector + 0 ≡ sector = omega arith in e)
further_none value.Zero = refl
further_none (value.Wrote request sector) = rw (let e : sector + 0 ≡ sector = omega arith in e)

pub further_twice : (first : Value) (m n : ℕ) → further (further first m) n ≡ further first (m + n)
further_twice (value.Old disk sector) m n = rw (let e : sector + m + n ≡ sector + (m + n) = omega arith in e)
further_twice value.Zero m n = refl
further_twice (value.Wrote request sector) m n = rw (let e : sector + m + n ≡ sector + (m + n) = omega arith in e)

-- A range and the sector before it

pub ranged_none : (values : Values) (on start : ℕ) (first : Value) (disk sector : ℕ) → ranged values on start 0 first disk sector ≡ values disk sector
ranged_none values on start first disk sector = outside on start disk sector (further first (sector - start)) (values disk sector)
  where
    outside : (on start disk sector : ℕ) (a b : Value) → cond (disk == on && (nat_le start sector && nat_lt sector (start + 0))) a b ≡ b
    outside on start disk sector a b = grind (arith, nat_tests)

-- a sector stored before a range makes the range longer by one
pub ranged_step : (values : Values) (on at n : ℕ) (first : Value) (disk sector : ℕ) → ranged (stored values on at first) on (suc at) n (next_value first) disk sector ≡ ranged values on at (suc n) first disk sector
ranged_step values on at n first disk sector =
    join on at n disk sector first (further first (sector - at)) (further (next_value first) (sector - suc at)) (values disk sector)
    (λ here. ap (further first) (let e : sector - at ≡ 0 = omega (arith, here) in e) ∙ further_none first)
    (λ after. further_next first (sector - suc at) ∙ ap (further first) (let e : suc (sector - suc at) ≡ sector - at = omega (arith, after) in e))
  where
    join : (on at n disk sector : ℕ) (new far later old : Value) → (sector ≡ at → far ≡ new) → (at < sector → later ≡ far)
        → cond (disk == on && (nat_le (suc at) sector && nat_lt sector (suc at + n))) later (cond (disk == on && sector == at) new old)
        ≡ cond (disk == on && (nat_le at sector && nat_lt sector (at + suc n))) far old
    join on at n disk sector new far later old here after = grind (arith, nat_tests)

pub stored_other : (values : Values) (on at : ℕ) (new : Value) (disk sector : ℕ) → (disk ≡ on → sector ≡ at → ⊥) → stored values on at new disk sector ≡ values disk sector
stored_other values on at new disk sector differ = other on at disk sector new (values disk sector) differ
  where
    other : (on at disk sector : ℕ) (a b : Value) → (disk ≡ on → sector ≡ at → ⊥) → cond (disk == on && sector == at) a b ≡ b
    other on at disk sector a b differ = grind (arith, nat_tests)

-- Values that count up from a first value

pub hold_here : (values : Values) (disk start n : ℕ) (first : Value) → HoldOn values disk start (suc n) first → values disk start ≡ first
hold_here values disk start n first hold = ap (values disk) (let e : start ≡ start + 0 = omega arith in e) ∙ hold 0 (omega arith) ∙ further_none first

pub hold_later : (values : Values) (disk start n : ℕ) (first : Value) → HoldOn values disk start (suc n) first → HoldOn values disk (suc start) n (next_value first)
hold_later values disk start n first hold i within =
    ap (values disk) (let e : suc start + i ≡ start + suc i = omega arith in e) ∙ hold (suc i) (omega (arith, within)) ∙ sym (further_next first i)
