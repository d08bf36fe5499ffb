-- The values that disks hold after units: after a row of copies, and after one list of units and another.
use Rattle.dm_map.proofs.Prelude.{inl, inr, ℕ, zero, suc, Bool, true, false, cond, List, [], Some, refl, arith, AllByRecursion, and_parts, eqb-true, eq-eqb, cases_lt, Values, answers, played, played_unit, sector_after, stored, value_read, Home, copy_to, row, BlockUnit, ReadOf, Zeros}
use Rattle.std.specs.Prelude.{◌≡◌, ◌+◌, ◌<◌, ◌≤◌, ◌&&◌, ◌∷◌, ◌++◌, ◌==◌}

abbrev pub home_at : (disk sector : ℕ) → Home
home_at disk sector = record { disk = disk; sector = sector }

-- Storing a single value

pub stored_same : {V : Type 0} (values : Values V) (disk sector : ℕ) (value : V) → stored values disk sector value disk sector ≡ value
stored_same values disk sector value = rw (eq-eqb disk disk refl, eq-eqb sector sector refl) refl

pub cond_other : {X : Type 0} (b : Bool) (first second : X) → (b ≡ true → ⊥) → cond b first second ≡ second
cond_other true first second never = absurd (never refl)
cond_other false first second never = refl

pub stored_other : {V : Type 0} (values : Values V) (to to_sector disk sector : ℕ) (value : V) → (home_at to to_sector ≡ home_at disk sector → ⊥) → stored values to to_sector value disk sector ≡ values disk sector
stored_other values to to_sector disk sector value differ =
    cond_other (disk == to && sector == to_sector) value (values disk sector)
    (λ is. let parts = and_parts (disk == to) (sector == to_sector) is in
    differ (cc (eqb-true disk to parts.0, eqb-true sector to_sector parts.1)))

-- A row of copies

-- the unit of a read that doesn't fail
pub data IsReadable (unit : BlockUnit) : Type 0 where
  Reads : (disk sector : ℕ) → unit ≡ ReadOf disk sector → IsReadable unit
  AreZeros : unit ≡ Zeros → IsReadable unit

-- the value that a copy stores, by the unit that reads its source
abbrev pub value_of : {V : Type 0} → (zeros : V) → Values V → BlockUnit → V
value_of zeros values (ReadOf disk sector) = values disk sector
value_of zeros values unit = zeros

pub some_value : {V : Type 0} (zeros : V) (values : Values V) (unit : BlockUnit) → IsReadable unit → Some (value_of zeros values unit) ≡ value_read zeros values unit
some_value zeros values unit (Reads disk sector is) = rw is refl
some_value zeros values unit (AreZeros is) = rw is refl

played_copy : {V : Type 0} (zeros : V) (written : ℕ → V) (at : ℕ) (unit : BlockUnit) (to : Home) (rest : List BlockUnit) (values : Values V)
    → played zeros written at (copy_to unit to ∷ rest) values ≡ played zeros written at rest (stored values to.disk to.sector (value_of zeros values unit))
unfolding played
played_copy zeros written at (ReadOf disk sector) to rest values = refl
played_copy zeros written at unit to rest values = refl

abbrev pub copy_units : (ℕ → BlockUnit) → (ℕ → Home) → (sector len : ℕ) → List BlockUnit
copy_units from to sector len = row (λ u. copy_to (from u) (to u)) sector len

-- a sector that is no target of the copies keeps its value
pub copies_keep : {V : Type 0} (zeros : V) (written : ℕ → V) (at : ℕ) (from : ℕ → BlockUnit) (to : ℕ → Home) (s n : ℕ) (values : Values V) (disk sector : ℕ) → ((u : ℕ) → s ≤ u → u < s + n → to u ≡ home_at disk sector → ⊥)
    → played zeros written at (copy_units from to s n) values disk sector ≡ values disk sector
unfolding played
copies_keep zeros written at from to s zero values disk sector apart = refl
copies_keep {V = V} zeros written at from to s (suc n) values disk sector apart =
    cc (played_copy zeros written at (from s) (to s) (copy_units from to (suc s) n) values, copies_keep zeros written at from to (suc s) n (stored values (to s).disk (to s).sector (value_of zeros values (from s))) disk sector (λ u low high. apart u (omega (arith, low)) (omega (arith, high))), stored_other values (to s).disk (to s).sector disk sector (value_of zeros values (from s)) (λ e. apart s (omega arith) (omega arith) e))

value_kept : {V : Type 0} (zeros : V) (values others : Values V) (unit : BlockUnit) → ((disk sector : ℕ) → unit ≡ ReadOf disk sector → others disk sector ≡ values disk sector) → value_of zeros others unit ≡ value_of zeros values unit
value_kept zeros values others (ReadOf disk sector) same = same disk sector refl
value_kept zeros values others unit same = refl

-- the targets of the copies are all different, and none of them is a source
pub record AreFreshTargets (reads : ℕ → BlockUnit) (homes : ℕ → Home) (s n : ℕ) : Type 0 where
  pub targets : (u v : ℕ) → s ≤ u → u < s + n → s ≤ v → v < s + n → homes u ≡ homes v → u ≡ v
  pub sources : (u v disk sector : ℕ) → s ≤ u → u < s + n → s ≤ v → v < s + n → reads u ≡ ReadOf disk sector → homes v ≡ home_at disk sector → ⊥

fresh_later : (from : ℕ → BlockUnit) (to : ℕ → Home) (s n : ℕ) → AreFreshTargets from to s (suc n) → AreFreshTargets from to (suc s) n
fresh_later from to s n fresh = record {
  targets = λ u v a b c d e. fresh.targets u v (omega (arith, a)) (omega (arith, b)) (omega (arith, c)) (omega (arith, d)) e;
  sources = λ u v k x a b c d e f. fresh.sources u v k x (omega (arith, a)) (omega (arith, b)) (omega (arith, c)) (omega (arith, d)) e f;
}

-- after the copies, each target has the value that its source had before
pub copies_move : {V : Type 0} (zeros : V) (written : ℕ → V) (at : ℕ) (from : ℕ → BlockUnit) (to : ℕ → Home) (s n : ℕ) (values : Values V) (u : ℕ) → AreFreshTargets from to s n → s ≤ u → u < s + n
    → played zeros written at (copy_units from to s n) values (to u).disk (to u).sector ≡ value_of zeros values (from u)
unfolding played
copies_move zeros written at from to s zero values u fresh low high = absurd (omega (arith, low, high))
copies_move {V = V} zeros written at from to s (suc n) values u fresh low high = elim (cases_lt s u) [
  | inl later ↦
      let next = stored values (to s).disk (to s).sector (value_of zeros values (from s)) in
      cc (played_copy zeros written at (from s) (to s) (copy_units from to (suc s) n) values, copies_move zeros written at from to (suc s) n next u (fresh_later from to s n fresh) later (omega (arith, high)), value_kept zeros values next (from u) (λ k x is. stored_other values (to s).disk (to s).sector k x (value_of zeros values (from s)) (λ e. fresh.sources u s k x low high (omega arith) (omega arith) is e)))
  | inr here ↦
      let same : u ≡ s = omega (arith, low, here) in
      let next = stored values (to s).disk (to s).sector (value_of zeros values (from s)) in
      rw same (
      cc (played_copy zeros written at (from s) (to s) (copy_units from to (suc s) n) values, copies_keep zeros written at from to (suc s) n next (to s).disk (to s).sector (λ v a b e. never v a (fresh.targets v s (omega (arith, a)) (omega (arith, b)) (omega arith) (omega arith) e)), stored_same values (to s).disk (to s).sector (value_of zeros values (from s))))
]
  where
    never : (v : ℕ) → suc s ≤ v → v ≡ s → ⊥
    never v a e = omega (arith, a, e)

-- One list of units after another

pub after_false : (unit : BlockUnit) (sector : ℕ) → answers unit ≡ false → sector_after unit sector ≡ sector
after_false unit sector moves = rw moves refl

pub played_on : {V : Type 0} (zeros : V) (written : ℕ → V) (at : ℕ) (us vs : List BlockUnit) (values : Values V) → AllByRecursion (λ unit. answers unit ≡ false) us → played zeros written at (us ++ vs) values ≡ played zeros written at vs (played zeros written at us values)
unfolding played
played_on zeros written at [] vs values each = refl
played_on zeros written at (u ∷ us) vs values each =
    cc (after_false u at each.0, played_on zeros written at us vs (played_unit zeros (written at) u values) each.1, after_false u at each.0)
