-- Laws of the functions that apply units to the values of disks.
use Rattle.dm_map.specs.Base.{ℕ, List, [], cond, refl, ap, ◌∙◌}
use Rattle.dm_map.specs.own.Contents.{Values, played, played_unit, sector_after, sector_past, stored}
use Rattle.dm_map.specs.pieces.Units.{BlockUnit, WriteOf, CopyOf, FillOf}
use Rattle.std.specs.Prelude.{◌≡◌, ◌&&◌, ◌∷◌, ◌++◌, ◌==◌}

-- the sector that two joined lists of units reach: the second list starts at the sector that the first one reaches
pub past-append : (units more : List BlockUnit) (sector : ℕ) → sector_past (units ++ more) sector ≡ sector_past more (sector_past units sector)
unfolding sector_past
past-append [] more sector = refl
past-append (unit ∷ units) more sector = past-append units more (sector_after unit sector)

-- if two sets of disks hold equal values in every sector, they still do after equal values are stored in the same sector

stored_cong : {V : Type 0} (values others : Values V) (to to_sector disk sector : ℕ) (a b : V) → a ≡ b → ((k x : ℕ) → values k x ≡ others k x) → stored values to to_sector a disk sector ≡ stored others to to_sector b disk sector
stored_cong {V = V} values others to to_sector disk sector a b e same = ap (λ (v : V). cond (disk == to && sector == to_sector) v (values disk sector)) e ∙ ap (λ (v : V). cond (disk == to && sector == to_sector) b v) (same disk sector)

pub unit_cong : {V : Type 0} (zeros written : V) (unit : BlockUnit) (values others : Values V) → ((k x : ℕ) → values k x ≡ others k x) → (k x : ℕ) → played_unit zeros written unit values k x ≡ played_unit zeros written unit others k x
unit_cong zeros written (WriteOf disk sector) values others same k x = stored_cong values others disk sector k x written written refl same
unit_cong zeros written (CopyOf disk sector to to_sector) values others same k x = stored_cong values others to to_sector k x (values disk sector) (others disk sector) (same disk sector) same
unit_cong zeros written (FillOf disk sector) values others same k x = stored_cong values others disk sector k x zeros zeros refl same
unit_cong zeros written unit values others same k x = same k x

pub played_cong : {V : Type 0} (zeros : V) (written : ℕ → V) (at : ℕ) (units : List BlockUnit) (values others : Values V) → ((k x : ℕ) → values k x ≡ others k x) → (k x : ℕ) → played zeros written at units values k x ≡ played zeros written at units others k x
unfolding played
played_cong zeros written at [] values others same k x = same k x
played_cong zeros written at (u ∷ us) values others same k x =
    played_cong zeros written (sector_after u at) us (played_unit zeros (written at) u values) (played_unit zeros (written at) u others) (unit_cong zeros (written at) u values others same) k x
