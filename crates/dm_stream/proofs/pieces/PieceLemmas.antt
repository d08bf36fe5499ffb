-- How the fewest pieces of consecutive units arise, one unit at a time.
use Rattle.dm_stream.proofs.Prelude.{ℕ, zero, suc, true, false, eqb, List, [], refl, sym, ap, ◌∙◌, arith, and_parts, and_from, eqb-true, eq-eqb, BlockUnit, ReadOf, WriteOf, Zeros, Drops, Fails, CopyOf, FillOf, next_unit, units_in, onto_begins, UnitRun, is_unit, joins, further, is_after, onto, fewest}
use Rattle.std.specs.Prelude.{◌≡◌, ◌+◌, ◌∷◌, ◌++◌, ◌&&◌}

-- units with equal numbers are equal; below, numbers equal themselves
same_two : (unit : ℕ → ℕ → BlockUnit) (disk sector other_disk other_sector : ℕ) → (eqb disk other_disk && eqb sector other_sector) ≡ true → unit disk sector ≡ unit other_disk other_sector
same_two unit disk sector other_disk other_sector e =
    let parts = and_parts (eqb disk other_disk) (eqb sector other_sector) e in
    rw (eqb-true disk other_disk parts.0, eqb-true sector other_sector parts.1) refl

two_same : (disk sector : ℕ) → (eqb disk disk && eqb sector sector) ≡ true
two_same disk sector = and_from _ _ (eq-eqb disk disk refl) (eq-eqb sector sector refl)

pub one_unit : (unit other : BlockUnit) → is_unit unit other ≡ true → unit ≡ other
one_unit (ReadOf disk sector) (ReadOf other_disk other_sector) e = same_two ReadOf disk sector other_disk other_sector e
one_unit (WriteOf disk sector) (WriteOf other_disk other_sector) e = same_two WriteOf disk sector other_disk other_sector e
one_unit Zeros Zeros e = refl
one_unit Drops Drops e = refl
one_unit Fails Fails e = refl
one_unit (CopyOf disk sector to to_sector) (CopyOf other_disk other_sector other_to other_to_sector) e =
    let parts = and_parts (eqb disk other_disk && eqb sector other_sector) (eqb to other_to && eqb to_sector other_to_sector) e in
    same_two (λ d s. CopyOf d s to to_sector) disk sector other_disk other_sector parts.0 ∙ same_two (CopyOf other_disk other_sector) to to_sector other_to other_to_sector parts.1
one_unit (FillOf disk sector) (FillOf other_disk other_sector) e = same_two FillOf disk sector other_disk other_sector e
one_unit unit other e = absurd cc

pub is_unit-refl : (unit : BlockUnit) → is_unit unit unit ≡ true
is_unit-refl (ReadOf disk sector) = two_same disk sector
is_unit-refl (WriteOf disk sector) = two_same disk sector
is_unit-refl (CopyOf disk sector to to_sector) = and_from _ _ (two_same disk sector) (two_same to to_sector)
is_unit-refl (FillOf disk sector) = two_same disk sector
is_unit-refl _ = refl

-- a unit is continued by `next_unit` of it, and by no other unit
pub joins-next : (unit : BlockUnit) → joins unit (next_unit unit) ≡ true
joins-next unit = is_unit-refl (next_unit unit)

pub joined_next : (unit next : BlockUnit) → joins unit next ≡ true → next ≡ next_unit unit
joined_next unit next e = sym (one_unit (next_unit unit) next e)

-- the unit no sector further on is the unit itself; below, `suc len` sectors further on is `len` sectors after the next unit
pub further-none : (unit : BlockUnit) → further unit 0 ≡ unit
further-none (ReadOf disk sector) = let e : sector + 0 ≡ sector = omega arith in ap (ReadOf disk) e
further-none (WriteOf disk sector) = let e : sector + 0 ≡ sector = omega arith in ap (WriteOf disk) e
further-none (CopyOf disk sector to to_sector) =
    let e : sector + 0 ≡ sector = omega arith in
    let f : to_sector + 0 ≡ to_sector = omega arith in
    cc
further-none (FillOf disk sector) = let e : sector + 0 ≡ sector = omega arith in ap (FillOf disk) e
further-none _ = refl

pub further-more : (unit : BlockUnit) (len : ℕ) → further unit (suc len) ≡ further (next_unit unit) len
further-more (ReadOf disk sector) len = let e : sector + suc len ≡ suc sector + len = omega arith in ap (ReadOf disk) e
further-more (WriteOf disk sector) len = let e : sector + suc len ≡ suc sector + len = omega arith in ap (WriteOf disk) e
further-more (CopyOf disk sector to to_sector) len =
    let e : sector + suc len ≡ suc sector + len = omega arith in
    let f : to_sector + suc len ≡ suc to_sector + len = omega arith in
    cc
further-more (FillOf disk sector) len = let e : sector + suc len ≡ suc sector + len = omega arith in ap (FillOf disk) e
further-more _ len = refl

-- whether a unit continues a piece of one unit; below, a longer piece
pub is_after-one : (unit after : BlockUnit) → is_after unit 1 after ≡ joins unit after
is_after-one unit after = cc (further-more unit 0, further-none (next_unit unit))

pub is_after-more : (unit : BlockUnit) (len : ℕ) (after : BlockUnit) → is_after unit (suc len) after ≡ is_after (next_unit unit) len after
is_after-more unit len after = cc (further-more unit len)

-- units that continue a piece lengthen it
units-longer : (unit : BlockUnit) (len more : ℕ) → units_in unit len ++ units_in (further unit len) more ≡ units_in unit (len + more)
units-longer unit zero more = let e : 0 + more ≡ more = omega arith in cc (further-none unit)
units-longer unit (suc len) more =
    let e : suc len + more ≡ suc (len + more) = omega arith in
    cc (further-more unit len, units-longer (next_unit unit) len more)

pub units_joined : (unit after : BlockUnit) (len more : ℕ) → is_after unit len after ≡ true → units_in unit (len + more) ≡ units_in unit len ++ units_in after more
units_joined unit after len more e = cc (units-longer unit len more, one_unit (further unit len) after e)

-- a unit put in front of pieces, if the first piece continues it; below, if it doesn't
pub onto-joined : (unit first : BlockUnit) (len : ℕ) (pieces : List UnitRun) → joins unit first ≡ true → onto unit (record { first = first; len = len } ∷ pieces) ≡ record { first = unit; len = suc len } ∷ pieces
onto-joined unit first len pieces e = rw e refl

pub onto-apart : (unit first : BlockUnit) (len : ℕ) (pieces : List UnitRun) → joins unit first ≡ false → onto unit (record { first = first; len = len } ∷ pieces) ≡ record { first = unit; len = 1 } ∷ record { first = first; len = len } ∷ pieces
onto-apart unit first len pieces e = rw e refl

-- a piece that the unit after it doesn't continue is one of the fewest pieces
pub fewest-apart : (unit : BlockUnit) (len : ℕ) (after : BlockUnit) (rest : List BlockUnit) → is_after unit (suc len) after ≡ false → fewest (units_in unit (suc len) ++ after ∷ rest) ≡ record { first = unit; len = suc len } ∷ fewest (after ∷ rest)
fewest-apart unit zero after rest e =
    let b = onto_begins after (fewest rest) in
    cc (onto-apart unit after b.len b.later (sym (is_after-one unit after) ∙ e))
fewest-apart unit (suc len) after rest e =
    ap (onto unit) (fewest-apart (next_unit unit) len after rest (sym (is_after-more unit (suc len) after) ∙ e))
    ∙ onto-joined unit (next_unit unit) (suc len) (fewest (after ∷ rest)) (joins-next unit)

-- consecutive units are one piece
pub fewest-run : (unit : BlockUnit) (len : ℕ) → fewest (units_in unit (suc len)) ≡ record { first = unit; len = suc len } ∷ []
fewest-run unit zero = refl
fewest-run unit (suc len) = ap (onto unit) (fewest-run (next_unit unit) len) ∙ onto-joined unit (next_unit unit) (suc len) [] (joins-next unit)
