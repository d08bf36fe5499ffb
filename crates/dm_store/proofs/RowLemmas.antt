-- Rows of a list: those of one metadata area are consecutive sectors of the store, and within it.
use Rattle.dm_store.proofs.Prelude.{ℕ, List, Result, Ok, length, sym, ap, subst, ◌∙◌, arith, Err, IfErr, IfOk, OnOk, div-add-mod', div-mul-add, mod-mul-add, take_all, mul-le-mul_right, Description, GoOn, Home, home, SectorFault, Store, AreRead, DiskContents, sector_in, area_count, row_sector, Sectors, HasRows, store_sectors}
use Rattle.dm_store.specs.declared.row_range.RowRange.{RowRange}
use Rattle.std.specs.Prelude.{◌≡◌, ◌+◌, ◌-◌, ◌*◌, ◌/◌, ◌%◌, ◌<◌, ◌≤◌}

-- consecutive rows of one area are consecutive sectors of the store
pub row_after : (chunk row i : ℕ) → row % chunk + i < chunk → row_sector chunk (row + i) ≡ row_sector chunk row + i
row_after chunk row i inside =
    let e : row + i ≡ row / chunk * chunk + (row % chunk + i) = omega (arith, div-add-mod' row chunk) in
    let area : (row + i) / chunk ≡ row / chunk = rw e (div-mul-add (row / chunk) chunk (row % chunk + i) inside) in
    let at : (row + i) % chunk ≡ row % chunk + i = rw e (mod-mul-add (row / chunk) chunk (row % chunk + i) inside) in
    rw (area, at) (omega arith)

-- the chunks up to the end of a metadata area are within the store
area_ends : (chunk chunks area : ℕ) → area < (chunks + 32 * chunk - 1) / (32 * chunk + 1) → (1 + (32 * chunk + 1) * area) + 1 ≤ chunks
area_ends chunk chunks area less =
    let e = 32 * chunk + 1 in
    let most = chunks + 32 * chunk - 1 in
    let whole : most / e * e + most % e ≡ most = div-add-mod' most e in
    let wide : (area + 1) * e ≤ most / e * e = mul-le-mul_right e (omega (arith, less)) in
    let parts : (area + 1) * e ≡ e * area + e = grind arith in
    omega (arith, whole, wide, parts)

-- the sectors of rows up to the end of an area are within the store
pub rows_within : (chunk store_len row count : ℕ) → 0 < chunk → row < area_count chunk store_len * chunk → row % chunk + count ≤ chunk → row_sector chunk row + count ≤ store_len
rows_within chunk store_len row count some inside fits =
    let chunks = store_len / chunk in
    let area = row / chunk in
    let whole : area * chunk + row % chunk ≡ row = div-add-mod' row chunk in
    let first : area < area_count chunk store_len = area_below chunk row (area_count chunk store_len) some inside in
    let ends : (1 + (32 * chunk + 1) * area) + 1 ≤ chunks = area_ends chunk chunks area first in
    let wide : ((1 + (32 * chunk + 1) * area) + 1) * chunk ≤ chunks * chunk = mul-le-mul_right chunk ends in
    let parts : ((1 + (32 * chunk + 1) * area) + 1) * chunk ≡ (1 + (32 * chunk + 1) * area) * chunk + chunk = grind arith in
    let len : chunks * chunk + store_len % chunk ≡ store_len = div-add-mod' store_len chunk in
    omega (arith, wide, parts, len, fits)
  where
    area_below : (chunk row areas : ℕ) → 0 < chunk → row < areas * chunk → row / chunk < areas
    area_below chunk row areas some inside = grind (arith, inside, some)

-- rows whose sectors lie in a row on a disk hold what the disk's sectors hold
pub row_home : (stack : Description) (disks : DiskContents) (store : Store) (row disk start count : ℕ) → row % store.chunk + count ≤ store.chunk → GoOn (home stack store.lower) (row_sector store.chunk row) disk start count
    → (i : ℕ) → i < count → store_sectors stack disks store (row_sector store.chunk (row + i)) ≡ disks disk (start + i)
row_home stack disks store row disk start count fits homes i less =
    let at : row_sector store.chunk (row + i) ≡ row_sector store.chunk row + i = row_after store.chunk row i (omega (arith, less, fits)) in
    ap (λ (sector : ℕ). store_sectors stack disks store sector) at ∙ ap (λ (there : Home). disks there.disk there.sector) (homes i less)

-- the first of sectors that lie in a row on a disk
pub first_home : (stack : Description) (disks : DiskContents) (store : Store) (sector disk start count : ℕ) → 1 ≤ count → GoOn (home stack store.lower) sector disk start count
    → store_sectors stack disks store sector ≡ disks disk start
first_home stack disks store sector disk start count some homes =
    let at : sector + 0 ≡ sector = omega arith in
    let there : start + 0 ≡ start = omega arith in
    ap (λ (n : ℕ). store_sectors stack disks store n) (sym at) ∙ ap (λ (place : Home). disks place.disk place.sector) (homes 0 (omega (arith, some))) ∙ ap (λ (n : ℕ). disks disk n) there

-- a block of one sector is that sector
pub whole_sector : (bytes : List ℕ) → length bytes ≡ 512 → sector_in bytes 0 ≡ bytes
whole_sector bytes len = take_all 512 bytes (omega (arith, len))

pub first_read : {F : Type 0} (sectors : ℕ → Result (List ℕ) F) (from : ℕ) (done : Unit {0}) (bytes : List ℕ) → length bytes ≡ 512 → AreRead sectors from (Ok done) bytes → sectors from ≡ Ok bytes
first_read sectors from done bytes len read =
    let at : from + 0 ≡ from = omega arith in
    ap sectors (sym at) ∙ read 0 (omega (arith, len)) ∙ ap (λ (xs : List ℕ). Ok xs) (whole_sector bytes len)

-- the rows that were read to a block, from the place of the first on a disk
pub block_rows : (stack : Description) (disks : DiskContents) (store : Store) (row most disk start len chunk sector : ℕ)
    → chunk ≡ store.chunk → sector ≡ row_sector chunk row → row % chunk + most ≤ chunk → len ≤ most → GoOn (home stack store.lower) sector disk start len
    → (i : ℕ) → i < len → store_sectors stack disks store (row_sector store.chunk (row + i)) ≡ disks disk (start + i)
block_rows stack disks store row most disk start len chunk sector is at inside few homes i less =
    let fits : row % store.chunk + len ≤ store.chunk = subst (λ (n : ℕ). row % n + len ≤ n) is (omega (arith, inside, few)) in
    let there : sector ≡ row_sector store.chunk row = at ∙ ap (λ (n : ℕ). row_sector n row) is in
    row_home stack disks store row disk start len fits (subst (λ (n : ℕ). GoOn (home stack store.lower) n disk start len) there homes) i less

pub block_row : (stack : Description) (disks : DiskContents) (store : Store) (row disk start len chunk sector : ℕ)
    → chunk ≡ store.chunk → sector ≡ row_sector chunk row → 1 ≤ len → GoOn (home stack store.lower) sector disk start len
    → store_sectors stack disks store (row_sector store.chunk row) ≡ disks disk start
block_row stack disks store row disk start len chunk sector is at some homes =
    let there : sector ≡ row_sector store.chunk row = at ∙ ap (λ (n : ℕ). row_sector n row) is in
    first_home stack disks store (row_sector store.chunk row) disk start len some (subst (λ (n : ℕ). GoOn (home stack store.lower) n disk start len) there homes)

-- a row that was read by itself
pub one_row : (sectors : Sectors) (chunk row : ℕ) (result : Result RowRange SectorFault) (block : List ℕ) (at : Result (List ℕ) SectorFault) → sectors (row_sector chunk row) ≡ at
    → OnOk result (at ≡ Ok (sector_in block 0)) → IfOk result (λ rows. (rows.first ≡ row) × (rows.count ≡ 1)) → IfOk result (λ rows. HasRows sectors chunk rows block)
one_row sectors chunk row (Ok rows) block at is read has = λ i less.
    let first : i ≡ 0 = omega (arith, less, has.1) in
    let here : rows.first + i ≡ row = omega (arith, first, has.0) in
    ap (λ (n : ℕ). sectors (row_sector chunk n)) here ∙ is ∙ read ∙ ap (λ (n : ℕ). Ok (sector_in block n)) (sym first)
one_row sectors chunk row (Err fault) block at is read has = tt

pub row_fault : (result : Result RowRange SectorFault) (here at : Result (List ℕ) SectorFault) → here ≡ at → IfErr result (λ fault. at ≡ Err fault) → IfErr result (λ fault. here ≡ Err fault)
row_fault (Ok rows) here at is unread = tt
row_fault (Err fault) here at is unread = is ∙ unread
