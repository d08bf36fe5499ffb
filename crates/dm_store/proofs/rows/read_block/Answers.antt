use Rattle.dm_store.proofs.Prelude.{ℕ, ap, subst, ◌∙◌, arith, disk_contents, row_sector, store_sectors}
use Rattle.dm_store.proofs.RowLemmas.{block_row, block_rows, one_row, row_fault, rows_within}
use Rattle.dm_store.proofs.rows.read_block.Goals as goal
use Rattle.std.specs.Prelude.{◌≡◌, ◌+◌, ◌%◌, ◌≤◌, ◌<◌}

pub first_homes-disk-requires-clause-inside : goal.first_homes-disk-requires-clause-inside
first_homes-disk-requires-clause-inside g c =
    let store = c.args.store.now in let row = c.args.row in let is = c.sectors-chunk.ensures.is in
    let inside : row % store.chunk + c.rows_from-most.result ≤ store.chunk = subst (λ (n : ℕ). row % n + c.rows_from-most.result ≤ n) is c.rows_from-most.ensures.inside in
    let at : c.row_sector.result ≡ row_sector store.chunk row = c.row_sector.ensures ∙ ap (λ (n : ℕ). row_sector n row) is in
    let within = rows_within store.chunk store.len row c.rows_from-most.result (subst (λ (n : ℕ). 0 < n) is c.sectors-chunk.ensures.some) c.requires.row inside in
    omega (arith, at, within, c.requires.store.len)

pub returns-then-len-eq1-clause-rows : goal.returns-then-len-eq1-clause-rows
returns-then-len-eq1-clause-rows g c = λ held seen.
    let store = c.args.store.now in let disks = disk_contents c.args.places.now held in let stack = c.args.mapper.now.stack in
    let home = c.first_homes-disk.result in let first = c.first_homes-disk.ensures.is in
    one_row (store_sectors stack disks store) store.chunk c.args.row c.read_row.result c.read_row.new.block (disks home.disk home.start)
    (block_row stack disks store c.args.row home.disk home.start home.len c.sectors-chunk.result c.row_sector.result c.sectors-chunk.ensures.is c.row_sector.ensures first.some first.homes)
    (c.read_row.ensures.sector held seen) c.read_row.ensures.rows

pub returns-then-len-eq1-clause-fault : goal.returns-then-len-eq1-clause-fault
returns-then-len-eq1-clause-fault g c = λ held seen.
    let store = c.args.store.now in let disks = disk_contents c.args.places.now held in let stack = c.args.mapper.now.stack in
    let home = c.first_homes-disk.result in let first = c.first_homes-disk.ensures.is in
    row_fault c.read_row.result (store_sectors stack disks store (row_sector store.chunk c.args.row)) (disks home.disk home.start)
    (block_row stack disks store c.args.row home.disk home.start home.len c.sectors-chunk.result c.row_sector.result c.sectors-chunk.ensures.is c.row_sector.ensures first.some first.homes)
    (c.read_row.ensures.fault held seen)

pub returns-in-Ok-clause-rows : goal.returns-in-Ok-clause-rows
returns-in-Ok-clause-rows g c = λ held seen i less.
    let store = c.args.store.now in let disks = disk_contents c.args.places.now held in let stack = c.args.mapper.now.stack in
    let home = c.first_homes-disk.result in let first = c.first_homes-disk.ensures.is in
    block_rows stack disks store c.args.row c.rows_from-most.result home.disk home.start home.len c.sectors-chunk.result c.row_sector.result c.sectors-chunk.ensures.is c.row_sector.ensures c.rows_from-most.ensures.inside first.most first.homes i less
    ∙ c.in-Ok.ensures.sectors held seen i less

pub returns-in-Err-clause-rows : goal.returns-in-Err-clause-rows
returns-in-Err-clause-rows g c = λ held seen.
    let store = c.args.store.now in let disks = disk_contents c.args.places.now held in let stack = c.args.mapper.now.stack in
    let home = c.first_homes-disk.result in let first = c.first_homes-disk.ensures.is in
    one_row (store_sectors stack disks store) store.chunk c.args.row c.read_row-in-Err.result c.read_row-in-Err.new.block (disks home.disk home.start)
    (block_row stack disks store c.args.row home.disk home.start home.len c.sectors-chunk.result c.row_sector.result c.sectors-chunk.ensures.is c.row_sector.ensures first.some first.homes)
    (c.read_row-in-Err.ensures.sector held seen) c.read_row-in-Err.ensures.rows

pub returns-in-Err-clause-fault : goal.returns-in-Err-clause-fault
returns-in-Err-clause-fault g c = λ held seen.
    let store = c.args.store.now in let disks = disk_contents c.args.places.now held in let stack = c.args.mapper.now.stack in
    let home = c.first_homes-disk.result in let first = c.first_homes-disk.ensures.is in
    row_fault c.read_row-in-Err.result (store_sectors stack disks store (row_sector store.chunk c.args.row)) (disks home.disk home.start)
    (block_row stack disks store c.args.row home.disk home.start home.len c.sectors-chunk.result c.row_sector.result c.sectors-chunk.ensures.is c.row_sector.ensures first.some first.homes)
    (c.read_row-in-Err.ensures.fault held seen)
