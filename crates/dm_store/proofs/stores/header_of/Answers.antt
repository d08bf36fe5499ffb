use Rattle.dm_store.proofs.Prelude.{ℕ, Ok, sym, ap, ◌∙◌, arith, disk_contents, store_sectors, by_header}
use Rattle.dm_store.proofs.RowLemmas.{first_home, first_read}
use Rattle.dm_store.proofs.stores.header_of.Goals as goal
use Rattle.std.specs.Prelude.{◌≡◌}

pub returns-in-Ok-clause-header : goal.returns-in-Ok-clause-header
returns-in-Ok-clause-header g c = λ held seen used.
    let store = c.args.store.now in let disks = disk_contents c.args.places.now held in
    let home = c.first_homes-home.result in
    let at : store_sectors c.args.mapper.now.stack disks store 0 ≡ disks home.disk home.start =
    first_home c.args.mapper.now.stack disks store 0 home.disk home.start home.len c.first_homes-home.ensures.is.some c.first_homes-home.ensures.is.homes in
    let read = first_read (disks home.disk) home.start c.in-Ok.field-0 c.read.new.into (omega arith) (c.in-Ok.ensures.is held seen) in
    c.read_header.ensures used ∙ ap (λ (n : ℕ). by_header used n (Ok c.read.new.into)) c.sectors.ensures.is ∙ sym (ap (by_header used store.chunk) (at ∙ read))
