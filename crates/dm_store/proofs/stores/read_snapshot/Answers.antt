use Rattle.dm_store.proofs.Prelude.{sym, ap, ◌∙◌, Description, disk_contents, store_sectors, taken_if, taken_in, stored}
use Rattle.dm_store.proofs.stores.read_snapshot.Goals as goal

pub returns-in-Some-clause-stored : goal.returns-in-Some-clause-stored
returns-in-Some-clause-stored g c = λ held seen.
    let stack = c.args.stack.now in let disks = disk_contents c.args.places.now held in
    c.read_store.ensures.stored held seen ∙ ap (λ (s : Description). taken_in (stored (store_sectors s disks c.in-Some.store) c.in-Some.store)) c.requires.stack
    ∙ ap (taken_if stack disks) (sym c.in-Some.is ∙ c.store_at.ensures.is)
