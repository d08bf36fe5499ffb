-- the physical volumes so far, with those that are left, are all of them
use Rattle.lvm_volume.proofs.Prelude.{zip_first, zip_second, iter_rest, all_owned, ids_view, owners_view}
use Rattle.lvm_volume.proofs.group.owners.all_owned.Given as goal
use Rattle.std.specs.Prelude.{◌≡◌, ◌++◌}

abbrev pub invariant-loop-id : goal.invariant-loop-id
invariant-loop-id l =
    l.all.items ++ all_owned (owners_view l.owners) (ids_view (iter_rest (zip_first l.id-iterator))) (iter_rest (zip_second l.id-iterator))
    ≡ all_owned (owners_view l.owners) (ids_view l.ids) l.physicals
