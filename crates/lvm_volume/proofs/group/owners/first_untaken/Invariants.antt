use Rattle.lvm_volume.proofs.Prelude.{drop, map, item_view, untaken, owners_view}
use Rattle.lvm_volume.proofs.group.owners.first_untaken.Given as goal
use Rattle.std.specs.Prelude.{◌≡◌}

abbrev pub invariant-loop-disk : goal.invariant-loop-disk
invariant-loop-disk l =
    untaken (map item_view l.physicals) (owners_view l.owners).names 0 l.owners.ids.now
    ≡ untaken (map item_view l.physicals) (owners_view l.owners).names l.disk (drop l.disk l.owners.ids.now)
