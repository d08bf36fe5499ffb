use Rattle.lvm_volume.proofs.Prelude.{bytes_eq, drop, position_from, letters_of, owner_of}
use Rattle.lvm_volume.proofs.group.owners.owner_of.Given as goal
use Rattle.std.specs.Prelude.{◌≡◌}

abbrev pub invariant-loop-disk : goal.invariant-loop-disk
invariant-loop-disk l = owner_of l.owners (letters_of l.id) ≡ position_from (λ owner. bytes_eq owner (letters_of l.id)) l.disk (drop l.disk l.owners)
