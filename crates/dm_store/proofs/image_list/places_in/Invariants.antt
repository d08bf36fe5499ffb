-- `places` has the images of the disks so far
use Rattle.dm_store.proofs.Prelude.{map, take, image_in}
use Rattle.dm_store.proofs.image_list.places_in.Given as goal
use Rattle.std.specs.Prelude.{◌≡◌}

abbrev pub invariant-loop-disk : goal.invariant-loop-disk
invariant-loop-disk l = l.places.items ≡ map (λ disk. image_in l.paths disk.name) (take l.disk-index l.stack.disks)
