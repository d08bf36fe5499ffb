use Rattle.lvm_volume.proofs.Prelude.{[], length, Holds}
use Rattle.lvm_volume.proofs.checks.extents.maps_of.Given as goal
use Rattle.std.specs.Prelude.{◌≡◌}

abbrev pub invariant-loop-made : goal.invariant-loop-made
invariant-loop-made l = record { held : Holds l.maps.items []; count : length l.maps.items ≡ l.made }
