-- the keys so far, with those of the sections left, are the keys of all sections
use Rattle.lvm_volume.proofs.Prelude.{sections_of, sections_left, keys_in, texts}
use Rattle.lvm_volume.proofs.group.positions.Positions.new.Given as goal
use Rattle.std.specs.Prelude.{◌≡◌, ◌++◌}

abbrev pub invariant-loop-item : goal.invariant-loop-item
invariant-loop-item l = texts l.keys.keys ++ keys_in (sections_left l.item-iterator) ≡ keys_in (sections_of l.section.values)
