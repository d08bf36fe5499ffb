-- the sections so far, with those left in the iterator, are all sections
use Rattle.lvm_volume.proofs.Prelude.{map, item_view, sections_left}
use Rattle.lvm_text.specs.Tree as spec
use Rattle.lvm_volume.proofs.fields.value.sections_of.Given as goal
use Rattle.std.specs.Prelude.{◌≡◌, ◌++◌}

abbrev pub invariant-loop-item : goal.invariant-loop-item
invariant-loop-item l = map item_view l.all.items ++ sections_left l.item-iterator ≡ spec.sections_of l.section.values
