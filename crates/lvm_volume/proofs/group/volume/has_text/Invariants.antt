use Rattle.lvm_volume.proofs.Prelude.{drop, list_any, scalar_views, is_text_of}
use Rattle.lvm_volume.proofs.group.volume.has_text.Given as goal
use Rattle.std.specs.Prelude.{◌≡◌}

abbrev pub invariant-loop-item : goal.invariant-loop-item
invariant-loop-item l = list_any (is_text_of l.word) (scalar_views (drop l.item-index l.items)) ≡ list_any (is_text_of l.word) (scalar_views l.items)
