use Rattle.lvm_volume.proofs.Prelude.{drop, list_all, scalar_views, is_text}
use Rattle.lvm_volume.proofs.fields.fits.are_texts.Given as goal
use Rattle.std.specs.Prelude.{◌≡◌}

abbrev pub invariant-loop-item : goal.invariant-loop-item
invariant-loop-item l = list_all is_text (scalar_views (drop l.item-index l.items)) ≡ list_all is_text (scalar_views l.items)
