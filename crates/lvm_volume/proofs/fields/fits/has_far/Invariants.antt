use Rattle.lvm_volume.proofs.Prelude.{drop, list_any, scalar_views, is_far_scalar}
use Rattle.lvm_volume.proofs.fields.fits.has_far.Given as goal
use Rattle.std.specs.Prelude.{◌≡◌}

abbrev pub invariant-loop-item : goal.invariant-loop-item
invariant-loop-item l = list_any is_far_scalar (scalar_views (drop l.item-index l.items)) ≡ list_any is_far_scalar (scalar_views l.items)
