use Rattle.lvm_volume.proofs.Prelude.{drop, map, AllByRecursion, IsStripeIn, column_of}
use Rattle.lvm_volume.proofs.tables.lines.columns_of.Given as goal
use Rattle.std.specs.Prelude.{◌≡◌, ◌++◌}

abbrev pub invariant-loop-stripe : goal.invariant-loop-stripe
invariant-loop-stripe l = record {
  made : l.columns.items ++ map (column_of l.extent_size l.physicals) (drop l.stripe-index l.stripes) ≡ map (column_of l.extent_size l.physicals) l.stripes;
  left : AllByRecursion (IsStripeIn l.extent_size l.physicals) (drop l.stripe-index l.stripes);
}
