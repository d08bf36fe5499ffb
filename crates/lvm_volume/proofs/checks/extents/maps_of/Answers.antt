use Rattle.lvm_volume.proofs.Prelude.{arith, common_steps}
use Rattle.lvm_volume.proofs.checks.HoldLemmas.{holds_nothing, keeps_nothing}
use Rattle.lvm_volume.proofs.checks.extents.maps_of.Goals as goal

pub loop-made-preserved : goal.loop-made-preserved
loop-made-preserved c = record {
  held = rw c.in_ok-push.ensures.items (holds_nothing c.loop-made.maps.items c.new.result c.loop-made.invariant.held (keeps_nothing c.new.result (λ q. rw c.new.ensures.empty)));
  count = grind (arith, common_steps);
}
