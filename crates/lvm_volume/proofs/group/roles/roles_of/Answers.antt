use Rattle.lvm_volume.proofs.Prelude.{◌∙◌, drop, sym, ap, arith, Volume, changed, record_list, with_origin, with_store, recorded, records_of}
use Rattle.lvm_volume.proofs.group.RoleLemmas.{all_changed, one_more}
use Rattle.lvm_volume.proofs.group.roles.roles_of.Goals as goal

pub loop-at-preserved-in-Some : goal.loop-at-preserved-in-Some
loop-at-preserved-in-Some c = record {
  made =
      rw (← one_more c.args.volumes.now c.loop-at.at c.index-volumes-at.result c.in-Some.snapshot c.loop-at-test.true c.loop-at.invariant.within c.index-volumes-at.is (ap (λ (v : Volume). recorded v.segments) c.index-volumes-at.is ∙ ap recorded (sym c.as_slice.ensures) ∙ sym c.recorded.ensures ∙ ap record_list c.in-Some.is)) (c.add_store.ensures ∙ ap (changed (with_store c.in-Some.snapshot) c.in-Some.snapshot.store 0) (c.add_origin.ensures ∙ ap (changed with_origin c.in-Some.snapshot.origin 0) c.loop-at.invariant.made) ∙ all_changed c.in-Some.snapshot (records_of (drop c.loop-at.at c.args.volumes.now)) 0 c.args.volumes.now);
  within = omega (arith, c.loop-at.invariant.within);
}
