use Rattle.dm_stack.proofs.Prelude.{false, true, not, sym, ap, take, list_any, reach_of, rivals}
use Rattle.dm_stack.proofs.claims.SweepLemmas.{counted, met, not_met, reach_more, search_ends, search_more, uncounted}
use Rattle.dm_stack.proofs.claims.tidy.is_tidy_to.Goals as goal
use Rattle.dm_stack.proofs.claims.tidy.is_tidy_to.Goals.{then-next-count+else-meets, else-next-count}
use Rattle.std.specs.Prelude.{◌≡◌}

pub loop-next-preserved : goal.loop-next-preserved
loop-next-preserved c =
    let order = c.args.order.now in
    let k = c.loop-next.next-index in
    let next = c.next-item.result in
    let within = c.loop-next-test.true in
    let is = c.next-item.is in
    elim c.if-next-count.branch [
      | then-next-count+else-meets w ↦
          let none : list_any (λ one. rivals c.args.count one next) (take k order) ≡ false =
          rw (met c.args.count order k next c.requires.sorted within is w.if-next-count.true, ← c.loop-next.invariant.reaches next.claim.to, ← w.at.ensures, ← w.meets.ensures) w.if-meets.false in
          record {
            reaches = λ lower.
                rw (w.reaches-is, w.add.ensures.reach lower, c.loop-next.invariant.reaches lower, reach_more c.args.count lower order k next within is) (counted c.args.count lower (reach_of c.args.count lower (take k order)) next w.if-next-count.true);
            left = search_more c.args.count order k next _ within is none c.loop-next.invariant.left;
            devices = rw (w.reaches-is, w.add.ensures.devices) c.loop-next.invariant.devices;
            disks = rw (w.reaches-is, w.add.ensures.disks) c.loop-next.invariant.disks;
          }
      | else-next-count w ↦ record {
        reaches = λ lower.
            rw (w.reaches-is, c.loop-next.invariant.reaches lower, reach_more c.args.count lower order k next within is) (uncounted c.args.count lower (reach_of c.args.count lower (take k order)) next w.if-next-count.false);
        left = search_more c.args.count order k next _ within is (not_met c.args.count next (take k order) w.if-next-count.false) c.loop-next.invariant.left;
        devices = rw w.reaches-is c.loop-next.invariant.devices;
        disks = rw w.reaches-is c.loop-next.invariant.disks;
      }
    ]

pub returns-then-meets : goal.returns-then-meets
returns-then-meets c =
    let order = c.args.order.now in
    let k = c.loop-next.next-index in
    let next = c.next-item.result in
    let some : list_any (λ one. rivals c.args.count one next) (take k order) ≡ true =
    rw (met c.args.count order k next c.requires.sorted c.loop-next-test.true c.next-item.is c.if-next-count.true, ← c.loop-next.invariant.reaches next.claim.to, ← c.at.ensures, ← c.meets.ensures) c.if-meets.true in
    ap not (sym (search_ends c.args.count order k next _ c.loop-next-test.true c.next-item.is some c.loop-next.invariant.left))
