use Rattle.lvm_volume.proofs.Prelude.{sym, ◌∙◌, err_from_is_err_and, used_after}
use Rattle.lvm_volume.proofs.checks.HoldLemmas.{volume_passed, volume_stops}
use Rattle.lvm_volume.proofs.fields.Faults.{found_more}
use Rattle.lvm_volume.proofs.checks.extents.check_volumes.Goals as goal

pub returns-in_err-check_segments : goal.returns-in_err-check_segments
returns-in_err-check_segments c =
    let inv = c.loop-volume.invariant.now in
    let used = inv.0 in
    let p = err_from_is_err_and c.from_residual.result c.from_residual.ensures.1 in
    rw (p.1, p.2)
    (found_more (λ found. sym inv.2 ∙ volume_stops c.args.physicals.now used c.args.volumes.now c.loop-volume.volume-index c.volume-item.result c.as_slice.result.now _ c.loop-volume-test.true c.volume-item.is c.as_slice.ensures found)
    (c.in_err-check_segments.ensures.checked used inv.1))

pub loop-volume-preserved : goal.loop-volume-preserved
loop-volume-preserved c =
    let inv = c.loop-volume.invariant.now in
    let used = inv.0 in
    record {
      now = (
        used_after used c.as_slice.result.now,
        c.in_ok-check_segments.ensures.held used inv.1,
        volume_passed c.args.physicals.now used c.args.volumes.now c.loop-volume.volume-index c.volume-item.result c.as_slice.result.now c.loop-volume-test.true c.volume-item.is c.as_slice.ensures (c.in_ok-check_segments.ensures.checked used inv.1) ∙ inv.2,
      );
      len = c.check_segments.ensures.len ∙ c.loop-volume.invariant.len;
    }
