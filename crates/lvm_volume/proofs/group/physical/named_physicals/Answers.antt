use Rattle.lvm_volume.proofs.Prelude.{[], List, sym, ap, ◌∙◌, map, drop, append_assoc, err_from_is_err_and, Physical, all_named, fields_view, with_disk_name, devices_in}
use Rattle.lvm_volume.proofs.group.PhysicalLemmas.{refused_here, taken_here}
use Rattle.lvm_volume.proofs.group.physical.named_physicals.Goals as goal
use Rattle.std.specs.Prelude.{◌+◌, ◌++◌, ◌∷◌}

pub returns-in_err-physical : goal.returns-in_err-physical
returns-in_err-physical c =
    let all = c.args.all.now in
    let devices = devices_in (map fields_view all) in
    let h = c.in_err-physical.ensures devices c.in-Ok.ensures in
    let p = err_from_is_err_and c.from_residual.result c.from_residual.ensures.1 in
    rw (p.1, p.2) (
      h.0,
      λ other. refused_here (with_disk_name devices) all c.loop-fields.fields-index _ (all_named (map fields_view all)) _ c.loop-fields-test.true c.loop-fields.invariant.left (h.1 other),
    )

pub loop-fields-preserved : goal.loop-fields-preserved
loop-fields-preserved c =
    let all = c.args.all.now in
    let devices = devices_in (map fields_view all) in
    let more = map (with_disk_name devices) (map fields_view (drop (c.loop-fields.fields-index + 1) all)) in
    let step = taken_here (with_disk_name devices) all c.loop-fields.fields-index _ c.in_ok-physical.physical c.loop-fields-test.true (c.in_ok-physical.ensures devices c.in-Ok.ensures) in
    record {
      made =
          rw c.in-Ok-push.ensures.items (append_assoc c.loop-fields.physicals.items (c.in_ok-physical.physical ∷ []) more ∙ ap (λ (ps : List Physical). c.loop-fields.physicals.items ++ ps) (sym step.0) ∙ c.loop-fields.invariant.made);
      left = step.1 ∙ c.loop-fields.invariant.left;
    }
