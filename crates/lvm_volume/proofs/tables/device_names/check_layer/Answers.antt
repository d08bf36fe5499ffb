use Rattle.lvm_volume.proofs.Prelude.{[], None, Some, sym, ◌∙◌, append-nil, err_from_is_err_and, first_or, unnamed_layer}
use Rattle.lvm_volume.proofs.fields.Faults.{first_after, first_here}
use Rattle.lvm_volume.proofs.tables.device_names.check_layer.Goals as goal
use Rattle.std.specs.Prelude.{◌≡◌, ◌++◌}

pub returns-in_err-check_device : goal.returns-in_err-check_device
returns-in_err-check_device c =
    let layer = unnamed_layer c.args.group.now c.args.volume.now (Some c.args.layer) in
    let p = err_from_is_err_and c.from_residual.result c.from_residual.ensures.1 in
    rw (p.1, p.2) (sym (first_here layer (unnamed_layer c.args.group.now c.args.volume.now None ++ []) None _ (sym c.in_err-check_device.ensures)))

pub returns : goal.returns
returns c =
    let layer = unnamed_layer c.args.group.now c.args.volume.now (Some c.args.layer) in
    let own = unnamed_layer c.args.group.now c.args.volume.now None in
    let both : first_or (layer ++ (own ++ [])) None ≡ first_or own None =
    rw (first_after layer (own ++ []) None (sym c.in_ok-check_device.ensures), append-nil own) in
    c.check_device-2.ensures ∙ sym both
