use Rattle.lvm_volume.proofs.Prelude.{◌∙◌, option_map}
use Rattle.lvm_volume.proofs.Splits.{fault_built, layer_letters, form_is_long}
use Rattle.lvm_volume.proofs.names.build_name.Goals as goal

pub returns-in-Some : goal.returns-in-Some
returns-in-Some c = fault_built (record { vg = c.args.vg.now; lv = c.args.lv.now; layer = option_map (λ l. l.now) c.args.layer }) c.in-Some.fault c.in-Some.ensures

pub joined-requires-clause-layer : goal.joined-requires-clause-layer
joined-requires-clause-layer c = layer_letters c.args.layer c.args.vg.now c.args.lv.now c.in_default.ensures

pub returns-in-Err-Form : goal.returns-in-Err-Form
returns-in-Err-Form c =
    form_is_long (record { vg = c.args.vg.now; lv = c.args.lv.now; layer = option_map (λ l. l.now) c.args.layer }) c.as_str.result.now c.in_default.ensures
    (c.as_str.ensures.value ∙ c.in-Ok.ensures) (c.in-Err-Form.ensures.form.0 (rw c.in-Err-Form.field-0-is))
