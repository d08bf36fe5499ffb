use Rattle.lvm_volume.proofs.Prelude.{Bool, Err, sym, ap, ◌∙◌, nat_lt, Memory, Name, is_disk_name, chosen, fields_view}
use Rattle.lvm_volume.specs.group.PhysicalFields as spec
use Rattle.lvm_volume.proofs.group.PhysicalLemmas.{named, unnamed}
use Rattle.lvm_volume.proofs.group.physical.with_disk_name.Goals as goal
use Rattle.std.specs.Prelude.{◌≡◌}

pub returns-in-Ok : goal.returns-in-Ok
returns-in-Ok c = λ devices counts.
    let fields = fields_view c.args.fields.now in
    let disk = ap (λ (shared : Bool). chosen shared fields.key fields.device) (c.is_shared-shared.ensures ∙ ap (nat_lt 1) (counts fields.device)) in
    let same : spec.with_disk_name devices fields ≡ record { disk = c.in-Ok.disk; size = fields.size; start = fields.start; count = fields.count; line = fields.line } =
    rw (← disk, ← c.in-Ok.ensures.named) in
    rw (← same) (named (spec.with_disk_name devices fields) (ap is_disk_name (sym disk) ∙ c.in-Ok.ensures.tested))

pub returns-in-Err-Form : goal.returns-in-Err-Form
returns-in-Err-Form c = λ devices counts.
    let fields = fields_view c.args.fields.now in
    let disk = ap (λ (shared : Bool). chosen shared fields.key fields.device) (c.is_shared-shared.ensures ∙ ap (nat_lt 1) (counts fields.device)) in (
      λ memory. let none : Name ≡ Memory = sym (rw c.source_fault.ensures) ∙ memory in absurd cc,
      λ other. unnamed (spec.with_disk_name devices fields) (ap is_disk_name (sym disk) ∙ c.in-Err-Form.ensures.form (ap Err c.in-Err-Form.field-0-is)) ∙ ap Err (sym c.source_fault.ensures),
    )
