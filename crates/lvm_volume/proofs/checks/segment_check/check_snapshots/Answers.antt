use Rattle.lvm_volume.proofs.Prelude.{List, ap, ◌∙◌, Role, least_line_of, is_bad_snapshot}
use Rattle.lvm_volume.proofs.fields.Faults.{checked}
use Rattle.lvm_volume.proofs.checks.segment_check.check_snapshots.Goals as goal

pub returns : goal.returns
returns c =
    let volumes = c.args.volumes.now in
    let roles = c.deref.ensures.value ∙ c.in-Ok.ensures in
    let line = c.least_line_of.ensures ∙ ap (λ (all : List Role). least_line_of (is_bad_snapshot volumes all) volumes) roles in
    checked _ _ (rw (← line) c.check_least.ensures)
