use Rattle.dm_stack.proofs.Prelude.{ℕ, List, ap, ◌∙◌, position, is_same}
use Rattle.dm_table.specs.declared.tables.disk.Disk.{Disk}
use Rattle.dm_stack.proofs.checks.PathFaults.{unknown_told}
use Rattle.dm_stack.proofs.checks.paths.is_unknown_path.Goals as goal

pub returns : goal.returns
returns c =
    unknown_told c.disk.result _ c.is_none.result c.is_none.ensures
    (c.disk.ensures ∙ ap (λ (name : List ℕ). position (λ (disk : Disk). is_same disk.name name) c.args.stack.now.disks) c.as_str.ensures.text)
