use Rattle.dm_table.proofs.Prelude.{err_from_is_err_and, Bool, refl, Disk, texts, is_disk_name, disk_at, number_of}
use Rattle.dm_table.proofs.tables.PairRows.{pair_read, pair_refused}
use Rattle.dm_table.proofs.tables.disk_list.DiskFromRows.read_row.Goals as goal

abbrev is_named : Disk → Bool
is_named disk = is_disk_name disk.name

pub returns-in_err-read_disk-clause-fault : goal.returns-in_err-read_disk-clause-fault
returns-in_err-read_disk-clause-fault c =
    let p = err_from_is_err_and c.from_residual.result c.from_residual.ensures.1 in
    rw (p.1, p.2) (λ other. pair_refused number_of disk_at is_named (λ n name value. refl) c.args.number (texts c.args.row.now) _ (c.in_err-read_disk.ensures other))

pub returns-clause-values : goal.returns-clause-values
returns-clause-values c =
    rw (pair_read number_of disk_at is_named (λ n name value. refl) c.args.number (texts c.args.row.now) _ c.in_ok-read_disk.ensures).1 c.in_ok-push.ensures.items

pub returns-clause-fault : goal.returns-clause-fault
returns-clause-fault c = (pair_read number_of disk_at is_named (λ n name value. refl) c.args.number (texts c.args.row.now) _ c.in_ok-read_disk.ensures).0
