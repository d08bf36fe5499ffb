use Rattle.dm_table.proofs.Prelude.{err_from_is_err_and, Bool, refl, DiskPath, texts, is_disk_name, place_in, path_at}
use Rattle.dm_table.proofs.tables.PairRows.{pair_read, pair_refused}
use Rattle.dm_table.proofs.tables.path_list.DiskPathFromRows.read_row.Goals as goal

abbrev is_named : DiskPath → Bool
is_named disk = is_disk_name disk.disk

pub returns-in_err-read_path-clause-fault : goal.returns-in_err-read_path-clause-fault
returns-in_err-read_path-clause-fault c =
    let p = err_from_is_err_and c.from_residual.result c.from_residual.ensures.1 in
    rw (p.1, p.2) (λ other. pair_refused place_in path_at is_named (λ n name value. refl) c.args.number (texts c.args.row.now) _ (c.in_err-read_path.ensures other))

pub returns-clause-values : goal.returns-clause-values
returns-clause-values c =
    rw (pair_read place_in path_at is_named (λ n name value. refl) c.args.number (texts c.args.row.now) _ c.in_ok-read_path.ensures).1 c.in_ok-push.ensures.items

pub returns-clause-fault : goal.returns-clause-fault
returns-clause-fault c = (pair_read place_in path_at is_named (λ n name value. refl) c.args.number (texts c.args.row.now) _ c.in_ok-read_path.ensures).0
