use Rattle.dm_table.proofs.Prelude.{err_from_is_err_and, texts}
use Rattle.dm_table.proofs.tables.TableLines.{device_fault}
use Rattle.dm_table.proofs.tables.table_text.read_device.Goals as goal

pub returns-in_err-read_body : goal.returns-in_err-read_body
returns-in_err-read_body c =
    let p = err_from_is_err_and c.from_residual.result c.from_residual.ensures.1 in
    rw (p.1, p.2) (λ other. device_fault c.args.name.now c.args.at (texts c.args.body.now) _ c.in_err-read_body.field-0.0 (c.in_err-read_body.ensures other))
