use Rattle.dm_table.proofs.Prelude.{[], map, refl, join_with_byte, err_from_is_err_and, concise_device}
use Rattle.dm_table.proofs.io.WriteLemmas.{stopped}
use Rattle.dm_table.proofs.tables.canonical_text.write_ended.Goals as goal
use Rattle.std.specs.Prelude.{◌∷◌}

pub returns-in_err-write_devices : goal.returns-in_err-write_devices
returns-in_err-write_devices g c =
    let p = err_from_is_err_and c.from_residual.result c.from_residual.ensures.1 in
    rw (p.1, p.2) (stopped (join_with_byte 59 (map concise_device c.args.devices.now)) (10 ∷ []) refl c.in_err-write_devices.ensures)
