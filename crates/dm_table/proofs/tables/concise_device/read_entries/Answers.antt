use Rattle.dm_table.proofs.Prelude.{length, take, drop, err_from_is_err_and, texts}
use Rattle.dm_table.proofs.tables.ConciseFaults.{few_entries, entries_fault, entries_read, entries_named}
use Rattle.dm_table.proofs.tables.concise_device.read_entries.Goals as goal
use Rattle.std.specs.Prelude.{◌-◌}

pub returns-in_default : goal.returns-in_default
returns-in_default c = λ other. few_entries c.args.number c.args.on_a_line c.args.entries.now c.in_default.len_below

pub returns-in_err-lines : goal.returns-in_err-lines
returns-in_err-lines c =
    let p = err_from_is_err_and c.from_residual.result c.from_residual.ensures.1 in
    rw (p.1, p.2) (λ other. entries_fault c.args.number c.args.on_a_line c.args.entries.now c.in_err-lines.field-0.0 c.entry_label_fault-fault.result c.in-len4-up.len_at_least c.entry_label_fault-fault.ensures (c.in_err-lines.ensures other))

pub returns : goal.returns
returns c =
    rw (c.in_ok-of_bytes.ensures, c.is_ro.ensures) (entries_read c.args.number c.args.on_a_line c.args.entries.now _ _ c.in_ok-lines.lines c.entry_label_fault-fault.result c.in-len4-up.len_at_least c.entry_label_fault-fault.ensures c.in_ok-lines.ensures)

pub of_bytes-requires : goal.of_bytes-requires
of_bytes-requires c =
    entries_named c.args.number c.args.on_a_line c.args.entries.now _ (texts (take (length c.args.entries.now - 4) (drop 4 c.args.entries.now))) c.in_ok-lines.lines c.entry_label_fault-fault.result c.in-len4-up.len_at_least c.entry_label_fault-fault.ensures c.in_ok-lines.ensures
