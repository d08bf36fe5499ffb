use Rattle.dm_stream.proofs.Prelude.{refl, err_from_is_err_and, stopped, and_then, device_len, name_at, after_name}
use Rattle.dm_stream.proofs.runs.status_lines.write_line.Goals as goal

pub returns-in_err-write_all : goal.returns-in_err-write_all
returns-in_err-write_all g c =
    let p = err_from_is_err_and c.from_residual.result c.from_residual.ensures.1 in
    let stack = c.args.stack.now in
    rw (p.1, p.2) (stopped (name_at stack c.args.device) (after_name (device_len stack c.args.device) c.args.usage) refl (rw (c.as_bytes.ensures.value, c.name.ensures.name) at c.in_err-write_all.ensures.wrote))

pub returns : goal.returns
returns g c =
    let stack = c.args.stack.now in
    and_then (name_at stack c.args.device) (after_name (device_len stack c.args.device) c.args.usage) refl (rw (c.as_bytes.ensures.value, c.name.ensures.name) at c.in_ok-write_all.ensures.wrote)
    (rw (c.as_slice.ensures.value, c.after_name.ensures, c.len.ensures.len) at c.write_all-2.ensures.wrote)
