use Rattle.dm_stack.proofs.Prelude.{Some, None, sym, err_from_is_err_and}
use Rattle.dm_stack.proofs.checks.FirstFaults.{many_devices, many_disks, many_lines}
use Rattle.dm_stack.proofs.checks.limits.check_counts.Goals as goal

pub returns-in_err-check_count : goal.returns-in_err-check_count
returns-in_err-check_count c =
    let p = err_from_is_err_and c.from_residual.result c.from_residual.ensures.1 in
    rw (p.1, p.2) (sym (many_devices (record { devices = c.args.devices.now; disks = c.args.disks.now }) _ (sym c.in_err-check_count.ensures)))

pub returns-in_err-check_count-2 : goal.returns-in_err-check_count-2
returns-in_err-check_count-2 c =
    let p = err_from_is_err_and c.from_residual-in_err-check_count-2.result c.from_residual-in_err-check_count-2.ensures.1 in
    rw (p.1, p.2) (sym (many_disks (record { devices = c.args.devices.now; disks = c.args.disks.now }) _ (sym c.in_ok-check_count.ensures) (sym c.in_err-check_count-2.ensures)))

pub returns-in-Some : goal.returns-in-Some
returns-in-Some c =
    sym (many_lines (record { devices = c.args.devices.now; disks = c.args.disks.now }) (Some c.in-Some.line.now) (sym c.in_ok-check_count.ensures) (sym c.in_ok-check_count-2.ensures) c.in-Some.ensures)

pub returns-in-None : goal.returns-in-None
returns-in-None c =
    sym (many_lines (record { devices = c.args.devices.now; disks = c.args.disks.now }) None (sym c.in_ok-check_count.ensures) (sym c.in_ok-check_count-2.ensures) c.in-None.ensures)
