use Rattle.dmremap.proofs.Prelude.{rules}
use Rattle.dmremap.proofs.PrintLemmas.{text_done}
use Rattle.dmremap.proofs.printing.print_stack.Goals as goal
use Rattle.std.specs.Prelude.{◌≡◌}

pub returns : goal.returns
returns g c =
    let same : c.deref.result.now ≡ c.args.stack.devices = search rules in
    rw same at (text_done c.write_devices.result _ c.after.result c.after.ensures c.write_devices.ensures)
