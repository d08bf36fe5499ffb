use Rattle.lvm_volume.proofs.Prelude.{arith, name_parts}
use Rattle.lvm_volume.proofs.NameLengths.{length_joined}
use Rattle.lvm_volume.proofs.Splits.{fault_first, too_long}
use Rattle.lvm_volume.proofs.names.name_fault.Goals as goal

pub returns-in-Some : goal.returns-in-Some
returns-in-Some c = fault_first (name_parts c.args.vg.now c.args.lv.now c.args.layer) c.in-Some.fault c.in-Some.ensures

pub returns-else-doubled_length-layer_length-le127 : goal.returns-else-doubled_length-layer_length-le127
returns-else-doubled_length-layer_length-le127 c =
    let p = name_parts c.args.vg.now c.args.lv.now c.args.layer in
    too_long p c.in_default.ensures (omega (arith, length_joined p, c.doubled_length.ensures.len, c.doubled_length-2.ensures.len, c.layer_length.ensures.len))
