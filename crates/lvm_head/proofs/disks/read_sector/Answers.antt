use Rattle.lvm_head.proofs.Prelude.{length, arith}
use Rattle.lvm_head.proofs.TextLemmas.{one_read}
use Rattle.lvm_head.proofs.disks.read_sector.Goals as goal
use Rattle.std.specs.Prelude.{◌≡◌}

pub returns-clause-is : goal.returns-clause-is
returns-clause-is g c = λ held seen.
    let len : length c.read.new.into ≡ 512 = let same = c.read.auto.into in omega (arith, same, c.requires.len) in
    one_read (held c.args.disk) c.args.sector c.read.result c.read.new.into len (c.read.ensures.is held seen)
