use Rattle.lvm_head.proofs.Prelude.{arith}
use Rattle.lvm_head.proofs.TextLemmas.{byte_read}
use Rattle.lvm_head.proofs.text.read_row.Goals as goal

pub returns-in-Ok-clause-bytes : goal.returns-in-Ok-clause-bytes
returns-in-Ok-clause-bytes g c = λ held seen i less.
    byte_read (held c.args.disk) c.args.place i _ c.read_sectors.new.block (c.in-Ok.ensures.sectors held seen) (omega (arith, less))

pub returns-in-Ok-read_sectors-clause-bytes : goal.returns-in-Ok-read_sectors-clause-bytes
returns-in-Ok-read_sectors-clause-bytes g c = λ held seen i less.
    byte_read (held c.args.disk) c.args.place i 1 c.read_sectors-in-Err.new.block (c.in-Ok-read_sectors.ensures.sectors held seen) (omega (arith, less, c.min.ensures))
