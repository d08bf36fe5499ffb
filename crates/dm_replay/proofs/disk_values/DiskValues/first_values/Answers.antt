use Rattle.dm_replay.proofs.Prelude.{arith}
use Rattle.dm_replay.proofs.StoredLemmas.{none_hold}
use Rattle.dm_replay.proofs.disk_values.DiskValues.first_values.Goals as goal

pub returns : goal.returns
returns c = record {
  some = c.requires.some;
  most = omega arith;
  hold = none_hold c.args.self.now.disks.items c.args.disk c.args.start c.args.len (omega (arith, c.if-index-len.false));
}
