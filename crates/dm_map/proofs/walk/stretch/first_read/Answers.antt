use Rattle.dm_map.proofs.Prelude.{ℕ, arith, IsSound, Device, Disk, Description, lower_small, Ground, read, IsGroundInStack, IsGroundNear, ground_unit}
use Rattle.dm_map.specs.declared.walk.stretch.Ground.TheVariants as grounds
use Rattle.dm_map.proofs.walk.UnitRows.{first_reads, reads_at}
use Rattle.dm_map.proofs.walk.stretch.first_read.Goals as goal

near_by : (stack : Description) (ground : Ground) (len : ℕ) → IsSound stack → IsGroundInStack stack ground len → IsGroundNear ground len
near_by stack (grounds.Disk disk start) len sound lies =
    let small = lower_small stack (Disk disk) sound in
    omega (arith, lies.inside, small)
near_by stack grounds.Zeros len sound lies = tt
near_by stack grounds.Fails len sound lies = tt

pub returns-clause-is : goal.returns-clause-is
returns-clause-is g c =
    let a = c.args in let w = a.walker.now in let s = c.first_stretch.ensures in let first = c.first_stretch.result in
    record {
      some = s.some;
      most = s.most;
      units = reads_at (read w.stack w.state (Device a.device)) a.sector first.len first.ground (first_reads w.stack w.state (Device a.device) a.sector first.len (ground_unit first.ground) s.read);
      lies = s.lies;
    }

pub returns-clause-near : goal.returns-clause-near
returns-clause-near g c =
    near_by _ c.first_stretch.result.ground c.first_stretch.result.len c.recall_soundness.ensures c.first_stretch.ensures.lies
