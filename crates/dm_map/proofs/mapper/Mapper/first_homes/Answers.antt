use Rattle.dm_map.proofs.Prelude.{arith, Disk, lower_small}
use Rattle.dm_map.proofs.mapper.Mapper.first_homes.Goals as goal

pub returns-clause-near : goal.returns-clause-near
returns-clause-near g c =
    let home = c.first_homes-stretch in
    let small = lower_small _ (Disk home.result.disk) c.recall_soundness.ensures in
    omega (arith, home.ensures.is.lies.inside, small)
