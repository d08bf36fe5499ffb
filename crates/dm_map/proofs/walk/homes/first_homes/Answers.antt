use Rattle.dm_map.proofs.Prelude.{ap, ◌∙◌, subst, arith, home, ground_unit, IsGroundInStack, units_in}
use Rattle.dm_map.proofs.walk.Stores.{not_on_disk, store_row}
use Rattle.dm_map.proofs.walk.UnitRows.{first_reads, homes_go_on}
use Rattle.dm_map.proofs.walk.homes.first_homes.Goals as goal

pub unreachable-requires : goal.unreachable-requires
unreachable-requires g c =
    let a = c.args in let w = a.walker.now in let s = c.first_stretch-stretch.ensures in let n = c.first_stretch-stretch.result.len in let ground = c.first_stretch-stretch.result.ground in
    not_on_disk w.stack w.state a.store a.sector n ground c.recall_soundness.ensures c.requires.store (omega (arith, s.most, c.requires.inside)) s.some
    (first_reads w.stack w.state a.store a.sector n (ground_unit ground) s.read) c.in_default.not-Disk

pub returns-clause-is : goal.returns-clause-is
returns-clause-is g c =
    let a = c.args in let w = a.walker.now in let s = c.first_stretch-stretch.ensures in let n = c.first_stretch-stretch.result.len in let ground = c.first_stretch-stretch.result.ground in
    record {
      some = s.some;
      most = s.most;
      homes = homes_go_on (home w.stack a.store) a.sector c.in-Disk.disk c.in-Disk.start n
          (store_row w.stack w.state a.store a.sector n c.recall_soundness.ensures c.requires.store (omega (arith, s.most, c.requires.inside))
          ∙ first_reads w.stack w.state a.store a.sector n (ground_unit ground) s.read ∙ ap (λ on. units_in (ground_unit on) n) c.in-Disk.is);
      lies = subst (λ on. IsGroundInStack w.stack on n) c.in-Disk.is s.lies;
    }
