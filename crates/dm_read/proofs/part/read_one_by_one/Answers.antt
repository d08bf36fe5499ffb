use Rattle.dm_read.proofs.Prelude.{arith, ReadOf, disk_contents, unit_bytes}
use Rattle.dm_read.proofs.FilledLemmas.{kept_more, more_in, of_disks}
use Rattle.dm_read.proofs.part.read_one_by_one.Goals as goal
use Rattle.std.specs.Prelude.{◌+◌}

pub loop-done-preserved : goal.loop-done-preserved
loop-done-preserved g c =
    let a = c.args in let loop = c.loop-done in let block = c.read_at.new.block in
    record {
      within = omega (arith, c.loop-done-test.true);
      kept = kept_more a.at loop.done a.block.now loop.block block loop.invariant.kept c.read_at.ensures.kept;
      still = λ held seen. loop.invariant.still held (c.read_at.ensures.still held seen);
      each = λ held seen.
          let disks = disk_contents a.places.now held in
          more_in (λ i. unit_bytes disks (ReadOf a.disk (a.start + i))) a.at loop.done 1 loop.block block c.read_at.ensures.kept
          (loop.invariant.each held (c.read_at.ensures.still held seen))
          (of_disks (disks a.disk) a.start loop.done a.at 1 block (c.in-Ok.ensures.sectors held seen));
    }
