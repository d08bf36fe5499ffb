use Rattle.dm_read.proofs.Prelude.{ap, subst, ◌∙◌, arith, MapperView, with_looked, read, IsFirstRead, disk_contents, device_bytes}
use Rattle.dm_stack.specs.declared.id.Lower.TheVariants.{Device}
use Rattle.dm_read.proofs.FilledLemmas.{all_at, at_ground, fewer_at, front_more, of_ground, stopped_at}
use Rattle.dm_read.proofs.block.fill_block.Goals as goal
use Rattle.std.specs.Prelude.{◌≡◌, ◌+◌, ◌-◌, ◌<◌}

pub returns-in-Some-clause-filled : goal.returns-in-Some-clause-filled
returns-in-Some-clause-filled g c = λ held seen.
    let a = c.args in let loop = c.loop-done in let stretch = c.first_read-stretch.result in let filled = c.read_ground-filled.result in let block = c.read_ground-filled.new.block in
    let m = a.mapper.now in let disks = disk_contents a.places.now held in
    let is : IsFirstRead m.stack m.state (Device a.device) (a.sector + loop.done) (a.count - loop.done) stretch =
    subst (λ (v : MapperView). IsFirstRead v.stack v.state (Device a.device) (a.sector + loop.done) (a.count - loop.done) stretch) loop.invariant.same c.first_read-stretch.ensures.is in
    let fewer : filled.count < stretch.len = fewer_at stretch.len filled c.in-Some.fault c.in-Some.is c.read_ground-filled.ensures.counted in
    let are = c.read_ground-filled.ensures.filled held seen in
    record {
      each = front_more (λ i. device_bytes m.stack m.state disks a.device (a.sector + i)) loop.done filled.count loop.block block c.read_ground-filled.ensures.kept
          (loop.invariant.each held (c.read_ground-filled.ensures.still held seen))
          (of_ground disks (read m.stack m.state (Device a.device)) stretch.ground a.sector loop.done filled.count stretch.len block (omega (arith, fewer)) is.units are.each);
      stopped = at_ground disks (read m.stack m.state (Device a.device)) stretch.ground a.sector loop.done stretch.len filled.count fewer is.units
          ∙ stopped_at _ filled loop.done block c.in-Some.fault c.in-Some.is are;
    }

pub loop-done-preserved : goal.loop-done-preserved
loop-done-preserved g c =
    let a = c.args in let loop = c.loop-done in let stretch = c.first_read-stretch.result in let filled = c.read_ground-filled.result in let block = c.read_ground-filled.new.block in
    let m = a.mapper.now in
    let is : IsFirstRead m.stack m.state (Device a.device) (a.sector + loop.done) (a.count - loop.done) stretch =
    subst (λ (v : MapperView). IsFirstRead v.stack v.state (Device a.device) (a.sector + loop.done) (a.count - loop.done) stretch) loop.invariant.same c.first_read-stretch.ensures.is in
    let all : filled.count ≡ stretch.len = all_at stretch.len filled c.in_default.is c.read_ground-filled.ensures.counted in
    record {
      within = omega (arith, all, is.most, c.loop-done-test.true);
      len = c.read_ground-filled.ensures.kept.len ∙ loop.invariant.len;
      same = c.first_read-stretch.ensures.same ∙ ap (λ (v : MapperView). with_looked v c.first_read-stretch.new.self.looked) loop.invariant.same;
      still = λ held seen. loop.invariant.still held (c.read_ground-filled.ensures.still held seen);
      each = λ held seen.
          let disks = disk_contents a.places.now held in
          front_more (λ i. device_bytes m.stack m.state disks a.device (a.sector + i)) loop.done filled.count loop.block block c.read_ground-filled.ensures.kept
          (loop.invariant.each held (c.read_ground-filled.ensures.still held seen))
          (of_ground disks (read m.stack m.state (Device a.device)) stretch.ground a.sector loop.done filled.count stretch.len block (omega (arith, all)) is.units (c.read_ground-filled.ensures.filled held seen).each);
    }
