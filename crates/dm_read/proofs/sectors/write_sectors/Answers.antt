use Rattle.dm_read.proofs.Prelude.{ℕ, List, take, Result, None, ap, subst, ◌∙◌, arith, err_from_is_err_and, MapperView, with_looked, disk_contents, written_since, written_more, ByteFault, Reading, after, bytes_of, device_bytes, AreFilled}
use Rattle.dm_read.proofs.ByteLemmas.{all_written, block_filled, none_left, part_cut, part_moved, part_written, stopped_first}
use Rattle.dm_read.proofs.FilledLemmas.{all_at, fewer_at, most_at, stopped_at}
use Rattle.dm_read.proofs.sectors.write_sectors.Goals as goal
use Rattle.std.specs.Prelude.{◌≡◌, ◌+◌, ◌-◌, ◌*◌}

-- ---- a write failed

pub returns-in_err-write_all-clause-wrote : goal.returns-in_err-write_all-clause-wrote
returns-in_err-write_all-clause-wrote g c = λ held seen.
    let a = c.args in let loop = c.loop-left in let filled = c.fill_block-filled.result in let block = c.fill_block-filled.new.block in let m = a.mapper.now in
    let sectors : ℕ → Result (List ℕ) ByteFault = device_bytes m.stack m.state (disk_contents a.places.now held) a.device in
    let are : AreFilled (λ i. sectors (loop.sector + i)) filled 0 block =
    subst (λ (v : MapperView). AreFilled (λ i. device_bytes v.stack v.state (disk_contents a.places.now held) a.device (loop.sector + i)) filled 0 block) loop.invariant.same (c.fill_block-filled.ensures.filled held seen) in
    let most = most_at c.min-count.result filled c.fill_block-filled.ensures.counted in
    let parts = block_filled sectors loop.sector loop.left filled block (omega (arith, most, c.min-count.ensures)) are in
    let is = err_from_is_err_and c.from_residual.result c.from_residual.ensures.1 in
    rw is.1
    (part_cut (g.W.Output.past a.output.now) (g.W.Output.past loop.output) (g.W.Output.past c.write_all.new.writer) (bytes_of sectors a.start a.len) (bytes_of sectors loop.sector loop.left)
    (bytes_of sectors (loop.sector + filled.count) (loop.left - filled.count)) (take (512 * filled.count) block) _ loop.invariant.moved (loop.invariant.parts held (c.fill_block-filled.ensures.still held seen)) parts c.in_err-write_all.ensures.wrote)

pub returns-in_err-write_all-clause-moved : goal.returns-in_err-write_all-clause-moved
returns-in_err-write_all-clause-moved g c =
    let is = err_from_is_err_and c.from_residual.result c.from_residual.ensures.1 in
    rw is.1 (written_more (g.W.Output.past c.args.output.now) (g.W.Output.past c.loop-left.output) (g.W.Output.past c.write_all.new.writer) 1 c.loop-left.invariant.moved c.in_err-write_all.ensures.wrote.moved)

-- ---- a sector has no bytes

pub returns-in-Some-clause-wrote : goal.returns-in-Some-clause-wrote
returns-in-Some-clause-wrote g c = λ held seen.
    let a = c.args in let loop = c.loop-left in let filled = c.fill_block-filled.result in let block = c.fill_block-filled.new.block in let m = a.mapper.now in
    let sectors : ℕ → Result (List ℕ) ByteFault = device_bytes m.stack m.state (disk_contents a.places.now held) a.device in
    let are : AreFilled (λ i. sectors (loop.sector + i)) filled 0 block =
    subst (λ (v : MapperView). AreFilled (λ i. device_bytes v.stack v.state (disk_contents a.places.now held) a.device (loop.sector + i)) filled 0 block) loop.invariant.same (c.fill_block-filled.ensures.filled held seen) in
    let fewer = fewer_at c.min-count.result filled c.in-Some.fault c.in-Some.is c.fill_block-filled.ensures.counted in
    let parts = block_filled sectors loop.sector loop.left filled block (omega (arith, fewer, c.min-count.ensures)) are in
    let rest : Reading = bytes_of sectors (loop.sector + filled.count) (loop.left - filled.count) in
    let before = g.W.Output.past a.output.now in let middle = g.W.Output.past loop.output in let new = g.W.Output.past c.write_all.new.writer in
    all_written (written_since before new) (bytes_of sectors a.start a.len) rest _
    (part_written before middle new (bytes_of sectors a.start a.len) (bytes_of sectors loop.sector loop.left) rest (take (512 * filled.count) block) loop.invariant.moved (loop.invariant.parts held (c.fill_block-filled.ensures.still held seen)) parts c.in_ok-write_all.ensures.wrote)
    (stopped_first sectors (loop.sector + filled.count) (loop.left - filled.count) c.in-Some.fault (omega (arith, fewer, c.min-count.ensures)) (stopped_at (λ i. sectors (loop.sector + i)) filled 0 block c.in-Some.fault c.in-Some.is are))

pub returns-in-Some-clause-moved : goal.returns-in-Some-clause-moved
returns-in-Some-clause-moved g c =
    part_moved (g.W.Output.past c.args.output.now) (g.W.Output.past c.loop-left.output) (g.W.Output.past c.write_all.new.writer) (take (512 * c.fill_block-filled.result.count) c.fill_block-filled.new.block) c.loop-left.invariant.moved c.in_ok-write_all.ensures.wrote

-- ---- all sectors of a block have bytes

pub loop-left-preserved : goal.loop-left-preserved
loop-left-preserved g c =
    let a = c.args in let loop = c.loop-left in let filled = c.fill_block-filled.result in let block = c.fill_block-filled.new.block in let m = a.mapper.now in
    let all : filled.count ≡ c.min-count.result = all_at c.min-count.result filled c.in_default.is c.fill_block-filled.ensures.counted in
    let before = g.W.Output.past a.output.now in let middle = g.W.Output.past loop.output in let new = g.W.Output.past c.write_all.new.writer in
    record {
      place = omega (arith, loop.invariant.place, c.min-count.ensures);
      len = c.fill_block-filled.auto.block ∙ loop.invariant.len;
      same = c.fill_block-filled.ensures.same ∙ ap (λ (v : MapperView). with_looked v c.fill_block-filled.new.mapper.looked) loop.invariant.same;
      still = λ held seen. loop.invariant.still held (c.fill_block-filled.ensures.still held seen);
      moved = part_moved before middle new (take (512 * filled.count) block) loop.invariant.moved c.in_ok-write_all.ensures.wrote;
      parts = λ held seen.
          let sectors : ℕ → Result (List ℕ) ByteFault = device_bytes m.stack m.state (disk_contents a.places.now held) a.device in
          let are : AreFilled (λ i. sectors (loop.sector + i)) filled 0 block =
          subst (λ (v : MapperView). AreFilled (λ i. device_bytes v.stack v.state (disk_contents a.places.now held) a.device (loop.sector + i)) filled 0 block) loop.invariant.same (c.fill_block-filled.ensures.filled held seen) in
          let parts = block_filled sectors loop.sector loop.left filled block (omega (arith, all, c.min-count.ensures)) are in
          subst (λ (n : ℕ). bytes_of sectors a.start a.len ≡ after (written_since before new) (bytes_of sectors (loop.sector + n) (loop.left - n))) all
          (part_written before middle new (bytes_of sectors a.start a.len) (bytes_of sectors loop.sector loop.left) (bytes_of sectors (loop.sector + filled.count) (loop.left - filled.count)) (take (512 * filled.count) block) loop.invariant.moved
          (loop.invariant.parts held (c.fill_block-filled.ensures.still held seen)) parts c.in_ok-write_all.ensures.wrote);
    }

pub returns-clause-wrote : goal.returns-clause-wrote
returns-clause-wrote g c = λ held seen.
    let a = c.args in let loop = c.loop-left in let m = a.mapper.now in
    let sectors : ℕ → Result (List ℕ) ByteFault = device_bytes m.stack m.state (disk_contents a.places.now held) a.device in
    let none : loop.left ≡ 0 = omega (arith, c.loop-left-test.false) in
    all_written (written_since (g.W.Output.past a.output.now) (g.W.Output.past loop.output)) (bytes_of sectors a.start a.len) (bytes_of sectors loop.sector loop.left) None (loop.invariant.parts held seen)
    (ap (λ (n : ℕ). bytes_of sectors loop.sector n) none ∙ none_left sectors loop.sector)
