use Rattle.dm_map.proofs.Prelude.{refl, sym, ◌∙◌, arith, both_ways, taken_at, device_there}
use Rattle.dm_map.proofs.walk.Served.{chunk_more, chunk_settled, over_sound}
use Rattle.dm_map.proofs.walk.serving.settled_in.Goals as goal
use Rattle.std.specs.Prelude.{◌+◌}

pub loop-part-init : goal.loop-part-init
loop-part-init g c =
    let a = c.args in let one = a.one.now in
    let some = (over_sound a.walker.now.stack (a.sector + a.most) one c.recall_soundness.ensures c.requires.over).chunk_some in
    let part_is = c.part_of_chunk-part.ensures in
    record {
      some = omega (arith, part_is, some, c.requires.some);
      most = omega (arith, part_is);
      settled = λ i within. chunk_settled (taken_at a.walker.now.state one.device) one.snapshot a.sector c.part_of_chunk-part.result i some (omega (arith, part_is)) within c.requires.here;
    }

pub is_settled-requires : goal.is_settled-requires
is_settled-requires g c = device_there c.args.walker.now.stack c.args.one.now.device 0 (let long = c.requires.over.long in omega (arith, long, c.requires.some))

pub loop-part-smaller : goal.loop-part-smaller
loop-part-smaller g c =
    let a = c.args in
    let some = (over_sound a.walker.now.stack (a.sector + a.most) a.one.now c.recall_soundness.ensures c.requires.over).chunk_some in
    omega (arith, c.part_of_chunk-part-in-loop-part.ensures, some, c.loop-part-test.true)

pub loop-part-preserved : goal.loop-part-preserved
loop-part-preserved g c =
    let a = c.args in let one = a.one.now in let l = c.loop-part in let n = c.part_of_chunk-part-in-loop-part.result in
    let some = (over_sound a.walker.now.stack (a.sector + a.most) one c.recall_soundness.ensures c.requires.over).chunk_some in
    let n_is = c.part_of_chunk-part-in-loop-part.ensures in
    record {
      some = omega (arith, l.invariant.some);
      most = omega (arith, n_is, c.loop-part-test.true);
      settled = chunk_more (taken_at a.walker.now.state one.device) one.snapshot a.sector l.part n some (omega (arith, n_is)) (rw c.chunk_of.ensures at (sym c.is_settled.ensures ∙ c.if-is_settled.true)) l.invariant.settled;
    }

-- in a lost snapshot all sectors are settled

pub returns-then-not-is_valid : goal.returns-then-not-is_valid
returns-then-not-is_valid g c =
    let lost = sym c.is_valid.ensures.valid ∙ c.if-not-is_valid.true in
    record { some = c.requires.some; most = omega arith; holds = λ i within. rw lost refl; whole = λ less. absurd (omega (arith, less)) }

-- the loop ends at a chunk that isn't settled, or after the last sector

pub returns-else-is_settled : goal.returns-else-is_settled
returns-else-is_settled g c =
    let so_far = c.loop-part.invariant in
    record { some = so_far.some; most = so_far.most; holds = so_far.settled; whole = λ less settled. both_ways _ (rw c.chunk_of.ensures at (sym c.is_settled.ensures ∙ c.if-is_settled.false)) settled }

pub returns-after-loop-part : goal.returns-after-loop-part
returns-after-loop-part g c =
    let so_far = c.loop-part.invariant in
    record { some = so_far.some; most = so_far.most; holds = so_far.settled; whole = λ less. absurd (omega (arith, less, c.loop-part-test.false)) }
