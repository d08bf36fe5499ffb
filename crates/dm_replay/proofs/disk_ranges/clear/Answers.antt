use Rattle.dm_replay.proofs.StoredLemmas.{cleared_more, fewer_apart, sets, taken_out}
use Rattle.dm_replay.proofs.disk_ranges.clear.Goals as goal

pub loop-at-preserved : goal.loop-at-preserved
loop-at-preserved c =
    let was = c.loop-at.invariant in let found = c.in-Some.ensures.some in
    record {
      apart = fewer_apart c.loop-at.ranges c.remove.new.self was.apart c.remove.ensures.ordered
          (λ at range is. taken_out c.loop-at.ranges c.remove.new.self c.in-Some.at at range (sets _ _ _ _ c.remove.ensures.updates) is);
      cleared = cleared_more c.args.ranges.now c.loop-at.ranges c.remove.new.self c.args.start c.args.end c.in-Some.at was.cleared found.from found.before (sets _ _ _ _ c.remove.ensures.updates);
    }
