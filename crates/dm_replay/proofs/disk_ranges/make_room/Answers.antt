use Rattle.dm_replay.proofs.StoredLemmas.{room_in_all, room_there}
use Rattle.dm_replay.proofs.disk_ranges.make_room.Goals as goal

pub returns-clause-made : goal.returns-clause-made
returns-clause-made c = record {
  cut = c.cut-2.new.ranges;
  same = λ stored shows. c.in_ok-cut.ensures.same stored (c.in_ok-cut-in-Some.ensures.same stored shows);
  cut_start = c.in_ok-cut.ensures.cut;
  cut_end = c.in_ok-cut.ensures.cuts c.args.end c.in_ok-cut-in-Some.ensures.cut;
  is_cleared = c.clear.ensures.cleared;
}

pub returns-in-None-clause-made : goal.returns-in-None-clause-made
returns-in-None-clause-made c = room_in_all c.args.ranges.now c.args.start c.args.end (c.last_before.ensures.none c.in-None.is) c.requires.order

pub returns-then-range-start-clause-made : goal.returns-then-range-start-clause-made
returns-then-range-start-clause-made c = room_there c.args.ranges.now c.args.start c.args.end c.in-Some.at c.in-Some.range c.requires.apart c.in-Some.ensures.some c.if-at-start.true c.if-range-start.true c.requires.order
