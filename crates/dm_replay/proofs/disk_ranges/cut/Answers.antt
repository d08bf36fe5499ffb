use Rattle.dm_replay.proofs.Prelude.{arith, IsLastBefore}
use Rattle.dm_replay.proofs.StoredLemmas.{AreParts, parts_apart, parts_keep, sets}
use Rattle.dm_replay.proofs.disk_ranges.cut.Goals.{In_ok-insert-2}
use Rattle.dm_replay.proofs.disk_ranges.cut.Goals as goal

found : (c : In_ok-insert-2) → IsLastBefore c.args.ranges.now c.args.sector c.in-Some.start c.in-Some.range
found c = rw c.in-Some.is at c.requires.some

are_parts : (c : In_ok-insert-2) → AreParts c.args.ranges.now c.insert.new.self c.insert-2.new.self c.in-Some.start c.args.sector c.in-Some.range c.with_len.result c.rest.result
are_parts c = record {
  are = c.requires.apart;
  is = (found c).is;
  ordered = c.insert-2.ensures.ordered;
  set_front = sets _ _ _ _ c.in_ok-insert.ensures.updates;
  set_rest = sets _ _ _ _ c.in_ok-insert-2.ensures.updates;
  after = (found c).before;
  before = omega (arith, c.if-front-range.false, (found c).before);
  front_len = omega (arith, c.with_len.ensures.len, (found c).before);
  front_first = c.with_len.ensures.first;
  rest_len = omega (arith, c.rest.ensures.all (omega (arith, c.if-front-range.false)), (found c).before);
  rest_first = c.rest.ensures.first;
}

pub returns-clause-apart : goal.returns-clause-apart
returns-clause-apart c = parts_apart _ _ _ _ _ _ _ _ (are_parts c)

pub returns-clause-same : goal.returns-clause-same
returns-clause-same c = parts_keep _ _ _ _ _ _ _ _ (are_parts c)
