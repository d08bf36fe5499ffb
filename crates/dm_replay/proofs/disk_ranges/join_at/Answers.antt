use Rattle.dm_replay.proofs.Prelude.{arith, rules}
use Rattle.dm_replay.proofs.StoredLemmas.{AreJoined, joined_apart, joined_keep, sets}
use Rattle.dm_replay.proofs.disk_ranges.join_at.Goals.{In_ok-insert}
use Rattle.dm_replay.proofs.disk_ranges.join_at.Goals as goal

are_joined : (c : In_ok-insert) → AreJoined c.args.ranges.now c.remove.new.self c.insert.new.self c.in-Some-last_before.start c.args.sector c.in-Some-last_before.range c.in-Some.after c.with_len.result
are_joined c = record {
  are = c.requires;
  is = c.in-Some-last_before.ensures.some.is;
  is_after = search rules;
  ordered = c.insert.ensures.ordered;
  set_none = sets _ _ _ _ c.remove.ensures.updates;
  set_joined = sets _ _ _ _ c.in_ok-insert.ensures.updates;
  meets = c.if-start-range.false;
  goes_on = c.if-not-joins.ensures.joins;
  len = omega (arith, c.with_len.ensures.len, c.if-start-range.false);
  first = c.with_len.ensures.first;
}

pub returns-clause-apart : goal.returns-clause-apart
returns-clause-apart c = joined_apart _ _ _ _ _ _ _ _ (are_joined c)

pub returns-clause-same : goal.returns-clause-same
returns-clause-same c = joined_keep _ _ _ _ _ _ _ _ (are_joined c)
