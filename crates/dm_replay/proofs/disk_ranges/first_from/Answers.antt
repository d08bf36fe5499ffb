use Rattle.dm_replay.proofs.Prelude.{le_from_not_gt}
use Rattle.dm_replay.proofs.StoredLemmas.{below_from, is_some, less, not_above, some_none}
use Rattle.dm_replay.proofs.disk_ranges.first_from.Goals as goal

pub returns-in-Some-clause-some : goal.returns-in-Some-clause-some
returns-in-Some-clause-some c =
    let h = c.range.ensures.in_range tt in
    let e = c.in-Some.ensures.steps in
    let entry = rw e at h.1 in
    let least = rw e at h.2 in
    record {
      range = c.in-Some.field-0-1.now;
      is = entry.1;
      from = le_from_not_gt _ _ entry.0.0;
      before = below_from _ _ entry.0.1;
      least = λ other after is from before. le_from_not_gt _ _ (least other (not_above c.args.start other from, less other c.args.end before) (is_some _ after is));
    }

pub returns-in-None-clause-none : goal.returns-in-None-clause-none
returns-in-None-clause-none c = λ _ other after is from before. some_none _ after is ((c.range.ensures.in_range tt).5 c.in-None.ensures.steps.0 other (not_above c.args.start other from, less other c.args.end before))
