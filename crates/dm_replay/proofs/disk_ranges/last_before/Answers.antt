use Rattle.dm_replay.proofs.Prelude.{ge_from_not_lt}
use Rattle.dm_replay.proofs.StoredLemmas.{below_from, is_some, less, some_none}
use Rattle.dm_replay.proofs.disk_ranges.last_before.Goals as goal

pub returns-in-Some-clause-some : goal.returns-in-Some-clause-some
returns-in-Some-clause-some c =
    let h = c.range.ensures.in_range tt in
    let entry = h.3 _ _ c.in-Some.ensures.steps in
    record {
      is = entry.1;
      before = below_from _ _ entry.0.1;
      last = λ other after is before. ge_from_not_lt _ _ (h.4 _ _ c.in-Some.ensures.steps other (tt, less other c.args.sector before) (is_some _ after is));
    }

pub returns-in-None-clause-none : goal.returns-in-None-clause-none
returns-in-None-clause-none c = λ _ other after is from before. some_none _ after is ((c.range.ensures.in_range tt).5 c.in-None.ensures.steps.0 other (tt, less other c.args.sector before))
