use Rattle.dm_table.proofs.Prelude.{texts, parts_at}
use Rattle.dm_table.proofs.words.FieldLemmas.{cut_more, cut_last}
use Rattle.dm_table.proofs.words.fields.cut_searched.Goals as goal
use Rattle.std.specs.Prelude.{◌++◌}

pub loop-end-preserved : goal.loop-end-preserved
loop-end-preserved c =
    rw c.in_ok-push.ensures.items (cut_more c.args.at c.loop-end.parts.items c.split_at.result.0 c.loop-end.rest.now c.split_at.result.1.now c.in-Some.end (texts c.args.parts.now.items ++ parts_at c.args.at c.args.text.now) c.in-Some.ensures c.split_at.ensures.front c.split_at.ensures.back c.loop-end.invariant)

pub returns : goal.returns
returns c =
    rw c.in_ok-push-2.ensures.items (cut_last c.args.at c.loop-end.parts.items c.loop-end.rest (texts c.args.parts.now.items ++ parts_at c.args.at c.args.text.now) c.in_default.ensures c.loop-end.invariant)
