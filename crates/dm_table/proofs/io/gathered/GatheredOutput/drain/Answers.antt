use Rattle.dm_table.proofs.io.BlockLemmas.{passed_on}
use Rattle.dm_table.proofs.Prelude.{same_output}
use Rattle.dm_table.proofs.io.gathered.GatheredOutput.drain.Goals as goal

pub returns-clause-past : goal.returns-clause-past
returns-clause-past g c =
    let inside = c.self.inside in let sent = c.write_front-sent in
    let old = g.W.Output.past inside.output in let new = g.W.Output.past sent.new.output in
    same_output _ _
    (rw (← c.self.view_is) (passed_on old.written new.written inside.block c.move_to_front.new.block sent.result inside.len sent.ensures.within sent.ensures.bytes c.move_to_front.ensures))
    (rw (← c.self.view_is) (passed_on old.waiting new.waiting inside.block c.move_to_front.new.block sent.result inside.len sent.ensures.within sent.ensures.waiting c.move_to_front.ensures))
    (cc) (cc)
