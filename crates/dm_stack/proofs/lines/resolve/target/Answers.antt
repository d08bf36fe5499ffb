use Rattle.dm_stack.proofs.lines.OverLemmas.{origin_is}
use Rattle.dm_stack.proofs.lines.resolve.target.Goals as goal

pub returns-in_ok-over-in-Origin : goal.returns-in_ok-over-in-Origin
returns-in_ok-over-in-Origin c = rw c.in-Origin.is (origin_is c.args.stack.now _ c.lower_of-to.result c.args.over.now c.in_ok-over-in-Origin.over c.lower_of-to.ensures c.requires.over c.in_ok-over-in-Origin.ensures)
