use Rattle.dm_stack.proofs.Prelude.{arith}
use Rattle.dm_stack.proofs.lines.StripeLemmas.{position_after, position_within}
use Rattle.dm_stack.proofs.lines.stripe_position.next_stripe_chunk.Goals as goal

pub returns-then-next-count : goal.returns-then-next-count
returns-then-next-count c distance at = position_within c.args.chunk_size c.args.count distance c.args.position c.requires.chunk at (omega arith)

pub returns : goal.returns
returns c distance at = position_after c.args.chunk_size c.args.count distance c.args.position c.requires.chunk at (omega arith)
