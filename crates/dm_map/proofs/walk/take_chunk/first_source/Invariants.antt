use Rattle.dm_map.proofs.Prelude.{AreAdded, reads_all, IsFirstOf, stack_state, MOST_DEPTH}
use Rattle.dm_map.proofs.walk.take_chunk.first_source.Given as goal
use Rattle.std.specs.Prelude.{◌≡◌, ◌+◌}

abbrev pub invariant-sources : goal.invariant-sources
invariant-sources g l = record {
  rest : reads_all l.fn.walker.stack l.fn.walker.state l.snapshot.origin l.sector l.len ≡ reads_all l.fn.walker.stack l.fn.walker.state l.snapshot.origin l.at l.left;
  position : l.at + l.left ≡ l.sector + l.len;
  source : IsFirstOf l.fn.walker l.fn.walker MOST_DEPTH l.snapshot.origin l.at l.left l.source;
  same : stack_state l.walker ≡ stack_state l.fn.walker;
  looked : AreAdded l.fn.walker.looked l.walker.looked;
}

abbrev pub decreases-sources : goal.decreases-sources
decreases-sources g l = l.left
