use Rattle.dm_stack.proofs.Prelude.{ap, arith, ResolvedColumn}
use Rattle.dm_stack.proofs.lines.LegLemmas.{column_small, striped_leg, striped_next}
use Rattle.dm_stack.proofs.lines.legs.Legs.next_leg.Goals as goal

pub overflow_add-sector : goal.overflow_add-sector
overflow_add-sector c =
    let l = c.self.inside in
    let small = column_small l.chunk_size l.distance l.left l.columns.now l.position c.index-self-self.result (omega arith) c.self.invariant.there (c.self.invariant.at (omega arith)) c.index-self-self.is in
    let read = ap (λ (column : ResolvedColumn). column.offset) c.index-self-self.is in
    omega (arith, small, read, c.in_column.ensures)

pub invariant_of-self : goal.invariant_of-self
invariant_of-self c =
    let l = c.self.inside in
    striped_next l.chunk_size l.distance l.left c.min-len.result l.columns.now l.position c.next_stripe_chunk-self-inside.result (omega (arith, c.min-len.ensures)) c.min-len.ensures c.self.invariant.there (c.next_stripe_chunk-self-inside.ensures l.distance (c.self.invariant.at (omega arith)))

pub returns-clause-leg : goal.returns-clause-leg
returns-clause-leg c =
    let l = c.self.inside in
    let leg = striped_leg l.chunk_size l.distance l.left c.min-len.result _ l.columns.now l.position c.index-self-self.result (omega arith) c.self.invariant.there (c.self.invariant.at (omega arith)) c.index-self-self.is (cc) c.min-len.ensures in
    rw (← c.index-self-self.is, ← c.self.view_is) leg
