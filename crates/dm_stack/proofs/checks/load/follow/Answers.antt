use Rattle.dm_stack.proofs.Prelude.{ap, ◌∙◌, links_in}
use Rattle.dm_stack.proofs.checks.LoadLemmas.{first_ring}
use Rattle.dm_stack.proofs.checks.load.follow.Goals as goal

pub depths-requires : goal.depths-requires
depths-requires c = rw (c.deref.ensures.value, c.in_ok-links.ensures) c.requires

pub first_cycle-requires-clause-closed : goal.first_cycle-requires-clause-closed
first_cycle-requires-clause-closed c = rw (c.deref-2.ensures.value, c.in_ok-links.ensures) c.requires

pub returns-clause-cycle : goal.returns-clause-cycle
returns-clause-cycle c =
    let ring = c.in_ok-cycle.ensures in
    rw (← c.in_ok-links.ensures, ← c.deref-2.ensures.value) (first_ring c.deref-2.result.now c.in_ok-cycle.cycle ring.found ring.first ring.none)

pub store_depths-requires-clause-named : goal.store_depths-requires-clause-named
store_depths-requires-clause-named c = ap links_in c.deref-4.ensures.value ∙ c.in_ok-links.ensures
