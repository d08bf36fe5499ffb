use Rattle.dm_stack.proofs.checks.StoreLemmas.{closed_stores}
use Rattle.dm_stack.proofs.checks.stores.store_depths.Goals as goal

pub depths-requires : goal.depths-requires
depths-requires c = rw (c.deref.ensures.value, c.in_ok-named.ensures) (closed_stores c.args.stack.now c.requires.closed)
