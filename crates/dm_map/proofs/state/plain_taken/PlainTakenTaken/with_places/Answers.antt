use Rattle.dm_map.proofs.Prelude.{nat_eq, sym, subst, ◌∙◌, IsDistinct}
use Rattle.dm_map.proofs.state.plain_taken.PlainTakenTaken.with_places.Goals as goal

pub invariant_of-result-clause-once : goal.invariant_of-result-clause-once
unfolding IsDistinct
invariant_of-result-clause-once c = subst (IsDistinct nat_eq) (sym (c.from_vec.ensures.items ∙ c.in_ok-with_capacity.ensures.items)) tt
