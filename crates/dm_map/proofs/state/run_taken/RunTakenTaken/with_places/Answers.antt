use Rattle.dm_map.proofs.Prelude.{◌∙◌, [], refl, arith, IsDistinct}
use Rattle.dm_map.proofs.state.run_taken.RunTakenTaken.with_places.Goals as goal
use Rattle.std.specs.Prelude.{◌≡◌}

pub invariant_of-result-clause-reserved : goal.invariant_of-result-clause-reserved
invariant_of-result-clause-reserved c = omega (arith, c.from_vec.ensures.room, c.in_ok-with_capacity.ensures.capacity)

pub invariant_of-result-clause-once : goal.invariant_of-result-clause-once
unfolding IsDistinct
invariant_of-result-clause-once c = rw c.new.ensures tt

pub invariant_of-result-clause-kept : goal.invariant_of-result-clause-kept
invariant_of-result-clause-kept c =
    let none : c.from_vec.result.items ≡ [] = c.from_vec.ensures.items ∙ c.in_ok-with_capacity.ensures.items in
    rw (c.new.ensures, none) (record { each = λ i within. absurd (omega (arith, within)); all = λ chunk out. refl; rising = λ i j less within. absurd (omega (arith, within)) })
