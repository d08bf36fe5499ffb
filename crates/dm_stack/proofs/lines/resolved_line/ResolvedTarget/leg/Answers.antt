use Rattle.dm_stack.proofs.Prelude.{arith}
use Rattle.dm_stack.proofs.lines.LegLemmas.{leg_lies_inside, lies_small, row_leg}
use Rattle.dm_stack.proofs.lines.resolved_line.ResolvedTarget.leg.Goals as goal
use Rattle.std.specs.Prelude.{◌+◌}

pub overflow_add-result : goal.overflow_add-result
overflow_add-result c =
    let a = c.args in
    let small = lies_small a.self.now c.in-Linear.to (c.in-Linear.offset + a.distance) a.distance a.most (rw c.in-Linear.is) (rw c.in-Linear.is) c.requires.some c.requires.there in
    omega (arith, small)

pub returns-in-Some-clause-inside : goal.returns-in-Some-clause-inside
returns-in-Some-clause-inside c stack device start len sound inside =
    let a = c.args in
    let is = rw c.legs-legs.ensures at c.in-Some.ensures.leg in
    leg_lies_inside stack device start len a.distance a.most a.self.now c.in-Some.leg is sound inside

pub returns-in-Linear-clause-leg : goal.returns-in-Linear-clause-leg
returns-in-Linear-clause-leg c =
    let a = c.args in
    row_leg a.self.now c.in-Linear.to c.in-Linear.offset a.distance a.most c.requires.some (rw c.in-Linear.is) (λ d. rw c.in-Linear.is) (λ d. rw c.in-Linear.is)
