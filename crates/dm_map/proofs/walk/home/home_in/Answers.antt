use Rattle.dm_map.proofs.Prelude.{ℕ, ap, subst, ◌∙◌, arith, Lower, Disk, Beneath, IsLegOf}
use Rattle.dm_stack.specs.declared.lines.leg.Beneath.TheVariants.{Lies}
use Rattle.dm_map.proofs.walk.LineRanges.{leg_of, line_sectors}
use Rattle.dm_map.proofs.walk.home.home_in.Goals as goal
use Rattle.std.specs.Prelude.{◌-◌}

pub leg-below-requires-clause-there : goal.leg-below-requires-clause-there
leg-below-requires-clause-there g c =
    let a = c.args in line_sectors a.walker.now.stack a.device (a.sector - a.line.now.start) a.len a.line.now c.recall_soundness.ensures c.requires.line.is (omega (arith, c.requires.inside, c.requires.line.from))

pub returns-in-Disk : goal.returns-in-Disk
returns-in-Disk g c =
    let a = c.args in let w = a.walker.now in let line = a.line.now in let distance = a.sector - line.start in let leg = c.leg-below.result in
    let of = leg_of w.stack a.device distance a.len line leg c.requires.line.is (omega (arith, c.requires.inside, c.requires.line.from)) c.leg-below.ensures.leg c.leg-below.ensures.inside in
    subst (λ (n : ℕ). IsLegOf w.stack a.device line distance (record { below = Lies (Disk c.in-Disk.disk) c.in-Lies.start; len = n })) c.if-part-len.true
    (subst (λ (b : Beneath). IsLegOf w.stack a.device line distance (record { below = b; len = leg.len })) (c.in-Lies.is ∙ ap (λ (to : Lower). Lies to c.in-Lies.start) c.in-Disk.is) of)
