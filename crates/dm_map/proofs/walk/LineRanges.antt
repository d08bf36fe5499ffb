-- The legs of a line in a sound stack.
use Rattle.dm_map.proofs.Prelude.{ℕ, arith, ResolvedLine, ResolvedTarget, Leg, IsLine, IsTargetSound, Description, AreInside, HasSectors, IsLeg, IsSound, leg_lies_inside, IsLegOf}
use Rattle.std.specs.Prelude.{◌≡◌, ◌+◌, ◌≤◌}

-- a line of a sound stack has the sectors that a look-up asks for
pub line_sectors : (stack : Description) (device distance len : ℕ) (line : ResolvedLine) → IsSound stack → IsLine stack device line → distance + len ≤ line.len → HasSectors line.target distance len
line_sectors stack device distance len line sound of inside =
    record { stack = stack; sound = sound; device = device; start = line.start; line_len = line.len; lies = of.target; inside = inside; small = let small = of.small in omega (arith, small) }

-- the first leg of sectors of a line is a leg of that line
pub leg_of : (stack : Description) (device distance len : ℕ) (line : ResolvedLine) (leg : Leg) → IsLine stack device line → distance + len ≤ line.len → IsLeg line.target distance len leg
    → ((other : Description) (id start line_len : ℕ) → IsTargetSound other id start line_len line.target → distance + len ≤ line_len → AreInside other leg.len leg.below) → IsLegOf stack device line distance leg
leg_of stack device distance len line leg of inside is lies =
    record { of = of; some = is.some; inside = omega (arith, inside, is.within); is = is.is; lies = lies stack device line.start line.len of.target inside }

-- a later leg of a striped line is a leg of the line, while the stack is the same
pub leg_within : (stack old : Description) (device at left : ℕ) (line : ResolvedLine) (leg : Leg) → stack ≡ old → IsLine old device line → at + left ≤ line.len → IsLeg line.target at left leg → IsLegOf stack device line at leg
leg_within stack old device at left line leg same of inside is =
    leg_of stack device at left line leg (rw same of) inside is
    (λ other id start line_len sound inside. leg_lies_inside other id start line_len at left line.target leg is sound inside)

-- a leg of what an iterator has left is a leg of the target at that distance
pub leg_at : (target other : ResolvedTarget) (distance at most : ℕ) (leg : Leg) → other ≡ target → distance ≡ at → IsLeg other distance most leg → IsLeg target at most leg
leg_at target other distance at most leg same position is = rw (← position, ← same) is
