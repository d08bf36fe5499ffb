-- What the held bytes alone settle about what comes next in an input.
use Rattle.dm_stream.specs.Prelude.{ℕ, List, [], length, take, Option, None, Some, Stand, Answer, ALine, AnEnd, AnUnended, ALong, AFault, next_answer, line_parts}
use Rattle.dm_stream.specs.declared.requests.lines.TheConstants.{MOST_LINE_BYTES}
use Rattle.dm_stream.specs.declared.requests.lines.NextHeld as found
use Rattle.std.specs.Prelude.{◌≡◌, ◌<◌, ◌≤◌, ◌∷◌}

-- a `NextHeld` of the code as an `Answer`, with the line taken from the held bytes
abbrev pub held_answer : found.NextHeld → List ℕ → Answer
held_answer (found.TheVariants.Line n) held = ALine (take n held)
held_answer found.TheVariants.End held = AnEnd
held_answer found.TheVariants.Unended held = AnUnended
held_answer found.TheVariants.Long held = ALong
held_answer found.TheVariants.ReadFault held = AFault

-- `P` holds if a line was found or if one is too long
abbrev pub OnHeldLine : found.NextHeld → Type 0 → Type 0
OnHeldLine (found.TheVariants.Line n) P = P
OnHeldLine found.TheVariants.Long P = P
OnHeldLine other P = Unit {0}

-- if a line was found, both the line and its newline are in the held bytes
abbrev pub FitsIn : found.NextHeld → List ℕ → Type 0
FitsIn (found.TheVariants.Line n) held = n < length held
FitsIn other held = Unit {0}

-- what the held bytes settle, whether the input ended, failed or is open; None if there is no newline and the line isn't too long yet
abbrev pub IsLook : Option found.NextHeld → List ℕ → Type 0
IsLook (Some f) held = FitsIn f held × ((stand : Stand) → next_answer stand (line_parts held) ≡ held_answer f held)
IsLook None held = (line_parts held ≡ held ∷ []) × (length held ≤ MOST_LINE_BYTES)
