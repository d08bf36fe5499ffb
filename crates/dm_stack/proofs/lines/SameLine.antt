-- The line found for a sector is also found for every other sector that it holds.
use Rattle.dm_stack.proofs.Prelude.{ℕ, false, List, [], length, Some, arith, nat_le, le-ltb, and-false, Line, ResolvedLine, Description, lines_at, holds, line_of, resolved_line, found_at, IsLineOf, IsSound, mapped}
use Rattle.dm_stack.proofs.checks.LayoutLemmas.{AreInRow}
use Rattle.dm_stack.proofs.SoundLines.{HoldsSoundly, there, device_sound, lines_there}
use Rattle.std.specs.Prelude.{◌≡◌, ◌+◌, ◌<◌, ◌≤◌, ◌∷◌}

-- Lines that start where the one before ends

-- a line that is found starts at or after the end of the lines before it
starts_after : (end : ℕ) (lines : List Line) (sector : ℕ) (line : Line) → AreInRow end lines → line_of lines sector ≡ Some line → end ≤ line.start
starts_after end [] sector line e is = absurd cc
starts_after end (first ∷ lines) sector line e is = grind (arith, is, e.0, starts_after (first.start + first.len) lines sector line e.1)

pub holds_none : (line : Line) (sector : ℕ) → line.start + line.len ≤ sector → holds sector line ≡ false
holds_none line sector past = rw (le-ltb sector (line.start + line.len) past) (and-false (nat_le line.start sector))

same_line : (end : ℕ) (lines : List Line) (sector other : ℕ) (line : Line) → AreInRow end lines → line_of lines sector ≡ Some line → line.start ≤ other → other < line.start + line.len → line_of lines other ≡ Some line
same_line end [] sector other line e is from before = absurd cc
same_line end (first ∷ lines) sector other line e is from before =
    let after = starts_after (first.start + first.len) lines sector line e.1 in
    let later : line_of lines sector ≡ Some line → line_of lines other ≡ Some line = λ there. same_line (first.start + first.len) lines sector other line e.1 there from before in
    grind (arith, is, from, before, after, later)

-- The lines of a device

pub same_found : (stack : Description) (id sector other : ℕ) (line : ResolvedLine) → IsSound stack → id < length stack.devices → found_at stack id sector ≡ Some line → line.start ≤ other → other < line.start + line.len → found_at stack id other ≡ Some line
same_found stack id sector other line sound within is from before =
    let d = there stack.devices id within in
    let s = device_sound stack id d.it sound d.at in
    let lines = lines_there stack id d.it d.at in
    let m = mapped (resolved_line stack) (line_of (lines_at stack id) sector) line is in
    let start : m.0.start ≡ line.start = cc (m.2) in
    let len : m.0.len ≡ line.len = cc (m.2) in
    let held : line_of d.it.lines sector ≡ Some m.0 = cc in
    let same = same_line 0 d.it.lines sector other m.0 s.placed held (omega (arith, start, from)) (omega (arith, start, len, before)) in
    cc

-- a search returns the line of its sector
pub resolved_line_of : (stack : Description) (id sector : ℕ) (line : ResolvedLine) → IsSound stack → id < length stack.devices → found_at stack id sector ≡ Some line → HoldsSoundly stack id line sector → IsLineOf stack id line sector
resolved_line_of stack id sector line sound within is holds = record {
  from = holds.from;
  before = holds.before;
  is = record { small = holds.small; target = holds.target; all = λ other from before. same_found stack id sector other line sound within is from before };
}

pub found_of : (stack : Description) (id sector : ℕ) (line : ResolvedLine) → IsLineOf stack id line sector → found_at stack id sector ≡ Some line
found_of stack id sector line of = of.is.all sector of.from of.before
