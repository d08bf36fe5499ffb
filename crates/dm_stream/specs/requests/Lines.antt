-- The lines in the bytes that an input delivered.
use Rattle.dm_stream.specs.Base.{ℕ, List, [], length, drop, nat_lt, parts_at, Stand, Clean, Failed, Open, code}
use Rattle.dm_stream.specs.declared.requests.lines.TheConstants.{MOST_LINE_BYTES}
use Rattle.dm_stream.specs.declared.requests.lines.Next as next
use Rattle.std.specs.Prelude.{◌+◌, ◌∷◌, if◌then◌else◌}

-- the bytes split at newlines: each part but the last is a line; the last one has no newline yet
abbrev pub line_parts : List ℕ → List (List ℕ)
line_parts bytes = parts_at (code "\n") bytes

-- what comes next in an input; `Waits` if the bytes so far don't settle that
pub data Answer : Type 0 where
  ALine : List ℕ → Answer
  AnEnd : Answer
  AnUnended : Answer
  ALong : Answer
  AFault : Answer
  Waits : Answer

-- what comes next after the last newline, depending on whether the input ended, failed or is still open
abbrev pub rest_answer : Stand → List ℕ → Answer
rest_answer Clean [] = AnEnd
rest_answer Clean (byte ∷ bytes) = AnUnended
rest_answer Failed rest = AFault
rest_answer Open rest = Waits

-- what comes next in an input, given its parts between newlines and whether it ended, failed or is open; a line that is too long counts as too long even if the input failed
abbrev pub next_answer : Stand → List (List ℕ) → Answer
next_answer stand [] = Waits
next_answer stand (rest ∷ []) = if nat_lt MOST_LINE_BYTES (length rest) then ALong else rest_answer stand rest
next_answer stand (line ∷ part ∷ parts) = if nat_lt MOST_LINE_BYTES (length line) then ALong else ALine line

-- a `Next` of the code as an `Answer`
abbrev pub answer_of : next.Next → Answer
answer_of (next.TheVariants.Line line) = ALine line.now
answer_of next.TheVariants.End = AnEnd
answer_of next.TheVariants.Unended = AnUnended
answer_of next.TheVariants.Long = ALong
answer_of next.TheVariants.ReadFault = AFault

-- the bytes that are still held after an answer: a returned line and its newline are removed
abbrev pub left_of : Answer → List ℕ → List ℕ
left_of (ALine line) held = drop (length line + 1) held
left_of other held = held

-- `P` holds if the answer is a line or a line that is too long
abbrev pub OnLine : next.Next → Type 0 → Type 0
OnLine (next.TheVariants.Line line) P = P
OnLine next.TheVariants.Long P = P
OnLine other P = Unit {0}
