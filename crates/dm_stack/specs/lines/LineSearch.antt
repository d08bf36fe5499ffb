-- Finding the line of a sector from the starts of a device's lines.
use Rattle.dm_stack.specs.Base.{ℕ, zero, suc, ⊤, List, MatchOption, get_or, length, slice_get, All}
use Rattle.dm_stack.specs.declared.lines.resolved_line.ResolvedLine.{ResolvedLine}
use Rattle.dm_stack.specs.declared.checks.limits.TheConstants.{MOST_LENGTH}
use Rattle.dm_stack.specs.declared.lines.line_search.LastLine.{LastLine}
use Rattle.dm_stack.specs.lines.Below.{resolved_lines}
use Rattle.dm_stack.specs.Description.{Description}
use Rattle.std.specs.Prelude.{◌≡◌, ◌+◌, ◌*◌, ◌/◌, ◌^◌, ◌==◌, ◌≤◌, ◌<◌, if◌then◌else◌}

-- there is a line at the index, and it starts at the sector or before
abbrev pub StartsBy : List ResolvedLine → (index sector : ℕ) → Type 0
StartsBy lines index sector = MatchOption (slice_get lines index) ⊥ (λ line. line.start ≤ sector)

-- the line at the index starts after the sector, or there is no line at the index
abbrev pub StartsAfter : List ResolvedLine → (index sector : ℕ) → Type 0
StartsAfter lines index sector = MatchOption (slice_get lines index) ⊤ (λ line. sector < line.start)

-- start is where the line at the index starts, or 2^64 - 1 if there is no line at the index
abbrev pub IsStartOf : List ResolvedLine → (index start : ℕ) → Type 0
IsStartOf lines index start = MatchOption (slice_get lines index) (start + 1 ≡ 2 ^ 64) (λ line. start ≡ line.start)

-- the line at the index holds the sector: it starts at the sector or before, and the next line starts after the sector
pub record IsLineOf (lines : List ResolvedLine) (index sector : ℕ) : Type 0 where
  pub within : index < length lines
  pub from : StartsBy lines index sector
  pub next : StartsAfter lines (index + 1) sector

-- for each bucket of 2 ^ shift sectors, the index of the line that holds the bucket's first sector
pub record AreFirsts (lines : List ResolvedLine) (firsts : List ℕ) (shift : ℕ) : Type 0 where
  pub short : shift < 64
  pub at : (bucket : ℕ) → bucket < length firsts → IsLineOf lines (get_or firsts bucket 0) (bucket * 2 ^ shift)
  pub rising : (bucket : ℕ) → bucket + 1 < length firsts → get_or firsts bucket 0 ≤ get_or firsts (bucket + 1) 0

-- there is a line at the index, and it ends right before the sector
abbrev pub EndsAt : List ResolvedLine → (index sector : ℕ) → Type 0
EndsAt lines index sector = MatchOption (slice_get lines index) ⊥ (λ line. line.start + line.len ≡ sector)

-- each line of the list ends within the limit on lengths
abbrev pub EndsAreSmall : List ResolvedLine → Type 0
EndsAreSmall lines = All (λ line. line.start + line.len ≤ MOST_LENGTH) lines

-- the line found last is at the recorded index, and ends at the recorded end; before the first search, the recorded end is past every device
abbrev pub IsLast : Description → LastLine → Type 0
IsLast stack last = last.end ≤ MOST_LENGTH → EndsAt (resolved_lines stack last.device) last.index last.end

-- how many binary digits a number has, up to `most`
abbrev pub digits_to : (most number : ℕ) → ℕ
digits_to zero number = 0
digits_to (suc most) number = if number == 0 then 0 else suc (digits_to most (number / 2))

-- how many binary digits a number has; 0 for 0
abbrev pub binary_digits : ℕ → ℕ
binary_digits number = digits_to number number

-- the promise of a search for a sector: it returns the index of the sector's line, and the number of comparisons, at most one for each binary digit of the number of lines
pub record Finds (lines : List ResolvedLine) (sector : ℕ) (found : ℕ × ℕ) : Type 0 where
  pub line : IsLineOf lines found.0 sector
  pub few : found.1 ≤ binary_digits (length lines)
