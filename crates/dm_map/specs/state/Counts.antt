-- How many line searches a looker made, and how many comparisons these took.
use Rattle.dm_map.specs.Base.{ℕ, Looking}
use Rattle.std.specs.Prelude.{◌+◌, ◌-◌, ◌*◌, ◌≤◌}

-- a looker's totals: line searches, and comparisons of a line's start with a sector
pub record Counts : Type 0 where
  pub searches : ℕ
  pub comparisons : ℕ

-- the most comparisons in one search: one for each binary digit of 65,536, the most lines that a device can have
abbrev pub most_comparisons : ℕ
most_comparisons = 17

-- the counts only grew, and by at most `most_comparisons` comparisons for each search added
pub record AreAdded (before after : Counts) : Type 0 where
  pub searches : before.searches ≤ after.searches
  pub comparisons : before.comparisons ≤ after.comparisons
  pub few : after.comparisons ≤ before.comparisons + most_comparisons * (after.searches - before.searches)

-- the searches and comparisons of a looker so far
abbrev pub counts_of : Looking → Counts
counts_of looker = record { searches = looker.searches; comparisons = looker.comparisons }

-- the sum of two counts
abbrev pub grown_by : Counts → Counts → Counts
grown_by before more = record { searches = before.searches + more.searches; comparisons = before.comparisons + more.comparisons }

-- the counts before the first look-up
abbrev pub no_counts : Counts
no_counts = record { searches = 0; comparisons = 0 }
