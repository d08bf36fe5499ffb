-- How many chunks all stores of a stack have room for together.
use Rattle.dm_stack.specs.Base.{ℕ, sum_by}
use Rattle.dm_stack.specs.declared.lines.resolved_line.ResolvedTarget.{ResolvedTarget}
use Rattle.dm_stack.specs.declared.lines.resolved_line.ResolvedTarget.TheVariants as found
use Rattle.dm_stack.specs.Description.{Description, lower_len}
use Rattle.dm_stack.specs.lines.StoreLayout.{place_count}
use Rattle.dm_stack.specs.checks.Soundness.{all_lines, target_places}

-- the number of chunks that all stores together have room for
abbrev pub all_places : Description → ℕ
all_places stack = sum_by (λ line. target_places stack line.target) (all_lines stack.devices)

-- the number of chunks that the store of a snapshot has room for; 0 for any other target
abbrev pub places_of : Description → ResolvedTarget → ℕ
places_of stack (found.Snapshot snapshot) = place_count snapshot.kind snapshot.chunk (lower_len stack snapshot.store)
places_of stack _ = 0
