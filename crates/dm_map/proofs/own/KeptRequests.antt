-- A property that every due chunk preserves, the first sectors of a request preserve; so a state that fits its stack still does after them.
use Rattle.dm_map.proofs.Prelude.{ℕ, zero, suc, Bool, true, false, List, [], nat_lt, AllByRecursion, Op, Device, Description, device_len, IsSound, state_past, Due, due, IsFitting, State, sector_step, take_chunk, MOST_DEPTH, Read, Write}
use Rattle.dm_map.proofs.own.ChunkOutcomes.{full_outcome, full_outcome_fits}
use Rattle.dm_map.proofs.own.DueChunks.{IsDue, all_due, all_taken, due_taken, write_leaves}
use Rattle.dm_map.proofs.own.LostSnapshots.{due_there, past_by, state_at}
use Rattle.std.specs.Prelude.{◌+◌, ◌∷◌}

-- the property of states is preserved by each due chunk, whether it is taken or the snapshot is lost
abbrev pub IsKept : Description → (State → Type 0) → Type 0
IsKept stack IsSo = (state : State) (one : Due) → IsDue stack one → IsSo state → IsSo (due_taken stack state one)

all_keep : (stack : Description) (IsSo : State → Type 0) (state : State) (dues : List Due) → IsKept stack IsSo → AllByRecursion (IsDue stack) dues → IsSo state → IsSo (all_taken stack state dues)
all_keep stack IsSo state [] kept each is = is
all_keep stack IsSo state (one ∷ later) kept each is = all_keep stack IsSo (due_taken stack state one) later kept each.1 (kept state one each.0 is)

step_keeps : (stack : Description) (IsSo : State → Type 0) (op : Op) (state : State) (asked sector : ℕ) → IsSound stack → IsKept stack IsSo → IsSo state → IsSo (sector_step stack op MOST_DEPTH (Device asked) state sector).state
step_keeps stack IsSo Read state asked sector sound kept is = is
step_keeps stack IsSo Write state asked sector sound kept is =
    rw (write_leaves stack MOST_DEPTH (Device asked) state sector) (all_keep stack IsSo state (due stack state (Device asked) sector) kept (all_due stack MOST_DEPTH (Device asked) state sector sound) is)

sectors_keep : (stack : Description) (IsSo : State → Type 0) (op : Op) (state : State) (asked start sectors : ℕ) → IsSound stack → IsKept stack IsSo → IsSo state → IsSo (state_at stack op asked start sectors state)
sectors_keep stack IsSo op state asked start zero sound kept is = is
sectors_keep stack IsSo op state asked start (suc sectors) sound kept is =
    sectors_keep stack IsSo op (sector_step stack op MOST_DEPTH (Device asked) state start).state asked (suc start) sectors sound kept (step_keeps stack IsSo op state asked start sound kept is)

pub past_keeps : (stack : Description) (IsSo : State → Type 0) (op : Op) (state : State) (asked start len sectors : ℕ) → IsSound stack → IsKept stack IsSo → IsSo state → IsSo (state_past stack op asked start len sectors state)
past_keeps stack IsSo op state asked start len sectors sound kept is = by_end (nat_lt (device_len stack asked) (start + len))
  where
    by_end : (past : Bool) → IsSo (past_by past stack op asked start sectors state)
    by_end true = is
    by_end false = sectors_keep stack IsSo op state asked start sectors sound kept is

-- Due chunks preserve that a state fits its stack

pub due_fits : (stack : Description) (state : State) (one : Due) → IsSound stack → IsDue stack one → IsFitting stack state → IsFitting stack (due_taken stack state one)
due_fits stack state one sound is fits =
    let there = due_there stack state one sound fits.count is in
    full_outcome_fits stack state one.device one.chunk one.snapshot (take_chunk stack one.snapshot one.device one.chunk state) fits there (full_outcome stack state one.device one.chunk one.snapshot is.is there)

pub past_fits : (stack : Description) (op : Op) (state : State) (asked start len sectors : ℕ) → IsSound stack → IsFitting stack state → IsFitting stack (state_past stack op asked start len sectors state)
past_fits stack op state asked start len sectors sound fits = past_keeps stack (IsFitting stack) op state asked start len sectors sound (λ before one is so. due_fits stack before one sound is so) fits
