-- Runs of taken chunks: consecutive chunks that were taken one after the other.
use Rattle.dm_map.specs.Base.{ℕ, Bool, true, not, List, [], Option, Some, None, length, slice_index_or}
use Rattle.dm_map.specs.declared.state.run_taken.run.Run.{Run}
use Rattle.dm_map.specs.state.Snapshots.{number_in}
use Rattle.std.specs.Prelude.{◌≡◌, ◌<◌, ◌≤◌, ◌+◌, ◌-◌, ◌==◌, ◌∷◌, if◌then◌else◌}

-- a chunk starts a new run unless it is one more than the chunk taken just before it
abbrev pub begins : (before : Option ℕ) → ℕ → Bool
begins None chunk = true
begins (Some before) chunk = not (before + 1 == chunk)

-- how many runs start in a list of chunks, given the chunk taken just before the list
abbrev pub runs_after : (before : Option ℕ) → List ℕ → ℕ
runs_after before [] = 0
runs_after before (chunk ∷ rest) = (if begins before chunk then 1 else 0) + runs_after (Some chunk) rest

-- the number of runs in the list of all chunks that a snapshot took
abbrev pub run_count : List ℕ → ℕ
run_count chunks = runs_after None chunks

-- an empty run
abbrev pub no_run : Run
no_run = record { first = 0; number = 0; len = 0 }

-- the run at this index, or an empty run past the end of the list
abbrev pub run_at : List Run → ℕ → Run
run_at runs index = slice_index_or runs index no_run

-- the chunk right after the last chunk of a run
abbrev pub end_of : Run → ℕ
end_of run = run.first + run.len

-- the run isn't empty, and its chunks are consecutive in the list of taken chunks, from the run's first number on
pub record IsRun (chunks : List ℕ) (run : Run) : Type 0 where
  pub some : 0 < run.len
  pub within : run.number + run.len ≤ length chunks
  pub its_own : (offset : ℕ) → offset < run.len → slice_index_or chunks (run.number + offset) 0 ≡ run.first + offset

-- the runs cover the list of taken chunks: each is a run of the list, every taken chunk is in one of the runs, and the runs are in rising order without overlap
abbrev pub AreRuns : List Run → (chunks : List ℕ) → Type 0
AreRuns runs chunks = record {
  each : (index : ℕ) → index < length runs → IsRun chunks (run_at runs index);
  all : (chunk : ℕ) → ((index : ℕ) → index < length runs → (run_at runs index).first ≤ chunk → end_of (run_at runs index) ≤ chunk) → number_in chunk chunks ≡ None;
  rising : (i j : ℕ) → i < j → j < length runs → end_of (run_at runs i) ≤ (run_at runs j).first;
}

-- count is the number of runs whose first chunk is at most this chunk
pub record AreBegunBy (runs : List Run) (chunk count : ℕ) : Type 0 where
  pub within : count ≤ length runs
  pub from : 0 < count → (run_at runs (count - 1)).first ≤ chunk
  pub next : count < length runs → chunk < (run_at runs count).first

-- a chunk with this number continues the run, because the chunk and the number are each one more than the run's last
abbrev pub GoesOn : Run → (chunk number : ℕ) → Type 0
GoesOn run chunk number = (end_of run ≡ chunk) × (run.number + run.len ≡ number)
