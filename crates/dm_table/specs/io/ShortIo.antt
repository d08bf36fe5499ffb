-- The states of the in-memory input and output that tests use, and what each call does to a state.
use Rattle.dm_table.specs.Prelude.{ℕ, List, [], length, min, Bool, true, false, Result, IsErr, IfOk, InputPast, OutputPast, given}
use Rattle.std.specs.Prelude.{◌≡◌, ◌↔◌, ◌+◌, ◌++◌, ◌<◌}

-- the state of an in-memory input: its history, its unread bytes, the most bytes per read, and whether reads fail once no bytes are left
pub record Supply : Type 0 where
  pub past : InputPast
  pub left : List ℕ
  pub step : ℕ
  pub fails : Bool

-- an in-memory input before its first read
abbrev pub fresh_supply : List ℕ → ℕ → Bool → Supply
fresh_supply bytes step fails =
    record { past = record { handed = []; faults = 0; ends = 0 }; left = bytes; step = step; fails = fails }

-- the state of an in-memory output: its history, how many more bytes it has room for, the most bytes per write, and whether flushes fail
pub record Intake : Type 0 where
  pub past : OutputPast
  pub room : ℕ
  pub step : ℕ
  pub flush_fails : Bool

-- an in-memory output before its first write
abbrev pub fresh_intake : (step room : ℕ) → Bool → Intake
fresh_intake step room flush_fails =
    record { past = record { written = []; waiting = []; faults = 0; flushes = 0 }; room = room; step = step; flush_fails = flush_fails }

-- how many bytes one call moves: the least of `step` (the most bytes per call), the bytes offered, and the room for them
abbrev pub portion : (step offered room : ℕ) → ℕ
portion step offered room = min step (min offered room)

-- a read of an in-memory input: it fails exactly if no bytes are left and `fails` is set, else it hands out the next portion, and
-- it returns 0 for a nonempty buffer only if no bytes are left and `fails` isn't set
pub record HandsOut {E : Type 0} (old new : Supply) (result : Result ℕ E) (buffer : List ℕ) : Type 0 where
  pub fault : IsErr result ↔ ((old.fails ≡ true) × (old.left ≡ []))
  pub count : IfOk result (λ n. n ≡ portion old.step (length old.left) (length buffer))
  pub end : IfOk result (λ n. n ≡ 0 → 0 < length buffer → (old.fails ≡ false) × (old.left ≡ []))
  pub left : old.left ≡ given result buffer ++ new.left
  pub plan : (new.step ≡ old.step) × (new.fails ≡ old.fails)

-- a write to an in-memory output: it fails exactly if there is no room left, else it accepts a portion of the slice
pub record TakesIn {E : Type 0} (old new : Intake) (result : Result ℕ E) (bytes : List ℕ) : Type 0 where
  pub fault : IsErr result ↔ (old.room ≡ 0)
  pub count : IfOk result (λ n. n ≡ portion old.step (length bytes) old.room)
  pub room : old.room ≡ length (given result bytes) + new.room
  pub plan : (new.step ≡ old.step) × (new.flush_fails ≡ old.flush_fails)

-- a flush of an in-memory output: it fails exactly if `flush_fails` is set
pub record PassesOn {E : Type 0} (old new : Intake) (result : Result (Unit {0}) E) : Type 0 where
  pub fault : IsErr result ↔ (old.flush_fails ≡ true)
  pub plan : (new.room ≡ old.room) × (new.step ≡ old.step) × (new.flush_fails ≡ old.flush_fails)
