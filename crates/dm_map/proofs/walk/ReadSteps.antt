-- Where a read continues from a sector of a device: below a line without state, in a snapshot's store or origin, or in what an origin's line names.
use Rattle.dm_map.proofs.Prelude.{ℕ, Bool, true, false, cond, Option, Some, None, refl, sym, ◌∙◌, arith, Lower, ResolvedLine, ResolvedOrigin, ResolvedSnapshot, ResolvedTarget, Lies, IsError, below, below_line, below_target, found_at, has_state, Description, IsSound, read_below, store_sector, number_in, read_numbered, read_over, State, taken_at, origin_at, snapshot_at, Origin, Snapshot}
use Rattle.dm_map.proofs.state.ResolvedLines.{line_origin, line_snapshot}
use Rattle.dm_map.proofs.walk.Spans.{IsPlainStep, below_is, sector_is}
use Rattle.std.specs.Prelude.{◌≡◌, ◌-◌, ◌/◌}

pub data ReadStep (stack : Description) (state : State) (device sector : ℕ) (lower : Lower) (at : ℕ) : Type 0 where
  ByLine : (line : ResolvedLine) → found_at stack device sector ≡ Some line → IsPlainStep line.target (sector - line.start) lower at → ReadStep stack state device sector lower at
  ByStore : (snapshot : ResolvedSnapshot) (number : ℕ) → snapshot_at stack device ≡ Some snapshot → (taken_at state device).valid ≡ true → number_in (sector / snapshot.chunk) (taken_at state device).chunks ≡ Some number
      → lower ≡ snapshot.store → at ≡ store_sector snapshot number sector → ReadStep stack state device sector lower at
  ByRead : (snapshot : ResolvedSnapshot) → snapshot_at stack device ≡ Some snapshot → (taken_at state device).valid ≡ true → number_in (sector / snapshot.chunk) (taken_at state device).chunks ≡ None
      → lower ≡ snapshot.origin → at ≡ sector → ReadStep stack state device sector lower at
  ByServe : (origin : ResolvedOrigin) → origin_at stack device ≡ Some origin → lower ≡ origin.to → at ≡ sector → ReadStep stack state device sector lower at

read_step_snapshot : (stack : Description) (state : State) (device sector : ℕ) (lower : Lower) (at : ℕ) (snapshot : ResolvedSnapshot) (valid : Bool) (number : Option ℕ) → snapshot_at stack device ≡ Some snapshot
    → (taken_at state device).valid ≡ valid → number_in (sector / snapshot.chunk) (taken_at state device).chunks ≡ number → cond valid (read_numbered snapshot number sector) IsError ≡ Lies lower at → ReadStep stack state device sector lower at
read_step_snapshot stack state device sector lower at snapshot false number over v n e = absurd cc
read_step_snapshot stack state device sector lower at snapshot true (Some i) over v n e = ByStore snapshot i over v n (cc) cc
read_step_snapshot stack state device sector lower at snapshot true None over v n e = ByRead snapshot over v n (cc) cc

read_step_target : (stack : Description) (state : State) (device sector : ℕ) (lower : Lower) (at : ℕ) (line : ResolvedLine) (target : ResolvedTarget) → IsSound stack → found_at stack device sector ≡ Some line → line.target ≡ target
    → below_target (read_over (taken_at state device)) target (sector - line.start) ≡ Lies lower at → ReadStep stack state device sector lower at
read_step_target stack state device sector lower at line (Snapshot snapshot) sound is t e =
    let over = line_snapshot stack device sector line snapshot sound is t in
    let same : sector - line.start ≡ sector = omega (arith, over.0) in
    let there : read_over (taken_at state device) snapshot sector ≡ Lies lower at = rw same at e in
    read_step_snapshot stack state device sector lower at snapshot (taken_at state device).valid (number_in (sector / snapshot.chunk) (taken_at state device).chunks) over.1 refl refl there
read_step_target stack state device sector lower at line (Origin origin) sound is t e =
    let over = line_origin stack device sector line origin sound is t in
    ByServe origin over.1 (cc) (let there = sector_is _ _ _ _ e in omega (arith, there, over.0))
read_step_target stack state device sector lower at line target sound is t e = ByLine line is (rw t (record { plain = refl; lies = e }))

read_step_line : (stack : Description) (state : State) (device sector : ℕ) (lower : Lower) (at : ℕ) (line : Option ResolvedLine) → IsSound stack → found_at stack device sector ≡ line
    → below_line (read_over (taken_at state device)) line sector ≡ Lies lower at → ReadStep stack state device sector lower at
read_step_line stack state device sector lower at None sound is e = absurd cc
read_step_line stack state device sector lower at (Some line) sound is e = read_step_target stack state device sector lower at line line.target sound is refl e

pub read_step : (stack : Description) (state : State) (device sector : ℕ) (lower : Lower) (at : ℕ) → IsSound stack → read_below stack state device sector ≡ Lies lower at → ReadStep stack state device sector lower at
read_step stack state device sector lower at sound e = read_step_line stack state device sector lower at (found_at stack device sector) sound refl e

-- a read continues below a line without state
pub record IsLineStep (stack : Description) (device sector : ℕ) (lower : Lower) (at : ℕ) : Type 0 where
  pub line : ResolvedLine
  pub is : found_at stack device sector ≡ Some line
  pub step : IsPlainStep line.target (sector - line.start) lower at

plain_line : (stack : Description) (device sector : ℕ) (lower : Lower) (at : ℕ) (line : Option ResolvedLine) → ((held : ResolvedLine) → found_at stack device sector ≡ Some held → has_state held.target ≡ false) → found_at stack device sector ≡ line → below_line (λ snapshot sector. IsError) line sector ≡ Lies lower at → IsLineStep stack device sector lower at
plain_line stack device sector lower at None has is e = absurd cc
plain_line stack device sector lower at (Some line) has is e =
    let plain = has line is in
    record { line = line; is = is; step = record { plain = plain; lies = sym (below_is (λ snapshot sector. IsError) line.target (sector - line.start) plain) ∙ e } }

pub line_step : (stack : Description) (device sector : ℕ) (lower : Lower) (at : ℕ) → ((held : ResolvedLine) → found_at stack device sector ≡ Some held → has_state held.target ≡ false) → below (λ snapshot sector. IsError) stack device sector ≡ Lies lower at → IsLineStep stack device sector lower at
line_step stack device sector lower at has e = plain_line stack device sector lower at (found_at stack device sector) has refl e
