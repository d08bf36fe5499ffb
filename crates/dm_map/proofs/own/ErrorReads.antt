-- A read fails exactly if its path meets an `error` line or a lost snapshot.
use Rattle.dm_map.proofs.Prelude.{ℕ, Bool, true, false, cond, List, [], Option, Some, None, length, refl, sym, ap, ◌∙◌, arith, slice_get, Lower, Device, Disk, ResolvedColumn, ResolvedLine, ResolvedSnapshot, ResolvedTarget, Below, Lies, IsZero, IsError, below_column, below_line, below_target, column_of, found_at, in_column, IsTargetSound, Description, device_len, lower_len, lower_depth, IsSound, device_there, sector_found, there, AtError, AtLost, EndsHere, MeetsError, IsWay, Leads, Node, node, IsFitting, number_in, read_numbered, read_over, State, taken_at, snapshot_at, by_below, read_below, read, ReadOf, Zeros, Fails, Error, Snapshot, Striped}
use Rattle.dm_map.proofs.own.UniqueSteps.{fits, goes_on_inside, read_inside, serve_inside, step_inside}
use Rattle.dm_map.proofs.own.WayLemmas.{touch_first, touch_self}
use Rattle.dm_map.proofs.state.ResolvedLines.{line_snapshot, snapshot_sound}
use Rattle.dm_map.proofs.walk.OneLevel.{by_depth, next_depth, read_disk, read_down}
use Rattle.dm_map.proofs.walk.ReadSteps.{ReadStep, ByLine, ByStore, ByRead, ByServe, read_step}
use Rattle.std.specs.Prelude.{◌≡◌, ◌+◌, ◌-◌, ◌/◌, ◌<◌, ◌∷◌}

-- The sector at which a read continues lies within its device or disk

inside_by : (stack : Description) (state : State) (device sector : ℕ) (to : Lower) (at : ℕ) → IsSound stack → IsFitting stack state → sector < device_len stack device → ReadStep stack state device sector to at → at < lower_len stack to
inside_by stack state device sector to at sound fitting inside (ByLine line is step) = step_inside stack device sector line to at sound is step
inside_by stack state device sector to at sound fitting inside (ByStore snapshot number over valid n to_is at_is) = rw (to_is, at_is) (fits stack state device sector number snapshot sound fitting over n)
inside_by stack state device sector to at sound fitting inside (ByRead snapshot over valid n to_is at_is) = rw (to_is, at_is) (read_inside stack state device sector snapshot sound over inside)
inside_by stack state device sector to at sound fitting inside (ByServe origin over to_is at_is) = rw (to_is, at_is) (serve_inside stack device sector origin sound over inside)

pub next_inside : (stack : Description) (state : State) (device sector : ℕ) (to : Lower) (at : ℕ) → IsSound stack → IsFitting stack state → read_below stack state device sector ≡ Lies to at → at < lower_len stack to
next_inside stack state device sector to at sound fitting is =
    inside_by stack state device sector to at sound fitting (goes_on_inside stack state device sector to at sound is) (read_step stack state device sector to at sound is)

-- Only below an `error` line and a lost snapshot is there an error

lies_no_error : (to : Lower) (at : ℕ) → Lies to at ≡ IsError → ⊥
lies_no_error to at e = cc

column_there : (columns : List ResolvedColumn) (index at : ℕ) → index < length columns → below_column (slice_get columns index) at ≡ IsError → ⊥
column_there columns index at within e =
    let column = there columns index within in
    lies_no_error column.it.to (column.it.offset + at) (sym (ap (λ (c : Option ResolvedColumn). below_column c at) column.at) ∙ e)

snapshot_ends : (stack : Description) (state : State) (device sector distance : ℕ) (snapshot : ResolvedSnapshot) (valid : Bool) (number : Option ℕ) → snapshot_at stack device ≡ Some snapshot → (taken_at state device).valid ≡ valid
    → cond valid (read_numbered snapshot number distance) IsError ≡ IsError → EndsHere stack state device sector
snapshot_ends stack state device sector distance snapshot false number over is e = AtLost snapshot over is
snapshot_ends stack state device sector distance snapshot true (Some i) over is e = absurd (lies_no_error _ _ e)
snapshot_ends stack state device sector distance snapshot true None over is e = absurd (lies_no_error _ _ e)

target_ends : (stack : Description) (state : State) (device sector : ℕ) (line : ResolvedLine) (target : ResolvedTarget) → IsSound stack → found_at stack device sector ≡ Some line → line.target ≡ target → IsTargetSound stack device line.start line.len target
    → below_target (read_over (taken_at state device)) target (sector - line.start) ≡ IsError → EndsHere stack state device sector
target_ends stack state device sector line (Striped chunk columns) sound is target soundly e =
    let some = soundly.some in
    absurd (column_there columns (column_of chunk (length columns) (sector - line.start)) (in_column chunk (length columns) (sector - line.start)) (omega (arith, some)) e)
target_ends stack state device sector line Error sound is target soundly e = AtError line is target
target_ends stack state device sector line (Snapshot snapshot) sound is target soundly e =
    let over = line_snapshot stack device sector line snapshot sound is target in
    snapshot_ends stack state device sector (sector - line.start) snapshot (taken_at state device).valid (number_in ((sector - line.start) / snapshot.chunk) (taken_at state device).chunks) over.1 refl e
target_ends stack state device sector line target sound is t soundly e = absurd cc

pub below_ends : (stack : Description) (state : State) (device sector : ℕ) → IsSound stack → sector < device_len stack device → read_below stack state device sector ≡ IsError → EndsHere stack state device sector
below_ends stack state device sector sound inside e =
    let f = sector_found stack device sector sound (device_there stack device sector inside) inside in
    target_ends stack state device sector f.line f.line.target sound f.is refl f.soundly.target (sym (ap (λ (l : Option ResolvedLine). below_line (read_over (taken_at state device)) l sector) f.is) ∙ e)

lost_below : (stack : Description) (state : State) (device sector : ℕ) (line : Option ResolvedLine) (snapshot : ResolvedSnapshot) → IsSound stack → found_at stack device sector ≡ line → snapshot_at stack device ≡ Some snapshot → (taken_at state device).valid ≡ false
    → below_line (read_over (taken_at state device)) line sector ≡ IsError
lost_below stack state device sector None snapshot sound is over off = refl
lost_below stack state device sector (Some line) snapshot sound is over off = rw (((snapshot_sound stack device snapshot sound over).each sector line is).1, off) refl

ends_below : (stack : Description) (state : State) (device sector : ℕ) → IsSound stack → EndsHere stack state device sector → read_below stack state device sector ≡ IsError
ends_below stack state device sector sound (AtError line is target) = rw (is, target) refl
ends_below stack state device sector sound (AtLost snapshot over off) = lost_below stack state device sector (found_at stack device sector) snapshot sound refl over off

-- A read that fails meets an `error` line or a lost snapshot

disk_no_error : (disk sector : ℕ) → ReadOf disk sector ≡ Fails → ⊥
disk_no_error disk sector e = cc

zeros_no_error : Zeros ≡ Fails → ⊥
zeros_no_error e = cc

Meets : Description → State → Lower → Type 0
Meets stack state lower = (sector : ℕ) → sector < lower_len stack lower → read stack state lower sector ≡ Fails → MeetsError stack state (node lower sector)

meets_first : (stack : Description) (state : State) (device sector : ℕ) (to : Lower) (at : ℕ) → read_below stack state device sector ≡ Lies to at → MeetsError stack state (node to at) → MeetsError stack state (node (Device device) sector)
meets_first stack state device sector to at is meets = record {
  device = meets.device;
  sector = meets.sector;
  way = touch_first stack state (node (Device device) sector) (node to at) (node (Device meets.device) meets.sector) (record { device = device; on = refl; below = is }) meets.way;
  ends = meets.ends;
}

meets_below : (stack : Description) (state : State) (device sector : ℕ) (b : Below) → IsSound stack → IsFitting stack state → sector < device_len stack device → ((other : Lower) → lower_depth stack other < lower_depth stack (Device device) → Meets stack state other)
    → read_below stack state device sector ≡ b → by_below b Zeros Fails (λ to at. read stack state to at) ≡ Fails → MeetsError stack state (node (Device device) sector)
unfolding Meets
meets_below stack state device sector (Lies to at) sound fitting inside each is e =
    meets_first stack state device sector to at is (each to (next_depth stack state device sector to at sound is) at (next_inside stack state device sector to at sound fitting is) e)
meets_below stack state device sector IsZero sound fitting inside each is e = absurd (zeros_no_error e)
meets_below stack state device sector IsError sound fitting inside each is e = record {
  device = device;
  sector = sector;
  way = touch_self stack state (node (Device device) sector);
  ends = below_ends stack state device sector sound inside is;
}

meets_step : (stack : Description) (state : State) → IsSound stack → IsFitting stack state → (lower : Lower) → ((other : Lower) → lower_depth stack other < lower_depth stack lower → Meets stack state other) → Meets stack state lower
unfolding Meets
meets_step stack state sound fitting (Disk disk) each sector inside e = absurd (disk_no_error disk sector (sym (read_disk stack state disk sector) ∙ e))
meets_step stack state sound fitting (Device device) each sector inside e =
    meets_below stack state device sector (read_below stack state device sector) sound fitting inside each refl (sym (read_down stack state device sector sound) ∙ e)

pub meets_error : (stack : Description) (state : State) (lower : Lower) (sector : ℕ) → IsSound stack → IsFitting stack state → sector < lower_len stack lower → read stack state lower sector ≡ Fails → MeetsError stack state (node lower sector)
unfolding Meets
meets_error stack state lower sector sound fitting inside e = by_depth stack (Meets stack state) (meets_step stack state sound fitting) lower sector inside e

-- A read that meets an `error` line or a lost snapshot fails

leads_read : (stack : Description) (state : State) (a b : Node) → IsSound stack → Leads stack state a b → read stack state a.lower a.sector ≡ read stack state b.lower b.sector
leads_read stack state a b sound leads =
    rw leads.on (read_down stack state leads.device a.sector sound ∙ ap (λ (below : Below). by_below below Zeros Fails (λ to at. read stack state to at)) leads.below)

way_read : (stack : Description) (state : State) (a b : Node) (between : List Node) → IsSound stack → IsWay stack state a between b → read stack state a.lower a.sector ≡ read stack state b.lower b.sector
way_read stack state a b [] sound way = ap (λ (n : Node). read stack state n.lower n.sector) way
way_read stack state a b (c ∷ cs) sound way = way_read stack state a c cs sound way.1 ∙ leads_read stack state c b sound way.0

pub error_met : (stack : Description) (state : State) (from : Node) → IsSound stack → MeetsError stack state from → read stack state from.lower from.sector ≡ Fails
error_met stack state from sound meets =
    way_read stack state from (node (Device meets.device) meets.sector) meets.way.between sound meets.way.way
    ∙ read_down stack state meets.device meets.sector sound
    ∙ ap (λ (below : Below). by_below below Zeros Fails (λ to at. read stack state to at)) (ends_below stack state meets.device meets.sector sound meets.ends)
