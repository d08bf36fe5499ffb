-- If no claims clash, at most one step of a read leads to a sector of a column, a store or an origin, and none leads to a top device.
use Rattle.dm_map.proofs.Prelude.{ℕ, true, false, Option, Some, None, refl, sym, ap, ◌∙◌, arith, leb-true, true≢false, Line, Use, Own, Reading, Serving, ResolvedLine, ResolvedOrigin, ResolvedSnapshot, ResolvedTarget, Lower, Device, Lies, below_line, found_at, resolved_line, resolved_target, has_state, IsTidy, IsTop, Description, device_len, lower_len, snapshots_over, IsSound, IsVia, IsNamed, one_via, top_named, plain_inside, IsFitting, read_below, AreSettled, is_settled, store_sector, number_in, read_over, State, Taken, taken_at, origin_at, snapshot_at, Origin, Snapshot}
use Rattle.dm_map.proofs.state.ResolvedLines.{line_sound, origin_sound, snapshot_sound}
use Rattle.dm_map.proofs.walk.ReadSteps.{ReadStep, ByLine, ByStore, ByRead, ByServe}
use Rattle.dm_map.proofs.walk.Spans.{IsPlainStep, distance_one, span_distance, span_index}
use Rattle.dm_map.proofs.state.Numbers.{store_sector_inside}
use Rattle.dm_map.proofs.walk.Overs.{settled_over}
use Rattle.dm_map.proofs.state.TableLemmas.{number_within}
use Rattle.dm_map.proofs.own.StepClaims.{IsLineVia, IsSnapshotVia, via_line, via_origin, via_snapshot}
use Rattle.std.specs.Prelude.{◌≡◌, ◌-◌, ◌/◌, ◌<◌}

-- A line has one target

-- a target without state is neither a snapshot nor an origin
no_plain : (target other : ResolvedTarget) (distance : ℕ) (lower : Lower) (at : ℕ) → target ≡ other → has_state other ≡ true → IsPlainStep target distance lower at → ⊥
no_plain target other distance lower at is state step = cc

line_no_snapshot : (stack : Description) (device sector : ℕ) (line : ResolvedLine) (lower : Lower) (at : ℕ) (l m : Line) (snapshot : ResolvedSnapshot) → resolved_line stack l ≡ line → IsPlainStep line.target (sector - line.start) lower at → l ≡ m → resolved_target stack m.target ≡ Snapshot snapshot → ⊥
line_no_snapshot stack device sector line lower at l m snapshot is step same target =
    no_plain line.target (Snapshot snapshot) (sector - line.start) lower at (cc) refl step

line_no_origin : (stack : Description) (device sector : ℕ) (line : ResolvedLine) (lower : Lower) (at : ℕ) (l m : Line) (origin : ResolvedOrigin) → resolved_line stack l ≡ line → IsPlainStep line.target (sector - line.start) lower at → l ≡ m → resolved_target stack m.target ≡ Origin origin → ⊥
line_no_origin stack device sector line lower at l m origin is step same target =
    no_plain line.target (Origin origin) (sector - line.start) lower at (cc) refl step

-- a snapshot's line is not an origin's line
snapshot_no_origin : (stack : Description) (l m : Line) (snapshot : ResolvedSnapshot) (origin : ResolvedOrigin) → resolved_target stack l.target ≡ Snapshot snapshot → l ≡ m → resolved_target stack m.target ≡ Origin origin → ⊥
snapshot_no_origin stack l m snapshot origin is same target = cc
  where
    differ : Snapshot snapshot ≡ Origin origin → ⊥
    differ e = cc

-- A step of a read leads inside the device or disk that it leads to

pub fits : (stack : Description) (state : State) (device sector number : ℕ) (snapshot : ResolvedSnapshot) → IsSound stack → IsFitting stack state → snapshot_at stack device ≡ Some snapshot → number_in (sector / snapshot.chunk) (taken_at state device).chunks ≡ Some number
    → store_sector snapshot number sector < lower_len stack snapshot.store
fits stack state device sector number snapshot sound fitting at is =
    let over = snapshot_sound stack device snapshot sound at in
    store_sector_inside snapshot number sector (lower_len stack snapshot.store) over.soundly.chunk_some
    (leb-true _ _ (fitting.places device number snapshot at (number_within (sector / snapshot.chunk) (taken_at state device).chunks number is)))

-- the origin's sector that a snapshot reads lies in the origin
pub read_inside : (stack : Description) (state : State) (device sector : ℕ) (snapshot : ResolvedSnapshot) → IsSound stack → snapshot_at stack device ≡ Some snapshot → sector < device_len stack device → sector < lower_len stack snapshot.origin
read_inside stack state device sector snapshot sound at inside = let over = (snapshot_sound stack device snapshot sound at).soundly.origin in omega (arith, over, inside)

-- the sector that an origin's device reads lies in what the device names
pub serve_inside : (stack : Description) (device sector : ℕ) (origin : ResolvedOrigin) → IsSound stack → origin_at stack device ≡ Some origin → sector < device_len stack device → sector < lower_len stack origin.to
serve_inside stack device sector origin sound at inside = let same = (origin_sound stack device origin sound at).soundly.same in omega (arith, same, inside)

-- a sector from which a read continues lies in its device
inside_of : (stack : Description) (state : State) (device sector : ℕ) (lower : Lower) (at : ℕ) (line : Option ResolvedLine) → IsSound stack → found_at stack device sector ≡ line → below_line (read_over (taken_at state device)) line sector ≡ Lies lower at → sector < device_len stack device
inside_of stack state device sector lower at None sound is e = absurd cc
inside_of stack state device sector lower at (Some line) sound is e = (line_sound stack device sector line sound is).inside

pub goes_on_inside : (stack : Description) (state : State) (device sector : ℕ) (lower : Lower) (at : ℕ) → IsSound stack → read_below stack state device sector ≡ Lies lower at → sector < device_len stack device
goes_on_inside stack state device sector lower at sound e = inside_of stack state device sector lower at (found_at stack device sector) sound refl e

-- The only step that leads to a sector

pub record IsAt (d s e u : ℕ) : Type 0 where
  pub device : d ≡ e
  pub sector : s ≡ u

two_columns : (i j : ℕ) → i ≡ 0 → j ≡ 1 → i ≡ j → ⊥
two_columns i j first second same = omega (arith, first, second, same)

-- only the sector of a line without state leads to the sector below it
pub only_by_line : (stack : Description) (state : State) (d s e t : ℕ) (lower : Lower) (at : ℕ) (line : ResolvedLine) → IsSound stack → IsFitting stack state → IsTidy stack → t < device_len stack e
    → found_at stack d s ≡ Some line → IsPlainStep line.target (s - line.start) lower at → ReadStep stack state e t lower at → IsAt e t d s
only_by_line stack state d s e t lower at line sound fitting tidy inside is step (ByLine other is_other step_other) =
    let a = via_line stack d s line lower at sound is step in let b = via_line stack e t other lower at sound is_other step_other in
    let one = one_via stack d e a.index b.index (span_index line.target (s - line.start)) (span_index other.target (t - other.start)) a.it b.it lower at Own Own tidy a.via b.via refl in
    let same : line ≡ other = sym a.is ∙ ap (resolved_line stack) one.lines ∙ b.is in
    let of = (line_sound stack d s line sound is).soundly in let of_other = (line_sound stack e t other sound is_other).soundly in
    let starts : line.start ≡ other.start = cc in
    let indices : span_index line.target (s - line.start) ≡ span_index line.target (t - other.start) = cc in
    let same_span : a.via.span ≡ b.via.span = cc in
    let offsets : a.via.span.offset ≡ b.via.span.offset = cc in
    let moved : span_distance line.target (t - other.start) ≡ span_distance other.target (t - other.start) = cc in
    let on = a.lies in let on_other = b.lies in
    let within : span_distance line.target (s - line.start) ≡ span_distance line.target (t - other.start) = omega (arith, offsets, moved, on, on_other) in
    let distances = distance_one stack d line.start line.len line.target (s - line.start) (t - other.start) of.target indices within in
    let from = of.from in let from_other = of_other.from in
    record { device = sym one.devices; sector = omega (arith, distances, starts, from, from_other) }
only_by_line stack state d s e t lower at line sound fitting tidy inside is step (ByStore snapshot number over valid n lower_is at_is) =
    let a = via_line stack d s line lower at sound is step in let b = via_snapshot stack e snapshot sound over in
    let below : at < lower_len stack snapshot.store = rw at_is (fits stack state e t number snapshot sound fitting over n) in
    let via : IsVia stack e b.index 0 b.it lower at Own = rw lower_is (b.store at below) in
    let one = one_via stack d e a.index b.index (span_index line.target (s - line.start)) 0 a.it b.it lower at Own Own tidy a.via via refl in
    absurd (line_no_snapshot stack d s line lower at a.it b.it snapshot a.is step one.lines b.target)
only_by_line stack state d s e t lower at line sound fitting tidy inside is step (ByRead snapshot over valid n lower_is at_is) =
    let a = via_line stack d s line lower at sound is step in let b = via_snapshot stack e snapshot sound over in
    let below : at < lower_len stack snapshot.origin = rw at_is (read_inside stack state e t snapshot sound over inside) in
    let via : IsVia stack e b.index 1 b.it lower at Reading = rw lower_is (b.origin at below) in
    let one = one_via stack d e a.index b.index (span_index line.target (s - line.start)) 1 a.it b.it lower at Own Reading tidy a.via via refl in
    absurd (line_no_snapshot stack d s line lower at a.it b.it snapshot a.is step one.lines b.target)
only_by_line stack state d s e t lower at line sound fitting tidy inside is step (ByServe origin over lower_is at_is) =
    let a = via_line stack d s line lower at sound is step in let b = via_origin stack e origin sound over in
    let below : at < lower_len stack origin.to = rw at_is (serve_inside stack e t origin sound over inside) in
    let via : IsVia stack e b.index 0 b.it lower at Serving = rw lower_is (b.via at below) in
    let one = one_via stack d e a.index b.index (span_index line.target (s - line.start)) 0 a.it b.it lower at Own Serving tidy a.via via refl in
    absurd (line_no_origin stack d s line lower at a.it b.it origin a.is step one.lines b.target)

-- the step to a sector of the store starts in the snapshot, at a sector of a taken chunk
pub record IsInStore (state : State) (device : ℕ) (snapshot : ResolvedSnapshot) (at e t : ℕ) : Type 0 where
  pub same : e ≡ device
  pub number : ℕ
  pub is : number_in (t / snapshot.chunk) (taken_at state device).chunks ≡ Some number
  pub sector : at ≡ store_sector snapshot number t

pub only_by_store : (stack : Description) (state : State) (d e t at : ℕ) (snapshot : ResolvedSnapshot) → IsSound stack → IsFitting stack state → IsTidy stack → t < device_len stack e
    → snapshot_at stack d ≡ Some snapshot → at < lower_len stack snapshot.store → ReadStep stack state e t snapshot.store at → IsInStore state d snapshot at e t
only_by_store stack state d e t at snapshot sound fitting tidy inside over below (ByLine line is step) =
    let a = via_line stack e t line snapshot.store at sound is step in let b = via_snapshot stack d snapshot sound over in
    let one = one_via stack e d a.index b.index (span_index line.target (t - line.start)) 0 a.it b.it snapshot.store at Own Own tidy a.via (b.store at below) refl in
    absurd (line_no_snapshot stack e t line snapshot.store at a.it b.it snapshot a.is step one.lines b.target)
only_by_store stack state d e t at snapshot sound fitting tidy inside over below (ByStore other number over_other valid n store_is at_is) =
    let a = via_snapshot stack d snapshot sound over in let b = via_snapshot stack e other sound over_other in
    let below_other : at < lower_len stack other.store = rw store_is at below in
    let via : IsVia stack e b.index 0 b.it snapshot.store at Own = rw store_is (b.store at below_other) in
    let one = one_via stack d e a.index b.index 0 0 a.it b.it snapshot.store at Own Own tidy (a.store at below) via refl in
    let same : snapshot ≡ other = cc in
    record { same = sym one.devices; number = number; is = rw (same, one.devices) n; sector = rw same at_is }
only_by_store stack state d e t at snapshot sound fitting tidy inside over below (ByRead other over_other valid n store_is at_is) =
    let a = via_snapshot stack d snapshot sound over in let b = via_snapshot stack e other sound over_other in
    let below_other : at < lower_len stack other.origin = rw at_is (read_inside stack state e t other sound over_other inside) in
    let via : IsVia stack e b.index 1 b.it snapshot.store at Reading = rw store_is (b.origin at below_other) in
    let one = one_via stack d e a.index b.index 0 1 a.it b.it snapshot.store at Own Reading tidy (a.store at below) via refl in
    absurd (two_columns 0 1 refl refl one.columns)
only_by_store stack state d e t at snapshot sound fitting tidy inside over below (ByServe origin over_other store_is at_is) =
    let a = via_snapshot stack d snapshot sound over in let b = via_origin stack e origin sound over_other in
    let below_other : at < lower_len stack origin.to = rw store_is at below in
    let via : IsVia stack e b.index 0 b.it snapshot.store at Serving = rw store_is (b.via at below_other) in
    let one = one_via stack d e a.index b.index 0 0 a.it b.it snapshot.store at Own Serving tidy (a.store at below) via refl in
    absurd (snapshot_no_origin stack a.it b.it snapshot origin a.target one.lines b.target)

-- Roots: devices and disks that no line without state leads to and that are no store

pub record IsNoLines (stack : Description) (lower : Lower) : Type 0 where
  pub none : (device sector : ℕ) (line : ResolvedLine) (at : ℕ) → found_at stack device sector ≡ Some line → IsPlainStep line.target (sector - line.start) lower at → ⊥

pub record IsNoStore (stack : Description) (lower : Lower) : Type 0 where
  pub none : (device : ℕ) (snapshot : ResolvedSnapshot) → snapshot_at stack device ≡ Some snapshot → lower ≡ snapshot.store → ⊥

-- No line without state leads to a store or an origin, and no store is an origin

pub step_inside : (stack : Description) (device sector : ℕ) (line : ResolvedLine) (lower : Lower) (at : ℕ) → IsSound stack → found_at stack device sector ≡ Some line → IsPlainStep line.target (sector - line.start) lower at → at < lower_len stack lower
step_inside stack device sector line lower at sound is step =
    let of = (line_sound stack device sector line sound is).soundly in
    let from = of.from in let before = of.before in
    plain_inside stack device line.start line.len (sector - line.start) line.target lower at of.target (omega (arith, from, before)) step.plain step.lies

-- no line without state leads to a device or disk that a snapshot's line names
named_no_lines : (stack : Description) (device column : ℕ) (snapshot : ResolvedSnapshot) (lower : Lower) (kind : Use) → IsSound stack → IsTidy stack → (b : IsSnapshotVia stack device snapshot)
    → ((at : ℕ) → at < lower_len stack lower → IsVia stack device b.index column b.it lower at kind) → IsNoLines stack lower
named_no_lines stack device column snapshot lower kind sound tidy b via = record {
  none = λ e t line at is step.
      let a = via_line stack e t line lower at sound is step in
      let one = one_via stack e device a.index b.index (span_index line.target (t - line.start)) column a.it b.it lower at Own kind tidy a.via (via at (step_inside stack e t line lower at sound is step)) refl in
      line_no_snapshot stack e t line lower at a.it b.it snapshot a.is step one.lines b.target;
}

pub store_no_lines : (stack : Description) (device : ℕ) (snapshot : ResolvedSnapshot) → IsSound stack → IsTidy stack → snapshot_at stack device ≡ Some snapshot → IsNoLines stack snapshot.store
store_no_lines stack device snapshot sound tidy over = let b = via_snapshot stack device snapshot sound over in named_no_lines stack device 0 snapshot snapshot.store Own sound tidy b b.store

pub origin_no_lines : (stack : Description) (device : ℕ) (snapshot : ResolvedSnapshot) → IsSound stack → IsTidy stack → snapshot_at stack device ≡ Some snapshot → IsNoLines stack snapshot.origin
origin_no_lines stack device snapshot sound tidy over = let b = via_snapshot stack device snapshot sound over in named_no_lines stack device 1 snapshot snapshot.origin Reading sound tidy b b.origin

pub origin_no_store : (stack : Description) (device : ℕ) (snapshot : ResolvedSnapshot) → IsSound stack → IsTidy stack → snapshot_at stack device ≡ Some snapshot → IsNoStore stack snapshot.origin
origin_no_store stack device snapshot sound tidy over = record {
  none = λ e other over_other same.
      let of = snapshot_sound stack device snapshot sound over in
      let whole = of.soundly.origin in let some = of.some in
      let below : 0 < lower_len stack snapshot.origin = omega (arith, whole, some) in
      let a = via_snapshot stack device snapshot sound over in let b = via_snapshot stack e other sound over_other in
      let via : IsVia stack e b.index 0 b.it snapshot.origin 0 Own = rw same (b.store 0 (rw same at below)) in
      let one = one_via stack e device b.index a.index 0 1 b.it a.it snapshot.origin 0 Own Reading tidy via (a.origin 0 below) refl in
      two_columns 0 1 refl refl one.columns;
}

-- Devices and disks that no origin's line names

pub record IsUnserved (stack : Description) (lower : Lower) : Type 0 where
  pub none : (device : ℕ) (origin : ResolvedOrigin) → origin_at stack device ≡ Some origin → lower ≡ origin.to → ⊥

-- a valid snapshot hasn't settled a chunk that it would still read from the origin
not_settled : (taken : Taken) (chunk : ℕ) → taken.valid ≡ true → number_in chunk taken.chunks ≡ None → is_settled taken chunk ≡ true → ⊥
not_settled taken chunk valid none settled = true≢false (sym settled ∙ (rw (valid, none) refl))

-- only the origin's device leads to a sector of what it names, if all snapshots have settled the sector's chunk
pub only_by_origin : (stack : Description) (state : State) (d e t at : ℕ) (origin : ResolvedOrigin) → IsSound stack → IsTidy stack → origin_at stack d ≡ Some origin → at < lower_len stack origin.to
    → AreSettled state origin.over at → ReadStep stack state e t origin.to at → IsAt e t d at
only_by_origin stack state d e t at origin sound tidy served below settled (ByLine line is step) =
    let a = via_line stack e t line origin.to at sound is step in let b = via_origin stack d origin sound served in
    let one = one_via stack e d a.index b.index (span_index line.target (t - line.start)) 0 a.it b.it origin.to at Own Serving tidy a.via (b.via at below) refl in
    absurd (line_no_origin stack e t line origin.to at a.it b.it origin a.is step one.lines b.target)
only_by_origin stack state d e t at origin sound tidy served below settled (ByStore snapshot number over valid n lower_is at_is) =
    let a = via_snapshot stack e snapshot sound over in let b = via_origin stack d origin sound served in
    let below_store : at < lower_len stack snapshot.store = rw lower_is at below in
    let via : IsVia stack e a.index 0 a.it origin.to at Own = rw lower_is (a.store at below_store) in
    let one = one_via stack e d a.index b.index 0 0 a.it b.it origin.to at Own Serving tidy via (b.via at below) refl in
    absurd (snapshot_no_origin stack a.it b.it snapshot origin a.target one.lines b.target)
only_by_origin stack state d e t at origin sound tidy served below settled (ByRead snapshot over valid n lower_is at_is) =
    let list : origin.over ≡ snapshots_over stack snapshot.origin = (origin_sound stack d origin sound served).soundly.over ∙ ap (snapshots_over stack) lower_is in
    let here = settled_over stack state e at snapshot over (rw list at settled) in
    absurd (not_settled (taken_at state e) (t / snapshot.chunk) valid n (rw at_is at here))
only_by_origin stack state d e t at origin sound tidy served below settled (ByServe other over lower_is at_is) =
    let a = via_origin stack e other sound over in let b = via_origin stack d origin sound served in
    let below_other : at < lower_len stack other.to = rw lower_is at below in
    let via : IsVia stack e a.index 0 a.it origin.to at Serving = rw lower_is (a.via at below_other) in
    let one = one_via stack e d a.index b.index 0 0 a.it b.it origin.to at Serving Serving tidy via (b.via at below) refl in
    record { device = one.devices; sector = sym at_is }

-- No step leads to a top device

line_named : (stack : Description) (device sector : ℕ) (line : ResolvedLine) (lower : Lower) (at : ℕ) (via : IsLineVia stack device sector line lower at) → IsNamed stack device via.index (span_index line.target (sector - line.start)) via.it lower
line_named stack device sector line lower at via = record { there = via.via.there; line_at = via.via.line_at; span = via.via.span; span_at = via.via.span_at; on = via.via.on }

pub record IsRoot (stack : Description) (lower : Lower) : Type 0 where
  pub lines : IsNoLines stack lower
  pub stores : IsNoStore stack lower

pub origin_root : (stack : Description) (device : ℕ) (snapshot : ResolvedSnapshot) → IsSound stack → IsTidy stack → snapshot_at stack device ≡ Some snapshot → IsRoot stack snapshot.origin
origin_root stack device snapshot sound tidy over = record { lines = origin_no_lines stack device snapshot sound tidy over; stores = origin_no_store stack device snapshot sound tidy over }

pub top_root : (stack : Description) (top : ℕ) → IsSound stack → IsTop stack top → IsRoot stack (Device top)
top_root stack top sound is_top = record {
  lines = record {
    none = λ e t line at is step.
        let a = via_line stack e t line (Device top) at sound is step in
        top_named stack top e a.index (span_index line.target (t - line.start)) a.it (Device top) is_top (line_named stack e t line (Device top) at a) refl;
  };
  stores = record {
    none = λ e snapshot over same. let b = via_snapshot stack e snapshot sound over in top_named stack top e b.index 0 b.it snapshot.store is_top b.store_named (sym same);
  };
}

pub top_unserved : (stack : Description) (top : ℕ) → IsSound stack → IsTop stack top → IsUnserved stack (Device top)
top_unserved stack top sound is_top = record { none = λ e origin over same. let b = via_origin stack e origin sound over in top_named stack top e b.index 0 b.it origin.to is_top b.named (sym same) }

pub no_step_to_top : (stack : Description) (state : State) (top e t at : ℕ) → IsSound stack → IsTop stack top → ReadStep stack state e t (Device top) at → ⊥
no_step_to_top stack state top e t at sound is_top (ByLine line is step) = (top_root stack top sound is_top).lines.none e t line at is step
no_step_to_top stack state top e t at sound is_top (ByStore snapshot number over valid n same at_is) = (top_root stack top sound is_top).stores.none e snapshot over same
no_step_to_top stack state top e t at sound is_top (ByRead snapshot over valid n same at_is) =
    let b = via_snapshot stack e snapshot sound over in top_named stack top e b.index 1 b.it snapshot.origin is_top b.origin_named (sym same)
no_step_to_top stack state top e t at sound is_top (ByServe origin over same at_is) = (top_unserved stack top sound is_top).none e origin over same
