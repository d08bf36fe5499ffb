-- What a sound stack says about the line that is found for a sector.
use Rattle.dm_map.proofs.Prelude.{ℕ, inl, inr, Bool, true, false, cond, List, [], Option, Some, None, length, refl, sym, ap, ◌∙◌, arith, option_and_then, option_map, nat_le, nat_lt, and_parts, cases_lt, ltb-true, slice_get_past, Line, ResolvedLine, ResolvedOrigin, ResolvedSnapshot, ResolvedTarget, found_at, resolved_line, holds, line_of, IsOriginSound, IsSnapshotSound, Description, device_len, IsSound, same_found, HoldsSoundly, device_sound, lines_there, sector_found, there, origin_at, origin_of, snapshot_at, snapshot_of, Origin, Snapshot}
use Rattle.dm_stack.specs.Prelude.{end_of}
use Rattle.dm_stack.proofs.LayoutLemmas.{AreInRow}
use Rattle.std.specs.Prelude.{◌≡◌, ◌+◌, ◌<◌, ◌≤◌, ◌∷◌}

-- A sector that a line holds is before its device's end

end_after : (end : ℕ) (line : Line) (lines : List Line) → AreInRow end (line ∷ lines) → end + line.len ≤ end_of (line ∷ lines)
end_after end line [] row = let from = row.0 in omega (arith, from)
end_after end line (next ∷ lines) row = let from = row.0 in let later = end_after (line.start + line.len) next lines row.1 in omega (arith, from, later)

inside_by : (end sector : ℕ) (first line : Line) (lines : List Line) (b : Bool) → AreInRow end (first ∷ lines) → holds sector first ≡ b → (line_of lines sector ≡ Some line → sector < end_of (first ∷ lines)) → cond b (Some first) (line_of lines sector) ≡ Some line → sector < end_of (first ∷ lines)
inside_by end sector first line lines true row holding later is =
    let from = row.0 in let ends = end_after end first lines row in
    let before = ltb-true _ _ (and_parts (nat_le first.start sector) (nat_lt sector (first.start + first.len)) holding).1 in
    omega (arith, from, ends, before)
inside_by end sector first line lines false row holding later is = later is

line_inside : (end sector : ℕ) (lines : List Line) (line : Line) → AreInRow end lines → line_of lines sector ≡ Some line → sector < end_of lines
line_inside end sector [] line row is = absurd cc
line_inside end sector (first ∷ []) line row is = inside_by end sector first line [] (holds sector first) row refl (λ later. absurd cc) is
line_inside end sector (first ∷ next ∷ lines) line row is =
    inside_by end sector first line (next ∷ lines) (holds sector first) row refl (λ later. line_inside (first.start + first.len) sector (next ∷ lines) line row.1 later) is

pub some_line : (stack : Description) (line : Option Line) (found : ResolvedLine) → option_map (resolved_line stack) line ≡ Some found → (it : Line) × (line ≡ Some it) × (resolved_line stack it ≡ found)
some_line stack None found is = absurd cc
some_line stack (Some it) found is = (it, refl, cc)

-- what is known about the line that holds a sector of a sound stack
pub record IsLineOf (stack : Description) (device sector : ℕ) (line : ResolvedLine) : Type 0 where
  pub there : device < length stack.devices
  pub inside : sector < device_len stack device
  pub soundly : HoldsSoundly stack device line sector

-- a device with a line is one of the stack's
pub line_there : (stack : Description) (device sector : ℕ) (line : ResolvedLine) → found_at stack device sector ≡ Some line → device < length stack.devices
line_there stack device sector line is =
    elim (cases_lt device (length stack.devices)) [
      | inl there ↦ there
      | inr past ↦ absurd (none (cc (slice_get_past stack.devices device past)))
    ]
  where
    none : None ≡ Some line → ⊥
    none e = cc

pub line_sound : (stack : Description) (device sector : ℕ) (line : ResolvedLine) → IsSound stack → found_at stack device sector ≡ Some line → IsLineOf stack device sector line
line_sound stack device sector line sound is =
    let within = line_there stack device sector line is in
    let d = there stack.devices device within in
    let s = device_sound stack device d.it sound d.at in
    let lines = lines_there stack device d.it d.at in
    let it = some_line stack (line_of d.it.lines sector) line cc in
    let inside : sector < device_len stack device = rw lines (line_inside 0 sector d.it.lines it.0 s.placed it.1) in
    let f = sector_found stack device sector sound within inside in
    let same : f.line ≡ line = cc in
    record { there = within; inside = inside; soundly = rw same at f.soundly }

-- a line that starts at sector 0 is the first of its device
first_found : (stack : Description) (device sector : ℕ) (line : ResolvedLine) → IsSound stack → found_at stack device sector ≡ Some line → line.start ≡ 0 → found_at stack device 0 ≡ Some line
first_found stack device sector line sound is from =
    let of = line_sound stack device sector line sound is in let before = of.soundly.before in
    same_found stack device sector 0 line sound of.there is (omega (arith, from)) (omega (arith, from, before))

-- A snapshot covers all of its device

pub record IsSnapshotOf (stack : Description) (device : ℕ) (snapshot : ResolvedSnapshot) : Type 0 where
  pub there : device < length stack.devices
  pub some : 0 < device_len stack device
  pub soundly : IsSnapshotSound stack device 0 (device_len stack device) snapshot
  -- each sector of the device is on the snapshot's line
  pub each : (sector : ℕ) (line : ResolvedLine) → found_at stack device sector ≡ Some line → (line.start ≡ 0) × (line.target ≡ Snapshot snapshot)

pub line_snapshot : (stack : Description) (device sector : ℕ) (line : ResolvedLine) (snapshot : ResolvedSnapshot) → IsSound stack → found_at stack device sector ≡ Some line → line.target ≡ Snapshot snapshot
    → (line.start ≡ 0) × (snapshot_at stack device ≡ Some snapshot)
line_snapshot stack device sector line snapshot sound is target =
    let over : IsSnapshotSound stack device line.start line.len snapshot = rw target at (line_sound stack device sector line sound is).soundly.target in
    (over.from, rw (first_found stack device sector line sound is over.from, target) refl)

target_snapshot : (line : ResolvedLine) (target : ResolvedTarget) (snapshot : ResolvedSnapshot) → line.target ≡ target → snapshot_of target ≡ Some snapshot → line.target ≡ Snapshot snapshot
target_snapshot line (Snapshot other) snapshot is e = is ∙ ap Snapshot cc
target_snapshot line target snapshot is e = absurd cc

pub first_line : (stack : Description) (device : ℕ) (snapshot : ResolvedSnapshot) (found : Option ResolvedLine) → found_at stack device 0 ≡ found → option_and_then (λ (line : ResolvedLine). snapshot_of line.target) found ≡ Some snapshot → (line : ResolvedLine) × (found_at stack device 0 ≡ Some line) × (line.target ≡ Snapshot snapshot)
first_line stack device snapshot None is e = absurd cc
first_line stack device snapshot (Some line) is e = (line, is, target_snapshot line line.target snapshot refl e)

pub snapshot_sound : (stack : Description) (device : ℕ) (snapshot : ResolvedSnapshot) → IsSound stack → snapshot_at stack device ≡ Some snapshot → IsSnapshotOf stack device snapshot
snapshot_sound stack device snapshot sound at =
    let first = first_line stack device snapshot (found_at stack device 0) refl at in
    let of = line_sound stack device 0 first.0 sound first.1 in
    let over : IsSnapshotSound stack device first.0.start first.0.len snapshot = rw first.2 at of.soundly.target in
    let from = over.from in let whole = over.whole in
    record {
      there = of.there;
      some = of.inside;
      soundly = record { chunk_some = over.chunk_some; chunk_small = over.chunk_small; from = refl; whole = refl; origin = over.origin ∙ whole; store = over.store };
      each = λ sector line is.
          let inside = (line_sound stack device sector line sound is).inside in
          let same : line ≡ first.0 = cc (sym is ∙ same_found stack device 0 sector first.0 sound of.there first.1 (omega (arith, from)) (omega (arith, from, whole, inside))) in
          (cc, cc);
    }

-- An origin's line covers all of its device

pub record IsOriginOf (stack : Description) (device : ℕ) (origin : ResolvedOrigin) : Type 0 where
  pub there : device < length stack.devices
  pub some : 0 < device_len stack device
  pub soundly : IsOriginSound stack device 0 (device_len stack device) origin

pub line_origin : (stack : Description) (device sector : ℕ) (line : ResolvedLine) (origin : ResolvedOrigin) → IsSound stack → found_at stack device sector ≡ Some line → line.target ≡ Origin origin
    → (line.start ≡ 0) × (origin_at stack device ≡ Some origin)
line_origin stack device sector line origin sound is target =
    let it : IsOriginSound stack device line.start line.len origin = rw target at (line_sound stack device sector line sound is).soundly.target in
    (it.from, rw (first_found stack device sector line sound is it.from, target) refl)

target_origin : (line : ResolvedLine) (target : ResolvedTarget) (origin : ResolvedOrigin) → line.target ≡ target → origin_of target ≡ Some origin → line.target ≡ Origin origin
target_origin line (Origin other) origin is e = is ∙ ap Origin cc
target_origin line target origin is e = absurd cc

pub first_origin : (stack : Description) (device : ℕ) (origin : ResolvedOrigin) (found : Option ResolvedLine) → found_at stack device 0 ≡ found → option_and_then (λ (line : ResolvedLine). origin_of line.target) found ≡ Some origin → (line : ResolvedLine) × (found_at stack device 0 ≡ Some line) × (line.target ≡ Origin origin)
first_origin stack device origin None is e = absurd cc
first_origin stack device origin (Some line) is e = (line, is, target_origin line line.target origin refl e)

pub origin_sound : (stack : Description) (device : ℕ) (origin : ResolvedOrigin) → IsSound stack → origin_at stack device ≡ Some origin → IsOriginOf stack device origin
origin_sound stack device origin sound at =
    let first = first_origin stack device origin (found_at stack device 0) refl at in
    let of = line_sound stack device 0 first.0 sound first.1 in
    let it : IsOriginSound stack device first.0.start first.0.len origin = rw first.2 at of.soundly.target in
    let whole = it.whole in
    record { there = of.there; some = of.inside; soundly = record { from = refl; whole = refl; same = it.same ∙ whole; over = it.over } }
