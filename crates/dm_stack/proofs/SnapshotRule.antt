-- In a sound stack the snapshots are the devices whose first sector is on a snapshot line, which covers all of the device.
use Rattle.dm_stack.proofs.Prelude.{ℕ, Bool, true, false, cond, not, inl, inr, List, [], Some, arith, refl, sym, ap, subst, ◌∙◌, get_or, length, find, option_map, AllByRecursion, range_with_len, or-false, cases_lt, eqb-true, not-false, or_cases, or_left, or_parts, or_right, filter_passes, slice_get_past, Line, Target, ResolvedLine, ResolvedSnapshot, found_at, resolved_line, resolved_target, holds, line_of, Description, device_len, end_of, lines_at, lower_len, lower_of, AreSnapshots, IsSnapshot, has_snapshot, is_snapshot, snapshots, resolved_snapshot, IsSound, is_bad_chunk, is_bad_snapshot}
use Rattle.dm_table.specs.declared.tables.table.Target.TheVariants as targets
use Rattle.dm_stack.specs.declared.lines.resolved_line.ResolvedTarget.TheVariants as found
use Rattle.dm_stack.proofs.checks.LayoutLemmas.{AreInRow}
use Rattle.dm_stack.proofs.lines.Members.{in_range, kept}
use Rattle.dm_stack.proofs.SoundLines.{device_some, device_sound, holds_from, lines_there, there}
use Rattle.std.specs.Prelude.{◌≡◌, ◌+◌, ◌<◌, ◌∷◌, ◌==◌, ◌||◌}

-- A device with a snapshot line has no other line

one_by : (stack : Description) (lines len : ℕ) (target : Target) → is_bad_snapshot stack lines len target ≡ false → is_snapshot target ≡ true → lines ≡ 1
one_by stack lines len (targets.Snapshot origin store kind chunk) good is =
    eqb-true _ _ (not-false _ (or_parts (not (lines == 1)) (is_bad_chunk chunk || not (len == lower_len stack (lower_of stack origin))) good).0)
one_by stack lines len _ good is = absurd cc

one_of : (stack : Description) (count : ℕ) (lines : List Line) → AllByRecursion (λ line. is_bad_snapshot stack count line.len line.target ≡ false) lines → has_snapshot lines ≡ true → count ≡ 1
one_of stack count [] good is = absurd cc
one_of stack count (line ∷ lines) good is = elim (or_cases (is_snapshot line.target) (has_snapshot lines) is) [
  | inl here ↦ one_by stack count line.len line.target good.0 here
  | inr later ↦ one_of stack count lines good.1 later
]

-- with ids in place of names, the target is still a snapshot
pub record IsOver (stack : Description) (target : Target) : Type 0 where
  pub snapshot : ResolvedSnapshot
  pub is : resolved_target stack target ≡ found.Snapshot snapshot

over : (stack : Description) (target : Target) → is_snapshot target ≡ true → IsOver stack target
over stack (targets.Snapshot origin store kind chunk) is = record { snapshot = resolved_snapshot stack origin store kind chunk; is = refl }
over stack _ is = absurd cc

-- these lines are a single one
pub record IsOnly (lines : List Line) : Type 0 where
  pub line : Line
  pub is : lines ≡ line ∷ []
  pub over : is_snapshot line.target ≡ true

alone : (lines : List Line) → length lines ≡ 1 → has_snapshot lines ≡ true → IsOnly lines
alone [] one is = absurd cc
alone (line ∷ []) one is = record { line = line; is = refl; over = sym (or-false (is_snapshot line.target)) ∙ is }
alone (line ∷ next ∷ lines) one is = absurd (omega (arith, one))

line_from : (line : Line) → 0 < line.len → line.start ≡ 0 → line_of (line ∷ []) 0 ≡ Some line
line_from line some from = let here = holds_from line 0 (omega (arith, from)) (omega (arith, some)) in rw here

-- the device has a single line, a snapshot that covers all of it
pub record IsSnapshotLine (stack : Description) (device : ℕ) : Type 0 where
  pub line : Line
  pub only : lines_at stack device ≡ line ∷ []
  pub over : is_snapshot line.target ≡ true
  pub at : found_at stack device 0 ≡ Some (record { start = 0; len = device_len stack device; target = resolved_target stack line.target })

is_whole : (stack : Description) (device : ℕ) (lines : List Line) → IsSound stack → device < length stack.devices → lines_at stack device ≡ lines → AreInRow 0 lines → IsOnly lines → IsSnapshotLine stack device
is_whole stack device lines sound within are row alone =
    let line = alone.line in
    let from : line.start ≡ 0 = (subst (AreInRow 0) alone.is row).0 in
    let end : device_len stack device ≡ line.start + line.len = ap end_of (are ∙ alone.is) in
    let len : line.len ≡ device_len stack device = omega (arith, from, end) in
    let some = device_some stack device sound within in
    record {
      line = line;
      only = are ∙ alone.is;
      over = alone.over;
      at =
          cc (line_from line (omega (arith, len, some)) from);
    }

pub snapshot_line : (stack : Description) → IsSound stack → (device : ℕ) → device < length stack.devices → has_snapshot (lines_at stack device) ≡ true → IsSnapshotLine stack device
snapshot_line stack sound device within is =
    let d = there stack.devices device within in
    let lines = lines_there stack device d.it d.at in
    let s = device_sound stack device d.it sound d.at in
    let has = rw lines at is in
    is_whole stack device d.it.lines sound within lines s.placed (alone d.it.lines (one_of stack (length d.it.lines) d.it.lines s.fitting has) has)

each_snapshot : (stack : Description) → IsSound stack → (device : ℕ) → device < length stack.devices → has_snapshot (lines_at stack device) ≡ true → IsSnapshot stack device
each_snapshot stack sound device within is =
    let line = snapshot_line stack sound device within is in
    let target = over stack line.line.target line.over in
    record {
      there = within;
      snapshot = target.snapshot;
      line = rw (← target.is) line.at;
    }

-- A device whose first sector is on a snapshot line has such a line in its table

target_over : (stack : Description) (target : Target) (snapshot : ResolvedSnapshot) → resolved_target stack target ≡ found.Snapshot snapshot → is_snapshot target ≡ true
target_over stack (targets.Snapshot origin store kind chunk) snapshot is = refl
target_over stack _ snapshot is = absurd cc

pub any_found : (stack : Description) (test : Line → Bool) (lines : List Line) (line : ResolvedLine) (snapshot : ResolvedSnapshot) → option_map (resolved_line stack) (find test lines) ≡ Some line → line.target ≡ found.Snapshot snapshot → has_snapshot lines ≡ true
any_found stack test [] line snapshot at is = absurd cc
any_found stack test (first ∷ lines) line snapshot at is = by_test (λ e. any_found stack test lines line snapshot e is) (test first) at
  where
    by_test : (option_map (resolved_line stack) (find test lines) ≡ Some line → has_snapshot lines ≡ true) → (b : Bool) → option_map (resolved_line stack) (cond b (Some first) (find test lines)) ≡ Some line → has_snapshot (first ∷ lines) ≡ true
    by_test more true e =
        let same : resolved_target stack first.target ≡ line.target = cc in
        or_left (is_snapshot first.target) (has_snapshot lines) (target_over stack first.target snapshot (same ∙ is))
    by_test more false e = or_right (is_snapshot first.target) (has_snapshot lines) (more e)

pub lines_within : (stack : Description) (device : ℕ) → has_snapshot (lines_at stack device) ≡ true → device < length stack.devices
lines_within stack device is = elim (cases_lt device (length stack.devices)) [
  | inl within ↦ within
  | inr past ↦ absurd (let none = slice_get_past stack.devices device past in let no : has_snapshot (lines_at stack device) ≡ false = rw none in let both = sym no ∙ is in cc)
]

pub are_snapshots : (stack : Description) → IsSound stack → AreSnapshots stack (snapshots stack)
are_snapshots stack sound = record {
  each = λ k d within.
      let is = filter_passes (λ device. has_snapshot (lines_at stack device)) (range_with_len 0 (length stack.devices)) k d within in
      each_snapshot stack sound (get_or (snapshots stack) k d) (lines_within stack (get_or (snapshots stack) k d) is) is;
  among = λ device line snapshot at is.
      let has = any_found stack (holds 0) (lines_at stack device) line snapshot at is in
      kept (λ id. has_snapshot (lines_at stack id)) (range_with_len 0 (length stack.devices)) device has (in_range (length stack.devices) device (lines_within stack device has));
}
