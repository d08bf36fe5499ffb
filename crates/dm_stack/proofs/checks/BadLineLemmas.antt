-- The faults that one walk over the lines notes are the first faults of the checks.
use Rattle.dm_stack.proofs.Prelude.{ℕ, Bool, true, false, cond, not, List, [], Option, Some, None, arith, refl, ap, ◌∙◌, length, nat_lt, ne_eqb, flat_map, DeviceSpec, Line, LoadFault, LoadKind, Empty, Gap, Overlap, Unknown, Stripe, Range, Snapshot, either, fault, faults_by, first_or, Description, bad_snapshots_in, empty_in, has_bad_stripes, is_bad_snapshot, is_unknown, misplaced_in, without_lines, AreFirst, no_bad_lines, noted_device, noted_devices, noted_line, noted_lines, or_bad, passes_end}
use Rattle.dm_stack.specs.declared.checks.lines.BadLines.{BadLines}
use Rattle.dm_stack.proofs.checks.LayoutLemmas.{misplaced_from, misplaced_rows}
use Rattle.dm_stack.proofs.checks.PlacedLemmas.{first_devices}
use Rattle.std.specs.Prelude.{◌≡◌, ◌+◌, ◌==◌, ◌∷◌, ◌++◌}

-- The first fault so far, and later ones

or_none : (first : Option LoadFault) → first ≡ either first None
or_none None = refl
or_none (Some fault) = refl

or_next : (first : Option LoadFault) (one : LoadFault) (later : List LoadFault) (bad : Bool) → either (either first (cond bad (Some one) None)) (first_or later None) ≡ either first (first_or (cond bad (one ∷ later) later) None)
or_next None one later true = refl
or_next None one later false = refl
or_next (Some fault) one later bad = refl

or_more : (first : Option LoadFault) (faults later : List LoadFault) → either (either first (first_or faults None)) (first_or later None) ≡ either first (first_or (faults ++ later) None)
or_more None [] later = refl
or_more None (fault ∷ faults) later = refl
or_more (Some fault) faults later = refl

-- One check, over the lines of a device

abbrev pub Of : Type 0
Of = BadLines → Option LoadFault

by_line : (of : Of) (kind : LoadKind) (bad : Line → Bool) (stack : Description) (count end : ℕ) (seen : BadLines) (lines : List Line) → ((end : ℕ) (seen : BadLines) (line : Line) → of (noted_line stack count end seen line) ≡ or_bad (of seen) kind line.at (bad line))
    → of (noted_lines stack count end seen lines) ≡ either (of seen) (first_or (faults_by kind (λ line. line.at) bad lines) None)
by_line of kind bad stack count end seen [] each = or_none (of seen)
by_line of kind bad stack count end seen (line ∷ lines) each =
    by_line of kind bad stack count (line.start + line.len) (noted_line stack count end seen line) lines each
    ∙ rw (each end seen line) (or_next (of seen) (fault kind line.at) (faults_by kind (λ line. line.at) bad lines) (bad line))

by_place : (stack : Description) (count end : ℕ) (seen : BadLines) (lines : List Line) → (noted_lines stack count end seen lines).misplaced ≡ either seen.misplaced (first_or (misplaced_from end lines) None)
by_place stack count end seen [] = or_none seen.misplaced
by_place stack count end seen (line ∷ lines) =
    by_place stack count (line.start + line.len) (noted_line stack count end seen line) lines
    ∙ or_next seen.misplaced (fault (cond (nat_lt end line.start) Gap Overlap) line.at) (misplaced_from (line.start + line.len) lines) (not (line.start == end))

lines_or_none : (device : DeviceSpec) (lines : List Line) → cond (length lines == 0) (Some (fault Empty device.at)) None ≡ first_or (without_lines device lines) None
lines_or_none device [] = refl
lines_or_none device (line ∷ lines) =
    let some : (length (line ∷ lines) == 0) ≡ false = ne_eqb (length (line ∷ lines)) 0 (λ e. omega (arith, e)) in
    ap (λ (b : Bool). cond b (Some (fault Empty device.at)) None) some

empty_of : (stack : Description) (seen : BadLines) (device : DeviceSpec) → (noted_device stack seen device).empty ≡ either seen.empty (first_or (empty_in device) None)
empty_of stack seen device =
    by_line (λ found. found.empty) Empty (λ line. line.len == 0) stack (length device.lines) 0 (record seen { empty = or_bad seen.empty Empty device.at (length device.lines == 0) }) device.lines (λ end seen line. refl)
    ∙ rw (lines_or_none device device.lines) (or_more seen.empty (without_lines device device.lines) (faults_by Empty (λ line. line.at) (λ line. line.len == 0) device.lines))

-- One check, over the devices

by_device : (of : Of) (faults_in : DeviceSpec → List LoadFault) (stack : Description) (seen : BadLines) (devices : List DeviceSpec) → ((seen : BadLines) (device : DeviceSpec) → of (noted_device stack seen device) ≡ either (of seen) (first_or (faults_in device) None))
    → of (noted_devices stack seen devices) ≡ either (of seen) (first_or (flat_map faults_in devices) None)
by_device of faults_in stack seen [] each = or_none (of seen)
by_device of faults_in stack seen (device ∷ devices) each =
    by_device of faults_in stack (noted_device stack seen device) devices each
    ∙ rw (each seen device) (or_more (of seen) (faults_in device) (flat_map faults_in devices))

-- a check that tests each line
by_test : (of : Of) (kind : LoadKind) (bad : Line → Bool) (stack : Description) → ((count end : ℕ) (seen : BadLines) (line : Line) → of (noted_line stack count end seen line) ≡ or_bad (of seen) kind line.at (bad line))
    → ((seen : BadLines) (device : DeviceSpec) → of (record seen { empty = or_bad seen.empty Empty device.at (length device.lines == 0) }) ≡ of seen) → of no_bad_lines ≡ None
    → of (noted_devices stack no_bad_lines stack.devices) ≡ first_or (flat_map (λ device. faults_by kind (λ line. line.at) bad device.lines) stack.devices) None
by_test of kind bad stack each same none =
    by_device of (λ device. faults_by kind (λ line. line.at) bad device.lines) stack no_bad_lines stack.devices
    (λ seen device.
    rw (← same seen device) (by_line of kind bad stack (length device.lines) 0 (record seen { empty = or_bad seen.empty Empty device.at (length device.lines == 0) }) device.lines (each (length device.lines))))
    ∙ rw none refl

pub are_first : (stack : Description) → AreFirst stack (noted_devices stack no_bad_lines stack.devices)
are_first stack = record {
  empty = by_device (λ found. found.empty) empty_in stack no_bad_lines stack.devices (empty_of stack);
  misplaced =
      by_device (λ found. found.misplaced) (λ device. misplaced_in device.lines) stack no_bad_lines stack.devices
      (λ seen device. rw (misplaced_rows device.lines) (by_place stack (length device.lines) 0 (record seen { empty = or_bad seen.empty Empty device.at (length device.lines == 0) }) device.lines));
  unknown = by_test (λ found. found.unknown) Unknown (is_unknown stack) stack (λ count end seen line. refl) (λ seen device. refl) refl ∙ first_devices Unknown (is_unknown stack) stack;
  stripe =
      by_test (λ found. found.stripe) Stripe (λ line. has_bad_stripes line line.target) stack (λ count end seen line. refl) (λ seen device. refl) refl
      ∙ first_devices Stripe (λ line. has_bad_stripes line line.target) stack;
  range = by_test (λ found. found.range) Range (passes_end stack) stack (λ count end seen line. refl) (λ seen device. refl) refl ∙ first_devices Range (passes_end stack) stack;
  snapshot =
      by_device (λ found. found.snapshot) (λ device. bad_snapshots_in stack device.lines) stack no_bad_lines stack.devices
      (λ seen device.
      by_line (λ found. found.snapshot) Snapshot (λ line. is_bad_snapshot stack (length device.lines) line.len line.target) stack (length device.lines) 0 (record seen { empty = or_bad seen.empty Empty device.at (length device.lines == 0) }) device.lines
      (λ end seen line. refl));
}
