-- If the limit on levels is at least a device's depth, it makes no difference.
use Rattle.dm_map.proofs.Prelude.{ℕ, zero, suc, Bool, true, false, cond, List, [], Option, Some, None, length, map, refl, ap, subst, ◌∙◌, arith, option_map, slice_get, nat_lt, AllByRecursion, flat_map, ltb-false, get_or_from_slice_get, slice_get-map, DevRef, Target, Reading, Line, DeviceSpec, Lower, Device, Disk, ResolvedLine, ResolvedTarget, ResolvedSnapshot, Span, target_spans, whole_span, Description, lower_of, ref_link, device_links, links, lines_or_none, links_of, greatest, depth_to, Below, Lies, IsZero, IsError, below, below_line, below_plain, below_target, resolved_line, resolved_target, found_at, holds, line_of, resolved_snapshot, IsSound, depth_of, line_links, passes_all, found, none_at, Zeros, Drops, Fails, serve, number_in, read_numbered, read_over, State, Taken, taken_at, Step, keep, by_below, read_below, read_unit, AreHomesFreeOfLevels, home_to, nowhere, write_line, write_target, write_step, IsFreeOfLevels, all_parts, at_index, MOST_DEPTH, Read, Write, Origin, Snapshot}
use Rattle.dm_table.specs.declared.tables.table.DevRef.TheVariants as refs
use Rattle.dm_table.specs.declared.tables.table.Target.TheVariants as targets
use Rattle.dm_map.proofs.walk.Rows.{and_then_at}
use Rattle.dm_map.proofs.walk.Spans.{plain_span, span_index}
use Rattle.std.specs.Prelude.{◌≡◌, ◌+◌, ◌-◌, ◌/◌, ◌<◌, ◌≤◌, ◌∷◌}

-- What lies below a device is something that the device names

unfoldable pub OnLower : (ℕ → Type 0) → Lower → Type 0
OnLower P (Device device) = P device
OnLower P (Disk disk) = Unit {0}

unfoldable pub OnBelow : (ℕ → Type 0) → Below → Type 0
OnBelow P (Lies to sector) = OnLower P to
OnBelow P IsZero = Unit {0}
OnBelow P IsError = Unit {0}

on_ref : (stack : Description) (P : ℕ → Type 0) (to : DevRef) → AllByRecursion P (ref_link stack to) → OnLower P (lower_of stack to)
unfolding OnLower
on_ref stack P (refs.Device name) each = each.0
on_ref stack P (refs.Disk name) each = tt

abbrev span_links : Description → List Span → List ℕ
span_links stack spans = flat_map (λ span. ref_link stack span.to) spans

on_spans : (stack : Description) (P : ℕ → Type 0) (spans : List Span) → AllByRecursion P (span_links stack spans) → AllByRecursion (λ span. OnLower P (lower_of stack span.to)) spans
on_spans stack P [] each = tt
on_spans stack P (span ∷ spans) each =
    let parts = all_parts P (ref_link stack span.to) (span_links stack spans) each in
    (on_ref stack P span.to parts.0, on_spans stack P spans parts.1)

on_plain : (stack : Description) (P : ℕ → Type 0) (len : ℕ) (target : Target) (distance : ℕ) (b : Below) → AllByRecursion P (span_links stack (target_spans len target)) → below_plain (resolved_target stack target) distance ≡ b → OnBelow P b
unfolding OnBelow
on_plain stack P len target distance (Lies to at) each is =
    let in_span = plain_span stack len target distance to at is in
    subst (OnLower P) in_span.on (at_index (λ span. OnLower P (lower_of stack span.to)) (target_spans len target) (span_index (resolved_target stack target) distance) in_span.span (on_spans stack P (target_spans len target) each) in_span.is)
on_plain stack P len target distance b each is = tt

-- a snapshot's sectors lie in its store or its origin
unfoldable pub GoesOn : (over : ResolvedSnapshot → ℕ → Below) (P : ℕ → Type 0) → Type 0
GoesOn over P = (snapshot : ResolvedSnapshot) (sector : ℕ) → OnLower P snapshot.store → OnLower P snapshot.origin → OnBelow P (over snapshot sector)

over_by : (P : ℕ → Type 0) (snapshot : ResolvedSnapshot) (sector : ℕ) (valid : Bool) (number : Option ℕ) → OnLower P snapshot.store → OnLower P snapshot.origin → OnBelow P (cond valid (read_numbered snapshot number sector) IsError)
unfolding OnBelow
over_by P snapshot sector false number store origin = tt
over_by P snapshot sector true None store origin = origin
over_by P snapshot sector true (Some number) store origin = store

pub over_read : (P : ℕ → Type 0) (taken : Taken) → GoesOn (read_over taken) P
unfolding GoesOn
over_read P taken snapshot sector store origin = over_by P snapshot sector taken.valid (number_in (sector / snapshot.chunk) taken.chunks) store origin

pub on_target : (over : ResolvedSnapshot → ℕ → Below) (stack : Description) (P : ℕ → Type 0) (len : ℕ) (target : Target) (distance : ℕ) → GoesOn over P → AllByRecursion P (span_links stack (target_spans len target)) → OnBelow P (below_target over (resolved_target stack target) distance)
unfolding OnBelow GoesOn
on_target over stack P len (targets.Snapshot origin store kind chunk_size) distance on each =
    let store_first = all_parts P (ref_link stack store) (span_links stack (whole_span origin Reading ∷ [])) each in
    on (resolved_snapshot stack origin store kind chunk_size) distance (on_ref stack P store store_first.0) (on_ref stack P origin (all_parts P (ref_link stack origin) [] store_first.1).0)
on_target over stack P len (targets.Origin to) distance on each = on_ref stack P to (all_parts P (ref_link stack to) [] each).0
on_target over stack P len target distance on each = on_plain stack P len target distance (below_plain (resolved_target stack target) distance) each refl

pub on_lines : (stack : Description) (P : ℕ → Type 0) (lines : List Line) → AllByRecursion P (flat_map (line_links stack) lines) → AllByRecursion (λ line. AllByRecursion P (line_links stack line)) lines
on_lines stack P [] each = tt
on_lines stack P (line ∷ lines) each =
    let parts = all_parts P (line_links stack line) (flat_map (line_links stack) lines) each in
    (parts.0, on_lines stack P lines parts.1)

on_line : (over : ResolvedSnapshot → ℕ → Below) (stack : Description) (P : ℕ → Type 0) (lines : List Line) (sector : ℕ) (line : Option Line) → GoesOn over P → AllByRecursion (λ l. AllByRecursion P (line_links stack l)) lines → line_of lines sector ≡ line → OnBelow P (below_line over (option_map (resolved_line stack) line) sector)
unfolding OnBelow
on_line over stack P lines sector None on each e = tt
on_line over stack P lines sector (Some line) on each e =
    on_target over stack P line.len line.target (sector - line.start) on (found (λ l. AllByRecursion P (line_links stack l)) (holds sector) lines line each e).1

on_device : (over : ResolvedSnapshot → ℕ → Below) (stack : Description) (P : ℕ → Type 0) (device sector : ℕ) (spec : Option DeviceSpec) → GoesOn over P → slice_get stack.devices device ≡ spec → AllByRecursion P (links_of (links stack) device) → OnBelow P (below_line over (option_map (resolved_line stack) (line_of (lines_or_none spec) sector)) sector)
unfolding OnBelow
on_device over stack P device sector None on e each = tt
on_device over stack P device sector (Some spec) on e each =
    let is : slice_get (links stack) device ≡ Some (device_links stack spec) = slice_get-map (device_links stack) stack.devices device ∙ ap (option_map (device_links stack)) e in
    let named : links_of (links stack) device ≡ device_links stack spec = get_or_from_slice_get (links stack) device (device_links stack spec) [] is in
    on_line over stack P spec.lines sector (line_of spec.lines sector) on (on_lines stack P spec.lines (subst (AllByRecursion P) named each)) refl

pub on_below : (over : ResolvedSnapshot → ℕ → Below) (stack : Description) (P : ℕ → Type 0) (device sector : ℕ) → GoesOn over P → AllByRecursion P (links_of (links stack) device) → OnBelow P (below over stack device sector)
on_below over stack P device sector on each = on_device over stack P device sector (slice_get stack.devices device) on refl each

-- What a device names is less deep than the device

-- a device whose depth is seen in fewer than n levels, and is at most j and k
pub record IsShallow (g : List (List ℕ)) (n j k device : ℕ) : Type 0 where
  pub seen : depth_to g n device < n
  pub first : depth_to g n device ≤ j
  pub second : depth_to g n device ≤ k

each_shallow : (g : List (List ℕ)) (n j k : ℕ) (xs : List ℕ) → greatest (map (λ e. depth_to g n e) xs) < n → greatest (map (λ e. depth_to g n e) xs) ≤ j → greatest (map (λ e. depth_to g n e) xs) ≤ k → AllByRecursion (IsShallow g n j k) xs
each_shallow g n j k [] seen first second = tt
each_shallow g n j k (x ∷ xs) seen first second =
    (record { seen = omega arith; first = omega arith; second = omega arith }, each_shallow g n j k xs (omega arith) (omega arith) (omega arith))

pub named_shallow : (g : List (List ℕ)) (n j k device : ℕ) → IsShallow g (suc n) (suc j) (suc k) device → AllByRecursion (IsShallow g n j k) (links_of g device)
unfolding depth_to
named_shallow g n j k device h =
    each_shallow g n j k (links_of g device) (omega (arith, h.seen)) (omega (arith, h.first)) (omega (arith, h.second))

some_level : (g : List (List ℕ)) (n k device : ℕ) → depth_to g (suc n) device ≤ zero → ⊥
unfolding depth_to
some_level g n k device h = omega (arith, h)

-- Units at two limits on levels

pub same_below : {X : Type 0} (P : ℕ → Type 0) (b : Below) (zeros fails : X) (f h : Lower → ℕ → X) → OnBelow P b → ((to : Lower) (sector : ℕ) → OnLower P to → f to sector ≡ h to sector) → by_below b zeros fails f ≡ by_below b zeros fails h
unfolding OnBelow
same_below P (Lies to sector) zeros fails f h on same = same to sector on
same_below P b zeros fails f h on same = refl

pub same_read : (stack : Description) (state : State) (n j k : ℕ) (lower : Lower) (sector : ℕ) → OnLower (IsShallow (links stack) n j k) lower → read_unit stack state j lower sector ≡ read_unit stack state k lower sector
unfolding OnLower read_unit
same_read stack state n j k (Disk disk) sector h = refl
same_read stack state zero j k (Device device) sector h = absurd (omega (arith, h.seen))
same_read stack state (suc n) zero k (Device device) sector h = absurd (some_level (links stack) n k device h.first)
same_read stack state (suc n) (suc j) zero (Device device) sector h = absurd (some_level (links stack) n j device h.second)
same_read stack state (suc n) (suc j) (suc k) (Device device) sector h =
    same_below (IsShallow (links stack) n j k) (read_below stack state device sector) Zeros Fails (λ to s. read_unit stack state j to s) (λ to s. read_unit stack state k to s)
    (on_below (read_over (taken_at state device)) stack (IsShallow (links stack) n j k) device sector (over_read (IsShallow (links stack) n j k) (taken_at state device)) (named_shallow (links stack) n j k device h)) (λ to s on. same_read stack state n j k to s on)

same_target : (P : ℕ → Type 0) (stack : Description) (state : State) (device : ℕ) (target : ResolvedTarget) (distance : ℕ) (f h : Lower → State → ℕ → Step) → OnBelow P (below_target (read_over (taken_at state device)) target distance) → ((after : State) (to : Lower) (s : ℕ) → OnLower P to → f to after s ≡ h to after s)
    → write_target stack state device target distance f ≡ write_target stack state device target distance h
unfolding OnBelow
same_target P stack state device (Snapshot snapshot) distance f h on same = refl
same_target P stack state device (Origin origin) distance f h on same =
    let served = serve stack origin.over distance state in
    and_then_at served (λ after. f origin.to after distance) (λ after. h origin.to after distance) (same served.state origin.to distance on)
same_target P stack state device target distance f h on same = same_below P (below_plain target distance) (keep (Drops ∷ []) state) (keep (Fails ∷ []) state) (λ to s. f to state s) (λ to s. h to state s) on (same state)

pub same_line : (P : ℕ → Type 0) (stack : Description) (state : State) (device : ℕ) (line : Option ResolvedLine) (sector : ℕ) (f h : Lower → State → ℕ → Step) → OnBelow P (below_line (read_over (taken_at state device)) line sector) → ((after : State) (to : Lower) (s : ℕ) → OnLower P to → f to after s ≡ h to after s)
    → write_line stack state device line sector f ≡ write_line stack state device line sector h
unfolding OnBelow
same_line P stack state device None sector f h on same = refl
same_line P stack state device (Some line) sector f h on same = same_target P stack state device line.target (sector - line.start) f h on same

pub same_write : (stack : Description) (n j k : ℕ) (lower : Lower) (state : State) (sector : ℕ) → OnLower (IsShallow (links stack) n j k) lower → write_step stack j lower state sector ≡ write_step stack k lower state sector
unfolding OnLower write_step
same_write stack n j k (Disk disk) state sector h = refl
same_write stack zero j k (Device device) state sector h = absurd (omega (arith, h.seen))
same_write stack (suc n) zero k (Device device) state sector h = absurd (some_level (links stack) n k device h.first)
same_write stack (suc n) (suc j) zero (Device device) state sector h = absurd (some_level (links stack) n j device h.second)
same_write stack (suc n) (suc j) (suc k) (Device device) state sector h =
    cc (same_line (IsShallow (links stack) n j k) stack state device (found_at stack device sector) sector (λ to after s. write_step stack j to after s) (λ to after s. write_step stack k to after s) (on_below (read_over (taken_at state device)) stack (IsShallow (links stack) n j k) device sector (over_read (IsShallow (links stack) n j k) (taken_at state device)) (named_shallow (links stack) n j k device h)) (λ after to s on. same_write stack n j k to after s on))

-- In a sound stack no device is deeper than the limit

pub shallow : (stack : Description) (device : ℕ) → IsSound stack → device < length stack.devices → depth_of stack device ≤ MOST_DEPTH
shallow stack device sound there =
    let position : 0 + device ≡ device = omega arith in
    let passes = none_at _ (λ id. nat_lt MOST_DEPTH (depth_of stack id)) 0 device stack.devices (passes_all stack sound).shallow there in
    ltb-false MOST_DEPTH (depth_of stack device) (rw position at passes)

shallow_at : (stack : Description) (device levels : ℕ) → IsSound stack → device < length stack.devices → depth_of stack device ≤ levels → IsShallow (links stack) (suc MOST_DEPTH) levels MOST_DEPTH device
shallow_at stack device levels sound there enough =
    let most = shallow stack device sound there in record { seen = omega (arith, most); first = enough; second = most }

pub reads_free : (stack : Description) → IsSound stack → IsFreeOfLevels stack Read
unfolding OnLower
reads_free stack sound = record {
  same = λ device levels sector state there enough. cc (same_read stack state (suc MOST_DEPTH) levels MOST_DEPTH (Device device) sector (shallow_at stack device levels sound there enough));
}

pub writes_free : (stack : Description) → IsSound stack → IsFreeOfLevels stack Write
unfolding OnLower
writes_free stack sound = record {
  same = λ device levels sector state there enough. same_write stack (suc MOST_DEPTH) levels MOST_DEPTH (Device device) state sector (shallow_at stack device levels sound there enough);
}

-- Homes at two limits on levels

over_none : (P : ℕ → Type 0) → GoesOn (λ snapshot sector. IsError) P
unfolding GoesOn OnBelow
over_none P snapshot sector store origin = tt

same_home : (stack : Description) (n j k : ℕ) (lower : Lower) (sector : ℕ) → OnLower (IsShallow (links stack) n j k) lower → home_to stack j lower sector ≡ home_to stack k lower sector
unfolding OnLower home_to
same_home stack n j k (Disk disk) sector h = refl
same_home stack zero j k (Device device) sector h = absurd (omega (arith, h.seen))
same_home stack (suc n) zero k (Device device) sector h = absurd (some_level (links stack) n k device h.first)
same_home stack (suc n) (suc j) zero (Device device) sector h = absurd (some_level (links stack) n j device h.second)
same_home stack (suc n) (suc j) (suc k) (Device device) sector h =
    same_below (IsShallow (links stack) n j k) (below (λ snapshot sector. IsError) stack device sector) nowhere nowhere (λ to s. home_to stack j to s) (λ to s. home_to stack k to s)
    (on_below (λ snapshot sector. IsError) stack (IsShallow (links stack) n j k) device sector (over_none (IsShallow (links stack) n j k)) (named_shallow (links stack) n j k device h)) (λ to s on. same_home stack n j k to s on)

pub homes_free : (stack : Description) → IsSound stack → AreHomesFreeOfLevels stack
unfolding OnLower
homes_free stack sound = record {
  same = λ device levels sector there enough. same_home stack (suc MOST_DEPTH) levels MOST_DEPTH (Device device) sector (shallow_at stack device levels sound there enough);
}
