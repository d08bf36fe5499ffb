-- The devices and disks that claims of a stack are on, and the devices without claims.
use Rattle.dm_stack.proofs.Prelude.{ℕ, zero, suc, Bool, true, false, not, List, [], Option, Some, None, refl, sym, ap, subst, ◌∙◌, arith, get_or, length, map, IfOk, IfSome, IsTrue, is_none, Result, Ok, Err, All, AllByRecursion, AllPairs, flat_map, list_any, position_or_len, range_with_len, get_or-append_seam, eq-eqb, eqb-true, ltb-false, or_parts, true≢false, get_or-map, get_or_append_left, length-append, length-map, fill_by_all, All-from_recursion, All-map, prefix_len-le-length, Any-from_list_any, list_any-append, get_or_from_slice_get, slice_get-get_or, DevRef, DeviceSpec, Line, Span, spans, Claim, Clash, Lower, Device, Disk, AreTops, NeverMeet, IsClash, IsFirstClash, IsLower, IsThere, IsTidy, IsTop, MeetAt, claims, device_claims, span_claim, span_end, Description, is_same, lines_at, lower_len, lower_of, is_device, is_named, line_names, IsReport, report_text, ResolvedDevice, resolved_device, resolved_line, IsSound, passes, IsCounted, passes_end, all_changed}
use Rattle.std.specs.Prelude.{◌≡◌, ◌+◌, ◌<◌, ◌≤◌, ◌∷◌, ◌++◌, ◌↔◌}
use Rattle.std.specs.declared.alloc.AllocError.{AllocError}
use Rattle.dm_table.specs.declared.tables.table.DevRef.TheVariants as refs
use Rattle.dm_stack.specs.claims.Claims.{line_claims}
use Rattle.dm_stack.specs.lines.Span as by_id
use Rattle.dm_stack.specs.checks.Soundness.{is_past}
use Rattle.dm_stack.proofs.checks.HandedOn.{all_each, each_in}
use Rattle.dm_stack.proofs.checks.OneFault.{same_place}
use Rattle.dm_stack.proofs.claims.PairLemmas.{none_before}
use Rattle.dm_stack.proofs.lines.SpanLemmas.{any_map, any_same, any_span, past_is}
use Rattle.dm_stack.proofs.InStack.{device_there, disk_there}
use Rattle.dm_stack.proofs.SoundLines.{device_sound, lines_there, there}

-- no line of a sound stack passes the end of what it names

pub none_passes : (stack : Description) → IsSound stack → All (λ device. All (λ line. by_id.passes_end stack line ≡ false) device.table) (map (resolved_device stack) stack.devices)
none_passes stack sound = All-map (λ device. All (λ line. by_id.passes_end stack line ≡ false) device.table) (resolved_device stack) stack.devices (λ id d within.
    let device = get_or stack.devices id d in
    let inside = (device_sound stack id device sound (slice_get-get_or stack.devices id d within)).inside in
    All-map (λ line. by_id.passes_end stack line ≡ false) (resolved_line stack) device.lines
    (All-from_recursion (λ line. by_id.passes_end stack (resolved_line stack line) ≡ false) device.lines (all_changed (λ line. passes_end stack line ≡ false) (λ line. by_id.passes_end stack (resolved_line stack line) ≡ false) device.lines (λ line is. past_is stack line ∙ is) inside)))

-- A claim is on a device or disk of the stack, or has the id just past the last

id_within : {X : Type 0} (test : X → Bool) (xs : List X) → position_or_len test xs < length xs + 1
id_within test xs = omega (arith, prefix_len-le-length (λ x. not (test x)) xs)

to_within : (stack : Description) (to : DevRef) → IsCounted (length stack.devices + 1) (length stack.disks + 1) (lower_of stack to)
to_within stack (refs.Device name) = id_within (λ device. is_same device.name name) stack.devices
to_within stack (refs.Disk name) = id_within (λ disk. is_same disk.name name) stack.disks

spans_within : (stack : Description) (device : ℕ) (list : List Span) → AllByRecursion (λ claim. IsCounted (length stack.devices + 1) (length stack.disks + 1) claim.to) (map (span_claim stack device) list)
spans_within stack device [] = tt
spans_within stack device (span ∷ list) = (to_within stack span.to, spans_within stack device list)

pub claims_within : (stack : Description) → All (λ claim. IsCounted (length stack.devices + 1) (length stack.disks + 1) claim.to) (claims stack)
claims_within stack =
    let P = λ (claim : Claim). IsCounted (length stack.devices + 1) (length stack.disks + 1) claim.to in
    All-from_recursion P (claims stack)
    (all_each P (device_claims stack) (range_with_len 0 (length stack.devices)) (λ device. all_each P (line_claims stack device) (lines_at stack device) (λ line. spans_within stack device (spans line))))

-- A line names a device exactly if a claim is on the device

any_flat : {X Y : Type 0} (test : Y → Bool) (f : X → List Y) (xs : List X) → list_any test (flat_map f xs) ≡ list_any (λ x. list_any test (f x)) xs
any_flat test f [] = refl
any_flat test f (x ∷ xs) = rw (← any_flat test f xs) (list_any-append test (f x) (flat_map f xs))

-- the lines of each device, by the device's id
rows : (stack : Description) → map (λ device. device.lines) stack.devices ≡ map (lines_at stack) (range_with_len 0 (length stack.devices))
rows stack =
    fill_by_all (lines_at stack) (map (λ (device : DeviceSpec). device.lines) stack.devices) (length stack.devices) [] (length-map stack.devices _)
    (λ id within. let d = there stack.devices id within in get_or-map (λ (device : DeviceSpec). device.lines) stack.devices id d.it [] within ∙ ap (λ (device : DeviceSpec). device.lines) (get_or_from_slice_get stack.devices id d.it d.it d.at) ∙ sym (lines_there stack id d.it d.at))

by_ids : (stack : Description) (test : List Line → Bool) → list_any (λ device. test (lines_at stack device)) (range_with_len 0 (length stack.devices)) ≡ list_any (λ device. test device.lines) stack.devices
by_ids stack test = sym (any_map test (lines_at stack) (range_with_len 0 (length stack.devices))) ∙ ap (list_any test) (sym (rows stack)) ∙ any_map test (λ device. device.lines) stack.devices

-- the line names the device, when seen with ids
abbrev names_it : Description → ℕ → Line → Bool
names_it stack device line = line_names device (resolved_line stack line)

named_lines : (stack : Description) (device : ℕ) → is_named stack device ≡ list_any (λ spec. list_any (names_it stack device) spec.lines) stack.devices
named_lines stack device =
    any_map (λ (found : ResolvedDevice). list_any (line_names device) found.table) (resolved_device stack) stack.devices
    ∙ any_same (λ (spec : DeviceSpec). list_any (line_names device) (map (resolved_line stack) spec.lines)) (λ spec. list_any (names_it stack device) spec.lines) stack.devices
    (λ spec. any_map (line_names device) (resolved_line stack) spec.lines)

named_by_claims : (stack : Description) (device : ℕ) → list_any (λ claim. is_device device claim.to) (claims stack) ≡ is_named stack device
named_by_claims stack device =
    let test = λ (claim : Claim). is_device device claim.to in
    any_flat test (device_claims stack) (range_with_len 0 (length stack.devices))
    ∙ any_same (λ id. list_any test (device_claims stack id)) (λ id. list_any (names_it stack device) (lines_at stack id)) (range_with_len 0 (length stack.devices))
    (λ id.
    any_flat test (line_claims stack id) (lines_at stack id)
    ∙ any_same (λ line. list_any test (line_claims stack id line)) (names_it stack device) (lines_at stack id)
    (λ line. any_map test (span_claim stack id) (spans line) ∙ sym (any_span (λ span. is_device device span.to) stack line)))
    ∙ by_ids stack (list_any (names_it stack device)) ∙ sym (named_lines stack device)

device_is : (device : ℕ) (lower : Lower) → is_device device lower ≡ true → lower ≡ Device device
device_is device (Device id) e = rw (eqb-true id device e)
device_is device (Disk id) e = absurd (true≢false (sym e))

top_from : (stack : Description) (device : ℕ) → is_named stack device ≡ false → IsTop stack device
top_from stack device none k d within on =
    let free = none_before (λ claim. is_device device claim.to) (claims stack) (named_by_claims stack device ∙ none) k d within in
    true≢false (sym (eq-eqb device device refl) ∙ sym (ap (is_device device) on) ∙ free)

pub top_is : (stack : Description) (device : ℕ) → IsTrue (not (is_named stack device)) ↔ IsTop stack device
top_is stack device = by (is_named stack device) refl
  where
    by : (b : Bool) → is_named stack device ≡ b → IsTrue (not b) ↔ IsTop stack device
    by true is =
        let claim = Any-from_list_any (λ claim. is_device device claim.to) (claims stack) (named_by_claims stack device ∙ is) in
        (λ e. absurd (true≢false (sym e)), λ top. absurd (top claim.0 claim.1 claim.2 (cc (device_is device claim.1.to claim.4))))
    by false is = (λ e. top_from stack device is, λ top. refl)

-- the claims computed are those of the stack
pub are_claims : (stack described : Description) (slice items : List Claim) → slice ≡ items → items ≡ claims described → described ≡ stack → slice ≡ claims stack
are_claims stack described slice items same made is = rw (← is) (same ∙ made)

-- the devices marked as unclaimed are the top devices
pub noted_tops : {X : Type 0} (stack : Description) (all : List Claim) (count : ℕ) (items : X → List Bool) (result : Result X AllocError) → all ≡ claims stack → count ≡ length stack.devices → IfOk result (λ free. length (items free) ≡ count)
    → IfOk result (λ free. (device : ℕ) → device < count → get_or (items free) device false ≡ not (list_any (λ claim. is_device device claim.to) all)) → IfOk result (λ free. AreTops stack (items free))
noted_tops stack all count items (Err fault) made counted len each = tt
noted_tops stack all count items (Ok free) made counted len each = record {
  all = len ∙ counted;
  each = λ device within.
      let is = each device (omega (arith, within, counted)) ∙ ap (λ (list : List Claim). not (list_any (λ claim. is_device device claim.to) list)) made ∙ ap not (named_by_claims stack device) in
      rw is (top_is stack device);
}

-- claims with a clash are not tidy
clash_unties : (all : List Claim) (clash : Clash) → IsClash all clash → AllPairs NeverMeet all → ⊥
clash_unties all clash is pairs =
    let front = is.before ++ is.earlier ∷ is.between in
    let whole = front ++ is.later ∷ is.after in
    let apart = subst (AllPairs NeverMeet) is.split pairs (length is.before) (length front) is.later (omega (arith, length-append is.before (is.earlier ∷ is.between))) (omega (arith, length-append front (is.later ∷ is.after))) in
    let one : get_or whole (length is.before) is.later ≡ is.earlier =
    get_or_append_left front (is.later ∷ is.after) is.later (length is.before) (omega (arith, length-append is.before (is.earlier ∷ is.between))) ∙ get_or-append_seam is.before is.earlier is.between is.later in
    subst (λ (claim : Claim). NeverMeet claim is.later) one (subst (NeverMeet (get_or whole (length is.before) is.later)) (get_or-append_seam front is.later is.after is.later) apart) clash.lower clash.sector is.meet

pub untied : (stack : Description) (found : Option Clash) → IsFirstClash (claims stack) found → IsTrue (is_none found) ↔ IsTidy stack
untied stack None pairs = (λ e. pairs, λ tidy. refl)
untied stack (Some clash) is = (λ e. absurd (true≢false (sym e)), λ tidy. absurd (clash_unties (claims stack) clash is tidy))

-- A list of claims has at most one first clash

-- the indexes of the two claims of a clash
record Stands (all : List Claim) (clash : Clash) : Type 0 where
  one : ℕ
  other : ℕ
  in_order : one < other
  within : other < length all
  pairs : (i j : ℕ) (d : Claim) → i < j → j < other → NeverMeet (get_or all i d) (get_or all j d)
  earliest : (i : ℕ) (d : Claim) → i < one → NeverMeet (get_or all i d) (get_or all other d)
  meet : (d : Claim) → MeetAt (get_or all one d) (get_or all other d) clash.lower clash.sector
  least : (d : Claim) (sector : ℕ) → sector < clash.sector → MeetAt (get_or all one d) (get_or all other d) clash.lower sector → ⊥
  of_one : (d : Claim) → clash.first ≡ (get_or all one d).device
  of_other : (d : Claim) → clash.second ≡ (get_or all other d).device

stands : (all : List Claim) (clash : Clash) → IsClash all clash → Stands all clash
stands all clash is =
    let front = is.before ++ is.earlier ∷ is.between in
    let whole = front ++ is.later ∷ is.after in
    let front_length = length-append is.before (is.earlier ∷ is.between) in
    let whole_length = length-append front (is.later ∷ is.after) in
    let same_length = ap length is.split in
    let at : (i : ℕ) (d : Claim) → i < length front → get_or all i d ≡ get_or front i d = λ i d below. rw is.split (get_or_append_left front (is.later ∷ is.after) d i below) in
    let early : (d : Claim) → is.earlier ≡ get_or all (length is.before) d = λ d. sym (at (length is.before) d (omega arith) ∙ get_or-append_seam is.before is.earlier is.between d) in
    let late : (d : Claim) → is.later ≡ get_or all (length front) d = λ d. rw (is.split, get_or-append_seam) in
    record {
      one = length is.before;
      other = length front;
      in_order = omega arith;
      within = omega arith;
      pairs = λ i j d less below. rw (at i d (omega arith), at j d below) (is.first i j d less below);
      earliest = λ i d below. rw (at i d (omega arith), get_or_append_left is.before (is.earlier ∷ is.between) d i below, ← late d) (is.earliest i d below);
      meet = λ d. rw (← early d, ← late d) is.meet;
      least = λ d. rw (← early d, ← late d) is.least;
      of_one = λ d. rw (← early d) is.of_earlier;
      of_other = λ d. rw (← late d) is.of_later;
    }

same_parts : (a b : Clash) → a.lower ≡ b.lower → a.sector ≡ b.sector → a.first ≡ b.first → a.second ≡ b.second → a ≡ b
same_parts a b lower sector first second =
    rw (lower, sector, first, second)

same_clash : (all : List Claim) (a b : Clash) (d : Claim) → Stands all a → Stands all b → a ≡ b
same_clash all a b d x y =
    let other : x.other ≡ y.other = same_place x.other y.other
    (λ less. y.pairs x.one x.other d x.in_order less a.lower a.sector (x.meet d))
    (λ more. x.pairs y.one y.other d y.in_order more b.lower b.sector (y.meet d)) in
    let there : get_or all x.other d ≡ get_or all y.other d = rw other in
    let one : x.one ≡ y.one = same_place x.one y.one
    (λ less. y.earliest x.one d less a.lower a.sector (rw there at (x.meet d)))
    (λ more. x.earliest y.one d more b.lower b.sector (rw there (y.meet d))) in
    let here : get_or all x.one d ≡ get_or all y.one d = rw one in
    let lower : a.lower ≡ b.lower = cc (sym (x.meet d).there.on, there, (y.meet d).there.on) in
    let meet_a : MeetAt (get_or all y.one d) (get_or all y.other d) b.lower a.sector = rw (← here, ← there, ← lower) (x.meet d) in
    let meet_b : MeetAt (get_or all x.one d) (get_or all x.other d) a.lower b.sector = rw (here, there, lower) (y.meet d) in
    let sector : a.sector ≡ b.sector = same_place a.sector b.sector (λ less. y.least d a.sector less meet_a) (λ more. x.least d b.sector more meet_b) in
    same_parts a b lower sector (cc (x.of_one d, y.of_one d)) (cc (x.of_other d, y.of_other d))

pub one_clash : (all : List Claim) (found other : Option Clash) → IsFirstClash all found → IsFirstClash all other → found ≡ other
one_clash all None None a b = refl
one_clash all None (Some other) a b = absurd (clash_unties all other b a)
one_clash all (Some found) None a b = absurd (clash_unties all found a b)
one_clash all (Some found) (Some other) a b = ap Some (same_clash all found other a.earlier (stands all found a) (stands all other b))

-- The devices and the sector that a clash names are in the stack

record Inside (stack : Description) (claim : Claim) : Type 0 where
  end : claim.end ≤ lower_len stack claim.to
  device : claim.device < length stack.devices

range_below : (from count end : ℕ) → from + count ≡ end → AllByRecursion (λ id. id < end) (range_with_len from count)
range_below from zero end e = tt
range_below from (suc count) end e = (omega (arith, e), range_below (from + 1) count end (omega (arith, e)))

end_inside : (whole offset : ℕ) (len : Option ℕ) → passes whole offset len ≡ false → span_end whole offset len ≤ whole
end_inside whole offset (Some len) e = ltb-false whole (offset + len) e
end_inside whole offset None e = omega arith

spans_inside : (stack : Description) (device : ℕ) (list : List Span) → device < length stack.devices → list_any (is_past stack) list ≡ false → AllByRecursion (Inside stack) (map (span_claim stack device) list)
spans_inside stack device [] within none = tt
spans_inside stack device (span ∷ list) within none =
    let parts = or_parts _ _ none in
    (record { end = end_inside (lower_len stack (lower_of stack span.to)) span.offset span.len parts.0; device = within }, spans_inside stack device list within parts.1)

device_inside : (stack : Description) (device : ℕ) → IsSound stack → device < length stack.devices → AllByRecursion (Inside stack) (device_claims stack device)
device_inside stack device sound within =
    let found = there stack.devices device within in
    let inside = subst (AllByRecursion (λ line. passes_end stack line ≡ false)) (sym (lines_there stack device found.it found.at)) (device_sound stack device found.it sound found.at).inside in
    each_in (λ line. passes_end stack line ≡ false) (Inside stack) (line_claims stack device) (lines_at stack device) inside (λ line none. spans_inside stack device (spans line) within none)

claims_inside : (stack : Description) → IsSound stack → All (Inside stack) (claims stack)
claims_inside stack sound =
    All-from_recursion (Inside stack) (claims stack)
    (each_in (λ id. id < length stack.devices) (Inside stack) (device_claims stack) (range_with_len 0 (length stack.devices)) (range_below 0 (length stack.devices) (length stack.devices) (omega arith)) (λ device within. device_inside stack device sound within))

lower_there : (stack : Description) (lower : Lower) → 0 < lower_len stack lower → IsLower stack lower
lower_there stack (Device id) some = device_there stack id 0 some
lower_there stack (Disk id) some = disk_there stack id 0 some

pub found_there : (stack : Description) (found : Option Clash) → IsSound stack → IsFirstClash (claims stack) found → IfSome found (IsThere stack)
found_there stack None sound is = tt
found_there stack (Some clash) sound is =
    let all = claims_inside stack sound in
    let s = stands (claims stack) clash is in
    let d = is.earlier in
    let one = all s.one d (omega (arith, s.in_order, s.within)) in
    let other = all s.other d s.within in
    let met = s.meet d in
    let inside : clash.sector < lower_len stack clash.lower = rw (← met.there.on) (omega (arith, met.there.before, other.end)) in
    record {
      lower = lower_there stack clash.lower (omega (arith, inside));
      inside = inside;
      first = rw (s.of_one d) one.device;
      second = rw (s.of_other d) other.device;
    }

-- a stack has at most one report
pub one_report : (stack : Description) (text other : List ℕ) → IsReport stack text → IsReport stack other → text ≡ other
one_report stack text other a b = sym a.is ∙ ap (report_text stack) (one_clash (claims stack) a.found b.found a.clash b.clash) ∙ b.is
