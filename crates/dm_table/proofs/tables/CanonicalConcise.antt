-- The text written for devices in the concise form describes them, apart from places.
use Rattle.dm_table.proofs.Prelude.{inl, inr, ℕ, suc, Bool, true, false, List, [], length, map, refl, sym, ap, ◌∙◌, append_assoc, arith, codes, join_with_byte, Line, DeviceSpec, Place, SayEach, body_text, place_of, is_ro, is_flags, SaysLines, SaysDevice, DescribesConcise, ReadsBack, flag_text, concise_device, concise_text, lines_at, as_concise}
use Rattle.std.specs.Prelude.{◌≡◌, ◌≤◌, ◌∷◌, ◌++◌, if◌then◌else◌}

-- ---- places are not written

lines_as : (at : Place) (lines : List Line) → map body_text (lines_at at lines) ≡ map body_text lines
lines_as at [] = refl
lines_as at (line ∷ lines) = rw (lines_as at lines)

devices_as : (n : ℕ) (devices : List DeviceSpec) → map concise_device (as_concise n devices) ≡ map concise_device devices
devices_as n [] = refl
devices_as n (device ∷ devices) = rw (lines_as (place_of n) device.lines, devices_as (suc n) devices)

text_as : (n : ℕ) (devices : List DeviceSpec) → concise_text (as_concise n devices) ≡ concise_text devices
text_as n devices = rw (devices_as n devices)

-- ---- the text of a single device

-- the flag that is written for a device
abbrev flag_of : Bool → List ℕ
flag_of ro = if ro then codes "ro" else codes "rw"

flag_known : (ro : Bool) → is_flags (flag_of ro) ≡ true
flag_known true = refl
flag_known false = refl

flag_read : (ro : Bool) → ro ≡ is_ro (flag_of ro)
flag_read true = refl
flag_read false = refl

flag_joined : (ro : Bool) (more : List ℕ) → flag_text ro ++ more ≡ 44 ∷ 44 ∷ 44 ∷ flag_of ro ++ 44 ∷ more
flag_joined true more = refl
flag_joined false more = refl

device_spelled : (name : List ℕ) (ro : Bool) (bodies : List (List ℕ)) → 1 ≤ length bodies → name ++ flag_text ro ++ join_with_byte 44 bodies ≡ join_with_byte 44 (name ∷ [] ∷ [] ∷ flag_of ro ∷ bodies)
device_spelled name ro [] some = absurd (omega arith)
device_spelled name ro (body ∷ bodies) some =
    rw (← flag_joined ro (join_with_byte 44 (body ∷ bodies))) (append_assoc name (flag_text ro) (join_with_byte 44 (body ∷ bodies)))

lines_some : (n : ℕ) (texts : List (List ℕ)) (lines : List Line) (at : Place) → SaysLines n texts lines → 1 ≤ length texts → 1 ≤ length (map body_text (lines_at at lines))
lines_some n [] lines at s some = absurd (omega arith)
lines_some n (text ∷ texts) [] at s some = absurd s
lines_some n (text ∷ texts) (line ∷ lines) at s some = omega arith

lines_again : (n : ℕ) (texts : List (List ℕ)) (lines : List Line) → SaysLines n texts lines → SaysLines n (map body_text (lines_at (place_of n) lines)) (lines_at (place_of n) lines)
lines_again n [] [] s = tt
lines_again n (text ∷ texts) (line ∷ lines) s = (inl (inl refl), record { start = s.1.start; len = s.1.len; target = s.1.target }, refl, lines_again n texts lines s.3)
lines_again n texts lines s = absurd s

device_again : (n : ℕ) (text : List ℕ) (device : DeviceSpec) → SaysDevice n text device
    → SaysDevice n (device.name ++ flag_text device.ro ++ join_with_byte 44 (map body_text (lines_at (place_of n) device.lines))) (record { name = device.name; ro = device.ro; lines = lines_at (place_of n) device.lines; at = place_of n })
device_again n text device s =
    let some = lines_some n s.bodies device.lines (place_of n) s.said s.some in
    record {
      uuid = [];
      minor = [];
      flags = flag_of device.ro;
      bodies = map body_text (lines_at (place_of n) device.lines);
      spelled = device_spelled device.name device.ro (map body_text (lines_at (place_of n) device.lines)) some;
      named = s.named;
      with_uuid = refl;
      with_minor = refl;
      with_flags = flag_known device.ro;
      ro = flag_read device.ro;
      some = some;
      said = lines_again n s.bodies device.lines s.said;
      at = refl;
    }

devices_again : (n : ℕ) (texts : List (List ℕ)) (devices : List DeviceSpec) → SayEach SaysDevice n texts devices → SayEach SaysDevice n (map concise_device (as_concise n devices)) (as_concise n devices)
devices_again n [] [] s = tt
devices_again n (text ∷ texts) (device ∷ devices) s = (device_again n text device s.0, devices_again (suc n) texts devices s.1)
devices_again n texts devices s = absurd s

-- if some text describes these devices, the text written for them does too, apart from places
written_says : (text : List ℕ) (said : List DeviceSpec) → DescribesConcise text said → DescribesConcise (concise_text said) (as_concise 1 said)
written_says text said d = record {
  parts = map concise_device (as_concise 1 said);
  spelled = inr (sym (text_as 1 said));
  said = devices_again 1 d.parts said d.said;
}

-- the same text is written for devices that differ only in places, so concise_text reads back
pub concise_reads_back : (devices : List DeviceSpec) → ReadsBack DescribesConcise (as_concise 1) concise_text devices
concise_reads_back devices text said d same =
    let texts : concise_text said ≡ concise_text devices = sym (text_as 1 said) ∙ ap concise_text same ∙ text_as 1 devices in
    rw (← texts, ← same) (written_says text said d)
