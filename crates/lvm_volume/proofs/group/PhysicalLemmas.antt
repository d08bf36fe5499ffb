-- Lemmas about reading physical volumes one after the other.
use Rattle.lvm_volume.proofs.Prelude.{ℕ, Bool, true, false, not, List, [], length, get_or, drop, map, Some, None, Ok, Err, refl, sym, drop_more, LoadFault, Name, Source, is_disk_name, first_or, unless, fault_at, Physical, name_faults, PhysicalFields, Keyed, device_of, physical_of, physicals_in, all_named, fields_of, fields_view, devices_in, unless-err, unless-ok}
use Rattle.lvm_volume.specs.group.PhysicalFields as spec
use Rattle.lvm_volume.specs.group.PhysicalFields.{Fields}
use Rattle.std.specs.Prelude.{◌≡◌, ◌+◌, ◌<◌, ◌∷◌, if◌then◌else◌}

pub named : (p : Physical) → is_disk_name p.disk ≡ true → unless (first_or (name_faults (p ∷ [])) None) p ≡ Ok p
named p e = rw e

pub unnamed : (p : Physical) → is_disk_name p.disk ≡ false → unless (first_or (name_faults (p ∷ [])) None) p ≡ Err (fault_at Source Name p.line)
unnamed p e = rw e

alone : (b : Bool) (x : LoadFault) (ys : List LoadFault) (fault : LoadFault) → first_or (if b then x ∷ [] else []) None ≡ Some fault → first_or (if b then x ∷ ys else ys) None ≡ Some fault
alone true x ys fault e = e
alone false x ys fault e = absurd cc

nothing : (b : Bool) (x : LoadFault) (ys : List LoadFault) → first_or (if b then x ∷ [] else []) None ≡ None → first_or (if b then x ∷ ys else ys) None ≡ first_or ys None
nothing true x ys e = absurd cc
nothing false x ys e = refl

at_position : (f : Fields → Physical) (xs : List PhysicalFields) (i : ℕ) (other : PhysicalFields) → i < length xs → map f (map fields_view (drop i xs)) ≡ f (fields_view (get_or xs i other)) ∷ map f (map fields_view (drop (i + 1) xs))
at_position f xs i other within = rw (drop_more xs i other within)

-- a physical volume whose disk gets no name is the fault of all physical volumes
pub refused_here : (f : Fields → Physical) (xs : List PhysicalFields) (i : ℕ) (other : PhysicalFields) (all : List Physical) (fault : LoadFault) → i < length xs
    → first_or (name_faults (map f (map fields_view (drop i xs)))) None ≡ first_or (name_faults all) None
    → unless (first_or (name_faults (f (fields_view (get_or xs i other)) ∷ [])) None) (f (fields_view (get_or xs i other))) ≡ Err fault → unless (first_or (name_faults all) None) all ≡ Err fault
refused_here f xs i other all fault within left e =
    let x = fields_view (get_or xs i other) in
    let found = alone (not (is_disk_name (f x).disk)) (fault_at Source Name (f x).line) (name_faults (map f (map fields_view (drop (i + 1) xs)))) fault (unless-err _ _ fault e) in
    let first : first_or (name_faults all) None ≡ Some fault = rw (← left, at_position f xs i other within, found) in
    rw first

pub taken_here : (f : Fields → Physical) (xs : List PhysicalFields) (i : ℕ) (other : PhysicalFields) (p : Physical) → i < length xs
    → unless (first_or (name_faults (f (fields_view (get_or xs i other)) ∷ [])) None) (f (fields_view (get_or xs i other))) ≡ Ok p
    → (map f (map fields_view (drop i xs)) ≡ p ∷ map f (map fields_view (drop (i + 1) xs))) × (first_or (name_faults (map f (map fields_view (drop (i + 1) xs)))) None ≡ first_or (name_faults (map f (map fields_view (drop i xs)))) None)
taken_here f xs i other p within e =
    let x = fields_view (get_or xs i other) in
    let a = unless-ok (first_or (name_faults (f x ∷ [])) None) (f x) p e in
    let more = map f (map fields_view (drop (i + 1) xs)) in
    let at = at_position f xs i other within in (
      rw (← a.1) at,
      sym (rw at (nothing (not (is_disk_name (f x).disk)) (fault_at Source Name (f x).line) (name_faults more) a.0)),
    )

-- ---- the fields that sections describe, with names, are the physical volumes that they describe

devices_said : (sections : List Keyed) → devices_in (map fields_of sections) ≡ map device_of sections
devices_said [] = refl
devices_said (section ∷ sections) = rw (devices_said sections)

named_said : (devices : List (List ℕ)) (sections : List Keyed) → map (spec.with_disk_name devices) (map fields_of sections) ≡ map (physical_of devices) sections
unfolding physical_of
named_said devices [] = refl
named_said devices (section ∷ sections) = rw (named_said devices sections)

pub all_said : (sections : List Keyed) → all_named (map fields_of sections) ≡ physicals_in sections
all_said sections = rw (devices_said sections) (named_said (map device_of sections) sections)
