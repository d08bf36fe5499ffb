-- A walk over a list, by whether its next element passes a test.
use Rattle.dm_stack.proofs.Prelude.{ℕ, Bool, true, false, List, [], Some, None, refl, sym, ap, drop, get_or, length, flat_map, drop_more, LoadFault, LoadKind, Place, DeviceSpec, Line, fault, faults_by, first_or, Description, all_lines, device_faults, line_faults}
use Rattle.dm_stack.proofs.checks.FirstFaults.{by_append}
use Rattle.std.specs.Prelude.{◌≡◌, ◌+◌, ◌<◌, ◌∷◌, ◌++◌}

pub next_of : {X : Type 0} (xs : List X) (i : ℕ) (x : X) → i < length xs → x ≡ get_or xs i x → drop i xs ≡ x ∷ drop (i + 1) xs
next_of {X} xs i x within is = rw is (drop_more xs i x within)

pub bad_here : {X : Type 0} (kind : LoadKind) (place : X → Place) (test : X → Bool) (xs : List X) (i : ℕ) (x : X) → i < length xs → x ≡ get_or xs i x → true ≡ test x → first_or (faults_by kind place test (drop i xs)) None ≡ Some (fault kind (place x))
bad_here kind place test xs i x within is bad =
    let at = next_of xs i x within is in
    let here = sym bad in
    rw (at, here)

pub good_here : {X : Type 0} (kind : LoadKind) (place : X → Place) (test : X → Bool) (xs : List X) (i : ℕ) (x : X) → i < length xs → x ≡ get_or xs i x → false ≡ test x → faults_by kind place test (drop (i + 1) xs) ≡ faults_by kind place test (drop i xs)
good_here kind place test xs i x within is good =
    let at = next_of xs i x within is in
    let here = sym good in
    rw (at, here)

-- The next element of a list that is followed by another list

pub next_before : {X : Type 0} (items rest : List X) (i : ℕ) (x : X) → i < length items → x ≡ get_or items i x → drop i items ++ rest ≡ x ∷ (drop (i + 1) items ++ rest)
next_before items rest i x within is = rw (next_of items i x within is)

pub bad_before : {X : Type 0} (kind : LoadKind) (place : X → Place) (test : X → Bool) (xs : List X) (i : ℕ) (x : X) (more : List LoadFault) → i < length xs → x ≡ get_or xs i x → true ≡ test x → first_or (faults_by kind place test (drop i xs) ++ more) None ≡ Some (fault kind (place x))
bad_before kind place test xs i x more within is bad =
    let at = next_of xs i x within is in
    let here = sym bad in
    rw (at, here)

-- the faults of all lines are those of the devices, one after the other
by_devices : (kind : LoadKind) (test : Line → Bool) (devices : List DeviceSpec) → flat_map (λ device. faults_by kind (λ line. line.at) test device.lines) devices ≡ faults_by kind (λ line. line.at) test (all_lines devices)
by_devices kind test [] = refl
by_devices kind test (device ∷ devices) = rw (by_append, by_devices kind test devices)

pub first_devices : (kind : LoadKind) (test : Line → Bool) (stack : Description) → first_or (device_faults kind (λ count. test) stack) None ≡ first_or (line_faults kind test stack) None
first_devices kind test stack = ap (λ (faults : List LoadFault). first_or faults None) (by_devices kind test stack.devices)
