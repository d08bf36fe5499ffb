-- The first fault of a check, from the first element that is bad.
use Rattle.dm_stack.proofs.Prelude.{inl, inr, ℕ, zero, suc, Bool, List, [], Option, Some, None, refl, ◌∙◌, arith, length, get_or, drop, slice_get, cases_Bool, drop_more, Place, Line, DeviceSpec, LoadKind, Limit, LoadFault, fault, faults_by, first_or, first_or-passed, first_or-found, Description, end_of, past, all_lines, too_many}
use Rattle.std.specs.Prelude.{◌≡◌, ◌+◌, ◌-◌, ◌<◌, ◌≤◌, ◌∷◌, ◌++◌}

-- the fault at the element found, or else a later fault
abbrev pub at_found : {X : Type 0} → LoadKind → (X → Place) → Option X → Option LoadFault → Option LoadFault
at_found kind place (Some x) later = Some (fault kind (place x))
at_found kind place None later = later

pub first_append : (check more : List LoadFault) (later : Option LoadFault) → first_or (check ++ more) later ≡ first_or check (first_or more later)
first_append [] more later = refl
first_append (fault ∷ faults) more later = refl

pub by_append : {X : Type 0} (kind : LoadKind) (place : X → Place) (bad : X → Bool) (xs ys : List X) → faults_by kind place bad (xs ++ ys) ≡ faults_by kind place bad xs ++ faults_by kind place bad ys
by_append kind place bad [] ys = refl
by_append kind place bad (x ∷ xs) ys = let rest = by_append kind place bad xs ys in elim (cases_Bool (bad x)) [ inl is ↦ rw (is, rest) | inr is ↦ rw (is, rest) ]

pub first_past : {X : Type 0} (most : ℕ) (place : X → Place) (xs : List X) (later : Option LoadFault) → first_or (past most place xs) later ≡ at_found Limit place (slice_get xs most) later
first_past zero place [] later = refl
first_past zero place (x ∷ xs) later = refl
first_past (suc most) place [] later = refl
first_past (suc most) place (x ∷ xs) later = first_past most place xs later

-- The check of counts

many_parts : (stack : Description) → first_or (too_many stack) None ≡ first_or (past 1024 (λ device. device.at) stack.devices) (first_or (past 1024 (λ disk. disk.at) stack.disks) (first_or (past 65536 (λ line. line.at) (all_lines stack.devices)) None))
many_parts stack =
    first_append (past 1024 (λ device. device.at) stack.devices ++ past 1024 (λ disk. disk.at) stack.disks) (past 65536 (λ line. line.at) (all_lines stack.devices)) None
    ∙ first_append (past 1024 (λ device. device.at) stack.devices) (past 1024 (λ disk. disk.at) stack.disks) _

pub many_devices : (stack : Description) (found : LoadFault) → first_or (past 1024 (λ device. device.at) stack.devices) None ≡ Some found → first_or (too_many stack) None ≡ Some found
many_devices stack found e = many_parts stack ∙ first_or-found (past 1024 (λ device. device.at) stack.devices) _ found e

pub many_disks : (stack : Description) (found : LoadFault) → first_or (past 1024 (λ device. device.at) stack.devices) None ≡ None → first_or (past 1024 (λ disk. disk.at) stack.disks) None ≡ Some found → first_or (too_many stack) None ≡ Some found
many_disks stack found few e = many_parts stack ∙ first_or-passed (past 1024 (λ device. device.at) stack.devices) _ few ∙ first_or-found (past 1024 (λ disk. disk.at) stack.disks) _ found e

pub many_lines : (stack : Description) (found : Option Line) → first_or (past 1024 (λ device. device.at) stack.devices) None ≡ None → first_or (past 1024 (λ disk. disk.at) stack.disks) None ≡ None → found ≡ slice_get (all_lines stack.devices) 65536 → first_or (too_many stack) None ≡ at_found Limit (λ line. line.at) found None
many_lines stack found few_devices few_disks is =
    rw is (many_parts stack ∙ first_or-passed (past 1024 (λ device. device.at) stack.devices) _ few_devices ∙ first_or-passed (past 1024 (λ disk. disk.at) stack.disks) _ few_disks ∙ first_past 65536 (λ line. line.at) (all_lines stack.devices) None)

-- An element of one of several lists that are joined

pub get_front : {X : Type 0} (xs ys : List X) (n : ℕ) → n < length xs → slice_get (xs ++ ys) n ≡ slice_get xs n
get_front [] ys n within = absurd (omega arith)
get_front (x ∷ xs) ys zero within = refl
get_front (x ∷ xs) ys (suc n) within = get_front xs ys n (omega arith)

pub get_after : {X : Type 0} (xs ys : List X) (n : ℕ) → slice_get (xs ++ ys) (length xs + n) ≡ slice_get ys n
get_after [] ys n = let e : 0 + n ≡ n = omega arith in rw e
get_after (x ∷ xs) ys n = let e : suc (length xs) + n ≡ suc (length xs + n) = omega arith in rw e (get_after xs ys n)

pub line_in : (devices : List DeviceSpec) (i left : ℕ) (device : DeviceSpec) → i < length devices → device ≡ get_or devices i device → left < length device.lines → slice_get (all_lines (drop i devices)) left ≡ slice_get device.lines left
line_in devices i left device within is inside =
    let at : drop i devices ≡ device ∷ drop (i + 1) devices = rw is (drop_more devices i device within) in
    rw at (get_front device.lines (all_lines (drop (i + 1) devices)) left inside)

pub line_later : (devices : List DeviceSpec) (i left : ℕ) (device : DeviceSpec) → i < length devices → device ≡ get_or devices i device → length device.lines ≤ left → slice_get (all_lines (drop (i + 1) devices)) (left - length device.lines) ≡ slice_get (all_lines (drop i devices)) left
line_later devices i left device within is after =
    let at : drop i devices ≡ device ∷ drop (i + 1) devices = rw is (drop_more devices i device within) in
    let sum : length device.lines + (left - length device.lines) ≡ left = omega arith in
    rw at (cc (get_after device.lines (all_lines (drop (i + 1) devices)) (left - length device.lines)))

-- The end of a device's lines

last_end : (first line : Line) (lines : List Line) → slice_get (first ∷ lines) (length lines) ≡ Some line → end_of (first ∷ lines) ≡ line.start + line.len
last_end first line [] e = let same : first ≡ line = cc in rw same
last_end first line (next ∷ lines) e = last_end next line lines e

pub end_of_last : (lines : List Line) (line : Line) → slice_get lines (length lines - 1) ≡ Some line → end_of lines ≡ line.start + line.len
end_of_last [] line e = absurd cc
end_of_last (first ∷ lines) line e =
    let place : length (first ∷ lines) - 1 ≡ length lines = omega arith in
    last_end first line lines (rw place at e)
