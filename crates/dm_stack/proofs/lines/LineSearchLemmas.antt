-- Comparisons of a search bounded by binary digits, and the line of a sector from the starts of lines.
use Rattle.dm_stack.proofs.Prelude.{inl, inr, ℕ, zero, suc, true, false, List, [], Some, drop, length, length-append, get_or, map, refl, sym, ap, subst, add-one, arith, option_map, slice_get, AllByRecursion, pow_pos, length-drop, All-from_recursion, All-map, All-weaker, slice_get-get_or, mul-le-mul_left, pow-succ', Limit, DeviceSpec, Line, faults_by, ResolvedLine, found_at, resolved_line, resolved_lines, line_of, Description, device_len, end_of, lines_at, EndsAreSmall, EndsAt, IsLast, StartsAfter, StartsBy, binary_digits, digits_to, IsSound, all_lines, is_large, past, append-nil_both}
use Rattle.dm_stack.specs.declared.lines.line_search.LastLine.{LastLine}
use Rattle.dm_stack.proofs.checks.HandedOn.{line_within}
use Rattle.dm_stack.proofs.checks.LayoutLemmas.{AreInRow}
use Rattle.dm_stack.proofs.checks.Passes.{passes_all}
use Rattle.dm_stack.proofs.lines.SameLine.{holds_none}
use Rattle.dm_stack.proofs.SoundLines.{holds_from, device_small, device_sound, lines_filled, lines_there, positive, there}
use Rattle.std.specs.Prelude.{◌≡◌, ◌⊎◌, ◌+◌, ◌*◌, ◌/◌, ◌^◌, ◌<◌, ◌≤◌, ◌∷◌, ◌++◌, ◌==◌}

-- Binary digits

few_to : (most number k : ℕ) → number ≤ most → 2 ^ k ≤ 2 * number → k ≤ digits_to most number
few_to zero number k within few = let some = pow_pos k in absurd (omega (arith, within, few, some))
few_to (suc most) number zero within few = omega arith
few_to (suc most) number (suc zero) within few = grind (arith, few)
few_to (suc most) number (suc (suc k)) within few =
    let some = pow_pos k in
    let rest = few_to most (number / 2) (suc k) (omega (arith, within)) (omega (arith, few)) in
    grind (arith, few, some, rest)

-- a number has at least k binary digits if 2 ^ k is at most its double
pub few_digits : (number k : ℕ) → 2 ^ k ≤ 2 * number → k ≤ binary_digits number
few_digits number k few = few_to number number k (omega arith) few

digits_none : (most number : ℕ) → number ≡ 0 → digits_to most number ≡ 0
digits_none zero number none = refl
digits_none (suc most) number none = rw none

-- a number below 2 ^ k has at most k binary digits
most_to : (most number k : ℕ) → number < 2 ^ k → digits_to most number ≤ k
most_to most number zero small = omega (arith, digits_none most number (omega (arith, small)))
most_to zero number (suc k) small = omega arith
most_to (suc most) number (suc k) small = grind (arith, most_to most (number / 2) k (omega (arith, small)))

pub most_digits : (number k : ℕ) → number < 2 ^ k → binary_digits number ≤ k
most_digits number k small = most_to number number k small

-- Comparisons, each of which halves the number of starts left to compare

twice : (k : ℕ) → 2 ^ (k + 1) ≡ 2 * 2 ^ k
twice k = rw (add-one k) (pow-succ' 2 k)

pub more-halved : (k half all total : ℕ) → 2 * half ≤ all → 2 ^ k * all < total → 2 ^ (k + 1) * half < total
more-halved k half all total halves within = rw (twice k) (omega (arith, within, mul-le-mul_left (2 ^ k) halves))

pub more-few : (k all total : ℕ) → 1 ≤ all → 2 ^ k * all < total → 2 ^ (k + 1) ≤ 2 * total
more-few k all total some within = rw (twice k) (omega (arith, within, mul-le-mul_left (2 ^ k) some))

-- Starts of lines

pub starts_by : (lines : List ResolvedLine) (index sector : ℕ) (line : ResolvedLine) → index < length lines → (get_or lines index line).start ≤ sector → StartsBy lines index sector
starts_by lines index sector line within from = rw (slice_get-get_or lines index line within) from

pub starts_after : (lines : List ResolvedLine) (index sector : ℕ) (line : ResolvedLine) → index < length lines → sector < (get_or lines index line).start → StartsAfter lines index sector
starts_after lines index sector line within before = rw (slice_get-get_or lines index line within) before

-- Lines that start where the one before ends

-- a sector at or after the start of a line is at or after the end of the lines before it
past_end : (stack : Description) (end : ℕ) (lines : List Line) (index sector : ℕ) → AreInRow end lines → StartsBy (map (resolved_line stack) lines) index sector → end ≤ sector
past_end stack end [] index sector row from = absurd from
past_end stack end (line ∷ lines) zero sector row from = omega (arith, row.0, from)
past_end stack end (line ∷ lines) (suc index) sector row from = omega (arith, row.0, past_end stack (line.start + line.len) lines index sector row.1 from)

-- a line holds the sector if it starts at the sector or before, and the next one after it
in_row_held : (stack : Description) (end : ℕ) (lines : List Line) (index sector : ℕ) → AreInRow end lines → sector < end_of lines
    → StartsBy (map (resolved_line stack) lines) index sector → StartsAfter (map (resolved_line stack) lines) (suc index) sector
    → slice_get (map (resolved_line stack) lines) index ≡ option_map (resolved_line stack) (line_of lines sector)
in_row_held stack end (line ∷ []) zero sector row inside from next = rw (holds_from line sector from inside)
in_row_held stack end (line ∷ other ∷ lines) zero sector row inside from next = rw (holds_from line sector from (omega (arith, row.1.0, next)))
in_row_held stack end (line ∷ other ∷ lines) (suc index) sector row inside from next =
    rw (holds_none line sector (past_end stack (line.start + line.len) (other ∷ lines) index sector row.1 from)) (in_row_held stack (line.start + line.len) (other ∷ lines) index sector row.1 inside from next)
in_row_held stack end lines index sector row inside from next = absurd from

-- the sector right after a line is in the next line
in_row_next : (stack : Description) (end : ℕ) (lines : List Line) (index sector : ℕ) → AreInRow end lines → AllByRecursion (λ line. (line.len == 0) ≡ false) lines → sector < end_of lines
    → EndsAt (map (resolved_line stack) lines) index sector
    → StartsBy (map (resolved_line stack) lines) (suc index) sector × StartsAfter (map (resolved_line stack) lines) (suc (suc index)) sector
in_row_next stack end (line ∷ []) zero sector row filled inside ends = absurd (omega (arith, inside, ends))
in_row_next stack end (line ∷ other ∷ []) zero sector row filled inside ends = (omega (arith, row.1.0, ends), tt)
in_row_next stack end (line ∷ other ∷ third ∷ lines) zero sector row filled inside ends =
    let some = positive other.len filled.1.0 in
    (omega (arith, row.1.0, ends), omega (arith, row.1.0, row.1.1.0, ends, some))
in_row_next stack end (line ∷ other ∷ lines) (suc index) sector row filled inside ends =
    in_row_next stack (line.start + line.len) (other ∷ lines) index sector row.1 filled.1 inside ends
in_row_next stack end lines index sector row filled inside ends = absurd ends

-- The lines of a device

none_dropped : (lines : List Line) → faults_by Limit (λ line. line.at) (λ line. true) lines ≡ [] → lines ≡ []
none_dropped [] e = refl
none_dropped (line ∷ lines) e = absurd cc

lines_length : (devices : List DeviceSpec) (id : ℕ) (device : DeviceSpec) → slice_get devices id ≡ Some device → length device.lines ≤ length (all_lines devices)
lines_length [] id device at = absurd cc
lines_length (first ∷ devices) zero device at =
    let same : first ≡ device = cc in
    let whole = length-append first.lines (all_lines devices) in
    rw (sym same) (omega (arith, whole))
lines_length (first ∷ devices) (suc id) device at =
    let rest = lines_length devices id device at in
    let whole = length-append first.lines (all_lines devices) in
    omega (arith, rest, whole)

none_past : (most : ℕ) (lines : List Line) → past most (λ line. line.at) lines ≡ [] → length lines ≤ most
none_past most lines none = let rest = none_dropped (drop most lines) none in let dropped = length-drop most lines in omega (arith, dropped, ap length rest)

-- a device has no more lines than all tables together may have
pub few_lines : (stack : Description) (id : ℕ) → IsSound stack → id < length stack.devices → length (lines_at stack id) ≤ 65536
few_lines stack id sound within =
    let d = there stack.devices id within in
    let few = (passes_all stack sound).few in
    let none = (append-nil_both (past 1024 (λ device. device.at) stack.devices ++ past 1024 (λ disk. disk.at) stack.disks) (past 65536 (λ line. line.at) (all_lines stack.devices)) few).1 in
    let each = lines_length stack.devices id d.it d.at in
    let all = none_past 65536 (all_lines stack.devices) none in
    let same : length (lines_at stack id) ≡ length d.it.lines = ap length (lines_there stack id d.it d.at) in
    omega (arith, each, all, same)

-- the number of a device's lines has at most 17 binary digits
pub few_halvings : (stack : Description) (id comparisons : ℕ) → IsSound stack → id < length stack.devices → comparisons ≤ binary_digits (length (lines_at stack id)) → comparisons ≤ 17
few_halvings stack id comparisons sound within few =
    let lines = few_lines stack id sound within in
    let digits = most_digits (length (lines_at stack id)) 17 (omega (arith, lines)) in
    omega (arith, few, digits)

row_there : (stack : Description) (id : ℕ) → IsSound stack → id < length stack.devices → AreInRow 0 (lines_at stack id)
row_there stack id sound within =
    let d = there stack.devices id within in
    subst (AreInRow 0) (sym (lines_there stack id d.it d.at)) (device_sound stack id d.it sound d.at).placed

first_from : (stack : Description) (lines : List Line) (sector : ℕ) → AreInRow 0 lines → sector < end_of lines → StartsBy (map (resolved_line stack) lines) 0 sector
first_from stack [] sector row inside = absurd (omega (arith, inside))
first_from stack (line ∷ lines) sector row inside = omega (arith, row.0)

pub first_starts : (stack : Description) (id sector : ℕ) → IsSound stack → id < length stack.devices → sector < device_len stack id → StartsBy (resolved_lines stack id) 0 sector
first_starts stack id sector sound within inside = first_from stack (lines_at stack id) sector (row_there stack id sound within) inside

pub line_there : (stack : Description) (id index sector : ℕ) → IsSound stack → id < length stack.devices → sector < device_len stack id
    → StartsBy (resolved_lines stack id) index sector → StartsAfter (resolved_lines stack id) (suc index) sector → slice_get (resolved_lines stack id) index ≡ found_at stack id sector
line_there stack id index sector sound within inside from next = in_row_held stack 0 (lines_at stack id) index sector (row_there stack id sound within) inside from next

-- the sector right after a device's line is in the device's next line
next_there : (stack : Description) (id index sector : ℕ) → IsSound stack → id < length stack.devices → sector < device_len stack id → EndsAt (resolved_lines stack id) index sector
    → StartsBy (resolved_lines stack id) (suc index) sector × StartsAfter (resolved_lines stack id) (suc (suc index)) sector
next_there stack id index sector sound within inside ends =
    in_row_next stack 0 (lines_at stack id) index sector (row_there stack id sound within) (lines_filled stack id sound within) inside ends

pub next_after : (stack : Description) (last : LastLine) (id sector : ℕ) → IsSound stack → id < length stack.devices → sector < device_len stack id → IsLast stack last → last.device ≡ id → last.end ≡ sector
    → StartsBy (resolved_lines stack id) (last.index + 1) sector × StartsAfter (resolved_lines stack id) (last.index + 2) sector
next_after stack last id sector sound within inside is here at =
    let small = device_small stack id sound within in
    let ends = is (omega (arith, at, inside, small)) in
    let there = subst (λ (d : ℕ). EndsAt (resolved_lines stack d) last.index last.end) here ends in
    let next = next_there stack id last.index sector sound within inside (subst (λ (s : ℕ). EndsAt (resolved_lines stack id) last.index s) at there) in
    let one : suc last.index ≡ last.index + 1 = omega arith in
    let two : suc (suc last.index) ≡ last.index + 2 = omega arith in
    (subst (λ (n : ℕ). StartsBy (resolved_lines stack id) n sector) one next.0, subst (λ (n : ℕ). StartsAfter (resolved_lines stack id) n sector) two next.1)

-- the last line found stays valid when it becomes another line of the device
pub last_kept : (stack : Description) (id : ℕ) (old new : LastLine) → IsLast stack old → (new ≡ old) ⊎ ((new.device ≡ id) × EndsAt (resolved_lines stack id) new.index new.end) → IsLast stack new
last_kept stack id old new is (inl same) = rw same is
last_kept stack id old new is (inr found) = λ small. rw found.0 found.1

-- no line ends past the limit on lengths
pub small_there : (stack : Description) (id : ℕ) → IsSound stack → id < length stack.devices → EndsAreSmall (resolved_lines stack id)
small_there stack id sound within =
    let d = there stack.devices id within in
    let small = subst (AllByRecursion (λ line. is_large line ≡ false)) (sym (lines_there stack id d.it d.at)) (device_sound stack id d.it sound d.at).small in
    All-map (λ line. line.start + line.len ≤ 2 ^ 50) (resolved_line stack) (lines_at stack id)
    (All-weaker (λ line. is_large line ≡ false) (λ line. line.start + line.len ≤ 2 ^ 50) line_within (lines_at stack id) (All-from_recursion _ (lines_at stack id) small))
