-- What lies below a line is less deep than the line's device.
use Rattle.dm_map.proofs.Prelude.{ℕ, zero, suc, List, [], Option, Some, None, length, map, refl, ap, subst, ◌∙◌, arith, option_map, slice_get, AllByRecursion, range_with_len, get_or_from_slice_get, slice_get-map, Line, ResolvedLine, ResolvedSnapshot, Lower, Device, Disk, Below, Lies, below_target, found_at, resolved_line, holds, line_of, Description, device_links, lines_at, links, depth_to, greatest, links_of, lower_depth, stack_depth, IsSound, depth_of, line_links, shallow_device, found, lines_there, there, read_over, State, taken_at}
use Rattle.dm_stack.proofs.DepthLemmas.{depth_to-deeper}
use Rattle.dm_map.proofs.state.ResolvedLines.{line_there}
use Rattle.dm_map.proofs.walk.LevelLemmas.{GoesOn, OnBelow, OnLower, on_lines, on_target, over_read}
use Rattle.std.specs.Prelude.{◌≡◌, ◌+◌, ◌-◌, ◌<◌, ◌≤◌, ◌∷◌}

-- what lies below the line that holds a sector satisfies P, if what the lines name does
on_found : (over : ResolvedSnapshot → ℕ → Below) (stack : Description) (P : ℕ → Type 0) (lines : List Line) (sector distance : ℕ) (held : Option Line) (line : ResolvedLine) → GoesOn over P → AllByRecursion (λ l. AllByRecursion P (line_links stack l)) lines
    → line_of lines sector ≡ held → option_map (resolved_line stack) held ≡ Some line → OnBelow P (below_target over line.target distance)
on_found over stack P lines sector distance None line on each e is = absurd cc
on_found over stack P lines sector distance (Some l) line on each e is =
    let same : resolved_line stack l ≡ line = cc in
    rw (← same) (on_target over stack P l.len l.target distance on (found (λ x. AllByRecursion P (line_links stack x)) (holds sector) lines l each e).1)

-- what a device's lines name is what the device names
device_lines : (stack : Description) (P : ℕ → Type 0) (device : ℕ) → device < length stack.devices → AllByRecursion P (links_of (links stack) device) → AllByRecursion (λ l. AllByRecursion P (line_links stack l)) (lines_at stack device)
device_lines stack P device within each =
    let d = there stack.devices device within in
    let is : slice_get (links stack) device ≡ Some (device_links stack d.it) = slice_get-map (device_links stack) stack.devices device ∙ ap (option_map (device_links stack)) d.at in
    let named : links_of (links stack) device ≡ device_links stack d.it = get_or_from_slice_get (links stack) device (device_links stack d.it) [] is in
    rw (lines_there stack device d.it d.at) (on_lines stack P d.it.lines (subst (AllByRecursion P) named each))

all_less : (depth : ℕ → ℕ) (most : ℕ) (ids : List ℕ) → greatest (map depth ids) < most → AllByRecursion (λ id. depth id < most) ids
all_less depth most [] less = tt
all_less depth most (id ∷ ids) less = (omega (arith, less), all_less depth most ids (omega (arith, less)))

lower_less : (stack : Description) (device : ℕ) (to : Lower) → 0 < depth_of stack device → OnLower (λ id. depth_of stack id < depth_of stack device) to → lower_depth stack to < depth_of stack device
unfolding OnLower
lower_less stack device (Device id) some on = on
lower_less stack device (Disk disk) some on = some

at_below : (P : ℕ → Type 0) (b : Below) (to : Lower) (sector : ℕ) → OnBelow P b → b ≡ Lies to sector → OnLower P to
unfolding OnBelow
at_below P b to sector on is = rw is at on

pub below_less : (stack : Description) (state : State) (device sector distance : ℕ) (line : ResolvedLine) (to : Lower) (lower : ℕ) → IsSound stack → found_at stack device sector ≡ Some line
    → below_target (read_over (taken_at state device)) line.target distance ≡ Lies to lower → lower_depth stack to ≤ depth_of stack device - 1
below_less stack state device sector distance line to lower sound is lies =
    let within = line_there stack device sector line is in
    let deeper = depth_to-deeper (links stack) 32 device (shallow_device stack device sound within) in
    let each = all_less (depth_of stack) (depth_of stack device) (links_of (links stack) device) (omega (arith, deeper)) in
    let P : ℕ → Type 0 = λ id. depth_of stack id < depth_of stack device in
    let on = on_found (read_over (taken_at state device)) stack P (lines_at stack device) sector distance (line_of (lines_at stack device) sector) line (over_read P (taken_at state device)) (device_lines stack P device within each) refl is in
    let less = lower_less stack device to (omega (arith, deeper)) (at_below P _ to lower on lies) in
    omega (arith, less)

-- every device has depth 1 at least, and none is deeper than the stack
pub depth_some : (stack : Description) (device : ℕ) → 1 ≤ depth_of stack device
unfolding depth_to
depth_some stack device = omega arith

in_greatest : (depth : ℕ → ℕ) (first n i : ℕ) → i < n → depth (first + i) ≤ greatest (map depth (range_with_len first n))
in_greatest depth first zero i within = absurd (omega (arith, within))
in_greatest depth first (suc n) zero within = let e : first + 0 ≡ first = omega arith in rw e (omega arith)
in_greatest depth first (suc n) (suc i) within =
    let e : first + suc i ≡ first + 1 + i = omega arith in let rest = in_greatest depth (first + 1) n i (omega (arith, within)) in rw e (omega (arith, rest))

pub depth_most : (stack : Description) (device : ℕ) → device < length stack.devices → depth_of stack device ≤ stack_depth stack
depth_most stack device within = let e : 0 + device ≡ device = omega arith in rw e at (in_greatest (depth_of stack) 0 (length stack.devices) device within)
