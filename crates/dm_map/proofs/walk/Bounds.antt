-- Walks and bounds on their searches, for sectors of a line by what lies below, and for sectors of a device in one line.
use Rattle.dm_map.proofs.Prelude.{ℕ, suc, false, List, [], Some, length, refl, sym, ap, ◌∙◌, arith, nat_lt, Result, ne_eqb, mul-le-mul_right, Op, Read, ResolvedLine, ResolvedTarget, Lower, Device, Below, Lies, below_target, found_at, is_same_chunk, IsLineOf, Description, device_len, stack_depth, IsSound, depth_of, SinkPast, IsMapped, found_mapping, range_mapping, target_mapping, target_path, PathStep, is_same_path, path, read_stretches, stretches, by_below, read_over, State, taken_at, Step, steps, WalkerView, line_step, refuses, MOST_DEPTH}
use Rattle.dm_stack.specs.Prelude.{chunk_at}
use Rattle.dm_map.proofs.walk.Depths.{below_less, depth_most, depth_some}
use Rattle.dm_map.proofs.walk.Paths.{other_chunk, other_start, searches_below, searches_line, stretches_below, stretches_same}
use Rattle.dm_map.proofs.walk.Ranges.{range_line}
use Rattle.dm_map.proofs.walk.Rows.{walked_as}
use Rattle.std.specs.Prelude.{◌≡◌, ◌+◌, ◌-◌, ◌*◌, ◌<◌, ◌≤◌, ◌∷◌, ◌==◌}

-- Sectors of a line, by what lies below them

-- below each of these sectors lies the next sector of a device or a disk
pub mapped_below : {S R F : Type 0} {past : SinkPast S} {result : Result R F} {old new : S} {before after : WalkerView} {step : Description → State → ℕ → Step} {sector n : ℕ}
    (op : Op) (levels device start distance at : ℕ) (line : ResolvedLine) (target : ResolvedTarget) (to : Lower) → found_at before.stack device at ≡ Some line → line.target ≡ target → 1 ≤ n
    → ((i : ℕ) → i < n → below_target (read_over (taken_at before.state device)) target (distance + i) ≡ Lies to (sector + i))
    → steps (step before.stack) before.state sector n ≡ line_step before.stack op levels device target before.state distance n
    → IsMapped past result old new before after (record (range_mapping op levels to) { step = step }) sector n → IsMapped past result old new before after (target_mapping op levels device start target) distance n
mapped_below {before} {after} {sector} {n} op levels device start distance at line target to found kind some below same mapped =
    let stack = before.stack in let state = before.state in
    record {
      walked = walked_as same mapped.walked;
      bounded = λ is sound.
          let less = below_less stack state device at (distance + 0) line to (sector + 0) sound found (cc (below 0 (omega (arith, some)))) in
          let few = mapped.bounded is sound in
          let most = searches_below (target_path stack state levels device start target) (path stack state levels to) _ (depth_of stack device - 1) distance sector n before.looked.searches after.looked.searches less
          (stretches_below (target_path stack state levels device start target) (path stack state levels to) (λ i. record { device = device; start = start; chunk = chunk_at target (distance + i) }) distance sector n (λ i within.
          ap (λ (b : Below). record { device = device; start = start; chunk = chunk_at target (distance + i) } ∷ by_below b [] [] (λ to lower. path stack state levels to lower)) (below i within))) (omega (arith, few)) in
          omega (arith, most);
    }

-- sectors mapped for one target and start are mapped for an equal target and start
pub mapped_target : {S F : Type 0} {past : SinkPast S} {result : Result (Unit {0}) F} {old new : S} {before after : WalkerView} {distance n : ℕ} (op : Op) (levels device : ℕ) (start other : ℕ) (target is : ResolvedTarget)
    → start ≡ other → target ≡ is → IsMapped past result old new before after (target_mapping op levels device other is) distance n → IsMapped past result old new before after (target_mapping op levels device start target) distance n
mapped_target {past} {result} {old} {new} {before} {after} {distance} {n} op levels device start other target is same kind mapped =
    rw (same, kind) mapped

-- the path below a line; two sectors in different chunks of the line have different paths
abbrev lower_path : Description → State → (levels device : ℕ) → ResolvedTarget → (distance : ℕ) → List PathStep
lower_path stack state levels device target distance = by_below (below_target (read_over (taken_at state device)) target distance) [] [] (λ to lower. path stack state levels to lower)

pub parts_apart : (stack : Description) (state : State) (levels device start at : ℕ) (target : ResolvedTarget) → is_same_chunk (chunk_at target (at - 1)) (chunk_at target at) ≡ false
    → is_same_path (target_path stack state levels device start target (at - 1)) (target_path stack state levels device start target at) ≡ false
parts_apart stack state levels device start at target differs =
    other_chunk device start (chunk_at target (at - 1)) (chunk_at target at) (lower_path stack state levels device target (at - 1)) (lower_path stack state levels device target at) differs

-- Sectors of a device that are in one line

line_at : (stack : Description) (state : State) (levels fewer device sector : ℕ) (line : ResolvedLine) → levels ≡ suc fewer → found_at stack device sector ≡ Some line → path stack state levels (Device device) sector ≡ target_path stack state fewer device line.start line.target (sector - line.start)
unfolding path
line_at stack state levels fewer device sector line more found = rw (more, found) refl

-- the walk of sectors in one line: its steps, its searches, and the search that found the line
pub mapped_line : {S R F : Type 0} {past : SinkPast S} {result : Result R F} {old new : S} {before after : WalkerView} (op : Op) (levels fewer device sector n : ℕ) (line : ResolvedLine)
    → levels ≡ suc fewer → refuses before.stack op device ≡ false → IsLineOf before.stack device line sector → 1 ≤ n → sector + n ≤ line.start + line.len
    → IsMapped past result old new before after (target_mapping op fewer device line.start line.target) (sector - line.start) n → IsMapped past result old new before after (found_mapping op levels device) sector n
mapped_line {before} {after} op levels fewer device sector n line more passes of some inside mapped =
    let stack = before.stack in let state = before.state in let paths = path stack state levels (Device device) in let lower = target_path stack state fewer device line.start line.target in
    let each : (i : ℕ) → i < n → found_at stack device (sector + i) ≡ Some line = λ i within. of.is.all (sector + i) (omega (arith, of.from)) (omega (arith, inside, within)) in
    record {
      walked = walked_as (sym (range_line stack op levels fewer device sector n state line more passes of.from each)) mapped.walked;
      bounded = λ is sound.
          let below : stretches paths sector n ≡ stretches lower (sector - line.start) n = stretches_same paths lower sector (sector - line.start) n (λ i within.
          line_at stack state levels fewer device (sector + i) line more (each i within) ∙ ap lower (let e : sector + i - line.start ≡ sector - line.start + i = omega (arith, of.from) in e)) in
          let few = mapped.bounded is sound in
          searches_line paths lower (depth_of stack device) sector (sector - line.start) n before.looked.searches (before.looked.searches + 1) (after.looked.searches + 1) (depth_some stack device) some (omega arith) below (omega (arith, few));
    }

-- the sectors on both sides of the end of a line have different paths
pub lines_apart : (stack : Description) (state : State) (levels fewer device at n : ℕ) (line next : ResolvedLine) → levels ≡ suc fewer → 1 ≤ n → IsLineOf stack device line at → at + n ≡ line.start + line.len → IsLineOf stack device next (at + n)
    → is_same_path (path stack state levels (Device device) (at + n - 1)) (path stack state levels (Device device) (at + n)) ≡ false
lines_apart stack state levels fewer device at n line next more some of end after =
    let here = of.is.all (at + n - 1) (omega (arith, of.from, some)) (omega (arith, end, some)) in
    let there = after.is.all (at + n) after.from after.before in
    let differs : (line.start == next.start) ≡ false = ne_eqb line.start next.start (λ same.
    let again = after.is.all (at + n - 1) (omega (arith, same, of.from, some)) (omega (arith, after.before)) in
    let one : line ≡ next = cc in
    let ends : line.start + line.len ≡ next.start + next.len = cc in
    omega (arith, ends, end, after.before)) in
    rw (line_at stack state levels fewer device (at + n - 1) line more here, line_at stack state levels fewer device (at + n) next more there)
    (other_start device line.start next.start (chunk_at line.target (at + n - 1 - line.start)) (chunk_at next.target (at + n - next.start))
    (lower_path stack state fewer device line.target (at + n - 1 - line.start)) (lower_path stack state fewer device next.target (at + n - next.start)) differs)

-- A request within its device

pub request_bound : {S R F : Type 0} {past : SinkPast S} {result : Result R F} {old new : S} {before after : WalkerView} (op : Op) (device start len : ℕ)
    → IsSound before.stack → device < length before.stack.devices → nat_lt (device_len before.stack device) (start + len) ≡ false
    → IsMapped past result old new before after (range_mapping op MOST_DEPTH (Device device)) start len → op ≡ Read → after.looked.searches ≤ before.looked.searches + stack_depth before.stack * read_stretches before.stack before.state device start len
request_bound {before} {after} op device start len sound there inside mapped is =
    let runs = stretches (path before.stack before.state MOST_DEPTH (Device device)) start len in
    let more : depth_of before.stack device * runs ≤ stack_depth before.stack * runs = mul-le-mul_right runs (depth_most before.stack device there) in
    let searched = mapped.bounded is sound in
    rw inside (omega (arith, searched, more))
