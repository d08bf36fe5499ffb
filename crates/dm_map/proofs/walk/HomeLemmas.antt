-- Requests whose sectors lie in a row on a disk, and the results of those that were handed to the sink.
use Rattle.dm_map.proofs.Prelude.{ℕ, false, List, Some, refl, sym, ◌∙◌, arith, Option, Result, Ok, Err, Op, ResolvedLine, Lower, Disk, Description, IsLineOf, disk_there, IsHanded, SinkPast, BlockUnit, disk_unit, units_in, read_over, taken_at, WalkerView, IsMapped, Mapping, found_mapping, range_mapping, IsHome, handed, or_home, range_step, refuses, IsLegOf, IsWalked, Step, keep, MOST_DEPTH}
use Rattle.dm_stack.specs.declared.lines.leg.Beneath.TheVariants.{Lies}
use Rattle.dm_map.specs.declared.walk.home.Home.{Home}
use Rattle.dm_map.proofs.walk.Bounds.{mapped_below, mapped_line}
use Rattle.dm_map.proofs.walk.Ranges.{leg_lies, range_disk}
use Rattle.dm_map.proofs.walk.Rows.{walked_piece}
use Rattle.dm_map.proofs.walk.Spans.{below_is}
use Rattle.std.specs.Prelude.{◌≡◌, ◌+◌, ◌-◌, ◌≤◌}

-- Sectors of a disk

pub disk_step : (w : WalkerView) (op : Op) (levels : ℕ) (lower : Lower) (disk sector len : ℕ) (units : List BlockUnit) → lower ≡ Disk disk → units ≡ units_in (disk_unit op disk sector) len → keep units w.state ≡ range_step w.stack op levels lower w.state sector len
disk_step w op levels lower disk sector len units is units_is =
    cc (range_disk w.stack op levels disk sector len w.state)

-- Units that were handed to the sink

over : {S F : Type 0} {past : SinkPast S} {old new : S} {before after : WalkerView} {step : Step} {len : ℕ} (stack : Description) (op : Op) (n : ℕ) (result : Result (Unit {0}) F)
    → IsWalked past result old new before after step len → IsWalked (or_home past stack op n (handed result)) (handed result) old new before after step len
over stack op n (Ok done) walked = record { took = walked.took; state = walked.state; kept = walked.kept; room = walked.room; left = tt; faults = walked.faults; stack = walked.stack; looked = walked.looked }
over stack op n (Err fault) walked = record { took = tt; state = tt; kept = tt; room = tt; left = walked.left; faults = walked.faults; stack = walked.stack; looked = walked.looked }

pub walked_over : {S F : Type 0} {past : SinkPast S} {old new : S} {before after : WalkerView} {step : Step} {len : ℕ} {result : Result (Unit {0}) F} {answer : Result (Option Home) F} (stack : Description) (op : Op) (n : ℕ)
    → answer ≡ handed result → IsWalked past result old new before after step len → IsWalked (or_home past stack op n answer) answer old new before after step len
walked_over {past} {old} {new} {before} {after} {step} {len} {result} stack op n is walked =
    rw is (over stack op n result walked)

pub mapped_over : {S F : Type 0} {past : SinkPast S} {old new : S} {before after : WalkerView} {mapping : Mapping} {first len : ℕ} {result : Result (Unit {0}) F} {answer : Result (Option Home) F} (stack : Description) (op : Op) (n : ℕ)
    → answer ≡ handed result → IsMapped past result old new before after mapping first len → IsMapped (or_home past stack op n answer) answer old new before after mapping first len
mapped_over stack op n is mapped = record { walked = walked_over stack op n is mapped.walked; bounded = mapped.bounded }

-- Sectors whose home is returned instead

pub home_mapped : {S F : Type 0} (past : SinkPast S) (sink : S) (w : WalkerView) (op : Op) (device sector len : ℕ) (line : ResolvedLine) (home : Home) (stack : Description) → stack ≡ w.stack
    → refuses w.stack op device ≡ false → IsLineOf w.stack device line sector → 1 ≤ len → sector + len ≤ line.start + line.len → IsLegOf w.stack device line (sector - line.start) (record { below = Lies (Disk home.disk) home.start; len = len })
    → IsMapped {F = F} (or_home {F = F} past stack op len (Ok (Some home))) (Ok (Some home)) sink sink w w (found_mapping op MOST_DEPTH device) sector len
home_mapped {S} {F} past sink w op device sector len line home stack is passes of some inside leg =
    let or_here = or_home {S = S} {F = F} past w.stack op len (Ok (Some home)) in let distance = sector - line.start in
    let there = disk_there w.stack home.disk home.start (omega (arith, some, leg.lies)) in
    let here : IsHome w.stack op len home (units_in (disk_unit op home.disk home.start) len) = record { units = refl; lies = record { there = there; inside = leg.lies } } in
    let piece : IsHanded {F = F} or_here (Ok (Some home)) sink sink (units_in (disk_unit op home.disk home.start) len) 0 = record { took = (here, refl); left = tt; faults = omega arith; stack = refl; room = omega arith } in
    let base : IsMapped {F = F} or_here (Ok (Some home)) sink sink w w (range_mapping op 31 (Disk home.disk)) home.start len =
    record {
      walked = walked_piece (disk_step w op 31 (Disk home.disk) home.disk home.start len _ refl refl) (let few : 0 ≤ len = omega arith in few) piece;
      bounded = λ read sound. omega arith;
    } in
    let below = mapped_below op 31 device line.start distance line.start line line.target (Disk home.disk) (leg.of.all line.start (omega arith) (omega (arith, some, leg.inside))) refl some
    (λ i within. below_is (read_over (taken_at w.state device)) line.target (distance + i) leg.is.plain ∙ leg.is.below i within)
    (sym (leg_lies w.stack op 31 device line.target (Disk home.disk) distance home.start len w.state leg.is)) base in
    rw is (mapped_line op MOST_DEPTH 31 device sector len line refl passes of some inside below)
