-- A striped line whose columns are all on disks: a sink receives all of its legs at once.
use Rattle.dm_map.proofs.Prelude.{ℕ, zero, suc, true, false, [], refl, sym, ap, ◌∙◌, arith, Result, on_ok_weaker, Op, Disk, ResolvedLine, ResolvedTarget, on_ok, Description, Below, Lies, below_plain, has_state, IsLine, has_disk_columns, AreOnDisks, LegsView, sector_on_disk, IsOnADisk, AreHanded, SinkPast, below_unit, legs_units, line_units, State, WalkerView, IsMapped, target_mapping, write_step, below_step, line_step, target_step, read_unit, Step, keep, steps, Read, Write, Striped}
use Rattle.dm_map.proofs.walk.Ranges.{plain_step}
use Rattle.dm_map.proofs.walk.Rows.{none_added, walked_as}
use Rattle.std.specs.Prelude.{◌≡◌, ◌+◌, ◌≤◌, ◌∷◌}

-- the legs left of a line striped over disks lie on disks
pub legs_on_disks : (stack other : Description) (device : ℕ) (line : ResolvedLine) (legs : LegsView) (distance len : ℕ) → other ≡ stack → IsLine stack device line → distance + len ≤ line.len → has_disk_columns line.target ≡ true → legs ≡ record { target = line.target; distance = distance; left = len }
    → AreOnDisks other legs
legs_on_disks stack other device line legs distance len same of inside each made =
    rw (same, made) (record { device = device; start = line.start; len = line.len; sound = of.target; inside = inside; columns = each })

-- the step of one sector of the line
disk_plain : (target : ResolvedTarget) → has_disk_columns target ≡ true → has_state target ≡ false
disk_plain (Striped chunk columns) each = refl
disk_plain target each = absurd cc

below_disk : (stack : Description) (op : Op) (levels disk sector : ℕ) (state : State) → below_step stack op levels (Lies (Disk disk) sector) state ≡ keep (below_unit op (Lies (Disk disk) sector) ∷ []) state
unfolding read_unit write_step
below_disk stack Read levels disk sector state = refl
below_disk stack Write levels disk sector state = refl

disk_sector : (stack : Description) (op : Op) (levels device distance : ℕ) (target : ResolvedTarget) (state : State) → has_state target ≡ false → IsOnADisk (below_plain target distance) → target_step stack op levels device target state distance ≡ keep (below_unit op (below_plain target distance) ∷ []) state
disk_sector stack op levels device distance target state plain on =
    plain_step stack op levels device target distance state plain ∙ ap (λ (b : Below). below_step stack op levels b state) on.is
    ∙ below_disk stack op levels on.disk on.sector state ∙ ap (λ (b : Below). keep (below_unit op b ∷ []) state) (sym on.is)

-- the steps of several sectors of the line
units_row : (step : State → ℕ → Step) (op : Op) (target : ResolvedTarget) (distance n : ℕ) (state : State) → ((d : ℕ) → step state d ≡ keep (below_unit op (below_plain target d) ∷ []) state) → steps step state distance n ≡ keep (line_units op target distance n) state
units_row step op target distance zero state each = refl
units_row step op target distance (suc n) state each =
    let here : step state distance ≡ keep (below_unit op (below_plain target distance) ∷ []) state = each distance in
    cc (units_row step op target (suc distance) n state each)

disk_steps : (stack : Description) (op : Op) (levels device distance n : ℕ) (target : ResolvedTarget) (state : State) → has_state target ≡ false → ((d : ℕ) → IsOnADisk (below_plain target d)) → line_step stack op levels device target state distance n ≡ keep (line_units op target distance n) state
disk_steps stack op levels device distance n target state plain each =
    units_row (target_step stack op levels device target) op target distance n state (λ d. disk_sector stack op levels device d target state plain (each d))

-- the sectors are mapped once the sink received the units of the legs
pub mapped_on_disks : {S F : Type 0} {past : SinkPast S} {result : Result (Unit {0}) F} {old new : S} {walk : WalkerView} {legs : LegsView} (op : Op) (levels device distance len : ℕ) (line : ResolvedLine) → IsLine walk.stack device line → has_disk_columns line.target ≡ true
    → legs ≡ record { target = line.target; distance = distance; left = len } → AreHanded past result old new (legs_units op legs) → IsMapped past result old new walk walk (target_mapping op levels device line.start line.target) distance len
mapped_on_disks {past} {result} {old} {new} {walk} op levels device distance len line of each made handed =
    let step = line_step walk.stack op levels device line.target walk.state distance len in
    let same = rw made at handed in
    let is : step ≡ keep (line_units op line.target distance len) walk.state = disk_steps walk.stack op levels device distance len line.target walk.state (disk_plain line.target each) (λ d. sector_on_disk walk.stack device line.start line.len d line.target of.target each) in
    record {
      walked = walked_as (sym is) (record {
        took = same.took;
        state = on_ok result (walk.state ≡ walk.state) refl;
        kept = same.stack;
        room = on_ok_weaker result (λ low. omega (arith, low)) same.room;
        left = same.left;
        faults = same.faults;
        stack = refl;
        looked = none_added walk.looked;
      });
      bounded = λ is_read sound. omega arith;
    }
