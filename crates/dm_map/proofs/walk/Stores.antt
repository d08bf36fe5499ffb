-- Each sector of an exception store is read at its home, whatever the state.
use Rattle.dm_map.proofs.Prelude.{ℕ, zero, suc, Bool, true, false, List, [], Option, Some, None, length, refl, sym, ◌∙◌, arith, not, option_map, AllByRecursion, list_all, and_parts, Line, Target, ResolvedLine, ResolvedSnapshot, Lower, Device, Disk, Span, spans, target_spans, Below, Lies, IsError, below, below_line, below_plain, below_target, column_of, found_at, resolved_columns, resolved_line, resolved_target, has_state, holds, line_of, IsTargetSound, Description, device_len, is_ro_at, lines_at, lower_len, lower_of, IsSound, is_plain, is_store_to, IsStore, HoldsSoundly, found, sector_found, there, Ground, home, home_to, read_unit, read, row, read_over, State, taken_at, ground_unit, ReadOf, units_in, plain_inside, device_there, at_index, MOST_DEPTH}
use Rattle.dm_table.specs.declared.tables.table.Target.TheVariants as targets
use Rattle.dm_map.specs.declared.walk.stretch.Ground.TheVariants as grounds
use Rattle.dm_map.proofs.walk.Spans.{below_is, plain_span, span_index}
use Rattle.dm_map.proofs.walk.UnitRows.{row_same}
use Rattle.std.specs.Prelude.{◌≡◌, ◌+◌, ◌-◌, ◌<◌, ◌≤◌, ◌∷◌, ◌&&◌}

-- What lies below a sector of a store

-- a sector of another store, one level down, lies below, whatever snapshots hold
pub record LiesInStore (stack : Description) (levels : ℕ) (below : (ResolvedSnapshot → ℕ → Below) → Below) : Type 0 where
  pub to : Lower
  pub at : ℕ
  pub is : (over : ResolvedSnapshot → ℕ → Below) → below over ≡ Lies to at
  pub store : is_store_to stack levels to ≡ true
  pub inside : at < lower_len stack to

each_true : {X : Type 0} (test : X → Bool) (xs : List X) → list_all test xs ≡ true → AllByRecursion (λ x. test x ≡ true) xs
each_true test [] all = tt
each_true test (x ∷ xs) all = let parts = and_parts (test x) (list_all test xs) all in (parts.0, each_true test xs parts.1)

-- a sector of a device or disk lies below, not zeros or an error
abbrev goes_on : Below → Bool
goes_on (Lies to sector) = true
goes_on _ = false

record GoesOn (b : Below) : Type 0 where
  to : Lower
  at : ℕ
  is : b ≡ Lies to at

on_it : (b : Below) → goes_on b ≡ true → GoesOn b
on_it (Lies to at) goes = record { to = to; at = at; is = refl }
on_it _ goes = absurd cc

-- a line in a store has no state, and below each of its sectors lies a sector of what it names
plain_state : (stack : Description) (target : Target) → is_plain target ≡ true → has_state (resolved_target stack target) ≡ false
plain_state stack (targets.Snapshot origin store kind chunk_size) plain = absurd cc
plain_state stack (targets.Origin origin) plain = absurd cc
plain_state stack _ plain = refl

plain_goes : (stack : Description) (device start len : ℕ) (target : Target) (distance : ℕ) → is_plain target ≡ true → IsTargetSound stack device start len (resolved_target stack target) → goes_on (below_plain (resolved_target stack target) distance) ≡ true
plain_goes stack device start len (targets.Striped chunk_size columns) distance plain sound =
    let found = resolved_columns stack columns in let some = sound.some in
    let column = there found (column_of chunk_size (length found) distance) (omega (arith, some)) in
    cc
plain_goes stack device start len _ distance plain sound = cc

below_plain_line : (stack : Description) (levels device start len : ℕ) (target : Target) (distance : ℕ) → is_plain target ≡ true → list_all (λ span. is_store_to stack levels (lower_of stack span.to)) (target_spans len target) ≡ true
    → IsTargetSound stack device start len (resolved_target stack target) → distance < len → LiesInStore stack levels (λ over. below_target over (resolved_target stack target) distance)
below_plain_line stack levels device start len target distance plain stores sound inside =
    let found = resolved_target stack target in
    let state = plain_state stack target plain in
    let lies = on_it (below_plain found distance) (plain_goes stack device start len target distance plain sound) in
    let in_span = plain_span stack len target distance lies.to lies.at lies.is in
    let each = each_true (λ (span : Span). is_store_to stack levels (lower_of stack span.to)) (target_spans len target) stores in
    record {
      to = lies.to;
      at = lies.at;
      is = λ over. below_is over found distance state ∙ lies.is;
      store = rw in_span.on at (at_index (λ (span : Span). is_store_to stack levels (lower_of stack span.to) ≡ true) (target_spans len target) (span_index found distance) in_span.span each in_span.is);
      inside = plain_inside stack device start len distance found lies.to lies.at sound inside state lies.is;
    }

OnFound : Option ResolvedLine → (ResolvedLine → Type 0) → Type 0
OnFound (Some line) P = P line
OnFound None P = ⊥

below_held : (stack : Description) (levels device sector : ℕ) (line : Option Line) → AllByRecursion (λ l. (is_plain l.target && list_all (λ span. is_store_to stack levels (lower_of stack span.to)) (spans l)) ≡ true) (lines_at stack device)
    → line_of (lines_at stack device) sector ≡ line → OnFound (option_map (resolved_line stack) line) (λ l. HoldsSoundly stack device l sector) → LiesInStore stack levels (λ over. below_line over (option_map (resolved_line stack) line) sector)
unfolding OnFound
below_held stack levels device sector None each is soundly = absurd soundly
below_held stack levels device sector (Some line) each is soundly =
    let both = (found (λ l. (is_plain l.target && list_all (λ span. is_store_to stack levels (lower_of stack span.to)) (spans l)) ≡ true) (holds sector) (lines_at stack device) line each is).1 in
    let parts = and_parts (is_plain line.target) (list_all (λ span. is_store_to stack levels (lower_of stack span.to)) (spans line)) both in
    let from = soundly.from in let before = soundly.before in
    below_plain_line stack levels device line.start line.len line.target (sector - line.start) parts.0 parts.1 soundly.target (omega (arith, from, before))

found_on : (stack : Description) (device sector : ℕ) (line : Option ResolvedLine) → found_at stack device sector ≡ line → IsSound stack → sector < device_len stack device → OnFound line (λ l. HoldsSoundly stack device l sector)
unfolding OnFound
found_on stack device sector line is sound inside =
    let f = sector_found stack device sector sound (device_there stack device sector inside) inside in
    rw (← is, f.is) f.soundly

pub below_store : (stack : Description) (levels device sector : ℕ) → IsSound stack → is_store_to stack (suc levels) (Device device) ≡ true → sector < device_len stack device → LiesInStore stack levels (λ over. below over stack device sector)
unfolding is_store_to
below_store stack levels device sector sound store inside =
    let parts = and_parts (not (is_ro_at stack device)) (list_all (λ l. is_plain l.target && list_all (λ span. is_store_to stack levels (lower_of stack span.to)) (spans l)) (lines_at stack device)) store in
    below_held stack levels device sector (line_of (lines_at stack device) sector) (each_true (λ l. is_plain l.target && list_all (λ span. is_store_to stack levels (lower_of stack span.to)) (spans l)) (lines_at stack device) parts.1) refl
    (found_on stack device sector (found_at stack device sector) refl sound inside)

-- The lines of a store have no state

state_held : (stack : Description) (levels device sector : ℕ) (line : Option Line) (held : ResolvedLine) → AllByRecursion (λ l. (is_plain l.target && list_all (λ span. is_store_to stack levels (lower_of stack span.to)) (spans l)) ≡ true) (lines_at stack device)
    → line_of (lines_at stack device) sector ≡ line → option_map (resolved_line stack) line ≡ Some held → has_state held.target ≡ false
state_held stack levels device sector None held each is e = absurd cc
state_held stack levels device sector (Some line) held each is e =
    let both = (found (λ l. (is_plain l.target && list_all (λ span. is_store_to stack levels (lower_of stack span.to)) (spans l)) ≡ true) (holds sector) (lines_at stack device) line each is).1 in
    let parts = and_parts (is_plain line.target) (list_all (λ span. is_store_to stack levels (lower_of stack span.to)) (spans line)) both in
    let same : resolved_line stack line ≡ held = cc in
    rw (← same) (plain_state stack line.target parts.0)

pub store_line : (stack : Description) (levels device sector : ℕ) (held : ResolvedLine) → is_store_to stack (suc levels) (Device device) ≡ true → found_at stack device sector ≡ Some held → has_state held.target ≡ false
unfolding is_store_to
store_line stack levels device sector held store is =
    let parts = and_parts (not (is_ro_at stack device)) (list_all (λ l. is_plain l.target && list_all (λ span. is_store_to stack levels (lower_of stack span.to)) (spans l)) (lines_at stack device)) store in
    state_held stack levels device sector (line_of (lines_at stack device) sector) held (each_true (λ l. is_plain l.target && list_all (λ span. is_store_to stack levels (lower_of stack span.to)) (spans l)) (lines_at stack device) parts.1) refl is

-- Reads of a store's sectors

pub store_read : (stack : Description) (state : State) (levels : ℕ) (lower : Lower) (sector : ℕ) → IsSound stack → is_store_to stack levels lower ≡ true → sector < lower_len stack lower
    → read_unit stack state levels lower sector ≡ ReadOf (home_to stack levels lower sector).disk (home_to stack levels lower sector).sector
unfolding read_unit home_to is_store_to
store_read stack state levels (Disk disk) sector sound store inside = refl
store_read stack state zero (Device device) sector sound store inside = absurd cc
store_read stack state (suc levels) (Device device) sector sound store inside =
    let b = below_store stack levels device sector sound store inside in
    rw (b.is (read_over (taken_at state device)), store_read stack state levels b.to b.at sound b.store b.inside, b.is (λ snapshot sector. IsError))

-- reads of consecutive sectors of a store are reads of their homes
pub store_row : (stack : Description) (state : State) (store : Lower) (sector n : ℕ) → IsSound stack → IsStore stack store → sector + n ≤ lower_len stack store
    → row (λ s. ReadOf (home stack store s).disk (home stack store s).sector) sector n ≡ row (read stack state store) sector n
store_row stack state store sector n sound is inside =
    row_same (λ s. ReadOf (home stack store s).disk (home stack store s).sector) (read stack state store) sector sector n
    (λ i within. sym (store_read stack state MOST_DEPTH store (sector + i) sound is (omega (arith, inside, within))))

-- the first stretch of a store's sectors lies on a disk
pub not_on_disk : (stack : Description) (state : State) (store : Lower) (sector n : ℕ) (ground : Ground) → IsSound stack → IsStore stack store → sector + n ≤ lower_len stack store → 1 ≤ n → row (read stack state store) sector n ≡ units_in (ground_unit ground) n
    → ((disk start : ℕ) → ground ≡ grounds.Disk disk start → ⊥) → ⊥
not_on_disk stack state store sector zero ground sound is inside some reads other = omega (arith, some)
not_on_disk stack state store sector (suc n) (grounds.Disk disk start) sound is inside some reads other = other disk start refl
not_on_disk stack state store sector (suc n) grounds.Zeros sound is inside some reads other =
    let at = store_read stack state MOST_DEPTH store sector sound is (omega (arith, inside)) in absurd cc
not_on_disk stack state store sector (suc n) grounds.Fails sound is inside some reads other =
    let at = store_read stack state MOST_DEPTH store sector sound is (omega (arith, inside)) in absurd cc
