-- The state that a mapper's tables hold, and the places left in them.
use Rattle.dm_map.proofs.Prelude.{ℕ, zero, suc, Bool, true, false, cond, not, List, [], Option, Some, None, length, get_or, set, drop, drop-cons, replicate, nat_eq, nat_lt, refl, sym, ap, subst, ◌∙◌, arith, option_and_then, find, is_none, option_map, slice_get, IfSome, All, AllByRecursion, list_any, position_or_len, range_with_len, eq-eqb, eqb-true, false_from_ne_true, leb-true, le-leb, ne_eqb, lt-ltb, le-ltb, ltb-true, ltb_from_iff, or_parts, nat_tests, All-filter, All-from_get_or, All-get_or, find_at, list_any_at, get_or-range_with_len, length-range_with_len, get_or-replicate, length-set, map-append, map-set, set-get_or, get_or_from_slice_get, slice_get-map, slice_get_read, slice_get_within, DevRef, Line, Target, Reading, ResolvedLine, ResolvedSnapshot, ResolvedTarget, target_spans, whole_span, found_at, resolved_line, resolved_target, holds, line_of, Description, device_id, disk_id, is_same, lines_at, lower_len, lower_of, has_snapshot, is_snapshot, snapshots, place, resolved_snapshot, IsSound, all_lines, is_unknown, is_unknown_ref, faults_by_none, passes_all, device_some, disk_some, found, of_device, there, number_in, lost, put, with_chunk, none_taken, taken_at, AreTables, has_room, snapshot_at, snapshot_of, state_of, Snapshot}
use Rattle.std.proofs.lemmas.Map.Views.{any-filter_same}
use Rattle.dm_table.specs.declared.load.load_fault.LoadKind.TheVariants.{Unknown}
use Rattle.dm_table.specs.declared.tables.table.DevRef.TheVariants as refs
use Rattle.dm_table.specs.declared.tables.table.Target.TheVariants as targets
use Rattle.dm_map.proofs.state.Numbers.{number_is}
use Rattle.dm_map.proofs.state.ResolvedLines.{line_there, some_line}
use Rattle.std.specs.Prelude.{◌≡◌, ◌↔◌, ◌+◌, ◌*◌, ◌<◌, ◌≤◌, ◌∷◌, ◌++◌, ◌==◌}

-- Replacing one table

pub state_set : {T : Type 0} (chunks : T → List ℕ) (valid : T → Bool) (tables : List T) (device : ℕ) (table : T) → state_of chunks valid (set tables device table) ≡ put (state_of chunks valid tables) device (record { chunks = chunks table; valid = valid table })
state_set chunks valid tables device table = map-set (λ t. record { chunks = chunks t; valid = valid t }) tables device table

pub state_at : {T : Type 0} (chunks : T → List ℕ) (valid : T → Bool) (tables : List T) (device : ℕ) (table : T) → slice_get tables device ≡ Some table → taken_at (state_of chunks valid tables) device ≡ record { chunks = chunks table; valid = valid table }
state_at chunks valid tables device table is =
    get_or_from_slice_get (state_of chunks valid tables) device _ none_taken (slice_get-map (λ t. record { chunks = chunks t; valid = valid t }) tables device ∙ rw is)

-- The number of a taken chunk has a place

pub number_within : (chunk : ℕ) (chunks : List ℕ) (number : ℕ) → number_in chunk chunks ≡ Some number → number < length chunks
number_within chunk chunks number is = (number_is chunk chunks number is).0

pub each_set : {T : Type 0} (P : ℕ → T → Type 0) (tables : List T) (device : ℕ) (new : T) → ((other : ℕ) (table : T) → (other ≡ device → ⊥) → slice_get tables other ≡ Some table → P other table) → P device new
    → (other : ℕ) (table : T) → slice_get (set tables device new) other ≡ Some table → P other table
each_set P [] device new each last other table is = absurd cc
each_set P (first ∷ rest) zero new each last zero table is = let same : new ≡ table = cc in subst (P 0) same last
each_set P (first ∷ rest) zero new each last (suc other) table is = each (suc other) table (λ e. absurd (omega (arith, e))) is
each_set P (first ∷ rest) (suc device) new each last zero table is = each zero table (λ e. absurd (omega (arith, e))) is
each_set P (first ∷ rest) (suc device) new each last (suc other) table is =
    each_set (λ d t. P (suc d) t) rest device new (λ o t differ found. each (suc o) t (λ e. differ (omega (arith, e))) found) last other table is

pub took_put : {T : Type 0} (chunks : T → List ℕ) (valid : T → Bool) (tables : List T) (device index chunk : ℕ) (table new : T) → index ≡ device → slice_get tables device ≡ Some table → (taken_at (state_of chunks valid tables) device).valid ≡ true → chunks new ≡ chunks table ++ chunk ∷ [] → valid new ≡ true
    → state_of chunks valid (set tables index new) ≡ put (state_of chunks valid tables) device (with_chunk (taken_at (state_of chunks valid tables) device) chunk)
took_put chunks valid tables device index chunk table new same got good more on =
    let kept = state_at chunks valid tables device table got in
    let before : valid table ≡ true = cc in
    rw same (state_set chunks valid tables device new ∙ rw (kept, more, on, before) refl)

-- the state after a table is offered a chunk, which it takes or not
pub offered_put : {T : Type 0} (chunks : T → List ℕ) (valid : T → Bool) (tables : List T) (device index chunk : ℕ) (table new : T) (took : Bool) → index ≡ device → slice_get tables device ≡ Some table → (taken_at (state_of chunks valid tables) device).valid ≡ true
    → chunks new ≡ cond took (chunks table ++ chunk ∷ []) (chunks table) → valid new ≡ true
    → state_of chunks valid (set tables index new) ≡ cond took (put (state_of chunks valid tables) device (with_chunk (taken_at (state_of chunks valid tables) device) chunk)) (state_of chunks valid tables)
offered_put chunks valid tables device index chunk table new true same got good more on = took_put chunks valid tables device index chunk table new same got good more on
offered_put chunks valid tables device index chunk table new false same got good kept_as on =
    let state = state_of chunks valid tables in
    let kept = state_at chunks valid tables device table got in
    let before : valid table ≡ true = cc in
    rw same (state_set chunks valid tables device new ∙ cc (set-get_or state device none_taken))

pub take_room : {T : Type 0} (chunks : T → List ℕ) (valid : T → Bool) (places : T → ℕ) (stack : Description) (tables : List T) (device : ℕ) (table : T) → AreTables places stack tables → slice_get tables device ≡ Some table
    → has_room stack device (length (taken_at (state_of chunks valid tables) device).chunks) ≡ true → length (chunks table) < places table
take_room chunks valid places stack tables device table are got room =
    let kept = state_at chunks valid tables device table got in
    ltb-true _ _ (cc (are.room device (length (chunks table)) table got))

pub tables_set : {T : Type 0} (places : T → ℕ) (stack : Description) (tables : List T) (device index : ℕ) (table new : T) → AreTables places stack tables → index ≡ device → slice_get tables device ≡ Some table → places new ≡ places table → AreTables places stack (set tables index new)
tables_set places stack tables device index table new are same got kept = record {
  count = length-set tables index new ∙ are.count;
  room = λ other number t at.
      each_set (λ o u. nat_lt number (places u) ≡ has_room stack o number) tables index new (λ o u differ found. are.room o number u found)
      (rw same (cc (are.room device number table got))) other t at;
}

-- Adding a table at the end of the list

pub state_push : {T : Type 0} (chunks : T → List ℕ) (valid : T → Bool) (tables : List T) (table : T) → chunks table ≡ [] → valid table ≡ true → state_of chunks valid (tables ++ table ∷ []) ≡ state_of chunks valid tables ++ none_taken ∷ []
state_push chunks valid tables table nothing good = map-append (λ t. record { chunks = chunks t; valid = valid t }) tables (table ∷ []) ∙ rw (nothing, good)

-- Getting the table of a device

pub table_got : {T : Type 0} (places : T → ℕ) (stack : Description) (tables : List T) (device index : ℕ) (table : T) → AreTables places stack tables → device < length stack.devices → index ≡ device → table ≡ get_or tables index table → slice_get tables device ≡ Some table
table_got places stack tables device index table are there same is =
    slice_get_read tables (length tables) device table refl (omega (arith, are.count, there)) (rw same at is)

pub found_room : {T : Type 0} (chunks : T → List ℕ) (places : T → ℕ) (stack : Description) (tables : List T) (device chunk : ℕ) (table : T) (number : Option ℕ) → AreTables places stack tables → length (chunks table) ≤ places table → slice_get tables device ≡ Some table
    → number_in chunk (chunks table) ≡ number → IfSome number (λ n. has_room stack device n ≡ true)
found_room chunks places stack tables device chunk table None are fits got is = tt
found_room chunks places stack tables device chunk table (Some n) are fits got is =
    sym (are.room device n table got) ∙ lt-ltb n (places table) (omega (arith, fits, number_within chunk (chunks table) n is))

full_at : (count most : ℕ) → count ≤ most → (count == most) ≡ not (nat_lt count most)
full_at count most le = grind (arith, nat_tests)

pub full_room : {T : Type 0} (chunks : T → List ℕ) (places : T → ℕ) (stack : Description) (tables : List T) (device : ℕ) (table : T) → AreTables places stack tables → length (chunks table) ≤ places table → slice_get tables device ≡ Some table
    → (length (chunks table) == places table) ≡ not (has_room stack device (length (chunks table)))
full_room chunks places stack tables device table are fits got =
    full_at (length (chunks table)) (places table) fits ∙ ap not (are.room device (length (chunks table)) table got)

pub lost_put : {T : Type 0} (chunks : T → List ℕ) (valid : T → Bool) (tables : List T) (device index : ℕ) (table new : T) → index ≡ device → slice_get tables device ≡ Some table → chunks new ≡ chunks table → valid new ≡ false
    → state_of chunks valid (set tables index new) ≡ put (state_of chunks valid tables) device (lost (taken_at (state_of chunks valid tables) device))
lost_put chunks valid tables device index table new same got kept off =
    rw same (state_set chunks valid tables device new ∙ rw (state_at chunks valid tables device table got, kept, off) refl)

-- replacing an empty table by another empty one leaves the state at the start
pub state_new : {T : Type 0} (chunks : T → List ℕ) (valid : T → Bool) (tables : List T) (device count : ℕ) (new : T) → device < count → state_of chunks valid tables ≡ replicate count none_taken → chunks new ≡ [] → valid new ≡ true → state_of chunks valid (set tables device new) ≡ replicate count none_taken
state_new chunks valid tables device count new there before nothing good =
    state_set chunks valid tables device new ∙ rw (before, nothing, good) (cc (get_or-replicate count device none_taken none_taken there, set-get_or (replicate count none_taken) device none_taken))

-- A device without a snapshot line

plain_target : (stack : Description) (target : Target) → is_snapshot target ≡ false → snapshot_of (resolved_target stack target) ≡ None
plain_target stack (targets.Snapshot origin store kind chunk_size) e = absurd cc
plain_target stack _ e = refl

each_plain : (lines : List Line) → has_snapshot lines ≡ false → AllByRecursion (λ line. is_snapshot line.target ≡ false) lines
each_plain [] e = tt
each_plain (line ∷ lines) e = let parts = or_parts (is_snapshot line.target) (has_snapshot lines) e in (parts.0, each_plain lines parts.1)

plain_line : (stack : Description) (lines : List Line) (sector : ℕ) (line : Option Line) → has_snapshot lines ≡ false → line_of lines sector ≡ line → option_and_then (λ (l : ResolvedLine). snapshot_of l.target) (option_map (resolved_line stack) line) ≡ None
plain_line stack lines sector None e is = refl
plain_line stack lines sector (Some line) e is = plain_target stack line.target (found (λ l. is_snapshot l.target ≡ false) (holds sector) lines line (each_plain lines e) is).1

pub plain_room : (stack : Description) (device number : ℕ) → has_snapshot (lines_at stack device) ≡ false → has_room stack device number ≡ false
plain_room stack device number e = rw (plain_line stack (lines_at stack device) 0 (line_of (lines_at stack device) 0) e refl) refl

-- The snapshots of a stack

-- a device that isn't among the snapshots has no places
pub unlisted_room : (stack : Description) (device number : ℕ) → device < length stack.devices → list_any (nat_eq device) (snapshots stack) ≡ false → has_room stack device number ≡ false
unlisted_room stack device number there none =
    let count = length stack.devices in
    let ids = range_with_len 0 count in
    let here : list_any (nat_eq device) ids ≡ true = list_any_at (nat_eq device) ids device 0 (omega (arith, there, length-range_with_len 0 count)) (eq-eqb device (get_or ids device 0) (let at = get_or-range_with_len 0 count device 0 there in omega (arith, at))) in
    let kept = any-filter_same (nat_eq device) (λ d. has_snapshot (lines_at stack d)) (has_snapshot (lines_at stack device)) (λ d is. ap (λ d. has_snapshot (lines_at stack d)) (sym (eqb-true device d is))) ids in
    plain_room stack device number (false_from_ne_true _ (λ some. let picked = rw (some, here) at kept in absurd cc))

-- the snapshots are devices of the stack
pub snapshot_there : (stack : Description) (next d : ℕ) → next < length (snapshots stack) → get_or (snapshots stack) next d < length stack.devices
snapshot_there stack next d within =
    let count = length stack.devices in
    let ids = range_with_len 0 count in
    let all = All-from_get_or (λ id. id < count) ids 0 (λ i inside. let at = get_or-range_with_len 0 count i 0 (omega (arith, inside, length-range_with_len 0 count)) in omega (arith, at, inside, length-range_with_len 0 count)) in
    All-get_or (λ id. id < count) (snapshots stack) next d within (All-filter (λ id. has_snapshot (lines_at stack id)) (λ id. id < count) ids all)

-- a device that is neither this snapshot nor a later one is not among those from this one on
pub not_yet : (ids : List ℕ) (next d device : ℕ) → next < length ids → (device ≡ get_or ids next d → ⊥) → list_any (nat_eq device) (drop (next + 1) ids) ≡ false → list_any (nat_eq device) (drop next ids) ≡ false
not_yet ids next d device within differ later =
    let e : suc next ≡ next + 1 = omega arith in
    let rest : drop next ids ≡ get_or ids next d ∷ drop (next + 1) ids = cc (drop-cons ids next d within) in
    let both : list_any (nat_eq device) (get_or ids next d ∷ drop (next + 1) ids) ≡ false = rw (ne_eqb device (get_or ids next d) differ) later in
    rw rest both

-- The tables before the first snapshot is looked up, and after each one

pub first_rooms : {T : Type 0} (places : T → ℕ) (stack : Description) (tables : List T) → length tables ≡ length stack.devices → All (λ table. places table ≡ 0) tables
    → (device number : ℕ) (table : T) → slice_get tables device ≡ Some table → list_any (nat_eq device) (snapshots stack) ≡ false → nat_lt number (places table) ≡ has_room stack device number
first_rooms places stack tables count none device number table got unlisted =
    let within = slice_get_within tables device table got in
    let inside : device < length stack.devices = omega (arith, within, count) in
    let empty : places table ≡ 0 = ap places (sym (get_or_from_slice_get tables device table table got)) ∙ All-get_or (λ t. places t ≡ 0) tables device table within none in
    rw empty (le-ltb number 0 (omega arith) ∙ sym (unlisted_room stack device number inside unlisted))

pub next_rooms : {T : Type 0} (places : T → ℕ) (stack : Description) (tables : List T) (next d index : ℕ) (new : T) → next < length (snapshots stack) → d ≡ get_or (snapshots stack) next d → index ≡ d → ((number : ℕ) → nat_lt number (places new) ≡ has_room stack d number)
    → ((device number : ℕ) (table : T) → slice_get tables device ≡ Some table → list_any (nat_eq device) (drop next (snapshots stack)) ≡ false → nat_lt number (places table) ≡ has_room stack device number)
    → (device number : ℕ) (table : T) → slice_get (set tables index new) device ≡ Some table → list_any (nat_eq device) (drop (next + 1) (snapshots stack)) ≡ false → nat_lt number (places table) ≡ has_room stack device number
next_rooms places stack tables next d index new within is same room before device number table got later =
    each_set (λ other t. list_any (nat_eq other) (drop (next + 1) (snapshots stack)) ≡ false → nat_lt number (places t) ≡ has_room stack other number) tables index new
    (λ other t differ at unlisted. before other number t at (not_yet (snapshots stack) next d other within (λ e. differ (e ∙ sym is ∙ sym same)) unlisted))
    (λ unlisted. rw same (room number))
    device table got later

-- The places of a snapshot

-- a number with room has its place within the store
pub room_place : (stack : Description) (device number : ℕ) (snapshot : ResolvedSnapshot) → snapshot_at stack device ≡ Some snapshot → has_room stack device number ≡ true → (place snapshot.kind snapshot.chunk number + 1) * snapshot.chunk ≤ lower_len stack snapshot.store
room_place stack device number snapshot is room =
    leb-true _ _ (rw is at room)

pub snapshot_room : (stack : Description) (device number count : ℕ) (line : ResolvedLine) (snapshot : ResolvedSnapshot) → found_at stack device 0 ≡ Some line → line.target ≡ Snapshot snapshot → ((number < count) ↔ ((place snapshot.kind snapshot.chunk number + 1) * snapshot.chunk ≤ lower_len stack snapshot.store)) → nat_lt number count ≡ has_room stack device number
snapshot_room stack device number count line snapshot is kind law =
    rw (is, kind) (sym (ltb_from_iff ((λ e. law.1 (leb-true _ _ e)), (λ less. le-leb _ _ (law.0 less)))))

pub other_room : (stack : Description) (device number : ℕ) (line : ResolvedLine) → found_at stack device 0 ≡ Some line → ((snapshot : ResolvedSnapshot) → line.target ≡ Snapshot snapshot → ⊥) → has_room stack device number ≡ false
other_room stack device number line is other = rw (is, none_of line.target other) refl
  where
    none_of : (target : ResolvedTarget) → ((snapshot : ResolvedSnapshot) → target ≡ Snapshot snapshot → ⊥) → snapshot_of target ≡ None
    none_of (Snapshot snapshot) other = absurd (other snapshot refl)
    none_of _ other = refl

-- The store of a snapshot is a device or disk of the stack

place_before : {X : Type 0} (test : X → Bool) (xs : List X) → is_none (find test xs) ≡ false → position_or_len test xs < length xs
place_before {X = X} test xs some = by_found (find test xs) refl some
  where
    by_found : (found : Option X) → find test xs ≡ found → is_none found ≡ false → position_or_len test xs < length xs
    by_found None is e = absurd cc
    by_found (Some x) is e = slice_get_within xs (position_or_len test xs) x (sym (find_at test xs) ∙ is)

lower_some : (stack : Description) (to : DevRef) → IsSound stack → is_unknown_ref stack to ≡ false → 0 < lower_len stack (lower_of stack to)
lower_some stack (refs.Device name) sound known = device_some stack (device_id stack name) sound (place_before (λ device. is_same device.name name) stack.devices known)
lower_some stack (refs.Disk name) sound known =
    let it = there stack.disks (disk_id stack name) (place_before (λ disk. is_same disk.name name) stack.disks known) in
    rw it.at (disk_some stack (disk_id stack name) it.it sound it.at)

store_at : (stack : Description) (target : Target) (len : ℕ) (snapshot : ResolvedSnapshot) → IsSound stack → list_any (λ span. is_unknown_ref stack span.to) (target_spans len target) ≡ false → resolved_target stack target ≡ Snapshot snapshot → 0 < lower_len stack snapshot.store
store_at stack (targets.Snapshot origin store kind chunk_size) len snapshot sound known is =
    let same : resolved_snapshot stack origin store kind chunk_size ≡ snapshot = cc in
    let parts = or_parts (is_unknown_ref stack store) (list_any (λ span. is_unknown_ref stack span.to) (whole_span origin Reading ∷ [])) known in
    rw (← same) (lower_some stack store sound parts.0)
store_at stack _ len snapshot sound known is = absurd cc

pub store_some : (stack : Description) (device sector : ℕ) (line : ResolvedLine) (snapshot : ResolvedSnapshot) → IsSound stack → found_at stack device sector ≡ Some line → line.target ≡ Snapshot snapshot → 0 < lower_len stack snapshot.store
store_some stack device sector line snapshot sound is kind =
    let device_is = there stack.devices device (line_there stack device sector line is) in
    let lines = device_is.it.lines in
    let it = some_line stack (line_of lines sector) line cc in
    let known = of_device (λ l. is_unknown stack l ≡ false) stack.devices device device_is.it (faults_by_none Unknown (λ l. l.at) (is_unknown stack) (all_lines stack.devices) (passes_all stack sound).known) device_is.at in
    store_at stack it.0.target it.0.len snapshot sound (found (λ l. is_unknown stack l ≡ false) (holds sector) lines it.0 known it.1).1 (ap (λ (l : ResolvedLine). l.target) it.2 ∙ kind)
