-- No unit of a request to a top device writes to the list of a store.
use Rattle.dm_map.proofs.Prelude.{ℕ, zero, suc, Bool, true, false, cond, List, [], Some, take, drop, nat_lt, replicate, refl, sym, ap, ◌∙◌, AllByRecursion, take-append-drop, true≢false, Op, Own, Lower, Device, ResolvedSnapshot, IsSound, is_store_to, IsTidy, IsTop, Description, device_len, lower_len, Lies, found_at, has_state, is_metadata, all_append, all_front, IsVia, one_via, Values, answers, played, played_unit, sector_after, IsOfSnapshot, take_chunks, halted_units, IsListSector, Due, write, IsWay, Leads, Node, node, BlockUnit, WriteOf, Fails, CopyOf, FillOf, IsFitting, read_over, store_sector, State, taken_at, snapshot_at, Home, home, request_step, sector_step, read_below, copy_to, count_of, first_of, home_in_store, read, take_chunk, Step, keep, steps, MOST_DEPTH, Read, Write}
use Rattle.dm_map.proofs.own.ChunkOutcomes.{FullOutcome, Done, Taking, Losing, IsRead, Sector, Nothing, Fault, full_outcome, full_outcome_fits, is_read}
use Rattle.dm_map.proofs.own.CutLemmas.{in_place, list_no_place, list_spare, spare_unread}
use Rattle.dm_map.proofs.own.HomeLemmas.{home_touched, store_touches}
use Rattle.dm_map.proofs.own.OwnWrites.{own_write}
use Rattle.dm_map.proofs.own.Plays.{home_at, stored_other}
use Rattle.dm_map.proofs.own.StepClaims.{via_snapshot}
use Rattle.dm_map.proofs.own.TakenInARow.{all_row, copy_only, snapshot_there}
use Rattle.dm_map.proofs.own.Takes.{new_number}
use Rattle.dm_map.proofs.own.UniqueSteps.{goes_on_inside, only_by_store, store_no_lines, top_root}
use Rattle.dm_map.proofs.own.WayLemmas.{Here, Before, back}
use Rattle.dm_map.proofs.own.Written.{written}
use Rattle.dm_map.proofs.state.Numbers.{store_sector_inside}
use Rattle.dm_map.proofs.state.ResolvedLines.{first_line, snapshot_sound}
use Rattle.dm_map.proofs.walk.ReadSteps.{read_step}
use Rattle.dm_map.proofs.walk.Stores.{below_store, store_line}
use Rattle.std.specs.Prelude.{◌≡◌, ◌+◌, ◌/◌, ◌<◌, ◌∷◌, ◌++◌}

-- The place of a taken chunk is never part of a list

list_off : (snapshot : ResolvedSnapshot) (n t m : ℕ) → 0 < snapshot.chunk → is_metadata snapshot.kind snapshot.chunk (m / snapshot.chunk) ≡ true → m ≡ store_sector snapshot n t → ⊥
list_off snapshot n t m some list same = list_no_place snapshot n (m / snapshot.chunk) some list (ap (λ (x : ℕ). x / snapshot.chunk) same ∙ in_place snapshot n t some)

-- Everything below a store is a store, too

record IsOfStore (stack : Description) (n : Node) : Type 0 where
  levels : ℕ
  store : is_store_to stack levels n.lower ≡ true
  inside : n.sector < lower_len stack n.lower

lies_is : (to other : Lower) (at sector : ℕ) → Lies to at ≡ Lies other sector → (to ≡ other) × (at ≡ sector)
lies_is to other at sector e = (cc, cc)

store_goes : (stack : Description) (state : State) (levels device sector : ℕ) (to : Node) → IsSound stack → is_store_to stack levels (Device device) ≡ true → sector < device_len stack device → read_below stack state device sector ≡ Lies to.lower to.sector → IsOfStore stack to
unfolding is_store_to
store_goes stack state zero device sector to sound store inside goes = absurd cc
store_goes stack state (suc levels) device sector to sound store inside goes =
    let b = below_store stack levels device sector sound store inside in
    let same = lies_is b.to to.lower b.at to.sector (sym (b.is (read_over (taken_at state device))) ∙ goes) in
    record { levels = levels; store = rw (← same.0) b.store; inside = rw (← same.0, ← same.1) b.inside }

store_next : (stack : Description) (state : State) (from to : Node) → IsSound stack → IsOfStore stack from → Leads stack state from to → IsOfStore stack to
store_next stack state from to sound of leads =
    store_goes stack state of.levels leads.device from.sector to sound (rw leads.on at of.store) (rw leads.on at of.inside) leads.below

store_way : (stack : Description) (state : State) (from to : Node) (between : List Node) → IsSound stack → IsOfStore stack from → IsWay stack state from between to → IsOfStore stack to
store_way stack state from to [] sound of way = rw (← way) of
store_way stack state from to (last ∷ before) sound of way = store_next stack state last to sound (store_way stack state from last before sound of way.1) way.0

plain_store : (stack : Description) (levels device : ℕ) (snapshot : ResolvedSnapshot) → is_store_to stack levels (Device device) ≡ true → snapshot_at stack device ≡ Some snapshot → ⊥
unfolding is_store_to
plain_store stack zero device snapshot store over = true≢false (sym store)
plain_store stack (suc levels) device snapshot store over =
    let first = first_line stack device snapshot (found_at stack device 0) refl over in
    let plain = store_line stack levels device 0 first.0 store first.1 in
    true≢false (sym (ap has_state first.2) ∙ plain)

same_store : (stack : Description) (levels : ℕ) (lower other : Lower) → lower ≡ other → is_store_to stack levels lower ≡ true → is_store_to stack levels other ≡ true
same_store stack levels lower other same store = ap (is_store_to stack levels) (sym same) ∙ store

-- Two snapshots with the same store are one snapshot

one_store : (stack : Description) (d e at : ℕ) (one other : ResolvedSnapshot) → IsSound stack → IsTidy stack → snapshot_at stack d ≡ Some one → snapshot_at stack e ≡ Some other → one.store ≡ other.store → at < lower_len stack one.store → one ≡ other
one_store stack d e at one other sound tidy over over_other same below =
    let a = via_snapshot stack d one sound over in let b = via_snapshot stack e other sound over_other in
    let below_other : at < lower_len stack other.store = rw same at below in
    let via : IsVia stack e b.index 0 b.it one.store at Own = rw same (b.store at below_other) in
    let both = one_via stack d e a.index b.index 0 0 a.it b.it one.store at Own Own tidy (a.store at below) via refl in
    let lines = both.lines in
    let first = a.target in
    let second = b.target in
    cc

-- No taken chunk's home is a sector of a list

pub place_off : (stack : Description) (state : State) (device : ℕ) (snapshot : ResolvedSnapshot) (n t disk sector : ℕ) → IsSound stack → IsFitting stack state → IsTidy stack → snapshot_at stack device ≡ Some snapshot → store_sector snapshot n t < lower_len stack snapshot.store
    → IsListSector stack disk sector → home_in_store stack snapshot n t ≡ home_at disk sector → ⊥
place_off stack state device snapshot n t disk sector sound fitting tidy over inside list e =
    let x = store_sector snapshot n t in
    let of = (snapshot_sound stack device snapshot sound over).soundly in
    let of_list = (snapshot_sound stack list.device list.snapshot sound list.over).soundly in
    let there = store_touches stack state MOST_DEPTH list.snapshot.store list.at sound of_list.store list.inside in
    let same : home stack list.snapshot.store list.at ≡ home stack snapshot.store x = list.home ∙ sym e in
    let up = home_touched stack state (node list.snapshot.store list.at) MOST_DEPTH snapshot.store x sound fitting tidy (store_no_lines stack list.device list.snapshot sound tidy list.over) of.store inside (rw same at there) in
    elim (back stack state (node list.snapshot.store list.at) (node snapshot.store x) up) [
      | Here here ↦
          let one = one_store stack list.device device list.at list.snapshot snapshot sound tidy list.over over (ap (λ (m : Node). m.lower) here) list.inside in
          list_off snapshot n t list.at of.chunk_some (rw one at list.list) (ap (λ (m : Node). m.sector) here)
      | Before c before leads ↦
          let kept = only_by_store stack state device leads.device c.sector x snapshot sound fitting tidy (goes_on_inside stack state leads.device c.sector snapshot.store x sound leads.below) over inside
          (read_step stack state leads.device c.sector snapshot.store x sound leads.below) in
          let of_store = store_way stack state (node list.snapshot.store list.at) c before.between sound (record { levels = MOST_DEPTH; store = of_list.store; inside = list.inside }) before.way in
          plain_store stack of_store.levels device snapshot (same_store stack of_store.levels c.lower (Device device) (leads.on ∙ ap Device kept.same) of_store.store) over
    ]

-- Units that write to no list

pub record IsOff {V : Type 0} (zeros : V) (stack : Description) (unit : BlockUnit) : Type 0 where
  pub off : (written : V) (values : Values V) (disk sector : ℕ) → IsListSector stack disk sector → played_unit zeros written unit values disk sector ≡ values disk sector

off_played : {V : Type 0} (zeros : V) (written : ℕ → V) (stack : Description) (at : ℕ) (us : List BlockUnit) (values : Values V) (disk sector : ℕ) → AllByRecursion (IsOff zeros stack) us → IsListSector stack disk sector → played zeros written at us values disk sector ≡ values disk sector
unfolding played
off_played zeros written stack at [] values disk sector each list = refl
off_played zeros written stack at (u ∷ us) values disk sector each list =
    off_played zeros written stack (sector_after u at) us (played_unit zeros (written at) u values) disk sector each.1 list ∙ each.0.off (written at) values disk sector list

still_off : {V : Type 0} (zeros : V) (stack : Description) (unit : BlockUnit) → IsRead unit → IsOff zeros stack unit
still_off zeros stack unit (Sector disk at is) = rw is (record { off = λ written values k x list. refl })
still_off zeros stack unit (Nothing is) = rw is (record { off = λ written values k x list. refl })
still_off zeros stack unit (Fault is) = rw is (record { off = λ written values k x list. refl })

-- taking chunks, one after the other, writes to no list

outcome_off : {V : Type 0} (zeros : V) (stack : Description) (state : State) (device chunk : ℕ) (snapshot : ResolvedSnapshot) (step : Step) → IsSound stack → IsFitting stack state → IsTidy stack → FullOutcome stack state device chunk snapshot step → AllByRecursion (IsOff zeros stack) step.units
outcome_off zeros stack state device chunk snapshot step sound fitting tidy (Done is) = rw is tt
outcome_off zeros stack state device chunk snapshot step sound fitting tidy (Losing is) = rw is tt
outcome_off zeros stack state device chunk snapshot step sound fitting tidy (Taking take is) =
    let some = (snapshot_sound stack device snapshot sound take.over).soundly.chunk_some in
    let n = new_number state device in
    rw is (all_row (IsOff zeros stack) (λ u. copy_to (read stack state snapshot.origin u) (home_in_store stack snapshot n u)) (first_of snapshot chunk) (count_of stack snapshot device chunk) (λ u low high. record {
      off = λ written values disk sector list. copy_only zeros written (read stack state snapshot.origin u) (home_in_store stack snapshot n u) values disk sector
          (λ e. place_off stack state device snapshot n u disk sector sound fitting tidy take.over (store_sector_inside snapshot n u (lower_len stack snapshot.store) some take.place_there) list e);
    }))

takes_off : {V : Type 0} (zeros : V) (stack : Description) (state : State) (dues : List Due) → IsSound stack → IsFitting stack state → IsTidy stack → AllByRecursion (IsOfSnapshot stack) dues → AllByRecursion (IsOff zeros stack) (take_chunks stack dues state).units
unfolding take_chunks
takes_off zeros stack state [] sound fitting tidy each = tt
takes_off zeros stack state (e ∷ es) sound fitting tidy each =
    let there = snapshot_there stack state e sound fitting each.0 in
    let step = take_chunk stack e.snapshot e.device e.chunk state in
    let outcome : FullOutcome stack state e.device e.chunk e.snapshot step = full_outcome stack state e.device e.chunk e.snapshot each.0 there in
    let fits = full_outcome_fits stack state e.device e.chunk e.snapshot step fitting there outcome in
    all_append (IsOff zeros stack) step.units (take_chunks stack es step.state).units (outcome_off zeros stack state e.device e.chunk e.snapshot step sound fitting tidy outcome) (takes_off zeros stack step.state es sound fits tidy each.1)

-- the unit that answers a write writes to no list

last_off : {V : Type 0} (zeros : V) (stack : Description) (unit : BlockUnit) → ((disk at : ℕ) → unit ≡ WriteOf disk at → IsListSector stack disk at → ⊥) → ((disk at to to_at : ℕ) → unit ≡ CopyOf disk at to to_at → ⊥) → ((disk at : ℕ) → unit ≡ FillOf disk at → ⊥) → IsOff zeros stack unit
last_off zeros stack (WriteOf disk at) no_list no_copy no_fill = record {
  off = λ written values k x list. stored_other values disk at k x written (λ e. no_list disk at refl (same_list e list));
}
  where
    same_list : {k x : ℕ} → home_at disk at ≡ home_at k x → IsListSector stack k x → IsListSector stack disk at
    same_list e list = rw (ap (λ (h : Home). h.disk) e, ap (λ (h : Home). h.sector) e) list
last_off zeros stack (CopyOf disk at to to_at) no_list no_copy no_fill = absurd (no_copy disk at to to_at refl)
last_off zeros stack (FillOf disk at) no_list no_copy no_fill = absurd (no_fill disk at refl)
last_off zeros stack unit no_list no_copy no_fill = record { off = λ written values k x list. refl }

-- The units of one sector write to no list

no_copy : (disk at to to_at : ℕ) (unit : BlockUnit) → answers unit ≡ true → unit ≡ CopyOf disk at to to_at → ⊥
no_copy disk at to to_at unit answered e = true≢false (sym answered ∙ ap answers e)

no_fill : (disk at : ℕ) (unit : BlockUnit) → answers unit ≡ true → unit ≡ FillOf disk at → ⊥
no_fill disk at unit answered e = true≢false (sym answered ∙ ap answers e)

write_off : {V : Type 0} (zeros : V) (stack : Description) (state : State) (top sector : ℕ) → IsSound stack → IsTidy stack → IsTop stack top → IsFitting stack state → AllByRecursion (IsOff zeros stack) (write stack state (Device top) sector).units
write_off {V = V} zeros stack state top sector sound tidy is_top fitting =
    let step = write stack state (Device top) sector in
    let w = written stack (Device top) sector state sound tidy fitting in
    let own = own_write zeros (λ s. zeros) stack state top sector sound tidy fitting is_top in
    let us = (take_chunks stack w.dues state).units in
    let units_are : step.units ≡ us ++ w.last ∷ [] = ap (λ (s : Step). s.units) w.is in
    rw units_are (all_append (IsOff zeros stack) us (w.last ∷ []) (takes_off zeros stack state w.dues sound fitting tidy w.each) (
      last_off zeros stack w.last (λ disk at is list. spare_unread stack step.state (Device top) sector disk at sound own.fits tidy (top_root stack top sound is_top) (list_spare stack step.state disk at sound list) (w.reads disk at is))
          (λ disk at to to_at. no_copy disk at to to_at w.last w.answered) (λ disk at. no_fill disk at w.last w.answered),
      tt,
    ))

-- The units of a request write to no list

steps_off : {V : Type 0} (zeros : V) (stack : Description) (op : Op) (top len : ℕ) (state : State) (sector : ℕ) → IsSound stack → IsTidy stack → IsTop stack top → IsFitting stack state → AllByRecursion (IsOff zeros stack) (steps (sector_step stack op MOST_DEPTH (Device top)) state sector len).units
steps_off zeros stack op top zero state sector sound tidy is_top fitting = tt
steps_off zeros stack Read top (suc len) state sector sound tidy is_top fitting =
    (still_off zeros stack (read stack state (Device top) sector) (is_read stack state MOST_DEPTH (Device top) sector), steps_off zeros stack Read top len state (suc sector) sound tidy is_top fitting)
steps_off zeros stack Write top (suc len) state sector sound tidy is_top fitting =
    let step = write stack state (Device top) sector in
    let own = own_write zeros (λ s. zeros) stack state top sector sound tidy fitting is_top in
    all_append (IsOff zeros stack) step.units (steps (sector_step stack Write MOST_DEPTH (Device top)) step.state (suc sector) len).units (write_off zeros stack state top sector sound tidy is_top fitting)
    (steps_off zeros stack Write top len step.state (suc sector) sound tidy is_top own.fits)

fails_off : {V : Type 0} (zeros : V) (stack : Description) (len : ℕ) → AllByRecursion (IsOff zeros stack) (replicate len Fails)
fails_off zeros stack zero = tt
fails_off zeros stack (suc len) = (record { off = λ written values k x list. refl }, fails_off zeros stack len)

units_off : {V : Type 0} (zeros : V) (stack : Description) (op : Op) (state : State) (top start len : ℕ) → IsSound stack → IsTidy stack → IsTop stack top → IsFitting stack state → AllByRecursion (IsOff zeros stack) (request_step stack op top start len state).units
units_off {V = V} zeros stack op state top start len sound tidy is_top fitting = by_end (nat_lt (device_len stack top) (start + len))
  where
    by_end : (past : Bool) → AllByRecursion (IsOff zeros stack) (cond past (keep (replicate len Fails) state) (steps (sector_step stack op MOST_DEPTH (Device top)) state start len)).units
    by_end true = fails_off zeros stack len
    by_end false = steps_off zeros stack op top len state start sound tidy is_top fitting

pub request_off : {V : Type 0} (zeros : V) (written : ℕ → V) (stack : Description) (op : Op) (state : State) (top start len : ℕ) (values : Values V) (disk sector : ℕ) → IsSound stack → IsTidy stack → IsTop stack top → IsFitting stack state → IsListSector stack disk sector
    → played zeros written start (request_step stack op top start len state).units values disk sector ≡ values disk sector
request_off zeros written stack op state top start len values disk sector sound tidy is_top fitting list =
    off_played zeros written stack start (request_step stack op top start len state).units values disk sector (units_off zeros stack op state top start len sound tidy is_top fitting) list

pub halted_off : {V : Type 0} (zeros : V) (written : ℕ → V) (stack : Description) (op : Op) (state : State) (top start len count : ℕ) (values : Values V) (disk sector : ℕ) → IsSound stack → IsTidy stack → IsTop stack top → IsFitting stack state → IsListSector stack disk sector
    → played zeros written start (halted_units stack op top start len count state) values disk sector ≡ values disk sector
halted_off zeros written stack op state top start len count values disk sector sound tidy is_top fitting list =
    let us = (request_step stack op top start len state).units in
    let parts : us ≡ take count us ++ drop count us = sym (take-append-drop count us) in
    off_played zeros written stack start (take count us) values disk sector (all_front (IsOff zeros stack) (take count us) (drop count us) (rw (← parts) (units_off zeros stack op state top start len sound tidy is_top fitting))) list
