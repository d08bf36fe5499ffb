-- Taking a chunk changes nothing that a root reads.
use Rattle.dm_map.proofs.Prelude.{inl, inr, ℕ, true, List, [], Option, Some, None, length, refl, sym, ap, ◌∙◌, arith, cases_eq, ResolvedLine, ResolvedSnapshot, Lower, Device, Disk, Below, Lies, found_at, IsTidy, Description, lower_len, lower_depth, place, IsSound, Values, content, played, value_read, IsFitting, by_below, read_below, store_sector, number_in, read_numbered, read_over, copies, count_of, first_of, home_in_store, read, put, with_chunk, State, Taken, taken_at, snapshot_at, BlockUnit, Zeros, Fails, Node, node, Touches, MOST_DEPTH}
use Rattle.dm_map.proofs.own.UniqueSteps.{IsRoot, origin_root}
use Rattle.dm_map.proofs.state.ResolvedLines.{line_sound, snapshot_sound}
use Rattle.dm_map.proofs.own.HomeLemmas.{fresh_apart, homes_apart}
use Rattle.dm_map.proofs.state.Numbers.{chunk_rest, store_sector_inside, store_sector_parts, number_kept, number_new, number_other, of_chunk}
use Rattle.dm_map.proofs.walk.OneLevel.{by_depth, next_depth, read_disk, read_down}
use Rattle.dm_map.proofs.own.Plays.{AreFreshTargets, IsReadable, copies_keep, copies_move, home_at, some_value}
use Rattle.dm_map.proofs.walk.ChunkTaking.{taken_other, taken_same}
use Rattle.dm_map.proofs.walk.Stores.{store_read}
use Rattle.dm_map.proofs.state.TableLemmas.{number_within}
use Rattle.dm_map.proofs.own.WayLemmas.{read_touches, touch_more, touch_self}
use Rattle.std.specs.Prelude.{◌≡◌, ◌⊎◌, ◌+◌, ◌-◌, ◌*◌, ◌/◌, ◌%◌, ◌<◌, ◌≤◌, ◌∷◌}

-- The value of a sector, by the value of the sector below it

value_below : {V : Type 0} (zeros : V) (values : Values V) (b : Below) (f : Lower → ℕ → BlockUnit) → value_read zeros values (by_below b Zeros Fails f) ≡ by_below b (Some zeros) None (λ to at. value_read zeros values (f to at))
value_below zeros values (Lies to at) f = refl
value_below zeros values b f = refl

pub content_down : {V : Type 0} (zeros : V) (stack : Description) (state : State) (values : Values V) (device sector : ℕ) → IsSound stack
    → content zeros stack state values (Device device) sector ≡ by_below (read_below stack state device sector) (Some zeros) None (λ to at. content zeros stack state values to at)
content_down zeros stack state values device sector sound =
    ap (value_read zeros values) (read_down stack state device sector sound) ∙ value_below zeros values (read_below stack state device sector) (λ to at. read stack state to at)

-- What it means to take a chunk

pub record IsTake (stack : Description) (state : State) (device chunk : ℕ) (snapshot : ResolvedSnapshot) : Type 0 where
  pub over : snapshot_at stack device ≡ Some snapshot
  pub there : device < length state
  pub valid : (taken_at state device).valid ≡ true
  pub fresh : number_in chunk (taken_at state device).chunks ≡ None
  pub place_there : (place snapshot.kind snapshot.chunk (length (taken_at state device).chunks) + 1) * snapshot.chunk ≤ lower_len stack snapshot.store
  pub readable : (u : ℕ) → first_of snapshot chunk ≤ u → u < first_of snapshot chunk + count_of stack snapshot device chunk → IsReadable (read stack state snapshot.origin u)

abbrev pub new_number : State → (device : ℕ) → ℕ
new_number state device = length (taken_at state device).chunks

abbrev pub taken_state : State → (device chunk : ℕ) → State
taken_state state device chunk = put state device (with_chunk (taken_at state device) chunk)

abbrev pub chunk_copies : Description → State → (device chunk : ℕ) → ResolvedSnapshot → List BlockUnit
chunk_copies stack state device chunk snapshot = copies stack state snapshot (new_number state device) (first_of snapshot chunk) (count_of stack snapshot device chunk)

-- no sector of a taken chunk is kept in the place of the new number
new_is_fresh : (state : State) (device : ℕ) (snapshot : ResolvedSnapshot) (v t i : ℕ) → 0 < snapshot.chunk → number_in (t / snapshot.chunk) (taken_at state device).chunks ≡ Some i → store_sector snapshot (new_number state device) v ≡ store_sector snapshot i t → ⊥
new_is_fresh state device snapshot v t i some is e =
    let parts = store_sector_parts snapshot (new_number state device) i v t some e in
    let below = number_within (t / snapshot.chunk) (taken_at state device).chunks i is in
    omega (arith, below, parts.0)

same_in_chunk : (m c u v n : ℕ) → n ≤ m → c * m ≤ u → u < c * m + n → c * m ≤ v → v < c * m + n → u % m ≡ v % m → u ≡ v
same_in_chunk m c u v n most ul uh vl vh e =
    let a = chunk_rest c m u ul (omega (arith, uh, most)) in let b = chunk_rest c m v vl (omega (arith, vh, most)) in omega (arith, a, b, e, ul, vl)

take_fresh : (stack : Description) (state : State) (device chunk : ℕ) (snapshot : ResolvedSnapshot) → IsSound stack → IsFitting stack state → IsTidy stack → IsTake stack state device chunk snapshot
    → AreFreshTargets (read stack state snapshot.origin) (home_in_store stack snapshot (new_number state device)) (first_of snapshot chunk) (count_of stack snapshot device chunk)
take_fresh stack state device chunk snapshot sound fitting tidy take =
    let some = (snapshot_sound stack device snapshot sound take.over).soundly.chunk_some in
    let n = new_number state device in
    let inside : (u : ℕ) → store_sector snapshot n u < lower_len stack snapshot.store = λ u. store_sector_inside snapshot n u (lower_len stack snapshot.store) some take.place_there in
    record {
      targets = λ u v ul uh vl vh e.
          let same = homes_apart stack state device snapshot (store_sector snapshot n u) (store_sector snapshot n v) sound fitting tidy take.over (inside u) (inside v) e in
          same_in_chunk snapshot.chunk chunk u v (count_of stack snapshot device chunk) (omega arith) ul uh vl vh (store_sector_parts snapshot n n u v some same).1;
      sources = λ u v k x ul uh vl vh reads e.
          fresh_apart stack state (node snapshot.origin u) device snapshot (store_sector snapshot n v) sound fitting tidy take.over (origin_root stack device snapshot sound tidy take.over)
          (inside v) (λ t i is same. new_is_fresh state device snapshot v t i some is same) (rw e (read_touches stack state snapshot.origin u k x sound reads));
    }

-- Where a read continues after the chunk is taken

record IsMoved (stack : Description) (state : State) (device chunk : ℕ) (snapshot : ResolvedSnapshot) (e s : ℕ) : Type 0 where
  old : read_below stack state e s ≡ Lies snapshot.origin s
  new : read_below stack (taken_state state device chunk) e s ≡ Lies snapshot.store (store_sector snapshot (new_number state device) s)
  from : first_of snapshot chunk ≤ s
  before : s < first_of snapshot chunk + count_of stack snapshot device chunk

After : Description → State → (device chunk : ℕ) → ResolvedSnapshot → (e s : ℕ) → Type 0
After stack state device chunk snapshot e s = (read_below stack (taken_state state device chunk) e s ≡ read_below stack state e s) ⊎ IsMoved stack state device chunk snapshot e s

read_by : (taken : Taken) (snapshot : ResolvedSnapshot) (sector : ℕ) (number : Option ℕ) → taken.valid ≡ true → number_in (sector / snapshot.chunk) taken.chunks ≡ number → read_over taken snapshot sector ≡ read_numbered snapshot number sector
read_by taken snapshot sector number valid is = rw (valid, is) refl

-- where a read of a snapshot's sector continues, by the chunks that the snapshot took
pub snapshot_next : (stack : Description) (state : State) (device sector : ℕ) (snapshot : ResolvedSnapshot) (line : ResolvedLine) (taken : Taken) → IsSound stack → snapshot_at stack device ≡ Some snapshot → found_at stack device sector ≡ Some line → taken_at state device ≡ taken
    → read_below stack state device sector ≡ read_over taken snapshot sector
snapshot_next stack state device sector snapshot line taken sound over is taken_is =
    let here = (snapshot_sound stack device snapshot sound over).each sector line is in
    let first = here.0 in
    let same : sector - line.start ≡ sector = omega (arith, first) in
    rw (is, here.1, same, taken_is) refl

after_chunk : (stack : Description) (state : State) (device chunk sector : ℕ) (snapshot : ResolvedSnapshot) (line : ResolvedLine) → IsSound stack → IsTake stack state device chunk snapshot → found_at stack device sector ≡ Some line
    → (number : Option ℕ) → number_in (sector / snapshot.chunk) (taken_at state device).chunks ≡ number → After stack state device chunk snapshot device sector
unfolding After
after_chunk stack state device chunk sector snapshot line sound take is (Some i) n =
    let taken = with_chunk (taken_at state device) chunk in
    let kept = number_kept (sector / snapshot.chunk) (taken_at state device).chunks (chunk ∷ []) i n in
    inl (snapshot_next stack (taken_state state device chunk) device sector snapshot line taken sound take.over is (taken_same state device taken take.there)
    ∙ read_by taken snapshot sector (Some i) take.valid kept
    ∙ sym (read_by (taken_at state device) snapshot sector (Some i) take.valid n)
    ∙ sym (snapshot_next stack state device sector snapshot line (taken_at state device) sound take.over is refl))
after_chunk stack state device chunk sector snapshot line sound take is None n =
    let taken = with_chunk (taken_at state device) chunk in
    let new = snapshot_next stack (taken_state state device chunk) device sector snapshot line taken sound take.over is (taken_same state device taken take.there) in
    let old = snapshot_next stack state device sector snapshot line (taken_at state device) sound take.over is refl ∙ read_by (taken_at state device) snapshot sector None take.valid n in
    elim (cases_eq chunk (sector / snapshot.chunk)) [
      | inl same ↦
          let over = snapshot_sound stack device snapshot sound take.over in
          let inside = (line_sound stack device sector line sound is).inside in
          let part = of_chunk chunk snapshot.chunk sector over.soundly.chunk_some (sym same) in
          let low = part.0 in let high = part.1 in
          let number : number_in (sector / snapshot.chunk) taken.chunks ≡ Some (new_number state device) =
          rw (← same) (number_new chunk (taken_at state device).chunks take.fresh) in
          inr (record {
            old = old;
            new = new ∙ read_by taken snapshot sector (Some (new_number state device)) take.valid number;
            from = low;
            before = omega (arith, low, high, inside);
          })
      | inr differ ↦
          inl (new ∙ read_by taken snapshot sector None take.valid (number_other (sector / snapshot.chunk) chunk (taken_at state device).chunks n differ) ∙ sym old)
    ]

after_line : (stack : Description) (state : State) (device chunk sector : ℕ) (snapshot : ResolvedSnapshot) → IsSound stack → IsTake stack state device chunk snapshot → (line : Option ResolvedLine) → found_at stack device sector ≡ line → After stack state device chunk snapshot device sector
unfolding After
after_line stack state device chunk sector snapshot sound take None is = inl (rw is refl)
after_line stack state device chunk sector snapshot sound take (Some line) is =
    after_chunk stack state device chunk sector snapshot line sound take is (number_in (sector / snapshot.chunk) (taken_at state device).chunks) refl

-- a device whose table is unchanged
pub next_same : (stack : Description) (state other : State) (device sector : ℕ) → taken_at other device ≡ taken_at state device → read_below stack other device sector ≡ read_below stack state device sector
next_same stack state other device sector same = cc

after : (stack : Description) (state : State) (device chunk : ℕ) (snapshot : ResolvedSnapshot) (e s : ℕ) → IsSound stack → IsTake stack state device chunk snapshot → After stack state device chunk snapshot e s
unfolding After
after stack state device chunk snapshot e s sound take = elim (cases_eq e device) [
  | inl same ↦ rw same (after_line stack state device chunk s snapshot sound take (found_at stack device s) refl)
  | inr differ ↦ inl (next_same stack state (taken_state state device chunk) e s (taken_other state device e (with_chunk (taken_at state device) chunk) differ))
]

-- What a root reads

-- every sector on a way from the root reads the same as before
Appends : {V : Type 0} → (zeros : V) → Description → (state other : State) → (values later : Values V) → Node → Lower → Type 0
Appends zeros stack state other values later a lower = (s : ℕ) → Touches stack state a (node lower s) → content zeros stack other later lower s ≡ content zeros stack state values lower s

same_step : {V : Type 0} (zeros : V) (stack : Description) (state other : State) (values later : Values V) (b : Below) → ((to : Lower) (at : ℕ) → b ≡ Lies to at → content zeros stack other later to at ≡ content zeros stack state values to at)
    → by_below b (Some zeros) None (λ to at. content zeros stack other later to at) ≡ by_below b (Some zeros) None (λ to at. content zeros stack state values to at)
same_step zeros stack state other values later (Lies to at) each = each to at refl
same_step zeros stack state other values later b each = refl

keeps_disk : {V : Type 0} (zeros : V) (written : ℕ → V) (at : ℕ) (stack : Description) (state : State) (values : Values V) (device chunk : ℕ) (snapshot : ResolvedSnapshot) (a : Node) (disk s : ℕ) → IsSound stack → IsFitting stack state → IsTidy stack → IsTake stack state device chunk snapshot → IsRoot stack a.lower
    → Touches stack state a (node (Disk disk) s) → content zeros stack (taken_state state device chunk) (played zeros written at (chunk_copies stack state device chunk snapshot) values) (Disk disk) s ≡ content zeros stack state values (Disk disk) s
keeps_disk zeros written at stack state values device chunk snapshot a disk s sound fitting tidy take root touches =
    let some = (snapshot_sound stack device snapshot sound take.over).soundly.chunk_some in
    let later = played zeros written at (chunk_copies stack state device chunk snapshot) values in
    let n = new_number state device in
    let apart : (u : ℕ) → first_of snapshot chunk ≤ u → u < first_of snapshot chunk + count_of stack snapshot device chunk → home_in_store stack snapshot n u ≡ home_at disk s → ⊥ = λ u low high e.
    fresh_apart stack state a device snapshot (store_sector snapshot n u) sound fitting tidy take.over root (store_sector_inside snapshot n u (lower_len stack snapshot.store) some take.place_there)
    (λ t i is same. new_is_fresh state device snapshot u t i some is same) (rw e touches) in
    ap (value_read zeros later) (read_disk stack (taken_state state device chunk) disk s)
    ∙ ap Some (copies_keep zeros written at (read stack state snapshot.origin) (home_in_store stack snapshot n) (first_of snapshot chunk) (count_of stack snapshot device chunk) values disk s apart)
    ∙ sym (ap (value_read zeros values) (read_disk stack state disk s))

keeps_step : {V : Type 0} (zeros : V) (written : ℕ → V) (at : ℕ) (stack : Description) (state : State) (values : Values V) (device chunk : ℕ) (snapshot : ResolvedSnapshot) (a : Node) → IsSound stack → IsFitting stack state → IsTidy stack → IsTake stack state device chunk snapshot → IsRoot stack a.lower
    → (lower : Lower) → ((other : Lower) → lower_depth stack other < lower_depth stack lower → Appends zeros stack state (taken_state state device chunk) values (played zeros written at (chunk_copies stack state device chunk snapshot) values) a other)
    → Appends zeros stack state (taken_state state device chunk) values (played zeros written at (chunk_copies stack state device chunk snapshot) values) a lower
unfolding Appends After
keeps_step zeros written at stack state values device chunk snapshot a sound fitting tidy take root (Disk disk) each s touches =
    keeps_disk zeros written at stack state values device chunk snapshot a disk s sound fitting tidy take root touches
keeps_step zeros written at stack state values device chunk snapshot a sound fitting tidy take root (Device e) each s touches =
    let later = played zeros written at (chunk_copies stack state device chunk snapshot) values in
    let other = taken_state state device chunk in
    let n = new_number state device in
    let over = (snapshot_sound stack device snapshot sound take.over).soundly in
    elim (after stack state device chunk snapshot e s sound take) [
      | inl same ↦
          cc (content_down zeros stack other later e s sound, same_step zeros stack state other values later (read_below stack state e s) (λ to lower_at is. each to (next_depth stack state e s to lower_at sound is) lower_at (touch_more stack state a (node (Device e) s) (node to lower_at) touches (record { device = e; on = refl; below = is }))), content_down zeros stack state values e s sound)
      | inr moved ↦
          cc (content_down zeros stack other later e s sound, store_read stack other MOST_DEPTH snapshot.store (store_sector snapshot n s) sound over.store (store_sector_inside snapshot n s (lower_len stack snapshot.store) over.chunk_some take.place_there), copies_move zeros written at (read stack state snapshot.origin) (home_in_store stack snapshot n) (first_of snapshot chunk) (count_of stack snapshot device chunk) values s (take_fresh stack state device chunk snapshot sound fitting tidy take) moved.from moved.before, some_value zeros values (read stack state snapshot.origin s) (take.readable s moved.from moved.before), content_down zeros stack state values e s sound)
    ]

pub take_keeps : {V : Type 0} (zeros : V) (written : ℕ → V) (at : ℕ) (stack : Description) (state : State) (values : Values V) (device chunk : ℕ) (snapshot : ResolvedSnapshot) (lower : Lower) (s : ℕ) → IsSound stack → IsFitting stack state → IsTidy stack → IsTake stack state device chunk snapshot → IsRoot stack lower
    → content zeros stack (taken_state state device chunk) (played zeros written at (chunk_copies stack state device chunk snapshot) values) lower s ≡ content zeros stack state values lower s
unfolding Appends
take_keeps zeros written at stack state values device chunk snapshot lower s sound fitting tidy take root =
    by_depth stack (Appends zeros stack state (taken_state state device chunk) values (played zeros written at (chunk_copies stack state device chunk snapshot) values) (node lower s))
    (keeps_step zeros written at stack state values device chunk snapshot (node lower s) sound fitting tidy take root) lower s (touch_self stack state (node lower s))
