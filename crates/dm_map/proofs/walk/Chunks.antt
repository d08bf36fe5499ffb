-- The sectors of one chunk of a snapshot: where they are read, and that they are written there once the chunk is settled.
use Rattle.dm_map.proofs.Prelude.{ℕ, zero, suc, true, false, inl, inr, List, [], Option, Some, None, length, append_assoc, refl, sym, ap, subst, ◌∙◌, arith, min, cases_lt, div-add-mod', mod-mul-add, ResolvedSnapshot, ResolvedLine, Snapshot, Lies, found_at, IsLine, IsSnapshotSound, Description, lower_len, place, ReadAt, HomeStretch, home, number_in, store_sector, read_numbered, read_over, first_of, home_in_store, is_refused, is_settled, take_chunk, row, store_writes, unit_in_store, write_snapshot, write_to, State, Taken, taken_at, keep, and_then, steps, has_room, BlockUnit, WriteOf, Fails, units_in, sector_step, OfBeginning, line_step, range_step, target_step, AreInChunk, AreInSnapshot, AreReadAt, IsTakenAs, device_there, in_chunk, Read, Write}
use Rattle.dm_map.proofs.state.TableLemmas.{room_place}
use Rattle.dm_map.proofs.walk.ChunkTaking.{chunk_part, refused_part, settled_part, write_is}
use Rattle.dm_map.proofs.walk.Rows.{left_more, steps_read, steps_same, steps_still}
use Rattle.dm_map.proofs.walk.UnitRows.{row_same, write_row}
use Rattle.std.specs.Prelude.{◌≡◌, ◌+◌, ◌-◌, ◌*◌, ◌/◌, ◌%◌, ◌<◌, ◌≤◌, ◌∷◌, ◌++◌}

-- The sectors of a snapshot's line are in the snapshot, and in one chunk if they don't pass its end

pub in_snapshot : (stack : Description) (device distance len : ℕ) (line : ResolvedLine) (snapshot : ResolvedSnapshot) → IsLine stack device line → line.target ≡ Snapshot snapshot → 1 ≤ len → distance + len ≤ line.len → AreInSnapshot stack device snapshot distance len
in_snapshot stack device distance len line snapshot of kind some inside =
    let sound : IsSnapshotSound stack device line.start line.len snapshot = rw kind at of.target in
    let first : found_at stack device 0 ≡ Some line = of.all 0 (omega (arith, sound.from)) (omega (arith, inside, some)) in
    record {
      is = rw (first, kind) refl;
      sound = record { chunk_some = sound.chunk_some; chunk_small = sound.chunk_small; from = refl; whole = refl; origin = sound.origin ∙ sound.whole; store = sound.store };
      inside = omega (arith, inside, sound.whole);
    }

pub in_one_chunk : (stack before : Description) (device sector len at left part : ℕ) (snapshot : ResolvedSnapshot) → AreInSnapshot stack device snapshot sector len → before ≡ stack → at + left ≡ sector + len → part ≡ min left (snapshot.chunk - at % snapshot.chunk) → AreInChunk before device snapshot at part
in_one_chunk stack before device sector len at left part snapshot lies same position part_is =
    let some = lies.sound.chunk_some in
    rw same (record {
      whole = record { is = lies.is; sound = lies.sound; inside = omega (arith, lies.inside, position, part_is) };
      part = omega (arith, part_is, some);
    })

-- a snapshot that has sectors is one of the stack's devices
pub snapshot_device : {stack : Description} {device sector len : ℕ} {snapshot : ResolvedSnapshot} → AreInSnapshot stack device snapshot sector len → 1 ≤ len → device < length stack.devices
snapshot_device {stack} {device} {sector} whole some = device_there stack device sector (omega (arith, whole.inside, some))

-- if a sector is in the snapshot, so is the first sector of its chunk
pub first_there : (stack : Description) (device sector len : ℕ) (snapshot : ResolvedSnapshot) → AreInSnapshot stack device snapshot sector len → 1 ≤ len → AreInSnapshot stack device snapshot (first_of snapshot (sector / snapshot.chunk)) 1
first_there stack device sector len snapshot chunk some =
    let whole : sector / snapshot.chunk * snapshot.chunk + sector % snapshot.chunk ≡ sector = div-add-mod' sector snapshot.chunk in
    record { is = chunk.is; sound = chunk.sound; inside = omega (arith, whole, chunk.inside, some) }

-- Sectors of one chunk

-- consecutive sectors of a taken chunk are consecutive in the store
pub store_sector_on : (snapshot : ResolvedSnapshot) (number sector i : ℕ) → 0 < snapshot.chunk → sector % snapshot.chunk + i < snapshot.chunk → store_sector snapshot number (sector + i) ≡ store_sector snapshot number sector + i
store_sector_on snapshot number sector i some within =
    let at = (in_chunk snapshot.chunk sector i some (omega (arith, within))).position in omega (arith, at)

pub same_chunk : (snapshot : ResolvedSnapshot) (sector i : ℕ) → 0 < snapshot.chunk → sector % snapshot.chunk + i < snapshot.chunk → (sector + i) / snapshot.chunk ≡ sector / snapshot.chunk
same_chunk snapshot sector i some within = (in_chunk snapshot.chunk sector i some (omega (arith, within))).number

-- the start of a chunk is at a multiple of the chunk size
pub chunk_begins : (chunk size : ℕ) → 0 < size → (chunk * size) % size ≡ 0
chunk_begins chunk size some = rw (let e : chunk * size ≡ chunk * size + 0 = omega arith in e) (mod-mul-add chunk size 0 some)

-- the sectors of a taken chunk lie in the store if its place does
pub place_inside : (snapshot : ResolvedSnapshot) (number sector len most : ℕ) → (place snapshot.kind snapshot.chunk number + 1) * snapshot.chunk ≤ most → sector % snapshot.chunk + len ≤ snapshot.chunk → store_sector snapshot number sector + len ≤ most
place_inside snapshot number sector len most fits part =
    let split : (place snapshot.kind snapshot.chunk number + 1) * snapshot.chunk ≡ place snapshot.kind snapshot.chunk number * snapshot.chunk + snapshot.chunk = grind arith in
    omega (arith, fits, split, part)

-- Reads of a chunk's sectors

over_at : (taken : Taken) (snapshot : ResolvedSnapshot) (sector chunk : ℕ) (number : Option ℕ) → taken.valid ≡ true → sector / snapshot.chunk ≡ chunk → number_in chunk taken.chunks ≡ number → read_over taken snapshot sector ≡ read_numbered snapshot number sector
over_at taken snapshot sector chunk number valid same is = rw (valid, same, is) refl

pub read_store : (stack : Description) (state : State) (device sector len number : ℕ) (snapshot : ResolvedSnapshot) → AreInChunk stack device snapshot sector len → (taken_at state device).valid ≡ true → number_in (sector / snapshot.chunk) (taken_at state device).chunks ≡ Some number → has_room stack device number ≡ true
    → AreReadAt stack state device snapshot sector len (record { to = snapshot.store; sector = store_sector snapshot number sector })
read_store stack state device sector len number snapshot chunk valid is room =
    let some = chunk.whole.sound.chunk_some in
    record {
      lies = λ i within.
          over_at (taken_at state device) snapshot (sector + i) (sector / snapshot.chunk) (Some number) valid (same_chunk snapshot sector i some (omega (arith, chunk.part, within))) is
          ∙ ap (Lies snapshot.store) (store_sector_on snapshot number sector i some (omega (arith, chunk.part, within)));
      inside = place_inside snapshot number sector len (lower_len stack snapshot.store) (room_place stack device number snapshot chunk.whole.is room) chunk.part;
    }

pub read_origin : (stack : Description) (state : State) (device sector len : ℕ) (snapshot : ResolvedSnapshot) → AreInChunk stack device snapshot sector len → (taken_at state device).valid ≡ true → number_in (sector / snapshot.chunk) (taken_at state device).chunks ≡ None
    → AreReadAt stack state device snapshot sector len (record { to = snapshot.origin; sector = sector })
read_origin stack state device sector len snapshot chunk valid is =
    record {
      lies = λ i within. over_at (taken_at state device) snapshot (sector + i) (sector / snapshot.chunk) None valid (same_chunk snapshot sector i chunk.whole.sound.chunk_some (omega (arith, chunk.part, within))) is;
      inside = omega (arith, chunk.whole.inside, chunk.whole.sound.origin);
    }

-- sectors of the next chunk may be read together with those of this one, if they come right after them
pub read_on : (stack : Description) (state : State) (device sector part count : ℕ) (snapshot : ResolvedSnapshot) (source next : ReadAt) → AreReadAt stack state device snapshot sector part source → AreReadAt stack state device snapshot (sector + part) count next
    → next ≡ record { to = source.to; sector = source.sector + part } → AreReadAt stack state device snapshot sector (part + count) source
read_on stack state device sector part count snapshot source next first later on =
    let more : AreReadAt stack state device snapshot (sector + part) count (record { to = source.to; sector = source.sector + part }) = subst (λ (r : ReadAt). AreReadAt stack state device snapshot (sector + part) count r) on later in
    record {
      lies = λ i within. elim (cases_lt i part) [
        | inl before ↦ first.lies i before
        | inr after ↦
            let e : sector + part + (i - part) ≡ sector + i = omega (arith, after) in let k : source.sector + part + (i - part) ≡ source.sector + i = omega (arith, after) in
            rw (e, k) at (more.lies (i - part) (omega (arith, after, within)))
      ];
      inside = omega (arith, more.inside);
    }

pub chunk_read : (stack : Description) (levels device sector n len : ℕ) (snapshot : ResolvedSnapshot) (state : State) (source : ReadAt) → AreReadAt stack state device snapshot sector len source → n ≤ len → line_step stack Read levels device (Snapshot snapshot) state sector n ≡ range_step stack Read levels source.to state source.sector n
chunk_read stack levels device sector n len snapshot state source at few =
    steps_read (target_step stack Read levels device (Snapshot snapshot)) (sector_step stack Read levels source.to) state sector source.sector n
    (λ i within. cc (at.lies i (omega (arith, within, few)))) (λ i within. refl)

pub lost_read : (stack : Description) (levels device sector n : ℕ) (snapshot : ResolvedSnapshot) (state : State) → (taken_at state device).valid ≡ false → line_step stack Read levels device (Snapshot snapshot) state sector n ≡ keep (units_in Fails n) state
lost_read stack levels device sector n snapshot state off =
    steps_still (target_step stack Read levels device (Snapshot snapshot)) state sector n Fails refl (λ i within. rw off refl)

-- Writes of a chunk's sectors

pub write_line_step : (stack : Description) (levels device sector n : ℕ) (snapshot : ResolvedSnapshot) (state : State) → steps (write_snapshot stack snapshot device) state sector n ≡ line_step stack Write levels device (Snapshot snapshot) state sector n
write_line_step stack levels device sector n snapshot state = steps_same (write_snapshot stack snapshot device) (target_step stack Write levels device (Snapshot snapshot)) state sector sector n (λ after i within. refl)

-- writes to a chunk with a number go to its place in the store

unit_numbered : (stack : Description) (snapshot : ResolvedSnapshot) (device sector chunk number : ℕ) (state : State) → (taken_at state device).valid ≡ true → sector / snapshot.chunk ≡ chunk → number_in chunk (taken_at state device).chunks ≡ Some number
    → unit_in_store stack snapshot device state sector ≡ write_to (home_in_store stack snapshot number sector)
unit_numbered stack snapshot device sector chunk number state valid same is = rw (valid, same, is) refl

pub row_numbered : (stack : Description) (snapshot : ResolvedSnapshot) (device sector len number : ℕ) (state : State) → AreInChunk stack device snapshot sector len → (taken_at state device).valid ≡ true → number_in (sector / snapshot.chunk) (taken_at state device).chunks ≡ Some number
    → row (unit_in_store stack snapshot device state) sector len ≡ store_writes stack snapshot.store (store_sector snapshot number sector) len
row_numbered stack snapshot device sector len number state chunk valid is =
    let some = chunk.whole.sound.chunk_some in
    row_same (unit_in_store stack snapshot device state) (λ s. write_to (home stack snapshot.store s)) sector (store_sector snapshot number sector) len
    (λ i within. cc (unit_numbered stack snapshot device (sector + i) (sector / snapshot.chunk) number state valid (same_chunk snapshot sector i some (omega (arith, chunk.part, within))) is, store_sector_on snapshot number sector i some (omega (arith, chunk.part, within))))

-- in a chunk just taken, the first sectors lie in a row on a disk
pub row_taken : (stack : Description) (snapshot : ResolvedSnapshot) (device sector len number : ℕ) (state : State) (first : HomeStretch) → AreInChunk stack device snapshot sector len → IsTakenAs stack state device snapshot (sector / snapshot.chunk) number first → sector % snapshot.chunk + len ≤ first.len
    → row (unit_in_store stack snapshot device state) sector len ≡ units_in (WriteOf first.disk (first.start + sector % snapshot.chunk)) len
row_taken stack snapshot device sector len number state first chunk taken within =
    let distance = sector % snapshot.chunk in let at = sector / snapshot.chunk * snapshot.chunk in
    let begins : at % snapshot.chunk ≡ 0 = chunk_begins (sector / snapshot.chunk) snapshot.chunk chunk.whole.sound.chunk_some in
    row_numbered stack snapshot device sector len number state chunk taken.valid taken.is
    ∙ write_row (home stack snapshot.store) (store_sector snapshot number sector) first.disk (first.start + distance) len
    (λ i less. cc ((let e : store_sector snapshot number sector + i ≡ store_sector snapshot number at + (distance + i) = omega (arith, begins) in e), taken.homes.homes (distance + i) (omega (arith, within, less)), (let e : first.start + (distance + i) ≡ first.start + distance + i = omega arith in e)))

pub row_lost : (stack : Description) (snapshot : ResolvedSnapshot) (device sector len : ℕ) (state : State) → (taken_at state device).valid ≡ false → row (unit_in_store stack snapshot device state) sector len ≡ units_in Fails len
row_lost stack snapshot device sector zero state off = refl
row_lost stack snapshot device sector (suc len) state off =
    let here : unit_in_store stack snapshot device state sector ≡ Fails = rw off refl in
    cc (row_lost stack snapshot device (suc sector) len state off)

-- the write to sectors of a settled chunk
pub settled_written : (stack : Description) (snapshot : ResolvedSnapshot) (device sector len : ℕ) (state : State) → AreInChunk stack device snapshot sector len → is_settled (taken_at state device) (sector / snapshot.chunk) ≡ true
    → keep (row (unit_in_store stack snapshot device state) sector len) state ≡ steps (write_snapshot stack snapshot device) state sector len
settled_written stack snapshot device sector len state chunk settled =
    sym (settled_part stack snapshot device (sector / snapshot.chunk) sector len state settled (λ i within. same_chunk snapshot sector i chunk.whole.sound.chunk_some (omega (arith, chunk.part, within))))

-- the write to sectors of a chunk that isn't refused: the chunk is taken, and then they are written
pub chunk_written : (stack : Description) (snapshot : ResolvedSnapshot) (device sector len : ℕ) (state : State) → AreInChunk stack device snapshot sector len → 1 ≤ len → device < length state → is_refused stack snapshot (taken_at state device) (sector / snapshot.chunk) ≡ false
    → and_then (take_chunk stack snapshot device (sector / snapshot.chunk) state) (λ after. keep (row (unit_in_store stack snapshot device after) sector len) after) ≡ steps (write_snapshot stack snapshot device) state sector len
chunk_written stack snapshot device sector zero state chunk some there passes = absurd (omega (arith, some))
chunk_written stack snapshot device sector (suc n) state chunk some there passes =
    sym (chunk_part stack snapshot device (sector / snapshot.chunk) sector n state passes there (λ i within. same_chunk snapshot sector i chunk.whole.sound.chunk_some (omega (arith, chunk.part, within))))

-- a sink that failed while the chunk was taken failed at a prefix of the write's units
pub left_taking : {S : Type 0} (left : S → List BlockUnit → S → Type 0) (old new : S) (stack : Description) (snapshot : ResolvedSnapshot) (device sector len : ℕ) (state : State) → 1 ≤ len → is_refused stack snapshot (taken_at state device) (sector / snapshot.chunk) ≡ false
    → OfBeginning left old (take_chunk stack snapshot device (sector / snapshot.chunk) state).units new → OfBeginning left old (steps (write_snapshot stack snapshot device) state sector len).units new
left_taking left old new stack snapshot device sector zero state some passes cut = absurd (omega (arith, some))
left_taking left old new stack snapshot device sector (suc n) state some passes cut =
    let made = take_chunk stack snapshot device (sector / snapshot.chunk) state in
    let unit = unit_in_store stack snapshot device made.state sector ∷ [] in
    left_more left old new made.units (unit ++ (steps (write_snapshot stack snapshot device) made.state (suc sector) n).units) _
    (rw (write_is false stack snapshot device (sector / snapshot.chunk) state sector refl passes, append_assoc made.units unit _)) cut

-- a refused write to sectors of a chunk fails for all of them
pub chunk_refused : (stack : Description) (snapshot : ResolvedSnapshot) (device sector len : ℕ) (state : State) → AreInChunk stack device snapshot sector len → is_refused stack snapshot (taken_at state device) (sector / snapshot.chunk) ≡ true
    → keep (units_in Fails len) state ≡ steps (write_snapshot stack snapshot device) state sector len
chunk_refused stack snapshot device sector len state chunk refused =
    sym (refused_part stack snapshot device (sector / snapshot.chunk) sector len state refused (λ i within. same_chunk snapshot sector i chunk.whole.sound.chunk_some (omega (arith, chunk.part, within))))
