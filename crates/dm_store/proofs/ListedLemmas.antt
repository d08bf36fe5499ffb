-- Stores agree with a state exactly if reading them gives what a restart reads back of it.
use Rattle.dm_store.proofs.Prelude.{inl, inr, ℕ, Bool, true, false, cond, List, Option, Some, None, Result, Ok, Err, length, refl, sym, ap, subst, ◌∙◌, arith, option_and_then, not, cases_Bool, eqb-true, true≢false, none-some, ResolvedLine, Description, found_at, State, Taken, lost, none_taken, taken_at, snapshot_of, home, line_there, ListFault, SectorFault, StoreFault, Magic, Version, Chunk, Pair, Store, DiskContents, pair_count, rest_count, row_sector, four_at, Sectors, bytes_or_none, old_chunks, pair, pair_in, AreKept, AreListed, Gone, HoldMore, IsGone, Lists, Spelled, Unused, kept_in, AreClearFrom, Spells, start_of, store_if, store_sectors, stored_state, taken_if, taken_in, Stored, Fresh, Lost, Holds, Refused, by_header, clear_count, list_count, list_fault, listed, of_list, rest_fault, stored}
use Rattle.dm_store.proofs.RestartLemmas.{gone_kept, valid_kept}
use Rattle.dm_store.proofs.SpeltLemmas.{is_spelled}
use Rattle.dm_store.proofs.StateLemmas.{are_first, ok_is}
use Rattle.dm_store.proofs.WalkLemmas.{none_there, pair_known}
use Rattle.std.specs.Prelude.{◌≡◌, ◌+◌, ◌*◌, ◌/◌, ◌%◌, ◌<◌, ◌==◌, ◌⊎◌}

-- ---- headers, from what is read of a store

-- what is read is what a list can say, so it comes from a store in use
abbrev is_list : Stored → Bool
is_list Fresh = false
is_list Lost = false
is_list other = true

list_is : (full clear : Bool) (f : Option ListFault) (chunks : List ℕ) (fault : StoreFault) → is_list (cond full (of_list f chunks) (cond clear (of_list f chunks) (Refused fault))) ≡ true
list_is true clear None chunks fault = refl
list_is true clear (Some other) chunks fault = refl
list_is false true None chunks fault = refl
list_is false true (Some other) chunks fault = refl
list_is false false f chunks fault = refl

listed_is : (sectors : Sectors) (store : Store) → is_list (listed sectors store) ≡ true
listed_is sectors store =
    let count : ℕ = list_count sectors store in let clear : ℕ = clear_count sectors store.chunk count in
    list_is (count == pair_count store.chunk store.len) (clear == rest_count store.chunk count) (list_fault store (pair sectors store.chunk) count) (old_chunks (pair sectors store.chunk) count) (rest_fault (sectors (row_sector store.chunk ((count + clear) / 32))))

no_list : (says : Stored) → is_list says ≡ true → is_list says ≡ false → ⊥
no_list says is other = true≢false (sym is ∙ other)

words_fresh : (fresh magic version chunk invalid : Bool) (used : Stored) → is_list used ≡ true
    → cond fresh Fresh (cond (not magic) (Refused Magic) (cond (not version) (Refused Version) (cond (not chunk) (Refused Chunk) (cond invalid Lost used)))) ≡ Fresh → fresh ≡ true
words_fresh true magic version chunk invalid used list e = refl
words_fresh false true true true false used list e = absurd (no_list used list (ap is_list e))
words_fresh _ _ _ _ _ used list e = absurd cc

words_lost : (fresh magic version chunk invalid : Bool) (used : Stored) → is_list used ≡ true
    → cond fresh Fresh (cond (not magic) (Refused Magic) (cond (not version) (Refused Version) (cond (not chunk) (Refused Chunk) (cond invalid Lost used)))) ≡ Lost
    → (magic ≡ true) × (version ≡ true) × (chunk ≡ true) × (invalid ≡ true)
words_lost false true true true true used list e = (refl, refl, refl, refl)
words_lost false true true true false used list e = absurd (no_list used list (ap is_list e))
words_lost _ _ _ _ _ used list e = absurd cc

fresh_header : (used : Stored) (in_table : ℕ) (header : Result (List ℕ) SectorFault) → is_list used ≡ true → by_header used in_table header ≡ Fresh → (bytes : List ℕ) × (header ≡ Ok bytes) × (four_at bytes 0 ≡ 0)
fresh_header used in_table (Err fault) list e = absurd cc
fresh_header used in_table (Ok h) list e =
    (h, refl, eqb-true (four_at h 0) 0 (words_fresh (four_at h 0 == 0) (four_at h 0 == 0x70416e53) (four_at h 8 == 1) (four_at h 12 == in_table) (four_at h 4 == 0) used list e))

lost_header : (used : Stored) (in_table : ℕ) (header : Result (List ℕ) SectorFault) → is_list used ≡ true → by_header used in_table header ≡ Lost → (bytes : List ℕ) × (header ≡ Ok bytes) × IsGone in_table bytes
lost_header used in_table (Err fault) list e = absurd cc
lost_header used in_table (Ok h) list e =
    let parts = words_lost (four_at h 0 == 0) (four_at h 0 == 0x70416e53) (four_at h 8 == 1) (four_at h 12 == in_table) (four_at h 4 == 0) used list e in (
      h,
      refl,
      record { magic = eqb-true (four_at h 0) 0x70416e53 parts.0; valid = eqb-true (four_at h 4) 0 parts.3; version = eqb-true (four_at h 8) 1 parts.1; chunk_len = eqb-true (four_at h 12) in_table parts.2 },
    )

-- ---- a store agrees with what its snapshot took if reading it gives what a restart reads back

by_says : (sectors : Sectors) (store : Store) (taken : Taken) (says : Stored) → stored sectors store ≡ says → taken_in says ≡ Ok (kept_in (Some store) taken) → Lists sectors store taken
by_says sectors store taken Fresh is e =
    let same : none_taken ≡ kept_in (Some store) taken = ok_is none_taken (kept_in (Some store) taken) e in
    let header = fresh_header (listed sectors store) store.chunk (sectors 0) (listed_is sectors store) is in
    elim (cases_Bool taken.valid) [
      | inl valid ↦ Unused header.0 header.1 header.2 (sym (same ∙ valid_kept store taken valid))
      | inr gone ↦ absurd (true≢false (ap (λ (t : Taken). t.valid) (same ∙ gone_kept store taken gone)))
    ]
by_says sectors store taken Lost is e =
    let same : lost none_taken ≡ kept_in (Some store) taken = ok_is (lost none_taken) (kept_in (Some store) taken) e in
    let header = lost_header (listed sectors store) store.chunk (sectors 0) (listed_is sectors store) is in
    elim (cases_Bool taken.valid) [
      | inl valid ↦ absurd (true≢false (sym valid ∙ sym (ap (λ (t : Taken). t.valid) (same ∙ valid_kept store taken valid))))
      | inr gone ↦ Gone header.0 header.1 header.2 gone
    ]
by_says sectors store taken (Holds chunks) is e =
    let held : Taken = record { chunks = chunks; valid = true } in
    let same : held ≡ kept_in (Some store) taken = ok_is held (kept_in (Some store) taken) e in
    elim (cases_Bool taken.valid) [
      | inl valid ↦ Spelled valid (subst (λ (xs : List ℕ). Spells sectors store xs) (ap (λ (t : Taken). t.chunks) (same ∙ valid_kept store taken valid)) (is_spelled store sectors chunks is))
      | inr gone ↦ absurd (true≢false (ap (λ (t : Taken). t.valid) (same ∙ gone_kept store taken gone)))
    ]
by_says sectors store taken (Refused fault) is e = absurd cc

pub store_there : (stack : Description) (device : ℕ) (store : Store) (line : Option ResolvedLine) → found_at stack device 0 ≡ line → store_if stack device (option_and_then (λ (l : ResolvedLine). snapshot_of l.target) line) ≡ Some store → device < length stack.devices
store_there stack device store None is e = absurd (none-some store e)
store_there stack device store (Some line) is e = line_there stack device 0 line is

pub said : (stack : Description) (disks : DiskContents) (left found : State) → stored_state stack disks ≡ Ok found → AreKept stack left found → AreListed stack disks left
said stack disks left found is kept = λ device store of.
    let sectors = store_sectors stack disks store in
    let there : device < length stack.devices = store_there stack device store (found_at stack device 0) refl of in
    let starts : start_of stack disks device ≡ Ok (taken_at found device) = (are_first (start_of stack disks) (length stack.devices) found is).each device there in
    by_says sectors store (taken_at left device) (stored sectors store) refl
    (sym (ap (λ (s : Option Store). taken_if stack disks s) of) ∙ starts ∙ ap (λ (t : Taken). let r : Result Taken StoreFault = Ok t in r) (kept device store of))

-- ---- a store still agrees with what its snapshot took if more of its sectors can be read

abbrev HasMore : (sectors others : Sectors) → Type 0
HasMore sectors others = (sector : ℕ) (bytes : List ℕ) → sectors sector ≡ Ok bytes → others sector ≡ Ok bytes

-- a pair in use has a sector that can be read
pair_more : (sectors others : Sectors) (chunk number : ℕ) (wanted : Pair) (row : Result (List ℕ) SectorFault) → HasMore sectors others → (wanted.new ≡ 0 → ⊥) → sectors (row_sector chunk (number / 32)) ≡ row → pair sectors chunk number ≡ wanted → pair others chunk number ≡ wanted
pair_more sectors others chunk number wanted (Ok block) more some is same =
    pair_known others chunk number block (more (row_sector chunk (number / 32)) block is) ∙ sym (pair_known sectors chunk number block is) ∙ same
pair_more sectors others chunk number wanted (Err fault) more some is same =
    let free : (pair sectors chunk number).new ≡ 0 = ap (λ (r : Result (List ℕ) SectorFault). (pair_in (bytes_or_none r) (number % 32)).new) is ∙ none_there (16 * (number % 32) + 8) in
    absurd (some (ap (λ (p : Pair). p.new) (sym same) ∙ free))

spells_more : (sectors others : Sectors) (store : Store) (chunks : List ℕ) → HasMore sectors others → Spells sectors store chunks → Spells others store chunks
spells_more sectors others store chunks more spells = record {
  header = spells.header;
  begins = more 0 spells.header spells.begins;
  used = spells.used;
  pairs = λ number less. pair_more sectors others store.chunk number _ (sectors (row_sector store.chunk (number / 32))) more (λ zero. omega (arith, zero)) refl (spells.pairs number less);
  ends = elim spells.ends as (λ _. (length chunks ≡ pair_count store.chunk store.len) ⊎ AreClearFrom others store.chunk store.len (length chunks)) [
    | inl full ↦ inl full
    | inr free ↦
        inr (record { inside = free.inside; clear = λ i less. let here = free.clear i less in record { row = here.row; read = more (row_sector store.chunk ((length chunks + i) / 32)) here.row here.read; zeros = here.zeros } })
  ];
  fit = spells.fit;
  near = spells.near;
}

lists_more : (sectors others : Sectors) (store : Store) (taken : Taken) → HasMore sectors others → Lists sectors store taken → Lists others store taken
lists_more sectors others store taken more (Spelled valid spells) = Spelled valid (spells_more sectors others store taken.chunks more spells)
lists_more sectors others store taken more (Unused header begins magic none) = Unused header (more 0 header begins) magic none
lists_more sectors others store taken more (Gone header begins gone lost_is) = Gone header (more 0 header begins) gone lost_is

pub listed_more : (stack : Description) (disks others : DiskContents) (state : State) → HoldMore disks others → AreListed stack disks state → AreListed stack others state
listed_more stack disks others state more listed = λ device store of.
    lists_more (store_sectors stack disks store) (store_sectors stack others store) store (taken_at state device)
    (λ sector bytes is. more (home stack store.lower sector).disk (home stack store.lower sector).sector bytes is) (listed device store of)
