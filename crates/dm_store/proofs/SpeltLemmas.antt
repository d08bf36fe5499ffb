-- The list that reading a store gives is what the store spells.
use Rattle.dm_store.proofs.Prelude.{inl, inr, ℕ, zero, suc, Bool, true, false, cond, List, [], None, Result, Ok, Err, get_or, length, refl, sym, ap, subst, ◌∙◌, arith, nat_lt, slice_index, eq-eqb, eqb-true, leb-true, ne_eqb, and_parts, le-suc_iff, get_or_append_left, get_or-append_seam, SectorFault, Pair, Store, four_at, Sectors, count_of, each, old_chunks, pair, pair_in, pair_count, rest_count, row_sector, AreClearFrom, IsClear, IsSpelled, IsUsed, Holds, Stored, by_header, clear_count, fault_of, is_any_again, is_clear, is_clear_in, is_listed, is_near, is_placed, list_count, list_fault, listed, Persistent, place}
use Rattle.dm_store.proofs.FittingLemmas.{always_fits, header_holds, length_old, list_ends, list_holds, words_hold}
use Rattle.std.specs.Prelude.{◌≡◌, ◌⊎◌, ◌+◌, ◌/◌, ◌%◌, ◌<◌, ◌≤◌, ◌∷◌, ◌++◌, ◌≢◌, ◌==◌, ◌&&◌}

unequal : (n : ℕ) → (n == 0) ≡ false → n ≢ 0
unequal n e = λ zero. absurd (let t : (n == 0) ≡ true = eq-eqb n 0 zero in cc)

record Header (in_table : ℕ) (sector : Result (List ℕ) SectorFault) : Type 0 where
  pub bytes : List ℕ
  pub is : sector ≡ Ok bytes
  pub used : IsUsed in_table bytes

header_parts : (used : Stored) (in_table : ℕ) (sector : Result (List ℕ) SectorFault) (chunks : List ℕ) → by_header used in_table sector ≡ Holds chunks → Header in_table sector
header_parts used in_table (Err fault) chunks e = absurd cc
header_parts used in_table (Ok h) chunks e =
    let parts = words_hold (four_at h 0 == 0) (four_at h 0 == 0x70416e53) (four_at h 8 == 1) (four_at h 12 == in_table) (four_at h 4 == 0) used chunks e in
    record {
      bytes = h;
      is = refl;
      used = record { magic = eqb-true (four_at h 0) 0x70416e53 parts.0; valid = unequal (four_at h 4) parts.3; version = eqb-true (four_at h 8) 1 parts.1; chunk_len = eqb-true (four_at h 12) in_table parts.2 };
    }

each_at : (p : ℕ → Bool) (n i : ℕ) → each p n ≡ true → i < n → p i ≡ true
unfolding each
each_at p zero i all less = absurd (omega (arith, less))
each_at p (suc n) i all less = let parts = and_parts (each p n) (p n) all in elim (le-suc_iff.0 less) as (λ _. p i ≡ true) [
  | inl before ↦ each_at p n i parts.0 before
  | inr last ↦ let k : n ≡ i = omega (arith, last) in subst (λ (x : ℕ). p x ≡ true) k parts.1
]

old_at : (pairs : ℕ → Pair) (n i : ℕ) → i < n → get_or (old_chunks pairs n) i 0 ≡ (pairs i).old
unfolding old_chunks
old_at pairs zero i less = absurd (omega (arith, less))
old_at pairs (suc n) i less =
    let before : List ℕ = old_chunks pairs n in
    let count : length before ≡ n = length_old pairs n in
    elim (le-suc_iff.0 less) as (λ _. get_or (before ++ (pairs n).old ∷ []) i 0 ≡ (pairs i).old) [
      | inl inside ↦ get_or_append_left before ((pairs n).old ∷ []) 0 i (omega (arith, inside, count)) ∙ old_at pairs n i inside
      | inr last ↦ let k : n ≡ i = omega (arith, last) in let at : i ≡ length before = omega (arith, k, count) in
          ap (λ (x : ℕ). get_or (before ++ (pairs n).old ∷ []) x 0) at ∙ get_or-append_seam before (pairs n).old [] 0 ∙ ap (λ (x : ℕ). (pairs x).old) k
    ]

-- count is how many numbers pass the test, up to the first that doesn't: all below count pass, and count itself fails or is the limit
record Ends (p : ℕ → Bool) (most count : ℕ) : Type 0 where
  pub each_so : each p count ≡ true
  pub stops : (count ≡ most) ⊎ ((count < most) × (p count ≡ false))

not_next : (a b : Bool) → a ≡ true → (a && b) ≡ false → b ≡ false
not_next true b t e = e
not_next false b t e = absurd cc

-- one more number: either all pass, or the count is as before
go_ends : (p : ℕ → Bool) (m : ℕ) (b : Bool) → (each p m && p m) ≡ b → each p (suc m) ≡ b → Ends p m (count_of p m) → Ends p (suc m) (cond b (suc m) (count_of p m))
go_ends p m true both is ends = record { each_so = is; stops = inl refl }
go_ends p m false both is ends = elim ends.stops as (λ _. Ends p (suc m) (count_of p m)) [
  | inl full ↦ record {
    each_so = ends.each_so;
    stops = inr (
      omega (arith, full),
      (let so : each p m ≡ true = subst (λ (n : ℕ). each p n ≡ true) full ends.each_so in
          subst (λ (n : ℕ). p n ≡ false) (sym full) (not_next (each p m) (p m) so both)),
    );
  }
  | inr stop ↦ record { each_so = ends.each_so; stops = inr (omega (arith, stop.0), stop.1) }
]

count_ends : (p : ℕ → Bool) (most : ℕ) → Ends p most (count_of p most)
unfolding each count_of
count_ends p zero = record { each_so = refl; stops = inl refl }
count_ends p (suc m) = go_ends p m (each p (suc m)) refl refl (count_ends p m)

no_fault_all : (placed near again : Bool) → fault_of placed near again ≡ None → (placed ≡ true) × (near ≡ true)
no_fault_all true true again e = (refl, refl)
no_fault_all placed near again e = absurd cc

-- a pair that tests as clear is clear
clear_in : (sectors : Sectors) (chunk number : ℕ) (row : Result (List ℕ) SectorFault) → sectors (row_sector chunk (number / 32)) ≡ row → is_clear_in row (number % 32) ≡ true → IsClear sectors chunk number
clear_in sectors chunk number (Ok bytes) is clear =
    let here : Pair = pair_in bytes (number % 32) in
    let parts = and_parts (here.old == 0) (here.new == 0) clear in
    let a : here ≡ record { old = 0; new = here.new } = ap (λ (x : ℕ). let y : Pair = record { old = x; new = here.new } in y) (eqb-true here.old 0 parts.0) in
    record { row = bytes; read = is; zeros = a ∙ ap (λ (x : ℕ). let y : Pair = record { old = 0; new = x } in y) (eqb-true here.new 0 parts.1) }
clear_in sectors chunk number (Err fault) is clear = absurd cc

-- every pair from the end of the list to the end of its area is clear
clear_all : (sectors : Sectors) (chunk count : ℕ) → (clear_count sectors chunk count == rest_count chunk count) ≡ true → (i : ℕ) → i < rest_count chunk count → IsClear sectors chunk (count + i)
clear_all sectors chunk count whole i less =
    let p : ℕ → Bool = λ n. is_clear sectors chunk (count + n) in
    let most : ℕ = rest_count chunk count in
    let all : each p most ≡ true = subst (λ (n : ℕ). each p n ≡ true) (eqb-true (clear_count sectors chunk count) most whole) (count_ends p most).each_so in
    clear_in sectors chunk (count + i) (sectors (row_sector chunk ((count + i) / 32))) refl (each_at p most i all less)

pub is_spelled : (store : Store) → IsSpelled store
is_spelled store = λ sectors chunks is.
    let count : ℕ = list_count sectors store in
    let most : ℕ = pair_count store.chunk store.len in
    let pairs : ℕ → Pair = pair sectors store.chunk in
    let header : Header store.chunk (sectors 0) = header_parts (listed sectors store) store.chunk (sectors 0) chunks is in
    let used : listed sectors store ≡ Holds chunks = header_holds (listed sectors store) store.chunk (sectors 0) chunks is in
    let held = list_ends sectors store chunks used in
    let parts = list_holds (list_fault store pairs count) (old_chunks pairs count) chunks held.0 in
    let all = no_fault_all (each (λ i. is_placed store i (pairs i)) count) (each (λ i. is_near store (pairs i)) count) (is_any_again pairs count) parts.0 in
    let len : length chunks ≡ count = ap (λ (xs : List ℕ). length xs) (sym parts.1) ∙ length_old pairs count in
    let olds : (i : ℕ) → i < count → (pairs i).old ≡ slice_index chunks i = λ i less. sym (old_at pairs count i less) ∙ ap (λ (xs : List ℕ). get_or xs i 0) parts.1 in
    let ends : Ends (λ i. is_listed (pairs i)) most count = count_ends (λ i. is_listed (pairs i)) most in
    record {
      header = header.bytes;
      begins = header.is;
      used = header.used;
      pairs = λ i below.
          let less : i < count = subst (λ (n : ℕ). i < n) len below in
          let placed = and_parts (nat_lt i store.places) ((pairs i).new == place Persistent store.chunk i) (each_at (λ j. is_placed store j (pairs j)) count i all.0 less) in
          let new : (pairs i).new ≡ place Persistent store.chunk i = eqb-true (pairs i).new (place Persistent store.chunk i) placed.1 in
          let a : pairs i ≡ record { old = slice_index chunks i; new = (pairs i).new } = ap (λ (x : ℕ). let y : Pair = record { old = x; new = (pairs i).new } in y) (olds i less) in
          a ∙ ap (λ (x : ℕ). let y : Pair = record { old = slice_index chunks i; new = x } in y) new;
      ends = elim ends.stops as (λ _. (length chunks ≡ most) ⊎ AreClearFrom sectors store.chunk store.len (length chunks)) [
        | inl full ↦ inl (len ∙ full)
        | inr stop ↦
            let other : (count == most) ≡ false = ne_eqb count most (λ same. omega (arith, same, stop.0)) in
            let at : AreClearFrom sectors store.chunk store.len count = record { inside = stop.0; clear = clear_all sectors store.chunk count (held.1 other) } in
            inr (subst (λ (n : ℕ). AreClearFrom sectors store.chunk store.len n) (sym len) at)
      ];
      fit = always_fits store sectors chunks is;
      near = λ i below.
          let less : i < count = subst (λ (n : ℕ). i < n) len below in
          let here : (pairs i).old ≤ store.last = leb-true (pairs i).old store.last (each_at (λ j. is_near store (pairs j)) count i all.1 less) in
          subst (λ (x : ℕ). x ≤ store.last) (olds i less) here;
    }
