-- Chunks that are read from a store fit it and are all different.
use Rattle.dm_store.proofs.Prelude.{ℕ, zero, suc, Bool, true, false, cond, List, Option, Some, None, Result, Ok, Err, length, nat_eq, refl, sym, subst, arith, length-append, IsDistinct, not, is_some, nat_lt, ltb-true, and_parts, or_parts, SectorFault, ListFault, StoreFault, Magic, Version, Chunk, Pair, Store, four_at, Sectors, each, pair, old_chunks, row_sector, pair_count, rest_count, Stored, Fresh, Lost, Holds, Refused, by_header, clear_count, list_fault, fault_of, is_any_again, is_near, is_placed, list_count, listed, of_list, rest_fault, AlwaysFit, Persistent, place, number_in, none_of}
use Rattle.dm_map.proofs.Numbers.{distinct_more}
use Rattle.std.specs.Prelude.{◌≡◌, ◌+◌, ◌/◌, ◌<◌, ◌≤◌, ◌==◌}

distinct_all : (pairs : ℕ → Pair) (count : ℕ) → is_any_again pairs count ≡ false → IsDistinct nat_eq (old_chunks pairs count)
unfolding is_any_again old_chunks IsDistinct
distinct_all pairs zero e = tt
distinct_all pairs (suc n) e =
    let parts = or_parts (is_any_again pairs n) (is_some (number_in (pairs n).old (old_chunks pairs n))) e in
    distinct_more (pairs n).old (old_chunks pairs n) (distinct_all pairs n parts.0) (none_of (number_in (pairs n).old (old_chunks pairs n)) parts.1)

pub length_old : (pairs : ℕ → Pair) (count : ℕ) → length (old_chunks pairs count) ≡ count
unfolding old_chunks
length_old pairs zero = refl
length_old pairs (suc n) = rw (length-append, length_old pairs n) (omega arith)

placed_all : (store : Store) (pairs : ℕ → Pair) (count : ℕ) → each (λ i. is_placed store i (pairs i)) count ≡ true → count ≤ store.places
unfolding each
placed_all store pairs zero e = omega arith
placed_all store pairs (suc n) e =
    let last = and_parts (each (λ i. is_placed store i (pairs i)) n) (is_placed store n (pairs n)) e in
    let inside = and_parts (nat_lt n store.places) ((pairs n).new == place Persistent store.chunk n) last.1 in
    let less : n < store.places = ltb-true n store.places inside.0 in
    omega (arith, less)

no_fault : (placed near again : Bool) → fault_of placed near again ≡ None → (placed ≡ true) × (again ≡ false)
no_fault true true false e = (refl, refl)
no_fault placed near again e = absurd cc

-- a store that holds chunks has a header in use with the right numbers, and a readable list without fault
pub words_hold : (fresh magic version chunk invalid : Bool) (used : Stored) (chunks : List ℕ)
    → cond fresh Fresh (cond (not magic) (Refused Magic) (cond (not version) (Refused Version) (cond (not chunk) (Refused Chunk) (cond invalid Lost used)))) ≡ Holds chunks
    → (magic ≡ true) × (version ≡ true) × (chunk ≡ true) × (invalid ≡ false) × (used ≡ Holds chunks)
words_hold false true true true false used chunks e = (refl, refl, refl, refl, e)
words_hold _ _ _ _ _ used chunks e = absurd cc

pub header_holds : (used : Stored) (in_table : ℕ) (header : Result (List ℕ) SectorFault) (chunks : List ℕ) → by_header used in_table header ≡ Holds chunks → used ≡ Holds chunks
header_holds used in_table (Err fault) chunks e = absurd cc
header_holds used in_table (Ok h) chunks e = (words_hold (four_at h 0 == 0) (four_at h 0 == 0x70416e53) (four_at h 8 == 1) (four_at h 12 == in_table) (four_at h 4 == 0) used chunks e).4

-- a list that ends within an area has only zero pairs after it in the area
pub end_holds : (full clear : Bool) (held : Stored) (fault : StoreFault) (chunks : List ℕ) → cond full held (cond clear held (Refused fault)) ≡ Holds chunks → (held ≡ Holds chunks) × (full ≡ false → clear ≡ true)
end_holds true clear held fault chunks e = (e, λ other. absurd cc)
end_holds false true held fault chunks e = (e, λ other. refl)
end_holds false false held fault chunks e = absurd cc

pub list_holds : (f : Option ListFault) (xs chunks : List ℕ) → of_list f xs ≡ Holds chunks → (f ≡ None) × (xs ≡ chunks)
list_holds None xs chunks e = (refl, cc)
list_holds (Some x) xs chunks e = absurd cc

pub list_ends : (sectors : Sectors) (store : Store) (chunks : List ℕ) → listed sectors store ≡ Holds chunks
    → (of_list (list_fault store (pair sectors store.chunk) (list_count sectors store)) (old_chunks (pair sectors store.chunk) (list_count sectors store)) ≡ Holds chunks)
    × ((list_count sectors store == pair_count store.chunk store.len) ≡ false → (clear_count sectors store.chunk (list_count sectors store) == rest_count store.chunk (list_count sectors store)) ≡ true)
list_ends sectors store chunks e =
    let count : ℕ = list_count sectors store in let clear : ℕ = clear_count sectors store.chunk count in
    end_holds (count == pair_count store.chunk store.len) (clear == rest_count store.chunk count) (of_list (list_fault store (pair sectors store.chunk) count) (old_chunks (pair sectors store.chunk) count)) (rest_fault (sectors (row_sector store.chunk ((count + clear) / 32)))) chunks e

pub always_fits : (store : Store) → AlwaysFit store
always_fits store = λ sectors chunks is.
    let count : ℕ = list_count sectors store in
    let pairs : ℕ → Pair = pair sectors store.chunk in
    let used : listed sectors store ≡ Holds chunks = header_holds (listed sectors store) store.chunk (sectors 0) chunks is in
    let parts = list_holds (list_fault store pairs count) (old_chunks pairs count) chunks (list_ends sectors store chunks used).0 in
    let faultless = no_fault (each (λ i. is_placed store i (pairs i)) count) (each (λ i. is_near store (pairs i)) count) (is_any_again pairs count) parts.0 in
    record {
      places = subst (λ (xs : List ℕ). length xs ≤ store.places) parts.1 (subst (λ (n : ℕ). n ≤ store.places) (sym (length_old pairs count)) (placed_all store pairs count faultless.0));
      once = subst (λ (xs : List ℕ). IsDistinct nat_eq xs) parts.1 (distinct_all pairs count faultless.1);
    }
