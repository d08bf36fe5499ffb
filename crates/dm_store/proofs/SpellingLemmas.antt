-- The list that a store spells is what reading the store gives.
use Rattle.dm_store.proofs.Prelude.{inl, inr, ℕ, zero, suc, Bool, true, false, List, [], Option, None, Result, get_or, length, nat_eq, take, refl, sym, ap, subst, ◌∙◌, arith, IsDistinct, nat_lt, not, slice_index, eq-eqb, le-leb, lt-ltb, ne_eqb, and_from, take_all, take-suc, slice_get-get_or, ListFault, SectorFault, Pair, Store, four_at, Sectors, each, old_chunks, pair, pair_count, rest_count, IsClear, ReadsBack, Spells, Holds, are_zeros, is_clear, is_clear_in, list_fault, fault_of, is_any_again, is_listed, is_near, is_placed, list_count, listed, of_count, of_list, Persistent, place, number_in, at_index}
use Rattle.dm_store.proofs.ListLemmas.{count_full, count_stop}
use Rattle.dm_store.proofs.WalkLemmas.{count_all, count_less, pair_known, rest_clear, rest_some}
use Rattle.std.specs.Prelude.{◌≡◌, ◌+◌, ◌%◌, ◌<◌, ◌≤◌, ◌∷◌, ◌==◌}

each_all : (p : ℕ → Bool) (n : ℕ) → ((i : ℕ) → i < n → p i ≡ true) → each p n ≡ true
unfolding each
each_all p zero all = refl
each_all p (suc n) all = rw (each_all p n (λ i less. all i (omega (arith, less))), all n (omega arith)) refl

-- in a list without duplicates, an element isn't among those before it
new_at : (xs : List ℕ) (i : ℕ) → IsDistinct nat_eq xs → i < length xs → number_in (get_or xs i 0) (take i xs) ≡ None
unfolding IsDistinct
new_at [] i distinct less = absurd (omega (arith, less))
new_at (x ∷ xs) zero distinct less = refl
new_at (x ∷ xs) (suc i) distinct less =
    let within : i < length xs = omega (arith, less) in
    let other : (x == get_or xs i 0) ≡ false = at_index (λ y. nat_eq x y ≡ false) xs i _ distinct.0 (slice_get-get_or xs i 0 within) in
    rw (other, new_at xs i distinct.1 within) refl

old_take : (pairs : ℕ → Pair) (xs : List ℕ) (n : ℕ) → n ≤ length xs → ((i : ℕ) → i < length xs → (pairs i).old ≡ get_or xs i 0) → old_chunks pairs n ≡ take n xs
unfolding old_chunks
old_take pairs xs zero within are = refl
old_take pairs xs (suc n) within are =
    rw (old_take pairs xs n (omega (arith, within)) are, are n (omega (arith, within))) (sym (take-suc xs n 0 (omega (arith, within))))

none_again : (pairs : ℕ → Pair) (xs : List ℕ) (n : ℕ) → n ≤ length xs → IsDistinct nat_eq xs → ((i : ℕ) → i < length xs → (pairs i).old ≡ get_or xs i 0) → is_any_again pairs n ≡ false
unfolding is_any_again
none_again pairs xs zero within distinct are = refl
none_again pairs xs (suc n) within distinct are =
    let less : n < length xs = omega (arith, within) in
    rw (none_again pairs xs n (omega (arith, within)) distinct are, are n less, old_take pairs xs n (omega (arith, within)) are, new_at xs n distinct less) refl

faultless : (placed near again : Bool) → placed ≡ true → near ≡ true → again ≡ false → fault_of placed near again ≡ None
faultless placed near again p n a = rw (p, n, a) refl

clear_is : (sectors : Sectors) (chunk number : ℕ) → IsClear sectors chunk number → is_clear sectors chunk number ≡ true
clear_is sectors chunk number clear = ap (λ (r : Result (List ℕ) SectorFault). is_clear_in r (number % 32)) clear.read ∙ ap are_zeros clear.zeros

listed_spelled : (sectors : Sectors) (store : Store) (chunks : List ℕ) → Spells sectors store chunks → listed sectors store ≡ Holds chunks
listed_spelled sectors store chunks spells =
    let n : ℕ = length chunks in
    let pairs : ℕ → Pair = pair sectors store.chunk in
    let going : each (λ i. is_listed (pairs i)) n ≡ true = each_all (λ i. is_listed (pairs i)) n (λ i less.
    let some : place Persistent store.chunk i ≡ 0 → ⊥ = λ zero. omega (arith, zero) in
    ap (λ (x : Pair). is_listed x) (spells.pairs i less) ∙ ap not (ne_eqb (place Persistent store.chunk i) 0 some)) in
    let placed : each (λ i. is_placed store i (pairs i)) n ≡ true = each_all (λ i. is_placed store i (pairs i)) n (λ i less.
    ap (λ (x : Pair). is_placed store i x) (spells.pairs i less) ∙ and_from (nat_lt i store.places) (place Persistent store.chunk i == place Persistent store.chunk i) (lt-ltb i store.places (omega (arith, less, spells.fit.places))) (eq-eqb (place Persistent store.chunk i) (place Persistent store.chunk i) refl)) in
    let near : each (λ i. is_near store (pairs i)) n ≡ true = each_all (λ i. is_near store (pairs i)) n (λ i less.
    ap (λ (x : Pair). is_near store x) (spells.pairs i less) ∙ le-leb (slice_index chunks i) store.last (spells.near i less)) in
    let are : (i : ℕ) → i < length chunks → (pairs i).old ≡ get_or chunks i 0 = λ i less. ap (λ (x : Pair). x.old) (spells.pairs i less) in
    let again : is_any_again pairs n ≡ false = none_again pairs chunks n (omega arith) spells.fit.once are in
    let none : list_fault store pairs n ≡ None = faultless (each (λ i. is_placed store i (pairs i)) n) (each (λ i. is_near store (pairs i)) n) (is_any_again pairs n) placed near again in
    let all : old_chunks pairs n ≡ chunks = old_take pairs chunks n (omega arith) are ∙ take_all n chunks (omega arith) in
    let held : of_list (list_fault store pairs n) (old_chunks pairs n) ≡ Holds chunks = ap (λ (f : Option ListFault). of_list f (old_chunks pairs n)) none ∙ ap (λ (xs : List ℕ). Holds xs) all in
    elim spells.ends as (λ _. listed sectors store ≡ Holds chunks) [
      | inl full ↦
          let most : ℕ = pair_count store.chunk store.len in
          let count : list_count sectors store ≡ most = count_full (λ i. is_listed (pairs i)) most (subst (λ (m : ℕ). each (λ i. is_listed (pairs i)) m ≡ true) full going) in
          ap (of_count sectors store) count ∙ count_all sectors store ∙ ap (λ (m : ℕ). of_list (list_fault store pairs m) (old_chunks pairs m)) (sym full) ∙ held
      | inr free ↦
          let first : IsClear sectors store.chunk n = subst (λ (m : ℕ). IsClear sectors store.chunk m) (omega arith) (free.clear 0 (rest_some store.chunk store.len n free.inside)) in
          let stop : is_listed (pairs n) ≡ false = ap is_listed (pair_known sectors store.chunk n first.row first.read ∙ first.zeros) in
          let count : list_count sectors store ≡ n = count_stop (λ i. is_listed (pairs i)) n (pair_count store.chunk store.len) going stop (omega (arith, free.inside)) in
          let rest = each_all (λ i. is_clear sectors store.chunk (n + i)) (rest_count store.chunk n) (λ i less. clear_is sectors store.chunk (n + i) (free.clear i less)) in
          ap (of_count sectors store) count ∙ count_less sectors store n free.inside ∙ rest_clear sectors store.chunk n (of_list (list_fault store pairs n) (old_chunks pairs n)) rest ∙ held
    ]

pub reads_back : (store : Store) → ReadsBack store
reads_back store = λ sectors chunks spells.
    let used : (four_at spells.header 4 == 0) ≡ false = ne_eqb (four_at spells.header 4) 0 spells.used.valid in
    rw (spells.begins, spells.used.magic, spells.used.version, spells.used.chunk_len, eq-eqb store.chunk store.chunk refl, used) (listed_spelled sectors store chunks spells)
