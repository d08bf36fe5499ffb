-- Numbers of chunks in a list, and the sectors of a store that belong to them.
use Rattle.dm_map.proofs.Prelude.{ℕ, zero, suc, Bool, true, false, cond, List, [], Option, Some, None, length, get_or, take, nat_eq, refl, sym, ap, ◌∙◌, arith, IsDistinct, option_map, eq-eqb, eqb-true, ne_eqb, take_more, apart_from_distinct, div-add-mod', same_from_place, ResolvedSnapshot, place, place_one, store_sector, number_in, all_append}
use Rattle.std.specs.Prelude.{◌≡◌, ◌+◌, ◌-◌, ◌*◌, ◌/◌, ◌%◌, ◌<◌, ◌≤◌, ◌∷◌, ◌++◌, ◌==◌}

none_parts : (b : Bool) (o : Option ℕ) → cond b (Some 0) (option_map suc o) ≡ None → (b ≡ false) × (o ≡ None)
none_parts false None e = (refl, refl)
none_parts b o e = absurd cc

-- the first occurrence of a chunk in a list gives its number
pub number_here : (c : ℕ) (xs : List ℕ) (i d : ℕ) → number_in c (take i xs) ≡ None → i < length xs → get_or xs i d ≡ c → number_in c xs ≡ Some i
number_here c [] i d none below is = absurd (omega arith)
number_here c (x ∷ xs) zero d none below is = rw (eq-eqb x c is) refl
number_here c (x ∷ xs) (suc i) d none below is =
    let parts = none_parts (x == c) (number_in c (take i xs)) none in
    rw (parts.0, number_here c xs i d parts.1 (omega arith) is) refl

-- adding a chunk that isn't in the list leaves all chunks different
pub distinct_more : (c : ℕ) (xs : List ℕ) → IsDistinct nat_eq xs → number_in c xs ≡ None → IsDistinct nat_eq (xs ++ c ∷ [])
unfolding IsDistinct
distinct_more c [] distinct none = (tt, tt)
distinct_more c (x ∷ xs) distinct none =
    let parts = none_parts (x == c) (number_in c xs) none in
    (all_append (λ y. nat_eq x y ≡ false) xs (c ∷ []) distinct.0 (parts.0, tt), distinct_more c xs distinct.1 parts.1)

-- when a chunk is added at the end, the others keep their numbers and the new one has the next
some_cons : (b : Bool) (o p : Option ℕ) (i : ℕ) → ((j : ℕ) → o ≡ Some j → p ≡ Some j) → cond b (Some 0) (option_map suc o) ≡ Some i → cond b (Some 0) (option_map suc p) ≡ Some i
some_cons true o p i later e = e
some_cons false None p i later e = absurd cc
some_cons false (Some j) p i later e = rw (later j refl) e

pub number_kept : (c : ℕ) (xs ys : List ℕ) (i : ℕ) → number_in c xs ≡ Some i → number_in c (xs ++ ys) ≡ Some i
number_kept c [] ys i e = absurd cc
number_kept c (x ∷ xs) ys i e = some_cons (x == c) (number_in c xs) (number_in c (xs ++ ys)) i (λ j is. number_kept c xs ys j is) e

pub number_new : (c : ℕ) (xs : List ℕ) → number_in c xs ≡ None → number_in c (xs ++ c ∷ []) ≡ Some (length xs)
number_new c [] e = rw (eq-eqb c c refl) refl
number_new c (x ∷ xs) e = let parts = none_parts (x == c) (number_in c xs) e in let k : suc (length xs) ≡ length (x ∷ xs) = omega arith in rw (parts.0, number_new c xs parts.1) (ap Some k)

-- a chunk that isn't in the list, nor the one added, is still not in it
pub number_other : (c d : ℕ) (xs : List ℕ) → number_in c xs ≡ None → (d ≡ c → ⊥) → number_in c (xs ++ d ∷ []) ≡ None
number_other c d [] e differ = rw (ne_eqb d c differ) refl
number_other c d (x ∷ xs) e differ = let parts = none_parts (x == c) (number_in c xs) e in rw (parts.0, number_other c d xs parts.1 differ) refl

pub number_later : (c : ℕ) (xs : List ℕ) (i d : ℕ) → number_in c (take i xs) ≡ None → i < length xs → (get_or xs i d ≡ c → ⊥) → number_in c (take (i + 1) xs) ≡ None
number_later c xs i d none below other = rw (take_more xs i d below) (number_other c (get_or xs i d) (take i xs) none other)

-- the chunk in the list at the index that is a chunk's number is that chunk
pub number_is : (c : ℕ) (xs : List ℕ) (i : ℕ) → number_in c xs ≡ Some i → (i < length xs) × (get_or xs i 0 ≡ c)
number_is c [] i is = absurd cc
number_is c (x ∷ xs) i is = by_first (x == c) (number_in c xs) i (λ t. eqb-true x c t) (λ j later. number_is c xs j later) is
  where
    by_first : (here : Bool) (later : Option ℕ) (i : ℕ) → (here ≡ true → x ≡ c) → ((j : ℕ) → later ≡ Some j → (j < length xs) × (get_or xs j 0 ≡ c)) → cond here (Some 0) (option_map suc later) ≡ Some i → (i < length (x ∷ xs)) × (get_or (x ∷ xs) i 0 ≡ c)
    by_first true later i here_is later_is is = let first : 0 ≡ i = cc in rw (← first) (omega arith, here_is refl)
    by_first false None i here_is later_is is = absurd cc
    by_first false (Some j) i here_is later_is is = let next : suc j ≡ i = cc in let rest = later_is j refl in rw (← next) (omega (arith, rest.0), rest.1)

-- two chunks with the same number are equal
pub number_one : (c e : ℕ) (xs : List ℕ) (i : ℕ) → number_in c xs ≡ Some i → number_in e xs ≡ Some i → c ≡ e
number_one c e xs i f g = sym (number_is c xs i f).1 ∙ (number_is e xs i g).1

-- in a list of different chunks, each chunk's number is its index
pub number_distinct : (xs : List ℕ) (i d : ℕ) → IsDistinct nat_eq xs → i < length xs → number_in (get_or xs i d) xs ≡ Some i
unfolding IsDistinct
number_distinct [] i d distinct within = absurd (omega (arith, within))
number_distinct (x ∷ xs) zero d distinct within = rw (eq-eqb x x refl) refl
number_distinct (x ∷ xs) (suc i) d distinct within =
    let other : (x == get_or xs i d) ≡ false = apart_from_distinct nat_eq (x ∷ xs) 0 (suc i) d distinct (omega arith) within in
    rw (other, number_distinct xs i d distinct.1 (omega (arith, within))) refl

-- Quotients and remainders

-- the remainder of a sector of a chunk is its distance from the chunk's start
pub chunk_rest : (c m u : ℕ) → c * m ≤ u → u < c * m + m → u % m ≡ u - c * m
chunk_rest c m u low high =
    let whole : u / m * m + u % m ≡ u = div-add-mod' u m in
    let some : 0 < m = omega (arith, low, high) in
    let rest : u % m < m = omega (arith, some) in
    let k : c * m + (u - c * m) ≡ u = omega (arith, low) in
    (same_from_place (u / m) (u % m) c (u - c * m) m rest (omega (arith, low, high)) (whole ∙ sym k)).1

pub of_chunk : (c m u : ℕ) → 0 < m → u / m ≡ c → (c * m ≤ u) × (u < c * m + m)
of_chunk c m u some is =
    let whole : u / m * m + u % m ≡ u = div-add-mod' u m in
    let same : u / m * m ≡ c * m = cc in
    let rest : u % m < m = omega (arith, some) in
    (omega (arith, whole, same, rest), omega (arith, whole, same, rest))

-- the column and the sector in it determine the sector of the striped line
pub stripe_back : (chunk_size n o : ℕ) → 0 < chunk_size → ((o / chunk_size / n * chunk_size + o % chunk_size) / chunk_size * n + o / chunk_size % n) * chunk_size + (o / chunk_size / n * chunk_size + o % chunk_size) % chunk_size ≡ o
stripe_back chunk_size n o some =
    let q = o / chunk_size / n in
    let r = o % chunk_size in
    let w = q * chunk_size + r in
    let r_in : r < chunk_size = omega (arith, some) in
    let w_in : w % chunk_size < chunk_size = omega (arith, some) in
    let whole_w : w / chunk_size * chunk_size + w % chunk_size ≡ w = div-add-mod' w chunk_size in
    let parts = same_from_place (w / chunk_size) (w % chunk_size) q r chunk_size w_in r_in whole_w in
    let whole_c : q * n + o / chunk_size % n ≡ o / chunk_size = div-add-mod' (o / chunk_size) n in
    let whole_o : o / chunk_size * chunk_size + o % chunk_size ≡ o = div-add-mod' o chunk_size in
    cc

-- The store's sectors for taken chunks

pub store_sector_parts : (snapshot : ResolvedSnapshot) (i j s t : ℕ) → 0 < snapshot.chunk → store_sector snapshot i s ≡ store_sector snapshot j t → (i ≡ j) × (s % snapshot.chunk ≡ t % snapshot.chunk)
store_sector_parts snapshot i j s t some e =
    let parts = same_from_place (place snapshot.kind snapshot.chunk i) (s % snapshot.chunk) (place snapshot.kind snapshot.chunk j) (t % snapshot.chunk) snapshot.chunk (omega (arith, some)) (omega (arith, some)) e in
    (place_one snapshot.kind snapshot.chunk i j parts.0, parts.1)

-- two snapshot sectors with the same store sector are equal
pub same_sector : (snapshot : ResolvedSnapshot) (chunks : List ℕ) (i j s u : ℕ) → 0 < snapshot.chunk → number_in (s / snapshot.chunk) chunks ≡ Some i → number_in (u / snapshot.chunk) chunks ≡ Some j → store_sector snapshot i s ≡ store_sector snapshot j u → u ≡ s
same_sector snapshot chunks i j s u some a b e =
    let parts = store_sector_parts snapshot i j s u some e in
    let whole_s : s / snapshot.chunk * snapshot.chunk + s % snapshot.chunk ≡ s = div-add-mod' s snapshot.chunk in
    let whole_u : u / snapshot.chunk * snapshot.chunk + u % snapshot.chunk ≡ u = div-add-mod' u snapshot.chunk in
    let one = number_one (s / snapshot.chunk) (u / snapshot.chunk) chunks i a (b ∙ ap Some (sym parts.0)) in
    let products : s / snapshot.chunk * snapshot.chunk ≡ u / snapshot.chunk * snapshot.chunk = cc in
    omega (arith, whole_s, whole_u, products, parts.1)

rest_below : (len m q r : ℕ) → r < m → (q + 1) * m ≤ len → q * m + r < len
rest_below len m q r less most = let one : (q + 1) * m ≡ q * m + m = grind arith in omega (arith, less, most, one)

pub store_sector_inside : (snapshot : ResolvedSnapshot) (i s len : ℕ) → 0 < snapshot.chunk → (place snapshot.kind snapshot.chunk i + 1) * snapshot.chunk ≤ len → store_sector snapshot i s < len
store_sector_inside snapshot i s len some most = rest_below len snapshot.chunk (place snapshot.kind snapshot.chunk i) (s % snapshot.chunk) (omega (arith, some)) most
