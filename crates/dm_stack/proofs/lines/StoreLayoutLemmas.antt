-- The layout of a store of each kind: how many places it has, that they are all different, and how much of it is used.
use Rattle.dm_stack.proofs.Prelude.{ℕ, zero, suc, false, arith, refl, inl, inr, div-add-mod', mod-mul-add, mod-lt, mul-le-mul_left, mul-le-mul_right, le-div_iff_mul-le, cases_lt, cases_order, StoreKind, allocated, is_metadata, metadata, place, place_count, places_in}
use Rattle.dm_table.specs.declared.tables.table.StoreKind.TheVariants.{Persistent, Transient}
use Rattle.std.specs.Prelude.{◌≡◌, ◌+◌, ◌-◌, ◌*◌, ◌/◌, ◌%◌, ◌<◌, ◌≤◌, ◌↔◌}

-- if a number is below the count of data chunks, its place is below the count of all chunks
within : (most rest number q a r b : ℕ) → r < most → b < most + 1 → q * most + r ≡ number → a * (most + 1) + b ≡ rest → number < rest - a → number + q < rest
within most rest number q a r b small_r small_b is_number is_rest below = elim (cases_lt a q) [
  | inl more ↦ let m : (a + 1) * most ≤ q * most = mul-le-mul_right most (omega (arith, more)) in absurd (omega (arith, m, small_r, small_b, is_number, is_rest, below))
  | inr less ↦ omega (arith, less, below)
]

back : (most rest number q a r b : ℕ) → r < most → b < most + 1 → q * most + r ≡ number → a * (most + 1) + b ≡ rest → number + q < rest → number < rest - a
back most rest number q a r b small_r small_b is_number is_rest ends = elim (cases_lt q a) [
  | inl less ↦ let m : (q + 1) * most ≤ a * most = mul-le-mul_right most (omega (arith, less)) in omega (arith, m, small_r, small_b, is_number, is_rest)
  | inr more ↦ omega (arith, more, ends)
]

numbered : (most rest number : ℕ) → 0 < most → (number < places_in most rest) ↔ (number + number / most < rest)
numbered most rest number some =
    let r = mod-lt number some in
    let b : rest % (most + 1) < most + 1 = mod-lt rest (omega arith) in (
      within most rest number (number / most) (rest / (most + 1)) (number % most) (rest % (most + 1)) r b (div-add-mod' number most) (div-add-mod' rest (most + 1)),
      back most rest number (number / most) (rest / (most + 1)) (number % most) (rest % (most + 1)) r b (div-add-mod' number most) (div-add-mod' rest (most + 1)),
    )

-- a place is below the number of whole chunks exactly if the place ends within the store's length
ends_at : (at chunks chunk store_len number : ℕ) → 0 < chunk → (number < chunks) ↔ (at < store_len / chunk) → (number < chunks) ↔ ((at + 1) * chunk ≤ store_len)
ends_at at chunks chunk store_len number some is =
    let whole = le-div_iff_mul-le {x = at + 1} {y = store_len} some in
    (λ below. whole.0 (let ends = is.0 below in omega (arith, ends)), λ ends. is.1 (let inside = whole.1 ends in omega (arith, inside)))

-- a taken chunk has its place within the store exactly if its number is below the number of places
pub has_place : (kind : StoreKind) (chunk store_len number : ℕ) → 0 < chunk → (number < place_count kind chunk store_len) ↔ ((place kind chunk number + 1) * chunk ≤ store_len)
has_place Transient chunk store_len number some = ends_at number (store_len / chunk) chunk store_len number some (λ below. below, λ at. at)
has_place _ chunk store_len number some =
    let n = numbered (32 * chunk) (store_len / chunk - 2) number (omega (arith, some)) in
    ends_at (place Persistent chunk number) (place_count Persistent chunk store_len) chunk store_len number some
    (λ below. (let ends = n.0 below in omega (arith, ends)), λ at. n.1 (omega (arith, at)))

-- Places are different

quotient_le : (i j e : ℕ) → i ≤ j → i / e ≤ j / e
quotient_le i j e le = grind (arith, le)

pub place_less : (kind : StoreKind) (chunk i j : ℕ) → i < j → place kind chunk i < place kind chunk j
place_less Transient chunk i j less = less
place_less _ chunk i j less = let q = quotient_le i j (32 * chunk) (omega (arith, less)) in omega (arith, less, q)

-- two numbers with the same place are equal
pub place_one : (kind : StoreKind) (chunk i j : ℕ) → place kind chunk i ≡ place kind chunk j → i ≡ j
place_one kind chunk i j e = elim (cases_order i j) [
  | inl same ↦ same
  | inr (inl less) ↦ absurd (let p = place_less kind chunk i j less in omega (arith, p, e))
  | inr (inr more) ↦ absurd (let p = place_less kind chunk j i more in omega (arith, p, e))
]

-- no place is in the header or a metadata area
pub place_data : (kind : StoreKind) (chunk i : ℕ) → 0 < chunk → is_metadata kind chunk (place kind chunk i) ≡ false
place_data Transient chunk i some = refl
place_data _ chunk i some =
    let e = 32 * chunk in
    let at = place Persistent chunk i in
    let whole : i / e * e + i % e ≡ i = div-add-mod' i e in
    let small : i % e < e = omega (arith, some) in
    let sum : at - 1 ≡ (i / e) * (e + 1) + (i % e + 1) = grind (arith, whole) in
    let rest : (at - 1) % (e + 1) ≡ i % e + 1 = rw sum (mod-mul-add (i / e) (e + 1) (i % e + 1) (omega (arith, small))) in
    grind (arith, rest)

-- How much of a store is used

-- the next place is one chunk further, or two if a metadata area is between
quotient_next : (i e : ℕ) → 0 < e → suc i / e ≤ i / e + 1
quotient_next i e some = grind (arith, some)

place_next : (kind : StoreKind) (chunk i : ℕ) → 0 < chunk → place kind chunk (suc i) ≤ place kind chunk i + 1 + 1
place_next Transient chunk i some = omega arith
place_next _ chunk i some = let q = quotient_next i (32 * chunk) (omega (arith, some)) in omega (arith, q)

place_first : (kind : StoreKind) (chunk : ℕ) → place kind chunk 0 ≤ 2
place_first Transient chunk = omega arith
place_first _ chunk = let none : 0 / (32 * chunk) ≡ 0 = grind arith in omega (arith, none)

-- a place at most two chunks further ends at most two chunks past the store's end
two_more : (here next chunk most : ℕ) → next ≤ here + 1 + 1 → (here + 1) * chunk ≤ most → next * chunk ≤ most + 2 * chunk
two_more here next chunk most near fits = grind (arith, mul-le-mul_right chunk near, fits)

two_at_most : (first chunk most : ℕ) → first ≤ 2 → first * chunk ≤ most + 2 * chunk
two_at_most first chunk most few = omega (arith, mul-le-mul_right chunk few)

-- the used part of a store ends at most two chunks past its end, if every taken chunk has its place
pub allocated_small : (kind : StoreKind) (chunk taken most : ℕ) → 0 < chunk → ((number : ℕ) → number < taken → (place kind chunk number + 1) * chunk ≤ most) → allocated kind chunk taken ≤ most + 2 * chunk
allocated_small kind chunk zero most some fits = two_at_most (place kind chunk 0) chunk most (place_first kind chunk)
allocated_small kind chunk (suc i) most some fits = two_more (place kind chunk i) (place kind chunk (suc i)) chunk most (place_next kind chunk i some) (fits i (omega arith))

pub place_within : (kind : StoreKind) (chunk number : ℕ) → 0 < chunk → place kind chunk number ≤ allocated kind chunk number
place_within kind chunk number some = omega (arith, mul-le-mul_left (place kind chunk number) some)

-- The chunks before a place that hold no taken chunk

pub number_within : (kind : StoreKind) (chunk number : ℕ) → number ≤ place kind chunk number
number_within Transient chunk number = omega arith
number_within _ chunk number = omega arith

pub metadata_within : (kind : StoreKind) (chunk taken : ℕ) → (place kind chunk taken - taken) * chunk ≤ allocated kind chunk taken
metadata_within kind chunk taken = mul-le-mul_right chunk (omega arith)

pub metadata_is : (kind : StoreKind) (chunk taken : ℕ) → (place kind chunk taken - taken) * chunk ≡ metadata kind chunk taken
metadata_is Transient chunk taken = let none : taken - taken ≡ 0 = omega arith in rw none (omega arith)
metadata_is _ chunk taken = let left : place Persistent chunk taken - taken ≡ taken / (32 * chunk) + 2 = omega arith in rw left

-- the used sectors of a store, and those of them that are metadata
pub ruleset used_parts = (place_within, number_within, metadata_within, metadata_is)

-- different numbers have different places
pub ruleset places_apart = (place_less, place_data)
