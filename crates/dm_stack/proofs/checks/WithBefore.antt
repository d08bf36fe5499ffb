-- The elements of a list, each with the elements before it, one by one.
use Rattle.dm_stack.proofs.Prelude.{ℕ, zero, suc, List, [], arith, refl, sym, ap, ◌∙◌, drop, get_or, length, take, drop_all, drop_more, get_or-map, length-map, WithBefore, with_before}
use Rattle.std.specs.Prelude.{◌≡◌, ◌+◌, ◌<◌, ◌≤◌, ◌∷◌}

-- an element with one more element in front of those before it
abbrev pub further_on : {X : Type 0} → X → WithBefore X → WithBefore X
further_on x later = record { before = x ∷ later.before; it = later.it }

length-with_before : {X : Type 0} (xs : List X) → length (with_before xs) ≡ length xs
length-with_before [] = refl
length-with_before (x ∷ xs) = ap suc (length-map (with_before xs) (further_on x) ∙ length-with_before xs)

get_or-with_before : {X : Type 0} (xs : List X) (i : ℕ) (other : WithBefore X) (x : X) → i < length xs → get_or (with_before xs) i other ≡ record { before = take i xs; it = get_or xs i x }
get_or-with_before [] i other x within = absurd (omega arith)
get_or-with_before (y ∷ ys) zero other x within = refl
get_or-with_before (y ∷ ys) (suc i) other x within =
    get_or-map (further_on y) (with_before ys) i other other (omega (arith, length-with_before ys)) ∙ ap (further_on y) (get_or-with_before ys i other x (omega arith))

-- the list from an index on begins with the element there
pub drop-with_before : {X : Type 0} (xs : List X) (i : ℕ) (x : X) → i < length xs → x ≡ get_or xs i x → drop i (with_before xs) ≡ record { before = take i xs; it = x } ∷ drop (i + 1) (with_before xs)
drop-with_before {X} xs i x within is =
    let here : WithBefore X = record { before = take i xs; it = x } in
    rw (← (get_or-with_before xs i here x within ∙ ap (λ (y : X). record { before = take i xs; it = y }) (sym is))) (drop_more (with_before xs) i here (omega (arith, length-with_before xs)))

-- the list from its end on is empty
pub none-with_before : {X : Type 0} (xs : List X) (i : ℕ) → length xs ≤ i → drop i (with_before xs) ≡ []
none-with_before xs i past = drop_all i (with_before xs) (omega (arith, length-with_before xs))
