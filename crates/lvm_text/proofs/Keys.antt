-- The keys of a section all differ, so each section in it is the one that its key gives.
use Rattle.lvm_text.proofs.Prelude.{ℕ, Bool, true, false, List, [], refl, All, AllPairs, Some, cond, arith, bytes_eq, or_right, bytes_eq-Decides, Values, Nothing, Section, Single, Several, Tree, Shown, Inner, Whole, Items, keys_of, sections_of, node_of, IsFound, hit, has_key, twice_lines}
use Rattle.std.proofs.lemmas.List.Elements.{All-cons, All-nil, All-tail}
use Rattle.std.proofs.lemmas.List.Kept.{AllPairs-cons}
use Rattle.std.specs.Prelude.{◌≡◌, ◌≢◌, ◌∷◌, ◌++◌}

pub no_hit : (b : Bool) (n : ℕ) (later : List ℕ) → hit b n later ≡ [] → (b ≡ false) × (later ≡ [])
no_hit true n later e = absurd cc
no_hit false n later e = (refl, e)

both_nothing : (xs ys : List ℕ) → xs ++ ys ≡ [] → ys ≡ []
both_nothing [] ys e = e
both_nothing (x ∷ xs) ys e = absurd cc

-- a key that is among the keys is also among more keys
has_more : (k q : List ℕ) (ks : List (List ℕ)) → has_key q ks ≡ true → has_key q (k ∷ ks) ≡ true
has_more k q ks h = or_right (bytes_eq k q) _ h

apart_from : (k q : List ℕ) (ks : List (List ℕ)) → has_key k ks ≡ false → has_key q ks ≡ true → q ≢ k
apart_from k q ks new old = λ e. let wrong : false ≡ true = cc in cc

apart : (v : Values) (q : List ℕ) (ks : List (List ℕ)) → twice_lines ks v ≡ [] → has_key q ks ≡ true → All (λ k. q ≢ k) (keys_of v)
apart Nothing q ks h old = All-nil (λ k. q ≢ k)
apart (Section k n inner rest) q ks h old =
    let x = no_hit (has_key k ks) n (twice_lines [] inner ++ twice_lines (k ∷ ks) rest) h in
    All-cons (λ k. q ≢ k) k (keys_of rest) (apart_from k q ks x.0 old) (apart rest q (k ∷ ks) (both_nothing (twice_lines [] inner) (twice_lines (k ∷ ks) rest) x.1) (has_more k q ks old))
apart (Single k n s rest) q ks h old =
    let x = no_hit (has_key k ks) n (twice_lines (k ∷ ks) rest) h in
    All-cons (λ k. q ≢ k) k (keys_of rest) (apart_from k q ks x.0 old) (apart rest q (k ∷ ks) x.1 (has_more k q ks old))
apart (Several k n ss rest) q ks h old =
    let x = no_hit (has_key k ks) n (twice_lines (k ∷ ks) rest) h in
    All-cons (λ k. q ≢ k) k (keys_of rest) (apart_from k q ks x.0 old) (apart rest q (k ∷ ks) x.1 (has_more k q ks old))

same_bytes : (k : List ℕ) → bytes_eq k k ≡ true
same_bytes k = (bytes_eq-Decides k k).1 refl

has_first : (k : List ℕ) (ks : List (List ℕ)) → has_key k (k ∷ ks) ≡ true
has_first k ks = rw (same_bytes k)

-- if no key occurs twice, all keys differ
pub keys_differ : (v : Values) (ks : List (List ℕ)) → twice_lines ks v ≡ [] → AllPairs (λ j k. j ≢ k) (keys_of v)
keys_differ Nothing ks h = λ i j d lt past. absurd (omega arith)
keys_differ (Section k n inner rest) ks h =
    let x = no_hit (has_key k ks) n (twice_lines [] inner ++ twice_lines (k ∷ ks) rest) h in
    let y = both_nothing (twice_lines [] inner) (twice_lines (k ∷ ks) rest) x.1 in
    AllPairs-cons (λ j k. j ≢ k) k (keys_of rest) (apart rest k (k ∷ ks) y (has_first k ks)) (keys_differ rest (k ∷ ks) y)
keys_differ (Single k n s rest) ks h =
    let x = no_hit (has_key k ks) n (twice_lines (k ∷ ks) rest) h in
    AllPairs-cons (λ j k. j ≢ k) k (keys_of rest) (apart rest k (k ∷ ks) x.1 (has_first k ks)) (keys_differ rest (k ∷ ks) x.1)
keys_differ (Several k n ss rest) ks h =
    let x = no_hit (has_key k ks) n (twice_lines (k ∷ ks) rest) h in
    AllPairs-cons (λ j k. j ≢ k) k (keys_of rest) (apart rest k (k ∷ ks) x.1 (has_first k ks)) (keys_differ rest (k ∷ ks) x.1)

other_bytes : (k q : List ℕ) (b : Bool) → bytes_eq k q ≡ b → k ≢ q → b ≡ false
other_bytes k q true e apart = absurd (apart ((bytes_eq-Decides k q).0 e))
other_bytes k q false e apart = refl

-- if a key differs from all keys of the values, it differs from the keys of their sections
sections_apart : (v : Values) (q : List ℕ) → All (λ k. q ≢ k) (keys_of v) → All (λ s. q ≢ s.0) (sections_of v)
sections_apart Nothing q h = All-nil (λ (s : List ℕ × Tree). q ≢ s.0)
sections_apart (Section k n inner rest) q h =
    All-cons (λ (s : List ℕ × Tree). q ≢ s.0) (k, record { line = n; values = inner }) (sections_of rest) (h 0 k (omega arith)) (sections_apart rest q (All-tail (λ k. q ≢ k) k (keys_of rest) h))
sections_apart (Single k n s rest) q h = sections_apart rest q (All-tail (λ k. q ≢ k) k (keys_of rest) h)
sections_apart (Several k n ss rest) q h = sections_apart rest q (All-tail (λ k. q ≢ k) k (keys_of rest) h)

found_later : (k : List ℕ) (shown : Shown) (rest : Values) (s : List ℕ × Tree) → k ≢ s.0 → IsFound rest s → cond (bytes_eq k s.0) (Some shown) (node_of s.0 rest) ≡ Some (record { line = s.1.line; content = Inner s.1 })
found_later k shown rest s apart found = rw (other_bytes k s.0 (bytes_eq k s.0) refl apart) found

found_here : (k : List ℕ) (shown : Shown) (rest : Values) → cond (bytes_eq k k) (Some shown) (node_of k rest) ≡ Some shown
found_here k shown rest = rw (same_bytes k)

-- if no key occurs twice, each section given with a key is what the key holds
pub sections_found : (v : Values) (ks : List (List ℕ)) → twice_lines ks v ≡ [] → All (IsFound v) (sections_of v)
sections_found Nothing ks h = All-nil (IsFound Nothing)
sections_found (Section k n inner rest) ks h =
    let x = no_hit (has_key k ks) n (twice_lines [] inner ++ twice_lines (k ∷ ks) rest) h in
    let y = both_nothing (twice_lines [] inner) (twice_lines (k ∷ ks) rest) x.1 in
    let own : Tree = record { line = n; values = inner } in
    let apart = sections_apart rest k (apart rest k (k ∷ ks) y (has_first k ks)) in
    let found = sections_found rest (k ∷ ks) y in
    All-cons (IsFound (Section k n inner rest)) (k, own) (sections_of rest) (found_here k (record { line = n; content = Inner own }) rest)
    (λ i d lt. found_later k (record { line = n; content = Inner own }) rest _ (apart i d lt) (found i d lt))
sections_found (Single k n s rest) ks h =
    let x = no_hit (has_key k ks) n (twice_lines (k ∷ ks) rest) h in
    let apart = sections_apart rest k (apart rest k (k ∷ ks) x.1 (has_first k ks)) in
    let found = sections_found rest (k ∷ ks) x.1 in
    λ i d lt. found_later k (record { line = n; content = Whole s }) rest _ (apart i d lt) (found i d lt)
sections_found (Several k n ss rest) ks h =
    let x = no_hit (has_key k ks) n (twice_lines (k ∷ ks) rest) h in
    let apart = sections_apart rest k (apart rest k (k ∷ ks) x.1 (has_first k ks)) in
    let found = sections_found rest (k ∷ ks) x.1 in
    λ i d lt. found_later k (record { line = n; content = Items ss }) rest _ (apart i d lt) (found i d lt)
