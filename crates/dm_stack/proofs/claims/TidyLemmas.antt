-- The same pairs of claims clash in the order of starts and in the order of the list, so the same claim is the first that clashes with an earlier one.
use Rattle.dm_stack.proofs.Prelude.{inl, inr, ℕ, zero, suc, Bool, true, false, not, List, [], Option, Some, None, refl, sym, ap, subst, ◌∙◌, arith, get_or, length, take, drop, find, nat_lt, option_map, slice_get, All, AllPairs, after_first, position_or_len, IsPermutation, and-false, drop-cons, cases_lt, lt-ltb, ltb-true, not-true, true≢false, drop_all, get_or-take, length-take, take-append-drop, take_more, find_at, fails_before_first, passes_at_first, split_at_first, get_or_from_slice_get, slice_get-get_or, slice_get_within, all_pairs_push, All-permutation, IsPermutation-sym, length_permutation, Claim, Numbered, NeverMeet, IsFirstClash, IsCounted, clash_of, clash_with, has_pair, is_tidy_to, meets, numbered, rivals}
use Rattle.dm_stack.proofs.claims.MeetLemmas.{never_meet_from, meet_from, none_from, rivals_turn}
use Rattle.dm_stack.proofs.claims.PairLemmas.{no_pair_from_pairs, no_pair_moved, pairs_from_no_pair, pairs_from_search, search_from_pairs}
use Rattle.dm_stack.proofs.claims.SweepLemmas.{not_met}
use Rattle.std.specs.Prelude.{◌≡◌, ◌⊎◌, ◌+◌, ◌<◌, ◌≤◌, ◌∷◌, ◌++◌, ◌&&◌}

-- Claims with their numbers

numbered_append : (number : ℕ) (xs ys : List Claim) (later : ℕ) → later ≡ number + length xs → numbered number (xs ++ ys) ≡ numbered number xs ++ numbered later ys
numbered_append number [] ys later e = let same : later ≡ number = omega (arith, e) in rw (← same)
numbered_append number (x ∷ xs) ys later e = rw (numbered_append (suc number) xs ys later (omega (arith, e)))

pub numbered_next : (claims : List Claim) (k : ℕ) (claim : Claim) → k < length claims → claim ≡ get_or claims k claim → numbered 0 (take (k + 1) claims) ≡ numbered 0 (take k claims) ++ record { number = k; claim = claim } ∷ []
numbered_next claims k claim within is =
    let long = length-take k claims in
    cc (take_more claims k claim within, numbered_append 0 (take k claims) (claim ∷ []) k (omega arith))

pub numbered_length : (number : ℕ) (claims : List Claim) → length (numbered number claims) ≡ length claims
numbered_length number [] = refl
numbered_length number (x ∷ xs) = ap suc (numbered_length (suc number) xs)

numbered_at : (number : ℕ) (claims : List Claim) (k index : ℕ) (d : Numbered) → k < length claims → index ≡ number + k → get_or (numbered number claims) k d ≡ record { number = index; claim = get_or claims k d.claim }
numbered_at number [] k index d within e = absurd (omega (arith, within))
numbered_at number (x ∷ xs) zero index d within e = let same : number ≡ index = omega (arith, e) in rw same
numbered_at number (x ∷ xs) (suc k) index d within e = numbered_at (suc number) xs k index d (omega (arith, within)) (omega (arith, e))

numbered_all : (P : Claim → Type 0) (number : ℕ) (claims : List Claim) → All P claims → All (λ next. P next.claim) (numbered number claims)
numbered_all P number claims all k d within =
    let below : k < length claims = omega (arith, within, numbered_length number claims) in rw (numbered_at number claims k (number + k) d below refl) (all k d.claim below)

pub counted_kept : (devices disks : ℕ) (claims : List Claim) (order : List Numbered) → IsPermutation (numbered 0 claims) order → All (λ claim. IsCounted devices disks claim.to) claims → All (λ next. IsCounted devices disks next.claim.to) order
counted_kept devices disks claims order moved counted = All-permutation (λ next. IsCounted devices disks next.claim.to) (numbered 0 claims) order moved (numbered_all (λ claim. IsCounted devices disks claim.to) 0 claims counted)

pub order_length : (claims : List Claim) (order : List Numbered) → IsPermutation (numbered 0 claims) order → length order ≡ length claims
order_length claims order moved = length_permutation (numbered 0 claims) order moved ∙ numbered_length 0 claims

-- Pairs of claims with numbers below count

counted_pair : (count i j : ℕ) (b : Bool) → i < count → j < count → ((nat_lt i count && nat_lt j count) && b) ≡ b
counted_pair count i j b p q = rw (lt-ltb i count p, lt-ltb j count q)

rivals_at : (count : ℕ) (claims : List Claim) (i j : ℕ) (d : Numbered) → i < length claims → j < length claims
    → rivals count (get_or (numbered 0 claims) i d) (get_or (numbered 0 claims) j d) ≡ ((nat_lt i count && nat_lt j count) && meets (get_or claims i d.claim) (get_or claims j d.claim))
rivals_at count claims i j d p q = rw (numbered_at 0 claims i i d p (omega arith), numbered_at 0 claims j j d q (omega arith))

never_meet_below : (count : ℕ) (claims : List Claim) → AllPairs (λ x y. rivals count x y ≡ false) (numbered 0 claims) → AllPairs NeverMeet (take count claims)
never_meet_below count claims pairs i j d less within =
    let long = length-take count claims in
    let all = numbered_length 0 claims in
    let none : meets (get_or claims i d) (get_or claims j d) ≡ false =
    sym (counted_pair count i j (meets (get_or claims i d) (get_or claims j d)) (omega arith) (omega arith)) ∙ sym (rivals_at count claims i j (record { number = 0; claim = d }) (omega arith) (omega arith))
    ∙ pairs i j (record { number = 0; claim = d }) less (omega arith) in
    rw (get_or-take count claims i d (omega arith), get_or-take count claims j d (omega arith)) (never_meet_from _ _ none)

no_rivals_below : (count : ℕ) (claims : List Claim) → AllPairs NeverMeet (take count claims) → AllPairs (λ x y. rivals count x y ≡ false) (numbered 0 claims)
no_rivals_below count claims pairs i j d less within =
    let all = numbered_length 0 claims in
    rivals_at count claims i j d (omega arith) (omega arith) ∙ by (nat_lt j count) refl (omega arith)
  where
    by : (b : Bool) → nat_lt j count ≡ b → j < length claims → ((nat_lt i count && nat_lt j count) && meets (get_or claims i d.claim) (get_or claims j d.claim)) ≡ false
    by true e within =
        let below = ltb-true j count e in
        let long = length-take count claims in
        let one = get_or-take count claims i d.claim (omega arith) in
        let other = get_or-take count claims j d.claim below in
        cc (counted_pair count i j (meets (get_or claims i d.claim) (get_or claims j d.claim)) (omega arith) below, one, ap (meets (get_or (take count claims) i d.claim)) (sym other), none_from _ _ (pairs i j d.claim less (omega arith)))
    by false e within = rw (e, and-false)

-- if the walk finds no clash, no two claims below count clash
pub tidy_below : (count : ℕ) (claims : List Claim) (order : List Numbered) → IsPermutation (numbered 0 claims) order → is_tidy_to count order ≡ true → AllPairs NeverMeet (take count claims)
tidy_below count claims order moved tidy =
    let found = pairs_from_search (rivals count) [] order (not-true _ tidy) (λ i j d less within. absurd (omega (arith, within))) in
    let back = no_pair_moved (rivals count) order (numbered 0 claims) (IsPermutation-sym (numbered 0 claims) order moved) (no_pair_from_pairs (rivals count) order (rivals_turn count) found) in
    never_meet_below count claims (pairs_from_no_pair (rivals count) (numbered 0 claims) back)

pub clash_below : (count : ℕ) (claims : List Claim) (order : List Numbered) → IsPermutation (numbered 0 claims) order → is_tidy_to count order ≡ false → AllPairs NeverMeet (take count claims) → ⊥
clash_below count claims order moved clash pairs =
    let there = no_pair_moved (rivals count) (numbered 0 claims) order moved (no_pair_from_pairs (rivals count) (numbered 0 claims) (rivals_turn count) (no_rivals_below count claims pairs)) in
    let none = search_from_pairs (rivals count) [] order (pairs_from_no_pair (rivals count) order there) in
    true≢false (sym (ap not none) ∙ clash)

none_to : (before order : List Numbered) → has_pair (rivals 0) before order ≡ false
none_to before [] = refl
none_to before (next ∷ order) = rw (not_met 0 next before (omega arith), none_to (before ++ next ∷ []) order)

pub tidy_to_none : (order : List Numbered) → is_tidy_to 0 order ≡ true
tidy_to_none order = ap not (none_to [] order)

pub some_order : (order : List Numbered) → is_tidy_to (length order) order ≡ false → 0 < length order
some_order [] clash = absurd (true≢false clash)
some_order (next ∷ order) clash = omega arith

-- The clash with the claim at an index

pub clash_none : (before : List Claim) (k : ℕ) (later : Claim) → length before ≤ k → clash_with (drop k before) later ≡ None
clash_none before k later past = rw (drop_all k before past)

pub clash_here : (before : List Claim) (k : ℕ) (earlier later : Claim) → k < length before → earlier ≡ get_or before k earlier → meets earlier later ≡ true → clash_with (drop k before) later ≡ Some (clash_of earlier later)
clash_here before k earlier later within is met =
    rw ((drop-cons before k earlier within ∙ ap (λ (one : Claim). one ∷ drop (suc k) before) (sym is)), met)

-- if a search finds nothing, no element passes the test
none_found : (test : Claim → Bool) (xs : List Claim) → find test xs ≡ None → All (λ one. test one ≡ false) xs
none_found test xs e k d within = fails_before_first test xs k d (by (position_or_len test xs) (cases_lt (position_or_len test xs) (length xs)) (sym (find_at test xs) ∙ e))
  where
    by : (n : ℕ) → (n < length xs) ⊎ (length xs ≤ n) → slice_get xs n ≡ None → k < n
    by n (inl found) none = let some = slice_get-get_or xs n d found in absurd cc
    by n (inr past) none = omega (arith, within, past)

pub first_is : (claims : List Claim) (order : List Numbered) (index : ℕ) (later : Claim) → IsPermutation (numbered 0 claims) order → index < length claims → later ≡ get_or claims index later
    → is_tidy_to index order ≡ true → is_tidy_to (index + 1) order ≡ false → IsFirstClash claims (clash_with (take index claims) later)
first_is claims order index later moved within is tidy clash = by (find (λ one. meets one later) (take index claims)) refl
  where
    pairs : AllPairs NeverMeet (take index claims)
    pairs = tidy_below index claims order moved tidy

    more : take (index + 1) claims ≡ take index claims ++ later ∷ []
    more = rw is (take_more claims index later within)

    whole : claims ≡ take index claims ++ later ∷ drop (suc index) claims
    whole = rw (← (drop-cons claims index later within ∙ ap (λ (one : Claim). one ∷ drop (suc index) claims) (sym is))) (sym (take-append-drop index claims))

    by : (result : Option Claim) → find (λ one. meets one later) (take index claims) ≡ result → IsFirstClash claims (option_map (λ one. clash_of one later) result)
    by None e =
        let none = none_found (λ one. meets one later) (take index claims) e in
        absurd (clash_below (index + 1) claims order moved clash (subst (AllPairs NeverMeet) (sym more) (all_pairs_push NeverMeet (take index claims) later pairs (λ k d below. never_meet_from _ _ (none k d below)))))
    by (Some earlier) e =
        let test = λ (one : Claim). meets one later in
        let before = take index claims in
        let place = position_or_len test before in
        let there : slice_get before place ≡ Some earlier = sym (find_at test before) ∙ e in
        let inside = slice_get_within before place earlier there in
        let here = get_or_from_slice_get before place earlier earlier there in
        let split = rw here at (split_at_first test before earlier inside) in
        let met = meet_from earlier later (ap test (sym here) ∙ passes_at_first test before earlier inside) in
        record {
          before = take place before;
          earlier = earlier;
          between = after_first test before;
          later = later;
          after = drop (suc index) claims;
          split = rw (← split) whole;
          first = subst (AllPairs NeverMeet) split pairs;
          earliest = λ k d below. let short = length-take place before in rw (get_or-take place before k d (omega arith)) (never_meet_from _ _ (fails_before_first test before k d (omega arith)));
          meet = met;
          least = λ sector below other. omega (arith, below, other.here.from, other.there.from);
          of_earlier = refl;
          of_later = refl;
        }
