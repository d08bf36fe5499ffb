-- Whether a claim clashes with one before it, in the order of starts, follows from how far those reach.
use Rattle.dm_stack.proofs.Prelude.{ℕ, suc, Bool, true, false, cond, not, List, [], refl, sym, ap, ◌∙◌, arith, get_or, length, take, drop, fold, max, min, nat_lt, AllByRecursion, list_any, IsNonDecreasingBy, and-false, or-false, drop-cons, le-ltb, lt-ltb, get_or-take, get_or_default, length-take, take_more, recursion_from_All, fold-append, Use, Own, Reading, Serving, Lower, Numbered, may_share, is_same_lower, has_pair, held_end, no_reach, own_end, reach_meets, reach_next, reach_of, reach_with, rival_end, rivals}
use Rattle.dm_stack.specs.declared.claims.reach.Reach.{Reach}
use Rattle.std.specs.Prelude.{◌≡◌, ◌+◌, ◌<◌, ◌≤◌, ◌∷◌, ◌++◌, ◌||◌, ◌&&◌}

-- a claim that starts no earlier clashes with one of some claims exactly if it starts below their reach; a claim that it may share with adds nothing to the reach
one_meets : (share : Bool) (start first end last reach : ℕ) → first ≤ start
    → ((nat_lt (max first start) (min last end) && not share) || (nat_lt start end && nat_lt start reach)) ≡ (nat_lt start end && nat_lt start (max reach (cond share 0 last)))
one_meets true start first end last reach le = rw and-false (grind arith)
one_meets false start first end last reach le = grind (arith, le)

-- the end that a claim must not start below is the greatest end of those that it may not share with
rival_more : (kind other : Use) (last : ℕ) (reach : Reach)
    → rival_end other (record { own = max reach.own (own_end kind last); held = max reach.held (held_end kind last); all = max reach.all last }) ≡ max (rival_end other reach) (cond (may_share kind other) 0 last)
rival_more Own Own last reach = refl
rival_more Reading Own last reach = refl
rival_more Serving Own last reach = refl
rival_more kind other last reach = refl

-- the reach with one more claim, which may have too high a number or be on another device or disk
one_more : (counts same : Bool) (kind other : Use) (start first end last : ℕ) (reach : Reach) → first ≤ start
    → (((counts && true) && (same && (nat_lt (max first start) (min last end) && not (may_share kind other)))) || (nat_lt start end && nat_lt start (rival_end other reach)))
    ≡ (nat_lt start end && nat_lt start (rival_end other (cond (counts && same) (record { own = max reach.own (own_end kind last); held = max reach.held (held_end kind last); all = max reach.all last }) reach)))
one_more true true kind other start first end last reach le =
    rw (rival_more kind other last reach) (one_meets (may_share kind other) start first end last (rival_end other reach) le)
one_more counts same kind other start first end last reach le = refl

or_swap : (a b c : Bool) → ((a || b) || c) ≡ (b || (a || c))
or_swap true true c = refl
or_swap false true c = refl
or_swap a b c = refl

step : (count : ℕ) (one next : Numbered) (reach : Reach) → one.claim.start ≤ next.claim.start → nat_lt next.number count ≡ true
    → (rivals count one next || reach_meets reach next.claim) ≡ reach_meets (reach_next count next.claim.to reach one) next.claim
step count one next reach le below =
    rw below (one_more (nat_lt one.number count) (is_same_lower one.claim.to next.claim.to) one.claim.kind next.claim.kind next.claim.start one.claim.start next.claim.end one.claim.end reach le)

met_from : (count : ℕ) (next : Numbered) → nat_lt next.number count ≡ true → (reach : Reach) (before : List Numbered) → AllByRecursion (λ one. one.claim.start ≤ next.claim.start) before
    → (list_any (λ one. rivals count one next) before || reach_meets reach next.claim) ≡ reach_meets (fold (reach_next count next.claim.to) reach before) next.claim
met_from count next below reach [] starts = refl
met_from count next below reach (one ∷ before) starts =
    cc (or_swap (rivals count one next) (list_any (λ one. rivals count one next) before) (reach_meets reach next.claim), step count one next reach starts.0 below, met_from count next below (reach_next count next.claim.to reach one) before starts.1)

none_reached : (start end : ℕ) (kind : Use) → (nat_lt start end && nat_lt start (rival_end kind no_reach)) ≡ false
none_reached start end Own = grind arith
none_reached start end kind = grind arith

-- The claim at an index, in the order of starts

starts_before : (order : List Numbered) (k : ℕ) (next : Numbered) → IsNonDecreasingBy (λ one. one.claim.start) order → k < length order → next ≡ get_or order k next → AllByRecursion (λ one. one.claim.start ≤ next.claim.start) (take k order)
starts_before order k next sorted within is =
    recursion_from_All (λ one. one.claim.start ≤ next.claim.start) (take k order)
    (λ i d below.
    let long = length-take k order in
    let at : get_or (take k order) i d ≡ get_or order i d = get_or-take k order i d (omega arith) in
    omega (arith, sorted i k d (omega arith) within, ap (λ (one : Numbered). one.claim.start) at, ap (λ (one : Numbered). one.claim.start) (is ∙ get_or_default order k next d within)))

pub met : (count : ℕ) (order : List Numbered) (k : ℕ) (next : Numbered) → IsNonDecreasingBy (λ one. one.claim.start) order → k < length order → next ≡ get_or order k next → next.number < count
    → list_any (λ one. rivals count one next) (take k order) ≡ reach_meets (reach_of count next.claim.to (take k order)) next.claim
met count order k next sorted within is below =
    cc (sym (or-false (list_any (λ one. rivals count one next) (take k order))), none_reached next.claim.start next.claim.end next.claim.kind, met_from count next (lt-ltb next.number count below) no_reach (take k order) (starts_before order k next sorted within is))

-- a claim whose number isn't below count is compared with none
pub not_met : (count : ℕ) (next : Numbered) (before : List Numbered) → count ≤ next.number → list_any (λ one. rivals count one next) before ≡ false
not_met count next [] past = refl
not_met count next (one ∷ before) past =
    let here : rivals count one next ≡ false = rw (le-ltb next.number count past, and-false) in
    rw (here, not_met count next before past)

taken_next : (order : List Numbered) (k : ℕ) (next : Numbered) → k < length order → next ≡ get_or order k next → take (k + 1) order ≡ take k order ++ next ∷ []
taken_next order k next within is = rw is (take_more order k next within)

pub reach_more : (count : ℕ) (lower : Lower) (order : List Numbered) (k : ℕ) (next : Numbered) → k < length order → next ≡ get_or order k next
    → reach_of count lower (take (k + 1) order) ≡ reach_next count lower (reach_of count lower (take k order)) next
reach_more count lower order k next within is =
    ap (fold (reach_next count lower) no_reach) (taken_next order k next within is) ∙ fold-append (reach_next count lower) no_reach (take k order) (next ∷ [])

pub counted : (count : ℕ) (lower : Lower) (reach : Reach) (next : Numbered) → next.number < count → cond (is_same_lower next.claim.to lower) (reach_with reach next.claim) reach ≡ reach_next count lower reach next
counted count lower reach next below = cc (lt-ltb next.number count below)

pub uncounted : (count : ℕ) (lower : Lower) (reach : Reach) (next : Numbered) → count ≤ next.number → reach ≡ reach_next count lower reach next
uncounted count lower reach next past = cc (le-ltb next.number count past)

-- the search for a clashing pair, from the next claim on
search_here : (count : ℕ) (order : List Numbered) (k : ℕ) (next : Numbered) → k < length order → next ≡ get_or order k next
    → has_pair (rivals count) (take k order) (drop k order) ≡ (list_any (λ one. rivals count one next) (take k order) || has_pair (rivals count) (take (k + 1) order) (drop (k + 1) order))
search_here count order k next within is =
    let on : k + 1 ≡ suc k = omega arith in
    ap (has_pair (rivals count) (take k order)) (drop-cons order k next within ∙ ap (λ (one : Numbered). one ∷ drop (suc k) order) (sym is))
    ∙ ap (λ (before : List Numbered). list_any (λ one. rivals count one next) (take k order) || has_pair (rivals count) before (drop (suc k) order)) (sym (taken_next order k next within is))
    ∙ ap (λ (n : ℕ). list_any (λ one. rivals count one next) (take k order) || has_pair (rivals count) (take (k + 1) order) (drop n order)) (sym on)

pub search_more : (count : ℕ) (order : List Numbered) (k : ℕ) (next : Numbered) (all : Bool) → k < length order → next ≡ get_or order k next
    → list_any (λ one. rivals count one next) (take k order) ≡ false → has_pair (rivals count) (take k order) (drop k order) ≡ all → has_pair (rivals count) (take (k + 1) order) (drop (k + 1) order) ≡ all
search_more count order k next all within is none left =
    cc (search_here count order k next within is)

pub search_ends : (count : ℕ) (order : List Numbered) (k : ℕ) (next : Numbered) (all : Bool) → k < length order → next ≡ get_or order k next
    → list_any (λ one. rivals count one next) (take k order) ≡ true → has_pair (rivals count) (take k order) (drop k order) ≡ all → all ≡ true
search_ends count order k next all within is some left =
    cc (search_here count order k next within is)
