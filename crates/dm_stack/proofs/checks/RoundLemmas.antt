-- One round over the depths of n levels gives those of n + 1, and a round that changes nothing is the last.
use Rattle.dm_stack.proofs.Prelude.{ℕ, zero, suc, List, [], length, get_or, map, replicate, Vec, refl, ap, ◌∙◌, arith, Contains, All, range_with_len, get_or-map, get_or-replicate, length-map, length-replicate, All-map, All-same, Contains-get_or, get_or-map-range_with_len, length-map-range_with_len, fill_by_all, links_in, links_of, Names, IsClosed, Reaches, greatest, depth_to, depths_to, depth_over}
use Rattle.std.specs.Global.{Global}
use Rattle.dm_stack.proofs.checks.PathLemmas.{links_of-at}
use Rattle.dm_stack.proofs.checks.DepthLemmas.{depth_to-le, depth_to-no_cycle}
use Rattle.std.specs.Prelude.{◌≡◌, ◌+◌, ◌-◌, ◌<◌, ◌≤◌, ◌∷◌}

greatest-same : (f h : ℕ → ℕ) (xs : List ℕ) → ((x : ℕ) → Contains xs x → f x ≡ h x) → greatest (map f xs) ≡ greatest (map h xs)
greatest-same f h [] same = refl
greatest-same f h (x ∷ xs) same = omega (arith, same x (zero, omega arith, refl), greatest-same f h xs (λ y there. same y (suc there.0, omega (arith, there.1), there.2)))

-- the depth of a device is the element at its index
pub depths_to-at : (g : List (List ℕ)) (n d : ℕ) → d < length g → get_or (depths_to g n) d 0 ≡ depth_to g n d
depths_to-at g n d below = get_or-map-range_with_len (λ x. depth_to g n x) 0 (length g) d d 0 below (omega arith)

-- one round adds one level
round_at : (g : List (List ℕ)) (n : ℕ) → IsClosed g → (d : ℕ) → d < length g → get_or (map (depth_over (depths_to g n)) g) d 0 ≡ depth_to g (suc n) d
unfolding depth_to
round_at g n closed d below =
    get_or-map (depth_over (depths_to g n)) g d [] 0 below
    ∙ ap suc (greatest-same (λ e. get_or (depths_to g n) e 0) (λ e. depth_to g n e) (links_of g d) (λ e named. depths_to-at g n e (closed d e named)))

pub depths_to-round : (g : List (List ℕ)) (n : ℕ) → IsClosed g → map (depth_over (depths_to g n)) g ≡ depths_to g (suc n)
depths_to-round g n closed = fill_by_all (λ d. depth_to g (suc n) d) (map (depth_over (depths_to g n)) g) (length g) 0 (length-map g (depth_over (depths_to g n))) (round_at g n closed)

-- if a round changes nothing, no later one does
pub depths_to-last : (g : List (List ℕ)) (n k : ℕ) → IsClosed g → depths_to g (suc n) ≡ depths_to g n → depths_to g (n + k) ≡ depths_to g n
depths_to-last g n zero closed last = ap (depths_to g) (omega arith)
depths_to-last g n (suc k) closed last =
    let e : n + suc k ≡ suc (n + k) = omega arith in
    rw e (cc (depths_to-round g (n + k) closed, depths_to-last g n k closed last, depths_to-round g n closed))

-- with no level followed, all depths are 0
pub depths_to-none : (g : List (List ℕ)) (n : ℕ) → n ≡ length g → replicate n 0 ≡ depths_to g 0
unfolding depth_to
depths_to-none g n e = fill_by_all (λ d. depth_to g 0 d) (replicate n 0) (length g) 0 (length-replicate n 0 ∙ e) (λ k below. get_or-replicate n k 0 0 (omega (arith, below, e)))

pub depths_to-length : (g : List (List ℕ)) (n : ℕ) → length (depths_to g n) ≡ length g
depths_to-length g n = length-map-range_with_len (λ d. depth_to g n d) 0 (length g)

pub depths_to-bounded : (g : List (List ℕ)) (n most : ℕ) → n ≤ most → All (λ depth. depth ≤ most) (depths_to g n)
depths_to-bounded g n most le = All-map (λ depth. depth ≤ most) (λ d. depth_to g n d) (range_with_len 0 (length g)) (λ k d below. omega (arith, depth_to-le g n (get_or (range_with_len 0 (length g)) k d)))

-- every index in a list of links is one of the depths, if every named index is
pub named_within : (links : List (Vec ℕ Global)) (n d : ℕ) (named : Vec ℕ Global) → d < length links → named ≡ get_or links d named → ((d e : ℕ) → Names (links_in links) d e → e < n) → (named_items : List ℕ) → named_items ≡ named.items → All (λ e. e < n) named_items
named_within links n d named below is_named closed named_items is_items k default inner =
    closed d (get_or named_items k default) (rw (links_of-at links d named below is_named, ← is_items) (Contains-get_or named_items k default inner))

-- a round after n levels gives the depths for n + 1
pub round_after : (g : List (List ℕ)) (n : ℕ) (before passed after : List ℕ) → IsClosed g → before ≡ depths_to g n → passed ≡ before → after ≡ map (depth_over passed) g → after ≡ depths_to g (n + 1)
round_after g n before passed after closed is_before is_passed is_after =
    let e : suc n ≡ n + 1 = omega arith in
    rw (← e) (cc (depths_to-round g n closed))

-- a round that changes nothing gives the depths for any greater number of levels
pub round_last : (g : List (List ℕ)) (n most : ℕ) (before after : List ℕ) → IsClosed g → n < most → before ≡ depths_to g n → after ≡ depths_to g (n + 1) → after ≡ before → before ≡ depths_to g most
round_last g n most before after closed less is_before is_after same =
    let e : n + (most - n) ≡ most = omega arith in
    let next : suc n ≡ n + 1 = omega arith in
    let unchanged : depths_to g (suc n) ≡ depths_to g n = cc in
    cc (depths_to-last g n (most - n) closed unchanged)

-- every named index is one of the depths for n levels
pub within_depths : (links : List (Vec ℕ Global)) (n : ℕ) (before passed : List ℕ) → IsClosed (links_in links) → before ≡ depths_to (links_in links) n → passed ≡ before → (d e : ℕ) → Names (links_in links) d e → e < length passed
within_depths links n before passed closed is_before is_passed d e named = omega (arith, closed d e named, ap length (is_passed ∙ is_before), depths_to-length (links_in links) n)

-- depths for n levels are at most any number from n on
pub bounded_depths : (g : List (List ℕ)) (n most : ℕ) (before passed : List ℕ) → n ≤ most → before ≡ depths_to g n → passed ≡ before → All (λ depth. depth ≤ most) passed
bounded_depths g n most before passed le is_before is_passed = All-same (λ depth. depth ≤ most) passed (depths_to g n) (is_passed ∙ is_before) (depths_to-bounded g n most le)

-- there are as many depths as devices
pub depths-length : (links : List (Vec ℕ Global)) (n : ℕ) (depths : List ℕ) → depths ≡ depths_to (links_in links) n → length depths ≡ length links
depths-length links n depths is = ap length is ∙ depths_to-length (links_in links) n ∙ length-map links (λ v. v.items)

-- a device with a depth below the number of levels followed isn't on a cycle
pub shallow_at : (links : List (Vec ℕ Global)) (n d : ℕ) (depths : List ℕ) → depths ≡ depths_to (links_in links) n → d < length depths → get_or depths d 0 < n → Reaches (links_in links) d d → ⊥
shallow_at links n d depths is below shallow =
    let inside : d < length (links_in links) = omega (arith, ap length is, depths_to-length (links_in links) n) in
    depth_to-no_cycle (links_in links) n d (omega (arith, ap (λ (xs : List ℕ). get_or xs d 0) is, depths_to-at (links_in links) n d inside))
