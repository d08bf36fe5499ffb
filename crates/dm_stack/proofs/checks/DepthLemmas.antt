-- Depths: a named device is less deep, a depth below the cut-off is final, and a device on a cycle always reaches the cut-off.
use Rattle.dm_stack.proofs.Prelude.{ℕ, zero, suc, List, [], length, get_or, map, refl, ap, sym, ◌∙◌, arith, Contains, links_of, Names, Reaches, greatest, depth_to}
use Rattle.dm_stack.proofs.checks.PathLemmas.{Reaches-turned}
use Rattle.std.specs.Prelude.{◌≡◌, ◌<◌, ◌≤◌, ◌∷◌}

-- The greatest number of a list

greatest-at : (f : ℕ → ℕ) (xs : List ℕ) (k d : ℕ) → k < length xs → f (get_or xs k d) ≤ greatest (map f xs)
greatest-at f [] k d below = absurd (omega arith)
greatest-at f (x ∷ xs) zero d below = omega arith
greatest-at f (x ∷ xs) (suc k) d below = omega (arith, greatest-at f xs k d (omega arith))

pub greatest-above : (f : ℕ → ℕ) (xs : List ℕ) (x : ℕ) → Contains xs x → f x ≤ greatest (map f xs)
greatest-above f xs x (k, below, is_x) = rw (← is_x) (greatest-at f xs k x below)

pub greatest-le : (f : ℕ → ℕ) (xs : List ℕ) (most : ℕ) → ((x : ℕ) → f x ≤ most) → greatest (map f xs) ≤ most
greatest-le f [] most each = omega arith
greatest-le f (x ∷ xs) most each = omega (arith, each x, greatest-le f xs most each)

-- two functions have the same greatest value below a bound if they agree wherever the first is below it
greatest-agree : (f h : ℕ → ℕ) (xs : List ℕ) (bound : ℕ) → greatest (map f xs) < bound → ((x : ℕ) → f x < bound → h x ≡ f x) → greatest (map h xs) ≡ greatest (map f xs)
greatest-agree f h [] bound below agree = refl
greatest-agree f h (x ∷ xs) bound below agree = omega (arith, agree x (omega arith), greatest-agree f h xs bound (omega arith) agree)

-- Depths of devices

-- a depth is at most the number of levels followed
pub depth_to-le : (g : List (List ℕ)) (n d : ℕ) → depth_to g n d ≤ n
unfolding depth_to
depth_to-le g zero d = omega arith
depth_to-le g (suc n) d = omega (arith, greatest-le (λ e. depth_to g n e) (links_of g d) n (λ e. depth_to-le g n e))

-- a device is deeper than each one that it names
pub depth_to-named : (g : List (List ℕ)) (n d e : ℕ) → Names g d e → suc (depth_to g n e) ≤ depth_to g (suc n) d
unfolding depth_to
depth_to-named g n d e named = omega (arith, greatest-above (λ x. depth_to g n x) (links_of g d) e named)

-- a depth below the number of levels followed stays the same with more levels
pub depth_to-settled : (g : List (List ℕ)) (n m d : ℕ) → depth_to g n d < n → n ≤ m → depth_to g m d ≡ depth_to g n d
unfolding depth_to
depth_to-settled g (suc n) (suc m) d below le =
    ap suc (greatest-agree (λ e. depth_to g n e) (λ e. depth_to g m e) (links_of g d) n (omega arith) (λ e shallow. depth_to-settled g n m e shallow (omega arith)))
depth_to-settled g n m d below le = absurd (omega arith)

-- a device on a cycle is as deep as the number of levels followed
pub depth_to-cycle : (g : List (List ℕ)) (n d : ℕ) → Reaches g d d → n ≤ depth_to g n d
depth_to-cycle g zero d reaches = omega arith
depth_to-cycle g (suc n) d reaches =
    let next = Reaches-turned g d reaches in
    omega (arith, depth_to-cycle g n next.0 next.2, depth_to-named g n d next.0 next.1)

-- a device whose depth is below the number of levels followed isn't on a cycle
pub depth_to-no_cycle : (g : List (List ℕ)) (n d : ℕ) → depth_to g n d < n → Reaches g d d → ⊥
depth_to-no_cycle g n d shallow reaches = omega (arith, depth_to-cycle g n d reaches)

depth_to-step : (g : List (List ℕ)) (n d : ℕ) → depth_to g (suc n) d ≡ suc (greatest (map (λ e. depth_to g n e) (links_of g d)))
unfolding depth_to
depth_to-step g n d = refl

-- a device within the limit is one deeper than the deepest that it names
pub depth_to-deeper : (g : List (List ℕ)) (n d : ℕ) → depth_to g (suc n) d ≤ n → depth_to g (suc n) d ≡ suc (greatest (map (λ e. depth_to g (suc n) e) (links_of g d)))
depth_to-deeper g n d shallow =
    let here = depth_to-step g n d in
    here ∙ ap suc (sym (greatest-agree (λ e. depth_to g n e) (λ e. depth_to g (suc n) e) (links_of g d) n (omega (arith, here, shallow)) (λ e less. depth_to-settled g n (suc n) e less (omega arith))))
