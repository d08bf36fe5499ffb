-- Stretches of paths: when two ranges have equally many, and how many two ranges have together.
use Rattle.dm_map.proofs.Prelude.{ℕ, zero, suc, Bool, true, false, cond, List, Option, refl, sym, ap, arith, and_parts, eq-eqb, mul-le-mul, mul-le-mul_left, is_same_chunk, PathStep, changes, is_same_path, is_same_step, stretches}
use Rattle.std.specs.Prelude.{◌≡◌, ◌+◌, ◌-◌, ◌*◌, ◌<◌, ◌≤◌, ◌∷◌, ◌==◌}

-- Steps of paths

other_head : (step next : PathStep) (path other : List PathStep) → is_same_step step next ≡ false → is_same_path (step ∷ path) (next ∷ other) ≡ false
other_head step next path other differs = rw differs refl

-- paths differ in their first step if the lines or the chunks there differ
pub other_start : (device start next : ℕ) (chunk later : Option ℕ) (path other : List PathStep) → (start == next) ≡ false
    → is_same_path (record { device = device; start = start; chunk = chunk } ∷ path) (record { device = device; start = next; chunk = later } ∷ other) ≡ false
other_start device start next chunk later path other differs =
    let here : is_same_step (record { device = device; start = start; chunk = chunk }) (record { device = device; start = next; chunk = later }) ≡ false = rw (eq-eqb device device refl, differs) refl in
    other_head (record { device = device; start = start; chunk = chunk }) (record { device = device; start = next; chunk = later }) path other here

pub other_chunk : (device start : ℕ) (chunk next : Option ℕ) (path other : List PathStep) → is_same_chunk chunk next ≡ false
    → is_same_path (record { device = device; start = start; chunk = chunk } ∷ path) (record { device = device; start = start; chunk = next } ∷ other) ≡ false
other_chunk device start chunk next path other differs =
    let here : is_same_step (record { device = device; start = start; chunk = chunk }) (record { device = device; start = start; chunk = next }) ≡ false = rw (eq-eqb device device refl, eq-eqb start start refl, differs) refl in
    other_head (record { device = device; start = start; chunk = chunk }) (record { device = device; start = start; chunk = next }) path other here

-- Ranges with equally many stretches

changes_same : (f h : ℕ → List PathStep) (s t n : ℕ) → ((i : ℕ) → i < n → is_same_path (f (s + i)) (f (s + suc i)) ≡ is_same_path (h (t + i)) (h (t + suc i))) → changes f s n ≡ changes h t n
changes_same f h s t zero each = refl
changes_same f h s t (suc n) each =
    let s0 : s ≡ s + 0 = omega arith in let s1 : suc s ≡ s + 1 = omega arith in let t0 : t + 0 ≡ t = omega arith in let t1 : t + 1 ≡ suc t = omega arith in
    let here : is_same_path (f s) (f (suc s)) ≡ is_same_path (h t) (h (suc t)) =
    cc (each 0 (omega arith)) in
    let later : changes f (suc s) n ≡ changes h (suc t) n = changes_same f h (suc s) (suc t) n (λ i within.
    cc ((let e : suc s + i ≡ s + suc i = omega arith in e), (let e : suc s + suc i ≡ s + suc (suc i) = omega arith in e), each (suc i) (omega (arith, within)), (let e : t + suc i ≡ suc t + i = omega arith in e), (let e : t + suc (suc i) ≡ suc t + suc i = omega arith in e))) in
    cc

-- ranges with equal paths have equally many stretches
pub stretches_same : (f h : ℕ → List PathStep) (s t n : ℕ) → ((i : ℕ) → i < n → f (s + i) ≡ h (t + i)) → stretches f s n ≡ stretches h t n
stretches_same f h s t zero each = refl
stretches_same f h s t (suc n) each = ap suc (changes_same f h s t n (λ i within.
    cc (each i (omega (arith, within)), each (suc i) (omega (arith, within)))))

-- two paths that stay the same below don't change below, so there are at most as many changes as above
fewer_here : (a b : Bool) → (a ≡ true → b ≡ true) → cond b 0 1 ≤ cond a 0 1
fewer_here true b same = rw (same refl) (omega arith)
fewer_here false true same = omega arith
fewer_here false false same = omega arith

changes_fewer : (f h : ℕ → List PathStep) (s t n : ℕ) → ((i : ℕ) → i < n → is_same_path (f (s + i)) (f (suc (s + i))) ≡ true → is_same_path (h (t + i)) (h (suc (t + i))) ≡ true) → changes h t n ≤ changes f s n
changes_fewer f h s t zero each = omega arith
changes_fewer f h s t (suc n) each =
    let s0 : s + 0 ≡ s = omega arith in let t0 : t + 0 ≡ t = omega arith in
    let here = fewer_here (is_same_path (f s) (f (suc s))) (is_same_path (h t) (h (suc t))) (rw (s0, t0) at (each 0 (omega arith))) in
    let later = changes_fewer f h (suc s) (suc t) n (λ i within.
    let e : s + suc i ≡ suc s + i = omega arith in let k : t + suc i ≡ suc t + i = omega arith in rw (e, k) at (each (suc i) (omega (arith, within)))) in
    omega (arith, here, later)

tail_same : (step next : PathStep) (path other : List PathStep) → is_same_path (step ∷ path) (next ∷ other) ≡ true → is_same_path path other ≡ true
tail_same step next path other same = (and_parts (is_same_step step next) (is_same_path path other) same).1

pub stretches_below : (f h : ℕ → List PathStep) (step : ℕ → PathStep) (s t n : ℕ) → ((i : ℕ) → i < n → f (s + i) ≡ step i ∷ h (t + i)) → stretches h t n ≤ stretches f s n
stretches_below f h step s t zero each = omega arith
stretches_below f h step s t (suc n) each =
    let few = changes_fewer f h s t n (λ i within same.
    let e : s + suc i ≡ suc (s + i) = omega arith in let k : t + suc i ≡ suc (t + i) = omega arith in
    let next : f (suc (s + i)) ≡ step (suc i) ∷ h (suc (t + i)) = rw (e, k) at (each (suc i) (omega (arith, within))) in
    tail_same (step i) (step (suc i)) (h (t + i)) (h (suc (t + i))) (rw (each i (omega (arith, within)), next) at same)) in
    omega (arith, few)

-- The stretches of two ranges together

changes-append : (f : ℕ → List PathStep) (s m n : ℕ) → changes f s (m + n) ≡ changes f s m + changes f (s + m) n
changes-append f s zero n = let e : 0 + n ≡ n = omega arith in let k : s + 0 ≡ s = omega arith in rw (e, k) (omega arith)
changes-append f s (suc m) n =
    let e : suc m + n ≡ suc (m + n) = omega arith in let k : s + suc m ≡ suc s + m = omega arith in
    let rest = changes-append f (suc s) m n in
    rw (e, k) (omega (arith, rest))

changes_apart : (f : ℕ → List PathStep) (s m n : ℕ) → is_same_path (f (s + m)) (f (suc (s + m))) ≡ false → changes f s (m + suc n) ≡ suc (changes f s m + changes f (suc (s + m)) n)
changes_apart f s m n apart =
    let both = changes-append f s m (suc n) in
    let here : changes f (s + m) (suc n) ≡ suc (changes f (suc (s + m)) n) = rw apart (omega arith) in
    omega (arith, both, here)

stretches_apart : (f : ℕ → List PathStep) (s m n : ℕ) → is_same_path (f (s + m)) (f (suc (s + m))) ≡ false → stretches f s (suc m + suc n) ≡ stretches f s (suc m) + stretches f (s + suc m) (suc n)
stretches_apart f s m n apart =
    let e : suc m + suc n ≡ suc (m + suc n) = omega arith in let k : s + suc m ≡ suc (s + m) = omega arith in
    let all = changes_apart f s m n apart in
    rw (e, k) (omega (arith, all))

changes_more : (f : ℕ → List PathStep) (s m n : ℕ) → m ≤ n → changes f s m ≤ changes f s n
changes_more f s m n few = let e : m + (n - m) ≡ n = omega (arith, few) in let both = changes-append f s m (n - m) in rw (sym e) (omega (arith, both))

stretches_more : (f : ℕ → List PathStep) (s m n : ℕ) → m ≤ n → stretches f s m ≤ stretches f s n
stretches_more f s zero n few = omega arith
stretches_more f s (suc m) zero few = absurd (omega (arith, few))
stretches_more f s (suc m) (suc n) few = let more = changes_more f s m n (omega (arith, few)) in omega (arith, more)

stretches_some : (f : ℕ → List PathStep) (s n : ℕ) → 1 ≤ n → 1 ≤ stretches f s n
stretches_some f s zero some = absurd (omega (arith, some))
stretches_some f s (suc n) some = omega arith

-- Bounds on searches by stretches, from the count before to the counts after each part

sum_bound : (levels a b c first next last : ℕ) → c ≡ a + b → next ≤ first + levels * a → last ≤ next + levels * b → last ≤ first + levels * c
sum_bound levels a b c first next last is one two =
    let sum : levels * (a + b) ≡ levels * a + levels * b = grind arith in
    rw is (omega (arith, sum, one, two))

-- the searches of two ranges, if the path changes between them
pub searches_on : (paths : ℕ → List PathStep) (levels sector done n first next last : ℕ) → (0 < done → is_same_path (paths (sector + done - 1)) (paths (sector + done)) ≡ false) → 1 ≤ n
    → next ≤ first + levels * stretches paths sector done → last ≤ next + levels * stretches paths (sector + done) n → last ≤ first + levels * stretches paths sector (done + n)
searches_on paths levels sector done zero first next last apart some one two = absurd (omega (arith, some))
searches_on paths levels sector zero (suc n) first next last apart some one two =
    let e : 0 + suc n ≡ suc n = omega arith in let k : sector + 0 ≡ sector = omega arith in
    sum_bound levels 0 (stretches paths (sector + 0) (suc n)) _ first next last (rw (e, k) (omega arith)) one two
searches_on paths levels sector (suc m) (suc n) first next last apart some one two =
    let before : sector + suc m - 1 ≡ sector + m = omega arith in let at : sector + suc m ≡ suc (sector + m) = omega arith in
    let here : is_same_path (paths (sector + m)) (paths (suc (sector + m))) ≡ false =
    cc (apart (omega arith)) in
    sum_bound levels (stretches paths sector (suc m)) (stretches paths (sector + suc m) (suc n)) _ first next last (stretches_apart paths sector m n here) one two

-- the searches of a prefix of a range
pub searches_more : (paths : ℕ → List PathStep) (levels sector m n first last : ℕ) → m ≤ n → last ≤ first + levels * stretches paths sector m → last ≤ first + levels * stretches paths sector n
searches_more paths levels sector m n first last few one = let more = mul-le-mul_left levels (stretches_more paths sector m n few) in omega (arith, one, more)

-- the searches below a line, where there are fewer levels
pub searches_below : (paths lower : ℕ → List PathStep) (fewer levels s t n first last : ℕ) → fewer ≤ levels → stretches lower t n ≤ stretches paths s n → last ≤ first + fewer * stretches lower t n → last ≤ first + levels * stretches paths s n
searches_below paths lower fewer levels s t n first last less few one =
    let more : fewer * stretches lower t n ≤ levels * stretches paths s n = mul-le-mul less few in omega (arith, one, more)

-- the searches of a line, and the one that found it
pub searches_line : (paths lower : ℕ → List PathStep) (levels s t n first next last : ℕ) → 1 ≤ levels → 1 ≤ n → next ≤ first + 1 → stretches paths s n ≡ stretches lower t n → last ≤ next + (levels - 1) * stretches lower t n
    → last ≤ first + levels * stretches paths s n
searches_line paths lower zero s t n first next last deep some one same two = absurd (omega (arith, deep))
searches_line paths lower (suc levels) s t n first next last deep some one same two =
    let most = stretches_some lower t n some in
    let sum : suc levels * stretches lower t n ≡ levels * stretches lower t n + stretches lower t n = grind arith in
    let fewer : suc levels - 1 ≡ levels = omega arith in
    rw same (omega (arith, one, rw fewer at two, sum, most))
