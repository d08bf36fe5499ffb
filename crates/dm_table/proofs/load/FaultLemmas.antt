-- Lemmas about checks that find faults, and checks that find none.
use Rattle.dm_table.proofs.Prelude.{length, arith, inl, inr, ℕ, suc, Bool, true, false, cond, List, [], Option, Some, None, Result, Ok, Err, refl, ap, AllByRecursion, cases_Bool, Part, Source, LoadKind, Memory, LoadFault, part_word, Answers, fault_at, first_or, first_fault, faults_from, unless, unended}
use Rattle.std.specs.Prelude.{◌≡◌, ◌≢◌, ◌≤◌, ◌∷◌}

-- ---- one check followed by others

-- if a check finds a fault, later checks don't matter
pub first_or-found : (faults : List LoadFault) (later : Option LoadFault) (fault : LoadFault) → first_or faults None ≡ Some fault → first_or faults later ≡ Some fault
first_or-found [] later fault h = absurd cc
first_or-found (other ∷ faults) later fault h = h

-- if a check finds no fault, the result is that of the later checks
pub first_or-passed : (faults : List LoadFault) (later : Option LoadFault) → first_or faults None ≡ None → first_or faults later ≡ later
first_or-passed [] later h = refl
first_or-passed (fault ∷ faults) later h = absurd cc

-- if there is no fault in all, neither this check nor the later ones find any
pub first_or-none : (faults : List LoadFault) (later : Option LoadFault) → first_or faults later ≡ None → (faults ≡ []) × (later ≡ None)
first_or-none [] later h = (refl, h)
first_or-none (fault ∷ faults) later h = absurd cc

-- if checks find no fault together, none of them finds any
pub first_fault-none : (checks : List (List LoadFault)) → first_fault checks ≡ None → AllByRecursion (λ check. check ≡ []) checks
first_fault-none [] h = tt
first_fault-none (check ∷ checks) h = let a = first_or-none check (first_fault checks) h in (a.0, first_fault-none checks a.1)

pub first_fault-all : (checks : List (List LoadFault)) → AllByRecursion (λ check. check ≡ []) checks → first_fault checks ≡ None
first_fault-all [] h = refl
first_fault-all (check ∷ checks) h = rw h.0 (first_fault-all checks h.1)

-- ---- the faults of one check

pub cond_none : {X : Type 0} (x : X) (later : List X) (b : Bool) → cond b (x ∷ later) later ≡ [] → (b ≡ false) × (later ≡ [])
cond_none x later true e = absurd cc
cond_none x later false e = (refl, e)

-- if a check finds no fault, no element is bad
pub faults_from-nil : {X : Type 0} (part : Part) (kind : LoadKind) (bad : X → Bool) (n : ℕ) (xs : List X) → faults_from part kind bad n xs ≡ [] → AllByRecursion (λ x. bad x ≡ false) xs
faults_from-nil part kind bad n [] e = tt
faults_from-nil part kind bad n (x ∷ xs) e =
    let a = cond_none (fault_at part kind n) (faults_from part kind bad (suc n) xs) (bad x) e in
    (a.0, faults_from-nil part kind bad (suc n) xs a.1)

-- if no element is bad, a check finds no fault
pub faults_from-good : {X : Type 0} (part : Part) (kind : LoadKind) (bad : X → Bool) (n : ℕ) (xs : List X) → AllByRecursion (λ x. bad x ≡ false) xs → faults_from part kind bad n xs ≡ []
faults_from-good part kind bad n [] h = refl
faults_from-good part kind bad n (x ∷ xs) h = rw (h.0, faults_from-good part kind bad (suc n) xs h.1)

-- if no fault says that the last line is unterminated, it is empty
pub unended-nil : (part : Part) (n : ℕ) (rest : List ℕ) → unended part n rest ≡ [] → rest ≡ []
unended-nil part n [] e = refl
unended-nil part n (byte ∷ bytes) e = absurd cc

-- ---- the result of a call

-- a call returns a value only if no fault was found, and it is that value
pub unless-ok : {F X : Type 0} (found : Option F) (x y : X) → unless found x ≡ Ok y → (found ≡ None) × (x ≡ y)
unless-ok None x y h = (refl, cc)
unless-ok (Some fault) x y h = absurd cc

pub unless-err : {F X : Type 0} (found : Option F) (x : X) (fault : F) → unless found x ≡ Err fault → found ≡ Some fault
unless-err None x fault h = absurd cc
unless-err (Some other) x fault h = let same : other ≡ fault = cc in ap Some same

-- a fault of a first step is a fault of the whole call
pub Answers-refused : {X Y V W : Type 0} (part : Part) (view : X → Y) (whole : V → W) (fault : LoadFault) (faults : List LoadFault) (later : Option LoadFault) (y : Y) (w : W)
    → Answers {X = X} {Y = Y} part view (Err fault) (unless (first_or faults None) y) → Answers {X = V} {Y = W} part whole (Err fault) (unless (first_or faults later) w)
Answers-refused part view whole fault faults later y w h = (
  h.0,
  λ other. let found = first_or-found faults later fault (unless-err (first_or faults None) y fault (h.1 other)) in rw found,
)

-- `answer` is right for `reading` if `reading` is the fault that was found, or the value if none was found
pub Answers-unless : {X Y : Type 0} (part : Part) (view : X → Y) (found : Option LoadFault) (x : X) (answer : Result X LoadFault) (reading : Result Y LoadFault) → answer ≡ unless found x
    → ((fault : LoadFault) → found ≡ Some fault → (fault.kind ≢ Memory) × (reading ≡ Err fault)) → (found ≡ None → reading ≡ Ok (view x)) → Answers part view answer reading
Answers-unless part view None x answer reading is refused taken = rw is (taken refl)
Answers-unless part view (Some fault) x answer reading is refused taken = let r = refused fault refl in rw is (λ memory. absurd (r.0 memory), λ other. r.1)

-- if a first step finds no fault, the whole call returns what the later steps return
pub unless-passed : {Y W : Type 0} (faults : List LoadFault) (later : Option LoadFault) (y taken : Y) (w : W)
    → unless (first_or faults None) y ≡ Ok taken → (y ≡ taken) × (unless (first_or faults later) w ≡ unless later w)
unless-passed faults later y taken w h =
    let a = unless-ok (first_or faults None) y taken h in
    (a.1, rw (first_or-passed faults later a.0))

-- ---- the kinds of the faults

-- the fault isn't one of memory
abbrev pub IsOfText : LoadFault → Type 0
IsOfText fault = fault.kind ≢ Memory

pub faults_from-text : {X : Type 0} (part : Part) (kind : LoadKind) (bad : X → Bool) (n : ℕ) (xs : List X) → kind ≢ Memory → AllByRecursion IsOfText (faults_from part kind bad n xs)
faults_from-text part kind bad n [] h = tt
faults_from-text part kind bad n (x ∷ xs) h = elim (cases_Bool (bad x)) [
  | inl e ↦ rw e (h, faults_from-text part kind bad (suc n) xs h)
  | inr e ↦ rw e (faults_from-text part kind bad (suc n) xs h)
]

pub unended-text : (part : Part) (n : ℕ) (rest : List ℕ) → AllByRecursion IsOfText (unended part n rest)
unended-text part n [] = tt
unended-text part n (byte ∷ bytes) = (λ e. cc, tt)

-- if no check finds a fault of memory, the first fault of all checks isn't one of memory
pub first_fault-text : (checks : List (List LoadFault)) (fault : LoadFault) → AllByRecursion (AllByRecursion IsOfText) checks → first_fault checks ≡ Some fault → fault.kind ≢ Memory
first_fault-text [] fault h e = absurd cc
first_fault-text ([] ∷ checks) fault h e = first_fault-text checks fault h.1 e
first_fault-text ((other ∷ faults) ∷ checks) fault h e = let same : other ≡ fault = cc in rw (← same) h.0.0

-- ---- the length of the words in a message

pub part_short : (part : Part) → length (part_word part) ≤ 6
part_short Source = omega arith
part_short part = omega arith
