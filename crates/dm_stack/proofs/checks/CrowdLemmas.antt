-- How many chunks all stores have room for, counted line by line.
use Rattle.dm_stack.proofs.Prelude.{ℕ, Bool, false, nat_lt, List, [], None, arith, refl, sym, ap, ◌∙◌, zero-add, map, drop, get_or, length, sum_by, le-ltb, ltb-false, sum_by-cons, Place, Line, Target, LoadKind, Limit, LoadFault, fault, faults_by, first_or, Description, all_places, places_of, resolved_target, HasGoodChunk, IsSound, WithBefore, all_lines, checks_after, target_places, with_before, first_fault-none, cond_none}
use Rattle.dm_table.specs.declared.tables.table.Target.TheVariants as targets
use Rattle.dm_stack.proofs.checks.PlacedLemmas.{next_before}
use Rattle.dm_stack.proofs.checks.WithBefore.{further_on}
use Rattle.std.specs.Prelude.{◌≡◌, ◌+◌, ◌<◌, ◌≤◌, ◌∷◌, ◌++◌}

-- Faults of mapped elements, and of tests that agree

by_made : {X Y : Type 0} (kind : LoadKind) (place : Y → Place) (bad : Y → Bool) (f : X → Y) (xs : List X) → faults_by kind place bad (map f xs) ≡ faults_by kind (λ x. place (f x)) (λ x. bad (f x)) xs
by_made kind place bad f [] = refl
by_made kind place bad f (x ∷ xs) = rw (by_made kind place bad f xs)

pub by_same : {X : Type 0} (kind : LoadKind) (place : X → Place) (bad worse : X → Bool) (xs : List X) → ((x : X) → bad x ≡ worse x) → faults_by kind place bad xs ≡ faults_by kind place worse xs
by_same kind place bad worse [] same = refl
by_same kind place bad worse (x ∷ xs) same = let here = same x in let later = by_same kind place bad worse xs same in rw (here, later)

-- The faults from a line on, if the stores of the lines before have room for `used` chunks

abbrev pub line_places : Description → Line → ℕ
line_places stack line = target_places stack line.target

-- the places of a line's store are the same with ids in place of names, if the chunk size is a permitted one
pub places_are : (stack : Description) (target : Target) → HasGoodChunk target → places_of stack (resolved_target stack target) ≡ target_places stack target
places_are stack (targets.Snapshot origin store kind chunk) good = rw good
places_are stack _ good = refl

abbrev pub passes_most : Description → ℕ → WithBefore Line → Bool
passes_most stack used line = nat_lt 4194304 (used + (sum_by (line_places stack) line.before + line_places stack line.it))

abbrev pub crowded_from : Description → ℕ → List Line → List LoadFault
crowded_from stack used lines = faults_by Limit (λ line. line.it.at) (passes_most stack used) (with_before lines)

crowded_next : (stack : Description) (used : ℕ) (line : Line) (lines : List Line) → used + line_places stack line ≤ 4194304 → crowded_from stack used (line ∷ lines) ≡ crowded_from stack (used + line_places stack line) lines
crowded_next stack used line lines few =
    let good : nat_lt 4194304 (used + (0 + line_places stack line)) ≡ false = le-ltb 4194304 (used + (0 + line_places stack line)) (omega (arith, few)) in
    rw good (by_made Limit (λ (l : WithBefore Line). l.it.at) (passes_most stack used) (further_on line) (with_before lines)
    ∙ by_same Limit (λ (l : WithBefore Line). l.it.at) (λ l. passes_most stack used (further_on line l)) (passes_most stack (used + line_places stack line)) (with_before lines)
    (λ l. ap (nat_lt 4194304) (let sum = sum_by-cons (line_places stack) line l.before in omega (arith, sum))))

-- The next line of a device, with the lines of later devices after it

pub crowded_passes : (stack : Description) (used places : ℕ) (items rest : List Line) (i : ℕ) (line : Line) → i < length items → line ≡ get_or items i line → places ≡ line_places stack line → used + places ≤ 4194304
    → first_or (crowded_from stack (used + places) (drop (i + 1) items ++ rest)) None ≡ first_or (crowded_from stack used (drop i items ++ rest)) None
crowded_passes stack used places items rest i line within is are few =
    rw are (cc (crowded_next stack used line (drop (i + 1) items ++ rest) (omega (arith, are, few)), next_before items rest i line within is))

-- If no line is at fault, the stores have room for no more chunks than the limit

few_from : (stack : Description) (used : ℕ) (lines : List Line) → used ≤ 4194304 → crowded_from stack used lines ≡ [] → used + sum_by (line_places stack) lines ≤ 4194304
few_from stack used [] few none = omega (arith, few)
few_from stack used (line ∷ lines) few none =
    let first : WithBefore Line = record { before = []; it = line } in
    let parts = cond_none (fault Limit line.at) _ (passes_most stack used first) none in
    let here : used + line_places stack line ≤ 4194304 = let good = ltb-false 4194304 (used + (0 + line_places stack line)) parts.0 in omega (arith, good) in
    let rest = few_from stack (used + line_places stack line) lines here (sym (crowded_next stack used line lines here) ∙ none) in
    let sum = sum_by-cons (line_places stack) line lines in
    omega (arith, rest, sum)

pub few_places : (stack : Description) → IsSound stack → all_places stack ≤ 4194304
few_places stack sound =
    let late = first_fault-none (checks_after stack) sound.after in
    let same = by_same Limit (λ (l : WithBefore Line). l.it.at) (passes_most stack 0) (λ l. nat_lt 4194304 (sum_by (line_places stack) l.before + line_places stack l.it)) (with_before (all_lines stack.devices))
    (λ l. ap (nat_lt 4194304) (zero-add (sum_by (line_places stack) l.before + line_places stack l.it))) in
    let few = few_from stack 0 (all_lines stack.devices) (omega arith) (same ∙ late.1.1.1.1.1.0) in
    omega (arith, few)
