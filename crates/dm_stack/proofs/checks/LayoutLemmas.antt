-- Lines that start where the one before ends.
use Rattle.dm_stack.proofs.Prelude.{ℕ, cond, not, nat_lt, inl, inr, List, [], refl, sym, ◌∙◌, append_assoc, append-nil, cases_Bool, filter, map, eqb-true, not-false, LoadFault, Gap, Overlap, Line, fault, cond_none, end_of, WithBefore, is_misplaced, misplaced_in, misplaced_kind, with_before}
use Rattle.dm_stack.proofs.checks.WithBefore.{further_on}
use Rattle.std.specs.Prelude.{◌≡◌, ◌+◌, ◌∷◌, ◌++◌, ◌==◌}

pub end_of-more : (lines : List Line) (line : Line) → end_of (lines ++ line ∷ []) ≡ line.start + line.len
end_of-more (first ∷ next ∷ lines) line = end_of-more (next ∷ lines) line
end_of-more lines line = refl

-- Misplaced lines, one by one

-- the gaps and overlaps of lines of which the first should start at `end`
abbrev pub misplaced_from : ℕ → List Line → List LoadFault
misplaced_from end [] = []
misplaced_from end (line ∷ lines) =
    let later = misplaced_from (line.start + line.len) lines in
    cond (not (line.start == end)) (fault (cond (nat_lt end line.start) Gap Overlap) line.at ∷ later) later

-- a line of a list that comes after other lines
abbrev pub after : List Line → WithBefore Line → WithBefore Line
after before line = record { before = before ++ line.before; it = line.it }

abbrev pub misplaced_after : (before : List Line) → List (WithBefore Line) → List LoadFault
misplaced_after before lines = map (λ line. fault (misplaced_kind line) line.it.at) (filter is_misplaced (map (after before) lines))

after_one : (before : List Line) (line : Line) (lines : List (WithBefore Line)) → map (after before) (map (further_on line) lines) ≡ map (after (before ++ line ∷ [])) lines
after_one before line [] = refl
after_one before line (l ∷ lines) = rw (append_assoc before (line ∷ []) l.before, after_one before line lines)

after_none : (lines : List (WithBefore Line)) → map (after []) lines ≡ lines
after_none [] = refl
after_none (line ∷ lines) = rw (after_none lines)

rows_after : (before lines : List Line) → misplaced_after before (with_before lines) ≡ misplaced_from (end_of before) lines
rows_after before [] = refl
rows_after before (line ∷ lines) =
    let later : misplaced_after (before ++ line ∷ []) (with_before lines) ≡ misplaced_from (line.start + line.len) lines = rw end_of-more at (rows_after (before ++ line ∷ []) lines) in
    rw (append-nil before, after_one before line (with_before lines))
    (elim (cases_Bool (not (line.start == end_of before))) [
      | inl is ↦ rw (is, later)
      | inr is ↦ rw (is, later)
    ])

pub misplaced_rows : (lines : List Line) → misplaced_in lines ≡ misplaced_from 0 lines
misplaced_rows lines = rw (after_none (with_before lines)) at (rows_after [] lines)

-- Lists without misplaced lines

-- each line starts where the one before ends, and the first one at `end`
abbrev pub AreInRow : ℕ → List Line → Type 0
AreInRow end [] = Unit {0}
AreInRow end (line ∷ lines) = (line.start ≡ end) × AreInRow (line.start + line.len) lines

row_from : (end : ℕ) (lines : List Line) → misplaced_from end lines ≡ [] → AreInRow end lines
row_from end [] e = tt
row_from end (line ∷ lines) e =
    let parts = cond_none _ (misplaced_from (line.start + line.len) lines) (not (line.start == end)) e in
    (eqb-true _ _ (not-false _ parts.0), row_from (line.start + line.len) lines parts.1)

pub in_row : (lines : List Line) → misplaced_in lines ≡ [] → AreInRow 0 lines
in_row lines e = row_from 0 lines (sym (misplaced_rows lines) ∙ e)
