-- Where the parts between newlines end.
use Rattle.dm_stream.proofs.Prelude.{ℕ, zero, suc, cond, Bool, true, false, List, [], length, get_or, take, drop, refl, sym, ap, ◌∙◌, arith, length-take, take-append-drop, onto_first, slice_split-cons_yes, slice_split-cons_no, le-ltb, false_from_ne_true, drop-drop, take-add, Stand, line_parts, next_answer, ALine, MOST_LINE_BYTES}
use Rattle.std.specs.Prelude.{◌≡◌, ◌+◌, ◌<◌, ◌≤◌, ◌++◌, ◌==◌, ◌∷◌}

abbrev pub is_newline : ℕ → Bool
is_newline b = b == 10

-- bytes without a newline are one part
pub parts_without : (xs : List ℕ) → ((k : ℕ) → k < length xs → is_newline (get_or xs k 0) ≡ true → ⊥) → line_parts xs ≡ xs ∷ []
parts_without [] h = refl
parts_without (x ∷ xs) h =
    slice_split-cons_no is_newline x xs (false_from_ne_true _ (h 0 (omega arith)))
    ∙ ap (onto_first x) (parts_without xs (λ k l e. h (suc k) (omega arith) e))

-- the first part ends at the first newline
pub parts_first : (xs : List ℕ) (n : ℕ) → n < length xs → ((k : ℕ) → k < n → is_newline (get_or xs k 0) ≡ true → ⊥) → is_newline (get_or xs n 0) ≡ true → line_parts xs ≡ take n xs ∷ line_parts (drop (suc n) xs)
parts_first [] n l h e = absurd (omega arith)
parts_first (x ∷ xs) zero l h e = slice_split-cons_yes is_newline x xs e
parts_first (x ∷ xs) (suc n) l h e =
    slice_split-cons_no is_newline x xs (false_from_ne_true _ (h 0 (omega arith)))
    ∙ ap (onto_first x) (parts_first xs n (omega arith) (λ k l e. h (suc k) (omega arith) e) e)

-- there is always at least one part
pub some_part : (xs : List ℕ) → (part : List ℕ) × (parts : List (List ℕ)) × (line_parts xs ≡ part ∷ parts)
some_part [] = ([], [], refl)
some_part (x ∷ xs) = let s = some_part xs in elim (is_newline x) as (λ b. (part : List ℕ) × (parts : List (List ℕ)) × (cond b ([] ∷ line_parts xs) (onto_first x (line_parts xs)) ≡ part ∷ parts)) [
  | true ↦ ([], line_parts xs, refl)
  | false ↦ (x ∷ s.0, s.1, ap (onto_first x) s.2)
]

-- bytes without a newline, put in front, lengthen the first part
pub parts_after : (front xs : List ℕ) (part : List ℕ) (parts : List (List ℕ)) → line_parts front ≡ front ∷ [] → line_parts xs ≡ part ∷ parts → line_parts (front ++ xs) ≡ (front ++ part) ∷ parts
parts_after [] xs part parts clear e = e
parts_after (x ∷ front) xs part parts clear e =
    let s = some_part front in
    let P : Bool → Type 0 = λ b. cond b ([] ∷ line_parts front) (onto_first x (line_parts front)) ≡ (x ∷ front) ∷ [] → cond b ([] ∷ line_parts (front ++ xs)) (onto_first x (line_parts (front ++ xs))) ≡ (x ∷ front ++ part) ∷ parts in
    let at_newline : P true = λ f. cc in
    let at_other : P false = λ f.
    let opened : (x ∷ s.0) ∷ s.1 ≡ (x ∷ front) ∷ [] = sym (ap (onto_first x) s.2) ∙ f in
    let first : s.0 ≡ front = cc in
    let rest : s.1 ≡ [] = cc in
    let same : line_parts front ≡ front ∷ [] = cc in
    ap (onto_first x) (parts_after front xs part parts same e) in
    (elim (is_newline x) as P [ true ↦ at_newline | false ↦ at_other ]) clear

-- if neither the searched bytes nor those after them have a newline, all bytes are one part
pub still_one : (xs : List ℕ) (n : ℕ) → line_parts (take n xs) ≡ take n xs ∷ [] → line_parts (drop n xs) ≡ drop n xs ∷ [] → line_parts xs ≡ xs ∷ []
still_one xs n clear e =
    let whole = take-append-drop n xs in
    cc (parts_after (take n xs) (drop n xs) (drop n xs) [] clear e)

-- if the searched bytes have no newline, the first part ends at the first newline after them
pub first_after : (xs : List ℕ) (n k : ℕ) → line_parts (take n xs) ≡ take n xs ∷ [] → line_parts (drop n xs) ≡ take k (drop n xs) ∷ line_parts (drop (k + 1) (drop n xs))
    → line_parts xs ≡ take (n + k) xs ∷ line_parts (drop (n + k + 1) xs)
first_after xs n k clear e =
    let place : n + (k + 1) ≡ n + k + 1 = omega arith in
    cc (take-append-drop n xs, parts_after (take n xs) (drop n xs) _ _ clear e, take-add n k xs, drop-drop (k + 1) n xs)

-- a line that is not too long comes next
pub next_line : (stand : Stand) (line rest : List ℕ) → length line ≤ MOST_LINE_BYTES → next_answer stand (line ∷ line_parts rest) ≡ ALine line
next_line stand line rest h =
    let s = some_part rest in
    cc (le-ltb MOST_LINE_BYTES (length line) h)

-- the line at the front of the held bytes comes next if it is not too long
pub next_held : (stand : Stand) (held : List ℕ) (n : ℕ) → n < length held → n ≤ MOST_LINE_BYTES → line_parts held ≡ take n held ∷ line_parts (drop (n + 1) held) → next_answer stand (line_parts held) ≡ ALine (take n held)
next_held stand held n l h e =
    ap (next_answer stand) e ∙ next_line stand (take n held) (drop (n + 1) held) (omega (arith, length-take n held))
