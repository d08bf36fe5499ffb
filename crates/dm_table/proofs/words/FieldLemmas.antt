-- Lemmas about cutting a text at a byte, and joining the parts again.
use Rattle.dm_table.proofs.Prelude.{ℕ, false, eqb, List, [], length, get_or, take, drop, All, Option, Some, None, refl, sym, ap, ◌∙◌, append_assoc, arith, option_to_list, flat_map, join_with_byte, AllByRecursion, Bool, is_some, not, eq-eqb, false_from_ne_true, not-false, not-true, not_from_false, not_from_true, elements, common_steps, take-append-drop, drop_more, take_rest, drop-drop, map_push, map-append, append-nil, list_all_at, list_all-from_AllPass, length-slice_split, slice_split_at, slice_split_none, join_with_byte-slice_split, lacks, texts, parts_at, all_but_last, last_or, lines_of, rest_of, Nowhere, Passes, is_byte, IsFirstByte}
use Rattle.std.specs.Prelude.{◌≡◌, ◌+◌, ◌-◌, ◌<◌, ◌≤◌, ◌∷◌, ◌++◌, ◌==◌}
use denote.Ref.{Bor}

-- no byte of the text is c
abbrev pub IsClearOf : ℕ → List ℕ → Type 0
IsClearOf c = All (λ b. eqb b c ≡ false)

-- ---- cutting a text at a byte

-- the first part is what comes before the first c, and the other parts are those of what comes after it
pub parts_at-first : (c : ℕ) (part more : List ℕ) → IsClearOf c part → parts_at c (part ++ c ∷ more) ≡ part ∷ parts_at c more
parts_at-first c part more clear = slice_split_at (λ b. eqb b c) part c more clear (eq-eqb c c refl)

-- a text without a c is one part
pub parts_at-clear : (c : ℕ) (text : List ℕ) → IsClearOf c text → parts_at c text ≡ text ∷ []
parts_at-clear c text clear = slice_split_none (λ b. eqb b c) text clear

-- the parts of a text, joined by the byte at which it was cut, are the text
pub join-parts_at : (c : ℕ) (text : List ℕ) → join_with_byte c (parts_at c text) ≡ text
join-parts_at c text = join_with_byte-slice_split c text

-- parts without a c, joined by c, are the parts of the text that they make
pub parts_at-join : (c : ℕ) (part : List ℕ) (parts : List (List ℕ)) → AllByRecursion (IsClearOf c) (part ∷ parts) → parts_at c (join_with_byte c (part ∷ parts)) ≡ part ∷ parts
parts_at-join c part [] clear = parts_at-clear c part clear.0
parts_at-join c part (next ∷ parts) clear =
    rw (← parts_at-join c next parts clear.1) (parts_at-first c part (join_with_byte c (next ∷ parts)) clear.0)

-- no byte before the first c is a c
clear_before : (c : ℕ) (text : List ℕ) (n : ℕ) → n ≤ length text → Nowhere (Passes (is_byte c) text) 0 n → IsClearOf c (take n text)
clear_before c text n le none = λ k d below.
    let same : get_or (take n text) k d ≡ get_or text k 0 = grind (arith, elements) in
    let near : length (take n text) ≤ n = grind (arith, common_steps) in
    rw same (false_from_ne_true _ (none k (omega arith) (omega arith)))

-- the parts of a text in which a search found the first c
pub parts_at-found : (c : ℕ) (text : List ℕ) (n : ℕ) → IsFirstByte (is_byte c) text (Some n) → parts_at c text ≡ take n text ∷ parts_at c (drop (n + 1) text)
parts_at-found c text n found =
    let below : n < length text = found.0.high in
    let whole : text ≡ take n text ++ get_or text n 0 ∷ drop (n + 1) text = cc (take-append-drop n text, drop_more text n 0 below) in
    ap (parts_at c) whole ∙ slice_split_at (λ b. eqb b c) (take n text) (get_or text n 0) (drop (n + 1) text) (clear_before c text n (omega arith) found.0.before) found.1

clear_nowhere : (c : ℕ) (text : List ℕ) → IsFirstByte (is_byte c) text None → IsClearOf c text
clear_nowhere c text none = λ k d below.
    let same : get_or text k d ≡ get_or text k 0 = grind (arith, elements) in
    rw same (false_from_ne_true _ (none k (omega arith) below))

pub parts_at-nowhere : (c : ℕ) (text : List ℕ) → IsFirstByte (is_byte c) text None → parts_at c text ≡ text ∷ []
parts_at-nowhere c text none = parts_at-clear c text (clear_nowhere c text none)

-- whether a text lacks c, from the result of a search for it
pub lacks-searched : (c : ℕ) (text : List ℕ) (found : Option ℕ) (none : Bool) → IsFirstByte (is_byte c) text found → not none ≡ is_some found → none ≡ lacks c text
lacks-searched c text None none nowhere is = not-false none is ∙ sym (list_all-from_AllPass _ text (λ k d below. not_from_false _ (clear_nowhere c text nowhere k d below)))
lacks-searched c text (Some n) none found is = not-true none is ∙ sym (list_all_at (λ b. not (b == c)) text n 0 found.0.high (not_from_true _ found.1))

-- the invariant of the loop that cuts: the parts so far and those of the text left are all parts, also after one more part
pub cut_more : (c : ℕ) (parts : List (Bor (List ℕ))) (part : Bor (List ℕ)) (rest after : List ℕ) (n : ℕ) (all : List (List ℕ))
    → IsFirstByte (is_byte c) rest (Some n) → part.now ≡ take n rest → after ≡ drop n rest → texts parts ++ parts_at c rest ≡ all
    → texts (parts ++ part ∷ []) ++ parts_at c (take (length after - 1) (drop 1 after)) ≡ all
cut_more c parts part rest after n all found is_part is_after so_far =
    let left : take (length after - 1) (drop 1 after) ≡ drop (n + 1) rest = take_rest after 1 ∙ ap (drop 1) is_after ∙ drop-drop 1 n rest in
    let pushed : texts (parts ++ part ∷ []) ≡ texts parts ++ take n rest ∷ [] = rw (map_push, is_part) in
    rw (left, pushed, append_assoc) (cc (parts_at-found c rest n found))

-- the end of the loop that cuts: the text left is the last part
pub cut_last : (c : ℕ) (parts : List (Bor (List ℕ))) (rest : Bor (List ℕ)) (all : List (List ℕ))
    → IsFirstByte (is_byte c) rest.now None → texts parts ++ parts_at c rest.now ≡ all → texts (parts ++ rest ∷ []) ≡ all
cut_last c parts rest all none so_far = rw (← so_far, parts_at-nowhere) (map_push _ parts rest)

-- ---- the last part of a text, and all but the last

pub all_but_last-push : {X : Type 0} (xs : List X) (x : X) → all_but_last (xs ++ x ∷ []) ≡ xs
all_but_last-push [] x = refl
all_but_last-push (y ∷ []) x = refl
all_but_last-push (y ∷ z ∷ xs) x = rw (all_but_last-push (z ∷ xs) x)

pub last_or-push : {X : Type 0} (d : X) (xs : List X) (x : X) → last_or d (xs ++ x ∷ []) ≡ x
last_or-push d [] x = refl
last_or-push d (y ∷ []) x = refl
last_or-push d (y ∷ z ∷ xs) x = last_or-push d (z ∷ xs) x

pub last_split : {X : Type 0} (d : X) (xs : List X) → 0 < length xs → xs ≡ all_but_last xs ++ last_or d xs ∷ []
last_split d [] some = absurd (omega arith)
last_split d (x ∷ []) some = refl
last_split {X} d (x ∷ y ∷ xs) some = ap (λ (ys : List X). x ∷ ys) (last_split d (y ∷ xs) (omega arith))

-- the parts without the last one, which was popped
pub all_but_last-popped : (parts lines : List (Bor (List ℕ))) (last : Option (Bor (List ℕ))) → parts ≡ lines ++ option_to_list last → (last ≡ None → lines ≡ []) → texts lines ≡ all_but_last (texts parts)
all_but_last-popped parts lines None popped empty = rw (popped, append-nil, empty refl)
all_but_last-popped parts lines (Some slice) popped empty = sym (ap all_but_last (ap texts popped ∙ map-append _ lines (slice ∷ [])) ∙ all_but_last-push (texts lines) slice.now)

-- ---- the lines of a text

-- a list with at least two elements keeps its first when the last is dropped
all_but_last_more : {X : Type 0} (x : X) (xs : List X) → 0 < length xs → all_but_last (x ∷ xs) ≡ x ∷ all_but_last xs
all_but_last_more x [] h = absurd (omega arith)
all_but_last_more x (y ∷ xs) h = refl

last_or_more : {X : Type 0} (d x : X) (xs : List X) → 0 < length xs → last_or d (x ∷ xs) ≡ last_or d xs
last_or_more d x [] h = absurd (omega arith)
last_or_more d x (y ∷ xs) h = refl

pub some_parts : (c : ℕ) (text : List ℕ) → 0 < length (parts_at c text)
some_parts c text = omega (arith, length-slice_split (λ b. eqb b c) text)

-- the first line of a text in which a search found a newline, and the lines after it
pub line_found : (text after : List ℕ) (n : ℕ) → IsFirstByte (is_byte 10) text (Some n) → after ≡ drop n text
    → (lines_of text ≡ take n text ∷ lines_of (take (length after - 1) (drop 1 after))) × (rest_of text ≡ rest_of (take (length after - 1) (drop 1 after))) × (length (take (length after - 1) (drop 1 after)) < length text)
line_found text after n found is_after =
    let more = drop (n + 1) text in
    let left : take (length after - 1) (drop 1 after) ≡ more = take_rest after 1 ∙ ap (drop 1) is_after ∙ drop-drop 1 n text in
    let parts : parts_at 10 text ≡ take n text ∷ parts_at 10 more = parts_at-found 10 text n found in
    let below : n < length text = found.0.high in
    let shorter : length more < length text = grind (arith, common_steps) in
    rw left (
      ap all_but_last parts ∙ all_but_last_more (take n text) (parts_at 10 more) (some_parts 10 more),
      ap (last_or []) parts ∙ last_or_more [] (take n text) (parts_at 10 more) (some_parts 10 more),
      shorter,
    )

-- a text without a newline has no complete line, and all of it is unterminated
pub no_line_found : (text : List ℕ) → IsFirstByte (is_byte 10) text None → (lines_of text ≡ []) × (rest_of text ≡ text)
no_line_found text none = let parts = parts_at-nowhere 10 text none in (ap all_but_last parts, ap (last_or []) parts)

-- lines without a newline in them, each followed by one, are the parts of the resulting text, before an empty last part
pub parts_at-lines : (lines : List (List ℕ)) → AllByRecursion (IsClearOf 10) lines → parts_at 10 (flat_map (λ line. line ++ 10 ∷ []) lines) ≡ lines ++ [] ∷ []
parts_at-lines [] clear = refl
parts_at-lines (line ∷ lines) clear =
    ap (parts_at 10) (append_assoc line (10 ∷ []) (flat_map (λ line. line ++ 10 ∷ []) lines)) ∙ parts_at-first 10 line (flat_map (λ line. line ++ 10 ∷ []) lines) clear.0 ∙ rw (parts_at-lines lines clear.1)

pub lines_of-lines : (lines : List (List ℕ)) → AllByRecursion (IsClearOf 10) lines → lines_of (flat_map (λ line. line ++ 10 ∷ []) lines) ≡ lines
lines_of-lines lines clear = ap all_but_last (parts_at-lines lines clear) ∙ all_but_last-push lines []

pub rest_of-lines : (lines : List (List ℕ)) → AllByRecursion (IsClearOf 10) lines → rest_of (flat_map (λ line. line ++ 10 ∷ []) lines) ≡ []
rest_of-lines lines clear = ap (last_or []) (parts_at-lines lines clear) ∙ last_or-push [] lines []
