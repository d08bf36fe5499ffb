-- Lemmas about how a line of a path list is cut, and the file and offset in its path.
use Rattle.dm_table.proofs.Prelude.{ℕ, inl, inr, eqb, List, [], length, take, drop, get_or, Some, None, Result, Ok, Err, refl, sym, ap, ◌∙◌, arith, MatchResult, is_ok, join_with_byte, onto_first, IsUtf8, is_utf8, nat_tests, cases_Bool, eq-eqb, false_from_ne_true, elements, common_steps, drop-drop, drop_all, drop_more, take-append-drop, take_rest, slice_split-cons_yes, slice_split-cons_no, IsUtf8-from_is_utf8, is_utf8-from_IsUtf8, drop-append_seam, name_and_path, fields, last_or, parts_at, is_byte, IsFirstByte, IsLastByte, after_mark, cut_at}
use Rattle.dm_table.proofs.words.FieldLemmas.{IsClearOf, join-parts_at, last_or-push, parts_at-clear, parts_at-first, parts_at-found, parts_at-nowhere}
use Rattle.std.specs.Prelude.{◌≡◌, ◌+◌, ◌-◌, ◌<◌, ◌∷◌, ◌++◌}

-- ---- UTF-8

-- the result of std's UTF-8 check says whether the bytes are UTF-8
pub told_utf8 : {S E : Type 0} (result : Result S E) (bytes : List ℕ) (P : S → Type 0) (Q : E → Type 0)
    → MatchResult result (λ s. P s × IsUtf8 bytes) (λ e. (IsUtf8 bytes → ⊥) × Q e) → is_ok result ≡ is_utf8 bytes
told_utf8 (Ok s) bytes P Q h = sym (is_utf8-from_IsUtf8 bytes h.1)
told_utf8 (Err e) bytes P Q h = sym (false_from_ne_true _ (λ t. h.0 (IsUtf8-from_is_utf8 bytes t)))

-- ---- a text cut in two, as a name and a path

-- where the byte was found
pub cut_found : (c : ℕ) (line front after : List ℕ) (n : ℕ) → IsFirstByte (is_byte c) line (Some n) → front ≡ take n line → after ≡ drop n line
    → cut_at c line ≡ front ∷ take (length after - 1) (drop 1 after) ∷ []
cut_found c line front after n found is_front is_after =
    let first : get_or (parts_at c line) 0 [] ≡ take n line = ap (λ (parts : List (List ℕ)). get_or parts 0 []) (parts_at-found c line n found) in
    let below : n < length line = found.0.high in
    let long : length (take n line) ≡ n = grind (arith, common_steps) in
    let left : take (length after - 1) (drop 1 after) ≡ drop (n + 1) line = take_rest after 1 ∙ ap (drop 1) is_after ∙ drop-drop 1 n line in
    rw (first, long, left, is_front) refl

-- the two parts of a line without a space: the line, and nothing
pub cut_nowhere : (c : ℕ) (line : List ℕ) → IsFirstByte (is_byte c) line None → cut_at c line ≡ line ∷ [] ∷ []
cut_nowhere c line none =
    let first : get_or (parts_at c line) 0 [] ≡ line = ap (λ (parts : List (List ℕ)). get_or parts 0 []) (parts_at-nowhere c line none) in
    rw first (rw (drop_all (length line + 1) line (omega arith)) refl)

-- if the path isn't empty, the line is the name, a space and the path
cut_by : (line : List ℕ) (parts : List (List ℕ)) → join_with_byte 32 parts ≡ line → 0 < length (drop (length (get_or parts 0 []) + 1) line)
    → line ≡ get_or parts 0 [] ++ 32 ∷ drop (length (get_or parts 0 []) + 1) line
cut_by line [] e some = let none : length line ≡ 0 = ap length (sym e) in absurd (grind (arith, common_steps))
cut_by line (part ∷ []) e some =
    let none : drop (length part + 1) line ≡ [] = drop_all (length part + 1) line (omega (arith, ap length e)) in
    absurd (omega (arith, ap length none, some))
cut_by line (part ∷ next ∷ more) e some =
    let rest = join_with_byte 32 (next ∷ more) in
    let after : drop (length part + 1) line ≡ rest = rw (← e) (sym (drop-drop 1 (length part) (part ++ 32 ∷ rest)) ∙ ap (drop 1) (drop-append_seam part (32 ∷ rest))) in
    rw after (sym e)

pub line_cut : (line : List ℕ) → 0 < length (drop (length (get_or (fields line) 0 []) + 1) line) → line ≡ get_or (fields line) 0 [] ++ 32 ∷ drop (length (get_or (fields line) 0 []) + 1) line
line_cut line some = cut_by line (fields line) (join-parts_at 32 line) some

-- a line made of a name without a space, a space and a path is cut into that name and that path
pub cut_again : (name path : List ℕ) → IsClearOf 32 name → name_and_path (name ++ 32 ∷ path) ≡ name ∷ path ∷ []
cut_again name path clear =
    let first : get_or (fields (name ++ 32 ∷ path)) 0 [] ≡ name = ap (λ (parts : List (List ℕ)). get_or parts 0 []) (parts_at-first 32 name path clear) in
    let after : drop (length name + 1) (name ++ 32 ∷ path) ≡ path = sym (drop-drop 1 (length name) (name ++ 32 ∷ path)) ∙ ap (drop 1) (drop-append_seam name (32 ∷ path)) in
    rw first (rw after refl)

-- ---- what stands after the last ?

-- the text after the last byte c is the last part of the text cut at c
parts_end : (c : ℕ) (front more : List ℕ) → IsClearOf c more → (first : List ℕ) × (firsts : List (List ℕ)) × (parts_at c (front ++ c ∷ more) ≡ first ∷ firsts ++ more ∷ [])
parts_end c [] more clear = ([], [], slice_split-cons_yes (λ b. eqb b c) c more (eq-eqb c c refl) ∙ ap (λ (parts : List (List ℕ)). [] ∷ parts) (parts_at-clear c more clear))
parts_end c (x ∷ front) more clear =
    let rest = parts_end c front more clear in
    elim (cases_Bool (eqb x c)) [
      | inl e ↦ ([], rest.0 ∷ rest.1, slice_split-cons_yes (λ b. eqb b c) x (front ++ c ∷ more) e ∙ ap (λ (parts : List (List ℕ)). [] ∷ parts) rest.2)
      | inr e ↦ (x ∷ rest.0, rest.1, slice_split-cons_no (λ b. eqb b c) x (front ++ c ∷ more) e ∙ ap (onto_first x) rest.2)
    ]

pub last_found : (text : List ℕ) (n : ℕ) → IsLastByte (is_byte 63) text (Some n) → drop (n + 1) text ≡ after_mark text
last_found text n found =
    let below : n < length text = found.0.high in
    let more = drop (n + 1) text in
    let here : get_or text n 0 ≡ 63 = grind (arith, nat_tests, found.1) in
    let whole : text ≡ take n text ++ 63 ∷ more = cc (take-append-drop n text, drop_more text n 0 below) in
    let clear : IsClearOf 63 more = λ k d under.
    let same : get_or more k d ≡ get_or text (n + 1 + k) 0 = grind (arith, elements) in
    let within : n + 1 + k < length text = grind (arith, common_steps) in
    rw same (false_from_ne_true _ (found.0.after (n + 1 + k) (omega arith) within)) in
    let parts = parts_end 63 (take n text) more clear in
    sym (ap (λ (t : List ℕ). last_or [] (parts_at 63 t)) whole ∙ ap (last_or []) parts.2 ∙ last_or-push [] (parts.0 ∷ parts.1) more)

pub last_nowhere : (text : List ℕ) → IsLastByte (is_byte 63) text None → text ≡ after_mark text
last_nowhere text none = sym (ap (last_or []) (parts_at-clear 63 text (λ k d below.
    let same : get_or text k d ≡ get_or text k 0 = grind (arith, elements) in
    rw same (false_from_ne_true _ (none k (omega arith) below)))))
