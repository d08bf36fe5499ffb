-- The result of a search for a byte, as the number of bytes before it.
use Rattle.lvm_text.proofs.Prelude.{ℕ, zero, suc, Bool, true, false, cond, not, eqb, List, [], length, get_or, take, drop, Option, Some, None, refl, sym, ap, ◌∙◌, arith, length-drop, option_map, is_some, is_none, and_parts, false_from_ne_true, eqb-true, ne_eqb, take_rest, drop-drop, code, is_line, is_end, is_escapable, newline_at, raw_length, is_escape}
use Rattle.memchr.specs.Find.{is_byte, is_byte3, IsFirstByte}
use Rattle.lvm_text.proofs.Boundaries.{first_of_drop}
use Rattle.std.specs.Prelude.{◌≡◌, ◌≢◌, ◌+◌, ◌-◌, ◌<◌, ◌≤◌, ◌&&◌, ◌||◌, ◌∷◌}

pub line_first : (xs : List ℕ) (r : Option ℕ) → IsFirstByte (is_byte (code "\n")) xs r → r ≡ newline_at xs
line_first [] None h = refl
line_first [] (Some k) h = absurd (omega (arith, h.0.high))
line_first (b ∷ bs) None h =
    let no : eqb b (code "\n") ≡ false = false_from_ne_true _ (h 0 (omega arith) (omega arith)) in
    let rest = line_first bs None (λ k low high. h (suc k) (omega arith) (omega arith)) in
    rw (no, ← rest)
line_first (b ∷ bs) (Some zero) h = rw h.1
line_first (b ∷ bs) (Some (suc k)) h =
    let lt : suc k < suc (length bs) = h.0.high in
    let no : eqb b (code "\n") ≡ false = false_from_ne_true _ (h.0.before 0 (omega arith) (omega arith)) in
    let rest = line_first bs (Some k) (record { low = omega arith; high = omega arith; before = λ j low high. h.0.before (suc j) (omega arith) (omega arith) }, h.1) in
    rw (no, ← rest)

none_suc : (o : Option ℕ) → is_none (option_map suc o) ≡ is_none o
none_suc None = refl
none_suc (Some n) = refl

line_byte : (t : Bool) (bs : List ℕ) → is_none (newline_at bs) ≡ is_line bs → is_none (cond t (Some 0) (option_map suc (newline_at bs))) ≡ (not t && is_line bs)
line_byte true bs h = refl
line_byte false bs h = none_suc (newline_at bs) ∙ h

pub is_line-newline_at : (xs : List ℕ) → is_none (newline_at xs) ≡ is_line xs
is_line-newline_at [] = refl
is_line-newline_at (b ∷ bs) = line_byte (eqb b (code "\n")) bs (is_line-newline_at bs)

-- the number in an option, if any, plus k
abbrev pub plus : ℕ → Option ℕ → Option ℕ
plus k o = option_map (λ n. k + n) o

pub plus_zero : (o : Option ℕ) → plus 0 o ≡ o
plus_zero None = refl
plus_zero (Some n) = ap Some (omega arith)

plus_suc : (k : ℕ) (o : Option ℕ) → option_map suc (plus k o) ≡ plus (suc k) o
plus_suc k None = refl
plus_suc k (Some n) = ap Some (omega arith)

pub plus_plus : (j k : ℕ) (o : Option ℕ) → plus j (plus k o) ≡ plus (j + k) o
plus_plus j k None = refl
plus_plus j k (Some n) = ap Some (omega arith)

two : (o : Option ℕ) → option_map (λ n. suc (suc n)) o ≡ plus 2 o
two None = refl
two (Some n) = ap Some (omega arith)

-- a byte that is neither a quote nor a backslash nor a newline counts as one more byte of a string
raw_plain : (b : ℕ) (bs : List ℕ) → is_byte3 (code "\"") (code "\\") (code "\n") b ≡ false → raw_length (b ∷ bs) ≡ option_map suc (raw_length bs)
raw_plain b bs h = by_tests (eqb b (code "\"")) (eqb b (code "\\")) (eqb b (code "\n")) bs refl refl refl h where
  by_tests : (x y z : Bool) (cs : List ℕ) → eqb b (code "\"") ≡ x → eqb b (code "\\") ≡ y → eqb b (code "\n") ≡ z → (x || y || z) ≡ false → raw_length (b ∷ cs) ≡ option_map suc (raw_length cs)
  by_tests true y z cs e f g h = absurd cc
  by_tests false true z cs e f g h = absurd cc
  by_tests false false true cs e f g h = absurd cc
  by_tests false false false [] e f g h = rw e
  by_tests false false false (c ∷ cs) e f g h = rw (e, f, g)

-- all bytes before the first quote, backslash or newline count as bytes of a string
pub raw_skip : (xs : List ℕ) (p : ℕ) → IsFirstByte (is_byte3 (code "\"") (code "\\") (code "\n")) xs (Some p) → raw_length xs ≡ plus p (raw_length (drop p xs))
raw_skip [] p h = absurd (omega (arith, h.0.high))
raw_skip (b ∷ bs) zero h = sym (plus_zero (raw_length (b ∷ bs)))
raw_skip (b ∷ bs) (suc p) h =
    let lt : suc p < suc (length bs) = h.0.high in
    let no : is_byte3 (code "\"") (code "\\") (code "\n") b ≡ false = false_from_ne_true _ (h.0.before 0 (omega arith) (omega arith)) in
    let rest = raw_skip bs p (record { low = omega arith; high = omega arith; before = λ j low high. h.0.before (suc j) (omega arith) (omega arith) }, h.1) in
    raw_plain b bs no ∙ ap (option_map suc) rest ∙ plus_suc p (raw_length (drop p bs))

pub raw_none : (xs : List ℕ) → IsFirstByte (is_byte3 (code "\"") (code "\\") (code "\n")) xs None → raw_length xs ≡ None
raw_none [] h = refl
raw_none (b ∷ bs) h =
    let no : is_byte3 (code "\"") (code "\\") (code "\n") b ≡ false = false_from_ne_true _ (h 0 (omega arith) (omega arith)) in
    let rest = raw_none bs (λ k low high. h (suc k) (omega arith) (omega arith)) in
    raw_plain b bs no ∙ ap (option_map suc) rest

pub raw_quote : (xs : List ℕ) → 0 < length xs → get_or xs 0 0 ≡ code "\"" → raw_length xs ≡ Some 0
raw_quote [] lt h = absurd (omega arith)
raw_quote (b ∷ []) lt h = rw h
raw_quote (b ∷ c ∷ bs) lt h = rw h

pub raw_escape : (xs : List ℕ) → is_escape xs ≡ true → (raw_length xs ≡ plus 2 (raw_length (drop 2 xs))) × (2 ≤ length xs)
raw_escape (b ∷ c ∷ bs) h =
    let a = and_parts (eqb b (code "\\")) (is_escapable c) h in
    (rw (eqb-true b (code "\\") a.0, a.1) (two (raw_length bs)), omega arith)
raw_escape xs h = absurd cc

pub raw_stop : (xs : List ℕ) → is_byte3 (code "\"") (code "\\") (code "\n") (get_or xs 0 0) ≡ true → get_or xs 0 0 ≢ code "\"" → is_escape xs ≡ false → raw_length xs ≡ None
raw_stop [] h n e = refl
raw_stop (b ∷ bs) h n e = by_tests (eqb b (code "\\")) (eqb b (code "\n")) bs refl refl (ne_eqb b (code "\"") n) h e where
  by_tests : (y z : Bool) (cs : List ℕ) → eqb b (code "\\") ≡ y → eqb b (code "\n") ≡ z → eqb b (code "\"") ≡ false → is_byte3 (code "\"") (code "\\") (code "\n") b ≡ true → is_escape (b ∷ cs) ≡ false → raw_length (b ∷ cs) ≡ None
  by_tests y z [] f g none h e = rw none
  by_tests true z (c ∷ cs) f g none h e =
      let esc : is_escapable c ≡ false = rw f at e in
      rw (none, f, esc)
  by_tests false true (c ∷ cs) f g none h e = rw (none, f, g)
  by_tests false false (c ∷ cs) f g none h e =
      let wrong = rw (none, f, g) at h in
      absurd cc

none_is : (o : Option ℕ) (r : Bool) → is_some o ≡ not r → r ≡ is_none o
none_is None false h = absurd cc
none_is (Some n) true h = absurd cc
none_is o r h = refl

-- the code's test for the end of a text is right if the first byte is a #
pub is_end_comment : (bs : List ℕ) (o : Option ℕ) (r : Bool) → false ≡ eqb (length bs) 0 → get_or bs 0 0 ≡ code "#" → o ≡ newline_at (take (length bs - 1) (drop 1 bs)) → is_some o ≡ not r → r ≡ is_end bs
is_end_comment [] o r e b h n = absurd cc
is_end_comment (x ∷ bs) o r e b h n = none_is o r n ∙ ap is_none (h ∙ ap newline_at (take_rest (x ∷ bs) 1)) ∙ is_line-newline_at bs ∙ rw b

-- ---- the search for the end of a string, from position i of the bytes on

abbrev pub Stop : List ℕ → ℕ → Option ℕ → Type 0
Stop bs i r = IsFirstByte (is_byte3 (code "\"") (code "\\") (code "\n")) (take (length bs - i) (drop i bs)) r

pub record At (bs : List ℕ) (k : ℕ) : Type 0 where
  pub same : plus k (raw_length (drop k bs)) ≡ raw_length bs
  pub within : k < length bs
  pub stops : is_byte3 (code "\"") (code "\\") (code "\n") (get_or bs k 0) ≡ true

pub stop_at : (bs : List ℕ) (i p : ℕ) → plus i (raw_length (drop i bs)) ≡ raw_length bs → Stop bs i (Some p) → At bs (i + p)
stop_at bs i p inv h =
    let k : IsFirstByte (is_byte3 (code "\"") (code "\\") (code "\n")) (drop i bs) (Some p) = rw (← take_rest bs i) h in
    let lt : p < length (drop i bs) = k.0.high in
    let at : drop p (drop i bs) ≡ drop (i + p) bs = drop-drop p i bs in
    let hit : is_byte3 (code "\"") (code "\\") (code "\n") (get_or (drop p (drop i bs)) 0 0) ≡ true = rw (first_of_drop (drop i bs) p) k.1 in
    record {
      same = rw (← plus_plus, ← at, ← raw_skip) inv;
      within = omega (arith, length-drop i bs);
      stops = rw (← first_of_drop bs (i + p), ← at) hit;
    }

rest_some : (bs : List ℕ) (k : ℕ) → k < length bs → 0 < length (drop k bs)
rest_some bs k lt = omega (arith, length-drop k bs)

pub quote_at : (bs : List ℕ) (k : ℕ) → At bs k → get_or bs k 0 ≡ code "\"" → Some k ≡ raw_length bs
quote_at bs k h q = ap Some (omega arith) ∙ ap (plus k) (sym (raw_quote (drop k bs) (rest_some bs k h.within) (first_of_drop bs k ∙ q))) ∙ h.same

pub stopped_at : (bs : List ℕ) (k : ℕ) → At bs k → get_or bs k 0 ≢ code "\"" → is_escape (take (length bs - k) (drop k bs)) ≡ false → None ≡ raw_length bs
stopped_at bs k h ne e =
    ap (plus k) (sym (raw_stop (drop k bs) (rw (first_of_drop bs k) h.stops) (λ is. ne (sym (first_of_drop bs k) ∙ is)) (ap is_escape (sym (take_rest bs k)) ∙ e))) ∙ h.same

pub escape_at : (bs : List ℕ) (k : ℕ) → At bs k → is_escape (take (length bs - k) (drop k bs)) ≡ true → (k + 2 ≤ length bs) × (plus (k + 2) (raw_length (drop (k + 2) bs)) ≡ raw_length bs)
escape_at bs k h e =
    let x = raw_escape (drop k bs) (ap is_escape (sym (take_rest bs k)) ∙ e) in
    let long : 2 ≤ length (drop k bs) = x.1 in
    let within : k < length bs = h.within in (
      omega (arith, length-drop k bs),
      rw (← plus_plus, ← drop-drop, ← x.0) h.same,
    )

pub ended_at : (bs : List ℕ) (i : ℕ) → plus i (raw_length (drop i bs)) ≡ raw_length bs → Stop bs i None → None ≡ raw_length bs
ended_at bs i inv h =
    let k : IsFirstByte (is_byte3 (code "\"") (code "\\") (code "\n")) (drop i bs) None = rw (← take_rest bs i) h in
    ap (plus i) (sym (raw_none (drop i bs) k)) ∙ inv
