-- Wherever a text is cut, a UTF-8 character begins.
use Rattle.lvm_text.proofs.Prelude.{ℕ, zero, suc, true, cond, eqb, List, [], length, get_or, drop, Option, Some, None, refl, sym, subst, arith, MatchOption, option_map, IsUtf8, IsCharBoundary, cond_both, eqb-true, nat_tests, MatchOption-at_some, IsUtf8-drop, IsCharBoundary-start, IsCharBoundary-before_ascii, IsCharBoundary-after_ascii, code, is_word_byte, is_escapable, newline_at, leading_word_bytes, raw_length}
use Rattle.lvm_text.proofs.Cases.{mapped}
use Rattle.std.specs.Prelude.{◌≡◌, ◌<◌, ◌≤◌, ◌∷◌}

-- the position after an ASCII byte at the front of `rest`, the end of a text, is a character boundary
pub after_byte : (text rest : List ℕ) (i : ℕ) → IsUtf8 text → i < length text → get_or text i 0 < 128 → rest ≡ drop i text → get_or rest 0 0 ≡ get_or text i 0 → 0 < length rest → IsCharBoundary rest 1
after_byte text rest i u lt ascii e same some =
    let v : IsUtf8 rest = subst IsUtf8 (sym e) (IsUtf8-drop text i u (IsCharBoundary-before_ascii text i lt ascii)) in
    IsCharBoundary-after_ascii rest 0 v some (rw same ascii)

pub first_of_drop : (bs : List ℕ) (k : ℕ) → get_or (drop k bs) 0 0 ≡ get_or bs k 0
first_of_drop [] zero = refl
first_of_drop [] (suc k) = refl
first_of_drop (b ∷ bs) zero = refl
first_of_drop (b ∷ bs) (suc k) = first_of_drop bs k

-- the byte at position n of bs is this one
pub record Here (byte : ℕ) (bs : List ℕ) (n : ℕ) : Type 0 where
  pub within : n < length bs
  pub is : get_or bs n 0 ≡ byte

later : (byte b : ℕ) (bs : List ℕ) (n : ℕ) → Here byte bs n → Here byte (b ∷ bs) (suc n)
later byte b bs n h = let lt : n < length bs = h.within in record { within = omega arith; is = h.is }

line_here : (bs : List ℕ) → MatchOption (newline_at bs) (Unit {0}) (Here (code "\n") bs)
line_here [] = tt
line_here (b ∷ bs) =
    cond_both (eqb b (code "\n")) (Some 0) (option_map suc (newline_at bs)) (λ r. MatchOption r (Unit {0}) (Here (code "\n") (b ∷ bs)))
    (λ is. record { within = omega arith; is = eqb-true b (code "\n") is })
    (λ none. mapped (newline_at bs) suc (Here (code "\n") bs) (Here (code "\n") (b ∷ bs)) (later (code "\n") b bs) (line_here bs))

pub line_at : (bs : List ℕ) (n : ℕ) → newline_at bs ≡ Some n → Here (code "\n") bs n
line_at bs n e = MatchOption-at_some (Unit {0}) (Here (code "\n") bs) n e (line_here bs)

raw_here : (bs : List ℕ) → MatchOption (raw_length bs) (Unit {0}) (Here (code "\"") bs)
raw_here [] = tt
raw_here (b ∷ []) =
    cond_both (eqb b (code "\"")) (Some 0) None (λ r. MatchOption r (Unit {0}) (Here (code "\"") (b ∷ [])))
    (λ is. record { within = omega arith; is = eqb-true b (code "\"") is })
    (λ none. tt)
raw_here (b ∷ c ∷ bs) =
    let P : Option ℕ → Type 0 = λ r. MatchOption r (Unit {0}) (Here (code "\"") (b ∷ c ∷ bs)) in
    let plain : Option ℕ = option_map suc (raw_length (c ∷ bs)) in
    let escaped : Option ℕ = option_map (λ n. suc (suc n)) (raw_length bs) in
    cond_both (eqb b (code "\"")) (Some 0) (cond (eqb b (code "\\")) (cond (is_escapable c) escaped None) (cond (eqb b (code "\n")) None plain)) P
    (λ is. record { within = omega arith; is = eqb-true b (code "\"") is })
    (λ e1. cond_both (eqb b (code "\\")) (cond (is_escapable c) escaped None) (cond (eqb b (code "\n")) None plain) P
    (λ e2. cond_both (is_escapable c) escaped None P
    (λ e3. mapped (raw_length bs) (λ n. suc (suc n)) (Here (code "\"") bs) (Here (code "\"") (b ∷ c ∷ bs)) (λ n h. later (code "\"") b (c ∷ bs) (suc n) (later (code "\"") c bs n h)) (raw_here bs))
    (λ e3. tt))
    (λ e2. cond_both (eqb b (code "\n")) None plain P
    (λ e3. tt)
    (λ e3. mapped (raw_length (c ∷ bs)) suc (Here (code "\"") (c ∷ bs)) (Here (code "\"") (b ∷ c ∷ bs)) (later (code "\"") b (c ∷ bs)) (raw_here (c ∷ bs)))))

pub raw_at : (bs : List ℕ) (n : ℕ) → raw_length bs ≡ Some n → Here (code "\"") bs n
raw_at bs n e = MatchOption-at_some (Unit {0}) (Here (code "\"") bs) n e (raw_here bs)

-- The bytes of a word are ASCII
word_byte_ascii : (b : ℕ) → is_word_byte b ≡ true → b < 128
word_byte_ascii b h = grind (arith, nat_tests)

pub record Within (bs : List ℕ) (n : ℕ) : Type 0 where
  pub most : n ≤ length bs
  pub ascii : (k : ℕ) → k < n → get_or bs k 0 < 128

word_within : (bs : List ℕ) → Within bs (leading_word_bytes bs)
word_within [] = record { most = omega arith; ascii = λ k lt. absurd (omega arith) }
word_within (b ∷ bs) =
    cond_both (is_word_byte b) (suc (leading_word_bytes bs)) 0 (Within (b ∷ bs))
    (λ is. record { most = omega (arith, (word_within bs).most); ascii = λ k lt. at k is lt (word_within bs).ascii })
    (λ none. record { most = omega arith; ascii = λ k lt. absurd (omega arith) })
  where
    at : (k : ℕ) → is_word_byte b ≡ true → k < suc (leading_word_bytes bs) → ((j : ℕ) → j < leading_word_bytes bs → get_or bs j 0 < 128) → get_or (b ∷ bs) k 0 < 128
    at zero is lt f = word_byte_ascii b is
    at (suc k) is lt f = f k (omega arith)

ascii_boundary : (bs : List ℕ) (n : ℕ) → IsUtf8 bs → Within bs n → IsCharBoundary bs n
ascii_boundary bs zero u h = IsCharBoundary-start bs u
ascii_boundary bs (suc n) u h =
    let most : suc n ≤ length bs = h.most in
    let b = IsCharBoundary-after_ascii bs n u (omega arith) (h.ascii n (omega arith)) in
    subst (IsCharBoundary bs) (omega arith) b

pub word_boundary : (bs : List ℕ) → IsUtf8 bs → IsCharBoundary bs (leading_word_bytes bs)
word_boundary bs u = ascii_boundary bs (leading_word_bytes bs) u (word_within bs)
