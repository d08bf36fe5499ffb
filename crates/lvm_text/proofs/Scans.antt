-- The functions that find where an element ends are right, in both directions.
use Rattle.lvm_text.proofs.Prelude.{ℕ, suc, Bool, true, false, cond, not, eqb, List, [], length, take, drop, Option, Some, None, refl, inl, inr, MatchOption, option_map, list_all, cond_both, and_parts, and_from, or_cases, not-true, not_from_false, eqb-true, or_left, or_right, code, is_line, is_word_byte, begins_word, is_plain, is_escapable, is_raw, newline_at, leading_word_bytes, raw_length}
use Rattle.lvm_text.proofs.Cases.{mapped}
use Rattle.std.specs.Prelude.{◌≡◌, ◌&&◌, ◌||◌, ◌∷◌, ◌++◌}

-- ---- comments, which end with a newline

pub line_again : (c after : List ℕ) → is_line c ≡ true → newline_at (c ++ code "\n" ∷ after) ≡ Some (length c)
line_again [] after h = refl
line_again (b ∷ c) after h =
    let a = and_parts (not (eqb b (code "\n"))) (is_line c) h in
    rw (not-true _ a.0, line_again c after a.1)

pub line_none : (c : List ℕ) → is_line c ≡ true → newline_at c ≡ None
line_none [] h = refl
line_none (b ∷ c) h =
    let a = and_parts (not (eqb b (code "\n"))) (is_line c) h in
    rw (not-true _ a.0, line_none c a.1)

pub record Line (bs : List ℕ) (n : ℕ) : Type 0 where
  pub cut : bs ≡ take n bs ++ code "\n" ∷ drop (suc n) bs
  pub line : is_line (take n bs) ≡ true

pub line_found : (bs : List ℕ) → MatchOption (newline_at bs) (Unit {0}) (Line bs)
line_found [] = tt
line_found (b ∷ bs) =
    cond_both (eqb b (code "\n")) (Some 0) (option_map suc (newline_at bs)) (λ r. MatchOption r (Unit {0}) (Line (b ∷ bs)))
    (λ is. record { cut = cc (eqb-true b (code "\n") is); line = refl })
    (λ no. mapped (newline_at bs) suc (Line bs) (Line (b ∷ bs)) (λ n h. record { cut = cc; line = and_from _ _ (not_from_false _ no) h.line }) (line_found bs))

-- ---- words, which end before the first other byte

pub word_again : (w after : List ℕ) → list_all is_word_byte w ≡ true → begins_word after ≡ false → leading_word_bytes (w ++ after) ≡ length w
word_again [] [] h e = refl
word_again [] (a ∷ more) h e = rw e
word_again (b ∷ w) after h e =
    let a = and_parts (is_word_byte b) (list_all is_word_byte w) h in
    rw (a.0, word_again w after a.1 e)

pub record Run (bs : List ℕ) (n : ℕ) : Type 0 where
  pub cut : bs ≡ take n bs ++ drop n bs
  pub bytes : list_all is_word_byte (take n bs) ≡ true
  pub longest : begins_word (drop n bs) ≡ false

pub word_found : (bs : List ℕ) → Run bs (leading_word_bytes bs)
word_found [] = record { cut = refl; bytes = refl; longest = refl }
word_found (b ∷ bs) =
    cond_both (is_word_byte b) (suc (leading_word_bytes bs)) 0 (Run (b ∷ bs))
    (λ is. let h = word_found bs in record { cut = cc; bytes = and_from _ _ is h.bytes; longest = h.longest })
    (λ no. record { cut = refl; bytes = refl; longest = no })

-- ---- strings, which end with a quote

quote_first : (after : List ℕ) → raw_length (code "\"" ∷ after) ≡ Some 0
quote_first [] = refl
quote_first (a ∷ more) = refl

-- a plain byte is neither a quote nor a backslash nor a newline
plain_parts : (b : ℕ) → is_plain b ≡ true → (eqb b (code "\"") ≡ false) × (eqb b (code "\\") ≡ false) × (eqb b (code "\n") ≡ false)
plain_parts b h = three (eqb b (code "\"")) (eqb b (code "\\")) (eqb b (code "\n")) h where
  three : (x y z : Bool) → not (x || (y || z)) ≡ true → (x ≡ false) × (y ≡ false) × (z ≡ false)
  three false false false h = (refl, refl, refl)
  three x y z h = absurd cc

plain_from : (b : ℕ) → eqb b (code "\"") ≡ false → eqb b (code "\\") ≡ false → eqb b (code "\n") ≡ false → is_plain b ≡ true
plain_from b x y z = rw (x, y, z)

pub raw_again : (t after : List ℕ) → is_raw t ≡ true → raw_length (t ++ code "\"" ∷ after) ≡ Some (length t)
raw_again [] after h = quote_first after
raw_again (b ∷ []) after h =
    let p = plain_parts b h in
    rw (p.0, p.1, p.2, quote_first after)
raw_again (b ∷ c ∷ bs) after h =
    elim (or_cases (is_plain b && is_raw (c ∷ bs)) (eqb b (code "\\") && (is_escapable c && is_raw bs)) h) [
      | inl plain ↦
          let a = and_parts (is_plain b) (is_raw (c ∷ bs)) plain in
          let p = plain_parts b a.0 in
          rw (p.0, p.1, p.2, raw_again (c ∷ bs) after a.1)
      | inr escaped ↦
          let a = and_parts (eqb b (code "\\")) (is_escapable c && is_raw bs) escaped in
          let e = and_parts (is_escapable c) (is_raw bs) a.1 in
          rw (eqb-true b (code "\\") a.0, e.0, raw_again bs after e.1)
    ]

pub record Raw (bs : List ℕ) (n : ℕ) : Type 0 where
  pub cut : bs ≡ take n bs ++ code "\"" ∷ drop (suc n) bs
  pub raw : is_raw (take n bs) ≡ true

-- a plain byte in front of a string's raw text gives a string's raw text
raw_more : (b : ℕ) (t : List ℕ) → is_plain b ≡ true → is_raw t ≡ true → is_raw (b ∷ t) ≡ true
raw_more b [] p r = p
raw_more b (c ∷ t) p r = or_left _ _ (and_from _ _ p r)

pub raw_found : (bs : List ℕ) → MatchOption (raw_length bs) (Unit {0}) (Raw bs)
raw_found [] = tt
raw_found (b ∷ []) =
    cond_both (eqb b (code "\"")) (Some 0) None (λ r. MatchOption r (Unit {0}) (Raw (b ∷ [])))
    (λ is. record { cut = rw (eqb-true b (code "\"") is); raw = refl })
    (λ no. tt)
raw_found (b ∷ c ∷ bs) =
    let P : Option ℕ → Type 0 = λ r. MatchOption r (Unit {0}) (Raw (b ∷ c ∷ bs)) in
    let plain : Option ℕ = option_map suc (raw_length (c ∷ bs)) in
    let escaped : Option ℕ = option_map (λ n. suc (suc n)) (raw_length bs) in
    cond_both (eqb b (code "\"")) (Some 0) (cond (eqb b (code "\\")) (cond (is_escapable c) escaped None) (cond (eqb b (code "\n")) None plain)) P
    (λ is. record { cut = cc (eqb-true b (code "\"") is); raw = refl })
    (λ no34. cond_both (eqb b (code "\\")) (cond (is_escapable c) escaped None) (cond (eqb b (code "\n")) None plain) P
    (λ is92. cond_both (is_escapable c) escaped None P
    (λ esc. mapped (raw_length bs) (λ n. suc (suc n)) (Raw bs) (Raw (b ∷ c ∷ bs)) (λ n h. record { cut = cc; raw = or_right _ _ (and_from _ _ is92 (and_from _ _ esc h.raw)) }) (raw_found bs))
    (λ no. tt))
    (λ no92. cond_both (eqb b (code "\n")) None plain P
    (λ is10. tt)
    (λ no10. mapped (raw_length (c ∷ bs)) suc (Raw (c ∷ bs)) (Raw (b ∷ c ∷ bs)) (λ n h. record { cut = cc; raw = raw_more b (take n (c ∷ bs)) (plain_from b no34 no92 no10) h.raw }) (raw_found (c ∷ bs)))))
