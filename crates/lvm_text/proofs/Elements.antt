-- Lemmas about the element at the front of a text, and its newlines.
use Rattle.lvm_text.proofs.Prelude.{ℕ, suc, Bool, true, true≢false, false, cond, not, eqb, List, [], length, get_or, drop, Some, None, refl, sym, ap, arith, inl, inr, length-append, list_all, and_parts, or_cases, not-true, eqb-true, nat_tests, MatchOption-at_some, code, Token, Word, TokenAtLine, Element, White, Lexeme, spelling, token_spelling, IsToken, IsElement, Begins, is_white, is_line, is_word_byte, is_raw, is_plain, is_escapable, newlines, put_token, element_at, element_from, Text}
use Rattle.lvm_text.proofs.Cuts.{Found, element_found, Before, before_more}
use Rattle.std.specs.Prelude.{◌≡◌, ◌+◌, ◌<◌, ◌≤◌, ◌&&◌, ◌∷◌, ◌++◌}

-- ---- the element at the front

pub element_nil : (bs : List ℕ) → true ≡ eqb (length bs) 0 → None ≡ element_at bs
unfolding element_at
element_nil [] h = refl
element_nil (b ∷ bs) h = let none : suc (length bs) ≡ 0 = eqb-true _ _ (sym h) in absurd (omega arith)

beyond : (b : ℕ) → 128 ≤ b → (is_white b ≡ false) × (eqb b (code "#") ≡ false) × (eqb b (code "\"") ≡ false) × (is_word_byte b ≡ false)
beyond b h = (grind (arith, nat_tests), grind (arith, nat_tests), grind (arith, nat_tests), grind (arith, nat_tests))

beyond_sign : (b : ℕ) → 128 ≤ b → (eqb b (code "{") ≡ false) × (eqb b (code "}") ≡ false) × (eqb b (code "[") ≡ false) × (eqb b (code "]") ≡ false) × (eqb b (code "=") ≡ false) × (eqb b (code ",") ≡ false)
beyond_sign b h = (grind (arith, nat_tests), grind (arith, nat_tests), grind (arith, nat_tests), grind (arith, nat_tests), grind (arith, nat_tests), grind (arith, nat_tests))

pub element_beyond : (bs : List ℕ) → 128 ≤ get_or bs 0 0 → None ≡ element_at bs
unfolding element_at
element_beyond [] h = refl
element_beyond (b ∷ bs) h =
    let t = beyond b h in
    let s = beyond_sign b h in
    rw (t.0, t.1, t.2, t.3, s.0, s.1, s.2, s.3, s.4, s.5)

pub element_white : (bs rest : List ℕ) (b : ℕ) → 0 < length bs → b ≡ get_or bs 0 b → rest ≡ drop 1 bs → is_white b ≡ true → Some (White b, rest) ≡ element_at bs
unfolding element_at
element_white [] rest b lt first e white = absurd (omega arith)
element_white (a ∷ bs) rest b lt first e white = rw (← first, white, e)

pub element_cons : (bs rest : List ℕ) → 0 < length bs → rest ≡ drop 1 bs → element_from (get_or bs 0 0) rest ≡ element_at bs
unfolding element_at
element_cons [] rest lt e = absurd (omega arith)
element_cons (b ∷ bs) rest lt e = ap (element_from b) e

-- the element that the code found is at the front of the bytes
pub begins : (bs : List ℕ) (p : Element) (after : List ℕ) → Some (p, after) ≡ element_at bs → Begins bs p after
begins bs p after e = MatchOption-at_some (Unit {0}) (Found bs) (p, after) (sym e) (element_found bs)

spelling_some : (p : Element) (after : List ℕ) → IsElement p after → 0 < length (spelling p)
spelling_some (Lexeme (Word [])) after h = absurd (h.some refl)
spelling_some p after h = omega arith

more_lines : (t : Bool) (a b n : ℕ) → a ≡ b + n → cond t (suc a) a ≡ cond t (suc b) b + n
more_lines true a b n h = omega arith
more_lines false a b n h = h

newlines-append : (a b : List ℕ) → newlines (a ++ b) ≡ newlines a + newlines b
newlines-append [] b = omega arith
newlines-append (x ∷ a) b = more_lines (eqb x (code "\n")) _ _ (newlines b) (newlines-append a b)

-- ---- the newlines of an element

line_newlines : (c : List ℕ) → is_line c ≡ true → newlines c ≡ 0
line_newlines [] h = refl
line_newlines (b ∷ c) h =
    let a = and_parts (not (eqb b (code "\n"))) (is_line c) h in
    rw (not-true _ a.0, line_newlines c a.1)

word_byte : (b : ℕ) → is_word_byte b ≡ true → eqb b (code "\n") ≡ false
word_byte b h = grind (arith, nat_tests)

word_newlines : (w : List ℕ) → list_all is_word_byte w ≡ true → newlines w ≡ 0
word_newlines [] h = refl
word_newlines (b ∷ w) h =
    let a = and_parts (is_word_byte b) (list_all is_word_byte w) h in
    rw (word_byte b a.0, word_newlines w a.1)

plain_byte : (b : ℕ) → is_plain b ≡ true → eqb b (code "\n") ≡ false
plain_byte b h = grind (arith, nat_tests)

slash_byte : (b : ℕ) → eqb b (code "\\") ≡ true → eqb b (code "\n") ≡ false
slash_byte b h = grind (arith, nat_tests)

escapable_byte : (b : ℕ) → is_escapable b ≡ true → eqb b (code "\n") ≡ false
escapable_byte b h = grind (arith, nat_tests)

raw_newlines : (t : List ℕ) → is_raw t ≡ true → newlines t ≡ 0
raw_newlines [] h = refl
raw_newlines (b ∷ []) h = rw (plain_byte b h)
raw_newlines (b ∷ c ∷ bs) h =
    elim (or_cases (is_plain b && is_raw (c ∷ bs)) (eqb b (code "\\") && (is_escapable c && is_raw bs)) h) [
      | inl plain ↦
          let a = and_parts (is_plain b) (is_raw (c ∷ bs)) plain in
          let rest : newlines (c ∷ bs) ≡ 0 = raw_newlines (c ∷ bs) a.1 in
          let first : eqb b (code "\n") ≡ false = plain_byte b a.0 in
          rw first rest
      | inr escaped ↦
          let a = and_parts (eqb b (code "\\")) (is_escapable c && is_raw bs) escaped in
          let e = and_parts (is_escapable c) (is_raw bs) a.1 in
          rw (slash_byte b a.0, escapable_byte c e.0, raw_newlines bs e.1)
    ]

pub comment_newlines : (c : List ℕ) → is_line c ≡ true → newlines (code "#" ∷ (c ++ code "\n" ∷ [])) ≡ 1
comment_newlines c h = omega (arith, newlines-append c (code "\n" ∷ []), line_newlines c h)

pub token_newlines : (t : Token) (after : List ℕ) → IsToken t after → newlines (token_spelling t) ≡ 0
token_newlines (Word w) after h = word_newlines w h.bytes
token_newlines (Text t) after h = omega (arith, newlines-append t (code "\"" ∷ []), raw_newlines t h)
token_newlines _ after h = refl

most_lines : (t : Bool) (a b : ℕ) → a ≤ b → cond t (suc a) a ≤ suc b
most_lines true a b h = omega arith
most_lines false a b h = omega arith

newlines-le-length : (bs : List ℕ) → newlines bs ≤ length bs
newlines-le-length [] = omega arith
newlines-le-length (b ∷ bs) = most_lines (eqb b (code "\n")) _ _ (newlines-le-length bs)

-- an element has at least one byte, and at least as many bytes as newlines
pub shorter : (bs : List ℕ) (p : Element) (after : List ℕ) → Begins bs p after → (length after < length bs) × (newlines (spelling p) + length after ≤ length bs)
shorter bs p after h =
    let all : length bs ≡ length (spelling p ++ after) = ap length h.0 in
    let some : 0 < length (spelling p) = spelling_some p after h.1 in
    let most : newlines (spelling p) ≤ length (spelling p) = newlines-le-length (spelling p) in
    (omega (arith, length-append (spelling p) after), omega (arith, length-append (spelling p) after))

-- Before, and the line is at most 1 plus the number of bytes before `rest`, so that it can't overflow
pub record Reached (text : List ℕ) (line : ℕ) (tokens : List TokenAtLine) (rest : List ℕ) : Type 0 where
  pub before : Before text line tokens rest
  pub most : line + length rest ≤ 1 + length text

-- Reached still holds after the next element, and the rest is shorter
pub reached_more : {text rest after : List ℕ} {line lines : ℕ} {tokens more : List TokenAtLine} {p : Element} → Reached text line tokens rest → Some (p, after) ≡ element_at rest
    → more ≡ tokens ++ put_token p line [] → lines ≡ newlines (spelling p) → Reached text (line + lines) more after × (length after < length rest)
reached_more {text} {rest} {after} {line} {lines} {tokens} {more} {p} h e m l =
    let b = begins rest p after e in
    let s = shorter rest p after b in
    (rw (m, l) (record { before = before_more text line tokens rest p after h.before b; most = omega (arith, s.1, h.most) }), s.0)

pub some_bytes : (bs : List ℕ) → false ≡ eqb (length bs) 0 → 0 < length bs
some_bytes [] h = absurd (true≢false (sym h))
some_bytes (b ∷ bs) h = omega arith
