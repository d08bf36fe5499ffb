-- A text can be cut into elements in one way only.
use Rattle.lvm_text.proofs.Prelude.{ℕ, suc, true, false, cond, eqb, List, [], length, take, drop, Option, Some, None, refl, sym, ap, ◌∙◌, append_assoc, arith, MatchOption, option_map, list_all, cond_both, and_parts, eqb-true, nat_tests, some_pair_parts, code, Token, Word, Open, Close, ListOpen, ListClose, Equals, Comma, TokenAtLine, Element, White, Comment, Lexeme, spelling, token_spelling, IsWord, IsToken, IsElement, Begins, Cut, is_white, is_line, is_word_byte, is_end, line_after, tokens_from, put_token, newlines, Spells, IsBadToken, newline_at, leading_word_bytes, raw_length, sign_of, element_at, Text}
use Rattle.lvm_text.proofs.Cases.{mapped}
use Rattle.lvm_text.proofs.Scans.{line_again, line_none, Line, line_found, word_again, word_found, raw_again, Raw, raw_found}
use Rattle.std.proofs.Math.Seq.{drop-append_seam, take-append_seam}
use Rattle.std.specs.Prelude.{◌≡◌, ◌+◌, ◌∷◌, ◌++◌}

-- ---- an element that is found is there

-- a sign: byte b spells token t, which is valid whatever comes after it
pub record Sign (b : ℕ) (t : Token) : Type 0 where
  pub spelled : b ∷ [] ≡ token_spelling t
  pub any : (after : List ℕ) → IsToken t after

sign_if : (b n : ℕ) (t : Token) (later : Option Token) → n ∷ [] ≡ token_spelling t → ((after : List ℕ) → IsToken t after) → MatchOption later (Unit {0}) (Sign b) → MatchOption (cond (eqb b n) (Some t) later) (Unit {0}) (Sign b)
sign_if b n t later e any h =
    cond_both (eqb b n) (Some t) later (λ r. MatchOption r (Unit {0}) (Sign b))
    (λ is. record { spelled = rw (eqb-true b n is) e; any = any })
    (λ no. h)

sign_found : (b : ℕ) → MatchOption (sign_of b) (Unit {0}) (Sign b)
sign_found b =
    sign_if b (code "{") Open _ refl (λ a. tt) (sign_if b (code "}") Close _ refl (λ a. tt) (sign_if b (code "[") ListOpen _ refl (λ a. tt)
    (sign_if b (code "]") ListClose _ refl (λ a. tt) (sign_if b (code "=") Equals _ refl (λ a. tt) (sign_if b (code ",") Comma None refl (λ a. tt) tt)))))

-- the text begins with the element of a pair, and the bytes of the pair come after it
abbrev pub Found : List ℕ → Element × List ℕ → Type 0
Found bs q = Begins bs q.0 q.1

nonempty : (b : ℕ) (bs : List ℕ) → is_word_byte b ≡ true → take (leading_word_bytes (b ∷ bs)) (b ∷ bs) ≡ [] → ⊥
nonempty b bs is = cond_both (is_word_byte b) (suc (leading_word_bytes bs)) 0 (λ n. take n (b ∷ bs) ≡ [] → ⊥) (λ h e. cc) (λ no e. cc)

word_is : (b : ℕ) (bs : List ℕ) → is_word_byte b ≡ true → Begins (b ∷ bs) (Lexeme (Word (take (leading_word_bytes (b ∷ bs)) (b ∷ bs)))) (drop (leading_word_bytes (b ∷ bs)) (b ∷ bs))
word_is b bs is =
    let h = word_found (b ∷ bs) in
    (h.cut, record { some = nonempty b bs is; bytes = h.bytes; longest = h.longest })

pub element_found : (bs : List ℕ) → MatchOption (element_at bs) (Unit {0}) (Found bs)
unfolding element_at
element_found [] = tt
element_found (b ∷ bs) =
    let P : Option (Element × List ℕ) → Type 0 = λ r. MatchOption r (Unit {0}) (Found (b ∷ bs)) in
    let comment : Option (Element × List ℕ) = option_map (λ n. (Comment (take n bs), drop (suc n) bs)) (newline_at bs) in
    let text : Option (Element × List ℕ) = option_map (λ n. (Lexeme (Text (take n bs)), drop (suc n) bs)) (raw_length bs) in
    let word : Option (Element × List ℕ) = Some (Lexeme (Word (take (leading_word_bytes (b ∷ bs)) (b ∷ bs))), drop (leading_word_bytes (b ∷ bs)) (b ∷ bs)) in
    let sign : Option (Element × List ℕ) = option_map (λ t. (Lexeme t, bs)) (sign_of b) in
    cond_both (is_white b) (Some (White b, bs)) (cond (eqb b (code "#")) comment (cond (eqb b (code "\"")) text (cond (is_word_byte b) word sign))) P
    (λ is. (refl, is))
    (λ no. cond_both (eqb b (code "#")) comment (cond (eqb b (code "\"")) text (cond (is_word_byte b) word sign)) P
    (λ is. mapped (newline_at bs) (λ n. (Comment (take n bs), drop (suc n) bs)) (Line bs) (Found (b ∷ bs))
    (λ n h. (cc (eqb-true b (code "#") is, append_assoc (take n bs) (code "\n" ∷ []) (drop (suc n) bs)), h.line)) (line_found bs))
    (λ no. cond_both (eqb b (code "\"")) text (cond (is_word_byte b) word sign) P
    (λ is. mapped (raw_length bs) (λ n. (Lexeme (Text (take n bs)), drop (suc n) bs)) (Raw bs) (Found (b ∷ bs))
    (λ n h. (cc (eqb-true b (code "\"") is, append_assoc (take n bs) (code "\"" ∷ []) (drop (suc n) bs)), h.raw)) (raw_found bs))
    (λ no. cond_both (is_word_byte b) word sign P
    (λ is. word_is b bs is)
    (λ no. mapped (sign_of b) (λ t. (Lexeme t, bs)) (Sign b) (Found (b ∷ bs)) (λ t h. (cc, h.any bs)) (sign_found b)))))

-- ---- an element that is there is found

drop_past : (c : List ℕ) (x : ℕ) (r : List ℕ) → drop (suc (length c)) (c ++ x ∷ r) ≡ r
drop_past [] x r = refl
drop_past (b ∷ c) x r = drop_past c x r

word_white : (b : ℕ) → is_word_byte b ≡ true → is_white b ≡ false
word_white b h = grind (arith, nat_tests)

word_sign : (b : ℕ) → is_word_byte b ≡ true → (eqb b (code "#") ≡ false) × (eqb b (code "\"") ≡ false)
word_sign b h = (grind (arith, nat_tests), grind (arith, nat_tests))

word_again' : (w after : List ℕ) → IsWord w after → element_at (w ++ after) ≡ Some (Lexeme (Word w), after)
unfolding element_at
word_again' [] after h = absurd (h.some refl)
word_again' (b ∷ w) after h =
    let a = and_parts (is_word_byte b) (list_all is_word_byte w) h.bytes in
    let s = word_sign b a.0 in
    rw (word_white b a.0, s.0, s.1, a.0, word_again w after a.1 h.longest, take-append_seam w after, drop-append_seam w after)

comment_again : (c after : List ℕ) → is_line c ≡ true → element_at (code "#" ∷ (c ++ code "\n" ∷ after)) ≡ Some (Comment c, after)
unfolding element_at
comment_again c after h = rw (line_again c after h, take-append_seam c (code "\n" ∷ after), drop_past c (code "\n") after)

text_again : (t after : List ℕ) → IsToken (Text t) after → element_at (code "\"" ∷ (t ++ code "\"" ∷ after)) ≡ Some (Lexeme (Text t), after)
unfolding element_at
text_again t after h = rw (raw_again t after h, take-append_seam t (code "\"" ∷ after), drop_past t (code "\"") after)

white_again : (b : ℕ) (after : List ℕ) → is_white b ≡ true → element_at (b ∷ after) ≡ Some (White b, after)
unfolding element_at
white_again b after h = rw h

token_again : (t : Token) (after : List ℕ) → IsToken t after → element_at (token_spelling t ++ after) ≡ Some (Lexeme t, after)
unfolding element_at
token_again (Word w) after h = word_again' w after h
token_again (Text t) after h = rw (append_assoc t (code "\"" ∷ []) after) (text_again t after h)
token_again _ after h = refl

spelled_again : (p : Element) (after : List ℕ) → IsElement p after → element_at (spelling p ++ after) ≡ Some (p, after)
spelled_again (White b) after h = white_again b after h
spelled_again (Comment c) after h = rw (append_assoc c (code "\n" ∷ []) after) (comment_again c after h)
spelled_again (Lexeme t) after h = token_again t after h

pub element_again : (bs : List ℕ) (p : Element) (after : List ℕ) → Begins bs p after → element_at bs ≡ Some (p, after)
element_again bs p after h = ap element_at h.0 ∙ spelled_again p after h.1

-- at the end of a text, no element is found
pub end_none : (bs : List ℕ) → is_end bs ≡ true → element_at bs ≡ None
unfolding element_at
end_none [] h = refl
end_none (b ∷ bs) h =
    let a = and_parts (eqb b (code "#")) (is_line bs) h in
    rw (eqb-true b (code "#") a.0, line_none bs a.1)

-- ---- a text is cut in one way only

-- the text is cut into these elements, and no element is found in the rest
pub record CutUp (text : List ℕ) (ps : List Element) (rest : List ℕ) : Type 0 where
  pub cut : Cut text ps rest
  pub over : element_at rest ≡ None

both : (o : Option (Element × List ℕ)) (p : Element) (a : List ℕ) → o ≡ Some (p, a) → o ≡ None → ⊥
both o p a h n = cc

pub one_cut : (text : List ℕ) (ps qs : List Element) (r s : List ℕ) → CutUp text ps r → CutUp text qs s → (ps ≡ qs) × (r ≡ s)
one_cut text [] [] r s h k = (refl, sym h.cut ∙ k.cut)
one_cut text [] (q ∷ qs) r s h k = absurd (both (element_at text) q k.cut.0 (element_again text q k.cut.0 k.cut.1) (ap element_at h.cut ∙ h.over))
one_cut text (p ∷ ps) [] r s h k = absurd (both (element_at text) p h.cut.0 (element_again text p h.cut.0 h.cut.1) (ap element_at k.cut ∙ k.over))
one_cut text (p ∷ ps) (q ∷ qs) r s h k =
    let same = some_pair_parts _ _ _ _ (sym (element_again text p h.cut.0 h.cut.1) ∙ element_again text q k.cut.0 k.cut.1) in
    let rest = one_cut h.cut.0 ps qs r s (record { cut = h.cut.2; over = h.over }) (record { cut = rw same.1 k.cut.2; over = k.over }) in
    (rw (same.0, rest.0), rest.1)

found_none : (bs : List ℕ) (o : Option (Element × List ℕ)) → MatchOption o (Unit {0}) (Found bs) → ((p : Element) (after : List ℕ) → ¬ (Begins bs p after)) → o ≡ None
found_none bs None h bad = refl
found_none bs (Some q) h bad = absurd (bad q.0 q.1 h)

-- where no element begins, none is found
pub bad_none : (bs : List ℕ) → ((p : Element) (after : List ℕ) → ¬ (Begins bs p after)) → element_at bs ≡ None
bad_none bs bad = found_none bs (element_at bs) (element_found bs) bad

pub none_bad : (bs : List ℕ) → element_at bs ≡ None → (p : Element) (after : List ℕ) → ¬ (Begins bs p after)
none_bad bs none p after h = both (element_at bs) p after (element_again bs p after h) none

spelled_up : {text : List ℕ} {ts : List TokenAtLine} (h : Spells text ts) → CutUp text h.elements h.rest
spelled_up h = record { cut = h.cut; over = end_none h.rest h.end }

bad_up : {text : List ℕ} {n : ℕ} (h : IsBadToken text n) → CutUp text h.elements h.rest
bad_up h = record { cut = h.cut; over = bad_none h.rest h.bad }

-- a text spells only one list of tokens
pub one_spelling : (text : List ℕ) (ts us : List TokenAtLine) → Spells text ts → Spells text us → ts ≡ us
one_spelling text ts us h k = h.tokens ∙ ap (tokens_from 1) (one_cut text h.elements k.elements h.rest k.rest (spelled_up h) (spelled_up k)).0 ∙ sym k.tokens

-- a text that spells tokens has no part that is no token
pub spelled_no_bad : (text : List ℕ) (ts : List TokenAtLine) (n : ℕ) → Spells text ts → IsBadToken text n → ⊥
spelled_no_bad text ts n h k =
    let same = one_cut text h.elements k.elements h.rest k.rest (spelled_up h) (bad_up k) in
    let wrong : true ≡ false = sym h.end ∙ ap is_end same.1 ∙ k.more in
    absurd cc

-- a text has at most one line with the first part that is no token
pub one_bad : (text : List ℕ) (m n : ℕ) → IsBadToken text m → IsBadToken text n → m ≡ n
one_bad text m n h k = h.at ∙ ap (line_after 1) (one_cut text h.elements k.elements h.rest k.rest (bad_up h) (bad_up k)).0 ∙ sym k.at

-- ---- one more element

pub cut_more : (text : List ℕ) (ps : List Element) (r : List ℕ) (p : Element) (after : List ℕ) → Cut text ps r → Begins r p after → Cut text (ps ++ p ∷ []) after
cut_more text [] r p after h b = (after, rw h b, refl)
cut_more text (q ∷ ps) r p after h b = (h.0, h.1, cut_more h.0 ps r p after h.2 b)

pub line_more : (n : ℕ) (ps : List Element) (p : Element) → line_after n (ps ++ p ∷ []) ≡ line_after n ps + newlines (spelling p)
line_more n [] p = refl
line_more n (q ∷ ps) p = line_more (n + newlines (spelling q)) ps p

put_more : (p : Element) (n : ℕ) (xs ys : List TokenAtLine) → put_token p n (xs ++ ys) ≡ put_token p n xs ++ ys
put_more (White b) n xs ys = refl
put_more p n xs ys = refl

pub tokens_more : (n : ℕ) (ps : List Element) (p : Element) → tokens_from n (ps ++ p ∷ []) ≡ tokens_from n ps ++ put_token p (line_after n ps) []
tokens_more n [] p = refl
tokens_more n (q ∷ ps) p =
    ap (put_token q n) (tokens_more (n + newlines (spelling q)) ps p) ∙ put_more q n (tokens_from (n + newlines (spelling q)) ps) (put_token p (line_after (n + newlines (spelling q)) ps) [])

-- the text before `rest` consists of elements with these tokens, and `rest` begins on this line
pub record Before (text : List ℕ) (line : ℕ) (tokens : List TokenAtLine) (rest : List ℕ) : Type 0 where
  pub elements : List Element
  pub cut : Cut text elements rest
  pub at : line ≡ line_after 1 elements
  pub cut_tokens : tokens ≡ tokens_from 1 elements

pub before_all : (text : List ℕ) → Before text 1 [] text
before_all text = record { elements = []; cut = refl; at = refl; cut_tokens = refl }

pub before_more : (text : List ℕ) (line : ℕ) (tokens : List TokenAtLine) (rest : List ℕ) (p : Element) (after : List ℕ) → Before text line tokens rest → Begins rest p after
    → Before text (line + newlines (spelling p)) (tokens ++ put_token p line []) after
before_more text line tokens rest p after h b = record {
  elements = h.elements ++ p ∷ [];
  cut = cut_more text h.elements rest p after h.cut b;
  at = rw h.at (sym (line_more 1 h.elements p));
  cut_tokens = rw (h.cut_tokens, h.at) (sym (tokens_more 1 h.elements p));
}

pub spells_whole : (text : List ℕ) (line : ℕ) (tokens : List TokenAtLine) (rest : List ℕ) → Before text line tokens rest → is_end rest ≡ true → Spells text tokens
spells_whole text line tokens rest h e = record { elements = h.elements; rest = rest; cut = h.cut; end = e; tokens = h.cut_tokens }

pub bad_here : (text : List ℕ) (line : ℕ) (tokens : List TokenAtLine) (rest : List ℕ) → Before text line tokens rest → is_end rest ≡ false → element_at rest ≡ None → IsBadToken text line
bad_here text line tokens rest h e none = record { elements = h.elements; rest = rest; cut = h.cut; more = e; bad = none_bad rest none; at = h.at }
