-- If no integer is out of range, the builder reads the same scalars as the grammar.
use Rattle.lvm_text.proofs.Prelude.{ℕ, Bool, true, false, cond, List, [], Some, None, refl, sym, ap, ◌∙◌, is_none, unwrap_or, nat_le, nat_lt, length, digits_value, Token, Word, Open, Close, ListOpen, ListClose, Equals, Comma, TokenAtLine, Scalar, Values, Nothing, Section, Single, Several, are_digits, number_of, scalar_of, ReadsListBy, ReadsMoreBy, ReadsBy, leads_scalar, is_refused, number_lines, bounded_of, Text}
use Rattle.lvm_text.specs.Tree as tree
use Rattle.lvm_text.proofs.Keys.{no_hit}
use Rattle.std.specs.Prelude.{◌≡◌, ◌&&◌, ◌∷◌, ◌^◌}

bounded_number : (w : List ℕ) (digits small : Bool) → are_digits w ≡ digits → is_none (cond (digits && small) (Some (digits_value 10 w)) None) ≡ false
    → cond digits (Some (tree.Int (unwrap_or (cond (digits && small) (Some (digits_value 10 w)) None) 0))) None ≡ cond digits (Some (tree.Int (digits_value 10 w))) None
bounded_number w true false e h = absurd cc
bounded_number w digits small e h = refl

bounded_word : (w : List ℕ) → is_none (number_of w) ≡ false → bounded_of (Word w) ≡ scalar_of (Word w)
unfolding number_of
bounded_word w h = bounded_number w (are_digits w) (nat_le (length w) 19 && nat_lt (digits_value 10 w) (2 ^ 63)) refl h

bounded_same : (t : Token) (s : Scalar) → is_refused t ≡ false → scalar_of t ≡ Some s → bounded_of t ≡ Some s
bounded_same (Word w) s h e = bounded_word w h ∙ e
bounded_same (Text x) s h e = e
bounded_same t s h e = absurd cc

-- no integer among the tokens is out of range, for some token in front of them
abbrev Fits : List TokenAtLine → Type 0
Fits ts = (before : Token) × (number_lines before ts ≡ [])

after : (before : Token) (t : TokenAtLine) (ts : List TokenAtLine) → number_lines before (t ∷ ts) ≡ [] → number_lines t.0 ts ≡ []
after before t ts h = (no_hit (leads_scalar before && is_refused t.0) t.1 (number_lines t.0 ts) h).1

first_fits : (before t : Token) (n : ℕ) (ts : List TokenAtLine) (s : Scalar) → leads_scalar before ≡ true → number_lines before ((t, n) ∷ ts) ≡ [] → scalar_of t ≡ Some s → bounded_of t ≡ Some s
first_fits before t n ts s leads h e =
    bounded_same t s (cc (no_hit (leads_scalar before && is_refused t) n (number_lines t ts) h).0) e

at_tokens : (before : Token) (ts us : List TokenAtLine) → ts ≡ us → number_lines before ts ≡ [] → number_lines before us ≡ []
at_tokens before ts us e h = ap (number_lines before) (sym e) ∙ h

bounded_more : (ts : List TokenAtLine) (ss : List Scalar) (b : List TokenAtLine) → Fits ts → ReadsMoreBy scalar_of ts ss b → ReadsMoreBy bounded_of ts ss b × Fits b
bounded_more ts [] b fits r = (r, (ListClose, after fits.0 (ListClose, r.0) b (at_tokens fits.0 ts ((ListClose, r.0) ∷ b) r.1 fits.1)))
bounded_more ts (s ∷ ss) b fits r =
    let one = after fits.0 (Comma, r.0) ((r.2, r.1) ∷ r.3) (at_tokens fits.0 ts ((Comma, r.0) ∷ (r.2, r.1) ∷ r.3) r.4 fits.1) in
    let x = bounded_more r.3 ss b (r.2, after Comma (r.2, r.1) r.3 one) r.6 in
    ((r.0, r.1, r.2, r.3, r.4, first_fits Comma r.2 r.1 r.3 s refl one r.5, x.0), x.1)

bounded_list : (ts : List TokenAtLine) (ss : List Scalar) (b : List TokenAtLine) → number_lines ListOpen ts ≡ [] → ReadsListBy scalar_of ts ss b → ReadsListBy bounded_of ts ss b × Fits b
bounded_list ts [] b fits r = (r, (ListClose, after ListOpen (ListClose, r.0) b (at_tokens ListOpen ts ((ListClose, r.0) ∷ b) r.1 fits)))
bounded_list ts (s ∷ ss) b fits r =
    let one = at_tokens ListOpen ts ((r.1, r.0) ∷ r.2) r.3 fits in
    let x = bounded_more r.2 ss b (r.1, after ListOpen (r.1, r.0) r.2 one) r.5 in
    ((r.0, r.1, r.2, r.3, first_fits ListOpen r.1 r.0 r.2 s refl one r.4, x.0), x.1)

bounded_values : (ts : List TokenAtLine) (v : Values) (more : List TokenAtLine) → Fits ts → ReadsBy scalar_of ts v more → ReadsBy bounded_of ts v more × Fits more
bounded_values ts Nothing more fits r = (r, (fits.0, at_tokens fits.0 ts more r fits.1))
bounded_values ts (Section k n inner rest) more fits r =
    let one = after fits.0 (Word k, n) ((Open, r.1) ∷ r.3) (at_tokens fits.0 ts ((Word k, n) ∷ (Open, r.1) ∷ r.3) r.5 fits.1) in
    let x = bounded_values r.3 inner ((Close, r.2) ∷ r.4) (Open, after (Word k) (Open, r.1) r.3 one) r.6 in
    let y = bounded_values r.4 rest more (Close, after x.1.0 (Close, r.2) r.4 x.1.1) r.7 in
    ((r.0, r.1, r.2, r.3, r.4, r.5, x.0, y.0), y.1)
bounded_values ts (Single k n s rest) more fits r =
    let one = after fits.0 (Word k, n) ((Equals, r.1) ∷ (r.3, r.2) ∷ r.4) (at_tokens fits.0 ts ((Word k, n) ∷ (Equals, r.1) ∷ (r.3, r.2) ∷ r.4) r.5 fits.1) in
    let two = after (Word k) (Equals, r.1) ((r.3, r.2) ∷ r.4) one in
    let y = bounded_values r.4 rest more (r.3, after Equals (r.3, r.2) r.4 two) r.7 in
    ((r.0, r.1, r.2, r.3, r.4, r.5, first_fits Equals r.3 r.2 r.4 s refl two r.6, y.0), y.1)
bounded_values ts (Several k n ss rest) more fits r =
    let one = after fits.0 (Word k, n) ((Equals, r.1) ∷ (ListOpen, r.2) ∷ r.3) (at_tokens fits.0 ts ((Word k, n) ∷ (Equals, r.1) ∷ (ListOpen, r.2) ∷ r.3) r.5 fits.1) in
    let two = after Equals (ListOpen, r.2) r.3 (after (Word k) (Equals, r.1) ((ListOpen, r.2) ∷ r.3) one) in
    let x = bounded_list r.3 ss r.4 two r.6 in
    let y = bounded_values r.4 rest more x.1 r.7 in
    ((r.0, r.1, r.2, r.3, r.4, r.5, x.0, y.0), y.1)

-- a text of the grammar without integers out of range is read the same way by the builder
pub bounded_text : (ts : List TokenAtLine) (v : Values) → number_lines Close ts ≡ [] → ReadsBy scalar_of ts v [] → ReadsBy bounded_of ts v []
bounded_text ts v fits r = (bounded_values ts v [] (Close, fits) r).0
