-- A text has only one tree, or only one fault.
use Rattle.lvm_text.proofs.Prelude.{ℕ, true, false, List, [], Some, None, refl, sym, ap, subst, ◌∙◌, append_assoc, inl, inr, Result, Ok, Err, IfOk, IfErr, same_Some, some_pair_parts, append-nil, Token, Word, Open, Close, ListOpen, ListClose, Equals, Comma, TokenAtLine, Scalar, Values, Nothing, Section, Single, Several, Tree, scalar_of, ReadsList, ReadsMore, Reads, IsText, BeginsText, IsBreak, IsSyntaxLine, begins_key, Spells, IsBadToken, newlines, Describes, IsBadSyntax, IsUnsound, HasFault, Answers, TextFault}
use Rattle.lvm_text.specs.declared.fault.TextFault.TheVariants as fault
use Rattle.lvm_text.proofs.Cuts.{one_spelling, spelled_no_bad, one_bad}
use Rattle.lvm_text.proofs.Building.{SameKey, same_key, list_same}
use Rattle.std.specs.Prelude.{◌≡◌, ◌≢◌, ◌+◌, ◌∷◌, ◌++◌, ◌⊎◌}

-- ---- only one tree

-- two results are the same, and the tokens after them are the same
abbrev One : {X : Type 0} → X → X → List TokenAtLine → List TokenAtLine → Type 0
One v w m n = (v ≡ w) × (m ≡ n)

token_same : (t u : Token) (m n : ℕ) (ts us : List TokenAtLine) → ◌≡◌ {A = List TokenAtLine} ((t, m) ∷ ts) ((u, n) ∷ us) → (t ≡ u) × (ts ≡ us)
token_same t u m n ts us e = let x = list_same (t, m) (u, n) ts us e in ((some_pair_parts _ _ _ _ (ap Some x.0)).0, x.1)

scalar_same : (t u : Token) (s x : Scalar) → t ≡ u → scalar_of t ≡ Some s → scalar_of u ≡ Some x → s ≡ x
scalar_same t u s x e p q = same_Some s x (sym p ∙ ap scalar_of e ∙ q)

more_one : (ss xs : List Scalar) (ts m n : List TokenAtLine) → ReadsMore ts ss m → ReadsMore ts xs n → One ss xs m n
more_one [] [] ts m n h k = (refl, (token_same ListClose ListClose h.0 k.0 m n (sym h.1 ∙ k.1)).1)
more_one [] (x ∷ xs) ts m n h k = let wrong : ListClose ≡ Comma = (token_same ListClose Comma h.0 k.0 m ((k.2, k.1) ∷ k.3) (sym h.1 ∙ k.4)).0 in absurd cc
more_one (s ∷ ss) [] ts m n h k = let wrong : Comma ≡ ListClose = (token_same Comma ListClose h.0 k.0 ((h.2, h.1) ∷ h.3) n (sym h.4 ∙ k.1)).0 in absurd cc
more_one (s ∷ ss) (x ∷ xs) ts m n h k =
    let a = token_same Comma Comma h.0 k.0 ((h.2, h.1) ∷ h.3) ((k.2, k.1) ∷ k.3) (sym h.4 ∙ k.4) in
    let b = token_same h.2 k.2 h.1 k.1 h.3 k.3 a.1 in
    let rest = more_one ss xs h.3 m n h.6 (rw b.1 k.6) in
    (rw (scalar_same h.2 k.2 s x b.0 h.5 k.5, rest.0), rest.1)

no_close : (t : Token) (s : Scalar) → t ≡ ListClose → scalar_of t ≡ Some s → ⊥
no_close t s e p = let wrong : None ≡ Some s = sym (ap scalar_of e) ∙ p in cc

list_one : (ss xs : List Scalar) (ts m n : List TokenAtLine) → ReadsList ts ss m → ReadsList ts xs n → One ss xs m n
list_one [] [] ts m n h k = (refl, (token_same ListClose ListClose h.0 k.0 m n (sym h.1 ∙ k.1)).1)
list_one [] (x ∷ xs) ts m n h k = absurd (no_close k.1 x (token_same k.1 ListClose k.0 h.0 k.2 m (sym k.3 ∙ h.1)).0 k.4)
list_one (s ∷ ss) [] ts m n h k = absurd (no_close h.1 s (token_same h.1 ListClose h.0 k.0 h.2 n (sym h.3 ∙ k.1)).0 h.4)
list_one (s ∷ ss) (x ∷ xs) ts m n h k =
    let b = token_same h.1 k.1 h.0 k.0 h.2 k.2 (sym h.3 ∙ k.3) in
    let rest = more_one ss xs h.2 m n h.5 (rw b.1 k.5) in
    (rw (scalar_same h.1 k.1 s x b.0 h.4 k.4, rest.0), rest.1)

-- a key can't come where no values are left
key_left : (k : List ℕ) (n : ℕ) (ts us more : List TokenAtLine) → ts ≡ more → ts ≡ (Word k, n) ∷ us → begins_key more ≡ false → ⊥
key_left k n ts us more e h stop = let wrong : true ≡ false = sym (ap begins_key h) ∙ ap begins_key e ∙ stop in cc

second : (k q : List ℕ) (n l : ℕ) (t u : Token) (i j : ℕ) (ts us : List TokenAtLine) → ◌≡◌ {A = List TokenAtLine} ((Word k, n) ∷ (t, i) ∷ ts) ((Word q, l) ∷ (u, j) ∷ us) → (SameKey k q n l ((t, i) ∷ ts) ((u, j) ∷ us)) × (t ≡ u) × (ts ≡ us)
second k q n l t u i j ts us e =
    let s = same_key k q n l ((t, i) ∷ ts) ((u, j) ∷ us) e in
    let x = token_same t u i j ts us s.after in
    (s, x.0, x.1)

pub reads_one : (v w : Values) (ts m n : List TokenAtLine) → Reads ts v m → Reads ts w n → begins_key m ≡ false → begins_key n ≡ false → One v w m n
reads_one Nothing Nothing ts m n h k p q = (refl, sym h ∙ k)
reads_one Nothing (Section a l i r) ts m n h k p q = absurd (key_left a l ts ((Open, k.1) ∷ k.3) m h k.5 p)
reads_one Nothing (Single a l s r) ts m n h k p q = absurd (key_left a l ts ((Equals, k.1) ∷ (k.3, k.2) ∷ k.4) m h k.5 p)
reads_one Nothing (Several a l s r) ts m n h k p q = absurd (key_left a l ts ((Equals, k.1) ∷ (ListOpen, k.2) ∷ k.3) m h k.5 p)
reads_one (Section a l i r) Nothing ts m n h k p q = absurd (key_left a l ts ((Open, h.1) ∷ h.3) n k h.5 q)
reads_one (Single a l s r) Nothing ts m n h k p q = absurd (key_left a l ts ((Equals, h.1) ∷ (h.3, h.2) ∷ h.4) n k h.5 q)
reads_one (Several a l s r) Nothing ts m n h k p q = absurd (key_left a l ts ((Equals, h.1) ∷ (ListOpen, h.2) ∷ h.3) n k h.5 q)
reads_one (Section a l i r) (Section b j x z) ts m n h k p q =
    let e = second a b l j Open Open h.1 k.1 h.3 k.3 (sym h.5 ∙ k.5) in
    let inner = reads_one i x h.3 ((Close, h.2) ∷ h.4) ((Close, k.2) ∷ k.4) h.6 (rw e.2 k.6) refl refl in
    let after = (token_same Close Close h.2 k.2 h.4 k.4 inner.1).1 in
    let rest = reads_one r z h.4 m n h.7 (rw after k.7) p q in
    (rw (e.0.key, e.0.at, inner.0, rest.0), rest.1)
reads_one (Section a l i r) (Single b j x z) ts m n h k p q =
    let e = second a b l j Open Equals h.1 k.1 h.3 ((k.3, k.2) ∷ k.4) (sym h.5 ∙ k.5) in let wrong : Open ≡ Equals = e.1 in absurd cc
reads_one (Section a l i r) (Several b j x z) ts m n h k p q =
    let e = second a b l j Open Equals h.1 k.1 h.3 ((ListOpen, k.2) ∷ k.3) (sym h.5 ∙ k.5) in let wrong : Open ≡ Equals = e.1 in absurd cc
reads_one (Single a l s r) (Section b j x z) ts m n h k p q =
    let e = second a b l j Equals Open h.1 k.1 ((h.3, h.2) ∷ h.4) k.3 (sym h.5 ∙ k.5) in let wrong : Equals ≡ Open = e.1 in absurd cc
reads_one (Several a l s r) (Section b j x z) ts m n h k p q =
    let e = second a b l j Equals Open h.1 k.1 ((ListOpen, h.2) ∷ h.3) k.3 (sym h.5 ∙ k.5) in let wrong : Equals ≡ Open = e.1 in absurd cc
reads_one (Single a l s r) (Single b j x z) ts m n h k p q =
    let e = second a b l j Equals Equals h.1 k.1 ((h.3, h.2) ∷ h.4) ((k.3, k.2) ∷ k.4) (sym h.5 ∙ k.5) in
    let t = token_same h.3 k.3 h.2 k.2 h.4 k.4 e.2 in
    let rest = reads_one r z h.4 m n h.7 (rw t.1 k.7) p q in
    (rw (e.0.key, e.0.at, scalar_same h.3 k.3 s x t.0 h.6 k.6, rest.0), rest.1)
reads_one (Single a l s r) (Several b j x z) ts m n h k p q =
    let e = second a b l j Equals Equals h.1 k.1 ((h.3, h.2) ∷ h.4) ((ListOpen, k.2) ∷ k.3) (sym h.5 ∙ k.5) in
    let t = token_same h.3 ListOpen h.2 k.2 h.4 k.3 e.2 in
    let wrong : None ≡ Some s = sym (ap scalar_of t.0) ∙ h.6 in absurd cc
reads_one (Several a l s r) (Single b j x z) ts m n h k p q =
    let e = second a b l j Equals Equals h.1 k.1 ((ListOpen, h.2) ∷ h.3) ((k.3, k.2) ∷ k.4) (sym h.5 ∙ k.5) in
    let t = token_same k.3 ListOpen k.2 h.2 k.4 h.3 (sym e.2) in
    let wrong : None ≡ Some x = sym (ap scalar_of t.0) ∙ k.6 in absurd cc
reads_one (Several a l s r) (Several b j x z) ts m n h k p q =
    let e = second a b l j Equals Equals h.1 k.1 ((ListOpen, h.2) ∷ h.3) ((ListOpen, k.2) ∷ k.3) (sym h.5 ∙ k.5) in
    let t = token_same ListOpen ListOpen h.2 k.2 h.3 k.3 e.2 in
    let items = list_one s x h.3 h.4 k.4 h.6 (rw t.1 k.6) in
    let rest = reads_one r z h.4 m n h.7 (rw items.1 k.7) p q in
    (rw (e.0.key, e.0.at, items.0, rest.0), rest.1)

pub one_text : (ts : List TokenAtLine) (v w : Values) → IsText ts v → IsText ts w → v ≡ w
one_text ts v w h k = (reads_one v w ts [] [] h k refl refl).0

-- ---- only one line of a syntax fault

shorter_front : (xs ys : List TokenAtLine) → BeginsText (xs ++ ys) → BeginsText xs
shorter_front xs ys h = record { more = ys ++ h.more; values = h.values; text = rw (← append_assoc xs ys h.more) h.text }

-- tokens that include a break aren't the beginning of a text
no_break : (before : List TokenAtLine) (t : TokenAtLine) (after ts : List TokenAtLine) → ts ≡ before ++ t ∷ after → ¬ (BeginsText (before ++ t ∷ [])) → ¬ (BeginsText ts)
no_break before t after ts e broken h =
    broken (shorter_front (before ++ t ∷ []) after (subst BeginsText (e ∙ sym (append_assoc before (t ∷ []) after)) h))

text_front : (ts : List TokenAtLine) (v : Values) → IsText ts v → BeginsText ts
text_front ts v h = record { more = []; values = v; text = rw (append-nil ts) h }

pub no_syntax : (ts : List TokenAtLine) (v : Values) (end n : ℕ) → IsText ts v → IsSyntaxLine ts end n → ⊥
no_syntax ts v end n h (inl b) = no_break b.before (b.token, n) b.after ts b.whole b.broken (text_front ts v h)
no_syntax ts v end n h (inr u) = u.0.unfinished v h

-- two positions in a list are the same, or one is before the other
abbrev Positions : List TokenAtLine → TokenAtLine → List TokenAtLine → TokenAtLine → Type 0
Positions b x c y = (x ≡ y) ⊎ (((d : List TokenAtLine) × (c ≡ b ++ x ∷ d)) ⊎ ((d : List TokenAtLine) × (b ≡ c ++ y ∷ d)))

later : (z w : TokenAtLine) (b c : List TokenAtLine) (x y : TokenAtLine) → z ≡ w → Positions b x c y → Positions (z ∷ b) x (w ∷ c) y
later z w b c x y e (inl h) = inl h
later z w b c x y e (inr (inl h)) = inr (inl (h.0, rw (← e, h.1)))
later z w b c x y e (inr (inr h)) = inr (inr (h.0, rw (e, h.1)))

positions : (b c a d : List TokenAtLine) (x y : TokenAtLine) → b ++ x ∷ a ≡ c ++ y ∷ d → Positions b x c y
positions [] [] a d x y e = inl (list_same x y a d e).0
positions [] (w ∷ c) a d x y e = inr (inl (c, rw (sym (list_same x w a (c ++ y ∷ d) e).0)))
positions (z ∷ b) [] a d x y e = inr (inr (b, rw ((list_same z y (b ++ x ∷ a) d e).0)))
positions (z ∷ b) (w ∷ c) a d x y e = let s = list_same z w (b ++ x ∷ a) (c ++ y ∷ d) e in later z w b c x y s.0 (positions b c a d x y s.1)

two_breaks : (ts : List TokenAtLine) (m n : ℕ) (h : IsBreak ts m) (k : IsBreak ts n) → Positions h.before (h.token, m) k.before (k.token, n) → m ≡ n
two_breaks ts m n h k (inl e) = ap (λ (p : TokenAtLine). p.1) e
two_breaks ts m n h k (inr (inl p)) = absurd (no_break h.before (h.token, m) p.0 k.before p.1 h.broken k.begun)
two_breaks ts m n h k (inr (inr p)) = absurd (no_break k.before (k.token, n) p.0 h.before p.1 k.broken h.begun)

pub one_line : (ts : List TokenAtLine) (end m n : ℕ) → IsSyntaxLine ts end m → IsSyntaxLine ts end n → m ≡ n
one_line ts end m n (inl h) (inl k) = two_breaks ts m n h k (positions h.before k.before h.after k.after (h.token, m) (k.token, n) (sym h.whole ∙ k.whole))
one_line ts end m n (inl h) (inr u) = absurd (no_break h.before (h.token, m) h.after ts h.whole h.broken u.0.begun)
one_line ts end m n (inr u) (inl k) = absurd (no_break k.before (k.token, n) k.after ts k.whole k.broken u.0.begun)
one_line ts end m n (inr u) (inr w) = u.1 ∙ sym w.1

-- ---- only one result

-- the text's tokens are a text of the grammar with values v
record Read (text : List ℕ) (ts : List TokenAtLine) (v : Values) : Type 0 where
  spelled : Spells text ts
  grammar : IsText ts v

values_one : (text : List ℕ) (ts us : List TokenAtLine) (v w : Values) → Read text ts v → Read text us w → (ts ≡ us) × (v ≡ w)
values_one text ts us v w h k =
    let same = one_spelling text ts us h.spelled k.spelled in
    (same, one_text ts v w h.grammar (rw same k.grammar))

described_read : (text : List ℕ) (t : Tree) (h : Describes text t) → Read text h.tokens t.values
described_read text t h = record { spelled = h.spelled; grammar = h.grammar }

unsound_read : (text : List ℕ) (f : TextFault) (h : IsUnsound text f) → Read text h.tokens h.values
unsound_read text f h = record { spelled = h.spelled; grammar = h.grammar }

tree_same : (t u : Tree) → t.line ≡ u.line → t.values ≡ u.values → t ≡ u
tree_same t u e f = rw (e, f)

pub one_tree : (text : List ℕ) (t u : Tree) → Describes text t → Describes text u → t ≡ u
one_tree text t u h k = tree_same t u (h.top ∙ sym k.top) (values_one text h.tokens k.tokens t.values u.values (described_read text t h) (described_read text u k)).1

-- a text can't both have bad syntax and be a text of the grammar
syntax_read : (text : List ℕ) (n : ℕ) (ts : List TokenAtLine) (v : Values) → IsBadSyntax text n → Read text ts v → ⊥
syntax_read text n ts v h k =
    no_syntax ts v (1 + newlines text) n k.grammar (rw (← one_spelling text h.tokens ts h.spelled k.spelled) h.found)

sound_unsound : (text : List ℕ) (t : Tree) (f : TextFault) → Describes text t → IsUnsound text f → ⊥
sound_unsound text t f h k =
    let same = values_one text h.tokens k.tokens t.values k.values (described_read text t h) (unsound_read text f k) in
    let wrong : None ≡ Some f = cc in
    cc

unsound_one : (text : List ℕ) (f g : TextFault) → IsUnsound text f → IsUnsound text g → f ≡ g
unsound_one text f g h k =
    let same = values_one text h.tokens k.tokens h.values k.values (unsound_read text f h) (unsound_read text g k) in
    same_Some f g (cc)

syntax_one : (text : List ℕ) (m n : ℕ) → IsBadSyntax text m → IsBadSyntax text n → m ≡ n
syntax_one text m n h k =
    one_line k.tokens (1 + newlines text) m n (rw (← one_spelling text h.tokens k.tokens h.spelled k.spelled) h.found) k.found

pub no_fault : (text : List ℕ) (t : Tree) (f : TextFault) → Describes text t → HasFault text f → ⊥
no_fault text t (fault.Token n) h k = spelled_no_bad text h.tokens n h.spelled k
no_fault text t (fault.Syntax n) h k = syntax_read text n h.tokens t.values k (described_read text t h)
no_fault text t fault.Memory h k = k
no_fault text t f h k = sound_unsound text t f h k

-- a text whose first fault is a bad token has no other fault; and below, for the other kinds of fault
token_first : (text : List ℕ) (m : ℕ) (g : TextFault) → IsBadToken text m → HasFault text g → fault.Token m ≡ g
token_first text m (fault.Token n) h k = rw (one_bad text m n h k)
token_first text m fault.Memory h k = absurd k
token_first text m _ h k = absurd (spelled_no_bad text k.tokens m k.spelled h)

syntax_first : (text : List ℕ) (m : ℕ) (g : TextFault) → IsBadSyntax text m → HasFault text g → fault.Syntax m ≡ g
syntax_first text m (fault.Token n) h k = absurd (spelled_no_bad text h.tokens n h.spelled k)
syntax_first text m (fault.Syntax n) h k = rw (syntax_one text m n h k)
syntax_first text m fault.Memory h k = absurd k
syntax_first text m g h k = absurd (syntax_read text m k.tokens k.values h (unsound_read text g k))

unsound_first : (text : List ℕ) (f g : TextFault) → IsUnsound text f → HasFault text g → f ≡ g
unsound_first text f (fault.Token n) h k = absurd (spelled_no_bad text h.tokens n h.spelled k)
unsound_first text f (fault.Syntax n) h k = absurd (syntax_read text n h.tokens h.values k (unsound_read text f h))
unsound_first text f fault.Memory h k = absurd k
unsound_first text f g h k = unsound_one text f g h k

pub one_fault : (text : List ℕ) (f g : TextFault) → HasFault text f → HasFault text g → f ≡ g
one_fault text (fault.Token m) g h k = token_first text m g h k
one_fault text (fault.Syntax m) g h k = syntax_first text m g h k
one_fault text fault.Memory g h k = absurd h
one_fault text f g h k = unsound_first text f g h k

-- ---- a result that is right is the only one

pub only_tree : (text : List ℕ) (r : Result Tree TextFault) → IfOk r (Describes text) → IfErr r (λ f. f ≢ fault.Memory → HasFault text f) → (t : Tree) → Describes text t → Answers r (Ok t)
only_tree text (Ok s) a b t h = rw (one_tree text s t a h)
only_tree text (Err fault.Memory) a b t h = tt
only_tree text (Err e) a b t h = absurd (no_fault text t e h (b (λ wrong. cc)))

pub only_fault : (text : List ℕ) (r : Result Tree TextFault) → IfOk r (Describes text) → IfErr r (λ f. f ≢ fault.Memory → HasFault text f) → (f : TextFault) → HasFault text f → Answers r (Err f)
only_fault text (Ok s) a b f h = absurd (no_fault text s f a h)
only_fault text (Err fault.Memory) a b f h = tt
only_fault text (Err e) a b f h = rw (one_fault text e f (b (λ wrong. cc)) h)
