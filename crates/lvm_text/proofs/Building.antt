-- What the builder has read so far, as invariants of its loops.
use Rattle.lvm_text.proofs.Prelude.{ℕ, true, false, List, [], drop, Option, Some, None, refl, sym, ap, ◌∙◌, append_assoc, inl, inr, option_map, append-nil, some_pair_parts, and_parts, and_from, Token, Word, Open, Close, ListOpen, ListClose, Equals, Comma, TokenAtLine, Scalar, Values, Nothing, Section, Single, Several, ReadsListBy, ReadsMoreBy, ReadsBy, bounded_of, is_open, is_list_open, begins_key, scalar_first, item_of, ReadsScalars, ReadsLeaf, ReadsValue, ReadsValues, before, put, values_of, has_line, lines_agree, token_view, views, Value, Entry, Text}
use Rattle.lvm_text.specs.declared.token.TokenAtLine as code
use Rattle.std.specs.Prelude.{◌≡◌, ◌∷◌, ◌++◌, ◌⊎◌}

-- ---- reading a list

-- the tokens of the scalars left in a list, whether any has been read before or not
abbrev pub ReadsItems : List TokenAtLine → List Scalar → List TokenAtLine → Type 0
ReadsItems ts ss b = ReadsListBy bounded_of ts ss b ⊎ ReadsMoreBy bounded_of ts ss b

abbrev pub ListSoFar : List TokenAtLine → List Scalar → List TokenAtLine → Type 0
ListSoFar start done rest = (ss : List Scalar) (b : List TokenAtLine) → ReadsListBy bounded_of start ss b → (left : List Scalar) × (ss ≡ done ++ left) × ReadsItems rest left b

-- an item that doesn't begin with a comma is the first token as a scalar
item_first : (t : Token) (n : ℕ) (s : Scalar) (a : List TokenAtLine) → bounded_of t ≡ Some s → item_of ((t, n) ∷ a) ≡ Some (s, a)
item_first (Word w) n s a e = ap (option_map (λ x. (x, a))) e
item_first (Text w) n s a e = ap (option_map (λ x. (x, a))) e
item_first t n s a e = absurd cc

item_next : (c n : ℕ) (t : Token) (s : Scalar) (a : List TokenAtLine) → bounded_of t ≡ Some s → item_of ((Comma, c) ∷ (t, n) ∷ a) ≡ Some (s, a)
item_next c n t s a e = ap (option_map (λ x. (x, a))) e

-- the next item of a list, s, and the items after it
pub record Item (ts : List TokenAtLine) (ss : List Scalar) (b : List TokenAtLine) (s : Scalar) (a : List TokenAtLine) : Type 0 where
  pub left : List Scalar
  pub first : ss ≡ s ∷ left
  pub after : ReadsMoreBy bounded_of a left b

closed : (ts : List TokenAtLine) (c : ℕ) (b : List TokenAtLine) → ts ≡ (ListClose, c) ∷ b → item_of ts ≡ None
closed ts c b e = ap item_of e

item_is : (ts : List TokenAtLine) (ss : List Scalar) (b : List TokenAtLine) (s : Scalar) (a : List TokenAtLine) → ReadsItems ts ss b → item_of ts ≡ Some (s, a) → Item ts ss b s a
item_is ts [] b s a (inl h) e = let wrong : ◌≡◌ {A = Option (Scalar × List TokenAtLine)} None (Some (s, a)) = sym (closed ts h.0 b h.1) ∙ e in absurd cc
item_is ts [] b s a (inr h) e = let wrong : ◌≡◌ {A = Option (Scalar × List TokenAtLine)} None (Some (s, a)) = sym (closed ts h.0 b h.1) ∙ e in absurd cc
item_is ts (x ∷ ss) b s a (inl h) e =
    let same = some_pair_parts _ _ _ _ (sym (ap item_of h.3 ∙ item_first h.1 h.0 x h.2 h.4) ∙ e) in record { left = ss; first = rw same.0; after = rw same.1 at h.5 }
item_is ts (x ∷ ss) b s a (inr h) e =
    let same = some_pair_parts _ _ _ _ (sym (ap item_of h.4 ∙ item_next h.0 h.1 h.2 x h.3 h.5) ∙ e) in record { left = ss; first = rw same.0; after = rw same.1 at h.6 }

no_item : (ts : List TokenAtLine) (ss : List Scalar) (b : List TokenAtLine) → ReadsItems ts ss b → item_of ts ≡ None → (ss ≡ []) × (drop 1 ts ≡ b)
no_item ts [] b (inl h) e = (refl, ap (drop 1) h.1)
no_item ts [] b (inr h) e = (refl, ap (drop 1) h.1)
no_item ts (x ∷ ss) b (inl h) e = let wrong : ◌≡◌ {A = Option (Scalar × List TokenAtLine)} (Some (x, h.2)) None = sym (ap item_of h.3 ∙ item_first h.1 h.0 x h.2 h.4) ∙ e in absurd cc
no_item ts (x ∷ ss) b (inr h) e = let wrong : ◌≡◌ {A = Option (Scalar × List TokenAtLine)} (Some (x, h.3)) None = sym (ap item_of h.4 ∙ item_next h.0 h.1 h.2 x h.3 h.5) ∙ e in absurd cc

pub list_more : (start : List TokenAtLine) (done : List Scalar) (rest : List TokenAtLine) (s : Scalar) (a : List TokenAtLine) → ListSoFar start done rest → Some (s, a) ≡ item_of rest → ListSoFar start (done ++ s ∷ []) a
list_more start done rest s a h e = λ ss b r.
    let x = h ss b r in
    let i = item_is rest x.0 b s a x.2 (sym e) in
    (i.left, rw (append_assoc, ← i.first) x.1, inr i.after)

pub list_ends : (start : List TokenAtLine) (done : List Scalar) (rest after : List TokenAtLine) → ListSoFar start done rest → None ≡ item_of rest → after ≡ drop 1 rest → ReadsScalars start done after
list_ends start done rest after h e d = λ ss b r.
    let x = h ss b r in
    let n = no_item rest x.0 b x.2 (sym e) in
    (cc (append-nil done), sym n.1 ∙ sym d)

pub item_none : (ts : List code.TokenAtLine) (first : code.TokenAtLine) (rest : List code.TokenAtLine) → ts ≡ first ∷ rest → None ≡ bounded_of (token_view first.token) → None ≡ scalar_first (views ts)
item_none ts first rest e none = sym (rw e (ap (option_map (λ s. (s, views rest))) (sym none)))

pub list_same : (x y : TokenAtLine) (ts us : List TokenAtLine) → ◌≡◌ {A = List TokenAtLine} (x ∷ ts) (y ∷ us) → (x ≡ y) × (ts ≡ us)
list_same x y ts us e = (cc, cc)

no_bracket : (t : Token) (s : Scalar) → is_list_open t ≡ true → bounded_of t ≡ Some s → ⊥
no_bracket ListOpen s o e = let wrong : ◌≡◌ {A = Option Scalar} None (Some s) = e in cc
no_bracket t s o e = cc

pub leaf_list : (tokens : List TokenAtLine) (first : TokenAtLine) (inner : List TokenAtLine) (scalars : List Scalar) (value : Value) (rest : List TokenAtLine) → tokens ≡ first ∷ inner → is_list_open first.0 ≡ true
    → ((k : List ℕ) (n : ℕ) (v : Values) → Several k n scalars v ≡ put k n value v) → ReadsScalars inner scalars rest → ReadsLeaf tokens value rest
leaf_list tokens first inner scalars value rest e o shows read = record {
  single = λ t m s b same scalar. absurd (no_bracket t s (sym (rw ((list_same first (t, m) inner b (sym e ∙ same)).0)) ∙ o) scalar);
  several = λ p a ss b same list.
      let x = read ss b (rw (← sym (list_same first (ListOpen, p) inner a (sym e ∙ same)).1) list) in
      (λ k n v. rw x.0 (shows k n v), x.1);
}

-- ---- reading the values of a section

abbrev pub ValuesSoFar : List TokenAtLine → List Entry → List TokenAtLine → Type 0
ValuesSoFar start es rest = (v : Values) (more : List TokenAtLine) → ReadsBy bounded_of start v more → begins_key more ≡ false → (left : Values) × (v ≡ before es left) × ReadsBy bounded_of rest left more

pub before_push : (es : List Entry) (e : Entry) (later : Values) → before (es ++ e ∷ []) later ≡ before es (put e.key.now e.node.line e.node.value later)
before_push [] e later = refl
before_push (x ∷ es) e later = ap (put x.key.now x.node.line x.node.value) (before_push es e later)

pub before_all : (es : List Entry) → before es Nothing ≡ values_of es
before_all [] = refl
before_all (e ∷ es) = ap (put e.key.now e.node.line e.node.value) (before_all es)

pub values_more : (start : List TokenAtLine) (es : List Entry) (rest tokens after : List TokenAtLine) (e : Entry) → ValuesSoFar start es rest → rest ≡ (Word e.key.now, e.node.line) ∷ tokens
    → ReadsValue e.node.line tokens e.node.value after → ValuesSoFar start (es ++ e ∷ []) after
values_more start es rest tokens after e h same value = λ v more r stop.
    let x = h v more r stop in
    let y = value e.key.now x.0 more (rw (← same) x.2) stop in
    (y.0, x.1 ∙ ap (before es) y.1 ∙ sym (before_push es e y.0), y.2)

-- if the next token is no word, no values are left
none_left : (rest : List TokenAtLine) (v : Values) (more : List TokenAtLine) → begins_key rest ≡ false → ReadsBy bounded_of rest v more → (v ≡ Nothing) × (rest ≡ more)
none_left rest Nothing more e r = (refl, r)
none_left rest (Section k n inner later) more e r = let wrong : false ≡ true = sym e ∙ ap begins_key r.5 in absurd cc
none_left rest (Single k n s later) more e r = let wrong : false ≡ true = sym e ∙ ap begins_key r.5 in absurd cc
none_left rest (Several k n ss later) more e r = let wrong : false ≡ true = sym e ∙ ap begins_key r.5 in absurd cc

pub values_end : (start : List TokenAtLine) (es : List Entry) (rest : List TokenAtLine) → ValuesSoFar start es rest → begins_key rest ≡ false → ReadsValues start (values_of es) rest
values_end start es rest h e = λ v more r stop.
    let x = h v more r stop in
    let n = none_left rest x.0 more e x.2 in
    (x.1 ∙ ap (before es) n.0 ∙ before_all es, sym n.1)

-- a word and what follows it can't be left where no key begins
pub no_values : (k : List ℕ) (n : ℕ) (ts more : List TokenAtLine) → (Word k, n) ∷ ts ≡ more → begins_key more ≡ false → ⊥
no_values k n ts more e stop = let wrong : true ≡ false = ap begins_key e ∙ stop in cc

pub value_nothing : (line : ℕ) (ts : List TokenAtLine) (value : Value) (rest : List TokenAtLine) → ts ≡ [] → ReadsValue line ts value rest
value_nothing line ts value rest none = λ k v more r stop. at k v more r stop where
  at : (k : List ℕ) (v : Values) (more : List TokenAtLine) → ReadsBy bounded_of ((Word k, line) ∷ ts) v more → begins_key more ≡ false → (later : Values) × (v ≡ put k line value later) × ReadsBy bounded_of rest later more
  at k Nothing more r stop = absurd (no_values k line ts more r stop)
  at k (Section q n inner later) more r stop = let same : ts ≡ (Open, r.1) ∷ r.3 = cc in let wrong : [] ≡ (Open, r.1) ∷ r.3 = sym none ∙ same in absurd cc
  at k (Single q n s later) more r stop = let same : ts ≡ (Equals, r.1) ∷ (r.3, r.2) ∷ r.4 = cc in let wrong : [] ≡ (Equals, r.1) ∷ (r.3, r.2) ∷ r.4 = sym none ∙ same in absurd cc
  at k (Several q n ss later) more r stop = let same : ts ≡ (Equals, r.1) ∷ (ListOpen, r.2) ∷ r.3 = cc in let wrong : [] ≡ (Equals, r.1) ∷ (ListOpen, r.2) ∷ r.3 = sym none ∙ same in absurd cc

pub record SameKey (k q : List ℕ) (line n : ℕ) (ts us : List TokenAtLine) : Type 0 where
  pub key : k ≡ q
  pub at : line ≡ n
  pub after : ts ≡ us

pub same_key : (k q : List ℕ) (line n : ℕ) (ts us : List TokenAtLine) → ◌≡◌ {A = List TokenAtLine} ((Word k, line) ∷ ts) ((Word q, n) ∷ us) → SameKey k q line n ts us
same_key k q line n ts us e =
    let x = list_same (Word k, line) (Word q, n) ts us e in
    let same = some_pair_parts _ _ _ _ (ap Some x.0) in
    let word : Word k ≡ Word q = same.0 in
    record { key = cc; at = same.1; after = x.1 }

-- the token after a key is an opening brace or not, whichever way it is read
not_open : (first : TokenAtLine) (after : List TokenAtLine) (tokens : List TokenAtLine) (t : Token) (n : ℕ) (us : List TokenAtLine) → tokens ≡ first ∷ after → tokens ≡ (t, n) ∷ us → is_open first.0 ≡ is_open t
not_open first after tokens t n us e h = rw ((list_same first (t, n) after us (sym e ∙ h)).0)

pub value_section : (line : ℕ) (tokens : List TokenAtLine) (first : TokenAtLine) (inner : List TokenAtLine) (inside : Values) (after rest : List TokenAtLine) → tokens ≡ first ∷ inner → is_open first.0 ≡ true
    → ReadsValues inner inside after → rest ≡ drop 1 after → (k : List ℕ) (v : Values) (more : List TokenAtLine) → ReadsBy bounded_of ((Word k, line) ∷ tokens) v more → begins_key more ≡ false
    → (later : Values) × (v ≡ Section k line inside later) × ReadsBy bounded_of rest later more
value_section line tokens first inner inside after rest e o read d k Nothing more r stop = absurd (no_values k line tokens more r stop)
value_section line tokens first inner inside after rest e o read d k (Section q n in_ later) more r stop =
    let s = same_key k q line n tokens ((Open, r.1) ∷ r.3) r.5 in
    let a : inner ≡ r.3 = (list_same first (Open, r.1) inner r.3 (sym e ∙ s.after)).1 in
    let x = read in_ ((Close, r.2) ∷ r.4) (rw a r.6) refl in
    let b : r.4 ≡ rest = ap (drop 1) x.1 ∙ sym d in (
      later,
      rw (x.0, ← s.key, ← s.at),
      rw (← b) r.7,
    )
value_section line tokens first inner inside after rest e o read d k (Single q n x later) more r stop =
    let s = same_key k q line n tokens ((Equals, r.1) ∷ (r.3, r.2) ∷ r.4) r.5 in
    let wrong : true ≡ false = sym o ∙ not_open first inner tokens Equals r.1 ((r.3, r.2) ∷ r.4) e s.after in
    absurd cc
value_section line tokens first inner inside after rest e o read d k (Several q n xs later) more r stop =
    let s = same_key k q line n tokens ((Equals, r.1) ∷ (ListOpen, r.2) ∷ r.3) r.5 in
    let wrong : true ≡ false = sym o ∙ not_open first inner tokens Equals r.1 ((ListOpen, r.2) ∷ r.3) e s.after in
    absurd cc

-- the tokens after a key and an opening brace are a section with values, and later values
pub record Opened (k : List ℕ) (line : ℕ) (inner : List TokenAtLine) (v : Values) : Type 0 where
  pub inside : Values
  pub later : Values
  pub more : List TokenAtLine
  pub is : v ≡ Section k line inside later
  pub read : ReadsBy bounded_of inner inside more
  pub stop : begins_key more ≡ false

pub opened : (line : ℕ) (tokens : List TokenAtLine) (first : TokenAtLine) (inner : List TokenAtLine) → tokens ≡ first ∷ inner → is_open first.0 ≡ true → (k : List ℕ) (v : Values) (more : List TokenAtLine) → ReadsBy bounded_of ((Word k, line) ∷ tokens) v more → begins_key more ≡ false → Opened k line inner v
opened line tokens first inner e o k Nothing more r stop = absurd (no_values k line tokens more r stop)
opened line tokens first inner e o k (Section q n in_ later) more r stop =
    let s = same_key k q line n tokens ((Open, r.1) ∷ r.3) r.5 in
    let a : inner ≡ r.3 = (list_same first (Open, r.1) inner r.3 (sym e ∙ s.after)).1 in
    record {
      inside = in_;
      later = later;
      more = (Close, r.2) ∷ r.4;
      is = rw (← s.key, ← s.at);
      read = rw a r.6;
      stop = refl;
    }
opened line tokens first inner e o k (Single q n x later) more r stop =
    let s = same_key k q line n tokens ((Equals, r.1) ∷ (r.3, r.2) ∷ r.4) r.5 in
    let wrong : true ≡ false = sym o ∙ not_open first inner tokens Equals r.1 ((r.3, r.2) ∷ r.4) e s.after in
    absurd cc
opened line tokens first inner e o k (Several q n xs later) more r stop =
    let s = same_key k q line n tokens ((Equals, r.1) ∷ (ListOpen, r.2) ∷ r.3) r.5 in
    let wrong : true ≡ false = sym o ∙ not_open first inner tokens Equals r.1 ((ListOpen, r.2) ∷ r.3) e s.after in
    absurd cc

value_leaf_at : (line : ℕ) (tokens : List TokenAtLine) (first : TokenAtLine) (after : List TokenAtLine) (value : Value) (rest : List TokenAtLine) → tokens ≡ first ∷ after → is_open first.0 ≡ false → ReadsLeaf after value rest
    → (k : List ℕ) (v : Values) (more : List TokenAtLine) → ReadsBy bounded_of ((Word k, line) ∷ tokens) v more → begins_key more ≡ false → (later : Values) × (v ≡ put k line value later) × ReadsBy bounded_of rest later more
value_leaf_at line tokens first after value rest e o leaf k Nothing more r stop = absurd (no_values k line tokens more r stop)
value_leaf_at line tokens first after value rest e o leaf k (Section q n in_ later) more r stop =
    let s = same_key k q line n tokens ((Open, r.1) ∷ r.3) r.5 in
    let wrong : false ≡ true = sym o ∙ not_open first after tokens Open r.1 r.3 e s.after in
    absurd cc
value_leaf_at line tokens first after value rest e o leaf k (Single q n x later) more r stop =
    let s = same_key k q line n tokens ((Equals, r.1) ∷ (r.3, r.2) ∷ r.4) r.5 in
    let a : after ≡ (r.3, r.2) ∷ r.4 = (list_same first (Equals, r.1) after ((r.3, r.2) ∷ r.4) (sym e ∙ s.after)).1 in
    let l = leaf.single r.3 r.2 x r.4 a r.6 in
    (later, rw (← s.key, ← s.at) (l.0 k line later), rw (← l.1) r.7)
value_leaf_at line tokens first after value rest e o leaf k (Several q n xs later) more r stop =
    let s = same_key k q line n tokens ((Equals, r.1) ∷ (ListOpen, r.2) ∷ r.3) r.5 in
    let a : after ≡ (ListOpen, r.2) ∷ r.3 = (list_same first (Equals, r.1) after ((ListOpen, r.2) ∷ r.3) (sym e ∙ s.after)).1 in
    let l = leaf.several r.2 r.3 xs r.4 a r.6 in
    (later, rw (← s.key, ← s.at) (l.0 k line later), rw (← l.1) r.7)

pub value_leaf : (line : ℕ) (tokens : List TokenAtLine) (first : TokenAtLine) (after : List TokenAtLine) (value : Value) (rest : List TokenAtLine) → tokens ≡ first ∷ after → is_open first.0 ≡ false → ReadsLeaf after value rest
    → ReadsValue line tokens value rest
value_leaf line tokens first after value rest e o leaf = λ k v more r stop. value_leaf_at line tokens first after value rest e o leaf k v more r stop

pub views_after : (ts us : List code.TokenAtLine) → us ≡ drop 1 ts → views us ≡ drop 1 (views ts)
views_after [] us e = ap views e
views_after (t ∷ ts) us e = ap views e

pub lines_agree-push : (es : List Entry) (e : Entry) → lines_agree es ≡ true → has_line e.node.line e.node.value ≡ true → lines_agree (es ++ e ∷ []) ≡ true
lines_agree-push [] e h l = and_from _ _ l refl
lines_agree-push (x ∷ es) e h l =
    let a = and_parts (has_line x.node.line x.node.value) (lines_agree es) h in
    and_from _ _ a.0 (lines_agree-push es e a.1 l)
