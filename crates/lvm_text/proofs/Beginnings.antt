-- The parser's stages say exactly which tokens can still become a text.
use Rattle.lvm_text.proofs.Prelude.{ℕ, zero, suc, Bool, true, false, cond, nat_lt, List, [], Option, Some, None, refl, sym, ap, ◌∙◌, arith, is_some, option_and_then, lt-ltb, eqb-true, eq-eqb, some_pair_parts, MatchOption, Token, Word, Open, Close, ListOpen, ListClose, Equals, Comma, TokenAtLine, Scalar, Values, Nothing, Section, Single, Several, scalar_of, is_key, ReadsMore, ReadsList, Reads, IsText, BeginsText, IsBreak, IsUnfinished, State, scalar_then, stage_after, run, is_over, Stage, Text}
use Rattle.lvm_text.specs.declared.syntax.Stage.TheVariants as at
use Rattle.std.specs.Prelude.{◌≡◌, ◌≢◌, ◌-◌, ◌≤◌, ◌∷◌, ◌++◌}

-- ---- runs of the state machine

chain : (o : Option State) (f g h : State → Option State) → ((s : State) → h s ≡ option_and_then g (f s)) → option_and_then h o ≡ option_and_then g (option_and_then f o)
chain None f g h e = refl
chain (Some s) f g h e = e s

pub run-append : (d : ℕ) (p : Stage) (a b : List TokenAtLine) → run d p (a ++ b) ≡ option_and_then (λ s. run s.0 s.1 b) (run d p a)
run-append d p [] b = refl
run-append d p (t ∷ a) b = chain (stage_after d p t.0) (λ s. run s.0 s.1 a) (λ s. run s.0 s.1 b) (λ s. run s.0 s.1 (a ++ b)) (λ s. run-append s.0 s.1 a b)

abbrev pub done : State
done = (0, at.Key)

-- ---- a text runs through to the end

scalar_next : (t : Token) (s : Scalar) (next : State) → scalar_of t ≡ Some s → scalar_then t next ≡ Some next
scalar_next t s next e = rw e

-- at a stage where a word or a string may come as a scalar, a scalar leads to the next state
scalar_step : (p : Stage) (d : ℕ) (next : State) → ((w : List ℕ) → stage_after d p (Word w) ≡ scalar_then (Word w) next) → ((w : List ℕ) → stage_after d p (Text w) ≡ Some next) → (t : Token) (s : Scalar) → scalar_of t ≡ Some s → stage_after d p t ≡ Some next
scalar_step p d next word text (Word w) s e = word w ∙ scalar_next (Word w) s next e
scalar_step p d next word text (Text w) s e = text w
scalar_step p d next word text t s e = absurd cc

content_step : (d : ℕ) (t : Token) (s : Scalar) → scalar_of t ≡ Some s → stage_after d at.Content t ≡ Some (d, at.Key)
content_step d = scalar_step at.Content d (d, at.Key) (λ w. refl) (λ w. refl)

first_step : (d : ℕ) (t : Token) (s : Scalar) → scalar_of t ≡ Some s → stage_after d at.First t ≡ Some (d, at.After)
first_step d = scalar_step at.First d (d, at.After) (λ w. refl) (λ w. refl)

then_run : (d : ℕ) (p : Stage) (t : TokenAtLine) (a : List TokenAtLine) (s : State) → stage_after d p t.0 ≡ Some s → run d p (t ∷ a) ≡ run s.0 s.1 a
then_run d p t a s e = ap (option_and_then (λ x. run x.0 x.1 a)) e

close_run : (d n : ℕ) (b : List TokenAtLine) → run (suc d) at.Key ((Close, n) ∷ b) ≡ run d at.Key b
close_run d n b =
    let lt : nat_lt 0 (suc d) ≡ true = lt-ltb _ _ (omega arith) in
    let back : suc d - 1 ≡ d = omega arith in
    rw (lt, back)

key_run : (d n : ℕ) (k : List ℕ) (a : List TokenAtLine) → is_key k ≡ true → run d at.Key ((Word k, n) ∷ a) ≡ run d at.AfterKey a
key_run d n k a e = rw e

more_run : (ss : List Scalar) (d : ℕ) (ts more : List TokenAtLine) → ReadsMore ts ss more → run d at.After ts ≡ run d at.Key more
more_run [] d ts more h = ap (run d at.After) h.1
more_run (s ∷ ss) d ts more h =
    ap (run d at.After) h.4 ∙ then_run d at.Next (h.2, h.1) h.3 (d, at.After) (scalar_next h.2 s (d, at.After) h.5) ∙ more_run ss d h.3 more h.6

list_run : (ss : List Scalar) (d : ℕ) (ts more : List TokenAtLine) → ReadsList ts ss more → run d at.First ts ≡ run d at.Key more
list_run [] d ts more h = ap (run d at.First) h.1
list_run (s ∷ ss) d ts more h =
    ap (run d at.First) h.3 ∙ then_run d at.First (h.1, h.0) h.2 (d, at.After) (first_step d h.1 s h.4) ∙ more_run ss d h.2 more h.5

pub reads_run : (v : Values) (d : ℕ) (ts more : List TokenAtLine) → Reads ts v more → run d at.Key ts ≡ run d at.Key more
reads_run Nothing d ts more h = ap (run d at.Key) h
reads_run (Section k n inner rest) d ts more h =
    ap (run d at.Key) h.5 ∙ key_run d n k ((Open, h.1) ∷ h.3) h.0 ∙ reads_run inner (suc d) h.3 ((Close, h.2) ∷ h.4) h.6 ∙ close_run d h.2 h.4 ∙ reads_run rest d h.4 more h.7
reads_run (Single k n s rest) d ts more h =
    ap (run d at.Key) h.5 ∙ key_run d n k ((Equals, h.1) ∷ (h.3, h.2) ∷ h.4) h.0 ∙ then_run d at.Content (h.3, h.2) h.4 (d, at.Key) (content_step d h.3 s h.6) ∙ reads_run rest d h.4 more h.7
reads_run (Several k n ss rest) d ts more h =
    ap (run d at.Key) h.5 ∙ key_run d n k ((Equals, h.1) ∷ (ListOpen, h.2) ∷ h.3) h.0 ∙ list_run ss d h.3 h.4 h.6 ∙ reads_run rest d h.4 more h.7

-- ---- tokens that run through to the end are a text

-- values up to the closing brace of each of the d open sections, and then up to the end
abbrev pub Stacked : ℕ → List TokenAtLine → Type 0
Stacked zero ts = (v : Values) × Reads ts v []
Stacked (suc d) ts = (v : Values) × (c : ℕ) × (b : List TokenAtLine) × Reads ts v ((Close, c) ∷ b) × Stacked d b

before_section : (d : ℕ) (k : List ℕ) (n o : ℕ) (a : List TokenAtLine) → is_key k ≡ true → Stacked (suc d) a → Stacked d ((Word k, n) ∷ (Open, o) ∷ a)
before_section zero k n o a e h = (Section k n h.0 h.4.0, (e, o, h.1, a, h.2, refl, h.3, h.4.1))
before_section (suc d) k n o a e h = (Section k n h.0 h.4.0, h.4.1, h.4.2, (e, o, h.1, a, h.2, refl, h.3, h.4.3), h.4.4)

before_single : (d : ℕ) (k : List ℕ) (n e : ℕ) (t : Token) (m : ℕ) (s : Scalar) (b : List TokenAtLine) → is_key k ≡ true → scalar_of t ≡ Some s → Stacked d b → Stacked d ((Word k, n) ∷ (Equals, e) ∷ (t, m) ∷ b)
before_single zero k n e t m s b i x h = (Single k n s h.0, (i, e, m, t, b, refl, x, h.1))
before_single (suc d) k n e t m s b i x h = (Single k n s h.0, h.1, h.2, (i, e, m, t, b, refl, x, h.3), h.4)

before_list : (d : ℕ) (k : List ℕ) (n e o : ℕ) (ss : List Scalar) (a b : List TokenAtLine) → is_key k ≡ true → ReadsList a ss b → Stacked d b → Stacked d ((Word k, n) ∷ (Equals, e) ∷ (ListOpen, o) ∷ a)
before_list zero k n e o ss a b i x h = (Several k n ss h.0, (i, e, o, a, b, refl, x, h.1))
before_list (suc d) k n e o ss a b i x h = (Several k n ss h.0, h.1, h.2, (i, e, o, a, b, refl, x, h.3), h.4)

-- what the tokens after a stage must be to complete a text
abbrev pub Holds : ℕ → Stage → List TokenAtLine → Type 0
Holds d at.Key ts = Stacked d ts
Holds d at.AfterKey ts = (k : List ℕ) (n : ℕ) → is_key k ≡ true → Stacked d ((Word k, n) ∷ ts)
Holds d at.Content ts = (k : List ℕ) (n e : ℕ) → is_key k ≡ true → Stacked d ((Word k, n) ∷ (Equals, e) ∷ ts)
Holds d at.First ts = (ss : List Scalar) × (b : List TokenAtLine) × ReadsList ts ss b × Stacked d b
Holds d at.Next ts = (n : ℕ) × (t : Token) × (a : List TokenAtLine) × (s : Scalar) × (ss : List Scalar) × (b : List TokenAtLine) × (ts ≡ (t, n) ∷ a) × (scalar_of t ≡ Some s) × ReadsMore a ss b × Stacked d b
Holds d at.After ts = (ss : List Scalar) × (b : List TokenAtLine) × ReadsMore ts ss b × Stacked d b

-- if a step and the run after it reach the end, the step was allowed and the run from the next state reaches the end
taken : (b : Bool) (next : State) (f : State → Option State) → option_and_then f (cond b (Some next) None) ≡ Some done → (b ≡ true) × (f next ≡ Some done)
taken true next f e = (refl, e)
taken false next f e = absurd cc

there : (o : Option Scalar) → is_some o ≡ true → (s : Scalar) × (o ≡ Some s)
there None e = absurd cc
there (Some s) e = (s, refl)

same_state : (d : ℕ) (p : Stage) → ◌≡◌ {A = Option State} (Some (d, p)) (Some done) → (d ≡ 0) × (p ≡ at.Key)
same_state d p e = some_pair_parts d 0 p at.Key e

end : (d : ℕ) (p : Stage) → run d p [] ≡ Some done → Holds d p []
end zero at.Key e = (Nothing, refl)
end (suc d) at.Key e = let wrong : suc d ≡ 0 = (same_state (suc d) at.Key e).0 in absurd (omega arith)
end d at.AfterKey e = let wrong : at.AfterKey ≡ at.Key = (same_state d at.AfterKey e).1 in absurd cc
end d at.Content e = let wrong : at.Content ≡ at.Key = (same_state d at.Content e).1 in absurd cc
end d at.First e = let wrong : at.First ≡ at.Key = (same_state d at.First e).1 in absurd cc
end d at.Next e = let wrong : at.Next ≡ at.Key = (same_state d at.Next e).1 in absurd cc
end d at.After e = let wrong : at.After ≡ at.Key = (same_state d at.After e).1 in absurd cc

abbrev After : List TokenAtLine → Type 0
After ts = (d : ℕ) (p : Stage) → run d p ts ≡ Some done → Holds d p ts

content_word : (t : Token) (n : ℕ) (ts : List TokenAtLine) (d : ℕ) → After ts → option_and_then (λ s. run s.0 s.1 ts) (scalar_then t (d, at.Key)) ≡ Some done → Holds d at.Content ((t, n) ∷ ts)
content_word t n ts d ih e =
    let a = taken (is_some (scalar_of t)) (d, at.Key) (λ s. run s.0 s.1 ts) e in
    let s = there (scalar_of t) a.0 in
    λ k m q i. before_single d k m q t n s.0 ts i s.1 (ih d at.Key a.1)

first_word : (t : Token) (n : ℕ) (ts : List TokenAtLine) (d : ℕ) → After ts → option_and_then (λ s. run s.0 s.1 ts) (scalar_then t (d, at.After)) ≡ Some done → Holds d at.First ((t, n) ∷ ts)
first_word t n ts d ih e =
    let a = taken (is_some (scalar_of t)) (d, at.After) (λ s. run s.0 s.1 ts) e in
    let s = there (scalar_of t) a.0 in
    let h = ih d at.After a.1 in
    (s.0 ∷ h.0, h.1, (n, t, ts, refl, s.1, h.2), h.3)

next_word : (t : Token) (n : ℕ) (ts : List TokenAtLine) (d : ℕ) → After ts → option_and_then (λ s. run s.0 s.1 ts) (scalar_then t (d, at.After)) ≡ Some done → Holds d at.Next ((t, n) ∷ ts)
next_word t n ts d ih e =
    let a = taken (is_some (scalar_of t)) (d, at.After) (λ s. run s.0 s.1 ts) e in
    let s = there (scalar_of t) a.0 in
    let h = ih d at.After a.1 in
    (n, t, ts, s.0, h.0, h.1, refl, s.1, h.2, h.3)

close_key : (d n : ℕ) (ts : List TokenAtLine) → After ts → run d at.Key ((Close, n) ∷ ts) ≡ Some done → Stacked d ((Close, n) ∷ ts)
close_key zero n ts ih e = absurd cc
close_key (suc d) n ts ih e = (Nothing, n, ts, refl, ih d at.Key (sym (close_run d n ts) ∙ e))

one : (p : Stage) (t : Token) (n : ℕ) (ts : List TokenAtLine) (d : ℕ) → After ts → run d p ((t, n) ∷ ts) ≡ Some done → Holds d p ((t, n) ∷ ts)
one at.Key (Word w) n ts d ih e = let a = taken (is_key w) (d, at.AfterKey) (λ s. run s.0 s.1 ts) e in ih d at.AfterKey a.1 w n a.0
one at.Key Close n ts d ih e = close_key d n ts ih e
one at.AfterKey Open n ts d ih e = λ k m i. before_section d k m n ts i (ih (suc d) at.Key e)
one at.AfterKey Equals n ts d ih e = λ k m i. ih d at.Content e k m n i
one at.Content ListOpen n ts d ih e = λ k m q i. let h = ih d at.First e in before_list d k m q n h.0 ts h.1 i h.2 h.3
one at.Content (Word w) n ts d ih e = content_word (Word w) n ts d ih e
one at.Content (Text w) n ts d ih e = content_word (Text w) n ts d ih e
one at.First ListClose n ts d ih e = ([], ts, (n, refl), ih d at.Key e)
one at.First (Word w) n ts d ih e = first_word (Word w) n ts d ih e
one at.First (Text w) n ts d ih e = first_word (Text w) n ts d ih e
one at.After ListClose n ts d ih e = ([], ts, (n, refl), ih d at.Key e)
one at.After Comma n ts d ih e = let h = ih d at.Next e in (h.3 ∷ h.4, h.5, (n, h.0, h.1, h.2, rw h.6, h.7, h.8), h.9)
one at.Next t n ts d ih e = next_word t n ts d ih e
one p t n ts d ih e = absurd cc

pub holds : (ts : List TokenAtLine) (d : ℕ) (p : Stage) → run d p ts ≡ Some done → Holds d p ts
holds [] d p e = end d p e
holds (t ∷ ts) d p e = one p t.0 t.1 ts d (λ x q. holds ts x q) e

pub text_from : (ts : List TokenAtLine) → run 0 at.Key ts ≡ Some done → (v : Values) × IsText ts v
text_from ts e = holds ts 0 at.Key e

pub text_run : (ts : List TokenAtLine) (v : Values) → IsText ts v → run 0 at.Key ts ≡ Some done
text_run ts v h = reads_run v 0 ts [] h

-- ---- every stage that can be reached can be completed to a text

abbrev closes : ℕ → List TokenAtLine
closes zero = []
closes (suc d) = (Close, 1) ∷ closes d

closes_run : (d : ℕ) → run d at.Key (closes d) ≡ Some done
closes_run zero = refl
closes_run (suc d) = close_run d 1 (closes d) ∙ closes_run d

abbrev closing : ℕ → Stage → List TokenAtLine
closing d at.Key = closes d
closing d at.AfterKey = (Equals, 1) ∷ (Text [], 1) ∷ closes d
closing d at.Content = (Text [], 1) ∷ closes d
closing d at.First = (ListClose, 1) ∷ closes d
closing d at.Next = (Text [], 1) ∷ (ListClose, 1) ∷ closes d
closing d at.After = (ListClose, 1) ∷ closes d

closing_run : (d : ℕ) (p : Stage) → run d p (closing d p) ≡ Some done
closing_run d at.Key = closes_run d
closing_run d p = closes_run d

pub front_from : (ts : List TokenAtLine) (s : State) → run 0 at.Key ts ≡ Some s → BeginsText ts
front_from ts s e =
    let more = closing s.0 s.1 in
    let whole = run-append 0 at.Key ts more ∙ ap (option_and_then (λ x. run x.0 x.1 more)) e ∙ closing_run s.0 s.1 in
    let t = text_from (ts ++ more) whole in
    record { more = more; values = t.0; text = t.1 }

reached : (o : Option State) (f : State → Option State) → option_and_then f o ≡ Some done → (s : State) × (o ≡ Some s)
reached None f e = absurd cc
reached (Some s) f e = (s, refl)

pub front_run : (ts : List TokenAtLine) → BeginsText ts → (s : State) × (run 0 at.Key ts ≡ Some s)
front_run ts h = reached (run 0 at.Key ts) (λ s. run s.0 s.1 h.more) (sym (run-append 0 at.Key ts h.more) ∙ text_run (ts ++ h.more) h.values h.text)

-- ---- the line of a syntax fault

pub last_run : (before : List TokenAtLine) (t : TokenAtLine) (s : State) → run 0 at.Key before ≡ Some s → run 0 at.Key (before ++ t ∷ []) ≡ option_and_then (λ x. Some x) (stage_after s.0 s.1 t.0)
last_run before t s e = run-append 0 at.Key before (t ∷ []) ∙ ap (option_and_then (λ x. run x.0 x.1 (t ∷ []))) e

pub broken : (before after : List TokenAtLine) (t : Token) (n : ℕ) (s : State) → run 0 at.Key before ≡ Some s → stage_after s.0 s.1 t ≡ None → IsBreak (before ++ (t, n) ∷ after) n
broken before after t n s e none = record {
  before = before;
  token = t;
  after = after;
  whole = refl;
  begun = front_from before s e;
  broken = λ h. let x = front_run (before ++ (t, n) ∷ []) h in
      let wrong : None ≡ Some x.0 = sym (ap (option_and_then (λ (y : State). Some y)) none) ∙ sym (last_run before (t, n) s e) ∙ x.1 in
      absurd cc;
}

pub unfinished : (ts : List TokenAtLine) (s : State) → run 0 at.Key ts ≡ Some s → s ≢ done → IsUnfinished ts
unfinished ts s e ne = record {
  begun = front_from ts s e;
  unfinished = λ v h. let same : Some s ≡ Some done = sym e ∙ text_run ts v h in ne cc;
}

-- a step opens at most one section
if_shallow : (b : Bool) (next : State) (d : ℕ) → next.0 ≤ suc d → MatchOption (cond b (Some next) None) (Unit {0}) (λ s. s.0 ≤ suc d)
if_shallow true next d h = h
if_shallow false next d h = tt

pub shallow : (d : ℕ) (p : Stage) (t : Token) → MatchOption (stage_after d p t) (Unit {0}) (λ s. s.0 ≤ suc d)
shallow d at.Key (Word w) = if_shallow (is_key w) (d, at.AfterKey) d (omega arith)
shallow d at.Key Close = if_shallow (nat_lt 0 d) (d - 1, at.Key) d (omega arith)
shallow d at.AfterKey Open = omega arith
shallow d at.AfterKey Equals = omega arith
shallow d at.Content ListOpen = omega arith
shallow d at.Content t = if_shallow (is_some (scalar_of t)) (d, at.Key) d (omega arith)
shallow d at.First ListClose = omega arith
shallow d at.First t = if_shallow (is_some (scalar_of t)) (d, at.After) d (omega arith)
shallow d at.After ListClose = omega arith
shallow d at.After Comma = omega arith
shallow d at.Next t = if_shallow (is_some (scalar_of t)) (d, at.After) d (omega arith)
shallow d p t = tt

-- a text may end only in the state `done`: no section open, before a key
pub over : (d : ℕ) (p : Stage) → is_over d p ≡ true → ◌≡◌ {A = State} (d, p) done
over d at.Key h = rw (eqb-true d 0 h)
over d p h = absurd cc

pub not_over : (d : ℕ) (p : Stage) → is_over d p ≡ false → ◌≢◌ {A = State} (d, p) done
not_over d p h = λ e.
    let same = some_pair_parts d 0 p at.Key (ap Some e) in
    let wrong : true ≡ false = sym (eq-eqb d 0 same.0) ∙ rw same.1 at h in absurd cc
