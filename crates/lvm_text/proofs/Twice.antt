-- Keys that occur twice: the keys of the entries read so far, and the first new key that equals one of them.
use Rattle.lvm_text.proofs.Prelude.{ℕ, Bool, true, false, cond, List, [], Option, Some, refl, sym, ap, ◌∙◌, append_assoc, bytes_eq, is_some, or_right, Word, Open, Equals, ListOpen, TokenAtLine, Values, Nothing, Section, Single, Several, ReadsBy, head_line, hit, has_key, twice_lines, inner_lines, bounded_of, begins_key, is_open, before, IsTwice, IsTwiceInside, put, values_of, position_of, Value, Entry, TextFault}
use Rattle.std.proofs.Math.Bool.{or-false}
use Rattle.lvm_text.specs.declared.tree.Value.TheVariants as variants
use Rattle.lvm_text.specs.declared.fault.TextFault.TheVariants as fault
use Rattle.lvm_text.proofs.Building.{ValuesSoFar, before_push, before_all, no_values, same_key, opened}
use Rattle.std.specs.Prelude.{◌≡◌, ◌+◌, ◌||◌, ◌∷◌, ◌++◌}

-- the keys of the entries, latest first, in front of the keys ks
abbrev pub keys_after : List Entry → List (List ℕ) → List (List ℕ)
keys_after [] ks = ks
keys_after (e ∷ es) ks = keys_after es (e.key.now ∷ ks)

hit_append : (b : Bool) (n : ℕ) (xs ys : List ℕ) → hit b n (xs ++ ys) ≡ hit b n xs ++ ys
hit_append true n xs ys = refl
hit_append false n xs ys = refl

twice_put : (ks : List (List ℕ)) (k : List ℕ) (n : ℕ) (value : Value) (rest : Values) → twice_lines ks (put k n value rest) ≡ hit (has_key k ks) n (inner_lines value ++ twice_lines (k ∷ ks) rest)
twice_put ks k n (variants.Section s) rest = refl
twice_put ks k n value rest = refl

-- the lines of keys that occur twice among entries and later values
twice_before : (es : List Entry) (ks : List (List ℕ)) (left : Values) → twice_lines ks (before es left) ≡ twice_lines ks (values_of es) ++ twice_lines (keys_after es ks) left
twice_before [] ks left = refl
twice_before (e ∷ es) ks left =
    let k = e.key.now in
    let n = e.node.line in
    let inside = inner_lines e.node.value in
    let own = twice_lines (k ∷ ks) (values_of es) in
    let after = twice_lines (keys_after es (k ∷ ks)) left in
    rw (twice_put ks k n e.node.value (values_of es)) (cc (twice_put ks k n e.node.value (before es left), twice_before es (k ∷ ks) left, append_assoc inside own after, hit_append (has_key k ks) n (inside ++ own) after))

-- one step of: a key has a position among entries exactly if it is among their keys
has_step : (b : Bool) (first : ℕ) (position : Option ℕ) (old : Bool) → (is_some position || (b || old)) ≡ (is_some (cond b (Some first) position) || old)
has_step true first position old = or_right (is_some position) true refl
has_step false first position old = refl

has_after : (es : List Entry) (ks : List (List ℕ)) (key : List ℕ) (first : ℕ) → has_key key (keys_after es ks) ≡ (is_some (position_of key first es) || has_key key ks)
has_after [] ks key first = refl
has_after (e ∷ es) ks key first = has_after es (e.key.now ∷ ks) key (first + 1) ∙ has_step (bytes_eq e.key.now key) first (position_of key (first + 1) es) (has_key key ks)

has_position : (es : List Entry) (key : List ℕ) (b : Bool) → b ≡ is_some (position_of key 0 es) → has_key key (keys_after es []) ≡ b
has_position es key b e = has_after es [] key 0 ∙ or-false (is_some (position_of key 0 es)) ∙ sym e

-- if no key of the entries occurs twice, the lines are those of the values that are left
twice_left : (es : List Entry) (left : Values) → twice_lines [] (values_of es) ≡ [] → twice_lines [] (before es left) ≡ twice_lines (keys_after es []) left
twice_left es left h = rw (twice_before, h)

hit_nothing : (b : Bool) (n : ℕ) (inside : List ℕ) → b ≡ false → inside ≡ [] → hit b n (inside ++ []) ≡ []
hit_nothing b n inside e i = rw (e, i)

pub differ_push : (es : List Entry) (e : Entry) → twice_lines [] (values_of es) ≡ [] → false ≡ is_some (position_of e.key.now 0 es) → inner_lines e.node.value ≡ [] → twice_lines [] (values_of (es ++ e ∷ [])) ≡ []
differ_push es e h new inside =
    ap (twice_lines []) (sym (before_all (es ++ e ∷ [])) ∙ before_push es e Nothing)
    ∙ twice_left es (put e.key.now e.node.line e.node.value Nothing) h
    ∙ twice_put (keys_after es []) e.key.now e.node.line e.node.value Nothing
    ∙ hit_nothing (has_key e.key.now (keys_after es [])) e.node.line (inner_lines e.node.value) (has_position es e.key.now false new) inside

-- if the next key is among the keys before it, the first line is that of this key
head_hit : (k key : List ℕ) (n line : ℕ) (ks : List (List ℕ)) (later : List ℕ) → k ≡ key → line ≡ n → has_key key ks ≡ true → head_line (hit (has_key k ks) n later) ≡ Some line
head_hit k key n line ks later same at has = rw (same, sym at, has)

key_here : (key : List ℕ) (line : ℕ) (tokens : List TokenAtLine) (ks : List (List ℕ)) (left : Values) (more : List TokenAtLine) → has_key key ks ≡ true → ReadsBy bounded_of ((Word key, line) ∷ tokens) left more → begins_key more ≡ false → head_line (twice_lines ks left) ≡ Some line
key_here key line tokens ks Nothing more has r stop = absurd (no_values key line tokens more r stop)
key_here key line tokens ks (Section q n inner later) more has r stop =
    let s = same_key key q line n tokens ((Open, r.1) ∷ r.3) r.5 in
    head_hit q key n line ks (twice_lines [] inner ++ twice_lines (q ∷ ks) later) (sym s.key) s.at has
key_here key line tokens ks (Single q n x later) more has r stop =
    let s = same_key key q line n tokens ((Equals, r.1) ∷ (r.3, r.2) ∷ r.4) r.5 in
    head_hit q key n line ks (twice_lines (q ∷ ks) later) (sym s.key) s.at has
key_here key line tokens ks (Several q n xs later) more has r stop =
    let s = same_key key q line n tokens ((Equals, r.1) ∷ (ListOpen, r.2) ∷ r.3) r.5 in
    head_hit q key n line ks (twice_lines (q ∷ ks) later) (sym s.key) s.at has

pub key_twice : (start : List TokenAtLine) (es : List Entry) (rest tokens : List TokenAtLine) (key : List ℕ) (line : ℕ) → ValuesSoFar start es rest → rest ≡ (Word key, line) ∷ tokens → twice_lines [] (values_of es) ≡ [] → true ≡ is_some (position_of key 0 es)
    → IsTwice start (fault.KeyTwice line)
key_twice start es rest tokens key line so_far same differ has = λ v more r stop.
    let x = so_far v more r stop in
    rw x.1 (ap head_line (twice_left es x.0 differ) ∙ key_here key line tokens (keys_after es []) x.0 more (has_position es key true has) (rw (← same) x.2) stop)

head_first : (xs ys : List ℕ) (n : ℕ) → head_line xs ≡ Some n → head_line (xs ++ ys) ≡ Some n
head_first [] ys n e = absurd cc
head_first (x ∷ xs) ys n e = e

hit_later : (b : Bool) (n line : ℕ) (inside later : List ℕ) → b ≡ false → head_line inside ≡ Some n → head_line (hit b line (inside ++ later)) ≡ Some n
hit_later b n line inside later new e = rw new (head_first inside later n e)

-- a key that occurs twice in the section read last is the first fault of the values so far
pub twice_inside : (start : List TokenAtLine) (es : List Entry) (rest tokens : List TokenAtLine) (key : List ℕ) (line : ℕ) (f : TextFault) → ValuesSoFar start es rest → rest ≡ (Word key, line) ∷ tokens → twice_lines [] (values_of es) ≡ [] → false ≡ is_some (position_of key 0 es)
    → IsTwiceInside line tokens f → IsTwice start f
twice_inside start es rest tokens key line (fault.KeyTwice n) so_far same differ new inside = λ v more r stop.
    let x = so_far v more r stop in
    let y = inside key x.0 more (rw (← same) x.2) stop in
    rw (x.1, twice_left, y.2) (hit_later (has_key key (keys_after es [])) n line (twice_lines [] y.0) (twice_lines (key ∷ keys_after es []) y.1) (has_position es key false new) y.3)
twice_inside start es rest tokens key line fault.Memory so_far same differ new inside = tt
twice_inside start es rest tokens key line f so_far same differ new inside = absurd inside

-- a key that occurs twice in a section that begins here is a fault inside that section
pub twice_opened : (line : ℕ) (tokens : List TokenAtLine) (first : TokenAtLine) (inner : List TokenAtLine) (f : TextFault) → tokens ≡ first ∷ inner → is_open first.0 ≡ true → IsTwice inner f → IsTwiceInside line tokens f
twice_opened line tokens first inner (fault.KeyTwice n) e o twice = λ k v more r stop.
    let x = opened line tokens first inner e o k v more r stop in
    (x.inside, x.later, x.is, twice x.inside x.more x.read x.stop)
twice_opened line tokens first inner fault.Memory e o twice = tt
twice_opened line tokens first inner f e o twice = absurd twice
