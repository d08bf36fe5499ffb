use Rattle.dmremap.proofs.Prelude.{ℕ, ◌∙◌, List, [], true, false, cond, not, codes, length, get_or, take, drop, add-one, arith, refl, ap, sym, take_while-cons, drop-cons, take-length, Bor, before_first, list_any, bytes_eq, lone_hyphen_in, texts, Text}
use Rattle.dmremap.proofs.words.has_lone_hyphen.Goals as goal
use Rattle.std.specs.Prelude.{◌+◌, ◌-◌, ◌<◌, ◌≡◌, ◌∷◌}

-- the first word decides if it is `--` or a lone hyphen
lone-cons : (word : Text) (words : List Text) → lone_hyphen_in (word ∷ words)
    ≡ list_any (λ w. bytes_eq w (codes "-")) (cond (not (bytes_eq word (codes "--"))) (word ∷ before_first (λ w. bytes_eq w (codes "--")) words) [])
lone-cons word words = ap (list_any (λ w. bytes_eq w (codes "-"))) (take_while-cons (λ w. not (bytes_eq w (codes "--"))) word words)

-- the first word is a lone hyphen
lone-hyphen : (word : Text) (words : List Text) → bytes_eq word (codes "--") ≡ false → bytes_eq word (codes "-") ≡ true
    → lone_hyphen_in (word ∷ words) ≡ true
lone-hyphen word words no_dashes hyphen = lone-cons word words ∙ rw (no_dashes, hyphen) refl

-- the first word is neither `--` nor a lone hyphen
lone-other : (word : Text) (words : List Text) → bytes_eq word (codes "--") ≡ false → bytes_eq word (codes "-") ≡ false
    → lone_hyphen_in (word ∷ words) ≡ lone_hyphen_in words
lone-other word words no_dashes no_hyphen = lone-cons word words ∙ rw (no_dashes, no_hyphen) refl

-- the texts of referenced words from index `i` on begin with the text at `i`
texts-drop : (words : List (Bor Text)) (i : ℕ) (d : Bor Text) → i < length words
    → texts (drop i words) ≡ (get_or words i d).now ∷ texts (drop (i + 1) words)
texts-drop words i d lt = ap texts (drop-cons words i d lt) ∙ rw (add-one i) refl

-- the word at index `i` is a lone hyphen
lone-hyphen_at : (words : List (Bor Text)) (i : ℕ) (d : Bor Text) → i < length words → bytes_eq (get_or words i d).now (codes "--") ≡ false
    → bytes_eq (get_or words i d).now (codes "-") ≡ true → lone_hyphen_in (texts (drop i words)) ≡ true
lone-hyphen_at words i d lt no_dashes hyphen = ap lone_hyphen_in (texts-drop words i d lt) ∙ lone-hyphen (get_or words i d).now (texts (drop (i + 1) words)) no_dashes hyphen

-- the word at index `i` is neither `--` nor a lone hyphen
lone-other_at : (words : List (Bor Text)) (i : ℕ) (d : Bor Text) → i < length words → bytes_eq (get_or words i d).now (codes "--") ≡ false
    → bytes_eq (get_or words i d).now (codes "-") ≡ false → lone_hyphen_in (texts (drop i words)) ≡ lone_hyphen_in (texts (drop (i + 1) words))
lone-other_at words i d lt no_dashes no_hyphen = ap lone_hyphen_in (texts-drop words i d lt) ∙ lone-other (get_or words i d).now (texts (drop (i + 1) words)) no_dashes no_hyphen

-- the texts of the words after the first
texts-after_first : (words : List (Bor Text)) → texts (take (length words - 1) (drop 1 words)) ≡ drop 1 (texts words)
texts-after_first [] = refl
texts-after_first (word ∷ words) =
    let less : length (word ∷ words) - 1 ≡ length words = omega arith in rw (less, take-length words)

pub returns-then-eq-2 : goal.returns-then-eq-2
returns-then-eq-2 c =
    sym (ap lone_hyphen_in (sym (texts-after_first c.args.words.now)) ∙ c.loop-word.invariant
    ∙ lone-hyphen_at _ _ _ c.loop-word-test.true (sym c.eq.ensures ∙ c.if-eq.false) (sym c.eq-in-loop-word.ensures ∙ c.if-eq-2.true))

pub loop-word-preserved : goal.loop-word-preserved
loop-word-preserved c =
    c.loop-word.invariant
    ∙ lone-other_at _ _ _ c.loop-word-test.true (sym c.eq.ensures ∙ c.if-eq.false) (sym c.eq-in-loop-word.ensures ∙ c.if-eq-2.false)
