-- Where a mark is in a text: what `split_once` says agrees with the definition `cut_at`.
use Rattle.dmremap.proofs.Prelude.{zero, suc, ◌∙◌, ℕ, Bool, true, false, [], length, take, drop, Option, Some, None, option_map, ap, ap₂, arith, refl, sym, drop_at, take_at, length-append, length-drop, take-append-drop, bytes_eq-Decides, Bor, MatchOption, bytes_eq, FindsText, LacksTextAt, SplitsAroundMatch, cut_at, Text}
use Rattle.std.specs.Prelude.{◌≡◌, ◌++◌, ◌<◌, ◌≤◌, ◌+◌, ◌∷◌}

-- the text doesn't begin with the mark
lacks_first : (mark text : Text) → LacksTextAt mark text 0 → bytes_eq (take (length mark) text) mark ≡ false
lacks_first mark text lacks = go (bytes_eq (take (length mark) text) mark) refl
  where
    go : (is : Bool) → bytes_eq (take (length mark) text) mark ≡ is → bytes_eq (take (length mark) text) mark ≡ false
    go false e = e
    go true e =
        let same : take (length mark) text ≡ mark = (bytes_eq-Decides (take (length mark) text) mark).0 e in
        absurd (lacks (drop (length mark) text) (sym (take-append-drop (length mark) text) ∙ ap (λ front. front ++ drop (length mark) text) same))

-- a text without the mark isn't cut
uncut : (mark text : Text) → ((i : ℕ) → i ≤ length text → LacksTextAt mark text i) → cut_at mark text ≡ None
unfolding cut_at
uncut mark [] lacks = refl
uncut mark (x ∷ xs) lacks =
    let later : cut_at mark xs ≡ None = uncut mark xs (λ i le rest e. lacks (suc i) (omega arith) rest e) in
    rw (lacks_first mark (x ∷ xs) (lacks 0 (omega arith)), later) refl

-- a text with the mark first at index `i` is cut there
cut_first : (mark text : Text) (i : ℕ) (rest : Text) → 0 < length mark → ((k : ℕ) → k < i → LacksTextAt mark text k) → drop i text ≡ mark ++ rest → cut_at mark text ≡ Some (take i text, rest)
unfolding cut_at
cut_first [] [] i rest long lacks split = absurd (omega arith)
cut_first (c ∷ mark) [] i rest long lacks split = let none : 0 ≡ length mark + length rest + 1 = omega (arith, ap length split, length-drop {A = ℕ} i [], length-append mark rest) in absurd (omega arith)
cut_first mark (x ∷ xs) zero rest long lacks split =
    let begins : take (length mark) (x ∷ xs) ≡ mark = ap (take (length mark)) split ∙ take_at mark rest (length mark) refl in
    let ends : drop (length mark) (x ∷ xs) ≡ rest = ap (drop (length mark)) split ∙ drop_at mark rest (length mark) refl in
    let is : bytes_eq (take (length mark) (x ∷ xs)) mark ≡ true = (bytes_eq-Decides (take (length mark) (x ∷ xs)) mark).1 begins in
    rw (is, ends) refl
cut_first mark (x ∷ xs) (suc i) rest long lacks split =
    let later : cut_at mark xs ≡ Some (take i xs, rest) = cut_first mark xs i rest long (λ k lt more e. lacks (suc k) (omega arith) more e) split in
    rw (lacks_first mark (x ∷ xs) (lacks 0 (omega arith)), later) refl

-- `split_once` gives what `cut_at` gives
pub cut : (mark text : Text) (found : Option (Bor Text × Bor Text)) → 0 < length mark
    → MatchOption found (FindsText mark text None) (λ both. SplitsAroundMatch (FindsText mark) text both.0.now both.1.now)
    → option_map (λ cut. (cut.0.now, cut.1.now)) found ≡ cut_at mark text
cut mark text None long lacks = sym (uncut mark text lacks)
cut mark text (Some both) long found =
    let rest : drop found.0 text ≡ mark ++ drop found.1 text = found.2.1.split in
    ap₂ (λ (front back : Text). Some (front, back)) found.3 found.4 ∙ sym (cut_first mark text found.0 (drop found.1 text) long found.2.0 rest)
