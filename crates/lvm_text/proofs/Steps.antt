-- Tokens split at a position: before it, at it and after it.
use Rattle.lvm_text.proofs.Prelude.{ℕ, zero, suc, false, List, [], length, get_or, take, drop, Some, None, refl, sym, ap, ◌∙◌, arith, inl, inr, add-one, option_and_then, MatchOption-at_some, take_all, IsSyntaxLine, State, stage_after, run, is_over, token_view, view, views, Stage}
use Rattle.lvm_text.specs.declared.token.TokenAtLine.{TokenAtLine}
use Rattle.lvm_text.specs.declared.syntax.Stage.TheVariants as at
use Rattle.lvm_text.proofs.Beginnings.{broken, unfinished, last_run, shallow, not_over}
use Rattle.std.specs.Prelude.{◌≡◌, ◌+◌, ◌<◌, ◌≤◌, ◌∷◌, ◌++◌}

pub views_at : (ts : List TokenAtLine) (i : ℕ) (d : TokenAtLine) → i < length ts → views ts ≡ views (take i ts) ++ view (get_or ts i d) ∷ views (drop (suc i) ts)
views_at [] i d lt = absurd (omega arith)
views_at (t ∷ ts) zero d lt = refl
views_at (t ∷ ts) (suc i) d lt = rw (views_at ts i d (omega arith))

views_suc : (ts : List TokenAtLine) (i : ℕ) (d : TokenAtLine) → i < length ts → views (take (suc i) ts) ≡ views (take i ts) ++ view (get_or ts i d) ∷ []
views_suc [] i d lt = absurd (omega arith)
views_suc (t ∷ ts) zero d lt = refl
views_suc (t ∷ ts) (suc i) d lt = rw (views_suc ts i d (omega arith))

pub views_more : (ts : List TokenAtLine) (i : ℕ) (d : TokenAtLine) → i < length ts → views (take (i + 1) ts) ≡ views (take i ts) ++ view (get_or ts i d) ∷ []
views_more ts i d lt = rw (add-one i) (views_suc ts i d lt)

pub refused : (ts : List TokenAtLine) (i : ℕ) (x : TokenAtLine) (depth : ℕ) (stage : Stage) (end : ℕ) → i < length ts → run 0 at.Key (views (take i ts)) ≡ Some (depth, stage)
    → None ≡ stage_after depth stage (token_view (get_or ts i x).token) → IsSyntaxLine (views ts) end (get_or ts i x).line
refused ts i x depth stage end lt e none =
    inl (rw (views_at ts i x lt) (broken (views (take i ts)) (views (drop (suc i) ts)) (token_view (get_or ts i x).token) (get_or ts i x).line (depth, stage) e (sym none)))

pub stepped : (ts : List TokenAtLine) (i : ℕ) (x : TokenAtLine) (depth : ℕ) (stage : Stage) (next : State) → i < length ts → run 0 at.Key (views (take i ts)) ≡ Some (depth, stage)
    → Some next ≡ stage_after depth stage (token_view (get_or ts i x).token) → (run 0 at.Key (views (take (i + 1) ts)) ≡ Some next) × (next.0 ≤ suc depth)
stepped ts i x depth stage next lt e s = (
  ap (run 0 at.Key) (views_more ts i x lt) ∙ last_run (views (take i ts)) (view (get_or ts i x)) (depth, stage) e ∙ ap (option_and_then (λ (y : State). Some y)) (sym s),
  MatchOption-at_some (Unit {0}) (λ y. y.0 ≤ suc depth) next (sym s) (shallow depth stage (token_view (get_or ts i x).token)),
)

whole_run : (ts : List TokenAtLine) (n : ℕ) (s : State) → length ts ≤ n → run 0 at.Key (views (take n ts)) ≡ Some s → run 0 at.Key (views ts) ≡ Some s
whole_run ts n s h e = sym (rw (take_all n ts h)) ∙ e

pub unended : (ts : List TokenAtLine) (n depth : ℕ) (stage : Stage) (end : ℕ) → length ts ≤ n → run 0 at.Key (views (take n ts)) ≡ Some (depth, stage) → is_over depth stage ≡ false → IsSyntaxLine (views ts) end end
unended ts n depth stage end h e o = inr (unfinished (views ts) (depth, stage) (whole_run ts n (depth, stage) h e) (not_over depth stage o), refl)
