-- Every text describes a tree or has a fault.
use Rattle.lvm_text.proofs.Prelude.{ℕ, zero, suc, false, List, [], length, Option, Some, None, refl, sym, ◌∙◌, inl, inr, append_assoc, arith, cases_Bool, append-nil, TokenAtLine, Values, Tree, Element, Spells, IsBadToken, is_end, newlines, spelling, put_token, element_at, IsText, IsSyntaxLine, State, stage_after, run, is_over, fault_of, Describes, HasFault, TextFault}
use Rattle.lvm_text.specs.declared.syntax.Stage.TheVariants as at
use Rattle.lvm_text.specs.declared.fault.TextFault.TheVariants as fault
use Rattle.lvm_text.proofs.Cuts.{Before, before_all, before_more, spells_whole, bad_here}
use Rattle.lvm_text.proofs.Elements.{begins, shorter}
use Rattle.lvm_text.proofs.Beginnings.{done, text_from, last_run, broken, unfinished, over, not_over}
use Rattle.lvm_text.proofs.Trees.{fault_here}
use Rattle.std.specs.Prelude.{◌≡◌, ◌+◌, ◌<◌, ◌∷◌, ◌++◌, ◌⊎◌}

-- ---- cutting a text into tokens

-- the text spells tokens, or has a part that is no token
abbrev Tokens : List ℕ → Type 0
Tokens text = ((ts : List TokenAtLine) × Spells text ts) ⊎ ((n : ℕ) × IsBadToken text n)

next_element : (text : List ℕ) (line : ℕ) (tokens : List TokenAtLine) (rest : List ℕ) (element : Option (Element × List ℕ)) → Before text line tokens rest → is_end rest ≡ false → element ≡ element_at rest
    → ((l : ℕ) (ts : List TokenAtLine) (after : List ℕ) → length after < length rest → Before text l ts after → Tokens text) → Tokens text
next_element text line tokens rest None h e p go = inr (line, bad_here text line tokens rest h e (sym p))
next_element text line tokens rest (Some q) h e p go =
    let b = begins rest q.0 q.1 p in
    go (line + newlines (spelling q.0)) (tokens ++ put_token q.0 line []) q.1 (shorter rest q.0 q.1 b).0 (before_more text line tokens rest q.0 q.1 h b)

tokens_within : (n : ℕ) (text : List ℕ) (line : ℕ) (tokens : List TokenAtLine) (rest : List ℕ) → length rest < n → Before text line tokens rest → Tokens text
tokens_within zero text line tokens rest lt h = absurd (omega arith)
tokens_within (suc n) text line tokens rest lt h =
    elim (cases_Bool (is_end rest)) [
      | inl e ↦ inl (tokens, spells_whole text line tokens rest h e)
      | inr e ↦ next_element text line tokens rest (element_at rest) h e refl (λ l ts after less before. tokens_within n text l ts after (omega (arith, less, lt)) before)
    ]

-- ---- the syntax of the tokens

-- the tokens run through to the end, or have a syntax fault on some line
abbrev Syntax : List TokenAtLine → ℕ → Type 0
Syntax ts end = (run 0 at.Key ts ≡ Some done) ⊎ ((n : ℕ) × IsSyntaxLine ts end n)

ended : (ts : List TokenAtLine) (end : ℕ) (s : State) → run 0 at.Key ts ≡ Some s → Syntax ts end
ended ts end s h =
    elim (cases_Bool (is_over s.0 s.1)) [
      | inl e ↦ inl (rw (← over s.0 s.1 e) h)
      | inr e ↦ inr (end, inr (unfinished ts s h (not_over s.0 s.1 e), refl))
    ]

next_token : (before : List TokenAtLine) (t : TokenAtLine) (ts : List TokenAtLine) (end : ℕ) (s : State) (next : Option State) → run 0 at.Key before ≡ Some s → stage_after s.0 s.1 t.0 ≡ next
    → ((x : State) → run 0 at.Key (before ++ t ∷ []) ≡ Some x → Syntax ((before ++ t ∷ []) ++ ts) end) → Syntax (before ++ t ∷ ts) end
next_token before t ts end s None h e go = inr (t.1, inl (broken before ts t.0 t.1 s h e))
next_token before t ts end s (Some x) h e go =
    rw (← append_assoc before (t ∷ []) ts) (go x (last_run before t s h ∙ rw e))

syntax_from : (ts before : List TokenAtLine) (end : ℕ) (s : State) → run 0 at.Key before ≡ Some s → Syntax (before ++ ts) end
syntax_from [] before end s h = rw (append-nil before) (ended before end s h)
syntax_from (t ∷ ts) before end s h = next_token before t ts end s (stage_after s.0 s.1 t.0) h refl (λ x e. syntax_from ts (before ++ t ∷ []) end x e)

-- ---- the text as a whole

abbrev Answer : List ℕ → Type 0
Answer text = ((t : Tree) × Describes text t) ⊎ ((f : TextFault) × HasFault text f)

checked : (text : List ℕ) (ts : List TokenAtLine) (v : Values) (found : Option TextFault) → Spells text ts → IsText ts v → fault_of ts v ≡ found → Answer text
checked text ts v None s h e = inl (record { line = 1; values = v }, record { tokens = ts; spelled = s; grammar = h; sound = e; top = refl })
checked text ts v (Some f) s h e = inr (f, fault_here text ts v f s h e)

spelled : (text : List ℕ) (ts : List TokenAtLine) → Spells text ts → Answer text
spelled text ts s =
    elim (syntax_from ts [] (1 + newlines text) (0, at.Key) refl) [
      | inl e ↦ let t = text_from ts e in checked text ts t.0 (fault_of ts t.0) s t.1 refl
      | inr b ↦ inr (fault.Syntax b.0, record { tokens = ts; spelled = s; found = b.1 })
    ]

pub every_text : (text : List ℕ) → ((t : Tree) × Describes text t) ⊎ ((f : TextFault) × HasFault text f)
every_text text =
    elim (tokens_within (suc (length text)) text 1 [] text (omega arith) (before_all text)) [
      | inl x ↦ spelled text x.0 x.1
      | inr b ↦ inr (fault.Token b.0, b.1)
    ]
