-- From the tree of tokens to what the text says.
use Rattle.lvm_text.proofs.Prelude.{ℕ, List, [], Option, Some, None, refl, subst, ◌∙◌, Result, Ok, Err, IfOk, IfErr, same_Some, Close, TokenAtLine, Values, Tree, Spells, IsText, run, head_line, first_line, deep_lines, number_lines, twice_lines, fault_of, ReadsValues, IsTwice, Describes, HasFault, TreeOf, TextFault}
use Rattle.lvm_text.specs.declared.syntax.Stage.TheVariants as at
use Rattle.lvm_text.specs.declared.fault.TextFault.TheVariants as fault
use Rattle.lvm_text.proofs.Bounds.{bounded_text}
use Rattle.lvm_text.proofs.Beginnings.{text_from}
use Rattle.std.specs.Prelude.{◌≡◌, ◌≢◌, ◌∷◌}

-- the fault is one of a check that runs after those of tokens and of syntax, and not one of memory
abbrev IsLater : TextFault → Type 0
IsLater (fault.Token n) = ⊥
IsLater (fault.Syntax n) = ⊥
IsLater fault.Memory = ⊥
IsLater _ = Unit {0}

abbrev Later : Option TextFault → Type 0
Later None = Unit {0}
Later (Some f) = IsLater f

first_later : (f : ℕ → TextFault) (ns : List ℕ) (rest : Option TextFault) → ((n : ℕ) → IsLater (f n)) → Later rest → Later (first_line f ns rest)
first_later f [] rest g h = h
first_later f (n ∷ ns) rest g h = g n

fault_later : (ts : List TokenAtLine) (v : Values) → Later (fault_of ts v)
fault_later ts v =
    first_later (λ l. fault.Deep l) (deep_lines 0 ts) _ (λ n. tt) (first_later (λ l. fault.Number l) (number_lines Close ts) _ (λ n. tt) (first_later (λ l. fault.KeyTwice l) (twice_lines [] v) None (λ n. tt) tt))

accepted_by : (text : List ℕ) (ts : List TokenAtLine) (v : Values) (r : Result Tree TextFault) → Spells text ts → IsText ts v → TreeOf ts v r → IfOk r (Describes text)
accepted_by text ts v (Ok t) s h o = record {
  tokens = ts;
  spelled = s;
  grammar = subst (IsText ts) (cc) h;
  sound = cc;
  top = cc;
}
accepted_by text ts v (Err f) s h o = tt

pub fault_here : (text : List ℕ) (ts : List TokenAtLine) (v : Values) (f : TextFault) → Spells text ts → IsText ts v → fault_of ts v ≡ Some f → HasFault text f
fault_here text ts v (fault.Deep n) s h o = record { tokens = ts; values = v; spelled = s; grammar = h; hit = o }
fault_here text ts v (fault.Number n) s h o = record { tokens = ts; values = v; spelled = s; grammar = h; hit = o }
fault_here text ts v (fault.KeyTwice n) s h o = record { tokens = ts; values = v; spelled = s; grammar = h; hit = o }
fault_here text ts v f s h o = absurd (subst Later o (fault_later ts v))

fault_by : (text : List ℕ) (ts : List TokenAtLine) (v : Values) (r : Result Tree TextFault) → Spells text ts → IsText ts v → TreeOf ts v r → IfErr r (λ f. f ≢ fault.Memory → HasFault text f)
fault_by text ts v (Ok t) s h o = tt
fault_by text ts v (Err (fault.Token n)) s h o = λ ne. fault_here text ts v (fault.Token n) s h o
fault_by text ts v (Err (fault.Syntax n)) s h o = λ ne. fault_here text ts v (fault.Syntax n) s h o
fault_by text ts v (Err (fault.Deep n)) s h o = λ ne. fault_here text ts v (fault.Deep n) s h o
fault_by text ts v (Err (fault.Number n)) s h o = λ ne. fault_here text ts v (fault.Number n) s h o
fault_by text ts v (Err (fault.KeyTwice n)) s h o = λ ne. fault_here text ts v (fault.KeyTwice n) s h o
fault_by text ts v (Err fault.Memory) s h o = λ ne. absurd (ne refl)

-- ---- what the builder read, or refused

no_head : (ns : List ℕ) → None ≡ head_line ns → ns ≡ []
no_head [] e = refl
no_head (n ∷ ns) e = absurd cc

first_head : (ns : List ℕ) (n : ℕ) (fault : ℕ → TextFault) → head_line ns ≡ Some n → first_line fault ns None ≡ Some (fault n)
first_head [] n fault e = absurd cc
first_head (m ∷ ns) n fault e = rw (same_Some _ _ e)

-- if no brace is too deep and no integer out of range, the fault is that of the first key that occurs twice
fault_twice : (ts : List TokenAtLine) (v : Values) → None ≡ head_line (deep_lines 0 ts) → None ≡ head_line (number_lines Close ts) → fault_of ts v ≡ first_line (λ n. fault.KeyTwice n) (twice_lines [] v) None
fault_twice ts v deep number =
    rw (no_head (deep_lines 0 ts) deep, no_head (number_lines Close ts) number)

pub tree_twice : (ts : List TokenAtLine) (f : TextFault) → None ≡ head_line (deep_lines 0 ts) → None ≡ head_line (number_lines Close ts) → IsTwice ts f → (v : Values) → IsText ts v → TreeOf ts v (Err f)
tree_twice ts (fault.KeyTwice n) deep number twice v h =
    fault_twice ts v deep number ∙ first_head (twice_lines [] v) n (λ l. fault.KeyTwice l) (twice v [] (bounded_text ts v (no_head (number_lines Close ts) number) h) refl)
tree_twice ts fault.Memory deep number twice v h = tt
tree_twice ts f deep number twice v h = absurd twice

pub tree_read : (ts rest : List TokenAtLine) (t : Tree) → None ≡ head_line (deep_lines 0 ts) → None ≡ head_line (number_lines Close ts) → t.line ≡ 1 → twice_lines [] t.values ≡ [] → ReadsValues ts t.values rest → (v : Values) → IsText ts v → TreeOf ts v (Ok t)
tree_read ts rest t deep number line differ read v h =
    let same : v ≡ t.values = (read v [] (bounded_text ts v (no_head (number_lines Close ts) number) h) refl).0 in (
      rw (line, same),
      rw (fault_twice, same, differ),
    )

pub tree_accepted : (text : List ℕ) (ts : List TokenAtLine) (r : Result Tree TextFault) → Spells text ts → run 0 at.Key ts ≡ Some (0, at.Key) → ((v : Values) → IsText ts v → TreeOf ts v r) → IfOk r (Describes text)
tree_accepted text ts r s e h = let t = text_from ts e in accepted_by text ts t.0 r s t.1 (h t.0 t.1)

pub tree_fault : (text : List ℕ) (ts : List TokenAtLine) (r : Result Tree TextFault) → Spells text ts → run 0 at.Key ts ≡ Some (0, at.Key) → ((v : Values) → IsText ts v → TreeOf ts v r) → IfErr r (λ f. f ≢ fault.Memory → HasFault text f)
tree_fault text ts r s e h = let t = text_from ts e in fault_by text ts t.0 r s t.1 (h t.0 t.1)
