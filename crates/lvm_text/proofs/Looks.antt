-- Lemmas about looking up a key, and iterating over the inner sections.
use Rattle.lvm_text.proofs.Prelude.{ℕ, true, cond, List, [], Some, refl, ap, ◌∙◌, bytes_eq, and_parts, eqb-true, Values, Tree, node_of, sections_of, put, values_of, has_line, lines_agree, content_view, put_section, sections_in, Value, Entry}
use Rattle.lvm_text.specs.declared.tree.Value.TheVariants as variants
use Rattle.std.specs.Prelude.{◌≡◌, ◌∷◌}

same_line : (s : Tree) (n : ℕ) → (s.line ≡ n) → ◌≡◌ {A = Tree} (record { line = n; values = s.values }) s
same_line s n e = rw (← e)

pub node_put : (key k : List ℕ) (n : ℕ) (value : Value) (rest : Values) → has_line n value ≡ true → node_of key (put k n value rest) ≡ cond (bytes_eq k key) (Some (record { line = n; content = content_view value })) (node_of key rest)
node_put key k n (variants.Section s) rest h =
    rw (same_line s n (eqb-true s.line n h))
node_put key k n value rest h = refl

sections_put : (k : List ℕ) (n : ℕ) (value : Value) (rest : Values) → has_line n value ≡ true → sections_of (put k n value rest) ≡ put_section k value (sections_of rest)
sections_put k n (variants.Section s) rest h = rw (same_line s n (eqb-true s.line n h))
sections_put k n value rest h = refl

pub sections_are : (es : List Entry) → lines_agree es ≡ true → sections_of (values_of es) ≡ sections_in es
sections_are [] h = refl
sections_are (e ∷ es) h =
    let a = and_parts (has_line e.node.line e.node.value) (lines_agree es) h in
    sections_put e.key.now e.node.line e.node.value (values_of es) a.0 ∙ ap (put_section e.key.now e.node.value) (sections_are es a.1)
