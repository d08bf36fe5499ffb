-- The invariant of sections.
use Rattle.lvm_text.specs.Prelude.{ℕ, true, List, [], BTreeMap, twice_lines, values_of, lines_agree, Finds, Entry}
use Rattle.std.specs.Prelude.{◌≡◌}
use denote.Ref.{Bor}

-- a section with these entries is valid: the index agrees with the entries, and no key occurs twice in the section or in a section inside it
pub record IsSection (es : List Entry) (index : BTreeMap (Bor (List ℕ)) ℕ) : Type 0 where
  pub lines : lines_agree es ≡ true
  pub finds : Finds index es
  pub differ : twice_lines [] (values_of es) ≡ []
