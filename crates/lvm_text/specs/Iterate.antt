-- What an iterator over a section's inner sections returns, and what it has still to return.
use Rattle.lvm_text.specs.Base.{ℕ, List, drop}
use Rattle.lvm_text.specs.Tree.{Tree}
use Rattle.lvm_text.specs.View.{sections_in}
use Rattle.lvm_text.specs.declared.tree.Section.{Section}
use Rattle.lvm_text.specs.declared.lookup.Sections.{Sections}
use denote.Ref.{Bor}

-- a pair of a key and its section that the iterator returns, as contracts see it
abbrev pub item_view : Bor (List ℕ) × Bor Section → List ℕ × Tree
item_view item = (item.0.now, item.1.now)

-- the keys and sections that the iterator has still to return, in source order
abbrev pub sections_left : Sections → List (List ℕ × Tree)
sections_left s = sections_in (drop s.at s.entries.now)
