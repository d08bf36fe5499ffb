-- The keys inside a value that occur twice in their section.
use Rattle.lvm_text.specs.Base.{ℕ, List, []}
use Rattle.lvm_text.specs.Checks.{twice_lines}
use Rattle.lvm_text.specs.declared.tree.Value.{Value}
use Rattle.lvm_text.specs.declared.tree.Value.TheVariants as variants

-- the lines of keys inside a value that equal an earlier key of their own section; none if the value isn't a section
abbrev pub inner_lines : Value → List ℕ
inner_lines (variants.Section s) = twice_lines [] s.values
inner_lines _ = []
