-- The values, entries and sections of the code, as contracts see them.
use Rattle.lvm_text.specs.Base.{ℕ, Bool, true, List, [], map, Scalar}
use Rattle.lvm_text.specs.Tree as tree
use Rattle.lvm_text.specs.Tree.{Values, Tree, Nothing, Single, Several, Content, Inner, Whole, Items, Shown}
use Rattle.lvm_text.specs.declared.tree.Scalar.TheVariants as scalars
use Rattle.lvm_text.specs.declared.tree.Value.{Value}
use Rattle.lvm_text.specs.declared.tree.Value.TheVariants as variants
use Rattle.lvm_text.specs.declared.tree.Node.{Node}
use Rattle.lvm_text.specs.declared.tree.Entry.{Entry}
use Rattle.std.specs.Prelude.{◌&&◌, ◌==◌, ◌∷◌}

-- a scalar as contracts see it
abbrev pub scalar_view : Scalar → tree.Scalar
scalar_view (scalars.Int n) = tree.Int n
scalar_view (scalars.Text t) = tree.Text t.now

-- the scalars of a list, as contracts see them
abbrev pub scalar_views : List Scalar → List tree.Scalar
scalar_views = map scalar_view

-- the values `rest` with one more value, its key and the key's line in front
abbrev pub put : List ℕ → ℕ → Value → Values → Values
put key line (variants.Section s) rest = tree.Section key line s.values rest
put key line (variants.Int n) rest = Single key line (tree.Int n) rest
put key line (variants.Text t) rest = Single key line (tree.Text t.now) rest
put key line (variants.List v) rest = Several key line (scalar_views v.items) rest

-- the values of a section's entries, as contracts see them
abbrev pub values_of : List Entry → Values
values_of [] = Nothing
values_of (e ∷ es) = put e.key.now e.node.line e.node.value (values_of es)

-- if the value is a section, its line is the line of its key
abbrev pub has_line : ℕ → Value → Bool
has_line line (variants.Section s) = s.line == line
has_line line _ = true

-- the line of each section among the entries is the line of its key
abbrev pub lines_agree : List Entry → Bool
lines_agree [] = true
lines_agree (e ∷ es) = has_line e.node.line e.node.value && lines_agree es

-- the content of a value, as contracts see it
abbrev pub content_view : Value → Content
content_view (variants.Section s) = Inner s
content_view (variants.Int n) = Whole (tree.Int n)
content_view (variants.Text t) = Whole (tree.Text t.now)
content_view (variants.List v) = Items (scalar_views v.items)

-- a value and the line of its key, as contracts see them
abbrev pub node_view : Node → Shown
node_view n = record { line = n.line; content = content_view n.value }

-- the list `later` with a key and the section that the key holds in front, or `later` alone if the key doesn't hold a section
abbrev pub put_section : List ℕ → Value → List (List ℕ × Tree) → List (List ℕ × Tree)
put_section key (variants.Section s) later = (key, s) ∷ later
put_section key _ later = later

-- the keys of entries that hold sections, each with its section, in the order of the entries
abbrev pub sections_in : List Entry → List (List ℕ × Tree)
sections_in [] = []
sections_in (e ∷ es) = put_section e.key.now e.node.value (sections_in es)
