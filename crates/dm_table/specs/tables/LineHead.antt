-- The text of a line's body in two parts: a head of limited length, and the columns of a striped target.
use Rattle.dm_table.specs.Base.{ℕ, List, [], length, codes, decimal}
use Rattle.dm_table.specs.declared.tables.table.Column.{Column}
use Rattle.dm_table.specs.declared.tables.table.Line.{Line}
use Rattle.dm_table.specs.declared.tables.table.Target.{Target}
use Rattle.dm_table.specs.declared.tables.table.Target.TheVariants.{Striped}
use Rattle.dm_table.specs.tables.LineBody.{target_text}
use Rattle.dm_table.specs.words.Bytes.{code}
use Rattle.std.specs.Prelude.{◌∷◌, ◌++◌}

-- the text for a target without its columns
abbrev pub target_head : Target → List ℕ
target_head (Striped chunk columns) = codes "striped " ++ decimal (length columns) ++ code " " ∷ decimal chunk
target_head target = target_text target

-- the columns of a striped target, or none for any other target
abbrev pub columns_of : Target → List Column
columns_of (Striped chunk columns) = columns
columns_of _ = []

-- the text for the body of a line, without the columns
abbrev pub body_head : Line → List ℕ
body_head line = decimal line.start ++ code " " ∷ decimal line.len ++ code " " ∷ target_head line.target
