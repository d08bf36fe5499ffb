use Rattle.dm_table.proofs.Prelude.{false, refl, false_from_ne_true, is_utf8, is_utf8-from_IsUtf8, IsUtf8-from_is_utf8}
use Rattle.dm_table.proofs.tables.path_list.extent_of.Goals as goal
use Rattle.std.specs.Prelude.{◌≡◌}

pub returns-in_default : goal.returns-in_default
returns-in_default c =
    let no : is_utf8 c.args.file.now ≡ false = false_from_ne_true _ (λ t. c.in_default.ensures.cases.0 (IsUtf8-from_is_utf8 c.args.file.now t)) in
    rw no refl

pub returns-in-Some : goal.returns-in-Some
returns-in-Some c = rw (c.in-Ok.ensures.cases.0, is_utf8-from_IsUtf8 c.args.file.now c.in-Ok.ensures.cases.1, c.in-Some.is) refl
