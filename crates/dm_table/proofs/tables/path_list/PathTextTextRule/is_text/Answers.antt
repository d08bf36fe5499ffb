use Rattle.dm_table.proofs.Prelude.{true, false, sym, ◌∙◌, is_utf8}
use Rattle.dm_table.proofs.tables.PathPlaces.{told_utf8}
use Rattle.dm_table.proofs.words.FieldLemmas.{lacks-searched}
use Rattle.dm_table.proofs.tables.path_list.PathTextTextRule.is_text.Goals as goal
use Rattle.std.specs.Prelude.{◌≡◌}

pub returns-then-is_ok : goal.returns-then-is_ok
returns-then-is_ok c =
    let utf8 : is_utf8 c.args.piece.now ≡ true = sym (told_utf8 c.from_utf8.result c.args.piece.now _ _ c.from_utf8.ensures.cases) ∙ sym c.is_ok.ensures.value ∙ c.if-is_ok.true in
    rw utf8 (lacks-searched 0 c.args.piece.now c.memchr.result c.is_none.result c.memchr.ensures (sym c.is_none.ensures))

pub returns-else-is_ok : goal.returns-else-is_ok
returns-else-is_ok c =
    let utf8 : is_utf8 c.args.piece.now ≡ false = sym (told_utf8 c.from_utf8.result c.args.piece.now _ _ c.from_utf8.ensures.cases) ∙ sym c.is_ok.ensures.value ∙ c.if-is_ok.false in
    rw utf8 c.if-is_ok.false
