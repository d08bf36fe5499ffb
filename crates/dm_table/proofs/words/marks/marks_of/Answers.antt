use Rattle.dm_table.proofs.Prelude.{eqb, length, ap, ◌∙◌, w8, bitmask_splat, marks_of}
use Rattle.dm_table.proofs.words.marks.marks_of.Goals as goal
use Rattle.std.specs.Prelude.{◌≡◌}

pub returns : goal.returns
returns g c =
    let long : length c.as_array.result.now ≡ g.row.LEN = ap length c.as_array.ensures ∙ c.requires.length in
    bitmask_splat w8 eqb c.as_array.result.now g.row.LEN c.args.of long c.requires.few ∙ ap (marks_of c.args.of) c.as_array.ensures
