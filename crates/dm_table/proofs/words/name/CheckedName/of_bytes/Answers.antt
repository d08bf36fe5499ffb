-- A name consists of ASCII bytes.
use Rattle.dm_table.proofs.words.name.CheckedName.of_bytes.Goals as goal

pub ascii_str-requires : goal.ascii_str-requires
ascii_str-requires g c = g.met.R.NameRule.ascii c.args.bytes.now c.requires
