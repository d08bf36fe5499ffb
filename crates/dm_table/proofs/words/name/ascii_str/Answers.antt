-- ASCII is UTF-8.
use Rattle.dm_table.proofs.Prelude.{IsUtf8-from_ascii}
use Rattle.dm_table.proofs.words.name.ascii_str.Goals as goal

pub from_utf8_unchecked-requires : goal.from_utf8_unchecked-requires
from_utf8_unchecked-requires c = IsUtf8-from_ascii c.args.bytes.now c.requires
