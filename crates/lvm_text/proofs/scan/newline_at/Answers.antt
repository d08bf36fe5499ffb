use Rattle.lvm_text.proofs.Searches.{line_first}
use Rattle.lvm_text.proofs.scan.newline_at.Goals as goal

pub returns : goal.returns
returns c = line_first c.args.bytes.now c.memchr.result c.memchr.ensures
