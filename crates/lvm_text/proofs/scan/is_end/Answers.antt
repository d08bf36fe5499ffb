use Rattle.lvm_text.proofs.Searches.{is_end_comment}
use Rattle.lvm_text.proofs.scan.is_end.Goals as goal

pub returns-then-bytes-eq35 : goal.returns-then-bytes-eq35
returns-then-bytes-eq35 c = is_end_comment c.args.bytes.now c.newline_at.result c.is_none.result c.if-is_empty.ensures c.if-bytes-eq35.true c.newline_at.ensures c.is_none.ensures
