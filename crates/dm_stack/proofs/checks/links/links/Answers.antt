use Rattle.dm_stack.proofs.Prelude.{take_all}
use Rattle.dm_stack.proofs.lines.SpanLemmas.{all_links}
use Rattle.dm_stack.proofs.checks.links.links.Goals as goal

pub returns : goal.returns
returns c = cc (c.loop-device.invariant, take_all c.loop-device.device-index c.by_ids-device-items.result.now c.loop-device-test.false, c.by_ids-device-items.ensures, all_links c.args.stack.now)
