-- A text is a device name if the name at its front is all of it.
use Rattle.dm_table.proofs.Prelude.{sym}
use Rattle.dm_table.proofs.words.ByteLemmas.{device_name_whole, device_name_first}
use Rattle.dm_table.proofs.words.device_name.is_device_name.Goals as goal

pub returns-in-Some : goal.returns-in-Some
returns-in-Some c = device_name_whole c.args.bytes.now c.in-Some.len c.in-Some.ensures.len c.in-Some.ensures.name

pub returns-in-None : goal.returns-in-None
returns-in-None c = sym (device_name_first c.args.bytes.now c.in-None.ensures.other)
