use Rattle.lvm_volume.proofs.MetadataLemmas.{named_group, refused_group}
use Rattle.lvm_volume.proofs.metadata.group_tables.Goals as goal

pub returns-in-Ok : goal.returns-in-Ok
returns-in-Ok c = rw (← named_group c.args.top.now c.in-Ok.group c.in-Ok.ensures) c.tables.ensures

pub returns-in-Err : goal.returns-in-Err
returns-in-Err c = (c.in-Err.ensures.0, λ not_memory. refused_group c.args.top.now c.in-Err.fault (c.in-Err.ensures.1 not_memory))
