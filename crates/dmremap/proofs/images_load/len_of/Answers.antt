use Rattle.dmremap.proofs.Prelude.{sym, ◌∙◌}
use Rattle.dmremap.proofs.ImagesLemmas.{position_below}
use Rattle.dmremap.proofs.images_load.len_of.Goals as goal

pub disk_len-requires : goal.disk_len-requires
disk_len-requires c = position_below _ c.args.stack.now.disks c.in-Some.disk (sym c.disk.ensures ∙ c.in-Some.is)
