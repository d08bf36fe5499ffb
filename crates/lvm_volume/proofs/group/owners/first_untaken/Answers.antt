use Rattle.lvm_volume.proofs.Prelude.{Some, None, map, sym, ap₂, ◌∙◌, arith, drop_more, item_view, disk_fault, owners_view}
use Rattle.lvm_volume.proofs.group.OwnersLemmas.{untaken_end, untaken_next}
use Rattle.lvm_volume.proofs.group.owners.first_untaken.Goals as goal

pub returns-in-Some : goal.returns-in-Some
returns-in-Some c =
    sym (c.loop-disk.invariant ∙ untaken_next (map item_view c.args.physicals.now) (owners_view c.args.owners.now).names c.args.owners.now.ids.now c.loop-disk.disk _ (Some c.in-Some.fault)
    (drop_more c.args.owners.now.ids.now c.loop-disk.disk _ (omega (arith, c.loop-disk-test.true)))
    (ap₂ disk_fault (sym c.name_of-name.ensures) (sym c.section_of.ensures) ∙ sym c.disk_fault.ensures ∙ c.in-Some.is))

pub loop-disk-preserved : goal.loop-disk-preserved
loop-disk-preserved c =
    c.loop-disk.invariant ∙ untaken_next (map item_view c.args.physicals.now) (owners_view c.args.owners.now).names c.args.owners.now.ids.now c.loop-disk.disk _ None
    (drop_more c.args.owners.now.ids.now c.loop-disk.disk _ (omega (arith, c.loop-disk-test.true)))
    (ap₂ disk_fault (sym c.name_of-name.ensures) (sym c.section_of.ensures) ∙ sym c.disk_fault.ensures ∙ c.in-None.is)

pub returns : goal.returns
returns c = sym (c.loop-disk.invariant ∙ untaken_end (map item_view c.args.physicals.now) (owners_view c.args.owners.now).names c.args.owners.now.ids.now c.loop-disk.disk (omega (arith, c.loop-disk-test.false)))
