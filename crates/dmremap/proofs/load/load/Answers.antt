use Rattle.dmremap.proofs.Prelude.{inl, sym, ◌∙◌, ap, err_from_is_err_and, delivery, TextOf, disk_checks, delivery_if, RefusedBy, device_checks}
use Rattle.dmremap.proofs.LoadLemmas.{by_metadata, by_texts, first_after, first_before}
use Rattle.dmremap.proofs.load.load.Goals as goal

pub returns-in_err-devices-in-Lvm-clause-gives : goal.returns-in_err-devices-in-Lvm-clause-gives
returns-in_err-devices-in-Lvm-clause-gives g c =
    let p = err_from_is_err_and c.from_residual-in_err-devices-in-Lvm.result c.from_residual-in_err-devices-in-Lvm.ensures.1 in
    let source = delivery (g.S.Input.past c.args.source.now) (g.S.Input.past c.read_part.new.input) in
    let disks = delivery_if g.D.Input.past c.args.disks.now c.args.disks.now in
    let fault = c.in_err-devices-in-Lvm.field-0.0 in
    rw (c.in-Lvm.is, p.1, p.2)
    (record { sound = tt; refused = λ not_memory. by_metadata source disks c.deref.result.now (RefusedBy fault) (c.in_ok-text.ensures.text ∙ ap TextOf (sym c.deref.ensures.value)) (inl (c.in_err-devices-in-Lvm.ensures.refused not_memory)) })

pub returns-in_err-devices-in-Tables-clause-gives : goal.returns-in_err-devices-in-Tables-clause-gives
returns-in_err-devices-in-Tables-clause-gives g c =
    let p = err_from_is_err_and c.from_residual-in_err-devices-in-Tables.result c.from_residual-in_err-devices-in-Tables.ensures.1 in
    let source = delivery (g.S.Input.past c.args.source.now) (g.S.Input.past c.read_part.new.input) in
    let disks = delivery_if g.D.Input.past c.args.disks.now c.read_disks.new.disks in
    let form = c.in-Tables.form in let text = c.deref-in-Tables.result.now in let list = c.in_ok-list-in-Tables.list.items in
    let fault = c.in_err-devices-in-Tables.field-0.0 in
    rw (c.in-Tables.is, p.1, p.2)
    (record {
      sound = tt;
      refused = λ not_memory. by_texts form source disks text list (RefusedBy fault) (c.in_ok-text.ensures.text ∙ ap TextOf (sym c.deref-in-Tables.ensures.value)) c.in_ok-list-in-Tables.ensures.text
          (inl (first_before (device_checks form text) (disk_checks list) fault (c.in_err-devices-in-Tables.ensures.refused not_memory)));
    })

pub returns-in_err-disks-in-Tables-clause-gives : goal.returns-in_err-disks-in-Tables-clause-gives
returns-in_err-disks-in-Tables-clause-gives g c =
    let p = err_from_is_err_and c.from_residual-in_err-disks-in-Tables.result c.from_residual-in_err-disks-in-Tables.ensures.1 in
    let source = delivery (g.S.Input.past c.args.source.now) (g.S.Input.past c.read_part.new.input) in
    let disks = delivery_if g.D.Input.past c.args.disks.now c.read_disks.new.disks in
    let form = c.in-Tables.form in let text = c.deref-in-Tables.result.now in let list = c.deref-in-Tables-2.result.now in
    let fault = c.in_err-disks-in-Tables.field-0.0 in
    rw (c.in-Tables.is, p.1, p.2)
    (record {
      sound = tt;
      refused = λ not_memory. by_texts form source disks text list (RefusedBy fault) (c.in_ok-text.ensures.text ∙ ap TextOf (sym c.deref-in-Tables.ensures.value)) (c.in_ok-list-in-Tables.ensures.text ∙ ap TextOf (sym c.deref-in-Tables-2.ensures.value))
          (inl (first_after (device_checks form text) (disk_checks list) fault c.in_ok-devices-in-Tables.ensures.sound (c.in_err-disks-in-Tables.ensures.fault not_memory)));
    })
