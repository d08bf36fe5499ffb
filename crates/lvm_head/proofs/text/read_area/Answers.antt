use Rattle.lvm_head.proofs.Prelude.{◌∙◌, sym, ap, subst, Returns, text_at}
use Rattle.lvm_head.proofs.TextLemmas.{area_known}
use Rattle.lvm_head.proofs.text.read_area.Goals as goal

pub returns-clause-still : goal.returns-clause-still
returns-clause-still g c = λ held seen. c.read_sector.ensures.still held (c.read_text.ensures.still held seen)

pub returns-clause-is : goal.returns-clause-is
returns-clause-is g c = λ held seen.
    let known = area_known (held c.args.disk) c.args.area c.read_sector.new.into (sym c.is_near.ensures.is ∙ c.if-not-is_near.false) (c.in_default.ensures.is held (c.read_text.ensures.still held seen)) (sym c.is_header.ensures.is ∙ c.if-not-is_header.false) in
    let there = known ∙ ap (text_at (held c.args.disk) c.args.area.start) (sym c.location_in.ensures) in
    subst (Returns (λ text. text.items) c.read_text.result) (sym there) (c.read_text.ensures.is held seen)
