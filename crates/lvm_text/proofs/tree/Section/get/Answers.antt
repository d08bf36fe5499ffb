use Rattle.lvm_text.proofs.Prelude.{sym, ap, subst, ◌∙◌, arith, Finds, position_of}
use Rattle.lvm_text.proofs.KeyPositions.{stands_at, absent}
use Rattle.lvm_text.proofs.tree.Section.get.Goals as goal

pub position_of-requires : goal.position_of-requires
position_of-requires c = subst (Finds c.self.inside.index) (sym c.as_slice.ensures.value) c.self.invariant.finds

pub returns-in_err-at : goal.returns-in_err-at
returns-in_err-at c =
    rw (c.from_residual.ensures, ← c.self.view_is) (sym (absent c.self.inside.entries.items c.args.key.now 0 c.self.invariant.lines (ap (position_of c.args.key.now 0) (sym c.as_slice.ensures.value) ∙ sym c.in_err-at.ensures)))

pub index-requires : goal.index-requires
index-requires c =
    let s = stands_at c.self.inside.entries.items c.args.key.now c.in_ok-at.at c.self.invariant.lines (ap (position_of c.args.key.now 0) (sym c.as_slice.ensures.value) ∙ sym c.in_ok-at.ensures) in
    omega (arith, s.0, c.self.inside.entries.ok.0)

pub returns : goal.returns
returns c =
    let s = stands_at c.self.inside.entries.items c.args.key.now c.in_ok-at.at c.self.invariant.lines (ap (position_of c.args.key.now 0) (sym c.as_slice.ensures.value) ∙ sym c.in_ok-at.ensures) in
    rw (c.index.ensures, ← c.self.view_is) (sym (s.1 c.index.result.now))
