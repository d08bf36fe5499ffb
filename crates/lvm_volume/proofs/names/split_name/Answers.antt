use Rattle.lvm_volume.proofs.Prelude.{◌∙◌, arith, Bool, true, false, Option, Some, None, refl, not, is_some, is_none, parts_view}
use Rattle.lvm_volume.proofs.Splits.{one_split, none_sliced, none_faulty, none_long, some_split}
use Rattle.lvm_volume.proofs.names.split_name.Goals as goal
use Rattle.lvm_volume.proofs.names.split_name.Goals.{else-name-le127-via-then-name-le127+else-is_none, else-name-le127-via-else-name-le127}
use Rattle.std.specs.Prelude.{◌≡◌}

none_is : {X : Type 0} (o : Option X) (b : Bool) → is_some o ≡ not b → is_none o ≡ b
none_is None false e = absurd cc
none_is (Some x) true e = absurd cc
none_is o b e = refl

pub returns-in_err-parts-clause-none : goal.returns-in_err-parts-clause-none
returns-in_err-parts-clause-none c = rw c.from_residual.ensures (none_sliced c.args.name.now c.in_err-parts.ensures)

pub returns-in_err-parts-clause-one : goal.returns-in_err-parts-clause-one
returns-in_err-parts-clause-one c = one_split c.args.name.now

pub returns-then-is_none-clause-some : goal.returns-then-is_none-clause-some
returns-then-is_none-clause-some c = some_split c.args.name.now (parts_view c.in_ok-parts.parts) c.parts_fault.result c.in_ok-parts.ensures c.parts_fault.ensures (none_is c.parts_fault.result c.is_none.result c.is_none.ensures ∙ c.if-is_none.true) c.if-name-le127.true

pub returns-then-is_none-clause-one : goal.returns-then-is_none-clause-one
returns-then-is_none-clause-one c = one_split c.args.name.now

pub returns-else-name-le127-clause-none : goal.returns-else-name-le127-clause-none
returns-else-name-le127-clause-none c = elim c.else-name-le127.branch [
  | else-name-le127-via-then-name-le127+else-is_none w ↦ none_faulty c.args.name.now (parts_view c.in_ok-parts.parts) w.parts_fault.result c.in_ok-parts.ensures w.parts_fault.ensures (none_is w.parts_fault.result w.is_none.result w.is_none.ensures ∙ w.if-is_none.false)
  | else-name-le127-via-else-name-le127 w ↦ none_long c.args.name.now (omega (arith, w.if-name-le127.false))
]

pub returns-else-name-le127-clause-one : goal.returns-else-name-le127-clause-one
returns-else-name-le127-clause-one c = one_split c.args.name.now
