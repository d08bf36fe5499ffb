use Rattle.dm_stack.proofs.Prelude.{true, length, sym, ap, subst, ◌∙◌, arith, AllPairs, take_all, get_or_from_slice_get, NeverMeet, IsFirstClash, is_tidy_to}
use Rattle.dm_stack.proofs.claims.TidyLemmas.{first_is, order_length, counted_kept, tidy_below}
use Rattle.dm_stack.proofs.SoundLines.{there}
use Rattle.dm_stack.proofs.claims.tidy.first_clash.Goals as goal
use Rattle.std.specs.Prelude.{◌≡◌, ◌<◌, ◌+◌}

pub is_tidy_to-requires-clause-counted : goal.is_tidy_to-requires-clause-counted
is_tidy_to-requires-clause-counted c =
    rw c.deref.ensures.value (counted_kept c.args.devices c.args.disks c.args.claims.now c.in_ok-order.order.items c.in_ok-order.ensures.same c.requires)

pub returns-then-branch : goal.returns-then-branch
returns-then-branch c =
    let claims = c.args.claims.now in
    let tidy : is_tidy_to (length claims) c.in_ok-order.order.items ≡ true =
    ap (is_tidy_to (length claims)) (sym c.deref.ensures.value) ∙ sym c.in_ok-is_tidy_to.ensures ∙ c.if-branch.true in
    subst (AllPairs NeverMeet) (take_all (length claims) claims (omega arith)) (tidy_below (length claims) claims c.in_ok-order.order.items c.in_ok-order.ensures.same tidy)

pub tidy_len-requires-clause-counted : goal.tidy_len-requires-clause-counted
tidy_len-requires-clause-counted c =
    rw c.deref-2.ensures.value (counted_kept c.args.devices c.args.disks c.args.claims.now c.in_ok-order.order.items c.in_ok-order.ensures.same c.requires)

pub tidy_len-requires-clause-clash : goal.tidy_len-requires-clause-clash
tidy_len-requires-clause-clash c =
    let claims = c.args.claims.now in
    let order = c.in_ok-order.order.items in
    rw (c.deref-2.ensures.value, order_length claims order c.in_ok-order.ensures.same, ← c.deref.ensures.value, ← c.in_ok-is_tidy_to.ensures) c.if-branch.false

pub clash_at-requires : goal.clash_at-requires
clash_at-requires c =
    omega (arith, c.in_ok-tidy.ensures.within, ap length c.deref-2.ensures.value, order_length c.args.claims.now c.in_ok-order.order.items c.in_ok-order.ensures.same)

pub returns : goal.returns
returns c =
    let claims = c.args.claims.now in
    let order = c.in_ok-order.order.items in
    let index = c.in_ok-tidy.tidy in
    let within : index < length claims =
    omega (arith, c.in_ok-tidy.ensures.within, ap length c.deref-2.ensures.value, order_length claims order c.in_ok-order.ensures.same) in
    let later = there claims index within in
    subst (IsFirstClash claims) (sym (c.clash_at.ensures later.it later.at))
    (first_is claims order index later.it c.in_ok-order.ensures.same within (sym (get_or_from_slice_get claims index later.it later.it later.at))
    (ap (is_tidy_to index) (sym c.deref-2.ensures.value) ∙ c.in_ok-tidy.ensures.tidy) (ap (is_tidy_to (index + 1)) (sym c.deref-2.ensures.value) ∙ c.in_ok-tidy.ensures.next))
