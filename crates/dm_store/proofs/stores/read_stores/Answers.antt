use Rattle.dm_store.proofs.Prelude.{ℕ, Result, Ok, get_or, length, refl, sym, ap, ◌∙◌, arith, get_or_default, get_or_past, get_or_read, length-replicate, length-set, take_all, State, Taken, none_taken, put, taken_at, none_at, StoreFault, StoreRefusal, disk_contents, start_of}
use Rattle.dm_store.proofs.StartLemmas.{InOrder, all_started, first_refused, in_order, next_later, next_started, none_before, snapshot_there}
use Rattle.dm_store.proofs.stores.read_stores.Goals as goal
use Rattle.std.specs.Prelude.{◌≡◌}

pub loop-next-init : goal.loop-next-init
loop-next-init g c =
    let stack = c.args.stack.now in let devices = c.snapshots-snapshots.result.now in
    let order : InOrder stack devices = in_order stack devices c.snapshots-snapshots.ensures.ids c.snapshots-snapshots.ensures.all in
    let none : (device : ℕ) → taken_at c.args.mapper.now.state device ≡ none_taken = λ device. ap (λ (s : State). taken_at s device) c.requires.fresh ∙ none_at (length stack.devices) device in
    record {
      stack = refl;
      failed = refl;
      count = ap (λ (s : State). length s) c.requires.fresh ∙ length-replicate (length stack.devices) none_taken;
      later = λ device from. none device;
      still = λ held seen. seen;
      started = λ held seen device below. none_before stack (disk_contents c.args.places.now held) devices order device below ∙ ap (λ (t : Taken). let r : Result Taken StoreFault = Ok t in r) (sym (none device));
    }

pub loop-next-preserved : goal.loop-next-preserved
loop-next-preserved g c =
    let stack = c.args.stack.now in let devices = c.snapshots-snapshots.result.now in let loop = c.loop-next in let snapshot = c.index-snapshots-next.result in
    let order : InOrder stack devices = in_order stack devices c.snapshots-snapshots.ensures.ids c.snapshots-snapshots.ensures.all in
    let is : get_or devices loop.next 0 ≡ snapshot = sym (get_or_read devices loop.next snapshot c.loop-next-test.true c.index-snapshots-next.is 0) in
    let new = c.read_snapshot.new.mapper.state in
    let changed : new ≡ put loop.mapper.state snapshot (taken_at new snapshot) = c.in_default.ensures.state in
    record {
      stack = c.read_snapshot.ensures.stack ∙ loop.invariant.stack;
      failed = c.read_snapshot.ensures.failed ∙ loop.invariant.failed;
      count = ap (λ (s : State). length s) changed ∙ length-set loop.mapper.state snapshot (taken_at new snapshot) ∙ loop.invariant.count;
      later = next_later stack devices loop.next snapshot loop.mapper.state new order c.loop-next-test.true is loop.invariant.later changed;
      still = λ held seen. loop.invariant.still held (c.read_snapshot.ensures.still held seen);
      started = λ held seen. next_started stack (disk_contents c.args.places.now held) devices loop.next snapshot loop.mapper.state new order c.loop-next-test.true is
          (loop.invariant.started held (c.read_snapshot.ensures.still held seen)) loop.invariant.later changed (sym (c.in_default.ensures.stored held seen));
    }

pub returns-in-Err-clause-stored : goal.returns-in-Err-clause-stored
returns-in-Err-clause-stored g c = λ held seen.
    let stack = c.args.stack.now in let devices = c.snapshots-snapshots.result.now in let loop = c.loop-next in let snapshot = c.index-snapshots-next.result in
    let order : InOrder stack devices = in_order stack devices c.snapshots-snapshots.ensures.ids c.snapshots-snapshots.ensures.all in
    let is : get_or devices loop.next 0 ≡ snapshot = sym (get_or_read devices loop.next snapshot c.loop-next-test.true c.index-snapshots-next.is 0) in
    let edge : get_or devices loop.next (length stack.devices) ≡ snapshot = get_or_default devices loop.next (length stack.devices) 0 c.loop-next-test.true ∙ is in
    let there = snapshot_there stack devices loop.next order c.loop-next-test.true in
    sym (first_refused (start_of stack (disk_contents c.args.places.now held)) loop.mapper.state snapshot (length stack.devices) c.in-Err.fault (omega (arith, there, is)) (omega (arith, there, is, loop.invariant.count))
    (λ device less. loop.invariant.started held (c.read_snapshot.ensures.still held seen) device (omega (arith, less, edge)))
    (sym (c.in-Err.ensures.stored held seen)))

pub returns-clause-stored : goal.returns-clause-stored
returns-clause-stored g c = λ held seen.
    let stack = c.args.stack.now in let devices = c.snapshots-snapshots.result.now in let loop = c.loop-next in let count : ℕ = length stack.devices in
    let end : get_or devices loop.next count ≡ count = get_or_past devices loop.next count (omega (arith, c.loop-next-test.false)) in
    ap (λ (s : State). let r : Result State StoreRefusal = Ok s in r) (sym (take_all count loop.mapper.state (omega (arith, loop.invariant.count))))
    ∙ sym (all_started (start_of stack (disk_contents c.args.places.now held)) loop.mapper.state count (omega (arith, loop.invariant.count)) (λ device less. loop.invariant.started held seen device (omega (arith, less, end))))
