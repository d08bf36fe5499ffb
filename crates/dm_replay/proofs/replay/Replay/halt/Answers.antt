use Rattle.dm_replay.proofs.Prelude.{ℕ, false, List, Some, ap, sym, ◌∙◌, position, IsTop, is_same, State, start_state, HasTop, Replaying, rerun_from, with_request}
use Rattle.dm_replay.proofs.NamedLemmas.{named_id, named_there}
use Rattle.dm_replay.proofs.WorldLemmas.{are_whole, few_whole, going_halted, is_kept, kept_more, next_start, write_of}
use Rattle.dm_replay.proofs.replay.Replay.halt.Goals as goal
use Rattle.std.specs.Prelude.{◌≡◌}

-- a replay that ran out of memory while halting: it had not failed, and a top device has the name
spent : (inside old : Replaying) (name : List ℕ) (device : ℕ) → inside ≡ old → inside.failed ≡ false → position (λ other. is_same other.name name) inside.stack.devices ≡ Some device → IsTop inside.stack device
    → (old.failed ≡ false) × HasTop old.stack name
spent inside old name device is going named top =
    (rw (← is) going, rw (← is) (record { id = device; named = named; top = top }))

pub returns-in_default-play_front-clause-fault : goal.returns-in_default-play_front-clause-fault
returns-in_default-play_front-clause-fault g c =
    spent _ _ c.args.request.now.device.now c.in-Some.device c.self.view_is c.if-failed.false c.in-Some.ensures.some.0 c.in-Some.ensures.some.1

pub returns-in_default-keep-clause-fault : goal.returns-in_default-keep-clause-fault
returns-in_default-keep-clause-fault g c =
    spent _ _ c.args.request.now.device.now c.in-Some.device c.self.view_is c.if-failed.false c.in-Some.ensures.some.0 c.in-Some.ensures.some.1

pub returns-in_default-rerun-clause-fault : goal.returns-in_default-rerun-clause-fault
returns-in_default-rerun-clause-fault g c =
    spent _ _ c.args.request.now.device.now c.in-Some.device c.self.view_is c.if-failed.false c.in-Some.ensures.some.0 c.in-Some.ensures.some.1

pub whole_sectors-whole-requires-clause-next : goal.whole_sectors-whole-requires-clause-next
whole_sectors-whole-requires-clause-next g c =
    let inside = c.self.inside in
    λ fits. next_start inside.stack.now inside.mapper c.args.request.now c.in-Some.device c.args.units c.in-Ok.player.playing.next (c.self.invariant.going c.if-failed.false).mapper_stack c.in-Ok.ensures.next fits

pub rerun-requires : goal.rerun-requires
rerun-requires g c =
    let inside = c.self.inside in let request = c.args.request.now in let device = c.in-Some.device in let going = c.self.invariant.going c.if-failed.false in
    let size = c.whole_sectors-whole.result in
    let few = few_whole inside.stack.now inside.start inside.mapper inside.asked request device c.args.units c.requests_are_alone.ensures
    c.self.invariant.tidy c.self.invariant.fits going.asked_are c.in-Some.ensures.some.1 going.mapper_stack going.state_is in
    let whole = are_whole inside.stack.now inside.mapper request device c.args.units c.in-Ok.player.playing.next size going.mapper_stack c.in-Ok.ensures.next few c.whole_sectors-whole.ensures in
    let one = is_kept inside.stack.now request device size (named_there inside.stack.now request.device.now device c.in-Some.ensures.some.0) c.in-Some.ensures.some.1 whole.few in
    rw (c.deref.ensures.value ∙ c.in-Ok-keep.ensures) (kept_more inside.stack.now request.op (write_of request device size) inside.writes.items one going.kept_are)

pub invariant_of-result : goal.invariant_of-result
invariant_of-result g c =
    let inside = c.self.inside in let request = c.args.request.now in let device = c.in-Some.device in let did = c.in-Ok.ensures in let going = c.self.invariant.going c.if-failed.false in
    let size = c.whole_sectors-whole.result in let player = c.in-Ok.player in let again = c.in-Ok-rerun.ensures in
    let few = few_whole inside.stack.now inside.start inside.mapper inside.asked request device c.args.units c.requests_are_alone.ensures
    c.self.invariant.tidy c.self.invariant.fits going.asked_are c.in-Some.ensures.some.1 going.mapper_stack going.state_is in
    let whole = are_whole inside.stack.now inside.mapper request device c.args.units player.playing.next size going.mapper_stack did.next few c.whole_sectors-whole.ensures in
    let one = is_kept inside.stack.now request device size (named_there inside.stack.now request.device.now device c.in-Some.ensures.some.0) c.in-Some.ensures.some.1 whole.few in
    let fresh = rw (← c.self.view_is) at c.requires in
    record {
      tidy = c.self.invariant.tidy;
      tops_are = c.self.invariant.tops_are;
      fits = c.self.invariant.fits;
      going = λ _. rw (c.add.ensures, c.in-Ok-keep.ensures) (going_halted inside.stack.now inside.player.stack.now player.stack.now inside.start inside.mapper c.in-Ok-rerun.mapper inside.player.playing.values.disks.items player.playing.values.disks.items inside.asked inside.writes.items request device c.args.units size
          one going again.going again.stack did.played.stack
          (again.state ∙ ap (rerun_from inside.stack.now (start_state inside.stack.now)) (c.deref.ensures.value ∙ c.in-Ok-keep.ensures) ∙ ap (λ (start : State). rerun_from inside.stack.now start (with_request request.op (write_of request device size) inside.writes.items)) (sym fresh)) did.played.values did.played.disks whole);
    }

pub returns-clause-asked : goal.returns-clause-asked
returns-clause-asked g c =
    let inside = c.self.inside in let request = c.args.request.now in
    rw (← c.self.view_is, ← named_id inside.stack.now request.device.now c.in-Some.device c.in-Some.ensures.some.0) c.add.ensures

pub returns-clause-top : goal.returns-clause-top
returns-clause-top g c =
    let found = c.in-Some.ensures.some in
    rw (← c.self.view_is) (record { id = c.in-Some.device; named = found.0; top = found.1 })
