-- A device visited before changes nothing; any other is marked and waits.
use Rattle.dm_stack.proofs.Prelude.{length, get_or, arith, Contains-get_or}
use Rattle.dm_stack.proofs.checks.SearchLemmas.{Visits-skip, Visits-push}
use Rattle.dm_stack.proofs.checks.graph.visit.Goals as goal
use Rattle.dm_stack.proofs.checks.graph.visit.Goals.{then-not-visited-device+in_ok-push, else-not-visited-device}
use Rattle.std.specs.Prelude.{◌<◌}

pub bounds-visited-device : goal.bounds-visited-device
bounds-visited-device c = omega (arith, c.requires (get_or c.args.named.now c.loop-device.device-index 0) (Contains-get_or c.args.named.now c.loop-device.device-index 0 c.loop-device-test.true))

pub bounds-visited-device-then-not-visited-device : goal.bounds-visited-device-then-not-visited-device
bounds-visited-device-then-not-visited-device c = omega (arith, c.requires (get_or c.args.named.now c.loop-device.device-index 0) (Contains-get_or c.args.named.now c.loop-device.device-index 0 c.loop-device-test.true))

pub loop-device-preserved : goal.loop-device-preserved
loop-device-preserved c =
    let named = c.args.named.now in
    let index = c.loop-device.device-index in
    elim c.if-not-visited-device.branch [
      | then-not-visited-device+in_ok-push w ↦
          let inside : get_or named index 0 < length c.loop-device.visited = omega (arith, c.requires (get_or named index 0) (Contains-get_or named index 0 c.loop-device-test.true)) in
          Visits-push named index c.args.visited.now c.loop-device.visited c.if-not-visited-device.visited c.args.waiting.now.items c.loop-device.waiting.items c.if-not-visited-device.waiting.items c.loop-device-test.true c.loop-device.invariant inside w.if-not-visited-device.true w.visited-is (
          rw w.waiting-is w.in_ok-push.ensures.items
          )
      | else-not-visited-device w ↦
          Visits-skip named index c.args.visited.now c.loop-device.visited c.if-not-visited-device.visited c.args.waiting.now.items c.loop-device.waiting.items c.if-not-visited-device.waiting.items c.loop-device-test.true c.loop-device.invariant w.if-not-visited-device.false w.visited-is (
          cc
          )
    ]
