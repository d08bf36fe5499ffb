use Rattle.dm_stream.proofs.Prelude.{Some, ap, length, length-drop, arith, take_rest, All-push, All-same, device_of, Front}
use Rattle.dm_stream.proofs.requests.Batches.{one_more}
use Rattle.dm_stream.proofs.requests.batch.read_fronts.Goals as goal
use Rattle.std.specs.Prelude.{◌≡◌}

pub fronts-preserved : goal.fronts-preserved
fronts-preserved c =
    let so_far = c.fronts.invariant in
    let front = c.in-Some.front in
    let is = c.in-Some.ensures in
    let held = c.args.held.now in
    let IsFound = λ (front : Front). device_of c.args.stack.now front.request.device.now ≡ Some front.device in
    record {
      first = one_more c.args.done held _ c.fronts.len c.len-in-fronts.result c.fronts.fronts.items c.push.new.self.items front so_far.first (take_rest held c.fronts.len) c.len-in-fronts.ensures.value is.within is.short is.line is.good c.push.ensures.items;
      within = omega (arith, length-drop c.fronts.len held, ap length (take_rest held c.fronts.len), is.within);
      few = omega (arith, is.few, c.push.ensures.len);
      fits = omega (arith, c.fronts-test.true, c.push.ensures.len);
      found = All-same IsFound c.push.new.self.items _ c.push.ensures.items (All-push IsFound c.fronts.fronts.items front so_far.found is.device);
    }
