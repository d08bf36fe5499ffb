use Rattle.dm_store.proofs.Prelude.{ℕ, None, List, [], is_some, length, length-append, refl, sym, ap, subst, ◌∙◌, arith, set-get_or, Description, MapperView, with_looked, number_in, State, Taken, none_taken, put, taken_at, with_chunk, disk_contents, pair_count, HasRows, Walked, next_fault, told_list, store_sectors, Holds, ended, is_near, is_placed, listed, of_list}
use Rattle.dm_store.proofs.StoreLemmas.{put_more}
use Rattle.dm_store.proofs.WalkLemmas.{ended_list, full_list, no_fault_before, one_more, unread_list, walked_none}
use Rattle.dm_store.proofs.list.read_list.Goals as goal
use Rattle.std.specs.Prelude.{◌≡◌, ◌+◌, ◌<◌, ◌∷◌}

pub loop-number-init : goal.loop-number-init
loop-number-init g c =
    let state : State = c.args.mapper.now.state in
    record {
      len = refl;
      stack = refl;
      failed = refl;
      state = λ none. sym (set-get_or state c.args.device none_taken);
      valid = λ none. ap (λ (t : Taken). t.valid) c.requires.none;
      count = λ none. ap (λ (t : Taken). length t.chunks) c.requires.none;
      still = λ held seen. seen;
      rows = λ held seen i less. absurd (omega (arith, less, c.none-rows.ensures));
      walked = λ held seen. walked_none (store_sectors c.args.mapper.now.stack (disk_contents c.args.places.now held) c.args.store.now) c.args.store.now (taken_at state c.args.device).chunks (ap (λ (t : Taken). t.chunks) c.requires.none);
    }

pub returns-in-Err-clause-list : goal.returns-in-Err-clause-list
returns-in-Err-clause-list g c = λ held seen.
    let store = c.args.store.now in let disks = disk_contents c.args.places.now held in let loop = c.loop-number in
    let count : c.pair_count-number-end.result ≡ pair_count store.chunk store.len = c.pair_count-number-end.ensures.count ∙ ap (λ (n : ℕ). pair_count n store.len) c.sectors.ensures.is in
    unread_list (store_sectors loop.mapper.stack disks store) store loop.number loop.fault (taken_at loop.mapper.state c.args.device).chunks c.in-Err.unread (loop.invariant.walked held (c.read_pair.ensures.still held seen))
    (subst (λ (n : ℕ). loop.number < n) count c.loop-number-test.true) (c.in-Err.ensures.read held seen)
    ∙ ap (λ (s : Description). listed (store_sectors s disks store) store) loop.invariant.stack

pub returns-then-pair-eq0-clause-list : goal.returns-then-pair-eq0-clause-list
returns-then-pair-eq0-clause-list g c = λ held seen.
    let store = c.args.store.now in let disks = disk_contents c.args.places.now held in let loop = c.loop-number in
    let sectors = store_sectors loop.mapper.stack disks store in let chunks : List ℕ = (taken_at loop.mapper.state c.args.device).chunks in
    let before = c.end_list.ensures.still held seen in
    let stack : c.read_pair.new.mapper.stack ≡ loop.mapper.stack = ap (λ (m : MapperView). m.stack) c.read_pair.ensures.same in
    let count : c.pair_count-number-end.result ≡ pair_count store.chunk store.len = c.pair_count-number-end.ensures.count ∙ ap (λ (n : ℕ). pair_count n store.len) c.sectors.ensures.is in
    let read = c.in-Ok.ensures.read held before (loop.invariant.rows held (c.read_pair.ensures.still held before)) in
    let taken : taken_at c.end_list.new.mapper.state c.args.device ≡ taken_at loop.mapper.state c.args.device = ap (λ (m : MapperView). taken_at m.state c.args.device) (c.end_list.ensures.same ∙ ap (λ (m : MapperView). with_looked m c.end_list.new.mapper.looked) c.read_pair.ensures.same) in
    ap (λ (t : Taken). told_list c.end_list.result (Holds t.chunks)) taken
    ∙ c.end_list.ensures.ended held seen (subst (λ (s : Description). HasRows (store_sectors s disks store) store.chunk c.read_pair.new.rows c.read_pair.new.block) (sym stack) read.0) chunks
    ∙ ap (λ (s : Description). ended (store_sectors s disks store) store.chunk loop.number (of_list loop.fault chunks)) stack
    ∙ sym (ended_list sectors store loop.number loop.fault chunks c.in-Ok.pair (loop.invariant.walked held (c.read_pair.ensures.still held before)) (subst (λ (n : ℕ). loop.number < n) count c.loop-number-test.true) read.1 c.if-pair-eq0.true)
    ∙ ap (λ (s : Description). listed (store_sectors s disks store) store) loop.invariant.stack

pub returns-clause-list : goal.returns-clause-list
returns-clause-list g c = λ held seen.
    let store = c.args.store.now in let disks = disk_contents c.args.places.now held in let loop = c.loop-number in
    let chunks : List ℕ = (taken_at loop.mapper.state c.args.device).chunks in
    let count : c.pair_count-number-end.result ≡ pair_count store.chunk store.len = c.pair_count-number-end.ensures.count ∙ ap (λ (n : ℕ). pair_count n store.len) c.sectors.ensures.is in
    c.list_result.ensures.list chunks
    ∙ full_list (store_sectors loop.mapper.stack disks store) store loop.number loop.fault chunks (loop.invariant.walked held seen) (omega (arith, c.loop-number-test.false, loop.auto.number-end, count))
    ∙ ap (λ (s : Description). listed (store_sectors s disks store) store) loop.invariant.stack

pub loop-number-preserved : goal.loop-number-preserved
loop-number-preserved g c =
    let store = c.args.store.now in let loop = c.loop-number in let device = c.args.device in let here = c.in-Ok.pair in
    let chunks : List ℕ = (taken_at loop.mapper.state device).chunks in
    let new = c.take_listed-fault.new.mapper in
    let stack : new.stack ≡ loop.mapper.stack = c.take_listed-fault.ensures.stack ∙ ap (λ (m : MapperView). m.stack) c.read_pair.ensures.same in
    let next : c.take_listed-fault.result ≡ next_fault (is_placed store loop.number here) (is_near store here) (is_some (number_in here.old chunks)) loop.fault =
    c.take_listed-fault.ensures.fault
    ∙ ap (λ (m : MapperView). next_fault (is_placed store loop.number here) (is_near store here) (is_some (number_in here.old (taken_at m.state device).chunks)) loop.fault) c.read_pair.ensures.same in
    let good : c.take_listed-fault.result ≡ None → loop.fault ≡ None = λ none. no_fault_before (is_placed store loop.number here) (is_near store here) (is_some (number_in here.old chunks)) loop.fault (sym next ∙ none) in
    let changed : c.take_listed-fault.result ≡ None → new.state ≡ put loop.mapper.state device (with_chunk (taken_at loop.mapper.state device) here.old) = λ none.
    c.take_listed-fault.ensures.taken none ∙ ap (λ (m : MapperView). put m.state device (with_chunk (taken_at m.state device) here.old)) c.read_pair.ensures.same in
    let more = λ (none : c.take_listed-fault.result ≡ None). put_more c.args.mapper.now.state loop.mapper.state new.state device (with_chunk (taken_at loop.mapper.state device) here.old) c.requires.there (loop.invariant.state (good none)) (changed none) in
    record {
      len = c.read_pair.auto.block ∙ loop.invariant.len;
      stack = stack ∙ loop.invariant.stack;
      failed = c.take_listed-fault.ensures.failed ∙ ap (λ (m : MapperView). m.failed) c.read_pair.ensures.same ∙ loop.invariant.failed;
      state = λ none. (more none).0;
      valid = λ none. ap (λ (t : Taken). t.valid) (more none).1 ∙ loop.invariant.valid (good none);
      count = λ none. ap (λ (t : Taken). length t.chunks) (more none).1 ∙ length-append chunks (here.old ∷ []) ∙ ap (λ (n : ℕ). n + 1) (loop.invariant.count (good none));
      still = λ held seen. loop.invariant.still held (c.read_pair.ensures.still held seen);
      rows = λ held seen.
          let read = c.in-Ok.ensures.read held seen (loop.invariant.rows held (c.read_pair.ensures.still held seen)) in
          subst (λ (s : Description). HasRows (store_sectors s (disk_contents c.args.places.now held) store) store.chunk c.read_pair.new.rows c.read_pair.new.block) (sym stack) read.0;
      walked = λ held seen.
          let disks = disk_contents c.args.places.now held in let before = c.read_pair.ensures.still held seen in
          let read = c.in-Ok.ensures.read held seen (loop.invariant.rows held before) in
          subst (λ (s : Description). Walked (store_sectors s disks store) store (loop.number + 1) c.take_listed-fault.result (taken_at new.state device).chunks) (sym stack)
          (one_more (store_sectors loop.mapper.stack disks store) store loop.number loop.fault c.take_listed-fault.result here chunks (taken_at new.state device).chunks (loop.invariant.walked held before) read.1 c.if-pair-eq0.false next (λ none. ap (λ (t : Taken). t.chunks) (more none).1));
    }
