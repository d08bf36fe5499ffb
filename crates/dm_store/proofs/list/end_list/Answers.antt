use Rattle.dm_store.proofs.Prelude.{ℕ, true, List, Result, Ok, Err, refl, sym, ap, subst, ◌∙◌, arith, Description, MapperView, with_looked, SectorFault, disk_contents, rest_count, each, HasRead, store_sectors, are_zeros, is_clear, is_clear_in, of_list}
use Rattle.dm_store.proofs.ListLemmas.{each_more}
use Rattle.dm_store.proofs.WalkLemmas.{rest_clear, rest_inside, rest_stops}
use Rattle.dm_store.proofs.list.end_list.Goals as goal
use Rattle.std.specs.Prelude.{◌≡◌, ◌+◌, ◌%◌, ◌<◌}

pub loop-next-init : goal.loop-next-init
unfolding each
loop-next-init g c = record { same = refl; still = λ held seen. seen; rows = λ held seen had. had; clear = λ held seen had. refl }

pub read_pair-requires-clause-number : goal.read_pair-requires-clause-number
read_pair-requires-clause-number g c =
    let store = c.args.store.now in
    let count : c.rest_count-next-end.result ≡ rest_count store.chunk c.args.number = c.rest_count-next-end.ensures.count ∙ ap (λ (n : ℕ). rest_count n c.args.number) c.sectors.ensures.is in
    rest_inside store.chunk store.len c.args.number c.loop-next.next c.requires.number (subst (λ (n : ℕ). c.loop-next.next < n) count c.loop-next-test.true)

pub returns-then-not-are_zeros-clause-ended : goal.returns-then-not-are_zeros-clause-ended
returns-then-not-are_zeros-clause-ended g c = λ held seen had chunks.
    let store = c.args.store.now in let disks = disk_contents c.args.places.now held in let loop = c.loop-next in
    let number = c.args.number + loop.next in let before = c.read_pair.ensures.still held seen in
    let count : c.rest_count-next-end.result ≡ rest_count store.chunk c.args.number = c.rest_count-next-end.ensures.count ∙ ap (λ (n : ℕ). rest_count n c.args.number) c.sectors.ensures.is in
    let read = subst (λ (s : Description). HasRead (store_sectors s disks store) store.chunk number loop.rows loop.block (Ok c.in-Ok.pair) c.read_pair.new.rows c.read_pair.new.block) (ap (λ (m : MapperView). m.stack) loop.invariant.same) (c.in-Ok.ensures.read held seen) in
    let is = (read (loop.invariant.rows held before had)).1 in
    sym (rest_stops (store_sectors c.args.mapper.now.stack disks store) store.chunk c.args.number loop.next (Ok is.row) (of_list c.args.fault chunks) (loop.invariant.clear held before had)
    (subst (λ (n : ℕ). loop.next < n) count c.loop-next-test.true) is.read (ap are_zeros (sym is.is) ∙ sym c.are_zeros.ensures ∙ c.if-not-are_zeros.true))

pub returns-in-Err-clause-ended : goal.returns-in-Err-clause-ended
returns-in-Err-clause-ended g c = λ held seen had chunks.
    let store = c.args.store.now in let disks = disk_contents c.args.places.now held in let loop = c.loop-next in
    let number = c.args.number + loop.next in let before = c.read_pair.ensures.still held seen in
    let count : c.rest_count-next-end.result ≡ rest_count store.chunk c.args.number = c.rest_count-next-end.ensures.count ∙ ap (λ (n : ℕ). rest_count n c.args.number) c.sectors.ensures.is in
    let unread = subst (λ (s : Description). HasRead (store_sectors s disks store) store.chunk number loop.rows loop.block (Err c.in-Err.unread) c.read_pair.new.rows c.read_pair.new.block) (ap (λ (m : MapperView). m.stack) loop.invariant.same) (c.in-Err.ensures.read held seen) in
    sym (rest_stops (store_sectors c.args.mapper.now.stack disks store) store.chunk c.args.number loop.next (Err c.in-Err.unread) (of_list c.args.fault chunks) (loop.invariant.clear held before had)
    (subst (λ (n : ℕ). loop.next < n) count c.loop-next-test.true) unread refl)

pub loop-next-preserved : goal.loop-next-preserved
loop-next-preserved g c =
    let store = c.args.store.now in let loop = c.loop-next in let number = c.args.number + loop.next in
    record {
      same = c.read_pair.ensures.same ∙ ap (λ (m : MapperView). with_looked m c.read_pair.new.mapper.looked) loop.invariant.same;
      still = λ held seen. loop.invariant.still held (c.read_pair.ensures.still held seen);
      rows = λ held seen had.
          let disks = disk_contents c.args.places.now held in
          let read = subst (λ (s : Description). HasRead (store_sectors s disks store) store.chunk number loop.rows loop.block (Ok c.in-Ok.pair) c.read_pair.new.rows c.read_pair.new.block) (ap (λ (m : MapperView). m.stack) loop.invariant.same) (c.in-Ok.ensures.read held seen) in
          (read (loop.invariant.rows held (c.read_pair.ensures.still held seen) had)).0;
      clear = λ held seen had.
          let disks = disk_contents c.args.places.now held in let before = c.read_pair.ensures.still held seen in
          let read = subst (λ (s : Description). HasRead (store_sectors s disks store) store.chunk number loop.rows loop.block (Ok c.in-Ok.pair) c.read_pair.new.rows c.read_pair.new.block) (ap (λ (m : MapperView). m.stack) loop.invariant.same) (c.in-Ok.ensures.read held seen) in
          let is = (read (loop.invariant.rows held before had)).1 in
          each_more (λ i. is_clear (store_sectors c.args.mapper.now.stack disks store) store.chunk (c.args.number + i)) loop.next (loop.invariant.clear held before had)
          (ap (λ (r : Result (List ℕ) SectorFault). is_clear_in r (number % 32)) is.read ∙ ap are_zeros (sym is.is) ∙ sym c.are_zeros.ensures ∙ c.if-not-are_zeros.false);
    }

pub returns-clause-ended : goal.returns-clause-ended
returns-clause-ended g c = λ held seen had chunks.
    let store = c.args.store.now in let sectors = store_sectors c.args.mapper.now.stack (disk_contents c.args.places.now held) store in let loop = c.loop-next in
    let count : c.rest_count-next-end.result ≡ rest_count store.chunk c.args.number = c.rest_count-next-end.ensures.count ∙ ap (λ (n : ℕ). rest_count n c.args.number) c.sectors.ensures.is in
    let all : loop.next ≡ rest_count store.chunk c.args.number = omega (arith, c.loop-next-test.false, loop.auto.next-end, count) in
    c.list_result.ensures.list chunks ∙ sym (rest_clear sectors store.chunk c.args.number (of_list c.args.fault chunks) (subst (λ (n : ℕ). each (λ i. is_clear sectors store.chunk (c.args.number + i)) n ≡ true) all (loop.invariant.clear held seen had)))
