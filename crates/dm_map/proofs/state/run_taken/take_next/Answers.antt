use Rattle.dm_map.proofs.Prelude.{ap, length, arith, rules, get_or_read, length-set, length-insert, Run, AreBegunBy, no_run, run_at}
use Rattle.dm_map.proofs.state.GrowLemmas.{takes_new, takes_next}
use Rattle.dm_map.proofs.state.run_taken.take_next.Goals.{After-index_mut}
use Rattle.dm_map.proofs.state.run_taken.take_next.Goals as goal
use Rattle.std.specs.Prelude.{◌≡◌, ◌+◌, ◌-◌, ◌<◌}

-- the run that is lengthened is the last one that starts at the chunk or before
longer : (c : After-index_mut) → c.index_mut.result.now ≡ run_at c.args.runs.now.items (c.begun_by-begun.result.0 - 1)
longer c =
    let runs = c.args.runs.now.items in
    let by : AreBegunBy runs c.args.chunk c.begun_by-begun.result.0 = rw c.as_slice.ensures at c.begun_by-begun.ensures.begun in
    let some : 0 < c.begun_by-begun.result.0 = c.if-goes_on.ensures.0 in
    let there : c.begun_by-begun.result.0 - 1 < length runs = omega (arith, by.within, some) in
    get_or_read runs (c.begun_by-begun.result.0 - 1) c.index_mut.result.now there c.index_mut.ensures.value no_run

pub overflow_add-index_mut : goal.overflow_add-index_mut
overflow_add-index_mut c =
    let same = ap (λ (run : Run). run.len) (longer (goal.at.overflow_add-index_mut c).After-index_mut) in
    let on = rw c.as_slice-2.ensures at c.if-goes_on.ensures in
    omega (arith, same, on.1.1, c.requires.small)

pub returns-then-goes_on : goal.returns-then-goes_on
returns-then-goes_on c =
    let runs = c.args.runs.now.items in
    let begun = c.begun_by-begun.result.0 in
    let same = longer (goal.at.returns-then-goes_on c).After-index_mut in
    let by : AreBegunBy runs c.args.chunk begun = rw c.as_slice.ensures at c.begun_by-begun.ensures.begun in
    let on = rw (c.as_slice-2.ensures, c.requires.number) at c.if-goes_on.ensures in
    let it = takes_next runs c.args.chunks.now.items c.args.chunk begun _ c.requires.kept by on.0 on.1 c.requires.counted (ap (λ (run : Run). run.first) same) (ap (λ (run : Run). run.number) same) (ap (λ (run : Run). run.len + 1) same) in
    record { kept = it.0; counted = omega (arith, it.1, length-set {A = Run}); room = search rules }

pub returns-else-goes_on : goal.returns-else-goes_on
returns-else-goes_on c =
    let runs = c.args.runs.now.items in
    let begun = c.begun_by-begun.result.0 in
    let by : AreBegunBy runs c.args.chunk begun = rw c.as_slice.ensures at c.begun_by-begun.ensures.begun in
    let apart = rw (c.as_slice-2.ensures, c.requires.number) at c.if-goes_on.ensures in
    let it = takes_new runs c.args.chunks.now.items c.args.chunk begun c.requires.kept c.requires.once by c.requires.fresh apart c.requires.counted in
    rw (c.insert.ensures.items, c.requires.number) (record { kept = it.0; counted = omega (arith, it.1, length-insert {X = Run}, by.within); room = search rules })
