use Rattle.dm_map.proofs.Prelude.{List, take, sym, ap, subst, ◌∙◌, arith, take_all, recursion_from_All, ResolvedOver, AreSettled, IsOver, serve, State}
use Rattle.dm_map.proofs.walk.Served.{chunk_there, over_at, over_there, serve_settled, served_cut, served_on}
use Rattle.dm_map.proofs.walk.WalkedOn.{walked_none}
use Rattle.dm_map.proofs.walk.serving.serve.Goals as goal
use Rattle.std.specs.Prelude.{◌≡◌, ◌+◌}

pub loop-one-init : goal.loop-one-init
unfolding serve
loop-one-init g c = walked_none g.met.S.Sink.lawful

pub take_chunk-requires-clause-inside : goal.take_chunk-requires-clause-inside
take_chunk-requires-clause-inside g c =
    let a = c.args in let w = a.walker.now in let l = c.loop-one in let one = c.one-item.result in
    let it = over_at w.stack (a.sector + 1) a.over.now l.one-index one c.requires.over c.loop-one-test.true c.one-item.is in
    rw c.chunk_of-chunk.ensures (chunk_there w.stack l.walker.stack a.sector one c.recall_soundness.ensures l.invariant.stack it)

pub returns-in_err-take_chunk-clause-walked : goal.returns-in_err-take_chunk-clause-walked
returns-in_err-take_chunk-clause-walked g c =
    let a = c.args in let w = a.walker.now in let l = c.loop-one in let one = c.one-item.result in
    served_cut g.S.Sink.past _ c.from_residual.result a.sink.now c.take_chunk.new.sink w c.take_chunk.new.walker a.over.now (l.one-index + 1) a.sector c.from_residual.ensures.0
    (served_on g.met.S.Sink.lawful _ a.sink.now l.sink c.take_chunk.new.sink w l.walker c.take_chunk.new.walker a.over.now l.one-index a.sector one c.loop-one-test.true c.one-item.is l.invariant (rw c.chunk_of-chunk.ensures at c.in_err-take_chunk.ensures))

pub loop-one-preserved : goal.loop-one-preserved
loop-one-preserved g c =
    let a = c.args in let w = a.walker.now in let l = c.loop-one in let one = c.one-item.result in
    let on = served_on g.met.S.Sink.lawful _ a.sink.now l.sink c.take_chunk.new.sink w l.walker c.take_chunk.new.walker a.over.now l.one-index a.sector one c.loop-one-test.true c.one-item.is l.invariant (rw c.chunk_of-chunk.ensures at c.in_ok-take_chunk.ensures) in
    record { took = on.took; state = on.state; kept = on.kept; room = on.room; left = tt; faults = on.faults; stack = on.stack; looked = on.looked }

pub returns-clause-settled : goal.returns-clause-settled
returns-clause-settled g c =
    let a = c.args in let w = a.walker.now in let l = c.loop-one in let over = a.over.now in
    let all : take l.one-index over ≡ over = take_all l.one-index over (omega (arith, c.loop-one-test.false)) in
    let there = over_there w.stack w.state (a.sector + 1) over c.recall_tables.ensures (omega arith) (recursion_from_All (IsOver w.stack (a.sector + 1)) over c.requires.over) in
    let settled = serve_settled w.stack over a.sector w.state there in
    subst (λ (s : State). AreSettled s over a.sector) (sym (l.invariant.state ∙ ap (λ (xs : List ResolvedOver). (serve w.stack xs a.sector w.state).state) all)) settled
