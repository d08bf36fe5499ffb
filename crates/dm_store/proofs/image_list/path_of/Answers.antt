use Rattle.dm_store.proofs.Prelude.{sym, ◌∙◌}
use Rattle.dm_store.proofs.ImageLemmas.{path_here, path_later}
use Rattle.dm_store.proofs.image_list.path_of.Goals as goal
use Rattle.std.specs.Prelude.{◌≡◌, ◌≢◌}

pub returns-then-are_same : goal.returns-then-are_same
returns-then-are_same c =
    let named : c.path-item.result.disk ≡ c.args.name.now = sym c.as_str.ensures.text ∙ sym c.as_bytes.ensures.value ∙ c.if-are_same.ensures.same ∙ c.as_bytes-in-loop-path.ensures.value in
    sym (path_here c.args.paths.now c.loop-path.path-index c.path-item.result c.args.name.now c.loop-path-test.true c.path-item.is named) ∙ c.loop-path.invariant

pub loop-path-preserved : goal.loop-path-preserved
loop-path-preserved c =
    let other : c.path-item.result.disk ≢ c.args.name.now = λ named. c.if-are_same.ensures.other (c.as_bytes.ensures.value ∙ c.as_str.ensures.text ∙ named ∙ sym c.as_bytes-in-loop-path.ensures.value) in
    sym (path_later c.args.paths.now c.loop-path.path-index c.path-item.result c.args.name.now c.loop-path-test.true c.path-item.is other) ∙ c.loop-path.invariant
