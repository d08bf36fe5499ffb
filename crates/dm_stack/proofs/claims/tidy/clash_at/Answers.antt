use Rattle.dm_stack.proofs.Prelude.{length, refl, sym, ap, ◌∙◌, take, slice_get_read, same_Some, clash_with}
use Rattle.dm_stack.proofs.claims.TidyLemmas.{clash_here, clash_none}
use Rattle.dm_stack.proofs.claims.tidy.clash_at.Goals as goal

pub returns-then-meets : goal.returns-then-meets
returns-then-meets c later there =
    let claims = c.args.claims.now in
    let before = take c.args.index claims in
    let read = slice_get_read claims (length claims) c.args.index c.index-claims-index.result refl c.requires c.index-claims-index.is in
    let same = same_Some c.index-claims-index.result later (sym read ∙ there) in
    cc (clash_here before c.loop-earlier.earlier-index c.earlier-item.result c.index-claims-index.result c.loop-earlier-test.true c.earlier-item.is (sym c.meets.ensures ∙ c.if-meets.true))

pub returns : goal.returns
returns c later there =
    let claims = c.args.claims.now in
    let before = take c.args.index claims in
    let read = slice_get_read claims (length claims) c.args.index c.index-claims-index.result refl c.requires c.index-claims-index.is in
    let same = same_Some c.index-claims-index.result later (sym read ∙ there) in
    sym (clash_none before c.loop-earlier.earlier-index c.index-claims-index.result c.loop-earlier-test.false)
    ∙ c.loop-earlier.invariant ∙ ap (clash_with before) same
