use Rattle.dmremap.proofs.Prelude.{inl, inr, refl, delivered_if, Done}
use Rattle.dmremap.proofs.BegunLemmas.{begun_before, begun_ending, begun_played, begun_state}
use Rattle.dmremap.proofs.prepared.after_earlier.Goals as goal

pub returns-clause-begun : goal.returns-clause-begun
returns-clause-begun g c = λ start begun.
    begun_before c.args.stack.now (delivered_if g.B.Input.past c.args.earlier.now c.args.earlier.now) start _ (rw c.in-Err.is at begun)

pub returns-clause-asked : goal.returns-clause-asked
returns-clause-asked g c = λ start begun. inl refl

pub returns-in-Ok-play_if-clause-begun : goal.returns-in-Ok-play_if-clause-begun
returns-in-Ok-play_if-clause-begun g c = λ start begun.
    let at = rw c.in-Ok.is at begun in
    let done = c.in-Ok-play_if.ensures.played.done in
    let before = delivered_if g.B.Input.past c.args.earlier.now c.play_if.new.earlier in
    (at.0, at.1, begun_ending c.args.stack.now before at.0 _ Done at.3 done.0, begun_state c.args.stack.now before at.0 _ _ at.3 done.1)

pub returns-in-Ok-play_if-clause-asked : goal.returns-in-Ok-play_if-clause-asked
returns-in-Ok-play_if-clause-asked g c = λ start begun.
    let at = rw c.in-Ok.is at begun in
    inr (begun_played _ _ _ _ _ _ _ at.1 at.3 c.in-Ok-play_if.ensures.asked)

pub returns-in-Ok-clause-begun : goal.returns-in-Ok-clause-begun
returns-in-Ok-clause-begun g c = λ start begun.
    let at = rw c.in-Ok.is at begun in
    let before = delivered_if g.B.Input.past c.args.earlier.now c.play_if.new.earlier in
    (at.0, at.1, begun_ending c.args.stack.now before at.0 _ _ at.3 c.in-Err-play_if.ensures.played.refused)

pub returns-in-Ok-clause-asked : goal.returns-in-Ok-clause-asked
returns-in-Ok-clause-asked g c = λ start begun.
    let at = rw c.in-Ok.is at begun in
    inr (begun_played _ _ _ _ _ _ _ at.1 at.3 c.in-Err-play_if.ensures.asked)
