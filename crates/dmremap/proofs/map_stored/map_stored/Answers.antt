use Rattle.dmremap.proofs.Prelude.{inl, refl, sym, ◌∙◌, delivered_if}
use Rattle.dmremap.proofs.AnswerLemmas.{refusal_left, refused_out, unasked_none}
use Rattle.dmremap.proofs.BegunLemmas.{if_out}
use Rattle.dmremap.proofs.MapLemmas.{earlier_read, loaded_maps, unopened_maps}
use Rattle.dmremap.proofs.OneWhole.{one_by}
use Rattle.dmremap.proofs.map_stored.map_stored.Goals as goal

-- ---- the opening was refused

pub returns-in-Err-clause-answers : goal.returns-in-Err-clause-answers
returns-in-Err-clause-answers g c = λ held seen. (
  unopened_maps (g.O.Opens.opens c.args.source.now c.open.new.self held) (g.O.Opens.starts c.args.source.now c.open.new.self held) _ (delivered_if g.B.Input.past c.args.earlier.now c.args.earlier.now) c.in-Err.refusal (c.in-Err.ensures.opened held seen) c.tell.ensures,
  inl refl,
)

pub returns-in-Err-clause-left : goal.returns-in-Err-clause-left
returns-in-Err-clause-left g c = refusal_left c.in-Err.refusal c.tell.ensures

pub returns-in-Err-clause-memory : goal.returns-in-Err-clause-memory
returns-in-Err-clause-memory g c = λ six.
    let out = refused_out c.in-Err.refusal c.tell.ensures six in
    (c.in-Err.ensures.left (sym c.tell.ensures.is ∙ six), unasked_none g.B.Input.past c.args.earlier.now, out)

-- ---- the requests were run

pub returns-in-Ok-clause-answers : goal.returns-in-Ok-clause-answers
returns-in-Ok-clause-answers g c = λ held seen.
    let opens = g.O.Opens.opens c.args.source.now c.begin-begun.new.self held in
    let starts = g.O.Opens.starts c.args.source.now c.begin-begun.new.self held in
    let opened = c.begin-begun.ensures.opened c.args.source.now c.in-Ok.ensures.open held seen in
    let begun = c.begin-begun.ensures.begun c.args.source.now c.in-Ok.ensures.open held seen in (
      loaded_maps opens starts _ _ c.in-Ok.stack opened (c.map_from-status.ensures.answers _ _ (c.after_earlier-begun.ensures.begun _ begun)),
      earlier_read g.B.Input.past opens starts c.in-Ok.stack c.args.earlier.now c.after_earlier-begun.new.earlier opened (c.after_earlier-begun.ensures.asked _ begun),
    )

pub returns-in-Ok-clause-memory : goal.returns-in-Ok-clause-memory
returns-in-Ok-clause-memory g c = λ six.
    let out = c.map_from-status.ensures.memory six in
    let unread = if_out c.after_earlier-begun.result c.after_earlier-begun.ensures.memory out.0 in
    (if_out c.begin-begun.result c.begin-begun.ensures.left unread.0 c.args.source.now c.in-Ok.ensures.open, unread.1, out.1)

pub returns-in-Ok-clause-read : goal.returns-in-Ok-clause-read
returns-in-Ok-clause-read g c = c.begin-begun.ensures.read c.args.source.now c.in-Ok.ensures.open

-- ---- at most one answer, a law of the definitions

pub returns-in-Err-clause-one : goal.returns-in-Err-clause-one
returns-in-Err-clause-one g c = λ old new held. one_by (g.O.Opens.opens old new held) (c.open.ensures.one old new held)

pub returns-in-Ok-clause-one : goal.returns-in-Ok-clause-one
returns-in-Ok-clause-one g c = λ old new held. one_by (g.O.Opens.opens old new held) (c.open.ensures.one old new held)
