use Rattle.dmremap.proofs.Prelude.{delivery, unread, PrintsImages}
use Rattle.dmremap.proofs.AnswerLemmas.{closed_answers, closed_left}
use Rattle.dmremap.proofs.images_text.print_metadata.Goals as goal

pub returns-clause-answers : goal.returns-clause-answers
returns-clause-answers g c = λ held seen.
    let end = c.finish.ensures in
    let paths = delivery (g.P.Input.past c.args.paths.now) (g.P.Input.past c.answer-exit.new.paths) in
    closed_answers {Gives = λ asked. PrintsImages paths held} {requests = unread} c.answer-exit.result end.0 c.answer-exit.ensures.writes (c.answer-exit.ensures.did held seen) (c.answer-exit.ensures.asked unread.old) end.1 end.2

pub returns-clause-left : goal.returns-clause-left
returns-clause-left g c =
    let end = c.finish.ensures in
    closed_left c.answer-exit.result end.0 c.answer-exit.ensures.writes (c.answer-exit.ensures.asked unread.old) end.1 end.2
