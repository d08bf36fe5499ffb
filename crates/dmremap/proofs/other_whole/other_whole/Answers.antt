use Rattle.dmremap.proofs.Prelude.{job_words, JobAnswers}
use Rattle.dmremap.proofs.AnswerLemmas.{closed_answers, closed_left, memory_before}
use Rattle.dmremap.proofs.OneOther.{one_other, one_printed}
use Rattle.dmremap.proofs.other_whole.other_whole.Goals as goal

pub returns-clause-answers : goal.returns-clause-answers
returns-clause-answers g c = λ held seen.
    let end = c.finish.ensures in
    let opens = g.O.Opens.opens c.args.source.now c.answer-exit.new.source held in
    let starts = g.O.Opens.starts c.args.source.now c.answer-exit.new.source held in
    let reads = g.O.Opens.reads c.args.source.now c.answer-exit.new.source held in
    closed_answers {Gives = JobAnswers (job_words c.args.job.now) opens starts reads} c.answer-exit.result end.0 c.answer-exit.ensures.writes (c.answer-exit.ensures.did held seen) c.answer-exit.ensures.asked end.1 end.2

pub returns-clause-left : goal.returns-clause-left
returns-clause-left g c =
    let end = c.finish.ensures in
    closed_left c.answer-exit.result end.0 c.answer-exit.ensures.writes c.answer-exit.ensures.asked end.1 end.2

pub returns-clause-memory : goal.returns-clause-memory
returns-clause-memory g c = λ reading six.
    let end = c.finish.ensures in
    c.answer-exit.ensures.memory reading (memory_before c.answer-exit.result end.0 _ _ _ end.1.ends end.2.is six)

-- ---- laws of the definitions

pub returns-clause-one : goal.returns-clause-one
returns-clause-one g c = λ old new held. one_other (job_words c.args.job.now) (g.O.Opens.opens old new held) (λ loading. c.answer-exit.ensures.one loading old new held)

pub returns-clause-one_printed : goal.returns-clause-one_printed
returns-clause-one_printed g c = λ none old new held starts reads requests. one_printed (job_words c.args.job.now) (g.O.Opens.opens old new held) (λ loading. c.answer-exit.ensures.one loading old new held) starts reads requests none
