use Rattle.dmremap.proofs.Prelude.{rules, true, delivery, written_since, job_words, Opened, JobAnswers, JobMakes, is_loading}
use Rattle.dmremap.proofs.AnswerLemmas.{does_more, opened_does, refused_does, unopened_tells}
use Rattle.dmremap.proofs.OneOther.{job_loads}
use Rattle.dmremap.proofs.other_whole.answer.Goals as goal
use Rattle.std.specs.Prelude.{◌≡◌}

-- ---- jobs that load nothing

pub returns-in-Name-clause-did : goal.returns-in-Name-clause-did
returns-in-Name-clause-did g c = λ held seen. rw c.in-Name.is c.print_name.ensures.did

pub returns-in-SplitName-clause-did : goal.returns-in-SplitName-clause-did
returns-in-SplitName-clause-did g c = λ held seen. rw c.in-SplitName.is c.print_parts.ensures.did

pub returns-in-Explain-clause-did : goal.returns-in-Explain-clause-did
returns-in-Explain-clause-did g c = λ held seen. rw c.in-Explain.is c.print_explanation.ensures.did

-- ---- jobs that load a source

pub returns-in-Ok-clause-did : goal.returns-in-Ok-clause-did
returns-in-Ok-clause-did g c = λ held seen.
    let job = job_words c.args.job in
    let loading : is_loading (job_words c.args.job) ≡ true = search rules in
    let opens = g.O.Opens.opens c.args.source.now c.answer_over.new.source held in
    let starts = g.O.Opens.starts c.args.source.now c.answer_over.new.source held in
    let reads = g.O.Opens.reads c.args.source.now c.answer_over.new.source held in
    let asked = delivery (g.Q.Exchange.past c.args.requests.now) (g.Q.Exchange.past c.answer_over.new.requests) in
    let text = written_since (g.W.Output.past c.args.output.now) (g.W.Output.past c.answer_over.new.output) in
    let opened = c.answer_over.ensures.opened c.args.source.now c.in-Ok.ensures.open c.in-Ok.ensures.opened held seen in
    let did = c.answer_over.ensures.did c.args.source.now c.in-Ok.ensures.open held seen in
    does_more {Is = Opened opens (JobMakes job starts reads asked)} {More = JobAnswers job opens starts reads asked} (job_loads job loading opens starts reads asked) text c.answer_over.result
    (opened_does opens (JobMakes job starts reads asked) c.in-Ok.stack text c.answer_over.result opened did)

pub returns-in-Err-clause-did : goal.returns-in-Err-clause-did
returns-in-Err-clause-did g c = λ held seen.
    let job = job_words c.args.job in
    let loading : is_loading (job_words c.args.job) ≡ true = search rules in
    let opens = g.O.Opens.opens c.args.source.now c.open.new.self held in
    let starts = g.O.Opens.starts c.args.source.now c.open.new.self held in
    let reads = g.O.Opens.reads c.args.source.now c.open.new.self held in
    let asked = delivery (g.Q.Exchange.past c.args.requests.now) (g.Q.Exchange.past c.args.requests.now) in
    refused_does (JobAnswers job opens starts reads asked) (g.W.Output.past c.args.output.now) c.in-Err.refusal
    (λ other. job_loads job loading opens starts reads asked _ (unopened_tells opens (JobMakes job starts reads asked) c.in-Err.refusal (c.in-Err.ensures.opened held seen) other))
