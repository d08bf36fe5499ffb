use Rattle.dmremap.proofs.other_whole.answer_over.Goals as goal

pub returns-in-Print-clause-did : goal.returns-in-Print-clause-did
returns-in-Print-clause-did g c = λ first has held seen. rw c.in-Print.is c.print_stack.ensures.did

pub returns-in-Replay-clause-did : goal.returns-in-Replay-clause-did
returns-in-Replay-clause-did g c = λ first has held seen. rw c.in-Replay.is (c.replay-exit.ensures.did first has held seen)

pub returns-in-Read-clause-did : goal.returns-in-Read-clause-did
returns-in-Read-clause-did g c = λ first has held seen. rw c.in-Read.is (c.read_sectors-exit.ensures.did first has held seen)

pub returns-in-Read-clause-asked : goal.returns-in-Read-clause-asked
returns-in-Read-clause-asked g c = c.read_sectors-exit.ensures.asked (g.Q.Exchange.past c.args.requests.now)
