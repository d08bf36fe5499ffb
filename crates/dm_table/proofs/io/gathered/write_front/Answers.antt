use Rattle.dm_table.proofs.Prelude.{ℕ, drop, length-take, add-zero, sym, ap, ◌∙◌, arith, le-ltb, lt-ltb, OutputPast}
use Rattle.dm_table.proofs.io.BlockLemmas.{sent_more}
use Rattle.dm_table.proofs.io.gathered.write_front.Goals as goal
use Rattle.std.specs.Prelude.{◌≤◌, ◌+◌, ◌-◌}

pub rest-preserved : goal.rest-preserved
rest-preserved g c =
    let block = c.args.block.now in let sent = c.rest.sent in let len = c.args.len in let taken = c.in-Ok.taken in
    let start = g.W.Output.past c.args.output.now in let old = g.W.Output.past c.rest.output in let new = g.W.Output.past c.write.new.self in
    let past = c.in-Ok.ensures.past in
    let few : taken ≤ len - sent = omega (arith, c.in-Ok.ensures.within, length-take (len - sent) (drop sent block)) in
    record {
      within = omega (arith, few);
      written = sent_more start.written old.written new.written block sent len taken few c.rest.invariant.written (rw past);
      waiting = sent_more start.waiting old.waiting new.waiting block sent len taken few c.rest.invariant.waiting (rw past);
      faults = rw (past, add-zero) c.rest.invariant.faults;
    }

pub returns-in-Err-clause-grows : goal.returns-in-Err-clause-grows
returns-in-Err-clause-grows g c = omega (arith, ap (λ (p : OutputPast). p.faults) c.in-Err.ensures.past, c.rest.invariant.faults)

-- the output behind failed exactly if bytes are left
pub returns-in-Err-clause-failed : goal.returns-in-Err-clause-failed
returns-in-Err-clause-failed g c =
    let more = ap (λ (p : OutputPast). p.faults) c.in-Err.ensures.past ∙ ap (λ (n : ℕ). n + 1) c.rest.invariant.faults in
    lt-ltb _ _ (omega (arith, more)) ∙ sym (lt-ltb c.rest.sent c.args.len c.rest-test.true)

pub returns-clause-failed : goal.returns-clause-failed
returns-clause-failed g c =
    le-ltb _ _ (omega (arith, c.rest.invariant.faults)) ∙ sym (le-ltb c.rest.sent c.args.len c.rest-test.false)
