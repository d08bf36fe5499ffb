use Rattle.dmremap.proofs.Prelude.{None, List, Option, Result, ap, inr, subst, sym, LoadFault, Place, load_status, IsBegunAt, start_over}
use Rattle.dmremap.proofs.prepared.begin_by.Goals as goal

pub returns-in-Ok-clause-begun : goal.returns-in-Ok-clause-begun
returns-in-Ok-clause-begun g c = λ held seen.
    rw (c.in-Some.is) (subst (λ (images : Option (Result (List (Option Place)) LoadFault)). IsBegunAt c.args.stack.now None (start_over held c.args.stack.now images) c.begin_stored-begun.result) (sym c.in-Ok.ensures.given) (c.begin_stored-begun.ensures.begun held seen))

pub returns-in-Ok-clause-asked : goal.returns-in-Ok-clause-asked
returns-in-Ok-clause-asked g c = rw (c.in-Some.is) (inr (_, c.in-Ok.ensures.given))

pub returns-in-Err-clause-begun : goal.returns-in-Err-clause-begun
returns-in-Err-clause-begun g c = λ held seen other. rw (c.in-Some.is) (ap (start_over held c.args.stack.now) (c.in-Err.ensures.refused (λ memory. other (ap load_status memory))))

pub returns-in-None-clause-begun : goal.returns-in-None-clause-begun
returns-in-None-clause-begun g c = λ held seen. rw (c.in-None.is) c.begin.ensures.begun
