use Rattle.dmremap.proofs.Prelude.{refl, sym, ◌∙◌, WriteFault, Ended}
use Rattle.dmremap.proofs.ExitLemmas.{closed_failed, closed_well}
use Rattle.dmremap.proofs.exit.Exit.finish.Goals as goal

pub returns-in-Ok : goal.returns-in-Ok
returns-in-Ok g c = (
  c.args.self.now,
  closed_well _ c.args.self.now _ _ c.written.result (sym c.is_refused.ensures ∙ c.if-is_refused.false)
      c.written.ensures.ok c.in-Ok.ensures.untouched c.in-Ok.ensures.bytes c.in-Ok.ensures.closed,
  record {
    is = c.status.ensures;
    told = rw (c.as_slice.ensures.value, c.message.ensures) at c.in-Ok.ensures.told;
  },
)

pub returns-in-Err : goal.returns-in-Err
returns-in-Err g c = (
  Ended WriteFault,
  closed_failed g.W.Output.past c.args.self.now c.args.output.now c.close_and_tell.new.output _ c.written.result (sym c.is_refused.ensures ∙ c.if-is_refused.false)
      c.written.ensures.ok c.written.ensures.err c.in-Err.ensures.untouched c.in-Err.ensures.flushed c.in-Err.ensures.bytes c.in-Err.ensures.closed,
  record { is = refl; told = c.in-Err.ensures.told },
)
