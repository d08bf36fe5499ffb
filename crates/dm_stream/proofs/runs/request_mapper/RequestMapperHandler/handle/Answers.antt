use Rattle.dm_stream.proofs.Prelude.{numbered}
use Rattle.dm_stream.proofs.runs.RequestMapped.{request_cut}
use Rattle.dm_stream.proofs.runs.request_mapper.RequestMapperHandler.handle.Goals as goal

pub returns-in-Err-clause-stopped : goal.returns-in-Err-clause-stopped
returns-in-Err-clause-stopped g c =
    let old = c.args.self.now in
    let request = numbered c.args.request.now in
    let failed = c.in-Err.ensures in
    let w0 = (g.W.Output.past old.join.writer.now).written in
    let w1 = (g.W.Output.past c.write_joined.new.join.writer.now).written in (
      request_cut c.args._stack.now c.in-Some.device request _ c.args.mapper.now.state c.write_joined.new.mapper w0 w1 c.requires.found c.in-Some.is
          (rw c.requires.ready.joined at failed.wrote.left),
      record { moved = failed.wrote.moved; same_reference = failed.same_reference },
      failed.stack,
      failed.nothing,
    )
