use Rattle.dm_stream.proofs.Prelude.{◌∙◌, ap, drop, refl, delivery}
use Rattle.dm_stream.proofs.requests.Held.{line_at, after_bytes}
use Rattle.dm_stream.proofs.requests.lines.Lines.next_for.Goals as goal

pub returns-in-Line : goal.returns-in-Line
returns-in-Line g c =
    let a = c.self.inside in
    let n = c.in-Line.n in
    let held = c.advance.new.self in
    let stand = (delivery (g.H.ReadsFrom.asked c.args.requests.now) (g.H.ReadsFrom.asked c.advance.new.requests)).stand in (
      (refl, λ _. tt, after_bytes a.buffer held a.start a.end n c.self.view_is c.in-Line.ensures.fits ∙ ap (drop _) c.in-Line.ensures.held),
      record {
        after = tt;
        reads = c.in-Line.ensures.reads;
        quiet = c.in-Line.ensures.quiet;
        answer =
            rw (line_at a.buffer held a.start a.end n c.self.view_is c.in-Line.ensures.fits, ← c.in-Line.ensures.answer, c.in-Line.ensures.held);
      },
    )
