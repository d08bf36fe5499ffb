use Rattle.dm_stream.proofs.requests.LineParts.{next_held}
use Rattle.dm_stream.proofs.requests.lines.Lines.look.Goals as goal

pub returns-else-n-gt-MOST_LINE_BYTES : goal.returns-else-n-gt-MOST_LINE_BYTES
returns-else-n-gt-MOST_LINE_BYTES c =
    let n = c.in-Some.n in
    let found = c.in-Some.ensures in
    rw (← c.self.view_is) (found.0, λ stand. next_held stand _ n found.0 c.if-n-gt-MOST_LINE_BYTES.false found.1)
