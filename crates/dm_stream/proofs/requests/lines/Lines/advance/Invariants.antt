use Rattle.dm_stream.proofs.Prelude.{[], length, take, since, line_parts, BUFFER_BYTES}
use Rattle.dm_stream.proofs.requests.lines.Lines.advance.Given as goal
use Rattle.std.specs.Prelude.{◌≡◌, ◌-◌, ◌≤◌, ◌++◌, ◌∷◌}

-- all bytes read are held, the first `searched` have no newline, and no end and no fault was met
abbrev pub invariant-turns : goal.invariant-turns
invariant-turns g l =
    let old = g.H.ReadsFrom.asked l.fn.requests in
    let new = g.H.ReadsFrom.asked l.requests in
    record {
      within : l.searched ≤ length l.self;
      clear : line_parts (take l.searched l.self) ≡ take l.searched l.self ∷ [];
      out : line_parts l.self ≡ l.self ∷ [] → g.H.ReadsFrom.is_out l.handler;
      held : l.self ≡ l.fn.self ++ since old.handed new.handed;
      bytes : new.handed ≡ old.handed ++ since old.handed new.handed;
      faults : new.faults ≡ old.faults;
      ends : new.ends ≡ old.ends;
    }

abbrev pub decreases-turns : goal.decreases-turns
decreases-turns g l = BUFFER_BYTES - length l.self
