use Rattle.dm_stack.proofs.Prelude.{Some, refl, ◌∙◌, add-one, length-map, slice_get_read, found_at}
use Rattle.dm_stack.proofs.lines.LineSearchLemmas.{few_halvings, first_starts, last_kept, line_there, next_after, small_there}
use Rattle.dm_stack.proofs.lines.SameLine.{resolved_line_of}
use Rattle.dm_stack.proofs.SoundLines.{sector_found}
use Rattle.dm_stack.proofs.stack.Stack.find_line.Goals as goal
use Rattle.std.specs.Prelude.{◌≡◌}

pub find-index-requires-clause-first : goal.find-index-requires-clause-first
find-index-requires-clause-first c =
    rw c.found.ensures.lines (first_starts c.args.self.now c.args.device c.args.sector c.found.ensures.sound c.requires.device c.requires.sector)

pub find-index-requires-clause-follows : goal.find-index-requires-clause-follows
find-index-requires-clause-follows c =
    rw c.found.ensures.lines (next_after c.args.self.now c.args.last.now c.args.device c.args.sector c.found.ensures.sound c.requires.device c.requires.sector c.requires.last)

pub find-index-requires-clause-small : goal.find-index-requires-clause-small
find-index-requires-clause-small c = rw c.found.ensures.lines (small_there c.args.self.now c.args.device c.found.ensures.sound c.requires.device)

pub returns : goal.returns
returns c =
    let st = c.args.self.now in
    let sound = c.found.ensures.sound in
    let lines = c.found.ensures.lines in
    let shown = c.lines-lines.ensures ∙ lines in
    let there = line_there st c.args.device c.find-index.result.0 c.args.sector sound c.requires.device c.requires.sector
    (rw lines at c.find-index.ensures.found.line.from)
    (rw (add-one, lines) at c.find-index.ensures.found.line.next) in
    let here = slice_get_read c.lines-lines.result.now _ c.find-index.result.0 c.index-lines-index.result refl (rw c.lines-lines.ensures c.find-index.ensures.found.line.within) c.index-lines-index.is in
    let is : found_at st c.args.device c.args.sector ≡ Some c.index-lines-index.result =
    cc in
    let f = sector_found st c.args.device c.args.sector sound c.requires.device c.requires.sector in
    let same : f.line ≡ c.index-lines-index.result = let known = f.is in cc in
    let few = rw (lines, length-map) at c.find-index.ensures.found.few in
    record {
      line = resolved_line_of st c.args.device c.args.sector c.index-lines-index.result sound c.requires.device is (rw same at f.soundly);
      few = few;
      most = few_halvings st c.args.device c.find-index.result.1 sound c.requires.device few;
      last = last_kept st c.args.device c.args.last.now c.find-index.new.last c.requires.last (rw lines at c.find-index.ensures.last);
    }
