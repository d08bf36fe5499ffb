-- The faults noted for a line with ids are those that the checks define for the line with names.
use Rattle.dm_stack.proofs.Prelude.{ap, ◌∙◌, ResolvedLine, has_bad_stripes, is_bad_snapshot, is_unknown}
use Rattle.dm_stack.specs.checks.Soundness as by_names
use Rattle.dm_stack.proofs.lines.SpanLemmas.{past_is, unknown_is}
use Rattle.dm_stack.proofs.checks.lines.note_line.Goals as goal
use Rattle.std.specs.Prelude.{◌≡◌}

pub returns-clause-found : goal.returns-clause-found
returns-clause-found c =
    let stack = c.args.stack.now in
    let line = c.args.line.now in
    let is = c.requires.by_ids in
    let target = ap (λ (by_ids : ResolvedLine). by_ids.target) is in
    let unknown : c.names_missing.result ≡ is_unknown stack line = rw is at c.names_missing.ensures ∙ unknown_is stack line in
    let range : c.passes_end.result ≡ by_names.passes_end stack line = rw is at c.passes_end.ensures ∙ past_is stack line in
    let stripe : c.has_bad_stripes.result ≡ has_bad_stripes line line.target = c.has_bad_stripes.ensures stack target in
    let snapshot : c.is_bad_snapshot-snapshot.result ≡ is_bad_snapshot stack c.args.count line.len line.target = c.is_bad_snapshot-snapshot.ensures target in
    cc (rw is at c.note.ensures, rw is at c.note-2.ensures, rw is at c.misplaced_kind-kind.ensures, c.note-3.ensures, c.note-4.ensures, c.note-5.ensures, c.note-6.ensures, unknown, stripe, range, snapshot)
