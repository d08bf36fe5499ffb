use Rattle.dmremap.proofs.Prelude.{◌∙◌, refl, ap, rules, Err, IsTop, written_to_none, numbered, written_since, IsUnanswered, runs_text, none_named, IsOfNone, IsOfTop}
use Rattle.dm_replay.specs.declared.replay_fault.ReplayFault.TheVariants as faults
use Rattle.dmremap.proofs.ReplayLemmas.{cut_by_name, not_top_by_name, one_stopped, played_by_name, stopped_by, top_by_name}
use Rattle.dmremap.proofs.replay_run.RequestPlayerHandler.handle.Goals as goal
use Rattle.std.specs.Prelude.{◌≡◌}

pub returns-in_default-clause-stopped : goal.returns-in_default-clause-stopped
returns-in_default-clause-stopped g c =
    let request = numbered c.args.request.now in
    let stack = c.args.stack.now in (
      one_stopped (IsOfNone stack request.number) stack c.args.replay.now.start c.args.replay.now.asked request (g.W.Output.past c.args.self.now.output.now).written
          (record { of_number = refl; none = none_named stack request.values.device (c.requires.found ∙ c.in_default.is) }),
      written_to_none g.W.Output.past c.args.self.now.output,
    )

pub returns-in-Ok-write_runs-clause-answered : goal.returns-in-Ok-write_runs-clause-answered
returns-in-Ok-write_runs-clause-answered g c =
    let replay = c.args.replay.now in
    let request = numbered c.args.request.now in
    let did = c.in-Ok.ensures in
    let wrote = c.in-Ok-write_runs.ensures in
    let same : c.deref.result.now ≡ c.in-Ok.runs.items = search rules in (
      played_by_name c.args.stack.now replay.stack replay.start replay.asked c.request_of.new.self.asked request c.in-Some.device c.in-Ok.runs.items (g.W.Output.past c.args.self.now.output.now).written (g.W.Output.past c.write_runs.new.writer).written
          c.requires.ready.0 (c.requires.found ∙ c.in-Some.is) did.top did.answered.answers.maximal did.answered.answers.are did.answered.asked
          (wrote.ok ∙ ap (runs_text c.args.stack.now request.number) same),
      c.request_of.ensures.start,
      record { moved = wrote.moved; same_reference = refl },
    )

pub returns-in-Ok-clause-stopped : goal.returns-in-Ok-clause-stopped
returns-in-Ok-clause-stopped g c =
    let replay = c.args.replay.now in
    let request = numbered c.args.request.now in
    let did = c.in-Ok.ensures in
    let wrote = c.in-Err.ensures in
    let text = written_since (g.W.Output.past c.args.self.now.output.now) (g.W.Output.past c.write_runs.new.writer) in
    let same : c.deref.result.now ≡ c.in-Ok.runs.items = search rules in (
      cut_by_name c.args.stack.now replay.stack replay.start replay.asked request c.in-Some.device c.in-Ok.runs.items text c.requires.ready.0 (c.requires.found ∙ c.in-Some.is) did.top did.answered.answers.maximal did.answered.answers.are
          (rw same at wrote.left),
      record { moved = wrote.moved; same_reference = refl },
    )

pub returns-in-Err-NotTop-clause-stopped : goal.returns-in-Err-NotTop-clause-stopped
returns-in-Err-NotTop-clause-stopped g c =
    let replay = c.args.replay.now in
    let request = numbered c.args.request.now in
    let stack = c.args.stack.now in (
      stopped_by (λ fault. IsUnanswered fault (IsTop replay.stack c.in-Some.device) replay c.request_of.new.self) (IsOfNone stack request.number) stack replay.start replay.asked request
          (g.W.Output.past c.args.self.now.output.now).written c.request_of.result faults.NotTop (c.in-Err-NotTop.is ∙ ap Err c.in-Err-NotTop.field-0-is) c.request_of.ensures.fault
          (λ why. record { of_number = refl; none = not_top_by_name stack replay.stack request c.in-Some.device c.requires.ready.0 (c.requires.found ∙ c.in-Some.is) why.1 }),
      written_to_none g.W.Output.past c.args.self.now.output,
    )

pub returns-in-Err-Memory-clause-stopped : goal.returns-in-Err-Memory-clause-stopped
returns-in-Err-Memory-clause-stopped g c =
    let replay = c.args.replay.now in
    let request = numbered c.args.request.now in
    let stack = c.args.stack.now in (
      stopped_by (λ fault. IsUnanswered fault (IsTop replay.stack c.in-Some.device) replay c.request_of.new.self) (IsOfTop stack) stack replay.start replay.asked request
          (g.W.Output.past c.args.self.now.output.now).written c.request_of.result faults.Memory (c.in-Err-Memory.is ∙ ap Err c.in-Err-Memory.field-0-is) c.request_of.ensures.fault
          (λ why. top_by_name stack replay.stack request c.in-Some.device c.requires.ready.0 (c.requires.found ∙ c.in-Some.is) why.1),
      written_to_none g.W.Output.past c.args.self.now.output,
    )
