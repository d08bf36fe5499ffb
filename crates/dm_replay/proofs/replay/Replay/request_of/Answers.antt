use Rattle.dm_replay.proofs.Prelude.{false, refl, sym, ◌∙◌, arith, get_or_read, whole_request}
use Rattle.dm_replay.proofs.NamedLemmas.{noted_top}
use Rattle.dm_replay.proofs.OneRuns.{one_runs}
use Rattle.dm_replay.proofs.OwnReads.{exact_answers, own_answers}
use Rattle.dm_replay.proofs.WorldLemmas.{answers_after, going_whole, is_kept}
use Rattle.dm_replay.proofs.replay.Replay.request_of.Goals as goal

pub returns-in_default-keep-clause-fault : goal.returns-in_default-keep-clause-fault
returns-in_default-keep-clause-fault g c =
    let within = rw (← c.self.view_is) at c.requires in
    let top = noted_top c.self.inside.stack.now c.self.inside.tops.items c.args.device c.index.result c.index-2.result.now c.self.invariant.tops_are within c.index.ensures
    (get_or_read c.self.inside.tops.items c.index.result c.index-2.result.now (omega (arith, within, c.index.ensures, c.self.invariant.tops_are.all)) c.index-2.ensures false) c.if-not-index.false in (
      rw (← c.self.view_is) c.if-self.false,
      rw (← c.self.view_is) top,
      refl,
    )

pub invariant_of-self-2 : goal.invariant_of-self-2
invariant_of-self-2 g c =
    let inside = c.self.inside in let request = c.args.request.now in let did = c.in-Ok.ensures in
    let newer = c.play_request.new.player in let device = c.args.device in
    let within = rw (← c.self.view_is) at c.requires in
    let top = noted_top c.self.inside.stack.now c.self.inside.tops.items c.args.device c.index.result c.index-2.result.now c.self.invariant.tops_are within c.index.ensures
    (get_or_read c.self.inside.tops.items c.index.result c.index-2.result.now (omega (arith, within, c.index.ensures, c.self.invariant.tops_are.all)) c.index-2.ensures false) c.if-not-index.false in
    record {
      tidy = c.self.invariant.tidy;
      tops_are = c.self.invariant.tops_are;
      fits = c.self.invariant.fits;
      going = λ _. rw (c.add.ensures, c.in-Ok-keep.ensures) (going_whole inside.stack.now inside.player.stack.now newer.stack.now inside.start inside.mapper c.play_request.new.mapper inside.player.playing.values.disks.items newer.playing.values.disks.items inside.asked inside.writes.items request device
          (is_kept inside.stack.now request device request.len within top (omega arith))
          (c.self.invariant.going c.if-self.false) did.going did.stack did.played.stack did.state did.played.values did.played.disks);
    }

pub returns-clause-top : goal.returns-clause-top
returns-clause-top g c =
    let within = rw (← c.self.view_is) at c.requires in
    let top = noted_top c.self.inside.stack.now c.self.inside.tops.items c.args.device c.index.result c.index-2.result.now c.self.invariant.tops_are within c.index.ensures
    (get_or_read c.self.inside.tops.items c.index.result c.index-2.result.now (omega (arith, within, c.index.ensures, c.self.invariant.tops_are.all)) c.index-2.ensures false) c.if-not-index.false in
    rw (← c.self.view_is) top

pub returns-clause-answered : goal.returns-clause-answered
returns-clause-answered g c =
    let inside = c.self.inside in let request = c.args.request.now in let did = c.in-Ok.ensures in let going = c.self.invariant.going c.if-self.false in
    let device = c.args.device in let runs = c.in-Ok.runs.items in
    let within = rw (← c.self.view_is) at c.requires in
    let top = noted_top c.self.inside.stack.now c.self.inside.tops.items c.args.device c.index.result c.index-2.result.now c.self.invariant.tops_are within c.index.ensures
    (get_or_read c.self.inside.tops.items c.index.result c.index-2.result.now (omega (arith, within, c.index.ensures, c.self.invariant.tops_are.all)) c.index-2.ensures false) c.if-not-index.false in
    let are = answers_after inside.stack.now inside.player.stack.now inside.start inside.mapper inside.player.playing.values.disks.items inside.asked inside.writes.items request device runs going did.answers.are in
    rw (← c.self.view_is) (record {
      answers = record {
        are = are;
        maximal = did.answers.maximal;
        one = λ others maximal same. one_runs others runs maximal did.answers.maximal (same ∙ sym are);
        on = rw going.mapper_stack at did.answers.on;
      };
      own = λ reads. rw are (own_answers inside.stack.now inside.start inside.asked (whole_request request device) c.requests_are_alone.ensures c.self.invariant.tidy c.self.invariant.fits going.asked_are top refl reads);
      exact = λ ample intact reads within. rw are (exact_answers inside.stack.now inside.start inside.asked (whole_request request device) c.nothing_is_lost.ensures.lost c.nothing_is_lost.ensures.exact ample intact c.self.invariant.tidy going.asked_are top refl reads within);
      asked = c.add.ensures;
      going = c.if-self.false;
      goes_on = refl;
    })
