use Rattle.dmremap.proofs.Prelude.{◌∙◌, option_map, sym, err_from_is_err_and, fits}
use Rattle.dmremap.proofs.EntryLemmas.{failed_at, skipped_at, written_at}
use Rattle.dmremap.proofs.explanation.write_entries.Goals as goal
use Rattle.dmremap.proofs.explanation.write_entries.Goals.{then-fits+in_ok-write_both, else-fits}

pub returns-in_err-write_both : goal.returns-in_err-write_both
returns-in_err-write_both g c =
    let fits_it = fits (option_map (λ part. part.now) c.args.part) c.args.word.now in
    let error = err_from_is_err_and c.from_residual.result c.from_residual.ensures.1 in
    let wrote = rw (c.loop-entry.invariant.1, c.as_bytes.ensures.value) at c.in_err-write_both.ensures in
    rw (error.1, error.2) (failed_at (λ entry. ((entry.0.0.now, entry.0.1.now), entry.1.now, entry.2.now)) fits_it c.args.entries.now c.loop-entry.entry-index _ c.loop-entry-test.true (sym c.fits.ensures ∙ c.if-fits.true) c.loop-entry.invariant.0 wrote)

pub loop-entry-preserved : goal.loop-entry-preserved
loop-entry-preserved g c =
    let fits_it = fits (option_map (λ part. part.now) c.args.part) c.args.word.now in
    elim c.if-fits.branch [
      | then-fits+in_ok-write_both w ↦
          let wrote = rw (c.loop-entry.invariant.1, w.as_bytes.ensures.value) at w.in_ok-write_both.ensures in
          rw (w.output-is, w.between-is) (written_at (λ entry. ((entry.0.0.now, entry.0.1.now), entry.1.now, entry.2.now)) fits_it c.args.entries.now c.loop-entry.entry-index _ c.loop-entry-test.true (sym c.fits.ensures ∙ w.if-fits.true) c.loop-entry.invariant.0 wrote)
      | else-fits w ↦
          rw (w.output-is, w.between-is) (skipped_at (λ entry. ((entry.0.0.now, entry.0.1.now), entry.1.now, entry.2.now)) fits_it c.args.entries.now c.loop-entry.entry-index _ c.loop-entry.between.now c.loop-entry-test.true (sym c.fits.ensures ∙ w.if-fits.false) c.loop-entry.invariant.0 c.loop-entry.invariant.1)
    ]
