use Rattle.dmremap.proofs.Prelude.{None, ap, refl, sym, ◌∙◌, IfErr, disk_contents, stored_state, IsOutOfMemory, IsBegunAt, start_at}
use Rattle.dmremap.specs.Whole.{Refuses}
use Rattle.dmremap.proofs.BegunLemmas.{handed_on, out_begun}
use Rattle.dmremap.proofs.prepared.begin_stored.Goals as goal
use Rattle.std.specs.Prelude.{◌≡◌}

pub returns-in_err-prepared-clause-begun : goal.returns-in_err-prepared-clause-begun
returns-in_err-prepared-clause-begun g c = λ held seen.
    let start = start_at c.args.stack.now (stored_state c.args.stack.now (disk_contents c.args.places.now held)) in
    handed_on (λ result. IsBegunAt c.args.stack.now None start result) _ _ c.from_residual.ensures.1 (out_begun c.args.stack.now None start _ c.in_err-prepared.ensures.memory)

pub returns-in_err-prepared-clause-memory : goal.returns-in_err-prepared-clause-memory
returns-in_err-prepared-clause-memory g c = handed_on (λ result. IfErr result (λ why. IsOutOfMemory why → c.args.images.now ≡ c.args.images.now)) _ _ c.from_residual.ensures.1 (λ memory. refl)

pub returns-in-Ok-clause-begun : goal.returns-in-Ok-clause-begun
returns-in-Ok-clause-begun g c = λ held seen. (c.read_stores.new.mapper.state, ap (start_at c.args.stack.now) (sym (c.in-Ok.ensures.stored held seen)), refl, refl)

pub returns-clause-begun : goal.returns-clause-begun
returns-clause-begun g c = λ held seen other. ap (start_at c.args.stack.now) (sym (c.in-Err.ensures.stored held seen)) ∙ ap Refuses (sym c.message.ensures)
