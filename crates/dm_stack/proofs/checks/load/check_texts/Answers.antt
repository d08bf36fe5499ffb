-- Each check fails with its first fault when the checks before it found nothing.
use Rattle.dm_stack.proofs.Prelude.{inl, sym, take, checks_before}
use Rattle.dm_stack.proofs.checks.LoadLemmas.{found_or_memory, handed, nothing_found, refused_early}
use Rattle.dm_stack.proofs.checks.load.check_texts.Goals as goal

pub returns-in_err-check_counts-clause-fault : goal.returns-in_err-check_counts-clause-fault
returns-in_err-check_counts-clause-fault c = handed _ _ _ c.from_residual.ensures.1 (inl (refused_early _ 0 _ tt (sym c.in_err-check_counts.ensures)))

pub returns-in_err-check_numbers-clause-fault : goal.returns-in_err-check_numbers-clause-fault
returns-in_err-check_numbers-clause-fault c = handed _ _ _ c.from_residual-in_err-check_numbers.ensures.1 (inl (refused_early _ 1 _ (sym c.in_ok-check_counts.ensures, tt) (sym c.in_err-check_numbers.ensures)))

pub returns-in_err-names-clause-fault : goal.returns-in_err-names-clause-fault
returns-in_err-names-clause-fault c =
    handed _ _ _ c.from_residual-in_err-names.ensures.1 (found_or_memory c.in_err-names.field-0.0.kind
    (λ other. refused_early _ 2 _ (sym c.in_ok-check_counts.ensures, (sym c.in_ok-check_numbers.ensures, tt)) (c.in_err-names.ensures.fault other)) c.in_err-names.ensures.memory)

pub returns-clause-passed : goal.returns-clause-passed
returns-clause-passed c =
    nothing_found (take 3 (checks_before (record { devices = c.args.devices.now; disks = c.args.disks.now })))
    (sym c.in_ok-check_counts.ensures, (sym c.in_ok-check_numbers.ensures, (c.in_ok-names.ensures.apart, tt)))
