use Rattle.dm_stack.proofs.checks.LoadLemmas.{handed, memory_if, refused_if}
use Rattle.dm_stack.proofs.checks.OneFault.{never_both, one_fault}
use Rattle.dm_stack.proofs.stack.Stack.load.Goals as goal

pub returns-in_err-checked-clause-fault : goal.returns-in_err-checked-clause-fault
returns-in_err-checked-clause-fault c =
    handed _ _ _ c.from_residual.ensures.1 (rw (← c.deref.ensures.value, ← c.deref-2.ensures.value) (λ other. refused_if _ _ c.in_err-checked.ensures.fault other))

pub returns-in_err-checked-clause-memory : goal.returns-in_err-checked-clause-memory
returns-in_err-checked-clause-memory c = handed _ _ _ c.from_residual.ensures.1 (λ memory. memory_if _ _ c.in_err-checked.ensures.fault memory)

pub returns-in_err-checked-clause-one : goal.returns-in_err-checked-clause-one
returns-in_err-checked-clause-one c = one_fault

pub returns-in_err-checked-clause-never : goal.returns-in_err-checked-clause-never
returns-in_err-checked-clause-never c = never_both

pub returns-clause-one : goal.returns-clause-one
returns-clause-one c = one_fault

pub returns-clause-never : goal.returns-clause-never
returns-clause-never c = never_both
