-- How a command exits: its status and its message.
use Rattle.dmremap.specs.Base.{ℕ, Bool, true, false, List, Result, Ok, Err, codes, load_message, memory_message, Ending, earlier_message, ending_message, refused_request, write_faults, stop_message, NameFault, name_message, name_refusal, Exit, Refusal, BadRequest, Done, ReadFault, WriteFault}
use Rattle.dm_table.specs.declared.load.load_fault.LoadKind.{LoadKind}
use Rattle.dm_table.specs.declared.load.load_fault.LoadKind.TheVariants as kinds
use Rattle.lvm_volume.specs.declared.fault.NameFault.TheVariants as names
use Rattle.dmremap.specs.declared.exit.Exit.TheVariants as exits
use Rattle.dmremap.specs.declared.exit.Refusal.TheVariants as refusals
use Rattle.dmremap.specs.declared.status.TheConstants.{STATUS_BAD_REQUEST, STATUS_DONE, STATUS_MEMORY, STATUS_READ_FAULT, STATUS_REFUSED, STATUS_STOPPED, STATUS_WRITE_FAULT}
use Rattle.std.specs.Prelude.{◌≡◌, ◌≢◌}

-- ---- exit statuses

-- the exit status of a load that is refused
abbrev pub load_status : LoadKind → ℕ
load_status kinds.Memory = STATUS_MEMORY
load_status kind = STATUS_REFUSED

-- the exit status for a name that can't be built
abbrev pub name_status : NameFault → ℕ
name_status names.Memory = STATUS_MEMORY
name_status fault = STATUS_REFUSED

-- the exit status of a refused command
abbrev pub refusal_status : Refusal → ℕ
refusal_status (refusals.Load fault) = load_status fault.kind
refusal_status (refusals.Name fault) = name_status fault
refusal_status refusal = STATUS_REFUSED

-- the command is refused because memory ran out
abbrev pub IsOutOfMemory : Refusal → Type 0
IsOutOfMemory refusal = refusal_status refusal ≡ STATUS_MEMORY

-- the exit status of a run of requests with this ending
abbrev pub ending_status : Ending → ℕ
ending_status Done = STATUS_DONE
ending_status (BadRequest number word) = STATUS_BAD_REQUEST
ending_status ReadFault = STATUS_READ_FAULT
ending_status WriteFault = STATUS_WRITE_FAULT

-- the exit status of a command
abbrev pub exit_status : Exit → ℕ
exit_status (exits.Refused refusal) = refusal_status refusal
exit_status (exits.Ended ending) = ending_status ending
exit_status (exits.NotTop number) = STATUS_BAD_REQUEST
exit_status exits.Memory = STATUS_MEMORY
exit_status (exits.Stopped stop) = STATUS_STOPPED

-- the exit reports neither a failed output nor that memory ran out
abbrev pub IsPlain : Exit → Type 0
IsPlain exit = (exit_status exit ≢ STATUS_WRITE_FAULT) × (exit_status exit ≢ STATUS_MEMORY)

-- ---- exit messages

-- the message of a refused command
abbrev pub refusal_message : Refusal → List ℕ
refusal_message (refusals.Load fault) = load_message fault
refusal_message (refusals.Head message) = message.items
refusal_message (refusals.Store message) = message.items
refusal_message (refusals.Name fault) = name_message fault
refusal_message (refusals.Earlier fault) = earlier_message fault
refusal_message refusals.Split = name_refusal (codes "split")
refusal_message refusals.Untidy = codes "dmremap: replay: untidy\n"
refusal_message refusals.Device = codes "dmremap: device: unknown\n"
refusal_message refusals.PastEnd = codes "dmremap: device: range\n"

-- the message of a command; empty if the command did all that was asked
abbrev pub exit_message : Exit → List ℕ
exit_message (exits.Refused refusal) = refusal_message refusal
exit_message (exits.Ended ending) = ending_message ending
exit_message (exits.NotTop number) = refused_request number (codes "not top")
exit_message exits.Memory = memory_message
exit_message (exits.Stopped stop) = stop_message stop

-- ---- the output at an exit

-- whether the command was refused, and so wrote nothing
abbrev pub is_refused : Exit → Bool
is_refused (exits.Refused refusal) = true
is_refused _ = false

-- whether the output is flushed at the exit: not if the command was refused, nor after a write that failed
abbrev pub is_flushed : Exit → Bool
is_flushed (exits.Refused refusal) = false
is_flushed (exits.Ended WriteFault) = false
is_flushed _ = true

-- how many writes failed before this exit: one if the exit is a write fault, else none
abbrev pub failed_writes : Exit → ℕ
failed_writes (exits.Ended ending) = write_faults ending
failed_writes _ = 0

-- the exit of a command that wrote all of its text, or whose write failed
abbrev pub exit_after : {E : Type 0} → Result (Unit {0}) E → Exit
exit_after (Ok done) = exits.Ended Done
exit_after (Err fault) = exits.Ended WriteFault
