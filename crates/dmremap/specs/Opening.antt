-- How a command opens, and what it answers once it has opened.
use Rattle.dmremap.specs.Base.{List, ℕ, Result, Ok, Err, Memory, Delivery, Description, Refused, Refusal, Format}
use Rattle.dmremap.specs.declared.exit.Refusal.TheVariants as refusals
use Rattle.dmremap.specs.Answers.{Answer, Tells, end_of, refused_by}
use Rattle.dmremap.specs.Load.{Load, PartsGive, RefusedBy, SoundAs}
use Rattle.std.specs.Prelude.{◌≡◌, ◌≢◌}

-- how a command opens: with the outcome of a load, or with a message that stops the command before any load
pub data Opening : Type 0 where
  Loaded : Load → Opening
  Stops : (message : List ℕ) → Opening

-- a source and a disk list open with the outcome of their load, and never with a message
abbrev pub PartsOpen : Format → (source disks : Delivery) → Opening → Type 0
PartsOpen format source disks (Loaded load) = PartsGive format source disks load
PartsOpen format source disks (Stops message) = ⊥

-- how a command answers an opening: it reports the fault or the message that stopped it, or, if a stack was loaded, it answers as `Makes` allows
abbrev pub OpeningMakes : (Makes : Description → Answer → Type 0) → Opening → Answer → Type 0
OpeningMakes Makes (Loaded (RefusedBy fault)) answer = answer ≡ Tells (end_of (Refused (refusals.Load fault)))
OpeningMakes Makes (Loaded (SoundAs stack)) answer = Makes stack answer
OpeningMakes Makes (Stops message) answer = answer ≡ Tells (refused_by message)

-- some opening that `Opens` allows leads to this answer
pub record Opened (Opens : Opening → Type 0) (Makes : Description → Answer → Type 0) (answer : Answer) : Type 0 where
  pub opening : Opening
  pub opens : Opens opening
  pub makes : OpeningMakes Makes opening answer

-- what opening returns: a stack, or the fault or message that stopped it; running out of memory is always allowed
abbrev pub IsOpened : (Opens : Opening → Type 0) → Result Description Refusal → Type 0
IsOpened Opens (Ok stack) = Opens (Loaded (SoundAs stack))
IsOpened Opens (Err (refusals.Load fault)) = fault.kind ≢ Memory → Opens (Loaded (RefusedBy fault))
IsOpened Opens (Err (refusals.Head message)) = Opens (Stops message.items)
IsOpened Opens (Err refusal) = ⊥
