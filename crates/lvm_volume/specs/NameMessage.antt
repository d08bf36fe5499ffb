-- The messages for names that can't be built from their parts.
use Rattle.lvm_volume.specs.Base.{ℕ, List, codes, memory_message, NameFault, Letter, HyphenFirst, Empty, Long}
use Rattle.lvm_volume.specs.declared.fault.NameFault.TheVariants.{Memory}
use Rattle.std.specs.Prelude.{◌++◌}

-- a message about a name, with this word for the fault
abbrev pub name_refusal : List ℕ → List ℕ
name_refusal word = codes "dmremap: name: " ++ word ++ codes "\n"

-- the message for a fault of the parts of a name; if memory ran out, it is the message of any command that is out of memory
abbrev pub name_message : NameFault → List ℕ
name_message Letter = name_refusal (codes "letter")
name_message HyphenFirst = name_refusal (codes "hyphen")
name_message Empty = name_refusal (codes "empty")
name_message Long = name_refusal (codes "long")
name_message Memory = memory_message
