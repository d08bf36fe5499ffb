-- The unread bytes of a file that a load reads.
use Rattle.dmremap.specs.Base.{ℕ, List, [], Option, None, Some}
use Rattle.dmremap.specs.declared.part_file.Stage.{Stage}
use Rattle.dmremap.specs.declared.part_file.Stage.TheVariants.{Ended, Open, Unopened}

-- the unread bytes of a file, if std knows them; none are left after the end of the file
abbrev pub left_of : {F : Type 0} → (F → Option (List ℕ)) → Stage F → Option (List ℕ)
left_of remaining Unopened = None
left_of remaining (Open file opened) = remaining file
left_of remaining (Ended opened) = Some []
