-- What was read of FILE, DISKS, PATHS and the images when a command opened.
use Rattle.dmremap.specs.Base.{InputPast, delivery, IsReadOn, Description, Contents}
use Rattle.dmremap.specs.declared.parts.Parts.{Parts}
use Rattle.dmremap.specs.Inputs.{IsReadOnIf, delivered_if, delivery_if}
use Rattle.dmremap.specs.Load.{SoundAs}
use Rattle.dmremap.specs.Opening.{Loaded, PartsOpen}
use Rattle.dmremap.specs.StoredStart.{ReadInTurn}
use Rattle.std.specs.Prelude.{◌≡◌}

-- FILE and DISKS opened this stack; PATHS and the images are untouched
pub record ArePartsOpened {S D P I : Type 0} (source_past : S → InputPast) (disks_past : D → InputPast) (stack : Description) (old new : Parts S D P I) : Type 0 where
  pub opened : PartsOpen old.format (delivery (source_past old.source) (source_past new.source)) (delivery_if disks_past old.disks new.disks) (Loaded (SoundAs stack))
  pub source : IsReadOn (source_past old.source) (source_past new.source)
  pub disks : IsReadOnIf disks_past old.disks new.disks
  pub paths : new.paths ≡ old.paths
  pub images : new.images ≡ old.images

-- no part was read after its end or a fault, and each was read only after the parts before it were accepted
pub record ArePartsRead {S D P I : Type 0} (source_past : S → InputPast) (disks_past : D → InputPast) (paths_past : P → InputPast) (IsSeen : I → Contents → Type 0) (old new : Parts S D P I) : Type 0 where
  pub source : IsReadOn (source_past old.source) (source_past new.source)
  pub disks : IsReadOnIf disks_past old.disks new.disks
  pub paths : IsReadOnIf paths_past old.paths new.paths
  -- PATHS is read only after a load gave a stack, and images only after PATHS said where the disks lie
  pub in_turn : ReadInTurn (PartsOpen old.format (delivery (source_past old.source) (source_past new.source)) (delivery_if disks_past old.disks new.disks)) (delivered_if paths_past old.paths new.paths) old.paths new.paths old.images new.images
  -- contents of the images that agree with every read until now agree with every earlier read, too
  pub images : (held : Contents) → IsSeen new.images held → IsSeen old.images held
