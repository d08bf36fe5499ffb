-- What PATHS delivered opens at most one thing, for given contents of images.
use Rattle.dmremap.proofs.Prelude.{List, Option, Some, None, Result, Ok, Err, sym, ap, ◌∙◌, LoadFault, Paths, DiskPath, Delivery, part_read, Description, described, never_both, Contents, HeadRefusal, AllSaid, OwnedFault, HeadsOpen, ImagesOpen, OpensBy, SaidOpens, StackGives, ended_by, list_in, listed_disks, owners_of, Load, RefusedBy, SoundAs, Loaded, Opening, Stops, one_fault as one_refusal}
use Rattle.lvm_volume.proofs.OwnedLemmas.{gives_one}
use Rattle.lvm_volume.specs.declared.owned_metadata.OwnedFault.TheVariants as owned
use Rattle.lvm_volume.specs.OwnedMetadata.{Tables}
use Rattle.std.specs.Prelude.{◌≡◌}

one_stack : (stack : Description) (a b : Load) → StackGives stack a → StackGives stack b → a ≡ b
one_stack stack (RefusedBy f) (RefusedBy g) x y = ap RefusedBy (one_refusal stack f g x y)
one_stack stack (RefusedBy f) (SoundAs b) x y = absurd (never_both stack f y.1 x)
one_stack stack (SoundAs a) (RefusedBy g) x y = absurd (never_both stack g x.1 y)
one_stack stack (SoundAs a) (SoundAs b) x y = ap SoundAs (x.0 ∙ sym y.0)

one_said : (paths : List DiskPath) (said : Result Tables OwnedFault) (a b : Opening) → SaidOpens paths said a → SaidOpens paths said b → a ≡ b
one_said paths (Ok tables) (Loaded a) (Loaded b) x y = ap Loaded (one_stack (described tables.0 tables.1) a b x y)
one_said paths (Ok tables) (Stops message) b x y = absurd x
one_said paths (Ok tables) (Loaded a) (Stops message) x y = absurd y
one_said paths (Err (owned.Load fault)) a b x y = x ∙ sym y
one_said paths (Err (owned.Disk disk fault)) a b x y = x ∙ sym y

one_heads : (paths : List DiskPath) (heads : Result AllSaid HeadRefusal) (a b : Opening) → HeadsOpen paths heads a → HeadsOpen paths heads b → a ≡ b
one_heads paths (Ok all) a b x y =
    let same = gives_one (owners_of paths all) all.text x.0 y.0 x.1 y.1 in
    one_said paths y.0 a b (rw same at x.2) y.2
one_heads paths (Err refusal) a b x y = x ∙ sym y

one_opening : (held : Contents) (list : Option (Result (List DiskPath) LoadFault)) (a b : Opening) → OpensBy held list a → OpensBy held list b → a ≡ b
one_opening held (Some (Ok paths)) a b x y = x.2 ∙ ap (ended_by paths (listed_disks paths held)) (one_heads paths _ x.0 y.0 x.1 y.1) ∙ sym y.2
one_opening held (Some (Err fault)) a b x y = x ∙ sym y
one_opening held None a b x y = absurd x

pub one_images : (paths : Delivery) (held : Contents) (a b : Opening) → ImagesOpen paths held a → ImagesOpen paths held b → a ≡ b
one_images paths held = one_opening held (list_in (part_read Paths paths))
