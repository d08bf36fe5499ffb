-- What `metadata images PATHS` answers: the LVM2 text in the heads of the listed disks, or a message.
use Rattle.dmremap.specs.Base.{ℕ, List, Option, Some, Result, Ok, Err, length, option_map, slice_get, LoadFault, Paths, DiskPath, Delivery, load_message, part_read, Done, Contents, HeadRefusal, AllSaid, heads_of, Ended}
use Rattle.dmremap.specs.Answers.{Answer, Tells, Writes, end_of, refused_by}
use Rattle.dmremap.specs.ImagesLoad.{disk_message, list_in, listed_disks}
use Rattle.std.specs.Prelude.{◌≡◌}

-- the LVM2 text found in the heads, or the message about the disk whose head is refused
abbrev pub heads_text : List DiskPath → Result AllSaid HeadRefusal → Result (List ℕ) (List ℕ)
heads_text paths (Ok all) = Ok all.text
heads_text paths (Err refusal) = Err (disk_message (slice_get paths refusal.disk) refusal.fault)

-- the LVM2 text in the heads of the listed disks, or the message that refuses the list or a head
abbrev pub listed_text : Contents → Result (List DiskPath) LoadFault → Result (List ℕ) (List ℕ)
listed_text held (Ok paths) = heads_text paths (heads_of (listed_disks paths held) (length paths))
listed_text held (Err fault) = Err (load_message fault)

-- the LVM2 text in the heads of the disks of PATHS, or a message; None if the delivered bytes don't determine either
abbrev pub images_text : (paths : Delivery) → Contents → Option (Result (List ℕ) (List ℕ))
images_text paths held = option_map (listed_text held) (list_in (part_read Paths paths))

-- the answer that writes a text, or that reports a message
abbrev pub text_answer : Result (List ℕ) (List ℕ) → Answer
text_answer (Ok text) = Writes text (Some (end_of (Ended Done)))
text_answer (Err message) = Tells (refused_by message)

-- the answer of `metadata images` for what PATHS delivered, if images hold `held`
abbrev pub PrintsImages : (paths : Delivery) → Contents → Answer → Type 0
PrintsImages paths held answer = option_map text_answer (images_text paths held) ≡ Some answer
