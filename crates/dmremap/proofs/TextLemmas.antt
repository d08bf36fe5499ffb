-- What `metadata images` answers.
use Rattle.dmremap.proofs.Prelude.{ℕ, List, Some, Result, Ok, Err, length, option_map, refl, sym, ap, slice_get, ◌∙◌, LoadFault, Paths, DiskPath, Delivery, part_read, Contents, HeadRefusal, AllSaid, heads_of, Answer, End, Tells, end_of, Refusal, load_status, refusal_status, IsStoppedBy, disk_message, list_in, listed_disks, PrintsImages, heads_text, images_text, text_answer, Prints, SaidBy, answer_said, STATUS_MEMORY, Refused}
use Rattle.dm_table.specs.declared.load.load_fault.LoadKind.TheVariants as kinds
use Rattle.lvm_head.specs.declared.fault.HeadFault.TheVariants as faults
use Rattle.dmremap.specs.declared.exit.Refusal.TheVariants as refusals
use Rattle.dmremap.proofs.AnswerLemmas.{end_refused}
use Rattle.std.specs.Prelude.{◌≡◌, ◌≢◌}

-- the heads of the listed disks settle the answer
text_said : (paths : Delivery) (held : Contents) (listed : List DiskPath) (heads : Result AllSaid HeadRefusal) → list_in (part_read Paths paths) ≡ Some (Ok listed) → heads_of (listed_disks listed held) (length listed) ≡ heads → images_text paths held ≡ Some (heads_text listed heads)
text_said paths held listed heads is said = rw (is, said) refl

-- the LVM2 text of the heads is printed
pub heads_say : (paths : Delivery) (held : Contents) (listed : List DiskPath) (all : AllSaid) (text : List ℕ) → list_in (part_read Paths paths) ≡ Some (Ok listed) → heads_of (listed_disks listed held) (length listed) ≡ Ok all → text ≡ all.text
    → (answer : Answer) → SaidBy (λ said. Prints text ≡ said) answer → PrintsImages paths held answer
heads_say paths held listed all text is said same answer says = gives ∙ ap Some (ap answer_said says.1 ∙ says.2)
  where
    gives : option_map text_answer (images_text paths held) ≡ Some (text_answer (Ok text))
    gives = ap (option_map text_answer) (text_said paths held listed (Ok all) is said) ∙ rw same refl

-- a refused list is reported
pub list_tells : (paths : Delivery) (held : Contents) (fault : LoadFault) → (fault.kind ≢ kinds.Memory → list_in (part_read Paths paths) ≡ Some (Err fault)) → refusal_status (refusals.Load fault) ≢ STATUS_MEMORY
    → PrintsImages paths held (Tells (end_of (Refused (refusals.Load fault))))
list_tells paths held fault refused other =
    let read = refused (λ memory. other (ap load_status memory)) in
    let told : option_map text_answer (images_text paths held) ≡ Some (Tells _) = rw read refl in
    told ∙ ap (λ (end : End). Some (Tells end)) (sym (end_refused (refusals.Load fault) other))

-- a refused head is reported
pub head_tells : (paths : Delivery) (held : Contents) (listed after : List DiskPath) (refusal : HeadRefusal) (why : Refusal) → list_in (part_read Paths paths) ≡ Some (Ok listed)
    → (refusal.fault ≢ faults.Memory → heads_of (listed_disks listed held) (length listed) ≡ Err refusal) → after ≡ listed → IsStoppedBy (slice_get after refusal.disk) refusal.fault why → refusal_status why ≢ STATUS_MEMORY
    → PrintsImages paths held (Tells (end_of (Refused why)))
head_tells paths held listed after refusal (refusals.Load fault) is said same stopped other = absurd (other (ap load_status stopped))
head_tells paths held listed after refusal (refusals.Head message) is said same stopped other =
    let gives : PrintsImages paths held _ = ap (option_map text_answer) (text_said paths held listed (Err refusal) is (said stopped.0)) in
    let message_is : message.items ≡ disk_message (slice_get listed refusal.disk) refusal.fault = rw same at stopped.1 in
    rw message_is gives
head_tells paths held listed after refusal why is said same stopped other = absurd stopped
