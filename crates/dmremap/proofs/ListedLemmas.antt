-- The sectors of a listed disk, as reads of its image give them.
use Rattle.dmremap.proofs.Prelude.{◌∙◌, ℕ, List, Some, Result, Ok, Err, slice_get, refl, sym, DiskPath, Contents, in_extent, AreRead, ReadFault, listed_disks}
use Rattle.std.specs.Prelude.{◌≡◌, ◌+◌, ◌↔◌}

here : (held : Contents) (paths : List DiskPath) (path : DiskPath) (disk sector : ℕ) → slice_get paths disk ≡ Some path → listed_disks paths held disk sector ≡ in_extent path.extent (held path.at.number path.file) sector
here held paths path disk sector is = rw is refl

-- what is read of an image is what the disk holds, and what the disk holds is what is read of the image
pub read_there : (sectors : ℕ → Result (List ℕ) ReadFault) (held : Contents) (paths : List DiskPath) (path : DiskPath) (disk sector : ℕ) (result : Result (Unit {0}) ReadFault) (bytes : List ℕ)
    → ((at : ℕ) → sectors at ≡ listed_disks paths held disk at) → slice_get paths disk ≡ Some path → AreRead (in_extent path.extent (held path.at.number path.file)) sector result bytes ↔ AreRead sectors sector result bytes
read_there sectors held paths path disk sector (Ok done) bytes same is =
    let each : (i : ℕ) → sectors (sector + i) ≡ in_extent path.extent (held path.at.number path.file) (sector + i) = λ i. same (sector + i) ∙ here held paths path disk (sector + i) is in
    (λ read i below. each i ∙ read i below, λ read i below. sym (each i) ∙ read i below)
read_there sectors held paths path disk sector (Err fault) bytes same is =
    let first = same sector ∙ here held paths path disk sector is in
    (λ unread len. first ∙ unread len, λ unread len. sym first ∙ unread len)
