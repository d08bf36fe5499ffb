-- Reading the heads of several disks, one more disk at a time.
use Rattle.lvm_head.proofs.Prelude.{ℕ, suc, Result, Ok, refl, arith, HeadFault, Contents, ◌>>=◌, AllSaid, Said, at_disk, head_of, heads_from, joined}
use Rattle.std.specs.Prelude.{◌≡◌, ◌+◌, ◌-◌, ◌<◌}

pub heads_more : (held : Contents) (all : AllSaid) (disk count : ℕ) (next : Result Said HeadFault) (after : Result AllSaid HeadFault) → disk < count → head_of (held disk) ≡ next → (next >>= joined all) ≡ after
    → heads_from held all disk (count - disk) ≡ (at_disk disk after >>= (λ joined. heads_from held joined (disk + 1) (count - (disk + 1))))
unfolding heads_from
heads_more held all disk count next after below here is = let k : count - disk ≡ suc (count - (disk + 1)) = omega (arith, below) in rw (k, here, is) refl

pub heads_done : (held : Contents) (all : AllSaid) (disk left : ℕ) → left ≡ 0 → heads_from held all disk left ≡ Ok all
unfolding heads_from
heads_done held all disk left none = rw none refl
