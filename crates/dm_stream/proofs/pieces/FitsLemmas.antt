-- Units on the disks of a stack are fewer than 2^64.
use Rattle.dm_stream.proofs.Prelude.{ℕ, arith, Description, IsSound, BlockUnit, CopyOf, FillOf, ReadOf, WriteOf, IsOnDisk, Fits, lower_small}
use Rattle.dm_stack.specs.declared.id.Lower.TheVariants as lowers
use Rattle.std.specs.Prelude.{◌<◌, ◌^◌}

-- sectors that lie on a disk of a sound stack are fewer than 2^64
few : (stack : Description) (disk sector len : ℕ) → IsSound stack → IsOnDisk stack disk sector len → len < 2 ^ 64
few stack disk sector len sound lies =
    let small = lower_small stack (lowers.Disk disk) sound in
    omega (arith, small, lies.inside)

pub fits_few : (stack : Description) (unit : BlockUnit) (len : ℕ) → IsSound stack → Fits stack unit len → len < 2 ^ 64
fits_few stack (ReadOf disk sector) len sound fits = few stack disk sector len sound fits
fits_few stack (WriteOf disk sector) len sound fits = few stack disk sector len sound fits
fits_few stack (CopyOf disk sector to to_sector) len sound fits = few stack disk sector len sound fits.0
fits_few stack (FillOf disk sector) len sound fits = few stack disk sector len sound fits
fits_few stack _ len sound fits = fits
