-- The report of `check`: counts, depth, and whether the stack is tidy.
use Rattle.dm_stack.specs.Base.{ℕ, List, [], Option, Some, None, codes, decimal, length, code}
use Rattle.dm_stack.specs.declared.claims.clash.Clash.{Clash}
use Rattle.dm_stack.specs.declared.id.Lower.{Lower}
use Rattle.dm_stack.specs.declared.id.Lower.TheVariants.{Device, Disk}
use Rattle.dm_stack.specs.claims.Claims.{IsFirstClash, claims}
use Rattle.dm_stack.specs.Description.{Description, disk_name_at, name_at}
use Rattle.dm_stack.specs.checks.Depth.{stack_depth}
use Rattle.std.specs.Prelude.{◌≡◌, ◌∷◌, ◌++◌}

-- the text by which a line of a table refers to a device or a disk
abbrev pub lower_text : Description → Lower → List ℕ
lower_text stack (Device id) = codes "/dev/mapper/" ++ name_at stack id
lower_text stack (Disk id) = disk_name_at stack id

-- the last line of a report: the first clash of claims, or `tidy`
abbrev pub tidiness_text : Description → Option Clash → List ℕ
tidiness_text stack None = codes "tidy"
tidiness_text stack (Some clash) =
    codes "clash " ++ lower_text stack clash.lower ++ code " " ∷ decimal clash.sector ++ code " " ∷ name_at stack clash.first
    ++ code " " ∷ name_at stack clash.second

-- the four lines of a report: the number of devices, the number of disks, the depth, and the clash or `tidy`
abbrev pub report_text : Description → Option Clash → List ℕ
report_text stack found =
    codes "devices " ++ decimal (length stack.devices) ++ code "\n" ∷ codes "disks " ++ decimal (length stack.disks)
    ++ code "\n" ∷ codes "depth " ++ decimal (stack_depth stack) ++ code "\n" ∷ tidiness_text stack found ++ code "\n" ∷ []

-- the text is the last line of the report of this stack, without a newline
pub record SaysTidiness (stack : Description) (text : List ℕ) : Type 0 where
  pub found : Option Clash
  pub clash : IsFirstClash (claims stack) found
  pub is : tidiness_text stack found ≡ text

-- the text is the whole report of this stack
pub record IsReport (stack : Description) (text : List ℕ) : Type 0 where
  pub found : Option Clash
  pub clash : IsFirstClash (claims stack) found
  pub is : report_text stack found ≡ text
