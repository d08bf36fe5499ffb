-- What a mapper relies on in a sink: which pieces the sink accepts, and how its states before and after a piece are related.
use Rattle.dm_map.specs.Base.{ℕ, List, [], Result, OnOk, OnErr, fault_of, Description}
use Rattle.dm_map.specs.pieces.Units.{BlockUnit}
use Rattle.std.specs.Prelude.{◌≡◌, ◌+◌, ◌≤◌, ◌++◌}

-- what contracts see of a sink: the stack on whose disks pieces lie, the most sectors that a piece without a disk may have, and how many pieces the sink has failed at so far
pub record SinkView : Type 0 where
  pub stack : Description
  pub room : ℕ
  pub faults : ℕ

-- what contracts know about a type of sinks: the view of a sink; whether a sink received exactly these units between two states; and whether it received a part of these units and then failed
pub record SinkPast (S : Type 0) : Type 1 where
  pub view : S → SinkView
  pub took : S → List BlockUnit → S → Type 0
  pub left : S → List BlockUnit → S → Type 0

-- the laws of a sink: a sink that didn't change received no units; two lists received one after the other are one list received; and a failure during the later list is a failure during the joined list
pub record IsLawful {S : Type 0} (past : SinkPast S) : Type 0 where
  pub nothing : (s : S) → past.took s [] s
  pub took : (a b c : S) (us vs : List BlockUnit) → past.took a us b → past.took b vs c → past.took a (us ++ vs) c
  pub left : (a b c : S) (us vs : List BlockUnit) → past.took a us b → past.left b vs c → past.left a (us ++ vs) c

-- the result of handing over one piece of len sectors with these units: the sink received the units, and its room shrank by at most len; or the sink failed at the piece
pub record IsHanded {S R F : Type 0} (past : SinkPast S) (result : Result R F) (old new : S) (units : List BlockUnit) (len : ℕ) : Type 0 where
  pub took : OnOk result (past.took old units new)
  pub left : OnErr result (past.left old units new)
  pub faults : (past.view new).faults ≡ (past.view old).faults + fault_of result
  pub stack : OnOk result ((past.view new).stack ≡ (past.view old).stack)
  pub room : OnOk result ((past.view old).room ≤ (past.view new).room + len)

-- R holds for some prefix of the units, which may be empty or contain all units
pub record OfBeginning {S : Type 0} (R : S → List BlockUnit → S → Type 0) (old : S) (units : List BlockUnit) (new : S) : Type 0 where
  pub front : List BlockUnit
  pub rest : List BlockUnit
  pub whole : front ++ rest ≡ units
  pub holds : R old front new

-- the result of handing over pieces on disks that have these units together: the sink received the units, and its room did not shrink; or the sink failed after a prefix of them
pub record AreHanded {S R F : Type 0} (past : SinkPast S) (result : Result R F) (old new : S) (units : List BlockUnit) : Type 0 where
  pub took : OnOk result (past.took old units new)
  pub left : OnErr result (OfBeginning past.left old units new)
  pub faults : (past.view new).faults ≡ (past.view old).faults + fault_of result
  pub stack : OnOk result ((past.view new).stack ≡ (past.view old).stack)
  pub room : OnOk result ((past.view old).room ≤ (past.view new).room)
