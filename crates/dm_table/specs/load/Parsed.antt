-- The contract of a parser: the parser returns what the text describes, or the first fault of the first check that finds any.
use Rattle.dm_table.specs.Base.{List, None, Some, Result, Ok, IfOk, IfErr, OnOk, Part, Memory, LoadFault}
use Rattle.std.specs.Global.{Vec}
use Rattle.dm_table.specs.load.LoadFault.{Answers, IsMemoryFault, first_fault}
use Rattle.std.specs.Prelude.{◌≡◌, ◌≢◌}

-- the contract of a parser's answer for a part: `describes` says which values the text describes, and `checks` are the checks of the text in order
pub record IsParsed {X : Type 0} (part : Part) (describes : List X → Type 0) (checks : List (List LoadFault)) (answer : Result (Vec X) LoadFault) : Type 0 where
  -- an accepted text describes the values that are returned, and every text that describes values is accepted unless memory runs out
  pub accepted : IfOk answer (λ v. describes v.items)
  pub only : (values : List X) → describes values → Answers part (λ v. v.items) answer (Ok values)
  -- no text describes two different lists of values
  pub unique : (a b : List X) → describes a → describes b → a ≡ b
  -- a text is accepted only if no check finds a fault, and else refused for the first fault of the first check that finds any
  pub sound : OnOk answer (first_fault checks ≡ None)
  pub fault : IfErr answer (λ f. f.kind ≢ Memory → first_fault checks ≡ Some f)
  pub memory : IfErr answer (λ f. f.kind ≡ Memory → IsMemoryFault part f)
