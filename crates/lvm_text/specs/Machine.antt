-- A state machine over tokens. A proof shows that it accepts exactly the tokens that can still become a text.
use Rattle.lvm_text.specs.Base.{ℕ, suc, Bool, false, List, [], Option, Some, None, is_some, option_and_then, nat_lt}
use Rattle.lvm_text.specs.Token.{Token, Word, Open, Close, ListOpen, ListClose, Equals, Comma, TokenAtLine}
use Rattle.lvm_text.specs.Grammar.{scalar_of, is_key}
use Rattle.lvm_text.specs.declared.syntax.Stage.{Stage}
use Rattle.lvm_text.specs.declared.syntax.Stage.TheVariants as at
use Rattle.std.specs.Prelude.{◌-◌, ◌==◌, ◌∷◌, if◌then◌else◌}

-- how many sections are open, and how far the current value has been read
abbrev pub State : Type 0
State = ℕ × Stage

-- the state `next` if the token is a scalar, else None
abbrev pub scalar_then : Token → State → Option State
scalar_then t next = if is_some (scalar_of t) then Some next else None

-- the state after a token, or None if the token isn't allowed at this stage; `d` is how many sections are open
abbrev pub stage_after : ℕ → Stage → Token → Option State
stage_after d at.Key (Word w) = if is_key w then Some (d, at.AfterKey) else None
stage_after d at.Key Close = if nat_lt 0 d then Some (d - 1, at.Key) else None
stage_after d at.Key _ = None
stage_after d at.AfterKey Open = Some (suc d, at.Key)
stage_after d at.AfterKey Equals = Some (d, at.Content)
stage_after d at.AfterKey _ = None
stage_after d at.Content ListOpen = Some (d, at.First)
stage_after d at.Content t = scalar_then t (d, at.Key)
stage_after d at.First ListClose = Some (d, at.Key)
stage_after d at.First t = scalar_then t (d, at.After)
stage_after d at.After ListClose = Some (d, at.Key)
stage_after d at.After Comma = Some (d, at.Next)
stage_after d at.After _ = None
stage_after d at.Next t = scalar_then t (d, at.After)

-- the state after all of the tokens, or None if one of them isn't allowed where it is
abbrev pub run : ℕ → Stage → List TokenAtLine → Option State
run d p [] = Some (d, p)
run d p (t ∷ ts) = option_and_then (λ s. run s.0 s.1 ts) (stage_after d p t.0)

-- a text may end in this state: no section is open and no value is unfinished
abbrev pub is_over : ℕ → Stage → Bool
is_over d at.Key = d == 0
is_over d _ = false
