-- An inner section has fewer values than the section around it, so that recursion over sections ends.
use Rattle.lvm_text.specs.Prelude.{ℕ, max, List, [], arith, Values, size_of, values_of, put, Value, Entry}
use Rattle.lvm_text.specs.declared.tree.Value.TheVariants as variants
use Rattle.lvm_text.specs.declared.tree.Section.TheDeep.{deep-Entry}
use Rattle.std.specs.Prelude.{◌≤◌, ◌∷◌}
use denote.Param.Weighed.{most}
use denote.Ref.{Bor}

deep_value : (k : Bor (List ℕ)) (n : ℕ) (v : Value) (rest : Values) → max (deep-Entry (record { key = k; node = record { value = v; line = n } })) (size_of rest) ≤ size_of (put k.now n v rest)
deep_value k n (variants.Section s) rest = omega arith
deep_value k n (variants.Int i) rest = omega arith
deep_value k n (variants.Text t) rest = omega arith
deep_value k n (variants.List v) rest = omega arith

pub most_le-size_of : (es : List Entry) → max (most deep-Entry es) 0 ≤ size_of (values_of es)
most_le-size_of [] = omega arith
most_le-size_of (e ∷ es) = omega (arith, deep_value e.key e.node.line e.node.value (values_of es), most_le-size_of es)
