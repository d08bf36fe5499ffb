use Rattle.dm_stack.proofs.Prelude.{ℕ, List, [], not, map, arith, rules, ap, sym, ◌∙◌, string_bytes, length-map, map-append, is_same, names_in}
use Rattle.dm_stack.proofs.names.NameLemmas.{any_names}
use Rattle.dm_stack.proofs.names.KeyLemmas.{key_added, last_of, places_more}
use Rattle.dm_stack.proofs.names.name_index.NameIndex.add.Goals as goal
use Rattle.dm_stack.proofs.names.name_index.NameIndex.add.Goals.{in-Ok-true, in-Ok-false, in-Err}
use Rattle.std.specs.Prelude.{◌≡◌, ◌∷◌, ◌++◌}

pub invariant_of-self : goal.invariant_of-self
invariant_of-self c =
    let keys = c.self.inside.names.keys in
    let names = names_in c.self.inside.names in
    let name = c.args.name.now in
    let key = c.in_ok-name.name in
    let after : c.insert.new.self.keys ≡ keys ++ key ∷ [] = key_added (λ one other. is_same (string_bytes one) (string_bytes other)) keys c.insert.new.self.keys key c.in-Ok-true.field-0 c.in-Ok-true.field-0-test c.in-Ok-true.ensures.added c.in-Ok-true.ensures.keys in
    let more : names_in c.insert.new.self ≡ names ++ name ∷ [] = ap (map string_bytes) after ∙ map-append string_bytes keys (key ∷ []) ∙ ap (λ (last : List ℕ). names ++ last ∷ []) c.in_ok-name.ensures.ok in
    record {
      distinct = search rules;
      places =
          rw more
          (c.put.ensures (names ++ name ∷ []) (places_more names (name ∷ []) c.self.inside.places.items c.self.invariant.places)
          (λ short. record {
            name = name;
            key = rw (← c.as_bytes.ensures.value) (c.of.ensures.key (omega (arith, short, c.of.ensures.len)));
            found = rw (c.len.ensures.len, ← length-map keys string_bytes) (last_of names name);
          }));
    }

pub returns-clause-new : goal.returns-clause-new
returns-clause-new c = elim c.match-insert.branch [
  | in-Ok-true w ↦ rw (w.result-is, ← c.in_ok-name.ensures.ok, ← c.self.view_is) (sym w.in-Ok-true.field-0-test ∙ w.in-Ok-true.ensures.added ∙ ap not (any_names _ c.self.inside.names.keys))
  | in-Ok-false w ↦ rw (w.result-is, ← c.in_ok-name.ensures.ok, ← c.self.view_is) (sym w.in-Ok-false.field-0-test ∙ w.in-Ok-false.ensures.added ∙ ap not (any_names _ c.self.inside.names.keys))
  | in-Err w ↦ rw w.result-is tt
]
