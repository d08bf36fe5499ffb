-- The spans of a line with ids are those of the line with names, with ids in place of names.
use Rattle.dm_stack.proofs.Prelude.{ℕ, zero, suc, Bool, true, false, cond, not, List, [], Some, None, arith, refl, ap, ◌∙◌, drop, length, map, find, is_none, nat_le, slice_get, flat_map, list_any, position_or_len, length-map, flat_map-map, map-map, leb-suc-suc, leb-suc-zero, DevRef, Line, Target, ResolvedLine, Description, device_links, is_same, lower_of, resolved_device, is_unknown, is_unknown_ref, resolved_columns, resolved_line, resolved_target, is_missing, line_claims, lower_link, names_missing, target_spans}
use Rattle.dm_table.specs.declared.tables.table.DevRef.TheVariants as refs
use Rattle.dm_table.specs.declared.tables.table.Target.TheVariants as targets
use Rattle.dm_table.specs.tables.Span as named
use Rattle.dm_stack.specs.lines.Span.{by_id, line_links, passes_end, spans}
use Rattle.dm_stack.specs.declared.lines.span.Span.{Span}
use Rattle.dm_stack.specs.declared.lines.span.Spans.{Spans}
use Rattle.dm_stack.specs.Description as by_names
use Rattle.dm_stack.specs.checks.Soundness as soundness
use Rattle.dm_stack.specs.claims.Claims as claims
use Rattle.std.specs.Prelude.{◌≡◌, ◌+◌, ◌∷◌}

pub drop_at : {X : Type 0} (xs : List X) (i : ℕ) (x : X) → Some x ≡ slice_get xs i → drop i xs ≡ x ∷ drop (i + 1) xs
drop_at [] i x e = absurd cc
drop_at {X} (first ∷ xs) zero x e = let same : first ≡ x = cc in rw same
drop_at {X} (first ∷ xs) (suc i) x e = let next : suc i + 1 ≡ suc (i + 1) = omega arith in rw next (drop_at xs i x e)

pub drop_past : {X : Type 0} (xs : List X) (i : ℕ) → None ≡ slice_get xs i → drop i xs ≡ []
drop_past [] zero e = refl
drop_past [] (suc i) e = refl
drop_past (x ∷ xs) zero e = absurd cc
drop_past (x ∷ xs) (suc i) e = drop_past xs i e

-- the spans that an iterator has not returned yet
abbrev pub spans_left : Spans → List Span
spans_left left = drop left.index (spans left.line.now)

-- Lists of images of elements, and tests that agree

pub any_map : {X Y : Type 0} (test : Y → Bool) (f : X → Y) (xs : List X) → list_any test (map f xs) ≡ list_any (λ x. test (f x)) xs
any_map test f [] = refl
any_map test f (x ∷ xs) = rw (any_map test f xs)

pub any_same : {X : Type 0} (p q : X → Bool) (xs : List X) → ((x : X) → p x ≡ q x) → list_any p xs ≡ list_any q xs
any_same p q [] same = refl
any_same p q (x ∷ xs) same = rw (same x, any_same p q xs same)

map_same : {X Y : Type 0} (f g : X → Y) (xs : List X) → ((x : X) → f x ≡ g x) → map f xs ≡ map g xs
map_same f g [] same = refl
map_same f g (x ∷ xs) same = let here = same x in let later = map_same f g xs same in rw (here, later)

flat_same : {X Y : Type 0} (f g : X → List Y) (xs : List X) → ((x : X) → f x ≡ g x) → flat_map f xs ≡ flat_map g xs
flat_same f g [] same = refl
flat_same f g (x ∷ xs) same = let here = same x in let later = flat_same f g xs same in rw (here, later)

-- The spans of a line with ids

target_are : (stack : Description) (len : ℕ) (target : Target) → target_spans len (resolved_target stack target) ≡ map (by_id stack) (named.target_spans len target)
target_are stack len (targets.Striped chunk columns) =
    let count : length (resolved_columns stack columns) ≡ length columns = length-map columns _ in
    rw (count, map-map, map-map)
target_are stack len _ = refl

pub spans_are : (stack : Description) (line : Line) → spans (resolved_line stack line) ≡ map (by_id stack) (named.spans line)
spans_are stack line = target_are stack line.len line.target

-- a test of the spans with ids is one of the spans with names
pub any_span : (test : Span → Bool) (stack : Description) (line : Line) → list_any test (spans (resolved_line stack line)) ≡ list_any (λ span. test (by_id stack span)) (named.spans line)
any_span test stack line = ap (list_any test) (spans_are stack line) ∙ any_map test (by_id stack) (named.spans line)

-- An unknown name has an id past the last

pub none_past : {X : Type 0} (test : X → Bool) (xs : List X) → nat_le (length xs) (position_or_len test xs) ≡ is_none (find test xs)
none_past test [] = refl
none_past test (x ∷ xs) = by (test x) (none_past test xs) where
  by : (b : Bool) → nat_le (length xs) (position_or_len test xs) ≡ is_none (find test xs) → nat_le (suc (length xs)) (cond (not b) (1 + position_or_len test xs) 0) ≡ is_none (cond b (Some x) (find test xs))
  by true e = leb-suc-zero (length xs)
  by false e = let one : 1 + position_or_len test xs ≡ suc (position_or_len test xs) = omega arith in rw one (leb-suc-suc (length xs) (position_or_len test xs) ∙ e)

missing_is : (stack : Description) (to : DevRef) → is_missing stack (lower_of stack to) ≡ is_unknown_ref stack to
missing_is stack (refs.Device name) = none_past (λ device. is_same device.name name) stack.devices
missing_is stack (refs.Disk name) = none_past (λ disk. is_same disk.name name) stack.disks

pub unknown_is : (stack : Description) (line : Line) → names_missing stack (resolved_line stack line) ≡ is_unknown stack line
unknown_is stack line =
    any_span (λ span. is_missing stack span.to) stack line
    ∙ any_same (λ (span : named.Span). is_missing stack (lower_of stack span.to)) (λ span. is_unknown_ref stack span.to) (named.spans line) (λ span. missing_is stack span.to)

-- What a line with ids passes, names and claims

pub past_is : (stack : Description) (line : Line) → passes_end stack (resolved_line stack line) ≡ soundness.passes_end stack line
past_is stack line = any_span _ stack line

links_are : (stack : Description) (line : Line) → line_links (resolved_line stack line) ≡ by_names.line_links stack line
links_are stack line =
    ap (flat_map (λ (span : Span). lower_link span.to)) (spans_are stack line) ∙ flat_map-map (λ (span : Span). lower_link span.to) (by_id stack) (named.spans line)

pub claims_are : (stack : Description) (device : ℕ) (line : Line) → line_claims stack device (resolved_line stack line) ≡ claims.line_claims stack device line
claims_are stack device line = ap (map _) (spans_are stack line) ∙ map-map _ (by_id stack) (named.spans line)

-- lists made from lines with ids are those made from lines with names, if they agree for each line
pub flat_lines : {X : Type 0} (stack : Description) (f : ResolvedLine → List X) (g : Line → List X) (lines : List Line) → ((line : Line) → f (resolved_line stack line) ≡ g line) → flat_map f (map (resolved_line stack) lines) ≡ flat_map g lines
flat_lines stack f g lines same = flat_map-map f (resolved_line stack) lines ∙ flat_same (λ line. f (resolved_line stack line)) g lines same

-- the links of all devices, from lines with ids
pub all_links : (stack : Description) → map (λ device. flat_map line_links device.table) (map (resolved_device stack) stack.devices) ≡ by_names.links stack
all_links stack =
    map-map _ (resolved_device stack) stack.devices ∙ map_same _ (device_links stack) stack.devices (λ device. flat_lines stack line_links (by_names.line_links stack) device.lines (links_are stack))
