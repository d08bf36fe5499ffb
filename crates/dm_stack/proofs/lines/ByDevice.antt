-- Lists made from the lines of devices, one device after the other.
use Rattle.dm_stack.proofs.Prelude.{ℕ, List, [], Option, Some, None, arith, refl, sym, ap, ◌∙◌, get_or, length, map, option_map, slice_get, flat_map, range_with_len, flat_map-append, append-nil, get_or-map, slice_get-map, slice_get_read, Line, DeviceSpec, ResolvedLine, ResolvedDevice, Description, lines_at, lines_or_none, resolved_device, resolved_line}
use Rattle.dm_stack.proofs.checks.SnapshotIds.{range_more}
use Rattle.std.specs.Prelude.{◌≡◌, ◌+◌, ◌<◌, ◌∷◌, ◌++◌}

-- the list made from one device more
pub lines_next : {X : Type 0} (make : ℕ → Line → List X) (stack : Description) (id : ℕ) (before after : List X) → before ≡ flat_map (λ d. flat_map (make d) (lines_at stack d)) (range_with_len 0 id) → after ≡ before ++ flat_map (make id) (lines_at stack id)
    → after ≡ flat_map (λ d. flat_map (make d) (lines_at stack d)) (range_with_len 0 (id + 1))
lines_next {X} make stack id before after so_far e =
    let all : ℕ → List X = λ d. flat_map (make d) (lines_at stack d) in
    cc (e, so_far, append-nil (all id), sym (flat_map-append all (range_with_len 0 id) (id ∷ [])), ap (flat_map all) (sym (range_more id)))

pub device_next : {X : Type 0} (make : ℕ → Line → List X) (stack : Description) (id : ℕ) (device : DeviceSpec) (before after : List X) → id < length stack.devices → device ≡ get_or stack.devices id device
    → before ≡ flat_map (λ d. flat_map (make d) (lines_at stack d)) (range_with_len 0 id) → after ≡ before ++ flat_map (make id) device.lines → after ≡ flat_map (λ d. flat_map (make d) (lines_at stack d)) (range_with_len 0 (id + 1))
device_next make stack id device before after within is so_far e =
    let at : slice_get stack.devices id ≡ Some device = slice_get_read stack.devices (length stack.devices) id device refl within is in
    lines_next make stack id before after so_far (cc (e, ap lines_or_none at))

-- the element at an index of a mapped list is the image of the element at that index
pub made_at : {X Y : Type 0} (f : X → Y) (xs : List X) (ys : List Y) (i : ℕ) (x : X) (y : Y) → ys ≡ map f xs → i < length xs → x ≡ get_or xs i x → get_or ys i y ≡ f x
made_at {X} {Y} f xs ys i x y made within is = ap (λ (list : List Y). get_or list i y) made ∙ get_or-map f xs i x y within ∙ ap f (sym is)

-- the lines with ids of a device are made from its lines
pub table_is : (stack : Description) (devices : List DeviceSpec) (by_ids : List ResolvedDevice) (id : ℕ) (device : DeviceSpec) (found : ResolvedDevice) (lines : List Line) (resolved : List ResolvedLine) → devices ≡ stack.devices → by_ids ≡ map (resolved_device stack) stack.devices
    → id < length devices → device ≡ get_or devices id device → lines ≡ device.lines → resolved ≡ (get_or by_ids id found).table → resolved ≡ map (resolved_line stack) lines
table_is stack devices by_ids id device found lines resolved all made within is of from =
    let there : id < length stack.devices = omega (arith, within, ap length all) in
    let here : device ≡ get_or stack.devices id device = is ∙ ap (λ (list : List DeviceSpec). get_or list id device) all in
    let same = made_at (resolved_device stack) stack.devices by_ids id device found made there here in
    rw (from, same, of)

table_of : (stack : Description) (device : Option DeviceSpec) (found : ResolvedDevice) → option_map (resolved_device stack) device ≡ Some found → found.table ≡ map (resolved_line stack) (lines_or_none device)
table_of stack None found is = absurd cc
table_of stack (Some device) found is = let same : resolved_device stack device ≡ found = cc in rw (← same)

-- the table of the device with this id
pub table_at : (stack : Description) (by_ids : List ResolvedDevice) (id : ℕ) (found : ResolvedDevice) → by_ids ≡ map (resolved_device stack) stack.devices → id < length by_ids → found ≡ get_or by_ids id found → found.table ≡ map (resolved_line stack) (lines_at stack id)
table_at stack by_ids id found made within is =
    table_of stack (slice_get stack.devices id) found (sym (slice_get-map (resolved_device stack) stack.devices id) ∙ ap (λ (list : List ResolvedDevice). slice_get list id) (sym made) ∙ slice_get_read by_ids (length by_ids) id found refl within is)
