-- The fields of a volume group's metadata that are read, and their valid content (vgcfgbackup(8), lvm.conf(5)).
use Rattle.lvm_volume.specs.Base.{ℕ, Bool, true, false, not, List, [], Option, Some, None, Result, Ok, Err, nat_lt, is_some, bytes_eq, codes, decimal, length, flat_map, list_any, list_all, range_with_len, Tree, Content, Inner, Whole, Items, Scalar, Int, Text, Shown, node_of, sections_of, scalar_views, Source, LoadKind, LoadFault, IsMemoryFault, fault_at, first_or}
use Rattle.dm_table.specs.declared.load.load_fault.LoadKind.TheVariants as loads
use Rattle.lvm_volume.specs.fields.Kinds as kinds
use Rattle.lvm_volume.specs.fields.Kinds.{Kind, Condition, Always, Given, Striped, Several, Snapshot}
use Rattle.lvm_volume.specs.fields.Checks.{Check, Fields, Limits}
use Rattle.lvm_text.specs.declared.tree.Scalar.{Scalar as code_scalar}
use Rattle.std.specs.Prelude.{◌≡◌, ◌⊎◌, ◌*◌, ◌&&◌, ◌||◌, ◌==◌, ◌∷◌, ◌++◌, if◌then◌else◌}
use denote.Ref.{Bor}

-- ---- the fields of each kind of section

-- a field: its key, its kind of content, and the condition on which it is required
pub record Field : Type 0 where
  pub key : List ℕ
  pub kind : Kind
  pub when : Condition

-- a field, given its key, its kind of content and its condition
abbrev pub field : List ℕ → Kind → Condition → Field
field key kind when = record { key = key; kind = kind; when = when }

-- a field that is always required
abbrev pub always : List ℕ → Kind → Field
always key kind = field key kind Always

-- the fields at the top of the text
abbrev pub top_fields : List Field
top_fields = always (codes "contents") kinds.Title ∷ always (codes "version") kinds.Version ∷ []

-- the fields in a volume group's section
abbrev pub group_fields : List Field
group_fields =
    always (codes "extent_size") kinds.Positive
    ∷ always (codes "physical_volumes") kinds.Section
    ∷ field (codes "logical_volumes") kinds.Section Given
    ∷ []

-- the fields in a physical volume's section
abbrev pub physical_fields : List Field
physical_fields =
    always (codes "device") kinds.Text
    ∷ always (codes "dev_size") kinds.Number
    ∷ always (codes "pe_start") kinds.Number
    ∷ always (codes "pe_count") kinds.Extents
    ∷ []

-- the fields in a logical volume's section, apart from the sections of its segments
abbrev pub volume_fields : List Field
volume_fields = always (codes "status") kinds.Texts ∷ always (codes "segment_count") kinds.Number ∷ []

-- the field of segment number i in a logical volume's section
abbrev pub segment_field : ℕ → Field
segment_field i = always (codes "segment" ++ decimal i) kinds.Section

-- the fields in a segment's section, in the order in which they are checked
abbrev pub segment_fields : List Field
segment_fields =
    always (codes "start_extent") kinds.Extents
    ∷ always (codes "extent_count") kinds.Extents
    ∷ always (codes "type") kinds.TypeWord
    ∷ field (codes "stripe_count") kinds.Positive Striped
    ∷ field (codes "stripes") kinds.Stripes Striped
    ∷ field (codes "stripe_size") kinds.Number Several
    ∷ field (codes "chunk_size") kinds.Number Snapshot
    ∷ field (codes "origin") kinds.Text Snapshot
    ∷ field (codes "cow_store") kinds.Text Snapshot
    ∷ []

-- ---- the content under a key of a section

-- the integer if the content is an integer, or else 0
abbrev pub number_in : Content → ℕ
number_in (Whole (Int n)) = n
number_in _ = 0

-- the string if the content is a string, or else an empty string
abbrev pub text_in : Content → List ℕ
text_in (Whole (Text text)) = text
text_in _ = []

-- the elements of the list if the content is a list, or else none
abbrev pub items_in : Content → List Scalar
items_in (Items items) = items
items_in _ = []

-- the keys and sections inside if the content is a section, or else none
abbrev pub sections_in : Content → List (List ℕ × Tree)
sections_in (Inner tree) = sections_of tree.values
sections_in _ = []

-- a list of the section if the content is a section, or else an empty list
abbrev pub section_in : Content → List Tree
section_in (Inner tree) = tree ∷ []
section_in _ = []

-- what `view` returns for the content of a node, or `other` if there is no node
abbrev pub held : {X : Type 0} → X → (Content → X) → Option Shown → X
held other view None = other
held other view (Some shown) = view shown.content

-- the integer under a key, or 0 if there is no integer
abbrev pub number_at : List ℕ → Tree → ℕ
number_at key tree = held 0 number_in (node_of key tree.values)

-- the string under a key, or an empty string if there is no string
abbrev pub text_at : List ℕ → Tree → List ℕ
text_at key tree = held [] text_in (node_of key tree.values)

-- the elements of the list under a key, or none if there is no list
abbrev pub items_at : List ℕ → Tree → List Scalar
items_at key tree = held [] items_in (node_of key tree.values)

-- the keys and sections inside the section under a key, or none if there is no section
abbrev pub sections_at : List ℕ → Tree → List (List ℕ × Tree)
sections_at key tree = held [] sections_in (node_of key tree.values)

-- a list of the section under a key, or an empty list if there is no section
abbrev pub section_at : List ℕ → Tree → List Tree
section_at key tree = held [] section_in (node_of key tree.values)

-- the segments of a volume in the order of their numbers, from segment1 on
abbrev pub segments_of : Tree → List Tree
segments_of volume = flat_map (λ i. section_at (codes "segment" ++ decimal i) volume) (range_with_len 1 (number_at (codes "segment_count") volume))

-- ---- in which sections a field is required

-- the segment is of type striped
abbrev pub is_striped : Tree → Bool
is_striped segment = bytes_eq (text_at (codes "type") segment) (codes "striped")

-- the segment is of type snapshot
abbrev pub is_snapshot : Tree → Bool
is_snapshot segment = bytes_eq (text_at (codes "type") segment) (codes "snapshot")

-- the field is checked in this section: its condition requires it there, or its condition is Given and its key is present
abbrev pub is_asked : Condition → List ℕ → Tree → Bool
is_asked Always key tree = true
is_asked Given key tree = is_some (node_of key tree.values)
is_asked Striped key tree = is_striped tree
is_asked Several key tree = is_striped tree && nat_lt 1 (number_at (codes "stripe_count") tree)
is_asked Snapshot key tree = is_snapshot tree

-- ---- which content of a field is valid

-- the content is a string that passes the test
abbrev pub is_text_with : (List ℕ → Bool) → Content → Bool
is_text_with test (Whole (Text text)) = test text
is_text_with test _ = false

-- the content is an integer that passes the test
abbrev pub is_number_with : (ℕ → Bool) → Content → Bool
is_number_with test (Whole (Int n)) = test n
is_number_with test _ = false

-- the content is a list that passes the test
abbrev pub is_list_with : (List Scalar → Bool) → Content → Bool
is_list_with test (Items items) = test items
is_list_with test _ = false

-- the content is a section
abbrev pub is_section : Content → Bool
is_section (Inner tree) = true
is_section _ = false

-- the scalar is a string
abbrev pub is_text : Scalar → Bool
is_text (Text text) = true
is_text (Int n) = false

-- the string names a type of segment that is supported
abbrev pub is_type : List ℕ → Bool
is_type text = bytes_eq text (codes "striped") || (bytes_eq text (codes "zero") || (bytes_eq text (codes "error") || bytes_eq text (codes "snapshot")))

-- the list consists of pairs, each of a string and an integer
abbrev pub are_pairs : List Scalar → Bool
are_pairs [] = true
are_pairs (Text name ∷ Int extent ∷ items) = are_pairs items
are_pairs _ = false

-- the content is valid for a field of this kind in the section `tree`
abbrev pub fits : Kind → Tree → Content → Bool
fits kinds.Title tree content = is_text_with (λ text. bytes_eq text (codes "Text Format Volume Group")) content
fits kinds.Version tree content = is_number_with (λ n. n == 1) content
fits kinds.Number tree content = is_number_with (λ n. true) content
fits kinds.Positive tree content = is_number_with (λ n. nat_lt 0 n) content
fits kinds.Extents tree content = is_number_with (λ n. true) content
fits kinds.Text tree content = is_text_with (λ text. true) content
fits kinds.Texts tree content = is_list_with (list_all is_text) content
fits kinds.TypeWord tree content = is_text_with is_type content
fits kinds.Stripes tree content = is_list_with (λ items. are_pairs items && 2 * number_at (codes "stripe_count") tree == length items) content
fits kinds.Section tree content = is_section content

-- ---- the limit of 2^50 for integers; it applies to numbers of extents also when they are counted in sectors

-- the greatest number of sectors or extents: 2^50
abbrev pub most : ℕ
most = 1125899906842624

-- the kind is a number of extents, to which the limit also applies when it is counted in sectors
abbrev pub counts_extents : Kind → Bool
counts_extents kinds.Extents = true
counts_extents _ = false

-- the scalar is an integer above the limit
abbrev pub is_far_scalar : Scalar → Bool
is_far_scalar (Text text) = false
is_far_scalar (Int n) = nat_lt most n

-- the content is an integer above the limit, a number of extents that is above it when counted in sectors, or a list with an integer above it
abbrev pub is_far : ℕ → Kind → Content → Bool
is_far extent_size kind (Whole (Int n)) = nat_lt most n || (counts_extents kind && nat_lt most (n * extent_size))
is_far extent_size kind (Whole (Text text)) = false
is_far extent_size kind (Items items) = list_any is_far_scalar items
is_far extent_size kind (Inner tree) = false

-- ---- what a check finds at the fields of a section

-- the first of a list of faults, if there is one
abbrev pub first_of : List LoadFault → Option LoadFault
first_of faults = first_or faults None

-- the result of a check: it passed if `found` is None, or else it failed with that fault; it may also have failed because memory ran out
abbrev pub IsChecked : {X : Type 0} → Result X LoadFault → (found : Option LoadFault) → Type 0
IsChecked (Ok done) found = found ≡ None
IsChecked (Err fault) found = (found ≡ Some fault) ⊎ IsMemoryFault Source fault

-- a list of one fault, on a line of the metadata text
abbrev pub source_faults : LoadKind → ℕ → List LoadFault
source_faults kind line = fault_at Source kind line ∷ []

-- the kind of fault that a check reports
abbrev pub load_kind : Check → LoadKind
load_kind Fields = loads.Field
load_kind (Limits extent_size) = loads.Limit

-- the check refuses this content for a field of this kind, in the section `tree`
abbrev pub is_wrong : Check → Kind → Tree → Content → Bool
is_wrong Fields kind tree content = not (fits kind tree content)
is_wrong (Limits extent_size) kind tree content = is_far extent_size kind content

-- the fault of a missing field, on the section's line; only the check Fields reports it
abbrev pub missing : Check → ℕ → List LoadFault
missing Fields line = source_faults loads.Field line
missing (Limits extent_size) line = []

-- the faults of a check at one key: on the section's line if the key is missing, or else on the line of the key
abbrev pub node_faults : Check → Kind → Tree → Option Shown → List LoadFault
node_faults check kind tree None = missing check tree.line
node_faults check kind tree (Some shown) = if is_wrong check kind tree shown.content then source_faults (load_kind check) shown.line else []

-- the faults that a check finds at one field of a section
unfoldable pub field_faults : Check → Tree → Field → List LoadFault
field_faults check tree f = if is_asked f.when f.key tree then node_faults check f.kind tree (node_of f.key tree.values) else []

-- ---- the order of the fields

-- the faults that a check finds at the fields of a section, in the order of the fields
abbrev pub fields_faults : Check → Tree → List Field → List LoadFault
fields_faults check tree fields = flat_map (field_faults check tree) fields

-- the faults that a check finds at a volume: at its fields, at the keys of its segments, and then at the fields of each segment
unfoldable pub volume_faults : Check → Tree → List LoadFault
volume_faults check volume =
    fields_faults check volume volume_fields
    ++ (flat_map (λ i. field_faults check volume (segment_field i)) (range_with_len 1 (number_at (codes "segment_count") volume))
    ++ flat_map (λ segment. fields_faults check segment segment_fields) (segments_of volume))

-- the faults that a check finds at the fields of all physical volumes
abbrev pub physicals_faults : Check → List (List ℕ × Tree) → List LoadFault
physicals_faults check physicals = flat_map (λ physical. fields_faults check physical.1 physical_fields) physicals

-- the faults that a check finds at the fields of all logical volumes and their segments
abbrev pub volumes_faults : Check → List (List ℕ × Tree) → List LoadFault
volumes_faults check volumes = flat_map (λ volume. volume_faults check volume.1) volumes

-- the faults that a check finds at a group: at its own fields, at its physical volumes, and then at its logical volumes
unfoldable pub group_faults : Check → Tree → List LoadFault
group_faults check group =
    fields_faults check group group_fields
    ++ (physicals_faults check (sections_at (codes "physical_volumes") group)
    ++ volumes_faults check (sections_at (codes "logical_volumes") group))

-- the faults that a check finds at the groups of a text, which must have exactly one; if there is a second group, the fault is on the line of that group
unfoldable pub one_group_faults : Check → ℕ → List (List ℕ × Tree) → List LoadFault
one_group_faults check line [] = missing check line
one_group_faults check line (group ∷ []) = group_faults check group.1
one_group_faults check line (group ∷ second ∷ more) = missing check second.1.line

-- the faults that a check finds in a metadata text, at all the fields that are read
abbrev pub faults_of_fields : Check → Tree → List LoadFault
faults_of_fields check top = fields_faults check top top_fields ++ one_group_faults check top.line (sections_of top.values)

-- ---- sections and lists as contracts see them

-- the keys and sections inside a section, or none if the section is missing
abbrev pub inner_sections : Option (Bor Tree) → List (List ℕ × Tree)
inner_sections None = []
inner_sections (Some section) = sections_of section.now.values

-- the section behind a reference
abbrev pub section_view : Bor Tree → Tree
section_view section = section.now

-- the elements of a list, or none if the list is missing
abbrev pub items_view : Option (Bor (List code_scalar)) → List Scalar
items_view None = []
items_view (Some items) = scalar_views items.now
