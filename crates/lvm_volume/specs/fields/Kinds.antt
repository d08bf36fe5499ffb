-- The kinds of content that fields may have, and the conditions on which fields are required.

-- the kind of content that a field may have
pub data Kind : Type 0 where
  -- the string "Text Format Volume Group", which marks the text as the metadata of a volume group
  Title : Kind
  -- the integer 1, the only known version
  Version : Kind
  -- any integer
  Number : Kind
  -- an integer of 1 or more
  Positive : Kind
  -- a number of extents: any integer, to which the limit also applies when it is counted in sectors
  Extents : Kind
  -- any string
  Text : Kind
  -- a list of strings
  Texts : Kind
  -- the type of a segment: a word that names a supported type
  TypeWord : Kind
  -- a list of pairs, each of a string and an integer; stripe_count is the number of pairs
  Stripes : Kind
  -- a section
  Section : Kind

-- the condition on which a field is required
pub data Condition : Type 0 where
  Always : Condition
  -- not required, but checked if present
  Given : Condition
  -- required in a striped segment
  Striped : Condition
  -- required in a striped segment with two stripes or more
  Several : Condition
  -- required in a snapshot segment
  Snapshot : Condition
