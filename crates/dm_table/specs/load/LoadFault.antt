-- The checks of a load, which run in a fixed order, and the one fault that a load reports.
use Rattle.dm_table.specs.Base.{ℕ, suc, Bool, not, nat_le, List, [], length, Option, Some, None, Result, Ok, Err, list_all, Part, Place, LoadKind, Memory, NotText, LoadFault}
use Rattle.dm_table.specs.declared.load.load_fault.LoadKind.TheVariants.{Syntax, Field, Name}
use Rattle.dm_table.specs.words.Bytes.{code}
use Rattle.std.specs.Prelude.{◌≡◌, ◌≢◌, ◌+◌, ◌==◌, ◌&&◌, ◌||◌, ◌∷◌, ◌++◌, if◌then◌else◌}

-- the fault of this kind at this place
abbrev pub fault : LoadKind → Place → LoadFault
fault kind at = record { kind = kind; at = at }

-- the fault of this kind at the line or device with this number in a part
abbrev pub fault_at : Part → LoadKind → ℕ → LoadFault
fault_at part kind number = fault kind (record { part = part; number = number })

-- the fault for running out of memory while a part was being read
abbrev pub IsMemoryFault : Part → LoadFault → Type 0
IsMemoryFault part fault = fault ≡ fault_at part Memory 0

-- the first fault that a check found, or the fault of later checks if this check found none
abbrev pub first_or : List LoadFault → Option LoadFault → Option LoadFault
first_or [] later = later
first_or (fault ∷ faults) later = Some fault

-- the first fault of the first check that finds any, where each check is given as the list of its faults, in order
abbrev pub first_fault : List (List LoadFault) → Option LoadFault
first_fault [] = None
first_fault (check ∷ checks) = first_or check (first_fault checks)

-- a fault of this kind for each element of a list for which `bad` holds, in order
abbrev pub faults_by : {X : Type 0} → LoadKind → (X → Place) → (X → Bool) → List X → List LoadFault
faults_by kind place bad [] = []
faults_by kind place bad (x ∷ xs) = if bad x then fault kind (place x) ∷ faults_by kind place bad xs else faults_by kind place bad xs

-- a fault of this kind for each element of a list for which `bad` holds; the elements are numbered from n in the part
abbrev pub faults_from : {X : Type 0} → Part → LoadKind → (X → Bool) → ℕ → List X → List LoadFault
faults_from part kind bad n [] = []
faults_from part kind bad n (x ∷ xs) =
    if bad x then fault_at part kind n ∷ faults_from part kind bad (suc n) xs else faults_from part kind bad (suc n) xs

-- the fault as an error if there is a fault, else the value
abbrev pub unless : {F X : Type 0} → Option F → X → Result X F
unless (Some fault) x = Err fault
unless None x = Ok x

-- a call returned the expected result `reading`, compared through `view`, or a Memory fault because memory ran out
abbrev pub Answers : {X Y : Type 0} → Part → (X → Y) → Result X LoadFault → Result Y LoadFault → Type 0
Answers part view (Ok x) reading = reading ≡ Ok (view x)
Answers part view (Err fault) reading = (fault.kind ≡ Memory → IsMemoryFault part fault) × (fault.kind ≢ Memory → reading ≡ Err fault)

-- ---- the checks that the text formats share

-- every byte of the text is from 0x20 to 0x7E, or a newline
abbrev pub is_printable : List ℕ → Bool
is_printable text = list_all (λ b. b == code "\n" || (nat_le 32 b && nat_le b 126)) text

-- a NotText fault for each piece of a text, such as a line, that fails the test `is_text`; pieces are numbered from 1
abbrev pub untexts : (is_text : List ℕ → Bool) → Part → List (List ℕ) → List LoadFault
untexts is_text part pieces = faults_from part NotText (λ piece. not (is_text piece)) 1 pieces

-- a NotText fault for each piece of a text that contains a byte other than printable ASCII and newlines
abbrev pub not_text : Part → List (List ℕ) → List LoadFault
not_text = untexts is_printable

-- a Syntax fault at line n if bytes follow the last newline of a text, else no fault
abbrev pub unended : Part → ℕ → List ℕ → List LoadFault
unended part n [] = []
unended part n (byte ∷ bytes) = fault_at part Syntax n ∷ []

-- the checks of a part's rows, in order: Syntax for each row's form and for an unterminated last line, then Field for values, then Name for names
abbrev pub row_checks : {X : Type 0} → Part → (is_row has_values has_names : X → Bool) → List X → (rest : List ℕ) → List (List LoadFault)
row_checks part is_row has_values has_names rows rest =
    (faults_from part Syntax (λ row. not (is_row row)) 1 rows ++ unended part (length rows + 1) rest)
    ∷ faults_from part Field (λ row. not (has_values row)) 1 rows
    ∷ faults_from part Name (λ row. not (has_names row)) 1 rows
    ∷ []
