-- Laws about texts whose bytes all pass a test: if the test implies a property, every byte has it; and names are ASCII.
use Rattle.dm_table.specs.Base.{ℕ, Bool, true, nat_le, not, List, [], length, All, IsTrue, list_all, AllByRecursion, IsAscii, arith}
use Rattle.std.proofs.lemmas.Bool.{and_parts}
use Rattle.std.proofs.lemmas.Bool.Decides.{nat_tests}
use Rattle.std.proofs.lemmas.List.Elements.{All-from_recursion}
use Rattle.std.proofs.lemmas.Str.Ascii.{IsAscii-from_all}
use Rattle.dm_table.specs.words.Name.{is_device_byte, is_device_name, is_disk_byte, is_disk_name, names_device}
use Rattle.std.specs.Prelude.{◌≡◌, ◌<◌, ◌∷◌}

-- ---- texts whose bytes all pass a test

each : (test : ℕ → Bool) (Q : ℕ → Type 0) → ((b : ℕ) → test b ≡ true → Q b) → (text : List ℕ) → list_all test text ≡ true → AllByRecursion Q text
each test Q says [] h = tt
each test Q says (b ∷ text) h = let a = and_parts (test b) (list_all test text) h in (says b a.0, each test Q says text a.1)

-- if each byte that passes a test has property Q, then all bytes of a text have Q if they all pass the test
pub All-list_all : (test : ℕ → Bool) (Q : ℕ → Type 0) → ((b : ℕ) → test b ≡ true → Q b) → (text : List ℕ) → list_all test text ≡ true → All Q text
All-list_all test Q says text h = All-from_recursion Q text (each test Q says text h)

ascii : (test : ℕ → Bool) → ((b : ℕ) → test b ≡ true → b < 128) → (text : List ℕ) → list_all test text ≡ true → IsAscii text
ascii test says text h = IsAscii-from_all text (All-list_all test (λ b. b < 128) says text h)

device_byte : (b : ℕ) → is_device_byte b ≡ true → b < 128
device_byte b h = grind (arith, nat_tests)

disk_byte : (b : ℕ) → is_disk_byte b ≡ true → b < 128
disk_byte b h = grind (arith, nat_tests)

pub ascii-device_name : (text : List ℕ) → IsTrue (is_device_name text) → IsAscii text
ascii-device_name text h =
    let a = and_parts (nat_le 1 (length text)) _ h in
    let b = and_parts (nat_le (length text) 127) (list_all is_device_byte text) a.1 in
    ascii is_device_byte device_byte text b.1

pub ascii-disk_name : (text : List ℕ) → IsTrue (is_disk_name text) → IsAscii text
ascii-disk_name text h =
    let a = and_parts (nat_le 1 (length text)) _ h in
    let b = and_parts (nat_le (length text) 255) _ a.1 in
    let c = and_parts (list_all is_disk_byte text) (not (names_device text)) b.1 in
    ascii is_disk_byte disk_byte text c.0
