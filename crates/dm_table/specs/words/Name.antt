-- Valid names of devices and of disks; this project allows fewer bytes than dmsetup(8).
use Rattle.dm_table.specs.Base.{ℕ, Bool, not, List, length, nat_le, nat_eq, codes, list_all, starts_with, is_ascii_digit}
use Rattle.dm_table.specs.words.Bytes.{code}
use Rattle.std.specs.Prelude.{◌==◌, ◌&&◌, ◌||◌}

-- the byte may occur in a device's name: an ASCII letter, a digit, or one of # + - . : = @ _
abbrev pub is_device_byte : ℕ → Bool
is_device_byte b =
    (nat_le 97 b && nat_le b 122) || ((nat_le 65 b && nat_le b 90) || (is_ascii_digit b
    || (b == code "#" || (b == code "+" || (b == code "-" || (b == code "." || (b == code ":" || (b == code "=" || (b == code "@" || b == code "_")))))))))

-- the text is a valid device name: 1 to 127 bytes that a device's name may contain
abbrev pub is_device_name : List ℕ → Bool
is_device_name text = nat_le 1 (length text) && (nat_le (length text) 127 && list_all is_device_byte text)

-- the byte may occur in a disk's name: from 0x21 to 0x7E, except a comma, a semicolon and a backslash
abbrev pub is_disk_byte : ℕ → Bool
is_disk_byte b = nat_le 33 b && (nat_le b 126 && not (b == code "," || (b == code ";" || b == code "\\")))

-- the prefix in a table that marks the name of a device, as opposed to a disk
abbrev pub mapper : List ℕ
mapper = codes "/dev/mapper/"

-- the text begins with /dev/mapper/, so that it names a device and not a disk
abbrev pub names_device : List ℕ → Bool
names_device text = starts_with nat_eq text mapper

-- the text is a valid disk name: 1 to 255 bytes that a disk's name may contain, not beginning with /dev/mapper/
abbrev pub is_disk_name : List ℕ → Bool
is_disk_name text = nat_le 1 (length text) && (nat_le (length text) 255 && (list_all is_disk_byte text && not (names_device text)))
