-- Which devices a block of an IVRS is for, by its device entries (section 5.2).
use Rattle.std.specs.Prelude.{ℕ, ◌+◌, ◌==◌, ◌&&◌, ◌||◌, Bool, nat_le, nat_lt, List, Option, None, Some, if◌then◌else◌, [], unwrap_or}
use Rattle.acpi_base.specs.Words.{field_of, part}
use Rattle.acpi_iommu.specs.Ivrs.{entry_bytes}
use Rattle.acpi_iommu.specs.Pieces.{left, pieces, rest_after}
use Rattle.acpi_iommu.specs.Texts.{up_to_zero}
use Rattle.acpi_iommu.specs.declared.ivrs.entry.DeviceEntry.{DeviceEntry}
use Rattle.acpi_iommu.specs.declared.ivrs.entry.SpecialDevice.{SpecialDevice}
use Rattle.acpi_iommu.specs.declared.ivrs.entry.Entries.{Entries}
use Rattle.acpi_iommu.specs.declared.pieces.PieceIter.{PieceIter}

-- Type of an entry: 1 all, 2 select, 3 start of range, 0x42 alias select, 0x43 alias start of range, 0x46 extended
-- select, 0x47 extended start of range, 0x48 special device, 0xF0 ACPI HID device
abbrev pub entry_kind : List ℕ → ℕ
entry_kind e = field_of e 0 1

-- how many bytes an entry has by itself: of an ACPI HID device 22 and its UID length, at 21, more, and of
-- others by bits 6 and 7 of the type
abbrev pub own_size : List ℕ → ℕ
own_size e =
    if entry_kind e == 0xf0 then 22 + field_of e 21 1
    else if nat_lt (entry_kind e) 0x40 then 4
    else if nat_lt (entry_kind e) 0x80 then 8
    else if nat_lt (entry_kind e) 0xc0 then 16
    else 32

-- a start of a range, which its end, type 4 with four bytes, has to follow at once
abbrev pub is_start : List ℕ → Bool
is_start e = (entry_kind e == 3) || (entry_kind e == 0x43) || (entry_kind e == 0x47)

-- the length of the entry at the front of bytes: with a start its end belongs to it, and no end is by itself
abbrev pub entry_size : List ℕ → Option ℕ
entry_size e =
    if is_start e then (if field_of e (own_size e) 1 == 4 then Some (own_size e + 4) else None)
    else if entry_kind e == 4 then None
    else Some (own_size e)

-- the entries of a block, and the rest in which none begins
abbrev pub entries_cut : List ℕ → List (List ℕ) × List ℕ
entries_cut b = pieces entry_size (entry_bytes b)

abbrev pub entries_of : List ℕ → List (List ℕ)
entries_of b = (entries_cut b).0

-- ---- one entry

-- padding, of 4 bytes or of 8: type 0 or 0x40
abbrev pub is_padding : List ℕ → Bool
is_padding e = (entry_kind e == 0) || (entry_kind e == 0x40)

-- DeviceID, at 1; all devices, a special device and padding have none: 0
abbrev pub first_id : List ℕ → ℕ
first_id e = if is_padding e || (entry_kind e == 1) || (entry_kind e == 0x48) then 0 else field_of e 1 2

-- the last one of a range: DeviceID of its end; of all devices 0xffff; of others the first
abbrev pub last_id : List ℕ → ℕ
last_id e =
    if is_start e then field_of e (own_size e + 1) 2
    else if entry_kind e == 1 then 0xffff
    else first_id e

-- DTE Setting, at 3; padding has none: 0
abbrev pub settings_of : List ℕ → ℕ
settings_of e = if is_padding e then 0 else field_of e 3 1

abbrev pub source_id : List ℕ → ℕ
source_id e = field_of e 5 2  -- Source DeviceID

-- that of an alias, type 0x42 or 0x43
abbrev pub alias_of : List ℕ → Option ℕ
alias_of e = if (entry_kind e == 0x42) || (entry_kind e == 0x43) then Some (source_id e) else None

-- Extended DTE Setting, at 4, of types 0x46 and 0x47
abbrev pub extended_of : List ℕ → Option ℕ
extended_of e = if (entry_kind e == 0x46) || (entry_kind e == 0x47) then Some (field_of e 4 4) else None

-- a special device, type 0x48
abbrev pub special_of : List ℕ → Option SpecialDevice
special_of e =
    if entry_kind e == 0x48 then Some (record {
      handle = field_of e 4 1;  -- Handle
      source = source_id e;
      variety = field_of e 7 1;  -- Variety
    }) else None

-- of an ACPI HID device, type 0xF0: the texts Hardware ID at 4 and Compatible ID at 12, up to the first zero of 8 bytes
-- each, Unique ID format at 20, and Unique ID, of as many bytes as its length, at 21, at 22

abbrev pub hardware_id : List ℕ → List ℕ
hardware_id e = if entry_kind e == 0xf0 then up_to_zero (part e 4 8) else []

abbrev pub compatible_id : List ℕ → List ℕ
compatible_id e = if entry_kind e == 0xf0 then up_to_zero (part e 12 8) else []

abbrev pub unique_id_format : List ℕ → Option ℕ
unique_id_format e = if entry_kind e == 0xf0 then Some (field_of e 20 1) else None

abbrev pub unique_id : List ℕ → List ℕ
unique_id e = if entry_kind e == 0xf0 then part e 22 (field_of e 21 1) else []

-- ---- which devices

-- an entry of one device: type 2, 0x42, 0x46 or 0xF0
abbrev pub is_select : List ℕ → Bool
is_select e = (entry_kind e == 2) || (entry_kind e == 0x42) || (entry_kind e == 0x46) || (entry_kind e == 0xf0)

-- whether an entry covers the device of an id: type 1 every one, a range those from its first to its last, a special
-- device its source
abbrev pub covers : ℕ → List ℕ → Bool
covers id e =
    (entry_kind e == 1)
    || ((is_select e || is_start e) && nat_le (first_id e) id && nat_le id (last_id e))
    || ((entry_kind e == 0x48) && (source_id e == id))

-- the id that the unit sees of a device that an entry covers: the alias, or its own
abbrev pub source_for : ℕ → List ℕ → ℕ
source_for id e = unwrap_or (alias_of e) id

-- ---- a walk

-- what an item shows: its bytes, with the end's of a range
abbrev pub bytes_of_entry : DeviceEntry → List ℕ
bytes_of_entry e = e.bytes.now

-- the entries that are still to come
abbrev pub entries_left : PieceIter Entries → List (List ℕ)
entries_left s = left entry_size s

-- the rest after them, in which none begins
abbrev pub rest_left : PieceIter Entries → List ℕ
rest_left s = rest_after entry_size s
