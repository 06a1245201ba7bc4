-- The units of a DMAR (Intel Virtualization Technology for Directed I/O 4.0, chapter 8) and of an IVRS (AMD I/O
-- Virtualization Technology (IOMMU) Specification 3.08, section 5.2), each as it is there, and what each names.
use Rattle.std.specs.Prelude.{ℕ, ◌==◌, Bool, List, length, filter, map, replicate, slice_get, Option, Some, None, Result, Ok, if◌then◌else◌, ok_or, unwrap_or}
use Rattle.acpi_base.specs.Words.{◌>>=◌, filled_part}
use Rattle.acpi_iommu.specs.Words.{alias_of, block_kind, blocks_of, drhd_at, entries_of, entry_kind, enumeration_id, extended_of, first_id, is_ivhd, ivhd_at, kind_of, last_id, path_of, scope_flags, scope_kind, scopes_of, settings_of, special_of, start_bus, structures_of, unique_id, unique_id_format}
use Rattle.acpi_c_lib.specs.Answers.{put_from}
use Rattle.acpi_c_devices.specs.Iommu.{block_record, dmar_in, ivrs_in, unit_record}
use Rattle.acpi_c_devices.specs.Types.{DmarScope, DmarUnit, Hop, IvrsEntry, IvrsUnit, SpecialDevice, Refusal, Source, NoIommu}

-- ---- the DMAR

-- whether a structure is of this type
abbrev pub is_of_type : ℕ → List ℕ → Bool
is_of_type kind e = kind_of e == kind

-- the unit that a DRHD, type 0, is
abbrev pub drhd_shown : List ℕ → Option DmarUnit
drhd_shown e = if is_of_type 0 e then Some (unit_record (drhd_at e)) else None

-- the structure of this type at an index, counted from 0
abbrev pub structure_in : ℕ → List ℕ → ℕ → Option (List ℕ)
structure_in kind table index = slice_get (filter (is_of_type kind) (structures_of table)) index

abbrev pub no_hop : Hop
no_hop = record { device = 0; function = 0 }

-- the first 16 hops of a path, and zeros after them
abbrev pub path_shown : List Hop → List Hop
path_shown path = put_from (replicate 16 no_hop) 0 path

abbrev pub scope_record : List ℕ → DmarScope
scope_record s = record {
  path_length = length (path_of s);
  scope_type = scope_kind s;
  flags = scope_flags s;
  enumeration_id = enumeration_id s;
  bus = start_bus s;
  path = path_shown (path_of s);
  reserved = replicate 4 0;
}

abbrev pub structure_scopes_below : Source → ℕ → ℕ → Result (List DmarScope) Refusal
structure_scopes_below s kind index = do
  table ← dmar_in s
  structure ← ok_or (structure_in kind table index) NoIommu
  Ok (map scope_record (scopes_of structure))

-- of a unit, which is a DRHD
abbrev pub dmar_scopes_below : Source → ℕ → Result (List DmarScope) Refusal
dmar_scopes_below s index = structure_scopes_below s 0 index

-- ---- the IVRS

-- whether a block is an IVHD
abbrev pub is_ivhd_block : List ℕ → Bool
is_ivhd_block b = is_ivhd (block_kind b)

abbrev pub ivhd_shown : List ℕ → Option IvrsUnit
ivhd_shown b = if is_ivhd_block b then Some (block_record (ivhd_at b)) else None

-- the IVHD at an index, counted from 0
abbrev pub ivhd_in : List ℕ → ℕ → Option (List ℕ)
ivhd_in table index = slice_get (filter is_ivhd_block (blocks_of table)) index

-- eight bytes of an ACPI HID device, type 0xF0; zeros of others
abbrev pub hid_part : List ℕ → ℕ → List ℕ
hid_part e offset = if entry_kind e == 0xf0 then filled_part e offset 8 else replicate 8 0

-- a special device's fields, or of another entry zeros and the alias, if it has one
abbrev pub special_or : List ℕ → SpecialDevice
special_or e = unwrap_or (special_of e) (record { handle = 0; source = unwrap_or (alias_of e) 0; variety = 0 })

abbrev pub entry_shown : List ℕ → IvrsEntry
entry_shown e = record {
  unique_id_length = length (unique_id e);
  extended_settings = unwrap_or (extended_of e) 0;
  first = first_id e;
  last = last_id e;
  source_id = (special_or e).source;
  entry_type = entry_kind e;
  settings = settings_of e;
  handle = (special_or e).handle;
  variety = (special_or e).variety;
  hardware_id = hid_part e 4;  -- Hardware ID
  compatible_id = hid_part e 12;  -- Compatible ID
  unique_id_format = unwrap_or (unique_id_format e) 0;
  unique_id = filled_part (unique_id e) 0 32;
  reserved = 0;
}

abbrev pub ivrs_entries_below : Source → ℕ → Result (List IvrsEntry) Refusal
ivrs_entries_below s index = do
  table ← ivrs_in s
  block ← ok_or (ivhd_in table index) NoIommu
  Ok (map entry_shown (entries_of block))
