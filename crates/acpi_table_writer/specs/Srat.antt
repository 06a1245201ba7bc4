-- The bytes of a SRAT with given contents (ACPI 6.4, section 5.2.16).
use Rattle.std.specs.Prelude.{ℕ, ◌+◌, ◌*◌, ◌/◌, ◌%◌, ◌^◌, ◌==◌, ◌&&◌, Bool, not, if◌then◌else◌, List, [], ◌∷◌, ◌++◌, flat_map, nat_lt, Result, ◌≡◌, true, Option, None, Some, Ok, All, filter_map}
use Rattle.acpi_table_writer.specs.Types.{list_all, last_or, ◌>>=◌, holds, SRAT, ends_below, affinities_of, domain_of_apic, domain_of_processor, MemoryRange, WriterError, BadRange, IdOfAll, SratContents, TableIds, Field, U8, U16, U32, U64, Zeros, ApicDomain, GiccDomain}
use Rattle.acpi_table_writer.specs.Fields.{fields_bytes, Fits}
use Rattle.acpi_table_writer.specs.Spelled.{items_of}
use Rattle.acpi_table_writer.specs.Table.{bit_of, table_written, IsTableOf, IsValid}
use Rattle.acpi_table_writer.specs.declared.srat.SratContents as declared

-- the contents in the reader's ranges, by contents with a caller's records of them
abbrev pub srat_meant : {R : Type 0} → (R → MemoryRange) → declared.SratContents R → SratContents
srat_meant range c = record { apics = c.apics; giccs = c.giccs; ranges = items_of range c.ranges }

-- ---- entries, each of which has bit 0 of Flags set: Enabled

-- Processor Local APIC/SAPIC Affinity (section 5.2.16.1)
unfoldable pub local_apic_fields : ApicDomain → List Field
local_apic_fields p =
    U8 0 ∷ U8 16  -- 0: Type, 1: Length
    ∷ U8 (p.domain % 256) ∷ U8 p.local_apic_id  -- 2: Proximity Domain [7:0], 3: APIC ID
    ∷ U32 1 ∷ U8 0  -- 4: Flags, 8: Local SAPIC EID
    ∷ U8 (p.domain / 2 ^ 8 % 2 ^ 8) ∷ U16 (p.domain / 2 ^ 16)  -- 9: Proximity Domain [31:8]
    ∷ Zeros 4  -- 12: Clock Domain
    ∷ []

-- Processor Local x2APIC Affinity (section 5.2.16.3)
unfoldable pub local_x2apic_fields : ApicDomain → List Field
local_x2apic_fields p =
    U8 2 ∷ U8 24 ∷ Zeros 2  -- 0: Type, 1: Length, 2: Reserved
    ∷ U32 p.domain ∷ U32 p.local_apic_id  -- 4: Proximity Domain, 8: X2APIC ID
    ∷ U32 1 ∷ Zeros 4 ∷ Zeros 4 ∷ Zeros 0  -- 12: Flags, 16: Clock Domain, 20: Reserved
    ∷ []

-- the id has a place in the first, in which 255 means all
abbrev pub is_small : ApicDomain → Bool
is_small p = nat_lt p.local_apic_id 255

abbrev pub apic_fields : ApicDomain → List Field
apic_fields p = if is_small p then local_apic_fields p else local_x2apic_fields p

abbrev pub apic_entry : ApicDomain → List ℕ
apic_entry p = fields_bytes (apic_fields p)

-- GICC Affinity (section 5.2.16.4)
unfoldable pub gicc_fields : GiccDomain → List Field
gicc_fields p =
    U8 3 ∷ U8 18 ∷ U32 p.domain  -- 0: Type, 1: Length, 2: Proximity Domain
    ∷ U32 p.processor_uid ∷ U32 1 ∷ Zeros 4  -- 6: ACPI Processor UID, 10: Flags, 14: Clock Domain
    ∷ []

abbrev pub gicc_entry : GiccDomain → List ℕ
gicc_entry p = fields_bytes (gicc_fields p)

-- Flags: bit 0 is Enabled, bit 1 Hot Pluggable, bit 2 NonVolatile
abbrev pub range_flags : MemoryRange → ℕ
range_flags r = 1 + (2 * bit_of r.is_hot_pluggable + 4 * bit_of r.is_non_volatile)

-- Memory Affinity (section 5.2.16.2)
unfoldable pub memory_fields : MemoryRange → List Field
memory_fields r =
    U8 1 ∷ U8 40 ∷ U32 r.domain ∷ Zeros 2  -- 0: Type, 1: Length, 2: Proximity Domain, 6: Reserved
    ∷ U64 r.base ∷ U64 r.length  -- 8: Base Address Low and High, 16: Length Low and High
    ∷ Zeros 4 ∷ U32 (range_flags r) ∷ Zeros 8  -- 24: Reserved, 28: Flags, 32: Reserved
    ∷ []

abbrev pub memory_entry : MemoryRange → List ℕ
memory_entry r = fields_bytes (memory_fields r)

-- ---- the table

-- at 36 Reserved, which is 1, and at 40 Reserved
abbrev pub srat_reserved : List ℕ
srat_reserved = 1 ∷ 0 ∷ 0 ∷ 0 ∷ 0 ∷ 0 ∷ 0 ∷ 0 ∷ 0 ∷ 0 ∷ 0 ∷ 0 ∷ []

-- all entries, sort by sort
abbrev pub srat_entries : SratContents → List ℕ
srat_entries c =
    flat_map apic_entry c.apics.now ++ (flat_map gicc_entry c.giccs.now ++ flat_map memory_entry c.ranges.now)

-- after the header
abbrev pub srat_body : SratContents → List ℕ
srat_body c = srat_reserved ++ srat_entries c

-- ---- errors

-- the id, or the uid, isn't the one that means all
abbrev pub is_one_apic : ApicDomain → Bool
is_one_apic p = not (p.local_apic_id == 0xffffffff)

abbrev pub is_one_gicc : GiccDomain → Bool
is_one_gicc p = not (p.processor_uid == 0xffffffff)

-- the range has a byte, and ends below 2^64
abbrev pub is_range : MemoryRange → Bool
is_range r = nat_lt 0 r.length && ends_below r

-- the first error of the contents
abbrev pub srat_checked : SratContents → Result (Unit {0}) WriterError
srat_checked c = do
  _ ← holds (list_all is_one_apic c.apics.now) IdOfAll
  _ ← holds (list_all is_one_gicc c.giccs.now) IdOfAll
  holds (list_all is_range c.ranges.now) BadRange

-- the table, of revision 3, in so much room, or the first error
unfoldable pub srat_written : ℕ → TableIds → SratContents → Result (List ℕ) WriterError
srat_written room ids c = do
  _ ← srat_checked c
  table_written room SRAT 3 ids (srat_body c)

-- ---- which numbers have a place in an entry

pub record AreFit (c : SratContents) : Type 0 where
  pub apics : All (Fits apic_fields) c.apics.now
  pub giccs : All (Fits gicc_fields) c.giccs.now
  pub ranges : All (Fits memory_fields) c.ranges.now

-- the bytes are the table of contents whose numbers have a place, and whose ranges are some
pub record IsSrat (ids : TableIds) (c : SratContents) (table : List ℕ) : Type 0 where
  pub written : IsTableOf SRAT 3 ids (srat_body c) table
  pub fit : AreFit c
  pub ranges : list_all is_range c.ranges.now ≡ true

-- ---- what is to be read

-- the domain that is given last for a processor with this id, or with this uid
abbrev pub apic_given : List ApicDomain → ℕ → Option ℕ
apic_given ps id = last_or None (filter_map (λ p. if p.local_apic_id == id then Some p.domain else None) ps)

abbrev pub gicc_given : List GiccDomain → ℕ → Option ℕ
gicc_given ps uid = last_or None (filter_map (λ p. if p.processor_uid == uid then Some p.domain else None) ps)

-- the table's ranges are exactly those that were given, in order, and a processor is in the domain that was given for
-- it, or in none if none was
pub record SaysDomains (c : SratContents) (table : List ℕ) : Type 0 where
  pub ranges : affinities_of table ≡ Ok c.ranges.now
  pub apics : (id : ℕ) → domain_of_apic table id ≡ apic_given c.apics.now id
  pub giccs : (uid : ℕ) → domain_of_processor table uid ≡ gicc_given c.giccs.now uid

-- ---- laws

-- such a table is valid
abbrev pub SratIsValid : Type 0
SratIsValid = (ids : TableIds) (c : SratContents) (table : List ℕ) → IsSrat ids c table → IsValid SRAT table

-- and contains exactly what was passed
abbrev pub SratIsRead : Type 0
SratIsRead = (ids : TableIds) (c : SratContents) (table : List ℕ) → IsSrat ids c table → SaysDomains c table
