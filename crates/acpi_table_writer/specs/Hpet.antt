-- The bytes of an HPET by its contents. The layout is by the IA-PC HPET Specification 1.0a, section 3.2.4.
use Rattle.std.specs.Prelude.{ℕ, List, [], ◌∷◌, Result, ◌≡◌, Ok, All}
use Rattle.acpi_table_writer.specs.Types.{HPET, HpetInfo, WriterError, TableIds, protection_code, hpet_at, info_of, Field, U8, U16, U32, U64, Zeros}
use Rattle.acpi_table_writer.specs.Fields.{fields_bytes, FitsField}
use Rattle.acpi_table_writer.specs.Table.{table_written, IsTableOf, IsValid}

-- the fields after the header
unfoldable pub hpet_fields : HpetInfo → List Field
hpet_fields i =
    U32 i.event_timer_block_id  -- 36: Event Timer Block ID
    ∷ U8 0 ∷ Zeros 3 ∷ U64 i.base_address  -- 40: BASE_ADDRESS, whose space is memory and whose address is at 44
    ∷ U8 i.hpet_number  -- 52: HPET Number
    ∷ U16 i.clock_tick_unit  -- 53: Main Counter Minimum Clock_tick in Periodic Mode
    ∷ U8 (protection_code i.page_protection)  -- 55: Page Protection And OEM Attribute
    ∷ []

abbrev pub hpet_body : HpetInfo → List ℕ
hpet_body i = fields_bytes (hpet_fields i)

-- the table, of revision 1, in so much room, or the error
abbrev pub hpet_written : ℕ → TableIds → HpetInfo → Result (List ℕ) WriterError
hpet_written room ids i = table_written room HPET 1 ids (hpet_body i)

-- the numbers have a place
abbrev pub FitsHpet : HpetInfo → Type 0
FitsHpet i = All FitsField (hpet_fields i)

-- the bytes are the table of a block whose numbers have a place
pub record IsHpet (ids : TableIds) (i : HpetInfo) (table : List ℕ) : Type 0 where
  pub written : IsTableOf HPET 1 ids (hpet_body i) table
  pub fit : FitsHpet i

-- such a table is valid
abbrev pub HpetIsValid : Type 0
HpetIsValid = (ids : TableIds) (i : HpetInfo) (table : List ℕ) → IsHpet ids i table → IsValid HPET table

-- and contains exactly what was passed
abbrev pub HpetIsRead : Type 0
HpetIsRead = (ids : TableIds) (i : HpetInfo) (table : List ℕ) → IsHpet ids i table → info_of (hpet_at table) ≡ Ok i
