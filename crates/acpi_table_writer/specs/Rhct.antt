-- The RHCT that is written (ACPI 6.6, RISC-V Hart Capabilities Table).
use Rattle.std.specs.Prelude.{ℕ, ◌+◌, ◌-◌, ◌%◌, nat_lt, codes, List, [], ◌∷◌, ◌++◌, length, flat_map, replicate, Result}
use Rattle.acpi_table_writer.specs.Fields.{fields_bytes}
use Rattle.acpi_table_writer.specs.Table.{table_written}
use Rattle.acpi_table_writer.specs.Types.{◌>>=◌, holds, Signature, NoProcessor, TableIds, TooLong, WriterError, Field, U16, U32, U64, RhctContents}

abbrev pub rhct_signature : Signature
rhct_signature = record { 0 = codes "RHCT" }

-- the zeros after an ISA string of this number of letters, which end it at an even length
abbrev pub zeros_after : ℕ → ℕ
zeros_after letters = 2 - letters % 2

-- after the header: the fixed fields, and of the ISA String Node, at 56, all but the string
unfoldable pub front_fields : ℕ → ℕ → ℕ → ℕ → ℕ → List Field
front_fields flags frequency count node_length isa_length =
    U32 flags ∷ U64 frequency  -- 36: Flags, 40: Time Base Frequency
    ∷ U32 count ∷ U32 56  -- 48: Number of RHCT nodes, 52: Offset to the RHCT node array
    ∷ U16 0 ∷ U16 node_length  -- in the node 0: Type, 2: Length
    ∷ U16 1 ∷ U16 isa_length  -- 4: Revision, 6: ISA Length
    ∷ []

-- Hart Info Node
unfoldable pub hart_fields : ℕ → List Field
hart_fields uid =
    U16 0xffff ∷ U16 16 ∷ U16 1  -- 0: Type, 2: Length, 4: Revision
    ∷ U16 1 ∷ U32 uid ∷ U32 56  -- 6: Number of Offsets, 8: ACPI Processor UID, 12: Offset (of the ISA String Node)
    ∷ []

abbrev pub hart_node : ℕ → List ℕ
hart_node uid = fields_bytes (hart_fields uid)

abbrev pub rhct_body : RhctContents → List ℕ
rhct_body c =
    let letters = length c.isa.now in
    let zeros = zeros_after letters in
    let nodes = length c.harts.now + 1 in
    fields_bytes (front_fields c.flags c.time_base_frequency nodes (8 + letters + zeros) (letters + 1))
    ++ ((c.isa.now ++ replicate zeros 0) ++ flat_map hart_node c.harts.now)

-- there is a hart, and Length of the node and Number of RHCT nodes have a place
abbrev pub rhct_checked : RhctContents → Result (Unit {0}) WriterError
rhct_checked c = do
  _ ← holds (nat_lt 0 (length c.harts.now)) NoProcessor
  _ ← holds (nat_lt (length c.isa.now) 65526) TooLong
  holds (nat_lt (length c.harts.now) 0x10000000) TooLong

-- the table, of revision 1, in so much room, or the first error
unfoldable pub rhct_written : ℕ → TableIds → RhctContents → Result (List ℕ) WriterError
rhct_written room ids c = do
  _ ← rhct_checked c
  table_written room rhct_signature 1 ids (rhct_body c)
