-- The FACS that is written (ACPI 6.4, section 5.2.10).
use Rattle.std.specs.Prelude.{◌≡◌, ℕ, ◌+◌, ◌*◌, ◌^◌, ◌<◌, List, ◌∷◌, ◌++◌, nat_le, replicate, take, Some, Result, Ok}
use Rattle.acpi.specs.Words.{facs_at}
use Rattle.acpi_table_writer.specs.Words.{bit_of}
use Rattle.acpi_writer.specs.Types.{range, has_bit, field_of, spelling, Memory, at, ◌>>=◌, holds, letters_of, FACS, WriterError, NoRoom, FacsContents}

-- at 0 Signature, 4 a Length of 64, 8 Hardware Signature, 12 Firmware Waking Vector, 16 a Global Lock of 0, 20 Flags,
-- of which bit 0 is S4BIOS_F and bit 1 64BIT_WAKE_SUPPORTED_F, 24 X_Firmware_Waking_Vector, 32 a Version of 2, 33
-- Reserved, 36 OSPM Flags of 0, 40 Reserved
unfoldable pub facs_bytes : FacsContents → List ℕ
facs_bytes c =
    letters_of FACS ++ (spelling 4 64 ++ (spelling 4 c.hardware_signature
    ++ (spelling 4 c.waking_vector ++ (spelling 4 0
    ++ ((bit_of c.supports_s4bios + 2 * bit_of c.supports_64_bit_wake) ∷ 0 ∷ 0 ∷ 0 ∷ (spelling 8 c.x_waking_vector
    ++ (2 ∷ replicate 31 0)))))))

-- the FACS in so much room, or the error
unfoldable pub facs_written : ℕ → FacsContents → Result (List ℕ) WriterError
facs_written room c = do
  _ ← holds (nat_le 64 room) NoRoom
  Ok (facs_bytes c)

-- the numbers have a place
pub record FitsFacs (c : FacsContents) : Type 0 where
  pub hardware_signature : c.hardware_signature < 2 ^ 32
  pub waking_vector : c.waking_vector < 2 ^ 32
  pub x_waking_vector : c.x_waking_vector < 2 ^ 64

-- the bytes are the FACS of such numbers
pub record IsFacs (c : FacsContents) (facs : List ℕ) : Type 0 where
  pub fit : FitsFacs c
  pub bytes : facs ≡ facs_bytes c

-- the fields have what was given, and a reader finds the FACS at an address where a memory has it
pub record IsReadAs (c : FacsContents) (facs : List ℕ) : Type 0 where
  pub hardware_signature : field_of facs 8 4 ≡ c.hardware_signature  -- Hardware Signature
  pub waking_vector : field_of facs 12 4 ≡ c.waking_vector  -- Firmware Waking Vector
  pub s4bios : has_bit (field_of facs 20 4) 0 ≡ c.supports_s4bios  -- S4BIOS_F
  pub wake : has_bit (field_of facs 20 4) 1 ≡ c.supports_64_bit_wake  -- 64BIT_WAKE_SUPPORTED_F
  pub x_waking_vector : field_of facs 24 8 ≡ c.x_waking_vector  -- X_Firmware_Waking_Vector
  pub found : (m : Memory) (a : ℕ) → at m a 36 ≡ Some (take 36 facs) → at m a 64 ≡ Some facs
      → facs_at m a ≡ Ok (range a 64)

-- so does such a FACS
abbrev pub FacsIsRead : Type 0
FacsIsRead = (c : FacsContents) (facs : List ℕ) → IsFacs c facs → IsReadAs c facs
