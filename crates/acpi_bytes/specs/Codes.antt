-- Codes: the number by which a table encodes each value of an enumeration, and the value of a number (ACPI 6.4).
use Rattle.std.specs.Prelude.{◌≡◌, ℕ, ◌==◌, Bool, true, nat_le, List, [], ◌∷◌, find, Result, Ok, Err, if◌then◌else◌, ok_or}
use Rattle.acpi_bytes.specs.Types.{AcpiError, InvalidGenericAddress, AddressSpace, SystemMemory, SystemIo, PciConfigSpace, EmbeddedController, SMBus, SystemCmos, PciBarTarget, Ipmi, GeneralIo, GenericSerialBus, PlatformCommunicationsChannel, FunctionalFixedHardware, OemDefined, AccessSize, Undefined, ByteAccess, WordAccess, DWordAccess, QWordAccess}

-- the first of these values that has a code, or the error of a code that none has
abbrev pub decoded : {A : Type 0} {E : Type 0} → (A → ℕ) → List A → E → ℕ → Result A E
decoded code_of values refusal code = ok_or (find (λ x. code_of x == code) values) refusal

-- ---- registers (section 5.2.3.2)

-- its code: Address Space ID (section 5.2.3.2)
abbrev pub space_code : AddressSpace → ℕ
space_code SystemMemory = 0x00
space_code SystemIo = 0x01
space_code PciConfigSpace = 0x02
space_code EmbeddedController = 0x03
space_code SMBus = 0x04
space_code SystemCmos = 0x05
space_code PciBarTarget = 0x06
space_code Ipmi = 0x07
space_code GeneralIo = 0x08
space_code GenericSerialBus = 0x09
space_code PlatformCommunicationsChannel = 0x0a
space_code FunctionalFixedHardware = 0x7f
space_code (OemDefined code) = code

-- the spaces that have a name; those from 0xc0 on are the makers' own
abbrev pub named_spaces : List AddressSpace
named_spaces =
    SystemMemory ∷ SystemIo ∷ PciConfigSpace ∷ EmbeddedController ∷ SMBus ∷ SystemCmos
    ∷ PciBarTarget ∷ Ipmi ∷ GeneralIo ∷ GenericSerialBus ∷ PlatformCommunicationsChannel
    ∷ FunctionalFixedHardware ∷ []

-- the space of a code of Address Space ID (section 5.2.3.2).
--
-- Fails for a reserved code with `InvalidGenericAddress`: 0x0b to 0xbf, but for 0x7f
abbrev pub space_of : ℕ → Result AddressSpace AcpiError
space_of code =
    if nat_le 0xc0 code then Ok (OemDefined code)
    else decoded space_code named_spaces InvalidGenericAddress code

-- the code names the space: it is not one below 0xc0 as a maker's own
abbrev pub is_named_space : AddressSpace → Bool
is_named_space (OemDefined code) = nat_le 0xc0 code
is_named_space _ = true

-- Access Size
abbrev pub size_code : AccessSize → ℕ
size_code Undefined = 0
size_code ByteAccess = 1
size_code WordAccess = 2
size_code DWordAccess = 3
size_code QWordAccess = 4

abbrev pub access_sizes : List AccessSize
access_sizes = Undefined ∷ ByteAccess ∷ WordAccess ∷ DWordAccess ∷ QWordAccess ∷ []

-- the access size of a code of Access Size (section 5.2.3.2).
--
-- Fails for a reserved code with `InvalidGenericAddress`: 5 and above
abbrev pub access_size_of : ℕ → Result AccessSize AcpiError
access_size_of code = decoded size_code access_sizes InvalidGenericAddress code

-- ---- the law

-- a code is decoded to the one value that has it, or to this error if none has; `is_value` leaves out values
-- whose code is another's
pub record IsInverse {A : Type 0} {E : Type 0} (is_value : A → Bool) (code_of : A → ℕ) (decode : ℕ → Result A E)
    (refusal : E) : Type 0 where
  pub each : (x : A) → is_value x ≡ true → decode (code_of x) ≡ Ok x
  pub only : (code : ℕ) (x : A) → decode code ≡ Ok x → (is_value x ≡ true) × (code_of x ≡ code)
  pub refused : (code : ℕ) (e : E) → decode code ≡ Err e → e ≡ refusal
