-- The bytes of fields, one after the other.
use Rattle.std.specs.Prelude.{ℕ, zero, suc, get_or, ◌+◌, ◌^◌, ◌<◌, List, [], ◌∷◌, flat_map, replicate, Option, Some, None, All}
use Rattle.acpi_table_writer.specs.Types.{spelling, Field, U8, U16, U32, U64, Zeros}

abbrev pub field_bytes : Field → List ℕ
field_bytes (U8 n) = n ∷ []
field_bytes (U16 n) = spelling 2 n
field_bytes (U32 n) = spelling 4 n
field_bytes (U64 n) = spelling 8 n
field_bytes (Zeros n) = replicate n 0

-- the number has a place
abbrev pub FitsField : Field → Type 0
FitsField (U8 n) = n < 2 ^ 8
FitsField (U16 n) = n < 2 ^ 16
FitsField (U32 n) = n < 2 ^ 32
FitsField (U64 n) = n < 2 ^ 64
FitsField (Zeros n) = Unit {0}

-- each number of a thing with these fields has one
abbrev pub Fits : {X : Type 0} → (X → List Field) → X → Type 0
Fits fields x = All FitsField (fields x)

abbrev pub fields_bytes : List Field → List ℕ
fields_bytes fields = flat_map field_bytes fields

-- of what may be missing
abbrev pub fields_or_none : {A : Type 0} → (A → List Field) → Option A → List Field
fields_or_none fields (Some x) = fields x
fields_or_none fields None = []

-- ---- fields that are read

abbrev pub field_size : Field → ℕ
field_size (U8 n) = 1
field_size (U16 n) = 2
field_size (U32 n) = 4
field_size (U64 n) = 8
field_size (Zeros n) = n

abbrev pub field_value : Field → ℕ
field_value (U8 n) = n
field_value (U16 n) = n
field_value (U32 n) = n
field_value (U64 n) = n
field_value (Zeros n) = 0

-- the field at a place, and its offset
abbrev pub field_at : List Field → ℕ → Field
field_at fs i = get_or fs i (Zeros 0)

abbrev pub offset_of : List Field → ℕ → ℕ
offset_of [] i = 0
offset_of (f ∷ fs) zero = 0
offset_of (f ∷ fs) (suc i) = field_size f + offset_of fs i
