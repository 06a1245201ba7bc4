-- Tables that are written for C.
use Rattle.std.specs.Prelude.{◌≡◌, ℕ, ◌≤◌, List, length, take, drop, Result, Ok, Err}
use Rattle.acpi_c_lib.specs.Codes.{code_of}
pub use Rattle.acpi_c_lib.specs.declared.refusal.Refusal.{Refusal}
pub use Rattle.acpi_table_writer.specs.declared.error.WriterError.{WriterError}
pub use Rattle.acpi_table_writer.specs.declared.ids.TableIds.{TableIds}
use Rattle.acpi_c_machine.specs.Types.{Writer}

-- an error of the writer's is one of the call's
abbrev pub writer_refused : {A : Type 0} → Result A WriterError → Result A Refusal
writer_refused (Ok x) = Ok x
writer_refused (Err e) = Err (Writer e)

-- the buffer from its first n bytes on is as it was
abbrev pub IsKept : ℕ → List ℕ → List ℕ → Type 0
IsKept n old new = (n ≤ length old) × (drop n new ≡ drop n old) × (length new ≡ length old)

-- after an error the whole buffer is
abbrev pub IsKeptOr : Result ℕ Refusal → List ℕ → List ℕ → Type 0
IsKeptOr (Ok n) old new = IsKept n old new
IsKeptOr (Err e) old new = new ≡ old

-- 0, with the table at the front of the buffer, its length, and the rest of the buffer unchanged; or the error's
-- number,
-- and nothing written
abbrev pub WritesTable : ℕ → List ℕ → List ℕ → ℕ → ℕ → Result (List ℕ) Refusal → Type 0
WritesTable status old new old_length new_length (Ok table) =
    (status ≡ 0) × (take new_length new ≡ table) × IsKept new_length old new
WritesTable status old new old_length new_length (Err e) =
    (status ≡ code_of e) × (new_length ≡ old_length) × (new ≡ old)
