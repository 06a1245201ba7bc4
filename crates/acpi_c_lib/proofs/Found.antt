-- The first table of a source, and its bytes.
use Rattle.std.proofs.Common.{◌≡◌, ◌∙◌, ℕ, List, Result, Ok, Err, ap, refl}
use Rattle.acpi_base.specs.Words.{Kind, Memory, accepted, ◌>>=◌}
use Rattle.acpi.specs.Words.{Opened, lookup}
use Rattle.acpi_c_lib.specs.Below.{pointers_in}
use Rattle.acpi_c_lib.specs.Words.{AcpiError, Refusal, Source, first_table, found_table, memory_in, opened_in, refused_as, result_map}

abbrev pub Found : Type 0
Found = ℕ × List ℕ

by_lookup : (r : Result Found AcpiError)
    → refused_as (result_map (λ found. found.1) r) ≡ result_map (λ found. found.1) (refused_as r)
by_lookup (Ok found) = refl
by_lookup (Err e) = refl

by_root : (r : Result Opened Refusal) (f : Opened → Result Found AcpiError)
    → (r >>= λ o. refused_as (result_map (λ found. found.1) (f o)))
    ≡ result_map (λ found. found.1) (r >>= λ o. refused_as (f o))
by_root (Ok o) f = by_lookup (f o)
by_root (Err e) f = refl

by_memory : (r : Result Memory Refusal) (s : Source) (k : Kind)
    → (r >>= λ m. opened_in m s >>= λ o.
    refused_as (result_map (λ found. found.1) (lookup m (accepted s.accept k) (pointers_in o))))
    ≡ result_map (λ found. found.1)
    (r >>= λ m. opened_in m s >>= λ o. refused_as (lookup m (accepted s.accept k) (pointers_in o)))
by_memory (Ok m) s k = by_root (opened_in m s) (λ o. lookup m (accepted s.accept k) (pointers_in o))
by_memory (Err e) s k = refl

bytes_of_found : (k : Kind) (s : Source) → first_table k s ≡ result_map (λ found. found.1) (found_table k s)
unfolding first_table found_table
bytes_of_found k s = by_memory (memory_in s.regions.now) s k

pub bytes_found : (k : Kind) (s : Source) (found : Found) → found_table k s ≡ Ok found → first_table k s ≡ Ok found.1
bytes_found k s found e = bytes_of_found k s ∙ ap (result_map (λ found. found.1)) e

pub no_bytes : (k : Kind) (s : Source) (e : Refusal) → found_table k s ≡ Err e → first_table k s ≡ Err e
no_bytes k s e refused = bytes_of_found k s ∙ ap (result_map (λ found. found.1)) refused
