-- What callers rest on: a guest finds each table that was placed, and of a lender over a handler may be requested the
-- ranges that it lists.
use Rattle.std.proofs.Common.{◌≡◌, ℕ, suc, List, [], ◌∷◌, drop, length, Result, Ok, Err, refl, sym, ap, subst, ◌∙◌, ◌&&◌, Bool, true, false}
use Rattle.std.specs.List.{cons_option}
use Rattle.std.specs.Result.{result_ok}
use Rattle.std.proofs.lemmas.List.{length-map}
use Rattle.acpi_bytes.specs.Header.{header_at}
use Rattle.acpi_bytes.specs.Memory.{Memory}
use Rattle.acpi_bytes.specs.Steps.{◌>>=◌}
use Rattle.acpi_base.specs.Words.{own_table_at}
use Rattle.acpi_bytes.specs.declared.error.AcpiError.{AcpiError}
use Rattle.acpi_bytes.specs.declared.header.SdtHeader.{SdtHeader}
use Rattle.acpi.specs.Lists.{own_header_at, valid_headers, valid_tables}
use Rattle.acpi.specs.Opened.{Opened, opened_by_rsdp}
use Rattle.acpi.specs.Root.{pointers, width_of}
use Rattle.acpi_image_reader.specs.declared.error.ImageError.{ImageError}
use Rattle.acpi_image.specs.WriteLaws.{IsWritten, opened_of}
use Rattle.acpi_image.specs.Written.{Plan, pointers_of, records_of}
use Rattle.acpi_base.proofs.AllowedRanges.{allows_equal}
use Rattle.acpi_base.specs.Ranges.{Allows, Ranges, is_listed}
use Rattle.acpi_examples.specs.Guarded.{graphic_ranges}

-- ---- the tables of a guest

abbrev done : SdtHeader → Result SdtHeader AcpiError
done x = Ok x

one_each : (r : Result (List ℕ) AcpiError) (hs : List SdtHeader) (ts : List (List ℕ)) → length hs ≡ length ts
    → length (cons_option (result_ok (r >>= λ t. done (header_at t))) hs) ≡ length (cons_option (result_ok r) ts)
one_each (Ok t) hs ts e = ap suc e
one_each (Err d) hs ts e = e

-- there is a header for each valid table
headers_count : (m : Memory) (ps : List ℕ) → length (valid_headers m ps) ≡ length (valid_tables m ps)
unfolding own_header_at
headers_count m [] = refl
headers_count m (p ∷ ps) = one_each (own_table_at m p) _ _ (headers_count m ps)

abbrev found : Opened → Result Opened AcpiError
found x = Ok x

same_opened : (x y : Opened) → found x ≡ found y → x ≡ y
same_opened x y e = cc

-- what is opened in a memory that is read from the file
pub guest_count : (p : Plan) (file : List ℕ) (m : Memory) (o : Opened) → IsWritten p file → m ≡ records_of p
    → opened_by_rsdp m p.rsdp ≡ Ok o
    → length (valid_headers m (pointers (width_of o.kind) (drop 36 o.root))) ≡ length p.tables
guest_count p file m o is same opened =
    let there : opened_by_rsdp (records_of p) p.rsdp ≡ Ok o =
    subst (λ (n : Memory). opened_by_rsdp n p.rsdp ≡ Ok o) same opened in
    let which : o ≡ opened_of p = same_opened _ _ (sym there ∙ is.opened) in
    rw (which, same, is.listed) (headers_count (records_of p) (pointers_of p) ∙ ap length is.tables
    ∙ length-map p.tables _)

abbrev read_as : Memory → Result Memory ImageError
read_as m = Ok m

pub same_memory : (m n : Memory) → read_as m ≡ read_as n → n ≡ m
same_memory m n e = cc

-- ---- ranges that are listed

-- any range of a handler may be requested
pub with_any : (listed : Bool) → listed ≡ true → (listed && true) ≡ true
with_any true h = refl
with_any false h = absurd cc

pub listed_allowed : {H : Type 0} (memory : H → Memory) (asked guarded : H) (ranges listed : Ranges) (rsdt : ℕ)
    → guarded ≡ asked → listed ≡ ranges
    → ranges ≡ graphic_ranges (memory asked) rsdt
    → Allows (λ a n. is_listed listed a n && true) (graphic_ranges (memory guarded) rsdt)
listed_allowed memory asked guarded ranges listed rsdt same kept named =
    let all : Allows (is_listed listed) (graphic_ranges (memory guarded) rsdt) =
    allows_equal listed (graphic_ranges (memory guarded) rsdt) (kept ∙ named
    ∙ ap (λ h. graphic_ranges (memory h) rsdt) (sym same)) in
    λ k d less. with_any _ (all k d less)
