-- The way to the tables that arguments name, and what it opens.
use Rattle.std.specs.Prelude.{ℕ, List, [], ◌∷◌, Option, Some, None, Result, if◌then◌else◌, codes, bytes_eq}
use Rattle.acpi_base.specs.Words.{Memory}
use Rattle.acpi.specs.Types.{AcpiError}
use Rattle.acpi.specs.Words.{Opened, opened_at, opened_by_rsdp, opened_by_search}
use Rattle.acpi_cli.specs.Numbers.{address_of, revision_of}
use Rattle.acpi_cli.specs.declared.root.Root.{Root}
use Rattle.acpi_cli.specs.declared.root.Root.TheVariants.{Rsdt, Rsdp, Bios}

-- the root table of a revision and an address, if both are there
abbrev pub rsdt_from : Option ℕ → Option ℕ → Option Root
rsdt_from (Some revision) (Some address) = Some (Rsdt revision address)
rsdt_from (Some revision) None = None
rsdt_from None address = None

-- the RSDP at an address, if that is there
abbrev pub rsdp_from : Option ℕ → Option Root
rsdp_from (Some address) = Some (Rsdp address)
rsdp_from None = None

-- the way that the arguments after rsdt, rsdp and bios name
abbrev pub rsdt_root : List (List ℕ) → Option Root
rsdt_root (revision ∷ address ∷ []) = rsdt_from (revision_of revision) (address_of address)
rsdt_root _ = None

abbrev pub rsdp_root : List (List ℕ) → Option Root
rsdp_root (address ∷ []) = rsdp_from (address_of address)
rsdp_root _ = None

abbrev pub bios_root : List (List ℕ) → Option Root
bios_root [] = Some Bios
bios_root _ = None

-- the way that a form and the arguments after it name
abbrev pub form_root : List ℕ → List (List ℕ) → Option Root
form_root form rest =
    if bytes_eq form (codes "rsdt") then rsdt_root rest
    else if bytes_eq form (codes "rsdp") then rsdp_root rest
    else if bytes_eq form (codes "bios") then bios_root rest
    else None

-- what rsdt REVISION ADDRESS, rsdp ADDRESS or bios means
abbrev pub root_of : List (List ℕ) → Option Root
root_of (form ∷ rest) = form_root form rest
root_of [] = None

-- the root table that it leads to, or the error
abbrev pub opened_for : Memory → Root → Result Opened AcpiError
opened_for m (Rsdt revision address) = opened_at m (revision, address)
opened_for m (Rsdp address) = opened_by_rsdp m address
opened_for m Bios = opened_by_search m
