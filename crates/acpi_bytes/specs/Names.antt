-- The names of the tables (ACPI 6.4, section 5.2.6, tables 5.5 and 5.6).
use Rattle.std.specs.Prelude.{◌≡◌, ℕ, List, [], ◌∷◌, codes}
use Rattle.acpi_bytes.specs.FromStd.{AllByRecursion}
use Rattle.acpi_bytes.specs.Text.{letters_of}
use Rattle.acpi_bytes.specs.Types.{Signature, RSDT, XSDT, FADT, HPET, MADT, MCFG, SSDT, BERT, BGRT, CPEP, DSDT, ECDT, EINJ, ERST, FACS, FPDT, GTDT, HEST, MSCT, MPST, NFIT, PCCT, PHAT, PMTT, PSDT, RASF, SBST, SDEV, SLIT, SRAT, AEST, BDAT, CDIT, CEDT, CRAT, CSRT, DBGP, DBG2, DMAR, DRTM, ETDT, IBFT, IORT, IVRS, LPIT, MCHI, MPAM, MSDM, PRMT, RGRT, SDEI, SLIC, SPCR, SPMI, STAO, SVKL, TCPA, TPM2, UEFI, WAET, WDAT, WDRT, WPBT, WSMT, XENV}

-- each constant, and the four letters that it is to have
abbrev pub named_tables : List (Signature × List ℕ)
named_tables =
    (RSDT, codes "RSDT") ∷ (XSDT, codes "XSDT") ∷ (FADT, codes "FACP") ∷
    (HPET, codes "HPET") ∷ (MADT, codes "APIC") ∷ (MCFG, codes "MCFG") ∷
    (SSDT, codes "SSDT") ∷ (BERT, codes "BERT") ∷ (BGRT, codes "BGRT") ∷
    (CPEP, codes "CPEP") ∷ (DSDT, codes "DSDT") ∷ (ECDT, codes "ECDT") ∷
    (EINJ, codes "EINJ") ∷ (ERST, codes "ERST") ∷ (FACS, codes "FACS") ∷
    (FPDT, codes "FPDT") ∷ (GTDT, codes "GTDT") ∷ (HEST, codes "HEST") ∷
    (MSCT, codes "MSCT") ∷ (MPST, codes "MPST") ∷ (NFIT, codes "NFIT") ∷
    (PCCT, codes "PCCT") ∷ (PHAT, codes "PHAT") ∷ (PMTT, codes "PMTT") ∷
    (PSDT, codes "PSDT") ∷ (RASF, codes "RASF") ∷ (SBST, codes "SBST") ∷
    (SDEV, codes "SDEV") ∷ (SLIT, codes "SLIT") ∷ (SRAT, codes "SRAT") ∷
    (AEST, codes "AEST") ∷ (BDAT, codes "BDAT") ∷ (CDIT, codes "CDIT") ∷
    (CEDT, codes "CEDT") ∷ (CRAT, codes "CRAT") ∷ (CSRT, codes "CSRT") ∷
    (DBGP, codes "DBGP") ∷ (DBG2, codes "DBG2") ∷ (DMAR, codes "DMAR") ∷
    (DRTM, codes "DRTM") ∷ (ETDT, codes "ETDT") ∷ (IBFT, codes "IBFT") ∷
    (IORT, codes "IORT") ∷ (IVRS, codes "IVRS") ∷ (LPIT, codes "LPIT") ∷
    (MCHI, codes "MCHI") ∷ (MPAM, codes "MPAM") ∷ (MSDM, codes "MSDM") ∷
    (PRMT, codes "PRMT") ∷ (RGRT, codes "RGRT") ∷ (SDEI, codes "SDEI") ∷
    (SLIC, codes "SLIC") ∷ (SPCR, codes "SPCR") ∷ (SPMI, codes "SPMI") ∷
    (STAO, codes "STAO") ∷ (SVKL, codes "SVKL") ∷ (TCPA, codes "TCPA") ∷
    (TPM2, codes "TPM2") ∷ (UEFI, codes "UEFI") ∷ (WAET, codes "WAET") ∷
    (WDAT, codes "WDAT") ∷ (WDRT, codes "WDRT") ∷ (WPBT, codes "WPBT") ∷
    (WSMT, codes "WSMT") ∷ (XENV, codes "XENV") ∷ []

-- each has these letters
abbrev pub NamesAreSpelled : Type 0
NamesAreSpelled = AllByRecursion (λ named. letters_of named.0 ≡ named.1) named_tables
