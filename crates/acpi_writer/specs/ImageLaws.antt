-- What a reader finds in an image by `write_image` that has a table that was written.
use Rattle.std.specs.Prelude.{◌≡◌, ℕ, false, List, ◌∷◌, ◌++◌, Ok}
use Rattle.acpi_writer.specs.Types.{AllByRecursion, IsBytes, Memory, Apic, Signature, HPET, MADT, MCFG, McfgEntry, hpet_of, found_regions, model_in, platform_of, HpetInfo, PlatformInfo, TableIds, MadtContents, written, Plan, records_of}
use Rattle.acpi_image.specs.Words.{pointers_of}
use Rattle.acpi_table_writer.specs.Words.{is_named, IsHpet, IsMadt, apic_read, model_read, processors_read, IsMcfg}

-- the plan is written, and has this table, and none of its signature before it
pub record HasFirst (s : Signature) (p : Plan) (table : List ℕ) : Type 0 where
  pub file : List ℕ
  pub bytes : IsBytes file
  pub is_written : written p ≡ Ok file
  pub before : Memory
  pub after : Memory
  pub address : ℕ
  pub tables : p.tables ≡ before ++ record { start = address; bytes = table } ∷ after
  pub others : AllByRecursion (λ t. is_named s t.bytes ≡ false) before

-- the interrupt model of an image whose first MADT was written by `write_madt`, and its processors, are exactly those
-- that were given, in order
abbrev pub MadtInImage : Type 0 → Type 0
MadtInImage A = (p : Plan) (table : List ℕ) (ids : TableIds) (c : MadtContents)
    → IsMadt ids c table → HasFirst MADT p table
    → model_in {A = A} (records_of p) (pointers_of p) ≡ Ok (model_read c)

-- the platform has exactly those
pub record HasPlatform {A : Type 0} (c : MadtContents) (q : PlatformInfo A) : Type 0 where
  pub interrupt_model : q.interrupt_model ≡ Apic (apic_read c)
  pub processor_info : q.processor_info ≡ processors_read c.processors.now

-- whatever its FADT has, so it is of the platform of the image, if there is one
abbrev pub PlatformInImage : Type 0 → Type 0
PlatformInImage A = (p : Plan) (table : List ℕ) (ids : TableIds) (c : MadtContents) (q : PlatformInfo A)
    → IsMadt ids c table → HasFirst MADT p table
    → platform_of (records_of p) (pointers_of p) ≡ Ok q → HasPlatform c q

-- the regions of an image whose first MCFG was written by `write_mcfg` are exactly those that were given, in order
abbrev pub McfgInImage : Type 0
McfgInImage = (p : Plan) (table : List ℕ) (ids : TableIds) (es : List McfgEntry)
    → IsMcfg ids es table → HasFirst MCFG p table
    → found_regions (records_of p) (pointers_of p) ≡ Ok es

-- an image whose first HPET was written by `write_hpet` contains exactly what was passed
abbrev pub HpetInImage : Type 0
HpetInImage = (p : Plan) (table : List ℕ) (ids : TableIds) (i : HpetInfo)
    → IsHpet ids i table → HasFirst HPET p table
    → hpet_of (records_of p) (pointers_of p) ≡ Ok i
