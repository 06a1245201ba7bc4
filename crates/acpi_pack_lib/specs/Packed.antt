-- What holds of an image that is packed: it is read as the memory of what is placed, and what is
-- opened there lists the tables.
use Rattle.std.specs.Prelude.{◌≡◌, ℕ, List, ◌∷◌, drop, map, Option, Ok, true}
use Rattle.acpi_base.specs.FromStd.{AllByRecursion}
use Rattle.acpi.specs.Words.{valid_tables, Opened, opened_by_rsdp, pointers, width_of}
use Rattle.acpi.specs.declared.root.RootKind.TheVariants.{Xsdt}
use Rattle.acpi_base.specs.Words.{sum_of, Memory, Region, IsMemory}
use Rattle.acpi_image_reader.specs.Words.{IsImage, records_in}
use Rattle.acpi_image.specs.Words.{is_table, root_record, root_to, starts_of}
use Rattle.acpi_pack_lib.specs.Pack.{all_regions, first_address, fixed_of, packed_tables, rsdp_address}
use Rattle.acpi_pack_lib.specs.Place.{ArePlaced}
use Rattle.acpi_pack_lib.specs.Sources.{bytes_of, entries}
use Rattle.acpi_pack_lib.specs.declared.sources.FileRole.TheVariants.{Listed}

-- the file is the records of these regions and nothing else, and is read as the memory of them
pub record IsMemoryFile (regions : Memory) (file : List ℕ) : Type 0 where
  pub image : IsImage file regions
  pub memory : IsMemory regions
  pub read : records_in file ≡ Ok regions

-- bytes that are a table with a sum of 0
pub record IsRight (bytes : List ℕ) : Type 0 where
  pub table : is_table bytes ≡ true
  pub sum : sum_of bytes ≡ 0

-- an XSDT at an address, with these pointers, opened by an RSDP of revision 2
abbrev pub opened_with : ℕ → List ℕ → Opened
opened_with root addresses = record {
  revision = 2;
  kind = Xsdt;
  address = root;
  root = root_to Xsdt addresses;
}

-- the tables that the XSDT lists are the files that are listed, in order, wherever they are
pub record IsPacked (files : List (Option (List ℕ))) (file : List ℕ) : Type 0 where
  pub root : ℕ
  pub tables : Memory
  pub dsdt : Option Region
  pub packed : packed_tables files ≡ Ok (all_regions root tables dsdt)
  pub file_is : IsMemoryFile (all_regions root tables dsdt) file
  pub bytes : map (λ t. t.bytes) tables ≡ bytes_of (entries Listed 0 files)
  pub placed : ArePlaced (fixed_of dsdt) first_address (root_record Xsdt root (starts_of tables) ∷ tables)
  pub opened : opened_by_rsdp (all_regions root tables dsdt) rsdp_address
      ≡ Ok (opened_with root (starts_of tables))
  pub listed : pointers (width_of Xsdt) (drop 36 (root_to Xsdt (starts_of tables))) ≡ starts_of tables
  pub valid : AllByRecursion IsRight (bytes_of (entries Listed 0 files))
      → valid_tables (all_regions root tables dsdt) (starts_of tables) ≡ bytes_of (entries Listed 0 files)
