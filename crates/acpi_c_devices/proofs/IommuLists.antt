-- How many items the lists of IOMMUs have at most, and which bytes the pieces of their tables are.
use Rattle.std.proofs.Common.{◌≡◌, ◌∙◌, ◌≤◌, ◌<◌, ◌+◌, ◌==◌, ◌||◌, ℕ, List, [], ◌∷◌, length, length-drop, drop, map, filter, filter_map, Option, Bool, true, false, if◌then◌else◌, slice_set, arith}
use Rattle.acpi_base.proofs.FromStd.{length-map, length-filter, count_by-le-length}
use Rattle.acpi_base.specs.FromStd.{concat}
use Rattle.acpi.proofs.First.{filter_map_few}
use Rattle.acpi_iommu.proofs.Cuts.{block_is, cut_whole, entry_is, pieces_few, scope_is, structure_is}
use Rattle.acpi_iommu.specs.Words.{block_kind, block_size, blocks_cut, blocks_of, cut_of, entries_of, entry_size, hops_in, is_ivhd, is_memory_for, is_reserved_for, ivmd_at, kind_of, memory_in, path_of, reserved_in, rmrr_at, scope_bytes, scope_size, scopes_of, structure_size, structures_of}
use Rattle.acpi_iommu.specs.Ivrs.{entry_bytes, least_of}
use Rattle.acpi_c_devices.specs.Types.{Hop, IommuError, InvalidStructureLength, Ivmd, Rmrr}
use Rattle.acpi_c_lib.specs.Words.{put_from}
use Rattle.acpi_c_devices.specs.Words.{iommu_fault, iommu_faults_from}
use Rattle.acpi_c_lib.specs.declared.entry_faults.EntryFault.{EntryFault}

pub structures_few : (table : List ℕ) → length (structures_of table) ≤ length table
structures_few table = omega (arith, pieces_few structure_size structure_is (drop 48 table), length-drop 48 table)

pub blocks_few : (table : List ℕ) → length (blocks_of table) ≤ length table
blocks_few table = omega (arith, pieces_few block_size block_is (drop 48 table), length-drop 48 table)

pub units_few : {R : Type 0} (f : List ℕ → Option R) (table : List ℕ)
    → length (filter_map f (structures_of table)) ≤ length table
units_few f table = omega (arith, filter_map_few f (structures_of table), structures_few table)

pub ivhds_few : {R : Type 0} (f : List ℕ → Option R) (table : List ℕ)
    → length (filter_map f (blocks_of table)) ≤ length table
ivhds_few f table = omega (arith, filter_map_few f (blocks_of table), blocks_few table)

pub reserved_few : {R : Type 0} (f : Rmrr → R) (table : List ℕ) (segment bus : ℕ) (hops : List Hop)
    → length (map f (reserved_in segment bus hops (structures_of table))) ≤ length table
reserved_few f table segment bus hops =
    let some = filter (is_reserved_for segment bus hops) (structures_of table) in
    omega (
      arith,
      length-map (map rmrr_at some) f,
      length-map some rmrr_at,
      length-filter (is_reserved_for segment bus hops) (structures_of table),
      count_by-le-length (is_reserved_for segment bus hops) (structures_of table),
      structures_few table,
    )

pub memory_few : {R : Type 0} (f : Ivmd → R) (table : List ℕ) (id : ℕ)
    → length (map f (memory_in id (blocks_of table))) ≤ length table
memory_few f table id =
    let some = filter (is_memory_for id) (blocks_of table) in
    omega (
      arith,
      length-map (map ivmd_at some) f,
      length-map some ivmd_at,
      length-filter (is_memory_for id) (blocks_of table),
      count_by-le-length (is_memory_for id) (blocks_of table),
      blocks_few table,
    )

-- ---- one unit

drop_few : (b : Bool) (n : ℕ) (bytes rest : List ℕ) → length rest ≤ length bytes
    → length (if b then drop n bytes else rest) ≤ length bytes
drop_few true n bytes rest h = omega (arith, length-drop n bytes)
drop_few false n bytes rest h = h

scope_bytes_few : (e : List ℕ) → length (scope_bytes e) ≤ length e
scope_bytes_few e =
    let others = (kind_of e == 2) || (kind_of e == 5) || (kind_of e == 6) in
    let third = if others then drop 8 e else [] in
    let second = if kind_of e == 1 then drop 24 e else third in
    drop_few (kind_of e == 0) 16 e second (drop_few (kind_of e == 1) 24 e third (drop_few others 8 e [] (omega arith)))

entry_bytes_few : (b : List ℕ) → length (entry_bytes b) ≤ length b
entry_bytes_few b = drop_few (is_ivhd (block_kind b)) (least_of (block_kind b)) b [] (omega arith)

pub scopes_few : {R : Type 0} (f : List ℕ → R) (e : List ℕ) → length (map f (scopes_of e)) ≤ length e
scopes_few f e =
    omega (arith, length-map (scopes_of e) f, pieces_few scope_size scope_is (scope_bytes e), scope_bytes_few e)

pub entries_few : {R : Type 0} (f : List ℕ → R) (b : List ℕ) → length (map f (entries_of b)) ≤ length b
entries_few f b =
    omega (arith, length-map (entries_of b) f, pieces_few entry_size entry_is (entry_bytes b), entry_bytes_few b)

hops_few : (bytes : List ℕ) → length (hops_in bytes) ≤ length bytes
hops_few [] = omega arith
hops_few (device ∷ []) = omega arith
hops_few (device ∷ function ∷ rest) = omega (arith, hops_few rest)

pub path_few : (s : List ℕ) → length (path_of s) ≤ length s
path_few s = omega (arith, hops_few (drop 6 s), length-drop 6 s)

-- ---- bytes

pub structures_whole : (table : List ℕ)
    → length (concat (structures_of table)) + length (cut_of table).1 ≡ length (drop 48 table)
structures_whole table = cut_whole structure_size structure_is (drop 48 table)

pub blocks_whole : (table : List ℕ)
    → length (concat (blocks_of table)) + length (blocks_cut table).1 ≡ length (drop 48 table)
blocks_whole table = cut_whole block_size block_is (drop 48 table)

-- ---- faults

-- after the last piece the rest is written, and nothing else is left
pub last_written : (type_of : List ℕ → ℕ) (fault_of : List ℕ → Option IommuError) (at count : ℕ)
    (old out new all : List EntryFault) (left : List (List ℕ)) (before rest : List ℕ) → left ≡ [] → before ≡ rest
    → 0 < length rest → put_from out count (iommu_faults_from type_of fault_of at left before) ≡ put_from old 0 all
    → count + length (iommu_faults_from type_of fault_of at left before) ≡ length all
    → new ≡ slice_set out count (iommu_fault at (type_of rest) InvalidStructureLength)
    → (count + 1 ≡ length all) × (new ≡ put_from old 0 all)
last_written type_of fault_of at count old out new all left before [] none same some written counted is =
    absurd (omega (arith, some))
last_written type_of fault_of at count old out new all left before (b ∷ rest) none same some written counted is =
    let first = rw (none, same) at written in
    let many = rw (none, same) at counted in
    (omega (arith, many), is ∙ first)
