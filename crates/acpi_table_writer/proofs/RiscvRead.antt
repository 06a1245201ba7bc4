-- What a reader finds in the MADT of a RISC-V machine that is written.
use Rattle.std.proofs.Common.{◌≡◌, ℕ, ◌<◌, List, [], ◌∷◌, drop, Option, Some, refl, sym, ap, ◌∙◌, lit≤, lit<}
use Rattle.acpi_base.proofs.FromStd.{drop-drop, recursion_from_All}
use Rattle.acpi_riscv.specs.Words.{entries_of, entry_of}
use Rattle.acpi_riscv.specs.declared.entry.RiscvEntry.TheVariants as kinds
use Rattle.acpi_table_writer.specs.Words.{madt_grammar, madt_layout, spelling, aplic_at, imsic_at, plic_at, rintc_at, Aplic, Imsic, Plic, Rintc, RiscvEntry, TableIds, Fits, IsRiscvMadt, RiscvContents, RiscvMadtIsRead, aplic_entry, aplic_fields, aplic_read_as, imsic_entry, imsic_fields, imsic_read_as, madt_fields, plic_entry, plic_fields, plic_read_as, rintc_entry, rintc_fields, rintc_read_as, riscv_body, riscv_read}
use Rattle.acpi_table_writer.proofs.FieldsRead.{read_at}
use Rattle.acpi_table_writer.proofs.Rows.{Speaks, in_same, speaks_all, speaks_both, speaks_row, spoken}
use Rattle.acpi_table_writer.proofs.Tables as table

abbrev Tells : List ℕ → RiscvEntry → Type 0
Tells e x = entry_of e ≡ Some x

abbrev some : RiscvEntry → Option RiscvEntry
some x = Some x

-- ---- each entry is read as what it was written from

rintc_read : (x : Rintc) → Fits rintc_fields x → rintc_at (rintc_entry x) ≡ rintc_read_as x
unfolding rintc_fields
rintc_read x f =
    let r = λ (i : ℕ) (h : i < 10). read_at (rintc_fields x) f i h in
    rw (r 2 (lit< tt), r 4 (lit< tt), r 5 (lit< tt), r 6 (lit< tt), r 7 (lit< tt), r 8 (lit< tt), r 9 (lit< tt)) refl

rintc_says : (x : Rintc) → Fits rintc_fields x → Speaks madt_layout Tells (rintc_entry x) (kinds.Rintc (rintc_read_as x) ∷ [])
unfolding rintc_fields spelling
rintc_says x f = speaks_row (lit≤ tt) (lit≤ tt) refl (lit≤ tt) (ap (λ e. some (kinds.Rintc e)) (rintc_read x f))

imsic_read : (x : Imsic) → Fits imsic_fields x → imsic_at (imsic_entry x) ≡ imsic_read_as x
unfolding imsic_fields
imsic_read x f =
    let r = λ (i : ℕ) (h : i < 11). read_at (imsic_fields x) f i h in
    rw (r 2 (lit< tt), r 4 (lit< tt), r 5 (lit< tt), r 6 (lit< tt), r 7 (lit< tt), r 8 (lit< tt))
    (rw (r 9 (lit< tt), r 10 (lit< tt)) refl)

imsic_says : (x : Imsic) → Fits imsic_fields x → Speaks madt_layout Tells (imsic_entry x) (kinds.Imsic (imsic_read_as x) ∷ [])
unfolding imsic_fields spelling
imsic_says x f = speaks_row (lit≤ tt) (lit≤ tt) refl (lit≤ tt) (ap (λ e. some (kinds.Imsic e)) (imsic_read x f))

aplic_read : (x : Aplic) → Fits aplic_fields x → aplic_at (aplic_entry x) ≡ aplic_read_as x
unfolding aplic_fields
aplic_read x f =
    let r = λ (i : ℕ) (h : i < 11). read_at (aplic_fields x) f i h in
    rw (r 2 (lit< tt), r 3 (lit< tt), r 4 (lit< tt), r 5 (lit< tt), r 6 (lit< tt), r 7 (lit< tt), r 8 (lit< tt))
    (rw (r 9 (lit< tt), r 10 (lit< tt)) refl)

aplic_says : (x : Aplic) → Fits aplic_fields x → Speaks madt_layout Tells (aplic_entry x) (kinds.Aplic (aplic_read_as x) ∷ [])
unfolding aplic_fields spelling
aplic_says x f = speaks_row (lit≤ tt) (lit≤ tt) refl (lit≤ tt) (ap (λ e. some (kinds.Aplic e)) (aplic_read x f))

plic_read : (x : Plic) → Fits plic_fields x → plic_at (plic_entry x) ≡ plic_read_as x
unfolding plic_fields
plic_read x f =
    let r = λ (i : ℕ) (h : i < 11). read_at (plic_fields x) f i h in
    rw (r 2 (lit< tt), r 3 (lit< tt), r 4 (lit< tt), r 5 (lit< tt), r 6 (lit< tt), r 7 (lit< tt), r 8 (lit< tt))
    (rw (r 9 (lit< tt), r 10 (lit< tt)) refl)

plic_says : (x : Plic) → Fits plic_fields x → Speaks madt_layout Tells (plic_entry x) (kinds.Plic (plic_read_as x) ∷ [])
unfolding plic_fields spelling
plic_says x f = speaks_row (lit≤ tt) (lit≤ tt) refl (lit≤ tt) (ap (λ e. some (kinds.Plic e)) (plic_read x f))

-- ---- the table

module _ (ids : TableIds) (c : RiscvContents) (t : List ℕ) (is : IsRiscvMadt ids c t) where
  speaks : Speaks madt_layout Tells (drop 8 (riscv_body c)) (riscv_read c)
  unfolding madt_fields spelling
  speaks =
      speaks_both (speaks_all (Fits rintc_fields) rintc_entry (λ x. kinds.Rintc (rintc_read_as x)) rintc_says c.rintcs.now
      (recursion_from_All (Fits rintc_fields) c.rintcs.now is.fit.rintcs))
      (speaks_both (speaks_all (Fits imsic_fields) imsic_entry (λ x. kinds.Imsic (imsic_read_as x)) imsic_says c.imsics.now
      (recursion_from_All (Fits imsic_fields) c.imsics.now is.fit.imsics))
      (speaks_both (speaks_all (Fits aplic_fields) aplic_entry (λ x. kinds.Aplic (aplic_read_as x)) aplic_says c.aplics.now
      (recursion_from_All (Fits aplic_fields) c.aplics.now is.fit.aplics))
      (speaks_all (Fits plic_fields) plic_entry (λ x. kinds.Plic (plic_read_as x)) plic_says c.plics.now
      (recursion_from_All (Fits plic_fields) c.plics.now is.fit.plics))))

  after_fixed : drop 44 t ≡ drop 8 (riscv_body c)
  after_fixed = sym (drop-drop 8 36 t) ∙ ap (drop 8) (table.rest refl is.written)

  entries_are : entries_of t ≡ riscv_read c
  entries_are = spoken madt_grammar (rw after_fixed speaks) (λ bound same. cc) entry_of (λ x. Some x) (λ e x same. same)
      ∙ in_same (riscv_read c)

pub riscv_madt_read : RiscvMadtIsRead
riscv_madt_read ids c t is = entries_are ids c t is
