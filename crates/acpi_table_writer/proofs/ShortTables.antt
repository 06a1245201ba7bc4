-- What a reader finds in the short tables that are written: an HPET, an MCFG, and a SLIT.
use Rattle.std.proofs.Common.{◌≡◌, ℕ, ◌^◌, ◌<◌, Ok, refl, ap, ◌∙◌, arith, ◌+◌, ◌*◌, [], ◌∷◌, length, ◌/◌, List, ◌++◌, drop, sym, get_or, lit<, flat_map, Option, Some, slice_get}
use Rattle.acpi_base.proofs.Words.{number-spelling}
use Rattle.acpi_table_writer.specs.Words.{AllByRecursion, bits_of, field_of, spelling, mcfg_entries_in, mcfg_entry_at, whole_mcfg_entries, SLIT, McfgEntry, hpet_at, protection_code, protection_of, PageProtection, hpet_fields, HpetIsRead, IsTableOf, mcfg_entry, mcfg_fields, FitsMcfg, McfgIsRead, IsSlit, SlitIsRead, slit_body, slit_checked, TableIds, distance_of, localities_of}
use Rattle.acpi_table_writer.proofs.Bits.{was_true}
use Rattle.acpi_table_writer.proofs.FieldsRead.{each_long, read_end, read_front}
use Rattle.acpi_base.proofs.FromStd.{drop_at, drop-drop, get_or-drop, recursion_from_All, eqb-true, lt-ltb, mul-add-lt, slice_get-get_or}
use Rattle.acpi.specs.declared.hpet.PageProtection.TheVariants as protections
use Rattle.acpi_table_writer.proofs.Tables as table

-- ---- an HPET

protection : (x : PageProtection) → protection_of (bits_of (protection_code x) 0 4) ≡ x
protection protections.None = refl
protection _ = refl

pub hpet_read : HpetIsRead
unfolding hpet_at hpet_fields
hpet_read ids i t is =
    let field = λ (k : ℕ) (less : k < 7). read_end t 36 (hpet_fields i) (table.rest refl is.written) is.fit k less in
    rw (field 1 (lit< tt), field 0 (lit< tt), field 3 (lit< tt), field 4 (lit< tt), field 5 (lit< tt))
    (rw (field 6 (lit< tt))
    (rw (protection i.page_protection) refl))

-- ---- an MCFG

entry_at : (e : McfgEntry) (more : List ℕ) → FitsMcfg e → mcfg_entry_at (mcfg_entry e ++ more) ≡ e
unfolding mcfg_fields
entry_at e more fits =
    let field = λ (k : ℕ) (less : k < 5). read_front (mcfg_fields e) more fits k less in
    rw (field 0 (lit< tt), field 1 (lit< tt), field 2 (lit< tt), field 3 (lit< tt)) refl

entry_long : (e : McfgEntry) → length (mcfg_entry e) ≡ 16
unfolding mcfg_fields spelling
entry_long e = refl

after_entry : (e : McfgEntry) (more : List ℕ) → drop 16 (mcfg_entry e ++ more) ≡ more
after_entry e more = drop_at (mcfg_entry e) more 16 (entry_long e)

entries_in : (es : List McfgEntry) → AllByRecursion FitsMcfg es
    → mcfg_entries_in (length es) (flat_map mcfg_entry es) ≡ es
entries_in [] all = refl
entries_in (e ∷ es) all =
    rw (entry_at e (flat_map mcfg_entry es) all.0, after_entry e (flat_map mcfg_entry es))
    (ap (λ z. e ∷ z) (entries_in es all.1))

whole_entries : (es : List McfgEntry) → AllByRecursion FitsMcfg es → whole_mcfg_entries (flat_map mcfg_entry es) ≡ es
whole_entries es all =
    let count : length (flat_map mcfg_entry es) / 16 ≡ length es =
    omega (arith, each_long mcfg_entry 16 entry_long es) in
    ap (λ n. mcfg_entries_in n (flat_map mcfg_entry es)) count ∙ entries_in es all

pub mcfg_read : McfgIsRead
mcfg_read ids es t is =
    let rest : drop 44 t ≡ flat_map mcfg_entry es = sym (drop-drop 8 36 t) ∙ ap (drop 8) (table.rest refl is.written) in
    ap whole_mcfg_entries rest ∙ whole_entries es (recursion_from_All FitsMcfg es is.fit)

-- ---- a SLIT

abbrev some : ℕ → Option ℕ
some x = Some x

module _ (ids : TableIds) (n : ℕ) (distances t : List ℕ) (is : IsSlit ids n distances t) where
  counted : localities_of t ≡ n
  unfolding field_of spelling
  counted = table.field refl is.written 0 8 ∙ number-spelling 8 n (omega (arith, is.small))

  rest : drop 44 t ≡ distances
  unfolding spelling
  rest = sym (drop-drop 8 36 t) ∙ ap (drop 8) (table.rest refl is.written)

  long : length t ≡ 44 + length distances
  unfolding spelling
  long = omega (arith, table.long refl is.written)

  place : (k : ℕ) → k < length distances → slice_get t (44 + k) ≡ slice_get distances k
  place k less =
      slice_get-get_or t (44 + k) 0 (omega (arith, long, less)) ∙ ap some
      (sym (get_or-drop 44 t k 0) ∙ ap (λ l. get_or l k 0) rest) ∙ sym (slice_get-get_or distances k 0 less)

  distance : (from to : ℕ) → from < n → to < n → distance_of t from to ≡ slice_get distances (from * n + to)
  unfolding distance_of
  distance from to h g =
      let inside : from * n + to < length distances = omega (arith, mul-add-lt from n to n h g, is.square) in
      let same : 44 + from * n + to ≡ 44 + (from * n + to) = omega arith in
      rw (counted, lt-ltb from n h, lt-ltb to n g, same) (place (from * n + to) inside)

pub slit_read : SlitIsRead
slit_read ids n distances t is from to h g = distance ids n distances t is from to h g

pub slit_is : (ids : TableIds) (n : ℕ) (distances t : List ℕ) → IsTableOf SLIT 1 ids (slit_body n distances) t
    → n < 2 ^ 64 → slit_checked n distances ≡ Ok tt → IsSlit ids n distances t
slit_is ids n distances t written small good =
    record { written = written; small = small; square = eqb-true (n * n) (length distances) (was_true _ _ good) }
