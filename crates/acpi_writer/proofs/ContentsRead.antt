-- The tables that an XSDT lists, as they are written, and what a reader returns for them where a lookup finds the first
-- of each signature.
use Rattle.std.proofs.Common.{◌≡◌, ℕ, ◌+◌, ◌*◌, ◌<◌, ◌≤◌, Bool, true, false, List, [], ◌∷◌, length, map, Option, Some, Ok, refl, sym, ap, subst, if◌then◌else◌, Result, arith, ◌&&◌, slice_get, bytes_eq}
use Rattle.acpi_base.proofs.FromStd.{and_parts, le-leb, bytes_eq-Decides}
use Rattle.acpi_base.proofs.Words.{bind_ok}
use Rattle.acpi_writer.specs.Words.{AllByRecursion, chars, is_utf8, part, spelling, check_names, check_table, header_at, ◌>>=◌, holds, letters_of, Memory, sdt_kind, Signature, BGRT, FADT, GTDT, HPET, MADT, MCFG, SLIT, SPCR, SRAT, SSDT, AcpiError, aml_checked, IsBgrt, bgrt_body, SaysImage, FitsContents, bytes_of, contents_written, most, or_none, placed, signature_of, fadt_body, fadt_checked, fadt_written, IsFadt, IsGicMadt, gic_body, gic_checked, gic_written, gic_read, IsGtdt, gtdt_body, gtdt_checked, SaysTimers, hpet_body, IsHpet, is_named, check_tables, AreValid, first_at, first_of, place_of, HasFadt, HasTable, Says, platform_read, madt_body, madt_checked, madt_written, IsMadt, model_read, mcfg_body, IsMcfg, IsSlit, slit_body, slit_checked, slit_written, spcr_body, spcr_checked, spcr_written, IsSpcr, SaysConsole, SratContents, srat_body, srat_checked, srat_written, AreIds, IsTableOf, IsValid, table_written, TableContents, Bgrt, Fadt, GicMadt, Gtdt, Hpet, Madt, Mcfg, Slit, Spcr, Srat, Ssdt, WriterError, FadtContents, GtdtContents, TableIds, GicContents, MadtContents, SpcrContents, IsSrat, SaysDomains, BgrtContents, SlitContents, gtdt_written_by, madt_fields, hpet_fields, front_fields, fixed_list, bgrt_fields, gtdt_fields, hpet_of, lookup, found_regions, model_in, platform_of, HpetInfo, found_gic, gtdt_kind, bgrt_at, srat_kind, distance_of}
use Rattle.acpi_writer.proofs.ShortTables.{bgrt_read}
use Rattle.acpi_table_writer.proofs.ShortTables.{hpet_read, mcfg_read, slit_is, slit_read}
use Rattle.acpi_table_writer.proofs.Bits.{was_true}
use Rattle.acpi_writer.proofs.FadtRead.{fadt_read}
use Rattle.acpi_table_writer.proofs.GicRead.{gic_madt_is, gic_madt_read}
use Rattle.acpi_table_writer.proofs.GtdtRead.{gtdt_read}
use Rattle.acpi_writer.proofs.LaidRead.{platform_has}
use Rattle.acpi_table_writer.proofs.MadtRead.{madt_is, madt_read}
use Rattle.acpi_table_writer.proofs.Sized.{wrote}
use Rattle.acpi_writer.proofs.SpcrRead.{spcr_read}
use Rattle.acpi_table_writer.proofs.SratRead.{srat_is, srat_read}
use Rattle.acpi_table_writer.specs.Srat as srat
use Rattle.acpi_table_writer.proofs.Tables as table

-- ---- a table that is written

abbrev pub IsContents : TableIds → TableContents → List ℕ → Type 0
IsContents ids (Madt c) t = IsMadt ids c t
IsContents ids (Mcfg regions) t = IsMcfg ids regions.now t
IsContents ids (Hpet info) t = IsHpet ids info t
IsContents ids (Slit c) t = IsSlit ids c.localities c.distances.now t
IsContents ids (Ssdt c) t = IsTableOf SSDT c.revision ids c.bytes.now t
IsContents ids (Fadt c) t = IsFadt ids c t
IsContents ids (Srat c) t = srat.IsSrat ids c t
IsContents ids (Spcr c) t = IsSpcr ids c t
IsContents ids (Bgrt c) t = IsBgrt ids c t
IsContents ids (Gtdt c) t = IsGtdt ids c t
IsContents ids (GicMadt c) t = IsGicMadt ids c t

pub table_of : (s : Signature) (revision : ℕ) (ids : TableIds) (body t : List ℕ) → AreIds ids
    → table_written most s revision ids body ≡ Ok t → IsTableOf s revision ids body t
table_of s revision ids body t are e =
    let w = wrote most s revision ids body t e in
    record { ids_fit = are; texts = w.texts; short = w.short; bytes = w.bytes }

-- of contents that are checked first
pub checked_table : (checked : Result (Unit {0}) WriterError) (s : Signature) (revision : ℕ) (ids : TableIds)
    (body t : List ℕ)
    → AreIds ids → (checked >>= λ _. table_written most s revision ids body) ≡ Ok t
    → IsTableOf s revision ids body t × (checked ≡ Ok tt)
checked_table checked s revision ids body t are e =
    let both = bind_ok checked (λ _. table_written most s revision ids body) t e in
    (table_of s revision ids body t are both.2, both.1)

contents_of : (ids : TableIds) (c : TableContents) (t : List ℕ) → AreIds ids → FitsContents c
    → contents_written ids c ≡ Ok t → IsContents ids c t
unfolding fadt_written gic_written gtdt_written_by madt_written slit_written spcr_written srat_written
contents_of ids (Madt c) t are fit e =
    let both = checked_table (madt_checked c) MADT 5 ids (madt_body c) t are e in
    madt_is ids c t both.0 fit both.1
contents_of ids (Mcfg regions) t are fit e =
    record { written = table_of MCFG 1 ids (mcfg_body regions.now) t are e; fit = fit }
contents_of ids (Hpet info) t are fit e = record { written = table_of HPET 1 ids (hpet_body info) t are e; fit = fit }
contents_of ids (Slit c) t are fit e =
    let n = c.localities in
    let distances = c.distances.now in
    let both = checked_table (slit_checked n distances) SLIT 1 ids (slit_body n distances) t are e in
    slit_is ids n distances t both.0 fit both.1
contents_of ids (Ssdt c) t are fit e =
    (checked_table (aml_checked SSDT c.bytes.now) SSDT c.revision ids c.bytes.now t are e).0
contents_of ids (Fadt c) t are fit e =
    let both = checked_table (fadt_checked c) FADT 6 ids (fadt_body c) t are e in
    record { written = both.0; fit = fit; checked = both.1 }
contents_of ids (Srat c) t are fit e =
    let both = checked_table (srat_checked c) SRAT 3 ids (srat_body c) t are e in
    srat_is ids c t both.0 fit both.1
contents_of ids (Spcr c) t are fit e =
    let both = checked_table (spcr_checked c) SPCR 4 ids (spcr_body c) t are e in
    record { written = both.0; fit = fit; checked = both.1 }
contents_of ids (Bgrt c) t are fit e = record { written = table_of BGRT 1 ids (bgrt_body c) t are e; fit = fit }
contents_of ids (Gtdt c) t are fit e =
    let both = checked_table (gtdt_checked c) GTDT 3 ids (gtdt_body c) t are e in
    record { written = both.0; fit = fit; checked = both.1 }
contents_of ids (GicMadt c) t are fit e =
    let both = checked_table (gic_checked c) MADT 6 ids (gic_body c) t are e in
    gic_madt_is ids c t both.0 fit both.1

valid_of : (ids : TableIds) (c : TableContents) (t : List ℕ) → IsContents ids c t → IsValid (signature_of c) t
unfolding is_utf8 chars lib.Utf8.encode
valid_of ids (Madt c) t is = table.valid refl is.written refl
valid_of ids (Mcfg regions) t is = table.valid refl is.written refl
valid_of ids (Hpet info) t is = table.valid refl is.written refl
valid_of ids (Slit c) t is = table.valid refl is.written refl
valid_of ids (Ssdt c) t is = table.valid refl is refl
valid_of ids (Fadt c) t is = table.valid refl is.written refl
valid_of ids (Srat c) t is = table.valid refl is.written refl
valid_of ids (Spcr c) t is = table.valid refl is.written refl
valid_of ids (Bgrt c) t is = table.valid refl is.written refl
valid_of ids (Gtdt c) t is = table.valid refl is.written refl
valid_of ids (GicMadt c) t is = table.valid refl is.written refl

-- the bytes after a header that a reader requests
abbrev asked : TableContents → ℕ
asked (Madt c) = 8
asked (Mcfg regions) = 8
asked (Hpet info) = 20
asked (Slit c) = 8
asked (Ssdt c) = 0
asked (Fadt c) = 80
asked (Srat c) = 12
asked (Spcr c) = 44
asked (Bgrt c) = 20
asked (Gtdt c) = 60
asked (GicMadt c) = 8

long_enough : (ids : TableIds) (c : TableContents) (t : List ℕ) → IsContents ids c t → 36 + asked c ≤ length t
unfolding madt_fields hpet_fields front_fields fixed_list bgrt_fields gtdt_fields spelling
long_enough ids (Madt c) t is = omega (arith, table.long refl is.written)
long_enough ids (Mcfg regions) t is = omega (arith, table.long refl is.written)
long_enough ids (Hpet info) t is = omega (arith, table.long refl is.written)
long_enough ids (Slit c) t is = omega (arith, table.long refl is.written)
long_enough ids (Ssdt c) t is = omega (arith, table.long refl is)
long_enough ids (Fadt c) t is = omega (arith, table.long refl is.written)
long_enough ids (Srat c) t is = omega (arith, table.long refl is.written)
long_enough ids (Spcr c) t is = omega (arith, table.long refl is.written)
long_enough ids (Bgrt c) t is = omega (arith, table.long refl is.written)
long_enough ids (Gtdt c) t is = omega (arith, table.long refl is.written)
long_enough ids (GicMadt c) t is = omega (arith, table.long refl is.written)

-- ---- all of them

pub all_contents : (ids : TableIds) (cs : List TableContents) → AreIds ids → AllByRecursion FitsContents cs
    → check_tables ids cs ≡ Ok tt → AllByRecursion (λ c. IsContents ids c (bytes_of ids c)) cs
all_contents ids [] are fit e = tt
all_contents ids (c ∷ cs) are fit e =
    let first = bind_ok (contents_written ids c) (λ _. check_tables ids cs) tt e in
    let same : bytes_of ids c ≡ first.0 = ap or_none first.1 in (
      subst (IsContents ids c) (sym same) (contents_of ids c first.0 are fit.0 first.1),
      all_contents ids cs are fit.1 first.2,
    )

pub all_valid : (ids : TableIds) (cs : List TableContents) → AllByRecursion (λ c. IsContents ids c (bytes_of ids c)) cs
    → AreValid (map (bytes_of ids) cs)
all_valid ids [] all = tt
all_valid ids (c ∷ cs) all = ((signature_of c, valid_of ids c (bytes_of ids c) all.0), all_valid ids cs all.1)

-- ---- the first of a signature

pub letters_are : (s : Signature) (t : List ℕ) → IsValid s t → part t 0 4 ≡ letters_of s
unfolding check_table check_names header_at
letters_are s t valid =
    let names = bind_ok (check_names s (header_at t)) _ tt valid.checked in
    let first = bind_ok (holds (bytes_eq (part t 0 4) (letters_of s) && is_utf8 (part t 0 4)) _) _ tt names.1 in
    let both = and_parts (bytes_eq (part t 0 4) (letters_of s)) (is_utf8 (part t 0 4)) (was_true _ _ first.1) in
    (bytes_eq-Decides (part t 0 4) (letters_of s)).0 both.0

pick : (b : Bool) (ids : TableIds) (s : Signature) (a least : ℕ) (d c : TableContents) (cs : List TableContents)
    → is_named s (bytes_of ids d) ≡ b
    → (if b then Some d else first_of s cs) ≡ Some c → least ≤ length (bytes_of ids c)
    → (first_of s cs ≡ Some c → first_at s least (a + length (placed ids d)) (map (bytes_of ids) cs)
    ≡ Ok (place_of ids s (a + length (placed ids d)) cs, bytes_of ids c))
    → first_at s least a (map (bytes_of ids) (d ∷ cs))
    ≡ Ok ((if b then a else place_of ids s (a + length (placed ids d)) cs), bytes_of ids c)
pick true ids s a least d c cs named is long later =
    let same : d ≡ c = cc in
    rw (named, same, le-leb least (length (bytes_of ids c)) long) refl
pick false ids s a least d c cs named is long later = rw named (later is)

pub first_found : (ids : TableIds) (s : Signature) (a least : ℕ) (c : TableContents) (cs : List TableContents)
    → AllByRecursion (λ d. IsContents ids d (bytes_of ids d)) cs
    → first_of s cs ≡ Some c → least ≤ length (bytes_of ids c)
    → first_at s least a (map (bytes_of ids) cs) ≡ Ok (place_of ids s a cs, bytes_of ids c)
first_found ids s a least c [] all is long = absurd cc
first_found ids s a least c (d ∷ cs) all is long =
    let named : is_named s (bytes_of ids d) ≡ bytes_eq (letters_of (signature_of d)) (letters_of s) =
    ap (λ l. bytes_eq l (letters_of s)) (letters_are (signature_of d) (bytes_of ids d)
    (valid_of ids d (bytes_of ids d) all.0)) in
    pick (bytes_eq (letters_of (signature_of d)) (letters_of s)) ids s a least d c cs named is long
    (λ later. first_found ids s (a + length (placed ids d)) least c cs all.1 later long)

first_by : (b : Bool) (ids : TableIds) (s : Signature) (c d : TableContents) (cs : List TableContents)
    → IsContents ids d (bytes_of ids d) → (if b then Some d else first_of s cs) ≡ Some c
    → (first_of s cs ≡ Some c → IsContents ids c (bytes_of ids c)) → IsContents ids c (bytes_of ids c)
first_by true ids s c d cs this is later =
    let same : d ≡ c = cc in
    subst (λ x. IsContents ids x (bytes_of ids x)) same this
first_by false ids s c d cs this is later = later is

-- the first one is written
pub first_is : (ids : TableIds) (s : Signature) (c : TableContents) (cs : List TableContents)
    → AllByRecursion (λ d. IsContents ids d (bytes_of ids d)) cs → first_of s cs ≡ Some c
    → IsContents ids c (bytes_of ids c)
first_is ids s c [] all is = absurd cc
first_is ids s c (d ∷ cs) all is = first_by (bytes_eq (letters_of (signature_of d)) (letters_of s)) ids s c d cs all.0
    is (λ later. first_is ids s c cs all.1 later)

-- ---- what a reader returns

abbrev one_distance : Option ℕ → Result (Option ℕ) AcpiError
one_distance x = Ok x

module _
    (ids : TableIds) (m : Memory) (ps : List ℕ) (place : Signature → ℕ) (cs : List TableContents)
    (all : AllByRecursion (λ c. IsContents ids c (bytes_of ids c)) cs)
    (found : (s : Signature) (c : TableContents) (least : ℕ) → first_of s cs ≡ Some c → 36 ≤ least
    → least ≤ length (bytes_of ids c) → lookup m (sdt_kind s least) ps ≡ Ok (place s, bytes_of ids c)) where
  first_read : (s : Signature) (c : TableContents) → first_of s cs ≡ Some c
      → (lookup m (sdt_kind s (36 + asked c)) ps ≡ Ok (place s, bytes_of ids c)) × IsContents ids c (bytes_of ids c)
  first_read s c is_first =
      let this = first_is ids s c cs all is_first in
      (found s c (36 + asked c) is_first (omega arith) (long_enough ids c (bytes_of ids c) this), this)

  pub fadt_found : (c : FadtContents) → first_of FADT cs ≡ Some (Fadt c) → HasFadt m ps c
  fadt_found c is_first =
      let f = first_read FADT (Fadt c) is_first in
      ((place FADT, bytes_of ids (Fadt c)), f.0, fadt_read ids c _ f.1)

  model : {A : Type 0} (c : MadtContents) → first_of MADT cs ≡ Some (Madt c) → model_in {A = A} m ps ≡ Ok (model_read c)
  model {A = A} c is_first =
      let f = first_read MADT (Madt c) is_first in
      rw f.0 (madt_read {A = A} ids c _ f.1)

  regions : (es : _) → first_of MCFG cs ≡ Some (Mcfg es) → found_regions m ps ≡ Ok es.now
  regions es is_first =
      let f = first_read MCFG (Mcfg es) is_first in
      rw (f.0, mcfg_read ids es.now _ f.1) refl

  hpet : (i : HpetInfo) → first_of HPET cs ≡ Some (Hpet i) → hpet_of m ps ≡ Ok i
  hpet i is_first =
      let f = first_read HPET (Hpet i) is_first in
      rw f.0 (hpet_read ids i _ f.1)

  distances : (c : SlitContents) (from to : ℕ) → first_of SLIT cs ≡ Some (Slit c) → from < c.localities
      → to < c.localities
      → (lookup m (sdt_kind SLIT 44) ps >>= λ found. one_distance (distance_of found.1 from to))
      ≡ Ok (slice_get c.distances.now (from * c.localities + to))
  distances c from to is_first less below =
      let f = first_read SLIT (Slit c) is_first in
      rw (f.0, slit_read ids c.localities c.distances.now _ f.1 from to less below) refl

  platform_found : {A : Type 0} (c : FadtContents) (d : MadtContents) → first_of FADT cs ≡ Some (Fadt c)
      → first_of MADT cs ≡ Some (Madt d)
      → platform_of {A = A} m ps ≡ Ok (platform_read c d)
  platform_found {A = A} c d is_fadt is_madt =
      let fadt = fadt_found c is_fadt in
      rw (fadt.1, model {A = A} d is_madt, fadt.2.fields.profile, fadt.2.timer) refl

  domains : (c : SratContents) → first_of SRAT cs ≡ Some (Srat c) → HasTable m ps srat_kind (SaysDomains c)
  domains c is_first =
      let f = first_read SRAT (Srat c) is_first in
      ((place SRAT, bytes_of ids (Srat c)), f.0, srat_read ids c _ f.1)

  console : (c : SpcrContents) → first_of SPCR cs ≡ Some (Spcr c) → HasTable m ps (sdt_kind SPCR 80) (SaysConsole c)
  console c is_first =
      let f = first_read SPCR (Spcr c) is_first in
      ((place SPCR, bytes_of ids (Spcr c)), f.0, spcr_read ids c _ f.1)

  image : (c : BgrtContents) → first_of BGRT cs ≡ Some (Bgrt c)
      → HasTable m ps (sdt_kind BGRT 56) (λ t. SaysImage c (bgrt_at t))
  image c is_first =
      let f = first_read BGRT (Bgrt c) is_first in
      ((place BGRT, bytes_of ids (Bgrt c)), f.0, bgrt_read ids c _ f.1)

  timers : (c : GtdtContents) → first_of GTDT cs ≡ Some (Gtdt c) → HasTable m ps gtdt_kind (SaysTimers c)
  timers c is_first =
      let f = first_read GTDT (Gtdt c) is_first in
      ((place GTDT, bytes_of ids (Gtdt c)), f.0, gtdt_read ids c _ f.1)

  gic : {A : Type 0} (c : GicContents) → first_of MADT cs ≡ Some (GicMadt c)
      → found_gic {A = A} m ps ≡ Ok (Some (gic_read c))
  gic {A = A} c is_first =
      let f = first_read MADT (GicMadt c) is_first in
      rw f.0 (gic_madt_read {A = A} ids c _ f.1)

  pub says : {A : Type 0} → Says A m ps cs
  says {A = A} = record {
    model = λ c is_first. model {A = A} c is_first;
    platform = λ c q is_first given. platform_has m ps c q (model {A = A} c is_first) given;
    platform_is = λ c d is_fadt is_madt. platform_found {A = A} c d is_fadt is_madt;
    fadt = fadt_found;
    regions = regions;
    hpet = hpet;
    distances = distances;
    domains = domains;
    console = console;
    image = image;
    timers = timers;
    gic = λ c is_first. gic {A = A} c is_first;
  }
