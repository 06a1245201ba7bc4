-- What a reader finds of a machine that is laid out in memory.
use Rattle.std.proofs.Common.{◌≡◌, ℕ, ◌+◌, ◌%◌, ◌^◌, ◌<◌, ◌≤◌, true, false, List, [], ◌∷◌, ◌++◌, length, Option, Some, None, Result, Ok, Err, refl, sym, ap, subst, ◌∙◌, arith, lit≤, length-append, ◌*◌, ◌&&◌, ◌==◌, nat_lt, not, replicate, bytes_eq}
use Rattle.acpi_base.proofs.FromStd.{bytes_eq-Decides, and_parts, le-leb, lt-ltb, ltb-true, All-from_recursion, recursion_from_All}
use Rattle.acpi_base.proofs.Words.{bind_ok, holds_ok, same_ok}
use Rattle.acpi.specs.Words.{accepted_rsdp_at}
use Rattle.acpi.proofs.Search.{whole_there}
use Rattle.acpi_image.proofs.Written.{table_is}
use Rattle.acpi_writer.specs.Words.{AllByRecursion, aml_checked, table_written, result_ok, Memory, IsMemory, at, plain_kind, sdt_kind, table_at, letters_of, AcpiError, Signature, DSDT, FADT, XSDT, dsdt_stream, stream_by, stream_of, lookup, facs_place, by_first_fadt, range, at_hand, check_rsdp, check_whole, checked_length, rsdp_at, Xsdt, FitsContents, bytes_of, contents_written, most, or_none, FitsFacs, is_named, addresses, gap, laid, padded, rounded, FacsFits, Machine, after_dsdt, check_by, dsdt_address, dsdt_at, dsdt_end, dsdt_length, dsdt_of, dsdt_written, facs_address, facs_at, facs_from, facs_gap, facs_laid, facs_room, listed, machine_by, pointers_of, rest_bytes, size_by, tables_address, tree_by, tree_bytes, tree_size, xsdt_bytes, xsdt_length, HasFacs, IsOpened, IsWritable, MachineIsRead, TreeIsRead, first_at, first_of, place_of, IsRoot, Leads, rsdp_bytes, AreIds, IsValid, are_texts, AmlContents, TableContents, Fadt, BadName, TooLong, FacsContents, FadtContents, TableIds}
use Rattle.acpi_table_writer.proofs.Bits.{is_off}
use Rattle.acpi_writer.proofs.ContentsRead.{IsContents, all_contents, all_valid, checked_table, fadt_found, first_found, letters_are, says}
use Rattle.acpi_writer.proofs.Headless.{has_facs, laid_long, rsdp_long, rsdp_read}
use Rattle.acpi_writer.proofs.LaidRead.{front_lent, laid_found, rest_lent, there}
use Rattle.acpi_writer.proofs.ShortTables.{dsdt_read, root_read, root_valid}
use Rattle.acpi_table_writer.proofs.Tables.{table_length}
use Rattle.acpi_writer.proofs.Sized.{padded_long, root_long, tree_size_is, xsdt_long}
use Rattle.acpi_table_writer.proofs.Sized.{wrote}

-- ---- an RSDP that is mapped

pub rsdp_there : (m : Memory) (p : ℕ) (b : List ℕ) → length b ≡ 36 → at m p 36 ≡ Some b → check_rsdp b ≡ Ok tt
    → rsdp_at m p ≡ Ok b
unfolding accepted_rsdp_at check_rsdp
rsdp_there m p b long e checked =
    let parts = bind_ok (checked_length b) (λ n. check_whole (at_hand b) n) tt checked in
    let all : at m p (length b) ≡ Some b = ap (at m p) long ∙ e in
    rw (e, parts.1, whole_there m p b parts.0 all parts.2) refl

-- ---- a table that is mapped

ok_from : (r : Result (List ℕ) AcpiError) (t : List ℕ) → result_ok r ≡ Some t → r ≡ Ok t
ok_from (Ok x) t e = cc
ok_from (Err d) t e = absurd cc

pub table_there : (m : Memory) (p : ℕ) (s : Signature) (t : List ℕ) → IsValid s t → at m p (length t) ≡ Some t
    → table_at m (plain_kind s) p ≡ Ok t
table_there m p s t valid e =
    let named : is_named s t ≡ true = ap (λ l. bytes_eq l (letters_of s)) (letters_are s t valid)
    ∙ (bytes_eq-Decides (letters_of s) (letters_of s)).1 refl in
    ok_from (table_at m (plain_kind s) p) t (there m p s t valid e s 36 (lit≤ tt)
    ∙ rw (named, le-leb 36 (length t) (table_is t valid.taken).long) refl)

-- ---- the whole machine

addresses_fit : (n a : ℕ) (ts : List (List ℕ)) → a + length (laid ts) < n → AllByRecursion (λ p. p < n) (addresses a ts)
addresses_fit n a [] less = tt
addresses_fit n a (t ∷ ts) less = (
  omega (arith, less),
  addresses_fit n (a + length (padded t)) ts
      (omega (arith, less, length-append (padded t) (laid ts))),
)

-- what is known if the machine can be written
record Facts (a : ℕ) (x : Machine) : Type 0 where
  texts : are_texts x.ids ≡ true
  short : xsdt_length x < 2 ^ 32
  dsdt : List ℕ
  dsdt_is : dsdt_written x.ids x.dsdt ≡ Ok dsdt
  tables : AllByRecursion (λ c. IsContents x.ids c (bytes_of x.ids c)) x.tables.now
  some : (a == 0) ≡ false
  ends : a + tree_size x < 2 ^ 64

facts : (a : ℕ) (x : Machine) → IsWritable a x → Facts a x
unfolding check_by
facts a x is =
    let one = holds_ok (are_texts x.ids) BadName _ tt is.checked in
    let two = holds_ok (nat_lt (xsdt_length x) (2 ^ 32)) TooLong _ tt one.1 in
    let three = bind_ok (dsdt_written x.ids x.dsdt) _ tt two.1 in
    let place = and_parts (not (a == 0)) ((a % 16 == 0) && nat_lt (a + tree_size x) (2 ^ 64)) is.place in
    record {
      texts = one.0;
      short = ltb-true (xsdt_length x) (2 ^ 32) two.0;
      dsdt = three.0;
      dsdt_is = three.1;
      tables = all_contents x.ids x.tables.now is.fit.ids (recursion_from_All FitsContents x.tables.now is.fit.tables)
          three.2;
      some = is_off (a == 0) place.0;
      ends = ltb-true (a + tree_size x) (2 ^ 64)
          (and_parts (a % 16 == 0) (nat_lt (a + tree_size x) (2 ^ 64)) place.1).1;
    }

dsdt_is_valid : (ids : TableIds) (d : Option AmlContents) (c : AmlContents) (t : List ℕ) → AreIds ids → d ≡ Some c
    → dsdt_written ids d ≡ Ok t → IsValid DSDT t
dsdt_is_valid ids None c t are some e = absurd cc
dsdt_is_valid ids (Some d) c t are some e =
    let both = checked_table (aml_checked DSDT d.bytes.now) DSDT d.revision ids d.bytes.now t are e in
    (dsdt_read d.revision ids d.bytes.now t both.0).valid

module _ (m : Memory) (rsdp a : ℕ) (x : Machine) (h : IsMemory m) (is : IsWritable a x)
    (first : at m rsdp 36 ≡ Some (rsdp_bytes x.ids.oem_id a)) (e : at m a (tree_size x) ≡ Some (tree_bytes a x)) where
  abbrev known : Facts a x
  known = facts a x is

  -- ---- where its parts are mapped

  abbrev xsdt : List ℕ
  xsdt = xsdt_bytes a x

  xsdt_is : length xsdt ≡ xsdt_length x
  xsdt_is = xsdt_long contents_written (tables_address a x) x is.fit.ids

  abbrev rest : List ℕ
  rest = rest_bytes contents_written (dsdt_address a x) x

  abbrev after : List ℕ
  after = after_dsdt contents_written (dsdt_end a x) x

  whole_lent : at m a (length (padded xsdt ++ rest)) ≡ Some (padded xsdt ++ rest)
  unfolding tree_by
  whole_lent = ap (at m a) (tree_size_is contents_written a x is.fit.ids) ∙ e

  xsdt_lent : at m a (length xsdt) ≡ Some xsdt
  xsdt_lent = front_lent m a xsdt (replicate (gap (length xsdt)) 0) (front_lent m a (padded xsdt) rest whole_lent)

  rest_there : at m (dsdt_address a x) (length rest) ≡ Some rest
  rest_there = ap (λ n. at m (a + n) (length rest)) (sym (padded_long xsdt ∙ ap rounded xsdt_is))
      ∙ rest_lent m a (padded xsdt) rest h whole_lent

  dsdt_lent : at m (dsdt_address a x) (length (dsdt_of x)) ≡ Some (dsdt_of x)
  dsdt_lent = front_lent m (dsdt_address a x) (dsdt_of x) (replicate (gap (length (dsdt_of x))) 0)
      (front_lent m (dsdt_address a x) (padded (dsdt_of x)) after rest_there)

  after_there : at m (dsdt_end a x) (length after) ≡ Some after
  after_there = rest_lent m (dsdt_address a x) (padded (dsdt_of x)) after h rest_there

  facs_lent : at m (dsdt_end a x) (length (facs_laid (dsdt_end a x) x.facs)) ≡ Some (facs_laid (dsdt_end a x) x.facs)
  facs_lent = front_lent m (dsdt_end a x) (facs_laid (dsdt_end a x) x.facs) (laid (listed x)) after_there

  listed_lent : at m (tables_address a x) (length (laid (listed x))) ≡ Some (laid (listed x))
  listed_lent =
      ap (λ n. at m (dsdt_end a x + n) (length (laid (listed x)))) (sym (laid_long (dsdt_end a x) x.facs))
      ∙ rest_lent m (dsdt_end a x) (facs_laid (dsdt_end a x) x.facs) (laid (listed x)) h after_there

  -- ---- what is opened

  leads : Leads x.ids.oem_id a (rsdp_bytes x.ids.oem_id a)
  leads = rsdp_read x.ids a (rsdp_bytes x.ids.oem_id a) (record {
    ids_fit = is.fit.ids;
    texts = known.texts;
    some =
        known.some;
    small = omega (arith, known.ends);
    bytes = refl;
  })

  rsdp_found : rsdp_at m rsdp ≡ Ok (rsdp_bytes x.ids.oem_id a)
  rsdp_found = rsdp_there m rsdp (rsdp_bytes x.ids.oem_id a) (rsdp_long x.ids.oem_id a is.fit.ids.oem_id) first
      leads.checked

  listed_ends : tables_address a x + length (laid (listed x)) < 2 ^ 64
  unfolding size_by
  listed_ends = omega (arith, known.ends)

  root : IsRoot Xsdt x.ids (pointers_of a x) xsdt
  root = record {
    written = record {
      ids_fit = is.fit.ids;
      texts = known.texts;
      short =
          omega (arith, known.short, root_long contents_written (tables_address a x) x.ids x.tables.now);
      bytes = refl;
    };
    fit = All-from_recursion (λ p. p < 256 ^ 8) (pointers_of a x)
        (addresses_fit (256 ^ 8) (tables_address a x) (listed x) (omega (arith, listed_ends)));
  }

  root_found : table_at m (plain_kind XSDT) a ≡ Ok xsdt
  root_found = table_there m a XSDT xsdt (root_valid Xsdt x.ids (pointers_of a x) xsdt root) xsdt_lent

  looked_up : (s : Signature) (least : ℕ) → 36 ≤ least
      → lookup m (sdt_kind s least) (pointers_of a x) ≡ first_at s least (tables_address a x) (listed x)
  looked_up = laid_found m (tables_address a x) (listed x) h (all_valid x.ids x.tables.now known.tables) listed_lent

  found : (s : Signature) (c : TableContents) (least : ℕ) → first_of s x.tables.now ≡ Some c → 36 ≤ least
      → least ≤ length (bytes_of x.ids c)
      → lookup m (sdt_kind s least) (pointers_of a x) ≡ Ok (
        place_of x.ids s (tables_address a x) x.tables.now,
        bytes_of x.ids c,
      )
  found s c least is_first enough long = looked_up s least enough
      ∙ first_found x.ids s (tables_address a x) least c x.tables.now known.tables is_first long

  dsdt_found : (d : AmlContents) → x.dsdt ≡ Some d → table_at m (plain_kind DSDT) (dsdt_address a x) ≡ Ok (dsdt_of x)
  dsdt_found d some =
      let valid : IsValid DSDT (dsdt_of x) =
      subst (IsValid DSDT) (sym (ap or_none known.dsdt_is))
      (dsdt_is_valid x.ids x.dsdt d known.dsdt is.fit.ids some known.dsdt_is) in
      table_there m (dsdt_address a x) DSDT (dsdt_of x) valid dsdt_lent

  aml_found : (c : FadtContents) (d : AmlContents) → first_of FADT x.tables.now ≡ Some (Fadt c) → x.dsdt ≡ Some d
      → c.dsdt ≡ dsdt_address a x
      → dsdt_stream m (pointers_of a x) ≡ Ok (stream_of (dsdt_address a x) (dsdt_of x))
  unfolding stream_by
  aml_found c d is_first some same =
      let fadt = fadt_found x.ids m (pointers_of a x) (λ s. place_of x.ids s (tables_address a x) x.tables.now)
      x.tables.now known.tables found c is_first in
      let leads_there = fadt.2.fields.dsdt in
      rw (fadt.1, leads_there, same, dsdt_found d some) refl

  facs_found : (f : FacsContents) → x.facs ≡ Some f → HasFacs m (facs_address a x) f
  facs_found f some =
      let p = dsdt_end a x in
      let fits : FitsFacs f = subst FacsFits some is.fit.facs in
      has_facs m p f h fits (subst (λ o. at m p (length (facs_laid p o)) ≡ Some (facs_laid p o)) some facs_lent)

  facs_there : (c : FadtContents) (f : FacsContents) → first_of FADT x.tables.now ≡ Some (Fadt c) → x.facs ≡ Some f
      → c.facs ≡ Some (facs_address a x)
      → by_first_fadt facs_place m (pointers_of a x) ≡ Ok (range (facs_address a x) 64)
  facs_there c f is_first some same =
      let fadt = fadt_found x.ids m (pointers_of a x) (λ s. place_of x.ids s (tables_address a x) x.tables.now)
      x.tables.now known.tables found c is_first in
      let leads_there = fadt.2.fields.facs in
      rw (fadt.1, leads_there, same, (facs_found f some).found) refl

  opened : IsOpened m rsdp a x
  opened = record {
    rsdp_is = rsdp_found;
    opened = rw (rsdp_found, leads.leads, root_found) refl;
    listed = root_read Xsdt x.ids (pointers_of a x) xsdt root;
    found = found;
    facs = facs_found;
    facs_is_found = facs_there;
    dsdt = dsdt_found;
    aml = aml_found;
  }

pub tree_read : {A : Type 0} → TreeIsRead A
tree_read {A = A} m rsdp a x h is first e = (
  opened m rsdp a x h is first e,
  says x.ids m (pointers_of a x) (λ s. place_of x.ids s (tables_address a x) x.tables.now) x.tables.now
      (facts a x is).tables (found m rsdp a x h is first e) {A = A},
)

-- ---- what is known before

dsdt_room : (ids : TableIds) (d : Option AmlContents) (t : List ℕ) → AreIds ids → dsdt_written ids d ≡ Ok t
    → (length (padded t) ≡ rounded (dsdt_length d)) × (dsdt_length d < 2 ^ 32)
dsdt_room ids None t are e = (ap (λ b. length (padded b)) (sym (same_ok [] t e)), lit≤ tt)
dsdt_room ids (Some d) t are e =
    let written = λ (_ : _). table_written most DSDT d.revision ids d.bytes.now in
    let w = wrote most DSDT d.revision ids d.bytes.now t (bind_ok (aml_checked DSDT d.bytes.now) written t e).2 in
    (padded_long t ∙ ap rounded (ap length w.bytes ∙ table_length DSDT d.revision ids d.bytes.now refl are), w.short)

module _ (a : ℕ) (x : Machine) (is : IsWritable (a + 48) x) where
  abbrev facts_of : Facts (a + 48) x
  facts_of = facts (a + 48) x is

  abbrev count : ℕ
  count = length x.tables.now

  abbrev ends_at : ℕ
  ends_at = facs_from a count (dsdt_length x.dsdt)

  dsdt_is : (length (padded (dsdt_of x)) ≡ rounded (dsdt_length x.dsdt)) × (dsdt_length x.dsdt < 2 ^ 32)
  dsdt_is =
      let room = dsdt_room x.ids x.dsdt facts_of.dsdt is.fit.ids facts_of.dsdt_is in
      (ap (λ w. length (padded (or_none w))) facts_of.dsdt_is ∙ room.0, room.1)

  ends_is : ends_at ≡ dsdt_end (a + 48) x
  ends_is = omega (arith, dsdt_is.0)

  dsdt_known : dsdt_at a count ≡ Some (dsdt_address (a + 48) x)
  unfolding size_by
  dsdt_known =
      rw (
        lt-ltb (36 + 8 * count) (2 ^ 32) facts_of.short,
        lt-ltb (a + (48 + rounded (36 + 8 * count))) (2 ^ 64)
            (omega (arith, facts_of.ends)),
      )
      (ap (λ (p : ℕ). Some p) (omega arith))

  facs_known : (f : FacsContents) → x.facs ≡ Some f → facs_at a count x.dsdt ≡ Some (facs_address (a + 48) x)
  unfolding size_by
  facs_known f some =
      let room : facs_room x.facs ≡ 128 = ap facs_room some in
      let within : ends_at + facs_gap ends_at < 2 ^ 64 = omega (arith, facts_of.ends, room, ends_is) in
      rw (lt-ltb (36 + 8 * count) (2 ^ 32) facts_of.short, lt-ltb (dsdt_length x.dsdt) (2 ^ 32) dsdt_is.1)
      (rw (lt-ltb (ends_at + facs_gap ends_at) (2 ^ 64) within)
      (ap (λ (p : ℕ). Some (p + facs_gap p)) ends_is))

pub machine_read : {A : Type 0} → MachineIsRead A
unfolding machine_by
machine_read {A = A} m a x h is e =
    let rsdp = rsdp_bytes x.ids.oem_id (a + 48) in
    let long : length rsdp ≡ 36 = rsdp_long x.ids.oem_id (a + 48) is.fit.ids.oem_id in
    let filled : length (padded rsdp) ≡ 48 = padded_long rsdp ∙ ap rounded long in
    let tree : length (tree_bytes (a + 48) x) ≡ tree_size x = tree_size_is contents_written (a + 48) x is.fit.ids in
    let all : at m a (length (padded rsdp ++ tree_bytes (a + 48) x)) ≡ Some (padded rsdp ++ tree_bytes (a + 48) x) =
    ap (at m a) (omega (arith, length-append (padded rsdp) (tree_bytes (a + 48) x), filled, tree)) ∙ e in
    let front = front_lent m a rsdp (replicate (gap (length rsdp)) 0)
    (front_lent m a (padded rsdp) (tree_bytes (a + 48) x) all) in
    let rest = rest_lent m a (padded rsdp) (tree_bytes (a + 48) x) h all in
    let both = tree_read {A = A} m a (a + 48) x h is (ap (at m a) (sym long) ∙ front)
    (ap (λ n. at m (a + n) (tree_size x)) (sym filled) ∙ ap (at m (a + length (padded rsdp))) (sym tree) ∙ rest) in
    (both.0, both.1, record { dsdt = dsdt_known a x is; facs = facs_known a x is })
