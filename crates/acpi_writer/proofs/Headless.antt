-- What a reader finds in the structures that are written without the header of a table: an RSDP and a FACS.
use Rattle.std.proofs.Common.{◌≡◌, ℕ, List, ◌++◌, length, take, Ok, refl, sym, ap, subst, ◌∙◌, arith, length-append, ◌+◌, ◌*◌, Some, ◌-◌, Option, None, replicate}
use Rattle.acpi_base.proofs.FromStd.{and_parts, length-replicate, take_all}
use Rattle.acpi_base.proofs.Words.{number-spelling, at-front}
use Rattle.acpi.specs.Words.{facs_at}
use Rattle.acpi_image.proofs.Written.{length-rsdp_to}
use Rattle.acpi_image.proofs.WrittenRoot.{IsRsdp, is_rsdp}
use Rattle.acpi_writer.specs.Words.{field_of, spelling, has_bit, header_at, Memory, at, IsMemory, check_rsdp, check_sum, facs_length, facs_length_in, range, rsdp_to, Leads, RsdpIsRead, rsdp_bytes, bit_of, FacsIsRead, FitsFacs, IsReadAs, facs_bytes, FacsContents, facs_gap, facs_laid, facs_room, HasFacs}
use Rattle.acpi_table_writer.proofs.Bits.{two_bits}
use Rattle.acpi_writer.proofs.LaidRead.{front_lent, rest_lent}

-- ---- an RSDP

pub rsdp_long : (oem_id : List ℕ) (xsdt : ℕ) → length oem_id ≡ 6 → length (rsdp_bytes oem_id xsdt) ≡ 36
unfolding rsdp_bytes
rsdp_long oem_id xsdt long = length-rsdp_to oem_id 2 xsdt long

passes : (oem_id : List ℕ) (xsdt : ℕ) (b : List ℕ) → length b ≡ 36 → IsRsdp oem_id 2 xsdt b → check_rsdp b ≡ Ok tt
unfolding check_rsdp check_sum
passes oem_id xsdt b long is = rw is.many (rw (long, take_all 36 b (omega (arith, long)), is.whole refl) refl)

pub rsdp_read : RsdpIsRead
unfolding rsdp_bytes
rsdp_read ids xsdt rsdp is =
    let p = and_parts _ _ is.texts in
    let known = is_rsdp ids.oem_id 2 xsdt is.ids_fit.oem_id p.0 is.some is.small (λ e. absurd cc) in
    let long = length-rsdp_to ids.oem_id 2 xsdt is.ids_fit.oem_id in
    subst (Leads ids.oem_id xsdt) (sym is.bytes) (record {
      checked = passes ids.oem_id xsdt (rsdp_to ids.oem_id 2 xsdt) long known;
      oem_id_is = known.id_is;
      leads = known.leads_to;
    })

-- ---- a FACS

pub facs_long : (c : FacsContents) → length (facs_bytes c) ≡ 64
unfolding facs_bytes spelling
facs_long c = refl

facs_length_is : (c : FacsContents) → facs_length_in (take 36 (facs_bytes c)) ≡ Ok 64
unfolding facs_bytes spelling field_of header_at facs_length
facs_length_is c = refl

facs_found : (c : FacsContents) (m : Memory) (a : ℕ) → at m a 36 ≡ Some (take 36 (facs_bytes c))
    → at m a 64 ≡ Some (facs_bytes c) → facs_at m a ≡ Ok (range a 64)
unfolding facs_at
facs_found c m a head whole = rw (head, facs_length_is c, whole) refl

facs_by : (c : FacsContents) → FitsFacs c → IsReadAs c (facs_bytes c)
unfolding facs_bytes spelling field_of
facs_by c fits =
    let flags : field_of (facs_bytes c) 20 4 ≡ bit_of c.supports_s4bios + 2 * bit_of c.supports_64_bit_wake =
    omega arith in
    let bits = two_bits c.supports_s4bios c.supports_64_bit_wake in
    record {
      hardware_signature = number-spelling 4 c.hardware_signature (omega (arith, fits.hardware_signature));
      waking_vector = number-spelling 4 c.waking_vector (omega (arith, fits.waking_vector));
      s4bios = ap (λ n. has_bit n 0) flags ∙ bits.0;
      wake = ap (λ n. has_bit n 1) flags ∙ bits.1;
      x_waking_vector = number-spelling 8 c.x_waking_vector (omega (arith, fits.x_waking_vector));
      found = facs_found c;
    }

pub facs_read : FacsIsRead
facs_read c facs is = subst (IsReadAs c) (sym is.bytes) (facs_by c is.fit)

-- ---- a FACS among the tables of a machine

pub laid_long : (a : ℕ) (f : Option FacsContents) → length (facs_laid a f) ≡ facs_room f
laid_long a None = refl
laid_long a (Some c) =
    omega (
      arith,
      facs_long c,
      length-append (replicate (facs_gap a) 0) (facs_bytes c ++ replicate (64 - facs_gap a) 0),
      length-append (facs_bytes c) (replicate (64 - facs_gap a) 0),
      length-replicate {A = ℕ} (facs_gap a) 0,
      length-replicate {A = ℕ} (64 - facs_gap a) 0,
    )

-- where its bytes are mapped, it is read
pub has_facs : (m : Memory) (a : ℕ) (c : FacsContents) → IsMemory m → FitsFacs c
    → at m a (length (facs_laid a (Some c))) ≡ Some (facs_laid a (Some c)) → HasFacs m (a + facs_gap a) c
has_facs m a c h fits e =
    let n : ℕ = facs_gap a in
    let zeros : List ℕ = replicate (64 - n) 0 in
    let from : at m (a + length (replicate {A = ℕ} n 0)) (length (facs_bytes c ++ zeros))
    ≡ Some (facs_bytes c ++ zeros) = rest_lent m a (replicate n 0) (facs_bytes c ++ zeros) h e in
    let there : at m (a + length (replicate {A = ℕ} n 0)) (length (facs_bytes c)) ≡ Some (facs_bytes c) =
    front_lent m (a + length (replicate {A = ℕ} n 0)) (facs_bytes c) zeros from in
    let whole : at m (a + n) 64 ≡ Some (facs_bytes c) = ap (at m (a + n)) (sym (facs_long c))
    ∙ ap (λ k. at m (a + k) (length (facs_bytes c))) (sym (length-replicate {A = ℕ} n 0)) ∙ there in
    let long : at m (a + n) (length (facs_bytes c)) ≡ Some (facs_bytes c) = ap (at m (a + n)) (facs_long c) ∙ whole in
    let fields : IsReadAs c (facs_bytes c) = facs_read c (facs_bytes c) (record { fit = fits; bytes = refl }) in
    let head = at-front m (a + n) 36 (facs_bytes c) long (omega (arith, facs_long c)) in
    record { aligned = omega arith; bytes = whole; fields = fields; found = fields.found m (a + n) head whole }
