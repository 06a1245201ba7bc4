-- The RSDP that is written is valid, and leads to the root table that is written, which is valid too and lists the
-- tables.
use Rattle.std.proofs.Common.{◌≡◌, ℕ, ◌^◌, ◌<◌, Bool, true, false, List, ◌∷◌, ◌++◌, length, take, Some, None, Result, Ok, refl, sym, ap, subst, ◌∙◌, arith, lit≤, lit<, if◌then◌else◌, zero, suc, [], drop, set, ◌==◌, ◌||◌, replicate, flat_map, Contains}
use Rattle.acpi_base.specs.FromStd.{AllByRecursion, chars, is_utf8}
use Rattle.acpi_base.proofs.FromStd.{both_ways, take_all, append-nil, drop-set-lt, drop_at, get_or_past}
use Rattle.acpi_base.proofs.Words.{number-spelling}
use Rattle.acpi_base.specs.Words.{field_of, number, spelling, sum_of, IsBytes, Memory, Region, IsMemory, lent, check_names, header_at}
use Rattle.acpi.specs.Types.{AcpiError}
use Rattle.acpi.specs.Words.{root_of_revision, root_pointer, IsPointers, pointers, root_at, signature_of, width_of, accepted_length, accepted_rsdp_at, check_first, check_length, check_sum, checked_length, root_of_rsdp, rsd_ptr, rsdp_at, rsdp_of}
use Rattle.acpi.specs.declared.root.RootKind.TheVariants.{Rsdt, Xsdt}
use Rattle.acpi_image.proofs.Written.{length-rsdp_unsummed, length-with_first_sum, IsBytes-spelling, length-root_header, length-root_to, length-root_unsummed, lent_start, part_before, sum_is_set, table_there}
use Rattle.acpi_image.specs.Words.{rsdp_to, rsdp_unsummed, spaces, sum_byte, with_first_sum, with_sum, root_header, root_length, root_record, root_to, root_unsummed}
use Rattle.acpi.proofs.Spelled.{one_pointers}
use Rattle.acpi.specs.declared.root.RootKind.{RootKind}

abbrev done : List ℕ → Result (List ℕ) AcpiError
done x = Ok x

-- what is tested of an RSDP, and what it leads to
pub record IsRsdp (oem_id : List ℕ) (revision root : ℕ) (b : List ℕ) : Type 0 where
  pub many : checked_length b ≡ check_length (if revision == 0 then None else Some 36)
  pub whole : (revision == 0) ≡ false → sum_of b ≡ 0
  pub id_is : (rsdp_of b).oem_id ≡ oem_id
  pub leads_to : root_of_rsdp b ≡ root_of_revision revision root

-- an OEMID of six bytes that are a text
module _ (a b c d e f : ℕ) where
  abbrev id : List ℕ
  id = a ∷ b ∷ c ∷ d ∷ e ∷ f ∷ []

  module _ (text : is_utf8 id ≡ true) (revision rsdt count xsdt : ℕ) where
    abbrev first_byte : ℕ
    first_byte = sum_byte 8 (take 20 (rsdp_unsummed id revision rsdt count xsdt))

    -- an RSDP with these fields, whose first 20 bytes sum to 0
    abbrev shape : ℕ → List ℕ
    shape y = rsd_ptr ++ first_byte ∷ id ++ revision ∷ spelling 4 rsdt ++ spelling 4 count ++ spelling 8 xsdt
        ++ y ∷ replicate 3 0

    first_is : with_first_sum (rsdp_unsummed id revision rsdt count xsdt) ≡ shape 0
    unfolding with_first_sum with_sum rsdp_unsummed spelling
    first_is = refl

    second_is : with_sum 32 (shape 0) ≡ shape (sum_byte 32 (shape 0))
    unfolding with_sum spelling
    second_is = refl

    front_is : (y : ℕ) → take 20 (shape y) ≡ with_sum 8 (take 20 (rsdp_unsummed id revision rsdt count xsdt))
    unfolding with_sum rsdp_unsummed spelling
    front_is y = refl

    front_long : length (take 20 (rsdp_unsummed id revision rsdt count xsdt)) ≡ 20
    unfolding rsdp_unsummed spelling
    front_long = refl

    front_sum : (y : ℕ) → sum_of (take 20 (shape y)) ≡ 0
    front_sum y = ap sum_of (front_is y) ∙ sum_is_set 8 _ (omega (arith, front_long))

    revision_is : number (revision ∷ []) ≡ revision
    revision_is = omega arith

    module _ (y : ℕ) where
      fields_are : rsdp_of (shape y) ≡ record {
        signature = rsd_ptr;
        checksum = number (first_byte ∷ []);
        oem_id = id;
        revision = number (revision ∷ []);
        rsdt_address = number (spelling 4 rsdt);
        length = number (spelling 4 count);
        xsdt_address = number (spelling 8 xsdt);
        ext_checksum = number (y ∷ []);
      }
      unfolding rsdp_of spelling field_of
      fields_are = refl

      id_is : (rsdp_of (shape y)).oem_id ≡ id
      id_is = ap (λ r. r.oem_id) fields_are

      lengths : checked_length (shape y)
          ≡ check_length (if revision == 0 then None else Some (number (spelling 4 count)))
      unfolding accepted_length check_first check_sum
      lengths = rw (fields_are, text, front_sum y, revision_is) refl

      leads : root_of_rsdp (shape y) ≡ (if revision == 0 || number (spelling 8 xsdt) == 0
          then root_pointer revision Rsdt (number (spelling 4 rsdt))
          else root_pointer revision Xsdt (number (spelling 8 xsdt)))
      leads = rw (fields_are, revision_is) refl

  module _ (text : is_utf8 id ≡ true) (revision root : ℕ) where
    -- ---- the two forms

    first_form : (revision == 0) ≡ true → root < 2 ^ 32
        → IsRsdp id revision root (with_first_sum (rsdp_unsummed id revision root 0 0))
    first_form first small =
        subst (IsRsdp id revision root) (sym (first_is text revision root 0 0)) (record {
          many = lengths text revision root 0 0 0 ∙ rw first refl;
          whole = λ other. absurd (both_ways _ other first);
          id_is = id_is text revision root 0 0 0;
          leads_to = leads text revision root 0 0 0 ∙ rw (first, number-spelling 4 root small) refl;
        })

    second_form : (revision == 0) ≡ false → (root == 0) ≡ false → root < 2 ^ 64
        → IsRsdp id revision root (with_sum 32 (with_first_sum (rsdp_unsummed id revision 0 36 root)))
    second_form later some small =
        let y = sum_byte 32 (shape text revision 0 36 root 0) in
        let same : with_sum 32 (with_first_sum (rsdp_unsummed id revision 0 36 root))
        ≡ shape text revision 0 36 root y =
        ap (with_sum 32) (first_is text revision 0 36 root) ∙ second_is text revision 0 36 root in
        let summed = sum_is_set 32 (with_first_sum (rsdp_unsummed id revision 0 36 root)) (omega (
          arith,
          length-with_first_sum (rsdp_unsummed id revision 0 36 root),
          length-rsdp_unsummed id revision 0 36 root refl,
        )) in
        subst (IsRsdp id revision root) (sym same) (record {
          many = lengths text revision 0 36 root y ∙ rw (later, number-spelling 4 36 (lit< tt)) refl;
          whole = λ other. rw same at summed;
          id_is = id_is text revision 0 36 root y;
          leads_to = leads text revision 0 36 root y ∙ rw (later, number-spelling 8 root small, some) refl;
        })

    by_form : (first : Bool) → (revision == 0) ≡ first → (root == 0) ≡ false → root < 2 ^ 64
        → (first ≡ true → root < 2 ^ 32)
        → IsRsdp id revision root (if first then with_first_sum (rsdp_unsummed id revision root 0 0)
        else with_sum 32 (with_first_sum (rsdp_unsummed id revision 0 36 root)))
    by_form true e some small less = first_form e (less refl)
    by_form false e some small less = second_form e some small

pub is_rsdp : (oem_id : List ℕ) (revision root : ℕ) → length oem_id ≡ 6 → is_utf8 oem_id ≡ true → (root == 0) ≡ false
    → root < 2 ^ 64 → ((revision == 0) ≡ true → root < 2 ^ 32)
    → IsRsdp oem_id revision root (rsdp_to oem_id revision root)
unfolding rsdp_to
is_rsdp (a ∷ b ∷ c ∷ d ∷ e ∷ f ∷ []) revision root long text some small less =
    by_form a b c d e f text revision root (revision == 0) refl some small less
is_rsdp _ revision root long text some small less = absurd (omega (arith, long))

-- that of an image
pub spaces_text : is_utf8 (spaces 6) ≡ true
unfolding is_utf8 chars lib.Utf8.encode
spaces_text = refl

-- ---- at its address

module _ (m : Memory) (r : Region) (h : IsMemory m) (c : Contains m r) (long : length r.bytes ≡ 36) where
  lent_whole : lent m r.start 36 ≡ Ok r.bytes
  lent_whole = lent_start m r h c 36 (lit≤ tt) (omega arith) ∙ ap done (take_all 36 r.bytes (omega arith))

  there_by : (first : Bool) → checked_length r.bytes ≡ check_length (if first then None else Some 36)
      → (first ≡ false → sum_of r.bytes ≡ 0) → rsdp_at m r.start ≡ Ok r.bytes
  unfolding accepted_rsdp_at check_sum
  there_by true many whole = rw (lent_whole, many) refl
  there_by false many whole = rw (lent_whole, many, lent_whole, whole refl) refl

  -- the RSDP that fills a region is valid at its address
  pub rsdp_there : (oem_id : List ℕ) (revision root : ℕ) → IsRsdp oem_id revision root r.bytes
      → rsdp_at m r.start ≡ Ok r.bytes
  rsdp_there oem_id revision root is = there_by (revision == 0) is.many is.whole

-- ---- the root table is valid, and its pointers are the addresses of the tables

length_field : (kind : RootKind) (count : ℕ) (rest : List ℕ)
    → field_of (root_header (signature_of kind) count ++ rest) 4 4 ≡ number (spelling 4 count)
unfolding root_header spelling field_of
length_field Rsdt count rest = refl
length_field Xsdt count rest = refl

names_there : (kind : RootKind) (count x : ℕ) (rest : List ℕ)
    → check_names (signature_of kind) (header_at (set (root_header (signature_of kind) count ++ rest) 9 x)) ≡ Ok tt
unfolding root_header spelling header_at check_names is_utf8 chars lib.Utf8.encode
names_there Rsdt count x rest = refl
names_there Xsdt count x rest = refl

length_there : (kind : RootKind) (ps : List ℕ) → root_length kind (length ps) < 2 ^ 32
    → field_of (root_to kind ps) 4 4 ≡ length (root_to kind ps)
unfolding field_of with_sum
length_there kind ps short =
    ap number (part_before (root_unsummed kind ps) 9 (sum_byte 9 (root_unsummed kind ps)) 4 4 (lit≤ tt))
    ∙ length_field kind (root_length kind (length ps)) (flat_map (spelling (width_of kind)) ps)
    ∙ number-spelling 4 (root_length kind (length ps)) short ∙ sym (length-root_to kind ps)

root_sum : (kind : RootKind) (ps : List ℕ) → sum_of (root_to kind ps) ≡ 0
root_sum kind ps = sum_is_set 9 (root_unsummed kind ps) (omega (arith, length-root_unsummed kind ps))

-- it is the root table at its address
pub root_there : (m : Memory) (kind : RootKind) (a : ℕ) (ps : List ℕ) → IsMemory m → Contains m (root_record kind a ps)
    → root_length kind (length ps) < 2 ^ 32
    → root_at m kind a ≡ Ok (root_to kind ps)
unfolding with_sum
root_there m kind a ps h c short =
    table_there m (root_record kind a ps) h c (signature_of kind)
    (names_there kind (root_length kind (length ps)) (sum_byte 9 (root_unsummed kind ps))
    (flat_map (spelling (width_of kind)) ps))
    (omega (arith, length-root_to kind ps)) (length_there kind ps short) (root_sum kind ps)

-- ---- its pointers

body_is : (kind : RootKind) (ps : List ℕ) → drop 36 (root_to kind ps) ≡ flat_map (spelling (width_of kind)) ps
unfolding with_sum
body_is kind ps =
    drop-set-lt 36 (root_unsummed kind ps) 9 (sum_byte 9 (root_unsummed kind ps)) (lit< tt)
    ∙ drop_at (root_header (signature_of kind) (root_length kind (length ps))) (flat_map (spelling (width_of kind)) ps)
    36 (length-root_header kind (root_length kind (length ps)))

IsBytes-append : (xs ys : List ℕ) → IsBytes xs → IsBytes ys → IsBytes (xs ++ ys)
IsBytes-append [] ys hx hy i = hy i
IsBytes-append (x ∷ xs) ys hx hy zero = hx 0
IsBytes-append (x ∷ xs) ys hx hy (suc i) = IsBytes-append xs ys (λ j. hx (suc j)) hy i

no_bytes : IsBytes []
no_bytes i = let none = get_or_past {X = ℕ} [] i 0 (omega arith) in omega (arith, none)

IsBytes-spelled : (width : ℕ) (ps : List ℕ) → IsBytes (flat_map (spelling width) ps)
IsBytes-spelled width [] = no_bytes
IsBytes-spelled width (p ∷ ps) = IsBytes-append (spelling width p) (flat_map (spelling width) ps)
    (IsBytes-spelling width p) (IsBytes-spelled width ps)

some_width : (kind : RootKind) → 0 < width_of kind
some_width Rsdt = omega arith
some_width Xsdt = omega arith

pub pointers_are : (kind : RootKind) (ps : List ℕ) → AllByRecursion (λ p. p < 256 ^ width_of kind) ps
    → pointers (width_of kind) (drop 36 (root_to kind ps)) ≡ ps
pointers_are kind ps fit =
    let spelled : IsPointers (width_of kind) (flat_map (spelling (width_of kind)) ps) ps =
    record { fit = fit; spelled = (0, some_width kind, sym (append-nil _)) } in
    ap (pointers (width_of kind)) (body_is kind ps)
    ∙ sym ((one_pointers (width_of kind) (flat_map (spelling (width_of kind)) ps) ps (some_width kind)
    (IsBytes-spelled (width_of kind) ps)).0 spelled)
