-- What a reader finds in the short tables that are written: a BGRT, root tables, and tables of AML.
use Rattle.std.proofs.Common.{◌≡◌, ℕ, ◌^◌, ◌<◌, refl, ap, ◌∙◌, ◌+◌, ◌*◌, Bool, true, false, length, List, drop, sym, lit<, flat_map}
use Rattle.acpi.specs.Words.{signature_of, width_of}
use Rattle.acpi_writer.specs.Words.{chars, is_utf8, letters_of, bits_of, has_bit, spelling, pointers, RootKind, Rsdt, Xsdt, BgrtIsRead, bgrt_fields, degrees_of, orientation_code, bit_of, BgrtOrientation, DsdtIsRead, SsdtIsRead, RootIsRead, RootIsValid, root_body, bgrt_at, root_header, root_length, root_to, root_unsummed, sum_byte, with_sum}
use Rattle.acpi_table_writer.proofs.FieldsRead.{read_end}
use Rattle.acpi_base.proofs.FromStd.{drop_at, drop-set-lt, recursion_from_All}
use Rattle.acpi_image.proofs.Written.{length-root_header}
use Rattle.acpi_image.proofs.WrittenRoot.{pointers_are}
use Rattle.acpi_table_writer.proofs.Tables as table
use Rattle.acpi_writer.specs.declared.bgrt.BgrtOrientation.TheVariants as orientations

-- ---- a BGRT

displayed : (b : Bool) (o : BgrtOrientation) → has_bit (bit_of b + 2 * orientation_code o) 0 ≡ b
displayed true orientations.Degrees0 = refl
displayed true _ = refl
displayed false orientations.Degrees0 = refl
displayed false _ = refl

turned : (b : Bool) (o : BgrtOrientation) → bits_of (bit_of b + 2 * orientation_code o) 1 2 * 90 ≡ degrees_of o
turned true orientations.Degrees0 = refl
turned true _ = refl
turned false orientations.Degrees0 = refl
turned false _ = refl

pub bgrt_read : BgrtIsRead
unfolding bgrt_at bgrt_fields
bgrt_read ids c t is =
    let field = λ (k : ℕ) (less : k < 6). read_end t 36 (bgrt_fields c) (table.rest refl is.written) is.fit k less in
    record {
      version = field 0 (lit< tt);
      was_displayed = ap (λ s. has_bit s 0) (field 1 (lit< tt)) ∙ displayed c.was_displayed c.orientation_offset;
      orientation_offset = ap (λ s. bits_of s 1 2 * 90) (field 1 (lit< tt))
          ∙ turned c.was_displayed c.orientation_offset;
      image_type = rw (field 2 (lit< tt)) refl;
      image_address = field 3 (lit< tt);
      image_offset = rw (field 4 (lit< tt), field 5 (lit< tt)) refl;
    }

-- ---- root tables and tables of AML

pub root_valid : RootIsValid
unfolding is_utf8 chars lib.Utf8.encode
root_valid Rsdt ids addresses t is = table.valid refl is.written refl
root_valid Xsdt ids addresses t is = table.valid refl is.written refl

-- what comes after the header of acpi_image's root table: the same bytes
same_body : (kind : RootKind) (ps : List ℕ) → drop 36 (root_to kind ps) ≡ root_body kind ps
unfolding with_sum
same_body kind ps =
    drop-set-lt 36 (root_unsummed kind ps) 9 (sum_byte 9 (root_unsummed kind ps)) (lit< tt)
    ∙ drop_at (root_header (signature_of kind) (root_length kind (length ps))) (flat_map (spelling (width_of kind)) ps)
    36 (length-root_header kind (root_length kind (length ps)))

four_letters : (kind : RootKind) → length (letters_of (signature_of kind)) ≡ 4
four_letters Rsdt = refl
four_letters Xsdt = refl

pub root_read : RootIsRead
root_read kind ids addresses t is =
    ap (pointers (width_of kind)) (table.rest (four_letters kind) is.written ∙ sym (same_body kind addresses))
    ∙ pointers_are kind addresses (recursion_from_All (λ a. a < 256 ^ width_of kind) addresses is.fit)

pub dsdt_read : DsdtIsRead
unfolding is_utf8 chars lib.Utf8.encode
dsdt_read revision ids aml t is = record { valid = table.valid refl is refl; aml_is = table.rest refl is }

pub ssdt_read : SsdtIsRead
unfolding is_utf8 chars lib.Utf8.encode
ssdt_read revision ids aml t is = record { valid = table.valid refl is refl; aml_is = table.rest refl is }
