-- What is left to check of a header whose signature is known.
use Rattle.std.proofs.Common.{◌≡◌, ◌∙◌, ℕ, Bool, true, false, Ok, Err, refl, subst, bytes_eq, if◌then◌else◌}
use Rattle.acpi_bytes.specs.FromStd.{is_utf8}
use Rattle.acpi_bytes.proofs.FromStd.{bytes_eq-Decides}
use Rattle.acpi_bytes.specs.Words.{SdtHeader, SdtInvalidSignature, Signature, accepted, check_ids, check_names, check_signature, has_bit, sdt_kind}

own_signature : (h : SdtHeader) → bytes_eq h.signature.0 h.signature.0 ≡ true
own_signature h = (bytes_eq-Decides h.signature.0 h.signature.0).1 refl

names_if : (any_ids : Bool) (h : SdtHeader) → is_utf8 h.signature.0 ≡ true
    → (if any_ids then check_signature h.signature else check_names h.signature) h
    ≡ (if any_ids then Ok tt else check_ids h.signature h)
unfolding check_names
names_if true h text = rw (own_signature h, text) refl
names_if false h text = rw (own_signature h, text) refl

-- of a header whose signature is known to be this one, and a text, only the ids are left
names_left : (accept : ℕ) (s : Signature) (h : SdtHeader) → h.signature ≡ s → is_utf8 h.signature.0 ≡ true
    → (accepted accept (sdt_kind s 36)).names h ≡ (if has_bit accept 1 then Ok tt else check_ids s h)
names_left accept s h same text = subst
    (λ t. (accepted accept (sdt_kind t 36)).names h ≡ (if has_bit accept 1 then Ok tt else check_ids t h)) same
    (names_if (has_bit accept 1) h text)

pub any_ids : (accept : ℕ) (s : Signature) (h : SdtHeader) → h.signature ≡ s → is_utf8 h.signature.0 ≡ true
    → has_bit accept 1 ≡ true → (accepted accept (sdt_kind s 36)).names h ≡ Ok tt
any_ids accept s h same text any = names_left accept s h same text ∙ rw any refl

pub ids_left : (accept : ℕ) (s : Signature) (h : SdtHeader) → h.signature ≡ s → is_utf8 h.signature.0 ≡ true
    → has_bit accept 1 ≡ false → (accepted accept (sdt_kind s 36)).names h ≡ check_ids s h
ids_left accept s h same text strict = names_left accept s h same text ∙ rw strict refl

no_text_if : (any_ids : Bool) (h : SdtHeader) → is_utf8 h.signature.0 ≡ false
    → (if any_ids then check_signature h.signature else check_names h.signature) h
    ≡ Err (SdtInvalidSignature h.signature)
unfolding check_names
no_text_if true h text = rw (own_signature h, text) refl
no_text_if false h text = rw (own_signature h, text) refl

pub no_text : (accept : ℕ) (s : Signature) (h : SdtHeader) → h.signature ≡ s → is_utf8 h.signature.0 ≡ false
    → (accepted accept (sdt_kind s 36)).names h ≡ Err (SdtInvalidSignature s)
no_text accept s h same text =
    subst (λ t. (accepted accept (sdt_kind t 36)).names h ≡ Err (SdtInvalidSignature t)) same
    (no_text_if (has_bit accept 1) h text)
