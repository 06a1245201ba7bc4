-- Each code of Preferred_PM_Profile has one profile.
use Rattle.std.proofs.Common.{◌≡◌, ℕ, Bool, true, false, refl, arith, nat_lt}
use Rattle.acpi_base.proofs.FromStd.{get_or_past, ltb-false, ltb-true}
use Rattle.acpi_base.proofs.Words.{by_place}
use Rattle.acpi_fixed.specs.declared.fadt.PowerProfile.{PowerProfile}
use Rattle.acpi_fixed.specs.declared.fadt.PowerProfile.TheVariants as profiles
use Rattle.acpi_fixed.specs.Words.{ProfilesDecode, is_profile, named_profiles, profile_code, profile_for}

reserved : (code : ℕ) → nat_lt 8 code ≡ true → profile_for code ≡ profiles.Reserved code
reserved code h = get_or_past named_profiles code (profiles.Reserved code) (omega (arith, ltb-true 8 code h))

pub profile_read : (p : PowerProfile) → is_profile p ≡ true → profile_for (profile_code p) ≡ p
profile_read (profiles.Reserved code) h = reserved code h
profile_read _ h = refl

only_profile : (code : ℕ) (b : Bool) → nat_lt 8 code ≡ b
    → (is_profile (profile_for code) ≡ true) × (profile_code (profile_for code) ≡ code)
only_profile code true past = rw (reserved code past) (past, refl)
only_profile code false named =
    by_place is_profile profile_code named_profiles code (profiles.Reserved code) refl
    (omega (arith, ltb-false 8 code named))

pub profiles_decode : ProfilesDecode
profiles_decode = record { each = profile_read; only = λ code. only_profile code (nat_lt 8 code) refl }
