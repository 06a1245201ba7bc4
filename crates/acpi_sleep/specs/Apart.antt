-- Why the walk doesn't go on in the middle of an object. A name that means an argument may be that of a method, and the
-- walk doesn't know how many arguments follow it. It then takes the object to end before its arguments do, and goes on
-- at one of them: no term that is passed begins as an argument does, so nothing after it is taken for an object.
use Rattle.std.specs.Prelude.{◌≡◌, ◌≢◌, ℕ, ◌==◌, ◌&&◌, ◌||◌, ◌<◌, Bool, true, nat_le, is_some, None}
use Rattle.acpi_sleep.specs.Arguments.{integer_width, is_operator, is_single}
use Rattle.acpi_sleep.specs.Names.{begins_name}
use Rattle.acpi_sleep.specs.Terms.{parts_of}

-- whether an argument may begin with a byte, by what `argument_end` passes
abbrev pub begins_argument : ℕ → Bool
begins_argument lead =
    ((((is_some (integer_width lead) || is_single lead) || lead == 0x0D) || (nat_le 0x11 lead && nat_le lead 0x13))
    || begins_name lead) || is_operator lead

-- no term begins so: neither a name, nor a scope, nor a method, nor an alias, nor one of two bytes, nor another that is
-- passed
pub record BeginsNoTerm (lead : ℕ) : Type 0 where
  pub no_name : lead ≢ 0x08
  pub no_scope : lead ≢ 0x10
  pub no_method : lead ≢ 0x14
  pub no_alias : lead ≢ 0x06
  pub no_prefix : lead ≢ 0x5B
  pub no_other : parts_of lead ≡ None

abbrev pub ArgumentsBeginNoTerm : Type 0
ArgumentsBeginNoTerm = (lead : ℕ) → lead < 256 → begins_argument lead ≡ true → BeginsNoTerm lead
