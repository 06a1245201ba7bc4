use Rattle.std.proofs.Common.{rules}
use Rattle.acpi.proofs.First.{lookup_is_first, skips_invalid}
use Rattle.acpi.proofs.Placing.{addresses_are}
use Rattle.acpi.proofs.Spelled.{one_pointers}
use Rattle.acpi_base.proofs.Accepted.{accepts_nothing, accepts_valid, keeps_checks, keeps_names, keeps_sums, own_is_valid}
use Rattle.acpi_base.proofs.Words.{codes_decode, cut_is_cut, field_past_end, lent_is_inside, one_cut}
use Rattle.acpi_fixed.proofs.Profiles.{profiles_decode}
use Rattle.acpi_laws.proofs.Placed.{first_is_found, found_by_signature, headers_of_members, root_lies_in_range, tables_lie_in_ranges}
use Rattle.acpi_laws.proofs.Platforms.{first_boots, listed_once, platform_is_theirs, registers_are}
use Rattle.acpi_laws.proofs.definitions.definitions_hold.Goals as goal

pub returns : goal.returns
returns c = record {
  names = search rules;
  lent = lent_is_inside;
  past_end = field_past_end;
  codes = codes_decode;
  profiles = profiles_decode;
  registers = registers_are;
  listed = listed_once;
  boots = first_boots;
  platform = platform_is_theirs;
  one_cut = one_cut;
  cut = cut_is_cut;
  pointers = one_pointers;
  lookup = lookup_is_first;
  skips = skips_invalid;
  strict = accepts_nothing;
  own = own_is_valid;
  valid = accepts_valid;
  checks_kept = keeps_checks;
  sums_kept = keeps_sums;
  names_kept = keeps_names;
  second_areas = search rules;
  one_for_each = addresses_are;
  headers = headers_of_members;
  first = first_is_found;
  by_signature = found_by_signature;
  tables = tables_lie_in_ranges;
  root = root_lies_in_range;
}
