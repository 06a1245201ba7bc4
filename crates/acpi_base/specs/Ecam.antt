-- Where the configuration space of a function is, by a base that is bus 0's (PCI Firmware
-- Specification, section 4.1.2).
use Rattle.std.specs.Prelude.{ℕ, ◌+◌, ◌-◌, ◌*◌, ◌^◌, ◌&&◌, nat_le, nat_lt, Bool, Option, Some, None, if◌then◌else◌}
use Rattle.acpi_base.specs.Types.{McfgEntry, AddressRange}

-- a region contains a bus
abbrev pub holds_bus : McfgEntry → ℕ → Bool
holds_bus e bus = nat_le e.bus_number_start bus && nat_le bus e.bus_number_end

-- a function's place: the bus from bit 20 on, the device from bit 15 on, the function from bit 12 on
abbrev pub ecam_place : McfgEntry → ℕ → ℕ → ℕ → ℕ
ecam_place e bus device function =
    e.base_address + bus * 2 ^ 20 + device * 2 ^ 15 + function * 2 ^ 12

-- that place, if the region contains the bus, which has 32 devices of 8 functions, and it is an address
abbrev pub ecam_in : ℕ → ℕ → ℕ → McfgEntry → Option ℕ
ecam_in bus device function e =
    if holds_bus e bus && (nat_lt device 32 && (nat_lt function 8
    && nat_lt (ecam_place e bus device function) (2 ^ 64)))
    then Some (ecam_place e bus device function) else None

-- the memory of a region's buses: from the place of the first one's first function on
abbrev pub ecam_span : McfgEntry → AddressRange
ecam_span e = record {
  address = ecam_place e e.bus_number_start 0 0;
  length = (e.bus_number_end - e.bus_number_start + 1) * 2 ^ 20;
}

-- that memory, if the region contains a bus and it ends below 2^64
abbrev pub ecam_range : McfgEntry → Option AddressRange
ecam_range e =
    let span = ecam_span e in
    if holds_bus e e.bus_number_start && nat_lt (span.address + span.length) (2 ^ 64)
    then Some span else None
