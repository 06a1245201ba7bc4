-- The RSDP that is written (ACPI 6.4, section 5.2.5.3).
use Rattle.std.specs.Prelude.{◌≡◌, ℕ, ◌^◌, ◌<◌, ◌==◌, false, true, not, List, nat_le, Result, Ok}
use Rattle.acpi_writer.specs.Types.{root_pointer, check_rsdp, root_of_rsdp, rsdp_of, Xsdt, WriterError, BadName, NoAddress, NoRoom, TableIds, ◌>>=◌, holds, rsdp_to}
use Rattle.acpi_table_writer.specs.Words.{AreIds, are_texts}

-- the RSDP of revision 2 that leads to the XSDT at an address
unfoldable pub rsdp_bytes : List ℕ → ℕ → List ℕ
rsdp_bytes oem_id xsdt = rsdp_to oem_id 2 xsdt

-- the RSDP in so much room, or the first error
unfoldable pub rsdp_written : ℕ → TableIds → ℕ → Result (List ℕ) WriterError
rsdp_written room ids xsdt = do
  _ ← holds (not (xsdt == 0)) NoAddress
  _ ← holds (are_texts ids) BadName
  _ ← holds (nat_le 36 room) NoRoom
  Ok (rsdp_bytes ids.oem_id xsdt)

-- the bytes are the RSDP of an address that has a place and isn't 0
pub record IsRsdp (ids : TableIds) (xsdt : ℕ) (rsdp : List ℕ) : Type 0 where
  pub ids_fit : AreIds ids
  pub texts : are_texts ids ≡ true
  pub some : (xsdt == 0) ≡ false
  pub small : xsdt < 2 ^ 64
  pub bytes : rsdp ≡ rsdp_bytes ids.oem_id xsdt

-- the bytes pass each check of a reader, have the OEMID, and lead to the XSDT at the address
pub record Leads (oem_id : List ℕ) (xsdt : ℕ) (rsdp : List ℕ) : Type 0 where
  pub checked : check_rsdp rsdp ≡ Ok tt
  pub oem_id_is : (rsdp_of rsdp).oem_id ≡ oem_id
  pub leads : root_of_rsdp rsdp ≡ root_pointer 2 Xsdt xsdt

-- and so do the bytes of such an RSDP
abbrev pub RsdpIsRead : Type 0
RsdpIsRead = (ids : TableIds) (xsdt : ℕ) (rsdp : List ℕ) → IsRsdp ids xsdt rsdp → Leads ids.oem_id xsdt rsdp
