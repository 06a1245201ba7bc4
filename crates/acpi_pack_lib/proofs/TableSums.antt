-- A table whose Checksum is set sums to 0.
use Rattle.std.proofs.Common.{◌≡◌, ◌<◌, ℕ, List, length, true, arith}
use Rattle.acpi_base.specs.Words.{sum_of}
use Rattle.acpi_image.proofs.Written.{sum_is_set}
use Rattle.acpi_pack_lib.specs.Words.{has_sum, summed}

pub summed_right : (bytes : List ℕ) → has_sum bytes ≡ true → sum_of (summed bytes) ≡ 0
unfolding summed
summed_right bytes is =
    let long : 9 < length bytes = grind (is, arith) in
    rw is (sum_is_set 9 bytes long)
