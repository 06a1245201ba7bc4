use Rattle.std.proofs.Common.{◌≡◌, ◌-◌, arith, drop, length, bit_and}
use Rattle.acpi_bytes.specs.FromStd.{chunk, zip2}
use Rattle.acpi_bytes.specs.Words.{AddsUp}
use Rattle.acpi_bytes.proofs.Sums.{adds_up_last, adds_up_whole, masks}
use Rattle.acpi_bytes.proofs.sum.lanes.finished.Goals as goal

pub returns : goal.returns
returns c =
    let at = c.one_more-at-3.result.1 in
    let bytes = c.args.bytes.now in
    let there : length bytes - (length bytes - at) ≡ at = omega (arith, c.one_more-at-3.ensures.within) in
    let rest = adds_up_last bytes (length bytes - at) c.requires.long (omega arith) in
    let last : AddsUp (zip2 bit_and (chunk (length bytes - 16) 16 bytes) (chunk (length bytes - at) 16 masks))
    (drop at bytes) = rw there at rest in
    rw (c.vector_at.ensures, c.vector_at-2.ensures)
    (adds_up_whole c.one_more-at-3.result.0 _ bytes at c.one_more-at-3.ensures.sums last)
