use Rattle.std.proofs.Common.{ℕ, length, ◌≡◌, ◌<◌, ◌∙◌, replicate, arith}
use Rattle.acpi_base.proofs.FromStd.{length-replicate}
use Rattle.acpi_image_reader.proofs.Listing.{more_apart, starts_same}
use Rattle.acpi_image_reader.specs.Words.{region_in}
use Rattle.acpi_image.proofs.write.places.add_place.Goals as goal

pub returns-then-place-eq0 : goal.returns-then-place-eq0
returns-then-place-eq0 g c =
    let none : length (replicate c.args.place.length 0) ≡ 0 = length-replicate c.args.place.length 0
    ∙ c.if-place-eq0.true in
    λ m apart was. (
      more_apart m (region_in c.args.place) was.0 apart,
      starts_same (λ n. replicate n 0) c.args.starts.now m (region_in c.args.place) none was.1,
    )

pub returns : goal.returns
returns g c =
    let some : 0 < length (replicate c.args.place.length 0) =
    omega (arith, c.if-place-eq0.false, length-replicate {A = ℕ} c.args.place.length 0) in
    λ m apart was. (
      more_apart m (region_in c.args.place) was.0 apart,
      c.in_ok-add_start.ensures.added (λ n. replicate n 0) m apart some was.1,
    )
