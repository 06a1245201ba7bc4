use Rattle.std.proofs.Common.{ℕ, length, ◌≡◌, ◌∙◌, replicate, sym, arith}
use Rattle.acpi_base.proofs.FromStd.{length-replicate}
use Rattle.acpi_image_reader.proofs.Listing.{bytes_listed, none_listed, shares_by, shares_empty, shares_nothing, some_listed}
use Rattle.acpi_image_reader.specs.Words.{region_in}
use Rattle.acpi_image.proofs.write.places.shares_with_listed.Goals as goal

pub returns-then-place-eq0 : goal.returns-then-place-eq0
returns-then-place-eq0 g c =
    let none : length (replicate c.args.place.length 0) ≡ 0 = length-replicate c.args.place.length 0
    ∙ c.if-place-eq0.true in
    λ m was. sym (shares_empty m (region_in c.args.place) none)

pub returns-in-Some : goal.returns-in-Some
returns-in-Some g c =
    let count = length-replicate {A = ℕ} c.args.place.length 0 in
    let last = c.in-Some.ensures in
    λ m was.
    let listed = bytes_listed (λ n. replicate n 0) c.args.starts.now m was.1 in
    let found = some_listed (λ n. replicate n 0) c.args.starts.now m was.1 in
    shares_by m c.in-Some.start (replicate c.in-Some.length.now 0) (region_in c.args.place) was.0 (listed _ _ last.kept)
    (omega (arith, last.low, count, c.if-place-eq0.false)) (λ a less some.
    last.last a (omega (arith, count)) (found a some)) _ c.shares_byte.ensures

pub returns-in-None : goal.returns-in-None
returns-in-None g c =
    let count = length-replicate {A = ℕ} c.args.place.length 0 in
    λ m was. sym (shares_nothing m (region_in c.args.place) (λ a less.
    none_listed (λ n. replicate n 0) c.args.starts.now m was.1 a (c.in-None.ensures.none a (omega (arith, count)))))
