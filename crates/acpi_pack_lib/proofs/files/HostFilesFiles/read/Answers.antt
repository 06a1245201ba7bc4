use Rattle.std.proofs.Common.{◌≡◌, ◌∙◌, ◌++◌, ◌∷◌, ℕ, List, [], ap, map, option_map, string_bytes}
use Rattle.acpi_base.proofs.FromStd.{map-append}
use Rattle.acpi_pack_lib.specs.Reads.{read_of}
use Rattle.acpi_pack_lib.specs.declared.files.Reading.{Reading}
use Rattle.acpi_pack_lib.proofs.files.HostFilesFiles.read.Goals as goal

-- one more is listed
listed : (before after : List Reading) (r : Reading) (name : List ℕ)
    → after ≡ before ++ r ∷ [] → string_bytes r.name ≡ name
    → map read_of after
    ≡ map read_of before ++ record { name = name; content = option_map (λ v. v.items) r.content } ∷ []
listed before after r name grown named = ap (map read_of) grown ∙ map-append read_of before (r ∷ [])
    ∙ ap (λ n. map read_of before ++ record { name = n; content = option_map (λ v. v.items) r.content } ∷ [])
    named

pub returns-clause-asked : goal.returns-clause-asked
returns-clause-asked c = (
  option_map (λ v. v.items) c.ok-content.result,
  listed c.args.self.now.readings.items c.push.new.self.items
      (record { name = c.in_ok-kept.kept; content = c.ok-content.result }) c.args.name.now
      (c.in-Ok.ensures.items
      ∙ ap (λ rs. rs ++ record { name = c.in_ok-kept.kept; content = c.ok-content.result } ∷ [])
      c.reserve.ensures.items)
      c.in_ok-kept.ensures.ok,
)
