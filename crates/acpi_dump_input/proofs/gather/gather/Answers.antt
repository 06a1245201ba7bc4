use Rattle.std.proofs.Common.{◌≡◌, ◌∙◌, ◌<◌, [], ap, arith, length, subst, sym}
use Rattle.std.proofs.lemmas.Grind.{common_steps}
use Rattle.acpi_dump_input.proofs.Growing.{none_named, one_named, some_named}
use Rattle.acpi_dump_input.proofs.Lists.{ok_weaker}
use Rattle.acpi_dump_input.specs.Inputs.{IsInput}
use Rattle.acpi_dump_input.proofs.gather.gather.Goals.{in_default-via-then-names-lt1, in_default-via-in-len1+in_ok-is_folder+else-not-branch, in_default-via-else-names-lt1+else-names-lt2}
use Rattle.acpi_dump_input.proofs.gather.gather.Goals as goal

pub returns-else-is_err : goal.returns-else-is_err
returns-else-is_err g c =
    let none : length c.args.names.now ≡ 0 = grind (arith, common_steps) in
    ok_weaker c.words-own.result _ _
    (λ i is. subst (λ ns. IsInput g.S.Sources.gives ns i) (sym (none_named c.args.names.now none))
    (is c.new.ensures.items (omega arith))) c.words-own.ensures

pub returns-in-len1 : goal.returns-in-len1
returns-in-len1 g c = ok_weaker c.file.result _ _
    (λ i is. subst (λ ns. IsInput g.S.Sources.gives ns i)
    (sym (one_named c.args.names.now _ c.in-len1.len_at_least c.in-len1.len_below))
    (is (ap (λ t. t.items) c.is_folder.ensures ∙ c.new.ensures.items))) c.file.ensures

pub returns-in_default : goal.returns-in_default
returns-in_default g c =
    let some : 0 < length c.args.names.now = grind (arith, common_steps) in
    let none : c.in_default.reader.tables.items ≡ [] = elim c.in_default.branch [
      | in_default-via-then-names-lt1 w ↦ ap (λ r. r.tables.items) w.reader-is ∙ c.new.ensures.items
      | in_default-via-in-len1+in_ok-is_folder+else-not-branch w ↦
          ap (λ r. r.tables.items) w.reader-is ∙ ap (λ t. t.items) w.is_folder.ensures ∙ c.new.ensures.items
      | in_default-via-else-names-lt1+else-names-lt2 w ↦ ap (λ r. r.tables.items) w.reader-is ∙ c.new.ensures.items
    ] in
    ok_weaker c.words.result _ _
    (λ i is. subst (λ ns. IsInput g.S.Sources.gives ns i) (sym (some_named c.args.names.now some)) (is none some))
    c.words.ensures
