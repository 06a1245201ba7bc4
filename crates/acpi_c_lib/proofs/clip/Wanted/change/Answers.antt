use Rattle.std.proofs.Common.{◌≡◌, ◌<◌, ◌∙◌, ap, subst}
use Rattle.acpi_c_lib.specs.Words.{change_in}
use Rattle.acpi_c_lib.proofs.Clipping.{change_of_all, stays}
use Rattle.acpi_c_lib.proofs.clip.Wanted.change.Goals as goal

pub returns-clause-same : goal.returns-clause-same
returns-clause-same c = λ b le less.
    let window : c.change-limit.result ≡ _ = c.change-limit.ensures
    ∙ ap (λ x. change_in c.args.self.without.all.now c.args.address x) c.change_of-limit.ensures in
    let total : c.change.result
    ≡ change_of_all c.args.self.ranges.all.now c.args.self.without.all.now c.args.self.window c.args.address =
    c.change.ensures ∙ ap (λ x. change_in c.args.self.ranges.all.now c.args.address x) window in
    stays c.args.self.ranges.all.now c.args.self.without.all.now c.args.self.window c.args.address b le
    (subst (λ x. b < x) total less)
