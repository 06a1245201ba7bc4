use Rattle.std.proofs.Common.{◌≡◌, ap, Err, Ok, subst, ◌∙◌}
use Rattle.acpi_base.specs.Words.{accepted, bytes_of, start_of}
use Rattle.acpi.specs.Types.{TableMissing}
use Rattle.acpi.specs.Words.{accepted_by, lookup, memory_of, pointers_of}
use Rattle.acpi.proofs.Agreed.{from_tables, same_lookup}
use Rattle.acpi.proofs.First.{gives_absent, gives_first, gives_skipping, none_valid, skips_invalid}
use Rattle.acpi.proofs.tables.AcpiTables.find_table.Goals as goal

pub returns-in-Ok-clause-exact : goal.returns-in-Ok-clause-exact
returns-in-Ok-clause-exact g c = rw (c.mapping.ensures.start, c.mapping.ensures.bytes) c.in-Ok.ensures.found

pub returns-in-Ok-clause-first : goal.returns-in-Ok-clause-first
returns-in-Ok-clause-first g c =
    gives_first _ _ _ (λ m. start_of m) (λ m. bytes_of m) (Ok c.mapping.result) (returns-in-Ok-clause-exact g c)

pub returns-in-Ok-clause-skips : goal.returns-in-Ok-clause-skips
returns-in-Ok-clause-skips g c =
    gives_skipping _ _ _ (λ m. (start_of m, bytes_of m)) (Ok c.mapping.result) (returns-in-Ok-clause-exact g c)

pub returns-in-Ok-clause-absent : goal.returns-in-Ok-clause-absent
returns-in-Ok-clause-absent g c =
    gives_absent _ _ _ (λ m. (start_of m, bytes_of m)) (Ok c.mapping.result) _ (g.met.T.AcpiTable.agrees).0
    (returns-in-Ok-clause-exact g c)

pub returns-in-Ok-clause-footprint : goal.returns-in-Ok-clause-footprint
returns-in-Ok-clause-footprint g c = λ n h.
    rw (from_tables c.args.self.now _ _ (same_lookup (accepted_by c.args.self.now g.T.AcpiTable.kind)) c.args.self.now.valid n h)
    (returns-in-Ok-clause-exact g c)

pub returns-in-Err-clause-skips : goal.returns-in-Err-clause-skips
returns-in-Err-clause-skips g c = λ before after p listed h. rw (skips_invalid _ _ p before after h, ← listed)
    c.in-Err.ensures.found

pub returns-in-Err-clause-missing : goal.returns-in-Err-clause-missing
returns-in-Err-clause-missing g c =
    let none = none_valid _ _ _ _ c.in-Err.ensures.found in
    (none.0 ∙ ap TableMissing (g.met.T.AcpiTable.agrees).0, none.1)

pub returns-in-Err-clause-absent : goal.returns-in-Err-clause-absent
returns-in-Err-clause-absent g c = λ _. rw (returns-in-Err-clause-missing g c).0

pub returns-in-Err-clause-footprint : goal.returns-in-Err-clause-footprint
returns-in-Err-clause-footprint g c = λ n h.
    rw (from_tables c.args.self.now _ _ (same_lookup (accepted_by c.args.self.now g.T.AcpiTable.kind)) c.args.self.now.valid n h)
    c.in-Err.ensures.found

pub returns-in-Err-clause-strict : goal.returns-in-Err-clause-strict
returns-in-Err-clause-strict g c = λ strict.
    let t = c.args.self.now in
    subst (λ accept. lookup (memory_of t) (accepted accept g.T.AcpiTable.kind) (pointers_of t)
    ≡ Err c.in-Err.error) strict c.in-Err.ensures.found
