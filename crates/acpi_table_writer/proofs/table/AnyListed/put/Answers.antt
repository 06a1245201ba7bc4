use Rattle.std.proofs.Common.{length, sym, ◌∙◌}
use Rattle.acpi_table_writer.proofs.Sized.{said_long}
use Rattle.acpi_table_writer.proofs.table.AnyListed.put.Goals as goal

pub fill-requires-clause-whole : goal.fill-requires-clause-whole
fill-requires-clause-whole g c =
    rw (c.head-revision.ensures, c.body.ensures.bytes) (said_long g.T.Table.checked g.T.Table.head_of g.T.Table.body_of
    c.args.ids.now c.args.self.now (length c.args.out.now) c.requires).0

pub fill-requires-clause-short : goal.fill-requires-clause-short
fill-requires-clause-short g c =
    rw c.body.ensures.bytes (said_long g.T.Table.checked g.T.Table.head_of g.T.Table.body_of
    c.args.ids.now c.args.self.now (length c.args.out.now) c.requires).1

pub returns : goal.returns
returns g c =
    c.fill.ensures.bytes ∙ rw (c.head-revision.ensures, c.body.ensures.bytes) (sym (said_long g.T.Table.checked
    g.T.Table.head_of g.T.Table.body_of c.args.ids.now c.args.self.now (length c.args.out.now) c.requires).2)
