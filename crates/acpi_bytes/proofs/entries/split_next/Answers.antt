use Rattle.std.proofs.Common.{arith, length-drop}
use Rattle.acpi_bytes.proofs.Cuts.{next_is, cut_front}
use Rattle.acpi_bytes.proofs.entries.split_next.Goals as goal

pub split_at-requires : goal.split_at-requires
split_at-requires g c = (next_is c.args.grammar.now c.args.bytes.now c.args.size c.requires).2

pub returns-clause-found : goal.returns-clause-found
returns-clause-found g c =
    rw (c.split_at.ensures.front, c.split_at.ensures.back)
    (cut_front c.args.grammar.now c.args.bytes.now c.args.size c.requires)

pub returns-clause-entry : goal.returns-clause-entry
returns-clause-entry g c =
    rw c.split_at.ensures.front (next_is c.args.grammar.now c.args.bytes.now c.args.size c.requires).0

pub returns-clause-shorter : goal.returns-clause-shorter
returns-clause-shorter g c =
    let f = next_is c.args.grammar.now c.args.bytes.now c.args.size c.requires in
    rw c.split_at.ensures.back (omega (arith, length-drop c.args.size c.args.bytes.now, f.1, f.2))
