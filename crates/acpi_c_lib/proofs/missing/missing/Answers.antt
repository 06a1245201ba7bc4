use Rattle.acpi_c_lib.specs.Words.{mapped_memory}
use Rattle.acpi_c_lib.proofs.Unmapped.{joined}
use Rattle.acpi_c_lib.proofs.missing.missing.Goals as goal

pub returns : goal.returns
returns c =
    joined c.args.source.now (mapped_memory c.in_ok-memory.memory) c.args.out.now
    c.candidate_missing_ranges-from.new.out
    c.others.new.out c.candidate_missing_ranges-from.result c.others.result
    c.in_ok-memory.ensures c.in_ok-check_policy.ensures c.candidate_missing_ranges-from.ensures.written
    c.others.ensures.count c.others.ensures.items
