use Rattle.std.proofs.Common.{◌+◌, ◌-◌, ◌*◌}
use Rattle.acpi_dump_walk.proofs.walk.+walk.Given as goal

-- each call goes a level deeper; a line's lines are on its level
abbrev pub decreases-walk_structure : goal.decreases-walk_structure
decreases-walk_structure g l = 2 * l.depth

abbrev pub decreases-walk_lines : goal.decreases-walk_lines
decreases-walk_lines g l = 2 * l.depth

abbrev pub decreases-walk_line : goal.decreases-walk_line
decreases-walk_line g l = 2 * l.depth + 1

abbrev pub decreases-walk_list : goal.decreases-walk_list
decreases-walk_list g l = 2 * l.depth

-- each entry leaves fewer bytes
abbrev pub decreases-walk_list-entries : goal.decreases-walk_list-entries
decreases-walk_list-entries g l = l.end - l.start
