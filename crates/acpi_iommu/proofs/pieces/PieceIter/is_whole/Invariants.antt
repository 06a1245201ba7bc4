use Rattle.std.proofs.Common.{◌≡◌, length, ◌&&◌}
use Rattle.acpi_base.specs.FromStd.{list_all}
use Rattle.acpi_iommu.specs.Words.{left, rest_after}
use Rattle.acpi_iommu.proofs.pieces.PieceIter.is_whole.Given as goal

-- what is tested and what is left to test are the whole, and the rest is the same
abbrev pub invariant-loop-piece : goal.invariant-loop-piece
invariant-loop-piece g l = record {
  tested : (l.all_whole && list_all g.K.PieceKind.filled (left g.K.PieceKind.size l.self))
      ≡ list_all g.K.PieceKind.filled (left g.K.PieceKind.size l.fn.self);
  rest : rest_after g.K.PieceKind.size l.self ≡ rest_after g.K.PieceKind.size l.fn.self;
}

abbrev pub decreases-loop-piece : goal.decreases-loop-piece
decreases-loop-piece g l = length (left g.K.PieceKind.size l.self)
