-- Made by scripts/words: what proofs and contracts bring in from std.
pub use Rattle.std.specs.Borrow.{
  Array,
  Bor,
  Fml,
  Lends,
  MutBor,
  RattleType,
  sem,
}
pub use Rattle.std.specs.Coded.{
  Unit-prop,
  le_prop,
  ×_prop,
  Π_prop,
  →_prop,
}
pub use Rattle.std.specs.Int.{from_le_bytes}
pub use Rattle.std.specs.List.{
  AllByRecursion,
  AllByRecursion-prop,
  AllZip,
  concat,
}
pub use Rattle.std.specs.Simd.Lanes.{
  Each1,
  chunk,
  fold_l,
  zip2,
}
unfoldable pub use Rattle.std.specs.Str.{is_utf8}
pub use Rattle.std.specs.Str.Lossy.{valid_len_up_to}
unfoldable pub use Rattle.std.specs.Str.Lossy.{utf8_valid_len}
pub use Rattle.std.specs.declared.alloc.Allocator.{Ghosts}
