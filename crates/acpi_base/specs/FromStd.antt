-- Made by scripts/words: what proofs and contracts bring in from std.
pub use Rattle.std.specs.BTreeMap.{
  BTreeMap,
  get,
}
pub use Rattle.std.specs.Borrow.{Bor}
pub use Rattle.std.specs.Char.{
  digit_value,
  is_digit,
}
pub use Rattle.std.specs.Coded.{
  Coded-set,
  Unit-prop,
  le_prop,
  ×_prop,
}
unfoldable pub use Rattle.std.specs.Fmt.{digits}
pub use Rattle.std.specs.Fs.{
  IsFile,
  file_type,
}
pub use Rattle.std.specs.Global.{Global}
pub use Rattle.std.specs.Int.{
  from_le_bytes,
  to_le_bytes,
}
pub use Rattle.std.specs.Int.RustNames.{bit_and}
pub use Rattle.std.specs.Io.KnownBytes.{
  Appends,
  Keeps,
}
pub use Rattle.std.specs.IoError.{error_kind}
pub use Rattle.std.specs.Iterator.{
  IsFinite,
  YieldsFirst,
  YieldsFirstBy,
  item_count,
}
pub use Rattle.std.specs.List.{
  AllByRecursion,
  AllByRecursion-prop,
  after_first,
  before_first,
  concat,
  cons_option,
  last_or,
  list_all,
  list_any,
  prefix_len,
  range_with_len,
  starts_with,
}
pub use Rattle.std.specs.List.Sorted.{IsPartitionPoint}
pub use Rattle.std.specs.Option.{
  is_some,
  option_map_or,
  option_or,
}
pub use Rattle.std.specs.Ordering.{
  is_eq,
  nat_cmp,
}
pub use Rattle.std.specs.Range.{
  range_inclusive_end,
  range_inclusive_exhausted,
  range_inclusive_start,
}
pub use Rattle.std.specs.Result.{
  is_err,
  is_ok,
  result_err,
  result_ok,
  result_unwrap_or,
}
pub use Rattle.std.specs.Str.{trim}
unfoldable pub use Rattle.std.specs.Str.{
  chars,
  is_utf8,
  trim_start,
}
pub use Rattle.std.specs.Str.Parse.{
  AllDigits,
  ParsesUnsigned,
  digits_value,
  without_leading_plus,
}
