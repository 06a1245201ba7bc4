-- The lemmas of std that proofs cite beside its plain ones.
pub use Rattle.std.proofs.Math.Nat.{div-lt_iff_lt-mul}
pub use Rattle.std.proofs.Math.Pow.{pow_mono}
pub use Rattle.std.proofs.Math.Seq.{take-add, take-append-add, take-length}
pub use Rattle.std.proofs.Math.Utf8.{encode, encodes, scalar, scalars}
pub use Rattle.std.proofs.lemmas.Bool.{and_from, and_parts, both_ways, cases_lt, eqb-true, false_from_ne_true, le-leb, le-ltb, leb-true, lt-leb, lt-ltb, ltb-true}
pub use Rattle.std.proofs.lemmas.Bool.Decides.{nat_tests}
pub use Rattle.std.proofs.lemmas.Grind.{common_steps}
pub use Rattle.std.proofs.lemmas.List.{drop-append-le, drop-drop, drop-replicate, drop-set-add, drop-set-lt, drop_at, get_or-drop, get_or-take, get_or_append_left, get_or_past, length-append, length-drop, length-take, length-take-le, take-append-drop, take-replicate, take-set-le, take-take, take_all, take_at}
pub use Rattle.std.proofs.lemmas.List.Sums.{sum_by-append, sum_by-cons, sum_by-set, sum_by-take-drop}
pub use Rattle.std.proofs.lemmas.Nat.{and_mask, pow-add}
pub use Rattle.std.proofs.lemmas.Option.{cond_some}
pub use Rattle.std.proofs.lemmas.Simd.{chunk-fits, length-chunk, length-zip2}
pub use Rattle.std.proofs.lemmas.Slice.Eq.{bytes_eq-Decides}
pub use Rattle.std.proofs.lemmas.Str.{IsCharBoundary-from_take, IsUtf8-append, IsUtf8-drop, IsUtf8-encode, IsUtf8-from_ascii, IsUtf8-from_is_utf8, IsUtf8-nil, is_utf8-from_IsUtf8, len_utf8_bounds, length-encode, utf8_valid_len-IsUtf8, utf8_valid_len_le}
