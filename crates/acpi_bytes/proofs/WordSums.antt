-- Sums of bytes in words: the whole words, and of each the bytes at even places in lanes of 16 bits.
use Rattle.std.proofs.Common.{◌≡◌, ℕ, ◌+◌, ◌*◌, ◌-◌, ◌%◌, ◌/◌, ◌^◌, ◌≤◌, ◌<◌, List, [], ◌∷◌, ◌++◌, length, length-append, length-drop, refl, arith, sum, bit_and, take, drop, get_or, Fits, w8, ap, sym, subst, lit≤, ◌∙◌}
use Rattle.std.proofs.lemmas.Nat.{and_assoc, and_shr}
use Rattle.acpi_bytes.specs.FromStd.{Each1, chunk}
use Rattle.acpi_bytes.proofs.FromStd.{and_mask, chunk-fits, length-chunk, length-take-le, sum_by-append, sum_by-cons, sum_by-take-drop, take-add, take_all}
use Rattle.acpi_bytes.specs.Words.{field_of, number, sum_of}
use Rattle.acpi_bytes.specs.declared.sum.WordSums.{WordSums}

-- four lanes of 16 bits in a number
abbrev in_lanes : ℕ → ℕ → ℕ → ℕ → ℕ
in_lanes a b c d = a + 65536 * b + 4294967296 * c + 281474976710656 * d

-- the bytes of words add up to these: by their place in a word, s0 to s7, and from those all words as numbers modulo
-- 2^64, and the bytes at even places in lanes
pub record AddsUpInWords (whole even : ℕ) (bytes : List ℕ) : Type 0 where
  pub s0 : ℕ
  pub s1 : ℕ
  pub s2 : ℕ
  pub s3 : ℕ
  pub s4 : ℕ
  pub s5 : ℕ
  pub s6 : ℕ
  pub s7 : ℕ
  pub all : s0 + s1 + s2 + s3 + s4 + s5 + s6 + s7 ≡ sum bytes
  pub room : (8 * s0 ≤ 255 * length bytes) × (8 * s1 ≤ 255 * length bytes) × (8 * s2 ≤ 255 * length bytes)
      × (8 * s3 ≤ 255 * length bytes) × (8 * s4 ≤ 255 * length bytes) × (8 * s5 ≤ 255 * length bytes)
      × (8 * s6 ≤ 255 * length bytes) × (8 * s7 ≤ 255 * length bytes)
  pub even_lanes : even ≡ in_lanes s0 s2 s4 s6
  pub whole_words : whole ≡ (even + 256 * in_lanes s1 s3 s5 s7) % 2 ^ 64

-- a mask whose two lowest bytes are 255 and 0 keeps the lowest byte, and of what is above what the rest of it keeps
kept_first : (a c : ℕ) → bit_and a (255 + 65536 * c) ≡ a % 256 + 65536 * bit_and (a / 65536) c
kept_first a c =
    let mask : ℕ = 255 + 65536 * c in
    let high : bit_and a mask / 65536 ≡ bit_and (a / 65536) c =
    and_shr a mask 16 ∙ ap (bit_and (a / 65536)) (omega arith) in
    let byte : mask % 65536 ≡ 255 = omega arith in
    let low : bit_and a mask % 65536 ≡ a % 256 =
    sym (and_mask (bit_and a mask) 16) ∙ and_assoc 65535 a mask
    ∙ ap (bit_and a) (and_mask mask 16 ∙ byte) ∙ and_mask a 8 in
    omega (arith, high, low)

-- the bytes at even places of a number below 2^64
kept : (a : ℕ) → bit_and a 71777214294589695
    ≡ in_lanes (a % 256) (a / 65536 % 256) (a / 4294967296 % 256) (a / 281474976710656 % 256)
kept a =
    let first : bit_and a 71777214294589695 ≡ a % 256 + 65536 * bit_and (a / 65536) 1095233372415 =
    kept_first a 1095233372415 in
    let second : bit_and (a / 65536) 1095233372415 ≡ a / 65536 % 256 + 65536 * bit_and (a / 65536 / 65536) 16711935 =
    kept_first (a / 65536) 16711935 in
    let third : bit_and (a / 65536 / 65536) 16711935
    ≡ a / 65536 / 65536 % 256 + 65536 * bit_and (a / 65536 / 65536 / 65536) 255 =
    kept_first (a / 65536 / 65536) 255 in
    let fourth = and_mask (a / 65536 / 65536 / 65536) 8 in
    omega (arith, first, second, third, fourth)

-- a word's bytes as a number
abbrev byte_of : ℕ → ℕ → ℕ → ℕ → ℕ → ℕ → ℕ → ℕ → ℕ
byte_of a b c d e f g h = number (a ∷ b ∷ c ∷ d ∷ e ∷ f ∷ g ∷ h ∷ [])

kept_word : (a b c d e f g h : ℕ) → a < 256 → b < 256 → c < 256 → d < 256 → e < 256 → f < 256 → g < 256 → h < 256
    → bit_and (byte_of a b c d e f g h) 71777214294589695 ≡ in_lanes a c e g
kept_word a b c d e f g h la lb lc ld le lf lg lh = omega (arith, kept (byte_of a b c d e f g h))

sum-cons : (x : ℕ) (xs : List ℕ) → sum (x ∷ xs) ≡ x + sum xs
sum-cons = sum_by-cons (λ x. x)

-- one word more
with_eight : (whole even : ℕ) (before xs : List ℕ) → length xs ≡ 8 → Each1 (Fits w8) xs → length before + 8 ≤ 2048
    → AddsUpInWords whole even before
    → AddsUpInWords ((whole + number xs) % 2 ^ 64) ((even + bit_and (number xs) 71777214294589695) % 2 ^ 64)
    (before ++ xs)
with_eight whole even before [] long fit room sums = absurd (omega arith)
with_eight whole even before (a ∷ []) long fit room sums = absurd (omega arith)
with_eight whole even before (a ∷ b ∷ []) long fit room sums = absurd (omega arith)
with_eight whole even before (a ∷ b ∷ c ∷ []) long fit room sums = absurd (omega arith)
with_eight whole even before (a ∷ b ∷ c ∷ d ∷ []) long fit room sums = absurd (omega arith)
with_eight whole even before (a ∷ b ∷ c ∷ d ∷ e ∷ []) long fit room sums = absurd (omega arith)
with_eight whole even before (a ∷ b ∷ c ∷ d ∷ e ∷ f ∷ []) long fit room sums = absurd (omega arith)
with_eight whole even before (a ∷ b ∷ c ∷ d ∷ e ∷ f ∷ g ∷ []) long fit room sums = absurd (omega arith)
with_eight whole even before (a ∷ b ∷ c ∷ d ∷ e ∷ f ∷ g ∷ h ∷ i ∷ xs) long fit room sums = absurd (omega arith)
with_eight whole even before (a ∷ b ∷ c ∷ d ∷ e ∷ f ∷ g ∷ h ∷ []) long fit room sums =
    let xs : List ℕ = a ∷ b ∷ c ∷ d ∷ e ∷ f ∷ g ∷ h ∷ [] in
    let la : a < 256 = fit.0.fits in
    let lb : b < 256 = fit.1.0.fits in
    let lc : c < 256 = fit.1.1.0.fits in
    let ld : d < 256 = fit.1.1.1.0.fits in
    let le : e < 256 = fit.1.1.1.1.0.fits in
    let lf : f < 256 = fit.1.1.1.1.1.0.fits in
    let lg : g < 256 = fit.1.1.1.1.1.1.0.fits in
    let lh : h < 256 = fit.1.1.1.1.1.1.1.0.fits in
    let mask = kept_word a b c d e f g h la lb lc ld le lf lg lh in
    let n : length (before ++ xs) ≡ length before + 8 = length-append before xs in
    let total : sum (before ++ xs) ≡ sum before + (a + (b + (c + (d + (e + (f + (g + h))))))) =
    sum_by-append (λ x. x) before xs ∙ omega arith in
    record {
      s0 = sums.s0 + a;
      s1 = sums.s1 + b;
      s2 = sums.s2 + c;
      s3 = sums.s3 + d;
      s4 = sums.s4 + e;
      s5 = sums.s5 + f;
      s6 = sums.s6 + g;
      s7 = sums.s7 + h;
      all = omega (arith, sums.all, total);
      room = (
        omega (arith, n, sums.room.0),
        omega (arith, n, sums.room.1),
        omega (arith, n, sums.room.2),
        omega (arith, n, sums.room.3),
        omega (arith, n, sums.room.4),
        omega (arith, n, sums.room.5),
        omega (arith, n, sums.room.6),
        omega (arith, n, sums.room.7),
      );
      even_lanes = omega (arith, mask, sums.even_lanes, sums.room.0, sums.room.2, sums.room.4, sums.room.6);
      whole_words = omega
          (arith, mask, sums.even_lanes, sums.whole_words, sums.room.0, sums.room.2, sums.room.4, sums.room.6);
    }

pub word_next : (bytes : List ℕ) (at end : ℕ) (before after : WordSums) → at + 8 ≡ end → end ≤ length bytes
    → end ≤ 2048 → ((k : ℕ) → Fits w8 (get_or bytes k 0)) → AddsUpInWords before.whole before.even (take at bytes)
    → after.whole ≡ (before.whole + field_of bytes at 8) % 2 ^ 64
    → after.even ≡ (before.even + bit_and (field_of bytes at 8) 71777214294589695) % 2 ^ 64
    → AddsUpInWords after.whole after.even (take end bytes)
unfolding field_of
word_next bytes at end before after is there room fit sums whole even =
    let fits : at + 8 ≤ length bytes = omega (arith, is, there) in
    let long : length (take at bytes) ≡ at = length-take-le at bytes (omega (arith, fits)) in
    let next = with_eight before.whole before.even (take at bytes) (chunk at 8 bytes) (length-chunk at 8 bytes fits)
    (chunk-fits w8 at 8 bytes fit) (omega (arith, is, long, room)) sums in
    let all : take at bytes ++ chunk at 8 bytes ≡ take end bytes =
    sym (take-add at 8 bytes) ∙ ap (λ n. take n bytes) is in
    rw (whole, even) (subst (λ l. AddsUpInWords ((before.whole + field_of bytes at 8) % 2 ^ 64)
    ((before.even + bit_and (field_of bytes at 8) 71777214294589695) % 2 ^ 64) l) all next)

pub no_words : AddsUpInWords 0 0 []
no_words = record {
  s0 = 0;
  s1 = 0;
  s2 = 0;
  s3 = 0;
  s4 = 0;
  s5 = 0;
  s6 = 0;
  s7 = 0;
  all = refl;
  room = (lit≤ tt, lit≤ tt, lit≤ tt, lit≤ tt, lit≤ tt, lit≤ tt, lit≤ tt, lit≤ tt);
  even_lanes = refl;
  whole_words = refl;
}

-- the lowest byte of each lane
low_bytes : (a b c d : ℕ) → a < 65536 → b < 65536 → c < 65536 → d < 65536
    → bit_and (in_lanes a b c d) 71777214294589695 ≡ in_lanes (a % 256) (b % 256) (c % 256) (d % 256)
low_bytes a b c d la lb lc ld = omega (arith, kept (in_lanes a b c d))

-- what the whole words have beside the even bytes, without a lane's part past 2^64
odd_lanes : (even a b c d : ℕ) → even < 2 ^ 64 → a < 65536 → b < 65536 → c < 65536 → d < 65536
    → ((even + 256 * in_lanes a b c d) % 2 ^ 64 + (2 ^ 64 - even)) % 2 ^ 64 / 256 ≡ in_lanes a b c (d % 256)
odd_lanes even a b c d le la lb lc ld = omega arith

folded_lanes : (a b c d e f g h s : ℕ) → a + b + c + d + e + f + g + h ≡ s
    → (in_lanes (a % 256) (c % 256) (e % 256) (g % 256)
    + in_lanes (b % 256) (d % 256) (f % 256) (h % 256)) % 65535 % 256 ≡ s % 256
folded_lanes a b c d e f g h s all =
    let sum : ℕ = a % 256 + b % 256 + c % 256 + d % 256 + e % 256 + f % 256 + g % 256 + h % 256 in
    let one : (in_lanes (a % 256) (c % 256) (e % 256) (g % 256)
    + in_lanes (b % 256) (d % 256) (f % 256) (h % 256)) % 65535 ≡ sum = omega arith in
    omega (arith, one, all)

-- the sum of all lanes
pub lanes_add_up : (whole even : ℕ) (bytes : List ℕ) → length bytes ≤ 2048 → AddsUpInWords whole even bytes
    → (bit_and even 71777214294589695
    + bit_and ((whole + (2 ^ 64 - even)) % 2 ^ 64 / 256) 71777214294589695) % 65535 % 256 ≡ sum_of bytes
unfolding sum_of
lanes_add_up whole even bytes few sums =
    let l0 : sums.s0 < 65536 = omega (arith, few, sums.room.0) in
    let l1 : sums.s1 < 65536 = omega (arith, few, sums.room.1) in
    let l2 : sums.s2 < 65536 = omega (arith, few, sums.room.2) in
    let l3 : sums.s3 < 65536 = omega (arith, few, sums.room.3) in
    let l4 : sums.s4 < 65536 = omega (arith, few, sums.room.4) in
    let l5 : sums.s5 < 65536 = omega (arith, few, sums.room.5) in
    let l6 : sums.s6 < 65536 = omega (arith, few, sums.room.6) in
    let l7 : sums.s7 < 65536 = omega (arith, few, sums.room.7) in
    let small : even < 2 ^ 64 = omega (arith, sums.even_lanes) in
    let evens : bit_and even 71777214294589695
    ≡ in_lanes (sums.s0 % 256) (sums.s2 % 256) (sums.s4 % 256) (sums.s6 % 256) =
    ap (λ n. bit_and n 71777214294589695) sums.even_lanes ∙ low_bytes sums.s0 sums.s2 sums.s4 sums.s6 l0 l2 l4 l6 in
    let odds : (whole + (2 ^ 64 - even)) % 2 ^ 64 / 256 ≡ in_lanes sums.s1 sums.s3 sums.s5 (sums.s7 % 256) =
    ap (λ n. (n + (2 ^ 64 - even)) % 2 ^ 64 / 256) sums.whole_words
    ∙ odd_lanes even sums.s1 sums.s3 sums.s5 sums.s7 small l1 l3 l5 l7 in
    let kept_odds : bit_and ((whole + (2 ^ 64 - even)) % 2 ^ 64 / 256) 71777214294589695
    ≡ in_lanes (sums.s1 % 256) (sums.s3 % 256) (sums.s5 % 256) (sums.s7 % 256) =
    ap (λ n. bit_and n 71777214294589695) odds
    ∙ low_bytes sums.s1 sums.s3 sums.s5 (sums.s7 % 256) l1 l3 l5 (omega arith) ∙ omega arith in
    rw (evens, kept_odds) (
    folded_lanes sums.s0 sums.s1 sums.s2 sums.s3 sums.s4 sums.s5 sums.s6 sums.s7 (sum bytes) sums.all
    )

pub sum_next : (bytes : List ℕ) (at end : ℕ) → at ≤ end
    → (sum_of (take at bytes) + sum_of (take (end - at) (drop at bytes))) % 256 ≡ sum_of (take end bytes)
unfolding sum_of
sum_next bytes at end later =
    let there : at + (end - at) ≡ end = omega arith in
    omega (
      arith,
      ap (λ n. sum (take n bytes)) there,
      ap sum (take-add at (end - at) bytes),
      sum_by-append (λ x. x) (take at bytes) (take (end - at) (drop at bytes)),
    )

pub sum_whole : (bytes : List ℕ) (at : ℕ)
    → (sum_of (take at bytes) + sum_of (take (length bytes - at) (drop at bytes))) % 256 ≡ sum_of bytes
unfolding sum_of
sum_whole bytes at =
    rw (take_all (length bytes - at) (drop at bytes) (omega (arith, length-drop at bytes))) (
    omega (arith, sum_by-take-drop (λ x. x) bytes at)
    )
