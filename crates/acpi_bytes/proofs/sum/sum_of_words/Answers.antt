use Rattle.std.proofs.Common.{◌≡◌, ◌+◌, ◌≤◌, length, take, arith}
use Rattle.acpi_bytes.proofs.FromStd.{take_all}
use Rattle.acpi_bytes.proofs.WordSums.{lanes_add_up, word_next}
use Rattle.acpi_bytes.proofs.sum.sum_of_words.Goals as goal

-- the eight words of a block, one after the other
pub loop-at-preserved : goal.loop-at-preserved
loop-at-preserved c =
    let bytes = c.args.bytes.now in
    let at = c.loop-at.at in
    let there : at + 64 ≤ length bytes = omega (arith, c.loop-at-test.true, c.loop-at.invariant.within) in
    let one = word_next bytes at (at + 8) c.loop-at.sums c.with_word-sums.result (omega arith)
    (omega (arith, there)) (omega (arith, there, c.requires.few)) c.type_inv.bytes c.loop-at.invariant.summed
    c.with_word-sums.ensures.whole c.with_word-sums.ensures.even in
    let two = word_next bytes (at + 8) (at + 16) c.with_word-sums.result c.with_word-sums-in-loop-at.result (omega arith)
    (omega (arith, there)) (omega (arith, there, c.requires.few)) c.type_inv.bytes one
    c.with_word-sums-in-loop-at.ensures.whole c.with_word-sums-in-loop-at.ensures.even in
    let three = word_next bytes (at + 16) (at + 24) c.with_word-sums-in-loop-at.result c.with_word-sums-in-loop-at-2.result (omega arith)
    (omega (arith, there)) (omega (arith, there, c.requires.few)) c.type_inv.bytes two
    c.with_word-sums-in-loop-at-2.ensures.whole c.with_word-sums-in-loop-at-2.ensures.even in
    let four = word_next bytes (at + 24) (at + 32) c.with_word-sums-in-loop-at-2.result c.with_word-sums-in-loop-at-3.result (omega arith)
    (omega (arith, there)) (omega (arith, there, c.requires.few)) c.type_inv.bytes three
    c.with_word-sums-in-loop-at-3.ensures.whole c.with_word-sums-in-loop-at-3.ensures.even in
    let five = word_next bytes (at + 32) (at + 40) c.with_word-sums-in-loop-at-3.result c.with_word-sums-in-loop-at-4.result (omega arith)
    (omega (arith, there)) (omega (arith, there, c.requires.few)) c.type_inv.bytes four
    c.with_word-sums-in-loop-at-4.ensures.whole c.with_word-sums-in-loop-at-4.ensures.even in
    let six = word_next bytes (at + 40) (at + 48) c.with_word-sums-in-loop-at-4.result c.with_word-sums-in-loop-at-5.result (omega arith)
    (omega (arith, there)) (omega (arith, there, c.requires.few)) c.type_inv.bytes five
    c.with_word-sums-in-loop-at-5.ensures.whole c.with_word-sums-in-loop-at-5.ensures.even in
    let seven = word_next bytes (at + 48) (at + 56) c.with_word-sums-in-loop-at-5.result c.with_word-sums-in-loop-at-6.result (omega arith)
    (omega (arith, there)) (omega (arith, there, c.requires.few)) c.type_inv.bytes six
    c.with_word-sums-in-loop-at-6.ensures.whole c.with_word-sums-in-loop-at-6.ensures.even in
    let eight = word_next bytes (at + 56) (at + 64) c.with_word-sums-in-loop-at-6.result c.with_word-sums-in-loop-at-7.result (omega arith)
    (omega (arith, there)) (omega (arith, there, c.requires.few)) c.type_inv.bytes seven
    c.with_word-sums-in-loop-at-7.ensures.whole c.with_word-sums-in-loop-at-7.ensures.even in
    record { within = there; at_word = omega (arith, c.loop-at.invariant.at_word); summed = eight }

pub loop-at-2-preserved : goal.loop-at-2-preserved
loop-at-2-preserved c =
    let bytes = c.args.bytes.now in
    let at = c.loop-at-2.at in
    let there : at + 8 ≤ length bytes = omega (arith, c.loop-at-2-test.true, c.loop-at-2.invariant.within) in
    record {
      within = there;
      at_word = omega (arith, c.loop-at-2.invariant.at_word);
      summed = word_next bytes at (at + 8) c.loop-at-2.sums c.with_word-sums-in-loop-at-2-2.result (omega arith) there
          (omega (arith, there, c.requires.few)) c.type_inv.bytes c.loop-at-2.invariant.summed
          c.with_word-sums-in-loop-at-2-2.ensures.whole c.with_word-sums-in-loop-at-2-2.ensures.even;
    }

pub returns : goal.returns
returns c =
    let bytes = c.args.bytes.now in
    let end = c.loop-at-2 in
    let all : take end.at bytes ≡ bytes = take_all end.at bytes
    (omega (arith, c.loop-at-2-test.false, end.invariant.within, end.invariant.at_word, c.requires.words)) in
    lanes_add_up end.sums.whole end.sums.even bytes c.requires.few (rw all at end.invariant.summed)
