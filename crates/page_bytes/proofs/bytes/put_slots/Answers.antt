use Rattle.std.proofs.Common.{arith, ◌≡◌, ◌∙◌, ◌++◌, ap, append_assoc, length, subst, sym}
use Rattle.std.specs.Int.{w64, to_le_bytes}
use Rattle.std.proofs.lemmas.List.{length-append}
use Rattle.sgx_types.specs.Layouts.{bytes_of}
use Rattle.epcm_entry.specs.inner.Words.{words_of}
use Rattle.epcm_entry.proofs.Words.{words_of-bytes_of}
use Rattle.page_bytes.specs.inner.Bytes.{first_slots}
use Rattle.page_bytes.proofs.SlotBytes.{bytes_more, fits_more, length-first_bytes}
use Rattle.page_bytes.proofs.bytes.put_slots.Goals as goal

pub put-requires : goal.put-requires
put-requires c =
    let bytes = bytes_of (first_slots c.args.va.now.pages c.args.frame.0 c.loop-index.index) in
    let size = ap length c.loop-index.invariant.text ∙ length-append c.args.onto.now.items bytes in
    let slots = length-first_bytes c.args.va.now.pages c.args.frame.0 c.loop-index.index in
    let eight = ap length c.to_le_bytes.ensures in
    omega (arith, size, slots, eight, c.requires.room, c.loop-index.invariant.room, c.loop-index-test.true)

pub loop-index-preserved : goal.loop-index-preserved
loop-index-preserved c = record {
  text =
      c.put.ensures.bytes
      ∙ ap (λ bytes. bytes ++ c.to_le_bytes.result) c.loop-index.invariant.text
      ∙ append_assoc c.args.onto.now.items (bytes_of (first_slots c.args.va.now.pages c.args.frame.0 c.loop-index.index))
      c.to_le_bytes.result
      ∙ ap (λ bytes. c.args.onto.now.items ++ bytes)
      (ap (λ bytes. bytes_of (first_slots c.args.va.now.pages c.args.frame.0 c.loop-index.index) ++ bytes)
      (c.to_le_bytes.ensures ∙ ap (to_le_bytes w64) c.slot-version.ensures.value)
      ∙ sym (bytes_more c.args.va.now.pages c.args.frame.0 c.loop-index.index));
  room = c.put.ensures.room ∙ c.loop-index.invariant.room;
  fit = fits_more c.args.va.now.pages c.args.frame.0 c.loop-index.index c.loop-index.invariant.fit
      (omega (arith, c.slot-version.ensures.value, c.slot-version.auto));
}

pub returns-clause-bytes : goal.returns-clause-bytes
returns-clause-bytes c =
    let ended : c.loop-index.index ≡ 512 = omega arith in
    subst (λ n. c.loop-index.onto.items ≡ c.args.onto.now.items ++ bytes_of (first_slots c.args.va.now.pages c.args.frame.0 n)) ended
    c.loop-index.invariant.text

pub returns-clause-words : goal.returns-clause-words
returns-clause-words c =
    let ended : c.loop-index.index ≡ 512 = omega arith in
    subst (λ n. words_of (bytes_of (first_slots c.args.va.now.pages c.args.frame.0 n)) ≡ first_slots c.args.va.now.pages c.args.frame.0 n)
    ended
    (words_of-bytes_of (first_slots c.args.va.now.pages c.args.frame.0 c.loop-index.index) c.loop-index.invariant.fit)
