use Rattle.std.proofs.Common.{◌<◌, ap, ◌∙◌, ◌*◌, ◌^◌, length, length-set, replicate, set}
use Rattle.epcm_entry.specs.inner.Epc.{with_word}
use Rattle.enclave_build.proofs.Writes.{word_written}
use Rattle.enclave_build.proofs.add.put_page.Goals as goal

pub returns-in-Tcs : goal.returns-in-Tcs
returns-in-Tcs c =
    let f = c.args.frame.0 in
    let low : f < length c.set.new.self = rw (c.set.ensures, length-set) c.requires.within in
    let first = word_written c.set.new.self f 2 (c.in-Tcs.ossa * 4096) (replicate 512 0) low in
    let second = word_written c.set.new.self f 3 (c.in-Tcs.nssa * 2 ^ 32) (set (replicate 512 0) 2 (c.in-Tcs.ossa * 4096)) low in
    rw (
      c.set_word-in-Tcs.ensures,
      c.set_word.ensures,
      c.fill-in-Tcs.ensures,
      c.in-Tcs.is,
      c.from.ensures,
      c.from-in-Tcs.ensures,
      ←
          c.set.ensures,
    )
    (ap (λ epc. with_word epc f 3 (c.in-Tcs.nssa * 2 ^ 32)) first ∙ second)
