use Rattle.std.proofs.Common.{◌≡◌, ◌++◌, ◌<◌, ◌^◌}
use Rattle.std.specs.List.{All}
use Rattle.sgx_types.specs.Layouts.{bytes_of}
use Rattle.page_bytes.specs.inner.Bytes.{first_slots}
use Rattle.page_bytes.proofs.bytes.put_slots.Given as goal

abbrev pub invariant-loop-index : goal.invariant-loop-index
invariant-loop-index l = record {
  text : l.onto.items ≡ l.fn.onto.items ++ bytes_of (first_slots l.va.pages l.frame.0 l.index);
  room : l.onto.cap ≡ l.fn.onto.cap;
  fit : All (λ version. version < 2 ^ 64) (first_slots l.va.pages l.frame.0 l.index);
}
