use Rattle.std.proofs.Common.{◌≡◌, ◌++◌, take}
use Rattle.page_bytes.proofs.bytes.put.Given as goal

abbrev pub invariant-loop-byte : goal.invariant-loop-byte
invariant-loop-byte l = (l.onto.items ≡ l.fn.onto.items ++ take l.byte-index l.bytes) × (l.onto.cap ≡ l.fn.onto.cap)
