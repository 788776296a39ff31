use Rattle.std.proofs.Common.{◌≡◌, map, take}
use Rattle.std.specs.Fmt.{decimal}
use Rattle.sgx_types.specs.declared.names.Cpu.{Cpu}
use Rattle.text_words.specs.inner.Words.{with_words}
use Rattle.command_query.proofs.texts.push_cached.Given as goal

abbrev pub invariant-loop-cpu : goal.invariant-loop-cpu
invariant-loop-cpu l = l.text.items ≡ with_words l.initial.text.items (map (λ (p : Cpu). decimal p.0) (take l.cpu-index l.cpus))
