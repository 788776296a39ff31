use Rattle.std.proofs.Common.{◌≡◌, map, drop}
use Rattle.text_words.specs.inner.Names.{by_name}
use Rattle.text_words.proofs.names.by_name.Given as goal

-- The name is none of those before.
abbrev pub invariant-loop-known : goal.invariant-loop-known
invariant-loop-known g l =
    by_name (map (λ row. (row.0.now, row.1)) (drop l.known-index l.table)) l.name ≡ by_name (map (λ row. (row.0.now, row.1)) l.table) l.name
