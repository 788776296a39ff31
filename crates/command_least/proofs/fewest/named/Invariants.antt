use Rattle.std.proofs.Common.{map, take}
use Rattle.std.specs.HashMap.{get, hash_map_len}
use Rattle.command_least.specs.inner.Kept.{page_of, same_access}
use Rattle.command_least.specs.inner.Naming.{AreNamed, access_of}
use Rattle.command_least.proofs.fewest.named.Given as goal

abbrev pub invariant-loop-access : goal.invariant-loop-access
invariant-loop-access l =
    AreNamed (map page_of (take l.access-index l.accesses)) l.pages.items (λ g. get same_access l.names (access_of g))
    (hash_map_len l.names)
