use Rattle.std.proofs.Common.{◌+◌, ◌++◌, [], ◌∷◌, map, take, get_or, ap, ◌∙◌}
use Rattle.std.proofs.lemmas.List.{take_all}
use Rattle.std.specs.HashMap.{get, hash_map_len}
use Rattle.std.specs.Map.{lookup}
use Rattle.command_least.specs.declared.accesses.Access.{Access}
use Rattle.command_least.specs.inner.Kept.{page_of, same_access}
use Rattle.command_least.specs.inner.Naming.{access_of, name}
use Rattle.command_least.proofs.NamingLaws.{named_along, none_named, pages_more}
use Rattle.command_least.proofs.fewest.named.Goals as goal

pub loop-access-init : goal.loop-access-init
loop-access-init c =
    none_named c.new-pages.result.items (λ g. get same_access c.new-names.result (access_of g)) (hash_map_len c.new-names.result)
    c.new-pages.ensures.items
    (λ g. ap (lookup (same_access (access_of g))) c.new-names.ensures.empty)

pub loop-access-preserved : goal.loop-access-preserved
loop-access-preserved c =
    let i = c.loop-access.access-index in
    let accesses = c.args.accesses.now in
    let first : Access = record { enclave = 0; number = 0 } in
    named_along (map page_of (take i accesses) ++ page_of (get_or accesses i first) ∷ []) (map page_of (take (i + 1) accesses))
    (c.loop-access.pages.items ++ name c.in_ok-number.number ∷ []) c.push.new.self.items
    (λ g. get same_access c.name_of.new.names (access_of g)) (hash_map_len c.name_of.new.names)
    (pages_more accesses i first c.loop-access-test.true) c.in_ok-push.ensures.items
    (c.in_ok-number.ensures (map page_of (take i accesses)) c.loop-access.pages.items c.loop-access.invariant)

pub returns : goal.returns
returns c = record {
  by = c.loop-access.invariant.by;
  same = c.loop-access.invariant.same
      ∙ ap (λ all. map c.loop-access.invariant.by.to (map page_of all))
      (take_all c.loop-access.access-index c.args.accesses.now c.loop-access-test.false);
}
