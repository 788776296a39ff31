use Rattle.std.proofs.Common.{arith, ap, ◌∙◌, sym, length-set, set}
use Rattle.epcm_entry.proofs.Frames.{in_entries, entry_put, free_within, free_known, free_put}
use Rattle.epcm_entry.proofs.epc.Epc.put.Goals as goal

pub index-old-requires : goal.index-old-requires
index-old-requires c = omega (arith, in_entries _ _ _ c.self.invariant.paged c.self.view_is _ c.requires, c.self.inside.entries.ok.0)

pub index_mut-requires : goal.index_mut-requires
index_mut-requires c = omega (arith, in_entries _ _ _ c.self.invariant.paged c.self.view_is _ c.requires, c.self.inside.entries.ok.0)

pub update-requires-clause-within : goal.update-requires-clause-within
update-requires-clause-within c = free_within _ _ _ c.self.invariant.paged c.self.view_is _ c.requires _ c.self.invariant.marked

pub update-requires-clause-known : goal.update-requires-clause-known
update-requires-clause-known c = free_known _ _ _ c.self.invariant.paged c.self.view_is _ c.requires _ c.self.invariant.marked _
    c.index-old.ensures ∙ sym c.is_free.ensures.value

pub invariant_of-self : goal.invariant_of-self
invariant_of-self c = record {
  small = rw length-set c.self.invariant.small;
  paged = c.self.invariant.paged ∙ sym (length-set _ _ _);
  pages = c.self.invariant.pages;
  marked =
      c.update.ensures ∙ ap (set c.self.inside.free c.args.frame.0) c.is_free-2.ensures.value
      ∙ free_put _ _ _ c.self.invariant.paged c.self.view_is _ c.requires _ c.self.invariant.marked c.args.entry;
}

pub returns : goal.returns
returns c = entry_put _ _ _ c.self.invariant.paged c.self.view_is _ c.requires c.args.entry
