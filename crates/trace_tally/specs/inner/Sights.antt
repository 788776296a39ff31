-- When what the tests of the tally ask is that of entries, and what an event is by all of them.
use Rattle.std.specs.Prelude.{◌≡◌, ℕ, Bool, false, List, Option, Some, None}
use Rattle.least_reloads.specs.Plans.{has}
use Rattle.sgx_rules.specs.declared.entries.Entry.{Entry}
use Rattle.sgx_rules.specs.declared.entries.Event.{Event}
use Rattle.sgx_types.specs.declared.names.Page.{Page}
use Rattle.trace_places.specs.inner.Tables.{Stands}
use Rattle.trace_query.specs.inner.Insides as insides
use Rattle.trace_tally.specs.declared.sights.Sights.{Sights}
use Rattle.trace_tally.specs.declared.counts.Seen.{Seen}
use Rattle.trace_tally.specs.Tests.{is_page_entered, tenant_page, was_back, is_written}
use Rattle.trace_tally.specs.Tests.{is_entered_then, is_cached_now, is_reloaded, is_again, is_odd}
use Rattle.trace_tally.specs.inner.Blocks as blocks

pub record Knows (known : Sights) (past : List Entry) : Type 0 where
  pub places : Stands known.places past
  pub insides : insides.InsidesFollow known.insides past
  pub blocks : blocks.BlocksFollow known.blocks past
  pub back : (g : Page) → has known.back g ≡ was_back past g

-- a processor is inside the enclave of the page of the frame that is blocked, if one is
abbrev pub is_blocked_entered : List Entry → Option ℕ → Bool
is_blocked_entered past None = false
is_blocked_entered past (Some n) = is_page_entered past (tenant_page past n)

-- all that an event is
abbrev pub seen : List Entry → Event → Seen
seen past event = record {
  written = is_written past event;
  entered = is_entered_then past event;
  cached = is_cached_now past event;
  reloaded = is_reloaded past event;
  again = is_again past event;
  odd = is_odd past event;
}
