-- Where a page is that an entry does not move.
use Rattle.std.proofs.Common.{◌≡◌, ◌∷◌, false, List, Option, Some, None, sym, ap, ◌∙◌}
use Rattle.sgx_rules.specs.declared.entries.Entry.{Entry}
use Rattle.sgx_types.specs.declared.names.Page.{Page}
use Rattle.trace_places.specs.declared.change.Change.{Change}
use Rattle.trace_places.specs.declared.change.Tenant.TheVariants.{Has, Awaits}
use Rattle.trace_places.specs.Places.{change_after, frame_changed, tenant, frames_after, frames_having, least}
use Rattle.trace_places.specs.Places.{gone_after, gone_last}
use Rattle.trace_places.specs.Places.{where_by, place_of, page_at_frame, page_named}
use Rattle.sgx_rules.specs.Frames.{is_this}
use Rattle.trace_places.proofs.StandLaws.{frames_made}
use Rattle.trace_places.proofs.MoveLaws.{frames_stay, not_gone}
use Rattle.picture_text.specs.Events.{pages_by}

-- a change moves no page but the one that its frame has or awaits, and the one that it names
place_kept : (past : List Entry) (e : Entry) (change : Change) (g : Page) → change_after past e ≡ Some change
    → is_this (page_at_frame (tenant past (frame_changed change))) g ≡ false → is_this (page_named change) g ≡ false
    → place_of (e ∷ past) g ≡ place_of past g
place_kept past e change g is a b =
    let former = tenant past (frame_changed change) in
    let has : frames_having (e ∷ past) (Has g) ≡ frames_having past (Has g)
    = ap (λ (o : Option Change). frames_after o (Has g) (frames_having past (Has g))) is ∙ sym (frames_made past change (Has g))
    ∙ frames_stay change former (Has g) (frames_having past (Has g)) a b in
    let awaits : frames_having (e ∷ past) (Awaits g) ≡ frames_having past (Awaits g)
    = ap (λ (o : Option Change). frames_after o (Awaits g) (frames_having past (Awaits g))) is ∙ sym (frames_made past change (Awaits g))
    ∙ frames_stay change former (Awaits g) (frames_having past (Awaits g)) a b in
    let gone : gone_last (e ∷ past) g ≡ gone_last past g
    = ap (λ (o : Option Change). gone_after o g (gone_last past g)) is ∙ not_gone change g (gone_last past g) b in
    λ i. where_by (least (has i)) (least (awaits i)) (gone i)

-- .. and where nothing changes, none
place_still : (past : List Entry) (e : Entry) (g : Page) → change_after past e ≡ None → place_of (e ∷ past) g ≡ place_of past g
place_still past e g is =
    λ i. where_by (least (frames_after (is i) (Has g) (frames_having past (Has g))))
    (least (frames_after (is i) (Awaits g) (frames_having past (Awaits g))))
    (gone_after (is i) g (gone_last past g))

-- the page that a change names, before it is known whether its frame has it
abbrev pub named_by : Option Change → Option Page
named_by None = None
named_by (Some change) = page_named change

pub place_stays : (past : List Entry) (e : Entry) (change : Option Change) (g : Page) → change_after past e ≡ change
    → is_this (pages_by past change).former g ≡ false → is_this (named_by change) g ≡ false
    → place_of (e ∷ past) g ≡ place_of past g
place_stays past e None g is a b = place_still past e g is
place_stays past e (Some change) g is a b = place_kept past e change g is a b
