-- The moves that a change is told to make are those of all pages.
use Rattle.std.proofs.Common.{inl, inr}
use Rattle.std.proofs.Common.{◌≡◌, ℕ, true, false, if◌then◌else◌, List, [], ◌++◌, Option, Some, None, option_to_list}
use Rattle.std.proofs.Common.{refl, sym, ap, ◌∙◌, append-nil}
use Rattle.std.proofs.lemmas.Bool.{eq-eqb, false≢true}
use Rattle.sgx_types.specs.declared.names.Page.{Page}
use Rattle.sgx_types.specs.Pages.{same_page}
use Rattle.sgx_types.proofs.Pages.{same_pages, same_page-swap}
use Rattle.sgx_types.proofs.Truths.{tested}
use Rattle.trace_places.specs.declared.change.Tenant.{Tenant}
use Rattle.trace_places.specs.declared.change.Tenant.TheVariants.{Has, Awaits}
use Rattle.trace_places.specs.declared.change.Gone.{Gone}
use Rattle.trace_places.specs.declared.change.Change.{Change}
use Rattle.trace_places.specs.declared.change.Change.TheVariants.{Puts, Empties}
use Rattle.trace_places.specs.declared.moves.Where.{Where}
use Rattle.trace_places.specs.declared.moves.Where.TheVariants.{Nowhere, At, Loading, Sealed}
use Rattle.trace_places.specs.declared.places.Places.{Places}
use Rattle.trace_places.specs.Places.{frame_changed, tenant_of, gone_of, is_tenant, least, version_by, where_by}
use Rattle.trace_places.specs.Places.{same_where, moved, page_of_tenant, page_at_frame, gone_page, page_named, unless_same, other_than}
use Rattle.sgx_rules.specs.Frames.{is_this}
use Rattle.trace_places.specs.declared.moves.MayMove.{MayMove}
use Rattle.trace_places.specs.Moves.{move_of, IsMoveOf, AreMovesOf}
use Rattle.trace_places.specs.inner.Frames.{frames_in}
use Rattle.trace_places.specs.inner.Tables.{tenant_in, gone_in, place_in, MakesChange, frames_with, seen_in, move_to, move_in}

-- ---- pages that stay

-- a tenant of another page is another tenant
other_tenant : (x : Option Tenant) (t : Tenant) → is_this (page_at_frame x) (page_of_tenant t) ≡ false → is_tenant x t ≡ false
other_tenant None t h = refl
other_tenant (Some (Has a)) (Has b) h = h
other_tenant (Some (Has a)) (Awaits b) h = refl
other_tenant (Some (Awaits a)) (Has b) h = refl
other_tenant (Some (Awaits a)) (Awaits b) h = h

not_put : (change : Change) (g : Page) → is_this (page_named change) g ≡ false → is_this (page_at_frame (tenant_of change)) g ≡ false
not_put (Puts f t) g h = h
not_put (Empties f went) g h = refl

not_gone_by : (went : Option Gone) (g : Page) (before : Option ℕ) → is_this (gone_page went) g ≡ false
    → version_by went g before ≡ before
not_gone_by None g before h = refl
not_gone_by (Some went) g before h = rw h refl

pub not_gone : (change : Change) (g : Page) (before : Option ℕ) → is_this (page_named change) g ≡ false
    → version_by (gone_of change) g before ≡ before
not_gone (Puts f t) g before h = refl
not_gone (Empties f went) g before h = not_gone_by went g before h

pub frames_stay : (change : Change) (former : Option Tenant) (t : Tenant) (ns : List ℕ)
    → is_this (page_at_frame former) (page_of_tenant t) ≡ false
    → is_this (page_named change) (page_of_tenant t) ≡ false → frames_with change former t ns ≡ ns
frames_stay change former t ns a b =
    rw (other_tenant (tenant_of change) t (not_put change (page_of_tenant t) b), other_tenant former t a) refl

-- a page that is neither the former one of the frame nor named stays where it is
pub place_stays : (old new : Places) (change : Change) (g : Page) → MakesChange old change new
    → is_this (page_at_frame (tenant_in old (frame_changed change))) g ≡ false → is_this (page_named change) g ≡ false
    → place_in new g ≡ place_in old g
place_stays old new change g makes a b =
    let former = tenant_in old (frame_changed change) in
    let has : frames_in new.frames (Has g) ≡ frames_in old.frames (Has g)
    = makes.frames (Has g) ∙ frames_stay change former (Has g) (frames_in old.frames (Has g)) a b in
    let awaits : frames_in new.frames (Awaits g) ≡ frames_in old.frames (Awaits g)
    = makes.frames (Awaits g) ∙ frames_stay change former (Awaits g) (frames_in old.frames (Awaits g)) a b in
    let gone : gone_in new g ≡ gone_in old g = makes.gone g ∙ not_gone change g (gone_in old g) b in
    λ i. where_by (least (has i)) (least (awaits i)) (gone i)

-- ---- what is told

pub same_where-refl : (w : Where) → same_where w w ≡ true
same_where-refl Nowhere = refl
same_where-refl (At f) = eq-eqb f.0 f.0 refl
same_where-refl (Loading f) = eq-eqb f.0 f.0 refl
same_where-refl (Sealed v) = eq-eqb v v refl

pub stayed : (before after : Where) → after ≡ before → moved before after ≡ None
stayed before after is = ap (moved before) is ∙ ap (λ b. if b then None else Some before) (same_where-refl before)

told_other : (page g : Page) (to : Option Where) → same_page page g ≡ false → move_of (move_to page to) g ≡ []
told_other page g None h = refl
told_other page g (Some to) h = rw h refl

told_own : (page g : Page) (to : Option Where) → same_page page g ≡ true → move_of (move_to page to) g ≡ option_to_list to
told_own page g None h = refl
told_own page g (Some to) h = rw h refl

module _ (old new : Places) where
  -- of one page, what is told of another one
  none_told : (x : Option Page) (g : Page) → is_this x g ≡ false → move_of (move_in new (seen_in old x)) g ≡ []
  none_told None g h = refl
  none_told (Some page) g h = told_other page g (moved (place_in old page) (place_in new page)) h

  -- .. and of itself
  own_told : (x : Option Page) (g : Page) → is_this x g ≡ true
      → move_of (move_in new (seen_in old x)) g ≡ option_to_list (moved (place_in old g) (place_in new g))
  own_told None g h = absurd (false≢true h)
  own_told (Some page) g h =
      told_own page g (moved (place_in old page) (place_in new page)) h
      ∙ ap (λ p. option_to_list (moved (place_in old p) (place_in new p))) (same_pages page g h)

unless_true : (former : Option Page) (page g : Page) → is_this former g ≡ true → is_this (unless_same former page) g ≡ false
unless_true None page g h = absurd (false≢true h)
unless_true (Some a) page g h =
    elim (tested (same_page a page)) [
      | inl same ↦ rw same refl
      | inr differ ↦ rw differ (ap (same_page page) (sym (same_pages a g h)) ∙ same_page-swap page a ∙ differ)
    ]

unless_false : (former : Option Page) (page g : Page) → is_this former g ≡ false
    → is_this (unless_same former page) g ≡ same_page page g
unless_false None page g h = refl
unless_false (Some a) page g h =
    elim (tested (same_page a page)) [
      | inl same ↦ rw same (sym (ap (λ p. same_page p g) (sym (same_pages a page same)) ∙ h))
      | inr differ ↦ rw differ refl
    ]

-- a page is told of once
pub other_true : (former named : Option Page) (g : Page) → is_this former g ≡ true → is_this (other_than former named) g ≡ false
other_true former None g h = refl
other_true former (Some page) g h = unless_true former page g h

pub other_false : (former named : Option Page) (g : Page) → is_this former g ≡ false
    → is_this (other_than former named) g ≡ is_this named g
other_false former None g h = refl
other_false former (Some page) g h = unless_false former page g h

-- what is told of the former page and of the named one is what became of each page
pub told : (old new : Places) (former named : Option Page)
    → ((g : Page) → is_this former g ≡ false → is_this named g ≡ false → place_in new g ≡ place_in old g) → (g : Page)
    → (move_of (move_in new (seen_in old former)) g ++ move_of (move_in new (seen_in old (other_than former named))) g)
    ≡ option_to_list (moved (place_in old g) (place_in new g))
told old new former named stays g =
    elim (tested (is_this former g)) [
      | inl a ↦
          rw (own_told old new former g a, none_told old new (other_than former named) g (other_true former named g a))
          (append-nil (option_to_list (moved (place_in old g) (place_in new g))))
      | inr a ↦ elim (tested (is_this named g)) [
        | inl b ↦
            rw (none_told old new former g a)
            (own_told old new (other_than former named) g (other_false former named g a ∙ b))
        | inr b ↦
            rw (none_told old new former g a, none_told old new (other_than former named) g (other_false former named g a ∙ b))
            (sym (ap option_to_list (stayed (place_in old g) (place_in new g) (stays g a b))))
      ]
    ]

move_is_of : (page : Page) (to : Option Where) → IsMoveOf (move_to page to) (Some page)
move_is_of page None = tt
move_is_of page (Some to) = refl

told_of : (old new : Places) (x : Option Page) → IsMoveOf (move_in new (seen_in old x)) x
told_of old new None = tt
told_of old new (Some page) = move_is_of page (moved (place_in old page) (place_in new page))

-- what is told is of the pages that were seen
pub moves_are_of : (old new : Places) (pages : MayMove)
    → AreMovesOf (record { former = move_in new (seen_in old pages.former); named = move_in new (seen_in old pages.named) }) pages
moves_are_of old new pages = record { former = told_of old new pages.former; named = told_of old new pages.named }
