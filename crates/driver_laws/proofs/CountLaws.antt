-- As many slots are out as pages have one, one entry longer.
use Rattle.std.proofs.Common.{◌≡◌, ℕ, ◌+◌, not, Bool, true, false, cond, if◌then◌else◌, refl, sym, ◌∙◌, ap, List}
use Rattle.std.proofs.Common.{[], ◌∷◌, Some, None, is_some, arith}
use Rattle.std.proofs.lemmas.Bool.{eq-eqb, false≢true}
use Rattle.std.specs.List.{count_by}
use Rattle.std.proofs.lemmas.List.Sums.{sum_by-cons}
use Rattle.sgx_types.proofs.Pages.{same_page-swap, same_pages}
use Rattle.sgx_rules.specs.declared.entries.Action.TheVariants.{Add, Create, Eld, EldStart, Epa, Ewb, EwbStart}
use Rattle.sgx_types.specs.declared.names.Actor.{Actor}
use Rattle.sgx_rules.specs.declared.entries.Answer.{Answer}
use Rattle.sgx_rules.specs.declared.entries.Answer.TheVariants.{Moved}
use Rattle.sgx_rules.specs.declared.entries.Entry.{Entry}
use Rattle.sgx_rules.specs.declared.entries.Event.{Event}
use Rattle.sgx_rules.specs.declared.entries.Event.TheVariants.{Age, Did, Refused}
use Rattle.sgx_types.specs.declared.lawful.PageInit.{PageInit}
use Rattle.sgx_types.specs.declared.names.Frame.{Frame}
use Rattle.sgx_types.specs.declared.names.Kind.{Kind}
use Rattle.sgx_types.specs.declared.names.Perm.{Perm}
use Rattle.sgx_types.specs.declared.names.Page.{Page}
use Rattle.sgx_types.specs.declared.names.SlotAt.{SlotAt}
use Rattle.sgx_types.specs.Pages.{is_own_page, page_at, same_page}
use Rattle.sgx_rules.specs.Frames.{added, Content, content, Free, Holds, IsLoading, IsVa, SecsOf, stands}
use Rattle.sgx_rules.specs.Starts.{open_start}
use Rattle.driver_slots.specs.inner.Keeper.{count_out, Keeper, new_keeper}
use Rattle.driver_rules.specs.Places.{Absent, Leaving, Loading, place}
use Rattle.driver_rules.specs.inner.Slotted.{occupied}
use Rattle.driver_laws.specs.inner.Counted.{CountMoves, CountsSlots, has_slot, is_own_there, pages_added}
use Rattle.driver_laws.specs.inner.Kinds.{CanMove}
use Rattle.driver_laws.specs.inner.Sound.{is_absent, IsSound, slot_at, times}
use Rattle.sgx_rules.specs.Slots.{slot_of as starts_slot}
use Rattle.driver_laws.specs.inner.Used.{StartTells}
use Rattle.driver_laws.proofs.SlotMoves.{same_add, same_age, same_create, same_eldstart, same_epa, same_ewb, same_refused, SameSlots}
use Rattle.driver_laws.proofs.SlotMoves.{slot_back, slot_back_other, slot_started, slot_started_other}
use Rattle.driver_laws.proofs.SoundLaws.{entry_of}
use Rattle.driver_laws.proofs.BuiltLaws.{own_added, own_there}
use Rattle.driver_laws.proofs.StillLaws.{holds_here}
use Rattle.sgx_rules.specs.declared.refusals.Refusal.TheVariants as why

-- ---- counts

-- of the same pages as many pass
count_same : (now old : Page → Bool) (gs : List Page) → ((g : Page) → now g ≡ old g) → count_by now gs ≡ count_by old gs
count_same now old [] same = refl
count_same now old (x ∷ xs) same =
    let heads : cond (now x) 1 0 + count_by now xs ≡ cond (old x) 1 0 + count_by old xs = rw (same x, count_same now old xs same) refl in
    sum_by-cons (λ g. cond (now g) 1 0) x xs ∙ heads ∙ sym (sum_by-cons (λ g. cond (old g) 1 0) x xs)

-- one page more passes, as often as it stands there
count_more : (now old : Page → Bool) (a : Page) (gs : List Page) → old a ≡ false → now a ≡ true
    → ((g : Page) → same_page a g ≡ false → now g ≡ old g) → count_by now gs ≡ count_by old gs + times gs a
count_more now old a [] was is others = refl
count_more now old a (x ∷ xs) was is others =
    sum_by-cons (λ g. cond (now g) 1 0) x xs
    ∙ by_page (same_page a x) refl (count_more now old a xs was is others) ∙ rw (sum_by-cons (λ g. cond (old g) 1 0) x xs) refl
  where
    by_page : (b : Bool) → same_page a x ≡ b → count_by now xs ≡ count_by old xs + times xs a
        → cond (now x) 1 0 + count_by now xs ≡ cond (old x) 1 0 + count_by old xs + times (x ∷ xs) a
    by_page true same rest =
        let equal : a ≡ x = same_pages a x same in
        rw (sym (ap now equal) ∙ is, sym (ap old equal) ∙ was, rest, same_page-swap x a, same) omega arith
    by_page false same rest = rw (others x same, rest, same_page-swap x a, same) omega arith

-- a page that does not pass counts nothing
count_behind : (test : Page → Bool) (x : Page) (xs : List Page) → test x ≡ false → count_by test (x ∷ xs) ≡ count_by test xs
count_behind test x xs not_it =
    let head : cond (test x) 1 0 + count_by test xs ≡ count_by test xs = rw not_it omega arith in
    sum_by-cons (λ g. cond (test g) 1 0) x xs ∙ head

-- ---- in general

-- a TCS or REG page that is somewhere was added once, and no other page was added
added_once : (keeper : Keeper) (past : List Entry) (g : Page) → IsSound past → CountsSlots keeper past → is_absent (place past g) ≡ false
    → times (pages_added past) g ≡ (if is_own_page g then 1 else 0)
added_once keeper past g s c there = by_own (is_own_page g) refl
  where
    none : is_own_page g ≡ false → (b : Bool) → is_some (added past g) ≡ b → b ≡ false
    none other false is = refl
    none other true is = absurd (false≢true (sym other ∙ s.added g is))

    by_own : (b : Bool) → is_own_page g ≡ b → times (pages_added past) g ≡ (if b then 1 else 0)
    by_own true own = c.once g ∙ ap (λ b. if b then 1 else 0) (own_added past g s own there)
    by_own false other = c.once g ∙ ap (λ b. if b then 1 else 0) (none other (is_some (added past g)) refl)

-- an entry that leaves the pages' slots, and as many slots out
counts_kept : (old new : Keeper) (past : List Entry) (e : Entry) → ((g : Page) → added (e ∷ past) g ≡ added past g)
    → pages_added (e ∷ past) ≡ pages_added past → occupied (e ∷ past) ≡ occupied past → SameSlots past e → count_out new ≡ count_out old
    → CountsSlots old past → CountsSlots new (e ∷ past)
counts_kept old new past e same pages tries slots out c = record {
  once = λ g. ap (λ gs. times gs g) pages ∙ c.once g ∙ ap (λ o. if is_some o then 1 else 0) (sym (same g));
  out = omega (arith, out, c.out, tries, now, ap (count_by (has_slot (e ∷ past))) pages);
}
  where
    now : count_by (has_slot (e ∷ past)) (pages_added past) ≡ count_by (has_slot past) (pages_added past)
    now = count_same (has_slot (e ∷ past)) (has_slot past) (pages_added past) (λ g. ap is_some (slots g))

-- ---- one entry more

pub first_counts : (pages : ℕ) → CountsSlots (new_keeper pages) []
first_counts pages = record { once = λ g. refl; out = refl }

counts_add : (old new : Keeper) (past : List Entry) (a : Actor) (e n : ℕ) (f : Frame) (kind : Kind) (perm : Perm) (init : PageInit)
    (answer : Answer) → CanMove past (Did (Add e n f kind perm init) answer) → IsSound past → count_out new ≡ count_out old
    → CountsSlots old past → CountsSlots new (entry_of a (Did (Add e n f kind perm init) answer) ∷ past)
counts_add old new past a e n f kind perm init answer can s out c = record {
  once = λ g. by_page g (same_page page g) refl;
  out = omega (
    arith,
    out,
    c.out,
    count_same (has_slot (entry ∷ past)) (has_slot past) (pages_added past) (λ g. ap is_some (slots g)),
    count_behind (has_slot (entry ∷ past)) page (pages_added past) none,
  );
}
  where
    page : Page
    page = page_at e n

    entry : Entry
    entry = entry_of a (Did (Add e n f kind perm init) answer)

    slots : SameSlots past entry
    slots = same_add past a e n f kind perm init answer can

    none : has_slot (entry ∷ past) page ≡ false
    none = ap is_some (slots page ∙ ap (slot_at (open_start past)) can.1)

    absent : (g : Page) → place past g ≡ Absent → (b : Bool) → is_some (added past g) ≡ b → b ≡ false
    absent g at false is = refl
    absent g at true is = absurd (false≢true (sym (ap (λ p. not (is_absent p)) at) ∙ sym (s.made g) ∙ own_there past g (s.added g is) ∙ is))

    new_page : (g : Page) → same_page page g ≡ true → times (pages_added past) g ≡ 0
    new_page g same =
        let at : place past g ≡ Absent = ap (place past) (sym (same_pages page g same)) ∙ can.1 in
        c.once g ∙ ap (λ b. if b then 1 else 0) (absent g at (is_some (added past g)) refl)

    by_page : (g : Page) (b : Bool) → same_page page g ≡ b
        → (if b then 1 else 0) + times (pages_added past) g ≡ (if is_some (if b then Some (kind, perm) else added past g) then 1 else 0)
    by_page g true same = rw (new_page g same) refl
    by_page g false same = let plain : 0 + times (pages_added past) g ≡ times (pages_added past) g = omega arith in plain ∙ c.once g

abbrev one : Bool → ℕ
one b = if b then 1 else 0

-- what stands in a frame is a TCS or REG page where the page is one
own_stands : (c : Content) (g : Page) → stands c g ≡ true → is_own_there c ≡ is_own_page g
own_stands Free g h = absurd (false≢true h)
own_stands (IsVa number) g h = ap is_own_page (same_pages _ g h)
own_stands (SecsOf enclave) g h = ap is_own_page (same_pages _ g h)
own_stands (Holds page kind perm) g h = ap is_own_page (same_pages page g h)
own_stands (IsLoading page) g h = absurd (false≢true h)

counts_started : (old new : Keeper) (past : List Entry) (a : Actor) (f : Frame) (to : SlotAt) (answer : Answer)
    → CanMove past (Did (EwbStart f to) answer) → open_start past f.0 ≡ None → IsSound past
    → count_out new ≡ count_out old + (if is_own_there (content past f.0) then 1 else 0)
    → CountsSlots old past → CountsSlots new (entry_of a (Did (EwbStart f to) answer) ∷ past)
counts_started old new past a f to answer can none s out c = record { once = c.once; out = omega (arith, out, c.out, own, more, once) }
  where
    page : Page
    page = can.0.0

    at : place past page ≡ Leaving f.0
    at = can.0.1

    entry : Entry
    entry = entry_of a (Did (EwbStart f to) answer)

    before : has_slot past page ≡ false
    before = ap is_some (ap (slot_at (open_start past)) at ∙ ap starts_slot none)

    now : has_slot (entry ∷ past) page ≡ true
    now = ap is_some (slot_started past a f to can.1 answer page can.2 at)

    others : (g : Page) → same_page page g ≡ false → has_slot (entry ∷ past) g ≡ has_slot past g
    others g other = ap is_some (slot_started_other past a f to answer page g s at other)

    more : count_by (has_slot (entry ∷ past)) (pages_added past)
        ≡ count_by (has_slot past) (pages_added past) + times (pages_added past) page
    more = count_more (has_slot (entry ∷ past)) (has_slot past) page (pages_added past) before now others

    own : one (is_own_there (content past f.0)) ≡ one (is_own_page page)
    own =
        ap one
        (own_stands (content past f.0) page (holds_here past page (Leaving f.0) f.0 s at (eq-eqb f.0 f.0 refl)))

    once : times (pages_added past) page ≡ (if is_own_page page then 1 else 0)
    once = added_once old past page s c (ap is_absent at)

counts_back : (old new : Keeper) (past : List Entry) (a : Actor) (f : Frame) (page : Page) (version : ℕ) (tag : List ℕ)
    → CanMove past (Did (Eld f) (Moved page version tag)) → IsSound past
    → count_out new + (if is_own_page page then 1 else 0) ≡ count_out old
    → CountsSlots old past → CountsSlots new (entry_of a (Did (Eld f) (Moved page version tag)) ∷ past)
counts_back old new past a f page version tag can s out c = record { once = c.once; out = omega (arith, out, c.out, more, once) }
  where
    at : place past page ≡ Loading f.0 can.0
    at = can.1

    entry : Entry
    entry = entry_of a (Did (Eld f) (Moved page version tag))

    before : has_slot past page ≡ true
    before = ap is_some (ap (slot_at (open_start past)) at)

    now : has_slot (entry ∷ past) page ≡ false
    now = ap is_some (slot_back past a f page version tag)

    others : (g : Page) → same_page page g ≡ false → has_slot past g ≡ has_slot (entry ∷ past) g
    others g other = ap is_some (sym (slot_back_other past a f page g version tag can.0 s at other))

    more : count_by (has_slot past) (pages_added past)
        ≡ count_by (has_slot (entry ∷ past)) (pages_added past) + times (pages_added past) page
    more = count_more (has_slot past) (has_slot (entry ∷ past)) page (pages_added past) now before others

    once : times (pages_added past) page ≡ (if is_own_page page then 1 else 0)
    once = added_once old past page s c (ap is_absent at)

pub stays_counted : (old new : Keeper) (past : List Entry) (e : Entry) → IsSound past → CanMove past e.event → StartTells past e.event
    → CountMoves past e.event (count_out old) (count_out new) → CountsSlots old past → CountsSlots new (e ∷ past)
stays_counted old new past e s can told moves c = by_event e.event can told moves
  where
    by_event : (ev : Event) → CanMove past ev → StartTells past ev → CountMoves past ev (count_out old) (count_out new)
        → CountsSlots new (entry_of e.actor ev ∷ past)
    by_event (Did (Epa f) answer) k t m =
        counts_kept old new past (entry_of e.actor (Did (Epa f) answer)) (λ g. refl) refl refl (same_epa past e.actor f answer k) m c
    by_event (Did (Create n f base size) answer) k t m =
        counts_kept old new past (entry_of e.actor (Did (Create n f base size) answer)) (λ g. refl) refl refl
        (same_create past e.actor n f base size answer k) m c
    by_event (Did (Add n number f kind perm init) answer) k t m = counts_add old new past e.actor n number f kind perm init answer k s m c
    by_event (Did (EwbStart f to) answer) k t m = counts_started old new past e.actor f to answer k t.0 s m c
    by_event (Did (Eld f) (Moved page version tag)) k t m = counts_back old new past e.actor f page version tag k s m c
    by_event (Did (Ewb f) (Moved page version tag)) k t m =
        counts_kept old new past (entry_of e.actor (Did (Ewb f) (Moved page version tag))) (λ g. refl) refl refl
        (same_ewb past e.actor f page version tag k s) m c
    by_event (Did (EldStart f page to) answer) k t m =
        counts_kept old new past (entry_of e.actor (Did (EldStart f page to) answer)) (λ g. refl) refl refl
        (same_eldstart past e.actor f page to answer k s) m c
    by_event (Refused (Eld f) refusal) k t m =
        counts_kept old new past (entry_of e.actor (Refused (Eld f) refusal)) (λ g. refl) refl refl
        (same_refused past e.actor f refusal k s) m c
    by_event (Refused (EwbStart f to) (why.SlotOccupied version)) k t m = record { once = c.once; out = omega (arith, m, c.out) }
    by_event (Age page look) k t m =
        counts_kept old new past (entry_of e.actor (Age page look)) (λ g. refl) refl refl (same_age past e.actor page look s) m c
    by_event (Did (Ewb f) answer) k t m = absurd k
    by_event (Did (Eld f) answer) k t m = absurd k
    by_event _ k t m = record { once = c.once; out = m ∙ c.out }
