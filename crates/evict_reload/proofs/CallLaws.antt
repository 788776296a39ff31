-- After each call that may move a page, done or refused, the frames that hold version array pages are those at which the
-- table has one, where they were before.
use Rattle.std.proofs.Common.{◌≡◌, ℕ, ◌<◌, ◌||◌, ◌==◌, ◌≢◌, is_some, Bool, true, false, not, cond, List, Option, Some, None}
use Rattle.std.proofs.Common.{Result, Ok, Err}
use Rattle.std.proofs.Common.{OnOk, OnErr, IfSome, length, refl, sym, ap, ◌∙◌, arith}
use Rattle.std.proofs.lemmas.Bool.{cond_both, ne_eqb, eqb-true, false≢true, leb-false, ltb-false, not-false}
use Rattle.sgx_types.specs.Pages.{is_va_page}
use Rattle.sgx_rules.specs.Frames.{Content, Free, IsLoading}
use Rattle.sgx_types.specs.declared.names.Kind.{Kind}
use Rattle.sgx_types.specs.declared.names.Kind.TheVariants as kinds
use Rattle.sgx_types.specs.declared.names.Page.{Page}
use Rattle.sgx_types.specs.declared.names.Perm.{Perm}
use Rattle.sgx_types.specs.declared.names.SlotAt.{SlotAt}
use Rattle.sgx_rules.specs.declared.refusals.Refusal.{Refusal}
use Rattle.sgx_rules.specs.declared.refusals.Refusal.TheVariants as why
use Rattle.sgx_types.specs.Cases.{first_of_row}
use Rattle.sgx_rules.specs.Table.{DrainSight, LoadSight, UseSight, is_va, is_valid, is_out_of_range}
use Rattle.sgx_rules.specs.inner.Table.{refusal_in}
use Rattle.sgx_rules.specs.Table.{ewbstart_row, eldstart_row}
use Rattle.epcm_entry.specs.declared.entry_view.EntryView.TheVariants as views
use Rattle.epcm_entry.specs.inner.EntryView.{outgoing}
use Rattle.epcm_entry.specs.inner.Epc.{EpcFrame, entry_at, with_sealing, with_loading, cleared}
use Rattle.epcm_entry.specs.inner.Sights.{content_of, held_in, sight_in}
use Rattle.version_array.specs.declared.va_page.SlotState.{SlotState}
use Rattle.version_array.specs.inner.Slots.{IsSlot, filled_page, has_page, is_busy_at, page_at, with_busy, with_version}
use Rattle.version_array.specs.inner.Slots.{without_page}
use Rattle.version_array.specs.inner.Versions.{is_spent_at}
use Rattle.version_array.proofs.TableLaws.{page_at-filled, page_at-without, slot_kept}
use Rattle.sgx_rules.proofs.Contents.{invalid_no_va}
use Rattle.sgx_types.proofs.Truths.{neither}
use Rattle.evict_reload.specs.inner.Sights.{AreVaPages, is_array, slot_sight}
use Rattle.evict_reload.specs.inner.Effects.{emptied, refilled, with_ended, with_in, with_kind, with_out, with_plain}
use Rattle.evict_reload.proofs.SlotLaws.{is_slot}
use Rattle.evict_reload.proofs.CountLaws.{held-cleared, held-kind}
use Rattle.evict_reload.proofs.PageLaws.{pages-with_entry, pages-with_slot, pages-cleared, is_va-outgoing}

-- where no case of a row holds, the first does not
first_fails : (b : Bool) (r : Refusal) (rest : Option Refusal) → cond b (Some r) rest ≡ None → (b ≡ false) × (rest ≡ None)
first_fails true r rest e = cc
first_fails false r rest e = (refl, e)

-- a frame and a slot that are not past their end
record InRange (epc : List EpcFrame) (f : ℕ) (slot : SlotAt) : Type 0 where
  pub frame : f < length epc
  pub index : slot.index < 512

in_range : (epc : List EpcFrame) (va : List (Option (List SlotState))) (f : ℕ) (slot : SlotAt)
    → is_out_of_range (sight_in epc f) (slot_sight epc va slot) ≡ false → InRange epc f slot
in_range epc va f slot e =
    let parts = neither ((sight_in epc f).is_beyond || (sight_in epc slot.frame.0).is_beyond) (slot_sight epc va slot).is_beyond e in
    let frames = neither (sight_in epc f).is_beyond (sight_in epc slot.frame.0).is_beyond parts.0 in
    let low : f < length epc = leb-false (length epc) f frames.0 in
    let below : slot.index < 512 = omega (arith, ltb-false 511 slot.index parts.1) in
    record { frame = low; index = below }

-- the start of ELDU
pub after_start_in : (epc epc' : List EpcFrame) (va va' : List (Option (List SlotState))) (f : ℕ) (page : Page) (slot : SlotAt)
    (load : LoadSight)
    (result : Result ℕ Refusal) → AreVaPages epc va
    → refusal_in result ≡ first_of_row (eldstart_row (sight_in epc f) load (slot_sight epc va slot))
    → OnOk result (epc' ≡ with_loading epc f page) → OnOk result (va' ≡ with_busy va slot true) → OnErr result ((epc' ≡ epc) × (va' ≡ va))
    → AreVaPages epc' va'
after_start_in epc epc' va va' f page slot load (Err refusal) pages row loads marks same = rw (same.0, same.1) pages
after_start_in epc epc' va va' f page slot load (Ok version) pages row loads marks same =
    let a = first_fails (is_out_of_range (sight_in epc f) (slot_sight epc va slot)) why.BadRange _ (sym row) in
    let known = first_fails (not load.is_known) why.Absent _ a.1 in
    let away = first_fails load.secs.is_away why.Absent _ known.1 in
    let b = first_fails load.secs.is_sealing why.Conflict _ away.1 in
    let c = first_fails _ why.Conflict _ b.1 in
    let d = first_fails (is_valid (sight_in epc f).content) why.FrameBusy _ c.1 in
    let e = first_fails (not (is_va (sight_in epc slot.frame.0).content)) why.BadKind _ d.1 in
    let range = in_range epc va f slot a.0 in
    let at : IsSlot va slot = is_slot epc va slot pages (not-false (is_va (sight_in epc slot.frame.0).content) e.0) range.index in
    rw (loads, marks) (pages-with_slot (with_loading epc f page) va slot _
    (pages-with_entry epc va f (views.Loading page) pages range.frame (sym (invalid_no_va (sight_in epc f).content d.0))) at)

-- the start of EWB
pub after_start_out : (epc epc' : List EpcFrame) (va va' : List (Option (List SlotState))) (f : ℕ) (slot : SlotAt) (uses : UseSight)
    (drain : DrainSight)
    (next next' : ℕ) (result : Result ℕ Refusal) → AreVaPages epc va
    → refusal_in result ≡ first_of_row (ewbstart_row (sight_in epc f) uses (slot_sight epc va slot) drain (is_spent_at next))
    → OnOk result (epc' ≡ with_sealing epc f) → OnOk result (va' ≡ with_busy va slot true)
    → OnErr result ((epc' ≡ epc) × (va' ≡ va) × (next' ≡ next)) → AreVaPages epc' va'
after_start_out epc epc' va va' f slot uses drain next next' (Err refusal) pages row seals marks same = rw (same.0, same.1) pages
after_start_out epc epc' va va' f slot uses drain next next' (Ok version) pages row seals marks same =
    let a = first_fails (is_out_of_range (sight_in epc f) (slot_sight epc va slot)) why.BadRange _ (sym row) in
    let b = first_fails _ why.Conflict _ a.1 in
    let c = first_fails _ why.PgInvld _ b.1 in
    let d = first_fails _ why.BadKind _ c.1 in
    let e = neither (not (is_va (sight_in epc slot.frame.0).content)) uses.is_its_own d.0 in
    let range = in_range epc va f slot a.0 in
    let at : IsSlot va slot = is_slot epc va slot pages (not-false (is_va (sight_in epc slot.frame.0).content) e.0) range.index in
    rw (seals, marks) (pages-with_slot (with_sealing epc f) va slot _
    (pages-with_entry epc va f (outgoing (entry_at epc f)) pages range.frame (is_va-outgoing (entry_at epc f))) at)

-- a slot whose start has ended
ended : (epc : List EpcFrame) (va : List (Option (List SlotState))) (slot : SlotAt) (version : ℕ) → AreVaPages epc va → IsSlot va slot
    → AreVaPages epc (with_ended va slot version)
ended epc va slot version pages at =
    pages-with_slot epc (with_version va slot version) slot _
    (pages-with_slot epc va slot (record { version = version; busy = is_busy_at va slot }) pages at)
    (slot_kept va slot slot (record { version = version; busy = is_busy_at va slot }) at at)

-- one frame comes to hold something else, and the table has a page there where that is one
pages_put : (epc after : List EpcFrame) (va after_va : List (Option (List SlotState))) (f : ℕ) (c : Content) → AreVaPages epc va
    → ((n : ℕ) → held_in after n ≡ cond (f == n) c (held_in epc n))
    → ((n : ℕ) → has_page after_va n ≡ cond (f == n) (is_va c) (has_page va n)) → AreVaPages after after_va
pages_put epc after va after_va f c pages put table n =
    table n ∙ ap (cond (f == n) (is_va c)) (pages n) ∙ sym (ap is_va (put n) ∙ moved (f == n) (held_in epc n))
  where
    moved : (b : Bool) (v : Content) → is_va (cond b c v) ≡ cond b (is_va c) (is_va v)
    moved true v = refl
    moved false v = refl

-- a table that has no page at a frame, and none once it is taken out
none_at : (va : List (Option (List SlotState))) (f : ℕ) → has_page va f ≡ false → (n : ℕ)
    → has_page va n ≡ cond (f == n) false (has_page va n)
none_at va f none n =
    sym (cond_both (f == n) false (has_page va n) (λ v. v ≡ has_page va n)
    (λ here. sym none ∙ ap (has_page va) (eqb-true f n here)) (λ _. refl))

some_moved : (b : Bool) (o v : Option (List SlotState)) → is_some (cond b o v) ≡ cond b (is_some o) (is_some v)
some_moved true o v = refl
some_moved false o v = refl

-- another frame's slot is one still
slot_beside : (va after_va : List (Option (List SlotState))) (f : ℕ) (b : Bool) (slot : SlotAt) → IsSlot va slot → f ≢ slot.frame.0
    → ((n : ℕ) → has_page after_va n ≡ cond (f == n) b (has_page va n)) → IsSlot after_va slot
slot_beside va after_va f b slot at apart table = record {
  paged = table slot.frame.0 ∙ ap (λ t. cond t b (has_page va slot.frame.0)) (ne_eqb f slot.frame.0 apart) ∙ at.paged;
  within = at.within;
}

-- the table with the page that came into a Loading frame
table_in : (va : List (Option (List SlotState))) (f : ℕ) (plain : List ℕ) (array : Bool) → (array ≡ true → f < length va)
    → has_page va f ≡ false → (n : ℕ)
    → has_page (refilled array va f plain) n ≡ cond (f == n) array (has_page va n)
table_in va f plain true few none n =
    ap is_some (page_at-filled va f n plain (few refl)) ∙ some_moved (f == n) (Some (filled_page plain)) (page_at va n)
table_in va f plain false few none n = none_at va f none n

is_array_content : (page : Page) (kind : Kind) (perm : Perm) → is_va (content_of page kind perm) ≡ is_array kind
is_array_content page kinds.Secs perm = refl
is_array_content page kinds.Va perm = refl
is_array_content page kinds.Tcs perm = refl
is_array_content page kinds.Reg perm = refl

-- the commit of ELDU
pub after_commit_in : (epc epc' : List EpcFrame) (va va' : List (Option (List SlotState))) (f : ℕ) (slot : SlotAt) (page : Page)
    (kind : Option (Kind × Perm)) (plain : List ℕ) (result : Result (Unit {0}) Refusal)
    → OnOk result (epc' ≡ with_plain epc f page kind plain) → OnOk result (va' ≡ with_in va f page plain slot)
    → OnErr result ((epc' ≡ cleared epc f) × (va' ≡ with_busy va slot false))
    → AreVaPages epc va → IsSlot va slot → f < length epc → (is_va_page page ≡ true → f < length va) → held_in epc f ≡ IsLoading page
    → is_some kind ≡ true
    → IfSome kind (λ x. is_va_page page ≡ is_array x.0) → AreVaPages epc' va'
after_commit_in epc epc' va va' f slot page kind plain (Err refusal) loads ends same pages at low few waits known array =
    rw (same.0, same.1) (pages-with_slot (cleared epc f) va slot _
    (pages-cleared epc va f pages low (ap is_va waits)) at)
after_commit_in epc epc' va va' f slot page None plain (Ok done) loads ends same pages at low few waits known array = cc known
after_commit_in epc epc' va va' f slot page (Some x) plain (Ok done) loads ends same pages at low few waits known array =
    rw (loads, ends) (ended (with_kind epc f page x.0 x.1 plain) (refilled (is_va_page page) va f plain) slot 0
    (pages_put epc (with_kind epc f page x.0 x.1 plain) va (refilled (is_va_page page) va f plain) f (content_of page x.0 x.1) pages
    (held-kind epc f page x.0 x.1 plain low)
    (λ n. table n ∙ ap (λ b. cond (f == n) b (has_page va n)) (array ∙ sym (is_array_content page x.0 x.1))))
    (slot_beside va (refilled (is_va_page page) va f plain) f (is_va_page page) slot at apart table))
  where
    vacant : has_page va f ≡ false
    vacant = pages f ∙ ap is_va waits

    table : (n : ℕ) → has_page (refilled (is_va_page page) va f plain) n ≡ cond (f == n) (is_va_page page) (has_page va n)
    table = table_in va f plain (is_va_page page) few vacant

    apart : f ≢ slot.frame.0
    apart same = false≢true (sym vacant ∙ ap (has_page va) same ∙ at.paged)

-- the commit of EWB
pub after_commit_out : (epc : List EpcFrame) (va : List (Option (List SlotState))) (f : ℕ) (slot : SlotAt) (version : ℕ) → AreVaPages epc va
    → IsSlot va slot → f < length epc → f ≢ slot.frame.0 → AreVaPages (cleared epc f) (with_out epc va f slot version)
after_commit_out epc va f slot version pages at low apart = by_kind (is_va (held_in epc f)) refl
  where
    by_kind : (b : Bool) → is_va (held_in epc f) ≡ b → AreVaPages (cleared epc f) (with_ended (emptied b va f) slot version)
    by_kind false other = ended (cleared epc f) va slot version (pages-cleared epc va f pages low other) at
    by_kind true array =
        ended (cleared epc f) (without_page va f) slot version
        (pages_put epc (cleared epc f) va (without_page va f) f Free pages (held-cleared epc f low) table)
        (slot_beside va (without_page va f) f false slot at apart table)
      where
        table : (n : ℕ) → has_page (without_page va f) n ≡ cond (f == n) false (has_page va n)
        table n = ap is_some (page_at-without va f n (pages f ∙ array)) ∙ some_moved (f == n) None (page_at va n)
