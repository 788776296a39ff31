-- The frames that hold version array pages go on to be those at which the table has one.
use Rattle.std.proofs.Common.{◌≡◌, ℕ, ◌<◌, ◌==◌, ◌||◌, Bool, true, false, cond, List, [], Option, length, replicate}
use Rattle.std.proofs.Common.{refl, sym, ap, ◌∙◌, ⊎_elim}
use Rattle.std.specs.Prelude.{slice_index_or}
use Rattle.std.proofs.lemmas.Bool.{cases_lt, cond_both, eqb-true}
use Rattle.std.proofs.lemmas.List.{get_or-replicate, get_or_past, length-replicate}
use Rattle.sgx_types.specs.declared.names.TheConstants.{MOST_FRAMES}
use Rattle.sgx_types.specs.declared.names.Page.{Page}
use Rattle.sgx_types.specs.declared.names.Perm.{Perm}
use Rattle.sgx_types.specs.declared.names.Kind.TheVariants as kinds
use Rattle.sgx_types.specs.declared.names.SlotAt.{SlotAt}
use Rattle.sgx_rules.specs.Table.{is_va}
use Rattle.epcm_entry.specs.declared.entry_view.EntryView.{EntryView}
use Rattle.epcm_entry.specs.declared.entry_view.EntryView.TheVariants as views
use Rattle.epcm_entry.specs.inner.EntryView.{holding, with_block, outgoing}
use Rattle.epcm_entry.specs.inner.Epc.{EpcFrame, entry_at, with_entry, with_page, with_words, cleared, free_frame, free_frames}
use Rattle.epcm_entry.specs.inner.Sights.{held, sight_in}
use Rattle.epcm_entry.proofs.Columns.{entry_at-with_entry, entry_at-with_words, entry_at-cleared}
use Rattle.version_array.specs.declared.va_page.SlotState.{SlotState}
use Rattle.version_array.specs.inner.Slots.{IsSlot, with_slot}
use Rattle.version_array.specs.inner.Slots.{with_page as with_va_page}
use Rattle.version_array.proofs.TableLaws.{has_page-with_slot, has_page-with_page}
use Rattle.evict_reload.specs.inner.Sights.{AreVaPages}

-- the entry of one frame changes, and says as before whether the frame holds a version array page
moved : (epc : List EpcFrame) (f n : ℕ) (entry : EntryView) → is_va (held entry) ≡ is_va (held (entry_at epc f))
    → is_va (held (entry_at epc n)) ≡ is_va (held (cond (f == n) entry (entry_at epc n)))
moved epc f n entry same =
    sym (cond_both (f == n) entry (entry_at epc n) (λ v. is_va (held v) ≡ is_va (held (entry_at epc n)))
    (λ e. same ∙ ap (λ k. is_va (held (entry_at epc k))) (eqb-true f n e)) (λ _. refl))

pub pages-with_entry : (epc : List EpcFrame) (va : List (Option (List SlotState))) (f : ℕ) (entry : EntryView) → AreVaPages epc va
    → f < length epc → is_va (held entry) ≡ is_va (held (entry_at epc f)) → AreVaPages (with_entry epc f entry) va
pages-with_entry epc va f entry pages low same n =
    pages n ∙ moved epc f n entry same ∙ sym (ap (λ e. is_va (held e)) (entry_at-with_entry epc f n entry low))

pub pages-cleared : (epc : List EpcFrame) (va : List (Option (List SlotState))) (f : ℕ) → AreVaPages epc va → f < length epc
    → is_va (sight_in epc f).content ≡ false → AreVaPages (cleared epc f) va
pages-cleared epc va f pages low other n =
    pages n ∙ moved epc f n views.Free (sym other) ∙ sym (ap (λ e. is_va (held e)) (entry_at-cleared epc f n low))

pub pages-with_words : (epc : List EpcFrame) (va : List (Option (List SlotState))) (f : ℕ) (words : List ℕ) → AreVaPages epc va
    → AreVaPages (with_words epc f words) va
pages-with_words epc va f words pages n = pages n ∙ sym (ap (λ e. is_va (held e)) (entry_at-with_words epc f n words))

pub pages-with_slot : (epc : List EpcFrame) (va : List (Option (List SlotState))) (slot : SlotAt) (content : SlotState) → AreVaPages epc va
    → IsSlot va slot → AreVaPages epc (with_slot va slot content)
pages-with_slot epc va slot content pages at n = has_page-with_slot va slot content n at.paged ∙ pages n

-- a block and a claim change no page
pub is_va-with_block : (entry : EntryView) (epoch : ℕ) → is_va (held (with_block entry epoch)) ≡ is_va (held entry)
is_va-with_block views.Free epoch = refl
is_va-with_block (views.Loading page) epoch = refl
is_va-with_block (views.Valid page kind perm blocked sealing) epoch = refl

pub is_va-outgoing : (entry : EntryView) → is_va (held (outgoing entry)) ≡ is_va (held entry)
is_va-outgoing views.Free = refl
is_va-outgoing (views.Loading page) = refl
is_va-outgoing (views.Valid page kind perm blocked sealing) = refl

-- a version array page more
pub pages-with_va : (epc : List EpcFrame) (va : List (Option (List SlotState))) (f : ℕ) (page : Page) (perm : Perm) → AreVaPages epc va
    → f < length epc → f < MOST_FRAMES → AreVaPages (with_page epc f page kinds.Va perm) (with_va_page va f)
pages-with_va epc va f page perm pages low few n =
    has_page-with_page va f n few ∙ ap (λ b. (f == n) || b) (pages n) ∙ either (f == n) (entry_at epc n)
    ∙ sym (ap (λ e. is_va (held e)) (entry_at-with_entry epc f n (holding page kinds.Va perm) low))
  where
    either : (b : Bool) (entry : EntryView) → (b || is_va (held entry)) ≡ is_va (held (cond b (holding page kinds.Va perm) entry))
    either true entry = refl
    either false entry = refl

-- none at the start
pub pages-none : (frames : ℕ) → AreVaPages (free_frames frames) []
pages-none frames n = sym (ap (λ (x : EpcFrame). is_va (held x.entry)) (nothing n))
  where
    nothing : (n : ℕ) → let frame : EpcFrame = free_frame in slice_index_or (replicate frames frame) n frame ≡ frame
    nothing n =
        ⊎_elim
        (λ (low : n < frames). get_or-replicate frames n free_frame free_frame low)
        (λ past. get_or_past (replicate frames free_frame) n free_frame (rw length-replicate past))
        (cases_lt n frames)
