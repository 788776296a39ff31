-- The records that steps and commits make, and the bytes of the pages that are outside then.
use Rattle.std.proofs.Common.{◌≡◌, ℕ, ◌==◌, ◌&&◌, not, length, inl, inr, Bool, true, false, cond, refl, sym}
use Rattle.std.proofs.Common.{ap, subst, ◌∙◌, Option, Some, None, option_map, MatchOption, List, [], ◌∷◌, ◌++◌}
use Rattle.std.specs.List.{Any}
use Rattle.std.proofs.lemmas.Bool.{false≢true}
use Rattle.std.proofs.lemmas.List.Quantifiers.{Any-push}
use Rattle.std.proofs.lemmas.Option.{same_Some}
use Rattle.sgx_rules.specs.declared.entries.Entry.{Entry}
use Rattle.sgx_types.specs.declared.names.Actor.{Actor}
use Rattle.sgx_rules.specs.declared.entries.Action.{Action}
use Rattle.sgx_rules.specs.declared.entries.Action.TheVariants.{Ewb, Eld}
use Rattle.sgx_rules.specs.declared.entries.Answer.TheVariants as answers
use Rattle.sgx_types.specs.declared.names.Frame.{Frame}
use Rattle.sgx_types.specs.declared.names.Page.{Page}
use Rattle.sgx_types.specs.declared.names.VaSlot.{VaSlot}
use Rattle.sgx_rules.specs.declared.refusals.Refusal.{Refusal}
use Rattle.sgx_types.specs.declared.names.TheConstants.{SECS_NUMBER}
use Rattle.sgx_types.specs.Pages.{is_own_page, is_va_page, same_page, secs_page, va_page}
use Rattle.sgx_rules.specs.Frames.{Content, Free, Holds, IsLoading, IsVa, SecsOf, page_there, reloaded}
use Rattle.sgx_rules.specs.PageBytes.{bytes_at, digest_of, header_at, va_header, va_words}
use Rattle.sgx_rules.specs.Slots.{version_in}
use Rattle.sgx_types.specs.Cases.{first_of_row}
use Rattle.sgx_rules.specs.Flat.{FlatEnclave, flat, flat_page_words, words_of}
use Rattle.sgx_types.specs.Sealed.{Sealed}
use Rattle.sgx_rules.specs.Starts.{Start, open_start}
use Rattle.sgx_rules.specs.inner.Enclaves.{created}
use Rattle.sgx_types.proofs.Pages.{same_page-refl, same_pages}
use Rattle.sgx_types.specs.Making.{Making}
use Rattle.sgx_types.specs.Layouts.{bytes_of}
use Rattle.sgx_types.proofs.Lists.{Any-front, map_below}
use Rattle.measure_log.specs.Rule.{log}
use Rattle.seal_record.specs.Cipher.{cipher, sealed}
use Rattle.seal_record.specs.Records.{Made}
use Rattle.epcm_entry.specs.inner.Words.{words_of as words_in}
use Rattle.machine_copies.specs.inner.Away.{BytesRest}
use Rattle.machine_copies.specs.inner.Copies.{InSlot, copy, in_slot}
use Rattle.machine_copies.specs.inner.Once.{IsMade}
use Rattle.seal_record.specs.Sealing.{SealedRule, made_with, record_at}
use Rattle.seal_record.specs.inner.Sealing.{made_by, more_made}
use Rattle.machine_laws.specs.inner.Columns.{HasAllVersions, slot_of}
use Rattle.machine_laws.specs.inner.Guarded.{IsGuarded, IsNamedRight}
use Rattle.machine_laws.specs.inner.Histories.{BringsBytes, GivesArray, HasBytes, OutsideBytes, given_out}
use Rattle.machine_laws.specs.inner.Shape.{ShapeWithRules}
use Rattle.machine_laws.specs.inner.Stands.{IsMeasuring, StandsWithRules}
use Rattle.machine_laws.specs.inner.State.{State, after_eld, after_failed_eld, making_of, place_at}
use Rattle.machine_laws.specs.inner.Steps.{CanApply, HasBytesOf, IsDigest, IsLeaving, IsReloaded, IsStep, IsWrittenOut, commit_row, did_by}
use Rattle.machine_laws.specs.inner.Steps.{header_in, refused_by, slots_in}
use Rattle.machine_laws.proofs.FitLaws.{own_names}
use Rattle.machine_laws.proofs.ColumnLaws.{enclave_flat, enclave_is, enclaves_are_flat}
use Rattle.machine_laws.proofs.DigestLaws.{digest_is, undigested}
use Rattle.machine_laws.proofs.MeasureLaws.{finished_as}
use Rattle.machine_laws.proofs.MoveEnds.{headers_agree}
use Rattle.machine_laws.proofs.SlotLaws.{started_as}
use Rattle.machine_laws.proofs.OutsideLaws.{KeepsOutside, array_rests, did_keeps, did_made, did_sealed, is_ewb, own_bytes, refused_keeps}
use Rattle.machine_laws.proofs.OutsideLaws.{keeps_as}
use Rattle.machine_laws.proofs.RowLaws.{step_entry, IsEntryOf}

-- ---- what a step makes

-- no `ewb` is among the instructions that can be applied
applies_no_ewb : (cpus : ℕ) (a : Actor) (action : Action) → CanApply cpus a action → is_ewb action ≡ false
applies_no_ewb cpus a (Ewb f) can = absurd can
applies_no_ewb cpus a action can = refl

-- a step makes no record
pub made_same : (key : List ℕ) (s t : State) (past : List Entry) (cpus : ℕ) (a : Actor) (action : Action) (e : Entry)
    → CanApply cpus a action → IsStep s a action e t → made_by key (e ∷ past) ≡ made_by key past
made_same key s t past cpus a action e can k = by_entry (step_entry s t a action e k)
  where
    by_entry : IsEntryOf a action e → made_by key (e ∷ past) ≡ made_by key past
    by_entry (inl (answer, is)) = subst (λ x. made_by key (x ∷ past) ≡ made_by key past) (sym is)
        (did_made key past a action answer (applies_no_ewb cpus a action can))
    by_entry (inr (r, is)) = subst (λ x. made_by key (x ∷ past) ≡ made_by key past) (sym is) refl

-- .. of which the rule Sealed has nothing to say
pub sealed_quiet : (key : List ℕ) (s t : State) (past : List Entry) (cpus : ℕ) (a : Actor) (action : Action) (e : Entry)
    → CanApply cpus a action → IsStep s a action e t → SealedRule key past e
sealed_quiet key s t past cpus a action e can k = by_entry (step_entry s t a action e k)
  where
    by_entry : IsEntryOf a action e → SealedRule key past e
    by_entry (inl (answer, is)) =
        subst (λ x. SealedRule key past x) (sym is) (did_sealed key past a action answer (applies_no_ewb cpus a action can))
    by_entry (inr (r, is)) = subst (λ x. SealedRule key past x) (sym is) tt

-- ---- the commit of a reload

-- the entry of a reload's commit is of an `eld`, done or refused
pub reloaded_entry : (s t : State) (a : Actor) (f : Frame) (rec : Sealed) (e : Entry) → IsReloaded s a f rec e t → IsEntryOf a (Eld f) e
reloaded_entry s t a f rec e back = by_row (first_of_row (commit_row s f.0 back.coming rec)) back.row
  where
    by_row : (o : Option Refusal)
        → MatchOption o
        ((e ≡ did_by a (Eld f) (answers.Moved back.coming.page back.coming.start.version rec.tag))
        × (t ≡ after_eld s f.0 back.coming.start (reloaded back.coming.page (s.added back.coming.page))
        (cipher s.key back.coming.start.version rec.cipher)))
        (λ r. (e ≡ refused_by a (Eld f) r) × (t ≡ after_failed_eld s f.0 back.coming.start))
        → IsEntryOf a (Eld f) e
    by_row None k = inl (answers.Moved back.coming.page back.coming.start.version rec.tag, k.0)
    by_row (Some r) k = inr (r, k.0)

-- a page that comes back is in a frame then, and the others stay
pub reloaded_keeps : (s t : State) (past : List Entry) (a : Actor) (f : Frame) (rec : Sealed) (e : Entry) → IsReloaded s a f rec e t
    → KeepsOutside past e
reloaded_keeps s t past a f rec e back = by_entry (reloaded_entry s t a f rec e back)
  where
    by_entry : IsEntryOf a (Eld f) e → KeepsOutside past e
    by_entry (inl (answer, is)) = keeps_as past e _ is (did_keeps past a (Eld f) answer refl (λ g slot v there. refl))
    by_entry (inr (r, is)) = keeps_as past e _ is (refused_keeps past a (Eld f) r)

-- a reload makes no record
pub made_same_eld : (key : List ℕ) (s t : State) (past : List Entry) (a : Actor) (f : Frame) (rec : Sealed) (e : Entry)
    → IsReloaded s a f rec e t → made_by key (e ∷ past) ≡ made_by key past
made_same_eld key s t past a f rec e back = (reloaded_keeps s t past a f rec e back).made key

-- .. and the rule Sealed has nothing to say of it
pub sealed_quiet_eld : (key : List ℕ) (s t : State) (past : List Entry) (a : Actor) (f : Frame) (rec : Sealed) (e : Entry)
    → IsReloaded s a f rec e t → SealedRule key past e
sealed_quiet_eld key s t past a f rec e back = by_entry (reloaded_entry s t a f rec e back)
  where
    by_entry : IsEntryOf a (Eld f) e → SealedRule key past e
    by_entry (inl (answer, is)) = subst (λ x. SealedRule key past x) (sym is) (did_sealed key past a (Eld f) answer refl)
    by_entry (inr (r, is)) = subst (λ x. SealedRule key past x) (sym is) tt

-- ---- the commit of a write-out

-- an enclave of which there is a digest by its measurement has it by the entries
digest_same : (s : State) (past : List Entry) (e : ℕ) (x : FlatEnclave) (digest : List ℕ) → StandsWithRules s past
    → s.enclaves e ≡ Some x → IsDigest x.is_init (s.measure e) digest → digest_of past e ≡ digest
digest_same s past e x digest h made is = by_state x.is_init refl is
  where
    created_is : created past e ≡ Some x
    created_is = sym (enclave_is h.stands.columns e) ∙ made

    by_state : (b : Bool) → x.is_init ≡ b → IsDigest b (s.measure e) digest → digest_of past e ≡ digest
    by_state false still is = undigested (making_of s) past e x h.rules.refusal created_is still ∙ sym is
    by_state true ready is =
        digest_is (making_of s) past h.rules.refusal h.measure e x created_is ready
        ∙ sym (finished_as (Some x) (s.measure e) digest (log past e) refl
        (subst (λ o. IsMeasuring o (s.measure e) (log past e)) made (h.stands.memory.measure e)) is)

-- the slots of the version array page in a frame are those that the entries say
slots_same : (s : State) (past : List Entry) (f number : ℕ) → s.content f ≡ IsVa number → HasAllVersions s past
    → va_words past number ≡ slots_in s f
slots_same s past f number held all =
    map_below (λ index. version_in past (slot_of number index)) (λ index. s.version_in (place_at f index)) 512
    (λ index low. sym (all f number held index low))

-- what is sealed of a page that leaves are its bytes by the entries
pub page_bytes : (s : State) (past : List Entry) (f : ℕ) (leaving : IsLeaving s f) → IsNamedRight (s.content f) → StandsWithRules s past
    → bytes_at past leaving.page ≡ leaving.bytes
page_bytes s past f leaving named h = by_content (s.content f) refl leaving.held leaving.kept
  where
    bytes : List ℕ
    bytes = leaving.bytes

    as_page : (g : Page) → g ≡ leaving.page → bytes_at past g ≡ bytes → bytes_at past leaving.page ≡ bytes
    as_page g same is = ap (bytes_at past) (sym same) ∙ is

    by_content : (c : Content) → s.content f ≡ c → page_there c ≡ Some leaving.page → HasBytesOf s f c bytes
        → bytes_at past leaving.page ≡ bytes
    by_content Free e there kept = cc there
    by_content (IsLoading page) e there kept = cc there
    by_content (IsVa number) e there kept =
        as_page (va_page number) (same_Some (va_page number) leaving.page there)
        (ap bytes_of (slots_same s past f number e h.stands.versions) ∙ sym kept.0)
    by_content (SecsOf enclave) e there kept =
        let name : (enclave == 0) ≡ false = rw e at named in
        let flat_is : (flat past).enclaves enclave ≡ Some kept.enclave = sym (enclave_flat h.stands enclave) ∙ kept.made in
        let digest = digest_same s past enclave kept.enclave kept.digest h kept.made kept.finished in
        as_page (secs_page enclave) (same_Some (secs_page enclave) leaving.page there)
        (rw (name, flat_is, digest) (sym kept.bytes))
    by_content (Holds page kind perm) e there kept =
        let own : is_own_page page ≡ true = rw e at named in
        as_page page (same_Some page leaving.page there)
        (own_bytes past page own
        ∙ ap (λ x. bytes_of (flat_page_words x)) (h.stands.memory.words f page kind perm e) ∙ sym kept.0)

-- the record that goes out is that of the page's bytes
pub recorded : (s : State) (made : Making) (past : List Entry) (f : ℕ) (leaving : IsLeaving s f) → IsGuarded s → StandsWithRules s past
    → ShapeWithRules made s past
    → record_at made.key leaving.start.version past leaving.page ≡ Some (sealed s.key leaving.start.version leaving.header leaving.bytes)
recorded s made past f leaving guarded h shaped =
    let keyed : made.key ≡ s.key = ap (λ (k : Making). k.key) (sym shaped.shape.making) in
    let headed : header_at past leaving.page ≡ Some leaving.header =
    sym (headers_agree s past h.stands.columns (enclaves_are_flat h.stands) leaving.page) ∙ leaving.headed in
    ap (λ o. option_map (λ header. sealed made.key leaving.start.version header (bytes_at past leaving.page)) o) headed
    ∙ (λ i. Some (sealed (keyed i) leaving.start.version leaving.header (page_bytes s past f leaving (guarded.kept.named f) h i)))

-- what a write-out gives
pub record GivesRecord (key : List ℕ) (past : List Entry) (e : Entry) (rec : Sealed) : Type 0 where
  pub made : made_by key (e ∷ past) ≡ made_by key past ++ given_out e.event rec
  pub sealed : SealedRule key past e
  pub outside : BytesRest past e → OutsideBytes key past → OutsideBytes key (e ∷ past)

-- a record that goes out of a frame is that of its page's bytes
record IsOfPage (key : List ℕ) (past : List Entry) (n : ℕ) (page : Page) (version : ℕ) (rec : Sealed) : Type 0 where
  start : Start
  opened : open_start past n ≡ Some start
  recorded_at : record_at key version past page ≡ Some rec
  has : rec.cipher ≡ cipher key version (bytes_at past page)
  size : length (bytes_at past page) ≡ 4096
  back : BringsBytes past page (bytes_at past page)

-- a write-out that gives the record of its page's bytes
gives : (key : List ℕ) (past : List Entry) (a : Actor) (f : Frame) (page : Page) (version : ℕ) (rec : Sealed)
    → IsOfPage key past f.0 page version rec
    → GivesRecord key past (did_by a (Ewb f) (answers.Moved page version rec.tag)) rec
gives key past a f page version rec k = record {
  made = more;
  sealed = record { rec = rec; made = k.recorded_at; told = refl };
  outside = λ rests outside g slot v there. by_page rests outside g slot v (same_page page g) refl there;
}
  where
    e : Entry
    e = did_by a (Ewb f) (answers.Moved page version rec.tag)

    new : Made
    new = made_with version rec

    more : made_by key (e ∷ past) ≡ made_by key past ++ new ∷ []
    more = ap (λ o. more_made version o (made_by key past)) k.recorded_at

    made_now : (one : Made) → Any (λ other. other ≡ one) (made_by key past ++ new ∷ []) → IsMade key (e ∷ past) one
    made_now one is = subst (λ all. Any (λ other. other ≡ one) all) (sym more) is

    -- no bytes of a page that is outside change
    same : BytesRest past e → (g : Page) (slot : VaSlot) (v : ℕ) → copy (e ∷ past) g ≡ Some (InSlot slot v)
        → bytes_at past g ≡ bytes_at (e ∷ past) g
    same rests g slot v there = by_kind (is_own_page g) refl
      where
        by_kind : (b : Bool) → is_own_page g ≡ b → bytes_at past g ≡ bytes_at (e ∷ past) g
        by_kind true own = own_bytes past g own ∙ sym (own_bytes (e ∷ past) g own)
        by_kind false other = sym (rests.bytes g slot v other there)

    -- .. so a record that has them has them still
    still : (one : Made) (g : Page) (v : ℕ) → bytes_at past g ≡ bytes_at (e ∷ past) g
        → (is_va_page g ≡ true → va_words (e ∷ past) g.number ≡ va_words past g.number) → IsMade key (e ∷ past) one → one.version ≡ v
        → one.cipher ≡ cipher key v (bytes_at past g) → length (bytes_at past g) ≡ 4096 → BringsBytes past g (bytes_at past g)
        → HasBytes key (e ∷ past) g v one
    still one g v alike slots made version has size back = record {
      made = made;
      version = version;
      cipher = has ∙ ap (cipher key v) alike;
      size = ap (λ (bytes : List ℕ). length bytes) (sym alike) ∙ size;
      back = record {
        array = λ va. ap words_in (sym alike) ∙ back.array va ∙ sym (slots va);
        own = λ own. ap words_in (sym alike) ∙ back.own own;
      };
    }

    by_page : BytesRest past e → OutsideBytes key past → (g : Page) (slot : VaSlot) (v : ℕ) (b : Bool) → same_page page g ≡ b
        → cond b (in_slot (open_start past f.0) version) (copy past g) ≡ Some (InSlot slot v)
        → (one : Made) × HasBytes key (e ∷ past) g v one
    by_page rests outside g slot v true here there =
        let slotted : Some (InSlot k.start.slot version) ≡ Some (InSlot slot v) = rw k.opened at there in
        let told : version ≡ v = cc slotted in
        let is_it : page ≡ g = same_pages page g here in
        let now : copy (e ∷ past) page ≡ Some (InSlot k.start.slot version) = rw (same_page-refl page, k.opened) refl in (
          new,
          rw (← told, ← is_it) (still new page version (same rests page k.start.slot version now)
              (array_rests past e rests page k.start.slot version now)
              (made_now new (Any-push (λ other. other ≡ new) (made_by key past) new refl)) refl k.has k.size k.back),
        )
    by_page rests outside g slot v false other there =
        let old = outside g slot v there in
        let has = old.1 in
        let now : copy (e ∷ past) g ≡ Some (InSlot slot v) = rw other there in (
          old.0,
          still old.0 g v (same rests g slot v now) (array_rests past e rests g slot v now)
              (made_now old.0 (Any-front (λ other. other ≡ old.0) (made_by key past) (new ∷ []) has.made)) has.version has.cipher
              has.size has.back,
        )

-- the commit of a write-out gives the record of the page's bytes
pub outside_written : (s t : State) (made : Making) (past : List Entry) (a : Actor) (f : Frame) (e : Entry) (rec : Sealed)
    → IsWrittenOut s a f e rec t → IsGuarded s → StandsWithRules s past → ShapeWithRules made s past
    → GivesRecord made.key past e rec
outside_written s t made past a f e rec out guarded h shaped =
    let leaving = out.leaving in
    let page = leaving.page in
    let v = leaving.start.version in
    let started = started_as s past shaped.shape.columns f.0 leaving.start leaving.opened in
    let keyed : s.key ≡ made.key = ap (λ (k : Making). k.key) shaped.shape.making in
    let bytes : bytes_at past page ≡ leaving.bytes = page_bytes s past f.0 leaving (guarded.kept.named f.0) h in
    subst (λ x. GivesRecord made.key past x rec) (sym out.entry)
    (gives made.key past a f page v rec (record {
      start = started.start;
      opened = started.opened;
      recorded_at = recorded s made past f.0 leaving guarded h shaped ∙ ap Some (sym out.sealed);
      has = ap (λ (x : Sealed). x.cipher) out.sealed ∙ (λ i. cipher (keyed i) v (sym bytes i));
      size = ap (λ (xs : List ℕ). length xs) bytes ∙ leaving.sized;
      back = record {
        array = λ va. ap words_in bytes ∙ array_words va (s.content f.0) refl leaving.held leaving.kept;
        own = λ own. ap words_in bytes ∙ own_words own (s.content f.0) refl leaving.held leaving.kept;
      };
    }))
  where
    own_words : is_own_page out.leaving.page ≡ true → (c : Content) → s.content f.0 ≡ c → page_there c ≡ Some out.leaving.page
        → HasBytesOf s f.0 c out.leaving.bytes → words_in out.leaving.bytes ≡ words_of (flat past) out.leaving.page
    own_words own Free e there kept = cc there
    own_words own (IsLoading page) e there kept = cc there
    own_words own (IsVa number) e there kept =
        let name : va_page number ≡ out.leaving.page = same_Some (va_page number) out.leaving.page there in
        absurd (false≢true (ap is_own_page name ∙ own))
    own_words own (SecsOf enclave) e there kept =
        let name : secs_page enclave ≡ out.leaving.page = same_Some (secs_page enclave) out.leaving.page there in
        absurd (false≢true (sym (not_own (enclave == 0)) ∙ ap is_own_page name ∙ own))
      where
        not_own : (b : Bool) → (not b && false) ≡ false
        not_own true = refl
        not_own false = refl
    own_words own (Holds page kind perm) e there kept =
        let name : page ≡ out.leaving.page = same_Some page out.leaving.page there in
        kept.1 ∙ sym (ap flat_page_words (h.stands.memory.words f.0 page kind perm e)) ∙ ap (words_of (flat past)) name

    array_words : is_va_page out.leaving.page ≡ true → (c : Content) → s.content f.0 ≡ c → page_there c ≡ Some out.leaving.page
        → HasBytesOf s f.0 c out.leaving.bytes → words_in out.leaving.bytes ≡ va_words past out.leaving.page.number
    array_words va Free e there kept = cc there
    array_words va (IsLoading page) e there kept = cc there
    array_words va (IsVa number) e there kept =
        let name : va_page number ≡ out.leaving.page = same_Some (va_page number) out.leaving.page there in
        kept.1 ∙ sym (slots_same s past f.0 number e h.stands.versions) ∙ ap (λ (g : Page). va_words past g.number) name
    array_words va (SecsOf enclave) e there kept =
        let name : secs_page enclave ≡ out.leaving.page = same_Some (secs_page enclave) out.leaving.page there in
        let named : (enclave == 0) ≡ false = rw e at (guarded.kept.named f.0) in
        absurd (false≢true (sym named ∙ ap is_va_page name ∙ va))
    array_words va (Holds page kind perm) e there kept =
        let name : page ≡ out.leaving.page = same_Some page out.leaving.page there in
        let own : is_own_page page ≡ true = rw e at (guarded.kept.named f.0) in
        absurd (false≢true (sym (own_names (page.enclave == 0) (page.number == SECS_NUMBER) own).0 ∙ ap is_va_page name ∙ va))

-- that of a version array page also without a premise on the records that were brought
pub array_given : (s t : State) (made : Making) (past : List Entry) (a : Actor) (f : Frame) (e : Entry) (rec : Sealed)
    → IsWrittenOut s a f e rec t → IsGuarded s → HasAllVersions s past → ShapeWithRules made s past → GivesArray made.key past e.event rec
array_given s t made past a f e rec out guarded all shaped =
    subst (λ (x : Entry). GivesArray made.key past x.event rec) (sym out.entry)
    (by_content (s.content f.0) refl leaving.held leaving.kept)
  where
    leaving : IsLeaving s f.0
    leaving = out.leaving

    version : ℕ
    version = leaving.start.version

    keyed : made.key ≡ s.key
    keyed = ap (λ (k : Making). k.key) (sym shaped.shape.making)

    by_content : (c : Content) → s.content f.0 ≡ c → page_there c ≡ Some leaving.page → HasBytesOf s f.0 c leaving.bytes
        → is_va_page leaving.page ≡ true → record_at made.key version past leaving.page ≡ Some rec
    by_content Free e there kept va = cc there
    by_content (IsLoading page) e there kept va = cc there
    by_content (IsVa number) e there kept va =
        let page : va_page number ≡ leaving.page = same_Some (va_page number) leaving.page there in
        let header : va_header number ≡ leaving.header =
        same_Some (va_header number) leaving.header (ap (header_in s) page ∙ leaving.headed) in
        let bytes : bytes_of (va_words past number) ≡ leaving.bytes = ap bytes_of (slots_same s past f.0 number e all) ∙ sym kept.0 in
        ap (record_at made.key version past) (sym page)
        ∙ (λ i. Some (sealed (keyed i) version (header i) (bytes i)))
        ∙ ap Some (sym out.sealed)
    by_content (SecsOf enclave) e there kept va =
        let name : (enclave == 0) ≡ false = rw e at (guarded.kept.named f.0) in
        absurd (false≢true (sym name ∙ ap is_va_page (same_Some (secs_page enclave) leaving.page there) ∙ va))
    by_content (Holds page kind perm) e there kept va =
        let own : is_own_page page ≡ true = rw e at (guarded.kept.named f.0) in
        absurd (false≢true (sym (own_names (page.enclave == 0) (page.number == SECS_NUMBER) own).0
        ∙ ap is_va_page (same_Some page leaving.page there) ∙ va))
