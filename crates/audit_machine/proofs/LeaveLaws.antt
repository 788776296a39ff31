-- The end of a write-out.
use Rattle.std.specs.Prelude.{true, false}
use Rattle.std.proofs.Common.{◌≡◌, ℕ, ◌==◌, Bool, if◌then◌else◌, refl, sym, ap, subst, ◌∙◌, ◌⊎◌, inl, inr}
use Rattle.std.proofs.Common.{List, [], ◌∷◌, ◌++◌, Option, Some, None, length}
use Rattle.std.proofs.lemmas.Option.{none-some, same_Some}
use Rattle.std.proofs.lemmas.Bool.{eq-eqb, false≢true}
use Rattle.sgx_rules.specs.declared.entries.Entry.{Entry}
use Rattle.sgx_rules.specs.declared.entries.Event.{Event}
use Rattle.sgx_rules.specs.declared.entries.Event.TheVariants.{Did, Refused}
use Rattle.sgx_types.specs.declared.names.Actor.{Actor}
use Rattle.sgx_rules.specs.declared.entries.Action.TheVariants.{EwbStart, Ewb, EldStart, Eld}
use Rattle.sgx_rules.specs.declared.entries.Answer.TheVariants.{Moved}
use Rattle.sgx_types.specs.declared.names.Frame.{Frame}
use Rattle.sgx_types.specs.declared.record.Header.{Header}
use Rattle.sgx_types.specs.Making.{Making}
use Rattle.sgx_types.specs.Sealed.{Sealed}
use Rattle.sgx_rules.specs.Ends.{EndsOut}
use Rattle.sgx_types.specs.declared.names.Page.{Page}
use Rattle.sgx_types.specs.declared.names.TheConstants.{SECS_NUMBER}
use Rattle.sgx_types.specs.declared.names.VaSlot.{VaSlot}
use Rattle.sgx_types.specs.Pages.{secs_page}
use Rattle.sgx_rules.specs.Frames.{Content, Free, Holds, IsLoading, IsVa, SecsOf, content, is_sealing, page_there, sealing_after}
use Rattle.sgx_rules.specs.Rules.{RefusalRule}
use Rattle.sgx_rules.specs.Starts.{Start, open_start, opened_by, slot_found, started}
use Rattle.sgx_rules.specs.inner.Starts.{BareStart}
use Rattle.sgx_types.proofs.Truths.{tested}
use Rattle.seal_record.specs.Cipher.{cipher, sealed, tag}
use Rattle.seal_record.specs.Records.{Made}
use Rattle.seal_record.specs.Sealing.{made_with}
use Rattle.seal_record.specs.declared.unseal.UnsealedWork.{UnsealedWork}
use Rattle.seal_record.proofs.CipherLaws.{cipher_twice}
use Rattle.job_grammar.specs.Jobs.{JobView}
use Rattle.script_rules.specs.Machines.{machine_of}
use Rattle.script_rules.specs.Script.{action_of}
use Rattle.machine_laws.specs.inner.Histories.{StandsWithAllRules, given_out}
use Rattle.machine_laws.specs.inner.State.{State}
use Rattle.machine_laws.specs.inner.Steps.{HasBytesOf, IsLeaving, IsWrittenOut, SealsPage, did_by}
use Rattle.machine_laws.proofs.ColumnLaws.{sealing_is}
use Rattle.history_rules.specs.declared.rules.Rule.{Rule}
use Rattle.history_rules.specs.declared.rules.Rule.TheVariants as rules
use Rattle.audit_machine.proofs.OrderLaws.{refusal_fails}
use Rattle.audit_machine.specs.inner.Rivals.{is_load_refused}
use Rattle.audit_machine.specs.inner.Same.{same_end}
use Rattle.audit_machine.specs.inner.Asked.{Breaks, GoesOnWith, HasLeft, tells_secs}
use Rattle.audit_machine.proofs.AskLaws.{IsMadeOf, Tells, alike, broken, made_of_it, taken}

-- ---- a frame with an open start of a write-out is on its way out

abbrev Writes : Option Start → Type 0
Writes o = (start : Start) × ((o ≡ Some start) × (start.loads ≡ None))

loads-none : {x start : Start} (page : Page) → x.loads ≡ Some page → Some x ≡ Some start → start.loads ≡ None → ⊥
loads-none page loads same none = let e = sym loads ∙ ap (λ (o : Option Start). loads_in o) same ∙ none in cc
  where
    loads_in : Option Start → Option Page
    loads_in None = None
    loads_in (Some x) = x.loads

writes-after : (actor : Actor) (place : ℕ) (held : ℕ → Content) (event : Event) (n : ℕ) (o : Option Start) (b : Bool)
    → (Writes o → b ≡ true) → Writes (opened_by actor place held event n o)
    → sealing_after event n b ≡ true
writes-after actor place held (Did (EwbStart f slot) answer) n o b before w = by_test (tested (f.0 == n))
  where
    by_test : ((f.0 == n) ≡ true) ⊎ ((f.0 == n) ≡ false) → (if f.0 == n then true else b) ≡ true
    by_test (inl is) = rw is refl
    by_test (inr differs) = rw differs (before (rw differs at w))
writes-after actor place held (Did (Ewb f) answer) n o b before w = by_test (tested (f.0 == n))
  where
    by_test : ((f.0 == n) ≡ true) ⊎ ((f.0 == n) ≡ false) → (if f.0 == n then false else b) ≡ true
    by_test (inl is) = let v : Writes None = rw is at w in absurd (none-some _ v.1.0)
    by_test (inr differs) = rw differs (before (rw differs at w))
writes-after actor place held (Did (EldStart f page slot) answer) n o b before w = by_test (tested (f.0 == n))
  where
    by_slot : (found : Option VaSlot) → Writes (started actor place slot answer (Some page) found) → ⊥
    by_slot None v = none-some _ v.1.0
    by_slot (Some named) v = loads-none page refl v.1.0 v.1.1

    by_test : ((f.0 == n) ≡ true) ⊎ ((f.0 == n) ≡ false) → b ≡ true
    by_test (inl is) = absurd (by_slot (slot_found held slot) (rw is at w))
    by_test (inr differs) = before (rw differs at w)
writes-after actor place held (Did (Eld f) answer) n o b before w = by_test (tested (f.0 == n))
  where
    by_test : ((f.0 == n) ≡ true) ⊎ ((f.0 == n) ≡ false) → b ≡ true
    by_test (inl is) = let v : Writes None = rw is at w in absurd (none-some _ v.1.0)
    by_test (inr differs) = before (rw differs at w)
writes-after actor place held (Refused (Eld f) refusal) n o b before w = by_test (tested (f.0 == n))
  where
    by_test : ((f.0 == n) ≡ true) ⊎ ((f.0 == n) ≡ false) → b ≡ true
    by_test (inl is) = let v : Writes None = rw is at w in absurd (none-some _ v.1.0)
    by_test (inr differs) = before (rw differs at w)
writes-after actor place held event n o b before w = before w

is-leaving : (past : List Entry) (n : ℕ) → Writes (open_start past n) → is_sealing past n ≡ true
is-leaving [] n w = absurd (none-some _ w.1.0)
is-leaving (e ∷ past) n w =
    writes-after e.actor (length past) (content past) e.event n (open_start past n) (is_sealing past n) (is-leaving past n) w

-- ---- so where none is on its way out there is nothing to end

no-end : (j : JobView) (past : List Entry) (actor : Actor) (event : Event) (f : Frame) → action_of event ≡ Some (Ewb f)
    → is_sealing past f.0 ≡ false → RefusalRule (machine_of j) past (record { actor = actor; event = event }) → ⊥
no-end j past actor (Did action answer) f own still h =
    let ends : EndsOut past f.0 answer = (subst (λ a. RefusalRule (machine_of j) past (record { actor = actor; event = Did a answer }))
    (same_Some _ _ own) h).1 in
    false≢true (sym still ∙ is-leaving past f.0 (ends.start, (ends.opened, ends.writes)))
no-end j past actor (Refused action refusal) f own still h =
    subst (λ a. RefusalRule (machine_of j) past (record { actor = actor; event = Refused a refusal })) (same_Some _ _ own) h
no-end j past actor event f own still h = absurd (none-some _ own)

pub none_leaves : (s : State) (e : Entry) (f : Frame) → action_of e.event ≡ Some (Ewb f) → s.is_sealing f.0 ≡ false
    → Breaks s e rules.Refusal
none_leaves s e f own still j cpus past records h =
    refusal_fails j past e (no-end j past e.actor e.event f own (sym (sealing_is h.shaped.shape.columns f.0) ∙ still))

-- ---- the end that the machine makes

no-load : (event : Event) (f : Frame) → action_of event ≡ Some (Ewb f) → is_load_refused event ≡ false
no-load (Did action answer) f own = refl
no-load (Refused (Eld g) refusal) f own = let same : Eld g ≡ Ewb f = same_Some _ _ own in absurd cc
no-load (Refused action refusal) f own = refl
no-load event f own = absurd (none-some _ own)

-- what was sealed, by what was to be sealed
pub seals_same : (s : State) (f : ℕ) (k key : List ℕ) (v version : ℕ) (header : Header) (p plain : List ℕ) → SealsPage s f k v header p
    → key ≡ k → version ≡ v → plain ≡ p → SealsPage s f key version header plain
seals_same s f k key v version header p plain h same_key same_version same_plain = record {
  leaving = h.leaving;
  key = same_key ∙ h.key;
  version = same_version ∙ h.version;
  header = h.header;
  plain = same_plain ∙ h.plain;
}

-- the bytes of what leaves, but of a SECS, are those of the frame's words or slots
one-bytes : (s : State) (f : ℕ) (one other : IsLeaving s f) → (one.page.number == SECS_NUMBER) ≡ false → one.bytes ≡ other.bytes
one-bytes s f one other numbered = by_content (s.content f) one.held one.kept other.kept
  where
    by_content : (c : Content) → page_there c ≡ Some one.page → HasBytesOf s f c one.bytes → HasBytesOf s f c other.bytes
        → one.bytes ≡ other.bytes
    by_content Free there kept too = absurd (none-some _ there)
    by_content (IsLoading page) there kept too = absurd (none-some _ there)
    by_content (IsVa number) there kept too = kept.0 ∙ sym too.0
    by_content (Holds page kind perm) there kept too = kept.0 ∙ sym too.0
    by_content (SecsOf enclave) there kept too =
        let page : secs_page enclave ≡ one.page = same_Some _ _ there in
        absurd (false≢true (sym numbered ∙ ap (λ (x : Page). x.number == SECS_NUMBER) (sym page) ∙ eq-eqb SECS_NUMBER SECS_NUMBER refl))

module _ (s t : State) (e made : Entry) (f : Frame) (rec : Sealed) (own : action_of e.event ≡ Some (Ewb f))
    (step : IsWrittenOut s e.actor f made rec t)
    (history : (k : Making) (past : List Entry) (records : List Made) → StandsWithAllRules k s past records
    → StandsWithAllRules k t (made ∷ past) (records ++ given_out made.event rec)) where
  is : IsMadeOf e.actor (Ewb f) made
  is = made_of_it e.actor (Ewb f) made _ refl refl step.entry

  pub out_apart : (rule : Rule) → same_end e.event made.event ≡ false → Tells e made rule → Breaks s e rule
  out_apart rule unlike tells =
      broken s t (Ewb f) e made (given_out made.event rec) rule own is (no-load e.event f own)
      (no-load made.event f is.action_is) unlike history
      tells

  module _ (key : List ℕ) (version : ℕ) (header : Header) (plain : List ℕ) (seals : SealsPage s f.0 key version header plain) where
    own-version : step.leaving.start.version ≡ version
    own-version = ap (λ (x : BareStart). x.version) (same_Some _ _ (sym step.leaving.opened ∙ seals.leaving.opened)) ∙ sym seals.version

    own-record : rec ≡ sealed key version step.leaving.header step.leaving.bytes
    own-record = step.sealed ∙ (λ i. sealed (sym seals.key i) (own-version i) step.leaving.header step.leaving.bytes)

    -- the record, but of a SECS, opens to the page's bytes, and each carries its own tag
    pub out_plain : tells_secs made.event ≡ false → length plain ≡ 4096 → plain ≡ cipher key version rec.cipher
    out_plain other size =
        let numbered : (step.leaving.page.number == SECS_NUMBER) ≡ false =
        ap (λ (x : Entry). tells_secs x.event) (sym step.entry) ∙ other in
        let same : step.leaving.bytes ≡ plain = one-bytes s f.0 step.leaving seals.leaving numbered ∙ sym seals.plain in
        sym (ap (λ (x : Sealed). cipher key version x.cipher) own-record
        ∙ ap (λ bytes. cipher key version (cipher key version bytes)) same ∙ cipher_twice key version plain size)

    pub out_tag : rec.tag ≡ tag key version rec.header rec.cipher
    out_tag = ap (λ (x : Sealed). x.tag) own-record ∙ sym (ap (λ (x : Sealed). tag key version x.header x.cipher) own-record)

    pub out_alike : (work : UnsealedWork) → work.key ≡ key → work.version ≡ version → work.rec ≡ rec
        → same_end e.event made.event ≡ true → HasLeft s e f work t
    out_alike work same_key same_version same_rec same = record {
      page = step.leaving.page;
      told = told;
      key = same_key ∙ seals.key;
      goes_on = subst (λ more. GoesOnWith s e more t) given
          (taken s t (Ewb f) e made (given_out made.event rec) own is same history);
    }
      where
        entry : e ≡ did_by e.actor (Ewb f) (Moved step.leaving.page step.leaving.start.version rec.tag)
        entry = sym (alike (Ewb f) e made own is same) ∙ step.entry

        told : e.event ≡ Did (Ewb f) (Moved step.leaving.page work.version work.rec.tag)
        told = ap (λ (x : Entry). x.event) entry
            ∙ (λ i. Did (Ewb f) (Moved step.leaving.page ((own-version ∙ sym same_version) i) ((sym same_rec i).tag)))

        given : given_out made.event rec ≡ made_with work.version work.rec ∷ []
        given = ap (λ (x : Entry). given_out x.event rec) step.entry
            ∙ (λ i. made_with ((own-version ∙ sym same_version) i) (sym same_rec i) ∷ [])
