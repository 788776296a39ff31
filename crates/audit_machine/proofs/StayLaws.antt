-- What each entry leaves of the records that are kept, and of those that were made.
use Rattle.std.proofs.Common.{◌≡◌, ℕ, Bool, true, false, cond, refl, sym, ap, subst, ◌∙◌, List, [], ◌∷◌, ◌++◌}
use Rattle.std.proofs.Common.{Option, Some, None}
use Rattle.std.specs.List.{Any}
use Rattle.std.proofs.lemmas.List.Quantifiers.{Any-push}
use Rattle.std.proofs.lemmas.Option.{same_Some}
use Rattle.sgx_rules.specs.declared.entries.Action.{Action}
use Rattle.sgx_rules.specs.declared.entries.Action.TheVariants.{Add, Create, Epa, Ewb, Eld}
use Rattle.sgx_rules.specs.declared.entries.Answer.{Answer}
use Rattle.sgx_rules.specs.declared.entries.Answer.TheVariants.{Moved}
use Rattle.sgx_types.specs.declared.names.Actor.{Actor}
use Rattle.sgx_rules.specs.declared.entries.Entry.{Entry}
use Rattle.sgx_rules.specs.declared.entries.Event.{Event}
use Rattle.sgx_rules.specs.declared.entries.Event.TheVariants.{Did, Refused}
use Rattle.sgx_types.specs.declared.names.Frame.{Frame}
use Rattle.sgx_types.specs.declared.names.Page.{Page}
use Rattle.sgx_types.specs.declared.names.VaSlot.{VaSlot}
use Rattle.sgx_rules.specs.Ends.{IsBack}
use Rattle.sgx_types.specs.Pages.{page_at, same_page, secs_page, va_page}
use Rattle.sgx_rules.specs.Frames.{vas_made}
use Rattle.sgx_types.specs.Making.{Making}
use Rattle.sgx_rules.specs.Rules.{RefusalRule}
use Rattle.sgx_types.specs.Sealed.{Sealed}
use Rattle.sgx_rules.specs.Starts.{Start, open_start}
use Rattle.sgx_types.proofs.Pages.{same_pages}
use Rattle.sgx_types.proofs.Lists.{Any-front}
use Rattle.seal_record.specs.Records.{Made}
use Rattle.seal_record.specs.Sealing.{made_with}
use Rattle.seal_record.specs.inner.Sealing.{made_by}
use Rattle.seal_record.specs.declared.unseal.UnsealedWork.{UnsealedWork}
use Rattle.machine_copies.specs.inner.Copies.{Copy, InFrame, InSlot, copy, copy_after, in_slot}
use Rattle.machine_copies.specs.inner.Once.{Gone, IsGone, IsMade, gone_after}
use Rattle.machine_copies.specs.inner.Once as history
use Rattle.machine_copies.proofs.OpenStarts.{any_head, any_rest}
use Rattle.script_rules.specs.Script.{action_of}
use Rattle.machine_laws.specs.inner.Histories.{StandsWithAllRules}
use Rattle.machine_laws.specs.inner.State.{State}
use Rattle.machine_laws.proofs.OutsideLaws.{not_framed}
use Rattle.audit_machine.specs.inner.Asked.{GoesOnWith, HasLeft, IsDoneBack}
use Rattle.audit_machine.proofs.KeptLaws.{own_rules}
use Rattle.audit_machine.specs.inner.Kept.{IsKeptUnder, IsOldRecord, KeepsRecords, Kept, Records, is_done_ewb, is_ewb, kept_of, no_records}
use Rattle.audit_machine.specs.inner.Kept.{with_record, without_record}

-- ---- the records that were made

pub own_records : (k : Making) (s : State) (past : List Entry) (records : List Made) → StandsWithAllRules k s past records
    → StandsWithAllRules k s past (made_by k.key past)
own_records k s past records h = subst (StandsWithAllRules k s past) h.records h

pub goes_on : (k : Making) (s t : State) (past : List Entry) (e : Entry) (more : List Made) → GoesOnWith s e more t
    → StandsWithAllRules k s past (made_by k.key past) → StandsWithAllRules k t (e ∷ past) (made_by k.key (e ∷ past))
goes_on k s t past e more goes h = own_records k t (e ∷ past) _ (goes k past (made_by k.key past) h)

pub made_left : (k : Making) (s t : State) (past : List Entry) (e : Entry) (f : Frame) (work : UnsealedWork) → HasLeft s e f work t
    → StandsWithAllRules k s past (made_by k.key past)
    → made_by k.key (e ∷ past) ≡ made_by k.key past ++ made_with work.version work.rec ∷ []
made_left k s t past e f work left h = sym (left.goes_on k past (made_by k.key past) h).records

event_made : (key : List ℕ) (past : List Entry) (actor : Actor) (event : Event) → is_done_ewb event ≡ false
    → made_by key (record { actor = actor; event = event } ∷ past) ≡ made_by key past
event_made key past actor (Did (Ewb f) answer) other = cc
event_made key past actor event other = refl

pub none_made : (key : List ℕ) (past : List Entry) (e : Entry) → is_done_ewb e.event ≡ false → made_by key (e ∷ past) ≡ made_by key past
none_made key past e other = event_made key past e.actor e.event other

-- ---- no record at first

pub none_out : (key : List ℕ) → KeepsRecords key [] no_records
none_out key = record { outside = λ g slot v there. cc; own = λ g one is. cc }

-- ---- an entry that puts no page out

event_stays : (vas : ℕ) (opened : ℕ → Option Start) (g : Page) (o : Option Copy) (slot : VaSlot) (v : ℕ) (event : Event)
    → is_done_ewb event ≡ false → copy_after event vas opened g o ≡ Some (InSlot slot v) → o ≡ Some (InSlot slot v)
event_stays vas opened g o slot v (Did (Epa f) answer) other there = not_framed (same_page (va_page vas) g) f.0 o slot v there
event_stays vas opened g o slot v (Did (Create enclave f base size) answer) other there =
    not_framed (same_page (secs_page enclave) g) f.0 o slot v there
event_stays vas opened g o slot v (Did (Ewb f) answer) other there = cc
event_stays vas opened g o slot v (Did (Add enclave number f kind perm init) answer) other there =
    not_framed (same_page (page_at enclave number) g) f.0 o slot v there
event_stays vas opened g o slot v (Did (Eld f) (Moved page version tag)) other there = not_framed (same_page page g) f.0 o slot v there
event_stays vas opened g o slot v event other there = there

still_made : (key : List ℕ) (past : List Entry) (e : Entry) (one : Made) → is_done_ewb e.event ≡ false → IsMade key past one
    → IsMade key (e ∷ past) one
still_made key past e one other made = subst (λ all. Any (λ x. x ≡ one) all) (sym (none_made key past e other)) made

-- a page that went out once has gone out ever after
gone-still : (past : List Entry) (e : Entry) (x : Gone) → IsGone past x → IsGone (e ∷ past) x
gone-still past e x gone = by_event e.event
  where
    by_event : (event : Event) → Any (λ one. one ≡ x) (gone_after event (history.gone past))
    by_event (Did (Ewb f) (Moved page version tag)) = any_rest (λ one. one ≡ x) _ (history.gone past) gone
    by_event event = gone

pub records_stay : (key : List ℕ) (past : List Entry) (e : Entry) (kept : Records) → is_done_ewb e.event ≡ false
    → KeepsRecords key past kept → KeepsRecords key (e ∷ past) kept
records_stay key past e kept other keeps = record {
  outside = λ g slot v there.
      keeps.outside g slot v (event_stays (vas_made past) (open_start past) g (copy past g) slot v e.event other there);
  own = λ g one is.
      let old = keeps.own g one is in
      record { gone = gone-still past e _ old.gone; made = still_made key past e (made_with one.0 one.1) other old.made };
}

-- ---- a page that goes out

module _ (key : List ℕ) (past : List Entry) (e : Entry) (f : Frame) (page : Page) (version : ℕ) (tag : List ℕ) (rec : Sealed)
    (kept : Records) (told : e.event ≡ Did (Ewb f) (Moved page version tag))
    (more : made_by key (e ∷ past) ≡ made_by key past ++ made_with version rec ∷ []) (keeps : KeepsRecords key past kept) where
  new : IsMade key (e ∷ past) (made_with version rec)
  new = subst (Any (λ x. x ≡ made_with version rec)) (sym more) (Any-push (λ x. x ≡ made_with version rec) (made_by key past)
      (made_with version rec) refl)

  old : (one : Made) → IsMade key past one → IsMade key (e ∷ past) one
  old one made = subst (Any (λ x. x ≡ one)) (sym more) (Any-front (λ x. x ≡ one) (made_by key past) (made_with version rec ∷ []) made)

  out-now : IsGone (e ∷ past) (record { page = page; version = version })
  out-now = rw told (any_head (λ one. one ≡ record { page = page; version = version }) _ (history.gone past) refl)

  put-outside : (g : Page) (slot : VaSlot) (v : ℕ) → copy (e ∷ past) g ≡ Some (InSlot slot v)
      → IsKeptUnder v (with_record kept page (version, rec) g)
  put-outside g slot v there = by_page (same_page page g) (rw told at there)
    where
      by_slot : (o : Option Start) → in_slot o version ≡ Some (InSlot slot v) → version ≡ v
      by_slot None is = cc
      by_slot (Some start) is = cc

      by_page : (b : Bool) → cond b (in_slot (open_start past f.0) version) (copy past g) ≡ Some (InSlot slot v)
          → IsKeptUnder v (cond b (Some (version, rec)) (kept g))
      by_page true is = (rec, ap (λ w. Some (w, rec)) (by_slot (open_start past f.0) is))
      by_page false is = keeps.outside g slot v is

  put-own : (g : Page) (one : Kept) → with_record kept page (version, rec) g ≡ Some one → IsOldRecord key (e ∷ past) g one
  put-own g one is = by_page (same_page page g) refl is
    where
      by_page : (b : Bool) → same_page page g ≡ b → cond b (Some (version, rec)) (kept g) ≡ Some one → IsOldRecord key (e ∷ past) g one
      by_page true here was =
          let its : IsOldRecord key (e ∷ past) page (version, rec) = record { gone = out-now; made = new } in
          subst (λ x. IsOldRecord key (e ∷ past) g x) (same_Some (version, rec) one was)
          (subst (λ h. IsOldRecord key (e ∷ past) h (version, rec)) (same_pages page g here) its)
      by_page false other was =
          let its = keeps.own g one was in
          record { gone = gone-still past e _ its.gone; made = old (made_with one.0 one.1) its.made }

  pub record_put : KeepsRecords key (e ∷ past) (with_record kept page (version, rec))
  record_put = record { outside = put-outside; own = put-own }

-- .. which the entry names
page_in : (x : Event) (f : Frame) (action : Action) (g page : Page) (v version : ℕ) (told tag : List ℕ) → x ≡ Did (Ewb f) (Moved g v told)
    → x ≡ Did action (Moved page version tag) → g ≡ page
page_in x f action g page v version told tag is was =
    let same : Did (Ewb f) (Moved g v told) ≡ Did action (Moved page version tag) = sym is ∙ was in cc

pub record_left : (k : Making) (s t : State) (past : List Entry) (e : Entry) (f : Frame) (work : UnsealedWork) (action : Action)
    (page : Page) (version : ℕ) (tag : List ℕ) (kept : Records) → HasLeft s e f work t
    → e.event ≡ Did action (Moved page version tag)
    → StandsWithAllRules k s past (made_by k.key past) → KeepsRecords k.key past kept
    → KeepsRecords k.key (e ∷ past) (with_record kept page (kept_of work))
record_left k s t past e f work action page version tag kept left told h keeps =
    let same : left.page ≡ page =
    page_in e.event f action left.page page work.version version work.rec.tag tag left.told told in
    subst (λ g. KeepsRecords k.key (e ∷ past) (with_record kept g (kept_of work))) same
    (record_put k.key past e f left.page work.version work.rec.tag work.rec kept left.told (made_left k s t past e f work left h) keeps)

-- ---- a page that comes back

-- its copy is in the frame, and those of the others stay
module _ (key : List ℕ) (past : List Entry) (actor : Actor) (f : Frame) (page : Page) (version : ℕ) (tag : List ℕ) (kept : Records)
    (keeps : KeepsRecords key past kept) where
  abbrev entry : Entry
  entry = record { actor = actor; event = Did (Eld f) (Moved page version tag) }

  record_dropped : KeepsRecords key (entry ∷ past) (without_record kept page)
  record_dropped = record {
    outside = λ g slot v there. by_copy g slot v (same_page page g) there;
    own = λ g one is. by_kept g one (same_page page g) is;
  }
    where
      by_copy : (g : Page) (slot : VaSlot) (v : ℕ) (b : Bool) → cond b (Some (InFrame f.0)) (copy past g) ≡ Some (InSlot slot v)
          → IsKeptUnder v (cond b None (kept g))
      by_copy g slot v true is = cc
      by_copy g slot v false is = keeps.outside g slot v is

      by_kept : (g : Page) (one : Kept) (b : Bool) → cond b None (kept g) ≡ Some one → IsOldRecord key (entry ∷ past) g one
      by_kept g one true is = cc
      by_kept g one false is =
          let old = keeps.own g one is in
          record { gone = gone-still past entry _ old.gone; made = still_made key past entry (made_with one.0 one.1) refl old.made }

pub record_back : (k : Making) (s t : State) (past : List Entry) (records : List Made) (e : Entry) (f : Frame) (start : Start) (page : Page)
    (kept : Records) → StandsWithAllRules k t (e ∷ past) records → IsDoneBack e.event f → open_start past f.0 ≡ Some start
    → start.loads ≡ Some page → KeepsRecords k.key past kept → KeepsRecords k.key (e ∷ past) (without_record kept page)
record_back k s t past records e f start page kept stands done opened loads keeps = by_event e.event done
    (own_rules k t (e ∷ past) records stands).refusal.0
  where
    by_back : (answer : Answer) → IsBack past f.0 answer
        → KeepsRecords k.key (record { actor = e.actor; event = Did (Eld f) answer } ∷ past) (without_record kept page)
    by_back answer back =
        let same : back.ends.start ≡ start = same_Some _ _ (sym back.ends.opened ∙ opened) in
        let its : back.page ≡ page = same_Some _ _ (sym back.ends.loads ∙ ap (λ (x : Start). x.loads) same ∙ loads) in
        rw (back.told, its) (record_dropped k.key past e.actor f page back.version back.tag kept keeps)

    by_event : (event : Event) → IsDoneBack event f → RefusalRule k past (record { actor = e.actor; event = event })
        → KeepsRecords k.key (record { actor = e.actor; event = event } ∷ past) (without_record kept page)
    by_event (Did action answer) is rule =
        subst (λ a. RefusalRule k past (record { actor = e.actor; event = Did a answer })
        → KeepsRecords k.key (record { actor = e.actor; event = Did a answer } ∷ past) (without_record kept page)) (sym is)
        (λ r. by_back answer r.1) rule
    by_event event is rule = absurd is

-- ---- the other entries

pub not_ewb : (event : Event) (action : Action) → action_of event ≡ Some action → is_ewb action ≡ false → is_done_ewb event ≡ false
not_ewb (Did a answer) action own other = let same : a ≡ action = cc in rw same other
not_ewb (Refused a why) action own other = refl
not_ewb event action own other = refl

pub no_action : (event : Event) → action_of event ≡ None → is_done_ewb event ≡ false
no_action (Did a answer) none = cc
no_action event none = refl
