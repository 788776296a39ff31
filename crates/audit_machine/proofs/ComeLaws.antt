-- The end of a load.
use Rattle.std.specs.Prelude.{MatchOption, not, bytes_eq}
use Rattle.std.proofs.Common.{◌≡◌, ℕ, ◌<◌, ◌==◌, true, false, refl, sym, ap, subst, ◌∙◌, ◌⊎◌}
use Rattle.std.proofs.Common.{inl, inr, List, [], ◌∷◌, Option, Some, None}
use Rattle.std.proofs.lemmas.Bool.{eqb-true, eq-eqb, false≢true}
use Rattle.std.proofs.lemmas.Slice.Eq.{bytes_eq-Decides}
use Rattle.std.proofs.lemmas.Option.{none-some, same_Some}
use Rattle.sgx_rules.specs.declared.entries.Entry.{Entry}
use Rattle.sgx_rules.specs.declared.entries.Event.{Event}
use Rattle.sgx_rules.specs.declared.entries.Event.TheVariants.{Did, Refused}
use Rattle.sgx_types.specs.declared.names.Actor.{Actor}
use Rattle.sgx_rules.specs.declared.entries.Action.{Action}
use Rattle.sgx_rules.specs.declared.entries.Action.TheVariants.{Eld}
use Rattle.sgx_rules.specs.declared.entries.Answer.{Answer}
use Rattle.sgx_types.specs.declared.names.Frame.{Frame}
use Rattle.sgx_types.specs.declared.names.Page.{Page}
use Rattle.sgx_types.specs.declared.record.Header.{Header}
use Rattle.sgx_rules.specs.declared.refusals.Refusal.{Refusal}
use Rattle.sgx_rules.specs.declared.refusals.Refusal.TheVariants as why
use Rattle.sgx_rules.specs.Ends.{DoesNotFit, EndsIn, IsBack, IsNotBack}
use Rattle.sgx_rules.specs.Frames.{IsLoading, IsVa, content, stands}
use Rattle.sgx_types.specs.Pages.{is_va_page}
use Rattle.sgx_rules.specs.PageBytes.{header_at}
use Rattle.sgx_types.specs.Making.{Making}
use Rattle.sgx_rules.specs.Rules.{RefusalRule}
use Rattle.sgx_types.specs.Sealed.{Sealed}
use Rattle.sgx_rules.specs.Slots.{version_in}
use Rattle.sgx_rules.specs.Starts.{Start}
use Rattle.sgx_rules.specs.inner.Starts.{BareStart, bare_start, without_place}
use Rattle.sgx_types.specs.Cases.{first_of_row}
use Rattle.sgx_rules.specs.Table.{is_loading}
use Rattle.sgx_types.proofs.Truths.{not_false, tested}
use Rattle.seal_record.specs.Cipher.{tag}
use Rattle.seal_record.specs.Records.{Made}
use Rattle.seal_record.specs.inner.Row.{same_header}
use Rattle.seal_record.proofs.HeaderLaws.{same_headers, same_header-refl}
use Rattle.job_grammar.specs.Jobs.{JobView}
use Rattle.machine_copies.specs.inner.Copies.{InFrame, InSlot, OneLiveCopy, copy}
use Rattle.machine_copies.specs.inner.Once.{IsGone, KeepsMoves, StartsApart}
use Rattle.machine_copies.proofs.ArrayLaws.{va_stands}
use Rattle.machine_copies.proofs.CopyLaws.{live_copies, out_is_gone, whose_copy}
use Rattle.machine_copies.proofs.DrawnLaws.{drawn_once}
use Rattle.machine_copies.proofs.StartLaws.{starts_apart}
use Rattle.script_rules.specs.Machines.{machine_of}
use Rattle.script_rules.specs.Script.{action_of}
use Rattle.machine_laws.specs.inner.Histories.{BringsBack, BringsIn, StandsWithAllRules}
use Rattle.machine_laws.specs.inner.Notes.{IsDidEvent}
use Rattle.machine_laws.specs.inner.State.{State}
use Rattle.machine_laws.specs.inner.Steps.{CanBring, CanEnd, IsComing, IsComingHeader, IsReloaded, commit_row, did_by, header_in}
use Rattle.machine_laws.specs.inner.Steps.{refused_by}
use Rattle.machine_laws.proofs.ColumnLaws.{content_is, start_is}
use Rattle.machine_laws.proofs.MoveEnds.{coming_header, ends_refused}
use Rattle.machine_laws.proofs.ReloadLaws.{keeps_moves, row_allows}
use Rattle.history_rules.specs.declared.rules.Rule.{Rule}
use Rattle.history_rules.specs.declared.rules.Rule.TheVariants as rules
use Rattle.history_rules.specs.inner.Histories.{is_machines}
use Rattle.history_machine.specs.Histories.{FailsAmong}
use Rattle.audit_machine.proofs.OrderLaws.{refusal_fails}
use Rattle.audit_machine.proofs.SameLaws.{ends_apart}
use Rattle.audit_machine.specs.inner.Rivals.{AreRivals, is_load_refused}
use Rattle.audit_machine.specs.inner.Same.{same_end}
use Rattle.audit_machine.specs.inner.Asked.{Breaks, GoesOnWith, IsDoneBack, IsOwnRecord, made_for}
use Rattle.audit_machine.specs.inner.Reasons.{is_unfit, other_number}
use Rattle.audit_machine.proofs.AskLaws.{IsMadeOf, Tells, alike, made_of_it, with_none}
use Rattle.audit_machine.proofs.KeptLaws.{last_kept}
use Rattle.audit_machine.proofs.OtherRefusal.{other_refusal}

-- ---- a frame that waits for no page

no-end : (j : JobView) (past : List Entry) (actor : Actor) (event : Event) (f : Frame) → action_of event ≡ Some (Eld f)
    → ((page : Page) → EndsIn past f.0 page → ⊥) → RefusalRule (machine_of j) past (record { actor = actor; event = event }) → ⊥
no-end j past actor (Did action answer) f own none h =
    let back : IsBack past f.0 answer = (subst (λ a. RefusalRule (machine_of j) past (record { actor = actor; event = Did a answer }))
    (same_Some _ _ own) h).1 in
    none back.page back.ends
no-end j past actor (Refused action refusal) f own none h =
    let back : IsNotBack past f.0 refusal = subst (λ a. RefusalRule (machine_of j) past
    (record { actor = actor; event = Refused a refusal }))
    (same_Some _ _ own) h in
    none back.page back.ends
no-end j past actor event f own none h = absurd (none-some _ own)

pub none_comes : (s : State) (e : Entry) (f : Frame) → action_of e.event ≡ Some (Eld f) → is_loading (s.content f.0) ≡ false
    → Breaks s e rules.Refusal
none_comes s e f own idle j cpus past records h = refusal_fails j past e (no-end j past e.actor e.event f own none)
  where
    none : (page : Page) → EndsIn past f.0 page → ⊥
    none page ends =
        let loading = (starts_apart (made_for j cpus) past (keeps_moves (made_for j cpus) s past records h)).loading f.0 ends.start page
        ends.opened
        ends.loads in
        false≢true (sym idle ∙ ap is_loading (content_is h.shaped.shape.columns f.0 ∙ loading))

-- ---- headers

number-apart : (n : ℕ) → other_number n ≡ n → ⊥
number-apart n e = by_test (tested (n == 0))
  where
    by_test : ((n == 0) ≡ true) ⊎ ((n == 0) ≡ false) → ⊥
    by_test (inl is) = let f : 1 ≡ n = rw is at e in let g : 1 ≡ 0 = f ∙ eqb-true n 0 is in absurd cc
    by_test (inr differs) = let f : 0 ≡ n = rw differs at e in false≢true (sym differs ∙ eq-eqb n 0 (sym f))

-- ---- the page that a frame waits for, and its own record

module _ (k : Making) (s : State) (past : List Entry) (records : List Made) (f : Frame) (rec : Sealed)
    (h : StandsWithAllRules k s past records) (own : IsOwnRecord k.key past f.0 rec) where
  own-start : (start : BareStart) → s.start f.0 ≡ Some start → without_place own.start ≡ start
  own-start start opened =
      let e : Some (without_place own.start) ≡ Some start =
      sym (ap bare_start own.opened) ∙ sym (start_is h.shaped.shape.columns f.0) ∙ opened in cc

  pub brings_in : BringsIn k.key past s f.0 rec
  brings_in start g opened loads =
      let same : without_place own.start ≡ start = own-start start opened in
      let page : own.page ≡ g = same_Some _ _ (sym own.loads ∙ ap (λ (x : BareStart). x.loads) same ∙ loads) in
      subst (λ (x : BareStart). BringsBack k.key past f.0 g x.version rec) same
      (subst (λ p. BringsBack k.key past f.0 p own.start.version rec) page own.brings)

  -- the page is in its slot, so that no frame holds it
  pub can_bring : CanBring s f.0
  can_bring = record { away = away }
    where
      moves : KeepsMoves k past
      moves = keeps_moves k s past records h

      starts : StartsApart k.frames past
      starts = starts_apart k past moves

      live : OneLiveCopy past
      live = live_copies k past h.positive moves

      found : (version_in past own.start.slot ≡ own.start.version) × (0 < own.start.version)
      found = starts.found f.0 own.start own.page own.opened own.loads

      in_slot : copy past own.page ≡ Some (InSlot own.start.slot (version_in past own.start.slot))
      in_slot =
          let gone = out_is_gone past own.page _ own.brings.last.last in
          let under = subst (λ v. IsGone past (record { page = own.page; version = v })) (sym found.0) gone in
          whose_copy k.first_version past live (drawn_once k past moves) own.start.slot own.page (rw found.0 found.1) under

      away : (page : Page) → s.content f.0 ≡ IsLoading page → is_va_page page ≡ true → (n : ℕ) → s.content n ≡ IsVa page.number → ⊥
      away page waits va n held =
          let columns = h.shaped.shape.columns in
          let both : IsLoading page ≡ IsLoading own.page =
          sym waits ∙ content_is columns f.0 ∙ starts.loading f.0 own.start own.page own.opened own.loads in
          let same : page ≡ own.page = cc both in
          let stood : stands (content past n) page ≡ true = va_stands (content past n) page va (sym (content_is columns n) ∙ held) in
          let framed : copy past own.page ≡ Some (InFrame n) = ap (copy past) (sym same) ∙ live.framed n page stood in
          let twice : Some (InFrame n) ≡ Some (InSlot own.start.slot (version_in past own.start.slot)) = sym framed ∙ in_slot in
          cc twice

  own-page : (coming : IsComing s f.0) → own.page ≡ coming.page
  own-page coming = same_Some _ _ (sym own.loads ∙ ap (λ (x : BareStart). x.loads) (own-start coming.start coming.opened) ∙ coming.loads)

  own-header : (coming : IsComing s f.0) → rec.header ≡ coming.header
  own-header coming =
      same_Some _ _ (sym own.header ∙ ap (header_at past) (own-page coming) ∙ coming_header s past f.0 h.standing.stands coming)

  own-tag : (coming : IsComing s f.0) → rec.tag ≡ tag s.key coming.start.version rec.header rec.cipher
  own-tag coming =
      own.tagged ∙ (λ i. tag ((sym (ap (λ (m : Making). m.key) h.shaped.shape.making)) i) ((own-start coming.start coming.opened i).version)
      rec.header rec.cipher)

  -- its row refuses nothing
  allows : (coming : IsComing s f.0) → first_of_row (commit_row s f.0 coming rec) ≡ None
  allows coming =
      let fits : bytes_eq rec.tag (tag s.key coming.start.version rec.header rec.cipher) ≡ true = (bytes_eq-Decides _ _).1
      (own-tag coming) in
      let headed : same_header rec.header coming.header ≡ true =
      subst (λ x. same_header rec.header x ≡ true) (own-header coming) (same_header-refl rec.header) in
      rw (fits, headed) refl

-- ---- a load that is told as done

made-of : (s t : State) (actor : Actor) (f : Frame) (rec : Sealed) (made : Entry) → IsReloaded s actor f rec made t
    → IsMadeOf actor (Eld f) made
made-of s t actor f rec made step = by_row _ _ _ (first_of_row (commit_row s f.0 step.coming rec)) step.row
  where
    by_row : (answer : Answer) (A B : Type 0) (o : Option Refusal) → MatchOption o ((made ≡ did_by actor (Eld f) answer) × A)
        (λ refusal. (made ≡ refused_by actor (Eld f) refusal) × B) → IsMadeOf actor (Eld f) made
    by_row answer A B None row = made_of_it actor (Eld f) made _ refl refl row.0
    by_row answer A B (Some r) row = made_of_it actor (Eld f) made _ refl refl row.0

done-event : (event : Event) (f : Frame) → IsDoneBack event f → (action_of event ≡ Some (Eld f)) × (is_load_refused event ≡ false)
done-event (Did action answer) f done = (ap Some done, refl)
done-event event f done = absurd done

module _ (s t : State) (e made : Entry) (f : Frame) (rec : Sealed) (done : IsDoneBack e.event f) (step : IsReloaded s e.actor f rec made t)
    (back : (k : Making) (past : List Entry) (records : List Made) → StandsWithAllRules k s past records
    → (IsDidEvent made.event → BringsIn k.key past s f.0 rec) → StandsWithAllRules k t (made ∷ past) records) where
  is : IsMadeOf e.actor (Eld f) made
  is = made-of s t e.actor f rec made step

  goes : (k : Making) (past : List Entry) (records : List Made) → StandsWithAllRules k s past records → IsOwnRecord k.key past f.0 rec
      → StandsWithAllRules k t (made ∷ past) records
  goes k past records h own = back k past records h (λ was_done. brings_in k s past records f rec h own)

  pub brought : same_end e.event made.event ≡ true → (k : Making) (past : List Entry) (records : List Made)
      → StandsWithAllRules k s past records → IsOwnRecord k.key past f.0 rec → StandsWithAllRules k t (e ∷ past) records
  brought same k past records h own =
      subst (λ x. StandsWithAllRules k t (x ∷ past) records) (alike (Eld f) e made (done-event e.event f done).0 is same)
      (goes k past records h own)

  made-done : (k : Making) (past : List Entry) (records : List Made) → StandsWithAllRules k s past records → IsOwnRecord k.key past f.0 rec
      → is_load_refused made.event ≡ false
  made-done k past records h own =
      let row = rw (allows k s past records f rec h own step.coming) at step.row in
      rw row.0 refl

  pub not_brought : (rule : Rule) → same_end e.event made.event ≡ false → Tells e made rule → (j : JobView) (cpus : ℕ)
      (past : List Entry) (records : List Made) → StandsWithAllRules (made_for j cpus) s past records → IsOwnRecord j.key past f.0 rec
      → FailsAmong is_machines j past (Some e) rule
  not_brought rule unlike tells j cpus past records h own =
      tells j past rivals (last_kept j cpus t past made records (goes (made_for j cpus) past records h own))
    where
      rivals : AreRivals e made
      rivals = record {
        actor = sym is.actor_is;
        action = Eld f;
        own = (done-event e.event f done).0;
        same = is.action_is;
        ends = (done-event e.event f done).1;
        ended = made-done (made_for j cpus) past records h own;
        differ = ends_apart e.event made.event (Eld f) (done-event e.event f done).0 unlike;
      }

-- ---- a load that is told as refused

does-not-fit : (past : List Entry) (g : Page) (own : Header) (reason : Refusal) → header_at past g ≡ Some own → is_unfit own reason ≡ true
    → DoesNotFit past g reason
does-not-fit past g own (why.MacFail given computed) headed unfit = λ same.
    let is : bytes_eq given computed ≡ true = (bytes_eq-Decides given computed).1 same in
    false≢true (sym (ap not is) ∙ unfit)
does-not-fit past g own (why.BadHeader enclave address flags) headed unfit = λ told.
    let same : own ≡ record { enclave = enclave; address = address; flags = flags } = same_Some _ _ (sym headed ∙ told) in
    let is : same_header own (record { enclave = enclave; address = address; flags = flags }) ≡ true =
    subst (λ x. same_header own x ≡ true) same (same_header-refl own) in
    false≢true (sym (ap not is) ∙ unfit)
does-not-fit past g own reason headed unfit = absurd cc

fits : (past : List Entry) (g : Page) (own : Header) (reason : Refusal) → header_at past g ≡ Some own → is_unfit own reason ≡ false
    → DoesNotFit past g reason → ⊥
fits past g own (why.MacFail given computed) headed fit unfit = unfit ((bytes_eq-Decides given computed).0 (not_false _ fit))
fits past g own (why.BadHeader enclave address flags) headed fit unfit = unfit (headed ∙ ap Some (same_headers own _ (not_false _ fit)))
fits past g own reason headed fit unfit = unfit

-- a reason that cannot be so
pub reason_fits : (s : State) (actor : Actor) (f : Frame) (own : Header) (reason : Refusal) → IsComingHeader s f.0 own
    → is_unfit own reason ≡ false → Breaks s (refused_by actor (Eld f) reason) rules.Refusal
reason_fits s actor f own reason waits fit j cpus past records h =
    refusal_fails j past (refused_by actor (Eld f) reason) (λ (told : IsNotBack past f.0 reason).
    let coming = waits.0 in
    let started : Some coming.start ≡ bare_start (Some told.ends.start) =
    sym coming.opened ∙ start_is h.shaped.shape.columns f.0 ∙ ap bare_start told.ends.opened in
    let page : told.page ≡ coming.page = same_Some _ _ (sym told.ends.loads
    ∙ ap (λ (x : BareStart). x.loads) (sym (same_Some coming.start (without_place told.ends.start) started)) ∙ coming.loads) in
    fits past told.page own reason (ap (header_at past) page ∙ coming_header s past f.0 h.standing.stands coming
    ∙ ap Some (sym waits.1)) fit
    told.unfit)

-- a record with another header's number is refused, and the machine may be asked for the end of the load with it
module _ (s : State) (f : Frame) (own : Header) (other : Sealed) (waits : IsComingHeader s f.0 own)
    (apart : other.header.enclave ≡ other_number own.enclave) where
  -- the page for which a frame waits, and its header, are one
  one-page : (coming : IsComing s f.0) → waits.0.page ≡ coming.page
  one-page coming =
      let started : waits.0.start ≡ coming.start = same_Some _ _ (sym waits.0.opened ∙ coming.opened) in
      same_Some _ _ (sym waits.0.loads ∙ ap (λ (x : BareStart). x.loads) started ∙ coming.loads)

  own-header-is : (coming : IsComing s f.0) → own ≡ coming.header
  own-header-is coming = waits.1 ∙ same_Some _ _ (sym waits.0.headed ∙ ap (header_in s) (one-page coming) ∙ coming.headed)

  not-allowed : (coming : IsComing s f.0) → first_of_row (commit_row s f.0 coming other) ≡ None → ⊥
  not-allowed coming allowed =
      let headed : other.header ≡ own = (row_allows s f.0 coming other allowed).header ∙ sym (own-header-is coming) in
      number-apart own.enclave (sym apart ∙ ap (λ (x : Header). x.enclave) headed)

  pub can_end : CanEnd s f.0 other
  can_end coming allowed = absurd (not-allowed coming allowed)

  module _ (t : State) (actor : Actor) (made : Entry) (step : IsReloaded s actor f other made t)
      (back : (k : Making) (past : List Entry) (records : List Made) → StandsWithAllRules k s past records
      → (IsDidEvent made.event → BringsIn k.key past s f.0 other) → StandsWithAllRules k t (made ∷ past) records) where
    -- the refusal that the machine made stands for each other one that can be so
    pub turned_away : (reason : Refusal) → is_unfit own reason ≡ true → GoesOnWith s (refused_by actor (Eld f) reason) [] t
    turned_away reason unfit =
        with_none s t (refused_by actor (Eld f) reason) (λ k past records h. by_row k past records h
        (first_of_row (commit_row s f.0 step.coming other)) refl)
      where
        by_row : (k : Making) (past : List Entry) (records : List Made) → StandsWithAllRules k s past records → (o : Option Refusal)
            → first_of_row (commit_row s f.0 step.coming other) ≡ o
            → StandsWithAllRules k t (refused_by actor (Eld f) reason ∷ past) records
        by_row k past records h None allowed = absurd (not-allowed step.coming allowed)
        by_row k past records h (Some found) refused =
            let row = rw refused at step.row in
            let ended = ends_refused s past f.0 step.coming other found h.shaped.shape.columns h.standing.stands refused in
            let started : Some step.coming.start ≡ bare_start (Some ended.ends.start) =
            sym step.coming.opened ∙ start_is h.shaped.shape.columns f.0 ∙ ap bare_start ended.ends.opened in
            let page : ended.page ≡ step.coming.page = same_Some _ _ (sym ended.ends.loads
            ∙ ap (λ (x : BareStart). x.loads) (sym (same_Some step.coming.start (without_place ended.ends.start) started))
            ∙ step.coming.loads) in
            let headed : header_at past ended.page ≡ Some own =
            ap (header_at past) page ∙ coming_header s past f.0 h.standing.stands step.coming ∙ ap Some (sym (own-header-is step.coming)) in
            other_refusal past actor f found reason k t records
            (subst (λ x. StandsWithAllRules k t (x ∷ past) records) row.0
            (back k past records h (λ was_done. absurd (subst (λ (x : Entry). IsDidEvent x.event) row.0 was_done))))
            (record { page = ended.page; ends = ended.ends; unfit = does-not-fit past ended.page own reason headed unfit })
