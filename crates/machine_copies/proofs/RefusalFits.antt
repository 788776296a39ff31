-- What the rule Refusal gives of frames, where each load that starts is of a page that is away: each frame that is named is of the
-- EPC, what takes a frame takes a free one, and no page comes to stand in two frames.
use Rattle.std.proofs.Common.{◌≡◌, ℕ, ◌<◌, ◌==◌, ◌||◌, not, Bool, true, false, cond, leb, ltb, refl, sym, ap, ◌∙◌}
use Rattle.std.proofs.Common.{subst, Option, Some, None, is_some, List, [], ◌∷◌, length}
use Rattle.std.proofs.lemmas.Bool.{cond_both, eqb-true, false≢true, leb-false, false_from_ne_true}
use Rattle.sgx_rules.specs.declared.entries.Action.{Action}
use Rattle.sgx_rules.specs.declared.entries.Action.TheVariants.{Epa, Create, Add, Extend, Enter, Resume, Fill, Block, EwbStart}
use Rattle.sgx_rules.specs.declared.entries.Action.TheVariants.{Ewb}
use Rattle.sgx_rules.specs.declared.entries.Action.TheVariants.{EldStart, Eld}
use Rattle.sgx_types.specs.declared.names.Actor.{Actor}
use Rattle.sgx_rules.specs.declared.entries.Answer.{Answer}
use Rattle.sgx_rules.specs.declared.entries.Answer.TheVariants.{Moved}
use Rattle.sgx_rules.specs.declared.entries.Entry.{Entry}
use Rattle.sgx_rules.specs.declared.entries.Event.{Event}
use Rattle.sgx_rules.specs.declared.entries.Event.TheVariants.{Did, Refused}
use Rattle.sgx_types.specs.declared.lawful.PageInit.{PageInit}
use Rattle.sgx_types.specs.declared.names.Kind.{Kind}
use Rattle.sgx_types.specs.declared.names.Page.{Page}
use Rattle.sgx_types.specs.declared.names.Perm.{Perm}
use Rattle.sgx_types.specs.declared.names.SlotAt.{SlotAt}
use Rattle.sgx_types.specs.declared.names.VaSlot.{VaSlot}
use Rattle.sgx_rules.specs.inner.Enclaves.{is_there}
use Rattle.sgx_rules.specs.Ends.{EndsIn, EndsOut, IsBack}
use Rattle.sgx_rules.specs.Flat.{enclave_sight, flat}
use Rattle.sgx_types.specs.Pages.{page_at, same_page}
use Rattle.sgx_rules.specs.Frames.{Content, Free, IsVa, SecsOf, Holds, IsLoading, added, content, is_this, reloaded}
use Rattle.sgx_types.specs.Pages.{secs_page, va_page}
use Rattle.sgx_rules.specs.Frames.{stands, vas_made}
use Rattle.sgx_types.specs.Making.{Making}
use Rattle.sgx_rules.specs.Rules.{Along, Fits, FitsRule, NamesFrames, RefusalRule, TakesFree}
use Rattle.sgx_rules.specs.inner.Rules.{LoadsAwayRule}
use Rattle.sgx_rules.specs.Sights.{enclave_of_stay, is_known, row_at, secs_sight_at, sight_at, stay_of}
use Rattle.sgx_rules.specs.Slots.{is_busy_at}
use Rattle.sgx_rules.specs.Starts.{Start, open_start, slot_found, started}
use Rattle.sgx_rules.specs.inner.Starts.{LoadsAreApart, is_load_of}
use Rattle.sgx_types.specs.Lawful.{is_enclave, is_lawful}
use Rattle.sgx_rules.specs.Table.{EnclaveSight, SecsSight, add_row, fill_row, is_busy}
use Rattle.sgx_rules.proofs.Contents.{free_there}
use Rattle.sgx_types.proofs.Pages.{same_page-refl, same_pages}
use Rattle.sgx_rules.proofs.Rows.{NoneHolds, none_holds, start_names}
use Rattle.sgx_types.proofs.Truths.{neither, not_false}
use Rattle.machine_copies.proofs.ApartLaws.{IsApart, IsAway, loaded_away, put_apart, start_apart}
use Rattle.machine_copies.proofs.CopyLaws.{reloaded_there}
use Rattle.machine_copies.proofs.OpenStarts.{entry_of}
use Rattle.machine_copies.proofs.StartLaws.{add_free, starts_by_rows}
use Rattle.machine_copies.proofs.ThereLaws.{Makes, add_makes, create_makes, epa_makes, known_there, there_still}

-- ---- what rows say of frames

-- the frame of an `add` is of the EPC
add_within : (number : ℕ) (kind : Kind) (perm : Perm) (init : PageInit) (frames : ℕ) (past : List Entry) (o : Option EnclaveSight)
    (secs : SecsSight) (is_added : Bool) (f : ℕ)
    → NoneHolds (add_row number kind perm init o secs is_added (sight_at frames past f)) → f < frames
add_within number kind perm init frames past None secs is_added f row = leb-false _ _ row.0
add_within number kind perm init frames past (Some enclave) secs is_added f row = leb-false _ _ row.0

-- .. and that of a `fill`
fill_within : (number frames : ℕ) (past : List Entry) (o : Option ℕ) (f : ℕ) → NoneHolds (fill_row number o (sight_at frames past f))
    → f < frames
fill_within number frames past None f row = absurd (false≢true (sym row.0))
fill_within number frames past (Some enclave) f row = leb-false _ _ row.0

-- an instruction that ends a start
abbrev is_end : Action → Bool
is_end (Ewb f) = true
is_end (Eld f) = true
is_end _ = false

-- the frames that an instruction names, which its row allows, are of the EPC, and the one that it takes is free
row_fits : (k : Making) (past : List Entry) (a : Actor) (action : Action) → is_end action ≡ false → NoneHolds (row_at k past a action)
    → NamesFrames k.frames action × TakesFree past action
row_fits k past a (Epa f) other row = (leb-false _ _ row.0, free_there (content past f.0) _ row.1.0 row.1.1.0)
row_fits k past a (Create enclave f base size) other row =
    let range = neither (leb k.frames f.0) (not (is_enclave enclave))
    (neither (leb k.frames f.0 || not (is_enclave enclave)) (not (is_lawful base size)) row.0).0 in
    (leb-false _ _ range.0, free_there (content past f.0) _ row.1.1.0 row.1.1.1.0)
row_fits k past a (Add enclave number f kind perm init) other row = (
  add_within number kind perm init k.frames past (enclave_sight (flat past) enclave) (secs_sight_at k.frames past enclave) _ f.0 row,
  add_free past f.0 number kind perm init (enclave_sight (flat past) enclave) (secs_sight_at k.frames past enclave) _ k.frames row,
)
row_fits k past a (Extend f chunk) other row = (leb-false _ _ (neither (leb k.frames f.0) (ltb 15 chunk) row.0).0, tt)
row_fits k past a (Enter enclave tcs tf sf) other row =
    let within = neither (leb k.frames tf.0) (leb k.frames sf.0) row.1.0 in
    ((leb-false _ _ within.0, leb-false _ _ within.1), tt)
row_fits k past a (Resume enclave tcs tf sf) other row =
    let within = neither (leb k.frames tf.0) (leb k.frames sf.0) row.1.0 in
    ((leb-false _ _ within.0, leb-false _ _ within.1), tt)
row_fits k past a (Fill number f) other row = (fill_within number k.frames past (enclave_of_stay (stay_of past a)) f.0 row, tt)
row_fits k past a (Block f) other row = (leb-false _ _ row.0, tt)
row_fits k past a (EwbStart f slot) other row = (start_names k.frames f.0 slot.frame.0 (ltb 511 slot.index) row.0, tt)
row_fits k past a (EldStart f page slot) other row =
    let idle = neither (is_busy (sight_at k.frames past f.0)) (is_busy_at k.frames past slot) row.1.1.1.1.0 in
    (start_names k.frames f.0 slot.frame.0 (ltb 511 slot.index) row.0, free_there (content past f.0) _ idle.0 row.1.1.1.1.1.0)
row_fits k past a (Ewb f) other row = cc other
row_fits k past a (Eld f) other row = cc other
row_fits k past a _ other row = (tt, tt)

-- ---- how pages stand

-- no page stands twice, each start is in a frame of the EPC, and a page that is not there is away
record StandApart (frames : ℕ) (there : Page → Bool) (held : ℕ → Content) (starts : ℕ → Option Start) : Type 0 where
  pub apart : IsApart held starts
  pub within : (n : ℕ) → is_some (starts n) ≡ true → n < frames
  pub known : (g : Page) → there g ≡ false → IsAway held starts g

-- a page that is there, and stands nowhere
record IsOut (there : Page → Bool) (held : ℕ → Content) (starts : ℕ → Option Start) (g : Page) : Type 0 where
  pub away : IsAway held starts g
  pub is : there g ≡ true

module _ (frames : ℕ) (there : Page → Bool) (held : ℕ → Content) (starts : ℕ → Option Start) (f : ℕ)
    (h : StandApart frames there held starts) where
  -- a frame comes to hold at most a page that stands nowhere
  put_stands : (c : Content) → ((g : Page) → stands c g ≡ true → IsOut there held starts g)
      → StandApart frames there (λ n. cond (f == n) c (held n)) starts
  put_stands c out = record {
    apart = put_apart held starts f c (λ g here. (out g here).away) h.apart;
    within = h.within;
    known = λ g new n. (
      cond_both (f == n) c (held n) (λ v. stands v g ≡ false)
          (λ _. false_from_ne_true (stands c g) (λ here. false≢true (sym new ∙ (out g here).is))) (λ _. (h.known g new n).0),
      (h.known g new n).1,
    );
  }

  -- a start comes to load at most a page that stands nowhere
  start_stands : (o : Option Start) → (is_some o ≡ true → f < frames)
      → ((g : Page) → is_load_of o g ≡ true → IsOut there held starts g)
      → StandApart frames there held (λ n. cond (f == n) o (starts n))
  start_stands o below out = record {
    apart = start_apart held starts f o (λ g here. (out g here).away) h.apart;
    within = λ n. cond_both (f == n) o (starts n) (λ v. is_some v ≡ true → n < frames)
        (λ same there. subst (λ m. m < frames) (eqb-true f n same) (below there)) (λ _. h.within n);
    known = λ g new n. (
      (h.known g new n).0,
      cond_both (f == n) o (starts n) (λ v. is_load_of v g ≡ false)
          (λ _. false_from_ne_true (is_load_of o g) (λ here. false≢true (sym new ∙ (out g here).is))) (λ _. (h.known g new n).1),
    );
  }

  -- a start ends
  end_stands : StandApart frames there held (λ n. cond (f == n) None (starts n))
  end_stands = start_stands None (λ there. cc there) (λ g here. cc here)

-- ---- one entry more

record KeepsFrames (frames : ℕ) (past : List Entry) : Type 0 where
  pub fits : Fits frames past
  pub stand : StandApart frames (is_there past) (content past) (open_start past)

-- what is not there after an entry was not there before it
not_before : (past : List Entry) (e : Entry) (g : Page) → is_there (e ∷ past) g ≡ false → is_there past g ≡ false
not_before past e g none = false_from_ne_true (is_there past g) (λ is. false≢true (sym none ∙ there_still past e g is))

-- the frames before an entry, by what is there after it
shifted : (frames : ℕ) (past : List Entry) (e : Entry) → KeepsFrames frames past
    → StandApart frames (is_there (e ∷ past)) (content past) (open_start past)
shifted frames past e h = record {
  apart = h.stand.apart;
  within = h.stand.within;
  known = λ g none. h.stand.known g (not_before past e g none);
}

keeps_more : (frames : ℕ) (past : List Entry) (e : Entry) → FitsRule frames past e
    → StandApart frames (is_there (e ∷ past)) (content (e ∷ past)) (open_start (e ∷ past)) → KeepsFrames frames past
    → KeepsFrames frames (e ∷ past)
keeps_more frames past e rule stand h =
    record { fits = record { entries = (rule, h.fits.entries); pages = (stand.apart.once, h.fits.pages) }; stand = stand }

-- what the end of a load ends loads its page
ends_load : (past : List Entry) (n : ℕ) (page : Page) → EndsIn past n page → is_load_of (open_start past n) page ≡ true
ends_load past n page ends = ap (λ o. is_load_of o page) ends.opened ∙ ap (λ o. is_this o page) ends.loads ∙ same_page-refl page

-- an entry that its row allows, where a load that it starts is of a page that is away
module _ (k : Making) (past : List Entry) (a : Actor) (refusals : Along (RefusalRule k) past) (h : KeepsFrames k.frames past) where
  -- a page is made, and comes into a frame
  made_stands : (e : Entry) (f : ℕ) (page : Page) (c : Content) → Makes past e page → ((g : Page) → stands c g ≡ same_page page g)
      → StandApart k.frames (is_there (e ∷ past)) (λ n. cond (f == n) c (content past n)) (open_start past)
  made_stands e f page c makes held =
      put_stands k.frames (is_there (e ∷ past)) (content past) (open_start past) f (shifted k.frames past e h) c
      (λ g here. subst (IsOut (is_there (e ∷ past)) (content past) (open_start past)) (same_pages page g (sym (held g) ∙ here))
      (record { away = h.stand.known page makes.fresh; is = makes.there }))

  -- a frame whose start ends comes to hold at most a page that stands nowhere
  ended_stands : (e : Entry) (f : ℕ) (c : Content)
      → ((g : Page) → stands c g ≡ true → IsOut (is_there (e ∷ past)) (content past) (λ n. cond (f == n) None (open_start past n)) g)
      → StandApart k.frames (is_there (e ∷ past)) (λ n. cond (f == n) c (content past n)) (λ n. cond (f == n) None (open_start past n))
  ended_stands e f c out = put_stands k.frames (is_there (e ∷ past)) (content past) _ f
      (end_stands k.frames (is_there (e ∷ past)) (content past) (open_start past) f (shifted k.frames past e h)) c out

  -- a reloaded page was away since its load started
  reloaded_out : (e : Entry) (f : ℕ) (page : Page) → EndsIn past f page → (g : Page) → stands (reloaded page (added past page)) g ≡ true
      → IsOut (is_there (e ∷ past)) (content past) (λ n. cond (f == n) None (open_start past n)) g
  reloaded_out e f page ends g here =
      let there = (starts_by_rows k past refusals).there f ends.start page ends.opened ends.loads in
      subst (IsOut (is_there (e ∷ past)) (content past) (λ n. cond (f == n) None (open_start past n)))
      (same_pages page g (sym (reloaded_there past page there g) ∙ here))
      (record {
        away = loaded_away (content past) (open_start past) f page (ends_load past f page ends) h.stand.apart;
        is = there_still past e page there;
      })

  -- a start, if its entry is one, is of a frame of the EPC, and loads a page that stands nowhere
  started_stands : (e : Entry) (f : ℕ) (at : SlotAt) (answer : Answer) (loads : Option Page) → f < k.frames
      → ((g : Page) → is_this loads g ≡ true → IsOut (is_there (e ∷ past)) (content past) (open_start past) g)
      → StandApart k.frames (is_there (e ∷ past)) (content past)
      (λ n. cond (f == n) (started a (length past) at answer loads (slot_found (content past) at)) (open_start past n))
  started_stands e f at answer loads low out =
      start_stands k.frames (is_there (e ∷ past)) (content past) (open_start past) f (shifted k.frames past e h)
      (started a (length past) at answer loads (slot_found (content past) at)) (λ there. low)
      (λ g. by_slot g (slot_found (content past) at))
    where
      by_slot : (g : Page) (o : Option VaSlot) → is_load_of (started a (length past) at answer loads o) g ≡ true
          → IsOut (is_there (e ∷ past)) (content past) (open_start past) g
      by_slot g None here = cc here
      by_slot g (Some slot) here = out g here

  done_keeps : (action : Action) (answer : Answer) → RefusalRule k past (entry_of a (Did action answer))
      → LoadsAwayRule past (entry_of a (Did action answer)) → KeepsFrames k.frames (entry_of a (Did action answer) ∷ past)
  done_keeps (Epa f) answer refusal away =
      keeps_more k.frames past _ (row_fits k past a (Epa f) refl (none_holds (row_at k past a (Epa f)) refusal.0))
      (made_stands _ f.0 (va_page (vas_made past)) (IsVa (vas_made past)) (epa_makes past a f answer) (λ g. refl)) h
  done_keeps (Create enclave f base size) answer refusal away =
      let row = none_holds (row_at k past a (Create enclave f base size)) refusal.0 in
      keeps_more k.frames past _ (row_fits k past a (Create enclave f base size) refl row)
      (made_stands _ f.0 (secs_page enclave) (SecsOf enclave) (create_makes k past a enclave f base size answer refusals row) (λ g. refl)) h
  done_keeps (Add enclave number f kind perm init) answer refusal away =
      let row = none_holds (row_at k past a (Add enclave number f kind perm init)) refusal.0 in
      keeps_more k.frames past _ (row_fits k past a (Add enclave number f kind perm init) refl row)
      (made_stands _ f.0 (page_at enclave number) (Holds (page_at enclave number) kind perm)
      (add_makes k past a enclave number f kind perm init answer refusals row) (λ g. refl)) h
  done_keeps (EwbStart f at) answer refusal away =
      let fits = row_fits k past a (EwbStart f at) refl (none_holds (row_at k past a (EwbStart f at)) refusal.0) in
      keeps_more k.frames past _ fits
      (started_stands (entry_of a (Did (EwbStart f at) answer)) f.0 at answer None fits.0.0 (λ g here. cc here)) h
  done_keeps (EldStart f page at) answer refusal away =
      let row = none_holds (row_at k past a (EldStart f page at)) refusal.0 in
      let fits = row_fits k past a (EldStart f page at) refl row in
      let e = entry_of a (Did (EldStart f page at) answer) in
      let there = known_there k past refusals page (not_false (is_known (flat past) (vas_made past) page) row.1.0) in
      keeps_more k.frames past _ fits
      (put_stands k.frames (is_there (e ∷ past)) (content past) _ f.0
      (started_stands e f.0 at answer (Some page) fits.0.0
      (λ g here. subst (IsOut (is_there (e ∷ past)) (content past) (open_start past)) (same_pages page g here)
      (record { away = away; is = there_still past e page there }))) (IsLoading page) (λ g here. cc here)) h
  done_keeps (Ewb f) answer refusal away =
      let ends : EndsOut past f.0 answer = refusal.1 in
      keeps_more k.frames past _ (h.stand.within f.0 (ap is_some ends.opened), tt)
      (ended_stands (entry_of a (Did (Ewb f) answer)) f.0 Free (λ g here. cc here)) h
  done_keeps (Eld f) answer refusal away =
      let back : IsBack past f.0 answer = refusal.1 in
      subst (λ x. KeepsFrames k.frames (entry_of a (Did (Eld f) x) ∷ past)) (sym back.told)
      (keeps_more k.frames past _ (h.stand.within f.0 (ap is_some back.ends.opened), tt)
      (ended_stands (entry_of a (Did (Eld f) (Moved back.page back.version back.tag))) f.0 (reloaded back.page (added past back.page))
      (reloaded_out (entry_of a (Did (Eld f) (Moved back.page back.version back.tag))) f.0 back.page back.ends)) h)
  done_keeps action answer refusal away =
      keeps_more k.frames past _ (row_fits k past a action refl (none_holds (row_at k past a action) refusal.0))
      (shifted k.frames past (entry_of a (Did action answer)) h) h

  event_keeps : (event : Event) → RefusalRule k past (entry_of a event) → LoadsAwayRule past (entry_of a event)
      → KeepsFrames k.frames (entry_of a event ∷ past)
  event_keeps (Did action answer) refusal away = done_keeps action answer refusal away
  event_keeps (Refused (Eld f) why) refusal away = keeps_more k.frames past _ tt
      (ended_stands (entry_of a (Refused (Eld f) why)) f.0 Free (λ g here. cc here)) h
  event_keeps event refusal away = keeps_more k.frames past _ tt (shifted k.frames past (entry_of a event) h) h

keeps_frames : (k : Making) (past : List Entry) → Along (RefusalRule k) past → Along LoadsAwayRule past → KeepsFrames k.frames past
keeps_frames k [] refusal away = record {
  fits = record { entries = tt; pages = λ m n g here there. cc here };
  stand = record {
    apart = record { once = λ m n g here there. cc here; frames = λ m n g loads. refl; loads = λ m n g here there. cc here };
    within = λ n there. cc there;
    known = λ g new n. (refl, refl);
  };
}
keeps_frames k (e ∷ past) refusal away =
    event_keeps k past e.actor refusal.1 (keeps_frames k past refusal.1 away.1) e.event refusal.0 away.0

-- so such entries fit
pub fits_by_rows : (k : Making) (past : List Entry) → Along (RefusalRule k) past → Along LoadsAwayRule past → Fits k.frames past
fits_by_rows k past refusal away = (keeps_frames k past refusal away).fits

-- .. and loads are apart
pub apart_by_rows : (k : Making) (past : List Entry) → Along (RefusalRule k) past → Along LoadsAwayRule past → LoadsAreApart past
apart_by_rows k past refusal away =
    let stand = (keeps_frames k past refusal away).stand in record { frames = stand.apart.frames; loads = stand.apart.loads }
