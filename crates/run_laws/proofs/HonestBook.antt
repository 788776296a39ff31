-- What the book keeps over an honest store, one entry longer.
use Rattle.std.proofs.Common.{◌≡◌, ℕ, ◌==◌, Bool, true, false, if◌then◌else◌, refl, sym, ◌∙◌}
use Rattle.std.proofs.Common.{ap, subst, List, [], ◌∷◌, Option, Some, None, is_some, length}
use Rattle.std.proofs.lemmas.Bool.{eq-eqb, false≢true, or_from}
use Rattle.sgx_types.proofs.Pages.{same_pages, same_slots}
use Rattle.sgx_rules.specs.declared.entries.Action.TheVariants.{Eld, EldStart, Ewb, EwbStart}
use Rattle.sgx_types.specs.declared.names.Actor.{Actor}
use Rattle.sgx_rules.specs.declared.entries.Answer.TheVariants.{Moved}
use Rattle.sgx_rules.specs.declared.entries.Entry.{Entry}
use Rattle.sgx_rules.specs.declared.entries.Event.{Event}
use Rattle.sgx_rules.specs.declared.entries.Event.TheVariants.{Did, Refused}
use Rattle.sgx_types.specs.declared.names.Page.{Page}
use Rattle.sgx_types.specs.declared.names.VaSlot.{VaSlot}
use Rattle.sgx_types.specs.Making.{Making}
use Rattle.sgx_types.specs.Pages.{is_va_page, same_page, same_slot, va_page}
use Rattle.sgx_types.specs.declared.names.Frame.{Frame}
use Rattle.sgx_rules.specs.Fresh.{last_out, Out, out_after}
use Rattle.sgx_rules.specs.inner.Arrays.{words_out}
use Rattle.sgx_rules.specs.PageBytes.{va_words}
use Rattle.sgx_rules.specs.Slots.{names_slot, open_slot, version_in, version_of}
use Rattle.sgx_rules.specs.Starts.{open_start, Start, started, version_told}
use Rattle.job_grammar.specs.Jobs.{JobView}
use Rattle.backing_store.specs.Calls.{Call, Got, Put, Room}
use Rattle.sgx_machine.specs.inner.Parts.{Parts}
use Rattle.driver_laws.specs.inner.Kinds.{CanMove}
use Rattle.driver_laws.specs.inner.Sound.{IsSound}
use Rattle.driver_laws.specs.inner.Used.{StartTells}
use Rattle.driver_laws.proofs.AloneLaws.{alone}
use Rattle.driver_laws.proofs.SoundLaws.{entry_of, load_start, named}
use Rattle.driver_tables.specs.declared.driver.Driver.{Driver}
use Rattle.driver_tables.specs.inner.Agrees.{Agrees}
use Rattle.driver_tables.specs.inner.Asked.{IsNextOf}
use Rattle.history_rules.specs.Calls.{before, CallsAre, ComesWith, IsPut}
use Rattle.history_rules.specs.Honest.{IsHonest, last_put}
use Rattle.history_rules.proofs.HonestLaws.{gifts_more, IsOutOf, same_last}
use Rattle.run_laws.specs.inner.Books.{FindsVersion, IsHonestEntry}
use Rattle.run_laws.specs.inner.Honest.{IsArrayPut, IsHonestBook, LoadsHaveFound, PutsAreArrays, PutsArray}
use Rattle.driver_rules.specs.Stops.{has_loss, is_bus}

-- ---- versions that were found

abbrev HaveFound : (ℕ → Option Start) → (VaSlot → ℕ) → Type 0
HaveFound opened version = (n : ℕ) (x : Start) → opened n ≡ Some x → is_some x.loads ≡ true → x.version ≡ version x.slot

found_opened : (opened : ℕ → Option Start) (version : VaSlot → ℕ) (f : ℕ) (x : Start)
    → (is_some x.loads ≡ true → x.version ≡ version x.slot) → HaveFound opened version
    → HaveFound (λ n. if f == n then Some x else opened n) version
found_opened opened version f x new h n y = by_frame (f == n)
  where
    by_frame : (b : Bool) → (if b then Some x else opened n) ≡ Some y → is_some y.loads ≡ true → y.version ≡ version y.slot
    by_frame true k loads =
        let same : x ≡ y = cc in
        subst (λ (z : Start). z.version ≡ version z.slot) same (new (ap (λ (z : Start). is_some z.loads) same ∙ loads))
    by_frame false k loads = h n y k loads

found_dropped : (opened : ℕ → Option Start) (version : VaSlot → ℕ) (f : ℕ) → HaveFound opened version
    → HaveFound (λ n. if f == n then None else opened n) version
found_dropped opened version f h n y = by_frame (f == n)
  where
    by_frame : (b : Bool) → (if b then None else opened n) ≡ Some y → is_some y.loads ≡ true → y.version ≡ version y.slot
    by_frame true k loads = cc
    by_frame false k loads = h n y k loads

-- the start of a frame ends, and its slot holds another version: no other start names that
found_closed : (opened : ℕ → Option Start) (version : VaSlot → ℕ) (f : ℕ) (x : Start) (its : Option VaSlot) (v : ℕ) → its ≡ Some x.slot
    → ((n : ℕ) (y : Start) → opened n ≡ Some y → x.slot ≡ y.slot → f ≡ n) → HaveFound opened version
    → HaveFound (λ n. if f == n then None else opened n) (λ slot. if names_slot its slot then v else version slot)
found_closed opened version f x its v names apart h n y = rw names (by_frame (f == n) refl)
  where
    by_slot : (b : Bool) → (f == n) ≡ false → opened n ≡ Some y → is_some y.loads ≡ true → same_slot x.slot y.slot ≡ b
        → y.version ≡ (if b then v else version y.slot)
    by_slot true isnt k loads is = absurd (false≢true (sym isnt ∙ eq-eqb f n (apart n y k (same_slots x.slot y.slot is))))
    by_slot false isnt k loads is = h n y k loads

    by_frame : (b : Bool) → (f == n) ≡ b → (if b then None else opened n) ≡ Some y → is_some y.loads ≡ true
        → y.version ≡ (if same_slot x.slot y.slot then v else version y.slot)
    by_frame true is k loads = cc
    by_frame false is k loads = by_slot (same_slot x.slot y.slot) is k loads refl

closed_found : (past : List Entry) (f : ℕ) (x : Start) (v : ℕ) → IsSound past → LoadsHaveFound past → open_start past f ≡ Some x
    → HaveFound (λ n. if f == n then None else open_start past n)
    (λ slot. if names_slot (open_slot past f) slot then v else version_in past slot)
closed_found past f x v s u is_open =
    found_closed (open_start past) (version_in past) f x (open_slot past f) v (named past f x is_open)
    (λ n y k same. (alone past s).apart f n x y is_open k same) u

-- one entry more
found_more : (past : List Entry) (e : Entry) → IsSound past → CanMove past e.event
    → StartTells past e.event → FindsVersion past e.event → LoadsHaveFound past → LoadsHaveFound (e ∷ past)
found_more past e s can told finds u = by_event e.event can told finds
  where
    by_event : (ev : Event) → CanMove past ev → StartTells past ev → FindsVersion past ev → LoadsHaveFound (entry_of e.actor ev ∷ past)
    by_event (Did (EwbStart f to) answer) c t k =
        let new : Start =
        record { at = to; slot = c.1; version = version_told answer; loads = None; place = length past; actor = e.actor } in
        subst (λ o. HaveFound (λ n. if f.0 == n then started e.actor (length past) to answer None o else open_start past n)
        (version_in past))
        (sym c.2) (found_opened (open_start past) (version_in past) f.0 new (λ h. cc) u)
    by_event (Did (Ewb f) (Moved page version tag)) c t k = closed_found past f.0 t.0 version s u t.1
    by_event (Did (EldStart f page to) answer) c t k =
        let new : Start =
        record { at = to; slot = c.1; version = version_told answer; loads = Some page; place = length past; actor = e.actor } in
        subst (λ o. HaveFound (λ n. if f.0 == n then started e.actor (length past) to answer (Some page) o else open_start past n)
        (version_in past)) (sym c.3)
        (found_opened (open_start past) (version_in past) f.0 new (λ h. subst (λ o. version_told answer ≡ version_of past o) c.3 k) u)
    by_event (Did (Eld f) (Moved page version tag)) c t k =
        let start = load_start past f.0 page c.0 s c.1 in
        closed_found past f.0 start.0 0 s u start.1
    by_event (Refused (Eld f) refusal) c t k = found_dropped (open_start past) (version_in past) f.0 u
    by_event (Did (Ewb f) answer) c t k = absurd c
    by_event (Did (Eld f) answer) c t k = absurd c
    by_event _ c t k = u

-- ---- the last record put of a version array page

module _ (key : List ℕ) (number : ℕ) where
  -- it was put now
  put_now : (past : List Entry) (actor : Actor) (f : Frame) (page : Page) (version : ℕ) (tag : List ℕ) (calls : List Call)
      → IsPut (Moved page version tag) calls → PutsArray key past (Did (Ewb f) (Moved page version tag)) calls
      → same_page page (va_page number) ≡ true
      → IsArrayPut key (entry_of actor (Did (Ewb f) (Moved page version tag)) ∷ past) calls number version
  put_now past actor f page version tag [] c is mine = absurd c
  put_now past actor f page version tag (Room h b ∷ calls) c is mine = absurd c
  put_now past actor f page version tag (Got h gave ∷ calls) c is mine = absurd c
  put_now past actor f page version tag (Put h rec b ∷ calls) c is mine = record {
    words = va_words past number;
    last = rw mine refl;
    rec = rec;
    put = ap (λ (x : Page). if same_page x (va_page number) then Some rec else last_put calls (va_page number)) c.0 ∙ rw mine refl;
    back = is (ap is_va_page (same_pages page (va_page number) mine))
        ∙ ap (λ (x : Page). va_words past x.number) (same_pages page (va_page number) mine);
  }

  put_before : (e : Entry) (past : List Entry) (calls : List Call) (version : ℕ) → ComesWith e.event calls
      → IsOutOf e.event (va_page number) ≡ false → words_out (e ∷ past) number ≡ words_out past number
      → IsArrayPut key past (before e.event calls) number version → IsArrayPut key (e ∷ past) calls number version
  put_before e past calls version c out same was = record {
    words = was.words;
    last = same ∙ was.last;
    rec = was.rec;
    put = same_last e.event calls (va_page number) c out ∙ was.put;
    back = was.back;
  }

  array_by : (past : List Entry) (actor : Actor) (ev : Event) (calls : List Call) (o : Out) → ComesWith ev calls
      → PutsArray key past ev calls
      → (last_out past (va_page number) ≡ Some o → IsArrayPut key past (before ev calls) number o.version)
      → out_after ev (va_page number) (last_out past (va_page number)) ≡ Some o
      → IsArrayPut key (entry_of actor ev ∷ past) calls number o.version
  array_by past actor (Did (Ewb f) (Moved page version tag)) calls o c t was k = by_page (same_page page (va_page number)) refl k
    where
      by_page : (b : Bool) → same_page page (va_page number) ≡ b
          → (if b then Some (record { version = version; tag = tag }) else last_out past (va_page number)) ≡ Some o
          → IsArrayPut key (entry_of actor (Did (Ewb f) (Moved page version tag)) ∷ past) calls number o.version
      by_page true mine told =
          let same : version ≡ o.version = cc in
          subst (IsArrayPut key (entry_of actor (Did (Ewb f) (Moved page version tag)) ∷ past) calls number) same
          (put_now past actor f page version tag calls c t mine)
      by_page false other told =
          put_before (entry_of actor (Did (Ewb f) (Moved page version tag))) past calls o.version c other (rw other refl) (was told)
  array_by past actor (Did (Ewb f) answer) calls o c t was k = absurd c
  array_by past actor (Did (Eld f) (Moved page version tag)) calls o c t was k = by_page (same_page page (va_page number)) refl k
    where
      by_page : (b : Bool) → same_page page (va_page number) ≡ b → (if b then None else last_out past (va_page number)) ≡ Some o
          → IsArrayPut key (entry_of actor (Did (Eld f) (Moved page version tag)) ∷ past) calls number o.version
      by_page true mine told = cc
      by_page false other told =
          put_before (entry_of actor (Did (Eld f) (Moved page version tag))) past calls o.version c refl (rw other refl) (was told)
  array_by past actor ev calls o c t was k = put_before (entry_of actor ev) past calls o.version c refl refl (was k)

  pub last_array : (past : List Entry) (calls : List Call) → CallsAre past calls → PutsAreArrays key past calls → (o : Out)
      → last_out past (va_page number) ≡ Some o → IsArrayPut key past calls number o.version
  last_array [] calls h puts o is = cc
  last_array (e ∷ past) calls h puts o is =
      array_by past e.actor e.event calls o h.0 puts.0 (λ was. last_array past (before e.event calls) h.1 puts.1 o was) is

-- ---- all of it

pub honest_goes : (made : Making) (j : JobView) (past : List Entry) (d d' : Driver) (m m' : Parts) (e : Entry) (longer : List Call)
    → Agrees made j past d m → IsNextOf made j past d m e d' m' → CallsAre (e ∷ past) longer → IsHonest longer
    → IsHonestBook made past m (before e.event longer) → IsHonestEntry made past m e m' longer → IsHonestBook made (e ∷ past) m' longer
honest_goes made j past d d' m m' e longer r n calls honest was now = record {
  back = or_from (is_bus e.event) (has_loss past) (now.back was) was.back;
  gifts = gifts_more past e longer r.sound n.can calls honest was.gifts;
  found = found_more past e r.sound n.can n.starts (now.finds was) was.found;
  arrays = now.arrays was;
  puts = (now.puts was, was.puts);
}
