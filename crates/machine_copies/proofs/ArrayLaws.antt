-- A version array page that is out has the slots with which it went, whatever records are brought.
use Rattle.std.proofs.Common.{◌≡◌, ℕ, ◌<◌, ◌≤◌, ◌==◌, ◌&&◌, not, Bool, true, false, cond, refl, sym, ap, ◌∙◌, subst}
use Rattle.std.proofs.Common.{Option, Some, None, List, [], ◌∷◌, map, arith}
use Rattle.std.proofs.lemmas.Bool.{cond_both, eqb-true, eq-eqb, false≢true}
use Rattle.std.specs.List.{range_with_len}
use Rattle.sgx_rules.specs.declared.entries.Action.TheVariants.{Epa, Create, Add, Ewb, EldStart, Eld}
use Rattle.sgx_types.specs.declared.names.Actor.{Actor}
use Rattle.sgx_rules.specs.declared.entries.Answer.TheVariants.{Moved}
use Rattle.sgx_rules.specs.declared.entries.Entry.{Entry}
use Rattle.sgx_rules.specs.declared.entries.Event.{Event}
use Rattle.sgx_rules.specs.declared.entries.Event.TheVariants.{Did, Refused}
use Rattle.sgx_types.specs.declared.names.Frame.{Frame}
use Rattle.sgx_types.specs.declared.names.Kind.{Kind}
use Rattle.sgx_types.specs.declared.names.Page.{Page}
use Rattle.sgx_types.specs.declared.names.Perm.{Perm}
use Rattle.sgx_types.specs.declared.names.TheConstants.{SECS_NUMBER}
use Rattle.sgx_types.specs.declared.names.VaSlot.{VaSlot}
use Rattle.sgx_rules.specs.Frames.{Content, Free, IsVa, SecsOf, Holds, IsLoading, added, content, is_sealing}
use Rattle.sgx_rules.specs.Frames.{reloaded, reloaded_as, stands, vas_made}
use Rattle.sgx_types.specs.Pages.{is_va_page, page_at, same_page, va_page}
use Rattle.sgx_rules.specs.PageBytes.{va_words}
use Rattle.sgx_rules.specs.inner.Arrays.{ArraysRest, words_out}
use Rattle.sgx_types.specs.Pages.{same_slot}
use Rattle.sgx_rules.specs.Slots.{is_va_of, names_slot, open_slot, slot_of, version_in}
use Rattle.sgx_rules.specs.Starts.{Start, open_start}
use Rattle.sgx_types.proofs.Pages.{same_page-refl, same_slots}
use Rattle.sgx_types.proofs.Truths.{apart}
use Rattle.machine_copies.specs.inner.Away.{ArraysApart, EndsRight, EndsRightIn, EndsRightOut, array_in}
use Rattle.machine_copies.specs.inner.Once.{IsFound}
use Rattle.machine_copies.proofs.OpenStarts.{entry_of}

-- a frame that holds the version array page of this number
pub va_is : (c : Content) (k : ℕ) → is_va_of c k ≡ true → c ≡ IsVa k
va_is (IsVa x) k is = ap IsVa (eqb-true x k is)
va_is Free k is = cc is
va_is (SecsOf enclave) k is = cc is
va_is (Holds page kind perm) k is = cc is
va_is (IsLoading page) k is = cc is

-- a version array page by its number
pub array_page : (g : Page) → is_va_page g ≡ true → va_page g.number ≡ g
array_page g is = λ i. record { enclave = sym (eqb-true g.enclave 0 is) i; number = g.number }

-- .. stands where a frame holds the one of its number
pub va_stands : (c : Content) (g : Page) → is_va_page g ≡ true → c ≡ IsVa g.number → stands c g ≡ true
va_stands c g is held = ap (λ x. stands x g) held ∙ subst (λ p. same_page p g ≡ true) (sym (array_page g is)) (same_page-refl g)

-- what comes back as a version array page is one
reloaded_va : (page : Page) (kinds : Option (Kind × Perm)) (k : ℕ) → is_va_of (reloaded page kinds) k ≡ true
    → same_page page (va_page k) ≡ true
reloaded_va page kinds k = by_name (page.enclave == 0) (page.number == SECS_NUMBER) kinds
  where
    by_name : (va last : Bool) (o : Option (Kind × Perm))
        → is_va_of (cond va (IsVa page.number) (cond (not va && last) (SecsOf page.enclave) (reloaded_as page o))) k ≡ true
        → (va && (page.number == k)) ≡ true
    by_name true last o is = is
    by_name false true o is = cc is
    by_name false false None is = cc is
    by_name false false (Some x) is = cc is

-- ---- an entry that changes no slot

module _ (past : List Entry) (e : Entry) (h : ArraysRest past) where
  record Quiet : Type 0 where
    pub words : (k : ℕ) → words_out (e ∷ past) k ≡ words_out past k
    pub versions : (s : VaSlot) → version_in (e ∷ past) s ≡ version_in past s
    pub held : (k n : ℕ) → k < vas_made past → is_va_of (content past n) k ≡ false → is_va_of (content (e ∷ past) n) k ≡ false
    pub made : vas_made past ≤ vas_made (e ∷ past)

  quiet_rest : Quiet → ArraysRest (e ∷ past)
  quiet_rest q = record {
    rest = λ k words out. (λ i. map (λ index. q.versions (record { va = k; index = index }) i) (range_with_len 0 512))
        ∙ h.rest k words (sym (q.words k) ∙ out);
    away = λ k words out n.
        let was = sym (q.words k) ∙ out in q.held k n (h.below k words was) (h.away k words was n);
    below = λ k words out. let low = h.below k words (sym (q.words k) ∙ out) in let more = q.made in omega (arith, low, more);
    unmade = λ k index high. q.versions (record { va = k; index = index })
        ∙ h.unmade k index (let more = q.made in omega (arith, high, more));
  }

-- a frame comes to hold what is no version array page
put_held : (past : List Entry) (f k n : ℕ) (c : Content) → is_va_of c k ≡ false → is_va_of (content past n) k ≡ false
    → is_va_of (cond (f == n) c (content past n)) k ≡ false
put_held past f k n c none away = cond_both (f == n) c (content past n) (λ v. is_va_of v k ≡ false) (λ _. none) (λ _. away)

-- ---- what ends

module _ (past : List Entry) (a : Actor) (f : Frame) (arrays : ArraysApart (vas_made past) (content past))
    (found : (n : ℕ) (x : Start) → open_start past n ≡ Some x → IsFound past x) (h : ArraysRest past) where
  -- an open start names no slot of a version array page that is not where it found its slot
  not_named : (x : Start) (k index : ℕ) → open_start past f.0 ≡ Some x → (content past x.at.frame.0 ≡ IsVa k → ⊥)
      → names_slot (open_slot past f.0) (record { va = k; index = index }) ≡ false
  not_named x k index is elsewhere = ap (λ o. names_slot (slot_of o) slot) is ∙ by_test (same_slot x.slot slot) refl
    where
      slot : VaSlot
      slot = record { va = k; index = index }

      by_test : (b : Bool) → same_slot x.slot slot ≡ b → b ≡ false
      by_test false e = refl
      by_test true e =
          absurd (elsewhere ((found f.0 x is).held ∙ ap (λ (s : VaSlot). IsVa s.va) (same_slots x.slot slot e)))

  -- so one of a page that is out
  out_not_named : (x : Start) (k index : ℕ) (words : List ℕ) → open_start past f.0 ≡ Some x → words_out past k ≡ Some words
      → names_slot (open_slot past f.0) (record { va = k; index = index }) ≡ false
  out_not_named x k index words is out = not_named x k index is (λ here.
      false≢true (sym (h.away k words out x.at.frame.0) ∙ ap (λ c. is_va_of c k) here ∙ eq-eqb k k refl))

  -- .. or of one that was not made
  unmade_not_named : (x : Start) (k index : ℕ) → open_start past f.0 ≡ Some x → vas_made past ≤ k
      → names_slot (open_slot past f.0) (record { va = k; index = index }) ≡ false
  unmade_not_named x k index is high = not_named x k index is (λ here.
      let low = arrays.below x.at.frame.0 k (ap array_in here) in omega (arith, low, high))

  -- a version array page goes out as it is, and others rest
  ewb_rest : (page : Page) (version : ℕ) (tag : List ℕ) → EndsRightOut past f.0 (Moved page version tag)
      → ArraysRest (entry_of a (Did (Ewb f) (Moved page version tag)) ∷ past)
  ewb_rest page version tag right = record {
    rest = λ k words. rest k words (same_page page (va_page k)) refl;
    away = λ k words out n. away k words n (same_page page (va_page k)) refl out;
    below = λ k words. below k words (same_page page (va_page k)) refl;
    unmade = λ k index high.
        rw (unmade_not_named x k index right.ends.opened high) (h.unmade k index high);
  }
    where
      x : Start
      x = right.ends.start

      page_is : right.ends.page ≡ page
      page_is = let same : Moved page version tag ≡ Moved right.ends.page right.ends.version right.ends.tag = right.ends.told in cc same

      here : (k : ℕ) → same_page page (va_page k) ≡ true → content past f.0 ≡ IsVa k
      here k is = right.array k (ap (λ g. same_page g (va_page k)) page_is ∙ is)

      -- the start that sends a page out names no slot of it
      not_its_own : (k index : ℕ) → same_page page (va_page k) ≡ true
          → names_slot (open_slot past f.0) (record { va = k; index = index }) ≡ false
      not_its_own k index is = not_named x k index right.ends.opened (λ there.
          false≢true (sym (found f.0 x right.ends.opened).stays
          ∙ ap (is_sealing past) (arrays.once x.at.frame.0 f.0 k there (here k is)) ∙ right.leaves))

      still : (k : ℕ) → ((index : ℕ) → names_slot (open_slot past f.0) (record { va = k; index = index }) ≡ false)
          → va_words (entry_of a (Did (Ewb f) (Moved page version tag)) ∷ past) k ≡ va_words past k
      still k none = λ i. map (λ index. kept index i) (range_with_len 0 512)
        where
          kept : (index : ℕ) → cond (names_slot (open_slot past f.0) (record { va = k; index = index })) version
              (version_in past (record { va = k; index = index })) ≡ version_in past (record { va = k; index = index })
          kept index = rw (none index) refl

      rest : (k : ℕ) (words : List ℕ) (b : Bool) → same_page page (va_page k) ≡ b
          → cond b (Some (va_words past k)) (words_out past k) ≡ Some words
          → va_words (entry_of a (Did (Ewb f) (Moved page version tag)) ∷ past) k ≡ words
      rest k words true e out = still k (λ index. not_its_own k index e) ∙ (let same : va_words past k ≡ words = cc out in same)
      rest k words false e out = still k (λ index. out_not_named x k index words right.ends.opened out) ∙ h.rest k words out

      away : (k : ℕ) (words : List ℕ) (n : ℕ) (b : Bool) → same_page page (va_page k) ≡ b
          → cond b (Some (va_words past k)) (words_out past k) ≡ Some words
          → is_va_of (cond (f.0 == n) Free (content past n)) k ≡ false
      away k words n false e out = put_held past f.0 k n Free refl (h.away k words out n)
      away k words n true e out = cond_both (f.0 == n) Free (content past n) (λ v. is_va_of v k ≡ false) (λ _. refl)
          (λ other. by_held other (is_va_of (content past n) k) refl)
        where
          by_held : (f.0 == n) ≡ false → (d : Bool) → is_va_of (content past n) k ≡ d → d ≡ false
          by_held other false there = refl
          by_held other true there =
              absurd (false≢true (sym other ∙ eq-eqb f.0 n (arrays.once f.0 n k (here k e) (va_is (content past n) k there))))

      below : (k : ℕ) (words : List ℕ) (b : Bool) → same_page page (va_page k) ≡ b
          → cond b (Some (va_words past k)) (words_out past k) ≡ Some words → k < vas_made past
      below k words true e out = arrays.below f.0 k (ap array_in (here k e))
      below k words false e out = h.below k words out

  -- a version array page comes back, and others rest
  eld_rest : (page : Page) (version : ℕ) (tag : List ℕ) → EndsRightIn past f.0 (Moved page version tag)
      → ArraysRest (entry_of a (Did (Eld f) (Moved page version tag)) ∷ past)
  eld_rest page version tag right = record {
    rest = λ k words. rest k words (same_page page (va_page k));
    away = λ k words out n. away k words n (same_page page (va_page k)) refl out;
    below = λ k words. below k words (same_page page (va_page k));
    unmade = λ k index high. cond_both (names_slot (open_slot past f.0) (record { va = k; index = index })) 0
        (version_in past (record { va = k; index = index })) (λ v. v ≡ 0) (λ _. refl) (λ _. h.unmade k index high);
  }
    where
      x : Start
      x = right.back.ends.start

      rest : (k : ℕ) (words : List ℕ) (b : Bool) → cond b None (words_out past k) ≡ Some words
          → va_words (entry_of a (Did (Eld f) (Moved page version tag)) ∷ past) k ≡ words
      rest k words true out = cc out
      rest k words false out = (λ i. map (λ index. kept index i) (range_with_len 0 512)) ∙ h.rest k words out
        where
          kept : (index : ℕ) → cond (names_slot (open_slot past f.0) (record { va = k; index = index })) 0
              (version_in past (record { va = k; index = index })) ≡ version_in past (record { va = k; index = index })
          kept index = rw (out_not_named x k index words right.back.ends.opened out) refl

      away : (k : ℕ) (words : List ℕ) (n : ℕ) (b : Bool) → same_page page (va_page k) ≡ b → cond b None (words_out past k) ≡ Some words
          → is_va_of (cond (f.0 == n) (reloaded page (added past page)) (content past n)) k ≡ false
      away k words n true e out = cc out
      away k words n false e out =
          put_held past f.0 k n (reloaded page (added past page))
          (by_test (is_va_of (reloaded page (added past page)) k) refl) (h.away k words out n)
        where
          by_test : (d : Bool) → is_va_of (reloaded page (added past page)) k ≡ d → d ≡ false
          by_test false there = refl
          by_test true there = absurd (false≢true (sym e ∙ reloaded_va page (added past page) k there))

      below : (k : ℕ) (words : List ℕ) (b : Bool) → cond b None (words_out past k) ≡ Some words → k < vas_made past
      below k words true out = cc out
      below k words false out = h.below k words out

-- ---- each entry

-- no version array page is out at first
pub rests_first : ArraysRest []
rests_first = record {
  rest = λ k words out. cc out;
  away = λ k words out n. cc out;
  below = λ k words out. cc out;
  unmade = λ k index high. refl;
}

-- an entry leaves them at rest, where it takes no frame that is in use and ends what it may
pub rests_next : (past : List Entry) (a : Actor) (event : Event) → ArraysApart (vas_made past) (content past)
    → ((n : ℕ) (x : Start) → open_start past n ≡ Some x → IsFound past x) → EndsRight past event → ArraysRest past
    → ArraysRest (entry_of a event ∷ past)
rests_next past a (Did (Epa f) answer) arrays found right h = quiet_rest past _ h (record {
  words = λ k. refl;
  versions = λ s. refl;
  held = λ k n low away. put_held past f.0 k n (IsVa (vas_made past)) (apart (vas_made past) k (λ e. omega (arith, low, e))) away;
  made = omega arith;
})
rests_next past a (Did (Create enclave f base size) answer) arrays found right h = quiet_rest past _ h (record {
  words = λ k. refl;
  versions = λ s. refl;
  held = λ k n low away. put_held past f.0 k n (SecsOf enclave) refl away;
  made = omega arith;
})
rests_next past a (Did (Add enclave number f kind perm init) answer) arrays found right h = quiet_rest past _ h (record {
  words = λ k. refl;
  versions = λ s. refl;
  held = λ k n low away. put_held past f.0 k n (Holds (page_at enclave number) kind perm) refl away;
  made = omega arith;
})
rests_next past a (Did (EldStart f page at) answer) arrays found right h = quiet_rest past _ h (record {
  words = λ k. refl;
  versions = λ s. refl;
  held = λ k n low away. put_held past f.0 k n (IsLoading page) refl away;
  made = omega arith;
})
rests_next past a (Refused (Eld f) why) arrays found right h = quiet_rest past _ h (record {
  words = λ k. refl;
  versions = λ s. refl;
  held = λ k n low away. put_held past f.0 k n Free refl away;
  made = omega arith;
})
rests_next past a (Did (Ewb f) answer) arrays found right h =
    subst (λ x. ArraysRest (entry_of a (Did (Ewb f) x) ∷ past)) (sym right.ends.told)
    (ewb_rest past a f arrays found h right.ends.page right.ends.version right.ends.tag
    (subst (EndsRightOut past f.0) right.ends.told right))
rests_next past a (Did (Eld f) answer) arrays found right h =
    subst (λ x. ArraysRest (entry_of a (Did (Eld f) x) ∷ past)) (sym right.back.told)
    (eld_rest past a f arrays found h right.back.page right.back.version right.back.tag
    (subst (EndsRightIn past f.0) right.back.told right))
rests_next past a event arrays found right h = quiet_rest past (entry_of a event) h (record {
  words = λ k. refl;
  versions = λ s. refl;
  held = λ k n low away. away;
  made = omega arith;
})
