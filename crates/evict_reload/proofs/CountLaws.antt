-- What an enclave counts of the frames once one of them holds something else.
use Rattle.std.proofs.Common.{length-set, ◌≡◌, ◌≢◌, ℕ, ◌+◌, ◌-◌, ◌<◌, ◌≤◌, ◌^◌, ◌==◌, ◌&&◌, ◌||◌, not, Bool, true, false, cond, refl, sym}
use Rattle.std.proofs.Common.{ap, ◌∙◌, subst, arith}
use Rattle.std.proofs.Common.{List, Option, Some, None, IfSome, is_some, length, get_or, nat_le, nat_lt, option_map}
use Rattle.std.proofs.lemmas.Bool.{cond_both, eqb-true, eqb-false, eq-eqb, false≢true, leb-false, leb-true}
use Rattle.std.proofs.lemmas.List.{get_or_past}
use Rattle.std.specs.Option.{option_and_then}
use Rattle.sgx_types.specs.declared.names.TheConstants.{MOST_FRAMES, SECS_NUMBER}
use Rattle.sgx_types.specs.Cases.{first_of_row}
use Rattle.sgx_rules.specs.Table.{FrameSight, LoadSight, SlotSight, eldstart_row, is_busy}
use Rattle.sgx_rules.proofs.Contents.{free_there}
use Rattle.sgx_rules.proofs.Rows.{none_holds}
use Rattle.sgx_types.proofs.Truths.{neither, not_false}
use Rattle.epcm_entry.specs.inner.EntryView.{goes_out, holding}
use Rattle.sgx_types.specs.declared.names.Frame.{Frame}
use Rattle.sgx_types.specs.declared.names.Page.{Page}
use Rattle.sgx_types.specs.declared.names.Kind.{Kind}
use Rattle.sgx_types.specs.declared.names.Kind.TheVariants as kinds
use Rattle.sgx_types.specs.declared.names.Perm.{Perm}
use Rattle.sgx_types.specs.Pages.{is_own_page}
use Rattle.sgx_rules.specs.Frames.{Content, Free, Holds, IsLoading, IsVa, SecsOf, children, is_child, is_secs_of, secs_frame}
use Rattle.sgx_types.proofs.CountLaws.{count_below-agrees, count_below-le, count_below-put, one_if}
use Rattle.sgx_types.proofs.LeastLaws.{least_agrees}
use Rattle.epcm_entry.specs.declared.entry_view.EntryView.TheVariants as views
use Rattle.epcm_entry.specs.declared.entry_view.EntryView.{EntryView}
use Rattle.epcm_entry.specs.inner.Epc.{EpcFrame, cleared, entry_at, free_frame, with_loading, with_page}
use Rattle.epcm_entry.specs.inner.Words.{words_of}
use Rattle.epcm_entry.specs.inner.Sights.{content_of, held, held_in, sight_in}
use Rattle.epcm_entry.proofs.Columns.{entry_at-cleared, entry_at-with_entry, entry_at-with_words, length-cleared}
use Rattle.epcm_entry.proofs.Columns.{length-with_entry, length-with_words}
use Rattle.secs_state.specs.inner.Resident.{IsCountedIn}
use Rattle.secs_state.specs.inner.Secs.{SecsState, added_at, with_children, with_frame}
use Rattle.secs_state.specs.inner.Table.{enclave_at, with_enclave}
use Rattle.secs_state.proofs.Columns.{enclave_at-with_enclave}
use Rattle.secs_state.proofs.Counted.{counted_put}
use Rattle.evict_reload.specs.inner.Effects.{SameBeside, beside, with_child, with_child_of, with_frame_of, with_kind}
use Rattle.evict_reload.specs.inner.Effects.{with_page_of, without_child, without_child_of, without_page_of}
use Rattle.evict_reload.specs.inner.Sights.{AreCountedIn, is_added, is_kind_own, is_known, load_sight}

-- what frames hold once one of them waits for a page
held-loading : (epc : List EpcFrame) (f : ℕ) (page : Page) → f < length epc → (n : ℕ)
    → held_in (with_loading epc f page) n ≡ cond (f == n) (IsLoading page) (held_in epc n)
held-loading epc f page low n =
    ap held (entry_at-with_entry epc f n (views.Loading page) low) ∙ moved (f == n) (entry_at epc n)
  where
    moved : (b : Bool) (v : EntryView) → held (cond b (views.Loading page) v) ≡ cond b (IsLoading page) (held v)
    moved true v = refl
    moved false v = refl

-- the counts are right once a free frame waits for a page of an enclave that was created, or for one of none
pub loading_counted : (epc : List EpcFrame) (table : List (Option SecsState)) (f : ℕ) (page : Page) → f < length epc
    → held_in epc f ≡ Free → length table ≡ 8 → (is_own_page page ≡ true → (1 ≤ page.enclave) × (page.enclave ≤ 8)) → AreCountedIn epc table
    → AreCountedIn (with_loading epc f page) (with_child table page)
loading_counted epc table f page low free eight numbered h e = by_page (is_own_page page) refl
  where
    new : ℕ → Content
    new = held_in (with_loading epc f page)

    frames_same : length (with_loading epc f page) ≡ length epc
    frames_same = length-with_entry epc f (views.Loading page)

    -- an enclave's counts, with one page more or none
    one : (x y : SecsState) → y.frame ≡ x.frame → y.children ≡ x.children + one_if (is_child (IsLoading page) e)
        → IsCountedIn (length epc) (held_in epc) e x → IsCountedIn (length (with_loading epc f page)) new e y
    one x y frame more was = rw frames_same
        (counted_put (length epc) (held_in epc) new f (IsLoading page) e x y low (held-loading epc f page low) (rw free refl) refl frame
        (rw free (omega (arith, more))) was)

    same_one : is_child (IsLoading page) e ≡ false → (o : Option SecsState) → IfSome o (IsCountedIn (length epc) (held_in epc) e)
        → IfSome o (IsCountedIn (length (with_loading epc f page)) new e)
    same_one none None was = tt
    same_one none (Some x) was = one x x refl (rw none (omega arith)) was

    by_enclave : (o : Option SecsState) → is_own_page page ≡ true → enclave_at table page.enclave ≡ o
        → IfSome (enclave_at (with_child_of table page.enclave o) e) (IsCountedIn (length (with_loading epc f page)) new e)
    by_enclave None own is = by_number (page.enclave == e) refl
      where
        by_number : (b : Bool) → (page.enclave == e) ≡ b → IfSome (enclave_at table e)
            (IsCountedIn (length (with_loading epc f page)) new e)
        by_number false other = same_one (rw (own, other) refl) (enclave_at table e) (h e)
        by_number true here = rw (ap (enclave_at table) (sym (eqb-true page.enclave e here)) ∙ is) tt
    by_enclave (Some x) own is =
        rw (enclave_at-with_enclave table page.enclave e (with_children x (x.children + 1)) eight (numbered own).0 (numbered own).1)
        (by_number (page.enclave == e) refl)
      where
        by_number : (b : Bool) → (page.enclave == e) ≡ b
            → IfSome (cond b (Some (with_children x (x.children + 1))) (enclave_at table e))
            (IsCountedIn (length (with_loading epc f page)) new e)
        by_number false other = same_one (rw (own, other) refl) (enclave_at table e) (h e)
        by_number true here =
            let was : IsCountedIn (length epc) (held_in epc) e x =
            subst (λ o. IfSome o (IsCountedIn (length epc) (held_in epc) e))
            (ap (enclave_at table) (sym (eqb-true page.enclave e here)) ∙ is) (h e) in
            one x (with_children x (x.children + 1)) refl (rw (own, here) refl) was

    by_page : (b : Bool) → is_own_page page ≡ b
        → IfSome (enclave_at (cond b (with_child_of table page.enclave (enclave_at table page.enclave)) table) e)
        (IsCountedIn (length (with_loading epc f page)) new e)
    by_page false other = same_one (rw other refl) (enclave_at table e) (h e)
    by_page true own = by_enclave (enclave_at table page.enclave) own refl

-- an enclave that was created has a number from 1 to 8
numbered_there : (table : List (Option SecsState)) (e : ℕ) → length table ≡ 8 → is_some (enclave_at table e) ≡ true → (1 ≤ e) × (e ≤ 8)
numbered_there table e eight there = by_zero (e == 0) refl there
  where
    by_zero : (b : Bool) → (e == 0) ≡ b → is_some (cond b None (get_or table (e - 1) None)) ≡ true → (1 ≤ e) × (e ≤ 8)
    by_zero true none is = cc is
    by_zero false some is = (omega (arith, eqb-false e 0 some), by_end (nat_le e 8) refl)
      where
        by_end : (b : Bool) → nat_le e 8 ≡ b → e ≤ 8
        by_end true low = leb-true e 8 low
        by_end false high =
            let past = leb-false e 8 high in
            absurd (false≢true (sym (ap is_some (get_or_past table (e - 1) None (omega (arith, eight, past)))) ∙ is))

-- a page that there is, and that is an enclave's own, is of such an enclave
known_numbered : (made : ℕ) (table : List (Option SecsState)) (page : Page) → length table ≡ 8 → is_known made table page ≡ true
    → is_own_page page ≡ true → (1 ≤ page.enclave) × (page.enclave ≤ 8)
known_numbered made table page eight known own = by_name (page.enclave == 0) (page.number == SECS_NUMBER) own known
  where
    there : (o : Option SecsState) → is_some (option_and_then (λ secs. added_at secs page.number) o) ≡ true → is_some o ≡ true
    there None is = cc is
    there (Some x) is = refl

    by_name : (va last : Bool) → (not va && not last) ≡ true
        → cond va (nat_lt page.number made) (cond (not va && last) (is_some (enclave_at table page.enclave)) (is_added table page)) ≡ true
        → (1 ≤ page.enclave) × (page.enclave ≤ 8)
    by_name true last is k = cc is
    by_name false true is k = cc is
    by_name false false is k = numbered_there table page.enclave eight (there (enclave_at table page.enclave) k)

-- a start of ELDU that is not refused is of such a page, and of a free frame of the EPC
pub start_numbered : (s : FrameSight) (epc : List EpcFrame) (made : ℕ) (table : List (Option SecsState)) (page : Page) (slot : SlotSight)
    → length table ≡ 8 → first_of_row (eldstart_row s (load_sight epc made table page) slot) ≡ None
    → is_own_page page ≡ true → (1 ≤ page.enclave) × (page.enclave ≤ 8)
start_numbered s epc made table page slot eight row own =
    known_numbered made table page eight
    (not_false (is_known made table page) (none_holds (eldstart_row s (load_sight epc made table page) slot) row).1.0) own

pub start_free : (epc : List EpcFrame) (f : ℕ) (load : LoadSight) (slot : SlotSight)
    → first_of_row (eldstart_row (sight_in epc f) load slot) ≡ None → (f < length epc) × (held_in epc f ≡ Free)
start_free epc f load slot row =
    let none = none_holds (eldstart_row (sight_in epc f) load slot) row in
    let range = neither (nat_le (length epc) f || slot.frame.is_beyond) slot.is_beyond none.0 in
    let frames = neither (nat_le (length epc) f) slot.frame.is_beyond range.0 in
    let idle = neither (is_busy (sight_in epc f)) slot.is_busy none.1.1.1.1.0 in
    (leb-false (length epc) f frames.0, free_there (held_in epc f) (goes_out (entry_at epc f)) idle.0 none.1.1.1.1.1.0)

-- no count comes to the end of its type
pub few_children : (epc : List EpcFrame) (table : List (Option SecsState)) (e : ℕ) → length epc ≤ MOST_FRAMES → AreCountedIn epc table
    → IfSome (enclave_at table e) (λ x. x.children < 2 ^ 32 - 1)
few_children epc table e small h = by_enclave (enclave_at table e) (h e)
  where
    by_enclave : (o : Option SecsState) → IfSome o (IsCountedIn (length epc) (held_in epc) e) → IfSome o (λ x. x.children < 2 ^ 32 - 1)
    by_enclave None was = tt
    by_enclave (Some x) was =
        let few = count_below-le (λ n. is_child (held_in epc n) e) (length epc) in omega (arith, few, was.children, small)

-- a frame by its number, if any
pub named_frame : (found : Option Frame) (o : Option ℕ) → option_map (λ (f : Frame). f.0) found ≡ o
    → found ≡ option_map (λ (n : ℕ). (let f : Frame = record { 0 = n } in f)) o
named_frame None None is = refl
named_frame None (Some n) is = cc is
named_frame (Some f) None is = cc is
named_frame (Some f) (Some n) is = let same : f.0 ≡ n = cc is in λ i. Some (record f { 0 = same i })

-- ---- what goes out

pub held-cleared : (epc : List EpcFrame) (f : ℕ) → f < length epc → (n : ℕ)
    → held_in (cleared epc f) n ≡ cond (f == n) Free (held_in epc n)
held-cleared epc f low n = ap held (entry_at-cleared epc f n low) ∙ moved (f == n) (entry_at epc n)
  where
    moved : (b : Bool) (v : EntryView) → held (cond b views.Free v) ≡ cond b Free (held v)
    moved true v = refl
    moved false v = refl

-- a table with one enclave changed counts right where that enclave and the others do
counted_table : (frames : ℕ) (new : ℕ → Content) (table : List (Option SecsState)) (e : ℕ) (x y : SecsState) → length table ≡ 8
    → enclave_at table e ≡ Some x → IsCountedIn frames new e y
    → ((n : ℕ) → (e == n) ≡ false → IfSome (enclave_at table n) (IsCountedIn frames new n)) → (n : ℕ)
    → IfSome (enclave_at (with_enclave table e y) n) (IsCountedIn frames new n)
counted_table frames new table e x y eight is here others n =
    let numbered = numbered_there table e eight (ap is_some is) in
    rw (enclave_at-with_enclave table e n y eight numbered.0 numbered.1) (by_number (e == n) refl)
  where
    by_number : (b : Bool) → (e == n) ≡ b → IfSome (cond b (Some y) (enclave_at table n)) (IsCountedIn frames new n)
    by_number false other = others n other
    by_number true same = subst (λ m. IsCountedIn frames new m y) (eqb-true e n same) here

module _ (epc : List EpcFrame) (table : List (Option SecsState)) (f : ℕ) (low : f < length epc) (eight : length table ≡ 8)
    (h : AreCountedIn epc table) where
  abbrev new : ℕ → Content
  new = held_in (cleared epc f)

  frames_same : length (cleared epc f) ≡ length epc
  frames_same = length-cleared epc f

  -- an enclave that had neither a page nor its SECS in the frame counts as before
  beside_counted : (e : ℕ) → is_secs_of (held_in epc f) e ≡ false → is_child (held_in epc f) e ≡ false
      → IfSome (enclave_at table e) (IsCountedIn (length (cleared epc f)) new e)
  beside_counted e no_secs no_child = by_enclave (enclave_at table e) (h e)
    where
      by_enclave : (o : Option SecsState) → IfSome o (IsCountedIn (length epc) (held_in epc) e)
          → IfSome o (IsCountedIn (length (cleared epc f)) new e)
      by_enclave None was = tt
      by_enclave (Some x) was = rw frames_same
          (counted_put (length epc) (held_in epc) new f Free e x x low (held-cleared epc f low) no_secs refl refl
          (rw no_child refl) was)

  -- a page went out, or its load was refused
  pub child_out : (e : ℕ) → ((n : ℕ) → is_child (held_in epc f) n ≡ (e == n)) → ((n : ℕ) → is_secs_of (held_in epc f) n ≡ false)
      → AreCountedIn (cleared epc f) (without_child_of table e (enclave_at table e))
  child_out e child no_secs = by_enclave (enclave_at table e) refl
    where
      others : (n : ℕ) → (e == n) ≡ false → IfSome (enclave_at table n) (IsCountedIn (length (cleared epc f)) new n)
      others n other = beside_counted n (no_secs n) (child n ∙ other)

      by_enclave : (o : Option SecsState) → enclave_at table e ≡ o → AreCountedIn (cleared epc f) (without_child_of table e o)
      by_enclave None is = λ n. by_number n (e == n) refl
        where
          by_number : (n : ℕ) (b : Bool) → (e == n) ≡ b → IfSome (enclave_at table n) (IsCountedIn (length (cleared epc f)) new n)
          by_number n false other = others n other
          by_number n true same = rw (ap (enclave_at table) (sym (eqb-true e n same)) ∙ is) tt
      by_enclave (Some x) is = counted_table (length (cleared epc f)) new table e x (with_children x (x.children - 1)) eight is here others
        where
          was : IsCountedIn (length epc) (held_in epc) e x
          was = subst (λ o. IfSome o (IsCountedIn (length epc) (held_in epc) e)) is (h e)

          one_there : is_child (held_in epc f) e ≡ true
          one_there = child e ∙ eq-eqb e e refl

          some : 1 ≤ x.children
          some =
              let one = count_below-put (λ n. is_child (held_in epc n) e) (length epc) f false low in
              omega (arith, rw one_there at one, was.children)

          here : IsCountedIn (length (cleared epc f)) new e (with_children x (x.children - 1))
          here = rw frames_same
              (counted_put (length epc) (held_in epc) new f Free e x (with_children x (x.children - 1)) low (held-cleared epc f low)
              (no_secs e) refl refl (rw one_there (omega (arith, some))) was)

  -- .. so before it the enclave had one
  pub child_there : (e : ℕ) → is_child (held_in epc f) e ≡ true → IfSome (enclave_at table e) (λ x. x.children ≢ 0)
  child_there e child = by_enclave (enclave_at table e) (h e)
    where
      by_enclave : (o : Option SecsState) → IfSome o (IsCountedIn (length epc) (held_in epc) e) → IfSome o (λ x. x.children ≢ 0)
      by_enclave None was = tt
      by_enclave (Some x) was = λ none.
          let one = count_below-put (λ n. is_child (held_in epc n) e) (length epc) f false low in
          omega (arith, rw child at one, was.children, none)

  -- a SECS went out
  pub secs_out : (enclave : ℕ) → held_in epc f ≡ SecsOf enclave
      → AreCountedIn (cleared epc f)
      (with_frame_of table enclave (secs_frame (length (cleared epc f)) new enclave) (enclave_at table enclave))
  secs_out enclave holds = by_enclave (enclave_at table enclave) refl
    where
      others : (n : ℕ) → (enclave == n) ≡ false → IfSome (enclave_at table n) (IsCountedIn (length (cleared epc f)) new n)
      others n other = beside_counted n (rw holds other) (rw holds refl)

      by_enclave : (o : Option SecsState) → enclave_at table enclave ≡ o
          → AreCountedIn (cleared epc f) (with_frame_of table enclave (secs_frame (length (cleared epc f)) new enclave) o)
      by_enclave None is = λ n. by_number n (enclave == n) refl
        where
          by_number : (n : ℕ) (b : Bool) → (enclave == n) ≡ b → IfSome (enclave_at table n) (IsCountedIn (length (cleared epc f)) new n)
          by_number n false other = others n other
          by_number n true same = rw (ap (enclave_at table) (sym (eqb-true enclave n same)) ∙ is) tt
      by_enclave (Some x) is = counted_table (length (cleared epc f)) new table enclave x _ eight is here others
        where
          was : IsCountedIn (length epc) (held_in epc) enclave x
          was = subst (λ o. IfSome o (IsCountedIn (length epc) (held_in epc) enclave)) is (h enclave)

          number : (o : Option ℕ) → option_map (λ (g : Frame). g.0) (option_map (λ (n : ℕ). (let g : Frame = record { 0 = n } in g)) o) ≡ o
          number None = refl
          number (Some n) = refl

          here : IsCountedIn (length (cleared epc f)) new enclave
              (with_frame x (option_map (λ (n : ℕ). (let g : Frame = record { 0 = n } in g))
              (secs_frame (length (cleared epc f)) new enclave)))
          here = record {
            children =
                let now : children (length epc) new enclave ≡ _ =
                count_below-agrees (λ n. is_child (new n) enclave) (λ n. cond (f == n) false (is_child (held_in epc n) enclave))
                (λ n. ap (λ v. is_child v enclave) (held-cleared epc f low n) ∙ moved (f == n) (held_in epc n)) (length epc) in
                let one = count_below-put (λ n. is_child (held_in epc n) enclave) (length epc) f false low in
                let none : is_child (held_in epc f) enclave ≡ false = rw holds refl in
                rw frames_same (omega (arith, now, rw none at one, was.children));
            frame = number (secs_frame (length (cleared epc f)) new enclave);
          }
            where
              moved : (b : Bool) (v : Content) → is_child (cond b Free v) enclave ≡ cond b false (is_child v enclave)
              moved true v = refl
              moved false v = refl

  -- a version array page went out
  pub array_out : (number : ℕ) → held_in epc f ≡ IsVa number → AreCountedIn (cleared epc f) table
  array_out number holds n = beside_counted n (rw holds refl) (rw holds refl)

-- what an entry's page leaves, by its kind
pub page_out : (epc : List EpcFrame) (table : List (Option SecsState)) (f : ℕ) (page : Page) (kind : Kind) (perm : Perm) → f < length epc
    → length table ≡ 8 → AreCountedIn epc table → held_in epc f ≡ content_of page kind perm
    → AreCountedIn (cleared epc f) (without_page_of (cleared epc f) table page kind)
page_out epc table f page kinds.Secs perm low eight h holds = secs_out epc table f low eight h page.enclave holds
page_out epc table f page kinds.Tcs perm low eight h holds =
    child_out epc table f low eight h page.enclave (λ n. rw holds refl) (λ n. rw holds refl)
page_out epc table f page kinds.Reg perm low eight h holds =
    child_out epc table f low eight h page.enclave (λ n. rw holds refl) (λ n. rw holds refl)
page_out epc table f page kinds.Va perm low eight h holds = array_out epc table f low eight h page.number holds

-- a page of an enclave counts in it while it is there
pub page_there : (epc : List EpcFrame) (table : List (Option SecsState)) (f : ℕ) (page : Page) (kind : Kind) (perm : Perm) → f < length epc
    → length table ≡ 8 → AreCountedIn epc table → held_in epc f ≡ content_of page kind perm → is_kind_own kind ≡ true
    → IfSome (enclave_at table page.enclave) (λ x. x.children ≢ 0)
page_there epc table f page kinds.Secs perm low eight h holds own = cc own
page_there epc table f page kinds.Tcs perm low eight h holds own =
    child_there epc table f low eight h page.enclave (rw (holds, eq-eqb page.enclave page.enclave refl) refl)
page_there epc table f page kinds.Reg perm low eight h holds own =
    child_there epc table f low eight h page.enclave (rw (holds, eq-eqb page.enclave page.enclave refl) refl)
page_there epc table f page kinds.Va perm low eight h holds own = cc own

-- a table that is as it was
same_beside : (table : List (Option SecsState)) → SameBeside table table
same_beside table = record { places = refl; each = λ n. refl }

-- what is changed of one enclave's counts changes nothing beside them
with_beside : (table : List (Option SecsState)) (e : ℕ) (x y : SecsState) → length table ≡ 8 → enclave_at table e ≡ Some x
    → beside y ≡ beside x
    → SameBeside table (with_enclave table e y)
with_beside table e x y eight is same = record {
  places = length-set table (e - 1) (Some y);
  each = λ n.
      let numbered = numbered_there table e eight (ap is_some is) in
      rw (enclave_at-with_enclave table e n y eight numbered.0 numbered.1)
      (cond_both (e == n) (Some y) (enclave_at table n) (λ v. option_map beside v ≡ option_map beside (enclave_at table n))
      (λ here. ap Some same ∙ ap (option_map beside) (sym is ∙ ap (enclave_at table) (eqb-true e n here))) (λ _. refl));
}

pub out_beside : (epc : List EpcFrame) (table : List (Option SecsState)) (page : Page) (kind : Kind) → length table ≡ 8
    → SameBeside table (without_page_of epc table page kind)
out_beside epc table page kind eight = by_kind kind (enclave_at table page.enclave) refl
  where
    by_kind : (k : Kind) (o : Option SecsState) → enclave_at table page.enclave ≡ o → SameBeside table (without_page_of epc table page k)
    by_kind kinds.Va o is = same_beside table
    by_kind kinds.Secs None is = rw is (same_beside table)
    by_kind kinds.Secs (Some x) is = rw is (with_beside table page.enclave x _ eight is refl)
    by_kind kinds.Tcs None is = rw is (same_beside table)
    by_kind kinds.Tcs (Some x) is = rw is (with_beside table page.enclave x _ eight is refl)
    by_kind kinds.Reg None is = rw is (same_beside table)
    by_kind kinds.Reg (Some x) is = rw is (with_beside table page.enclave x _ eight is refl)

-- a frame that is on its way out is of the EPC
pub sealing_within : (epc : List EpcFrame) (f : ℕ) → goes_out (entry_at epc f) ≡ true → f < length epc
sealing_within epc f leaves = by_order (nat_le (length epc) f) refl
  where
    by_order : (b : Bool) → nat_le (length epc) f ≡ b → f < length epc
    by_order false low = leb-false (length epc) f low
    by_order true past =
        let none = get_or_past epc f free_frame (leb-true (length epc) f past) in
        absurd (false≢true (sym (ap (λ (x : EpcFrame). goes_out x.entry) none) ∙ leaves))

-- ---- what comes in

module _ (epc after : List EpcFrame) (table : List (Option SecsState)) (f : ℕ) (c : Content) (low : f < length epc)
    (eight : length table ≡ 8)
    (h : AreCountedIn epc table) (frames_same : length after ≡ length epc)
    (put : (n : ℕ) → held_in after n ≡ cond (f == n) c (held_in epc n)) where
  -- an enclave with as many pages and with its SECS as before
  still_counted : (e : ℕ) → is_secs_of (held_in epc f) e ≡ false → is_secs_of c e ≡ false → is_child (held_in epc f) e ≡ is_child c e
      → IfSome (enclave_at table e) (IsCountedIn (length after) (held_in after) e)
  still_counted e no_secs none same = by_enclave (enclave_at table e) (h e)
    where
      by_enclave : (o : Option SecsState) → IfSome o (IsCountedIn (length epc) (held_in epc) e)
          → IfSome o (IsCountedIn (length after) (held_in after) e)
      by_enclave None was = tt
      by_enclave (Some x) was =
          rw frames_same (counted_put (length epc) (held_in epc) (held_in after) f c e x x low put no_secs none refl (rw same refl) was)

  -- a SECS came in
  secs_in : (enclave : ℕ) → ((n : ℕ) → (enclave == n) ≡ false → is_secs_of c n ≡ false) → ((n : ℕ) → is_secs_of (held_in epc f) n ≡ false)
      → ((n : ℕ) → is_child (held_in epc f) n ≡ is_child c n)
      → AreCountedIn after (with_frame_of table enclave (secs_frame (length after) (held_in after) enclave) (enclave_at table enclave))
  secs_in enclave none no_secs same = by_enclave (enclave_at table enclave) refl
    where
      others : (n : ℕ) → (enclave == n) ≡ false → IfSome (enclave_at table n) (IsCountedIn (length after) (held_in after) n)
      others n other = still_counted n (no_secs n) (none n other) (same n)

      by_enclave : (o : Option SecsState) → enclave_at table enclave ≡ o
          → AreCountedIn after (with_frame_of table enclave (secs_frame (length after) (held_in after) enclave) o)
      by_enclave None is = λ n. by_number n (enclave == n) refl
        where
          by_number : (n : ℕ) (b : Bool) → (enclave == n) ≡ b → IfSome (enclave_at table n) (IsCountedIn (length after) (held_in after) n)
          by_number n false other = others n other
          by_number n true here = rw (ap (enclave_at table) (sym (eqb-true enclave n here)) ∙ is) tt
      by_enclave (Some x) is = counted_table (length after) (held_in after) table enclave x _ eight is here others
        where
          was : IsCountedIn (length epc) (held_in epc) enclave x
          was = subst (λ o. IfSome o (IsCountedIn (length epc) (held_in epc) enclave)) is (h enclave)

          number : (o : Option ℕ) → option_map (λ (g : Frame). g.0) (option_map (λ (n : ℕ). (let g : Frame = record { 0 = n } in g)) o) ≡ o
          number None = refl
          number (Some n) = refl

          moved : (b : Bool) (v : Content) → is_child (cond b c v) enclave ≡ cond b (is_child c enclave) (is_child v enclave)
          moved true v = refl
          moved false v = refl

          here : IsCountedIn (length after) (held_in after) enclave
              (with_frame x (option_map (λ (n : ℕ). (let g : Frame = record { 0 = n } in g))
              (secs_frame (length after) (held_in after) enclave)))
          here = record {
            children =
                let now : children (length epc) (held_in after) enclave ≡ _ =
                count_below-agrees (λ n. is_child (held_in after n) enclave)
                (λ n. cond (f == n) (is_child c enclave) (is_child (held_in epc n) enclave))
                (λ n. ap (λ v. is_child v enclave) (put n) ∙ moved (f == n) (held_in epc n)) (length epc) in
                let one = count_below-put (λ n. is_child (held_in epc n) enclave) (length epc) f (is_child c enclave) low in
                rw frames_same (omega (arith, now, rw (same enclave) at one, was.children));
            frame = number (secs_frame (length after) (held_in after) enclave);
          }

-- what frames hold once one of them holds a page of a kind
held-page : (epc : List EpcFrame) (f : ℕ) (page : Page) (kind : Kind) (perm : Perm) → f < length epc → (n : ℕ)
    → held_in (with_page epc f page kind perm) n ≡ cond (f == n) (content_of page kind perm) (held_in epc n)
held-page epc f page kind perm low n =
    ap held (entry_at-with_entry epc f n (holding page kind perm) low) ∙ moved (f == n) (entry_at epc n)
  where
    moved : (b : Bool) (v : EntryView) → held (cond b (holding page kind perm) v) ≡ cond b (content_of page kind perm) (held v)
    moved true v = refl
    moved false v = refl

pub held-kind : (epc : List EpcFrame) (f : ℕ) (page : Page) (kind : Kind) (perm : Perm) (plain : List ℕ) → f < length epc → (n : ℕ)
    → held_in (with_kind epc f page kind perm plain) n ≡ cond (f == n) (content_of page kind perm) (held_in epc n)
held-kind epc f page kinds.Secs perm plain low n = held-page epc f page kinds.Secs perm low n
held-kind epc f page kinds.Va perm plain low n = held-page epc f page kinds.Va perm low n
held-kind epc f page kinds.Tcs perm plain low n =
    ap held (entry_at-with_words (with_page epc f page kinds.Tcs perm) f n (words_of plain)) ∙ held-page epc f page kinds.Tcs perm low n
held-kind epc f page kinds.Reg perm plain low n =
    ap held (entry_at-with_words (with_page epc f page kinds.Reg perm) f n (words_of plain)) ∙ held-page epc f page kinds.Reg perm low n

length-kind : (epc : List EpcFrame) (f : ℕ) (page : Page) (kind : Kind) (perm : Perm) (plain : List ℕ)
    → length (with_kind epc f page kind perm plain) ≡ length epc
length-kind epc f page kinds.Secs perm plain = length-with_entry epc f (holding page kinds.Secs perm)
length-kind epc f page kinds.Va perm plain = length-with_entry epc f (holding page kinds.Va perm)
length-kind epc f page kinds.Tcs perm plain =
    length-with_words (with_page epc f page kinds.Tcs perm) f (words_of plain) ∙ length-with_entry epc f (holding page kinds.Tcs perm)
length-kind epc f page kinds.Reg perm plain =
    length-with_words (with_page epc f page kinds.Reg perm) f (words_of plain) ∙ length-with_entry epc f (holding page kinds.Reg perm)

-- a page that was waited for is in
pub page_in : (epc : List EpcFrame) (table : List (Option SecsState)) (f : ℕ) (page : Page) (kind : Kind) (perm : Perm) (plain : List ℕ)
    → f < length epc → length table ≡ 8 → AreCountedIn epc table → held_in epc f ≡ IsLoading page → is_own_page page ≡ is_kind_own kind
    → AreCountedIn (with_kind epc f page kind perm plain) (with_page_of (with_kind epc f page kind perm plain) table page kind)
page_in epc table f page kinds.Secs perm plain low eight h holds own =
    secs_in epc (with_kind epc f page kinds.Secs perm plain) table f (SecsOf page.enclave) low eight h
    (length-kind epc f page kinds.Secs perm plain) (held-kind epc f page kinds.Secs perm plain low) page.enclave
    (λ n other. other) (λ n. rw holds refl) (λ n. rw (holds, own) refl)
page_in epc table f page kinds.Va perm plain low eight h holds own = λ n.
    still_counted epc (with_kind epc f page kinds.Va perm plain) table f (IsVa page.number) low eight h
    (length-kind epc f page kinds.Va perm plain) (held-kind epc f page kinds.Va perm plain low) n
    (rw holds refl) refl (rw (holds, own) refl)
page_in epc table f page kinds.Tcs perm plain low eight h holds own = λ n.
    still_counted epc (with_kind epc f page kinds.Tcs perm plain) table f (Holds page kinds.Tcs perm) low eight h
    (length-kind epc f page kinds.Tcs perm plain) (held-kind epc f page kinds.Tcs perm plain low) n
    (rw holds refl) refl (rw (holds, own) refl)
page_in epc table f page kinds.Reg perm plain low eight h holds own = λ n.
    still_counted epc (with_kind epc f page kinds.Reg perm plain) table f (Holds page kinds.Reg perm) low eight h
    (length-kind epc f page kinds.Reg perm plain) (held-kind epc f page kinds.Reg perm plain low) n
    (rw holds refl) refl (rw (holds, own) refl)

pub in_beside : (epc : List EpcFrame) (table : List (Option SecsState)) (page : Page) (kind : Kind) → length table ≡ 8
    → SameBeside table (with_page_of epc table page kind)
in_beside epc table page kind eight = by_kind kind (enclave_at table page.enclave) refl
  where
    by_kind : (k : Kind) (o : Option SecsState) → enclave_at table page.enclave ≡ o → SameBeside table (with_page_of epc table page k)
    by_kind kinds.Va o is = same_beside table
    by_kind kinds.Tcs o is = same_beside table
    by_kind kinds.Reg o is = same_beside table
    by_kind kinds.Secs None is = rw is (same_beside table)
    by_kind kinds.Secs (Some x) is = rw is (with_beside table page.enclave x _ eight is refl)

-- a page that comes leaves its enclave as it was, beside the counts
pub child_beside : (table : List (Option SecsState)) (page : Page) → length table ≡ 8 → SameBeside table (with_child table page)
child_beside table page eight = by_page (is_own_page page) (enclave_at table page.enclave) refl
  where
    by_page : (b : Bool) (o : Option SecsState) → enclave_at table page.enclave ≡ o
        → SameBeside table (cond b (with_child_of table page.enclave (enclave_at table page.enclave)) table)
    by_page false o is = same_beside table
    by_page true None is = rw is (same_beside table)
    by_page true (Some x) is = rw is (with_beside table page.enclave x _ eight is refl)

-- ---- a load that is refused

pub load_fails : (epc : List EpcFrame) (table : List (Option SecsState)) (f : ℕ) (page : Page) → f < length epc → length table ≡ 8
    → AreCountedIn epc table → held_in epc f ≡ IsLoading page → AreCountedIn (cleared epc f) (without_child table page)
load_fails epc table f page low eight h holds = by_page (is_own_page page) refl
  where
    by_page : (b : Bool) → is_own_page page ≡ b
        → AreCountedIn (cleared epc f) (cond b (without_child_of table page.enclave (enclave_at table page.enclave)) table)
    by_page true own = child_out epc table f low eight h page.enclave (λ n. rw (holds, own) refl) (λ n. rw holds refl)
    by_page false none = λ n. beside_counted epc table f low eight h n (rw holds refl) (rw (holds, none) refl)

pub load_counted : (epc : List EpcFrame) (table : List (Option SecsState)) (f : ℕ) (page : Page) → f < length epc → length table ≡ 8
    → AreCountedIn epc table → held_in epc f ≡ IsLoading page → is_own_page page ≡ true
    → IfSome (enclave_at table page.enclave) (λ x. x.children ≢ 0)
load_counted epc table f page low eight h holds own =
    child_there epc table f low eight h page.enclave (rw (holds, own, eq-eqb page.enclave page.enclave refl) refl)

pub fails_beside : (table : List (Option SecsState)) (page : Page) → length table ≡ 8 → SameBeside table (without_child table page)
fails_beside table page eight = by_page (is_own_page page) (enclave_at table page.enclave) refl
  where
    by_page : (b : Bool) (o : Option SecsState) → enclave_at table page.enclave ≡ o
        → SameBeside table (cond b (without_child_of table page.enclave (enclave_at table page.enclave)) table)
    by_page false o is = same_beside table
    by_page true None is = rw is (same_beside table)
    by_page true (Some x) is = rw is (with_beside table page.enclave x _ eight is refl)

-- a frame that waits for a page is of the EPC
pub loading_within : (epc : List EpcFrame) (f : ℕ) (page : Page) → held_in epc f ≡ IsLoading page → f < length epc
loading_within epc f page waits = by_order (nat_le (length epc) f) refl
  where
    by_order : (b : Bool) → nat_le (length epc) f ≡ b → f < length epc
    by_order false low = leb-false (length epc) f low
    by_order true past =
        let none = get_or_past epc f free_frame (leb-true (length epc) f past) in
        cc (sym (ap (λ (x : EpcFrame). held x.entry) none) ∙ waits)
