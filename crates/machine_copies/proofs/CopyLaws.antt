-- Each page that there is has one live copy, and frames and slots hold nothing else.
use Rattle.std.proofs.Common.{◌≡◌, ℕ, ◌<◌, ◌≤◌, ◌==◌, ◌&&◌, not, Bool, true, false, cond, refl, sym, ap, subst, ◌∙◌, arith}
use Rattle.std.proofs.Common.{Option, Some, None, is_some, nat_lt, List, [], ◌∷◌, Any}
use Rattle.std.proofs.lemmas.Bool.{cond_both, false≢true, eqb-true, eq-eqb}
use Rattle.sgx_rules.specs.declared.entries.Entry.{Entry}
use Rattle.sgx_rules.specs.declared.entries.Event.{Event}
use Rattle.sgx_rules.specs.declared.entries.Event.TheVariants.{Did, Refused}
use Rattle.sgx_types.specs.declared.names.Actor.{Actor}
use Rattle.sgx_rules.specs.declared.entries.Action.TheVariants.{Epa, Create, Add, Init, Ewb, EldStart, Eld}
use Rattle.sgx_rules.specs.declared.entries.Answer.TheVariants.{Moved}
use Rattle.sgx_types.specs.declared.names.Frame.{Frame}
use Rattle.sgx_types.specs.declared.names.Kind.{Kind}
use Rattle.sgx_types.specs.declared.names.Page.{Page}
use Rattle.sgx_types.specs.declared.names.Perm.{Perm}
use Rattle.sgx_types.specs.declared.names.TheConstants.{SECS_NUMBER}
use Rattle.sgx_types.specs.declared.names.VaSlot.{VaSlot}
use Rattle.sgx_rules.specs.inner.Enclaves.{created, is_there}
use Rattle.sgx_rules.specs.Flat.{enclave_sight, flat}
use Rattle.sgx_types.specs.Pages.{page_at, same_page}
use Rattle.sgx_rules.specs.Frames.{Content, Free, IsVa, SecsOf, Holds, IsLoading, added, content, reloaded, reloaded_as}
use Rattle.sgx_types.specs.Pages.{secs_page, va_page}
use Rattle.sgx_rules.specs.Frames.{stands, vas_made}
use Rattle.sgx_rules.specs.Rules.{RefusalRule}
use Rattle.sgx_rules.specs.Sights.{row_at, secs_sight_at, sight_at}
use Rattle.sgx_types.specs.Pages.{same_slot}
use Rattle.sgx_rules.specs.Slots.{open_slot, slot_of, version_in}
use Rattle.sgx_rules.specs.Starts.{Start, open_start}
use Rattle.sgx_rules.specs.Table.{epa_row}
use Rattle.machine_copies.specs.inner.Copies.{InFrame, InSlot, OneLiveCopy, copy, copy_after, in_slot}
use Rattle.sgx_rules.specs.Fresh.{FreshRule, IsLastOut, Out, last_out, out_after}
use Rattle.sgx_types.specs.Making.{Making}
use Rattle.sgx_rules.specs.Ends.{EndsIn}
use Rattle.machine_copies.specs.inner.Once.{DrawnOnce, Gone, IsGone, KeepsMoves, StartsApart, gone, gone_after}
use Rattle.machine_copies.proofs.DrawnLaws.{drawn_once}
use Rattle.machine_copies.proofs.ThereLaws.{Makes, add_makes, create_makes, epa_makes, marked_there, nothing_there, there_still}
use Rattle.sgx_rules.proofs.Contents.{empty_there, one_there, there_is}
use Rattle.sgx_types.proofs.Pages.{same_page-refl, same_pages, same_slot-refl, same_slots}
use Rattle.sgx_rules.proofs.Rows.{none_holds}
use Rattle.machine_copies.proofs.OpenStarts.{any_head, any_rest, entry_of}
use Rattle.machine_copies.proofs.StartLaws.{add_free, starts_apart}

-- ---- frames

-- a page stands in no two frames
one_frame : (past : List Entry) → OneLiveCopy past → (m n : ℕ) (g : Page) → stands (content past m) g ≡ true
    → stands (content past n) g ≡ true → m ≡ n
one_frame past live m n g h k = same_frame (sym (live.framed m g h) ∙ live.framed n g k)
  where
    same_frame : Some (InFrame m) ≡ Some (InFrame n) → m ≡ n
    same_frame e = cc

-- ---- pages that went out

-- a last write-out was under this version
abbrev pub IsUnder : ℕ → Option Out → Type 0
IsUnder v o = (tag : List ℕ) × (o ≡ Some (record { version = v; tag = tag }))

-- a copy in a slot has the version of the page's last write-out
pub copy_is_last : (past : List Entry) (g : Page) (s : VaSlot) (v : ℕ) → copy past g ≡ Some (InSlot s v) → IsUnder v (last_out past g)
copy_is_last [] g s v there = cc
copy_is_last (e ∷ past) g s v there = by_event e.event there (copy_is_last past g s v)
  where
    by_add : (b : Bool) (n : ℕ) → cond b (Some (InFrame n)) (copy past g) ≡ Some (InSlot s v)
        → (copy past g ≡ Some (InSlot s v) → IsUnder v (last_out past g)) → IsUnder v (last_out past g)
    by_add true n k before = cc
    by_add false n k before = before k

    by_slot : (o : Option Start) (w : ℕ) → in_slot o w ≡ Some (InSlot s v) → w ≡ v
    by_slot None w k = cc
    by_slot (Some start) w k = cc

    by_ewb : (b : Bool) (o : Option Start) (w : ℕ) (tag : List ℕ) → cond b (in_slot o w) (copy past g) ≡ Some (InSlot s v)
        → (copy past g ≡ Some (InSlot s v) → IsUnder v (last_out past g))
        → IsUnder v (cond b (Some (record { version = w; tag = tag })) (last_out past g))
    by_ewb true o w tag k before = (tag, λ i. Some (record { version = by_slot o w k i; tag = tag }))
    by_ewb false o w tag k before = before k

    by_eld : (b : Bool) (n : ℕ) → cond b (Some (InFrame n)) (copy past g) ≡ Some (InSlot s v)
        → (copy past g ≡ Some (InSlot s v) → IsUnder v (last_out past g)) → IsUnder v (cond b None (last_out past g))
    by_eld true n k before = cc
    by_eld false n k before = before k

    by_event : (ev : Event) → copy_after ev (vas_made past) (open_start past) g (copy past g) ≡ Some (InSlot s v)
        → (copy past g ≡ Some (InSlot s v) → IsUnder v (last_out past g)) → IsUnder v (out_after ev g (last_out past g))
    by_event (Did (Epa f) answer) k before = by_add (same_page (va_page (vas_made past)) g) f.0 k before
    by_event (Did (Create enclave f base size) answer) k before = by_add (same_page (secs_page enclave) g) f.0 k before
    by_event (Did (Add enclave number f kind perm init) answer) k before = by_add (same_page (page_at enclave number) g) f.0 k before
    by_event (Did (Ewb f) (Moved page version tag)) k before = by_ewb (same_page page g) (open_start past f.0) version tag k before
    by_event (Did (Eld f) (Moved page version tag)) k before = by_eld (same_page page g) f.0 k before
    by_event _ k before = before k

-- a page that is out went out under the version of its last write-out
pub out_is_gone : (past : List Entry) (g : Page) (o : Out) → last_out past g ≡ Some o
    → IsGone past (record { page = g; version = o.version })
out_is_gone [] g o h = cc
out_is_gone (e ∷ past) g o h = by_event e.event h (out_is_gone past g o)
  where
    kept : (b : Bool) → cond b None (last_out past g) ≡ Some o → last_out past g ≡ Some o
    kept true k = cc
    kept false k = k

    told : (x : Out) → Some x ≡ Some o → x.version ≡ o.version
    told x k = let same : x ≡ o = cc in ap (λ (y : Out). y.version) same

    by_page : (page : Page) (w : ℕ) (tag : List ℕ) (b : Bool) → same_page page g ≡ b
        → cond b (Some (record { version = w; tag = tag })) (last_out past g) ≡ Some o
        → (last_out past g ≡ Some o → IsGone past (record { page = g; version = o.version }))
        → Any (λ one. one ≡ record { page = g; version = o.version }) (record { page = page; version = w } ∷ gone past)
    by_page page w tag true is k before = any_head (λ one. one ≡ _) _ (gone past)
        (λ i. record { page = same_pages page g is i; version = told (record { version = w; tag = tag }) k i })
    by_page page w tag false is k before = any_rest (λ one. one ≡ _) _ (gone past) (before k)

    by_event : (ev : Event) → out_after ev g (last_out past g) ≡ Some o
        → (last_out past g ≡ Some o → IsGone past (record { page = g; version = o.version }))
        → Any (λ one. one ≡ record { page = g; version = o.version }) (gone_after ev (gone past))
    by_event (Did (Ewb f) (Moved page version tag)) k before = by_page page version tag (same_page page g) refl k before
    by_event (Did (Eld f) (Moved page version tag)) k before = before (kept (same_page page g) k)
    by_event _ k before = before k

-- .. and so did a page whose copy is in a slot
pub went_out : (past : List Entry) (g : Page) (s : VaSlot) (v : ℕ) → copy past g ≡ Some (InSlot s v)
    → IsGone past (record { page = g; version = v })
went_out past g s v there = let last = copy_is_last past g s v there in out_is_gone past g _ last.1

-- so a page that went out under the version of a slot has its live copy there
pub whose_copy : (first : ℕ) (past : List Entry) → OneLiveCopy past → DrawnOnce first past → (s : VaSlot) (g : Page) → 0 < version_in past s
    → IsGone past (record { page = g; version = version_in past s }) → copy past g ≡ Some (InSlot s (version_in past s))
whose_copy first past live drawn s g more out =
    let there = live.filled s more in
    let same = drawn.once _ _ (went_out past there.0 s (version_in past s) there.1) out refl in
    let pages : there.0 ≡ g = ap (λ (x : Gone). x.page) same in
    rw (← pages) there.1

-- ---- each entry

-- each page that there is has one live copy, and no other page has one
pub record IsLive (past : List Entry) : Type 0 where
  pub one : OneLiveCopy past
  pub known : (g : Page) → is_some (copy past g) ≡ true → is_there past g ≡ true

-- where a frame held no page and then holds none, each page stands where it stood
unpaged : (past : List Entry) (f : ℕ) (c : Content) → ((g : Page) → stands c g ≡ false) → ((g : Page) → stands (content past f) g ≡ false)
    → (n : ℕ) (g : Page)
    → stands (cond (f == n) c (content past n)) g ≡ stands (content past n) g
unpaged past f c after before n g =
    cond_both (f == n) c (content past n) (λ x. stands x g ≡ stands (content past n) g)
    (λ here. after g ∙ sym (ap (λ m. stands (content past m) g) (sym (eqb-true f n here)) ∙ before g)) (λ _. refl)

-- an entry that moves no page
live_still : (past : List Entry) (e : Entry) → ((g : Page) → copy (e ∷ past) g ≡ copy past g)
    → ((n : ℕ) (g : Page) → stands (content (e ∷ past) n) g ≡ stands (content past n) g)
    → ((s : VaSlot) → version_in (e ∷ past) s ≡ version_in past s) → ((g : Page) → is_there (e ∷ past) g ≡ is_there past g) → IsLive past
    → IsLive (e ∷ past)
live_still past e copies pages versions there live = record {
  one = record {
    some = λ g is. ap is_some (copies g) ∙ live.one.some g (sym (there g) ∙ is);
    framed = λ n g. rw (pages n g, copies g) (live.one.framed n g);
    back = λ n g. rw (pages n g, copies g) (live.one.back n g);
    slotted = λ s v g. rw (copies g, versions s) (live.one.slotted s v g);
    filled = λ s. rw (versions s) (λ more. let old = live.one.filled s more in (old.0, copies old.0 ∙ old.1));
    alone = λ s v w g h. rw (copies g, copies h) (live.one.alone s v w g h);
  };
  known = λ g is. there g ∙ live.known g (sym (ap is_some (copies g)) ∙ is);
}

-- a page that stands in no frame comes into one that held none
record Comes (past : List Entry) (f : ℕ) (g : Page) (c : Content) : Type 0 where
  pub held : (h : Page) → stands c h ≡ same_page g h
  pub vacant : (h : Page) → stands (content past f) h ≡ false
  pub away : (n : ℕ) → copy past g ≡ Some (InFrame n) → ⊥

-- .. then frames hold the pages whose copies they are
framed_there : (past : List Entry) (f : ℕ) (g : Page) (c : Content) → OneLiveCopy past → Comes past f g c → (n : ℕ) (h : Page)
    → stands (cond (f == n) c (content past n)) h ≡ true → cond (same_page g h) (Some (InFrame f)) (copy past h) ≡ Some (InFrame n)
framed_there past f g c live comes n h = by_tests (f == n) refl (same_page g h) refl
  where
    by_tests : (b : Bool) → (f == n) ≡ b → (d : Bool) → same_page g h ≡ d → stands (cond b c (content past n)) h ≡ true
        → cond d (Some (InFrame f)) (copy past h) ≡ Some (InFrame n)
    by_tests true e true k is = ap (λ m. Some (InFrame m)) (eqb-true f n e)
    by_tests true e false k is = absurd (false≢true (sym k ∙ sym (comes.held h) ∙ is))
    by_tests false e true k is = absurd (comes.away n (live.framed n g (rw (same_pages g h k) is)))
    by_tests false e false k is = live.framed n h is

-- .. and each copy that is a frame is there
back_there : (past : List Entry) (f : ℕ) (g : Page) (c : Content) → OneLiveCopy past → Comes past f g c → (n : ℕ) (h : Page)
    → cond (same_page g h) (Some (InFrame f)) (copy past h) ≡ Some (InFrame n) → stands (cond (f == n) c (content past n)) h ≡ true
back_there past f g c live comes n h = by_tests (f == n) refl (same_page g h) refl
  where
    by_tests : (b : Bool) → (f == n) ≡ b → (d : Bool) → same_page g h ≡ d → cond d (Some (InFrame f)) (copy past h) ≡ Some (InFrame n)
        → stands (cond b c (content past n)) h ≡ true
    by_tests true e true k is = comes.held h ∙ k
    by_tests false e true k is = let same : f ≡ n = cc in absurd (false≢true (sym e ∙ eq-eqb f n same))
    by_tests true e false k is = absurd (false≢true (sym (comes.vacant h) ∙ rw (← eqb-true f n e) at (live.back n h is)))
    by_tests false e false k is = live.back n h is

-- what cannot be a value is none
no_value : {X : Type 0} (o : Option X) → (is_some o ≡ true → ⊥) → o ≡ None
no_value None h = refl
no_value (Some x) h = absurd (h refl)

-- a page is made, and comes into a frame
module _ (past : List Entry) (e : Entry) (f : ℕ) (g : Page) (c : Content) (live : IsLive past) where
  record MakesIn : Type 0 where
    pub copies : (h : Page) → copy (e ∷ past) h ≡ cond (same_page g h) (Some (InFrame f)) (copy past h)
    pub puts : (n : ℕ) → content (e ∷ past) n ≡ cond (f == n) c (content past n)
    pub versions : (t : VaSlot) → version_in (e ∷ past) t ≡ version_in past t
    pub makes : Makes past e g
    pub held : (h : Page) → stands c h ≡ same_page g h
    pub vacant : (h : Page) → stands (content past f) h ≡ false

  live_new : MakesIn → IsLive (e ∷ past)
  live_new q = record {
    one = record {
      some = λ h there. ap is_some (q.copies h) ∙ some h (same_page g h) refl there;
      framed = λ n h is. q.copies h ∙ framed_there past f g c live.one comes n h (sym (ap (λ x. stands x h) (q.puts n)) ∙ is);
      back = λ n h is. ap (λ x. stands x h) (q.puts n) ∙ back_there past f g c live.one comes n h (sym (q.copies h) ∙ is);
      slotted = λ t w h is. q.versions t ∙ slotted t w h (same_page g h) (sym (q.copies h) ∙ is);
      filled = λ t more. let old = live.one.filled t (subst (λ v. 0 < v) (q.versions t) more) in
          (old.0, q.copies old.0 ∙ kept old.0 t (version_in past t) old.1 ∙ ap (λ v. Some (InSlot t v)) (sym (q.versions t)));
      alone = λ t x y h i p r. alone t x y h i (same_page g h) (same_page g i) (sym (q.copies h) ∙ p) (sym (q.copies i) ∙ r);
    };
    known = λ h is. known h (same_page g h) refl (sym (ap is_some (q.copies h)) ∙ is);
  }
    where
      new : copy past g ≡ None
      new = no_value (copy past g) (λ is. false≢true (sym q.makes.fresh ∙ live.known g is))

      comes : Comes past f g c
      comes = record { held = q.held; vacant = q.vacant; away = λ n is. cc (is, new) }

      some : (h : Page) (b : Bool) → same_page g h ≡ b → is_there (e ∷ past) h ≡ true
          → is_some (cond b (Some (InFrame f)) (copy past h)) ≡ true
      some h true same there = refl
      some h false other there = live.one.some h (q.makes.others h there other)

      known : (h : Page) (b : Bool) → same_page g h ≡ b → is_some (cond b (Some (InFrame f)) (copy past h)) ≡ true
          → is_there (e ∷ past) h ≡ true
      known h true same is = subst (λ x. is_there (e ∷ past) x ≡ true) (same_pages g h same) q.makes.there
      known h false other is = there_still past e h (live.known h is)

      slotted : (t : VaSlot) (w : ℕ) (h : Page) (b : Bool) → cond b (Some (InFrame f)) (copy past h) ≡ Some (InSlot t w)
          → version_in past t ≡ w
      slotted t w h true is = cc is
      slotted t w h false is = live.one.slotted t w h is

      kept : (h : Page) (t : VaSlot) (w : ℕ) → copy past h ≡ Some (InSlot t w)
          → cond (same_page g h) (Some (InFrame f)) (copy past h) ≡ Some (InSlot t w)
      kept h t w is =
          cond_both (same_page g h) (Some (InFrame f)) (copy past h) (λ o. o ≡ Some (InSlot t w))
          (λ same. let here : copy past g ≡ Some (InSlot t w) = rw (same_pages g h same) is in cc (here, new)) (λ _. is)

      alone : (t : VaSlot) (x y : ℕ) (h i : Page) (b d : Bool)
          → cond b (Some (InFrame f)) (copy past h) ≡ Some (InSlot t x) → cond d (Some (InFrame f)) (copy past i) ≡ Some (InSlot t y)
          → h ≡ i
      alone t x y h i true d p r = cc p
      alone t x y h i false true p r = cc r
      alone t x y h i false false p r = live.one.alone t x y h i p r

-- a page goes out into an empty slot
live_ewb : (past : List Entry) → IsLive past → (a : Actor) (f : Frame) (g : Page) (v : ℕ) (tag : List ℕ) (start : Start)
    → stands (content past f.0) g ≡ true → open_start past f.0 ≡ Some start → version_in past start.slot ≡ 0
    → ((t : VaSlot) (w : ℕ) (h : Page) → copy past h ≡ Some (InSlot t w) → 0 < w)
    → IsLive (entry_of a (Did (Ewb f) (Moved g v tag)) ∷ past)
live_ewb past live a f g v tag start held opened empty above = record {
  one = record {
    some = λ h. rw opened (some h (same_page g h));
    framed = λ n h. framed n h (f.0 == n) refl (same_page g h) refl;
    back = λ n h. back n h (f.0 == n) refl (same_page g h) refl;
    slotted = λ t w h. rw opened (slotted t w h (same_page g h) refl (same_slot s t) refl);
    filled = λ t. rw opened (filled t (same_slot s t) refl);
    alone = λ t x y h i. rw opened (alone t x y h i (same_page g h) refl (same_page g i) refl);
  };
  known = λ h. rw opened (known h (same_page g h) refl);
}
  where
    s : VaSlot
    s = start.slot

    was : copy past g ≡ Some (InFrame f.0)
    was = live.one.framed f.0 g held

    some : (h : Page) (b : Bool) → is_there past h ≡ true → is_some (cond b (Some (InSlot s v)) (copy past h)) ≡ true
    some h true k = refl
    some h false k = live.one.some h k

    known : (h : Page) (b : Bool) → same_page g h ≡ b → is_some (cond b (Some (InSlot s v)) (copy past h)) ≡ true
        → is_there past h ≡ true
    known h true same k = live.known h (rw (← same_pages g h same, was) refl)
    known h false other k = live.known h k

    framed : (n : ℕ) (h : Page) (b : Bool) → (f.0 == n) ≡ b → (c : Bool) → same_page g h ≡ c
        → stands (cond b Free (content past n)) h ≡ true → cond c (in_slot (open_start past f.0) v) (copy past h) ≡ Some (InFrame n)
    framed n h true e c k is = cc
    framed n h false e true k is =
        absurd (false≢true (sym e ∙ eq-eqb f.0 n (one_frame past live.one f.0 n h (rw (← same_pages g h k) held) is)))
    framed n h false e false k is = live.one.framed n h is

    back : (n : ℕ) (h : Page) (b : Bool) → (f.0 == n) ≡ b → (c : Bool) → same_page g h ≡ c
        → cond c (in_slot (open_start past f.0) v) (copy past h) ≡ Some (InFrame n) → stands (cond b Free (content past n)) h ≡ true
    back n h b e true k is = let moved : Some (InSlot s v) ≡ Some (InFrame n) = rw opened at is in cc
    back n h true e false k is =
        let there : stands (content past f.0) h ≡ true = rw (eqb-true f.0 n e) (live.one.back n h is) in
        absurd (false≢true (sym k ∙ ap (same_page g) (sym (one_there (content past f.0) g h held there)) ∙ same_page-refl g))
    back n h false e false k is = live.one.back n h is

    taken : (t : VaSlot) (w : ℕ) (h : Page) → s ≡ t → copy past h ≡ Some (InSlot t w) → ⊥
    taken t w h same is =
        let old = live.one.slotted t w h is in
        let none : version_in past t ≡ 0 = rw (← same) empty in
        omega (arith, old, none, above t w h is)

    slotted : (t : VaSlot) (w : ℕ) (h : Page) (c : Bool) → same_page g h ≡ c → (d : Bool) → same_slot s t ≡ d
        → cond c (Some (InSlot s v)) (copy past h) ≡ Some (InSlot t w) → cond d v (version_in past t) ≡ w
    slotted t w h true k true e is = cc
    slotted t w h true k false e is = let same : s ≡ t = cc in absurd (false≢true (sym e ∙ ap (same_slot s) (sym same) ∙ same_slot-refl s))
    slotted t w h false k true e is = absurd (taken t w h (same_slots s t e) is)
    slotted t w h false k false e is = live.one.slotted t w h is

    filled : (t : VaSlot) (d : Bool) → same_slot s t ≡ d → 0 < cond d v (version_in past t)
        → (h : Page) × (cond (same_page g h) (Some (InSlot s v)) (copy past h) ≡ Some (InSlot t (cond d v (version_in past t))))
    filled t true e more = (g, rw (same_page-refl g, same_slots s t e) refl)
    filled t false e more = let old = live.one.filled t more in (old.0, other old.0 (same_page g old.0) refl old.1)
      where
        other : (h : Page) (c : Bool) → same_page g h ≡ c → copy past h ≡ Some (InSlot t (version_in past t))
            → cond c (Some (InSlot s v)) (copy past h) ≡ Some (InSlot t (version_in past t))
        other h false k is = is
        other h true k is = let same : copy past g ≡ Some (InSlot t (version_in past t)) = rw (same_pages g h k) is in cc (was, same)

    alone : (t : VaSlot) (x y : ℕ) (h i : Page) (c : Bool) → same_page g h ≡ c → (d : Bool) → same_page g i ≡ d
        → cond c (Some (InSlot s v)) (copy past h) ≡ Some (InSlot t x) → cond d (Some (InSlot s v)) (copy past i) ≡ Some (InSlot t y)
        → h ≡ i
    alone t x y h i true k true l a b = sym (same_pages g h k) ∙ same_pages g i l
    alone t x y h i true k false l a b = absurd (taken t y i (cc) b)
    alone t x y h i false k true l a b = absurd (taken t x h (cc) a)
    alone t x y h i false k false l a b = live.one.alone t x y h i a b

-- a page that is back is the one that was to come
pub reloaded_there : (past : List Entry) (g : Page) → is_there past g ≡ true → (h : Page)
    → stands (reloaded g (added past g)) h ≡ same_page g h
reloaded_there past g there h = by_name (g.enclave == 0) refl (g.number == SECS_NUMBER) refl there
  where
    own : (o : Option (Kind × Perm)) → is_some o ≡ true → stands (reloaded_as g o) h ≡ same_page g h
    own None is = cc is
    own (Some k) is = refl

    by_name : (va : Bool) → (g.enclave == 0) ≡ va → (last : Bool) → (g.number == SECS_NUMBER) ≡ last
        → cond va (nat_lt g.number (vas_made past)) (cond (not va && last) (is_some (created past g.enclave)) (is_some (added past g)))
        ≡ true
        → stands (cond va (IsVa g.number) (cond (not va && last) (SecsOf g.enclave) (reloaded_as g (added past g)))) h ≡ same_page g h
    by_name true e last l is = ap (λ n. (n == h.enclave) && (g.number == h.number)) (sym (eqb-true g.enclave 0 e))
    by_name false e true l is = ap (λ n. (g.enclave == h.enclave) && (n == h.number)) (sym (eqb-true g.number SECS_NUMBER l))
    by_name false e false l is = own (added past g) is

-- a page comes back from its slot
live_eld : (past : List Entry) → IsLive past → (a : Actor) (f : Frame) (g : Page) (told v : ℕ) (tag : List ℕ) (start : Start)
    → content past f.0 ≡ IsLoading g → open_start past f.0 ≡ Some start → copy past g ≡ Some (InSlot start.slot v)
    → IsLive (entry_of a (Did (Eld f) (Moved g told tag)) ∷ past)
live_eld past live a f g told v tag start loading opened was = record {
  one = record {
    some = λ h. some h (same_page g h);
    framed = framed_there past f.0 g c live.one comes;
    back = back_there past f.0 g c live.one comes;
    slotted = λ t w h. rw slot (slotted t w h (same_page g h) refl (same_slot s t) refl);
    filled = λ t. rw slot (filled t (same_slot s t) refl);
    alone = λ t x y h i. alone t x y h i (same_page g h) (same_page g i);
  };
  known = λ h. known h (same_page g h) refl;
}
  where
    s : VaSlot
    s = start.slot

    c : Content
    c = reloaded g (added past g)

    slot : open_slot past f.0 ≡ Some s
    slot = ap slot_of opened

    comes : Comes past f.0 g c
    comes = record { held = reloaded_there past g (live.known g (rw was refl)); vacant = λ h. rw loading refl; away = λ n is. cc (is, was) }

    some : (h : Page) (b : Bool) → is_there past h ≡ true → is_some (cond b (Some (InFrame f.0)) (copy past h)) ≡ true
    some h true k = refl
    some h false k = live.one.some h k

    known : (h : Page) (b : Bool) → same_page g h ≡ b → is_some (cond b (Some (InFrame f.0)) (copy past h)) ≡ true
        → is_there past h ≡ true
    known h true same k = live.known h (rw (← same_pages g h same, was) refl)
    known h false other k = live.known h k

    slotted : (t : VaSlot) (w : ℕ) (h : Page) (b : Bool) → same_page g h ≡ b → (d : Bool) → same_slot s t ≡ d
        → cond b (Some (InFrame f.0)) (copy past h) ≡ Some (InSlot t w) → cond d 0 (version_in past t) ≡ w
    slotted t w h true k d e is = cc
    slotted t w h false k true e is =
        let here : copy past h ≡ Some (InSlot s w) = rw (same_slots s t e) is in
        absurd (false≢true (sym k ∙ ap (same_page g) (sym (live.one.alone s v w g h was here)) ∙ same_page-refl g))
    slotted t w h false k false e is = live.one.slotted t w h is

    filled : (t : VaSlot) (d : Bool) → same_slot s t ≡ d → 0 < cond d 0 (version_in past t)
        → (h : Page) × (cond (same_page g h) (Some (InFrame f.0)) (copy past h) ≡ Some (InSlot t (cond d 0 (version_in past t))))
    filled t true e more = absurd (omega (arith, more))
    filled t false e more = let old = live.one.filled t more in (old.0, other old.0 (same_page g old.0) refl old.1)
      where
        other : (h : Page) (b : Bool) → same_page g h ≡ b → copy past h ≡ Some (InSlot t (version_in past t))
            → cond b (Some (InFrame f.0)) (copy past h) ≡ Some (InSlot t (version_in past t))
        other h false k is = is
        other h true k is =
            let same : copy past g ≡ Some (InSlot t (version_in past t)) = rw (same_pages g h k) is in
            let slots : s ≡ t = cc (was, same) in
            absurd (false≢true (sym e ∙ ap (same_slot s) (sym slots) ∙ same_slot-refl s))

    alone : (t : VaSlot) (x y : ℕ) (h i : Page) (b d : Bool)
        → cond b (Some (InFrame f.0)) (copy past h) ≡ Some (InSlot t x) → cond d (Some (InFrame f.0)) (copy past i) ≡ Some (InSlot t y)
        → h ≡ i
    alone t x y h i true d p q = cc
    alone t x y h i false true p q = cc
    alone t x y h i false false p q = live.one.alone t x y h i p q

-- ---- every list of entries

-- an entry that keeps the rules leaves each page one live copy
live_more : (k : Making) (past : List Entry) (e : Entry) → 1 ≤ k.first_version → KeepsMoves k past → RefusalRule k past e
    → FreshRule k.first_version past e
    → IsLive past → IsLive (e ∷ past)
live_more k past e low keeps refusal fresh live = by_event e.event refusal fresh
  where
    a : Actor
    a = e.actor

    drawn : DrawnOnce k.first_version past
    drawn = drawn_once k past keeps

    apart : StartsApart k.frames past
    apart = starts_apart k past keeps

    above : (t : VaSlot) (w : ℕ) (h : Page) → copy past h ≡ Some (InSlot t w) → 0 < w
    above t w h is = let ended = drawn.ended _ (went_out past h t w is) in omega (arith, ended.0, low)

    loading : (n : ℕ) (g : Page) → EndsIn past n g → (h : Page) → stands (content past n) h ≡ false
    loading n g ends h = rw (apart.loading n ends.start g ends.opened ends.loads) refl

    -- the page's copy is in the slot of the start that ends
    slotted : (n : ℕ) (g : Page) (version : ℕ) (tag : List ℕ) (ends : EndsIn past n g) → IsLastOut past n g version tag
        → copy past g ≡ Some (InSlot ends.start.slot (version_in past ends.start.slot))
    slotted n g version tag ends last =
        let found = apart.found n ends.start g ends.opened ends.loads in
        let at : version_in past ends.start.slot ≡ version = rw ends.opened at last.slot in
        whose_copy k.first_version past live.one drawn ends.start.slot g (omega (arith, found.0, found.1))
        (rw at (out_is_gone past g _ last.last))

    by_event : (ev : Event) → RefusalRule k past (entry_of a ev)
        → FreshRule k.first_version past (entry_of a ev) → IsLive (entry_of a ev ∷ past)
    by_event (Did (Epa f) answer) refusal fresh =
        let none = none_holds (epa_row (sight_at k.frames past f.0)) refusal.0 in
        live_new past _ f.0 (va_page (vas_made past)) (IsVa (vas_made past)) live (record {
          copies = λ h. refl;
          puts = λ n. refl;
          versions = λ t. refl;
          makes = epa_makes past a f answer;
          held = λ h. refl;
          vacant = empty_there (content past f.0) none.1.1.0;
        })
    by_event (Did (Create enclave f base size) answer) refusal fresh =
        let none = none_holds (row_at k past a (Create enclave f base size)) refusal.0 in
        live_new past _ f.0 (secs_page enclave) (SecsOf enclave) live (record {
          copies = λ h. refl;
          puts = λ n. refl;
          versions = λ t. refl;
          makes = create_makes k past a enclave f base size answer keeps.refusal none;
          held = λ h. refl;
          vacant = empty_there (content past f.0) none.1.1.1.0;
        })
    by_event (Did (Add enclave number f kind perm init) answer) refusal fresh =
        let none = none_holds (row_at k past a (Add enclave number f kind perm init)) refusal.0 in
        live_new past _ f.0 (page_at enclave number) (Holds (page_at enclave number) kind perm) live (record {
          copies = λ h. refl;
          puts = λ n. refl;
          versions = λ t. refl;
          makes = add_makes k past a enclave number f kind perm init answer keeps.refusal none;
          held = λ h. refl;
          vacant = λ h. rw (add_free past f.0 number kind perm init (enclave_sight (flat past) enclave)
              (secs_sight_at k.frames past enclave) _
              k.frames none) refl;
        })
    by_event (Did (EldStart f page slot) answer) refusal fresh =
        let none = none_holds (row_at k past a (EldStart f page slot)) refusal.0 in
        live_still past _ (λ g. refl) (unpaged past f.0 (IsLoading page) (λ g. refl) (empty_there (content past f.0) none.1.1.1.1.1.0))
        (λ s. refl)
        (λ g. refl) live
    by_event (Did (Ewb f) answer) refusal fresh =
        let out = refusal.1 in
        rw out.told
        (live_ewb past live a f out.page out.version out.tag out.start (there_is (content past f.0) out.page out.held) out.opened
        (apart.empty f.0 out.start out.opened out.writes) above)
    by_event (Did (Eld f) answer) refusal fresh =
        let back = refusal.1 in
        let ends = back.ends in
        let last : IsLastOut past f.0 back.page back.version back.tag = rw back.told at fresh.reload in
        rw back.told
        (live_eld past live a f back.page back.version (version_in past ends.start.slot) back.tag ends.start
        (apart.loading f.0 ends.start back.page ends.opened ends.loads) ends.opened
        (slotted f.0 back.page back.version back.tag ends last))
    by_event (Refused (Eld f) why) unfit fresh =
        live_still past _ (λ g. refl) (unpaged past f.0 Free (λ g. refl) (loading f.0 unfit.page unfit.ends)) (λ s. refl) (λ g. refl) live
    by_event (Did (Init enclave expect) answer) refusal fresh =
        live_still past _ (λ g. refl) (λ n g. refl) (λ s. refl) (λ g. marked_there past a enclave expect answer g) live
    by_event ev refusal fresh = live_still past (entry_of a ev) (λ g. refl) (λ n g. refl) (λ s. refl) (λ g. refl) live

-- where the rules are kept, each page that there is has one live copy, and no other page has one
pub all_live : (k : Making) (past : List Entry) → 1 ≤ k.first_version → KeepsMoves k past → IsLive past
all_live k [] low keeps = record {
  one = record {
    some = λ g is. absurd (false≢true (sym (nothing_there g) ∙ is));
    framed = λ n g is. cc;
    back = λ n g is. cc;
    slotted = λ s v g is. cc;
    filled = λ s more. absurd (omega (arith, more));
    alone = λ s v w g h is. cc;
  };
  known = λ g is. cc;
}
all_live k (e ∷ past) low keeps =
    let before : KeepsMoves k past = record {
      refusal = keeps.refusal.1;
      flat = keeps.flat.1;
      evict = keeps.evict.1;
      fresh = keeps.fresh.1;
    } in
    live_more k past e low before keeps.refusal.0 keeps.fresh.0 (all_live k past low before)

-- .. of which the contract tells the first
pub live_copies : (k : Making) (past : List Entry) → 1 ≤ k.first_version → KeepsMoves k past → OneLiveCopy past
live_copies k past low keeps = (all_live k past low keeps).one

-- ---- versions in slots

-- a copy in a slot is of a version that was drawn
pub version_above : (k : Making) (past : List Entry) → 1 ≤ k.first_version → KeepsMoves k past → (s : VaSlot) (v : ℕ) (g : Page)
    → copy past g ≡ Some (InSlot s v) → 1 ≤ v
version_above k past low keeps s v g there =
    let drawn = (drawn_once k past keeps).ended _ (went_out past g s v there) in
    let first = drawn.0 in
    omega (arith, low, first)

-- .. once, so no two slots have it
pub version_apart : (k : Making) (past : List Entry) → 1 ≤ k.first_version → KeepsMoves k past → (s t : VaSlot) → 0 < version_in past s
    → version_in past s ≡ version_in past t → s ≡ t
version_apart k past low keeps s t more same =
    let live = live_copies k past low keeps in
    let one = live.filled s more in
    let other = live.filled t (subst (λ n. 0 < n) same more) in
    let page = (drawn_once k past keeps).once _ _ (went_out past one.0 s (version_in past s) one.1)
    (went_out past other.0 t (version_in past t) other.1) same in
    same_slot_of (sym one.1 ∙ ap (λ (x : Gone). copy past x.page) page ∙ other.1)
  where
    same_slot_of : {v w : ℕ} → Some (InSlot s v) ≡ Some (InSlot t w) → s ≡ t
    same_slot_of e = cc
