-- Pages that a pass has taken stand as before behind an entry of the reclaimer.
use Rattle.std.proofs.Common.{◌≡◌, ℕ, ◌+◌, ◌-◌, ◌≤◌, ◌==◌, Bool, true, false}
use Rattle.std.proofs.Common.{if◌then◌else◌, zero, suc, refl, sym, ◌∙◌, ap, subst, List, [], ◌∷◌, ◌++◌, drop, length}
use Rattle.std.proofs.Common.{length-append, min, Some, None, arith}
use Rattle.std.proofs.lemmas.Bool.{false≢true, or_right}
use Rattle.std.proofs.lemmas.List.{append_assoc, append-nil}
use Rattle.std.proofs.lemmas.List.Folds.{list_any-append}
use Rattle.sgx_types.proofs.Truths.{eqb-swap, neither, eqb-refl}
use Rattle.sgx_rules.specs.declared.entries.Action.TheVariants.{Block, Ewb, EwbStart, Track}
use Rattle.sgx_types.specs.declared.names.Actor.{Actor}
use Rattle.sgx_rules.specs.declared.entries.Answer.{Answer}
use Rattle.sgx_rules.specs.declared.entries.Entry.{Entry}
use Rattle.sgx_rules.specs.declared.entries.Event.{Event}
use Rattle.sgx_rules.specs.declared.entries.Event.TheVariants.{Age, Did, Kick, Refused}
use Rattle.sgx_rules.specs.declared.entries.Look.{Look}
use Rattle.sgx_types.specs.declared.names.Frame.{Frame}
use Rattle.sgx_types.specs.declared.names.Page.{Page}
use Rattle.sgx_types.specs.declared.names.SlotAt.{SlotAt}
use Rattle.sgx_types.specs.Pages.{is_own_page, same_page}
use Rattle.sgx_types.proofs.Pages.{same_page-swap}
use Rattle.sgx_rules.specs.Frames.{content, is_blocked, stands}
use Rattle.sgx_rules.specs.Starts.{open_start, started, version_told}
use Rattle.job_grammar.specs.Jobs.{JobView}
use Rattle.driver_rules.specs.Ages.{FormOf, FormUnless, head_of, InPass}
use Rattle.driver_rules.specs.Ages.{IsFrame, LookOf}
use Rattle.driver_rules.specs.Holds.{is_among}
use Rattle.driver_laws.specs.inner.Kinds.{CanMove}
use Rattle.driver_rules.specs.Passes.{aside, Between, block_on, Blocking, First}
use Rattle.driver_rules.specs.Passes.{Form, is_aside, keepers, Kicks, kicks_on, next_tries, Pass}
use Rattle.driver_rules.specs.Passes.{pass_by, Scan, scan_on, scanned, Sealing, Second, taken_by, Third, ToKick, ToTrack}
use Rattle.driver_rules.specs.Passes.{Tries}
use Rattle.driver_rules.specs.Places.{active, Here, Leaving}
use Rattle.driver_rules.specs.Places.{looked_at, place, to_tail}
use Rattle.driver_laws.specs.inner.Sound.{is_write_start, IsSound}
use Rattle.driver_laws.proofs.MarkLaws.{head_own}
use Rattle.driver_laws.proofs.MoveLaws.{place-taken}
use Rattle.driver_laws.proofs.SlotLaws.{none_open}
use Rattle.driver_laws.proofs.SoundLaws.{entry_of, head_here}
use Rattle.driver_laws.specs.inner.Stages.{AllWait, AreApart, HasPages, IsTaken, IsTrying, Stands}
use Rattle.driver_laws.specs.inner.Stages.{touches}
use Rattle.driver_laws.proofs.StillLaws.{frames_apart, place_apart, still}
use Rattle.sgx_types.specs.declared.names.Actor.TheVariants as actors
use Rattle.sgx_rules.specs.declared.entries.Look.TheVariants as looks
use Rattle.sgx_rules.specs.declared.refusals.Refusal.TheVariants as why
use Rattle.driver_rules.specs.Ages as ages

-- ---- lists of pages

apart_behind : (xs ys : List Page) → AreApart (xs ++ ys) → AreApart ys
apart_behind [] ys h = h
apart_behind (x ∷ xs) ys h = apart_behind xs ys h.1

apart_more : (gs : List Page) (g : Page) → AreApart gs → is_among gs g ≡ false → AreApart (gs ++ g ∷ [])
apart_more [] g h none = (refl, tt)
apart_more (x ∷ xs) g h none =
    let two = neither (same_page x g) (is_among xs g) none in
    (list_any-append (λ y. same_page y x) xs (g ∷ []) ∙ rw (h.0, same_page-swap g x, two.0) refl, apart_more xs g h.1 two.1)

wait_append : (past : List Entry) (b : Bool) (xs ys : List Page) → AllWait past b xs → AllWait past b ys → AllWait past b (xs ++ ys)
wait_append past b [] ys h k = k
wait_append past b (x ∷ xs) ys h k = (h.0, wait_append past b xs ys h.1 k)

-- ---- pages that wait

pub waits_kept : (past : List Entry) (e : Entry) (b : Bool) (g : Page) → IsSound past → CanMove past e.event → (w : IsTaken past b g)
    → touches e.event w.frame ≡ false → IsTaken (e ∷ past) b g
waits_kept past e b g s can w calm =
    let k = still past e g w.frame s can calm w.leaving in
    record { frame = w.frame; leaving = k.leaving; block = k.block ∙ w.block; start = k.start ∙ w.start }

abbrev pub IsCalm : Event → Type 0
IsCalm ev = (n : ℕ) → touches ev n ≡ false

all_kept : (past : List Entry) (e : Entry) (b : Bool) (gs : List Page) → IsSound past → CanMove past e.event → IsCalm e.event
    → AllWait past b gs → AllWait (e ∷ past) b gs
all_kept past e b [] s can calm h = tt
all_kept past e b (g ∷ gs) s can calm h = (waits_kept past e b g s can h.0 (calm h.0.frame), all_kept past e b gs s can calm h.1)

-- an entry that touches the frame of another page
others_kept : (past : List Entry) (e : Entry) (b : Bool) (g : Page) (n : ℕ) (gs : List Page) → IsSound past → CanMove past e.event
    → place past g ≡ Leaving n → ((m : ℕ) → (n == m) ≡ false → touches e.event m ≡ false)
    → is_among gs g ≡ false → AllWait past b gs → AllWait (e ∷ past) b gs
others_kept past e b g n [] s can at only none h = tt
others_kept past e b g n (x ∷ xs) s can at only none h =
    let two = neither (same_page x g) (is_among xs g) none in
    let apart =
    frames_apart past x g (Leaving h.0.frame) (Leaving n) h.0.frame n s h.0.leaving (eqb-refl h.0.frame) at (eqb-refl n) two.0 in
    (waits_kept past e b x s can h.0 (only h.0.frame (eqb-swap n h.0.frame ∙ apart)), others_kept past e b g n xs s can at only two.1 h.1)

-- a block leaves what is blocked
shut_kept : (past : List Entry) (a : Actor) (f : Frame) (answer : Answer) (gs : List Page) → AllWait past true gs
    → AllWait (entry_of a (Did (Block f) answer) ∷ past) true gs
shut_kept past a f answer [] h = tt
shut_kept past a f answer (g ∷ gs) h = (
  record {
    frame = h.0.frame;
    leaving = h.0.leaving;
    block = or_right (f.0 == h.0.frame)
        (is_blocked past h.0.frame) h.0.block;
    start = h.0.start;
  },
  shut_kept past a f answer gs h.1,
)

-- .. and the page of its frame is blocked
shut_now : (past : List Entry) (a : Actor) (f : Frame) (answer : Answer) (g : Page) → place past g ≡ Leaving f.0 → IsTaken past false g
    → IsTaken (entry_of a (Did (Block f) answer) ∷ past) true g
shut_now past a f answer g at w =
    record { frame = f.0; leaving = at; block = rw (eqb-refl f.0) refl; start = subst (λ n. open_start past n ≡ None) same w.start }
  where
    both : Leaving w.frame ≡ Leaving f.0
    both = sym w.leaving ∙ at

    same : w.frame ≡ f.0
    same = cc

-- a page that is here is none of those that wait
none_among : (past : List Entry) (b : Bool) (g : Page) (f : ℕ) (gs : List Page) → place past g ≡ Here f → AllWait past b gs
    → is_among gs g ≡ false
none_among past b g f [] at h = refl
none_among past b g f (x ∷ xs) at h =
    rw (place_apart past x g (Leaving h.0.frame) (Here f) h.0.leaving at (λ k. cc), none_among past b g f xs at h.1) refl

-- ---- what a pass goes on to

scanned_has : (past : List Entry) (taken : List Page) → AllWait past false taken → AreApart taken → HasPages past (scanned taken)
scanned_has past [] h apart = tt
scanned_has past (g ∷ gs) h apart = record { done = []; splits = refl; shut = tt; waiting = h; apart = apart }

scan_has : (past : List Entry) (left : ℕ) (taken : List Page) → left ≤ length (active past) → AllWait past false taken → AreApart taken
    → HasPages past (scan_on left taken)
scan_has past zero taken low h apart = scanned_has past taken h apart
scan_has past (suc left) taken low h apart = record { some = omega arith; enough = low; waiting = h; apart = apart }

tries_has : (past : List Entry) (rest : List Page) → AllWait past true rest → AreApart rest → HasPages past (next_tries rest)
tries_has past [] h apart = tt
tries_has past (g ∷ gs) h apart = record { page = h.0; waiting = h.1; apart = apart }

block_has : (past : List Entry) (due taken done : List Page) → taken ≡ done ++ due → AllWait past true done → AllWait past false due
    → AreApart taken → HasPages past (block_on due taken)
block_has past [] taken done splits shut loose apart =
    tries_has past taken (subst (AllWait past true) (sym (splits ∙ append-nil done)) shut) apart
block_has past (g ∷ gs) taken done splits shut loose apart =
    record { done = done; splits = splits; shut = shut; waiting = loose; apart = apart }

-- ---- looks

abbrev pub by_reclaimer : List Entry → Event → List Entry
by_reclaimer past ev = entry_of actors.Reclaimer ev ∷ past

head_some : (pages : List Page) (g : Page) → head_of pages ≡ Some g → 1 ≤ length pages
head_some [] g h = cc
head_some (x ∷ xs) g h = omega arith

looked_length : (look : Look) (pages : List Page) → length pages ≤ length (looked_at look pages) + 1
looked_length looks.Taken [] = omega arith
looked_length looks.Taken (x ∷ xs) = omega arith
looked_length looks.Young pages = turned_length pages
  where
    turned_length : (xs : List Page) → length xs ≤ length (to_tail xs) + 1
    turned_length [] = omega arith
    turned_length (x ∷ xs) = rw (length-append xs (x ∷ [])) omega arith
looked_length looks.Held pages = turned_length pages
  where
    turned_length : (xs : List Page) → length xs ≤ length (to_tail xs) + 1
    turned_length [] = omega arith
    turned_length (x ∷ xs) = rw (length-append xs (x ∷ [])) omega arith
looked_length looks.NoRoom pages = turned_length pages
  where
    turned_length : (xs : List Page) → length xs ≤ length (to_tail xs) + 1
    turned_length [] = omega arith
    turned_length (x ∷ xs) = rw (length-append xs (x ∷ [])) omega arith

-- the pages that were taken, behind one more look
look_has : (past : List Entry) (page : Page) (look : Look) (left : ℕ) (taken : List Page) → IsSound past → is_own_page page ≡ true
    → head_of (active past) ≡ Some page
    → ((g : Page) (f : ℕ) → place past g ≡ Here f → is_blocked past f ≡ false)
    → left ≤ length (active past) → AllWait past false taken → AreApart taken
    → HasPages (by_reclaimer past (Age page look)) (scan_on (left - 1) (taken ++ taken_by look page))
look_has past page look left taken s own head here low h apart =
    scan_has (by_reclaimer past (Age page look)) (left - 1) (taken ++ taken_by look page) less (waits look) (no_twice look)
  where
    can_look : (l : Look) → CanMove past (Age page l)
    can_look looks.Taken = (λ mine. head, λ other. absurd (false≢true (sym other ∙ own)))
    can_look looks.Young = λ mine. head
    can_look looks.Held = λ mine. head
    can_look looks.NoRoom = λ mine. head

    kept : (l : Look) → AllWait (by_reclaimer past (Age page l)) false taken
    kept l = all_kept past (entry_of actors.Reclaimer (Age page l)) false taken s (can_look l) (λ n. refl) h

    less : left - 1 ≤ length (active (by_reclaimer past (Age page look)))
    less = subst (λ b. left - 1 ≤ length (if b then looked_at look (active past) else active past)) (sym own)
        (let shorter = looked_length look (active past) in omega (arith, shorter, low))

    stands : (f : ℕ) × (place past page ≡ Here f)
    stands = head_here (active past) (place past) page s.list head

    new : IsTaken (by_reclaimer past (Age page looks.Taken)) false page
    new = record {
      frame = stands.0;
      leaving = place-taken past actors.Reclaimer page stands.0 stands.1;
      block = here page stands.0 stands.1;
      start = none_open (place past) (content past) (open_start past) page stands.0 s.places stands.1;
    }

    waits : (l : Look) → AllWait (by_reclaimer past (Age page l)) false (taken ++ taken_by l page)
    waits looks.Taken = wait_append (by_reclaimer past (Age page looks.Taken)) false taken (page ∷ []) (kept looks.Taken) (new, tt)
    waits looks.Young = wait_append (by_reclaimer past (Age page looks.Young)) false taken [] (kept looks.Young) tt
    waits looks.Held = wait_append (by_reclaimer past (Age page looks.Held)) false taken [] (kept looks.Held) tt
    waits looks.NoRoom = wait_append (by_reclaimer past (Age page looks.NoRoom)) false taken [] (kept looks.NoRoom) tt

    same : AreApart (taken ++ [])
    same = subst AreApart (sym (append-nil taken)) apart

    no_twice : (l : Look) → AreApart (taken ++ taken_by l page)
    no_twice looks.Taken = apart_more taken page apart (none_among past false page stands.0 taken stands.1 h)
    no_twice looks.Young = same
    no_twice looks.Held = same
    no_twice looks.NoRoom = same

-- ---- tries

pub going_kept : (past : List Entry) (e : Entry) (g : Page) → IsSound past → CanMove past e.event
    → ((n : ℕ) → place past g ≡ Leaving n → touches e.event n ≡ false)
    → Stands past g Sealing → Stands (e ∷ past) g Sealing
going_kept past e g s can calm w =
    let k = still past e g w.frame s can (calm w.frame w.leaving) w.leaving in
    record {
      frame = w.frame;
      leaving = k.leaving;
      start = w.start;
      opened = k.start ∙ w.opened;
      write = ap is_write_start k.start
          ∙ w.write;
    }

pub stands_kept : (past : List Entry) (e : Entry) (g : Page) (form : Form) → IsSound past → CanMove past e.event
    → ((n : ℕ) → place past g ≡ Leaving n → touches e.event n ≡ false)
    → Stands past g form → Stands (e ∷ past) g form
stands_kept past e g First s can calm w = waits_kept past e true g s can w (calm w.frame w.leaving)
stands_kept past e g ToTrack s can calm w = waits_kept past e true g s can w (calm w.frame w.leaving)
stands_kept past e g Second s can calm w = waits_kept past e true g s can w (calm w.frame w.leaving)
stands_kept past e g ToKick s can calm w = waits_kept past e true g s can w (calm w.frame w.leaving)
stands_kept past e g (Kicks rest) s can calm w = waits_kept past e true g s can w (calm w.frame w.leaving)
stands_kept past e g Third s can calm w = waits_kept past e true g s can w (calm w.frame w.leaving)
stands_kept past e g Sealing s can calm w = going_kept past e g s can calm w

-- a page behind its kicks
kicked_stands : (past : List Entry) (g : Page) (ps : List ℕ) → IsTaken past true g → Stands past g (kicks_on ps)
kicked_stands past g [] w = w
kicked_stands past g (p ∷ ps) w = w

-- an entry that leaves every frame, and another form in which the page waits
calm_has : (past : List Entry) (ev : Event) (g : Page) (rest : List Page) (form to : Form) → IsSound past → CanMove past ev → IsCalm ev
    → AllWait past true rest → AreApart (g ∷ rest) → Stands (by_reclaimer past ev) g to
    → HasPages (by_reclaimer past ev) (Tries g rest to)
calm_has past ev g rest form to s can calm waiting apart now =
    record { page = now; waiting = all_kept past (entry_of actors.Reclaimer ev) true rest s can calm waiting; apart = apart }

-- a page whose start is made
pub started_now : (past : List Entry) (a : Actor) (f : Frame) (to : SlotAt) (answer : Answer) (g : Page)
    → CanMove past (Did (EwbStart f to) answer) → IsFrame past g f.0 → Stands (entry_of a (Did (EwbStart f to) answer) ∷ past) g Sealing
started_now past a f to answer g can at = record {
  frame = f.0;
  leaving = at;
  start = record { at = to; slot = can.1; version = version_told answer; loads = None; place = length past; actor = a };
  opened = now;
  write = ap is_write_start now;
}
  where
    now : open_start (entry_of a (Did (EwbStart f to) answer) ∷ past) f.0
        ≡ Some (record { at = to; slot = can.1; version = version_told answer; loads = None; place = length past; actor = a })
    now = rw (eqb-refl f.0) (ap (started a (length past) to answer None) can.2)

-- a start
start_has : (past : List Entry) (f : Frame) (slot : SlotAt) (answer : Answer) (g : Page) (rest : List Page) → IsSound past
    → CanMove past (Did (EwbStart f slot) answer) → IsFrame past g f.0 → AllWait past true rest → AreApart (g ∷ rest)
    → HasPages (by_reclaimer past (Did (EwbStart f slot) answer)) (Tries g rest Sealing)
start_has past f slot answer g rest s can at waiting apart = record {
  page = started_now past actors.Reclaimer f slot answer g can at;
  waiting = others_kept past (entry_of actors.Reclaimer (Did (EwbStart f slot) answer)) true g f.0 rest s can at (λ m k. k) apart.0 waiting;
  apart = apart;
}

waits_on : (past : List Entry) (ev : Event) (g : Page) → IsSound past → CanMove past ev → IsCalm ev → IsTaken past true g
    → IsTaken (by_reclaimer past ev) true g
waits_on past ev g s can calm w = waits_kept past (entry_of actors.Reclaimer ev) true g s can w (calm w.frame)

-- behind the second refusal: the first kick, or the last try where nobody keeps the page back
to_kick : (j : JobView) (past : List Entry) (g : Page) (rest : List Page) (all : List ℕ) (ev : Event) → IsSound past → CanMove past ev
    → ages.IsInTries past g ev → ages.IsKickOrTry all ev → IsTrying past g rest ToKick
    → HasPages (by_reclaimer past ev) (pass_by j past ev (Tries g rest ToKick))
to_kick j past g rest (p ∷ ps) (Kick cpu) s can at kick k =
    calm_has past (Kick cpu) g rest ToKick (kicks_on (drop 1 (keepers past g))) s can (λ n. refl) k.waiting k.apart
    (kicked_stands (by_reclaimer past (Kick cpu)) g (drop 1 (keepers past g)) (waits_on past (Kick cpu) g s can (λ n. refl) k.page))
to_kick j past g rest [] (Did (EwbStart f slot) answer) s can at kick k = start_has past f slot answer g rest s can at k.waiting k.apart
to_kick j past g rest [] (Refused (EwbStart f slot) why.VersionSpent) s can at kick k =
    calm_has past (Refused (EwbStart f slot) why.VersionSpent) g rest ToKick ToKick s can (λ n. refl) k.waiting k.apart
    (waits_on past (Refused (EwbStart f slot) why.VersionSpent) g s can (λ n. refl) k.page)
to_kick j past g rest [] (Refused (EwbStart f slot) (why.SlotOccupied version)) s can at kick k =
    calm_has past (Refused (EwbStart f slot) (why.SlotOccupied version)) g rest ToKick Third s can (λ n. refl) k.waiting k.apart
    (waits_on past (Refused (EwbStart f slot) (why.SlotOccupied version)) g s can (λ n. refl) k.page)
to_kick j past g rest (p ∷ ps) _ s can at kick k = absurd kick
to_kick j past g rest [] _ s can at kick k = absurd kick

in_tries : (j : JobView) (past : List Entry) (g : Page) (rest : List Page) (form : Form) (ev : Event) → IsSound past → CanMove past ev
    → ages.IsInTries past g ev → ages.InForm past g form ev → IsTrying past g rest form
    → HasPages (by_reclaimer past ev) (pass_by j past ev (Tries g rest form))
in_tries j past g rest First (Did (EwbStart f slot) answer) s can at kick k = start_has past f slot answer g rest s can at k.waiting k.apart
in_tries j past g rest First (Refused (EwbStart f slot) why.VersionSpent) s can at kick k =
    calm_has past (Refused (EwbStart f slot) why.VersionSpent) g rest First First s can (λ n. refl) k.waiting k.apart
    (waits_on past (Refused (EwbStart f slot) why.VersionSpent) g s can (λ n. refl) k.page)
in_tries j past g rest First (Refused (EwbStart f slot) (why.NotTracked epoch older)) s can at kick k =
    calm_has past (Refused (EwbStart f slot) (why.NotTracked epoch older)) g rest First ToTrack s can (λ n. refl) k.waiting k.apart
    (waits_on past (Refused (EwbStart f slot) (why.NotTracked epoch older)) g s can (λ n. refl) k.page)
in_tries j past g rest First (Refused (EwbStart f slot) (why.SlotOccupied version)) s can at kick k =
    calm_has past (Refused (EwbStart f slot) (why.SlotOccupied version)) g rest First First s can (λ n. refl) k.waiting k.apart
    (waits_on past (Refused (EwbStart f slot) (why.SlotOccupied version)) g s can (λ n. refl) k.page)
in_tries j past g rest First _ s can at kick k = absurd kick
in_tries j past g rest ToTrack (Did (Track n) answer) s can at kick k =
    calm_has past (Did (Track n) answer) g rest ToTrack Second s can (λ m. refl) k.waiting k.apart
    (waits_on past (Did (Track n) answer) g s can (λ m. refl) k.page)
in_tries j past g rest ToTrack (Refused (Track n) why.EpochSpent) s can at kick k =
    calm_has past (Refused (Track n) why.EpochSpent) g rest ToTrack ToTrack s can (λ m. refl) k.waiting k.apart
    (waits_on past (Refused (Track n) why.EpochSpent) g s can (λ m. refl) k.page)
in_tries j past g rest ToTrack _ s can at kick k = absurd kick
in_tries j past g rest Second (Did (EwbStart f slot) answer) s can at kick k =
    start_has past f slot answer g rest s can at k.waiting k.apart
in_tries j past g rest Second (Refused (EwbStart f slot) why.VersionSpent) s can at kick k =
    calm_has past (Refused (EwbStart f slot) why.VersionSpent) g rest Second Second s can (λ n. refl) k.waiting k.apart
    (waits_on past (Refused (EwbStart f slot) why.VersionSpent) g s can (λ n. refl) k.page)
in_tries j past g rest Second (Refused (EwbStart f slot) (why.NotTracked epoch older)) s can at kick k =
    calm_has past (Refused (EwbStart f slot) (why.NotTracked epoch older)) g rest Second ToKick s can (λ n. refl) k.waiting k.apart
    (waits_on past (Refused (EwbStart f slot) (why.NotTracked epoch older)) g s can (λ n. refl) k.page)
in_tries j past g rest Second (Refused (EwbStart f slot) (why.SlotOccupied version)) s can at kick k =
    calm_has past (Refused (EwbStart f slot) (why.SlotOccupied version)) g rest Second Second s can (λ n. refl) k.waiting k.apart
    (waits_on past (Refused (EwbStart f slot) (why.SlotOccupied version)) g s can (λ n. refl) k.page)
in_tries j past g rest Second _ s can at kick k = absurd kick
in_tries j past g rest ToKick ev s can at kick k = to_kick j past g rest (keepers past g) ev s can at kick k
in_tries j past g rest (Kicks (p ∷ ps)) (Kick cpu) s can at kick k =
    calm_has past (Kick cpu) g rest (Kicks (p ∷ ps)) (kicks_on ps) s can (λ n. refl) k.waiting k.apart
    (kicked_stands (by_reclaimer past (Kick cpu)) g ps (waits_on past (Kick cpu) g s can (λ n. refl) k.page))
in_tries j past g rest (Kicks ps) _ s can at kick k = absurd kick
in_tries j past g rest Third (Did (EwbStart f slot) answer) s can at kick k = start_has past f slot answer g rest s can at k.waiting k.apart
in_tries j past g rest Third (Refused (EwbStart f slot) why.VersionSpent) s can at kick k =
    calm_has past (Refused (EwbStart f slot) why.VersionSpent) g rest Third Third s can (λ n. refl) k.waiting k.apart
    (waits_on past (Refused (EwbStart f slot) why.VersionSpent) g s can (λ n. refl) k.page)
in_tries j past g rest Third (Refused (EwbStart f slot) (why.SlotOccupied version)) s can at kick k =
    calm_has past (Refused (EwbStart f slot) (why.SlotOccupied version)) g rest Third Third s can (λ n. refl) k.waiting k.apart
    (waits_on past (Refused (EwbStart f slot) (why.SlotOccupied version)) g s can (λ n. refl) k.page)
in_tries j past g rest Third _ s can at kick k = absurd kick
in_tries j past g rest Sealing (Did (Ewb f) answer) s can at kick k =
    tries_has (by_reclaimer past (Did (Ewb f) answer)) rest (others_kept past
    (entry_of actors.Reclaimer (Did (Ewb f) answer)) true g f.0 rest s can at (λ m x. x) k.apart.0 k.waiting) k.apart.1
in_tries j past g rest Sealing _ s can at kick k = absurd kick

-- ---- an entry of the reclaimer

min_right : (a b : ℕ) → min a b ≤ b
min_right a b = omega arith

pub in_pass : (j : JobView) (past : List Entry) (p : Pass) (ev : Event) → IsSound past → CanMove past ev → LookOf j past ev
    → InPass past p ev → is_aside (aside past) ev ≡ false → FormOf past p actors.Reclaimer ev
    → ((g : Page) (f : ℕ) → place past g ≡ Here f → is_blocked past f ≡ false)
    → HasPages past p
    → HasPages (by_reclaimer past ev) (pass_by j past ev p)
in_pass j past (Between works) (Age page look) s can look_at at none kick here k =
    look_has past page look (min j.marks.scan (length (active past))) [] s (head_own past page s look_at.head) look_at.head here
    (min_right j.marks.scan (length (active past))) tt tt
in_pass j past (Scan left taken) (Age page look) s can look_at at none kick here k =
    look_has past page look left taken s (head_own past page s look_at.head) look_at.head here k.enough k.waiting k.apart
in_pass j past (Blocking (g ∷ gs) taken) (Did (Block f) answer) s can look_at at none kick here k =
    block_has (by_reclaimer past (Did (Block f) answer)) gs taken (k.done ++ g ∷ [])
    (k.splits ∙ sym (append_assoc k.done (g ∷ []) gs))
    (wait_append (by_reclaimer past (Did (Block f) answer)) true k.done (g ∷ []) (shut_kept past actors.Reclaimer f answer k.done k.shut)
    (shut_now past actors.Reclaimer f answer g at k.waiting.0, tt))
    (others_kept past (entry_of actors.Reclaimer (Did (Block f) answer)) false g f.0 gs s can at (λ m x. x)
    (apart_behind k.done (g ∷ gs) (subst AreApart k.splits k.apart)).0 k.waiting.1)
    k.apart
in_pass j past (Blocking [] taken) (Did (Block f) answer) s can look_at at none kick here k = absurd at
in_pass j past (Tries g rest form) ev s can look_at at none kick here k =
    in_tries j past g rest form ev s can at (subst (λ b. FormUnless past b g form ev) none kick) k
in_pass j past _ ev s can look_at at none kick here k = absurd at
