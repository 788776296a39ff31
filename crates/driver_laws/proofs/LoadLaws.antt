-- Each open start of a load stays one processor's, one entry longer.
use Rattle.std.proofs.Common.{◌≡◌, ℕ, ◌==◌, ◌≤◌, Bool, true, false, if◌then◌else◌, refl, sym, ◌∙◌, ap, List}
use Rattle.std.proofs.Common.{[], ◌∷◌, Option, Some, None, is_some, length}
use Rattle.std.proofs.lemmas.Bool.{eqb-true, eq-eqb, false≢true}
use Rattle.std.proofs.lemmas.Option.{none-some, same_Some}
use Rattle.sgx_rules.specs.declared.entries.Action.{Action}
use Rattle.sgx_types.specs.declared.names.Actor.{Actor}
use Rattle.sgx_rules.specs.declared.entries.Answer.{Answer}
use Rattle.sgx_rules.specs.declared.entries.Answer.TheVariants.{Moved}
use Rattle.sgx_rules.specs.declared.entries.Entry.{Entry}
use Rattle.sgx_rules.specs.declared.entries.Event.{Event}
use Rattle.sgx_rules.specs.declared.entries.Event.TheVariants.{Age, Bus, Did, Kick, Refused}
use Rattle.sgx_types.specs.declared.names.Cpu.{Cpu}
use Rattle.sgx_types.specs.declared.names.Page.{Page}
use Rattle.sgx_types.specs.declared.names.VaSlot.{VaSlot}
use Rattle.sgx_rules.specs.declared.refusals.Refusal.{Refusal}
use Rattle.sgx_rules.specs.Frames.{content, stands}
use Rattle.sgx_types.specs.Making.{Making}
use Rattle.sgx_rules.specs.Starts.{open_start, opened_by, slot_found, Start, started}
use Rattle.sgx_types.proofs.Pages.{same_page-refl}
use Rattle.driver_rules.specs.Places.{Leaving, Loading, place}
use Rattle.driver_rules.specs.Scripts.{is_load}
use Rattle.driver_rules.specs.Turns.{Fails, fails_with, Last, last_by, last_of, load_of, Loads, Other, start_fails, WasEnded}
use Rattle.job_grammar.specs.Jobs.{JobView}
use Rattle.driver_laws.specs.inner.Driven.{IsDriven}
use Rattle.driver_laws.specs.inner.Kinds.{CanMove}
use Rattle.driver_laws.specs.inner.Loads.{EndsOwn, load_ended, LoadsAreOwned, LoadsAreTheirs, TheirRule}
use Rattle.driver_laws.specs.inner.Started.{frame_loaded}
use Rattle.driver_laws.specs.inner.Sound.{is_load_start, IsSound, load_slot}
use Rattle.driver_laws.proofs.AloneLaws.{free_none, loading_is}
use Rattle.driver_laws.proofs.EndLaws.{their_rule}
use Rattle.driver_laws.proofs.HistoryLaws.{driven_before, driven_can, driven_sound}
use Rattle.driver_laws.proofs.PlaceLaws.{holds_no_load}
use Rattle.driver_laws.proofs.StartedLaws.{fails_none, start_none}
use Rattle.driver_laws.proofs.StillLaws.{holds_here}
use Rattle.driver_laws.proofs.SoundLaws.{entry_of}
use Rattle.sgx_rules.specs.declared.entries.Action.TheVariants as actions
use Rattle.sgx_types.specs.declared.names.Actor.TheVariants as actors

-- ---- in general

abbrev LoadsNone : Last → Type 0
LoadsNone l = (n : ℕ) (g : Page) → l ≡ Loads n g → ⊥

frame_same : (m n : ℕ) (g h : Page) → Loads m g ≡ Loads n h → m ≡ n
frame_same m n g h k = cc

page_same : (m n : ℕ) (g h : Page) → Loads m g ≡ Loads n h → g ≡ h
page_same m n g h k = cc

-- by equal pages in frames
loads_same : (now loads : ℕ → Option Page) (last : ℕ → Last) → ((n : ℕ) → now n ≡ loads n) → LoadsAreOwned loads last
    → LoadsAreOwned now last
loads_same now loads last same h = record {
  owner = λ n g k. h.owner n g (sym (same n) ∙ k);
  started = λ p n g k. same n ∙ h.started p n g k;
  alone = h.alone;
}

-- who has none to end makes another entry
loads_other : (loads : ℕ → Option Page) (last : ℕ → Last) (c : ℕ) (to : Last) → LoadsNone (last c) → LoadsNone to → LoadsAreOwned loads last
    → LoadsAreOwned loads (λ p. if c == p then to else last p)
loads_other loads last c to none none_now h = record {
  owner = λ n g k. let o = h.owner n g k in (o.0, others o.0 n g (c == o.0) refl o.1);
  started = λ p n g k. h.started p n g (before p n g (c == p) k);
  alone = λ p q n g k a b. h.alone p q n g k (before p n g (c == p) a) (before q n k (c == q) b);
}
  where
    others : (p n : ℕ) (g : Page) (b : Bool) → (c == p) ≡ b → last p ≡ Loads n g → (if b then to else last p) ≡ Loads n g
    others p n g true is k = absurd (none n g (ap last (eqb-true c p is) ∙ k))
    others p n g false is k = k

    before : (p n : ℕ) (g : Page) (b : Bool) → (if b then to else last p) ≡ Loads n g → last p ≡ Loads n g
    before p n g true k = absurd (none_now n g k)
    before p n g false k = k

-- .. or starts one into a frame that loads nothing
loads_begin : (loads : ℕ → Option Page) (last : ℕ → Last) (f c : ℕ) (page : Page) → loads f ≡ None → LoadsNone (last c)
    → LoadsAreOwned loads last
    → LoadsAreOwned (λ n. if f == n then Some page else loads n) (λ p. if c == p then Loads f page else last p)
loads_begin loads last f c page free none h = record {
  owner = λ n g k. by_frame n g (f == n) refl k;
  started = λ p n g k. by_cpu p n g (c == p) k;
  alone = λ p q n g k a b. by_two p q n g k (c == p) refl a (c == q) refl b;
}
  where
    others : (p n : ℕ) (g : Page) (b : Bool) → (c == p) ≡ b → last p ≡ Loads n g → (if b then Loads f page else last p) ≡ Loads n g
    others p n g true is k = absurd (none n g (ap last (eqb-true c p is) ∙ k))
    others p n g false is k = k

    by_frame : (n : ℕ) (g : Page) (b : Bool) → (f == n) ≡ b → (if b then Some page else loads n) ≡ Some g
        → (p : ℕ) × ((if c == p then Loads f page else last p) ≡ Loads n g)
    by_frame n g true is k = (c, rw (eq-eqb c c refl) (λ i. Loads (eqb-true f n is i) (same_Some page g k i)))
    by_frame n g false is k = let o = h.owner n g k in (o.0, others o.0 n g (c == o.0) refl o.1)

    -- a processor from before has another frame
    frame_apart : (p n : ℕ) (g : Page) → last p ≡ Loads n g → (f == n) ≡ true → ⊥
    frame_apart p n g k is = none-some g (sym free ∙ ap loads (eqb-true f n is) ∙ h.started p n g k)

    still : (p n : ℕ) (g : Page) (b : Bool) → (f == n) ≡ b → last p ≡ Loads n g → (if b then Some page else loads n) ≡ Some g
    still p n g true is k = absurd (frame_apart p n g k is)
    still p n g false is k = h.started p n g k

    by_cpu : (p n : ℕ) (g : Page) (b : Bool) → (if b then Loads f page else last p) ≡ Loads n g
        → (if f == n then Some page else loads n) ≡ Some g
    by_cpu p n g true k = rw (eq-eqb f n (frame_same f n page g k)) (ap Some (page_same f n page g k))
    by_cpu p n g false k = still p n g (f == n) refl k

    by_two : (p q n : ℕ) (g k : Page) (b : Bool) → (c == p) ≡ b → (if b then Loads f page else last p) ≡ Loads n g
        → (d : Bool) → (c == q) ≡ d
        → (if d then Loads f page else last q) ≡ Loads n k → p ≡ q
    by_two p q n g k true is_p a true is_q b = sym (eqb-true c p is_p) ∙ eqb-true c q is_q
    by_two p q n g k true is_p a false is_q b = absurd (frame_apart q n k b (eq-eqb f n (frame_same f n page g a)))
    by_two p q n g k false is_p a true is_q b = absurd (frame_apart p n g a (eq-eqb f n (frame_same f n page k b)))
    by_two p q n g k false is_p a false is_q b = h.alone p q n g k a b

-- .. and who has one ends it
loads_end : (loads : ℕ → Option Page) (last : ℕ → Last) (f c : ℕ) (page : Page) (to : Last) → last c ≡ Loads f page → LoadsNone to
    → LoadsAreOwned loads last → LoadsAreOwned (λ n. if f == n then None else loads n) (λ p. if c == p then to else last p)
loads_end loads last f c page to mine none h = record {
  owner = λ n g k. by_frame n g (f == n) refl k;
  started = λ p n g k. by_cpu p n g (c == p) refl k;
  alone = λ p q n g k a b. h.alone p q n g k (before p n g (c == p) a) (before q n k (c == q) b);
}
  where
    before : (p n : ℕ) (g : Page) (b : Bool) → (if b then to else last p) ≡ Loads n g → last p ≡ Loads n g
    before p n g true k = absurd (none n g k)
    before p n g false k = k

    others : (p n : ℕ) (g : Page) (b : Bool) → (c == p) ≡ b → (f == n) ≡ false → last p ≡ Loads n g
        → (if b then to else last p) ≡ Loads n g
    others p n g true is other k =
        absurd (false≢true (sym other ∙ eq-eqb f n (frame_same f n page g (sym mine ∙ ap last (eqb-true c p is) ∙ k))))
    others p n g false is other k = k

    by_frame : (n : ℕ) (g : Page) (b : Bool) → (f == n) ≡ b → (if b then None else loads n) ≡ Some g
        → (p : ℕ) × ((if c == p then to else last p) ≡ Loads n g)
    by_frame n g true is k = absurd (none-some g k)
    by_frame n g false is k = let o = h.owner n g k in (o.0, others o.0 n g (c == o.0) refl is o.1)

    still : (p n : ℕ) (g : Page) (b : Bool) → (c == p) ≡ false → (f == n) ≡ b → last p ≡ Loads n g → (if b then None else loads n) ≡ Some g
    still p n g true other is k =
        absurd (false≢true (sym other ∙ eq-eqb c p (h.alone c p n page g (mine ∙ ap (λ m. Loads m page) (eqb-true f n is)) k)))
    still p n g false other is k = h.started p n g k

    by_cpu : (p n : ℕ) (g : Page) (b : Bool) → (c == p) ≡ b → (if b then to else last p) ≡ Loads n g
        → (if f == n then None else loads n) ≡ Some g
    by_cpu p n g true is k = absurd (none n g k)
    by_cpu p n g false is k = still p n g (f == n) is refl k

-- ---- what each frame loads

-- a page is loading where a start of a load of it is open
pub loading_place : (past : List Entry) (n : ℕ) (g : Page) → IsSound past → load_of (open_start past n) ≡ Some g
    → (slot : VaSlot) × (place past g ≡ Loading n slot)
loading_place past n g s h = by_start (open_start past n) refl h
  where
    found : (x : Start) → x.loads ≡ Some g → load_slot (Some x) g ≡ Some x.slot
    found x is = rw (is, same_page-refl g) refl

    by_start : (o : Option Start) → open_start past n ≡ o → load_of o ≡ Some g → (slot : VaSlot) × (place past g ≡ Loading n slot)
    by_start None is k = absurd (none-some g k)
    by_start (Some x) is k =
        (x.slot, loading_is (place past g) n x.slot (sym (s.places.loads g n) ∙ ap (λ o. load_slot o g) is ∙ found x k))

-- a page's frame loads nothing
standing_none : (past : List Entry) (n : ℕ) (g : Page) → IsSound past → place past g ≡ Leaving n → load_of (open_start past n) ≡ None
standing_none past n g s at = by_start (open_start past n) (s.places.loading n ∙ holds_no_load (content past n) g holds)
  where
    holds : stands (content past n) g ≡ true
    holds = holds_here past g (Leaving n) n s at (eq-eqb n n refl)

    by_loads : (o : Option Page) → is_some o ≡ false → o ≡ None
    by_loads None h = refl
    by_loads (Some x) h = cc

    by_start : (o : Option Start) → is_load_start o ≡ false → load_of o ≡ None
    by_start None h = refl
    by_start (Some x) h = by_loads x.loads h

abbrev begins : Event → Bool
begins (Did (actions.EldStart f page slot) answer) = true
begins _ = false

-- an entry that neither starts nor ends a load leaves what each frame loads
loads_kept : (past : List Entry) (e : Entry) → IsSound past → CanMove past e.event → begins e.event ≡ false → load_ended e.event ≡ None
    → (n : ℕ) → load_of (open_start (e ∷ past) n) ≡ load_of (open_start past n)
loads_kept past e s can no_start no_end n = by_event e.event can no_start no_end
  where
    by_frame : (f : ℕ) (x : Option Start) (g : Page) → load_of x ≡ None → place past g ≡ Leaving f → (b : Bool) → (f == n) ≡ b
        → load_of (if b then x else open_start past n) ≡ load_of (open_start past n)
    by_frame f x g none at true is = none ∙ sym (standing_none past n g s (at ∙ ap Leaving (eqb-true f n is)))
    by_frame f x g none at false is = refl

    by_event : (ev : Event) → CanMove past ev → begins ev ≡ false → load_ended ev ≡ None
        → load_of (opened_by e.actor (length past) (content past) ev n (open_start past n)) ≡ load_of (open_start past n)
    by_event (Did (actions.EwbStart f slot) answer) c h k =
        by_frame f.0 (started e.actor (length past) slot answer None (slot_found (content past) slot)) c.0.0
        (ap (λ o. load_of (started e.actor (length past) slot answer None o)) c.2) c.0.1 (f.0 == n) refl
    by_event (Did (actions.Ewb f) (Moved page version tag)) c h k = by_frame f.0 None page refl c.0 (f.0 == n) refl
    by_event (Did (actions.Ewb f) answer) c h k = absurd c
    by_event (Did (actions.EldStart f page slot) answer) c h k = absurd (false≢true (sym h))
    by_event (Did (actions.Eld f) answer) c h k = cc
    by_event (Refused (actions.Eld f) refusal) c h k = cc
    by_event _ c h k = refl

-- ---- how an entry leaves its processor

none_loads : (l : Last) → frame_loaded l ≡ None → LoadsNone l
none_loads l h n g is = none-some n (sym h ∙ ap frame_loaded is)

last_none : (ev : Event) (opened : ℕ → Option Start) → begins ev ≡ false → LoadsNone (last_by ev opened)
last_none (Did (actions.EldStart f page slot) answer) opened h n g k = absurd (false≢true (sym h))
last_none (Refused (actions.EldStart f page slot) refusal) opened h n g k =
    none_loads (start_fails page refusal) (start_none page refusal) n g k
last_none (Refused (actions.Eld f) refusal) opened h n g k =
    none_loads (fails_with (load_of (opened f.0)) refusal) (fails_none (load_of (opened f.0)) refusal) n g k
last_none (Bus page reason) opened h n g k = cc
last_none _ opened h n g k = cc

-- ---- one entry more

pub first_theirs : LoadsAreTheirs []
first_theirs = record { owner = λ n g h. cc; started = λ p n g h. cc; alone = λ p q n g h k l. cc }

-- what each frame loads, by a test on the frame
opens_load : (opened : ℕ → Option Start) (f n : ℕ) (x : Option Start) (b : Bool) → (f == n) ≡ b
    → load_of (if b then x else opened n) ≡ (if b then load_of x else load_of (opened n))
opens_load opened f n x true is = refl
opens_load opened f n x false is = refl

-- the entry of a processor that has a load to end
by_loader : (past : List Entry) (c : Cpu) (ev : Event) (n : ℕ) (page : Page) → last_of past c.0 ≡ Loads n page → load_ended ev ≡ Some n
    → LoadsAreTheirs past → LoadsAreTheirs (entry_of (actors.Cpu c) ev ∷ past)
by_loader past c ev n page mine ends h = by_event ev ends
  where
    ended : (f : ℕ) (to : Last) → f ≡ n → LoadsNone to
        → LoadsAreOwned (λ m. load_of (if f == m then None else open_start past m)) (λ p. if c.0 == p then to else last_of past p)
    ended f to same none =
        loads_same (λ m. load_of (if f == m then None else open_start past m))
        (λ m. if f == m then None else load_of (open_start past m)) (λ p. if c.0 == p then to else last_of past p)
        (λ m. opens_load (open_start past) f m None (f == m) refl)
        (loads_end (λ m. load_of (open_start past m)) (last_of past) f c.0 page to (mine ∙ ap (λ m. Loads m page) (sym same)) none h)

    done : (a : Action) (answer : Answer) → load_ended (Did a answer) ≡ Some n
        → LoadsAreTheirs (entry_of (actors.Cpu c) (Did a answer) ∷ past)
    done (actions.Eld f) answer k = ended f.0 Other (same_Some f.0 n k) (none_loads Other refl)
    done _ answer k = absurd cc

    refused : (a : Action) (r : Refusal) → load_ended (Refused a r) ≡ Some n → LoadsAreTheirs (entry_of (actors.Cpu c) (Refused a r) ∷ past)
    refused (actions.Eld f) r k =
        ended f.0 (fails_with (load_of (open_start past f.0)) r) (same_Some f.0 n k)
        (none_loads (fails_with (load_of (open_start past f.0)) r) (fails_none (load_of (open_start past f.0)) r))
    refused _ r k = absurd cc

    by_event : (x : Event) → load_ended x ≡ Some n → LoadsAreTheirs (entry_of (actors.Cpu c) x ∷ past)
    by_event (Did a answer) k = done a answer k
    by_event (Refused a r) k = refused a r k
    by_event (Age g look) k = absurd cc
    by_event (Kick cpu) k = absurd cc
    by_event (Bus g reason) k = absurd cc

-- .. and of one that has none
by_free : (past : List Entry) (c : Cpu) (ev : Event) → IsSound past → CanMove past ev → LoadsNone (last_of past c.0) → load_ended ev ≡ None
    → LoadsAreTheirs past → LoadsAreTheirs (entry_of (actors.Cpu c) ev ∷ past)
by_free past c ev s can none no_end h = by_begin (begins ev) refl
  where
    starts : (x : Event) → CanMove past x → begins x ≡ true → LoadsAreTheirs (entry_of (actors.Cpu c) x ∷ past)
    starts (Did (actions.EldStart f page slot) answer) k b =
        let new : Option Start = started (actors.Cpu c) (length past) slot answer (Some page) (slot_found (content past) slot) in
        let its : load_of new ≡ Some page = ap (λ o. load_of (started (actors.Cpu c) (length past) slot answer (Some page) o)) k.3 in
        loads_same (λ m. load_of (if f.0 == m then new else open_start past m))
        (λ m. if f.0 == m then Some page else load_of (open_start past m)) (λ p. if c.0 == p then Loads f.0 page else last_of past p)
        (λ m. opens_load (open_start past) f.0 m new (f.0 == m) refl ∙ ap (λ l. if f.0 == m then l else load_of (open_start past m)) its)
        (loads_begin (λ m. load_of (open_start past m)) (last_of past) f.0 c.0 page (ap load_of (free_none past f.0 s k.0)) none h)
    starts _ k b = absurd (false≢true b)

    by_begin : (b : Bool) → begins ev ≡ b → LoadsAreTheirs (entry_of (actors.Cpu c) ev ∷ past)
    by_begin true is = starts ev can is
    by_begin false is =
        loads_same (λ m. load_of (open_start (entry_of (actors.Cpu c) ev ∷ past) m)) (λ m. load_of (open_start past m))
        (last_of (entry_of (actors.Cpu c) ev ∷ past)) (loads_kept past (entry_of (actors.Cpu c) ev) s can is no_end)
        (loads_other (λ m. load_of (open_start past m)) (last_of past) c.0 (last_by ev (open_start past)) none
        (last_none ev (open_start past) is) h)

-- an entry of who is no processor
no_load : (ev : Event) → is_load ev ≡ false → (begins ev ≡ false) × (load_ended ev ≡ None)
no_load (Did (actions.EldStart f page slot) answer) h = absurd (false≢true (sym h))
no_load (Did (actions.Eld f) answer) h = absurd (false≢true (sym h))
no_load (Refused (actions.Eld f) refusal) h = absurd (false≢true (sym h))
no_load _ h = (refl, refl)

by_none : (past : List Entry) (e : Entry) → IsSound past → CanMove past e.event → is_load e.event ≡ false → LoadsAreTheirs past
    → LoadsAreOwned (λ n. load_of (open_start (e ∷ past) n)) (last_of past)
by_none past e s can rule h =
    let none = no_load e.event rule in
    loads_same (λ n. load_of (open_start (e ∷ past) n)) (λ n. load_of (open_start past n)) (last_of past)
    (loads_kept past e s can none.0 none.1) h

pub stays_theirs : (past : List Entry) (e : Entry) → IsSound past → CanMove past e.event → TheirRule past e.actor e.event
    → LoadsAreTheirs past → LoadsAreTheirs (e ∷ past)
stays_theirs past e s can rule h = by_actor e.actor rule
  where
    by_last : (c : Cpu) (l : Last) → last_of past c.0 ≡ l → EndsOwn l e.event → LoadsAreTheirs (entry_of (actors.Cpu c) e.event ∷ past)
    by_last c (Loads n page) is k = by_loader past c e.event n page is k h
    by_last c (Fails page reason) is k = by_free past c e.event s can (none_loads (last_of past c.0) (ap frame_loaded is)) k h
    by_last c WasEnded is k = by_free past c e.event s can (none_loads (last_of past c.0) (ap frame_loaded is)) k h
    by_last c Other is k = by_free past c e.event s can (none_loads (last_of past c.0) (ap frame_loaded is)) k h

    by_actor : (a : Actor) → TheirRule past a e.event → LoadsAreTheirs (entry_of a e.event ∷ past)
    by_actor actors.Builder k = by_none past (entry_of actors.Builder e.event) s can k h
    by_actor actors.Reclaimer k = by_none past (entry_of actors.Reclaimer e.event) s can k h
    by_actor (actors.Cpu c) k = by_last c (last_of past c.0) refl k

-- ---- all along

pub driven_theirs : (k : Making) (j : JobView) (past : List Entry) → 1 ≤ k.first_version → IsDriven k j past → LoadsAreTheirs past
driven_theirs k j [] positive d = first_theirs
driven_theirs k j (e ∷ past) positive d =
    let before = driven_before k j e past d in
    let s = (driven_sound k j past positive before).0 in
    stays_theirs past e s (driven_can k j e past positive d) (their_rule j past e d.script.0) (driven_theirs k j past positive before)
