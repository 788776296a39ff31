-- What each kind of entry leaves of places, frames and open starts.
use Rattle.std.proofs.Common.{◌≡◌, ℕ, ◌==◌, Bool, true, false, if◌then◌else◌, refl, sym, ◌∙◌, ap, subst, Option}
use Rattle.std.proofs.Common.{Some, None, is_some, arith}
use Rattle.std.proofs.lemmas.Bool.{eqb-true, eq-eqb, false≢true}
use Rattle.sgx_types.proofs.Pages.{same_pages}
use Rattle.sgx_types.specs.declared.names.Page.{Page}
use Rattle.sgx_types.specs.declared.names.VaSlot.{VaSlot}
use Rattle.sgx_rules.specs.Frames.{Content, Free, Holds, is_this, IsLoading, IsVa, page_there, SecsOf, stands}
use Rattle.sgx_types.specs.Pages.{same_page}
use Rattle.sgx_rules.specs.Starts.{Start}
use Rattle.sgx_rules.specs.inner.Starts.{is_load_of}
use Rattle.driver_rules.specs.Places.{Absent, after_look, Away, back_from, comes_into, frame_here, gone_to, Here, leaves, Leaving}
use Rattle.driver_rules.specs.Places.{Loading, Place}
use Rattle.sgx_rules.specs.Slots.{slot_of}
use Rattle.sgx_types.specs.declared.names.SlotAt.{SlotAt}
use Rattle.driver_laws.specs.inner.Sound.{is_absent, is_load_start, is_write_start, load_slot, PlacesAreFrames, slot_if, slot_loading}
use Rattle.driver_laws.specs.inner.Sound.{stands_in, waiting}
use Rattle.driver_rules.specs.Turns.{load_of}
use Rattle.sgx_rules.specs.declared.entries.Look.{Look}
use Rattle.sgx_types.specs.declared.names.Actor.{Actor}
use Rattle.sgx_rules.specs.Table.{is_loading}
use Rattle.sgx_rules.specs.declared.entries.Look.TheVariants as looks

-- ---- pages, contents and starts

-- a frame that holds a page holds no other
pub holds_one : (c : Content) (a b : Page) → stands c a ≡ true → stands c b ≡ same_page a b
holds_one c a b h = by_page (page_there c) h
  where
    by_page : (o : Option Page) → is_this o a ≡ true → is_this o b ≡ same_page a b
    by_page None k = absurd (false≢true k)
    by_page (Some page) k = ap (λ x. same_page x b) (same_pages page a k)

-- .. and waits for none
pub holds_no_load : (c : Content) (a : Page) → stands c a ≡ true → is_loading c ≡ false
holds_no_load Free a h = refl
holds_no_load (IsVa number) a h = refl
holds_no_load (SecsOf enclave) a h = refl
holds_no_load (Holds page kind perm) a h = refl
holds_no_load (IsLoading page) a h = absurd (false≢true h)

pub loads_no_page : (c : Content) (g : Page) → is_loading c ≡ true → stands c g ≡ false
loads_no_page Free g h = absurd (false≢true h)
loads_no_page (IsVa number) g h = absurd (false≢true h)
loads_no_page (SecsOf enclave) g h = absurd (false≢true h)
loads_no_page (Holds page kind perm) g h = absurd (false≢true h)
loads_no_page (IsLoading page) g h = refl

-- a page that is here stands in its frame
pub stands_there : (at : Place) (n : ℕ) → frame_here at ≡ Some n → stands_in at n ≡ true
stands_there Absent n h = cc
stands_there (Here f) n h = let same : f ≡ n = cc in eq-eqb f n same
stands_there (Leaving f) n h = cc
stands_there (Loading f slot) n h = cc
stands_there (Away slot) n h = cc

-- .. and is not absent
pub here_there : (at : Place) (n : ℕ) → frame_here at ≡ Some n → is_absent at ≡ false
here_there Absent n h = cc
here_there (Here f) n h = refl
here_there (Leaving f) n h = refl
here_there (Loading f slot) n h = refl
here_there (Away slot) n h = refl

-- what is no start of a load has no slot of one
pub no_load_slot : (o : Option Start) (g : Page) → is_load_start o ≡ false → load_slot o g ≡ None
no_load_slot None g h = refl
no_load_slot (Some start) g h = by_loads start.loads h
  where
    by_loads : (o : Option Page) → is_some o ≡ false → slot_if (is_this o g) start.slot ≡ None
    by_loads None k = refl
    by_loads (Some page) k = cc

-- what has one is one
pub load_slot_is : (o : Option Start) (g : Page) (slot : VaSlot) → load_slot o g ≡ Some slot → is_load_start o ≡ true
load_slot_is None g slot h = cc
load_slot_is (Some start) g slot h = by_loads start.loads h
  where
    by_loads : (o : Option Page) → slot_if (is_this o g) start.slot ≡ Some slot → is_some o ≡ true
    by_loads None k = cc
    by_loads (Some page) k = refl

-- what does not load waits for nothing, and what holds a page neither
pub waits_none : (c : Content) → is_loading c ≡ false → waiting c ≡ None
waits_none Free h = refl
waits_none (IsVa number) h = refl
waits_none (SecsOf enclave) h = refl
waits_none (Holds page kind perm) h = refl
waits_none (IsLoading page) h = absurd (false≢true (sym h))

-- a start loads one page
pub loads_one : (o : Option Start) (a g : Page) (slot : VaSlot) → load_slot o a ≡ Some slot → is_load_of o g ≡ same_page a g
loads_one None a g slot h = cc
loads_one (Some start) a g slot h = by_loads start.loads h
  where
    by_page : (page : Page) (b : Bool) → same_page page a ≡ b → slot_if b start.slot ≡ Some slot → same_page page g ≡ same_page a g
    by_page page true is k = ap (λ x. same_page x g) (same_pages page a is)
    by_page page false is k = cc

    by_loads : (o : Option Page) → slot_if (is_this o a) start.slot ≡ Some slot → is_this o g ≡ same_page a g
    by_loads None k = cc
    by_loads (Some page) k = by_page page (same_page page a) refl k

pub loads_no_other : (o : Option Start) (a g : Page) (slot : VaSlot) → load_slot o a ≡ Some slot → same_page a g ≡ false
    → load_slot o g ≡ None
loads_no_other None a g slot h other = cc
loads_no_other (Some start) a g slot h other = rw (loads_one (Some start) a g slot h, other) refl

stands-leaves : (p : Place) (n : ℕ) → stands_in (leaves p) n ≡ stands_in p n
stands-leaves Absent n = refl
stands-leaves (Here m) n = refl
stands-leaves (Leaving m) n = refl
stands-leaves (Loading m slot) n = refl
stands-leaves (Away slot) n = refl

loads-leaves : (p : Place) (n : ℕ) → slot_loading (leaves p) n ≡ slot_loading p n
loads-leaves Absent n = refl
loads-leaves (Here m) n = refl
loads-leaves (Leaving m) n = refl
loads-leaves (Loading m slot) n = refl
loads-leaves (Away slot) n = refl

-- what is so of a page is so of the same page
pub of_same : (at : Page → Place) (p : Place) (a g : Page) → at a ≡ p → same_page a g ≡ true → at g ≡ p
of_same at p a g here is = subst (λ y. at y ≡ p) (same_pages a g is) here

-- what is so at a frame is so at the same frame
pub at_same : {X : Type 0} (of : ℕ → X) (x : X) (f n : ℕ) → of f ≡ x → (f == n) ≡ true → of n ≡ x
at_same of x f n here is = subst (λ m. of m ≡ x) (eqb-true f n is) here

-- ---- entries

-- a page comes into a frame for the first time
pub put_here : (at : Page → Place) (held : ℕ → Content) (opened : ℕ → Option Start) (f : ℕ) (a : Page) (c : Content)
    → PlacesAreFrames at held opened → held f ≡ Free → at a ≡ Absent
    → ((g : Page) → stands c g ≡ same_page a g) → is_loading c ≡ false
    → PlacesAreFrames (λ g. if same_page a g then Here f else at g) (λ n. if f == n then c else held n) opened
put_here at held opened f a c s free absent holds no_load = record {
  frames = λ g n. by_frame g n (f == n) (same_page a g) refl refl;
  loads = λ g n. grind (arith, s.loads, same_pages);
  loading = λ n. grind (arith, s.loading);
  waits = λ n. by_wait n (f == n) refl;
  writes = λ n h. let w = s.writes n h in (w.0, grind (arith, same_pages));
}
  where
    by_wait : (n : ℕ) (b : Bool) → (f == n) ≡ b → load_of (opened n) ≡ waiting (if b then c else held n)
    by_wait n true is = s.waits n ∙ ap waiting (at_same held Free f n free is) ∙ sym (waits_none c no_load)
    by_wait n false is = s.waits n

    none : (g : Page) → stands_in (at g) f ≡ false
    none g = sym (s.frames g f) ∙ ap (λ x. stands x g) free

    by_frame : (g : Page) (n : ℕ) (b d : Bool) → (f == n) ≡ b → same_page a g ≡ d
        → stands (if b then c else held n) g ≡ stands_in (if d then Here f else at g) n
    by_frame g n true true is it = holds g ∙ it ∙ sym is
    by_frame g n true false is it = holds g ∙ it ∙ sym (at_same (stands_in (at g)) false f n (none g) is)
    by_frame g n false true is it = s.frames g n ∙ ap (λ y. stands_in y n) (of_same at Absent a g absent it) ∙ sym is
    by_frame g n false false is it = s.frames g n

-- a page is looked at
pub put_looked : (at : Page → Place) (held : ℕ → Content) (opened : ℕ → Option Start) (a : Page) (look : Look)
    → PlacesAreFrames at held opened
    → PlacesAreFrames (λ g. if same_page a g then after_look look (at g) else at g) held opened
put_looked at held opened a look s = record {
  frames = λ g n. by_frame (same_page a g) look g n;
  loads = λ g n. by_load (same_page a g) look g n;
  loading = s.loading;
  waits = s.waits;
  writes = λ n h. let w = s.writes n h in (w.0, by_write (same_page a w.0) look w.0 n w.1);
}
  where
    by_frame : (b : Bool) (l : Look) (g : Page) (n : ℕ) → stands (held n) g ≡ stands_in (if b then after_look l (at g) else at g) n
    by_frame true looks.Taken g n = s.frames g n ∙ sym (stands-leaves (at g) n)
    by_frame true _ g n = s.frames g n
    by_frame false l g n = s.frames g n

    by_load : (b : Bool) (l : Look) (g : Page) (n : ℕ) → load_slot (opened n) g ≡ slot_loading (if b then after_look l (at g) else at g) n
    by_load true looks.Taken g n = s.loads g n ∙ sym (loads-leaves (at g) n)
    by_load true _ g n = s.loads g n
    by_load false l g n = s.loads g n

    by_write : (b : Bool) (l : Look) (g : Page) (n : ℕ) → at g ≡ Leaving n → (if b then after_look l (at g) else at g) ≡ Leaving n
    by_write true looks.Taken g n h = ap leaves h
    by_write true _ g n h = h
    by_write false l g n h = h

-- the write-out of a page starts
pub put_starting : (at : Page → Place) (held : ℕ → Content) (opened : ℕ → Option Start) (f : ℕ) (a : Page) (slot : VaSlot)
    (to : SlotAt) (v q : ℕ) (who : Actor)
    → PlacesAreFrames at held opened → at a ≡ Leaving f
    → PlacesAreFrames at held
    (λ n. if f == n then Some (record { at = to; slot = slot; version = v; loads = None; place = q; actor = who }) else opened n)
put_starting at held opened f a slot to v q who s leaving = record {
  frames = s.frames;
  loads = λ g n. grind (arith, s.loads, no_loads);
  loading = λ n. grind (arith, s.loading, no_load);
  waits = λ n. by_wait n (f == n) refl;
  writes = λ n h. by_write n (f == n) refl h;
}
  where
    here : stands (held f) a ≡ true
    here = s.frames a f ∙ ap (λ x. stands_in x f) leaving ∙ eq-eqb f f refl

    no_load : is_loading (held f) ≡ false
    no_load = holds_no_load (held f) a here

    no_loads : (g : Page) → slot_loading (at g) f ≡ None
    no_loads g = sym (s.loads g f) ∙ no_load_slot (opened f) g (s.loading f ∙ no_load)

    by_write : (n : ℕ) (b : Bool) → (f == n) ≡ b
        → is_write_start (if b then Some (record { at = to; slot = slot; version = v; loads = None; place = q; actor = who }) else opened n)
        ≡ true
        → (g : Page) × (at g ≡ Leaving n)
    by_write n true is h = (a, leaving ∙ ap Leaving (eqb-true f n is))
    by_write n false is h = s.writes n h

    by_wait : (n : ℕ) (b : Bool) → (f == n) ≡ b
        → load_of (if b then Some (record { at = to; slot = slot; version = v; loads = None; place = q; actor = who }) else opened n)
        ≡ waiting (held n)
    by_wait n true is = sym (at_same (λ m. waiting (held m)) None f n (waits_none (held f) no_load) is)
    by_wait n false is = s.waits n

-- a page went out
pub put_out : (at : Page → Place) (held : ℕ → Content) (opened : ℕ → Option Start) (f : ℕ) (a : Page) (x : Start)
    → PlacesAreFrames at held opened → at a ≡ Leaving f → opened f ≡ Some x
    → PlacesAreFrames (λ g. if same_page a g then gone_to (slot_of (opened f)) (at g) else at g) (λ n. if f == n then Free else held n)
    (λ n. if f == n then None else opened n)
put_out at held opened f a x s leaving open_now = record {
  frames = λ g n. rw open_now (by_frame g n (f == n) (same_page a g) refl refl);
  loads = λ g n. rw open_now (by_load g n (f == n) (same_page a g) refl refl);
  loading = λ n. grind (arith, s.loading);
  waits = λ n. by_wait n (f == n) refl;
  writes = λ n h. by_write n (f == n) refl h;
}
  where
    by_wait : (n : ℕ) (b : Bool) → (f == n) ≡ b → load_of (if b then None else opened n) ≡ waiting (if b then Free else held n)
    by_wait n true is = refl
    by_wait n false is = s.waits n

    here : stands (held f) a ≡ true
    here = s.frames a f ∙ ap (λ y. stands_in y f) leaving ∙ eq-eqb f f refl

    no_load : is_loading (held f) ≡ false
    no_load = holds_no_load (held f) a here

    no_loads : (g : Page) → slot_loading (at g) f ≡ None
    no_loads g = sym (s.loads g f) ∙ no_load_slot (opened f) g (s.loading f ∙ no_load)

    others : (g : Page) → same_page a g ≡ false → stands_in (at g) f ≡ false
    others g other = by_page (stands (held f) g) refl
      where
        by_page : (b : Bool) → stands (held f) g ≡ b → stands_in (at g) f ≡ false
        by_page true is = absurd (false≢true (sym other ∙ sym (holds_one (held f) a g here) ∙ is))
        by_page false is = sym (s.frames g f) ∙ is

    by_frame : (g : Page) (n : ℕ) (b c : Bool) → (f == n) ≡ b → same_page a g ≡ c
        → stands (if b then Free else held n) g ≡ stands_in (if c then gone_to (Some x.slot) (at g) else at g) n
    by_frame g n true true is it = refl
    by_frame g n true false is it = sym (at_same (stands_in (at g)) false f n (others g it) is)
    by_frame g n false true is it = s.frames g n ∙ ap (λ y. stands_in y n) (of_same at (Leaving f) a g leaving it) ∙ is
    by_frame g n false false is it = s.frames g n

    by_load : (g : Page) (n : ℕ) (b c : Bool) → (f == n) ≡ b → same_page a g ≡ c
        → load_slot (if b then None else opened n) g ≡ slot_loading (if c then gone_to (Some x.slot) (at g) else at g) n
    by_load g n true true is it = refl
    by_load g n true false is it = sym (at_same (slot_loading (at g)) None f n (no_loads g) is)
    by_load g n false true is it = s.loads g n ∙ ap (λ y. slot_loading y n) (of_same at (Leaving f) a g leaving it)
    by_load g n false false is it = s.loads g n

    by_write : (n : ℕ) (b : Bool) → (f == n) ≡ b → is_write_start (if b then None else opened n) ≡ true
        → (g : Page) × ((if same_page a g then gone_to (slot_of (opened f)) (at g) else at g) ≡ Leaving n)
    by_write n true is h = cc
    by_write n false is h = let w = s.writes n h in (w.0, grind (arith, same_pages))

-- a load starts
pub put_loading : (at : Page → Place) (held : ℕ → Content) (opened : ℕ → Option Start) (f : ℕ) (a : Page) (slot : VaSlot)
    (to : SlotAt) (v q : ℕ) (who : Actor)
    → PlacesAreFrames at held opened → held f ≡ Free → at a ≡ Away slot
    → PlacesAreFrames (λ g. if same_page a g then comes_into f (at g) else at g) (λ n. if f == n then IsLoading a else held n)
    (λ n. if f == n then Some (record { at = to; slot = slot; version = v; loads = Some a; place = q; actor = who }) else opened n)
put_loading at held opened f a slot to v q who s free away = record {
  frames = λ g n. by_frame g n (f == n) (same_page a g) refl refl;
  loads = λ g n. by_load g n (f == n) (same_page a g) refl refl;
  loading = λ n. grind (arith, s.loading);
  waits = λ n. by_wait n (f == n) refl;
  writes = λ n h. by_write n (f == n) refl h;
}
  where
    by_wait : (n : ℕ) (b : Bool) → (f == n) ≡ b
        → load_of (if b then Some (record { at = to; slot = slot; version = v; loads = Some a; place = q; actor = who }) else opened n)
        ≡ waiting (if b then IsLoading a else held n)
    by_wait n true is = refl
    by_wait n false is = s.waits n

    no_loads : (g : Page) → slot_loading (at g) f ≡ None
    no_loads g = sym (s.loads g f) ∙ no_load_slot (opened f) g (s.loading f ∙ ap is_loading free)

    no_pages : (g : Page) → stands_in (at g) f ≡ false
    no_pages g = sym (s.frames g f) ∙ ap (λ x. stands x g) free

    itself : (g : Page) → same_page a g ≡ true → comes_into f (at g) ≡ Loading f slot
    itself g is = ap (comes_into f) (of_same at (Away slot) a g away is)

    by_frame : (g : Page) (n : ℕ) (b d : Bool) → (f == n) ≡ b → same_page a g ≡ d
        → stands (if b then IsLoading a else held n) g ≡ stands_in (if d then comes_into f (at g) else at g) n
    by_frame g n true true is it = sym (ap (λ y. stands_in y n) (itself g it))
    by_frame g n true false is it = sym (at_same (stands_in (at g)) false f n (no_pages g) is)
    by_frame g n false true is it =
        s.frames g n ∙ ap (λ y. stands_in y n) (of_same at (Away slot) a g away it) ∙ sym (ap (λ y. stands_in y n) (itself g it))
    by_frame g n false false is it = s.frames g n

    by_load : (g : Page) (n : ℕ) (b d : Bool) → (f == n) ≡ b → same_page a g ≡ d
        → load_slot (if b then Some (record { at = to; slot = slot; version = v; loads = Some a; place = q; actor = who }) else opened n) g
        ≡ slot_loading (if d then comes_into f (at g) else at g) n
    by_load g n true true is it = rw it (sym (ap (λ y. slot_loading y n) (itself g it) ∙ rw is refl))
    by_load g n true false is it = rw it (sym (at_same (slot_loading (at g)) None f n (no_loads g) is))
    by_load g n false true is it =
        s.loads g n ∙ ap (λ y. slot_loading y n) (of_same at (Away slot) a g away it) ∙ sym
        (ap (λ y. slot_loading y n) (itself g it) ∙ rw is refl)
    by_load g n false false is it = s.loads g n

    by_write : (n : ℕ) (b : Bool) → (f == n) ≡ b
        → is_write_start (if b then Some (record { at = to; slot = slot; version = v; loads = Some a; place = q; actor = who })
        else opened n)
        ≡ true
        → (g : Page) × ((if same_page a g then comes_into f (at g) else at g) ≡ Leaving n)
    by_write n true is h = cc
    by_write n false is h = let w = s.writes n h in (w.0, grind (arith, same_pages))

-- a page came back
pub put_back : (at : Page → Place) (held : ℕ → Content) (opened : ℕ
    → Option Start) (f : ℕ) (a : Page) (slot : VaSlot) (c : Content) → PlacesAreFrames at held opened → at a ≡ Loading f slot
    → ((g : Page) → stands c g ≡ same_page a g) → is_loading c ≡ false
    → PlacesAreFrames (λ g. if same_page a g then Here f else at g) (λ n. if f == n then c else held n)
    (λ n. if f == n then None else opened n)
put_back at held opened f a slot c s loading holds no_load = record {
  frames = λ g n. by_frame g n (f == n) (same_page a g) refl refl;
  loads = λ g n. by_load g n (f == n) (same_page a g) refl refl;
  loading = λ n. grind (arith, s.loading);
  waits = λ n. by_wait n (f == n) refl;
  writes = λ n h. by_write n (f == n) refl h;
}
  where
    by_wait : (n : ℕ) (b : Bool) → (f == n) ≡ b → load_of (if b then None else opened n) ≡ waiting (if b then c else held n)
    by_wait n true is = sym (waits_none c no_load)
    by_wait n false is = s.waits n

    load : load_slot (opened f) a ≡ Some slot
    load = s.loads a f ∙ ap (λ y. slot_loading y f) loading ∙ rw (eq-eqb f f refl) refl

    no_pages : (g : Page) → stands_in (at g) f ≡ false
    no_pages g = sym (s.frames g f) ∙ loads_no_page (held f) g (sym (s.loading f) ∙ load_slot_is (opened f) a slot load)

    no_loads : (g : Page) → same_page a g ≡ false → slot_loading (at g) f ≡ None
    no_loads g other = sym (s.loads g f) ∙ loads_no_other (opened f) a g slot load other

    by_frame : (g : Page) (n : ℕ) (b d : Bool) → (f == n) ≡ b → same_page a g ≡ d
        → stands (if b then c else held n) g ≡ stands_in (if d then Here f else at g) n
    by_frame g n true true is it = holds g ∙ it ∙ sym is
    by_frame g n true false is it = holds g ∙ it ∙ sym (at_same (stands_in (at g)) false f n (no_pages g) is)
    by_frame g n false true is it = s.frames g n ∙ ap (λ y. stands_in y n) (of_same at (Loading f slot) a g loading it) ∙ sym is
    by_frame g n false false is it = s.frames g n

    by_load : (g : Page) (n : ℕ) (b c : Bool) → (f == n) ≡ b → same_page a g ≡ c
        → load_slot (if b then None else opened n) g ≡ slot_loading (if c then Here f else at g) n
    by_load g n true true is it = refl
    by_load g n true false is it = sym (at_same (slot_loading (at g)) None f n (no_loads g it) is)
    by_load g n false true is it = s.loads g n ∙ ap (λ y. slot_loading y n) (of_same at (Loading f slot) a g loading it) ∙ rw is refl
    by_load g n false false is it = s.loads g n

    by_write : (n : ℕ) (b : Bool) → (f == n) ≡ b → is_write_start (if b then None else opened n) ≡ true
        → (g : Page) × ((if same_page a g then Here f else at g) ≡ Leaving n)
    by_write n true is h = cc
    by_write n false is h = let w = s.writes n h in (w.0, grind (arith, same_pages))

-- a reload was refused
pub put_refused : (at : Page → Place) (held : ℕ → Content) (opened : ℕ → Option Start) (f : ℕ) (a : Page) (slot : VaSlot)
    → PlacesAreFrames at held opened → at a ≡ Loading f slot
    → PlacesAreFrames (λ g. back_from f (at g)) (λ n. if f == n then Free else held n)
    (λ n. if f == n then None else opened n)
put_refused at held opened f a slot s loading = record {
  frames = λ g n. by_frame g n (f == n) (same_page a g) refl refl;
  loads = λ g n. by_load g n (f == n) (same_page a g) refl refl;
  loading = λ n. grind (arith, s.loading);
  waits = λ n. by_wait n (f == n) refl;
  writes = λ n h. by_write n (f == n) refl h;
}
  where
    by_wait : (n : ℕ) (b : Bool) → (f == n) ≡ b → load_of (if b then None else opened n) ≡ waiting (if b then Free else held n)
    by_wait n true is = refl
    by_wait n false is = s.waits n

    load : load_slot (opened f) a ≡ Some slot
    load = s.loads a f ∙ ap (λ y. slot_loading y f) loading ∙ rw (eq-eqb f f refl) refl

    no_pages : (g : Page) → stands_in (at g) f ≡ false
    no_pages g = sym (s.frames g f) ∙ loads_no_page (held f) g (sym (s.loading f) ∙ load_slot_is (opened f) a slot load)

    no_loads : (g : Page) → same_page a g ≡ false → slot_loading (at g) f ≡ None
    no_loads g other = sym (s.loads g f) ∙ loads_no_other (opened f) a g slot load other

    -- no other page comes back from this frame
    others : (p : Place) → slot_loading p f ≡ None → back_from f p ≡ p
    others Absent h = refl
    others (Here m) h = refl
    others (Leaving m) h = refl
    others (Away x) h = refl
    others (Loading m x) h = by_test (m == f) h
      where
        by_test : (b : Bool) → slot_if b x ≡ None → (if b then Away x else Loading m x) ≡ Loading m x
        by_test true k = cc
        by_test false k = refl

    itself : (g : Page) → same_page a g ≡ true → back_from f (at g) ≡ Away slot
    itself g is = ap (back_from f) (of_same at (Loading f slot) a g loading is) ∙ rw (eq-eqb f f refl) refl

    by_frame : (g : Page) (n : ℕ) (b d : Bool) → (f == n) ≡ b → same_page a g ≡ d
        → stands (if b then Free else held n) g ≡ stands_in (back_from f (at g)) n
    by_frame g n true true is it = sym (ap (λ y. stands_in y n) (itself g it))
    by_frame g n true false is it =
        sym (at_same (stands_in (at g)) false f n (no_pages g) is) ∙ sym (ap (λ y. stands_in y n) (others (at g) (no_loads g it)))
    by_frame g n false true is it =
        s.frames g n ∙ ap (λ y. stands_in y n) (of_same at (Loading f slot) a g loading it) ∙ sym
        (ap (λ y. stands_in y n) (itself g it))
    by_frame g n false false is it = s.frames g n ∙ sym (ap (λ y. stands_in y n) (others (at g) (no_loads g it)))

    by_load : (g : Page) (n : ℕ) (b d : Bool) → (f == n) ≡ b → same_page a g ≡ d
        → load_slot (if b then None else opened n) g ≡ slot_loading (back_from f (at g)) n
    by_load g n true true is it = sym (ap (λ y. slot_loading y n) (itself g it))
    by_load g n true false is it =
        sym (at_same (slot_loading (at g)) None f n (no_loads g it) is) ∙ sym (ap (λ y. slot_loading y n) (others (at g) (no_loads g it)))
    by_load g n false true is it =
        s.loads g n ∙ ap (λ y. slot_loading y n) (of_same at (Loading f slot) a g loading it) ∙ rw is refl ∙ sym
        (ap (λ y. slot_loading y n) (itself g it))
    by_load g n false false is it = s.loads g n ∙ sym (ap (λ y. slot_loading y n) (others (at g) (no_loads g it)))

    leaving_stays : (p : Place) (n : ℕ) → p ≡ Leaving n → back_from f p ≡ Leaving n
    leaving_stays p n is = ap (back_from f) is

    by_write : (n : ℕ) (b : Bool) → (f == n) ≡ b → is_write_start (if b then None else opened n) ≡ true
        → (g : Page) × (back_from f (at g) ≡ Leaving n)
    by_write n true is h = cc
    by_write n false is h = let w = s.writes n h in (w.0, leaving_stays (at w.0) n w.1)
