-- What the rows that build leave of a guarded state is guarded, and what holds of any that touches one frame alone.
use Rattle.std.proofs.Common.{◌≡◌, ℕ, ◌+◌, ◌<◌, ◌≤◌, ◌==◌, ◌||◌, ◌&&◌, Bool, true, false, cond, refl, sym, ap, subst, ◌∙◌, arith}
use Rattle.std.proofs.Common.{Option, Some, None, IfSome, IsSomeAnd, List, is_some, nat_lt}
use Rattle.std.proofs.lemmas.Bool.{cond_both, false≢true, eqb-true, lt-ltb, ltb-true}
use Rattle.std.proofs.lemmas.List.Elements.{All-weaker}
use Rattle.std.proofs.lemmas.Option.{IfSome_then}
use Rattle.sgx_types.specs.declared.lawful.PageInit.{PageInit}
use Rattle.sgx_types.specs.declared.names.Kind.{Kind}
use Rattle.sgx_types.specs.declared.names.Page.{Page}
use Rattle.sgx_types.specs.declared.names.Perm.{Perm}
use Rattle.sgx_types.specs.declared.names.SlotAt.{SlotAt}
use Rattle.sgx_rules.specs.Epochs.{epoch_of}
use Rattle.sgx_rules.specs.Flat.{FlatEnclave, enclave_sight_of, as_initialised}
use Rattle.sgx_types.specs.Pages.{is_own_page, is_secs_page, is_va_page, same_page}
use Rattle.sgx_rules.specs.Frames.{Content, Free, IsVa, SecsOf, Holds, IsLoading, enclave_in, is_child, is_secs_of, secs_frame}
use Rattle.sgx_rules.specs.Sights.{secs_seen}
use Rattle.sgx_rules.specs.Processors.{Seat}
use Rattle.sgx_rules.specs.inner.Starts.{BareStart}
use Rattle.sgx_rules.specs.Table.{is_loading, is_made, is_own, is_valid}
use Rattle.sgx_types.proofs.Pages.{same_pages}
use Rattle.sgx_types.proofs.Truths.{apart, both_true}
use Rattle.machine_copies.specs.inner.Away.{SecsIsIn, array_in}
use Rattle.machine_copies.proofs.SecsLaws.{out_covers, put_covers}
use Rattle.measure_log.specs.declared.measure.Measure.{Measure}
use Rattle.cached_translations.specs.declared.cache.Translation.{Translation}
use Rattle.machine_laws.specs.inner.State.{State, with_content, with_acc, after_epa, after_create, after_add, after_extend, after_init}
use Rattle.machine_laws.specs.inner.State.{is_known, secs_sight}
use Rattle.machine_laws.specs.inner.Guarded.{FramesKept, IsNoEarlier, HasNoted, IsDrainedAt, IsPaged, IsOpen, AreApart, WritesOut, Loads}
use Rattle.machine_laws.specs.inner.Guarded.{IsGuarded, IsNamed, IsNamedRight}
use Rattle.machine_laws.proofs.TestLaws.{equal}

-- ---- pages that there are, and open starts

-- where no fewer version array pages were made, no enclave is gone and no added page, each page that there was is there still
pub known_more : (s t : State) → s.vas_made ≤ t.vas_made
    → ((e : ℕ) → is_made (enclave_sight_of (s.enclaves e)) ≡ true → is_made (enclave_sight_of (t.enclaves e)) ≡ true)
    → ((g : Page) → is_some (s.added g) ≡ true → is_some (t.added g) ≡ true) → (g : Page) → is_known s g ≡ true → is_known t g ≡ true
known_more s t vas enclaves added g = by_name (is_va_page g) (is_secs_page g)
  where
    by_name : (va secs : Bool)
        → cond va (nat_lt g.number s.vas_made) (cond secs (is_made (enclave_sight_of (s.enclaves g.enclave)))
        (is_made (enclave_sight_of (s.enclaves g.enclave)) && is_some (s.added g))) ≡ true
        → cond va (nat_lt g.number t.vas_made) (cond secs (is_made (enclave_sight_of (t.enclaves g.enclave)))
        (is_made (enclave_sight_of (t.enclaves g.enclave)) && is_some (t.added g))) ≡ true
    by_name true secs is = lt-ltb g.number t.vas_made (let low = ltb-true g.number s.vas_made is in omega (arith, low, vas))
    by_name false true is = enclaves g.enclave is
    by_name false false is =
        let both = both_true (is_made (enclave_sight_of (s.enclaves g.enclave))) (is_some (s.added g)) is in
        rw (enclaves g.enclave both.0, added g both.1) refl

-- a start is open still where its frame is as it was
pub open_still : (s t : State) (x : BareStart) → t.content x.at.frame.0 ≡ s.content x.at.frame.0
    → t.is_sealing x.at.frame.0 ≡ s.is_sealing x.at.frame.0 → ((g : Page) → is_known s g ≡ true → is_known t g ≡ true)
    → IsOpen s x → IsOpen t x
open_still s t x held sealing known o = record {
  held = held ∙ o.held;
  index = o.index;
  within = o.within;
  stays = sealing ∙ o.stays;
  loads = IfSome_then x.loads o.loads known;
}

-- .. so each where all frames are
pub opened_still : (s t : State) → t.content ≡ s.content → t.is_sealing ≡ s.is_sealing → t.start ≡ s.start
    → ((g : Page) → is_known s g ≡ true → is_known t g ≡ true) → IsGuarded s → (n : ℕ) → IfSome (t.start n) (IsOpen t)
opened_still s t held sealing start known h n =
    subst (λ (o : Option BareStart). IfSome o (IsOpen t)) (sym (ap (λ (f : ℕ → Option BareStart). f n) start))
    (IfSome_then (s.start n) (h.opened n) (λ x o. open_still s t x (ap (λ (f : ℕ → Content). f x.at.frame.0) held)
    (ap (λ (f : ℕ → Bool). f x.at.frame.0) sealing) known o))

-- ---- what frames hold

-- in a free frame comes what has its enclave's SECS in, and no version array page that is elsewhere
pub kept_put : (frames vas : ℕ) (content : ℕ → Content) (sealing : ℕ → Bool) (f : ℕ) (c : Content) → f < frames
    → ((e : ℕ) → is_secs_of (content f) e ≡ false) → sealing f ≡ false
    → ((e : ℕ) → is_child c e ≡ true → SecsIsIn frames content sealing e)
    → ((k : ℕ) → array_in c ≡ Some k → k < vas) → ((k n : ℕ) → c ≡ IsVa k → content n ≡ IsVa k → f ≡ n) → IsNamedRight c
    → FramesKept frames vas content sealing → FramesKept frames vas (λ n. cond (f == n) c (content n)) sealing
kept_put frames vas content sealing f c low none settled comes made alone named h = record {
  covered = put_covers frames content sealing f c low none settled comes h.covered;
  bounded = λ n high. cond_both (f == n) c (content n) (λ v. v ≡ Free)
      (λ same. let here = eqb-true f n same in absurd (omega (arith, low, high, here))) (λ _. h.bounded n high);
  arrays = record {
    below = λ n k. cond_both (f == n) c (content n) (λ v. array_in v ≡ Some k → k < vas) (λ _. made k) (λ _. h.arrays.below n k);
    once = λ m n k. by_tests m n k (f == m) refl (f == n) refl;
  };
  named = λ n. cond_both (f == n) c (content n) IsNamedRight (λ _. named) (λ _. h.named n);
}
  where
    by_tests : (m n k : ℕ) (a : Bool) → (f == m) ≡ a → (b : Bool) → (f == n) ≡ b → cond a c (content m) ≡ IsVa k
        → cond b c (content n) ≡ IsVa k → m ≡ n
    by_tests m n k true e true d here there = sym (eqb-true f m e) ∙ eqb-true f n d
    by_tests m n k true e false d here there = sym (eqb-true f m e) ∙ alone k n here there
    by_tests m n k false e true d here there = sym (sym (eqb-true f n d) ∙ alone k m there here)
    by_tests m n k false e false d here there = h.arrays.once m n k here there

-- .. in one that is taken, what is a page of no other enclave than what was there, no other version array page, and none that is elsewhere
pub kept_less : (frames vas : ℕ) (content : ℕ → Content) (sealing : ℕ → Bool) (f : ℕ) (c : Content) → f < frames
    → ((e : ℕ) → is_secs_of (content f) e ≡ false) → sealing f ≡ false
    → ((e : ℕ) → is_child c e ≡ true → is_child (content f) e ≡ true)
    → ((k : ℕ) → array_in c ≡ Some k → array_in (content f) ≡ Some k) → ((k n : ℕ) → c ≡ IsVa k → content n ≡ IsVa k → f ≡ n)
    → IsNamedRight c → FramesKept frames vas content sealing → FramesKept frames vas (λ n. cond (f == n) c (content n)) sealing
kept_less frames vas content sealing f c low none settled child array alone named h =
    kept_put frames vas content sealing f c low none settled (λ e is. h.covered e f (child e is))
    (λ k is. h.arrays.below f k (array k is)) alone named h

-- .. and what a frame held is gone
pub kept_out : (frames vas : ℕ) (content : ℕ → Content) (sealing : ℕ → Bool) (f : ℕ) → sealing f ≡ true
    → FramesKept frames vas content sealing
    → FramesKept frames vas (λ n. cond (f == n) Free (content n)) (λ n. cond (f == n) false (sealing n))
kept_out frames vas content sealing f leaves h = record {
  covered = out_covers frames content sealing f leaves h.covered;
  bounded = λ n high. cond_both (f == n) Free (content n) (λ v. v ≡ Free) (λ _. refl) (λ _. h.bounded n high);
  arrays = record {
    below = λ n k. cond_both (f == n) Free (content n) (λ v. array_in v ≡ Some k → k < vas) (λ _ is. cc is) (λ _. h.arrays.below n k);
    once = λ m n k. cond_both (f == m) Free (content m)
        (λ v. v ≡ IsVa k → cond (f == n) Free (content n) ≡ IsVa k → m ≡ n) (λ _ is. cc is)
        (λ _ here. cond_both (f == n) Free (content n) (λ v. v ≡ IsVa k → m ≡ n) (λ _ is. cc is)
        (λ _ there. h.arrays.once m n k here there));
  };
  named = λ n. cond_both (f == n) Free (content n) IsNamedRight (λ _. tt) (λ _. h.named n);
}

-- a frame that is not on its way out may be told so once more
pub kept_settled : (frames vas : ℕ) (content : ℕ → Content) (sealing : ℕ → Bool) (f : ℕ) → FramesKept frames vas content sealing
    → FramesKept frames vas content (λ n. cond (f == n) false (sealing n))
kept_settled frames vas content sealing f h = record {
  covered = λ e m is.
      let k = h.covered e m is in
      record {
        frame = k.frame;
        there = k.there;
        stays = cond_both (f == k.frame) false (sealing k.frame) (λ b. b ≡ false) (λ _. refl) (λ _. k.stays);
      };
  bounded = h.bounded;
  arrays = h.arrays;
  named = h.named;
}

-- ---- the columns on which no guard depends

-- any change of the words, the measurements, the accumulators, the versions in slots and the next one, and of the enclaves where none is
-- gone
pub guarded_beside : (s : State) (words : ℕ → List ℕ) (enclaves : ℕ → Option FlatEnclave) (measure : ℕ → Option Measure) (acc : ℕ → ℕ)
    (version_in : SlotAt → ℕ) (next_version : ℕ)
    → ((e : ℕ) → is_made (enclave_sight_of (s.enclaves e)) ≡ true → is_made (enclave_sight_of (enclaves e)) ≡ true) → IsGuarded s
    → IsGuarded (record s {
      words = words;
      enclaves = enclaves;
      measure = measure;
      acc = acc;
      version_in = version_in;
      next_version = next_version;
    })
guarded_beside s words enclaves measure acc version_in next_version more h =
    let t = record s {
      words = words;
      enclaves = enclaves;
      measure = measure;
      acc = acc;
      version_in = version_in;
      next_version = next_version;
    } in
    record {
      few = h.few;
      noted = h.noted;
      blocks = h.blocks;
      sealing = h.sealing;
      taken = λ g busy. let k = h.taken g busy in record { cpu = k.cpu; by = k.by };
      opened = opened_still s t refl refl refl (known_more s t (omega arith) more (λ g is. is)) h;
      written = h.written;
      loaded = h.loaded;
      held = h.held;
      apart = h.apart;
      kinds = h.kinds;
      goes_out = h.goes_out;
      kept = h.kept;
    }

-- any change of the words alone
pub guarded_words : (s : State) (words : ℕ → List ℕ) → IsGuarded s → IsGuarded (record s { words = words })
guarded_words s words h = guarded_beside s words s.enclaves s.measure s.acc s.version_in s.next_version (λ e is. is) h

-- .. and of an accumulator
pub guarded_acc : (s : State) (p acc : ℕ) → IsGuarded s → IsGuarded (with_acc s p acc)
guarded_acc s p acc h =
    guarded_beside s s.words s.enclaves s.measure (with_acc s p acc).acc s.version_in s.next_version (λ e is. is) h

-- .. and of a measurement
pub guarded_extend : (s : State) (enclave : ℕ) (longer : Measure) → IsGuarded s → IsGuarded (after_extend s enclave longer)
guarded_extend s enclave longer h =
    guarded_beside s s.words s.enclaves (after_extend s enclave longer).measure s.acc s.version_in s.next_version (λ e is. is) h

-- .. and of how many version array pages were made, where it is no smaller
pub guarded_made : (s : State) (made : ℕ) → s.vas_made ≤ made → IsGuarded s → IsGuarded (record s { vas_made = made })
guarded_made s made more h =
    let t = record s { vas_made = made } in
    record {
      few = h.few;
      noted = h.noted;
      blocks = h.blocks;
      sealing = h.sealing;
      taken = λ g busy. let k = h.taken g busy in record { cpu = k.cpu; by = k.by };
      opened = opened_still s t refl refl refl (known_more s t more (λ e is. is) (λ g is. is)) h;
      written = h.written;
      loaded = h.loaded;
      held = h.held;
      apart = h.apart;
      kinds = h.kinds;
      goes_out = h.goes_out;
      kept = record {
        covered = h.kept.covered;
        bounded = h.kept.bounded;
        named = h.kept.named;
        arrays = record {
          below = λ n k is. let low = h.kept.arrays.below n k is in omega (arith, low, more);
          once = h.kept.arrays.once;
        };
      };
    }

-- .. and whether an enclave is initialised
pub guarded_init : (s : State) (enclave : ℕ) → IsGuarded s → IsGuarded (after_init s enclave)
guarded_init s enclave h =
    guarded_beside s s.words (after_init s enclave).enclaves s.measure s.acc s.version_in s.next_version
    (λ e. cond_both (e == enclave) (as_initialised (s.enclaves e)) (s.enclaves e)
    (λ o. is_made (enclave_sight_of (s.enclaves e)) ≡ true → is_made (enclave_sight_of o) ≡ true) (λ _. still (s.enclaves e)) (λ _ is. is))
    h
  where
    still : (o : Option FlatEnclave) → is_made (enclave_sight_of o) ≡ true → is_made (enclave_sight_of (as_initialised o)) ≡ true
    still None is = cc is
    still (Some x) is = refl

-- ---- an enclave's SECS

-- what a row sees of a SECS that is in
pub secs_is_in : (s : State) (e : ℕ) → (secs_sight s e).is_away ≡ false → (secs_sight s e).is_sealing ≡ false
    → SecsIsIn s.frames s.content s.is_sealing e
secs_is_in s e there stays = by_frame (secs_frame s.frames s.content e) refl there stays
  where
    by_frame : (o : Option ℕ) → secs_frame s.frames s.content e ≡ o → (secs_seen s.is_sealing o).is_away ≡ false
        → (secs_seen s.is_sealing o).is_sealing ≡ false → SecsIsIn s.frames s.content s.is_sealing e
    by_frame None is there stays = cc there
    by_frame (Some n) is there stays = record { frame = n; there = is; stays = stays }

-- ---- one frame that is put, or whose start begins or ends

-- what holds of a frame and of each other holds of all
pub each_frame : (f : ℕ) (P : ℕ → Type 0) → P f → ((n : ℕ) → (f == n) ≡ false → P n) → (n : ℕ) → P n
each_frame f P here elsewhere n = by_test (f == n) refl
  where
    by_test : (b : Bool) → (f == n) ≡ b → P n
    by_test true e = subst P (eqb-true f n e) here
    by_test false e = elsewhere n e

-- a processor's frames are blocked no earlier, where blocks get no earlier
pub noted_still : (epoch : ℕ → ℕ) (blocked blocked' : ℕ → Option ℕ) (noted : ℕ) (held : List Translation) (seat : Seat)
    → ((n : ℕ) → IsNoEarlier noted (blocked n) → IsNoEarlier noted (blocked' n))
    → HasNoted epoch blocked noted held seat → HasNoted epoch blocked' noted held seat
noted_still epoch blocked blocked' noted held seat later h = record {
  not_ahead = h.not_ahead;
  not_behind = h.not_behind;
  tcs = later seat.tcs_frame h.tcs;
  ssa = later seat.ssa_frame h.ssa;
  cache = All-weaker (λ (t : Translation). IsNoEarlier noted (blocked t.frame.0)) (λ t. IsNoEarlier noted (blocked' t.frame.0))
      (λ t. later t.frame.0) held h.cache;
}

-- a frame in which nothing is does not go out
pub stays_in : (s : State) (f : ℕ) → IsGuarded s → is_valid (s.content f) ≡ false → s.is_sealing f ≡ false
stays_in s f h none = by_test (s.is_sealing f) refl
  where
    by_test : (b : Bool) → s.is_sealing f ≡ b → b ≡ false
    by_test true e = absurd (false≢true (sym none ∙ h.goes_out f e))
    by_test false e = refl

-- a frame that is not busy has no open start
pub no_start : (s : State) (f : ℕ) → IsGuarded s → s.is_sealing f ≡ false → is_loading (s.content f) ≡ false → s.start f ≡ None
no_start s f h settled still = by_start (s.start f) (h.held f)
  where
    by_start : (o : Option BareStart) → (is_some o ≡ true → (s.is_sealing f || is_loading (s.content f)) ≡ true) → o ≡ None
    by_start None held = refl
    by_start (Some x) held = let busy : false ≡ true = rw (settled, still) at (held refl) in absurd (false≢true busy)

module _ (s : State) (f : ℕ) (content : ℕ → Content) (blocked : ℕ → Option ℕ) (is_sealing : ℕ → Bool)
    (start : ℕ → Option BareStart) (is_slot_named : SlotAt → Bool) where
  -- a frame of which nothing is changed
  pub record IsSame (n : ℕ) : Type 0 where
    pub held : content n ≡ s.content n
    pub blocked_at : blocked n ≡ s.blocked n
    pub sealing : is_sealing n ≡ s.is_sealing n
    pub start_of : start n ≡ s.start n

  -- no open start finds its slot in the frame, which is not blocked and not on its way out then; its start, if it has one, is open
  pub record IsPut : Type 0 where
    pub same : (n : ℕ) → (f == n) ≡ false → IsSame n
    pub elsewhere : (x : BareStart) → IsOpen s x → f ≡ x.at.frame.0 → ⊥
    pub unblocked : blocked f ≡ None
    pub settled : is_sealing f ≡ false
    pub opened : IfSome (start f) (IsOpen s)
    pub loaded : (g : Page) → content f ≡ IsLoading g → IsSomeAnd (start f) (Loads g)
    pub held : is_some (start f) ≡ true → is_loading (content f) ≡ true
    pub apart : AreApart s.frames start is_slot_named
    pub kept : FramesKept s.frames s.vas_made content is_sealing

  -- .. leaves a guarded state guarded
  abbrev after_put : State
  after_put = record s { content = content; blocked = blocked; is_sealing = is_sealing; start = start; is_slot_named = is_slot_named }

  pub guarded_frame : IsGuarded s → IsPut → IsGuarded
      (record s { content = content; blocked = blocked; is_sealing = is_sealing; start = start; is_slot_named = is_slot_named })
  guarded_frame h k = record {
    few = h.few;
    noted = λ p.
        IfSome_then (s.inside p) (h.noted p)
        (λ seat. noted_still s.epoch s.blocked blocked (s.noted p) (s.cache p) seat
        (each_frame f (λ n. IsNoEarlier (s.noted p) (s.blocked n) → IsNoEarlier (s.noted p) (blocked n)) (λ _. rw k.unblocked tt)
        (λ n e. rw (k.same n e).blocked_at (λ x. x))));
    blocks = each_frame f (λ n. IfSome (blocked n) (λ b. b ≤ epoch_of s.epoch (enclave_in (content n)))) (rw k.unblocked tt)
        (λ n e. let same = k.same n e in rw (same.blocked_at, same.held) (h.blocks n));
    sealing =
        each_frame f (λ n. is_sealing n ≡ true → is_own (content n) ≡ true → IsSomeAnd (blocked n)
        (IsDrainedAt s.inside s.noted (enclave_in (content n)) (epoch_of s.epoch (enclave_in (content n)))))
        (λ leaves. absurd (false≢true (sym k.settled ∙ leaves)))
        (λ n e. let same = k.same n e in rw (same.sealing, same.blocked_at, same.held) (h.sealing n));
    taken = λ g busy. let k = h.taken g busy in record { cpu = k.cpu; by = k.by };
    opened = λ n. IfSome_then (start n)
        (each_frame f (λ n. IfSome (start n) (IsOpen s)) k.opened (λ n e. rw (k.same n e).start_of (h.opened n)) n)
        (λ x o.
        let same = k.same x.at.frame.0 (apart f x.at.frame.0 (k.elsewhere x o)) in
        open_still s after_put x same.held same.sealing (λ g is. is) o);
    written =
        each_frame f (λ n. is_sealing n ≡ true → IsSomeAnd (start n) WritesOut) (λ leaves. absurd (false≢true (sym k.settled ∙ leaves)))
        (λ n e. let same = k.same n e in rw (same.sealing, same.start_of) (h.written n));
    loaded = λ n g. each_frame f (λ m. content m ≡ IsLoading g → IsSomeAnd (start m) (Loads g)) (k.loaded g)
        (λ m e. let same = k.same m e in rw (same.held, same.start_of) (h.loaded m g)) n;
    held =
        each_frame f (λ n. is_some (start n) ≡ true → (is_sealing n || is_loading (content n)) ≡ true)
        (λ is. rw k.settled (k.held is))
        (λ n e. let same = k.same n e in rw (same.start_of, same.sealing, same.held) (h.held n));
    apart = k.apart;
    kinds = h.kinds;
    goes_out =
        each_frame f (λ n. is_sealing n ≡ true → is_valid (content n) ≡ true)
        (λ leaves. absurd (false≢true (sym k.settled ∙ leaves)))
        (λ n e. let same = k.same n e in rw (same.sealing, same.held) (h.goes_out n));
    kept = k.kept;
  }

-- ---- building

-- a frame that holds nothing holds no slots
pub no_slot : (s : State) (f : ℕ) → (c : Content) → s.content f ≡ c → array_in c ≡ None → (x : BareStart) → IsOpen s x
    → f ≡ x.at.frame.0 → ⊥
no_slot s f c is none x o same =
    let held : c ≡ IsVa x.slot.va = sym is ∙ ap s.content same ∙ o.held in
    let some : None ≡ Some x.slot.va = sym none ∙ ap array_in held in cc some

-- a free frame that is put, and may get other words
pub guarded_put : (s : State) (f : ℕ) (c : Content) (words : ℕ → List ℕ) → IsGuarded s → s.content f ≡ Free
    → ((g : Page) → c ≡ IsLoading g → ⊥) → FramesKept s.frames s.vas_made (with_content s f c).content s.is_sealing
    → IsGuarded (record (with_content s f c) { words = words })
guarded_put s f c words h free settled kept =
    let t = with_content s f c in
    guarded_words t words
    (guarded_frame s f t.content t.blocked s.is_sealing s.start s.is_slot_named h (record {
      same = λ n e. record { held = rw e refl; blocked_at = rw e refl; sealing = refl; start_of = refl };
      elsewhere = no_slot s f Free free refl;
      unblocked = rw (equal f f refl) refl;
      settled = stays_in s f h (rw free refl);
      opened = h.opened f;
      loaded = λ g waits. absurd (settled g (rw (equal f f refl) at waits));
      held = λ is. absurd (cc (is, ap is_some (no_start s f h (stays_in s f h (rw free refl)) (rw free refl))));
      apart = h.apart;
      kept = kept;
    }))

-- .. which takes the SECS of no enclave away
pub free_kept : (s : State) (f : ℕ) (c : Content) → f < s.frames → IsGuarded s → s.content f ≡ Free
    → ((e : ℕ) → is_child c e ≡ true → SecsIsIn s.frames s.content s.is_sealing e)
    → ((k : ℕ) → array_in c ≡ Some k → k < s.vas_made) → ((k n : ℕ) → c ≡ IsVa k → s.content n ≡ IsVa k → f ≡ n) → IsNamedRight c
    → FramesKept s.frames s.vas_made (with_content s f c).content s.is_sealing
free_kept s f c low h free comes made alone named =
    kept_put s.frames s.vas_made s.content s.is_sealing f c low (λ e. rw free refl) (stays_in s f h (rw free refl)) comes
    made alone named h.kept

-- the slots of a frame that held none are named by no start
pub guarded_empty : (s : State) (f : ℕ) → IsGuarded s → ((x : BareStart) → IsOpen s x → f ≡ x.at.frame.0 → ⊥)
    → IsGuarded (record s { is_slot_named = λ slot. cond (f == slot.frame.0) false (s.is_slot_named slot) })
guarded_empty s f h elsewhere =
    let t = record s { is_slot_named = λ slot. cond (f == slot.frame.0) false (s.is_slot_named slot) } in
    record {
      few = h.few;
      noted = h.noted;
      blocks = h.blocks;
      sealing = h.sealing;
      taken = λ g busy. let k = h.taken g busy in record { cpu = k.cpu; by = k.by };
      opened = opened_still s t refl refl refl (λ g is. is) h;
      written = h.written;
      loaded = h.loaded;
      held = h.held;
      apart = record {
        below = h.apart.below;
        marked = λ n x is.
            let o : IsOpen s x = rw is at (h.opened n) in
            rw (apart f x.at.frame.0 (elsewhere x o)) (h.apart.marked n x is);
        named = λ slot. cond_both (f == slot.frame.0) false (s.is_slot_named slot) (λ b. b ≡ true → IsNamed s.start slot)
            (λ _ is. absurd (false≢true is)) (λ _. h.apart.named slot);
        alone = h.apart.alone;
      };
      kinds = h.kinds;
      goes_out = h.goes_out;
      kept = h.kept;
    }

-- a free frame that comes to hold a new version array page
pub guarded_epa : (s : State) (f : ℕ) → IsGuarded s → f < s.frames → s.content f ≡ Free → IsGuarded (after_epa s f)
guarded_epa s f h low free =
    let k = s.vas_made in
    let more = record s { vas_made = k + 1 } in
    let h' = guarded_made s (k + 1) (omega arith) h in
    let there = record more { is_slot_named = λ slot. cond (f == slot.frame.0) false (s.is_slot_named slot) } in
    let h'' = guarded_empty more f h' (no_slot more f Free free refl) in
    let t = after_epa s f in
    guarded_beside (with_content there f (IsVa k)) s.words s.enclaves s.measure s.acc t.version_in s.next_version (λ e is. is)
    (guarded_put there f (IsVa k) s.words h'' free (λ g waits. cc waits)
    (free_kept there f (IsVa k) low h'' free (λ e is. cc is)
    (λ n is. let same : k ≡ n = cc is in omega (arith, same))
    (λ n m here old. let same : k ≡ n = cc here in
    let below = h.kept.arrays.below m n (ap array_in old) in absurd (omega (arith, below, same))) tt))

-- a free frame that comes to hold an SECS page
pub guarded_create : (s : State) (enclave f base size : ℕ) (begun : Measure) → IsGuarded s → f < s.frames → s.content f ≡ Free
    → (enclave == 0) ≡ false
    → IsGuarded (after_create s enclave f base size begun)
guarded_create s enclave f base size begun h low free numbered =
    let t = after_create s enclave f base size begun in
    guarded_beside (with_content s f (SecsOf enclave)) s.words t.enclaves t.measure s.acc s.version_in s.next_version
    (λ e. cond_both (e == enclave) (Some (record { base = base; size = size; is_init = false })) (s.enclaves e)
    (λ o. is_made (enclave_sight_of (s.enclaves e)) ≡ true → is_made (enclave_sight_of o) ≡ true) (λ _ is. refl) (λ _ is. is))
    (guarded_put s f (SecsOf enclave) s.words h free (λ g waits. cc waits)
    (free_kept s f (SecsOf enclave) low h free (λ e is. cc is) (λ k is. cc is) (λ k n here there. cc here) numbered))

-- a page more that was added, of a kind for pages
guarded_added : (s : State) (g : Page) (kind : Kind) (perm : Perm) → IsGuarded s → IsPaged kind → is_own_page g ≡ true
    → IsGuarded (record s { added = λ q. cond (same_page q g) (Some (kind, perm)) (s.added q) })
guarded_added s g kind perm h paged own =
    let t = record s { added = λ q. cond (same_page q g) (Some (kind, perm)) (s.added q) } in
    record {
      few = h.few;
      noted = h.noted;
      blocks = h.blocks;
      sealing = h.sealing;
      taken = λ q busy. let k = h.taken q busy in record { cpu = k.cpu; by = k.by };
      opened = opened_still s t refl refl refl
          (known_more s t (omega arith) (λ e is. is)
          (λ q there. cond_both (same_page q g) (Some (kind, perm)) (s.added q) (λ v. is_some v ≡ true) (λ _. refl) (λ _. there))) h;
      written = h.written;
      loaded = h.loaded;
      held = h.held;
      apart = h.apart;
      kinds = λ q. cond_both (same_page q g) (Some (kind, perm)) (s.added q)
          (λ v. IfSome v (λ x. IsPaged x.0 × (is_own_page q ≡ true)))
          (λ here. (paged, ap is_own_page (same_pages q g here) ∙ own)) (λ _. h.kinds q);
      goes_out = h.goes_out;
      kept = h.kept;
    }

-- a free frame that comes to hold a new page, whose enclave's SECS is in
pub guarded_add : (s : State) (g : Page) (f : ℕ) (kind : Kind) (perm : Perm) (init : PageInit) (longer : Measure) → IsGuarded s
    → f < s.frames → s.content f ≡ Free → IsPaged kind → is_own_page g ≡ true → SecsIsIn s.frames s.content s.is_sealing g.enclave
    → IsGuarded (after_add s g f kind perm init longer)
guarded_add s g f kind perm init longer h low free paged own secs =
    let t = after_add s g f kind perm init longer in
    guarded_beside (record (with_content s f (Holds g kind perm)) { added = t.added }) t.words s.enclaves t.measure s.acc s.version_in
    s.next_version (λ e is. is)
    (guarded_added (with_content s f (Holds g kind perm)) g kind perm
    (guarded_put s f (Holds g kind perm) s.words h free (λ q waits. cc waits)
    (free_kept s f (Holds g kind perm) low h free
    (λ e is. subst (SecsIsIn s.frames s.content s.is_sealing) (eqb-true g.enclave e is) secs) (λ k is. cc is)
    (λ k n here there. cc here) own)) paged own)
