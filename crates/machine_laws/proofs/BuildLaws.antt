-- The rows that build an enclave: what each brings where it is done.
use Rattle.std.proofs.Common.{◌≡◌, ℕ, ◌*◌, ◌==◌, ◌||◌, not, Bool, true, false, cond, leb, refl, sym, ap, ◌∙◌}
use Rattle.std.proofs.Common.{Option, Some, None, List, [], is_some, length}
use Rattle.std.specs.Option.{IsSomeAnd}
use Rattle.std.proofs.lemmas.Bool.{cond_both, false≢true}
use Rattle.sgx_rules.specs.declared.entries.Entry.{Entry}
use Rattle.sgx_types.specs.declared.names.Actor.{Actor}
use Rattle.sgx_rules.specs.declared.entries.Action.TheVariants.{Epa, Create, Add, Init}
use Rattle.sgx_rules.specs.declared.entries.Answer.TheVariants.{Plain, Hash, Va}
use Rattle.sgx_types.specs.declared.lawful.PageInit.{PageInit}
use Rattle.sgx_types.specs.declared.names.Frame.{Frame}
use Rattle.sgx_types.specs.declared.names.Page.{Page}
use Rattle.sgx_types.specs.declared.names.Kind.{Kind}
use Rattle.sgx_types.specs.declared.names.Perm.{Perm}
use Rattle.sgx_types.specs.Pages.{page_at, same_page}
use Rattle.sgx_rules.specs.Frames.{Content, Free, IsVa, SecsOf, Holds, content}
use Rattle.sgx_types.specs.Lawful.{is_enclave, is_lawful}
use Rattle.sgx_rules.specs.Table.{FrameSight, is_busy, is_valid, epa_row, create_row, add_row, EnclaveSight, SecsSight}
use Rattle.sgx_types.specs.Cases.{first_of_row}
use Rattle.sgx_rules.specs.Flat.{FlatEnclave, FlatPage, FlatMemory, added_as, flat, open_frame, enclave_sight_of, first_words}
use Rattle.sgx_rules.specs.Flat.{with_page}
use Rattle.sgx_rules.specs.Flat.{as_initialised, settled}
use Rattle.sgx_types.specs.Layouts.{flags_of}
use Rattle.sgx_rules.proofs.Contents.{free_there}
use Rattle.sgx_rules.proofs.Rows.{none_holds, none_refused, init_open}
use Rattle.sgx_types.proofs.Truths.{neither}
use Rattle.sgx_types.proofs.Pages.{same_page-at, same_pages}
use Rattle.measure_log.specs.declared.measure.Measure.{Measure}
use Rattle.measure_log.specs.Blocks.{ecreate_block, eadd_block}
use Rattle.measure_log.specs.inner.Measure.{HoldsLog, TakesIn}
use Rattle.measure_log.specs.Rule.{log, MeasureRule}
use Rattle.machine_laws.specs.inner.State.{State, secs_sight, sight, row_of, after_epa, after_create, after_add, after_init}
use Rattle.machine_laws.specs.inner.Stands.{Stands, IsSound, EnclavesSeen, HasWords, enclaves_flat, enclaves_seen}
use Rattle.machine_laws.proofs.TestLaws.{both_false, is_none-None, none_there}
use Rattle.machine_laws.proofs.MeasureLaws.{begins, goes_on, stays}
use Rattle.machine_laws.proofs.SoundLaws.{sound-put}
use Rattle.machine_laws.proofs.WordLaws.{length-first_words}
use Rattle.machine_laws.specs.inner.Steps.{did_by}
use Rattle.machine_laws.specs.inner.Columns.{EnclaveColumns}
use Rattle.machine_laws.proofs.NextEntry.{BringsDone}
use Rattle.machine_laws.proofs.ColumnLaws.{added_flat, enclave_flat}

-- ---- a frame that is put

-- one that comes to hold no page has no page's words
pub words_put : (content : ℕ → Content) (words : ℕ → List ℕ) (m : FlatMemory) (f : ℕ) (c : Content)
    → ((g : Page) (kind : Kind) (perm : Perm) → c ≡ Holds g kind perm → ⊥) → HasWords content words m
    → HasWords (λ n. cond (f == n) c (content n)) words m
words_put content words m f c none h n g kind perm =
    cond_both (f == n) c (content n) (λ v. v ≡ Holds g kind perm → m.pages g ≡ Some (record { kind = kind; perm = perm; words = words n }))
    (λ _ at. absurd (none g kind perm at)) (λ _. h n g kind perm)

-- ---- epa

pub epa_brings : (s : State) (past : List Entry) (a : Actor) (f : Frame) → first_of_row (row_of s a (Epa f)) ≡ None → Stands s past
    → BringsDone s (after_epa s f.0) past a (Epa f) (Va s.vas_made)
epa_brings s past a f allowed stands =
    let none = none_holds (epa_row (sight s f.0)) allowed in
    let free = free_there (s.content f.0) (s.is_sealing f.0) none.1.0 none.1.1.0 in
    record {
      form = ap (λ (c : EnclaveColumns). Va c.vas_made) stands.columns.enclaves;
      taken = refl;
      same = λ seen. cc seen;
      measure = tt;
      memory = record {
        enclaves = stands.memory.enclaves;
        cpus = stands.memory.cpus;
        words = words_put s.content s.words (flat past) f.0 (IsVa s.vas_made) (λ g kind perm at. cc at) stands.memory.words;
        measure = stands.memory.measure;
      };
    }

-- ---- create

-- the row of `create` in flat memory, whatever frame is given
pub create_open : (enclave base size : ℕ) (is_created : Bool) (v : FrameSight)
    → first_of_row (create_row enclave base size is_created v) ≡ None
    → first_of_row (create_row enclave base size is_created open_frame) ≡ None
create_open enclave base size is_created v allowed =
    let none = none_holds (create_row enclave base size is_created v) allowed in
    let range = neither (v.is_beyond || not (is_enclave enclave)) (not (is_lawful base size)) none.0 in
    let number = neither v.is_beyond (not (is_enclave enclave)) range.0 in
    none_refused (create_row enclave base size is_created open_frame)
    (both_false (not (is_enclave enclave)) (not (is_lawful base size)) number.1 range.1, (none.1.0, (refl, (refl, tt))))

pub create_brings : (s : State) (past : List Entry) (a : Actor) (enclave : ℕ) (f : Frame) (base size : ℕ) (begun : Measure)
    → first_of_row (row_of s a (Create enclave f base size)) ≡ None → HoldsLog begun (ecreate_block size) → Stands s past
    → BringsDone s (after_create s enclave f.0 base size begun) past a (Create enclave f base size) Plain
create_brings s past a enclave f base size begun allowed holds stands =
    let none = none_holds (create_row enclave base size (is_some (s.enclaves enclave)) (sight s f.0)) allowed in
    let range = neither (leb s.frames f.0) (not (is_enclave enclave))
    (neither (leb s.frames f.0 || not (is_enclave enclave)) (not (is_lawful base size)) none.0).0 in
    let free = free_there (s.content f.0) (s.is_sealing f.0) none.1.1.0 none.1.1.1.0 in
    let k = stands.memory in
    let new : s.enclaves enclave ≡ None = none_there (s.enclaves enclave) none.1.0 in
    let no_log : log past enclave ≡ [] = rw new at (k.measure enclave) in
    record {
      form = refl;
      taken = is_none-None _ (rw (enclave_flat stands enclave) at
          (create_open enclave base size (is_some (s.enclaves enclave)) (sight s f.0) allowed));
      same = λ seen. refl;
      measure = tt;
      memory = record {
        enclaves = λ i. record (k.enclaves i) {
          enclaves =
              λ e. cond (e == enclave) (Some (record { base = base; size = size; is_init = false })) ((k.enclaves i).enclaves e);
        };
        cpus = k.cpus;
        words = words_put s.content s.words (flat past) f.0 (SecsOf enclave) (λ g kind perm at. cc at) k.words;
        measure = λ e. begins e enclave (s.enclaves e) _ (s.measure e) begun (ecreate_block size) (log past e) (λ same. rw same no_log)
            holds (k.measure e);
      };
    }

-- ---- add

-- the row of `add`, whatever frame is given, and with a SECS that is in
pub add_open : (number : ℕ) (kind : Kind) (perm : Perm) (init : PageInit) (o : Option EnclaveSight) (secs : SecsSight) (is_added : Bool)
    (v : FrameSight)
    → first_of_row (add_row number kind perm init o secs is_added v) ≡ None
    → first_of_row (add_row number kind perm init o settled is_added open_frame) ≡ None
add_open number kind perm init None secs is_added v allowed =
    absurd (false≢true (sym (none_holds (add_row number kind perm init None secs is_added v) allowed).1.0))
add_open number kind perm init (Some enclave) secs is_added v allowed =
    let none = none_holds (add_row number kind perm init (Some enclave) secs is_added v) allowed in
    let more = none.1.1.1 in
    none_refused (add_row number kind perm init (Some enclave) settled is_added open_frame)
    (refl, (refl, (refl, (more.0, (more.1.0, (more.1.1.0, (more.1.1.1.0, (more.1.1.1.1.0, (refl, (refl, tt))))))))))

-- what the row of `add` says of its enclave, its SECS, its frame and its page
pub record Adds (o : Option EnclaveSight) (secs : SecsSight) (is_added : Bool) (v : FrameSight) : Type 0 where
  pub made : is_some o ≡ true
  pub within : v.is_beyond ≡ false
  pub secs_in : secs.is_away ≡ false
  pub secs_stays : secs.is_sealing ≡ false
  pub new : is_added ≡ false
  pub idle : is_busy v ≡ false
  pub empty : is_valid v.content ≡ false

pub adds : (number : ℕ) (kind : Kind) (perm : Perm) (init : PageInit) (o : Option EnclaveSight) (secs : SecsSight) (is_added : Bool)
    (v : FrameSight)
    → first_of_row (add_row number kind perm init o secs is_added v) ≡ None → Adds o secs is_added v
adds number kind perm init None secs is_added v allowed =
    absurd (false≢true (sym (none_holds (add_row number kind perm init None secs is_added v) allowed).1.0))
adds number kind perm init (Some enclave) secs is_added v allowed =
    let none = none_holds (add_row number kind perm init (Some enclave) secs is_added v) allowed in
    let more = none.1.1.1.1.1.1.1 in
    record {
      made = refl;
      within = none.0;
      secs_in = none.1.0;
      secs_stays = none.1.1.0;
      new = more.0;
      idle = more.1.0;
      empty = more.1.1.0;
    }

-- an enclave that a row sees was created
pub is_some-sight : (o : Option FlatEnclave) → is_some (enclave_sight_of o) ≡ true → is_some o ≡ true
is_some-sight None h = cc
is_some-sight (Some x) h = refl

pub is_some-added_as : (x : Option FlatPage) → is_some (added_as x) ≡ is_some x
is_some-added_as None = refl
is_some-added_as (Some x) = refl

-- the words of the frames, and of the pages in them, with a new page in a frame
words_add : (s : State) (m : FlatMemory) (f : ℕ) (g : Page) (kind : Kind) (perm : Perm) (init : PageInit) (longer : Measure)
    → HasWords s.content s.words m → m.pages g ≡ None
    → HasWords (after_add s g f kind perm init longer).content (after_add s g f kind perm init longer).words
    (with_page m g (record { kind = kind; perm = perm; words = first_words init }))
words_add s m f g kind perm init longer words new n q k p = by_frame (f == n)
  where
    here : Holds g kind perm ≡ Holds q k p → cond (same_page q g) (Some (record { kind = kind; perm = perm; words = first_words init }))
        (m.pages q) ≡ Some (record { kind = k; perm = p; words = first_words init })
    here at =
        let same : g ≡ q = cc in
        let found : same_page q g ≡ true = rw (← same) (same_page-at g.enclave g.number) in
        let kinds : kind ≡ k = cc in
        let perms : perm ≡ p = cc in
        rw (found, kinds, perms) refl

    elsewhere : s.content n ≡ Holds q k p → (b : Bool) → same_page q g ≡ b
        → cond b (Some (record { kind = kind; perm = perm; words = first_words init })) (m.pages q) ≡ Some
        (record { kind = k; perm = p; words = s.words n })
    elsewhere at true same = absurd (let there = words n q k p at in let is : q ≡ g = same_pages q g same in cc (there, new, is))
    elsewhere at false other = words n q k p at

    by_frame : (b : Bool) → cond b (Holds g kind perm) (s.content n) ≡ Holds q k p
        → cond (same_page q g) (Some (record { kind = kind; perm = perm; words = first_words init })) (m.pages q) ≡ Some
        (record { kind = k; perm = p; words = cond b (first_words init) (s.words n) })
    by_frame true at = here at
    by_frame false at = elsewhere at (same_page q g) refl

-- .. and what the pages were added as
added_add : (s : State) (m : FlatMemory) (g : Page) (x : FlatPage) → enclaves_seen s ≡ enclaves_flat m
    → ◌≡◌ {A = EnclavesSeen} (record (enclaves_seen s) { added = λ q. cond (same_page q g) (Some (x.kind, x.perm)) (s.added q) })
    (enclaves_flat (with_page m g x))
added_add s m g x h = λ i. record (h i) { added = λ q. by_page q (same_page q g) i }
  where
    by_page : (q : Page) (b : Bool) → cond b (Some (x.kind, x.perm)) (s.added q) ≡ added_as (cond b (Some x) (m.pages q))
    by_page q true = refl
    by_page q false = λ i. (h i).added q

-- a page in a free frame, with its first words
pub sound_add : (s : State) (g : Page) (f : ℕ) (kind : Kind) (perm : Perm) (init : PageInit) (longer : Measure) → IsSound s
    → s.content f ≡ Free → IsSound (after_add s g f kind perm init longer)
sound_add s g f kind perm init longer sound free =
    let k = sound-put s f (Holds g kind perm) (λ n. cond (f == n) (first_words init) (s.words n)) sound free (λ n other. rw other refl)
    (λ n. cond_both (f == n) (first_words init) (s.words n) (λ ws. length ws ≡ 512) (λ _. length-first_words init) (λ _. sound.sized n)) in
    record { seated = k.seated; busy = k.busy; apart = k.apart; sized = k.sized }

pub add_brings : (s : State) (past : List Entry) (a : Actor) (enclave number : ℕ) (f : Frame) (kind : Kind) (perm : Perm) (init : PageInit)
    (longer : Measure)
    → first_of_row (row_of s a (Add enclave number f kind perm init)) ≡ None
    → IsSomeAnd (s.measure enclave) (λ m. TakesIn m (eadd_block (4096 * number) (flags_of kind perm)) longer) → Stands s past
    → BringsDone s (after_add s (page_at enclave number) f.0 kind perm init longer) past a (Add enclave number f kind perm init) Plain
add_brings s past a enclave number f kind perm init longer allowed takes stands =
    let g = page_at enclave number in
    let k = adds number kind perm init (enclave_sight_of (s.enclaves enclave)) (secs_sight s enclave) (is_some (s.added g)) (sight s f.0)
    allowed in
    let free = free_there (s.content f.0) (s.is_sealing f.0) k.idle k.empty in
    let same_added : is_some (s.added g) ≡ is_some ((flat past).pages g) = ap is_some (added_flat stands g)
    ∙ is_some-added_as ((flat past).pages g) in
    let new : (flat past).pages g ≡ None = none_there ((flat past).pages g) (sym same_added ∙ k.new) in
    record {
      form = refl;
      taken = is_none-None _ (rw (enclave_flat stands enclave, same_added) at
          (add_open number kind perm init (enclave_sight_of (s.enclaves enclave)) (secs_sight s enclave) (is_some (s.added g)) (sight s f.0)
          allowed));
      same = λ seen. refl;
      measure = tt;
      memory = record {
        enclaves = added_add s (flat past) g (record { kind = kind; perm = perm; words = first_words init }) stands.memory.enclaves;
        cpus = stands.memory.cpus;
        words = words_add s (flat past) f.0 g kind perm init longer stands.memory.words new;
        measure = λ e.
            goes_on e enclave s.enclaves s.measure longer (eadd_block (4096 * number) (flags_of kind perm)) (log past e)
            (is_some-sight (s.enclaves enclave) k.made) takes (stands.memory.measure e);
      };
    }

-- ---- init

pub init_brings : (s : State) (past : List Entry) (a : Actor) (enclave : ℕ) (expect : Option (List ℕ)) (digest : List ℕ)
    → first_of_row (row_of s a (Init enclave expect)) ≡ None → MeasureRule past (did_by a (Init enclave expect) (Hash digest))
    → Stands s past
    → BringsDone s (after_init s enclave) past a (Init enclave expect) (Hash digest)
init_brings s past a enclave expect digest allowed measured stands =
    let k = stands.memory in
    record {
      form = (digest, refl);
      taken = is_none-None _ (rw (enclave_flat stands enclave) at
          (init_open (enclave_sight_of (s.enclaves enclave)) (secs_sight s enclave) allowed));
      same = λ seen. refl;
      measure = measured;
      memory = record {
        enclaves = λ i. record (k.enclaves i) {
          enclaves =
              λ e. cond (e == enclave) (as_initialised ((k.enclaves i).enclaves e)) ((k.enclaves i).enclaves e);
        };
        cpus = k.cpus;
        words = k.words;
        measure = λ e. stays (e == enclave) (s.enclaves e) (s.measure e) (log past e) (k.measure e);
      };
    }
