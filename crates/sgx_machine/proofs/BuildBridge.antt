-- The machine's parts after a row that builds an enclave, and the state that they make.
use Rattle.std.proofs.Common.{◌≡◌, ℕ, ◌+◌, ◌/◌, ◌%◌, ◌^◌, ◌<◌, ◌≤◌, ◌==◌, ◌||◌, Bool, true, false, not, cond, leb}
use Rattle.std.proofs.Common.{refl, sym, ap, subst, ◌∙◌, Option, Some, None, List, length, set, is_some, length-set, arith}
use Rattle.std.proofs.lemmas.Bool.{cond_both, eq-eqb, eqb-true, leb-false, leb-true, ltb-true}
use Rattle.std.proofs.lemmas.List.{length-replicate}
use Rattle.sgx_types.specs.declared.lawful.PageInit.{PageInit}
use Rattle.sgx_types.specs.declared.lawful.PageInit.TheVariants as inits
use Rattle.sgx_types.specs.declared.names.Page.{Page}
use Rattle.sgx_types.specs.declared.names.Kind.{Kind}
use Rattle.sgx_types.specs.declared.names.Kind.TheVariants as kinds
use Rattle.sgx_types.specs.declared.names.Perm.{Perm}
use Rattle.sgx_types.specs.Pages.{is_own_page, no_perm, page_at}
use Rattle.sgx_types.specs.declared.names.TheConstants.{MOST_FRAMES, SECS_NUMBER}
use Rattle.sgx_rules.specs.Frames.{Free, Holds, IsVa}
use Rattle.sgx_rules.specs.Table as table
use Rattle.sgx_types.specs.Lawful as limits
use Rattle.sgx_types.specs.Cases.{first_of_row}
use Rattle.sgx_rules.specs.Table.{epa_row, create_row, add_row}
use Rattle.sgx_rules.specs.Flat.{first_words, as_initialised}
use Rattle.sgx_rules.proofs.Contents.{free_there}
use Rattle.sgx_rules.proofs.Rows.{none_holds}
use Rattle.sgx_types.proofs.Truths.{apart, both_true, neither, not_false}
use Rattle.sgx_types.proofs.Lists.{get_or-like}
use Rattle.epcm_entry.specs.declared.entry_view.EntryView.{EntryView}
use Rattle.epcm_entry.specs.declared.entry_view.EntryView.TheVariants as views
use Rattle.epcm_entry.specs.inner.EntryView.{is_valid, holding, block_of, goes_out}
use Rattle.epcm_entry.specs.inner.Epc.{EpcFrame, entry_at, with_page}
use Rattle.epcm_entry.specs.inner.Sights.{held, content_of, held_in, sight_in}
use Rattle.epcm_entry.proofs.Columns.{length-with_entry, entry_at-with_entry, words_at-with_entry}
use Rattle.secs_state.specs.inner.Secs.{SecsState, page_count, created, with_frame, with_init}
use Rattle.secs_state.specs.inner.Resident.{IsCountedIn}
use Rattle.secs_state.specs.inner.Table.{enclave_at, with_enclave}
use Rattle.secs_state.specs.inner.Sights.{sight_of}
use Rattle.secs_state.proofs.Columns.{added_at-with_page, enclave_at-with_enclave}
use Rattle.measure_log.specs.declared.measure.Measure.{Measure}
use Rattle.enclave_build.specs.inner.Build.{with_secs, with_added, with_resident}
use Rattle.enclave_build.proofs.Columns.{length-with_secs, entry_at-with_secs, words_at-with_secs, length-with_added}
use Rattle.enclave_build.proofs.Columns.{entry_at-with_added}
use Rattle.enclave_build.proofs.Columns.{words_at-with_added}
use Rattle.version_array.specs.inner.Slots.{with_page as with_va_page}
use Rattle.version_array.proofs.TableLaws.{version_in-with_page, is_busy_at-with_page}
use Rattle.evict_reload.proofs.PageLaws.{pages-with_entry, pages-with_words}
use Rattle.machine_laws.specs.inner.Guarded.{IsPaged}
use Rattle.machine_laws.specs.inner.State.{secs_sight, after_epa, after_create, after_add, after_extend, after_init}
use Rattle.sgx_machine.specs.inner.Parts.{Parts, enclave_of, added_in, is_busy_in, state_of}
use Rattle.sgx_machine.specs.inner.Whole.{AreHeld, IsNamedFor, IsSecsOf, IsTable}
use Rattle.machine_copies.specs.inner.Away.{SecsIsIn}
use Rattle.machine_laws.proofs.GuardLaws.{secs_is_in}
use Rattle.sgx_machine.proofs.HeldLaws.{added_in_counts, created_in, held_put, still_there}
use Rattle.sgx_machine.proofs.Columns.{through, same_at, numbered, enclave_column, enclave_kept, page_column}
use Rattle.sgx_machine.proofs.Columns.{measure_set}

-- ---- a frame that a row takes

valid_held : (v : EntryView) → table.is_valid (held v) ≡ is_valid v
valid_held views.Free = refl
valid_held (views.Loading page) = refl
valid_held (views.Valid page kinds.Secs perm blocked sealing) = refl
valid_held (views.Valid page kinds.Tcs perm blocked sealing) = refl
valid_held (views.Valid page kinds.Reg perm blocked sealing) = refl
valid_held (views.Valid page kinds.Va perm blocked sealing) = refl

pub record Takes (epc : List EpcFrame) (f : ℕ) : Type 0 where
  pub low : f < length epc
  pub idle : goes_out (entry_at epc f) ≡ false
  pub vacant : is_valid (entry_at epc f) ≡ false
  pub free : held (entry_at epc f) ≡ Free

takes : (epc : List EpcFrame) (f : ℕ) → leb (length epc) f ≡ false → table.is_busy (sight_in epc f) ≡ false
    → table.is_valid (held (entry_at epc f)) ≡ false → Takes epc f
takes epc f within idle empty = record {
  low = leb-false _ _ within;
  idle = (neither (goes_out (entry_at epc f)) (table.is_loading (held (entry_at epc f))) idle).0;
  vacant = sym (valid_held (entry_at epc f)) ∙ empty;
  free = free_there (held (entry_at epc f)) (goes_out (entry_at epc f)) idle empty;
}

-- what the columns show of a taken frame
module _ (epc epc' : List EpcFrame) (f : ℕ) (page : Page) (kind : Kind) (perm : Perm) (k : Takes epc f)
    (entries : (n : ℕ) → entry_at epc' n ≡ cond (f == n) (holding page kind perm) (entry_at epc n)) where
  put_content : (n : ℕ) → held (entry_at epc' n) ≡ cond (f == n) (content_of page kind perm) (held (entry_at epc n))
  put_content n = ap held (entries n) ∙ through held (f == n) (holding page kind perm) (entry_at epc n)

  put_blocked : (n : ℕ) → block_of (entry_at epc' n) ≡ cond (f == n) None (block_of (entry_at epc n))
  put_blocked n = ap block_of (entries n) ∙ through block_of (f == n) (holding page kind perm) (entry_at epc n)

  put_sealing : (n : ℕ) → goes_out (entry_at epc' n) ≡ goes_out (entry_at epc n)
  put_sealing n =
      ap goes_out (entries n) ∙ through goes_out (f == n) (holding page kind perm) (entry_at epc n)
      ∙ ap (λ b. cond (f == n) b (goes_out (entry_at epc n))) (sym k.idle) ∙ same_at (λ m. goes_out (entry_at epc m)) f n

-- ---- epa

pub takes-epa : (d : Parts) (f : ℕ) → first_of_row (epa_row (sight_in d.epc f)) ≡ None → Takes d.epc f
takes-epa d f allowed = let none = none_holds (epa_row (sight_in d.epc f)) allowed in takes d.epc f none.0 none.1.0 none.1.1.0

pub epa_state : (d : Parts) (f : ℕ) (page : Page) (perm : Perm) → length d.epc ≤ MOST_FRAMES → Takes d.epc f → page.number ≡ d.va.made
    → state_of (record d {
      epc = with_page d.epc f page kinds.Va perm;
      va = record { pages = with_va_page d.va.pages f; made = d.va.made + 1 };
    }) ≡ after_epa (state_of d) f
epa_state d f page perm small k numbered =
    let v = holding page kinds.Va perm in
    let few : f < MOST_FRAMES = omega (arith, k.low, small) in
    let entries : (n : ℕ) → entry_at (with_page d.epc f page kinds.Va perm) n ≡ cond (f == n) v (entry_at d.epc n) =
    λ n. entry_at-with_entry d.epc f n v k.low in
    λ i. record (after_epa (state_of d) f) {
      frames = length-with_entry d.epc f v i;
      content = λ n. (put_content d.epc (with_page d.epc f page kinds.Va perm) f page kinds.Va perm k entries n
          ∙ ap (λ m. cond (f == n) (IsVa m) (held (entry_at d.epc n))) numbered) i;
      blocked = λ n. put_blocked d.epc (with_page d.epc f page kinds.Va perm) f page kinds.Va perm k entries n i;
      is_sealing = λ n. put_sealing d.epc (with_page d.epc f page kinds.Va perm) f page kinds.Va perm k entries n i;
      words = λ n. words_at-with_entry d.epc f n v i;
      version_in = λ slot. version_in-with_page d.va.pages f slot few i;
      is_slot_named = λ slot. is_busy_at-with_page d.va.pages f slot few i;
    }

-- ---- create

-- what the row of `create` shows
pub record Creates (epc : List EpcFrame) (f e base size : ℕ) : Type 0 where
  pub takes : Takes epc f
  pub first : 1 ≤ e
  pub last : e ≤ 8
  pub lawful : limits.is_lawful base size ≡ true

pub creates : (epc : List EpcFrame) (f e base size : ℕ) (b : Bool) → first_of_row (create_row e base size b (sight_in epc f)) ≡ None
    → Creates epc f e base size
creates epc f e base size b allowed =
    let none = none_holds (create_row e base size b (sight_in epc f)) allowed in
    let outer = neither (leb (length epc) f || not (limits.is_enclave e)) (not (limits.is_lawful base size)) none.0 in
    let inner = neither (leb (length epc) f) (not (limits.is_enclave e)) outer.0 in
    let number = both_true (leb 1 e) (leb e 8) (not_false _ inner.1) in
    record {
      takes = takes epc f inner.0 none.1.1.0 none.1.1.1.0;
      first = leb-true _ _ number.0;
      last = leb-true _ _ number.1;
      lawful = not_false _ outer.1;
    }

pub created_own : (e f base size : ℕ) → limits.is_lawful base size ≡ true
    → IsSecsOf e (with_frame (created e base size) (Some (record { 0 = f })))
created_own e f base size h = record {
  number = refl;
  sound = record { lawful = h; pages = length-replicate (page_count size) None; busy = length-replicate (page_count size) false };
}

pub create_state : (d : Parts) (e f base size : ℕ) (begun : Measure) → Creates d.epc f e base size → enclave_at d.secs e ≡ None
    → IsTable d.secs → e < length d.measures
    → state_of (record d {
      epc = with_secs d.epc f e;
      secs = with_enclave d.secs e (with_frame (created e base size) (Some (record { 0 = f })));
      measures = set d.measures e (Some begun);
    }) ≡ after_create (state_of d) e f base size begun
create_state d e f base size begun k new is there =
    let y = with_frame (created e base size) (Some (record { 0 = f })) in
    let entries : (n : ℕ) → entry_at (with_secs d.epc f e) n
    ≡ cond (f == n) (holding (page_at e SECS_NUMBER) kinds.Secs no_perm) (entry_at d.epc n) =
    λ n. entry_at-with_secs d.epc f e n k.takes.low in
    λ i. record (after_create (state_of d) e f base size begun) {
      frames = length-with_secs d.epc f e i;
      content = λ n. put_content d.epc (with_secs d.epc f e) f (page_at e SECS_NUMBER) kinds.Secs no_perm k.takes entries n i;
      blocked = λ n. put_blocked d.epc (with_secs d.epc f e) f (page_at e SECS_NUMBER) kinds.Secs no_perm k.takes entries n i;
      is_sealing = λ n. put_sealing d.epc (with_secs d.epc f e) f (page_at e SECS_NUMBER) kinds.Secs no_perm k.takes entries n i;
      words = λ n. words_at-with_secs d.epc f e n i;
      enclaves = λ n. enclave_column d.secs e y is.places k.first k.last enclave_of n i;
      added = λ q. enclave_kept d.secs e y is.places k.first k.last (λ o. added_in o q.number) q.enclave
          (get_or-like (page_count size) q.number None ∙ ap (λ o. added_in o q.number) (sym new)) i;
      is_busy = λ q. enclave_kept d.secs e y is.places k.first k.last (λ o. is_busy_in o q.number) q.enclave
          (get_or-like (page_count size) q.number false ∙ ap (λ o. is_busy_in o q.number) (sym new)) i;
      measure = λ n. measure_set d.measures e n begun there i;
    }

-- what is in frames with a new SECS
pub create_held : (d : Parts) (e f base size : ℕ) → Creates d.epc f e base size → enclave_at d.secs e ≡ None → IsTable d.secs
    → AreHeld d.epc d.secs d.va
    → AreHeld (with_secs d.epc f e) (with_enclave d.secs e (with_frame (created e base size) (Some (record { 0 = f })))) d.va
create_held d e f base size k new is h =
    let y = with_frame (created e base size) (Some (record { 0 = f })) in
    let v = holding (page_at e SECS_NUMBER) kinds.Secs no_perm in
    let entries : (n : ℕ) → entry_at (with_secs d.epc f e) n ≡ cond (f == n) v (entry_at d.epc n) =
    λ n. entry_at-with_secs d.epc f e n k.takes.low in
    held_put d.epc (with_secs d.epc f e) d.secs (with_enclave d.secs e y) d.va d.va f v (length-with_secs d.epc f e) entries
    (pages-with_entry d.epc d.va.pages f v h.pages k.takes.low (sym (ap table.is_va k.takes.free))) h.places
    (created_in d.epc (with_secs d.epc f e) d.secs e f y k.takes.low k.takes.free (length-with_secs d.epc f e)
    (λ n. put_content d.epc (with_secs d.epc f e) f (page_at e SECS_NUMBER) kinds.Secs no_perm k.takes entries n) new h.owned is.places
    k.first k.last refl refl h.counted)
    (there y e (eq-eqb e e refl)) (λ n is_there. other y n is_there) refl h
  where
    there : (y : SecsState) (n : ℕ) → (e == n) ≡ true → is_some (enclave_at (with_enclave d.secs e y) n) ≡ true
    there y n same = rw (enclave_at-with_enclave d.secs e n y is.places k.first k.last, same) refl

    other : (y : SecsState) (n : ℕ) → is_some (enclave_at d.secs n) ≡ true → is_some (enclave_at (with_enclave d.secs e y) n) ≡ true
    other y n is_there = rw (enclave_at-with_enclave d.secs e n y is.places k.first k.last)
        (cond_both (e == n) (Some y) (enclave_at d.secs n) (λ o. is_some o ≡ true) (λ _. refl) (λ _. is_there))

-- an enclave that is not there
pub no_enclave : (o : Option SecsState) → is_some (enclave_of o) ≡ false → o ≡ None
no_enclave None h = refl
no_enclave (Some x) h = cc

-- ---- add

-- what the row of `add` shows of a created enclave
pub record Adds (epc : List EpcFrame) (f e number : ℕ) (kind : Kind) (init : PageInit) (x : SecsState) : Type 0 where
  pub takes : Takes epc f
  pub secs : SecsIsIn (length epc) (held_in epc) (λ n. goes_out (entry_at epc n)) e
  pub addable : limits.is_addable kind init ≡ true
  pub within : number < page_count x.size

is_within_below : (size number : ℕ) (init : PageInit) → limits.is_within size number init ≡ true → number < size / 4096
is_within_below size number (inits.Words v) h = ltb-true _ _ h
is_within_below size number (inits.Tcs ossa nssa) h = ltb-true _ _ (both_true _ _ (both_true _ _ h).0).0

pub adds : (d : Parts) (f e number : ℕ) (kind : Kind) (perm : Perm) (init : PageInit) (b : Bool) (x : SecsState) → x.enclave ≡ e
    → first_of_row (add_row number kind perm init (Some (sight_of x)) (secs_sight (state_of d) x.enclave) b (sight_in d.epc f)) ≡ None
    → Adds d.epc f e number kind init x
adds d f e number kind perm init b x ours allowed =
    let none = none_holds (add_row number kind perm init (Some (sight_of x)) (secs_sight (state_of d) x.enclave) b (sight_in d.epc f))
    allowed in
    record {
      takes = takes d.epc f none.0 none.1.1.1.1.1.1.1.1.0 none.1.1.1.1.1.1.1.1.1.0;
      secs = subst (SecsIsIn (length d.epc) (held_in d.epc) (λ n. goes_out (entry_at d.epc n))) ours
          (secs_is_in (state_of d) x.enclave none.1.0 none.1.1.0);
      addable = not_false _ none.1.1.1.1.0;
      within = is_within_below x.size number init (not_false _ none.1.1.1.1.1.1.0);
    }

-- .. and has not the number of a SECS
pub own_added : (e number : ℕ) (x : SecsState) → IsSecsOf e x → 1 ≤ e → number < page_count x.size
    → is_own_page (page_at e number) ≡ true
own_added e number x own first within =
    let lawful = both_true (limits.is_lawful_size x.size) (x.base % x.size == 0) own.sound.lawful in
    let sized = both_true _ (leb x.size (2 ^ 24)) lawful.0 in
    let most : x.size ≤ 2 ^ 24 = leb-true _ _ sized.1 in
    let low : number < 4096 = omega (arith, within, most) in
    rw (apart e 0 (λ none. omega (arith, first, none)), apart number SECS_NUMBER (λ same. omega (arith, same, low))) refl

-- an entry of a page that can be added
named_own : (g : Page) (kind : Kind) (perm : Perm) (init : PageInit) → limits.is_addable kind init ≡ true
    → IsNamedFor (holding g kind perm)
named_own g kinds.Tcs perm init h = tt
named_own g kinds.Reg perm init h = tt
named_own g kinds.Secs perm init h = cc
named_own g kinds.Va perm init h = cc

-- a page that can be added is held as that page
holds_added : (g : Page) (kind : Kind) (perm : Perm) (init : PageInit) → limits.is_addable kind init ≡ true
    → content_of g kind perm ≡ Holds g kind perm
holds_added g kinds.Tcs perm init h = refl
holds_added g kinds.Reg perm init h = refl
holds_added g kinds.Secs perm init h = cc
holds_added g kinds.Va perm init h = cc

-- a page that can be added is a TCS or a REG page
pub paged : (kind : Kind) (init : PageInit) → limits.is_addable kind init ≡ true → IsPaged kind
paged kinds.Tcs init h = tt
paged kinds.Reg init h = tt
paged kinds.Secs init h = cc
paged kinds.Va init h = cc

-- what is in frames with a page that is added
pub add_held : (d : Parts) (g : Page) (f : ℕ) (kind : Kind) (perm : Perm) (init : PageInit) (x : SecsState)
    → Adds d.epc f g.enclave g.number kind init x → enclave_at d.secs g.enclave ≡ Some x → IsTable d.secs
    → IsCountedIn (length (with_added d.epc f g kind perm init)) (held_in (with_added d.epc f g kind perm init)) g.enclave
    (with_resident x g.number kind perm) → AreHeld d.epc d.secs d.va
    → AreHeld (with_added d.epc f g kind perm init) (with_enclave d.secs g.enclave (with_resident x g.number kind perm)) d.va
add_held d g f kind perm init x k found is counts h =
    let y = with_resident x g.number kind perm in
    let number = numbered d.secs g.enclave x is.places found in
    let epc = with_added d.epc f g kind perm init in
    let v = holding g kind perm in
    let holds = holds_added g kind perm init k.addable in
    let entries : (n : ℕ) → entry_at epc n ≡ cond (f == n) v (entry_at d.epc n) =
    λ n. entry_at-with_added d.epc f n g kind perm init k.takes.low in
    held_put d.epc epc d.secs (with_enclave d.secs g.enclave y) d.va d.va f v (length-with_added d.epc f g kind perm init) entries
    (pages-with_words (with_page d.epc f g kind perm) d.va.pages f (first_words init)
    (pages-with_entry d.epc d.va.pages f v h.pages k.takes.low (ap table.is_va holds ∙ sym (ap table.is_va k.takes.free)))) h.places
    (added_in_counts d.epc epc d.secs f g kind perm y k.takes.low k.takes.free (length-with_added d.epc f g kind perm init)
    (λ n. put_content d.epc epc f g kind perm k.takes entries n ∙ ap (λ c. cond (f == n) c (held (entry_at d.epc n))) holds) is.places
    number.0 number.1 counts h.counted)
    (rw holds (still_there d.secs g.enclave x y is.places number.0 number.1 found g.enclave (ap is_some found)))
    (still_there d.secs g.enclave x y is.places number.0 number.1 found) (named_own g kind perm init k.addable) h

pub added_own : (e number : ℕ) (kind : Kind) (perm : Perm) (x : SecsState) → IsSecsOf e x → IsSecsOf e (with_resident x number kind perm)
added_own e number kind perm x own = record {
  number = own.number;
  sound = record { lawful = own.sound.lawful; pages = rw length-set own.sound.pages; busy = own.sound.busy };
}

pub add_state : (d : Parts) (g : Page) (f : ℕ) (kind : Kind) (perm : Perm) (init : PageInit) (x : SecsState) (longer : Measure)
    → Adds d.epc f g.enclave g.number kind init x → enclave_at d.secs g.enclave ≡ Some x → IsTable d.secs → g.enclave < length d.measures
    → state_of (record d {
      epc = with_added d.epc f g kind perm init;
      secs = with_enclave d.secs g.enclave (with_resident x g.number kind perm);
      measures = set d.measures g.enclave (Some longer);
    })
    ≡ after_add (state_of d) g f kind perm init longer
add_state d g f kind perm init x longer k found is there =
    let entries : (n : ℕ) → entry_at (with_added d.epc f g kind perm init) n ≡ cond (f == n) (holding g kind perm) (entry_at d.epc n) =
    λ n. entry_at-with_added d.epc f n g kind perm init k.takes.low in
    let number = numbered d.secs g.enclave x is.places found in
    let y = with_resident x g.number kind perm in
    λ i. record (after_add (state_of d) g f kind perm init longer) {
      frames = length-with_added d.epc f g kind perm init i;
      content = λ n. (put_content d.epc (with_added d.epc f g kind perm init) f g kind perm k.takes entries n
          ∙ ap (λ c. cond (f == n) c (held (entry_at d.epc n))) (holds_added g kind perm init k.addable)) i;
      blocked = λ n. put_blocked d.epc (with_added d.epc f g kind perm init) f g kind perm k.takes entries n i;
      is_sealing = λ n. put_sealing d.epc (with_added d.epc f g kind perm init) f g kind perm k.takes entries n i;
      words = λ n. words_at-with_added d.epc f n g kind perm init k.takes.low i;
      enclaves = λ n. enclave_kept d.secs g.enclave y is.places number.0 number.1 enclave_of n (ap enclave_of (sym found)) i;
      added = λ q. page_column d.secs g.enclave y is.places number.0 number.1 added_in g.number (Some (kind, perm))
          (λ m. added_at-with_page x g.number m kind perm (is.own g.enclave x found).sound k.within
          ∙ ap (λ o. cond (g.number == m) (Some (kind, perm)) (added_in o m)) (sym found)) q i;
      is_busy = λ q. enclave_kept d.secs g.enclave y is.places number.0 number.1 (λ o. is_busy_in o q.number) q.enclave
          (ap (λ o. is_busy_in o q.number) (sym found)) i;
      measure = λ e. measure_set d.measures g.enclave e longer there i;
    }

-- ---- extend

pub extend_state : (d : Parts) (e : ℕ) (longer : Measure) → e < length d.measures
    → state_of (record d { measures = set d.measures e (Some longer) }) ≡ after_extend (state_of d) e longer
extend_state d e longer there =
    λ i. record (after_extend (state_of d) e longer) { measure = λ n. measure_set d.measures e n longer there i }

-- ---- init

pub initialised_own : (e : ℕ) (x : SecsState) → IsSecsOf e x → IsSecsOf e (with_init x)
initialised_own e x own =
    record { number = own.number; sound = record { lawful = own.sound.lawful; pages = own.sound.pages; busy = own.sound.busy } }

pub init_state : (d : Parts) (e : ℕ) (x : SecsState) → enclave_at d.secs e ≡ Some x → IsTable d.secs
    → state_of (record d { secs = with_enclave d.secs e (with_init x) }) ≡ after_init (state_of d) e
init_state d e x found is =
    let number = numbered d.secs e x is.places found in
    λ i. record (after_init (state_of d) e) {
      enclaves = λ n. (enclave_column d.secs e (with_init x) is.places number.0 number.1 enclave_of n ∙ each n) i;
      added = λ q. enclave_kept d.secs e (with_init x) is.places number.0 number.1 (λ o. added_in o q.number) q.enclave
          (ap (λ o. added_in o q.number) (sym found)) i;
      is_busy = λ q. enclave_kept d.secs e (with_init x) is.places number.0 number.1 (λ o. is_busy_in o q.number) q.enclave
          (ap (λ o. is_busy_in o q.number) (sym found)) i;
    }
  where
    each : (n : ℕ) → cond (n == e) (enclave_of (Some (with_init x))) (enclave_of (enclave_at d.secs n)) ≡ cond (n == e)
        (as_initialised (enclave_of (enclave_at d.secs n))) (enclave_of (enclave_at d.secs n))
    each n = by_test (n == e) refl
      where
        by_test : (b : Bool) → (n == e) ≡ b → cond b (enclave_of (Some (with_init x))) (enclave_of (enclave_at d.secs n)) ≡ cond b
            (as_initialised (enclave_of (enclave_at d.secs n))) (enclave_of (enclave_at d.secs n))
        by_test true same = let at : enclave_at d.secs n ≡ Some x = ap (enclave_at d.secs) (eqb-true n e same) ∙ found in rw at refl
        by_test false other = refl
