-- The pages that a processor uses by an instruction that it has done are those that the tables find, and each was added.
use Rattle.std.proofs.Common.{◌≡◌, ◌≢◌, ℕ, ◌+◌, ◌-◌, ◌/◌, ◌%◌, ◌^◌, ◌<◌, ◌==◌, ◌||◌, Bool}
use Rattle.std.proofs.Common.{true, List, Option, Some, None, is_some, refl, sym, ap, subst, ◌∙◌, arith}
use Rattle.sgx_rules.proofs.Rows.{none_holds}
use Rattle.sgx_types.proofs.Truths.{not_false}
use Rattle.sgx_rules.specs.declared.entries.Action.{Action}
use Rattle.sgx_rules.specs.declared.entries.Action.TheVariants as actions
use Rattle.sgx_types.specs.declared.names.Actor.TheVariants as actors
use Rattle.sgx_rules.specs.declared.entries.Entry.{Entry}
use Rattle.sgx_types.specs.declared.names.Cpu.{Cpu}
use Rattle.sgx_types.specs.declared.names.Frame.{Frame}
use Rattle.sgx_types.specs.declared.names.Page.{Page}
use Rattle.sgx_types.specs.declared.names.Perm.{Perm}
use Rattle.sgx_rules.specs.declared.refusals.Refusal.TheVariants as why
use Rattle.sgx_rules.specs.Flat.{at_offset}
use Rattle.sgx_types.specs.Pages.{page_at, same_page}
use Rattle.sgx_rules.specs.Frames.{Content, Free, Holds, IsLoading, IsVa, SecsOf, content, is_page, stands}
use Rattle.sgx_rules.specs.Processors.{Seat, Stay, stay}
use Rattle.sgx_rules.specs.Sights.{seat_of}
use Rattle.sgx_types.specs.Cases.{first_of_row}
use Rattle.sgx_rules.specs.Table.{FrameSight, access_row, allows_read, allows_update, allows_write, fill_row}
use Rattle.sgx_rules.specs.Table.{is_reg, is_tcs}
use Rattle.sgx_types.specs.Cases.{when}
use Rattle.cached_translations.specs.declared.processor.Mode.{Mode}
use Rattle.cached_translations.specs.declared.processor.Mode.TheVariants.{Inside, Outside}
use Rattle.cached_translations.specs.inner.Modes.{enclave_inside}
use Rattle.job_grammar.specs.Jobs.{JobView}
use Rattle.driver_list.specs.inner.Places.{IsPlaced}
use Rattle.machine_laws.specs.inner.Columns.{seat_of_stay}
use Rattle.machine_laws.specs.inner.State.{State, enter_sight, row_of, seat_enclave, translation}
use Rattle.machine_laws.proofs.AccessLaws.{outside_refused}
use Rattle.machine_laws.proofs.ColumnLaws.{content_is, inside_is}
use Rattle.machine_laws.proofs.Contents.{tcs_no_reg}
use Rattle.machine_laws.proofs.EntryLaws.{enters as enters_by_row}
use Rattle.sgx_machine.specs.inner.Parts.{Parts, cpu_at, seat_of_mode, state_of}
use Rattle.driver_rules.specs.Places.{frame_here, is_of_stay, is_offset_of_stay, place, uses}
use Rattle.driver_laws.specs.inner.Agrees.{Keeping}
use Rattle.driver_laws.proofs.PlaceLaws.{here_there, holds_one, stands_there}
use Rattle.driver_tables.specs.declared.driver.Driver.{Driver}
use Rattle.due_tables.specs.declared.turns.Turns.{Turns}
use Rattle.due_tables.specs.inner.Asked.{last_save_of, next_save_of}
use Rattle.due_tables.specs.inner.Due.{IsOrderly, IsShown}
use Rattle.due_tables.specs.inner.Holding.{page_inside_of}
use Rattle.due_tables.specs.inner.Shown.{ShowsTurns}
use Rattle.due_tables.specs.inner.TcsTurns.{tcs_at}
use Rattle.due_notes.specs.inner.Noting.{offset_inside_of}
use Rattle.due_notes.proofs.NameLaws.{Names, NamesInside, There}
use Rattle.due_notes.proofs.SaveLaws.{enter_save, placed_low, resume_save}

-- ---- who is inside

pub record IsIn (before : Mode) (o : Option Stay) : Type 0 where
  pub stays : Stay
  pub is : o ≡ Some stays
  pub enclave : enclave_inside before ≡ Some stays.seat.enclave

is_in : (before : Mode) (o : Option Stay) → seat_of_mode before ≡ seat_of_stay o → is_some (seat_of_mode before) ≡ true → IsIn before o
is_in Outside o same h = cc
is_in (Inside e t tf sf epoch) None same h = cc
is_in (Inside e t tf sf epoch) (Some s) same h =
    let seat : record { enclave = e; tcs = t; tcs_frame = tf.0; ssa_frame = sf.0 } ≡ s.seat = cc in
    record { stays = s; is = refl; enclave = ap (λ (x : Seat). Some x.enclave) seat }

page_inside : (before : Mode) (k n : ℕ) → enclave_inside before ≡ Some k → page_inside_of before n ≡ Some (page_at k n)
page_inside Outside k n h = cc
page_inside (Inside e t tf sf epoch) k n h = let same : e ≡ k = cc in ap (λ x. Some (page_at x n)) same

offset_inside : (before : Mode) (k off : ℕ) → enclave_inside before ≡ Some k → off / 4096 < 2 ^ 32
    → offset_inside_of before off ≡ Some (at_offset k off)
offset_inside Outside k off h low = cc
offset_inside (Inside e t tf sf epoch) k off h low =
    let same : e ≡ k = cc in
    ap (λ n. Some (page_at e n)) (number (off / 4096) low) ∙ ap (λ x. Some (at_offset x off)) same
  where
    number : (n : ℕ) → n < 2 ^ 32 → n % 2 ^ 32 ≡ n
    number n few = omega (arith, few)

-- ---- what the rows say

access_inside : (off : ℕ) (b : Bool) (held : Option Perm) (allows : Option Perm → Bool)
    → first_of_row (access_row off b held (allows held)) ≡ None → b ≡ true
access_inside off b held allows row = not_false b (none_holds (access_row off b held (allows held)) row).0

fill_inside : (n : ℕ) (o : Option Seat) (v : FrameSight) → first_of_row (fill_row n (seat_enclave o) v) ≡ None → is_some o ≡ true
fill_inside n None v row = absurd (outside_refused n v row)
fill_inside n (Some seat) v row = refl

-- the frames differ, and the second one holds a REG page
record TwoFrames (s : State) (tf sf : Frame) : Type 0 where
  apart : tf.0 ≢ sf.0
  reg : is_reg (s.content sf.0) ≡ true

-- who enters or resumes names two frames: one of a TCS page, and one of a REG page
module _ (s : State) (c : Cpu) (e t : ℕ) (tf sf : Frame) where
  two_frames : is_tcs (s.content tf.0) ≡ true → is_reg (s.content sf.0) ≡ true → tf.0 ≢ sf.0
  two_frames tcs reg same = tcs_no_reg (s.content tf.0) tcs (subst (λ n. is_reg (s.content n) ≡ true) (sym same) reg)

  enter_frames : first_of_row (row_of s (actors.Cpu c) (actions.Enter e t tf sf)) ≡ None → TwoFrames s tf sf
  enter_frames row =
      let v = enter_sight s c.0 (seat_of e t tf.0 sf.0) in
      let facts = enters_by_row e t v (when (v.fields.cssa == v.fields.nssa) why.NoFrame) (v.fields.ossa + v.fields.cssa) row in
      let reg = not_false (is_reg (s.content sf.0)) facts.ssa_kind in
      record { apart = two_frames (not_false (is_tcs (s.content tf.0)) facts.tcs_kind) reg; reg = reg }

  resume_frames : first_of_row (row_of s (actors.Cpu c) (actions.Resume e t tf sf)) ≡ None → TwoFrames s tf sf
  resume_frames row =
      let v = enter_sight s c.0 (seat_of e t tf.0 sf.0) in
      let facts = enters_by_row e t v (when (v.fields.cssa == 0) why.NoSaved) (v.fields.ossa + v.fields.cssa - 1) row in
      let reg = not_false (is_reg (s.content sf.0)) facts.ssa_kind in
      record { apart = two_frames (not_false (is_tcs (s.content tf.0)) facts.tcs_kind) reg; reg = reg }

-- a frame with a REG page has that page by its kind
reg_stands : (c : Content) (g : Page) → is_reg c ≡ true → is_page c g ≡ stands c g
reg_stands Free g h = cc
reg_stands (IsLoading page) g h = cc
reg_stands (IsVa number) g h = cc
reg_stands (SecsOf enclave) g h = cc
reg_stands (Holds page kind perm) g h = refl

-- ---- the pages that are used

-- the instruction uses one page, which the tables find
pub record UsesOne (past : List Entry) (c : Cpu) (action : Action) (o : Option Page) : Type 0 where
  pub page : Page
  pub is : o ≡ Some page
  pub there : There past page
  pub only : (g : Page) → uses past (actors.Cpu c) action g ≡ same_page page g

-- .. or a TCS page and a state save page
pub record UsesBoth (past : List Entry) (c : Cpu) (action : Action) (tcs : Page) (o : Option Page) : Type 0 where
  pub page : Page
  pub is : o ≡ Some page
  pub tcs_there : There past tcs
  pub there : There past page
  pub only : (g : Page) → uses past (actors.Cpu c) action g ≡ (same_page tcs g || same_page page g)

module _ (keeping : Keeping) (j : JobView) (past : List Entry) (d : Driver) (m : Parts) (t : Turns) (shown : IsShown keeping j past d m)
    (shows : ShowsTurns j past t)
    (orderly : IsOrderly j past)
    (c : Cpu) (before : Mode) (stood : before ≡ (cpu_at m c.0).mode) where
  low : (g : Page) → There past g → g.number < 2 ^ 32
  low g there =
      placed_low j g shows.valid
      (subst (λ counts. IsPlaced counts g) (shown.shows.counts ∙ shown.shows.of_job) (shown.shows.placed g there))

  inside : is_some ((state_of m).inside c.0) ≡ true → IsIn before (stay past c.0)
  inside h =
      is_in before (stay past c.0) (ap seat_of_mode stood ∙ inside_is shown.columns c.0)
      (ap (λ x. is_some (seat_of_mode x)) stood ∙ h)

  pub fill_use : (n : ℕ) (f : Frame) → first_of_row (row_of (state_of m) (actors.Cpu c) (actions.Fill n f)) ≡ None
      → NamesInside past c.0 n → UsesOne past c (actions.Fill n f) (page_inside_of before n)
  fill_use n f row names =
      let k = inside (fill_inside n ((state_of m).inside c.0) _ row) in
      record {
        page = page_at k.stays.seat.enclave n;
        is = page_inside before k.stays.seat.enclave n k.enclave;
        there = names k.stays k.is;
        only = λ g. ap (λ o. is_of_stay o n g) k.is;
      }

  offset_use : (action : Action) (off : ℕ)
      → ((g : Page) → uses past (actors.Cpu c) action g ≡ is_offset_of_stay (stay past c.0) off g)
      → is_some ((state_of m).inside c.0) ≡ true → NamesInside past c.0 (off / 4096)
      → UsesOne past c action (offset_inside_of before off)
  offset_use action off used is_inside names =
      let k = inside is_inside in
      record {
        page = at_offset k.stays.seat.enclave off;
        is = offset_inside before k.stays.seat.enclave off k.enclave (low (at_offset k.stays.seat.enclave off) (names k.stays k.is));
        there = names k.stays k.is;
        only = λ g. used g ∙ ap (λ o. is_offset_of_stay o off g) k.is;
      }

  abbrev held : ℕ → Option Perm
  held off = translation (state_of m) c.0 ((state_of m).inside c.0) (off / 4096)

  pub load_use : (off : ℕ) → first_of_row (row_of (state_of m) (actors.Cpu c) (actions.Load off)) ≡ None
      → NamesInside past c.0 (off / 4096) → UsesOne past c (actions.Load off) (offset_inside_of before off)
  load_use off row names =
      offset_use (actions.Load off) off (λ g. refl)
      (access_inside off (is_some ((state_of m).inside c.0)) (held off) allows_read row) names

  pub store_use : (off value : ℕ) → first_of_row (row_of (state_of m) (actors.Cpu c) (actions.Store off value)) ≡ None
      → NamesInside past c.0 (off / 4096) → UsesOne past c (actions.Store off value) (offset_inside_of before off)
  store_use off value row names =
      offset_use (actions.Store off value) off (λ g. refl)
      (access_inside off (is_some ((state_of m).inside c.0)) (held off) allows_write row) names

  pub xadd_use : (off value : ℕ) → first_of_row (row_of (state_of m) (actors.Cpu c) (actions.Xadd off value)) ≡ None
      → NamesInside past c.0 (off / 4096) → UsesOne past c (actions.Xadd off value) (offset_inside_of before off)
  xadd_use off value row names =
      offset_use (actions.Xadd off value) off (λ g. refl)
      (access_inside off (is_some ((state_of m).inside c.0)) (held off) allows_update row) names

  -- a frame that is named holds the state save page alone
  in_frame : (h : Page) (n : ℕ) → frame_here (place past h) ≡ Some n → is_reg ((state_of m).content n) ≡ true
      → (g : Page) → is_page (content past n) g ≡ same_page h g
  in_frame h n here reg g =
      reg_stands (content past n) g (ap is_reg (sym (content_is shown.columns n)) ∙ reg)
      ∙ holds_one (content past n) h g (shown.sound.places.frames h n ∙ stands_there (place past h) n here)

  pub enter_use : (e n : ℕ) (tf sf : Frame) → first_of_row (row_of (state_of m) (actors.Cpu c) (actions.Enter e n tf sf)) ≡ None
      → Names j past c.0 (actions.Enter e n tf sf)
      → UsesBoth past c (actions.Enter e n tf sf) (page_at e n) (next_save_of e (tcs_at t.tcs (page_at e n)))
  enter_use e n tf sf row names =
      let two = enter_frames (state_of m) c e n tf sf row in
      let k = names two.apart in
      let there : There past k.page = here_there (place past k.page) sf.0 k.save_here in
      record {
        page = k.page;
        is = enter_save j past t shows orderly e n k.page (low k.page there) k.is;
        tcs_there = here_there (place past (page_at e n)) tf.0 k.tcs_here;
        there = there;
        only = λ g. ap (λ b. same_page (page_at e n) g || b) (in_frame k.page sf.0 k.save_here two.reg g);
      }

  pub resume_use : (e n : ℕ) (tf sf : Frame) → first_of_row (row_of (state_of m) (actors.Cpu c) (actions.Resume e n tf sf)) ≡ None
      → Names j past c.0 (actions.Resume e n tf sf)
      → UsesBoth past c (actions.Resume e n tf sf) (page_at e n) (last_save_of e (tcs_at t.tcs (page_at e n)))
  resume_use e n tf sf row names =
      let two = resume_frames (state_of m) c e n tf sf row in
      let k = names two.apart in
      let there : There past k.page = here_there (place past k.page) sf.0 k.save_here in
      record {
        page = k.page;
        is = resume_save j past t shows orderly e n k.page (low k.page there) k.is;
        tcs_there = here_there (place past (page_at e n)) tf.0 k.tcs_here;
        there = there;
        only = λ g. ap (λ b. same_page (page_at e n) g || b) (in_frame k.page sf.0 k.save_here two.reg g);
      }
