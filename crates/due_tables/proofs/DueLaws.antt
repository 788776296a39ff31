-- The answers are what is due.
use Rattle.std.proofs.Common.{◌≡◌, ℕ, zero, suc, ◌+◌, ◌-◌, ◌/◌, ◌%◌, ◌^◌, ◌==◌, ◌<◌, ◌≤◌}
use Rattle.std.proofs.Common.{◌||◌, ◌++◌, not, Bool, true, false, if◌then◌else◌, List, [], ◌∷◌, Option, Some, None}
use Rattle.std.proofs.Common.{is_some, length, drop, min, nat_le, slice_get, refl, sym, ap, ◌∙◌, arith}
use Rattle.std.proofs.lemmas.Bool.{eqb-false, eqb-true, le-leb, leb-true}
use Rattle.std.proofs.lemmas.List.{append-nil}
use Rattle.sgx_rules.specs.declared.entries.AccessOp.{AccessOp}
use Rattle.sgx_rules.specs.declared.entries.AccessOp.TheVariants as accesses
use Rattle.sgx_rules.specs.declared.entries.Action.TheVariants as actions
use Rattle.sgx_rules.specs.declared.entries.Entry.{Entry}
use Rattle.sgx_types.specs.declared.names.Frame.{Frame}
use Rattle.sgx_types.specs.declared.names.Page.{Page}
use Rattle.sgx_rules.specs.Flat.{at_offset}
use Rattle.sgx_types.specs.Pages.{is_own_page, page_at}
use Rattle.sgx_rules.specs.Frames.{added, content, frame_of, least_free}
use Rattle.sgx_rules.specs.Processors.{Seat, Stay, holds_number, stay, translations}
use Rattle.sgx_rules.specs.Table.{is_lawful_access}
use Rattle.cached_translations.specs.declared.processor.Mode.{Mode}
use Rattle.cached_translations.specs.declared.processor.Mode.TheVariants.{Inside, Outside}
use Rattle.cached_translations.specs.inner.Modes.{is_inside}
use Rattle.job_grammar.specs.declared.jobs.Op.{Op}
use Rattle.job_grammar.specs.declared.jobs.Op.TheVariants as ops
use Rattle.job_grammar.specs.declared.jobs.PageLine.{PageLine}
use Rattle.job_grammar.specs.declared.jobs.PageLine.TheVariants as lines
use Rattle.job_grammar.specs.Jobs.{JobView, lines_at, tcs_line}
use Rattle.job_grammar.specs.inner.Valid.{IsValid, IsValidOp}
use Rattle.script_rules.specs.declared.steps.BuildStep.{BuildStep}
use Rattle.script_rules.specs.declared.steps.BuildStep.TheVariants as builds
use Rattle.script_rules.specs.inner.Cursor.{left}
use Rattle.script_rules.specs.Script.{build_of, built, enter_with, is_turned_away, resume_with, saved_frames, script_of}
use Rattle.sgx_types.specs.Pages.{frame_at}
use Rattle.script_rules.specs.Script.{step_due}
use Rattle.script_rules.specs.Script.{with_frame as frame_step}
use Rattle.machine_laws.specs.inner.Columns.{seat_of_stay}
use Rattle.sgx_machine.specs.inner.Parts.{Parts, seat_of_mode, state_of}
use Rattle.driver_rules.specs.declared.waits.Why.TheVariants as waits
use Rattle.driver_rules.specs.Dues.{Due, Makes, Stopped, makes_or}
use Rattle.driver_rules.specs.Needs.{access_page, interruption, last_save, listed, needs_after, needs_to_resume, next_op}
use Rattle.driver_rules.specs.Needs.{next_save, save_to_enter, save_to_resume}
use Rattle.driver_rules.specs.Places.{frame_here, place}
use Rattle.driver_rules.specs.Stops.{is_spent}
use Rattle.driver_rules.specs.Turns.{accesses_by, accesses_inside, builder_due, cpu_due, due_after, early_turn, enters, fills}
use Rattle.driver_rules.specs.Turns.{first_away, inside_turn, is_kicked, is_last, last_of, op_turn, outside_turn, resumes}
use Rattle.driver_rules.specs.Turns.{save_frame}
use Rattle.driver_rules.specs.Turns.{stay_turn, step_turn, turn_due, with_pages}
use Rattle.driver_tables.specs.declared.driver.Driver.{Driver}
use Rattle.driver_laws.specs.inner.Agrees.{Keeping}
use Rattle.due_tables.specs.declared.cpu_turns.CpuTurn.{CpuTurn}
use Rattle.due_tables.specs.declared.cpu_turns.Interruption as kept
use Rattle.due_tables.specs.declared.cpu_turns.Last as lasts
use Rattle.due_tables.specs.declared.cpu_turns.Last.TheVariants as ways
use Rattle.due_tables.specs.declared.dues.CpuDue.{CpuDue}
use Rattle.due_tables.specs.declared.dues.CpuDue.TheVariants as dues
use Rattle.due_tables.specs.declared.steps.CpuStep.{CpuStep}
use Rattle.due_tables.specs.declared.steps.CpuStep.TheVariants as steps
use Rattle.due_tables.specs.declared.turns.Turns.{Turns}
use Rattle.due_tables.specs.inner.Asked.{Looks, access_by, access_in, access_page as access_told, after_by, after_last}
use Rattle.due_tables.specs.inner.Asked.{builder_by, built_by}
use Rattle.due_tables.specs.inner.Asked.{cpu_by, early_by, enters_by, fill_by, inside_by, is_last_by, last_save_of, looks_at}
use Rattle.due_tables.specs.inner.Asked.{next_save_of}
use Rattle.due_tables.specs.inner.Asked.{next_step, op_at, op_by, outside_by, page_of, resumes_by, standing_seen, step_by}
use Rattle.due_tables.specs.inner.Asked.{turn_by, turned_away}
use Rattle.due_tables.specs.inner.Asked.{with_access, with_frame}
use Rattle.due_tables.specs.inner.CpuTurns.{interruption_told, last_told, turn_at}
use Rattle.due_tables.specs.inner.Due.{IsOrderly, IsShown, IsWithin, building_in, due_in, made_by}
use Rattle.due_tables.specs.inner.Shown.{ShowsCpu, ShowsTurns, last_actor}
use Rattle.due_tables.specs.inner.TcsTurns.{tcs_by}
use Rattle.due_tables.proofs.FrameLaws.{access_due, frames_due, number_of}
use Rattle.driver_list.proofs.PlaceLaws.{low_own}
use Rattle.driver_tables.proofs.BuildLaws.{extended_low}
use Rattle.driver_tables.proofs.CountLaws.{few_places}
use Rattle.driver_tables.specs.inner.Counts.{job_counts}
use Rattle.driver_rules.specs.Holds.{page_extended}
use Rattle.due_tables.proofs.LineLaws.{IsTcsLine, few_numbers, op_valid, saved_within, tcs_line_is}
use Rattle.due_tables.proofs.LookLaws.{IsSeen, free_is, looks_are, standing_is}

-- ---- state save pages

next_is : (e n : ℕ) (line : Option PageLine) → IsTcsLine line → IsWithin n line → next_save_of e (tcs_by line n) ≡ next_save e n line
next_is e n None ok few = refl
next_is e n (Some (lines.Reg first count perm value plain)) ok few = refl
next_is e n (Some (lines.Tcs page ossa nssa plain)) ok few = by_test (n == nssa) refl
  where
    by_test : (b : Bool) → (n == nssa) ≡ b
        → (if nat_le nssa n then None else Some (page_at e ((ossa + n) % 2 ^ 32))) ≡ (if b then None else Some (page_at e (ossa + n)))
    by_test true is =
        let same : n ≡ nssa = eqb-true n nssa is in
        ap (λ b. if b then None else Some (page_at e ((ossa + n) % 2 ^ 32))) (le-leb nssa n (omega (arith, same)))
    by_test false is =
        let other : n ≡ nssa → ⊥ = eqb-false n nssa is in
        let low : n < nssa = omega (arith, few, other) in
        let most : ossa + nssa ≤ 4096 = ok.1 in
        let number : (ossa + n) % 2 ^ 32 ≡ ossa + n = omega (arith, low, most) in
        let test : nat_le nssa n ≡ false = grind (arith, low) in
        ap (λ b. if b then None else Some (page_at e ((ossa + n) % 2 ^ 32))) test ∙ ap (λ k. Some (page_at e k)) number

last_is : (e n : ℕ) (line : Option PageLine) → IsTcsLine line → IsWithin n line → last_save_of e (tcs_by line n) ≡ last_save e n line
last_is e n None ok few = refl
last_is e n (Some (lines.Reg first count perm value plain)) ok few = refl
last_is e n (Some (lines.Tcs page ossa nssa plain)) ok few = by_test (n == 0) refl
  where
    by_test : (b : Bool) → (n == 0) ≡ b
        → (if b then None else Some (page_at e ((ossa + (min n nssa - 1)) % 2 ^ 32))) ≡ (if b then None else Some (page_at e
        (ossa + n - 1)))
    by_test true is = refl
    by_test false is =
        let other : n ≡ 0 → ⊥ = eqb-false n 0 is in
        let most : ossa + nssa ≤ 4096 = ok.1 in
        ap (λ k. Some (page_at e k)) (omega (arith, few, most, other))

-- ---- offsets

number_is : (off : ℕ) → off < 2 ^ 24 → off / 4096 % 2 ^ 32 ≡ off / 4096
number_is off low = omega (arith, low)

page_is : (e off : ℕ) → off < 2 ^ 24 → page_of e off ≡ at_offset e off
page_is e off low = ap (page_at e) (number_is off low)

pub access_is : (j : JobView) (e : ℕ) (op : Op) → IsValidOp j op → access_told e op ≡ access_page e (Some op)
access_is j e (ops.Load off) v = ap Some (page_is e off v.1)
access_is j e (ops.Store off value) v = ap Some (page_is e off v.0.1)
access_is j e (ops.Xadd off value) v = ap Some (page_is e off v.0.1)
access_is j e (ops.Enter enclave tcs) v = refl
access_is j e (ops.Resume enclave tcs) v = refl
access_is j e ops.Exit v = refl
access_is j e ops.Timer v = refl
access_is j e (ops.Set value) v = refl
access_is j e (ops.Plus value) v = refl
access_is j e (ops.OutLoad enclave off) v = refl
access_is j e (ops.OutStore enclave off value) v = refl

-- ---- how a processor stands

inside_same : (mode : Mode) (s : Option Stay) → seat_of_mode mode ≡ seat_of_stay s → is_inside mode ≡ is_some s
inside_same Outside None h = refl
inside_same Outside (Some s) h = cc
inside_same (Inside e t tf sf epoch) None h = cc
inside_same (Inside e t tf sf epoch) (Some s) h = refl

pub enclave_same : (e t : ℕ) (tf sf : Frame) (epoch : ℕ) (s : Stay) → seat_of_mode (Inside e t tf sf epoch) ≡ seat_of_stay (Some s)
    → e ≡ s.seat.enclave
enclave_same e t tf sf epoch s h = ap (λ (x : Seat). x.enclave) same
  where
    same : record { enclave = e; tcs = t; tcs_frame = tf.0; ssa_frame = sf.0 } ≡ s.seat
    same = cc

module _ (j : JobView) (past : List Entry) (p : ℕ) (look : Looks) (v : IsValid j) (o : IsOrderly j past) (seen : IsSeen j past p look) where
  turned_is : (e : ℕ) → e ≤ 8 → turned_away look e ≡ is_turned_away past p e
  turned_is e low =
      ap (λ b. b || not (look.is_init e)) (inside_same look.mode (stay past p) seen.seat)
      ∙ ap (λ b. is_some (stay past p) || not b) (seen.inits e low)

  -- ---- entries and resumptions

  pub enter_save_is : (e t : ℕ) → next_save_of e (look.tcs (page_at e t)) ≡ save_to_enter j past e t
  enter_save_is e t =
      ap (next_save_of e) (seen.saves (page_at e t))
      ∙ next_is e (saved_frames past (page_at e t)) (tcs_line (lines_at j.enclaves e) t) (tcs_line_is j e t v)
      (saved_within past p (page_at e t) (tcs_line (lines_at j.enclaves e) t) (o.room p (page_at e t)))

  pub resume_save_is : (e t : ℕ) → last_save_of e (look.tcs (page_at e t)) ≡ save_to_resume j past e t
  resume_save_is e t =
      ap (last_save_of e) (seen.saves (page_at e t))
      ∙ last_is e (saved_frames past (page_at e t)) (tcs_line (lines_at j.enclaves e) t) (tcs_line_is j e t v)
      (saved_within past p (page_at e t) (tcs_line (lines_at j.enclaves e) t) (o.room p (page_at e t)))

  enter_is : (e t : ℕ) → due_in j past (enters_by look.frame (page_at e t) (next_save_of e (look.tcs (page_at e t)))) ≡ enters j past e t
  enter_is e t =
      ap (λ save. due_in j past (enters_by look.frame (page_at e t) save)) (enter_save_is e t)
      ∙ frames_due j past look.frame seen.frames (page_at e t) (save_to_enter j past e t) [] (λ tf sf. dues.Makes (steps.Enter e t tf sf))
      (λ tf sf. makes_or (waits.Busy (page_at e t)) (enter_with e t tf sf)) (λ tf sf. refl)
      ∙ ap (λ gs. with_pages j past (first_away past (page_at e t ∷ gs)) (makes_or (waits.Busy (page_at e t))
      (enter_with e t (frame_here (place past (page_at e t))) (save_frame past (page_at e t) (save_to_enter j past e t)))))
      (append-nil (listed (save_to_enter j past e t)))

  resume_is : (e t : ℕ) (access : Option Page)
      → due_in j past (resumes_by look.frame (page_at e t) (last_save_of e (look.tcs (page_at e t))) access)
      ≡ resumes j past e t (needs_to_resume j past e t ++ listed access)
  resume_is e t access =
      ap (λ save. due_in j past (resumes_by look.frame (page_at e t) save access)) (resume_save_is e t)
      ∙ frames_due j past look.frame seen.frames (page_at e t) (save_to_resume j past e t) (listed access)
      (λ tf sf. with_access look.frame access (dues.Makes (steps.Resume e t tf sf)))
      (λ tf sf. makes_or (waits.Busy (page_at e t)) (resume_with e t tf sf))
      (λ tf sf. access_due j past look.frame seen.frames access (dues.Makes (steps.Resume e t tf sf)))

  -- ---- accesses

  fill_is : (n : ℕ) (f : Option Frame) → due_in j past (fill_by n f) ≡ fills n (number_of f)
  fill_is n None = refl
  fill_is n (Some f) = refl

  access_in_is : (e : ℕ) (op : AccessOp) (off : ℕ) (access : CpuStep) → off < 2 ^ 24
      → due_in j past (access_in look e op off access) ≡ accesses_inside past p e op off (made_by access)
  access_in_is e op off access low =
      ap (λ n. due_in j past
      (if look.is_lawful (page_at e n) op then (if look.holds n then dues.Makes access else fill_by n (look.frame (page_at e n)))
      else dues.Makes (steps.Pf op off))) (number_is off low)
      ∙ by_lawful (look.is_lawful (at_offset e off) op)
      (look.holds (off / 4096)) (seen.lawful (at_offset e off) op) (seen.holds (off / 4096))
    where
      by_lawful : (a b : Bool) → a ≡ is_lawful_access (added past (at_offset e off)) op
          → b ≡ holds_number (translations past p) (off / 4096)
          → due_in j past (if a then (if b then dues.Makes access else fill_by (off / 4096) (look.frame (at_offset e off)))
          else dues.Makes (steps.Pf op off))
          ≡ accesses_inside past p e op off (made_by access)
      by_lawful false b h k = rw (← h) refl
      by_lawful true true h k = rw (← h, ← k) refl
      by_lawful true false h k =
          rw (← h, ← k) (fill_is (off / 4096) (look.frame (at_offset e off)) ∙ ap (fills (off / 4096)) (seen.frames (at_offset e off)))

  access_by_is : (mode : Mode) (s : Option Stay) → seat_of_mode mode ≡ seat_of_stay s → (op : AccessOp) (off : ℕ) (access : CpuStep)
      → off < 2 ^ 24 → due_in j past (access_by look mode op off access) ≡ accesses_by past p s op off (made_by access)
  access_by_is Outside None h op off access low = refl
  access_by_is Outside (Some s) h op off access low = cc
  access_by_is (Inside e t tf sf epoch) None h op off access low = cc
  access_by_is (Inside e t tf sf epoch) (Some s) h op off access low =
      access_in_is e op off access low ∙ ap (λ k. accesses_inside past p k op off (made_by access)) (enclave_same e t tf sf epoch s h)

  -- ---- operations

  either : (b c : Bool) (x y : CpuDue) (u w : Due) → b ≡ c → due_in j past x ≡ u → due_in j past y ≡ w
      → due_in j past (if b then x else y) ≡ (if c then u else w)
  either true c x y u w same h k = h ∙ ap (λ b. if b then u else w) same
  either false c x y u w same h k = k ∙ ap (λ b. if b then u else w) same

  pub op_is : (op : Op) → IsValidOp j op → due_in j past (op_by look op) ≡ op_turn j past p op
  op_is (ops.Enter e t) ok =
      either (turned_away look e) (is_turned_away past p e) (dues.Makes (steps.Enter e t (frame_at 0) (frame_at 0)))
      (enters_by look.frame (page_at e t) (next_save_of e (look.tcs (page_at e t)))) (Makes (actions.Enter e t (frame_at 0) (frame_at 0)))
      (enters j past e t) (turned_is e (few_numbers j e t v ok)) refl (enter_is e t)
  op_is (ops.Resume e t) ok =
      either (turned_away look e) (is_turned_away past p e) (dues.Makes (steps.Resume e t (frame_at 0) (frame_at 0)))
      (resumes_by look.frame (page_at e t) (last_save_of e (look.tcs (page_at e t))) None)
      (Makes (actions.Resume e t (frame_at 0) (frame_at 0)))
      (resumes j past e t (needs_to_resume j past e t)) (turned_is e (few_numbers j e t v ok)) refl
      (resume_is e t None ∙ ap (resumes j past e t) (append-nil (needs_to_resume j past e t)))
  op_is ops.Exit ok = refl
  op_is ops.Timer ok = refl
  op_is (ops.Load off) ok = access_by_is look.mode (stay past p) seen.seat accesses.Load off (steps.Load off) ok.1
  op_is (ops.Store off value) ok = access_by_is look.mode (stay past p) seen.seat accesses.Store off (steps.Store off value) ok.0.1
  op_is (ops.Xadd off value) ok = access_by_is look.mode (stay past p) seen.seat accesses.Xadd off (steps.Xadd off value) ok.0.1
  op_is (ops.Set value) ok = refl
  op_is (ops.Plus value) ok = refl
  op_is (ops.OutLoad enclave off) ok = refl
  op_is (ops.OutStore enclave off value) ok = refl

  -- ---- the first rule that applies

  after_is : (i : kept.Interruption) (op : Op) → IsValidOp j op → next_op j past p ≡ Some op
      → due_in j past (after_by look.frame look.tcs i op) ≡ resumes j past i.enclave i.tcs (needs_after j past p
      (record { enclave = i.enclave; tcs = i.tcs; for_page = i.for_page }))
  after_is i op ok next =
      resume_is i.enclave i.tcs (if i.for_page then access_told i.enclave op else None)
      ∙ ap (λ gs. resumes j past i.enclave i.tcs (needs_to_resume j past i.enclave i.tcs ++ gs)) (by_page i.for_page)
    where
      by_page : (b : Bool)
          → listed (if b then access_told i.enclave op else None) ≡ (if b then listed (access_page i.enclave (next_op j past p)) else [])
      by_page true = ap listed (access_is j i.enclave op ok ∙ ap (access_page i.enclave) (sym next))
      by_page false = refl

  outside_is : (i : Option kept.Interruption) (op : Option Op) → ((x : Op) → op ≡ Some x → IsValidOp j x) → next_op j past p ≡ op
      → due_in j past (outside_by look i op) ≡ outside_turn j past p (interruption_told i) op
  outside_is i None ok next = refl
  outside_is (Some i) (Some op) ok next = after_is i op (ok op refl) next
  outside_is None (Some op) ok next = op_is op (ok op refl)

  inside_is : (k : Bool) (op : Option Op) → ((x : Op) → op ≡ Some x → IsValidOp j x)
      → due_in j past (inside_by look k op) ≡ inside_turn j past p k op
  inside_is true op ok = refl
  inside_is false None ok = refl
  inside_is false (Some op) ok = op_is op (ok op refl)

  early_is : (mode : Mode) (s : Option Stay) (op : Option Op) → seat_of_mode mode ≡ seat_of_stay s
      → due_in j past (early_by mode op) ≡ early_turn s op
  early_is Outside None None h = refl
  early_is Outside None (Some op) h = refl
  early_is Outside (Some s) op h = cc
  early_is (Inside e t tf sf epoch) None op h = cc
  early_is (Inside e t tf sf epoch) (Some s) op h = refl

  stay_is : (x : CpuTurn) → ShowsCpu past p x → (op : Option Op) → ((y : Op) → op ≡ Some y → IsValidOp j y) → next_op j past p ≡ op
      → (mode : Mode) (s : Option Stay) → seat_of_mode mode ≡ seat_of_stay s
      → due_in j past (built_by look x op mode) ≡ stay_turn j past p s
  stay_is x shown op ok next Outside None h =
      outside_is x.interruption op ok next ∙ ap (λ i. outside_turn j past p i op) shown.interruption
      ∙ ap (outside_turn j past p (interruption past p)) (sym next)
  stay_is x shown op ok next Outside (Some s) h = cc
  stay_is x shown op ok next (Inside e t tf sf epoch) None h = cc
  stay_is x shown op ok next (Inside e t tf sf epoch) (Some s) h =
      inside_is x.is_kicked op ok ∙ ap (λ k. inside_turn j past p k op) shown.kicked
      ∙ ap (inside_turn j past p (is_kicked past p)) (sym next)

  after_last_is : (l : lasts.Last) (b : Bool) (turn : CpuDue) (d : Due) → due_in j past turn ≡ d
      → due_in j past (after_last l b turn) ≡ due_after (last_told l) b d
  after_last_is (ways.Loads f page) b turn d h = refl
  after_last_is (ways.Fails page why) true turn d h = refl
  after_last_is (ways.Fails page why) false turn d h = refl
  after_last_is ways.WasEnded b turn d h = refl
  after_last_is ways.Other b turn d h = h

-- ---- the builder's next step

none_left : {X : Type 0} (xs : List X) (n : ℕ) → slice_get xs n ≡ None → nat_le (length xs) n ≡ true
none_left [] n h = le-leb 0 n (omega arith)
none_left (x ∷ xs) zero h = cc
none_left (x ∷ xs) (suc n) h =
    let low = leb-true (length xs) n (none_left xs n h) in le-leb (length (x ∷ xs)) (suc n) (omega (arith, low))

some_left : {X : Type 0} (xs : List X) (n : ℕ) (x : X) → slice_get xs n ≡ Some x → nat_le (length xs) n ≡ false
some_left [] n x h = cc
some_left (y ∷ xs) zero x h = grind arith
some_left (y ∷ xs) (suc n) x h = let rest = some_left xs n x h in grind (arith, rest)

pub head_left : {X : Type 0} (xs : List X) (n : ℕ) → slice_get (drop n xs) 0 ≡ slice_get xs n
head_left xs zero = refl
head_left [] (suc n) = refl
head_left (x ∷ xs) (suc n) = head_left xs n

step_is : (j : JobView) (past : List Entry) (t : Turns) → ShowsTurns j past t → next_step j t ≡ slice_get (build_of j) (built past)
step_is j past t s = ap (λ steps. slice_get steps 0) s.steps ∙ head_left (build_of j) (built past)

last_same : (past : List Entry) (p : ℕ) → is_last_by p (last_actor past) ≡ is_last past p
last_same [] p = refl
last_same (e ∷ past) p = refl

-- ---- a processor

pub cpu_is : (k : Keeping) (j : JobView) (past : List Entry) (d : Driver) (m : Parts) (t : Turns) (p : ℕ) → p < length j.scripts
    → IsShown k j past d m → IsOrderly j past → ShowsTurns j past t
    → due_in j past (cpu_by t.is_spent (looks_at d m t p) (turn_at t.cpus p) (is_last_by p t.last)
    (op_at j p (turn_at t.cpus p).replied) (next_step j t)) ≡ cpu_due j past p
cpu_is k j past d m t p low a o s = by_spent t.is_spent (is_spent past) s.spent
  where
    x : CpuTurn
    x = turn_at t.cpus p

    seen : IsSeen j past p (looks_at d m t p)
    seen = looks_are k j past d m t a s p

    next : next_op j past p ≡ op_at j p (turn_at t.cpus p).replied
    next = ap (slice_get (script_of j p)) (sym (s.cpus p low).replied)

    turn_is : (step : Option BuildStep) → slice_get (build_of j) (built past) ≡ step
        → due_in j past (turn_by (looks_at d m t p) (turn_at t.cpus p) (op_at j p (turn_at t.cpus p).replied) step) ≡ turn_due j past p
    turn_is None left =
        stay_is j past p (looks_at d m t p) s.valid o seen (turn_at t.cpus p) (s.cpus p low) (op_at j p (turn_at t.cpus p).replied)
        (λ y at. op_valid j p (turn_at t.cpus p).replied y s.valid at) next (looks_at d m t p).mode (stay past p) seen.seat
        ∙ ap (λ b. if b then stay_turn j past p (stay past p) else early_turn (stay past p) (next_op j past p))
        (sym (none_left (build_of j) (built past) left))
    turn_is (Some step) left =
        early_is j past p (looks_at d m t p) s.valid o seen (looks_at d m t p).mode (stay past p)
        (op_at j p (turn_at t.cpus p).replied) seen.seat
        ∙ ap (early_turn (stay past p)) (sym next)
        ∙ ap (λ b. if b then stay_turn j past p (stay past p) else early_turn (stay past p) (next_op j past p))
        (sym (some_left (build_of j) (built past) step left))

    by_spent : (b c : Bool) → b ≡ c
        → due_in j past (cpu_by b (looks_at d m t p) (turn_at t.cpus p) (is_last_by p t.last) (op_at j p (turn_at t.cpus p).replied)
        (next_step j t)) ≡ (if c then Stopped else due_after (last_of past p) (is_last past p) (turn_due j past p))
    by_spent true c same = ap (λ c. if c then Stopped else due_after (last_of past p) (is_last past p) (turn_due j past p)) same
    by_spent false c same =
        after_last_is j past p (looks_at d m t p) s.valid o seen (turn_at t.cpus p).last (is_last_by p t.last)
        (turn_by (looks_at d m t p) (turn_at t.cpus p) (op_at j p (turn_at t.cpus p).replied) (next_step j t)) (turn_due j past p)
        (turn_is (next_step j t) (sym (step_is j past t s)))
        ∙ ap (λ l. due_after l (is_last_by p t.last) (turn_due j past p)) (s.cpus p low).last
        ∙ ap (λ b. due_after (last_of past p) b (turn_due j past p)) (ap (is_last_by p) s.last ∙ last_same past p)
        ∙ ap (λ c. if c then Stopped else due_after (last_of past p) (is_last past p) (turn_due j past p)) same

-- ---- the builder

with_is : (step : BuildStep) (f : Option Frame) → building_in (with_frame step f) ≡ makes_or waits.NoFrame (frame_step step (number_of f))
with_is step None = refl
with_is step (Some f) = refl

step_due_is : (j : JobView) (past : List Entry) (free : Option Frame) (stands : Page → Option Frame) (step : BuildStep)
    → number_of free ≡ least_free j.epc (content past)
    → ((g : Page) → page_extended (Some step) ≡ Some g → number_of (stands g) ≡ frame_of past g)
    → building_in (step_by free stands step) ≡ makes_or waits.NoFrame (step_due j.epc past step)
step_due_is j past free stands builds.Va f h =
    with_is builds.Va free ∙ ap (λ o. makes_or waits.NoFrame (frame_step builds.Va o)) f
step_due_is j past free stands (builds.Create enclave base size) f h =
    with_is (builds.Create enclave base size) free
    ∙ ap (λ o. makes_or waits.NoFrame (frame_step (builds.Create enclave base size) o)) f
step_due_is j past free stands (builds.Add enclave number kind perm init) f h =
    with_is (builds.Add enclave number kind perm init) free
    ∙ ap (λ o. makes_or waits.NoFrame (frame_step (builds.Add enclave number kind perm init) o)) f
step_due_is j past free stands (builds.Extend enclave number chunk) f h =
    with_is (builds.Extend enclave number chunk) (stands (page_at enclave number))
    ∙ ap (λ o. makes_or waits.NoFrame (frame_step (builds.Extend enclave number chunk) o)) (h (page_at enclave number) refl)
step_due_is j past free stands (builds.Init enclave expect) f h = refl

pub builder_is : (k : Keeping) (j : JobView) (past : List Entry) (d : Driver) (m : Parts) (t : Turns) (free : Option Frame)
    → number_of free ≡ least_free (state_of m).frames (state_of m).content
    → IsShown k j past d m → IsOrderly j past → ShowsTurns j past t
    → building_in (builder_by t.is_spent free (standing_seen d t) (next_step j t)) ≡ builder_due j past
builder_is k j past d m t free first a o s = by_spent t.is_spent (is_spent past) s.spent
  where
    own : (step : BuildStep) → next_step j t ≡ Some step → (g : Page) → page_extended (Some step) ≡ Some g → is_own_page g ≡ true
    own step at g is =
        low_own (job_counts j) g (few_places j s.valid)
        (extended_low j (built past) g (ap page_extended (sym (step_is j past t s) ∙ at) ∙ is))

    turn_is : (step : Option BuildStep) → next_step j t ≡ step
        → building_in (builder_by false free (standing_seen d t) step) ≡ step_turn j past step
    turn_is None at = refl
    turn_is (Some step) at =
        step_due_is j past free (standing_seen d t) step (free_is k j past d m t a s free first)
        (λ g is. standing_is k j past d m t a s o g (own step at g is))

    by_spent : (b c : Bool) → b ≡ c
        → building_in (builder_by b free (standing_seen d t) (next_step j t))
        ≡ (if c then Stopped else step_turn j past (slice_get (build_of j) (built past)))
    by_spent true c same = ap (λ c. if c then Stopped else step_turn j past (slice_get (build_of j) (built past))) same
    by_spent false c same =
        turn_is (next_step j t) refl ∙ ap (step_turn j past) (step_is j past t s)
        ∙ ap (λ c. if c then Stopped else step_turn j past (slice_get (build_of j) (built past))) same
