-- The rows that enter and resume an enclave: what each brings where it is done, and that it leaves a sound state.
use Rattle.std.proofs.Common.{◌≡◌, ℕ, ◌+◌, ◌-◌, ◌%◌, ◌^◌, ◌<◌, ◌≤◌, ◌==◌, ◌||◌, ◌⊎◌, inl}
use Rattle.std.proofs.Common.{inr, not, Bool, true, false, cond, refl, sym, ap, ◌∙◌, arith, Option, Some, None, List, [], length}
use Rattle.std.specs.Prelude.{slice_index}
use Rattle.std.proofs.lemmas.Bool.{cases_lt, lt-ltb, false≢true}
use Rattle.std.proofs.lemmas.List.Elements.{All-nil}
use Rattle.sgx_rules.specs.declared.entries.Entry.{Entry}
use Rattle.sgx_types.specs.declared.names.Actor.TheVariants as actors
use Rattle.sgx_rules.specs.declared.entries.Action.TheVariants.{Enter, Resume}
use Rattle.sgx_rules.specs.declared.entries.Answer.TheVariants.{Cssa, Value}
use Rattle.sgx_types.specs.declared.names.Cpu.{Cpu}
use Rattle.sgx_types.specs.declared.names.Frame.{Frame}
use Rattle.sgx_types.specs.declared.names.Kind.{Kind}
use Rattle.sgx_types.specs.declared.names.Kind.TheVariants as kinds
use Rattle.sgx_types.specs.declared.names.Perm.{Perm}
use Rattle.sgx_rules.specs.declared.refusals.Refusal.TheVariants as why
use Rattle.sgx_types.specs.Pages.{page_at, same_page}
use Rattle.sgx_rules.specs.Frames.{Content, Holds, is_page}
use Rattle.sgx_rules.specs.Processors.{Seat, stay, stay_from}
use Rattle.sgx_rules.specs.declared.refusals.Refusal.{Refusal}
use Rattle.sgx_types.specs.Cases.{Case, when}
use Rattle.sgx_rules.specs.Table.{EnclaveSight, EnterSight, FrameSight, Row, TcsSight, is_busy, is_loading, is_tcs}
use Rattle.sgx_rules.specs.Table.{is_reg, is_made}
use Rattle.sgx_types.specs.Cases.{first_of_row}
use Rattle.sgx_rules.specs.Table.{is_ready, perm_in, allows_update, entry_row, enter_row, resume_row}
use Rattle.sgx_rules.specs.Flat.{FlatCpu, flat_page_words, flat_content, flat, enclave_sight_of, tcs_fields, fields_in, with_cssa}
use Rattle.sgx_rules.specs.Flat.{with_words}
use Rattle.sgx_rules.specs.Flat.{words_of, flat_enter_sight, resumed_word, entered, memory_after, FlatMemory}
use Rattle.sgx_rules.specs.Sights.{seat_of}
use Rattle.machine_laws.specs.inner.State.{State, enter_sight, row_of, cssa_in, saved_word, rewritten, after_enter, after_resume}
use Rattle.machine_laws.specs.inner.Stands.{Stands, IsUsable, IsSeated, IsSound, inside_of_stay, next_save, EnclavesSeen}
use Rattle.machine_laws.specs.inner.Stands.{cpu_shown}
use Rattle.machine_laws.proofs.TestLaws.{both_false, equal}
use Rattle.machine_laws.proofs.Contents.{IsKindOf, tcs_there, reg_there}
use Rattle.machine_laws.proofs.SoundLaws.{sound-inside, sized-rewritten}
use Rattle.machine_laws.proofs.WordLaws.{once_in_state, ossa-with_cssa, cssa-with_cssa, cssa_small, length-with_cssa}
use Rattle.machine_laws.proofs.WordLaws.{shows_changed}
use Rattle.machine_laws.proofs.ProcessorLaws.{mode_in_flat}
use Rattle.machine_laws.proofs.NextEntry.{BringsDone}
use Rattle.machine_laws.proofs.ColumnLaws.{busy_flat, enclave_flat}
use Rattle.sgx_rules.specs.Rules.{NoPageTwice}
use Rattle.sgx_rules.proofs.Rows.{none_holds, none_refused}
use Rattle.sgx_types.proofs.Truths.{neither, not_false}

-- ---- what an entry by a TCS page needs of what it sees

pub record Enters (enclave tcs : ℕ) (v : EnterSight) (saves : Case Refusal) (saved : ℕ) : Type 0 where
  pub outside : v.is_inside ≡ false
  pub tcs_within : v.tcs.is_beyond ≡ false
  pub ssa_within : v.ssa.is_beyond ≡ false
  pub made : not (is_made v.enclave) ≡ false
  pub ready : not (is_ready v.enclave) ≡ false
  pub tcs_idle : is_busy v.tcs ≡ false
  pub tcs_page : not (is_page v.tcs.content (page_at enclave tcs)) ≡ false
  pub tcs_kind : not (is_tcs v.tcs.content) ≡ false
  pub tcs_open : v.tcs.is_blocked ≡ false
  pub tcs_free : v.tcs_busy ≡ false
  pub frame_left : saves.holds ≡ false
  pub ssa_idle : is_busy v.ssa ≡ false
  pub ssa_page : not (is_page v.ssa.content (page_at enclave saved)) ≡ false
  pub ssa_kind : not (is_reg v.ssa.content) ≡ false
  pub ssa_open : v.ssa.is_blocked ≡ false
  pub ssa_perm : not (allows_update (perm_in v.ssa.content)) ≡ false

pub enters : (enclave tcs : ℕ) (v : EnterSight) (saves : Case Refusal) (saved : ℕ)
    → first_of_row (entry_row enclave tcs v saves saved) ≡ None
    → Enters enclave tcs v saves saved
enters enclave tcs v saves saved allowed =
    let none = none_holds (entry_row enclave tcs v saves saved) allowed in
    let within = neither v.tcs.is_beyond v.ssa.is_beyond none.1.0 in
    let here = none.1.1.1.1 in
    let save = here.1.1.1.1.1.1 in
    record {
      outside = none.0;
      tcs_within = within.0;
      ssa_within = within.1;
      made = none.1.1.0;
      ready = none.1.1.1.0;
      tcs_idle = here.0;
      tcs_page = here.1.0;
      tcs_kind = here.1.1.0;
      tcs_open = here.1.1.1.0;
      tcs_free = here.1.1.1.1.0;
      frame_left = here.1.1.1.1.1.0;
      ssa_idle = save.0;
      ssa_page = save.1.0;
      ssa_kind = save.1.1.0;
      ssa_open = save.1.1.1.0;
      ssa_perm = save.1.1.1.1.0;
    }

enters_none : (enclave tcs : ℕ) (v : EnterSight) (saves : Case Refusal) (saved : ℕ) → Enters enclave tcs v saves saved
    → first_of_row (entry_row enclave tcs v saves saved) ≡ None
enters_none enclave tcs v saves saved h =
    none_refused (entry_row enclave tcs v saves saved) (
      h.outside,
      (
        both_false v.tcs.is_beyond v.ssa.is_beyond h.tcs_within h.ssa_within,
        (
          h.made,
          (
            h.ready,
            (
              h.tcs_idle,
              (
                h.tcs_page,
                (
                  h.tcs_kind,
                  (
                    h.tcs_open,
                    (
                      h.tcs_free,
                      (
                        h.frame_left,
                        (h.ssa_idle, (h.ssa_page, (h.ssa_kind, (h.ssa_open, (h.ssa_perm, tt))))),
                      ),
                    ),
                  ),
                ),
              ),
            ),
          ),
        ),
      ),
    )

-- the same row, seeing equal things
pub enter_sight_of : (b b' : Bool) (o o' : Option EnclaveSight) (t t' : FrameSight) (k k' : Bool) (f f' : TcsSight) (u u' : FrameSight)
    → b ≡ b' → o ≡ o' → t ≡ t' → k ≡ k' → f ≡ f' → u ≡ u'
    → (let v : EnterSight = record { is_inside = b; enclave = o; tcs = t; tcs_busy = k; fields = f; ssa = u } in v) ≡ record
    { is_inside = b'; enclave = o'; tcs = t'; tcs_busy = k'; fields = f'; ssa = u' }
enter_sight_of b b' o o' t t' k k' f f' u u' e1 e2 e3 e4 e5 e6 =
    λ i. record { is_inside = e1 i; enclave = e2 i; tcs = e3 i; tcs_busy = e4 i; fields = e5 i; ssa = e6 i }

-- a frame that holds something, with nothing against it
abbrev opened : Content → FrameSight
opened c = record { is_beyond = false; content = c; is_sealing = false; is_blocked = false }

abbrev opened_sight : EnterSight → EnterSight
opened_sight v = record v { tcs = opened v.tcs.content; ssa = opened v.ssa.content }

enters_opened : (enclave tcs : ℕ) (v : EnterSight) (saves : Case Refusal) (saved : ℕ) → Enters enclave tcs v saves saved
    → Enters enclave tcs (opened_sight v) saves saved
enters_opened enclave tcs v saves saved h = record {
  outside = h.outside;
  tcs_within = refl;
  ssa_within = refl;
  made = h.made;
  ready = h.ready;
  tcs_idle = (neither v.tcs.is_sealing (is_loading v.tcs.content) h.tcs_idle).1;
  tcs_page = h.tcs_page;
  tcs_kind = h.tcs_kind;
  tcs_open = refl;
  tcs_free = h.tcs_free;
  frame_left = h.frame_left;
  ssa_idle = (neither v.ssa.is_sealing (is_loading v.ssa.content) h.ssa_idle).1;
  ssa_page = h.ssa_page;
  ssa_kind = h.ssa_kind;
  ssa_open = refl;
  ssa_perm = h.ssa_perm;
}

pub usable_there : {c : Content} {sealing : Bool} {enclave number : ℕ} {kind : Kind} {perm : Perm}
    → c ≡ Holds (page_at enclave number) kind perm → (sealing || is_loading c) ≡ false → IsUsable enclave c sealing
usable_there {c} {sealing} holds idle = record { ours = rw holds refl; settled = (neither sealing (is_loading c) idle).0 }

-- ---- what an entry that its row allows finds in the machine and in flat memory

-- a row by a TCS page: what it asks of the fields, and which state save page it takes by them
abbrev pub by_fields : (TcsSight → Case Refusal) → (TcsSight → ℕ) → ℕ → ℕ → EnterSight → Row
by_fields saves saved enclave tcs v = entry_row enclave tcs v (saves v.fields) (saved v.fields)

pub record FindsPages (s : State) (past : List Entry) (p : ℕ) (seat : Seat) (saves : TcsSight → Case Refusal)
    (saved : TcsSight → ℕ) : Type 0 where
  pub needs : Enters seat.enclave seat.tcs (enter_sight s p seat) (saves (tcs_fields (s.words seat.tcs_frame)))
      (saved (tcs_fields (s.words seat.tcs_frame)))
  pub tcs : IsKindOf (s.content seat.tcs_frame) (page_at seat.enclave seat.tcs) kinds.Tcs
  pub ssa : IsKindOf (s.content seat.ssa_frame) (page_at seat.enclave (saved (tcs_fields (s.words seat.tcs_frame)))) kinds.Reg
  pub tcs_flat : (flat past).pages (page_at seat.enclave seat.tcs) ≡ Some
      (record { kind = kinds.Tcs; perm = tcs.perm; words = s.words seat.tcs_frame })
  pub ssa_flat : (flat past).pages (page_at seat.enclave (saved (tcs_fields (s.words seat.tcs_frame)))) ≡ Some
      (record { kind = kinds.Reg; perm = ssa.perm; words = s.words seat.ssa_frame })
  pub fields : tcs_fields (s.words seat.tcs_frame) ≡ fields_in (flat past) seat.enclave seat.tcs
  pub by_flat : first_of_row (by_fields saves saved seat.enclave seat.tcs
      (flat_enter_sight (flat past) p seat.enclave seat.tcs (saved (fields_in (flat past) seat.enclave seat.tcs)))) ≡ None

pub finds_pages : (s : State) (past : List Entry) (p : ℕ) (seat : Seat) (saves : TcsSight → Case Refusal) (saved : TcsSight → ℕ)
    → Stands s past
    → first_of_row (by_fields saves saved seat.enclave seat.tcs (enter_sight s p seat)) ≡ None → FindsPages s past p seat saves saved
finds_pages s past p seat saves saved stands allowed =
    let m = flat past in
    let enclave = seat.enclave in
    let g = page_at enclave seat.tcs in
    let v = enter_sight s p seat in
    let f = tcs_fields (s.words seat.tcs_frame) in
    let k = enters enclave seat.tcs v (saves f) (saved f) allowed in
    let tcs_held = tcs_there (s.content seat.tcs_frame) g (not_false _ k.tcs_page) (not_false _ k.tcs_kind) in
    let tcs_flat = stands.memory.words seat.tcs_frame g kinds.Tcs tcs_held.perm tcs_held.holds in
    let same_fields : f ≡ fields_in m enclave seat.tcs = ap (λ x. tcs_fields (flat_page_words x)) (sym tcs_flat) in
    let save = page_at enclave (saved f) in
    let ssa_held = reg_there (s.content seat.ssa_frame) save (not_false _ k.ssa_page) (not_false _ k.ssa_kind) in
    let ssa_flat = stands.memory.words seat.ssa_frame save kinds.Reg ssa_held.perm ssa_held.holds in
    let ssa_same : s.content seat.ssa_frame ≡ flat_content save (m.pages save) = ssa_held.holds ∙ sym (ap (flat_content save) ssa_flat) in
    record {
      needs = k;
      tcs = tcs_held;
      ssa = ssa_held;
      tcs_flat = tcs_flat;
      ssa_flat = ssa_flat;
      fields = same_fields;
      by_flat =
          ap (λ x. first_of_row (by_fields saves saved enclave seat.tcs x))
          (sym (enter_sight_of _ _ _ _ _ _ _ _ _ _ _ _ (mode_in_flat s past stands p) (ap enclave_sight_of (enclave_flat stands enclave))
          (ap opened (tcs_held.holds ∙ sym (ap (flat_content g) tcs_flat))) (busy_flat stands g) same_fields
          (ap opened (ssa_same ∙ ap (λ x. flat_content (page_at enclave (saved x)) (m.pages (page_at enclave (saved x)))) same_fields))))
          ∙ enters_none enclave seat.tcs (opened_sight v) (saves f) (saved f) (enters_opened enclave seat.tcs v (saves f) (saved f) k);
    }

-- .. so it may sit, where the state save page that CSSA names afterwards is the one in its frame
seated_there : (s : State) (p : ℕ) (seat : Seat) (saves : Case Refusal) (saved : ℕ) (words : ℕ → List ℕ)
    → Enters seat.enclave seat.tcs (enter_sight s p seat) saves saved
    → page_at seat.enclave saved ≡ next_save seat.enclave (tcs_fields (words seat.tcs_frame))
    → IsSeated s.content s.is_sealing words [] seat
seated_there s p seat saves saved words k next =
    let tcs = tcs_there (s.content seat.tcs_frame) (page_at seat.enclave seat.tcs) (not_false _ k.tcs_page) (not_false _ k.tcs_kind) in
    let ssa = reg_there (s.content seat.ssa_frame) (page_at seat.enclave saved) (not_false _ k.ssa_page) (not_false _ k.ssa_kind) in
    record {
      tcs = usable_there tcs.holds k.tcs_idle;
      tcs_page = not_false _ k.tcs_page;
      tcs_kind = not_false _ k.tcs_kind;
      ssa = usable_there ssa.holds k.ssa_idle;
      ssa_page = rw (← next) (not_false _ k.ssa_page);
      ssa_kind = not_false _ k.ssa_kind;
      cache = All-nil _;
    }

-- a processor of flat memory that comes inside
cpus_entered : (s : State) (past : List Entry) (m : FlatMemory) (p : ℕ) (seat : Seat) (acc acc' : ℕ) → acc' ≡ acc
    → ((q : ℕ) → m.cpus q ≡ cpu_shown s past q)
    → (q : ℕ) → (let c : FlatCpu = cond (p == q) (record { inside = Some (record { enclave = seat.enclave; tcs = seat.tcs }); acc = acc' })
    (m.cpus q) in c)
    ≡ record { inside = inside_of_stay (cond (p == q) (Some (stay_from past seat)) (stay past q)); acc = cond (p == q) acc (s.acc q) }
cpus_entered s past m p seat acc acc' same cpus q = by_cpu (p == q)
  where
    by_cpu : (b : Bool) → (let c : FlatCpu = cond b
        (record { inside = Some (record { enclave = seat.enclave; tcs = seat.tcs }); acc = acc' }) (m.cpus q) in c)
        ≡ record { inside = inside_of_stay (cond b (Some (stay_from past seat)) (stay past q)); acc = cond b acc (s.acc q) }
    by_cpu true = λ i. record { inside = Some (record { enclave = seat.enclave; tcs = seat.tcs }); acc = same i }
    by_cpu false = cpus q

-- .. by a TCS page that is busy then
abbrev taken : Seat → EnclavesSeen → EnclavesSeen
taken seat x = record x { is_busy = λ q. cond (same_page q (page_at seat.enclave seat.tcs)) true (x.is_busy q) }

-- ---- enter

abbrev pub enter_saves : TcsSight → Case Refusal
enter_saves f = when (f.cssa == f.nssa) why.NoFrame

abbrev pub enter_saved : TcsSight → ℕ
enter_saved f = f.ossa + f.cssa

pub sound-enter : (s : State) (p : ℕ) (seat : Seat) → first_of_row (enter_row seat.enclave seat.tcs (enter_sight s p seat)) ≡ None
    → IsSound s → IsSound (after_enter s p seat)
sound-enter s p seat allowed sound =
    let f = tcs_fields (s.words seat.tcs_frame) in
    let k = enters seat.enclave seat.tcs (enter_sight s p seat) (enter_saves f) (enter_saved f) allowed in
    sound-inside s p seat (cssa_in s seat.tcs_frame) s.words sound k.tcs_free
    (seated_there s p seat (enter_saves f) (enter_saved f) s.words k refl) (λ n other. refl) sound.sized

pub enter_brings : (s : State) (past : List Entry) (p : Cpu) (enclave tcs : ℕ) (tf sf : Frame) → p.0 < 16
    → first_of_row (row_of s (actors.Cpu p) (Enter enclave tcs tf sf)) ≡ None → Stands s past
    → BringsDone s (after_enter s p.0 (seat_of enclave tcs tf.0 sf.0)) past (actors.Cpu p) (Enter enclave tcs tf sf) (Cssa (cssa_in s tf.0))
enter_brings s past p enclave tcs tf sf low allowed stands =
    let seat = seat_of enclave tcs tf.0 sf.0 in
    let m = flat past in
    let k = finds_pages s past p.0 seat enter_saves enter_saved stands allowed in
    let cssa : cssa_in s tf.0 ≡ (fields_in m enclave tcs).cssa = ap (λ (f : TcsSight). f.cssa) k.fields in
    record {
      form = (cssa_in s tf.0, refl);
      taken = rw (lt-ltb p.0 16 low, k.by_flat) refl;
      same = λ seen. ap Cssa cssa;
      measure = tt;
      memory = record {
        enclaves = ap (taken seat) stands.memory.enclaves;
        cpus = cpus_entered s past m p.0 seat (cssa_in s tf.0) (fields_in m enclave tcs).cssa (sym cssa) stands.memory.cpus;
        words = stands.memory.words;
        measure = stands.memory.measure;
      };
    }

-- ---- resume

abbrev pub resume_saves : TcsSight → Case Refusal
resume_saves f = when (f.cssa == 0) why.NoSaved

abbrev pub resume_saved : TcsSight → ℕ
resume_saved f = f.ossa + f.cssa - 1

-- the words of the frames, with one state save frame fewer in use
abbrev pub resumed_words : State → ℕ → ℕ → List ℕ
resumed_words s tf = rewritten s.words tf (λ words. with_cssa words (cssa_in s tf - 1))

some_saved : (c : ℕ) → (c == 0) ≡ false → 0 < c
some_saved c is = by_place (cases_lt 0 c)
  where
    by_place : (0 < c) ⊎ (c ≤ 0) → 0 < c
    by_place (inl low) = low
    by_place (inr none) = let zero_is : c ≡ 0 = omega arith in absurd (false≢true (sym is ∙ equal c 0 zero_is))

-- the state save page that was taken is the one that CSSA names from now on
next_resumed : (s : State) (enclave tf : ℕ) → length (s.words tf) ≡ 512 → (cssa_in s tf == 0) ≡ false
    → page_at enclave (resume_saved (tcs_fields (s.words tf))) ≡ next_save enclave (tcs_fields (resumed_words s tf tf))
next_resumed s enclave tf sized left =
    let words = s.words tf in
    let here : (tf == tf) ≡ true = equal tf tf refl in
    let same : resumed_words s tf tf ≡ with_cssa words (cssa_in s tf - 1) = rw here refl in
    let ossa = ossa-with_cssa words (cssa_in s tf - 1) in
    let cssa = cssa-with_cssa words (cssa_in s tf - 1) sized in
    let few = cssa_small words in
    let some = some_saved (cssa_in s tf) left in
    let whole : (cssa_in s tf - 1) % 2 ^ 32 ≡ cssa_in s tf - 1 = low_number (cssa_in s tf - 1) (omega (arith, few)) in
    let number : (tcs_fields words).ossa + cssa_in s tf - 1 ≡ (tcs_fields words).ossa + (cssa_in s tf - 1) = omega (arith, some) in
    rw same (ap (page_at enclave) (number ∙ ap (λ c. (tcs_fields words).ossa + c) (sym (cssa ∙ whole))
    ∙ ap (λ o. o + (tcs_fields (with_cssa words (cssa_in s tf - 1))).cssa) (sym ossa)))
  where
    low_number : (c : ℕ) → c < 2 ^ 32 → c % 2 ^ 32 ≡ c
    low_number c low = omega arith

pub sound-resume : (s : State) (p : ℕ) (seat : Seat) → first_of_row (resume_row seat.enclave seat.tcs (enter_sight s p seat)) ≡ None
    → IsSound s → IsSound (after_resume s p seat)
sound-resume s p seat allowed sound =
    let f = tcs_fields (s.words seat.tcs_frame) in
    let k = enters seat.enclave seat.tcs (enter_sight s p seat) (resume_saves f) (resume_saved f) allowed in
    sound-inside s p seat (saved_word s seat.ssa_frame) (resumed_words s seat.tcs_frame) sound k.tcs_free
    (seated_there s p seat (resume_saves f) (resume_saved f) (resumed_words s seat.tcs_frame) k
    (next_resumed s seat.enclave seat.tcs_frame (sound.sized seat.tcs_frame) k.frame_left)) (λ n other. rw other refl)
    (sized-rewritten s.words seat.tcs_frame (λ words. with_cssa words (cssa_in s seat.tcs_frame - 1)) sound.sized
    (λ words. length-with_cssa words _))

pub resume_brings : (s : State) (past : List Entry) (p : Cpu) (enclave tcs : ℕ) (tf sf : Frame) → p.0 < 16
    → first_of_row (row_of s (actors.Cpu p) (Resume enclave tcs tf sf)) ≡ None → Stands s past → NoPageTwice past
    → BringsDone s (after_resume s p.0 (seat_of enclave tcs tf.0 sf.0)) past (actors.Cpu p) (Resume enclave tcs tf sf)
    (Value (saved_word s sf.0))
resume_brings s past p enclave tcs tf sf low allowed stands once =
    let seat = seat_of enclave tcs tf.0 sf.0 in
    let g = page_at enclave tcs in
    let m = flat past in
    let k = finds_pages s past p.0 seat resume_saves resume_saved stands allowed in
    let change : List ℕ → List ℕ = λ words. with_cssa words (cssa_in s tf.0 - 1) in
    let same_change : (λ (words : List ℕ). with_cssa words ((fields_in m enclave tcs).cssa - 1)) ≡ change =
    ap (λ (f : TcsSight). λ (words : List ℕ). with_cssa words (f.cssa - 1)) (sym k.fields) in
    let word : saved_word s sf.0 ≡ resumed_word m enclave tcs =
    ap (λ x. slice_index (flat_page_words x) 0) (sym k.ssa_flat)
    ∙ ap (λ (f : TcsSight). slice_index (words_of m (page_at enclave (f.ossa + f.cssa - 1))) 0) k.fields in
    let changed = shows_changed s past m tf.0 g change stands.memory (once_in_state s past stands once) (not_false _ k.needs.tcs_page) in
    let after : memory_after (actors.Cpu p) (Resume enclave tcs tf sf) m ≡ entered (with_words m g change) p.0 enclave tcs
    (resumed_word m enclave tcs) = ap (λ c. entered (with_words m g c) p.0 enclave tcs (resumed_word m enclave tcs)) same_change in
    record {
      form = (saved_word s sf.0, refl);
      taken = rw (lt-ltb p.0 16 low, k.by_flat) refl;
      same = λ seen. ap Value word;
      measure = tt;
      memory = rw after (record {
        enclaves = ap (taken seat) changed.enclaves;
        cpus = cpus_entered s past m p.0 seat (saved_word s sf.0) (resumed_word m enclave tcs) (sym word) changed.cpus;
        words = changed.words;
        measure = changed.measure;
      });
    }
