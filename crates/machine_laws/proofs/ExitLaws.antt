-- The rows by which a processor leaves an enclave: what each brings where it is done, and that it leaves a sound state.
use Rattle.std.proofs.Common.{◌≡◌, ℕ, ◌+◌, ◌<◌, ◌==◌, Bool, true, false, cond, refl, sym, ap, ◌∙◌, Option, Some}
use Rattle.std.proofs.Common.{None, List, ◌∷◌, is_some, set}
use Rattle.std.proofs.lemmas.Bool.{false≢true, lt-ltb}
use Rattle.std.proofs.lemmas.List.{length-set}
use Rattle.sgx_rules.specs.declared.entries.Entry.{Entry}
use Rattle.sgx_types.specs.declared.names.Actor.TheVariants as actors
use Rattle.sgx_rules.specs.declared.entries.Action.TheVariants.{Exit, Aex}
use Rattle.sgx_rules.specs.declared.entries.Answer.TheVariants.{Plain}
use Rattle.sgx_rules.specs.declared.entries.Cause.{Cause}
use Rattle.sgx_types.specs.declared.names.Cpu.{Cpu}
use Rattle.sgx_types.specs.declared.names.Kind.TheVariants as kinds
use Rattle.sgx_types.specs.Pages.{page_at}
use Rattle.sgx_rules.specs.Processors.{Seat, Stay, stay}
use Rattle.sgx_types.specs.Cases.{first_of_row}
use Rattle.sgx_rules.specs.Table.{TcsSight, inside_row}
use Rattle.sgx_rules.specs.Flat.{FlatCpu, Inside, flat, fields_in, left, saved, tcs_fields, with_cssa, with_words, flat_page_words}
use Rattle.sgx_rules.specs.Flat.{memory_after}
use Rattle.sgx_rules.specs.Flat.{FlatMemory, is_inside_by}
use Rattle.machine_laws.specs.inner.State.{State, row_of, cssa_in, rewritten, with_saved, after_exit, after_aex, is_seated_by}
use Rattle.machine_laws.specs.inner.Stands.{IsSound, inside_of_stay, next_save, Shows, Stands, cpu_shown, enclaves_flat}
use Rattle.machine_laws.specs.inner.Stands.{enclaves_seen}
use Rattle.machine_laws.proofs.TestLaws.{equal}
use Rattle.machine_laws.proofs.Contents.{one_named, tcs_there, tcs_no_reg}
use Rattle.machine_laws.proofs.SoundLaws.{sound-left, sized-rewritten, seat_at}
use Rattle.machine_laws.proofs.WordLaws.{once_in_state, length-with_cssa, shows_changed}
use Rattle.machine_laws.proofs.ProcessorLaws.{mode_in_flat, seated_in_flat}
use Rattle.machine_laws.specs.inner.Steps.{did_by}
use Rattle.machine_laws.specs.inner.Columns.{seat_of_stay}
use Rattle.machine_laws.proofs.NextEntry.{BringsDone}
use Rattle.machine_laws.proofs.ColumnLaws.{acc_flat, inside_flat, inside_is}
use Rattle.sgx_rules.specs.Rules.{NoPageTwice}
use Rattle.sgx_types.specs.declared.names.Page.{Page}
use Rattle.sgx_types.proofs.Truths.{apart}

-- a row for those inside alone
pub inside_by : (b b' : Bool) → b ≡ b' → first_of_row (inside_row b) ≡ None → first_of_row (inside_row b') ≡ None
inside_by b b' e h = rw (← e) h

pub is_inside_there : (b : Bool) → first_of_row (inside_row b) ≡ None → b ≡ true
is_inside_there true h = refl
is_inside_there false h = cc

pub sound-exit : (s : State) (p : ℕ) → IsSound s → IsSound (after_exit s p)
sound-exit s p sound = sound-left s p s.words sound (λ q seat other is. refl) sound.sized

-- a processor of flat memory that leaves
cpus_left : (s : State) (past : List Entry) (m : FlatMemory) (p : ℕ) → ((q : ℕ) → m.cpus q ≡ cpu_shown s past q)
    → (q : ℕ) → (let c : FlatCpu = cond (p == q) (record (m.cpus q) { inside = None }) (m.cpus q) in c) ≡ record
    { inside = inside_of_stay (cond (p == q) None (stay past q)); acc = s.acc q }
cpus_left s past m p cpus q = by_cpu (p == q)
  where
    by_cpu : (b : Bool) → (let c : FlatCpu = cond b (record (m.cpus q) { inside = None }) (m.cpus q) in c) ≡ record
        { inside = inside_of_stay (cond b None (stay past q)); acc = s.acc q }
    by_cpu true = λ i. record (cpus q i) { inside = None }
    by_cpu false = cpus q

-- .. and the TCS page by which it was inside
busy_left : (s : State) (past : List Entry) (m : FlatMemory) (p : ℕ)
    → ((g : Page) → is_seated_by (s.inside p) g ≡ is_inside_by (m.cpus p).inside g) → enclaves_seen s ≡ enclaves_flat m
    → enclaves_seen (after_exit s p) ≡ enclaves_flat (left m p)
busy_left s past m p seated h = λ i. record (h i) { is_busy = λ g. cond (seated g i) false ((h i).is_busy g) }

pub exit_brings : (s : State) (past : List Entry) (p : Cpu) → p.0 < 16 → first_of_row (row_of s (actors.Cpu p) Exit) ≡ None → Stands s past
    → BringsDone s (after_exit s p.0) past (actors.Cpu p) Exit Plain
exit_brings s past p low allowed stands = record {
  form = refl;
  taken = rw (lt-ltb p.0 16 low, inside_by _ _ (mode_in_flat s past stands p.0) allowed) refl;
  same = λ seen. refl;
  measure = tt;
  memory = record {
    enclaves = busy_left s past (flat past) p.0 (seated_in_flat s past stands p.0) stands.memory.enclaves;
    cpus = cpus_left s past (flat past) p.0 stands.memory.cpus;
    words = stands.memory.words;
    measure = stands.memory.measure;
  };
}

-- ---- aex

-- the accumulator in the first word of the state save frame
abbrev pub with_word : ℕ → List ℕ → List ℕ
with_word acc words = set words 0 acc

-- the words of the frames, with the accumulator saved and one state save frame more in use
abbrev pub saved_words : State → ℕ → Seat → ℕ → List ℕ
saved_words s acc seat =
    rewritten (rewritten s.words seat.ssa_frame (with_word acc)) seat.tcs_frame (λ words. with_cssa words (cssa_in s seat.tcs_frame + 1))

-- what an asynchronous exit leaves where the processor is seated so
pub aex_state : (s : State) (p : ℕ) (seat : Seat) → s.inside p ≡ Some seat
    → after_aex s p ≡ record (after_exit s p) { words = saved_words s (s.acc p) seat }
aex_state s p seat is = ap (λ o. after_exit (with_saved s (s.acc p) o) p) is

-- another processor's TCS frame is neither of the two frames
other_frames : (s : State) (p q : ℕ) (mine seat : Seat) → IsSound s → (p == q) ≡ false → s.inside p ≡ Some mine → s.inside q ≡ Some seat
    → ((mine.ssa_frame == seat.tcs_frame) ≡ false) × ((mine.tcs_frame == seat.tcs_frame) ≡ false)
other_frames s p q mine seat sound other is_mine is =
    let h = seat_at s sound p mine is_mine in
    let k = seat_at s sound q seat is in (
      apart mine.ssa_frame seat.tcs_frame (λ same. tcs_no_reg (s.content seat.tcs_frame) k.tcs_kind (rw same at h.ssa_kind)),
      apart mine.tcs_frame seat.tcs_frame
          (λ same.
          let pages = one_named (s.content seat.tcs_frame) _ _ (rw same at h.tcs_page) k.tcs_page in
          let one = sound.apart p q mine seat is_mine is pages in
          false≢true (sym other ∙ equal p q one)),
    )

pub sound-aex : (s : State) (p : ℕ) (seat : Seat) → s.inside p ≡ Some seat → IsSound s → IsSound (after_aex s p)
sound-aex s p seat is sound =
    rw (aex_state s p seat is)
    (sound-left s p (saved_words s (s.acc p) seat) sound
    (λ q other apart_from is_other. let k = other_frames s p q seat other sound apart_from is is_other in rw (k.0, k.1) refl)
    (sized-rewritten (rewritten s.words seat.ssa_frame (with_word (s.acc p))) seat.tcs_frame
    (λ words. with_cssa words (cssa_in s seat.tcs_frame + 1))
    (sized-rewritten s.words seat.ssa_frame (with_word (s.acc p)) sound.sized (λ words. length-set words 0 _))
    (λ words. length-with_cssa words _)))

pub aex_brings : (s : State) (past : List Entry) (p : Cpu) (cause : Cause) → p.0 < 16
    → first_of_row (row_of s (actors.Cpu p) (Aex cause)) ≡ None → IsSound s → Stands s past → NoPageTwice past
    → BringsDone s (after_aex s p.0) past (actors.Cpu p) (Aex cause) Plain
aex_brings s past p cause low allowed sound stands no_page_twice = record {
  form = refl;
  taken = rw (lt-ltb p.0 16 low, inside_by _ _ (mode_in_flat s past stands p.0) allowed) refl;
  same = λ seen. refl;
  measure = tt;
  memory = by_mode (s.inside p.0) refl (is_inside_there _ allowed);
}
  where
    m : FlatMemory
    m = flat past

    seated : (seat : Seat) → s.inside p.0 ≡ Some seat → (st : Stay) → stay past p.0 ≡ Some st → st.seat ≡ seat
        → Shows (after_aex s p.0) (did_by (actors.Cpu p) (Aex cause) Plain ∷ past) (memory_after (actors.Cpu p) (Aex cause) m)
    seated seat is st there same_seat =
        let k = seat_at s sound p.0 seat is in
        let g = page_at seat.enclave seat.tcs in
        let tcs_held = tcs_there (s.content seat.tcs_frame) g k.tcs_page k.tcs_kind in
        let tcs_flat = stands.memory.words seat.tcs_frame g kinds.Tcs tcs_held.perm tcs_held.holds in
        let fields : tcs_fields (s.words seat.tcs_frame) ≡ fields_in m seat.enclave seat.tcs =
        ap (λ x. tcs_fields (flat_page_words x)) (sym tcs_flat) in
        let save = next_save seat.enclave (tcs_fields (s.words seat.tcs_frame)) in
        let i : Inside = record { enclave = seat.enclave; tcs = seat.tcs } in
        let inside : (m.cpus p.0).inside ≡ Some i = inside_flat stands p.0 ∙ ap inside_of_stay there
        ∙ ap (λ (x : Seat). Some (let y : Inside = record { enclave = x.enclave; tcs = x.tcs } in y)) same_seat in
        let count : List ℕ → List ℕ = λ words. with_cssa words (cssa_in s seat.tcs_frame + 1) in
        let first = with_words m save (with_word (s.acc p.0)) in
        let changed = with_words first g count in
        let by_fields : saved m (s.acc p.0) (Some i) ≡ changed =
        ap (λ (f : TcsSight). with_words (with_words m (next_save seat.enclave f) (with_word (s.acc p.0))) g
        (λ words. with_cssa words (f.cssa + 1))) (sym fields) in
        let after : memory_after (actors.Cpu p) (Aex cause) m ≡ left changed p.0 =
        ap (λ o. left (saved m (m.cpus p.0).acc o) p.0) inside ∙ ap (λ a. left (saved m a (Some i)) p.0) (acc_flat stands p.0)
        ∙ ap (λ x. left x p.0) by_fields in
        let once = once_in_state s past stands no_page_twice in
        let saving : State = record s { words = rewritten s.words seat.ssa_frame (with_word (s.acc p.0)) } in
        let shown = shows_changed saving past first seat.tcs_frame g count
        (shows_changed s past m seat.ssa_frame save (with_word (s.acc p.0)) stands.memory once k.ssa_page) once k.tcs_page in
        rw (aex_state s p.0 seat is, after) (record {
          enclaves = busy_left (record s { words = saved_words s (s.acc p.0) seat }) past changed p.0 (seated_in_flat s past stands p.0)
              shown.enclaves;
          cpus = cpus_left s past changed p.0 shown.cpus;
          words = shown.words;
          measure = shown.measure;
        })

    by_stay : (seat : Seat) → s.inside p.0 ≡ Some seat → (o : Option Stay) → stay past p.0 ≡ o
        → Shows (after_aex s p.0) (did_by (actors.Cpu p) (Aex cause) Plain ∷ past) (memory_after (actors.Cpu p) (Aex cause) m)
    by_stay seat is None there = absurd (let at = inside_is stands.columns p.0 in
        let none : seat_of_stay (stay past p.0) ≡ None = ap seat_of_stay there in cc (at, none, is))
    by_stay seat is (Some st) there =
        let at = inside_is stands.columns p.0 in
        let some : seat_of_stay (stay past p.0) ≡ Some st.seat = ap seat_of_stay there in
        let same : st.seat ≡ seat = cc (at, some, is) in
        seated seat is st there same

    by_mode : (o : Option Seat) → s.inside p.0 ≡ o → is_some (s.inside p.0) ≡ true
        → Shows (after_aex s p.0) (did_by (actors.Cpu p) (Aex cause) Plain ∷ past) (memory_after (actors.Cpu p) (Aex cause) m)
    by_mode None is inside = absurd (let none : is_some (s.inside p.0) ≡ false = ap is_some is in cc (none, inside))
    by_mode (Some seat) is inside = by_stay seat is (stay past p.0) refl
