-- What each instruction leaves of the pages that are outside.
use Rattle.std.proofs.Common.{◌≡◌, ℕ, ◌+◌, ◌-◌, ◌/◌, ◌==◌, ◌⊎◌, length, inl, inr, Bool, true, false, cond, refl, sym}
use Rattle.std.proofs.Common.{ap, subst, ◌∙◌, Option, Some, None, MatchOption, List, ◌∷◌, set}
use Rattle.std.specs.List.{Any}
use Rattle.std.proofs.lemmas.Bool.{cond_both, eqb-true}
use Rattle.sgx_rules.specs.declared.entries.Entry.{Entry}
use Rattle.sgx_types.specs.declared.names.Actor.{Actor}
use Rattle.sgx_types.specs.declared.names.Actor.TheVariants as actors
use Rattle.sgx_rules.specs.declared.entries.Action.{Action}
use Rattle.sgx_rules.specs.declared.entries.Action.TheVariants.{Epa, Create, Add, Extend, Init, Enter, Resume, Exit, Aex, Fill}
use Rattle.sgx_rules.specs.declared.entries.Action.TheVariants.{Load, Store}
use Rattle.sgx_rules.specs.declared.entries.Action.TheVariants.{Xadd, Set, Plus, Pf, OutLoad, OutStore, Block, Track, EwbStart}
use Rattle.sgx_rules.specs.declared.entries.Action.TheVariants.{Ewb}
use Rattle.sgx_rules.specs.declared.entries.Action.TheVariants.{EldStart, Eld}
use Rattle.sgx_rules.specs.declared.entries.Answer.{Answer}
use Rattle.sgx_rules.specs.declared.entries.Answer.TheVariants as answers
use Rattle.sgx_types.specs.declared.lawful.PageInit.{PageInit}
use Rattle.sgx_types.specs.declared.names.Cpu.{Cpu}
use Rattle.sgx_types.specs.declared.names.Frame.{Frame}
use Rattle.sgx_types.specs.declared.names.Kind.{Kind}
use Rattle.sgx_types.specs.declared.names.Kind.TheVariants as kinds
use Rattle.sgx_types.specs.declared.names.Page.{Page}
use Rattle.sgx_types.specs.declared.names.Perm.{Perm}
use Rattle.sgx_types.specs.declared.names.VaSlot.{VaSlot}
use Rattle.sgx_rules.specs.declared.refusals.Refusal.{Refusal}
use Rattle.sgx_rules.specs.declared.refusals.Refusal.TheVariants as why
use Rattle.sgx_types.specs.declared.names.TheConstants.{SECS_NUMBER}
use Rattle.sgx_types.specs.Pages.{is_own_page, is_va_page, page_at, same_page, secs_page, va_page}
use Rattle.sgx_rules.specs.Frames.{Holds, content, is_page, vas_made}
use Rattle.sgx_rules.specs.PageBytes.{bytes_at, va_words}
use Rattle.sgx_rules.specs.Processors.{Stay, stay}
use Rattle.sgx_types.specs.Cases.{first_of_row}
use Rattle.sgx_rules.specs.Table.{TcsSight, allows_update, allows_write}
use Rattle.sgx_rules.specs.Flat.{FlatMemory, accepts, fields_in, flat, memory_after, flat_page_words, saved, stored, sum_of}
use Rattle.sgx_rules.specs.Flat.{tcs_fields}
use Rattle.sgx_rules.specs.Flat.{with_cssa, with_words, word_seen, words_of}
use Rattle.sgx_rules.specs.Sights.{seat_of}
use Rattle.sgx_rules.proofs.Contents.{own_there}
use Rattle.sgx_types.proofs.Truths.{not_false}
use Rattle.sgx_types.proofs.Pages.{same_page-at, same_pages}
use Rattle.sgx_types.specs.Layouts.{bytes_of}
use Rattle.seal_record.specs.Cipher.{cipher}
use Rattle.seal_record.specs.Records.{Made}
use Rattle.epcm_entry.specs.inner.Words.{words_of as words_in}
use Rattle.machine_copies.specs.inner.Away.{BytesRest}
use Rattle.machine_copies.specs.inner.Copies.{Copy, InFrame, InSlot, OneLiveCopy, copy}
use Rattle.seal_record.specs.Sealing.{SealedRule}
use Rattle.seal_record.specs.inner.Sealing.{made_by}
use Rattle.machine_laws.specs.inner.Histories.{HasBytes, OutsideBytes}
use Rattle.machine_laws.specs.inner.Stands.{IsSound, Stands, inside_of_stay, next_save}
use Rattle.machine_laws.specs.inner.State.{State, enter_sight, row_of, after_init}
use Rattle.machine_laws.specs.inner.Steps.{CanApply, IsDone, IsJudged, IsStep, did_by, refused_by}
use Rattle.measure_log.specs.Rule.{IsExpected, IsOther}
use Rattle.machine_laws.proofs.AccessLaws.{Reads, access_allowed}
use Rattle.machine_laws.proofs.Contents.{tcs_there}
use Rattle.machine_laws.proofs.EntryLaws.{enters, resume_saved, resume_saves}
use Rattle.machine_laws.specs.inner.Columns.{seat_of_stay}
use Rattle.machine_laws.proofs.ColumnLaws.{content_is, inside_flat, inside_is}
use Rattle.machine_laws.proofs.SoundLaws.{seat_at}
use Rattle.machine_laws.proofs.FitLaws.{own_names}

-- ---- entries that make no record

-- the commit of a write-out, and no other instruction
abbrev pub is_ewb : Action → Bool
is_ewb (Ewb f) = true
is_ewb _ = false

-- an entry makes no record, brings no page outside, and leaves the words of those that are there
pub record KeepsOutside (past : List Entry) (e : Entry) : Type 0 where
  pub made : (key : List ℕ) → made_by key (e ∷ past) ≡ made_by key past
  pub stays : (g : Page) (slot : VaSlot) (v : ℕ) → copy (e ∷ past) g ≡ Some (InSlot slot v) → copy past g ≡ Some (InSlot slot v)
  pub words : (g : Page) (slot : VaSlot) (v : ℕ) → copy (e ∷ past) g ≡ Some (InSlot slot v)
      → words_of (flat (e ∷ past)) g ≡ words_of (flat past) g

-- a TCS or REG page's bytes are those of its flat words
pub own_bytes : (past : List Entry) (g : Page) → is_own_page g ≡ true → bytes_at past g ≡ bytes_of (words_of (flat past) g)
own_bytes past g own =
    let names = own_names (g.enclave == 0) (g.number == SECS_NUMBER) own in
    rw (names.0, names.1) refl

-- a version array page that is out has its slots still
pub array_rests : (past : List Entry) (e : Entry) → BytesRest past e → (g : Page) (slot : VaSlot) (v : ℕ)
    → copy (e ∷ past) g ≡ Some (InSlot slot v) → is_va_page g ≡ true → va_words (e ∷ past) g.number ≡ va_words past g.number
array_rests past e rests g slot v there va =
    let name : va_page g.number ≡ g = λ i. record { enclave = sym (eqb-true g.enclave 0 va) i; number = g.number } in
    rests.slots g.number slot v (ap (copy (e ∷ past)) name ∙ there)

-- .. so that each record outside goes on to have its page's bytes, where the other pages' bytes rest
pub outside_more : (key : List ℕ) (past : List Entry) (e : Entry) → KeepsOutside past e → BytesRest past e → OutsideBytes key past
    → OutsideBytes key (e ∷ past)
outside_more key past e keeps rests outside g slot v there = still (outside g slot v (keeps.stays g slot v there))
  where
    flat_same : words_of (flat past) g ≡ words_of (flat (e ∷ past)) g
    flat_same = sym (keeps.words g slot v there)

    same : bytes_at past g ≡ bytes_at (e ∷ past) g
    same = by_kind (is_own_page g) refl
      where
        by_kind : (b : Bool) → is_own_page g ≡ b → bytes_at past g ≡ bytes_at (e ∷ past) g
        by_kind true own = own_bytes past g own ∙ ap bytes_of flat_same ∙ sym (own_bytes (e ∷ past) g own)
        by_kind false other = sym (rests.bytes g slot v other there)

    still : (one : Made) × HasBytes key past g v one → (one : Made) × HasBytes key (e ∷ past) g v one
    still (one, has) = (
      one,
      record {
        made = subst (λ all. Any (λ other. other ≡ one) all) (sym (keeps.made key)) has.made;
        version = has.version;
        cipher = has.cipher ∙ ap (cipher key v) same;
        size = ap (λ (bytes : List ℕ). length bytes) (sym same) ∙ has.size;
        back = record {
          array = λ va. ap words_in (sym same) ∙ has.back.array va ∙ sym (array_rests past e rests g slot v there va);
          own = λ own. ap words_in (sym same) ∙ has.back.own own ∙ flat_same;
        };
      },
    )

-- a refusal
pub refused_keeps : (past : List Entry) (a : Actor) (action : Action) (r : Refusal) → KeepsOutside past (refused_by a action r)
refused_keeps past a action r = record { made = λ key. refl; stays = λ g slot v there. there; words = λ g slot v there. refl }

-- a page that was put into a frame is not outside
pub not_framed : (b : Bool) (n : ℕ) (o : Option Copy) (slot : VaSlot) (v : ℕ) → cond b (Some (InFrame n)) o ≡ Some (InSlot slot v)
    → o ≡ Some (InSlot slot v)
not_framed true n o slot v there = cc
not_framed false n o slot v there = there

-- a done instruction, but for an `ewb`, brings no page outside
pub did_stays : (past : List Entry) (a : Actor) (action : Action) (answer : Answer) → is_ewb action ≡ false
    → (g : Page) (slot : VaSlot) (v : ℕ) → copy (did_by a action answer ∷ past) g ≡ Some (InSlot slot v)
    → copy past g ≡ Some (InSlot slot v)
did_stays past a (Ewb f) answer other g slot v there = cc
did_stays past a (Epa f) answer other g slot v there = not_framed (same_page (va_page (vas_made past)) g) f.0 (copy past g) slot v there
did_stays past a (Create enclave f base size) answer other g slot v there =
    not_framed (same_page (secs_page enclave) g) f.0 (copy past g) slot v there
did_stays past a (Add enclave number f kind perm init) answer other g slot v there =
    not_framed (same_page (page_at enclave number) g) f.0 (copy past g) slot v there
did_stays past a (Eld f) (answers.Moved page version tag) other g slot v there =
    not_framed (same_page page g) f.0 (copy past g) slot v there
did_stays past a action answer other g slot v there = there

-- it makes no record
pub did_made : (key : List ℕ) (past : List Entry) (a : Actor) (action : Action) (answer : Answer) → is_ewb action ≡ false
    → made_by key (did_by a action answer ∷ past) ≡ made_by key past
did_made key past a (Ewb f) answer other = cc
did_made key past a action answer other = refl

-- .. and the rule Sealed has nothing to say of it
pub did_sealed : (key : List ℕ) (past : List Entry) (a : Actor) (action : Action) (answer : Answer) → is_ewb action ≡ false
    → SealedRule key past (did_by a action answer)
did_sealed key past a (Ewb f) answer other = cc
did_sealed key past a action answer other = tt

-- a done instruction that leaves the words of the pages outside
pub did_keeps : (past : List Entry) (a : Actor) (action : Action) (answer : Answer) → is_ewb action ≡ false
    → ((g : Page) (slot : VaSlot) (v : ℕ) → copy (did_by a action answer ∷ past) g ≡ Some (InSlot slot v)
    → words_of (memory_after a action (flat past)) g ≡ words_of (flat past) g)
    → KeepsOutside past (did_by a action answer)
did_keeps past a action answer other words = record {
  made = λ key. did_made key past a action answer other;
  stays = λ g slot v there. did_stays past a action answer other g slot v there;
  words = λ g slot v there.
      cond_both (accepts (flat past) a action) (memory_after a action (flat past)) (flat past) (λ m. words_of m g ≡ words_of (flat past) g)
      (λ taken. words g slot v there) (λ not_taken. refl);
}

-- ---- pages in frames

-- a page in a frame is none that is outside
pub framed_apart : (past : List Entry) → OneLiveCopy past → (n : ℕ) (q g : Page) (slot : VaSlot) (v : ℕ) → is_page (content past n) q ≡ true
    → copy past g ≡ Some (InSlot slot v) → same_page g q ≡ false
framed_apart past one n q g slot v framed there = by_test (same_page g q) refl
  where
    by_test : (b : Bool) → same_page g q ≡ b → b ≡ false
    by_test false e = refl
    by_test true e =
        let same : g ≡ q = same_pages g q e in
        let here : copy past q ≡ Some (InFrame n) = one.framed n q (own_there (content past n) q framed) in
        let outside : copy past q ≡ Some (InSlot slot v) = ap (copy past) (sym same) ∙ there in
        absurd (cc (here, outside))

-- the words of another page
pub other_words : (m : FlatMemory) (q g : Page) (change : List ℕ → List ℕ) → same_page g q ≡ false
    → words_of (with_words m q change) g ≡ words_of m g
other_words m q g change other = rw other refl

-- ---- the rows that change words

-- a page that is added is in its frame
add_words : (past : List Entry) (a : Actor) (enclave number : ℕ) (f : Frame) (kind : Kind) (perm : Perm) (init : PageInit) (answer : Answer)
    (g : Page) (slot : VaSlot) (v : ℕ)
    → copy (did_by a (Add enclave number f kind perm init) answer ∷ past) g ≡ Some (InSlot slot v)
    → words_of (memory_after a (Add enclave number f kind perm init) (flat past)) g ≡ words_of (flat past) g
add_words past a enclave number f kind perm init answer g slot v there = by_test (same_page g (page_at enclave number)) refl
  where
    by_test : (b : Bool) → same_page g (page_at enclave number) ≡ b
        → words_of (memory_after a (Add enclave number f kind perm init) (flat past)) g ≡ words_of (flat past) g
    by_test false e = rw e refl
    by_test true e =
        let same : g ≡ page_at enclave number = same_pages g (page_at enclave number) e in
        let outside : cond (same_page (page_at enclave number) (page_at enclave number)) (Some (InFrame f.0)) (copy past g) ≡ Some
        (InSlot slot v) =
        ap (λ q. cond (same_page (page_at enclave number) q) (Some (InFrame f.0)) (copy past g)) (sym same) ∙ there in
        let framed : Some (InFrame f.0) ≡ Some (InSlot slot v) = rw (same_page-at enclave number) at outside in
        absurd (cc framed)

-- a word is written into the page of a translation, which is in a frame
stored_words : (s : State) (past : List Entry) (p off value : ℕ) → Stands s past → Reads s past p off → OneLiveCopy past
    → (g : Page) (slot : VaSlot) (v : ℕ) → copy past g ≡ Some (InSlot slot v)
    → words_of (stored (flat past) ((flat past).cpus p).inside off value) g ≡ words_of (flat past) g
stored_words s past p off value stands k one g slot v there =
    let m = flat past in
    let q = page_at k.seat.enclave (off / 4096) in
    let holds : content past k.found.frame.0 ≡ Holds q kinds.Reg k.found.perm = sym (content_is stands.columns k.found.frame.0) ∙ k.holds
    ∙ ap (λ n. Holds (page_at k.seat.enclave n) kinds.Reg k.found.perm) k.number in
    let framed : is_page (content past k.found.frame.0) q ≡ true = rw holds (same_page-at k.seat.enclave (off / 4096)) in
    ap (λ o. words_of (stored m o off value) g) k.flat_inside
    ∙ other_words m q g _ (framed_apart past one k.found.frame.0 q g slot v framed there)

-- a resumption counts in the TCS page, which is in a frame
resume_words : (s : State) (past : List Entry) (p : Cpu) (enclave tcs : ℕ) (tf sf : Frame) → Stands s past
    → first_of_row (row_of s (actors.Cpu p) (Resume enclave tcs tf sf)) ≡ None → OneLiveCopy past
    → (g : Page) (slot : VaSlot) (v : ℕ) → copy past g ≡ Some (InSlot slot v)
    → words_of (memory_after (actors.Cpu p) (Resume enclave tcs tf sf) (flat past)) g ≡ words_of (flat past) g
resume_words s past p enclave tcs tf sf stands allowed one g slot v there =
    let f = tcs_fields (s.words tf.0) in
    let k = enters enclave tcs (enter_sight s p.0 (seat_of enclave tcs tf.0 sf.0)) (resume_saves f) (resume_saved f) allowed in
    let framed : is_page (content past tf.0) (page_at enclave tcs) ≡ true =
    rw (← content_is stands.columns tf.0) (not_false _ k.tcs_page) in
    other_words (flat past) (page_at enclave tcs) g (λ words. with_cssa words ((fields_in (flat past) enclave tcs).cssa - 1))
    (framed_apart past one tf.0 (page_at enclave tcs) g slot v framed there)

-- an asynchronous exit writes the state save page and the TCS page, which are in the processor's frames
aex_words : (s : State) (past : List Entry) (p acc : ℕ) → IsSound s → Stands s past → OneLiveCopy past → (g : Page) (slot : VaSlot) (v : ℕ)
    → copy past g ≡ Some (InSlot slot v)
    → words_of (saved (flat past) acc ((flat past).cpus p).inside) g ≡ words_of (flat past) g
aex_words s past p acc sound stands one g slot v there = by_stay (stay past p) refl
  where
    by_stay : (o : Option Stay) → stay past p ≡ o → words_of (saved (flat past) acc ((flat past).cpus p).inside) g ≡ words_of (flat past) g
    by_stay None e = let inside : ((flat past).cpus p).inside ≡ None = inside_flat stands p ∙ ap inside_of_stay e in
        ap (λ o. words_of (saved (flat past) acc o) g) inside
    by_stay (Some st) e =
        let m = flat past in
        let seat = st.seat in
        let is : s.inside p ≡ Some seat = inside_is stands.columns p ∙ ap seat_of_stay e in
        let k = seat_at s sound p seat is in
        let q = page_at seat.enclave seat.tcs in
        let inside : (m.cpus p).inside ≡ Some (record { enclave = seat.enclave; tcs = seat.tcs }) = inside_flat stands p
        ∙ ap inside_of_stay e in
        let tcs_held = tcs_there (s.content seat.tcs_frame) q k.tcs_page k.tcs_kind in
        let tcs_flat = stands.memory.words seat.tcs_frame q kinds.Tcs tcs_held.perm tcs_held.holds in
        let fields : tcs_fields (s.words seat.tcs_frame) ≡ fields_in m seat.enclave seat.tcs =
        ap (λ x. tcs_fields (flat_page_words x)) (sym tcs_flat) in
        let save = next_save seat.enclave (fields_in m seat.enclave seat.tcs) in
        let tcs_framed : is_page (content past seat.tcs_frame) q ≡ true = rw (← content_is stands.columns seat.tcs_frame) k.tcs_page in
        let ssa_framed : is_page (content past seat.ssa_frame) save ≡ true =
        subst (λ (x : TcsSight). is_page (content past seat.ssa_frame) (next_save seat.enclave x) ≡ true) fields
        (rw (← content_is stands.columns seat.ssa_frame) k.ssa_page) in
        let first = with_words m save (λ words. set words 0 acc) in
        ap (λ o. words_of (saved m acc o) g) inside
        ∙ other_words first q g (λ words. with_cssa words ((fields_in m seat.enclave seat.tcs).cssa + 1))
        (framed_apart past one seat.tcs_frame q g slot v tcs_framed there)
        ∙ other_words m save g (λ words. set words 0 acc) (framed_apart past one seat.ssa_frame save g slot v ssa_framed there)

-- ---- every step

-- an entry under another name
pub keeps_as : (past : List Entry) (e e' : Entry) → e ≡ e' → KeepsOutside past e' → KeepsOutside past e
keeps_as past e e' same k = subst (λ x. KeepsOutside past x) (sym same) k

-- a row allows an instruction, or refuses it, which keeps what is outside
keeps_cases : (o : Option Refusal) (Done : Type 0) (s t : State) (past : List Entry) (e : Entry) (a : Actor) (action : Action)
    → (o ≡ None → Done → KeepsOutside past e) → MatchOption o Done (λ r. (e ≡ refused_by a action r) × (t ≡ s)) → KeepsOutside past e
keeps_cases None Done s t past e a action f k = f refl k
keeps_cases (Some r) Done s t past e a action f k = keeps_as past e _ k.0 (refused_keeps past a action r)

-- the measurement decides an `init`
judged_keeps : (s t : State) (past : List Entry) (a : Actor) (enclave : ℕ) (expect : Option (List ℕ)) (e : Entry)
    → IsJudged s a enclave expect e t → KeepsOutside past e
judged_keeps s t past a enclave expect e done = by_judgement done.judged
  where
    by_judgement : (IsExpected expect done.digest × (e ≡ did_by a (Init enclave expect) (answers.Hash done.digest))
        × (t ≡ after_init s enclave)) ⊎ (IsOther expect done.digest × (e ≡ refused_by a (Init enclave expect) (why.BadMeasure done.digest))
        × (t ≡ s))
        → KeepsOutside past e
    by_judgement (inl is) =
        keeps_as past e _ is.1 (did_keeps past a (Init enclave expect) (answers.Hash done.digest) refl (λ g slot v there. refl))
    by_judgement (inr other) = keeps_as past e _ other.1 (refused_keeps past a (Init enclave expect) (why.BadMeasure done.digest))

-- each instruction that can be applied
pub step_keeps : (s t : State) (past : List Entry) (cpus : ℕ) (a : Actor) (action : Action) (e : Entry) → CanApply cpus a action → IsSound s
    → IsStep s a action e t → Stands s past → OneLiveCopy past
    → KeepsOutside past e
step_keeps s t past cpus a (Epa f) e can sound k stands one =
    keeps_cases _ (IsDone s a (Epa f) e t) s t past e a (Epa f)
    (λ allowed done. keeps_as past e _ done.0 (did_keeps past a (Epa f) _ refl (λ g slot v there. refl))) k
step_keeps s t past cpus a (Create enclave f base size) e can sound k stands one =
    keeps_cases _ (IsDone s a (Create enclave f base size) e t) s t past e a (Create enclave f base size)
    (λ allowed done. keeps_as past e _ done.0 (did_keeps past a (Create enclave f base size) _ refl (λ g slot v there. refl))) k
step_keeps s t past cpus a (Add enclave number f kind perm init) e can sound k stands one =
    keeps_cases _ (IsDone s a (Add enclave number f kind perm init) e t) s t past e a (Add enclave number f kind perm init)
    (λ allowed done.
    keeps_as past e _ done.0
    (did_keeps past a (Add enclave number f kind perm init) answers.Plain refl
    (λ g slot v there. add_words past a enclave number f kind perm init answers.Plain g slot v there))) k
step_keeps s t past cpus a (Extend f chunk) e can sound k stands one =
    keeps_cases _ (IsDone s a (Extend f chunk) e t) s t past e a (Extend f chunk)
    (λ allowed done. keeps_as past e _ done.0 (did_keeps past a (Extend f chunk) _ refl (λ g slot v there. refl))) k
step_keeps s t past cpus a (Init enclave expect) e can sound k stands one =
    keeps_cases _ (IsDone s a (Init enclave expect) e t) s t past e a (Init enclave expect)
    (λ allowed done. judged_keeps s t past a enclave expect e done) k
step_keeps s t past cpus a (Block f) e can sound k stands one =
    keeps_cases _ (IsDone s a (Block f) e t) s t past e a (Block f)
    (λ allowed done. keeps_as past e _ done.0 (did_keeps past a (Block f) _ refl (λ g slot v there. refl))) k
step_keeps s t past cpus a (Track enclave) e can sound k stands one =
    keeps_cases _ (IsDone s a (Track enclave) e t) s t past e a (Track enclave)
    (λ allowed done. keeps_as past e _ done.0 (did_keeps past a (Track enclave) _ refl (λ g slot v there. refl))) k
step_keeps s t past cpus a (EwbStart f slot) e can sound k stands one =
    keeps_cases _ (IsDone s a (EwbStart f slot) e t) s t past e a (EwbStart f slot)
    (λ allowed done. keeps_as past e _ done.0 (did_keeps past a (EwbStart f slot) _ refl (λ g at v there. refl))) k
step_keeps s t past cpus a (EldStart f page slot) e can sound k stands one =
    keeps_cases _ (IsDone s a (EldStart f page slot) e t) s t past e a (EldStart f page slot)
    (λ allowed done. keeps_as past e _ done.0 (did_keeps past a (EldStart f page slot) _ refl (λ g at v there. refl))) k
step_keeps s t past cpus (actors.Cpu p) (Enter enclave tcs tf sf) e can sound k stands one =
    keeps_cases _ (IsDone s (actors.Cpu p) (Enter enclave tcs tf sf) e t) s t past e (actors.Cpu p) (Enter enclave tcs tf sf)
    (λ allowed done. keeps_as past e _ done.0 (did_keeps past (actors.Cpu p) (Enter enclave tcs tf sf) _ refl (λ g slot v there. refl))) k
step_keeps s t past cpus (actors.Cpu p) (Resume enclave tcs tf sf) e can sound k stands one =
    keeps_cases _ (IsDone s (actors.Cpu p) (Resume enclave tcs tf sf) e t) s t past e (actors.Cpu p) (Resume enclave tcs tf sf)
    (λ allowed done.
    keeps_as past e _ done.0
    (did_keeps past (actors.Cpu p) (Resume enclave tcs tf sf) _ refl
    (λ g slot v there. resume_words s past p enclave tcs tf sf stands allowed one g slot v there))) k
step_keeps s t past cpus (actors.Cpu p) Exit e can sound k stands one =
    keeps_cases _ (IsDone s (actors.Cpu p) Exit e t) s t past e (actors.Cpu p) Exit
    (λ allowed done. keeps_as past e _ done.0 (did_keeps past (actors.Cpu p) Exit _ refl (λ g slot v there. refl))) k
step_keeps s t past cpus (actors.Cpu p) (Aex cause) e can sound k stands one =
    keeps_cases _ (IsDone s (actors.Cpu p) (Aex cause) e t) s t past e (actors.Cpu p) (Aex cause)
    (λ allowed done.
    keeps_as past e _ done.0
    (did_keeps past (actors.Cpu p) (Aex cause) _ refl
    (λ g slot v there. aex_words s past p.0 ((flat past).cpus p.0).acc sound stands one g slot v there))) k
step_keeps s t past cpus (actors.Cpu p) (Fill number f) e can sound k stands one =
    keeps_cases _ (IsDone s (actors.Cpu p) (Fill number f) e t) s t past e (actors.Cpu p) (Fill number f)
    (λ allowed done. keeps_as past e _ done.0 (did_keeps past (actors.Cpu p) (Fill number f) _ refl (λ g slot v there. refl))) k
step_keeps s t past cpus (actors.Cpu p) (Load off) e can sound k stands one =
    keeps_cases _ (IsDone s (actors.Cpu p) (Load off) e t) s t past e (actors.Cpu p) (Load off)
    (λ allowed done. keeps_as past e _ done.0 (did_keeps past (actors.Cpu p) (Load off) _ refl (λ g slot v there. refl))) k
step_keeps s t past cpus (actors.Cpu p) (Store off value) e can sound k stands one =
    keeps_cases _ (IsDone s (actors.Cpu p) (Store off value) e t) s t past e (actors.Cpu p) (Store off value)
    (λ allowed done.
    keeps_as past e _ done.0
    (did_keeps past (actors.Cpu p) (Store off value) _ refl
    (λ g slot v there. stored_words s past p.0 off value stands (access_allowed s past p.0 off allows_write sound stands allowed).reads one
    g slot v there))) k
step_keeps s t past cpus (actors.Cpu p) (Xadd off value) e can sound k stands one =
    keeps_cases _ (IsDone s (actors.Cpu p) (Xadd off value) e t) s t past e (actors.Cpu p) (Xadd off value)
    (λ allowed done.
    keeps_as past e _ done.0
    (did_keeps past (actors.Cpu p) (Xadd off value) _ refl
    (λ g slot v there.
    stored_words s past p.0 off (sum_of (word_seen (flat past) ((flat past).cpus p.0).inside off) value) stands
    (access_allowed s past p.0 off allows_update sound stands allowed).reads one g slot v there))) k
step_keeps s t past cpus (actors.Cpu p) (Set value) e can sound k stands one =
    keeps_cases _ (IsDone s (actors.Cpu p) (Set value) e t) s t past e (actors.Cpu p) (Set value)
    (λ allowed done. keeps_as past e _ done.0 (did_keeps past (actors.Cpu p) (Set value) _ refl (λ g slot v there. refl))) k
step_keeps s t past cpus (actors.Cpu p) (Plus value) e can sound k stands one =
    keeps_cases _ (IsDone s (actors.Cpu p) (Plus value) e t) s t past e (actors.Cpu p) (Plus value)
    (λ allowed done. keeps_as past e _ done.0 (did_keeps past (actors.Cpu p) (Plus value) _ refl (λ g slot v there. refl))) k
step_keeps s t past cpus (actors.Cpu p) (Pf op off) e can sound k stands one =
    keeps_cases _ (IsDone s (actors.Cpu p) (Pf op off) e t) s t past e (actors.Cpu p) (Pf op off)
    (λ allowed done. keeps_as past e _ done.0 (did_keeps past (actors.Cpu p) (Pf op off) _ refl (λ g slot v there. refl))) k
step_keeps s t past cpus (actors.Cpu p) (OutLoad enclave off) e can sound k stands one =
    keeps_cases _ (IsDone s (actors.Cpu p) (OutLoad enclave off) e t) s t past e (actors.Cpu p) (OutLoad enclave off)
    (λ allowed done. keeps_as past e _ done.0 (did_keeps past (actors.Cpu p) (OutLoad enclave off) _ refl (λ g slot v there. refl))) k
step_keeps s t past cpus (actors.Cpu p) (OutStore enclave off value) e can sound k stands one =
    keeps_cases _ (IsDone s (actors.Cpu p) (OutStore enclave off value) e t) s t past e (actors.Cpu p) (OutStore enclave off value)
    (λ allowed done. keeps_as past e _ done.0 (did_keeps past (actors.Cpu p) (OutStore enclave off value) _ refl (λ g slot v there. refl)))
    k
step_keeps s t past cpus a action e can sound k stands one = absurd can
