-- The instructions that move pages: what each brings where it is done, and each commit.
use Rattle.std.proofs.Common.{◌≡◌, ℕ, ◌<◌, ◌==◌, ◌&&◌, not, Bool, true, false, cond, refl, sym, ap, ◌∙◌, Option, Some, None}
use Rattle.std.proofs.Common.{MatchOption, is_some, List}
use Rattle.std.proofs.lemmas.Option.{same_Some}
use Rattle.sgx_rules.specs.declared.entries.Entry.{Entry}
use Rattle.sgx_types.specs.declared.names.Actor.{Actor}
use Rattle.sgx_rules.specs.declared.entries.Action.TheVariants.{Block, Track, EwbStart, Ewb, EldStart, Eld}
use Rattle.sgx_rules.specs.declared.entries.Answer.TheVariants as answers
use Rattle.sgx_types.specs.declared.names.Frame.{Frame}
use Rattle.sgx_types.specs.declared.names.Kind.{Kind}
use Rattle.sgx_types.specs.declared.names.Page.{Page}
use Rattle.sgx_types.specs.declared.names.Perm.{Perm}
use Rattle.sgx_rules.specs.declared.refusals.Refusal.{Refusal}
use Rattle.sgx_rules.specs.Flat.{FlatMemory, FlatPage, added_as, flat, flat_page_words}
use Rattle.sgx_rules.specs.Flat as flats
use Rattle.sgx_types.specs.declared.names.TheConstants.{SECS_NUMBER}
use Rattle.sgx_types.specs.Pages.{is_own_page}
use Rattle.sgx_rules.specs.Frames.{Content, Free, Holds, IsLoading, IsVa, SecsOf, reloaded, reloaded_as}
use Rattle.sgx_types.specs.Sealed.{Sealed}
use Rattle.sgx_rules.specs.inner.Starts.{BareStart}
use Rattle.sgx_types.specs.Cases.{first_of_row}
use Rattle.sgx_rules.specs.Table.{SlotSight, is_own}
use Rattle.epcm_entry.specs.inner.Words.{words_of, zero_words}
use Rattle.seal_record.specs.Cipher.{cipher}
use Rattle.machine_laws.specs.inner.Stands.{Stands, StandsWithRules, HasWords}
use Rattle.machine_laws.specs.inner.State.{State, row_of, after_block, after_eldstart, after_ewb, after_ewbstart, after_track}
use Rattle.machine_laws.specs.inner.State.{version_at}
use Rattle.machine_laws.specs.inner.Steps.{IsComing, IsReloaded, IsWrittenOut, commit_row}
use Rattle.machine_laws.proofs.FrameLaws.{open_below}
use Rattle.machine_laws.specs.inner.Guarded.{IsGuarded}
use Rattle.machine_laws.proofs.MoveEnds.{IsDoneBack, IsRefusedBack, ends_back, ends_out, ends_refused}
use Rattle.machine_laws.proofs.BuildLaws.{words_put}
use Rattle.machine_laws.proofs.NextEntry.{Brings, BringsDone, done_brings, brings_as}
use Rattle.machine_laws.proofs.ColumnLaws.{added_flat}
use Rattle.machine_laws.proofs.GuardMoves.{starts_in}
use Rattle.machine_laws.proofs.MoveSights.{slot_sees}
use Rattle.machine_laws.proofs.SlotLaws.{busy_is, started_as}
use Rattle.sgx_types.specs.declared.names.SlotAt.{SlotAt}

-- ---- what flat memory does not see

-- a page is blocked
pub block_brings : (s : State) (past : List Entry) (a : Actor) (f : Frame) → first_of_row (row_of s a (Block f)) ≡ None → Stands s past
    → BringsDone s (after_block s f.0) past a (Block f) answers.Plain
block_brings s past a f allowed stands = record {
  form = refl;
  taken = refl;
  same = λ seen. cc seen;
  measure = tt;
  memory = record {
    enclaves = stands.memory.enclaves;
    cpus = stands.memory.cpus;
    words = stands.memory.words;
    measure = stands.memory.measure;
  };
}

-- an enclave is tracked
pub track_brings : (s : State) (past : List Entry) (a : Actor) (enclave : ℕ) → Stands s past
    → BringsDone s (after_track s enclave) past a (Track enclave) answers.Plain
track_brings s past a enclave stands = record {
  form = refl;
  taken = refl;
  same = λ seen. cc seen;
  measure = tt;
  memory = record {
    enclaves = stands.memory.enclaves;
    cpus = stands.memory.cpus;
    words = stands.memory.words;
    measure = stands.memory.measure;
  };
}

-- a page starts to go out
pub ewbstart_brings : (s : State) (past : List Entry) (a : Actor) (f : Frame) (slot : SlotAt)
    → first_of_row (row_of s a (EwbStart f slot)) ≡ None → Stands s past
    → BringsDone s (after_ewbstart s f.0 slot) past a (EwbStart f slot) (answers.Version s.next_version)
ewbstart_brings s past a f slot allowed stands = record {
  form = (s.next_version, refl);
  taken = refl;
  same = λ seen. cc seen;
  measure = tt;
  memory = record {
    enclaves = stands.memory.enclaves;
    cpus = stands.memory.cpus;
    words = stands.memory.words;
    measure = stands.memory.measure;
  };
}

-- a page starts to come back: its frame holds none yet
pub eldstart_brings : (s : State) (past : List Entry) (a : Actor) (f : Frame) (page : Page) (slot : SlotAt)
    → first_of_row (row_of s a (EldStart f page slot)) ≡ None → IsGuarded s → Stands s past
    → BringsDone s (after_eldstart s f.0 page slot) past a (EldStart f page slot) (answers.Version (version_at s slot))
eldstart_brings s past a f page slot allowed guarded stands = record {
  form = ap (λ (x : SlotSight). answers.Version x.version)
      (slot_sees s past stands.columns stands.versions (busy_is s past stands.columns guarded) slot
      (starts_in s f.0 page slot allowed).within);
  taken = refl;
  same = λ seen. cc seen;
  measure = tt;
  memory = record {
    enclaves = stands.memory.enclaves;
    cpus = stands.memory.cpus;
    words = words_put s.content s.words (flat past) f.0 (IsLoading page) (λ g kind perm at. cc at) stands.memory.words;
    measure = stands.memory.measure;
  };
}

-- ---- the words of frames

-- one frame comes to hold this, a TCS or REG page with these words
put_words : (content : ℕ → Content) (words : ℕ → List ℕ) (m : FlatMemory) (f : ℕ) (c : Content) (put : List ℕ)
    → ((g : Page) (kind : Kind) (perm : Perm) → c ≡ Holds g kind perm → m.pages g ≡ Some (record { kind = kind; perm = perm; words = put }))
    → HasWords content words m
    → HasWords (λ n. cond (f == n) c (content n)) (λ n. cond (is_own c && (f == n)) put (words n)) m
put_words content words m f c put new h n g kind perm = by_test (f == n)
  where
    other : (b : Bool) → cond (b && false) put (words n) ≡ words n
    other true = refl
    other false = refl

    by_test : (b : Bool) → cond b c (content n) ≡ Holds g kind perm
        → m.pages g ≡ Some (record { kind = kind; perm = perm; words = cond (is_own c && b) put (words n) })
    by_test true held =
        new g kind perm held
        ∙ ap (λ x. Some (record { kind = kind; perm = perm; words = cond (is_own x && true) put (words n) })) (sym held)
    by_test false held =
        h n g kind perm held ∙ ap (λ ws. Some (record { kind = kind; perm = perm; words = ws })) (sym (other (is_own c)))

-- a page that is back as a TCS or REG page is one that was added so
pub back_own : (page : Page) (o : Option (Kind × Perm)) (g : Page) (kind : Kind) (perm : Perm) → reloaded page o ≡ Holds g kind perm
    → (is_own_page page ≡ true) × (o ≡ Some (kind, perm)) × (page ≡ g)
back_own page o g kind perm is = by_name (page.enclave == 0) refl (page.number == SECS_NUMBER) refl o is
  where
    by_name : (va : Bool) → (page.enclave == 0) ≡ va → (last : Bool) → (page.number == SECS_NUMBER) ≡ last → (o : Option (Kind × Perm))
        → cond va (IsVa page.number) (cond (not va && last) (SecsOf page.enclave) (reloaded_as page o)) ≡ Holds g kind perm
        → (is_own_page page ≡ true) × (o ≡ Some (kind, perm)) × (page ≡ g)
    by_name true e last d o is = cc is
    by_name false e true d o is = cc is
    by_name false e false d None is = cc is
    by_name false e false d (Some x) is =
        let one : page ≡ g = cc is in
        let alike : x.0 ≡ kind = cc is in
        let allowed : x.1 ≡ perm = cc is in
        (rw (e, d) refl, λ i. Some (alike i, allowed i), one)

-- a page that is back has the words with which flat memory has it
back_words : (pages : Page → Option FlatPage) (page : Page) (kind : Kind) (perm : Perm) (words : List ℕ)
    → added_as (pages page) ≡ Some (kind, perm) → words ≡ flat_page_words (pages page)
    → (g : Page) (kind' : Kind) (perm' : Perm) → Holds page kind perm ≡ Holds g kind' perm'
    → pages g ≡ Some (record { kind = kind'; perm = perm'; words = words })
back_words pages page kind perm words added same g kind' perm' e = as_held (by_page (pages page) added same) e
  where
    by_page : (o : Option FlatPage) → added_as o ≡ Some (kind, perm) → words ≡ flat_page_words o
        → o ≡ Some (record { kind = kind; perm = perm; words = words })
    by_page None is e = cc
    by_page (Some x) is e =
        let was : Kind × Perm = (x.kind, x.perm) in
        let now : Kind × Perm = (kind, perm) in
        let alike = same_Some was now is in
        λ i. Some (record { kind = (alike i).0; perm = (alike i).1; words = sym e i })

    as_held : pages page ≡ Some (record { kind = kind; perm = perm; words = words }) → Holds page kind perm ≡ Holds g kind' perm'
        → pages g ≡ Some (record { kind = kind'; perm = perm'; words = words })
    as_held is e =
        let one : page ≡ g = cc in
        let alike : kind ≡ kind' = cc in
        let allowed : perm ≡ perm' = cc in
        rw (← one, ← alike, ← allowed) is

-- .. and a frame that is free has no page
freed_words : (s : State) (past : List Entry) (f : ℕ) → Stands s past
    → HasWords (λ n. cond (f == n) Free (s.content n)) (λ n. cond (f == n) zero_words (s.words n)) (flat past)
freed_words s past f stands n g kind perm =
    elim (f == n) as (λ b. cond b Free (s.content n) ≡ Holds g kind perm
    → (flat past).pages g ≡ Some (record { kind = kind; perm = perm; words = cond b zero_words (s.words n) })) [
      | true ↦ λ held. cc held
      | false ↦ stands.memory.words n g kind perm
    ]

-- ---- the commits

-- a frame whose start is open is one of the EPC
below : (s : State) (past : List Entry) (f : ℕ) (start : BareStart) → StandsWithRules s past → s.start f ≡ Some start → f < s.frames
below s past f start h opened =
    open_below s.frames past f h.rules.fits.entries (ap is_some (started_as s past h.stands.columns f start opened).opened)

-- a page is out
pub written_brings : (s t : State) (past : List Entry) (a : Actor) (f : Frame) (e : Entry) (rec : Sealed) → IsGuarded s
    → s.is_sealing f.0 ≡ true → IsWrittenOut s a f e rec t → StandsWithRules s past → Brings s t past e
written_brings s t past a f e rec guarded sealing out h =
    let stands = h.stands in
    brings_as s t _ past e _ out.entry out.state
    (done_brings s (after_ewb s f.0 out.leaving.start) past a (Ewb f)
    (answers.Moved out.leaving.page out.leaving.start.version rec.tag) refl
    (below s past f.0 out.leaving.start h out.leaving.opened, tt)
    (record {
      form = ends_out s t past a f e rec guarded sealing stands.columns out;
      taken = refl;
      same = λ seen. cc seen;
      measure = tt;
      memory = record {
        enclaves = stands.memory.enclaves;
        cpus = stands.memory.cpus;
        words = freed_words s past f.0 stands;
        measure = stands.memory.measure;
      };
    }))

-- a page is back, with its flat words, or its load is refused
pub reloaded_brings : (s t : State) (past : List Entry) (a : Actor) (f : Frame) (rec : Sealed) (e : Entry) (back : IsReloaded s a f rec e t)
    → (first_of_row (commit_row s f.0 back.coming rec) ≡ None → is_own_page back.coming.page ≡ true
    → words_of (cipher s.key back.coming.start.version rec.cipher) ≡ flats.words_of (flat past) back.coming.page)
    → StandsWithRules s past → Brings s t past e
reloaded_brings s t past a f rec e back same h = by_row (first_of_row (commit_row s f.0 back.coming rec)) refl back.row
  where
    coming : IsComing s f.0
    coming = back.coming

    stands : Stands s past
    stands = h.stands

    by_row : (o : Option Refusal) → first_of_row (commit_row s f.0 coming rec) ≡ o
        → MatchOption o (IsDoneBack s a f rec e t coming) (IsRefusedBack s a f e t coming) → Brings s t past e
    by_row None allowed done =
        brings_as s t _ past e _ done.0 done.1
        (done_brings s _ past a (Eld f) (answers.Moved coming.page coming.start.version rec.tag) refl
        (below s past f.0 coming.start h coming.opened, tt)
        (record {
          form = ends_back s past f.0 coming coming.start.version rec.tag stands.columns;
          taken = refl;
          same = λ seen. cc seen;
          measure = tt;
          memory = record {
            enclaves = stands.memory.enclaves;
            cpus = stands.memory.cpus;
            words =
                put_words s.content s.words (flat past) f.0 (reloaded coming.page (s.added coming.page))
                (words_of (cipher s.key coming.start.version rec.cipher))
                (λ g kind perm held.
                let k = back_own coming.page (s.added coming.page) g kind perm held in
                back_words (flat past).pages coming.page kind perm _ (sym (added_flat stands coming.page) ∙ k.1) (same allowed k.0) g kind
                perm (ap (λ q. Holds q kind perm) k.2)) stands.memory.words;
            measure = stands.memory.measure;
          };
        }))
    by_row (Some r) allowed is =
        brings_as s t _ past e _ is.0 is.1
        (record {
          refusal = ends_refused s past f.0 coming rec r stands.columns stands allowed;
          flat = tt;
          fits = tt;
          measure = tt;
          memory = record {
            enclaves = stands.memory.enclaves;
            cpus = stands.memory.cpus;
            words = freed_words s past f.0 stands;
            measure = stands.memory.measure;
          };
        })
