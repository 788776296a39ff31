-- What a pass stands for behind an entry of the reclaimer that is one of it.
use Rattle.std.proofs.Common.{◌≡◌, ℕ, zero, suc, ◌+◌, ◌-◌, ◌≤◌, Bool, true, false, if◌then◌else◌, refl, sym, ◌∙◌, ap}
use Rattle.std.proofs.Common.{subst, List, [], ◌∷◌, ◌++◌, Option, Some, None, drop, length, min, slice_get, arith}
use Rattle.std.proofs.lemmas.Bool.{eq-eqb}
use Rattle.std.proofs.lemmas.List.{drop-drop}
use Rattle.sgx_rules.specs.declared.entries.Action.TheVariants as actions
use Rattle.sgx_types.specs.declared.names.Actor.TheVariants as actors
use Rattle.sgx_rules.specs.declared.entries.Answer.{Answer}
use Rattle.sgx_rules.specs.declared.entries.Entry.{Entry}
use Rattle.sgx_rules.specs.declared.entries.Event.{Event}
use Rattle.sgx_rules.specs.declared.entries.Event.TheVariants.{Age, Did, Kick, Refused}
use Rattle.sgx_rules.specs.declared.entries.Look.{Look}
use Rattle.sgx_types.specs.declared.names.Cpu.{Cpu}
use Rattle.sgx_types.specs.declared.names.Frame.{Frame}
use Rattle.sgx_types.specs.declared.names.Page.{Page}
use Rattle.sgx_types.specs.declared.names.SlotAt.{SlotAt}
use Rattle.sgx_types.specs.Pages.{is_own_page}
use Rattle.sgx_rules.specs.declared.refusals.Refusal.TheVariants as why
use Rattle.sgx_rules.specs.Epochs.{epoch, epoch_of, is_track}
use Rattle.sgx_rules.specs.Frames.{content}
use Rattle.sgx_types.specs.Making.{Making}
use Rattle.sgx_rules.proofs.Contents.{page_enclave}
use Rattle.job_grammar.specs.declared.jobs.Marks.{Marks}
use Rattle.job_grammar.specs.Jobs.{JobView}
use Rattle.sgx_machine.specs.inner.Parts.{Parts}
use Rattle.driver_rules.specs.Ages.{InPass, IsInTries, IsOfPass}
use Rattle.driver_rules.specs.Passes as passes
use Rattle.driver_rules.specs.Passes.{Between, Blocking, Pass, Tries, keepers, kicks_on, pass, scan_on}
use Rattle.driver_rules.specs.Places.{Leaving, active, place}
use Rattle.driver_laws.proofs.MarkLaws.{head_own}
use Rattle.driver_laws.proofs.SoundLaws.{entry_of}
use Rattle.driver_laws.proofs.OwnPassLaws.{AllOwn, OwnPass, pass_own}
use Rattle.driver_laws.proofs.StillLaws.{holds_here}
use Rattle.driver_laws.proofs.TrackLaws.{own_holds}
use Rattle.driver_laws.specs.inner.Agrees.{Keeping}
use Rattle.driver_laws.specs.inner.Kinds.{CanMove}
use Rattle.driver_laws.specs.inner.Stages.{HasPages}
use Rattle.driver_tables.specs.declared.driver.Driver.{Driver}
use Rattle.driver_tables.proofs.ListLaws.{lengths}
use Rattle.driver_pass.specs.declared.stages.Aside.TheVariants as asides
use Rattle.driver_pass.specs.declared.stages.Behind.{Behind}
use Rattle.driver_pass.specs.declared.stages.Form.{Form}
use Rattle.driver_pass.specs.declared.stages.Form.TheVariants as forms
use Rattle.driver_pass.specs.declared.stages.Stage.{Stage}
use Rattle.driver_pass.specs.declared.stages.Stage.TheVariants as stages
use Rattle.driver_pass.specs.declared.stages.Taken.{Taken}
use Rattle.driver_pass.specs.inner.Keeping.{keepers_by}
use Rattle.driver_tables.specs.inner.Tells.{Tells}
use Rattle.driver_pass.specs.inner.Noted.{after_kick, behind, gone_on, kicked_with, passed_on}
use Rattle.driver_pass.specs.inner.Standing.{AreInFrames, epoch_told, IsForm, IsStage, TellsEpoch}
use Rattle.driver_pass.specs.inner.Viewed.{form_in, pages_in, pass_by, PassView, tries_of, waiting_by}
use Rattle.driver_pass.proofs.FrameLaws.{epoch_stays, form_stays, frames_behind, frames_quiet, HoldsPass, waiting_own}
use Rattle.driver_pass.proofs.KeptLaws.{kept_told}
use Rattle.driver_pass.proofs.ListLaws.{behind_last, behind_more, drop_next, get_drop, head}
use Rattle.driver_pass.proofs.LookLaws.{look_stands}

-- ---- a kick

-- behind the kick of a place
kick_form : (kicks : List ℕ) (told n : ℕ) (rest : List ℕ) → drop (n + 1) kicks ≡ rest
    → form_in kicks (after_kick told (behind n (length kicks))) ≡ kicks_on rest
kick_form kicks told n [] h = ap (λ o. form_in kicks (after_kick told o)) (behind_last n kicks h)
kick_form kicks told n (p ∷ ps) h =
    ap (λ o. form_in kicks (after_kick told o)) (behind_more n kicks p ps h) ∙ ap passes.Kicks h

kick_knows : (first : ℕ) (past : List Entry) (told : ℕ) (o : Option ℕ) (t : Taken) (ts : List Taken)
    → told ≡ epoch first past t.page.enclave → IsForm first past (after_kick told o) (t ∷ ts)
kick_knows first past told None t ts h = h
kick_knows first past told (Some n) t ts h = h

-- ---- an entry of the reclaimer

abbrev pub own : Event → Entry
own ev = entry_of actors.Reclaimer ev

-- a try that is refused for want of a track, or since its slot is in use
abbrev again : Frame → SlotAt → ℕ → ℕ → Event
again f slot e o = Refused (actions.EwbStart f slot) (why.NotTracked e o)

abbrev in_use : Frame → SlotAt → ℕ → Event
in_use f slot version = Refused (actions.EwbStart f slot) (why.SlotOccupied version)

module _ (k : Keeping) (made : Making) (j : JobView) (past : List Entry) (d : Driver) (m : Parts) (a : Tells k made j past d m) (b : Behind)
  where
    -- no page goes out beside the pass
    abbrev view : List Taken → List ℕ → Stage → PassView
    view taken kicks stage = record { taken = taken; kicks = kicks; stage = stage; aside = asides.None; behind = b }

    abbrev Holds : Event → PassView → Pass → Type 0
    Holds ev v at = HoldsPass made.first_epoch (own ev ∷ past) v.taken v.kicks v.stage at

    abbrev After : Event → PassView → Pass → Type 0
    After ev v at = Holds ev (gone_on d m ev v) (passes.pass_by j past ev at)

    -- a look of a pass is at a TCS or REG page
    look_goes : (v : PassView) (page : Page) (look : Look) (to : Pass) → is_own_page page ≡ true
        → Holds (Age page look) (passed_on d page look v) to
        → Holds (Age page look) (if is_own_page page then passed_on d page look v else v) to
    look_goes v page look to mine h =
        subst (λ c. Holds (Age page look) (if c then passed_on d page look v else v) to) (sym mine) h

    -- the first look of a pass
    idle_goes : (taken : List Taken) (kicks : List ℕ) (works : Bool) (ev : Event) → IsOfPass j past ev → CanMove past ev
        → InPass past (Between works) ev → After ev (view taken kicks (stages.Idle works)) (Between works)
    idle_goes taken kicks works (Age page look) of can at =
        look_goes (view taken kicks (stages.Idle works)) page look
        (scan_on (min j.marks.scan (length (active past)) - 1) (passes.taken_by look page)) (head_own past page a.sound of.look.head)
        (subst (λ n. Holds (Age page look) (passed_on d page look (view taken kicks (stages.Idle works)))
        (scan_on (n - 1) (passes.taken_by look page))) same
        (look_stands k j past d page a.shows a.sound of.look.head made.first_epoch (min d.marks.scan (length d.active.pages)) look [] kicks
        can tt (omega arith) (omega (arith, low))))
      where
        same : min d.marks.scan (length d.active.pages) ≡ min j.marks.scan (length (active past))
        same = ap (λ (x : Marks). min x.scan (length d.active.pages)) a.shows.marks
            ∙ ap (λ n. min j.marks.scan n) (lengths past d.active.pages (active past) a.shows.list)

        low : d.marks.scan ≤ 64
        low = subst (λ (x : Marks). x.scan ≤ 64) (sym a.shows.marks) a.short
    idle_goes taken kicks works ev of can at = absurd at

    -- one more
    scan_goes : (taken : List Taken) (kicks : List ℕ) (left : ℕ) (ev : Event) → IsOfPass j past ev → CanMove past ev
        → HasPages past (passes.Scan left (pages_in taken)) → InPass past (passes.Scan left (pages_in taken)) ev
        → HoldsPass made.first_epoch past taken kicks (stages.Scan left) (passes.Scan left (pages_in taken))
        → After ev (view taken kicks (stages.Scan left)) (passes.Scan left (pages_in taken))
    scan_goes taken kicks left (Age page look) of can has at holds =
        let some = has.some in
        let room = holds.stage in
        look_goes (view taken kicks (stages.Scan left)) page look (scan_on (left - 1) (pages_in taken ++ passes.taken_by look page))
        (head_own past page a.sound of.look.head)
        (look_stands k j past d page a.shows a.sound of.look.head made.first_epoch left look taken kicks can holds.frames
        (omega (arith, some, room)) room)
    scan_goes taken kicks left ev of can has at holds = absurd at

    -- a block
    block_goes : (taken : List Taken) (kicks : List ℕ) (next : ℕ) (ts : List Taken) → drop next taken ≡ ts → (ev : Event)
        → InPass past (Blocking (pages_in ts) (pages_in taken)) ev → AreInFrames past taken
        → After ev (view taken kicks (stages.Block next)) (Blocking (pages_in ts) (pages_in taken))
    block_goes taken kicks next [] is (Did (actions.Block f) answer) at frames = absurd at
    block_goes taken kicks next (t ∷ ts) is (Did (actions.Block f) answer) at frames = by_rest ts (drop_next next taken t ts is)
      where
        after : AreInFrames (own (Did (actions.Block f) answer) ∷ past) taken
        after = frames_quiet past (own (Did (actions.Block f) answer)) taken refl frames

        first_try : (xs : List Taken) → drop next xs ≡ t ∷ ts → AreInFrames (own (Did (actions.Block f) answer) ∷ past) xs
            → HoldsPass made.first_epoch (own (Did (actions.Block f) answer) ∷ past) xs kicks (stages.Tries 0 forms.First)
            (passes.next_tries (pages_in xs))
        first_try [] h fits = absurd (none next h)
          where
            none : (n : ℕ) → drop n [] ≡ t ∷ ts → ⊥
            none zero h = cc
            none (suc n) h = cc
        first_try (x ∷ xs) h fits = record { same = refl; frames = fits; stage = tt }

        by_rest : (ys : List Taken) → drop (next + 1) taken ≡ ys
            → Holds (Did (actions.Block f) answer) (gone_on d m (Did (actions.Block f) answer) (view taken kicks (stages.Block next)))
            (passes.block_on (pages_in ys) (pages_in taken))
        by_rest [] h = rw (behind_last next taken h) (first_try taken is after)
        by_rest (y ∷ ys) h = rw (behind_more next taken y ys h) (record {
          same = ap (λ zs. Blocking (pages_in zs) (pages_in taken)) (sym h);
          frames = after;
          stage = tt;
        })
    block_goes taken kicks next ts is ev at frames = absurd at

    -- ---- the tries of a page

    module _ (taken : List Taken) (next : ℕ) (t : Taken) (ts : List Taken) (is : drop next taken ≡ t ∷ ts)
        (frames : AreInFrames past (t ∷ ts)) (mine : is_own_page t.page ≡ true) where
      abbrev in_tries : List ℕ → Form → PassView
      in_tries kicks form = view taken kicks (stages.Tries next form)

      abbrev tries : List ℕ → Form → Pass
      tries kicks form = Tries t.page (pages_in ts) (form_in kicks form)

      stands : (ev : Event) (kicks : List ℕ) (form : Form) → AreInFrames (own ev ∷ past) (t ∷ ts)
          → IsForm made.first_epoch (own ev ∷ past) form (t ∷ ts) → Holds ev (in_tries kicks form) (tries kicks form)
      stands ev kicks form at fits = record {
        same = ap (λ xs. tries_of xs (form_in kicks form)) (sym is);
        frames = subst (AreInFrames (own ev ∷ past)) (sym is) at;
        stage = subst (IsForm made.first_epoch (own ev ∷ past) form) (sym is) fits;
      }

      found : slice_get taken next ≡ Some t
      found = get_drop taken next ∙ ap head is

      -- an entry by which the page stays in its form
      stays : (ev : Event) (kicks : List ℕ) (form : Form) → AreInFrames (own ev ∷ past) (t ∷ ts) → ((n : ℕ) → is_track ev n ≡ false)
          → IsForm made.first_epoch past form (t ∷ ts) → Holds ev (in_tries kicks form) (tries kicks form)
      stays ev kicks form at calm fits =
          stands ev kicks form at (form_stays made.first_epoch past (own ev) form (t ∷ ts) calm fits)

      -- a refusal for want of a track
      refused_goes : (kicks : List ℕ) (form : Form) (f : Frame) (slot : SlotAt) (e o : ℕ) → place past t.page ≡ Leaving f.0
          → TellsEpoch made.first_epoch past (again f slot e o) → IsForm made.first_epoch past form (t ∷ ts)
          → After (again f slot e o) (in_tries kicks form) (tries kicks form)
      refused_goes kicks form f slot e o here tells fits = by_form form fits
        where
          after : AreInFrames (own (again f slot e o) ∷ past) (t ∷ ts)
          after = frames_quiet past (own (again f slot e o)) (t ∷ ts) refl frames

          told : e ≡ epoch made.first_epoch past t.page.enclave
          told = tells
              ∙ ap (epoch_of (epoch made.first_epoch past)) (page_enclave (content past f.0) t.page
              (own_holds (content past f.0) t.page (holds_here past t.page (Leaving f.0) f.0 a.sound here (eq-eqb f.0 f.0 refl)) mine))

          by_form : (form : Form) → IsForm made.first_epoch past form (t ∷ ts)
              → After (again f slot e o) (in_tries kicks form) (tries kicks form)
          by_form forms.First h = stands (again f slot e o) kicks forms.Track after tt
          by_form forms.Second h =
              stands (again f slot e o) kicks (forms.Kick e false) after
              (epoch_stays made.first_epoch past (own (again f slot e o)) t.page.enclave e (λ n. refl) told)
          by_form forms.Track h = stays (again f slot e o) kicks forms.Track after (λ n. refl) tt
          by_form (forms.Kick n is_made) h = stays (again f slot e o) kicks (forms.Kick n is_made) after (λ n. refl) h
          by_form (forms.Kicks n next) h = stays (again f slot e o) kicks (forms.Kicks n next) after (λ n. refl) h
          by_form (forms.Third n) h = stays (again f slot e o) kicks (forms.Third n) after (λ n. refl) h
          by_form forms.Sealing h = stays (again f slot e o) kicks forms.Sealing after (λ n. refl) tt

      -- .. and since the slot is in use
      occupied_goes : (kicks : List ℕ) (form : Form) (f : Frame) (slot : SlotAt) (version : ℕ) → IsForm made.first_epoch past form (t ∷ ts)
          → After (in_use f slot version) (in_tries kicks form) (tries kicks form)
      occupied_goes kicks form f slot version fits = by_form form fits
        where
          after : AreInFrames (own (in_use f slot version) ∷ past) (t ∷ ts)
          after = frames_quiet past (own (in_use f slot version)) (t ∷ ts) refl frames

          by_form : (form : Form) → IsForm made.first_epoch past form (t ∷ ts)
              → After (in_use f slot version) (in_tries kicks form) (tries kicks form)
          by_form (forms.Kick n is_made) h = stays (in_use f slot version) kicks (forms.Third n) after (λ n. refl) h
          by_form forms.First h = stays (in_use f slot version) kicks forms.First after (λ n. refl) tt
          by_form forms.Track h = stays (in_use f slot version) kicks forms.Track after (λ n. refl) tt
          by_form forms.Second h = stays (in_use f slot version) kicks forms.Second after (λ n. refl) tt
          by_form (forms.Kicks n next) h = stays (in_use f slot version) kicks (forms.Kicks n next) after (λ n. refl) h
          by_form (forms.Third n) h = stays (in_use f slot version) kicks (forms.Third n) after (λ n. refl) h
          by_form forms.Sealing h = stays (in_use f slot version) kicks forms.Sealing after (λ n. refl) tt

      -- a kick
      kick_goes : (kicks : List ℕ) (form : Form) (cpu : Cpu) → IsForm made.first_epoch past form (t ∷ ts)
          → ((e : ℕ) → epoch_told form ≡ Some e → keepers past t.page ≡ keepers_by m t.page.enclave e)
          → After (Kick cpu) (in_tries kicks form) (tries kicks form)
      kick_goes kicks form cpu fits keeps =
          subst (λ o. Holds (Kick cpu) (kicked_with m (in_tries kicks form) next form o)
          (Tries t.page (pages_in ts) (passes.kicked (keepers past t.page) (form_in kicks form)))) (sym found) (by_form form fits keeps)
        where
          after : AreInFrames (own (Kick cpu) ∷ past) (t ∷ ts)
          after = frames_quiet past (own (Kick cpu)) (t ∷ ts) refl frames

          kicked : (ks : List ℕ) (told n : ℕ) (rest : List ℕ) → told ≡ epoch made.first_epoch past t.page.enclave → drop (n + 1) ks ≡ rest
              → Holds (Kick cpu) (in_tries ks (after_kick told (behind n (length ks)))) (Tries t.page (pages_in ts) (kicks_on rest))
          kicked ks told n rest knows h =
              subst (λ x. Holds (Kick cpu) (in_tries ks (after_kick told (behind n (length ks)))) (Tries t.page (pages_in ts) x))
              (kick_form ks told n rest h)
              (stands (Kick cpu) ks (after_kick told (behind n (length ks))) after
              (kick_knows made.first_epoch (own (Kick cpu) ∷ past) told (behind n (length ks)) t ts
              (epoch_stays made.first_epoch past (own (Kick cpu)) t.page.enclave told (λ n. refl) knows)))

          by_form : (form : Form) → IsForm made.first_epoch past form (t ∷ ts)
              → ((e : ℕ) → epoch_told form ≡ Some e → keepers past t.page ≡ keepers_by m t.page.enclave e)
              → Holds (Kick cpu) (kicked_with m (in_tries kicks form) next form (Some t))
              (Tries t.page (pages_in ts) (passes.kicked (keepers past t.page) (form_in kicks form)))
          by_form (forms.Kick e is_made) h keep =
              kicked (keepers_by m t.page.enclave e) e 0 (drop 1 (keepers past t.page)) h (ap (drop 1) (sym (keep e refl)))
          by_form (forms.Kicks e n) h keep = kicked kicks e n (drop 1 (drop n kicks)) h (sym (drop-drop 1 n kicks))
          by_form forms.First h keep = stays (Kick cpu) kicks forms.First after (λ n. refl) tt
          by_form forms.Track h keep = stays (Kick cpu) kicks forms.Track after (λ n. refl) tt
          by_form forms.Second h keep = stays (Kick cpu) kicks forms.Second after (λ n. refl) tt
          by_form (forms.Third e) h keep = stays (Kick cpu) kicks (forms.Third e) after (λ n. refl) h
          by_form forms.Sealing h keep = stays (Kick cpu) kicks forms.Sealing after (λ n. refl) tt

      -- the end of a write-out
      end_goes : (kicks : List ℕ) (form : Form) (f : Frame) (answer : Answer) → place past t.page ≡ Leaving f.0
          → CanMove past (Did (actions.Ewb f) answer) → HasPages past (tries kicks form)
          → After (Did (actions.Ewb f) answer) (in_tries kicks form) (tries kicks form)
      end_goes kicks form f answer here can has = by_rest ts (drop_next next taken t ts is) after
        where
          after : AreInFrames (own (Did (actions.Ewb f) answer) ∷ past) ts
          after = frames_behind past f answer t.page ts a.sound can here has.apart.0 frames.1

          by_rest : (ys : List Taken) → drop (next + 1) taken ≡ ys → AreInFrames (own (Did (actions.Ewb f) answer) ∷ past) ys
              → Holds (Did (actions.Ewb f) answer) (gone_on d m (Did (actions.Ewb f) answer) (in_tries kicks form))
              (passes.next_tries (pages_in ys))
          by_rest [] h fits = rw (behind_last next taken h) (record { same = refl; frames = tt; stage = tt })
          by_rest (y ∷ ys) h fits = rw (behind_more next taken y ys h) (record {
            same = ap (λ zs. tries_of zs passes.First) (sym h);
            frames = subst (AreInFrames (own (Did (actions.Ewb f) answer) ∷ past)) (sym h) fits;
            stage = tt;
          })

      page_goes : (kicks : List ℕ) (form : Form) (ev : Event) → IsInTries past t.page ev → TellsEpoch made.first_epoch past ev
          → CanMove past ev → HasPages past (tries kicks form) → IsForm made.first_epoch past form (t ∷ ts)
          → ((e : ℕ) → epoch_told form ≡ Some e → keepers past t.page ≡ keepers_by m t.page.enclave e)
          → After ev (in_tries kicks form) (tries kicks form)
      page_goes kicks form (Did (actions.EwbStart f slot) answer) at tells can has fits keeps =
          stands (Did (actions.EwbStart f slot) answer) kicks forms.Sealing
          (frames_quiet past (own (Did (actions.EwbStart f slot) answer)) (t ∷ ts) refl frames) tt
      page_goes kicks form (Refused (actions.EwbStart f slot) (why.NotTracked e o)) at tells can has fits keeps =
          refused_goes kicks form f slot e o at tells fits
      page_goes kicks form (Refused (actions.EwbStart f slot) (why.SlotOccupied version)) at tells can has fits keeps =
          occupied_goes kicks form f slot version fits
      page_goes kicks form (Refused (actions.EwbStart f slot) r) at tells can has fits keeps =
          stays (Refused (actions.EwbStart f slot) r) kicks form
          (frames_quiet past (own (Refused (actions.EwbStart f slot) r)) (t ∷ ts) refl frames) (λ n. refl) fits
      page_goes kicks form (Did (actions.Ewb f) answer) at tells can has fits keeps = end_goes kicks form f answer at can has
      page_goes kicks form (Refused (actions.Ewb f) r) at tells can has fits keeps =
          stays (Refused (actions.Ewb f) r) kicks form (frames_quiet past (own (Refused (actions.Ewb f) r)) (t ∷ ts) refl frames)
          (λ n. refl) fits
      page_goes kicks form (Did (actions.Track n) answer) at tells can has fits keeps =
          stands (Did (actions.Track n) answer) kicks forms.Second
          (frames_quiet past (own (Did (actions.Track n) answer)) (t ∷ ts) refl frames) tt
      page_goes kicks form (Refused (actions.Track n) r) at tells can has fits keeps =
          stays (Refused (actions.Track n) r) kicks form (frames_quiet past (own (Refused (actions.Track n) r)) (t ∷ ts) refl frames)
          (λ n. refl) fits
      page_goes kicks form (Kick cpu) at tells can has fits keeps = kick_goes kicks form cpu fits keeps
      page_goes kicks form ev at tells can has fits keeps = absurd at

    tries_go : (taken : List Taken) (kicks : List ℕ) (next : ℕ) (form : Form) (ts : List Taken) → drop next taken ≡ ts → (ev : Event)
        → pass j past ≡ tries_of ts (form_in kicks form) → InPass past (tries_of ts (form_in kicks form)) ev
        → TellsEpoch made.first_epoch past ev → CanMove past ev → AreInFrames past ts → IsForm made.first_epoch past form ts
        → AllOwn (pages_in ts) → After ev (view taken kicks (stages.Tries next form)) (tries_of ts (form_in kicks form))
    tries_go taken kicks next form [] is ev same at tells can frames fits all = absurd (subst (HasPages past) same a.pages.pages)
    tries_go taken kicks next form (t ∷ ts) is ev same at tells can frames fits all =
        page_goes taken next t ts is frames all.0 kicks form ev at tells can (subst (HasPages past) same a.pages.pages) fits
        (λ e known. kept_told k made j past d m a kicks form t ts e same fits known)

    -- ---- by how far it is

    pub own_goes : (taken : List Taken) (kicks : List ℕ) (stage : Stage) (ev : Event) → IsOfPass j past ev
        → TellsEpoch made.first_epoch past ev → CanMove past ev → HoldsPass made.first_epoch past taken kicks stage (pass j past)
        → After ev (view taken kicks stage) (pass j past)
    own_goes taken kicks stage ev of tells can s =
        subst (λ p. After ev (view taken kicks stage) p) (sym s.same)
        (by_stage stage s.same s.frames s.stage (subst (λ p. InPass past p ev) s.same of.in_pass)
        (subst (HasPages past) s.same a.pages.pages) (waiting_own taken kicks stage (subst OwnPass s.same (pass_own j past))))
      where
        by_stage : (stage : Stage) → pass j past ≡ pass_by taken kicks stage → AreInFrames past (waiting_by taken stage)
            → IsStage made.first_epoch past taken stage → InPass past (pass_by taken kicks stage) ev
            → HasPages past (pass_by taken kicks stage) → AllOwn (pages_in (waiting_by taken stage))
            → After ev (view taken kicks stage) (pass_by taken kicks stage)
        by_stage (stages.Idle works) same frames fits at has all = idle_goes taken kicks works ev of can at
        by_stage (stages.Scan left) same frames fits at has all =
            scan_goes taken kicks left ev of can has at (record { same = refl; frames = frames; stage = fits })
        by_stage (stages.Block next) same frames fits at has all = block_goes taken kicks next (drop next taken) refl ev at frames
        by_stage (stages.Tries next form) same frames fits at has all =
            tries_go taken kicks next form (drop next taken) refl ev same at tells can frames fits all
