-- A turn is what the reclaimer does next.
use Rattle.std.proofs.Common.{◌≡◌, ◌⊎◌, inl, inr, ℕ, suc, ◌+◌, ◌<◌, ◌≤◌, Bool, true, false, cond, refl, sym, ◌∙◌, ap, subst}
use Rattle.std.proofs.Common.{List, [], ◌∷◌, length, get_or, count_by, Option, Some, None, add-zero, arith}
use Rattle.std.proofs.lemmas.List.Sums.{sum_by-cons}
use Rattle.std.specs.List.{list_all}
use Rattle.sgx_types.specs.Making.{Making}
use Rattle.sgx_types.specs.Pages.{is_own_page}
use Rattle.sgx_types.specs.declared.names.Page.{Page}
use Rattle.sgx_rules.specs.declared.entries.Action.TheVariants as actions
use Rattle.sgx_rules.specs.declared.entries.Entry.{Entry}
use Rattle.sgx_rules.specs.Frames.{Content, content}
use Rattle.epcm_entry.specs.inner.Epc.{EpcFrame, free_frame, is_free_frame}
use Rattle.epcm_entry.specs.inner.Sights.{held}
use Rattle.job_grammar.specs.Jobs.{JobView}
use Rattle.sgx_types.specs.Pages.{frame_at}
use Rattle.machine_laws.proofs.ColumnLaws.{content_is}
use Rattle.machine_laws.specs.inner.Columns.{HasColumns}
use Rattle.machine_laws.specs.inner.State.{version_at}
use Rattle.driver_slots.specs.inner.Keeper.{AllOut}
use Rattle.sgx_machine.proofs.Columns.{get_or-default}
use Rattle.sgx_machine.specs.inner.Parts.{Parts, state_of}
use Rattle.sgx_machine.proofs.FreeFrames.{free_held}
use Rattle.driver_list.specs.inner.Active.{are_held}
use Rattle.driver_list.specs.inner.Holds.{is_held as is_held_by}
use Rattle.driver_list.specs.inner.Ring.{pages_of}
use Rattle.driver_rules.specs.Ages.{ahead_by, head_of}
use Rattle.driver_rules.specs.Dues.{Due, is_look, Makes, TriesOut}
use Rattle.driver_rules.specs.Holds.{is_held}
use Rattle.driver_rules.specs.inner.Reclaims as reclaims
use Rattle.driver_rules.specs.inner.Reclaims.{ahead_gives, form_due, in_frame, leaving_due, look_at, look_due, pass_due, third_due}
use Rattle.driver_rules.specs.inner.Reclaims.{tries_out}
use Rattle.driver_rules.specs.Passes as passes
use Rattle.driver_rules.specs.Passes.{aside, Between, Blocking, free_count, free_count_from, keepers, Pass, pass, Scan, Tries}
use Rattle.driver_rules.specs.Places.{active, is_young, Leaving, place}
use Rattle.driver_rules.specs.Spares.{due_with, outs_kept}
use Rattle.driver_rules.specs.declared.waits.Why.TheVariants as waits
use Rattle.driver_laws.specs.inner.Stages.{HasPages, IsScanning, IsTaken}
use Rattle.driver_tables.proofs.ListLaws.{head_marks, heads, pages_are}
use Rattle.driver_tables.specs.declared.driver.Driver.{Driver}
use Rattle.driver_pass.specs.declared.stages.Aside.{Aside}
use Rattle.driver_pass.specs.declared.stages.Aside.TheVariants as asides
use Rattle.driver_pass.specs.declared.stages.Form.{Form}
use Rattle.driver_pass.specs.declared.stages.Form.TheVariants as forms
use Rattle.driver_pass.specs.declared.stages.Stage.{Stage}
use Rattle.driver_pass.specs.declared.stages.Stage.TheVariants as stages
use Rattle.driver_pass.specs.declared.stages.Taken.{Taken}
use Rattle.driver_pass.specs.inner.Dues.{due_in}
use Rattle.driver_pass.specs.inner.Keeping.{keepers_by}
use Rattle.driver_pass.specs.inner.Viewed.{aside_by, form_in, is_kicked, is_kicked_stage, pages_in, pass_by, PassView, taken_at}
use Rattle.driver_reclaim.specs.declared.turns.PassTurn.{PassTurn}
use Rattle.driver_reclaim.specs.declared.turns.PassTurn.TheVariants as turns
use Rattle.driver_reclaim.specs.inner.Answers.{bits_of, IsStart, AnswersTry, IsTurn}
use Rattle.driver_reclaim.specs.inner.Ready.{Ready}
use Rattle.driver_reclaim.specs.inner.Turning.{AsideSays, DueSays, FormSays, IsAsideTurn, IsBegun, IsMadeTurn, IsScanned, IsThirdTurn}
use Rattle.driver_reclaim.specs.inner.Turning.{IsTryTurn}
use Rattle.driver_reclaim.specs.inner.Turning.{StageSays, ThirdSays, turn_of, TurnSays}
use Rattle.driver_reclaim.proofs.PassLaws.{due_is, keepers_are}
use Rattle.driver_reclaim.proofs.RowLaws.{block_told, fixed_at, free_at, start_told, track_told, try_told}
use Rattle.driver_reclaim.proofs.SeenLaws.{columns, frames_are}
use Rattle.driver_reclaim.proofs.StageLaws.{in_blocks, in_tries, InTries, to_leave, with_page}

-- ---- free frames

free_counted : (xs : List EpcFrame) (holds : ℕ → Content) (n : ℕ) → ((i : ℕ) (d : EpcFrame) → i < length xs
    → holds (n + i) ≡ held (get_or xs i d).entry) → free_count_from holds n (length xs) ≡ count_by is_free_frame xs
free_counted [] holds n h = refl
free_counted (x ∷ xs) holds n h =
    let here : holds n ≡ held x.entry = rw add-zero at (h 0 x (omega arith)) in
    let rest : free_count_from holds (n + 1) (length xs) ≡ count_by is_free_frame xs =
    free_counted xs holds (n + 1) (λ i d low. let e : (n + 1) + i ≡ n + suc i = omega arith in rw e (h (suc i) d (omega arith))) in
    rw (here, free_held x.entry, rest) (sym (sum_by-cons {X = EpcFrame} (λ y. cond (is_free_frame y) 1 0) x xs))

pub free_is : (m : Parts) (past : List Entry) → HasColumns (state_of m) past → count_by is_free_frame m.epc ≡ free_count (length m.epc) past
free_is m past h = sym (free_counted m.epc (content past) 0 (λ i d low. let e : 0 + i ≡ i =
    omega arith in rw e (sym (content_is h i) ∙ ap (λ (x : EpcFrame). held x.entry) (get_or-default m.epc i free_frame d low))))

-- ---- by how far the pass is

due_there : (past : List Entry) (g : Page) (f : ℕ) (to : ℕ → Due) → place past g ≡ Leaving f → leaving_due past g to ≡ to f
due_there past g f to at = rw at refl

module _ (made : Making) (j : JobView) (past : List Entry) (v v' : PassView) (d d' : Driver) (m m' : Parts) (turn : PassTurn)
    (r : Ready made j past v d m) where
  abbrev Right : Due → Type 0
  Right due = IsTurn made j past d.slots due turn

  abbrev OfPass : Bool → Pass → Type 0
  OfPass kicked at = Right (pass_due j past kicked at)

  -- ---- looks

  look_right : 1 ≤ length (active past) → IsScanned v d turn v' d' → Right (look_due j past)
  look_right some (inr none) =
      absurd (empty (active past) some (sym (pages_are past d.active.pages (active past) r.agrees.shows.list) ∙ ap pages_of none.0))
    where
      empty : (ys : List Page) → 1 ≤ length ys → ys ≡ [] → ⊥
      empty [] low h = omega (arith, low)
      empty (y ∷ ys) low h = cc
  look_right some (inl k) =
      subst (λ o. Right (look_at j past o)) (sym head) (record {
        look = k.look;
        right =
            subst (λ b. is_look b (is_young past k.page) k.look ≡ true) (r.held k.page)
            (subst (λ b. is_look (is_held_by d.active.own k.page) b k.look ≡ true)
            (head_marks past d.active.pages (active past) k.page r.agrees.shows.list k.head) k.right);
        told = k.told;
      })
    where
      head : head_of (active past) ≡ Some k.page
      head = sym (heads past d.active.pages (active past) r.agrees.shows.list) ∙ k.head

  all_held_same : are_held d.active ≡ reclaims.are_held j past
  all_held_same =
      ap (list_all (is_held_by d.active.own)) (pages_are past d.active.pages (active past) r.agrees.shows.list) ∙ each (active past)
    where
      each : (ys : List Page) → list_all (is_held_by d.active.own) ys ≡ list_all (is_held j past) ys
      each [] = refl
      each (y ∷ ys) = rw (r.held y, each ys) refl

  begin_right : (kicked : Bool) → IsBegun v d turn v' d' → OfPass kicked (Between true)
  begin_right kicked (inr k) = rw (sym all_held_same ∙ k.0) k.1
  begin_right kicked (inl k) =
      rw (sym all_held_same ∙ k.0) (look_right (some (active past) (sym all_held_same ∙ k.0)) k.1)
    where
      some : (ys : List Page) → list_all (is_held j past) ys ≡ false → 1 ≤ length ys
      some [] h = cc
      some (y ∷ ys) h = omega arith

  scan_right : (kicked : Bool) (left : ℕ) (taken : List Page) → pass j past ≡ Scan left taken → IsScanned v d turn v' d'
      → OfPass kicked (Scan left taken)
  scan_right kicked left taken is k =
      let scanning : IsScanning past left taken = subst (HasPages past) is r.agrees.pages.pages in
      let low = scanning.some in
      let enough = scanning.enough in
      look_right (omega (arith, low, enough)) k

  -- ---- tries

  try_right : (one : Taken) → is_own_page one.page ≡ true → place past one.page ≡ Leaving one.frame.0 → IsTaken past true one.page
      → IsTryTurn one v d (state_of m) turn v' d' (state_of m') → Right (tries_out past one.page)
  try_right one own at w k =
      subst Right (sym (due_there past one.page one.frame.0 (TriesOut one.page) at)) (rw own (by_slot k))
    where
      by_slot : IsTryTurn one v d (state_of m) turn v' d' (state_of m') → AnswersTry made past d.slots one.frame.0 turn
          ⊎ (AllOut d.slots × (turn ≡ turns.Again waits.NoSlot))
      by_slot (inr none) = inr none
      by_slot (inl t) = inl (record {
        slot = t.tried.slot;
        ours = t.tried.ours;
        free = t.tried.free;
        least = t.tried.least;
        at = t.tried.at;
        named = (free_at made j past d m r.agrees t.tried.slot t.tried.at t.tried.ours t.tried.named).0.found;
        version = version_at (state_of m) t.tried.at;
        told =
            t.told
            ∙ try_told made j past d m r.agrees one t.tried.slot t.tried.at t.entry (state_of m') own at w t.tried.ours t.tried.free
            t.tried.named t.tried.step;
      })

  third_right : (epoch : ℕ) (one : Taken) → is_own_page one.page ≡ true → place past one.page ≡ Leaving one.frame.0
      → IsTaken past true one.page → keepers past one.page ≡ keepers_by m one.page.enclave epoch
      → IsThirdTurn epoch one v d m turn v' d' m' → Right (third_due past one.page (keepers past one.page))
  third_right epoch one own at w same k =
      by_keepers (keepers past one.page)
      (subst (λ (ps : List ℕ). ThirdSays (length ps) one v d (state_of m) turn v' d' (state_of m')) (sym same) k)
    where
      by_keepers : (ps : List ℕ) → ThirdSays (length ps) one v d (state_of m) turn v' d' (state_of m') → Right (third_due past one.page ps)
      by_keepers [] says = try_right one own at w says
      by_keepers (p ∷ ps) says = says

  form_right : (next : ℕ) (form : Form) (t : InTries made.first_epoch j past v next form) → v.aside ≡ asides.None
      → v.stage ≡ stages.Tries next form
      → FormSays form t.one v d m turn v' d' m'
      → Right (form_due past t.one.page (is_kicked_stage (stages.Tries next form)) (form_in v.kicks form))
  form_right next forms.First t alone is k = try_right t.one (t.own alone) t.at t.has.page k
  form_right next forms.Second t alone is k = try_right t.one (t.own alone) t.at t.has.page k
  form_right next forms.Track t alone is k =
      k.0.told
      ∙ track_told made j past d m r.agrees t.one.page t.one.frame.0 k.0.entry (state_of m') (t.own alone) t.at
      (t.tracks.calm t.one.page.enclave) k.0.step
  form_right next (forms.Kick epoch false) t alone is k =
      k.0.told
      ∙ ap (λ ps. turns.Kicks (bits_of ps)) (sym (keepers_are made j past v d m r next epoch
      (forms.Kick epoch false) t.one is refl t.found))
  form_right next (forms.Kick epoch true) t alone is k =
      third_right epoch t.one (t.own alone) t.at t.has.page
      (keepers_are made j past v d m r next epoch (forms.Kick epoch true) t.one is refl t.found) k
  form_right next (forms.Third epoch) t alone is k =
      third_right epoch t.one (t.own alone) t.at t.has.page
      (keepers_are made j past v d m r next epoch (forms.Third epoch) t.one is refl t.found) k
  form_right next (forms.Kicks epoch place) t alone is k = absurd k
  form_right next forms.Sealing t alone is k = absurd k

  -- ---- the pass

  pub stage_right : v.aside ≡ asides.None → (stage : Stage) → v.stage ≡ stage → StageSays stage v d m turn v' d' m'
      → OfPass (is_kicked_stage stage) (pass j past)
  stage_right alone (stages.Idle false) is k =
      subst (OfPass false) (sym (r.stands.same ∙ ap (pass_by v.taken v.kicks) is))
      (k ∙ ap (λ n. turns.Again (waits.Enough n)) (free_is m past (columns made j past d m r.agrees)
      ∙ ap (λ n. free_count n past) (frames_are made j past d m r.agrees)))
  stage_right alone (stages.Idle true) is k =
      subst (OfPass false) (sym (r.stands.same ∙ ap (pass_by v.taken v.kicks) is)) (begin_right false k)
  stage_right alone (stages.Scan left) is k =
      let same = r.stands.same ∙ ap (pass_by v.taken v.kicks) is in
      subst (OfPass false) (sym same) (scan_right false left (pages_in v.taken) same k)
  stage_right alone (stages.Block next) is k =
      let b = in_blocks made j past v d m r alone next is in
      let says = with_page (taken_at v next) b.one (turn ≡ turns.Again waits.AllHeld)
      (λ one. IsMadeTurn (actions.Block one.frame) v (state_of m) turn v' (state_of m') × (d' ≡ d)) b.found k in
      subst (OfPass false) (sym b.passed)
      (subst Right (sym (due_there past b.one.page b.one.frame.0 (λ f. Makes (actions.Block (frame_at f))) b.at))
      (says.0.told ∙ ap (λ (e : Entry). turn_of e e.event)
      (block_told made j past d m r.agrees b.one says.0.entry (state_of m') b.own b.at b.waits says.0.step)))
  stage_right alone (stages.Tries next form) is k =
      let t = in_tries made j past v d m r next form is in
      subst (OfPass (is_kicked_stage (stages.Tries next form))) (sym t.passed)
      (form_right next form t alone is
      (with_page (taken_at v next) t.one (turn ≡ turns.Again waits.AllHeld) (λ one. FormSays form one v d m turn v' d' m') t.found k))

  -- ---- all of it

  abbrev Ahead : passes.Aside → Option Page → Type 0
  Ahead x o = Right (ahead_gives j past (is_kicked v) (ahead_by x o))

  start_right : (one : Taken) → v.aside ≡ asides.ToGo one → IsAsideTurn one v d (state_of m) turn v' (state_of m')
      → Ahead (aside past) (due_with j past (outs_kept j past))
  start_right one is k =
      let t = to_leave made j past v d m one r is in
      let at = k.started.at in
      let right : IsStart made j past one.page one.frame.0 turn = record {
        at = at;
        named = (fixed_at made j past d m r.agrees one t.other t.at t.none at k.started.named).found;
        told =
            k.told ∙ start_told made j past d m r.agrees one t.other t.at t.none at k.entry (state_of m') k.started.named k.started.step;
      } in
      subst (λ x. Ahead x (due_with j past (outs_kept j past))) (sym t.going)
      (subst Right (sym (due_there past one.page one.frame.0 (TriesOut one.page) t.at)) (rw t.other right))

  due_right : v.aside ≡ asides.None → (o : Option Page) → due_in d (state_of m) v.behind ≡ o → DueSays o v d m turn v' d' m'
      → Ahead passes.NoneAside o
  due_right alone (Some page) is k = record { look = k.look; right = k.right; told = k.told }
  due_right alone None is k = stage_right alone v.stage refl k

  pub turn_is_due : TurnSays v d m turn v' d' m' → Ahead (aside past) (due_with j past (outs_kept j past))
  turn_is_due k = by_aside v.aside refl k
    where
      by_aside : (x : Aside) → v.aside ≡ x → AsideSays x v d m turn v' d' m' → Ahead (aside past) (due_with j past (outs_kept j past))
      by_aside (asides.ToGo one) is says = start_right one is says.0
      by_aside (asides.Going one) is says = absurd says
      by_aside asides.None is says =
          subst (λ x. Ahead x (due_with j past (outs_kept j past))) (sym (r.stands.aside ∙ ap aside_by is))
          (subst (Ahead passes.NoneAside) (due_is made j past v d m r) (due_right is (due_in d (state_of m) v.behind) refl says))
