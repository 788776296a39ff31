-- Behind a turn the pass stands for the longer list.
use Rattle.std.proofs.Common.{◌≡◌, ℕ, zero, suc, true, false, if◌then◌else◌, refl, sym, ◌∙◌, ap, subst, List, [], ◌∷◌, drop, length}
use Rattle.std.proofs.Common.{Some, None, slice_get}
use Rattle.std.proofs.lemmas.Option.{same_Some}
use Rattle.sgx_types.specs.Making.{Making}
use Rattle.sgx_types.specs.declared.names.Actor.TheVariants as actors
use Rattle.sgx_types.specs.declared.names.Page.{Page}
use Rattle.sgx_rules.specs.declared.entries.Entry.{Entry}
use Rattle.sgx_rules.specs.declared.entries.Event.{Event}
use Rattle.sgx_rules.specs.declared.entries.Event.TheVariants.{Did, Kick, Refused}
use Rattle.sgx_rules.specs.declared.entries.Action.TheVariants as actions
use Rattle.sgx_rules.specs.declared.refusals.Refusal.TheVariants as why
use Rattle.sgx_rules.specs.Epochs.{epoch}
use Rattle.job_grammar.specs.Jobs.{JobView}
use Rattle.sgx_machine.specs.inner.Parts.{Parts, state_of}
use Rattle.driver_rules.specs.Ages.{ahead_by}
use Rattle.driver_rules.specs.Dues.{Due, KicksAll}
use Rattle.driver_rules.specs.declared.waits.Why.{Why}
use Rattle.driver_rules.specs.inner.Reclaims.{ahead_gives, going_due, pass_due}
use Rattle.driver_rules.specs.Stops.{last_event}
use Rattle.driver_rules.specs.Passes as passes
use Rattle.driver_rules.specs.Passes.{aside, decided, free_count, is_aside, keepers, kicks_on, Pass, pass, pass_by, Third, ToKick, Tries}
use Rattle.driver_rules.specs.Spares.{due_with, outs_kept}
use Rattle.driver_tables.specs.declared.driver.Driver.{Driver}
use Rattle.driver_pass.specs.declared.stages.Aside.TheVariants as asides
use Rattle.driver_pass.specs.declared.stages.Behind.TheVariants as last
use Rattle.driver_pass.specs.declared.stages.Form.TheVariants as forms
use Rattle.driver_pass.specs.declared.stages.Stage.TheVariants as stages
use Rattle.driver_pass.specs.declared.stages.Taken.{Taken}
use Rattle.driver_pass.specs.inner.Dues.{due_in}
use Rattle.driver_pass.specs.inner.Keeping.{keepers_by}
use Rattle.driver_pass.specs.inner.Noted.{all_kicked, all_kicked_stage}
use Rattle.driver_pass.specs.inner.Standing.{AreInFrames, behind_of, IsAside, IsForm, StandsAt}
use Rattle.driver_pass.specs.inner.Viewed.{aside_by, is_amid, is_amid_stage, pages_in, PassView, tries_of, waiting_by}
use Rattle.driver_reclaim.specs.declared.turns.PassTurn.{PassTurn}
use Rattle.driver_reclaim.specs.declared.turns.PassTurn.TheVariants as turns
use Rattle.driver_reclaim.specs.inner.After.{cpu_of, kicked_past, StandsAfter, StandsBehind}
use Rattle.driver_reclaim.specs.inner.Answers.{bits_of, by_reclaimer}
use Rattle.driver_reclaim.specs.inner.Kept.{KeepsReclaim, TurnKeeps}
use Rattle.driver_reclaim.specs.inner.Ready.{Ready}
use Rattle.driver_reclaim.specs.inner.Rests.{IsWait}
use Rattle.driver_reclaim.specs.inner.Turning.{turn_of, TurnSays}
use Rattle.driver_reclaim.proofs.PassLaws.{due_is, goes, keepers_are}
use Rattle.driver_reclaim.proofs.KeptLaws.{turn_keeps}
use Rattle.driver_reclaim.proofs.MoveLaws.{Entered, KickedAll, Moves, turn_moves, Waited}
use Rattle.driver_reclaim.proofs.StageLaws.{in_tries, InTries}

-- ---- turns with an entry

pub keeps_of : (first : ℕ) (j : JobView) (past : List Entry) (e : Entry) (ev : Event) → TurnKeeps first j past (turn_of e ev)
    → KeepsReclaim first j past e.event
keeps_of first j past e (Did (actions.EwbStart f slot) answer) k = k
keeps_of first j past e (Refused action (why.NotTracked epoch older)) k = k
keeps_of first j past e (Refused action (why.SlotOccupied version)) k = k
keeps_of first j past e (Refused action refusal) k = k
keeps_of first j past e ev k = k

stands_of : (first : ℕ) (j : JobView) (past : List Entry) (e : Entry) (ev : Event) (v : PassView) → StandsBehind first j past e v
    → StandsAfter first j past (turn_of e ev) v
stands_of first j past e (Did (actions.EwbStart f slot) answer) v k = k
stands_of first j past e (Refused action (why.NotTracked epoch older)) v k = k
stands_of first j past e (Refused action (why.SlotOccupied version)) v k = k
stands_of first j past e (Refused action refusal) v k = k
stands_of first j past e ev v k = k

-- ---- kicks

abbrev kick : ℕ → Entry
kick p = by_reclaimer (Kick (cpu_of p))

kicks_still : (ps : List ℕ) (h : List Entry) (ts : List Taken) → AreInFrames h ts → AreInFrames (kicked_past ps h) ts
kicks_still [] h ts k = k
kicks_still (p ∷ ps) h ts k = kicks_still ps (kick p ∷ h) ts (one_more ts k)
  where
    one_more : (ts : List Taken) → AreInFrames h ts → AreInFrames (kick p ∷ h) ts
    one_more [] k = tt
    one_more (t ∷ ts) k = (k.0, one_more ts k.1)

kicks_track : (first : ℕ) (ps : List ℕ) (h : List Entry) (e : ℕ) → epoch first (kicked_past ps h) e ≡ epoch first h e
kicks_track first [] h e = refl
kicks_track first (p ∷ ps) h e = kicks_track first ps (kick p ∷ h) e

kicks_aside : (ps : List ℕ) (h : List Entry) → aside (kicked_past ps h) ≡ aside h
kicks_aside [] h = refl
kicks_aside (p ∷ ps) h = kicks_aside ps (kick p ∷ h)

kicks_last : (p : ℕ) (ps : List ℕ) (h : List Entry) → behind_of (last_event (kicked_past ps (kick p ∷ h)) actors.Reclaimer) ≡ last.Nothing
kicks_last p [] h = refl
kicks_last p (q ∷ ps) h = kicks_last q ps (kick p ∷ h)

-- one kick of a pass, where no page goes out beside it
kick_goes : (j : JobView) (p : ℕ) (h : List Entry) (g : Page) (rest : List Page) (form : passes.Form) → aside h ≡ passes.NoneAside
    → pass j h ≡ Tries g rest form → pass j (kick p ∷ h) ≡ Tries g rest (passes.kicked (keepers h g) form)
kick_goes j p h g rest form none is =
    ap (λ x. decided j (free_count j.epc (kick p ∷ h)) (if is_aside x (Kick (cpu_of p)) then pass j h else pass_by j h (Kick (cpu_of p))
    (pass j h)))
    none
    ∙ ap (λ x. decided j (free_count j.epc (kick p ∷ h)) (pass_by j h (Kick (cpu_of p)) x)) is

-- with these left
kicks_left : (j : JobView) (ps : List ℕ) (h : List Entry) (g : Page) (rest : List Page) → aside h ≡ passes.NoneAside
    → pass j h ≡ Tries g rest (kicks_on ps) → pass j (kicked_past ps h) ≡ Tries g rest Third
kicks_left j [] h g rest none k = k
kicks_left j (p ∷ ps) h g rest none k =
    kicks_left j ps (kick p ∷ h) g rest none (kick_goes j p h g rest (passes.Kicks (p ∷ ps)) none k)

abbrev to_kick : Due → List ℕ
to_kick (KicksAll ps) = ps
to_kick _ = []

module _ (made : Making) (j : JobView) (past : List Entry) (v v' : PassView) (d d' : Driver) (m m' : Parts) (turn : PassTurn)
    (r : Ready made j past v d m) where
  kicks_stand : (next epoch : ℕ) (t : InTries made.first_epoch j past v next (forms.Kick epoch false)) → v.aside ≡ asides.None
      → v.stage ≡ stages.Tries next (forms.Kick epoch false) → (ps : List ℕ) → keepers past t.one.page ≡ ps
      → StandsAt made.first_epoch j (kicked_past ps past) (all_kicked (length ps) v)
  kicks_stand next epoch t alone is [] none =
      subst (λ x. StandsAt made.first_epoch j past (record v { stage = all_kicked_stage 0 x })) (sym is) (record {
        same = t.passed ∙ ap (λ ts. tries_of ts ToKick) (sym t.is);
        frames = subst (λ x. AreInFrames past (waiting_by v.taken x)) is r.stands.frames;
        stage = subst (IsForm made.first_epoch past (forms.Kick epoch true)) (sym t.is) t.told;
        aside = r.stands.aside;
        leaves = r.stands.leaves;
        behind = r.stands.behind;
        out = r.stands.out;
      })
  kicks_stand next epoch t alone is (p ∷ ps) some =
      subst (λ x. StandsAt made.first_epoch j (kicked_past (p ∷ ps) past) (record v {
        stage =
            all_kicked_stage (length (p ∷ ps)) x;
        behind = last.Nothing;
      }))
      (sym is) (record {
        same =
            kicks_left j ps (kick p ∷ past) t.one.page (pages_in t.rest) none
            (kick_goes j p past t.one.page (pages_in t.rest) ToKick none t.passed
            ∙ ap (λ qs. Tries t.one.page (pages_in t.rest) (kicks_on (drop 1 qs))) some)
            ∙ ap (λ ts. tries_of ts Third) (sym t.is);
        frames =
            kicks_still (p ∷ ps) past (drop next v.taken) (subst (λ x. AreInFrames past (waiting_by v.taken x)) is r.stands.frames);
        stage = subst (IsForm made.first_epoch (kicked_past (p ∷ ps) past) (forms.Third epoch)) (sym t.is)
            (t.told ∙ sym (kicks_track made.first_epoch (p ∷ ps) past t.one.page.enclave));
        aside = kicks_aside (p ∷ ps) past ∙ r.stands.aside;
        leaves = subst (IsAside (kicked_past (p ∷ ps) past)) (sym alone) tt;
        behind = sym (kicks_last p ps past);
        out = tt;
      })
    where
      none : aside past ≡ passes.NoneAside
      none = r.stands.aside ∙ ap aside_by alone

  abbrev After : PassTurn → PassView → Type 0
  After x w = StandsAfter made.first_epoch j past x w × (is_amid w ≡ false)

  waited : (why : Why) → turn ≡ turns.Again why → (IsWait turn → v' ≡ v) → After turn v'
  waited why told waits =
      subst (λ x. After x v') (sym told)
      (subst (After (turns.Again why)) (sym (waits (subst IsWait (sym told) tt))) (r.stands, r.whole))

  kicked_all : (next epoch : ℕ) (one : Taken) → v.aside ≡ asides.None → due_in d (state_of m) v.behind ≡ None
      → v.stage ≡ stages.Tries next (forms.Kick epoch false) → slice_get v.taken next ≡ Some one
      → turn ≡ turns.Kicks (bits_of (keepers_by m one.page.enclave epoch))
      → v' ≡ all_kicked (length (keepers_by m one.page.enclave epoch)) v → After turn v'
  kicked_all next epoch one alone none is found told to =
      subst (λ x. After x v') (sym told)
      (subst (After (turns.Kicks (bits_of (keepers_by m one.page.enclave epoch))))
      (sym (to ∙ ap (λ qs. all_kicked (length qs) v) (sym same))) (stood, amid))
    where
      t : InTries made.first_epoch j past v next (forms.Kick epoch false)
      t = in_tries made j past v d m r next (forms.Kick epoch false) is

      its : t.one ≡ one
      its = same_Some t.one one (sym t.found ∙ found)

      same : keepers past t.one.page ≡ keepers_by m one.page.enclave epoch
      same =
          keepers_are made j past v d m r next epoch (forms.Kick epoch false) t.one is refl t.found
          ∙ ap (λ (x : Taken). keepers_by m x.page.enclave epoch) its

      -- whom the turn is to kick
      due : going_due j past (outs_kept j past) false ≡ KicksAll (keepers past t.one.page)
      due =
          ap (λ x. ahead_gives j past false (ahead_by x (due_with j past (outs_kept j past)))) (r.stands.aside ∙ ap aside_by alone)
          ∙ ap (λ o. ahead_gives j past false (ahead_by passes.NoneAside o)) (sym (due_is made j past v d m r) ∙ none)
          ∙ ap (pass_due j past false) t.passed

      stood : (ps : List ℕ) → going_due j past (outs_kept j past) false ≡ KicksAll ps
          → StandsAt made.first_epoch j (kicked_past ps past) (all_kicked (length (keepers past t.one.page)) v)
      stood ps kicks =
          subst (λ qs. StandsAt made.first_epoch j (kicked_past qs past) (all_kicked (length (keepers past t.one.page)) v))
          (ap to_kick (sym due ∙ kicks)) (kicks_stand next epoch t alone is (keepers past t.one.page) refl)

      amid : is_amid (all_kicked (length (keepers past t.one.page)) v) ≡ false
      amid = ap (λ x. is_amid_stage (all_kicked_stage (length (keepers past t.one.page)) x)) is
          ∙ by_count (length (keepers past t.one.page))
        where
          by_count : (n : ℕ) → is_amid_stage (all_kicked_stage n (stages.Tries next (forms.Kick epoch false))) ≡ false
          by_count zero = refl
          by_count (suc n) = refl

  pub turn_stands : TurnSays v d m turn v' d' m' → (IsWait turn → v' ≡ v) → After turn v'
  turn_stands k waits = by_move (turn_moves v v' d d' m m' turn k)
    where
      kept : TurnKeeps made.first_epoch j past turn
      kept = turn_keeps made j past v v' d d' m m' turn r k

      by_move : Moves d m v turn v' → After turn v'
      by_move (Waited why told) = waited why told waits
      by_move (KickedAll next epoch one alone none is found told to) = kicked_all next epoch one alone none is found told to
      by_move (Entered event told to amid room) =
          let keeps = keeps_of made.first_epoch j past (by_reclaimer event) event (subst (TurnKeeps made.first_epoch j past) told kept) in
          subst (λ x. After x v') (sym told) (
            stands_of made.first_epoch j past (by_reclaimer event) event v'
                (subst (StandsBehind made.first_epoch j past (by_reclaimer event)) (sym to)
                (goes made j past v d m r event keeps)),
            amid r.whole,
          )
