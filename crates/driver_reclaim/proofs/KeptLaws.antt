-- The entry of a turn keeps the rules Age and Kick, moves its page, names a slot as the driver does, and tells what is so.
use Rattle.std.proofs.Common.{◌≡◌, ◌⊎◌, inl, inr, ℕ, ◌^◌, ◌==◌, not, nat_le, nat_lt, Bool, true, false, if◌then◌else◌, refl, sym, ◌∙◌}
use Rattle.std.proofs.Common.{ap, subst, List, [], ◌∷◌, Option, Some, None}
use Rattle.std.proofs.lemmas.Bool.{eq-eqb, false≢true}
use Rattle.sgx_types.proofs.Pages.{same_pages}
use Rattle.sgx_types.proofs.Truths.{both_true}
use Rattle.sgx_types.specs.Making.{Making}
use Rattle.sgx_types.specs.Pages.{is_own_page}
use Rattle.sgx_types.specs.declared.names.Actor.TheVariants as actors
use Rattle.sgx_types.specs.declared.names.Frame.{Frame}
use Rattle.sgx_types.specs.declared.names.Page.{Page}
use Rattle.sgx_types.specs.declared.names.SlotAt.{SlotAt}
use Rattle.sgx_types.specs.declared.names.TheConstants.{LAST_EPOCH}
use Rattle.sgx_types.specs.declared.names.VaSlot.{VaSlot}
use Rattle.sgx_rules.proofs.Contents.{IsHeld}
use Rattle.sgx_rules.specs.declared.entries.Action.TheVariants as actions
use Rattle.sgx_rules.specs.declared.entries.Action.TheVariants.{Ewb, EwbStart, Track}
use Rattle.sgx_rules.specs.declared.entries.Answer.TheVariants as answers
use Rattle.sgx_rules.specs.declared.entries.Entry.{Entry}
use Rattle.sgx_rules.specs.declared.entries.Event.{Event}
use Rattle.sgx_rules.specs.declared.entries.Event.TheVariants.{Age, Did, Refused}
use Rattle.sgx_rules.specs.declared.entries.Look.{Look}
use Rattle.sgx_rules.specs.declared.entries.Look.TheVariants as looks
use Rattle.sgx_rules.specs.declared.refusals.Refusal.TheVariants as why
use Rattle.sgx_rules.specs.Epochs.{epoch, epoch_in}
use Rattle.sgx_rules.specs.Eviction.{is_drained, kept_back}
use Rattle.sgx_rules.specs.Frames.{content, is_blocked, is_this, page_there, vas_made}
use Rattle.sgx_rules.specs.Slots.{next_version}
use Rattle.sgx_rules.specs.Table as table
use Rattle.job_grammar.specs.Jobs.{JobView}
use Rattle.sgx_types.specs.Pages.{frame_at}
use Rattle.driver_slots.specs.inner.Keeper.{AllOut, is_ours}
use Rattle.sgx_machine.specs.inner.Parts.{Parts, state_of}
use Rattle.driver_rules.specs.Ages as ages
use Rattle.driver_rules.specs.Ages.{Ahead, ahead_by, ahead_due, FormOf, FormUnless, head_of, IsAhead, KeptAgeRule, LookOf}
use Rattle.driver_rules.specs.Dues as dues
use Rattle.driver_rules.specs.Dues.{Due, is_look, TriesOut}
use Rattle.driver_rules.specs.declared.waits.Why.TheVariants as waits
use Rattle.driver_rules.specs.inner.Reclaims.{are_held, in_frame, leaving_due, look_at, look_due, pass_due, third_due, tries_out}
use Rattle.driver_rules.specs.inner.Slotted.{fixed_slot, is_page_slot, NamesSlot, SlotTells}
use Rattle.driver_rules.specs.Passes as passes
use Rattle.driver_rules.specs.Passes.{aside, Between, Blocking, First, Form, is_aside, keepers, Kicks, Pass, pass, Scan, Sealing, Second}
use Rattle.driver_rules.specs.Passes.{Third, ToKick, ToTrack, Tries}
use Rattle.driver_rules.specs.Places.{Absent, active, Away, frame_leaving, Here, Leaving, Loading, Place, place}
use Rattle.driver_rules.specs.Spares.{due_with, outs_kept}
use Rattle.driver_rules.proofs.ReclaimLaws.{aside_kept}
use Rattle.driver_laws.proofs.EpochLaws.{drained_then}
use Rattle.driver_laws.proofs.MarkLaws.{head_own}
use Rattle.driver_laws.proofs.RowLaws.{own_held}
use Rattle.driver_laws.proofs.StillLaws.{holds_here}
use Rattle.driver_laws.specs.inner.Agrees.{first_kept}
use Rattle.driver_laws.specs.inner.Counted.{is_own_held}
use Rattle.driver_laws.specs.inner.Kinds.{CanMove}
use Rattle.driver_laws.specs.inner.Sound.{IsSound}
use Rattle.driver_laws.specs.inner.Stages.{HasPages, IsTaken}
use Rattle.driver_laws.specs.inner.Tracks.{IsTracked, KeepsTracks, TryTells}
use Rattle.driver_tables.specs.declared.driver.Driver.{Driver}
use Rattle.driver_pass.specs.declared.stages.Aside.{Aside}
use Rattle.driver_pass.specs.declared.stages.Aside.TheVariants as asides
use Rattle.driver_pass.specs.declared.stages.Taken.{Taken}
use Rattle.driver_pass.specs.inner.Dues.{due_in}
use Rattle.driver_pass.specs.inner.Standing.{TellsEpoch}
use Rattle.driver_pass.specs.inner.Viewed.{aside_by, is_kicked_stage, PassView}
use Rattle.driver_reclaim.specs.declared.turns.PassTurn.{PassTurn}
use Rattle.driver_reclaim.specs.declared.turns.PassTurn.TheVariants as turns
use Rattle.driver_reclaim.specs.inner.Answers.{by_reclaimer, AnswersTry, IsTurn, track_turn}
use Rattle.driver_reclaim.specs.inner.Kept.{KeepsReclaim, TurnKeeps}
use Rattle.driver_reclaim.specs.inner.Ready.{Ready}
use Rattle.driver_reclaim.specs.inner.Turning.{AsideSays, DueSays, IsAsideTurn, IsDueLook, TurnSays}
use Rattle.driver_reclaim.proofs.PassLaws.{due_aside, due_is, due_leaving, out_is}
use Rattle.driver_reclaim.proofs.DueLaws.{stage_right}
use Rattle.driver_reclaim.proofs.RowLaws.{fixed_alone, fixed_at, same_frame, start_told}
use Rattle.driver_reclaim.proofs.SeenLaws.{IsHereAt}
use Rattle.driver_reclaim.proofs.StageLaws.{IsToLeave, owned, to_leave}

-- what stands in a frame is the page there
pub there_page : (o : Option Page) (g : Page) → is_this o g ≡ true → o ≡ Some g
there_page None g h = absurd (false≢true h)
there_page (Some page) g h = ap Some (same_pages page g h)

-- ---- the form of an event

-- within the tries of a page
abbrev pub FormIn : List Entry → Pass → Event → Type 0
FormIn past (Tries g rest form) event = ages.InForm past g form event
FormIn past _ event = Unit {0}

pub form_of : (past : List Entry) (p : Pass) (event : Event) → FormIn past p event → FormOf past p actors.Reclaimer event
form_of past (Tries g rest form) event h = by_test (is_aside (aside past) event)
  where
    by_test : (b : Bool) → FormUnless past b g form event
    by_test true = tt
    by_test false = h
form_of past (Between works) event h = tt
form_of past (Scan left taken) event h = tt
form_of past (Blocking due taken) event h = tt

-- ---- an event of a pass

pub record PassKeeps (first : ℕ) (j : JobView) (past : List Entry) (p : Pass) (event : Event) : Type 0 where
  pub look : LookOf j past event
  pub in_pass : ages.InPass past p event
  pub form : FormIn past p event
  pub can : CanMove past event
  pub tells : TryTells past event
  pub epoch : TellsEpoch first past event
  pub slot : SlotTells j past event

abbrev pub PassTurnKeeps : ℕ → JobView → List Entry → Pass → PassTurn → Type 0
PassTurnKeeps first j past p (turns.One e) = PassKeeps first j past p e.event
PassTurnKeeps first j past p (turns.Seal e) = PassKeeps first j past p e.event
PassTurnKeeps first j past p (turns.Spent e) = PassKeeps first j past p e.event
PassTurnKeeps first j past p _ = Unit {0}

-- which is due where the pass goes on
pub pass_event : (first : ℕ) (j : JobView) (past : List Entry) (p : Pass) (event : Event) → pass j past ≡ p
    → ages.ahead j past (outs_kept j past) ≡ ages.GoesOn → PassKeeps first j past p event → KeepsReclaim first j past event
pass_event first j past p event same goes k = record {
  age =
      subst (λ x. IsAhead j past x event) (sym goes)
      (record { look = k.look; in_pass = subst (λ q. ages.InPass past q event) (sym same) k.in_pass });
  form = subst (λ q. FormOf past q actors.Reclaimer event) (sym same) (form_of past p event k.form);
  can = k.can;
  tells = k.tells;
  epoch = k.epoch;
  slot = k.slot;
}

pass_turn : (first : ℕ) (j : JobView) (past : List Entry) (p : Pass) (turn : PassTurn) → pass j past ≡ p
    → ages.ahead j past (outs_kept j past) ≡ ages.GoesOn → PassTurnKeeps first j past p turn → TurnKeeps first j past turn
pass_turn first j past p (turns.One e) same goes k = pass_event first j past p e.event same goes k
pass_turn first j past p (turns.Seal e) same goes k = pass_event first j past p e.event same goes k
pass_turn first j past p (turns.Spent e) same goes k = pass_event first j past p e.event same goes k
pass_turn first j past p (turns.Kicks bits) same goes k = tt
pass_turn first j past p (turns.Again reason) same goes k = tt

-- a last try is a try
is_try : (event : Event) → ages.IsLastTry event → ages.IsTry event
is_try (Did (EwbStart f slot) answer) h = tt
is_try (Refused (EwbStart f slot) why.VersionSpent) h = tt
is_try (Refused (EwbStart f slot) (why.SlotOccupied version)) h = tt
is_try event h = absurd h

-- behind the kicks a try is never refused for want of a track
never : (past : List Entry) (g : Page) (n : ℕ) → IsSound past → IsTracked past g → keepers past g ≡ [] → place past g ≡ Leaving n
    → is_drained past n ≡ false → ⊥
never past g n s t none at not_drained =
    false≢true (sym not_drained ∙ subst (λ k. is_drained past k ≡ true) (same_frame past g t.frame n t.waiting.leaving at)
    (drained_then past g t s none))

module _ (made : Making) (j : JobView) (past : List Entry) (v v' : PassView) (d d' : Driver) (m m' : Parts) (turn : PassTurn)
    (r : Ready made j past v d m) where
  s : IsSound past
  s = r.agrees.sound

  abbrev Keep : Pass → PassTurn → Type 0
  Keep p x = PassTurnKeeps made.first_epoch j past p x

  abbrev Right : Due → Type 0
  Right due = IsTurn made j past d.slots due turn

  -- ---- slots

  -- a slot of the driver's is one for TCS and REG pages
  page_slot : (slot : VaSlot) → is_ours d.slots slot ≡ true → is_page_slot j slot ≡ true
  page_slot slot ours =
      by_first (slot.va == 0) refl
      (both_true (nat_le (first_kept j slot.va) slot.index) (nat_lt slot.index 512)
      (both_true (nat_lt slot.va (vas_made past)) _ (sym (r.agrees.shows.slots.ours slot) ∙ ours)).1).0
    where
      by_first : (b : Bool) → (slot.va == 0) ≡ b → nat_le (first_kept j slot.va) slot.index ≡ true → is_page_slot j slot ≡ true
      by_first true is low = rw is (sym (ap (λ n. nat_le n slot.index) (rw is refl)) ∙ low)
      by_first false is low = rw is refl

  -- ---- events of a pass

  -- a look, where a look is allowed
  look_keeps : (p : Pass) → ((g : Page) (look : Look) → ages.InPass past p (Age g look)) → ((g : Page) (look : Look)
      → FormIn past p (Age g look))
      → Right (look_due j past) → Keep p turn
  look_keeps p in_pass form k = by_head (head_of (active past)) refl k
    where
      can : (g : Page) → head_of (active past) ≡ Some g → (look : Look) → CanMove past (Age g look)
      can g is looks.Taken = (λ own. is, λ other. absurd (false≢true (sym other ∙ head_own past g s is)))
      can g is looks.Young = λ own. is
      can g is looks.Held = λ own. is
      can g is looks.NoRoom = λ own. is

      by_head : (o : Option Page) → head_of (active past) ≡ o → Right (look_at j past o) → Keep p turn
      by_head None is l = subst (Keep p) (sym l) tt
      by_head (Some g) is l = subst (Keep p) (sym l.told) (record {
        look = record { head = is; told = l.right };
        in_pass = in_pass g l.look;
        form = form g l.look;
        can = can g is l.look;
        tells = tt;
        epoch = tt;
        slot = tt;
      })

  block_keeps : (g : Page) (gs taken : List Page) → Right (leaving_due past g (λ f. dues.Makes (actions.Block (frame_at f))))
      → Keep (Blocking (g ∷ gs) taken) turn
  block_keeps g gs taken k = by_place (place past g) refl k
    where
      by_place : (p : Place) → place past g ≡ p → Right (in_frame g (frame_leaving p) (λ f. dues.Makes (actions.Block (frame_at f))))
          → Keep (Blocking (g ∷ gs) taken) turn
      by_place (Leaving f) is l = subst (Keep (Blocking (g ∷ gs) taken)) (sym l)
          (record { look = tt; in_pass = is; form = tt; can = tt; tells = tt; epoch = tt; slot = tt })
      by_place Absent is l = subst (Keep (Blocking (g ∷ gs) taken)) (sym l) tt
      by_place (Here f) is l = subst (Keep (Blocking (g ∷ gs) taken)) (sym l) tt
      by_place (Loading f slot) is l = subst (Keep (Blocking (g ∷ gs) taken)) (sym l) tt
      by_place (Away slot) is l = subst (Keep (Blocking (g ∷ gs) taken)) (sym l) tt

  -- what is allowed of a try in a form
  record TriesIn (g : Page) (form : Form) : Type 0 where
    last : (event : Event) → ages.IsLastTry event → ages.InForm past g form event
    again : (n : ℕ) (f : Frame) (at : SlotAt) (e o : ℕ) → place past g ≡ Leaving n → is_drained past n ≡ false
        → ages.InForm past g form (Refused (EwbStart f at) (why.NotTracked e o))

  -- a try, by whether the page is drained, the slot is empty and the last version was drawn
  abbrev try_by : ℕ → SlotAt → ℕ → Bool → Bool → Bool → PassTurn
  try_by f at version drained empty spent =
      if drained
      then (if empty
      then (if spent then turns.Spent (by_reclaimer (Refused (EwbStart (frame_at f) at) why.VersionSpent))
      else turns.Seal (by_reclaimer (Did (EwbStart (frame_at f) at) (answers.Version (next_version made.first_version past)))))
      else turns.One (by_reclaimer (Refused (EwbStart (frame_at f) at) (why.SlotOccupied version))))
      else turns.One
      (by_reclaimer (Refused (EwbStart (frame_at f) at) (why.NotTracked (epoch_in made.first_epoch past f) (kept_back past f))))

  try_keeps : (g : Page) (rest : List Page) (form : Form) → is_own_page g ≡ true → IsTaken past true g → TriesIn g form
      → Right (tries_out past g) → Keep (Tries g rest form) turn
  try_keeps g rest form own w allowed k = by_place (place past g) refl k
    where
      tried : (f : ℕ) → place past g ≡ Leaving f → (t : AnswersTry made past d.slots f turn) → Keep (Tries g rest form) turn
      tried f at t =
          subst (Keep (Tries g rest form)) (sym t.told)
          (by_tests (is_drained past f) refl (t.version == 0) (next_version made.first_version past == 2 ^ 64))
        where
          blocked : is_blocked past f ≡ true
          blocked = subst (λ n. is_blocked past n ≡ true) (same_frame past g w.frame f w.leaving at) w.block

          held : IsHeld (content past f) g
          held = own_held (content past f) g own (holds_here past g (Leaving f) f s at (eq-eqb f f refl))

          kept_in : outs_kept j past t.slot ≡ false
          kept_in = sym (out_is made j past v d m r t.slot t.ours) ∙ t.free

          names : NamesSlot j past f t.at
          names = record {
            page = g;
            there = ap page_there held.holds;
            slot = t.slot;
            found = t.named;
            for_page = record {
              own = λ mine. page_slot t.slot t.ours;
              free = λ mine. kept_in;
              fixed = λ other. absurd (false≢true (sym other ∙ own));
            };
          }

          by_tests : (b : Bool) → is_drained past f ≡ b → (z n : Bool) → Keep (Tries g rest form) (try_by f t.at t.version b z n)
          by_tests true is true true =
              record { look = tt; in_pass = at; form = allowed.last _ tt; can = tt; tells = tt; epoch = tt; slot = tt }
          by_tests true is true false = record {
            look = tt;
            in_pass = at;
            form = allowed.last _ tt;
            can = (
              (g, at),
              t.slot,
              t.named,
              r.agrees.shows.slots.here t.slot t.ours t.free,
              λ h has. false≢true (sym t.free ∙ r.agrees.shows.slots.used h t.slot has t.ours),
            );
            tells = λ mine. is;
            epoch = tt;
            slot = names;
          }
          by_tests true is false n = record {
            look = tt;
            in_pass = at;
            form = allowed.last _ tt;
            can = tt;
            tells = λ mine. is;
            epoch = tt;
            slot = record { slot = t.slot; found = t.named; free = kept_in };
          }
          by_tests false is z n = record {
            look = tt;
            in_pass = at;
            form = allowed.again f (frame_at f) t.at (epoch_in made.first_epoch past f) (kept_back past f) at is;
            can = tt;
            tells = (blocked, is, ap table.is_own held.holds);
            epoch = refl;
            slot = tt;
          }

      by_place : (p : Place) → place past g ≡ p → Right (in_frame g (frame_leaving p) (TriesOut g)) → Keep (Tries g rest form) turn
      by_place (Leaving f) is l = by_slot (rw own at l)
        where
          by_slot : AnswersTry made past d.slots f turn ⊎ (AllOut d.slots × (turn ≡ turns.Again waits.NoSlot))
              → Keep (Tries g rest form) turn
          by_slot (inl t) = tried f is t
          by_slot (inr none) = subst (Keep (Tries g rest form)) (sym none.1) tt
      by_place Absent is l = subst (Keep (Tries g rest form)) (sym l) tt
      by_place (Here f) is l = subst (Keep (Tries g rest form)) (sym l) tt
      by_place (Loading f slot) is l = subst (Keep (Tries g rest form)) (sym l) tt
      by_place (Away slot) is l = subst (Keep (Tries g rest form)) (sym l) tt

  track_keeps : (g : Page) (rest : List Page) → turn ≡ track_turn made.first_epoch past g.enclave → Keep (Tries g rest ToTrack) turn
  track_keeps g rest k =
      subst (Keep (Tries g rest ToTrack)) (sym k) (by_epoch (epoch made.first_epoch past g.enclave == LAST_EPOCH))
    where
      by_epoch : (b : Bool) → Keep (Tries g rest ToTrack) (if b then turns.Spent
          (by_reclaimer (Refused (Track g.enclave) why.EpochSpent)) else turns.One (by_reclaimer (Did (Track g.enclave) answers.Plain)))
      by_epoch true = record { look = tt; in_pass = tt; form = refl; can = tt; tells = tt; epoch = tt; slot = tt }
      by_epoch false = record { look = tt; in_pass = tt; form = refl; can = tt; tells = tt; epoch = tt; slot = tt }

  third_keeps : (g : Page) (rest : List Page) (form : Form) → is_own_page g ≡ true → IsTracked past g → IsTaken past true g
      → (keepers past g ≡ [] → (event : Event) → ages.IsLastTry event → ages.InForm past g form event)
      → Right (third_due past g (keepers past g)) → Keep (Tries g rest form) turn
  third_keeps g rest form own t w last k = by_keepers (keepers past g) refl k
    where
      by_keepers : (ps : List ℕ) → keepers past g ≡ ps → Right (third_due past g ps) → Keep (Tries g rest form) turn
      by_keepers [] is l =
          try_keeps g rest form own w
          (record { last = last is; again = λ n f at e o here not_drained. absurd (never past g n s t is here not_drained) }) l
      by_keepers (p ∷ ps) is l = subst (Keep (Tries g rest form)) (sym l) tt

  -- the end of a start is not asked of a turn
  sealing_keeps : (g : Page) (rest : List Page) → Right (leaving_due past g (λ f. dues.Ends (Ewb (frame_at f))))
      → Keep (Tries g rest Sealing) turn
  sealing_keeps g rest k = by_place (frame_leaving (place past g)) k
    where
      by_place : (o : Option ℕ) → Right (in_frame g o (λ f. dues.Ends (Ewb (frame_at f)))) → Keep (Tries g rest Sealing) turn
      by_place None l = subst (Keep (Tries g rest Sealing)) (sym l) tt
      by_place (Some f) l = absurd l

  pass_keeps : (p : Pass) (kicked : Bool) → ((g : Page) (f : ℕ) → place past g ≡ Leaving f → is_own_page g ≡ true) → KeepsTracks past p
      → HasPages past p → Right (pass_due j past kicked p) → Keep p turn
  pass_keeps (Between false) kicked own tracks has k = subst (Keep (Between false)) (sym k) tt
  pass_keeps (Between true) kicked own tracks has k = by_held (are_held j past) k
    where
      by_held : (b : Bool) → Right (if b then dues.Waits waits.AllHeld else look_due j past) → Keep (Between true) turn
      by_held true l = subst (Keep (Between true)) (sym l) tt
      by_held false l = look_keeps (Between true) (λ g look. refl) (λ g look. tt) l
  pass_keeps (Scan left taken) kicked own tracks has k = look_keeps (Scan left taken) (λ g look. tt) (λ g look. tt) k
  pass_keeps (Blocking [] taken) kicked own tracks has k = absurd k
  pass_keeps (Blocking (g ∷ gs) taken) kicked own tracks has k = block_keeps g gs taken k
  pass_keeps (Tries g rest First) kicked own tracks has k =
      try_keeps g rest First (own g has.page.frame has.page.leaving) has.page
      (record { last = λ event h. is_try event h; again = λ n f at e o here not_drained. tt }) k
  pass_keeps (Tries g rest Second) kicked own tracks has k =
      try_keeps g rest Second (own g has.page.frame has.page.leaving) has.page
      (record { last = λ event h. is_try event h; again = λ n f at e o here not_drained. tt }) k
  pass_keeps (Tries g rest ToTrack) kicked own tracks has k = track_keeps g rest k
  pass_keeps (Tries g rest ToKick) false own tracks has k = subst (Keep (Tries g rest ToKick)) (sym k) tt
  pass_keeps (Tries g rest ToKick) true own tracks has k =
      third_keeps g rest ToKick (own g has.page.frame has.page.leaving) tracks has.page
      (λ is event h. subst (λ ps. ages.IsKickOrTry ps event) (sym is) h) k
  pass_keeps (Tries g rest Third) kicked own tracks has k =
      third_keeps g rest Third (own g has.page.frame has.page.leaving) tracks has.page (λ is event h. h) k
  pass_keeps (Tries g rest (Kicks ps)) kicked own tracks has k = subst (Keep (Tries g rest (Kicks ps))) (sym k) tt
  pass_keeps (Tries g rest Sealing) kicked own tracks has k = sealing_keeps g rest k

  -- ---- beside the passes

  -- a look at a page that is due
  due_keeps : (page : Page) → aside past ≡ passes.NoneAside → due_with j past (outs_kept j past) ≡ Some page
      → IsDueLook page v d turn v' d' → TurnKeeps made.first_epoch j past turn
  due_keeps page none is k = subst (TurnKeeps made.first_epoch j past) (sym k.told) (by_look k.look k.right)
    where
      other : is_own_page page ≡ false
      other = due_aside made j past v d m r page is

      beside : (look : Look) → is_aside (aside past) (Age page look) ≡ true
      beside look = ap (λ x. is_aside x (Age page look)) none ∙ ap not other

      goes : (event : Event) → IsAhead j past (ages.Looks page) event → IsAhead j past (ages.ahead j past (outs_kept j past)) event
      goes event h =
          subst (λ x. IsAhead j past x event) (sym (ap (λ x. ahead_by x (due_with j past (outs_kept j past))) none ∙ ap ahead_due is)) h

      by_look : (look : Look) → is_look false false look ≡ true → KeepsReclaim made.first_epoch j past (Age page look)
      by_look looks.Taken right = record {
        age = goes (Age page looks.Taken) refl;
        form = aside_kept past (pass j past) (Age page looks.Taken) (beside looks.Taken);
        can = (λ own. absurd (false≢true (sym other ∙ own)), λ h. due_leaving made j past v d m r page is);
        tells = tt;
        epoch = tt;
        slot = tt;
      }
      by_look looks.NoRoom right = record {
        age = goes (Age page looks.NoRoom) refl;
        form = aside_kept past (pass j past) (Age page looks.NoRoom) (beside looks.NoRoom);
        can = λ own. absurd (false≢true (sym other ∙ own));
        tells = tt;
        epoch = tt;
        slot = tt;
      }
      by_look looks.Held right = absurd (false≢true right)
      by_look looks.Young right = absurd (false≢true right)

  -- the start of one that was taken
  start_keeps : (one : Taken) → v.aside ≡ asides.ToGo one → IsAsideTurn one v d (state_of m) turn v' (state_of m')
      → TurnKeeps made.first_epoch j past turn
  start_keeps one is k =
      subst (TurnKeeps made.first_epoch j past)
      (sym (k.told ∙ start_told made j past d m r.agrees one t.other t.at t.none at k.entry (state_of m') k.started.named k.started.step))
      (by_spent (next_version made.first_version past == 2 ^ 64))
    where
      t : IsToLeave past one
      t = to_leave made j past v d m one r is

      at : SlotAt
      at = k.started.at

      here : IsHereAt past (fixed_slot j one.page) at
      here = fixed_at made j past d m r.agrees one t.other t.at t.none at k.started.named

      there : page_there (content past one.frame.0) ≡ Some one.page
      there =
          there_page (page_there (content past one.frame.0)) one.page
          (holds_here past one.page (Leaving one.frame.0) one.frame.0 s t.at (eq-eqb one.frame.0 one.frame.0 refl))

      beside : (event : Event) → is_aside (passes.IsToGo one.page) event ≡ true → is_aside (aside past) event ≡ true
      beside event h = ap (λ x. is_aside x event) t.going ∙ h

      goes : (event : Event) → IsAhead j past (ages.TriesNext one.page) event → IsAhead j past (ages.ahead j past (outs_kept j past)) event
      goes event h =
          subst (λ x. IsAhead j past x event) (sym (ap (λ x. ahead_by x (due_with j past (outs_kept j past))) t.going)) h

      by_spent : (b : Bool) → TurnKeeps made.first_epoch j past (if b
          then turns.Spent (by_reclaimer (Refused (EwbStart (frame_at one.frame.0) at) why.VersionSpent))
          else turns.Seal
          (by_reclaimer (Did (EwbStart (frame_at one.frame.0) at) (answers.Version (next_version made.first_version past)))))
      by_spent true = record {
        age = goes (Refused (EwbStart (frame_at one.frame.0) at) why.VersionSpent) t.at;
        form = aside_kept past (pass j past) (Refused (EwbStart (frame_at one.frame.0) at) why.VersionSpent)
            (beside (Refused (EwbStart (frame_at one.frame.0) at) why.VersionSpent) refl);
        can = tt;
        tells = tt;
        epoch = tt;
        slot = tt;
      }
      by_spent false = record {
        age = goes (Did (EwbStart (frame_at one.frame.0) at) (answers.Version (next_version made.first_version past))) t.at;
        form = aside_kept past (pass j past)
            (Did (EwbStart (frame_at one.frame.0) at) (answers.Version (next_version made.first_version past)))
            (beside (Did (EwbStart (frame_at one.frame.0) at) (answers.Version (next_version made.first_version past))) refl);
        can = (
          (one.page, t.at),
          fixed_slot j one.page,
          here.found,
          here.here,
          fixed_alone made j past d m r.agrees one t.other t.at t.none,
        );
        tells = λ own. absurd (false≢true (sym (ap is_own_held there ∙ t.other) ∙ own));
        epoch = tt;
        slot = record {
          page = one.page;
          there = there;
          slot = fixed_slot j one.page;
          found = here.found;
          for_page = record {
            own = λ own. absurd (false≢true (sym t.other ∙ own));
            free = λ own. absurd (false≢true (sym t.other ∙ own));
            fixed = λ other. refl;
          };
        };
      }

  -- ---- all of it

  pub turn_keeps : TurnSays v d m turn v' d' m' → TurnKeeps made.first_epoch j past turn
  turn_keeps k = by_aside v.aside refl k
    where
      by_due : v.aside ≡ asides.None → (o : Option Page) → due_in d (state_of m) v.behind ≡ o → DueSays o v d m turn v' d' m'
          → TurnKeeps made.first_epoch j past turn
      by_due alone (Some page) is says =
          due_keeps page (r.stands.aside ∙ ap aside_by alone) (sym (due_is made j past v d m r) ∙ is) says
      by_due alone None is says =
          let none : aside past ≡ passes.NoneAside = r.stands.aside ∙ ap aside_by alone in
          pass_turn made.first_epoch j past (pass j past) turn refl
          (ap (λ x. ahead_by x (due_with j past (outs_kept j past))) none ∙ ap ahead_due (sym (due_is made j past v d m r) ∙ is))
          (pass_keeps (pass j past) (is_kicked_stage v.stage) (owned made j past v d m r alone) r.agrees.tracks r.agrees.pages.pages
          (stage_right made j past v v' d d' m m' turn r alone v.stage refl says))

      by_aside : (x : Aside) → v.aside ≡ x → AsideSays x v d m turn v' d' m' → TurnKeeps made.first_epoch j past turn
      by_aside (asides.ToGo one) is says = start_keeps one is says.0
      by_aside (asides.Going one) is says = absurd says
      by_aside asides.None is says = by_due is (due_in d (state_of m) v.behind) refl says
