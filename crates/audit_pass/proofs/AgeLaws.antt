-- What is told of the rule Age is so.
use Rattle.std.proofs.Common.{◌≡◌, ℕ, zero, suc, ◌≤◌, ◌&&◌, Bool, true, false, refl, sym, ◌∙◌, ap, subst, List, []}
use Rattle.std.proofs.Common.{◌∷◌, Option, Some}
use Rattle.std.proofs.Common.{None, drop}
use Rattle.sgx_types.proofs.Pages.{same_pages}
use Rattle.sgx_rules.specs.declared.entries.Action.TheVariants as actions
use Rattle.sgx_types.specs.declared.names.Actor.{Actor}
use Rattle.sgx_types.specs.declared.names.Actor.TheVariants as actors
use Rattle.sgx_rules.specs.declared.entries.Entry.{Entry}
use Rattle.sgx_rules.specs.declared.entries.Event.{Event}
use Rattle.sgx_rules.specs.declared.entries.Event.TheVariants.{Age, Did, Kick, Refused}
use Rattle.sgx_rules.specs.declared.entries.Look.{Look}
use Rattle.sgx_rules.specs.declared.refusals.Refusal.TheVariants as why
use Rattle.sgx_types.specs.declared.names.Frame.{Frame}
use Rattle.sgx_types.specs.declared.names.Page.{Page}
use Rattle.sgx_types.specs.Making.{Making}
use Rattle.sgx_types.specs.Pages.{same_page}
use Rattle.job_grammar.specs.Jobs.{JobView}
use Rattle.sgx_machine.specs.inner.Parts.{Parts, state_of}
use Rattle.driver_list.specs.inner.Holds.{is_held as is_held_by}
use Rattle.driver_list.specs.inner.Listing as listing
use Rattle.driver_rules.specs.inner.Decided as decided
use Rattle.driver_rules.specs.inner.Decided.{age_of, is_ahead, is_end_ahead, is_in_pass, is_of_pass, is_some_page, is_try_ahead}
use Rattle.driver_rules.specs.inner.Decided.{keeps_age_by, looks_at, looks_of}
use Rattle.driver_rules.specs.Ages.{ahead_by, ahead_due}
use Rattle.driver_rules.specs.Dues.{is_look}
use Rattle.driver_rules.specs.Holds.{is_held}
use Rattle.driver_rules.specs.Passes as passes
use Rattle.driver_rules.specs.Passes.{pass}
use Rattle.driver_rules.specs.Places.{Leaving, active, is_young, place}
use Rattle.driver_rules.specs.Spares.{due_with, Outs}
use Rattle.driver_laws.specs.inner.Agrees.{Keeping}
use Rattle.driver_tables.proofs.HeldLaws.{held_same}
use Rattle.driver_tables.specs.declared.driver.Driver.{Driver}
use Rattle.driver_tables.specs.inner.Held.{ShowsHolds}
use Rattle.driver_tables.specs.inner.Tables.{ShowsTables}
use Rattle.driver_tables.proofs.ListLaws.{head_marks, heads}
use Rattle.driver_pass.specs.declared.stages.Aside.{Aside}
use Rattle.driver_pass.specs.declared.stages.Aside.TheVariants as asides
use Rattle.driver_pass.specs.declared.stages.Stage.{Stage}
use Rattle.driver_pass.specs.declared.stages.Stage.TheVariants as stages
use Rattle.driver_pass.specs.declared.stages.Taken.{Taken}
use Rattle.driver_pass.specs.inner.Dues.{due_in, HasAllSlots, ShowsOuts}
use Rattle.driver_tables.specs.inner.Tells.{Tells}
use Rattle.driver_pass.specs.inner.Standing.{AreInFrames, IsAside, StandsAt}
use Rattle.driver_pass.specs.inner.Viewed.{aside_by, form_in, pages_in, pass_by, PassView, tries_of, waiting_by}
use Rattle.driver_pass.proofs.DueLaws.{dues_are}
use Rattle.driver_pass.proofs.ListLaws.{get_drop, head}
use Rattle.audit_pass.specs.inner.Told.{age_told, ahead_told, due_told, in_pass, in_tries, is_end_of, is_in_block, is_in_tries, is_start_of}
use Rattle.audit_pass.specs.inner.Told.{look_is_right, looks_right, of_pass}

-- ---- looks

module _ (k : Keeping) (j : JobView) (past : List Entry) (d : Driver) (s : ShowsTables k j d past)
    (held : (g : Page) → is_held_by d.active.own g ≡ is_held j past g) where
  look_told : (page : Page) (look : Look) → look_is_right d (listing.head_of d.active.pages) page look ≡ looks_at j past page look
  look_told page look =
      by_head (listing.head_of d.active.pages) refl
      ∙ ap (λ o. is_some_page o page && is_look (is_held j past page) (is_young past page) look)
      (heads past d.active.pages (active past) s.list)
    where
      by_page : (g : Page) → listing.head_of d.active.pages ≡ Some g → (b : Bool) → same_page g page ≡ b
          → (b && is_look (is_held_by d.active.own g) (listing.is_young d.active.pages g) look)
          ≡ (b && is_look (is_held j past page) (is_young past page) look)
      by_page g is false other = refl
      by_page g is true same =
          ap (λ b. is_look b (listing.is_young d.active.pages g) look) (held g)
          ∙ ap (λ b. is_look (is_held j past g) b look) (head_marks past d.active.pages (active past) g s.list is)
          ∙ ap (λ x. is_look (is_held j past x) (is_young past x) look) (same_pages g page same)

      by_head : (o : Option Page) → listing.head_of d.active.pages ≡ o
          → look_is_right d o page look ≡ (is_some_page o page && is_look (is_held j past page) (is_young past page) look)
      by_head None is = refl
      by_head (Some g) is = by_page g is (same_page g page) refl

  looks_told : (event : Event) → looks_right d event ≡ looks_of j past event
  looks_told (Age page look) = look_told page look
  looks_told event = refl

-- ---- a place of a pass

still_waiting : (past : List Entry) (n : ℕ) (taken : List Taken) → AreInFrames past taken → AreInFrames past (drop n taken)
still_waiting past zero taken h = h
still_waiting past (suc n) [] h = h
still_waiting past (suc n) (t ∷ ts) h = still_waiting past n ts h.1

block_told : (past : List Entry) (ts : List Taken) (f : Frame) → AreInFrames past ts
    → is_in_block (head ts) f ≡ decided.is_next_block past (pages_in ts) f.0
block_told past [] f h = refl
block_told past (t ∷ ts) f h = rw h.0 refl

in_tries_told : (past : List Entry) (t : Taken) (event : Event) → place past t.page ≡ Leaving t.frame.0
    → in_tries t.frame event ≡ decided.is_in_tries past t.page event
in_tries_told past t (Did (actions.EwbStart f slot) answer) h = rw h refl
in_tries_told past t (Did (actions.Ewb f) answer) h = rw h refl
in_tries_told past t (Did (actions.Track enclave) answer) h = refl
in_tries_told past t (Refused (actions.EwbStart f slot) refusal) h = rw h refl
in_tries_told past t (Refused (actions.Ewb f) refusal) h = rw h refl
in_tries_told past t (Refused (actions.Track enclave) refusal) h = refl
in_tries_told past t (Kick cpu) h = refl
in_tries_told past t event h = refl

tries_told : (past : List Entry) (ts : List Taken) (form : passes.Form) (event : Event) → AreInFrames past ts
    → is_in_tries (head ts) event ≡ is_in_pass past (tries_of ts form) event
tries_told past [] form (Did (actions.Block f) answer) h = refl
tries_told past [] form event h = refl
tries_told past (t ∷ ts) form event h = in_tries_told past t event h.0

pass_told : (past : List Entry) (taken : List Taken) (kicks : List ℕ) (stage : Stage) (event : Event)
    → AreInFrames past (waiting_by taken stage) → in_pass taken stage event ≡ is_in_pass past (pass_by taken kicks stage) event
pass_told past taken kicks (stages.Idle works) (Age page look) h = refl
pass_told past taken kicks (stages.Idle works) event h = refl
pass_told past taken kicks (stages.Scan left) (Age page look) h = refl
pass_told past taken kicks (stages.Scan left) event h = refl
pass_told past taken kicks (stages.Block next) (Did (actions.Block f) answer) h =
    ap (λ o. is_in_block o f) (get_drop taken next) ∙ block_told past (drop next taken) f (still_waiting past next taken h)
pass_told past taken kicks (stages.Block next) event h = refl
pass_told past taken kicks (stages.Tries next form) event h =
    ap (λ o. is_in_tries o event) (get_drop taken next) ∙ tries_told past (drop next taken) (form_in kicks form) event h

-- ---- a page that goes out beside the passes

start_told : (past : List Entry) (t : Taken) (event : Event) → place past t.page ≡ Leaving t.frame.0
    → is_start_of t.frame event ≡ is_try_ahead past t.page event
start_told past t (Did (actions.EwbStart f slot) answer) h = rw h refl
start_told past t (Refused (actions.EwbStart f slot) why.VersionSpent) h = rw h refl
start_told past t event h = refl

end_told : (past : List Entry) (t : Taken) (event : Event) → place past t.page ≡ Leaving t.frame.0
    → is_end_of t.frame event ≡ is_end_ahead past t.page event
end_told past t (Did (actions.Ewb f) answer) h = rw h refl
end_told past t event h = refl

-- ---- the rule

module _ (k : Keeping) (made : Making) (j : JobView) (past : List Entry) (d : Driver) (m : Parts) (a : Tells k made j past d m)
    (v : PassView) (held : (g : Page) → is_held_by d.active.own g ≡ is_held j past g) (stands : StandsAt made.first_epoch j past v) where
  of_pass_told : (event : Event) → of_pass d v event ≡ is_of_pass j past event
  of_pass_told event =
      ap (λ b. b && in_pass v.taken v.stage event) (looks_told k j past d a.shows held event)
      ∙ ap (λ b. looks_of j past event && b)
      (pass_told past v.taken v.kicks v.stage event stands.frames ∙ ap (λ at. is_in_pass past at event) (sym stands.same))

  due_is_told : (due : Option Page) (event : Event) → due_told d v event due ≡ is_ahead j past (ahead_due due) event
  due_is_told None event = of_pass_told event
  due_is_told (Some g) event = refl

  ahead_is_told : (x : Aside) (due : Option Page) (event : Event) → due_in d (state_of m) v.behind ≡ due → IsAside past x
      → ahead_told d (state_of m) v event x ≡ is_ahead j past (ahead_by (aside_by x) due) event
  ahead_is_told asides.None due event same at = ap (due_told d v event) same ∙ due_is_told due event
  ahead_is_told (asides.ToGo t) due event same at = start_told past t event at
  ahead_is_told (asides.Going t) due event same at = end_told past t event at

pub age_is : (k : Keeping) (made : Making) (j : JobView) (past : List Entry) (d : Driver) (m : Parts) (v : PassView) (out : Outs)
    (e : Entry) → Tells k made j past d m → HasAllSlots k → ShowsOuts d.slots past out → ShowsHolds j d.active.own past
    → StandsAt made.first_epoch j past v → age_told d (state_of m) v e.actor e.event ≡ keeps_age_by j past out e
age_is k made j past d m v out e a all shown h stands = by_actor e.actor e.event
  where
    held : (g : Page) → is_held_by d.active.own g ≡ is_held j past g
    held g = held_same j d.active.own past h g (subst (λ n. n ≤ 16) a.shows.cpus a.shows.few)

    by_actor : (x : Actor) (ev : Event) → age_told d (state_of m) v x ev ≡ age_of j past out x ev
    by_actor actors.Reclaimer ev =
        ahead_is_told k made j past d m a v held stands v.aside (due_with j past out) ev
        (dues_are k made j past d m a out all shown held v stands) stands.leaves
        ∙ ap (λ x. is_ahead j past (ahead_by x (due_with j past out)) ev) (sym stands.aside)
    by_actor actors.Builder ev = refl
    by_actor (actors.Cpu p) ev = refl
