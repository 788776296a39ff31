-- While a page goes out beside the passes, the pass is before the first try of a page.
use Rattle.std.proofs.Common.{◌≡◌, ◌⊎◌, inl, inr, ℕ, zero, suc, ◌-◌, ◌++◌, min, length, Bool, true, false, not, if◌then◌else◌, refl, sym}
use Rattle.std.proofs.Common.{◌∙◌, subst, List, [], ◌∷◌, Option, Some, None, is_some}
use Rattle.std.proofs.lemmas.Bool.{false≢true}
use Rattle.sgx_types.specs.Making.{Making}
use Rattle.sgx_types.specs.Pages.{is_own_page}
use Rattle.sgx_types.specs.declared.names.Actor.{Actor}
use Rattle.sgx_types.specs.declared.names.Actor.TheVariants as actors
use Rattle.sgx_types.specs.declared.names.Page.{Page}
use Rattle.sgx_rules.specs.declared.entries.Action.TheVariants.{Ewb}
use Rattle.sgx_rules.specs.declared.entries.Answer.{Answer}
use Rattle.sgx_rules.specs.declared.entries.Entry.{Entry}
use Rattle.sgx_rules.specs.declared.entries.Event.{Event}
use Rattle.sgx_rules.specs.declared.entries.Event.TheVariants.{Age, Did}
use Rattle.sgx_rules.specs.declared.entries.Look.{Look}
use Rattle.sgx_types.specs.declared.names.Frame.{Frame}
use Rattle.sgx_rules.specs.Rules.{Along}
use Rattle.job_grammar.specs.Jobs.{JobView}
use Rattle.sgx_machine.specs.inner.Parts.{Parts}
use Rattle.driver_rules.specs.Ages.{ahead_by, InPass, IsAhead, KeptAgeRule}
use Rattle.driver_rules.specs.Passes.{Aside, aside, aside_after, aside_by, Between, Blocking, decided, First, Form, free_count, is_aside}
use Rattle.driver_rules.specs.Passes.{IsGoing, IsToGo, next_tries, NoneAside, Pass, pass, pass_after, pass_by, Scan, scan_on}
use Rattle.driver_rules.specs.Passes.{taken_by, Tries}
use Rattle.driver_rules.specs.Places.{active}
use Rattle.driver_rules.specs.Spares.{due_by, due_with, Outs, outs_kept}
use Rattle.driver_rules.specs.Stops.{last_event}
use Rattle.driver_tables.specs.declared.driver.Driver.{Driver}
use Rattle.driver_pass.specs.declared.stages.Aside.TheVariants as asides
use Rattle.driver_pass.specs.declared.stages.Form.TheVariants as forms
use Rattle.driver_pass.specs.declared.stages.Form.{Form as OneForm}
use Rattle.driver_pass.specs.declared.stages.Stage.{Stage}
use Rattle.driver_pass.specs.declared.stages.Stage.TheVariants as stages
use Rattle.driver_pass.specs.inner.Viewed.{aside_by as beside_of, is_kicked_stage, PassView, sealing_at}
use Rattle.driver_reclaim.specs.inner.Ready.{Ready}
use Rattle.driver_reclaim.proofs.StageLaws.{in_tries}

abbrev IsFirst : Form → Type 0
IsFirst First = Unit {0}
IsFirst form = ⊥

abbrev pub IsStill : Pass → Type 0
IsStill (Tries g rest form) = IsFirst form
IsStill p = Unit {0}

-- a look, or the end of a write-out, behind which a page may be due beside the passes
abbrev ends : Event → Bool
ends (Age page look) = true
ends (Did (Ewb f) answer) = true
ends event = false

abbrev ends_at : Option Event → Bool
ends_at None = false
ends_at (Some event) = ends event

due_none : (j : JobView) (past : List Entry) (out : Outs) (o : Option Event) → ends_at o ≡ false → due_by j past out o ≡ None
due_none j past out (Some (Age page look)) h = absurd (false≢true (sym h))
due_none j past out (Some (Did (Ewb f) answer)) h = absurd (false≢true (sym h))
due_none j past out o h = refl

still_scan : (left : ℕ) (taken : List Page) → IsStill (scan_on left taken)
still_scan zero [] = tt
still_scan zero (g ∷ gs) = tt
still_scan (suc left) taken = tt

still_next : (ts : List Page) → IsStill (next_tries ts)
still_next [] = tt
still_next (t ∷ ts) = tt

still_decided : (j : JobView) (free : ℕ) (p : Pass) → IsStill p → IsStill (decided j free p)
still_decided j free (Between works) h = tt
still_decided j free (Scan left taken) h = tt
still_decided j free (Blocking due taken) h = tt
still_decided j free (Tries g rest form) h = h

module _ (j : JobView) (past : List Entry) where
  still_look : (page : Page) (look : Look) (p : Pass) → IsStill p → IsStill (pass_by j past (Age page look) p)
  still_look page look (Between works) h = still_scan (min j.marks.scan (length (active past)) - 1) (taken_by look page)
  still_look page look (Scan left taken) h = still_scan (left - 1) (taken ++ taken_by look page)
  still_look page look (Blocking due taken) h = tt
  still_look page look (Tries g rest form) h = h

  still_out : (f : Frame) (answer : Answer) (p : Pass) → IsStill p → IsStill (pass_by j past (Did (Ewb f) answer) p)
  still_out f answer (Between works) h = tt
  still_out f answer (Scan left taken) h = tt
  still_out f answer (Blocking due taken) h = tt
  still_out f answer (Tries g rest form) h = still_next rest

  abbrev Stays : Aside → Event → Type 0
  Stays x ev = ((aside_by ev x ≡ NoneAside) × (ends ev ≡ false))
      ⊎ IsStill (if is_aside x ev then pass j past else pass_by j past ev (pass j past))

  stays : (x : Aside) (ev : Event) → IsStill (pass j past) → Stays x ev
  stays NoneAside (Age page look) h = inr (by_own (is_own_page page))
    where
      by_own : (b : Bool) → IsStill (if not b then pass j past else pass_by j past (Age page look) (pass j past))
      by_own true = still_look page look (pass j past) h
      by_own false = h
  stays NoneAside (Did (Ewb f) answer) h = inr (still_out f answer (pass j past) h)
  stays NoneAside ev h = inl (refl, refl)
  stays (IsToGo g) ev h = inr h
  stays (IsGoing g) ev h = inr h

  in_look : (page : Page) (look : Look) (p : Pass) → InPass past p (Age page look) → IsStill p
  in_look page look (Between works) h = tt
  in_look page look (Scan left taken) h = tt
  in_look page look (Blocking due taken) h = tt
  in_look page look (Tries g rest form) h = absurd h

  in_out : (f : Frame) (answer : Answer) (p : Pass) → InPass past p (Did (Ewb f) answer) → IsStill (pass_by j past (Did (Ewb f) answer) p)
  in_out f answer (Tries g rest form) h = still_next rest
  in_out f answer (Between works) h = absurd h
  in_out f answer (Scan left taken) h = absurd h
  in_out f answer (Blocking due taken) h = tt

  begun : (ev : Event) → InPass past (pass j past) ev → Stays NoneAside ev
  begun (Age page look) k = stays NoneAside (Age page look) (in_look page look (pass j past) k)
  begun (Did (Ewb f) answer) k = inr (in_out f answer (pass j past) k)
  begun ev k = inl (refl, refl)

  more : (ev : Event) (x : Aside) (due : Option Page) → IsAhead j past (ahead_by x due) ev
      → ((x ≡ NoneAside) × (due ≡ None)) ⊎ IsStill (pass j past) → Stays x ev
  more ev NoneAside None age (inl k) = begun ev age.in_pass
  more ev NoneAside (Some g) age (inl k) = let none = k.1 in cc
  more ev (IsToGo g) due age (inl k) = let none = k.0 in cc
  more ev (IsGoing g) due age (inl k) = let none = k.0 in cc
  more ev x due age (inr h) = stays x ev h

abbrev Calm : Aside → Option Event → Pass → Type 0
Calm x o p = ((x ≡ NoneAside) × (ends_at o ≡ false)) ⊎ IsStill p

-- no page goes out beside the passes and none is due, or the pass is still
calm : (j : JobView) (past : List Entry) → Along (KeptAgeRule j) past
    → ((aside past ≡ NoneAside) × (ends_at (last_event past actors.Reclaimer) ≡ false)) ⊎ IsStill (pass j past)
calm j [] age = inr tt
calm j (e ∷ past) age = by_actor e.actor e.event age.0 (calm j past age.1)
  where
    decides : (x : Aside) (o : Option Event) (p : Pass) → Calm x o p → Calm x o (decided j (free_count j.epc (e ∷ past)) p)
    decides x o p (inl k) = inl k
    decides x o p (inr h) = inr (still_decided j (free_count j.epc (e ∷ past)) p h)

    due_of : Calm (aside past) (last_event past actors.Reclaimer) (pass j past)
        → ((aside past ≡ NoneAside) × (due_with j past (outs_kept j past) ≡ None)) ⊎ IsStill (pass j past)
    due_of (inl k) = inl (k.0, due_none j past (outs_kept j past) (last_event past actors.Reclaimer) k.1)
    due_of (inr h) = inr h

    by_actor : (a : Actor) (ev : Event) → KeptAgeRule j past (record { actor = a; event = ev })
        → Calm (aside past) (last_event past actors.Reclaimer) (pass j past)
        → Calm (aside_after a ev (aside past)) (last_event (record { actor = a; event = ev } ∷ past) actors.Reclaimer)
        (decided j (free_count j.epc (e ∷ past)) (pass_after j past a ev (pass j past)))
    by_actor actors.Reclaimer ev rule before =
        decides _ (Some ev) _ (more j past ev (aside past) (due_with j past (outs_kept j past)) rule (due_of before))
    by_actor actors.Builder ev rule before = decides _ _ _ before
    by_actor (actors.Cpu p) ev rule before = decides _ _ _ before

module _ (made : Making) (j : JobView) (past : List Entry) (v : PassView) (d : Driver) (m : Parts) (r : Ready made j past v d m) where
  -- the turn of kicks was not made there, and no write-out of the pass is open
  still_stage : IsStill (pass j past) → (is_kicked_stage v.stage ≡ false) × (is_some (sealing_at v.taken v.stage) ≡ false)
  still_stage still = by_stage v.stage refl
    where
      by_form : (next : ℕ) (form : OneForm) → v.stage ≡ stages.Tries next form
          → (is_kicked_stage (stages.Tries next form) ≡ false) × (is_some (sealing_at v.taken (stages.Tries next form)) ≡ false)
      by_form next forms.First is = (refl, refl)
      by_form next forms.Track is =
          absurd (subst IsStill ((in_tries made j past v d m r next forms.Track is).passed) still)
      by_form next forms.Second is =
          absurd (subst IsStill ((in_tries made j past v d m r next forms.Second is).passed) still)
      by_form next (forms.Kick epoch kicked) is =
          absurd (subst IsStill ((in_tries made j past v d m r next (forms.Kick epoch kicked) is).passed) still)
      by_form next (forms.Kicks epoch place) is =
          absurd (subst IsStill ((in_tries made j past v d m r next (forms.Kicks epoch place) is).passed) still)
      by_form next (forms.Third epoch) is =
          absurd (subst IsStill ((in_tries made j past v d m r next (forms.Third epoch) is).passed) still)
      by_form next forms.Sealing is =
          absurd (subst IsStill ((in_tries made j past v d m r next forms.Sealing is).passed) still)

      by_stage : (stage : Stage) → v.stage ≡ stage
          → (is_kicked_stage stage ≡ false) × (is_some (sealing_at v.taken stage) ≡ false)
      by_stage (stages.Idle works) is = (refl, refl)
      by_stage (stages.Scan left) is = (refl, refl)
      by_stage (stages.Block next) is = (refl, refl)
      by_stage (stages.Tries next form) is = by_form next form is

  pub beside_calm : Along (KeptAgeRule j) past → (v.aside ≡ asides.None → ⊥)
      → (is_kicked_stage v.stage ≡ false) × (is_some (sealing_at v.taken v.stage) ≡ false)
  beside_calm age beside = by_calm (calm j past age)
    where
      alone : (x : _) → beside_of x ≡ NoneAside → x ≡ asides.None
      alone asides.None h = refl
      alone (asides.ToGo t) h = cc
      alone (asides.Going t) h = cc

      by_calm : ((aside past ≡ NoneAside) × (ends_at (last_event past actors.Reclaimer) ≡ false)) ⊎ IsStill (pass j past)
          → (is_kicked_stage v.stage ≡ false) × (is_some (sealing_at v.taken v.stage) ≡ false)
      by_calm (inl k) = absurd (beside (alone v.aside (sym r.stands.aside ∙ k.0)))
      by_calm (inr still) = still_stage still
