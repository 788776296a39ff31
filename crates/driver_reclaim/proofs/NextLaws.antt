-- What the pass and the pages beside it give is what the reclaimer does next; and while a write-out of a pass is open, none is due beside
-- it.
use Rattle.std.proofs.Common.{◌≡◌, ◌⊎◌, inl, inr, ℕ, Bool, true, false, not, if◌then◌else◌, refl, sym, ◌∙◌, ap, subst, List, [], ◌∷◌}
use Rattle.std.proofs.Common.{drop, zero, suc}
use Rattle.std.proofs.Common.{Option, Some, None, is_some}
use Rattle.std.proofs.lemmas.Bool.{false≢true}
use Rattle.std.proofs.lemmas.Option.{none-some}
use Rattle.sgx_types.specs.Making.{Making}
use Rattle.sgx_types.specs.Pages.{is_own_page}
use Rattle.sgx_types.specs.declared.names.Actor.{Actor}
use Rattle.sgx_types.specs.declared.names.Actor.TheVariants as actors
use Rattle.sgx_types.specs.declared.names.Page.{Page}
use Rattle.sgx_rules.specs.declared.entries.Action.TheVariants.{Block, EldStart, Ewb, EwbStart, Track}
use Rattle.sgx_rules.specs.declared.entries.Entry.{Entry}
use Rattle.sgx_rules.specs.declared.entries.Event.{Event}
use Rattle.sgx_rules.specs.declared.entries.Event.TheVariants.{Age, Did, Kick, Refused}
use Rattle.sgx_rules.specs.declared.entries.Look.TheVariants as looks
use Rattle.sgx_rules.specs.declared.refusals.Refusal.TheVariants as why
use Rattle.sgx_rules.specs.Rules.{Along}
use Rattle.job_grammar.specs.Jobs.{JobView}
use Rattle.sgx_machine.specs.inner.Parts.{Parts}
use Rattle.driver_rules.specs.Ages.{ahead_by, FormOf, FormUnless, InForm, InPass, IsAhead, IsInTries, IsLookAhead, KeptAgeRule, KickRule}
use Rattle.driver_rules.specs.inner.Reclaims.{all_finished, going_due, reclaimer_due_by, reclaims_by}
use Rattle.driver_rules.specs.inner.Stops.{frame_started, is_frame}
use Rattle.driver_rules.specs.Passes as passes
use Rattle.driver_rules.specs.Passes.{Aside, aside, Between, block_on, Blocking, decided, First, Form, free_count, is_aside, IsGoing}
use Rattle.driver_rules.specs.Passes.{IsToGo}
use Rattle.driver_rules.specs.Passes.{keepers, kicked, Kicks, kicks_on, next_tries, NoneAside, Pass, pass, pass_after, pass_by, Scan}
use Rattle.driver_rules.specs.Passes.{scan_on}
use Rattle.driver_rules.specs.Passes.{Sealing, Second, Third, ToKick, ToTrack, Tries}
use Rattle.driver_rules.specs.Spares.{due_by, due_with, Outs, outs_kept}
use Rattle.driver_rules.specs.Stops.{is_spent, last_event}
use Rattle.driver_rules.proofs.ReclaimLaws.{due_is_other}
use Rattle.driver_tables.specs.declared.driver.Driver.{Driver}
use Rattle.driver_pass.specs.declared.stages.Aside.{Aside as Beside}
use Rattle.driver_pass.specs.declared.stages.Aside.TheVariants as asides
use Rattle.driver_pass.specs.declared.stages.Form.TheVariants as forms
use Rattle.driver_pass.specs.declared.stages.Form.{Form as OneForm}
use Rattle.driver_pass.specs.declared.stages.Stage.{Stage}
use Rattle.driver_pass.specs.declared.stages.Stage.TheVariants as stages
use Rattle.driver_pass.specs.declared.stages.Taken.{Taken}
use Rattle.driver_pass.specs.inner.Viewed.{aside_by, form_in, is_sealing, pages_in, PassView, sealing_at, sealing_with, tries_of}
use Rattle.driver_pass.specs.inner.Viewed.{pass_by as pass_of}
use Rattle.driver_reclaim.specs.inner.Ready.{Ready}
use Rattle.driver_reclaim.proofs.StageLaws.{drop_get}

-- a write-out of a page of a pass has started
abbrev pub IsOut : Pass → Type 0
IsOut (Tries g rest Sealing) = Unit {0}
IsOut at = ⊥

-- .. and of one beside the passes
abbrev pub IsOutAside : Aside → Type 0
IsOutAside (IsGoing g) = Unit {0}
IsOutAside x = ⊥

kept_out : (j : JobView) (free : ℕ) (at : Pass) → IsOut at → IsOut (decided j free at)
kept_out j free (Between works) is = absurd is
kept_out j free (Scan left taken) is = is
kept_out j free (Blocking due taken) is = is
kept_out j free (Tries g rest form) is = is

out_before : (j : JobView) (free : ℕ) (at : Pass) → IsOut (decided j free at) → IsOut at
out_before j free (Between works) is = absurd is
out_before j free (Scan left taken) is = is
out_before j free (Blocking due taken) is = is
out_before j free (Tries g rest form) is = is

-- ---- where the reclaimer's last entry started one

start_out : (j : JobView) (past : List Entry) (f : ℕ) (ev : Event) (x : Aside) (due : Option Page) → IsAhead j past (ahead_by x due) ev
    → frame_started (Some ev) ≡ Some f
    → IsOut (if is_aside x ev then pass j past else pass_by j past ev (pass j past)) ⊎ IsOutAside (passes.aside_by ev x)
start_out j past f (Did (EwbStart n at) answer) NoneAside None age is = inl (by_pass (pass j past) age.in_pass)
  where
    by_pass : (p : Pass) → InPass past p (Did (EwbStart n at) answer) → IsOut (pass_by j past (Did (EwbStart n at) answer) p)
    by_pass (Tries g rest form) h = tt
    by_pass (Between works) h = absurd h
    by_pass (Scan left taken) h = absurd h
    by_pass (Blocking due taken) h = absurd h
start_out j past f (Did (EwbStart n at) answer) NoneAside (Some g) age is = absurd age
start_out j past f (Did (EwbStart n at) answer) (IsToGo g) due age is = inr tt
start_out j past f (Did (EwbStart n at) answer) (IsGoing g) due age is = absurd age
start_out j past f (Did (EldStart n page at) answer) NoneAside None age is = absurd (by_pass (pass j past) age.in_pass)
  where
    by_pass : (p : Pass) → InPass past p (Did (EldStart n page at) answer) → ⊥
    by_pass (Tries g rest form) h = h
    by_pass (Between works) h = h
    by_pass (Scan left taken) h = h
    by_pass (Blocking due taken) h = h
start_out j past f (Did (EldStart n page at) answer) NoneAside (Some g) age is = absurd age
start_out j past f (Did (EldStart n page at) answer) (IsToGo g) due age is = absurd age
start_out j past f (Did (EldStart n page at) answer) (IsGoing g) due age is = absurd age
start_out j past f ev x due age is = cc

pub started_out : (j : JobView) (past : List Entry) (f : ℕ) → Along (KeptAgeRule j) past
    → frame_started (last_event past actors.Reclaimer) ≡ Some f → IsOut (pass j past) ⊎ IsOutAside (aside past)
started_out j [] f age is = cc
started_out j (e ∷ past) f age is = by_actor e.actor e.event age.0 is (started_out j past f age.1)
  where
    behind : (p : Pass) (x : Aside) → IsOut p ⊎ IsOutAside x
        → IsOut (decided j (free_count j.epc (e ∷ past)) p) ⊎ IsOutAside x
    behind p x (inl h) = inl (kept_out j (free_count j.epc (e ∷ past)) p h)
    behind p x (inr h) = inr h

    by_actor : (a : Actor) (ev : Event) → KeptAgeRule j past (record { actor = a; event = ev })
        → frame_started (last_event (record { actor = a; event = ev } ∷ past) actors.Reclaimer) ≡ Some f
        → (frame_started (last_event past actors.Reclaimer) ≡ Some f → IsOut (pass j past) ⊎ IsOutAside (aside past))
        → IsOut (decided j (free_count j.epc (e ∷ past)) (pass_after j past a ev (pass j past))) ⊎ IsOutAside (passes.aside_after a ev
        (aside past))
    by_actor actors.Reclaimer ev rule k before =
        behind _ _ (start_out j past f ev (aside past) (due_with j past (outs_kept j past)) rule k)
    by_actor actors.Builder ev rule k before = behind (pass j past) (aside past) (before k)
    by_actor (actors.Cpu p) ev rule k before = behind (pass j past) (aside past) (before k)

-- a pass that has started none stands for none
seals : (taken : List Taken) (kicks : List ℕ) (stage : Stage) → IsOut (pass_of taken kicks stage) → is_some (sealing_at taken stage) ≡ true
seals taken kicks (stages.Idle works) out = absurd out
seals taken kicks (stages.Scan left) out = absurd out
seals taken kicks (stages.Block next) out = absurd out
seals taken kicks (stages.Tries next form) out = by_list (drop next taken) refl out
  where
    by_form : (t : Taken) (ts : List Taken) (x : OneForm) → drop next taken ≡ t ∷ ts → IsOut (Tries t.page (pages_in ts) (form_in kicks x))
        → is_some (sealing_at taken (stages.Tries next x)) ≡ true
    by_form t ts forms.Sealing is h = ap is_some (drop_get next taken t ts is)
    by_form t ts forms.First is h = absurd h
    by_form t ts forms.Track is h = absurd h
    by_form t ts forms.Second is h = absurd h
    by_form t ts (forms.Kick epoch made) is h = absurd h
    by_form t ts (forms.Kicks epoch place) is h = absurd h
    by_form t ts (forms.Third epoch) is h = absurd h

    by_list : (ts : List Taken) → drop next taken ≡ ts → IsOut (tries_of ts (form_in kicks form))
        → is_some (sealing_at taken (stages.Tries next form)) ≡ true
    by_list [] is h = absurd h
    by_list (t ∷ ts) is h = by_form t ts form is h

pub none_out : (v : PassView) → is_sealing v ≡ false → IsOut (pass_of v.taken v.kicks v.stage) ⊎ IsOutAside (aside_by v.aside) → ⊥
none_out v idle out = by_aside v.aside idle out
  where
    by_aside : (x : Beside) → is_some (sealing_with x (sealing_at v.taken v.stage)) ≡ false
        → IsOut (pass_of v.taken v.kicks v.stage) ⊎ IsOutAside (aside_by x) → ⊥
    by_aside asides.None none (inl h) = false≢true (sym none ∙ seals v.taken v.kicks v.stage h)
    by_aside asides.None none (inr h) = h
    by_aside (asides.ToGo t) none (inl h) = false≢true (sym none ∙ seals v.taken v.kicks v.stage h)
    by_aside (asides.ToGo t) none (inr h) = h
    by_aside (asides.Going t) none h = false≢true (sym none)

pub next_is_pass : (made : Making) (j : JobView) (past : List Entry) (v : PassView) (d : Driver) (m : Parts) (kicked : Bool)
    → Ready made j past v d m → Along (KeptAgeRule j) past → is_sealing v ≡ false → is_spent past ≡ false → all_finished j past ≡ false
    → reclaimer_due_by j past (outs_kept j past) kicked ≡ going_due j past (outs_kept j past) kicked
next_is_pass made j past v d m kicked r age idle going some =
    rw going (by_start (frame_started (last_event past actors.Reclaimer)) refl)
  where
    stood : IsOut (pass j past) ⊎ IsOutAside (aside past) → IsOut (pass_of v.taken v.kicks v.stage) ⊎ IsOutAside (aside_by v.aside)
    stood (inl h) = inl (subst IsOut r.stands.same h)
    stood (inr h) = inr (subst IsOutAside r.stands.aside h)

    by_start : (o : Option ℕ) → frame_started (last_event past actors.Reclaimer) ≡ o
        → reclaims_by j past (outs_kept j past) kicked o ≡ going_due j past (outs_kept j past) kicked
    by_start None is = rw some refl
    by_start (Some f) is = absurd (none_out v idle (stood (started_out j past f age is)))

-- ---- while a write-out of a pass is open

-- the reclaimer's last entry started it, and no page goes out beside the passes
abbrev IsQuiet : List Entry → Type 0
IsQuiet past = (aside past ≡ NoneAside) × (is_frame (frame_started (last_event past actors.Reclaimer)) ≡ true)

none_next : (ts : List Page) → IsOut (next_tries ts) → ⊥
none_next [] h = h
none_next (t ∷ ts) h = h

none_block : (due taken : List Page) → IsOut (block_on due taken) → ⊥
none_block [] taken h = none_next taken h
none_block (g ∷ gs) taken h = h

none_scan : (left : ℕ) (taken : List Page) → IsOut (scan_on left taken) → ⊥
none_scan zero [] h = h
none_scan zero (g ∷ gs) h = h
none_scan (suc left) taken h = h

none_kicks : (g : Page) (rest : List Page) (ps : List ℕ) → IsOut (Tries g rest (kicks_on ps)) → ⊥
none_kicks g rest [] h = h
none_kicks g rest (p ∷ ps) h = h

-- any other entry by the rules leaves none open
none_tries : (j : JobView) (past : List Entry) (g : Page) (rest : List Page) (form : Form) (ev : Event) → IsInTries past g ev
    → InForm past g form ev → is_frame (frame_started (Some ev)) ≡ false → IsOut (pass_by j past ev (Tries g rest form)) → ⊥
none_tries j past g rest form (Did (EwbStart f at) answer) h k none out = cc
none_tries j past g rest form (Did (Ewb f) answer) h k none out = none_next rest out
none_tries j past g rest form (Did (Track enclave) answer) h k none out = out
none_tries j past g rest First (Kick cpu) h k none out = out
none_tries j past g rest ToTrack (Kick cpu) h k none out = out
none_tries j past g rest Second (Kick cpu) h k none out = out
none_tries j past g rest ToKick (Kick cpu) h k none out = none_kicks g rest (drop 1 (keepers past g)) out
none_tries j past g rest (Kicks ps) (Kick cpu) h k none out = none_kicks g rest (drop 1 ps) out
none_tries j past g rest Third (Kick cpu) h k none out = out
none_tries j past g rest Sealing (Kick cpu) h k none out = k
none_tries j past g rest First (Refused (EwbStart f at) (why.NotTracked epoch older)) h k none out = out
none_tries j past g rest ToTrack (Refused (EwbStart f at) (why.NotTracked epoch older)) h k none out = out
none_tries j past g rest Second (Refused (EwbStart f at) (why.NotTracked epoch older)) h k none out = out
none_tries j past g rest ToKick (Refused (EwbStart f at) (why.NotTracked epoch older)) h k none out = out
none_tries j past g rest (Kicks ps) (Refused (EwbStart f at) (why.NotTracked epoch older)) h k none out = out
none_tries j past g rest Third (Refused (EwbStart f at) (why.NotTracked epoch older)) h k none out = out
none_tries j past g rest Sealing (Refused (EwbStart f at) (why.NotTracked epoch older)) h k none out = k
none_tries j past g rest First (Refused (EwbStart f at) (why.SlotOccupied version)) h k none out = out
none_tries j past g rest ToTrack (Refused (EwbStart f at) (why.SlotOccupied version)) h k none out = out
none_tries j past g rest Second (Refused (EwbStart f at) (why.SlotOccupied version)) h k none out = out
none_tries j past g rest ToKick (Refused (EwbStart f at) (why.SlotOccupied version)) h k none out = out
none_tries j past g rest (Kicks ps) (Refused (EwbStart f at) (why.SlotOccupied version)) h k none out = out
none_tries j past g rest Third (Refused (EwbStart f at) (why.SlotOccupied version)) h k none out = out
none_tries j past g rest Sealing (Refused (EwbStart f at) (why.SlotOccupied version)) h k none out = k
none_tries j past g rest First ev h k none out = out
none_tries j past g rest ToTrack ev h k none out = out
none_tries j past g rest Second ev h k none out = out
none_tries j past g rest ToKick ev h k none out = out
none_tries j past g rest (Kicks ps) ev h k none out = out
none_tries j past g rest Third ev h k none out = out
none_tries j past g rest Sealing ev h k none out = k

-- .. in a pass
none_pass : (j : JobView) (past : List Entry) (p : Pass) (ev : Event) → aside past ≡ NoneAside → InPass past p ev
    → FormOf past p actors.Reclaimer ev → is_frame (frame_started (Some ev)) ≡ false
    → IsOut (if is_aside NoneAside ev then p else pass_by j past ev p) → ⊥
none_pass j past (Between works) (Age page look) alone h form none out = by_own (not (is_own_page page)) out
  where
    by_own : (b : Bool) → IsOut (if b then Between works else pass_by j past (Age page look) (Between works)) → ⊥
    by_own true k = k
    by_own false k = none_scan _ _ k
none_pass j past (Scan left taken) (Age page look) alone h form none out = by_own (not (is_own_page page)) out
  where
    by_own : (b : Bool) → IsOut (if b then Scan left taken else pass_by j past (Age page look) (Scan left taken)) → ⊥
    by_own true k = k
    by_own false k = none_scan _ _ k
none_pass j past (Blocking due taken) (Did (Block f) answer) alone h form none out = none_block (drop 1 due) taken out
none_pass j past (Tries g rest form) (Age page look) alone h k none out = absurd h
none_pass j past (Tries g rest form) (Did action answer) alone h k none out =
    none_tries j past g rest form (Did action answer) h
    (subst (λ x. FormUnless past (is_aside x (Did action answer)) g form (Did action answer)) alone k) none out
none_pass j past (Tries g rest form) (Refused action refusal) alone h k none out =
    none_tries j past g rest form (Refused action refusal) h
    (subst (λ x. FormUnless past (is_aside x (Refused action refusal)) g form (Refused action refusal)) alone k) none out
none_pass j past (Tries g rest form) (Kick cpu) alone h k none out =
    none_tries j past g rest form (Kick cpu) h (subst (λ x. FormUnless past (is_aside x (Kick cpu)) g form (Kick cpu)) alone k) none out
none_pass j past (Tries g rest form) ev alone h k none out = absurd h
none_pass j past p ev alone h form none out = absurd h

due_none : (j : JobView) (past : List Entry) (out : Outs) (o : Option Event) → is_frame (frame_started o) ≡ true
    → due_by j past out o ≡ None
due_none j past out (Some (Did (EwbStart f at) answer)) h = refl
due_none j past out (Some (Did (EldStart f page at) answer)) h = refl
due_none j past out o h = cc

quiet_more : (j : JobView) (past : List Entry) (ev : Event) (x : Aside) (due : Option Page) → aside past ≡ x
    → due_with j past (outs_kept j past) ≡ due → IsAhead j past (ahead_by x due) ev → FormOf past (pass j past) actors.Reclaimer ev
    → (IsOut (pass j past) → IsQuiet past) → IsOut (if is_aside x ev then pass j past else pass_by j past ev (pass j past))
    → (passes.aside_by ev x ≡ NoneAside) × (is_frame (frame_started (Some ev)) ≡ true)
quiet_more j past ev (IsToGo g) due alone is age form before out =
    let none : NoneAside ≡ IsToGo g = sym (before out).0 ∙ alone in cc
quiet_more j past ev (IsGoing g) due alone is age form before out =
    let none : NoneAside ≡ IsGoing g = sym (before out).0 ∙ alone in cc
quiet_more j past ev NoneAside (Some g) alone is age form before out =
    absurd (by_event ev age out)
  where
    other : is_own_page g ≡ false
    other = due_is_other j past (outs_kept j past) (last_event past actors.Reclaimer) g is

    never : IsOut (pass j past) → ⊥
    never h =
        none-some g (sym (due_none j past (outs_kept j past) (last_event past actors.Reclaimer) (before h).1) ∙ is)

    by_page : (page : Page) (look : _) → page ≡ g
        → IsOut (if is_aside NoneAside (Age page look) then pass j past else pass_by j past (Age page look) (pass j past)) → ⊥
    by_page page look same h =
        never (subst (λ b. IsOut (if b then pass j past else pass_by j past (Age page look) (pass j past)))
        (ap (λ p. not (is_own_page p)) same ∙ ap not other) h)

    by_event : (ev : Event) → IsLookAhead g ev → IsOut (if is_aside NoneAside ev then pass j past else pass_by j past ev (pass j past)) → ⊥
    by_event (Age page looks.NoRoom) same h = by_page page looks.NoRoom same h
    by_event (Age page looks.Taken) same h = by_page page looks.Taken same h
    by_event ev same h = same
quiet_more j past ev NoneAside None alone is age form before out = by_start (is_frame (frame_started (Some ev))) refl
  where
    started : (ev : Event) → is_frame (frame_started (Some ev)) ≡ true → passes.aside_by ev NoneAside ≡ NoneAside
    started (Did (EwbStart f at) answer) h = refl
    started (Did (EldStart f page at) answer) h = refl
    started ev h = cc

    by_start : (b : Bool) → is_frame (frame_started (Some ev)) ≡ b
        → (passes.aside_by ev NoneAside ≡ NoneAside) × (is_frame (frame_started (Some ev)) ≡ true)
    by_start true h = (started ev h, h)
    by_start false h = absurd (none_pass j past (pass j past) ev alone age.in_pass form h out)

quiet_out : (j : JobView) (past : List Entry) → Along (KeptAgeRule j) past → Along (KickRule j) past → IsOut (pass j past) → IsQuiet past
quiet_out j [] age kick out = absurd out
quiet_out j (e ∷ past) age kick out =
    by_actor e.actor e.event age.0 kick.0.form
    (out_before j (free_count j.epc (e ∷ past)) (pass_after j past e.actor e.event (pass j past)) out)
    (quiet_out j past age.1 kick.1)
  where
    by_actor : (a : Actor) (ev : Event) → KeptAgeRule j past (record { actor = a; event = ev }) → FormOf past (pass j past) a ev
        → IsOut (pass_after j past a ev (pass j past)) → (IsOut (pass j past) → IsQuiet past)
        → (passes.aside_after a ev (aside past) ≡ NoneAside)
        × (is_frame (frame_started (last_event (record { actor = a; event = ev } ∷ past) actors.Reclaimer)) ≡ true)
    by_actor actors.Reclaimer ev rule form h before =
        quiet_more j past ev (aside past) (due_with j past (outs_kept j past)) refl refl rule form before h
    by_actor actors.Builder ev rule form h before = before h
    by_actor (actors.Cpu p) ev rule form h before = before h

pub sealing_alone : (j : JobView) (past : List Entry) → Along (KeptAgeRule j) past → Along (KickRule j) past → IsOut (pass j past)
    → (aside past ≡ NoneAside) × (due_with j past (outs_kept j past) ≡ None)
sealing_alone j past age kick out =
    let calm = quiet_out j past age kick out in
    (calm.0, due_none j past (outs_kept j past) (last_event past actors.Reclaimer) calm.1)
