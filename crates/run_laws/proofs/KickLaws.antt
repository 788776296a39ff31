-- Each kick of a turn of kicks is the reclaimer's next, behind those before it.
use Rattle.std.proofs.Common.{◌≡◌, ℕ, zero, suc, ◌+◌, ◌≤◌, Bool, true, false, if◌then◌else◌, refl, sym, ◌∙◌}
use Rattle.std.proofs.Common.{ap, subst, List, [], ◌∷◌, ◌++◌, drop}
use Rattle.std.proofs.Common.{Option, None, Some, arith}
use Rattle.sgx_rules.specs.declared.entries.Action.TheVariants as actions
use Rattle.sgx_types.specs.declared.names.Actor.TheVariants as actors
use Rattle.sgx_rules.specs.declared.entries.Entry.{Entry}
use Rattle.sgx_rules.specs.declared.entries.Event.TheVariants.{Kick}
use Rattle.sgx_types.specs.declared.names.Page.{Page}
use Rattle.sgx_rules.specs.Eviction.{block_place}
use Rattle.sgx_types.specs.Making.{Making}
use Rattle.job_grammar.specs.Jobs.{JobView}
use Rattle.sgx_types.specs.Pages.{frame_at}
use Rattle.sgx_machine.specs.inner.Parts.{Parts}
use Rattle.driver_rules.specs.Ages.{ahead_by, ahead_due, FormOf, FormUnless, head_of, InForm, InPass, IsAhead, IsKickOrTry}
use Rattle.driver_rules.specs.Dues.{Due, Ends, KicksAll, Makes, TriesOut, Waits}
use Rattle.driver_rules.specs.Passes.{Aside, aside, aside_by, Between, Blocking, decided}
use Rattle.driver_rules.specs.Passes.{First, Form, free_count, is_aside, IsGoing, IsToGo}
use Rattle.driver_rules.specs.Passes.{keepers, keepers_behind, keepers_from, keepers_in, keeps_from, Kicks, kicks_on, NoneAside, Pass}
use Rattle.driver_rules.specs.Passes.{pass, pass_by, Scan, Sealing, Second, Third, ToKick, ToTrack, Tries}
use Rattle.driver_rules.specs.Places.{active, frame_leaving, place}
use Rattle.driver_rules.specs.Spares.{due_with, outs_kept}
use Rattle.driver_rules.specs.inner.Reclaims.{ahead_gives, are_held, going_due, in_frame, leaving_due, look_at, look_due, pass_due}
use Rattle.driver_rules.specs.inner.Reclaims.{third_due}
use Rattle.driver_rules.specs.Stops.{is_spent}
use Rattle.driver_rules.specs.declared.waits.Why.TheVariants as waits
use Rattle.driver_laws.specs.inner.Agrees.{drivers}
use Rattle.driver_tables.specs.declared.driver.Driver.{Driver}
use Rattle.driver_tables.proofs.ShowLaws.{shows_quiet_entry}
use Rattle.driver_tables.specs.inner.Agrees.{Agrees}
use Rattle.driver_tables.specs.inner.Asked.{IsNextOf}
use Rattle.driver_pass.specs.inner.Standing.{StandsAt}
use Rattle.driver_pass.specs.inner.Viewed.{is_amid, PassView}
use Rattle.driver_reclaim.specs.inner.After.{cpu_of, kicked_past}
use Rattle.driver_reclaim.specs.inner.Answers.{by_reclaimer}
use Rattle.run_laws.specs.inner.Loads.{GoesOnWith}
use Rattle.run_laws.proofs.PlainLaws.{beside, BesidePass}
use Rattle.run_laws.specs.inner.Bits.{AllBelow, RisesFrom}
use Rattle.run_laws.proofs.BitLaws.{rises_sooner}

-- ---- whom it kicks

keepers_rise : (past : List Entry) (enclave from p count : ℕ) → RisesFrom p (keepers_from past enclave from p count)
keepers_rise past enclave from p zero = tt
keepers_rise past enclave from p (suc count) =
    by_test (keeps_from past enclave from p) (keepers_rise past enclave from (p + 1) count)
  where
    by_test : (b : Bool) → RisesFrom (p + 1) (keepers_from past enclave from (p + 1) count)
        → RisesFrom p ((if b then p ∷ [] else []) ++ keepers_from past enclave from (p + 1) count)
    by_test true h = (omega arith, h)
    by_test false h = rises_sooner p (p + 1) (keepers_from past enclave from (p + 1) count) (omega arith) h

keepers_below : (past : List Entry) (enclave from p count all : ℕ) → p + count ≤ all → AllBelow all (keepers_from past enclave from p count)
keepers_below past enclave from p zero all few = tt
keepers_below past enclave from p (suc count) all few =
    by_test (keeps_from past enclave from p) (keepers_below past enclave from (p + 1) count all (omega (arith, few)))
  where
    by_test : (b : Bool) → AllBelow all (keepers_from past enclave from (p + 1) count)
        → AllBelow all ((if b then p ∷ [] else []) ++ keepers_from past enclave from (p + 1) count)
    by_test true h = (omega (arith, few), h)
    by_test false h = h

-- those who keep a page back rise, and are below 16
pub keepers_in_order : (past : List Entry) (g : Page) → RisesFrom 0 (keepers past g) × AllBelow 16 (keepers past g)
keepers_in_order past g = by_frame (frame_leaving (place past g))
  where
    by_block : (o : Option ℕ) → RisesFrom 0 (keepers_behind past g.enclave o) × AllBelow 16 (keepers_behind past g.enclave o)
    by_block None = (tt, tt)
    by_block (Some from) = (keepers_rise past g.enclave from 0 16, keepers_below past g.enclave from 0 16 16 (omega arith))

    by_frame : (o : Option ℕ) → RisesFrom 0 (keepers_in past g.enclave o) × AllBelow 16 (keepers_in past g.enclave o)
    by_frame None = (tt, tt)
    by_frame (Some f) = by_block (block_place past f)

-- ---- behind some kicks

abbrev kick : ℕ → Entry
kick p = by_reclaimer (Kick (cpu_of p))

pub kicked_more : (done : List ℕ) (p : ℕ) (past : List Entry)
    → kicked_past (done ++ (p ∷ [])) past ≡ by_reclaimer (Kick (cpu_of p)) ∷ kicked_past done past
kicked_more [] p past = refl
kicked_more (q ∷ qs) p past = kicked_more qs p (kick q ∷ past)

-- a kick ends no run
not_spent : (done : List ℕ) (past : List Entry) → is_spent past ≡ false → is_spent (kicked_past done past) ≡ false
not_spent [] past h = h
not_spent (q ∷ qs) past h = not_spent qs (kick q ∷ past) h

module _ (j : JobView) (g : Page) (gs : List Page) where
  -- behind these kicks the others are left
  left : (done rest : List ℕ) (past : List Entry) → pass j past ≡ Tries g gs (kicks_on (done ++ rest)) → aside past ≡ NoneAside
      → pass j (kicked_past done past) ≡ Tries g gs (kicks_on rest)
  left [] rest past h none = h
  left (q ∷ qs) rest past h none =
      left qs rest (kick q ∷ past)
      (ap (λ x. decided j (free_count j.epc (kick q ∷ past)) x)
      (ap (λ x. if is_aside x (Kick (cpu_of q)) then pass j past else pass_by j past (Kick (cpu_of q)) (pass j past)) none
      ∙ ap (pass_by j past (Kick (cpu_of q))) h)) (ap (λ x. aside_by (Kick (cpu_of q)) x) none)

  -- behind a kick nothing is due besides
  no_aside : (past : List Entry) → aside past ≡ NoneAside → (done : List ℕ) → aside (kicked_past done past) ≡ NoneAside
  no_aside past none [] = none
  no_aside past none (q ∷ qs) = no_aside (kick q ∷ past) (ap (λ x. aside_by (Kick (cpu_of q)) x) none) qs

  -- the form in which the pass is, by which this kick is due
  record IsDue (past : List Entry) (p : ℕ) : Type 0 where
    to : Form
    same : pass j past ≡ Tries g gs to
    fits : InForm past g to (Kick (cpu_of p))
    beside : aside past ≡ NoneAside
    ahead : due_with j past (outs_kept j past) ≡ None

  last_kick : (past : List Entry) (q : ℕ) (qs : List ℕ) → due_with j (kicked_past qs (kick q ∷ past))
      (outs_kept j (kicked_past qs (kick q ∷ past))) ≡ None
  last_kick past q [] = refl
  last_kick past q (r ∷ rs) = last_kick (kick q ∷ past) r rs

  due_behind : (past : List Entry) (done : List ℕ) (p : ℕ) (rest : List ℕ) → pass j past ≡ Tries g gs ToKick
      → keepers past g ≡ done ++ (p ∷ rest) → aside past ≡ NoneAside → due_with j past (outs_kept j past) ≡ None
      → IsDue (kicked_past done past) p
  due_behind past [] p rest at is none nothing = record {
    to = ToKick;
    same = at;
    fits = subst (λ ps. IsKickOrTry ps (Kick (cpu_of p))) (sym is) refl;
    beside = none;
    ahead = nothing;
  }
  due_behind past (q ∷ qs) p rest at is none nothing = record {
    to = Kicks (p ∷ rest);
    same = left qs (p ∷ rest) (kick q ∷ past) (first_kicked ∙ ap (λ ps. Tries g gs (kicks_on (drop 1 ps))) is)
        (no_aside past none (q ∷ []));
    fits = refl;
    beside = no_aside past none (q ∷ qs);
    ahead = last_kick past q qs;
  }
    where
      first_kicked : pass j (kick q ∷ past) ≡ Tries g gs (kicks_on (drop 1 (keepers past g)))
      first_kicked =
          ap (λ x. decided j (free_count j.epc (kick q ∷ past)) x)
          (ap (λ x. if is_aside x (Kick (cpu_of q)) then pass j past else pass_by j past (Kick (cpu_of q)) (pass j past)) none
          ∙ ap (pass_by j past (Kick (cpu_of q))) at)

  -- a kick that is due is the next entry
  next_by : (made : Making) (past : List Entry) (d : Driver) (m : Parts) (p : ℕ) → IsDue past p → is_spent past ≡ false
      → Agrees made j past d m → GoesOnWith made past (kick p) m → IsNextOf made j past d m (kick p) d m
  next_by made past d m p due going r goes = record {
    script = record { not_spent = going; next = refl };
    age = subst (λ x. IsAhead j past x (Kick (cpu_of p)))
        (sym (ap (λ x. ahead_by x (due_with j past (outs_kept j past))) due.beside ∙ ap ahead_due due.ahead))
        (record { look = tt; in_pass = subst (λ at. InPass past at (Kick (cpu_of p))) (sym due.same) tt });
    kick = record {
      form = subst (λ at. FormOf past at actors.Reclaimer (Kick (cpu_of p))) (sym due.same)
          (subst (λ x. FormUnless past (is_aside x (Kick (cpu_of p))) g due.to (Kick (cpu_of p))) (sym due.beside) due.fits);
      beside = tt;
    };
    slots = tt;
    can = tt;
    tries = tt;
    starts = tt;
    inits = tt;
    tracking = record { stay = tt; track = tt };
    follows = goes.shape;
    fits = goes.fits;
    cpus = refl;
    shows = shows_quiet_entry (drivers j) j d past (Kick (cpu_of p)) refl refl refl r.shows;
    counts = refl;
  }

-- ---- a turn of kicks

abbrev to_kick : Due → List ℕ
to_kick (KicksAll ps) = ps
to_kick _ = []

-- before the first kick
record IsToKick (past : List Entry) (at : Pass) (ps : List ℕ) : Type 0 where
  page : Page
  rest : List Page
  same : at ≡ Tries page rest ToKick
  all : keepers past page ≡ ps

module _ (j : JobView) (past : List Entry) (ps : List ℕ) where
  no_frame : (g : Page) (o : Option ℕ) (to : ℕ → Due) → ((f : ℕ) → to f ≡ KicksAll ps → ⊥) → in_frame g o to ≡ KicksAll ps → ⊥
  no_frame g None to none is = cc
  no_frame g (Some f) to none is = none f is

  no_look : (o : Option Page) → look_at j past o ≡ KicksAll ps → ⊥
  no_look None is = cc
  no_look (Some g) is = cc

  no_leaving : (g : Page) (to : ℕ → Due) → ((f : ℕ) → to f ≡ KicksAll ps → ⊥) → leaving_due past g to ≡ KicksAll ps → ⊥
  no_leaving g to none is = no_frame g (frame_leaving (place past g)) to none is

  no_third : (g : Page) (qs : List ℕ) → third_due past g qs ≡ KicksAll ps → ⊥
  no_third g [] is = no_leaving g (TriesOut g) (λ f k. cc) is
  no_third g (q ∷ qs) is = cc

  by_pass : (at : Pass) → BesidePass at → pass_due j past false at ≡ KicksAll ps → IsToKick past at ps
  by_pass (Between false) h is = cc
  by_pass (Between true) h is = by_held (are_held j past) is
    where
      by_held : (b : Bool) → (if b then Waits waits.AllHeld else look_due j past) ≡ KicksAll ps → IsToKick past (Between true) ps
      by_held true k = cc
      by_held false k = absurd (no_look (head_of (active past)) k)
  by_pass (Scan scans taken) h is = absurd (no_look (head_of (active past)) is)
  by_pass (Blocking [] taken) h is = cc
  by_pass (Blocking (g ∷ gs) taken) h is = absurd (no_leaving g (λ f. Makes (actions.Block (frame_at f))) (λ f k. cc) is)
  by_pass (Tries g gs First) h is = absurd (no_leaving g (TriesOut g) (λ f k. cc) is)
  by_pass (Tries g gs ToTrack) h is = cc
  by_pass (Tries g gs Second) h is = absurd (no_leaving g (TriesOut g) (λ f k. cc) is)
  by_pass (Tries g gs ToKick) h is = record { page = g; rest = gs; same = refl; all = ap to_kick is }
  by_pass (Tries g gs (Kicks qs)) h is = absurd h
  by_pass (Tries g gs Third) h is = absurd (no_third g (keepers past g) is)
  by_pass (Tries g gs Sealing) h is = absurd (no_leaving g (λ f. Ends (actions.Ewb (frame_at f))) (λ f k. cc) is)

  -- nothing is due besides
  record GoesBy : Type 0 where
    beside : aside past ≡ NoneAside
    ahead : due_with j past (outs_kept j past) ≡ None
    pass_is : pass_due j past false (pass j past) ≡ KicksAll ps

  by_aside : (x : Aside) (o : Option Page) → aside past ≡ x → due_with j past (outs_kept j past) ≡ o
      → ahead_gives j past false (ahead_by x o) ≡ KicksAll ps → GoesBy
  by_aside NoneAside None beside nothing is = record { beside = beside; ahead = nothing; pass_is = is }
  by_aside NoneAside (Some g) beside nothing is = cc
  by_aside (IsToGo g) o beside nothing is = absurd (no_leaving g (TriesOut g) (λ f k. cc) is)
  by_aside (IsGoing g) o beside nothing is = absurd (no_leaving g (λ f. Ends (actions.Ewb (frame_at f))) (λ f k. cc) is)

module _ (first : ℕ) (j : JobView) (past : List Entry) (v : PassView) (ps : List ℕ) (stands : StandsAt first j past v)
    (whole : is_amid v ≡ false) (due : going_due j past (outs_kept j past) false ≡ KicksAll ps) where
  by : GoesBy j past ps
  by = by_aside j past ps (aside past) (due_with j past (outs_kept j past)) refl refl due

  at : IsToKick past (pass j past) ps
  at = by_pass j past ps (pass j past) (beside first past v (pass j past) stands whole) by.pass_is

  -- those whom a turn kicks rise, and are below 16
  pub kicks_in_order : RisesFrom 0 ps × AllBelow 16 ps
  kicks_in_order = subst (λ qs. RisesFrom 0 qs × AllBelow 16 qs) at.all (keepers_in_order past at.page)

  pub kick_next : (made : Making) (d : Driver) (m : Parts) (done : List ℕ) (p : ℕ) (rest : List ℕ) → is_spent past ≡ false
      → ps ≡ done ++ (p ∷ rest) → Agrees made j (kicked_past done past) d m
      → GoesOnWith made (kicked_past done past) (by_reclaimer (Kick (cpu_of p))) m
      → IsNextOf made j (kicked_past done past) d m (by_reclaimer (Kick (cpu_of p))) d m
  kick_next made d m done p rest going splits =
      next_by j at.page at.rest made (kicked_past done past) d m p
      (due_behind j at.page at.rest past done p rest at.same (at.all ∙ splits) by.beside by.ahead) (not_spent done past going)
