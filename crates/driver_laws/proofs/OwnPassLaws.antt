-- The pages of a pass are TCS and REG pages, and an entry of another actor leaves them.
use Rattle.std.proofs.Common.{◌≡◌, ℕ, ◌-◌, ◌≤◌, not, Bool, true, false}
use Rattle.std.proofs.Common.{if◌then◌else◌, zero, suc, refl, subst, List, [], ◌∷◌, ◌++◌, drop, length}
use Rattle.std.proofs.Common.{length-append, min, arith}
use Rattle.sgx_rules.specs.declared.entries.Action.TheVariants.{Add, Block, Eld, Ewb, EwbStart, Track}
use Rattle.sgx_types.specs.declared.names.Actor.{Actor}
use Rattle.sgx_rules.specs.declared.entries.Answer.TheVariants.{Moved}
use Rattle.sgx_rules.specs.declared.entries.Entry.{Entry}
use Rattle.sgx_rules.specs.declared.entries.Event.{Event}
use Rattle.sgx_rules.specs.declared.entries.Event.TheVariants.{Age, Did, Kick, Refused}
use Rattle.sgx_rules.specs.declared.entries.Look.{Look}
use Rattle.sgx_types.specs.declared.names.Page.{Page}
use Rattle.sgx_types.specs.Pages.{is_own_page}
use Rattle.job_grammar.specs.Jobs.{JobView}
use Rattle.driver_laws.specs.inner.Kinds.{CanMove}
use Rattle.driver_rules.specs.Passes.{Aside, aside, Between, block_on, Blocking, decided}
use Rattle.driver_rules.specs.Passes.{free_count, is_aside, IsToGo, next_tries, NoneAside, Pass, pass}
use Rattle.driver_rules.specs.Passes.{pass_after, pass_by, Scan, scan_on, taken_by}
use Rattle.driver_rules.specs.Passes.{Tries}
use Rattle.driver_rules.specs.Places.{active, active_after, Leaving}
use Rattle.driver_rules.specs.Places.{place}
use Rattle.driver_laws.specs.inner.Sound.{IsSound}
use Rattle.driver_laws.specs.inner.Tracks.{is_reclaimers}
use Rattle.driver_laws.specs.inner.Stages.{AllWait, HasPages}
use Rattle.driver_laws.specs.inner.Stages.{touches}
use Rattle.driver_laws.proofs.WaitLaws.{IsCalm, stands_kept, waits_kept}
use Rattle.sgx_types.specs.declared.names.Actor.TheVariants as actors
use Rattle.sgx_rules.specs.declared.entries.Look.TheVariants as looks
use Rattle.sgx_rules.specs.declared.refusals.Refusal.TheVariants as why
use Rattle.driver_rules.specs.Passes as goes

-- ---- the pages of a pass are TCS and REG pages

abbrev pub AllOwn : List Page → Type 0
AllOwn [] = Unit {0}
AllOwn (g ∷ gs) = (is_own_page g ≡ true) × AllOwn gs

abbrev pub OwnPass : Pass → Type 0
OwnPass (Between works) = Unit {0}
OwnPass (Scan left taken) = AllOwn taken
OwnPass (Blocking due taken) = AllOwn due × AllOwn taken
OwnPass (Tries g rest form) = (is_own_page g ≡ true) × AllOwn rest

own_append : (xs ys : List Page) → AllOwn xs → AllOwn ys → AllOwn (xs ++ ys)
own_append [] ys h k = k
own_append (x ∷ xs) ys h k = (h.0, own_append xs ys h.1 k)

own_taken : (look : Look) (page : Page) → is_own_page page ≡ true → AllOwn (taken_by look page)
own_taken looks.Taken page own = (own, tt)
own_taken looks.Young page own = tt
own_taken looks.Held page own = tt
own_taken looks.NoRoom page own = tt

own_scanned : (left : ℕ) (taken : List Page) → AllOwn taken → OwnPass (scan_on left taken)
own_scanned (suc left) taken h = h
own_scanned zero [] h = tt
own_scanned zero (g ∷ gs) h = (h, h)

own_next : (rest : List Page) → AllOwn rest → OwnPass (next_tries rest)
own_next [] h = tt
own_next (g ∷ gs) h = h

own_blocked : (due taken : List Page) → AllOwn due → AllOwn taken → OwnPass (block_on (drop 1 due) taken)
own_blocked [] taken h k = own_next taken k
own_blocked (g ∷ []) taken h k = own_next taken k
own_blocked (g ∷ x ∷ xs) taken h k = (h.1, k)

own_decided : (j : JobView) (free : ℕ) (p : Pass) → OwnPass p → OwnPass (decided j free p)
own_decided j free (Between works) h = tt
own_decided j free (Scan left taken) h = h
own_decided j free (Blocking due taken) h = h
own_decided j free (Tries g rest form) h = h

-- a look that is one of a pass is at such a page
abbrev OwnLook : Event → Type 0
OwnLook (Age page look) = is_own_page page ≡ true
OwnLook _ = Unit {0}

own_by : (j : JobView) (past : List Entry) (ev : Event) (p : Pass) → OwnLook ev → OwnPass p → OwnPass (pass_by j past ev p)
own_by j past (Age page look) (Between works) own h =
    own_scanned (min j.marks.scan (length (active past)) - 1) (taken_by look page) (own_taken look page own)
own_by j past (Age page look) (Scan left taken) own h =
    own_scanned (left - 1) (taken ++ taken_by look page) (own_append taken (taken_by look page) h (own_taken look page own))
own_by j past (Did (Block f) answer) (Blocking due taken) own h = own_blocked due taken h.0 h.1
own_by j past (Did (EwbStart f slot) answer) (Tries g rest form) own h = h
own_by j past (Refused (EwbStart f slot) (why.NotTracked epoch older)) (Tries g rest form) own h = h
own_by j past (Refused (EwbStart f slot) (why.SlotOccupied version)) (Tries g rest form) own h = h
own_by j past (Did (Track enclave) answer) (Tries g rest form) own h = h
own_by j past (Kick cpu) (Tries g rest form) own h = h
own_by j past (Did (Ewb f) answer) (Tries g rest form) own h = own_next rest h.1
own_by j past _ p own h = h

pub pass_own : (j : JobView) (past : List Entry) → OwnPass (pass j past)
pass_own j [] = tt
pass_own j (e ∷ past) =
    own_decided j (free_count j.epc (e ∷ past)) (pass_after j past e.actor e.event (pass j past))
    (by_actor e.actor e.event (pass j past) (pass_own j past))
  where
    by_aside : (a : Aside) (ev : Event) (p : Pass) → OwnPass p → OwnPass (if is_aside a ev then p else pass_by j past ev p)
    by_aside NoneAside (Age page look) p h = by_own (is_own_page page) refl
      where
        by_own : (b : Bool) → is_own_page page ≡ b → OwnPass (if not b then p else pass_by j past (Age page look) p)
        by_own true is = own_by j past (Age page look) p is h
        by_own false is = h
    by_aside NoneAside ev p h = own_by j past ev p tt h
    by_aside (IsToGo g) ev p h = h
    by_aside (goes.IsGoing g) ev p h = h

    by_actor : (a : Actor) (ev : Event) (p : Pass) → OwnPass p → OwnPass (pass_after j past a ev p)
    by_actor actors.Reclaimer ev p h = by_aside (aside past) ev p h
    by_actor actors.Builder ev p h = h
    by_actor (actors.Cpu c) ev p h = h

-- ---- an entry of another actor

pub others_calm : (ev : Event) → is_reclaimers ev ≡ false → IsCalm ev
others_calm (Did (Block f) answer) h n = cc
others_calm (Did (EwbStart f slot) answer) h n = cc
others_calm (Did (Ewb f) answer) h n = cc
others_calm _ h n = refl

pub others_list : (ev : Event) (pages : List Page) → is_reclaimers ev ≡ false → length pages ≤ length (active_after ev pages)
others_list (Did (Add enclave number f kind perm init) answer) pages h = rw (length-append pages (_ ∷ [])) omega arith
others_list (Did (Eld f) (Moved page version tag)) pages h = by_own (is_own_page page)
  where
    by_own : (b : Bool) → length pages ≤ length (if b then pages ++ page ∷ [] else pages)
    by_own true = rw (length-append pages (page ∷ [])) omega arith
    by_own false = omega arith
others_list (Age page look) pages h = cc
others_list _ pages h = omega arith

-- an entry that touches no frame of a TCS or REG page
abbrev pub TouchesNoOwn : List Entry → Event → Type 0
TouchesNoOwn past ev = (g : Page) → is_own_page g ≡ true → (n : ℕ) → place past g ≡ Leaving n → touches ev n ≡ false

own_kept : (past : List Entry) (e : Entry) (b : Bool) (gs : List Page) → IsSound past → CanMove past e.event → TouchesNoOwn past e.event
    → AllOwn gs → AllWait past b gs → AllWait (e ∷ past) b gs
own_kept past e b [] s can apart_own own h = tt
own_kept past e b (g ∷ gs) s can apart_own own h = (
  waits_kept past e b g s can h.0 (apart_own g own.0 h.0.frame h.0.leaving),
  own_kept past e b gs s can apart_own own.1 h.1,
)

own_front : (xs ys : List Page) → AllOwn (xs ++ ys) → AllOwn xs
own_front [] ys h = tt
own_front (x ∷ xs) ys h = (h.0, own_front xs ys h.1)

pub pass_kept : (past : List Entry) (e : Entry) (p : Pass) → IsSound past → CanMove past e.event
    → length (active past) ≤ length (active (e ∷ past)) → TouchesNoOwn past e.event → OwnPass p
    → HasPages past p → HasPages (e ∷ past) p
pass_kept past e (Between works) s can grown apart_own own k = tt
pass_kept past e (Scan left taken) s can grown apart_own own k = record {
  some = k.some;
  enough = let low = k.enough in omega (arith, grown, low);
  waiting = own_kept past e false taken s can apart_own own k.waiting;
  apart = k.apart;
}
pass_kept past e (Blocking [] taken) s can grown apart_own own k = k
pass_kept past e (Blocking (g ∷ gs) taken) s can grown apart_own own k = record {
  done = k.done;
  splits = k.splits;
  shut = own_kept past e true k.done s can apart_own (own_front k.done (g ∷ gs) (subst AllOwn k.splits own.1)) k.shut;
  waiting = own_kept past e false (g ∷ gs) s can apart_own own.0 k.waiting;
  apart = k.apart;
}
pass_kept past e (Tries g rest form) s can grown apart_own own k = record {
  page = stands_kept past e g form s can (apart_own g own.0) k.page;
  waiting = own_kept past e true rest s can apart_own own.1 k.waiting;
  apart = k.apart;
}
