-- Where a page was taken beside the passes, the first version array page was made.
use Rattle.std.proofs.Common.{◌≡◌, ℕ, ◌<◌, ◌≤◌, ◌&&◌, Bool, true, false, if◌then◌else◌, refl, sym, ◌∙◌, subst}
use Rattle.std.proofs.Common.{List, [], ◌∷◌, Option, Some, None, arith}
use Rattle.std.proofs.lemmas.Bool.{false≢true, ltb-true}
use Rattle.sgx_types.proofs.Truths.{both_true}
use Rattle.sgx_types.specs.Making.{Making}
use Rattle.sgx_types.specs.Pages.{is_own_page, is_secs_page, secs_page}
use Rattle.sgx_types.specs.declared.names.Actor.{Actor}
use Rattle.sgx_types.specs.declared.names.Actor.TheVariants as actors
use Rattle.sgx_types.specs.declared.names.Page.{Page}
use Rattle.sgx_rules.specs.declared.entries.Action.TheVariants.{Ewb, EwbStart}
use Rattle.sgx_rules.specs.declared.entries.Answer.TheVariants.{Moved}
use Rattle.sgx_rules.specs.declared.entries.Entry.{Entry}
use Rattle.sgx_rules.specs.declared.entries.Event.{Event}
use Rattle.sgx_rules.specs.declared.entries.Event.TheVariants.{Age, Did}
use Rattle.sgx_rules.specs.declared.entries.Look.{Look}
use Rattle.sgx_rules.specs.declared.entries.Look.TheVariants as looks
use Rattle.sgx_rules.specs.Frames.{vas_after, vas_made}
use Rattle.job_grammar.specs.Jobs.{JobView, va_pages}
use Rattle.sgx_machine.specs.inner.Parts.{Parts}
use Rattle.driver_rules.specs.Ages.{ahead_by, IsAhead, KeptAgeRule}
use Rattle.driver_rules.specs.Stops.{last_event}
use Rattle.driver_rules.specs.Passes as passes
use Rattle.driver_rules.specs.Passes.{Aside, aside, IsGoing, IsToGo, NoneAside}
use Rattle.driver_rules.specs.Places.{place}
use Rattle.driver_rules.specs.Spares.{array_at, due_by, due_with, is_alone, is_full, is_spare, least_from, Outs, outs_kept, spare}
use Rattle.driver_laws.proofs.KeeperTakes.{found_made}
use Rattle.driver_laws.proofs.BuiltLaws.{added_has_pages, own_added, vas_moved}
use Rattle.driver_laws.proofs.MarkLaws.{head_own}
use Rattle.driver_laws.specs.inner.Sound.{is_absent}
use Rattle.driver_laws.proofs.DueLaws.{least_passes}
use Rattle.driver_tables.specs.declared.driver.Driver.{Driver}
use Rattle.driver_pass.specs.inner.Standing.{behind_of, IsOut}
use Rattle.driver_pass.specs.inner.Viewed.{PassView}
use Rattle.driver_reclaim.specs.inner.Ready.{HasFirst, Ready}

pub none_first : HasFirst []
none_first g is = cc

more_made : (ev : Event) (n : ℕ) → 0 < n → 0 < vas_after ev n
more_made ev n some = let moved = vas_moved ev n in omega (arith, some, moved)

module _ (made : Making) (j : JobView) (past : List Entry) (v : PassView) (d : Driver) (m : Parts) (r : Ready made j past v d m) where
  spare_made : (out : Outs) (g : Page) → spare j past out ≡ Some g → 0 < vas_made past
  spare_made out g h = by_least (least_from (is_spare j past out) 0 (vas_made past)) refl h
    where
      by_least : (l : Option ℕ) → least_from (is_spare j past out) 0 (vas_made past) ≡ l → array_at l ≡ Some g → 0 < vas_made past
      by_least None least k = cc
      by_least (Some va) least k =
          let passes = least_passes (is_spare j past out) 0 (vas_made past) va least in
          let here = (both_true _ _ (both_true _ (is_full out va) (both_true _ _ (both_true _ _ passes).0).0).0).1 in
          let low = ltb-true va (vas_made past) (found_made past (record { va = va; index = 0 }) r.agrees.sound here) in
          omega (arith, low)

  -- a page that has gone out was added, behind all version array pages
  own_made : (page : Page) → is_own_page page ≡ true → is_absent (place past page) ≡ false → 0 < vas_made past
  own_made page own there =
      let all = r.agrees.shows.slots.made (added_has_pages past page (own_added past page r.agrees.sound own there)) in
      let some : 1 ≤ va_pages j = omega arith in omega (arith, all, some)

  due_made : (out : Outs) (o : Option Event) (g : Page) → IsOut past (behind_of o) → due_by j past out o ≡ Some g → 0 < vas_made past
  due_made out o g gone is = by_event o gone is
    where
      by_alone : (page : Page) (b : Bool) → (is_own_page page && is_alone j past page.enclave) ≡ b → is_absent (place past page) ≡ false
          → (if b then Some (secs_page page.enclave) else spare j past out) ≡ Some g → 0 < vas_made past
      by_alone page false at there h = spare_made out g h
      by_alone page true at there h = own_made page (both_true (is_own_page page) (is_alone j past page.enclave) at).0 there

      by_secs : (b : Bool) → (if b then spare j past out else None) ≡ Some g → 0 < vas_made past
      by_secs true h = spare_made out g h
      by_secs false h = cc

      by_event : (o : Option Event) → IsOut past (behind_of o) → due_by j past out o ≡ Some g → 0 < vas_made past
      by_event (Some (Did (Ewb f) (Moved page version tag))) there h =
          by_alone page (is_own_page page && is_alone j past page.enclave) refl there h
      by_event (Some (Age page looks.NoRoom)) there h = by_secs (is_secs_page page) h
      by_event _ there h = cc

  -- a look that takes a SECS or a version array page is at the one that is due
  taken_made : (page : Page) → is_own_page page ≡ false → (x : Aside) (due : Option Page) → due_with j past (outs_kept j past) ≡ due
      → IsAhead j past (ahead_by x due) (Age page looks.Taken) → 0 < vas_made past
  taken_made page other NoneAside None is age =
      absurd (false≢true (sym other ∙ head_own past page r.agrees.sound age.look.head))
  taken_made page other NoneAside (Some g) is age =
      due_made (outs_kept j past) (last_event past actors.Reclaimer) g (subst (IsOut past) r.stands.behind r.stands.out) is
  taken_made page other (IsToGo g) due is age = absurd age
  taken_made page other (IsGoing g) due is age = absurd age

  own_first : (ev : Event) → IsAhead j past (ahead_by (aside past) (due_with j past (outs_kept j past))) ev → (g : Page)
      → passes.aside_by ev (aside past) ≡ IsToGo g → 0 < vas_after ev (vas_made past)
  own_first (Age page look) age g is = by_own (is_own_page page) refl look age is
    where
      by_own : (b : Bool) → is_own_page page ≡ b → (l : Look)
          → IsAhead j past (ahead_by (aside past) (due_with j past (outs_kept j past))) (Age page l)
          → (if b then NoneAside else passes.aside_with l page) ≡ IsToGo g → 0 < vas_made past
      by_own true own l rule h = cc
      by_own false other looks.Taken rule h = taken_made page other (aside past) (due_with j past (outs_kept j past)) refl rule
      by_own false other looks.Held rule h = cc
      by_own false other looks.Young rule h = cc
      by_own false other looks.NoRoom rule h = cc
  own_first (Did (EwbStart f at) answer) age g is = by_aside (aside past) is
    where
      by_aside : (x : Aside) → passes.aside_by (Did (EwbStart f at) answer) x ≡ IsToGo g → 0 < vas_made past
      by_aside NoneAside h = cc
      by_aside (IsToGo page) h = cc
      by_aside (IsGoing page) h = cc
  own_first (Did (Ewb f) answer) age g is = cc
  own_first ev age g is = more_made ev (vas_made past) (r.first g is)

  pub stays_first : (e : Entry) → KeptAgeRule j past e → HasFirst (e ∷ past)
  stays_first e rule g is = by_actor e.actor e.event rule is
    where
      by_actor : (a : Actor) (ev : Event) → KeptAgeRule j past (record { actor = a; event = ev })
          → passes.aside_after a ev (aside past) ≡ IsToGo g → 0 < vas_after ev (vas_made past)
      by_actor actors.Reclaimer ev age h = own_first ev age g h
      by_actor actors.Builder ev age h = more_made ev (vas_made past) (r.first g h)
      by_actor (actors.Cpu p) ev age h = more_made ev (vas_made past) (r.first g h)
