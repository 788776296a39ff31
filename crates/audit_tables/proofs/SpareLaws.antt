-- A SECS or a version array page that is looked at is due: it is here, and a version array page is full.
use Rattle.std.proofs.Common.{◌≡◌, ℕ, ◌==◌, ◌<◌, ◌&&◌, not, nat_lt, Bool, true, false, if◌then◌else◌, refl, sym, ap, subst}
use Rattle.std.proofs.Common.{◌∙◌, List, Option, Some, None, length}
use Rattle.std.proofs.lemmas.Bool.{false≢true, ltb-true}
use Rattle.std.proofs.lemmas.Option.{same_Some}
use Rattle.sgx_types.proofs.CountLaws.{any_below-some}
use Rattle.sgx_types.proofs.Truths.{both_true}
use Rattle.sgx_rules.proofs.Busy.{idle_free}
use Rattle.sgx_rules.specs.declared.entries.Action.TheVariants.{Ewb}
use Rattle.sgx_rules.specs.declared.entries.Answer.TheVariants.{Moved}
use Rattle.sgx_rules.specs.declared.entries.Entry.{Entry}
use Rattle.sgx_rules.specs.declared.entries.Event.{Event}
use Rattle.sgx_rules.specs.declared.entries.Event.TheVariants.{Age, Did}
use Rattle.sgx_rules.specs.declared.entries.Look.{Look}
use Rattle.sgx_rules.specs.declared.entries.Look.TheVariants as looks
use Rattle.sgx_types.specs.declared.names.Actor.TheVariants as actors
use Rattle.sgx_types.specs.declared.names.Page.{Page}
use Rattle.sgx_types.specs.declared.names.VaSlot.{VaSlot}
use Rattle.sgx_types.specs.Pages.{is_own_page, is_secs_page, is_va_page, secs_page, va_page}
use Rattle.sgx_rules.specs.Frames.{children, content, vas_made}
use Rattle.sgx_rules.specs.Slots.{is_va_in_use}
use Rattle.job_grammar.specs.Jobs.{JobView}
use Rattle.script_rules.specs.Script.{is_initialised}
use Rattle.driver_slots.specs.inner.Keeper.{Keeper, is_ours, is_out}
use Rattle.driver_rules.specs.Ages.{AgeRule, IsAhead, ahead_by}
use Rattle.driver_rules.specs.Holds.{is_held_below}
use Rattle.driver_rules.specs.Stops.{last_event}
use Rattle.driver_rules.specs.Passes.{Aside, IsGoing, IsToGo, NoneAside, aside}
use Rattle.driver_rules.specs.Places.{active, is_here, place}
use Rattle.driver_rules.specs.Spares.{Outs, array_at, due_behind, due_by, due_with, is_alone, is_full, is_spare, least_from, outs, spare}
use Rattle.driver_laws.specs.inner.Agrees.{ShowsSlots, auditors}
use Rattle.driver_laws.specs.inner.Keeps.{LeavesFull}
use Rattle.driver_laws.specs.inner.Sound.{IsSound}
use Rattle.driver_laws.specs.inner.Used.{SealingAreOpen}
use Rattle.driver_laws.proofs.MarkLaws.{head_own}
use Rattle.driver_laws.proofs.RowLaws.{array_stays}
use Rattle.driver_laws.proofs.SoundLaws.{entry_of, head_here}
use Rattle.driver_laws.proofs.DueLaws.{least_passes}

-- ---- a page that is due

pub record IsDue (past : List Entry) (out : Outs) (g : Page) : Type 0 where
  pub here : is_here (place past g) ≡ true
  pub full : is_va_page g ≡ true → is_full out g.number ≡ true

spare_due : (j : JobView) (past : List Entry) (out : Outs) (va : ℕ) → is_spare j past out va ≡ true → IsDue past out (va_page va)
spare_due j past out va h =
    let a = both_true (not (va == 0) && is_here (place past (va_page va)) && is_full out va && not (is_va_in_use j.epc past va))
    (not (is_held_below j past (va_page va) (length j.scripts))) h in
    let b = both_true (not (va == 0) && is_here (place past (va_page va)) && is_full out va) (not (is_va_in_use j.epc past va)) a.0 in
    let c = both_true (not (va == 0) && is_here (place past (va_page va))) (is_full out va) b.0 in
    let d = both_true (not (va == 0)) (is_here (place past (va_page va))) c.0 in
    record { here = d.1; full = λ is. c.1 }

alone_due : (j : JobView) (past : List Entry) (out : Outs) (e : ℕ) → (e == 0) ≡ false → is_alone j past e ≡ true
    → IsDue past out (secs_page e)
alone_due j past out e some h =
    let a = both_true (is_initialised past e && is_here (place past (secs_page e))) (children j.epc (content past) e == 0) h in
    let b = both_true (is_initialised past e) (is_here (place past (secs_page e))) a.0 in
    record { here = b.1; full = λ va. absurd (false≢true (sym some ∙ va)) }

a_spare_due : (j : JobView) (past : List Entry) (out : Outs) (g : Page) → spare j past out ≡ Some g → IsDue past out g
a_spare_due j past out g is = by_least (least_from (is_spare j past out) 0 (vas_made past)) refl is
  where
    by_least : (o : Option ℕ) → least_from (is_spare j past out) 0 (vas_made past) ≡ o → array_at o ≡ Some g → IsDue past out g
    by_least None least h = cc
    by_least (Some va) least h =
        let passes = least_passes (is_spare j past out) 0 (vas_made past) va least in
        subst (IsDue past out) (same_Some (va_page va) g h) (spare_due j past out va passes)

own_enclave : (g : Page) → is_own_page g ≡ true → (g.enclave == 0) ≡ false
own_enclave g own = by_test (g.enclave == 0) (g.number == 4294967295) own
  where
    by_test : (b c : Bool) → (not b && not c) ≡ true → b ≡ false
    by_test false c h = refl
    by_test true c h = absurd (false≢true h)

behind_due : (j : JobView) (past : List Entry) (out : Outs) (page g : Page) → due_behind j past out page ≡ Some g → IsDue past out g
behind_due j past out page g is = by_test (is_own_page page && is_alone j past page.enclave) refl is
  where
    by_test : (b : Bool) → (is_own_page page && is_alone j past page.enclave) ≡ b
        → (if b then Some (secs_page page.enclave) else spare j past out) ≡ Some g → IsDue past out g
    by_test false at h = a_spare_due j past out g h
    by_test true at h =
        let k = both_true (is_own_page page) (is_alone j past page.enclave) at in
        subst (IsDue past out) (same_Some (secs_page page.enclave) g h)
        (alone_due j past out page.enclave (own_enclave page k.0) k.1)

due_is : (j : JobView) (past : List Entry) (out : Outs) (o : Option Event) (g : Page) → due_by j past out o ≡ Some g → IsDue past out g
due_is j past out (Some (Did (Ewb f) (Moved page version tag))) g is = behind_due j past out page g is
due_is j past out (Some (Age page looks.NoRoom)) g is = by_test (is_secs_page page) is
  where
    by_test : (b : Bool) → (if b then spare j past out else None) ≡ Some g → IsDue past out g
    by_test true h = a_spare_due j past out g h
    by_test false h = cc
due_is j past out _ g is = cc

-- ---- a look at it

module _ (j : JobView) (past : List Entry) (page : Page) (look : Look) (sound : IsSound past)
    (age : AgeRule j past (entry_of actors.Reclaimer (Age page look))) where
  due_if : is_own_page page ≡ false → (at : Aside) (due : Option Page) → IsAhead j past (ahead_by at due) (Age page look) → due ≡ Some page
  due_if other NoneAside None h = absurd (false≢true (sym other ∙ head_own past page sound h.look.head))
  due_if other NoneAside (Some g) h = by_look look h
    where
      by_look : (l : Look) → IsAhead j past (ahead_by NoneAside (Some g)) (Age page l) → Some g ≡ Some page
      by_look looks.Taken k = ap Some (sym k)
      by_look looks.NoRoom k = ap Some (sym k)
      by_look looks.Held k = absurd k
      by_look looks.Young k = absurd k
  due_if other (IsToGo g) due h = absurd h
  due_if other (IsGoing g) due h = absurd h

  pub looked_due : is_own_page page ≡ false → IsDue past (outs j past) page
  looked_due other =
      due_is j past (outs j past) (last_event past actors.Reclaimer) page
      (due_if other (aside past) (due_with j past (outs j past)) age)

  -- whatever page it is, it is here
  pub looked_here : is_here (place past page) ≡ true
  looked_here = by_aside (aside past) (due_with j past (outs j past)) refl age
    where
      due : (o : Option Page) (g : Page) → due_with j past (outs j past) ≡ o → o ≡ Some g → is_here (place past g) ≡ true
      due o g is same = (due_is j past (outs j past) (last_event past actors.Reclaimer) g (is ∙ same)).here

      by_look : (l : Look) (g : Page) → due_with j past (outs j past) ≡ Some g → IsAhead j past (ahead_by NoneAside (Some g)) (Age page l)
          → is_here (place past page) ≡ true
      by_look looks.Taken g is k = due (Some g) page is (ap Some (sym k))
      by_look looks.NoRoom g is k = due (Some g) page is (ap Some (sym k))
      by_look looks.Held g is k = absurd k
      by_look looks.Young g is k = absurd k

      by_aside : (at : Aside) (o : Option Page) → due_with j past (outs j past) ≡ o → IsAhead j past (ahead_by at o) (Age page look)
          → is_here (place past page) ≡ true
      by_aside NoneAside None is h = ap is_here (head_here (active past) (place past) page sound.list h.look.head).1
      by_aside NoneAside (Some g) is h = by_look look g is h
      by_aside (IsToGo g) o is h = absurd h
      by_aside (IsGoing g) o is h = absurd h

-- ---- its slots

-- each slot of a full page is out
slot_full : (out : Outs) (va index : ℕ) → is_full out va ≡ true → index < 512 → out (record { va = va; index = index }) ≡ true
unfolding is_full
slot_full out va index full low = by_test (out (record { va = va; index = index })) refl
  where
    free : ℕ → Bool
    free n = not (out (record { va = va; index = n }))

    by_test : (b : Bool) → out (record { va = va; index = index }) ≡ b → b ≡ true
    by_test true is = refl
    by_test false is =
        absurd (false≢true (ap not (sym (any_below-some (λ n. not (out (record { va = va; index = n }))) 512 index low (ap not is)))
        ∙ full))

pub leaves_full : (j : JobView) (keeper : Keeper) (past : List Entry) (page : Page) (look : Look) → IsSound past → SealingAreOpen past
    → ShowsSlots auditors j keeper past → AgeRule j past (entry_of actors.Reclaimer (Age page look)) → LeavesFull keeper (Age page look)
leaves_full j keeper past page looks.Held sound sealing shows age = tt
leaves_full j keeper past page looks.Young sound sealing shows age = tt
leaves_full j keeper past page looks.NoRoom sound sealing shows age = tt
leaves_full j keeper past page looks.Taken sound sealing shows age = λ array s same ours. out array s same ours (is_out keeper s) refl
  where
    not_own : is_va_page page ≡ true → is_own_page page ≡ false
    not_own array = rw array refl

    low : (s : VaSlot) → is_ours keeper s ≡ true → s.index < 512
    low s ours =
        let named = sym (shows.ours s) ∙ ours in
        ltb-true s.index 512 (both_true _ (nat_lt s.index 512) (both_true (nat_lt s.va (vas_made past)) _ named).1).1

    out : is_va_page page ≡ true → (s : VaSlot) → s.va ≡ page.number → is_ours keeper s ≡ true → (b : Bool) → is_out keeper s ≡ b → b ≡ true
    out array s same ours true is = refl
    out array s same ours false is =
        let due = looked_due j past page looks.Taken sound age (not_own array) in
        let none = shows.empty s ours is in
        let idle = idle_free j.epc past s none.1 (array_stays past s.va sound sealing (shows.here s ours is)) in
        let free : outs j past s ≡ false = rw (idle, none.0) refl in
        absurd (false≢true (sym free
        ∙ slot_full (outs j past) s.va s.index (subst (λ n. is_full (outs j past) n ≡ true) (sym same) (due.full array)) (low s ours)))
