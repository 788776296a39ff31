-- What an entry leaves as it is: the frames that it is not on, and the processors that it is not by.
use Rattle.std.proofs.Common.{◌≡◌, ℕ, ◌==◌, ◌&&◌, ◌||◌, not, false, List, [], ◌∷◌, Option, Some, None}
use Rattle.std.proofs.Common.{refl}
use Rattle.sgx_rules.specs.declared.entries.Action.TheVariants as actions
use Rattle.sgx_rules.specs.declared.entries.Answer.TheVariants as answers
use Rattle.sgx_rules.specs.declared.entries.Entry.{Entry}
use Rattle.sgx_rules.specs.declared.entries.Event.{Event}
use Rattle.sgx_rules.specs.declared.entries.Event.TheVariants.{Did, Refused}
use Rattle.sgx_rules.specs.Frames.{Before, put_by, made_before, is_put, is_block, is_blocked, is_sealing}
use Rattle.sgx_rules.specs.Processors.{Move, Enters, Leaves, Keeps, Stay, stay_after}
use Rattle.sgx_types.specs.declared.names.Frame.{Frame}
use Rattle.trace_places.specs.declared.change.Tenant.{Tenant}
use Rattle.trace_places.specs.Places.{change_by, tenant_after, va_change}
use Rattle.picture_text.specs.Events.{frame_in}
use Rattle.picture_text.specs.declared.leaving.Leaving.{Leaving}
use Rattle.picture_text.specs.inner.Following.{is_on, leaving_after, leaving_of}

-- ---- whose a frame is

va_stays : (f : Frame) (va : Option ℕ) (n : ℕ) (t : Option Tenant) → (f.0 == n) ≡ false → tenant_after (Some (va_change f va)) n t ≡ t
va_stays f None n t h = rw h refl
va_stays f (Some number) n t h = rw h refl

pub tenant_stays : (event : Event) (va : Option ℕ) (n : ℕ) (t : Option Tenant) → is_on (frame_in event) n ≡ false
    → tenant_after (change_by event va) n t ≡ t
tenant_stays (Did (actions.Epa f) answer) va n t h = va_stays f va n t h
tenant_stays (Did (actions.Create enclave f base size) answer) va n t h = rw h refl
tenant_stays (Did (actions.Add enclave number f kind perm init) answer) va n t h = rw h refl
tenant_stays (Did (actions.EldStart f page slot) answer) va n t h = rw h refl
tenant_stays (Did (actions.Eld f) (answers.Moved page version tag)) va n t h = rw h refl
tenant_stays (Did (actions.Ewb f) answer) va n t h = rw h refl
tenant_stays (Refused (actions.Eld f) why) va n t h = rw h refl
tenant_stays event va n t h = refl

-- ---- blocked, and on its way out

-- which frame an event puts does not depend on what was made before
pub puts_alike : (event : Event) (a b : Before) (n : ℕ) → is_put (put_by event a) n ≡ is_put (put_by event b) n
puts_alike (Did (actions.Eld f) (answers.Moved page version tag)) a b n = refl
puts_alike (Refused (actions.Eld f) why) a b n = refl
puts_alike event a b n = refl

pub leaving_stays : (event : Event) (n : ℕ) (before : Leaving) → is_on (frame_in event) n ≡ false → leaving_after event n before ≡ before
leaving_stays (Did (actions.Epa f) answer) n before h = rw h refl
leaving_stays (Did (actions.Create enclave f base size) answer) n before h = rw h refl
leaving_stays (Did (actions.Add enclave number f kind perm init) answer) n before h = rw h refl
leaving_stays (Did (actions.Block f) answer) n before h = rw h refl
leaving_stays (Did (actions.EwbStart f slot) answer) n before h = rw h refl
leaving_stays (Did (actions.Ewb f) answer) n before h = rw h refl
leaving_stays (Did (actions.EldStart f page slot) answer) n before h = rw h refl
leaving_stays (Did (actions.Eld f) (answers.Moved page version tag)) n before h = rw h refl
leaving_stays (Refused (actions.Eld f) why) n before h = rw h refl
leaving_stays event n before h = refl

-- one entry more
pub leaving_more : (past : List Entry) (e : Entry) (n : ℕ) → leaving_of (e ∷ past) n ≡ leaving_after e.event n (leaving_of past n)
leaving_more past e n =
    λ i. record {
      blocked = is_block e.event n || (not (puts_alike e.event (made_before past) (made_before []) n i) && is_blocked past n);
      sealing = is_sealing (e ∷ past) n;
    }

-- ---- processors

pub stay_stays : (move : Move) (past : List Entry) (before : Option Stay) → stay_after move false past before ≡ before
stay_stays (Enters seat) past before = refl
stay_stays Leaves past before = refl
stay_stays Keeps past before = refl
