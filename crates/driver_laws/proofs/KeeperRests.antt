-- Entries by which no page gets a slot or loses it leave the keeper of the version slots in agreement with the entries.
use Rattle.std.proofs.Common.{◌≡◌, ℕ, ◌==◌, ◌&&◌, Bool, true, false, if◌then◌else◌, refl, sym, ◌⊎◌, inl, inr}
use Rattle.std.proofs.Common.{◌∙◌, ap, subst, List, ◌∷◌, Option, Some, None, length, nat_le, nat_lt}
use Rattle.std.proofs.lemmas.Bool.{false≢true}
use Rattle.sgx_types.proofs.Pages.{same_pages, same_slots}
use Rattle.sgx_rules.specs.declared.entries.Action.TheVariants.{Add, Create, Eld, EldStart, Ewb}
use Rattle.sgx_types.specs.declared.names.Actor.{Actor}
use Rattle.sgx_rules.specs.declared.entries.Answer.{Answer}
use Rattle.sgx_rules.specs.declared.entries.Answer.TheVariants.{Moved}
use Rattle.sgx_rules.specs.declared.entries.Entry.{Entry}
use Rattle.sgx_rules.specs.declared.entries.Event.TheVariants.{Age, Did, Refused}
use Rattle.sgx_rules.specs.declared.entries.Look.{Look}
use Rattle.sgx_types.specs.declared.lawful.PageInit.{PageInit}
use Rattle.sgx_types.specs.declared.names.Frame.{Frame}
use Rattle.sgx_types.specs.declared.names.Kind.{Kind}
use Rattle.sgx_types.specs.declared.names.Perm.{Perm}
use Rattle.sgx_types.specs.declared.names.Page.{Page}
use Rattle.sgx_types.specs.declared.names.SlotAt.{SlotAt}
use Rattle.sgx_types.specs.declared.names.VaSlot.{VaSlot}
use Rattle.sgx_rules.specs.declared.refusals.Refusal.{Refusal}
use Rattle.sgx_rules.specs.Frames.{vas_made}
use Rattle.sgx_types.specs.Pages.{page_at, same_page, same_slot, secs_page, va_page}
use Rattle.sgx_rules.specs.Slots.{names_slot, open_slot, slot_of as starts_slot, version_in}
use Rattle.sgx_rules.specs.inner.Slots.{IsIdle}
use Rattle.sgx_rules.specs.Starts.{open_start, Start, started, version_told}
use Rattle.driver_slots.specs.inner.Keeper.{array_at, is_in, is_ours, is_ours_by as ours_by, is_out}
use Rattle.driver_slots.specs.inner.Keeper.{is_out_by, Keeper}
use Rattle.job_grammar.specs.Jobs.{JobView, va_pages}
use Rattle.driver_rules.specs.Places.{after_look, Away, comes_into, gone_to, is_here, Leaving}
use Rattle.driver_rules.specs.Places.{place}
use Rattle.driver_laws.specs.inner.Agrees.{has_pages, Keeping, ShowsSlots, stays}
use Rattle.driver_laws.specs.inner.Keeps.{LeavesFull}
use Rattle.driver_laws.specs.inner.Kinds.{CanMove}
use Rattle.driver_laws.specs.inner.Sound.{IsSound, slot_at, slot_of}
use Rattle.sgx_rules.proofs.Busy.{idle_ended, idle_started}
use Rattle.driver_laws.proofs.HereLaws.{here_more}
use Rattle.driver_laws.proofs.SoundLaws.{by_same, entry_of, here-back, named}
use Rattle.driver_laws.proofs.SlotMoves.{same_add, same_age, same_create, same_eldstart, same_ewb, same_refused, SameSlots}
use Rattle.driver_laws.proofs.AloneLaws.{alone}
use Rattle.sgx_rules.specs.declared.entries.Look.TheVariants as looks

-- ---- in general

-- a slot that is out is the keeper's
pub out_is_ours : (keeper : Keeper) (t : VaSlot) → is_out keeper t ≡ true → is_ours keeper t ≡ true
out_is_ours keeper t k = by_array (array_at keeper t.va) k
  where
    both : (a b : Bool) → (a && b) ≡ true → a ≡ true
    both true b h = refl
    both false b h = h

    by_array : (o : Option _) → is_out_by o t.index ≡ true → ours_by o t.index ≡ true
    by_array None h = h
    by_array (Some a) h = both (is_in a t.index) _ h

-- what an entry leaves of a slot: its version, that no start names it, and that its page is here
pub record Rests (past : List Entry) (e : Entry) (t : VaSlot) : Type 0 where
  pub version : version_in (e ∷ past) t ≡ version_in past t
  pub idle : IsIdle past t → IsIdle (e ∷ past) t
  pub here : is_here (place past (va_page t.va)) ≡ true → is_here (place (e ∷ past) (va_page t.va)) ≡ true

-- an entry that leaves the pages' slots, what stands in those that are not out, and the version array pages
pub shows_same : (k : Keeping) (j : JobView) (keeper : Keeper) (past : List Entry) (e : Entry) → ShowsSlots k j keeper past
    → vas_made (e ∷ past) ≡ vas_made past → (has_pages (e ∷ past) ≡ true → vas_made past ≡ va_pages j) → SameSlots past e
    → ((t : VaSlot) → stays k (e ∷ past) t ≡ stays k past t)
    → ((t : VaSlot) → is_ours keeper t ≡ true → is_out keeper t ≡ false → Rests past e t)
    → ShowsSlots k j keeper (e ∷ past)
shows_same k j keeper past e s arrays made same occupied rests = record {
  ours = λ t. s.ours t ∙ ap (λ n. nat_lt t.va n && (nat_le (k.firsts t.va) t.index && nat_lt t.index 512)) (sym arrays);
  placed = λ g t at. ap (λ n. nat_lt t.va n) arrays ∙ s.placed g t (sym (same g) ∙ at);
  within = λ g t at. s.within g t (sym (same g) ∙ at);
  tried = λ t stay. ap (λ n. nat_lt t.va n) arrays ∙ s.tried t (sym (occupied t) ∙ stay);
  added = λ va. s.added va ∙ ap (λ n. nat_lt va n) (sym arrays);
  made = λ h. arrays ∙ made h;
  out = λ t is. by_owner t (s.out t is);
  used = λ g t at ours. s.used g t (sym (same g) ∙ at) ours;
  kept = λ t stay ours. s.kept t (sym (occupied t) ∙ stay) ours;
  alone = λ g t at ours. occupied t ∙ s.alone g t (sym (same g) ∙ at) ours;
  empty = λ t ours free. let old = s.empty t ours free in let r = rests t ours free in (r.version ∙ old.0, r.idle old.1);
  here = λ t ours free. (rests t ours free).here (s.here t ours free);
}
  where
    by_owner : (t : VaSlot) → ((g : Page) × (slot_of past g ≡ Some t)) ⊎ (stays k past t ≡ true)
        → ((g : Page) × (slot_of (e ∷ past) g ≡ Some t)) ⊎ (stays k (e ∷ past) t ≡ true)
    by_owner t (inl owner) = inl (owner.0, same owner.0 ∙ owner.1)
    by_owner t (inr stay) = inr (occupied t ∙ stay)

-- the slot of a page is not one that is the keeper's and not out
its_apart : (k : Keeping) (j : JobView) (keeper : Keeper) (past : List Entry) (g : Page) (mine t : VaSlot) → ShowsSlots k j keeper past
    → slot_of past g ≡ Some mine → is_ours keeper t ≡ true → is_out keeper t ≡ false → same_slot mine t ≡ false
its_apart k j keeper past g mine t s at ours free = by_test (same_slot mine t) refl
  where
    by_test : (b : Bool) → same_slot mine t ≡ b → same_slot mine t ≡ false
    by_test true is = absurd (false≢true (sym free ∙ s.used g t (at ∙ ap Some (same_slots mine t is)) ours))
    by_test false is = is

-- ---- entries by which no page gets a slot or loses it

pub shows_create : (k : Keeping) (j : JobView) (keeper : Keeper) (past : List Entry) (a : Actor) (e : ℕ) (f : Frame) (base size : ℕ)
    (answer : Answer) → CanMove past (Did (Create e f base size) answer) → ShowsSlots k j keeper past
    → ShowsSlots k j keeper (entry_of a (Did (Create e f base size) answer) ∷ past)
shows_create k j keeper past a e f base size answer can s =
    shows_same k j keeper past (entry_of a (Did (Create e f base size) answer)) s refl s.made
    (same_create past a e f base size answer can) (λ t. refl)
    (λ t ours free. record {
      version = refl;
      idle = λ h. h;
      here = here_more (place past) (secs_page e) f.0 (va_page t.va);
    })

pub shows_add : (k : Keeping) (j : JobView) (keeper : Keeper) (past : List Entry) (a : Actor) (e n : ℕ) (f : Frame) (kind : Kind)
    (perm : Perm) (init : PageInit) (answer : Answer) → CanMove past (Did (Add e n f kind perm init) answer) → vas_made past ≡ va_pages j
    → ShowsSlots k j keeper past → ShowsSlots k j keeper (entry_of a (Did (Add e n f kind perm init) answer) ∷ past)
shows_add k j keeper past a e n f kind perm init answer can made s =
    shows_same k j keeper past (entry_of a (Did (Add e n f kind perm init) answer)) s refl (λ h. made)
    (same_add past a e n f kind perm init answer can) (λ t. refl)
    (λ t ours free. record {
      version = refl;
      idle = λ h. h;
      here = here_more (place past) (page_at e n) f.0 (va_page t.va);
    })

-- a version array page leaves with all its slots out
pub shows_age : (k : Keeping) (j : JobView) (keeper : Keeper) (past : List Entry) (a : Actor) (page : Page) (look : Look) → IsSound past
    → LeavesFull keeper (Age page look) → ShowsSlots k j keeper past → ShowsSlots k j keeper (entry_of a (Age page look) ∷ past)
shows_age k j keeper past a page look sound full s =
    shows_same k j keeper past (entry_of a (Age page look)) s refl s.made (same_age past a page look sound) (λ t. refl)
    (λ t ours free. record { version = refl; idle = λ h. h; here = by_look look full t ours free (same_page page (va_page t.va)) refl })
  where
    by_look : (l : Look) → LeavesFull keeper (Age page l) → (t : VaSlot) → is_ours keeper t ≡ true → is_out keeper t ≡ false
        → (b : Bool) → same_page page (va_page t.va) ≡ b → is_here (place past (va_page t.va)) ≡ true
        → is_here (if b then after_look l (place past (va_page t.va)) else place past (va_page t.va)) ≡ true
    by_look l f t ours free false is h = h
    by_look looks.Young f t ours free true is h = h
    by_look looks.Held f t ours free true is h = h
    by_look looks.NoRoom f t ours free true is h = h
    by_look looks.Taken f t ours free true is h =
        let one : page ≡ va_page t.va = same_pages page (va_page t.va) is in
        absurd (false≢true (sym free ∙ f (ap (λ (p : Page). p.enclave == 0) one) t (ap (λ (p : Page). p.number) (sym one)) ours))

pub shows_ewb : (k : Keeping) (j : JobView) (keeper : Keeper) (past : List Entry) (a : Actor) (f : Frame) (page : Page) (version : ℕ)
    (tag : List ℕ) → CanMove past (Did (Ewb f) (Moved page version tag)) → IsSound past → ShowsSlots k j keeper past
    → ShowsSlots k j keeper (entry_of a (Did (Ewb f) (Moved page version tag)) ∷ past)
shows_ewb k j keeper past a f page version tag can sound s =
    shows_same k j keeper past (entry_of a (Did (Ewb f) (Moved page version tag))) s refl s.made
    (same_ewb past a f page version tag can sound) (λ t. refl)
    (λ t ours free. record {
      version = rw (named past f.0 x can.1.1, its_apart k j keeper past page x.slot t s mine ours free) refl;
      idle = idle_ended past f.0 t;
      here = λ h. here_kept (va_page t.va) ∙ h;
    })
  where
    x : Start
    x = can.1.0

    mine : slot_of past page ≡ Some x.slot
    mine = ap (slot_at (open_start past)) can.0 ∙ ap starts_slot can.1.1

    here_kept : (g : Page) → is_here (if same_page page g then gone_to (open_slot past f.0) (place past g) else place past g)
        ≡ is_here (place past g)
    here_kept =
        by_same (place past) (gone_to (open_slot past f.0)) page (Leaving f.0) is_here can.0
        (ap (λ o. is_here (gone_to (starts_slot o) (Leaving f.0))) can.1.1)

pub shows_eldstart : (k : Keeping) (j : JobView) (keeper : Keeper) (past : List Entry) (a : Actor) (f : Frame) (page : Page) (to : SlotAt)
    (answer : Answer) → CanMove past (Did (EldStart f page to) answer) → IsSound past → ShowsSlots k j keeper past
    → ShowsSlots k j keeper (entry_of a (Did (EldStart f page to) answer) ∷ past)
shows_eldstart k j keeper past a f page to answer can sound s =
    shows_same k j keeper past (entry_of a (Did (EldStart f page to) answer)) s refl s.made
    (same_eldstart past a f page to answer can sound) (λ t. refl)
    (λ t ours free. record {
      version = refl;
      idle = λ idle. subst
          (λ o. (n : ℕ)
          → names_slot (starts_slot (if f.0 == n then started a (length past) to answer (Some page) o else open_start past n)) t ≡ false)
          (sym can.3)
          (idle_started past f.0
          (record { at = to; slot = can.1; version = version_told answer; loads = Some page; place = length past; actor = a }) t
          (its_apart k j keeper past page can.1 t s (ap (slot_at (open_start past)) can.2) ours free) idle);
      here = λ h. here_kept (va_page t.va) ∙ h;
    })
  where
    here_kept : (g : Page) → is_here (if same_page page g then comes_into f.0 (place past g) else place past g) ≡ is_here (place past g)
    here_kept = by_same (place past) (comes_into f.0) page (Away can.1) is_here can.2 refl

pub shows_refused : (k : Keeping) (j : JobView) (keeper : Keeper) (past : List Entry) (a : Actor) (f : Frame) (refusal : Refusal)
    → CanMove past (Refused (Eld f) refusal) → IsSound past → ShowsSlots k j keeper past
    → ShowsSlots k j keeper (entry_of a (Refused (Eld f) refusal) ∷ past)
shows_refused k j keeper past a f refusal can sound s =
    shows_same k j keeper past (entry_of a (Refused (Eld f) refusal)) s refl s.made
    (same_refused past a f refusal can sound) (λ t. refl)
    (λ t ours free. record {
      version = refl;
      idle = idle_ended past f.0 t;
      here = λ h. here-back f.0 (place past (va_page t.va)) ∙ h;
    })
