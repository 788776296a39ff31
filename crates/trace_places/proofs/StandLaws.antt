-- Tables that stand for entries go on to, where the next entry's change was made in them.
use Rattle.std.proofs.Common.{◌≡◌, ◌∷◌, ℕ, Bool, true, false, if◌then◌else◌, List, Some, None, refl, sym, ap, ◌∙◌}
use Rattle.sgx_rules.specs.declared.entries.Entry.{Entry}
use Rattle.sgx_rules.specs.Frames.{vas_made}
use Rattle.sgx_types.specs.declared.names.Page.{Page}
use Rattle.trace_places.specs.declared.change.Tenant.{Tenant}
use Rattle.trace_places.specs.declared.change.Tenant.TheVariants.{Has, Awaits}
use Rattle.trace_places.specs.declared.change.Change.{Change}
use Rattle.trace_places.specs.declared.places.Places.{Places}
use Rattle.trace_places.specs.Places.{change_after, change_by, frame_changed, tenant_of, tenant_after, tenant, is_tenant}
use Rattle.trace_places.specs.Places.{put_in, take_out, frames_after, frames_having, gone_after, gone_last}
use Rattle.trace_places.specs.Places.{va_number, least, where_by, place_of}
use Rattle.trace_places.specs.inner.Frames.{frames_in}
use Rattle.trace_places.specs.inner.Tables.{tenant_in, gone_in, place_in, Stands, frames_with}
use Rattle.trace_places.proofs.RisingLaws.{take_absent}
use Rattle.trace_places.proofs.FoldLaws.{are_frames}

-- the tables of other memory stand for the same entries
pub kept_standing : (old new : Places) → ((n : ℕ) → tenant_in new n ≡ tenant_in old n)
    → ((t : Tenant) → frames_in new.frames t ≡ frames_in old.frames t) → ((g : Page) → gone_in new g ≡ gone_in old g)
    → new.next_va ≡ old.next_va → (past : List Entry) → Stands old past → Stands new past
kept_standing old new tenants lists gone next past s = record {
  tenants = λ n. tenants n ∙ s.tenants n;
  frames = λ t. lists t ∙ s.frames t;
  gone = λ g. gone g ∙ s.gone g;
  next_va = next ∙ s.next_va;
}

-- a frame that had another tenant is not among the frames of this one
frames_left : (b : Bool) (n : ℕ) (here : Bool) (ns : List ℕ) → (here ≡ false → take_out n ns ≡ ns)
    → (if b then put_in n ns else (if here then take_out n ns else ns)) ≡ (if b then put_in n ns else take_out n ns)
frames_left true n here ns h = refl
frames_left false n true ns h = refl
frames_left false n false ns h = sym (h refl)

pub frames_made : (past : List Entry) (change : Change) (t : Tenant)
    → frames_with change (tenant past (frame_changed change)) t (frames_having past t) ≡ frames_after (Some change) t (frames_having past t)
frames_made past change t =
    let f = frame_changed change in
    frames_left (is_tenant (tenant_of change) t) f (is_tenant (tenant past f) t) (frames_having past t)
    (λ no. take_absent f (frames_having past t) ((are_frames past t).among f ∙ no))

-- an entry that changes something
pub stands_after : (old new : Places) (past : List Entry) (e : Entry) (change : Change) → Stands old past
    → change_by e.event old.next_va ≡ Some change
    → ((n : ℕ) → tenant_in new n ≡ tenant_after (Some change) n (tenant_in old n))
    → ((t : Tenant) → frames_in new.frames t ≡ frames_with change (tenant_in old (frame_changed change)) t (frames_in old.frames t))
    → ((g : Page) → gone_in new g ≡ gone_after (Some change) g (gone_in old g))
    → new.next_va ≡ va_number (vas_made (e ∷ past)) → Stands new (e ∷ past)
stands_after old new past e change s changes tenants lists gone next =
    let is : Some change ≡ change_after past e = sym changes ∙ ap (change_by e.event) s.next_va in
    record {
      tenants = λ n. tenants n ∙ ap (tenant_after (Some change) n) (s.tenants n) ∙ ap (λ o. tenant_after o n (tenant past n)) is;
      frames = λ t. lists t
          ∙ ap (λ x. frames_with change x t (frames_in old.frames t)) (s.tenants (frame_changed change))
          ∙ ap (frames_with change (tenant past (frame_changed change)) t) (s.frames t)
          ∙ frames_made past change t ∙ ap (λ o. frames_after o t (frames_having past t)) is;
      gone = λ g. gone g ∙ ap (gone_after (Some change) g) (s.gone g) ∙ ap (λ o. gone_after o g (gone_last past g)) is;
      next_va = next;
    }

-- an entry that changes nothing
pub stands_still : (old new : Places) (past : List Entry) (e : Entry) → Stands old past → change_by e.event old.next_va ≡ None
    → ((n : ℕ) → tenant_in new n ≡ tenant_in old n) → ((t : Tenant) → frames_in new.frames t ≡ frames_in old.frames t)
    → ((g : Page) → gone_in new g ≡ gone_in old g)
    → new.next_va ≡ va_number (vas_made (e ∷ past)) → Stands new (e ∷ past)
stands_still old new past e s changes tenants lists gone next =
    let is : None ≡ change_after past e = sym changes ∙ ap (change_by e.event) s.next_va in
    record {
      tenants = λ n. tenants n ∙ s.tenants n ∙ ap (λ o. tenant_after o n (tenant past n)) is;
      frames = λ t. lists t ∙ s.frames t ∙ ap (λ o. frames_after o t (frames_having past t)) is;
      gone = λ g. gone g ∙ s.gone g ∙ ap (λ o. gone_after o g (gone_last past g)) is;
      next_va = next;
    }

-- a page is where the entries say
pub standing_place : (known : Places) (past : List Entry) (g : Page) → Stands known past → place_in known g ≡ place_of past g
standing_place known past g s =
    λ i. where_by (least (s.frames (Has g) i)) (least (s.frames (Awaits g) i)) (s.gone g i)
