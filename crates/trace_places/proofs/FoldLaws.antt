-- The lists of frames are those of the frames' tenants, whatever the entries, and so a place is what it should be.
use Rattle.std.proofs.Common.{inl, inr}
use Rattle.std.proofs.Common.{◌≡◌, ℕ, ◌≤◌, ◌==◌, ◌&&◌, ◌||◌, not, Bool, true, false, if◌then◌else◌, List, [], ◌∷◌, Option, Some}
use Rattle.std.proofs.Common.{None, is_some, unwrap_or, refl, sym, ap, ◌∙◌, arith}
use Rattle.std.proofs.lemmas.Bool.{eq-eqb, ne_eqb, false≢true, or_from, cases_lt}
use Rattle.sgx_rules.specs.declared.entries.Entry.{Entry}
use Rattle.sgx_types.specs.declared.names.Page.{Page}
use Rattle.trace_places.specs.declared.change.Tenant.{Tenant}
use Rattle.trace_places.specs.declared.change.Tenant.TheVariants.{Has, Awaits}
use Rattle.trace_places.specs.declared.change.Change.{Change}
use Rattle.trace_places.specs.Places.{change_after, frame_changed, tenant_of, tenant_after, tenant, is_tenant, put_in, take_out}
use Rattle.trace_places.specs.Places.{frames_after, frames_having, least, gone_last, where_by, place_of}
use Rattle.trace_places.specs.Laws.{has_number, IsRising, AreFrames, HasNone, IsLeast, IsWhere}
use Rattle.trace_places.proofs.RisingLaws.{put_rising, take_rising, put_among, take_among, none_below}

-- ---- one entry more

rising_by : (b : Bool) (n : ℕ) (ns : List ℕ) → IsRising ns → IsRising (if b then put_in n ns else take_out n ns)
rising_by true n ns h = put_rising n ns h
rising_by false n ns h = take_rising n ns h

rising_after : (change : Option Change) (t : Tenant) (ns : List ℕ) → IsRising ns → IsRising (frames_after change t ns)
rising_after None t ns h = h
rising_after (Some change) t ns h = rising_by (is_tenant (tenant_of change) t) (frame_changed change) ns h

-- whether a frame is of the tenant, once one frame is or is not
among_by : (b here : Bool) (f n : ℕ) (ns : List ℕ) → (f == n) ≡ here → IsRising ns
    → has_number (if b then put_in f ns else take_out f ns) n ≡ (if here then b else has_number ns n)
among_by true true f n ns e h = put_among f n ns ∙ ap (λ x. x || has_number ns n) e
among_by true false f n ns e h = put_among f n ns ∙ ap (λ x. x || has_number ns n) e
among_by false true f n ns e h = take_among f n ns h ∙ ap (λ x. not x && has_number ns n) e
among_by false false f n ns e h = take_among f n ns h ∙ ap (λ x. not x && has_number ns n) e

tenant_by : (here : Bool) (x y : Option Tenant) (t : Tenant)
    → (if here then is_tenant x t else is_tenant y t) ≡ is_tenant (if here then x else y) t
tenant_by true x y t = refl
tenant_by false x y t = refl

among_after : (change : Option Change) (t : Tenant) (n : ℕ) (ns : List ℕ) (before : Option Tenant) → IsRising ns
    → has_number ns n ≡ is_tenant before t
    → has_number (frames_after change t ns) n ≡ is_tenant (tenant_after change n before) t
among_after None t n ns before rising is = is
among_after (Some change) t n ns before rising is =
    let f = frame_changed change in
    among_by (is_tenant (tenant_of change) t) (f == n) f n ns refl rising
    ∙ ap (λ x. if f == n then is_tenant (tenant_of change) t else x) is
    ∙ tenant_by (f == n) (tenant_of change) before t

-- ---- all entries

pub frames_rise : (past : List Entry) (t : Tenant) → IsRising (frames_having past t)
frames_rise [] t = tt
frames_rise (e ∷ past) t = rising_after (change_after past e) t (frames_having past t) (frames_rise past t)

pub frames_among : (past : List Entry) (t : Tenant) (n : ℕ) → has_number (frames_having past t) n ≡ is_tenant (tenant past n) t
frames_among [] t n = refl
frames_among (e ∷ past) t n =
    among_after (change_after past e) t n (frames_having past t) (tenant past n) (frames_rise past t) (frames_among past t n)

pub are_frames : (past : List Entry) (t : Tenant) → AreFrames past t
are_frames past t = record { among = frames_among past t; rising = frames_rise past t }

-- ---- where a page is

-- no frame where there is no first one
none_first : (ns : List ℕ) (m : ℕ) → least ns ≡ None → has_number ns m ≡ false
none_first [] m h = refl
none_first (n ∷ ns) m h = absurd (false≢true (sym (ap is_some h)))

-- the first of rising numbers is the least
least_first : (ns : List ℕ) (n : ℕ) → IsRising ns → least ns ≡ Some n
    → (has_number ns n ≡ true) × ((m : ℕ) → has_number ns m ≡ true → n ≤ m)
least_first [] n rising h = absurd (false≢true (ap is_some h))
least_first (k ∷ ns) n rising h =
    let is : k ≡ n = ap (λ o. unwrap_or o k) h in (
      rw (eq-eqb k n is) refl,
      λ m among. elim (cases_lt m n) [
        | inl below ↦
            absurd (false≢true (sym (or_from (k == m) (has_number ns m) (ne_eqb k m (λ e. omega (arith, is, e, below)))
            (none_below k m ns (omega (arith, is, below)) rising)) ∙ among))
        | inr above ↦ above
      ],
    )

is_least : (past : List Entry) (t : Tenant) (n : ℕ) → least (frames_having past t) ≡ Some n → IsLeast past t n
is_least past t n h =
    let first = least_first (frames_having past t) n (frames_rise past t) h in
    record {
      has = sym (frames_among past t n) ∙ first.0;
      least = λ m has. first.1 m (frames_among past t m ∙ has);
    }

has_none : (past : List Entry) (t : Tenant) → least (frames_having past t) ≡ None → HasNone past t
has_none past t h = λ m. sym (frames_among past t m) ∙ none_first (frames_having past t) m h

place_by : (past : List Entry) (g : Page) (at loading version : Option ℕ) → least (frames_having past (Has g)) ≡ at
    → least (frames_having past (Awaits g)) ≡ loading → gone_last past g ≡ version → IsWhere past g (where_by at loading version)
place_by past g (Some n) loading version a l v = is_least past (Has g) n a
place_by past g None (Some n) version a l v = (has_none past (Has g) a, is_least past (Awaits g) n l)
place_by past g None None (Some version) a l v = (has_none past (Has g) a, has_none past (Awaits g) l, v)
place_by past g None None None a l v = (has_none past (Has g) a, has_none past (Awaits g) l, v)

pub is_place : (past : List Entry) (g : Page) → IsWhere past g (place_of past g)
is_place past g =
    place_by past g (least (frames_having past (Has g))) (least (frames_having past (Awaits g))) (gone_last past g) refl refl refl
