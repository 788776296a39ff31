-- What Fits and Stale say of the entries before a place, as tests: no page stands in two frames, and no processor inside has a stale
-- translation. Each passes only where that is so.
use Rattle.std.specs.Prelude.{ℕ, zero, suc, ◌==◌, ◌&&◌, ◌||◌, not, Bool, true, false, List, [], ◌∷◌, Option, Some, None}
use Rattle.std.specs.Prelude.{length, nat_lt}
use Rattle.sgx_types.specs.declared.names.Actor.{Actor}
use Rattle.sgx_types.specs.declared.names.Actor.TheVariants as actors
use Rattle.sgx_rules.specs.declared.entries.Entry.{Entry}
use Rattle.sgx_types.specs.declared.names.Page.{Page}
use Rattle.sgx_types.specs.Pages.{page_at, same_page}
use Rattle.sgx_rules.specs.Frames.{Content, Holds, Put, content, is_page, is_sealing, made_before, page_there, put_by, stands}
use Rattle.sgx_rules.specs.Processors.{BareTranslation, Stay, stay, translations}
use Rattle.job_grammar.specs.Jobs.{JobView}
use Rattle.driver_rules.specs.inner.Decided.{all_along}
use Rattle.driver_rules.specs.inner.Same.{same_kind, same_perm}

-- each number below n passes
abbrev pub all_below : (ℕ → Bool) → ℕ → Bool
all_below test zero = true
all_below test (suc n) = test n && all_below test n

-- ---- no page in two frames

abbrev pub is_put_below : ℕ → Option Put → Bool
is_put_below frames None = true
is_put_below frames (Some put) = nat_lt put.frame frames

-- an entry puts nothing beyond so many frames
abbrev pub puts_below : ℕ → List Entry → Entry → Bool
puts_below frames past e = is_put_below frames (put_by e.event (made_before past))

-- the frame holds this page, if any
abbrev pub has_same : Option Page → Content → Bool
has_same None held = false
has_same (Some page) held = stands held page

-- both hold the same page, of whatever type
abbrev pub holds_same : Content → Content → Bool
holds_same one held = has_same (page_there one) held

abbrev pub are_apart : List Entry → ℕ → ℕ → Bool
are_apart past m n = (m == n) || not (holds_same (content past m) (content past n))

abbrev pub is_page_once : ℕ → List Entry → Bool
is_page_once frames past = all_along (puts_below frames) past && all_below (λ m. all_below (are_apart past m) frames) frames

-- ---- no stale translation

abbrev pub is_actor_below : ℕ → Actor → Bool
is_actor_below cpus (actors.Cpu p) = nat_lt p.0 cpus
is_actor_below cpus _ = true

-- an entry is by none but so many processors
abbrev pub acts_below : ℕ → List Entry → Entry → Bool
acts_below cpus past e = is_actor_below cpus e.actor

-- both hold the same page, as it was added
abbrev pub is_held_still : Content → Content → Bool
is_held_still (Holds page kind perm) (Holds g k p) = same_page page g && (same_kind kind k && same_perm perm p)
is_held_still _ _ = false

abbrev pub is_still : List Entry → ℕ → Content → Bool
is_still past n before = is_held_still (content past n) before && not (is_sealing past n)

abbrev pub are_current : List Entry → ℕ → List BareTranslation → Bool
are_current past enclave [] = true
are_current past enclave (x ∷ xs) =
    (is_page (content past x.frame) (page_at enclave x.number) && not (is_sealing past x.frame)) && are_current past enclave xs

abbrev pub is_undisturbed : List Entry → ℕ → Option Stay → Bool
is_undisturbed past p None = true
is_undisturbed past p (Some t) =
    is_still past t.seat.tcs_frame t.tcs_held
    && (is_still past t.seat.ssa_frame t.ssa_held && are_current past t.seat.enclave (translations past p))

abbrev pub is_none_stale : ℕ → List Entry → Bool
is_none_stale cpus past = all_along (acts_below cpus) past && all_below (λ p. is_undisturbed past p (stay past p)) cpus

-- ---- both

abbrev pub is_settled : JobView → List Entry → Bool
is_settled j past = is_page_once j.epc past && is_none_stale (length j.scripts) past
