-- What is sealed of a page that goes out are its bytes by the entries.
use Rattle.std.proofs.Common.{◌≡◌, ℕ, zero, suc, ◌+◌, ◌<◌, ◌==◌, arith, Bool, true, false, refl, sym, ap, subst, ◌∙◌, Some}
use Rattle.std.proofs.Common.{List, [], ◌∷◌, ◌++◌, map, ◌≤◌, if◌then◌else◌, nat_lt, not}
use Rattle.std.specs.List.{range_with_len}
use Rattle.std.proofs.lemmas.Bool.{false≢true, ltb-true}
use Rattle.std.proofs.lemmas.List.FromFn.{map-range_with_len_more}
use Rattle.std.proofs.lemmas.Option.{same_Some}
use Rattle.sgx_rules.specs.declared.entries.Entry.{Entry}
use Rattle.sgx_types.specs.declared.names.Page.{Page}
use Rattle.sgx_types.specs.Pages.{is_own_page, secs_page, va_page}
use Rattle.sgx_rules.specs.Frames.{Content, content, Free, Holds, IsLoading, IsVa, page_there, SecsOf}
use Rattle.sgx_rules.specs.PageBytes.{bytes_at, digest_of, va_words}
use Rattle.sgx_rules.specs.Slots.{version_in}
use Rattle.sgx_rules.specs.Flat.{FlatEnclave, flat, flat_page_words}
use Rattle.sgx_rules.specs.Starts.{open_start, Start}
use Rattle.sgx_rules.specs.inner.Enclaves.{created}
use Rattle.sgx_types.specs.Layouts.{bytes_of}
use Rattle.measure_log.specs.Rule.{log}
use Rattle.driver_rules.specs.Places.{Leaving, place}
use Rattle.driver_laws.specs.inner.Sound.{is_absent, IsSound}
use Rattle.sgx_rules.specs.inner.Enclaves.{is_there}
use Rattle.sgx_rules.specs.Frames.{vas_made}
use Rattle.sgx_types.specs.declared.names.TheConstants.{SECS_NUMBER}
use Rattle.driver_laws.proofs.RowLaws.{leaves_there}
use Rattle.machine_laws.specs.inner.Columns.{HasAllVersions, slot_of}
use Rattle.machine_laws.specs.inner.Guarded.{IsNamedRight}
use Rattle.machine_laws.specs.inner.Stands.{IsMeasuring, StandsWithRules}
use Rattle.machine_laws.specs.inner.State.{State, making_of, place_at}
use Rattle.machine_laws.specs.inner.Steps.{HasBytesOf, IsDigest, IsLeaving, slots_in}
use Rattle.machine_laws.proofs.ColumnLaws.{enclave_flat, enclave_is}
use Rattle.machine_laws.proofs.DigestLaws.{digest_is, undigested}
use Rattle.machine_laws.proofs.MeasureLaws.{finished_as}
use Rattle.machine_laws.proofs.OutsideLaws.{own_bytes}

-- a frame that is on its way out holds a page of its kind: no SECS is named as a version array page
pub named_right : (past : List Entry) (n : ℕ) (x : Start) (page : Page) → IsSound past → vas_made past ≤ 4096
    → open_start past n ≡ Some x → page_there (content past n) ≡ Some page → IsNamedRight (content past n)
named_right past n x page sound few opened there = by_content (content past n) refl there
  where
    by_made : (b rest : Bool) → b ≡ true → (if b then nat_lt SECS_NUMBER (vas_made past) else rest) ≡ true
        → nat_lt SECS_NUMBER (vas_made past) ≡ true
    by_made true rest is h = h
    by_made false rest is h = absurd (false≢true is)

    by_secs : (enclave : ℕ) → Some (secs_page enclave) ≡ Some page → (b : Bool) → (enclave == 0) ≡ b → b ≡ false
    by_secs enclave same false is = refl
    by_secs enclave same true is =
        let at : place past (secs_page enclave) ≡ Leaving n =
        subst (λ g. place past g ≡ Leaving n) (sym (same_Some (secs_page enclave) page same))
        (leaves_there past n x page sound opened there).0 in
        let made : is_there past (secs_page enclave) ≡ true = sound.made (secs_page enclave) ∙ ap (λ p. not (is_absent p)) at in
        let low = ltb-true SECS_NUMBER (vas_made past) (by_made (enclave == 0) _ is made) in
        absurd (omega (arith, low, few))

    by_content : (c : Content) → content past n ≡ c → page_there c ≡ Some page → IsNamedRight c
    by_content Free is k = tt
    by_content (IsLoading g) is k = tt
    by_content (IsVa number) is k = tt
    by_content (SecsOf enclave) is k = by_secs enclave k (enclave == 0) refl
    by_content (Holds g kind perm) is k = sound.held n g kind perm is
