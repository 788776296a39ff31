-- What is sealed of what goes out of a frame: its header and its bytes.
use Rattle.std.proofs.Common.{◌≡◌, ◌∙◌, ℕ, ◌==◌, Bool, true, false, not, refl, ap, subst, Option, Some, None, is_some, List, get_or, length}
use Rattle.std.specs.Option.{IsSomeAnd}
use Rattle.std.proofs.lemmas.Bool.{not-true}
use Rattle.sgx_types.specs.declared.names.Kind.{Kind}
use Rattle.sgx_types.specs.declared.names.Kind.TheVariants as kinds
use Rattle.sgx_types.specs.declared.names.Page.{Page}
use Rattle.sgx_types.specs.declared.names.Perm.{Perm}
use Rattle.sgx_types.specs.declared.names.TheConstants.{SECS_NUMBER}
use Rattle.sgx_types.specs.declared.record.Header.{Header}
use Rattle.sgx_types.specs.Pages.{is_own_page, is_va_page, secs_page, va_page}
use Rattle.sgx_types.specs.Layouts.{bytes_of}
use Rattle.sgx_types.specs.Sealed.{header_of}
use Rattle.sgx_types.proofs.Truths.{both_true}
use Rattle.sgx_types.proofs.Lists.{there_below}
use Rattle.sgx_rules.specs.Flat.{FlatEnclave}
use Rattle.sgx_rules.specs.Frames.{Content, Free, Holds, IsLoading, IsVa, SecsOf, page_there}
use Rattle.sgx_rules.specs.PageBytes.{secs_header, va_header}
use Rattle.sgx_rules.specs.inner.Starts.{BareStart}
use Rattle.epcm_entry.specs.declared.entry_view.EntryView.TheVariants as views
use Rattle.epcm_entry.specs.inner.Epc.{entry_at, words_at}
use Rattle.epcm_entry.specs.inner.Words.{words_of}
use Rattle.evict_reload.specs.inner.Sights.{is_kind_own}
use Rattle.measure_log.specs.declared.measure.Measure.{Measure}
use Rattle.measure_log.specs.inner.Measure.{FinishesTo}
use Rattle.machine_laws.specs.inner.State.{State}
use Rattle.machine_laws.specs.inner.Steps.{HasBytesOf, IsDigest, SealsPage, header_by, header_in}
use Rattle.sgx_machine.specs.declared.machine.Machine.TheInside.{Inside}
use Rattle.sgx_machine.specs.inner.Parts.{Parts, state_of}
use Rattle.sgx_machine.specs.inner.Whole.{IsWhole, parts_of}
use Rattle.sgx_machine.proofs.BuildSteps.{measure_there}
use Rattle.sgx_machine.proofs.EwbBridge.{own_choice}
use Rattle.sgx_machine.proofs.WaitBridge.{HasHeader}
use Rattle.sgx_machine.proofs.ProcessorBridge.{pages_made}

-- ---- headers

-- a page in a frame has a header
pub held_header : (m : Inside) → IsWhole m → (f : ℕ) (page : Page) → page_there ((state_of (parts_of m)).content f) ≡ Some page
    → HasHeader (state_of (parts_of m)) page
held_header m h f page there = by_content (s.content f) refl there
  where
    s : State
    s = state_of (parts_of m)

    by_own : (o : Option FlatEnclave) (x : Option (Kind × Perm)) → is_own_page page ≡ true → s.enclaves page.enclave ≡ o → s.added page ≡ x
        → is_some o ≡ true → is_some x ≡ true → HasHeader s page
    by_own None x own made added k q = cc k
    by_own (Some y) None own made added k q = cc q
    by_own (Some y) (Some x) own made added k q =
        let k = both_true (not (is_va_page page)) (not (page.number == SECS_NUMBER)) own in
        let va = not-true (is_va_page page) k.0 in
        let number = not-true (page.number == SECS_NUMBER) k.1 in
        record {
          header = header_of y.base page x.0 x.1;
          headed = own_choice (is_va_page page) (page.number == SECS_NUMBER) _ _ _ va number
              ∙ ap (λ z. header_by z (s.added page) page) made ∙ ap (λ z. header_by (Some y) z page) added;
        }

    by_content : (c : Content) → s.content f ≡ c → page_there c ≡ Some page → HasHeader s page
    by_content Free at k = cc k
    by_content (IsLoading g) at k = cc k
    by_content (IsVa number) at k =
        let same : va_page number ≡ page = cc k in subst (HasHeader s) same (record { header = va_header number; headed = refl })
    by_content (SecsOf enclave) at k =
        let same : secs_page enclave ≡ page = cc k in
        let numbered : (enclave == 0) ≡ false = rw at at (h.guarded.kept.named f) in
        subst (HasHeader s) same (record { header = secs_header enclave; headed = rw numbered refl })
    by_content (Holds g kind perm) at k =
        let same : g ≡ page = cc k in
        let own : is_own_page g ≡ true = rw at at (h.guarded.kept.named f) in
        by_own (s.enclaves page.enclave) (s.added page) (rw (← same) own) refl refl
        (pages_made (parts_of m) h.held.owned f page (ap page_there at ∙ ap Some same) (not-true (is_va_page page)
        (both_true (not (is_va_page page)) (not (page.number == SECS_NUMBER)) (rw (← same) own)).0))
        (rw (← same) (h.framed f g kind perm at))

-- ---- digests

-- a measurement that was read from its place, of an enclave that has one
pub measure_read : (measures : List (Option Measure)) (e : ℕ) (read : Option Measure) (y : Measure)
    → is_some (get_or measures e None) ≡ true → read ≡ get_or measures e read → Some y ≡ read → get_or measures e None ≡ Some y
measure_read measures e read y known at is = by_place (get_or measures e None) refl known
  where
    by_place : (o : Option Measure) → get_or measures e None ≡ o → is_some o ≡ true → get_or measures e None ≡ Some y
    by_place None none k = cc k
    by_place (Some z) found k = measure_there measures e read y (there_below measures e z found) at is

-- the digest of an enclave that is initialised
pub digest_read : (d : Parts) (e : ℕ) (b : Bool) (y : Measure) (digest : List ℕ) → b ≡ true → get_or d.measures e None ≡ Some y
    → FinishesTo y digest → IsDigest b ((state_of d).measure e) digest
digest_read d e true y digest is there finishes = rw there finishes
digest_read d e false y digest is there finishes = cc is

-- ---- what goes out

-- what is sealed of a page that goes out, by its start, its header and its bytes
pub seals : (s : State) (f : ℕ) (start : BareStart) (header : Header) (bytes key plain : List ℕ) (version : ℕ) (headed : Header)
    → s.start f ≡ Some start → IsSomeAnd (page_there (s.content f)) (λ page. header_in s page ≡ Some header) → length bytes ≡ 4096
    → HasBytesOf s f (s.content f) bytes → key ≡ s.key → version ≡ start.version → headed ≡ header → plain ≡ bytes
    → SealsPage s f key version headed plain
seals s f start header bytes key plain version headed at told sized kept same_key same_version same_header same_plain =
    by_page (page_there (s.content f)) refl told
  where
    by_page : (o : Option Page) → page_there (s.content f) ≡ o → IsSomeAnd o (λ page. header_in s page ≡ Some header)
        → SealsPage s f key version headed plain
    by_page None there k = absurd k
    by_page (Some page) there k = record {
      leaving = record {
        start = start;
        opened = at;
        page = page;
        held = there;
        header = header;
        headed = k;
        bytes = bytes;
        sized = sized;
        kept = kept;
      };
      key = same_key;
      version = same_version;
      header = same_header;
      plain = same_plain;
    }

-- the bytes of a TCS or REG page are those of its frame
pub own_bytes : (d : Parts) (f : ℕ) (page : Page) (kind : Kind) (perm : Perm) (blocked : Option ℕ) (sealing : Bool) (bytes : List ℕ)
    → entry_at d.epc f ≡ views.Valid page kind perm blocked sealing → is_kind_own kind ≡ true → bytes ≡ bytes_of (words_at d.epc f)
    → words_of bytes ≡ words_at d.epc f → HasBytesOf (state_of d) f ((state_of d).content f) bytes
own_bytes d f page kinds.Tcs perm blocked sealing bytes at own is words = rw at (is, words)
own_bytes d f page kinds.Reg perm blocked sealing bytes at own is words = rw at (is, words)
own_bytes d f page kinds.Secs perm blocked sealing bytes at own is words = cc own
own_bytes d f page kinds.Va perm blocked sealing bytes at own is words = cc own
