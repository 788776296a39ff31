-- The ends of starts, in the state and by the entries: which page a commit names, and when a load is refused.
use Rattle.std.proofs.Common.{◌≡◌, ℕ, not, Bool, true, false, cond, refl, sym, ap, ◌∙◌, Option, Some, None, List}
use Rattle.std.proofs.lemmas.Bool.{false≢true, eq-eqb}
use Rattle.std.proofs.lemmas.Slice.Eq.{bytes_eq-Decides}
use Rattle.std.specs.Str.{bytes_eq}
use Rattle.std.proofs.lemmas.Option.{same_Some}
use Rattle.sgx_rules.specs.declared.entries.Entry.{Entry}
use Rattle.sgx_types.specs.declared.names.Actor.{Actor}
use Rattle.sgx_types.specs.declared.names.Actor.TheVariants as actors
use Rattle.sgx_rules.specs.declared.entries.Action.{Action}
use Rattle.sgx_rules.specs.declared.entries.Action.TheVariants.{Ewb, Eld}
use Rattle.sgx_rules.specs.declared.entries.Answer.TheVariants as answers
use Rattle.sgx_types.specs.declared.names.Frame.{Frame}
use Rattle.sgx_types.specs.declared.names.Page.{Page}
use Rattle.sgx_types.specs.declared.record.Header.{Header}
use Rattle.sgx_rules.specs.declared.refusals.Refusal.{Refusal}
use Rattle.sgx_rules.specs.declared.refusals.Refusal.TheVariants as why
use Rattle.sgx_rules.specs.inner.Enclaves.{EnclavesAreFlat}
use Rattle.sgx_rules.specs.Ends.{DoesNotFit, EndsIn, EndsOut, IsBack, IsNotBack}
use Rattle.sgx_rules.specs.Flat as flats
use Rattle.sgx_rules.specs.Flat.{FlatEnclave, FlatPage, added_as, flat}
use Rattle.sgx_rules.specs.Frames.{page_there, reloaded}
use Rattle.sgx_rules.specs.PageBytes.{header_at, secs_header, va_header}
use Rattle.sgx_types.specs.Pages.{is_secs_page, is_va_page}
use Rattle.sgx_types.specs.Sealed.{Sealed}
use Rattle.sgx_types.specs.Cases.{first_of_row}
use Rattle.sgx_rules.specs.inner.Starts.{BareStart}
use Rattle.seal_record.specs.Cipher.{cipher, tag}
use Rattle.seal_record.specs.inner.Row.{same_header}
use Rattle.machine_laws.specs.inner.Columns.{HasColumns}
use Rattle.machine_laws.specs.inner.Guarded.{IsGuarded, WritesOut}
use Rattle.machine_laws.specs.inner.Stands.{Stands}
use Rattle.machine_laws.specs.inner.State.{State, after_eld, after_failed_eld}
use Rattle.machine_laws.specs.inner.Steps as steps
use Rattle.machine_laws.specs.inner.Steps.{header_in, CanApply, IsComing, IsWrittenOut, commit_row, did_by, refused_by}
use Rattle.machine_laws.proofs.ColumnLaws.{content_is, enclave_seen, enclaves_are_flat, page_seen}
use Rattle.machine_laws.proofs.SlotLaws.{started_as}

-- the ends of starts
abbrev pub is_end : Action → Bool
is_end (Ewb f) = true
is_end (Eld f) = true
is_end _ = false

-- no instruction that can be applied is the end of a start
pub no_end : (cpus : ℕ) (a : Actor) (action : Action) → CanApply cpus a action → is_end action ≡ false
no_end cpus (actors.Cpu p) (Ewb f) can = absurd can
no_end cpus (actors.Cpu p) (Eld f) can = absurd can
no_end cpus a (Ewb f) can = absurd can
no_end cpus a (Eld f) can = absurd can
no_end cpus a _ can = refl

-- ---- the ends of starts

-- a page that went out ends the start of its write-out
pub ends_out : (s t : State) (past : List Entry) (a : Actor) (f : Frame) (e : Entry) (rec : Sealed) → IsGuarded s → s.is_sealing f.0 ≡ true
    → HasColumns s past
    → (out : IsWrittenOut s a f e rec t) → EndsOut past f.0 (answers.Moved out.leaving.page out.leaving.start.version rec.tag)
ends_out s t past a f e rec guarded sealing h out =
    let writes : WritesOut out.leaving.start = rw out.leaving.opened at (guarded.written f.0 sealing) in
    let x = started_as s past h f.0 out.leaving.start out.leaving.opened in
    record {
      page = out.leaving.page;
      held = ap page_there (sym (content_is h f.0)) ∙ out.leaving.held;
      start = x.start;
      opened = x.opened;
      writes = ap (λ (y : BareStart). y.loads) x.same ∙ writes;
      version = out.leaving.start.version;
      tag = rec.tag;
      told = refl;
    }

-- what a frame waits for is what its start loads
ends_in : (s : State) (past : List Entry) (f : ℕ) → HasColumns s past → (coming : IsComing s f) → EndsIn past f coming.page
ends_in s past f h coming =
    let x = started_as s past h f coming.start coming.opened in
    record { start = x.start; opened = x.opened; loads = ap (λ (y : BareStart). y.loads) x.same ∙ coming.loads }

-- a page that is back ends the start of its load
pub ends_back : (s : State) (past : List Entry) (f : ℕ) (coming : IsComing s f) (version : ℕ) (tag : List ℕ) → HasColumns s past
    → IsBack past f (answers.Moved coming.page version tag)
ends_back s past f coming version tag h =
    record { page = coming.page; ends = ends_in s past f h coming; version = version; tag = tag; told = refl }

-- two headers with the same numbers are one
one_header : (a b : Header) → a ≡ b → same_header a b ≡ true
one_header a b is = rw is (itself b)
  where
    itself : (x : Header) → same_header x x ≡ true
    itself x = rw (eq-eqb x.enclave x.enclave refl, eq-eqb x.address x.address refl, eq-eqb x.flags x.flags refl) refl

-- a page's header is made of its enclave's base and of what it was added as
header_same : (g : Page) (o : Option FlatEnclave) (x : Option FlatPage) → steps.header_by o (added_as x) g ≡ flats.header_by o g x
header_same g None x = refl
header_same g (Some y) None = refl
header_same g (Some y) (Some x) = refl

-- a page has its header in flat memory
pub headers_agree : (s : State) (past : List Entry) → HasColumns s past → EnclavesAreFlat past → (g : Page)
    → header_in s g ≡ header_at past g
headers_agree s past h seen g =
    ap (λ own. cond (is_va_page g) (Some (va_header g.number)) (cond (is_secs_page g) (Some (secs_header g.enclave)) own)) same
  where
    same : steps.header_by (s.enclaves g.enclave) (s.added g) g ≡ flats.header_by ((flat past).enclaves g.enclave) g ((flat past).pages g)
    same = (λ i. steps.header_by (enclave_seen h seen g.enclave i) (page_seen h seen g i) g)
        ∙ header_same g ((flat past).enclaves g.enclave) ((flat past).pages g)

-- .. so the page that a frame waits for
pub coming_header : (s : State) (past : List Entry) (f : ℕ) → Stands s past → (coming : IsComing s f)
    → header_at past coming.page ≡ Some coming.header
coming_header s past f stands coming = sym (headers_agree s past stands.columns (enclaves_are_flat stands) coming.page) ∙ coming.headed

-- a load that is refused ends its start, and its record does not fit
pub ends_refused : (s : State) (past : List Entry) (f : ℕ) (coming : IsComing s f) (rec : Sealed) (r : Refusal)
    → HasColumns s past → Stands s past
    → first_of_row (commit_row s f coming rec) ≡ Some r → IsNotBack past f r
ends_refused s past f coming rec r h stands refused = record {
  page = coming.page;
  ends = ends_in s past f h coming;
  unfit = by_tag (bytes_eq rec.tag computed) refl refused;
}
  where
    computed : List ℕ
    computed = tag s.key coming.start.version rec.header rec.cipher

    by_header : (b : Bool) → same_header rec.header coming.header ≡ b
        → cond (not b) (Some (why.BadHeader rec.header.enclave rec.header.address rec.header.flags)) None ≡ Some r
        → DoesNotFit past coming.page r
    by_header true is e = cc
    by_header false is e =
        let told : why.BadHeader rec.header.enclave rec.header.address rec.header.flags ≡ r = cc in
        rw (← told) (λ (x : header_at past coming.page ≡ Some rec.header).
        false≢true (sym is ∙ one_header rec.header coming.header
        (same_Some rec.header coming.header (sym x ∙ coming_header s past f stands coming))))

    by_tag : (b : Bool) → bytes_eq rec.tag computed ≡ b
        → cond (not b) (Some (why.MacFail rec.tag computed))
        (cond (not (same_header rec.header coming.header)) (Some (why.BadHeader rec.header.enclave rec.header.address rec.header.flags))
        None) ≡ Some r
        → DoesNotFit past coming.page r
    by_tag true is e = by_header (same_header rec.header coming.header) refl e
    by_tag false is e =
        let told : why.MacFail rec.tag computed ≡ r = cc in
        rw (← told) (λ (x : rec.tag ≡ computed). false≢true (sym is ∙ (bytes_eq-Decides rec.tag computed).1 x))

-- what the commit of a load does where it is done
abbrev pub IsDoneBack : (s : State) (a : Actor) (f : Frame) (rec : Sealed) (e : Entry) (t : State) → IsComing s f.0 → Type 0
IsDoneBack s a f rec e t coming =
    (e ≡ did_by a (Eld f) (answers.Moved coming.page coming.start.version rec.tag))
    × (t ≡ after_eld s f.0 coming.start (reloaded coming.page (s.added coming.page)) (cipher s.key coming.start.version rec.cipher))

-- .. and where it is refused
abbrev pub IsRefusedBack : (s : State) (a : Actor) (f : Frame) (e : Entry) (t : State) → IsComing s f.0 → Refusal → Type 0
IsRefusedBack s a f e t coming r = (e ≡ refused_by a (Eld f) r) × (t ≡ after_failed_eld s f.0 coming.start)
