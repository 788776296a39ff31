-- A load that its commit's row allows brings back what went out last: the page's version, its tag and its bytes.
use Rattle.std.proofs.Common.{◌≡◌, ℕ, ◌+◌, ◌*◌, ◌<◌, ◌≤◌, ◌==◌, ◌&&◌, not, Bool, true, false, cond, refl, sym, ap, subst}
use Rattle.std.proofs.Common.{◌∙◌, arith, Option, Some, None, List, [], ◌∷◌, ◌++◌, length, All, Any}
use Rattle.std.proofs.lemmas.Bool.{eq-eqb, eqb-true, false≢true}
use Rattle.std.proofs.lemmas.List.{get_or_default}
use Rattle.std.proofs.lemmas.Slice.Eq.{bytes_eq-Decides}
use Rattle.sgx_rules.specs.declared.entries.Entry.{Entry}
use Rattle.sgx_types.specs.declared.names.Actor.{Actor}
use Rattle.sgx_types.specs.declared.names.Frame.{Frame}
use Rattle.sgx_types.specs.declared.names.Kind.{Kind}
use Rattle.sgx_types.specs.declared.names.Kind.TheVariants as kinds
use Rattle.sgx_types.specs.declared.names.Page.{Page}
use Rattle.sgx_types.specs.declared.names.Perm.{Perm}
use Rattle.sgx_types.specs.declared.names.TheConstants.{SECS_NUMBER}
use Rattle.sgx_types.specs.declared.record.Header.{Header}
use Rattle.sgx_types.specs.Layouts.{flags_of}
use Rattle.sgx_types.specs.Pages.{is_own_page, no_perm}
use Rattle.sgx_rules.specs.Flat.{FlatEnclave, FlatPage, added_as, flat, header_by, header_in}
use Rattle.sgx_rules.specs.PageBytes.{bytes_at, header_at, secs_header, va_header}
use Rattle.sgx_rules.specs.Rules.{Along, RefusalRule}
use Rattle.sgx_types.specs.Sealed.{Sealed, header_of}
use Rattle.sgx_rules.specs.Slots.{version_in}
use Rattle.sgx_rules.specs.Starts.{Start, open_start}
use Rattle.sgx_rules.specs.inner.Starts.{BareStart}
use Rattle.sgx_types.specs.Cases.{first_of_row}
use Rattle.sgx_rules.proofs.Rows.{none_holds}
use Rattle.sgx_types.proofs.Truths.{not_false}
use Rattle.sgx_types.specs.Making.{Making}
use Rattle.epcm_entry.specs.inner.Words.{words_of}
use Rattle.seal_record.specs.Cipher.{cipher, tag}
use Rattle.seal_record.specs.Records.{Given, Made, Tagged, Unforged, given_of, made_of, tag_of}
use Rattle.seal_record.proofs.CipherLaws.{cipher_twice}
use Rattle.seal_record.proofs.RecordLaws.{fitting_made}
use Rattle.machine_copies.specs.inner.Copies.{InSlot, copy}
use Rattle.sgx_rules.specs.Fresh.{ReloadRule}
use Rattle.sgx_rules.proofs.Busy.{IsBareOf}
use Rattle.machine_copies.specs.inner.Once.{Gone, IsMade, IsOfPage, KeepsMoves, MadeOnce}
use Rattle.seal_record.specs.Sealing.{SealedRule}
use Rattle.seal_record.specs.inner.Sealing.{made_by}
use Rattle.seal_record.proofs.HeaderLaws.{same_headers}
use Rattle.machine_copies.proofs.CopyLaws.{copy_is_last, live_copies, went_out}
use Rattle.machine_copies.proofs.DrawnLaws.{drawn_once}
use Rattle.machine_copies.proofs.RecordLaws.{made_once}
use Rattle.machine_copies.proofs.StartLaws.{starts_apart}
use Rattle.machine_laws.specs.inner.Guarded.{IsGuarded, IsPaged}
use Rattle.machine_laws.specs.inner.Histories.{BringsBack, BringsBytes, OutsideBytes, StandsWithAllRules, looked_at, looked_at_by}
use Rattle.machine_laws.specs.inner.Stands.{Stands}
use Rattle.machine_laws.specs.inner.State.{State, making_of}
use Rattle.machine_laws.specs.inner.Steps.{IsComing, IsReloaded, commit_row}
use Rattle.machine_laws.proofs.ColumnLaws.{added_flat}
use Rattle.machine_laws.proofs.MoveEnds.{IsDoneBack, coming_header}
use Rattle.machine_laws.proofs.SlotLaws.{started_as}

-- ---- the page of a header

-- an enclave has one base
one_base : (x y : FlatEnclave) → Some x ≡ Some y → x.base ≡ y.base
one_base x y e = let same : x ≡ y = cc e in ap (λ (z : FlatEnclave). z.base) same

-- a TCS or REG page has a header of its enclave's base and its own kind
record IsHeaderOf (past : List Entry) (g : Page) (header : Header) : Type 0 where
  enclave : FlatEnclave
  made : (flat past).enclaves g.enclave ≡ Some enclave
  page : FlatPage
  added : (flat past).pages g ≡ Some page
  headed : header_of enclave.base g page.kind page.perm ≡ header

is_header : (past : List Entry) (g : Page) (header : Header) → header_in (flat past) g ≡ Some header → IsHeaderOf past g header
is_header past g header is = by_values ((flat past).enclaves g.enclave) refl ((flat past).pages g) refl is
  where
    by_values : (o : Option FlatEnclave) → (flat past).enclaves g.enclave ≡ o → (x : Option FlatPage) → (flat past).pages g ≡ x
        → header_by o g x ≡ Some header → IsHeaderOf past g header
    by_values None made x added is = cc is
    by_values (Some y) made None added is = cc is
    by_values (Some y) made (Some x) added is =
        let told : header_of y.base g x.kind x.perm ≡ header = cc is in
        record { enclave = y; made = made; page = x; added = added; headed = told }

-- every page of an enclave's own memory is a TCS or REG page
abbrev pub ArePaged : List Entry → Type 0
ArePaged past = (g : Page) (x : FlatPage) → (flat past).pages g ≡ Some x → IsPaged x.kind

-- the type of a TCS or REG page is not that of a SECS
paged_flags : (kind : Kind) (perm : Perm) → IsPaged kind → flags_of kind perm ≡ flags_of kinds.Secs no_perm → ⊥
paged_flags kinds.Tcs perm is same = omega (arith, same)
paged_flags kinds.Reg perm is same = omega (arith, same)
paged_flags kinds.Secs perm is same = absurd is
paged_flags kinds.Va perm is same = absurd is

-- headers are one only where pages are
one_page : (past : List Entry) → ArePaged past → (g h : Page) (header : Header) → header_at past g ≡ Some header
    → header_at past h ≡ Some header → g ≡ h
one_page past paged g h header = by_names (g.enclave == 0) refl (g.number == SECS_NUMBER) refl (h.enclave == 0) refl
    (h.number == SECS_NUMBER)
    refl
  where
    same_names : g.enclave ≡ h.enclave → g.number ≡ h.number → g ≡ h
    same_names e n i = record { enclave = e i; number = n i }

    of_enclave : (b : Page) (y : FlatEnclave) (x : FlatPage) → header_of y.base b x.kind x.perm ≡ header → b.enclave ≡ header.enclave
    of_enclave b y x is = ap (λ (z : Header). z.enclave) is

    by_names : (va : Bool) → (g.enclave == 0) ≡ va → (last : Bool) → (g.number == SECS_NUMBER) ≡ last → (va' : Bool)
        → (h.enclave == 0) ≡ va'
        → (last' : Bool) → (h.number == SECS_NUMBER) ≡ last'
        → cond va (Some (va_header g.number)) (cond (not va && last) (Some (secs_header g.enclave)) (header_in (flat past) g)) ≡ Some header
        → cond va' (Some (va_header h.number)) (cond (not va' && last') (Some (secs_header h.enclave)) (header_in (flat past) h))
        ≡ Some header
        → g ≡ h
    by_names true e last d true e' last' d' is its =
        let one : va_header g.number ≡ header = cc is in
        let other : va_header h.number ≡ header = cc its in
        let address : 4096 * g.number ≡ 4096 * h.number = ap (λ (z : Header). z.address) (one ∙ sym other) in
        same_names (eqb-true g.enclave 0 e ∙ sym (eqb-true h.enclave 0 e')) (omega (arith, address))
    by_names true e last d false e' true d' is its =
        let one : va_header g.number ≡ header = cc is in
        let other : secs_header h.enclave ≡ header = cc its in
        let none : h.enclave ≡ 0 = ap (λ (z : Header). z.enclave) (other ∙ sym one) in
        absurd (false≢true (sym e' ∙ eq-eqb h.enclave 0 none))
    by_names true e last d false e' false d' is its =
        let one : va_header g.number ≡ header = cc is in
        let other = is_header past h header its in
        let none : h.enclave ≡ 0 = of_enclave h other.enclave other.page other.headed ∙ ap (λ (z : Header). z.enclave) (sym one) in
        absurd (false≢true (sym e' ∙ eq-eqb h.enclave 0 none))
    by_names false e true d true e' last' d' is its =
        let one : secs_header g.enclave ≡ header = cc is in
        let other : va_header h.number ≡ header = cc its in
        let none : g.enclave ≡ 0 = ap (λ (z : Header). z.enclave) (one ∙ sym other) in
        absurd (false≢true (sym e ∙ eq-eqb g.enclave 0 none))
    by_names false e false d true e' last' d' is its =
        let one = is_header past g header is in
        let other : va_header h.number ≡ header = cc its in
        let none : g.enclave ≡ 0 = of_enclave g one.enclave one.page one.headed ∙ ap (λ (z : Header). z.enclave) (sym other) in
        absurd (false≢true (sym e ∙ eq-eqb g.enclave 0 none))
    by_names false e true d false e' true d' is its =
        let one : secs_header g.enclave ≡ header = cc is in
        let other : secs_header h.enclave ≡ header = cc its in
        same_names (ap (λ (z : Header). z.enclave) (one ∙ sym other))
        (eqb-true g.number SECS_NUMBER d ∙ sym (eqb-true h.number SECS_NUMBER d'))
    by_names false e true d false e' false d' is its =
        let one : secs_header g.enclave ≡ header = cc is in
        let other = is_header past h header its in
        absurd (paged_flags other.page.kind other.page.perm (paged h other.page other.added)
        (ap (λ (z : Header). z.flags) (other.headed ∙ sym one)))
    by_names false e false d false e' true d' is its =
        let one = is_header past g header is in
        let other : secs_header h.enclave ≡ header = cc its in
        absurd (paged_flags one.page.kind one.page.perm (paged g one.page one.added)
        (ap (λ (z : Header). z.flags) (one.headed ∙ sym other)))
    by_names false e false d false e' false d' is its =
        let one = is_header past g header is in
        let other = is_header past h header its in
        let alike = one.headed ∙ sym other.headed in
        let enclave : g.enclave ≡ h.enclave = ap (λ (z : Header). z.enclave) alike in
        let base : one.enclave.base ≡ other.enclave.base =
        one_base one.enclave other.enclave (sym one.made ∙ ap (flat past).enclaves enclave ∙ other.made) in
        let address : one.enclave.base + 4096 * g.number ≡ other.enclave.base + 4096 * h.number = ap (λ (z : Header). z.address) alike in
        same_names enclave (omega (arith, base, address))

-- ---- the record of a load

-- what the commit of a load looks at
abbrev given_with : ℕ → ℕ → Sealed → Given
given_with count version rec = record { made = count; version = version; header = rec.header; cipher = rec.cipher; tag = rec.tag }

module _ (k : Making) (key : List ℕ) (past : List Entry) (positive : 1 ≤ k.first_version) (rules : KeepsMoves k past)
    (sealed : Along (SealedRule key) past) (outside : OutsideBytes key past) (paged : ArePaged past) where
  -- each record that was made carries its own tag
  own_tags : All (λ one. one.tag ≡ tag_of key (made_of one)) (made_by key past)
  own_tags i d low =
      let once = made_once k key past rules sealed in
      (once.own _ (i, _, low, get_or_default (made_by key past) i _ _ low, refl)).tagged

  -- a record that fits a page whose start found its version is the record of the page's last write-out
  pub brought_back : (n : ℕ) (bare : BareStart) (g : Page) (rec : Sealed) (given : List Given) → IsBareOf (open_start past n) bare
      → bare.loads ≡ Some g
      → header_at past g ≡ Some rec.header → rec.tag ≡ tag key bare.version rec.header rec.cipher
      → Unforged key (made_by key past) (given ++ given_with (length (made_by key past)) bare.version rec ∷ [])
      → BringsBack key past n g bare.version rec
  brought_back n bare g rec given is loads headed fits unforged =
      by_made (fitting_made key (made_by key past) given last own_tags refl unforged fits)
    where
      version : ℕ
      version = bare.version

      start : Start
      start = is.start

      opened : open_start past n ≡ Some start
      opened = is.opened

      last : Given
      last = given_with (length (made_by key past)) version rec

      once : MadeOnce key past
      once = made_once k key past rules sealed

      found : (version_in past start.slot ≡ version) × (0 < version)
      found =
          let k = (starts_apart k past rules).found n start g opened (ap (λ (x : BareStart). x.loads) is.same ∙ loads) in
          subst (λ v. (version_in past start.slot ≡ v) × (0 < v)) (ap (λ (x : BareStart). x.version) is.same) k

      by_made : Any (λ one. made_of one ≡ given_of last) (made_by key past) → BringsBack key past n g version rec
      by_made (i, one, low, here, same) =
          let made : IsMade key past one = (i, one, low, here, refl) in
          let own : IsOfPage key past one = once.own one made in
          let its_version : one.version ≡ version = ap (λ (x : Tagged). x.version) same in
          let its_header : one.header ≡ rec.header = ap (λ (x : Tagged). x.header) same in
          let its_cipher : one.cipher ≡ rec.cipher = ap (λ (x : Tagged). x.cipher) same in
          -- the record is the page's
          let its_page : own.page ≡ g = one_page past paged own.page g rec.header (own.header ∙ ap Some its_header) headed in
          -- .. and so is the slot's version
          let filled = (live_copies k past positive rules).filled start.slot (rw found.0 found.1) in
          let there : copy past filled.0 ≡ Some (InSlot start.slot version) = filled.1 ∙ ap (λ v. Some (InSlot start.slot v)) found.0 in
          let alike = (drawn_once k past rules).once _ _ (went_out past filled.0 start.slot version there) own.gone (sym its_version) in
          let its_own : filled.0 ≡ g = ap (λ (x : Gone). x.page) alike ∙ its_page in
          let out : copy past g ≡ Some (InSlot start.slot version) = ap (copy past) (sym its_own) ∙ there in
          -- the tag is that of the page's last write-out
          let under = copy_is_last past g start.slot version out in
          let last_made = once.last g _ under.1 in
          let last_same : last_made.0 ≡ one = once.once last_made.0 one last_made.1.made made (last_made.1.version ∙ sym its_version) in
          let its_tag : under.0 ≡ rec.tag = sym last_made.1.tag ∙ ap (λ (x : Made). x.tag) last_same ∙ own.tagged ∙ ap (tag_of key) same
          ∙ sym fits in
          -- the bytes are the page's
          let bytes = outside g start.slot version out in
          let bytes_same : bytes.0 ≡ one = once.once bytes.0 one bytes.1.made made (bytes.1.version ∙ sym its_version) in
          let enciphered : rec.cipher ≡ cipher key version (bytes_at past g) = sym its_cipher
          ∙ ap (λ (x : Made). x.cipher) (sym bytes_same) ∙ bytes.1.cipher in
          let opened_is : cipher key version rec.cipher ≡ bytes_at past g = ap (cipher key version) enciphered
          ∙ cipher_twice key version (bytes_at past g) bytes.1.size in
          record {
            last = record { last = under.1 ∙ ap (λ t. Some (record { version = version; tag = t })) its_tag; slot = rw opened found.0 };
            bytes = record {
              array = λ va. ap words_of opened_is ∙ bytes.1.back.array va;
              own = λ own. ap words_of opened_is ∙ bytes.1.back.own own;
            };
          }

-- ---- the machine

-- a row that refuses nothing finds the computed tag and the page's header
pub record Allows (computed : List ℕ) (own : Header) (rec : Sealed) : Type 0 where
  pub tag : rec.tag ≡ computed
  pub header : rec.header ≡ own

pub row_allows : (s : State) (f : ℕ) (coming : IsComing s f) (rec : Sealed) → first_of_row (commit_row s f coming rec) ≡ None
    → Allows (tag s.key coming.start.version rec.header rec.cipher) coming.header rec
row_allows s f coming rec allowed =
    let k = none_holds (commit_row s f coming rec) allowed in
    record {
      tag = (bytes_eq-Decides rec.tag (tag s.key coming.start.version rec.header rec.cipher)).0 (not_false _ k.0);
      header = same_headers rec.header coming.header (not_false _ k.1.0);
    }

-- a machine that stands in all for its entries keeps the rules on instructions and versions
pub keeps_moves : (made : Making) (s : State) (past : List Entry) (records : List Made) → StandsWithAllRules made s past records
    → KeepsMoves made past
keeps_moves made s past records h = record {
  refusal = subst (λ m. Along (RefusalRule m) past) h.shaped.shape.making h.standing.rules.refusal;
  flat = h.standing.rules.flat;
  evict = h.shaped.evict;
  fresh = h.fresh;
}

-- the added pages of a guarded machine are TCS and REG pages
are_paged : (s : State) (past : List Entry) → IsGuarded s → Stands s past → ArePaged past
are_paged s past guarded stands g x added =
    let there : s.added g ≡ Some (x.kind, x.perm) = added_flat stands g ∙ ap added_as added in
    let k : IsPaged x.kind × (is_own_page g ≡ true) = rw there at (guarded.kinds g) in
    k.0

-- a record that the commit's row allows brings the page back that its frame waits for
pub reload_back : (made : Making) (s : State) (past : List Entry) (records : List Made) (given : List Given) (f : ℕ) (coming : IsComing s f)
    (rec : Sealed)
    → first_of_row (commit_row s f coming rec) ≡ None → IsGuarded s → StandsWithAllRules made s past records
    → Unforged made.key records (given ++ looked_at s f records rec)
    → BringsBack made.key past f coming.page coming.start.version rec
reload_back made s past records given f coming rec allowed guarded h unforged =
    let allows = row_allows s f coming rec allowed in
    let key : s.key ≡ made.key = ap (λ (m : Making). m.key) h.shaped.shape.making in
    let opened = started_as s past h.shaped.shape.columns f coming.start coming.opened in
    let headed : header_at past coming.page ≡ Some rec.header =
    coming_header s past f h.standing.stands coming ∙ ap Some (sym allows.header) in
    let fits : rec.tag ≡ tag made.key coming.start.version rec.header rec.cipher = allows.tag
    ∙ ap (λ k. tag k coming.start.version rec.header rec.cipher) key in
    let looked : looked_at s f records rec ≡ given_with (length records) coming.start.version rec ∷ [] =
    ap (λ o. looked_at_by o records rec) coming.opened in
    let last : Unforged made.key records (given ++ given_with (length records) coming.start.version rec ∷ []) =
    subst (λ more. Unforged made.key records (given ++ more)) looked unforged in
    let all : Unforged made.key (made_by made.key past)
    (given ++ given_with (length (made_by made.key past)) coming.start.version rec ∷ []) =
    subst (λ (list : List Made). Unforged made.key list (given ++ given_with (length list) coming.start.version rec ∷ [])) h.records last in
    brought_back made made.key past h.positive (keeps_moves made s past records h) h.sealed h.outside
    (are_paged s past guarded h.standing.stands) f coming.start coming.page rec given
    opened coming.loads headed fits all

-- its entry keeps the rule on reloads
pub reload_fresh : (s t : State) (key : List ℕ) (past : List Entry) (a : Actor) (f : Frame) (rec : Sealed) (e : Entry)
    (back : IsReloaded s a f rec e t)
    → first_of_row (commit_row s f.0 back.coming rec) ≡ None
    → BringsBack key past f.0 back.coming.page back.coming.start.version rec → ReloadRule past e
reload_fresh s t key past a f rec e back allowed brings =
    let row : IsDoneBack s a f rec e t back.coming
    = rw allowed at back.row in
    rw row.0 brings.last

-- and its words are those of the page
pub reload_words : (s : State) (made : Making) (past : List Entry) (n : ℕ) (g : Page) (version : ℕ) (rec : Sealed) → making_of s ≡ made
    → BringsBack made.key past n g version rec → BringsBytes past g (cipher s.key version rec.cipher)
reload_words s made past n g version rec same brings =
    subst (λ (m : Making). BringsBytes past g (cipher m.key version rec.cipher)) (sym same) brings.bytes
