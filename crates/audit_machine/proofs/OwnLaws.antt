-- The record that is kept of a page which a frame waits for, of the version that the start found, is the one that went out last, and brings
-- the page back.
use Rattle.std.proofs.Common.{◌≡◌, ℕ, ◌<◌, refl, sym, ap, subst, ◌∙◌, arith, List, Option, Some, None}
use Rattle.sgx_rules.specs.declared.entries.Entry.{Entry}
use Rattle.sgx_types.specs.declared.names.Page.{Page}
use Rattle.sgx_types.specs.Making.{Making}
use Rattle.sgx_rules.specs.Fresh.{IsLastOut}
use Rattle.sgx_rules.specs.PageBytes.{bytes_at, header_at}
use Rattle.sgx_types.specs.Sealed.{Sealed}
use Rattle.sgx_rules.specs.Slots.{version_in}
use Rattle.sgx_rules.specs.Starts.{Start, open_start}
use Rattle.seal_record.specs.Cipher.{cipher}
use Rattle.seal_record.specs.Records.{Made}
use Rattle.seal_record.specs.Sealing.{made_with}
use Rattle.seal_record.proofs.CipherLaws.{cipher_twice}
use Rattle.machine_copies.specs.inner.Copies.{InSlot, OneLiveCopy, copy}
use Rattle.machine_copies.specs.inner.Once.{DrawnOnce, Gone, IsGone, IsOfPage, KeepsMoves, MadeOnce}
use Rattle.machine_copies.proofs.CopyLaws.{copy_is_last, live_copies, out_is_gone, whose_copy}
use Rattle.machine_copies.proofs.DrawnLaws.{drawn_once}
use Rattle.machine_copies.proofs.RecordLaws.{made_once}
use Rattle.machine_copies.proofs.StartLaws.{starts_apart}
use Rattle.machine_laws.specs.inner.Histories.{BringsBytes, StandsWithAllRules}
use Rattle.machine_laws.specs.inner.State.{State}
use Rattle.machine_laws.proofs.ReloadLaws.{keeps_moves}
use Rattle.audit_machine.specs.inner.Asked.{IsOwnRecord}
use Rattle.audit_machine.specs.inner.Kept.{IsKeptUnder, IsOldRecord, KeepsRecords, Records}

module _ (k : Making) (s : State) (past : List Entry) (records : List Made) (h : StandsWithAllRules k s past records) (kept : Records)
    (keeps : KeepsRecords k.key past kept) (n : ℕ) (start : Start) (page : Page) (opened : open_start past n ≡ Some start)
    (loads : start.loads ≡ Some page) where
  rules : KeepsMoves k past
  rules = keeps_moves k s past records h

  drawn : DrawnOnce k.first_version past
  drawn = drawn_once k past rules

  once : MadeOnce k.key past
  once = made_once k k.key past rules h.sealed

  found : (version_in past start.slot ≡ start.version) × (0 < start.version)
  found = (starts_apart k past rules).found n start page opened loads

  -- a page that went out under the version that the start found is outside, in the slot of the start
  in-slot : IsGone past (record { page = page; version = start.version }) → copy past page ≡ Some (InSlot start.slot start.version)
  in-slot gone =
      let live : OneLiveCopy past = live_copies k past h.positive rules in
      whose_copy k.first_version past live drawn start.slot page (omega (arith, found.0, found.1)) (rw found.0 gone)
      ∙ ap (λ v. Some (InSlot start.slot v)) found.0

  -- so what came fresh is kept
  pub comes_fresh : (version : ℕ) (tag : List ℕ) → IsLastOut past n page version tag → IsKeptUnder start.version (kept page)
  comes_fresh version tag last =
      let slot : version_in past start.slot ≡ version = rw opened at last.slot in
      let same : version ≡ start.version = sym slot ∙ found.0 in
      let gone : IsGone past (record { page = page; version = version }) = out_is_gone past page _ last.last in
      keeps.outside page start.slot start.version (in-slot (subst (λ v. IsGone past (record { page = page; version = v })) same gone))

  module _ (rec : Sealed) (is : kept page ≡ Some (start.version, rec)) where
    abbrev one : Made
    one = made_with start.version rec

    its : IsOldRecord k.key past page (start.version, rec)
    its = keeps.own page (start.version, rec) is

    outside : copy past page ≡ Some (InSlot start.slot start.version)
    outside = in-slot its.gone

    -- it is the record of this page
    of_page : IsOfPage k.key past one
    of_page = once.own one its.made

    its-page : of_page.page ≡ page
    its-page =
        let alike = drawn.once _ _ of_page.gone its.gone refl in
        ap (λ (x : Gone). x.page) alike

    -- .. with which it went out last
    last : IsLastOut past n page start.version rec.tag
    last =
        let under = copy_is_last past page start.slot start.version outside in
        let was = once.last page _ under.1 in
        let same : was.0 ≡ one = once.once was.0 one was.1.made its.made was.1.version in
        let tagged : under.0 ≡ rec.tag = sym was.1.tag ∙ ap (λ (x : Made). x.tag) same in
        record {
          last = under.1 ∙ ap (λ t. Some (record { version = start.version; tag = t })) tagged;
          slot = rw opened found.0;
        }

    -- .. and its bytes are the page's
    its-bytes : BringsBytes past page (cipher k.key start.version rec.cipher)
    its-bytes =
        let has = h.outside page start.slot start.version outside in
        let same : has.0 ≡ one = once.once has.0 one has.1.made its.made has.1.version in
        let enciphered : rec.cipher ≡ cipher k.key start.version (bytes_at past page) =
        ap (λ (x : Made). x.cipher) (sym same) ∙ has.1.cipher in
        let opens : cipher k.key start.version rec.cipher ≡ bytes_at past page =
        ap (cipher k.key start.version) enciphered ∙ cipher_twice k.key start.version (bytes_at past page) has.1.size in
        subst (BringsBytes past page) (sym opens) has.1.back

    pub own_is_kept : IsOwnRecord k.key past n rec
    own_is_kept = record {
      start = start;
      page = page;
      opened = opened;
      loads = loads;
      brings = record { last = last; bytes = its-bytes };
      header = ap (header_at past) (sym its-page) ∙ of_page.header;
      tagged = of_page.tagged;
    }
