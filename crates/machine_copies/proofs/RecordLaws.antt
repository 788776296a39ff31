-- Each record is of one page, and no two have one version.
use Rattle.std.proofs.Common.{◌≡◌, ℕ, true, false, refl, sym, ap, ◌∙◌, subst, Option, Some, None, option_map, List, []}
use Rattle.std.proofs.Common.{◌∷◌, ◌++◌, ◌⊎◌, inl, inr, ⊎_elim, Any, arith}
use Rattle.std.proofs.lemmas.List.Quantifiers.{Any-push}
use Rattle.sgx_rules.specs.declared.entries.Action.TheVariants.{Ewb, Eld}
use Rattle.sgx_types.specs.declared.names.Actor.{Actor}
use Rattle.sgx_rules.specs.declared.entries.Answer.TheVariants.{Moved}
use Rattle.sgx_rules.specs.declared.entries.Entry.{Entry}
use Rattle.sgx_rules.specs.declared.entries.Event.{Event}
use Rattle.sgx_rules.specs.declared.entries.Event.TheVariants.{Did}
use Rattle.sgx_types.specs.declared.names.Frame.{Frame}
use Rattle.sgx_types.specs.declared.names.Page.{Page}
use Rattle.sgx_rules.specs.PageBytes.{bytes_at, header_at}
use Rattle.sgx_types.specs.Pages.{same_page}
use Rattle.sgx_rules.specs.Rules.{Along, EndsWriteOut, EvictRule}
use Rattle.sgx_types.specs.declared.record.Header.{Header}
use Rattle.sgx_types.specs.Sealed.{Sealed}
use Rattle.sgx_rules.specs.Starts.{open_start}
use Rattle.seal_record.specs.Cipher.{tag, sealed}
use Rattle.seal_record.specs.Records.{Made}
use Rattle.sgx_rules.specs.Fresh.{Out, last_out}
use Rattle.sgx_types.specs.Making.{Making}
use Rattle.sgx_types.proofs.Lists.{Any-front}
use Rattle.machine_copies.specs.inner.Once.{DrawnOnce, Gone, IsGone, IsLastMade, IsMade, IsOfPage, KeepsMoves, MadeOnce, gone}
use Rattle.seal_record.specs.Sealing.{IsSealed, SealedRule, made_with, record_at}
use Rattle.seal_record.specs.inner.Sealing.{made_by, more_made}
use Rattle.machine_copies.proofs.DrawnLaws.{drawn_once, keeps_before}
use Rattle.machine_copies.proofs.FlatLaws.{header_kept}
use Rattle.machine_copies.proofs.OpenStarts.{any_head, any_last, any_rest, ended_cases, entry_of, opened_cases}

-- a record of a page stays one, whatever is done
still_of_page : (key : List ℕ) (past : List Entry) (actor : Actor) (event : Event)
    → ((x : Gone) → IsGone past x → IsGone (entry_of actor event ∷ past) x) → (one : Made) → IsOfPage key past one
    → IsOfPage key (entry_of actor event ∷ past) one
still_of_page key past actor event goes one is = record {
  page = is.page;
  gone = goes (record { page = is.page; version = one.version }) is.gone;
  header = header_kept past actor event is.page one.header is.header;
  tagged = is.tagged;
}

-- an entry that makes no record leaves them
kept_records : (key : List ℕ) (past : List Entry) (actor : Actor) (event : Event)
    → ((x : Gone) → IsGone past x → IsGone (entry_of actor event ∷ past) x)
    → ((one : Made) → IsMade key (entry_of actor event ∷ past) one → IsMade key past one)
    → ((one : Made) → IsMade key past one → IsMade key (entry_of actor event ∷ past) one)
    → ((g : Page) (o : Out) → last_out (entry_of actor event ∷ past) g ≡ Some o → last_out past g ≡ Some o) → MadeOnce key past
    → MadeOnce key (entry_of actor event ∷ past)
kept_records key past actor event goes before after lasts h = record {
  own = λ one is. still_of_page key past actor event goes one (h.own one (before one is));
  once = λ one other is too same. h.once one other (before one is) (before other too) same;
  last = λ g o is. let was = h.last g o (lasts g o is) in
      (was.0, record { made = after was.0 was.1.made; version = was.1.version; tag = was.1.tag });
}

-- what a sealed record of a page is
record IsSealedOf (key : List ℕ) (version : ℕ) (past : List Entry) (g : Page) (rec : Sealed) : Type 0 where
  pub header : header_at past g ≡ Some rec.header
  pub tagged : rec.tag ≡ tag key version rec.header rec.cipher

-- the sealed record of a page has the page's header and its own tag
sealed_of : (key : List ℕ) (version : ℕ) (past : List Entry) (g : Page) (rec : Sealed) → record_at key version past g ≡ Some rec
    → IsSealedOf key version past g rec
sealed_of key version past g rec = by_header (header_at past g) refl
  where
    by_header : (o : Option Header) → header_at past g ≡ o → option_map (λ header. sealed key version header (bytes_at past g)) o ≡ Some rec
        → IsSealedOf key version past g rec
    by_header None headed is = cc
    by_header (Some header) headed is =
        let its : Sealed = sealed key version header (bytes_at past g) in
        let same : its ≡ rec = cc in
        subst (IsSealedOf key version past g) same (record { header = headed; tagged = refl })

-- a page is out, and its record is made
module _ (first : ℕ) (key : List ℕ) (past : List Entry) (actor : Actor) (f : Frame) (page : Page) (version : ℕ) (digest : List ℕ)
    (ends : EndsWriteOut (open_start past f.0) version) (drawn : DrawnOnce first past)
    (its : IsSealed key past page version digest) (h : MadeOnce key past) where
  abbrev event_out : Event
  event_out = Did (Ewb f) (Moved page version digest)

  abbrev after : List Entry
  after = entry_of actor event_out ∷ past

  abbrev new : Made
  new = made_with version its.rec

  -- the made records are those from before and this one
  one_more : made_by key after ≡ made_by key past ++ new ∷ []
  one_more = ap (λ (o : Option Sealed). more_made version o (made_by key past)) its.made

  -- a record that was made is one from before, or this one
  old_or_new : (one : Made) → IsMade key after one → IsMade key past one ⊎ (new ≡ one)
  old_or_new one is = any_last (λ other. other ≡ one) (made_by key past) new (subst (Any (λ other. other ≡ one)) one_more is)

  -- what was made before is made still
  made_still : (one : Made) → IsMade key past one → IsMade key after one
  made_still one is = subst (Any (λ other. other ≡ one)) (sym one_more) (Any-front (λ other. other ≡ one) (made_by key past) (new ∷ []) is)

  -- .. and so is the new one
  new_made : IsMade key after new
  new_made = subst (Any (λ other. other ≡ new)) (sym one_more) (Any-push (λ other. other ≡ new) (made_by key past) new refl)

  -- a page that went out before went out still
  goes_still : (x : Gone) → IsGone past x → IsGone after x
  goes_still x is = any_rest (λ one. one ≡ x) (record { page = page; version = version }) (gone past) is

  -- the new record is of the page that went out
  new_of_page : IsOfPage key after new
  new_of_page =
      let k = sealed_of key version past page its.rec its.made in
      record {
        page = page;
        gone = any_head (λ one. one ≡ record { page = page; version = version }) (record { page = page; version = version }) (gone past)
            refl;
        header = header_kept past actor event_out page its.rec.header k.header;
        tagged = k.tagged;
      }

  -- no record from before has its version
  other_version : (one : Made) → IsMade key past one → version ≡ one.version → ⊥
  other_version one is same =
      let own = h.own one is in
      drawn.not_open f.0 ends.start (record { page = own.page; version = one.version }) ends.opened ends.writes own.gone
      (ends.told ∙ same)

  -- no two records have one version
  once_still : (one other : Made) → IsMade key after one → IsMade key after other → one.version ≡ other.version → one ≡ other
  once_still one other is too same = by_cases (old_or_new one is) (old_or_new other too)
    where
      by_cases : IsMade key past one ⊎ (new ≡ one) → IsMade key past other ⊎ (new ≡ other) → one ≡ other
      by_cases (inl a) (inl b) = h.once one other a b same
      by_cases (inl a) (inr b) = absurd (other_version one a (ap (λ (z : Made). z.version) b ∙ sym same))
      by_cases (inr a) (inl b) = absurd (other_version other b (ap (λ (z : Made). z.version) a ∙ same))
      by_cases (inr a) (inr b) = sym a ∙ b

  abbrev this : Out
  this = record { version = version; tag = digest }

  -- the record of a page's last write-out is this one, where the page is this one
  last_still : (g : Page) (o : Out) → last_out after g ≡ Some o → (one : Made) × IsLastMade key after g o one
  last_still g o is = by_cases (opened_cases (same_page page g) (record { version = version; tag = digest }) o (last_out past g) is)
    where
      by_cases : ((same_page page g ≡ true) × (this ≡ o)) ⊎ ((same_page page g ≡ false) × (last_out past g ≡ Some o))
          → (one : Made) × IsLastMade key after g o one
      by_cases (inl a) =
          (new, record { made = new_made; version = ap (λ (z : Out). z.version) a.1; tag = sym its.told ∙ ap (λ (z : Out). z.tag) a.1 })
      by_cases (inr a) =
          let was = h.last g o a.1 in (was.0, record { made = made_still was.0 was.1.made; version = was.1.version; tag = was.1.tag })

  -- each record is one page's still
  ewb_made : MadeOnce key after
  ewb_made = record {
    own = λ one is. ⊎_elim (λ old. still_of_page key past actor event_out goes_still one (h.own one old))
        (λ this. subst (IsOfPage key after) this new_of_page) (old_or_new one is);
    once = once_still;
    last = last_still;
  }

-- an entry that keeps the rules leaves each record one page's
records_still : (first : ℕ) (key : List ℕ) (past : List Entry) (actor : Actor) (event : Event) → EvictRule past (entry_of actor event)
    → SealedRule key past (entry_of actor event) → DrawnOnce first past → MadeOnce key past
    → MadeOnce key (entry_of actor event ∷ past)
records_still first key past actor (Did (Ewb f) (Moved page version digest)) evict its drawn h =
    ewb_made first key past actor f page version digest evict drawn its h
records_still first key past actor (Did (Ewb f) answer) evict its drawn h = absurd its
records_still first key past actor (Did (Eld f) (Moved page version digest)) evict its drawn h =
    kept_records key past actor (Did (Eld f) (Moved page version digest)) (λ x is. is) (λ one is. is) (λ one is. is)
    (λ g o is. (ended_cases (same_page page g) o (last_out past g) is).1) h
records_still first key past actor event evict its drawn h =
    kept_records key past actor event (λ x is. is) (λ one is. is) (λ one is. is) (λ g o is. is) h

-- where the rules are kept, each record that was made is of one page
pub made_once : (k : Making) (key : List ℕ) (past : List Entry) → KeepsMoves k past → Along (SealedRule key) past → MadeOnce key past
made_once k key [] h its = record {
  own = λ one is. let no : ⊥ = omega (arith, is.2) in absurd no;
  once = λ one other is too same. let no : ⊥ = omega (arith, is.2) in absurd no;
  last = λ g o is. cc;
}
made_once k key (e ∷ past) h its =
    let before : KeepsMoves k past = keeps_before k e past h in
    records_still k.first_version key past e.actor e.event h.evict.0 its.0 (drawn_once k past before) (made_once k key past before its.1)
