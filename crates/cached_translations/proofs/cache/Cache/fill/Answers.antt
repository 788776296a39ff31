use Rattle.std.proofs.Common.{◌≡◌, ◌<◌, ℕ, false, is_some, sym, ◌∙◌, ap, subst, length, length-set, arith}
use Rattle.cached_translations.specs.inner.Translations.{translation_of}
use Rattle.cached_translations.specs.inner.Ring.{from_oldest}
use Rattle.cached_translations.specs.inner.Probe.{Leads, Drops}
use Rattle.cached_translations.specs.inner.Index.{number_at}
use Rattle.cached_translations.specs.declared.cache.Translation.{Translation}
use Rattle.cached_translations.proofs.TranslationLaws.{FitsCache-with_translation}
use Rattle.cached_translations.proofs.RingLaws.{length-full, pushed, replaced, translation_of-around_from}
use Rattle.cached_translations.proofs.IndexLaws.{number_at-is, leads_nowhere, index_push, index_set}
use Rattle.cached_translations.proofs.cache.Cache.fill.Goals as goal

-- a place was free
pub invariant_of-self : goal.invariant_of-self
invariant_of-self c =
    let ring = c.self.inside in
    let few : length ring.places.items < 64 = omega (arith, ring.places.ok.0) in
    let none : is_some (translation_of (from_oldest ring) c.args.translation.number) ≡ false =
    rw c.self.view_is (ap is_some (sym c.find.ensures) ∙ sym c.is_some.ensures ∙ c.if-is_some.false) in
    record {
      oldest_in = c.self.invariant.oldest_in;
      first_until_full = λ h. c.self.invariant.first_until_full few;
      room = omega (arith, c.push_reserved.ensures.capacity, c.self.invariant.room);
      fits =
          rw (
            c.push_reserved.ensures.items,
            pushed ring.places.items ring.oldest c.args.translation (c.self.invariant.first_until_full few)
                few none,
          )
          (FitsCache-with_translation (from_oldest ring) c.args.translation (omega arith) c.self.invariant.fits);
      index =
          rw c.push_reserved.ensures.items
          (index_push ring.table.slots ring.places.items c.self.invariant.index c.insert.new.self.slots c.args.translation _
          c.insert.ensures.adds (omega (arith, ring.places.ok.0)));
    }

pub insert-requires-clause-absent : goal.insert-requires-clause-absent
insert-requires-clause-absent c =
    let ring = c.self.inside in
    let none : is_some (translation_of (from_oldest ring) c.args.translation.number) ≡ false =
    rw c.self.view_is (ap is_some (sym c.find.ensures) ∙ sym c.is_some.ensures ∙ c.if-is_some.false) in
    leads_nowhere ring.table.slots ring.places.items c.self.invariant.index c.args.translation.number
    (ap is_some (translation_of-around_from ring.places.items ring.oldest c.args.translation.number c.self.invariant.fits) ∙ none)

-- every place was taken
pub remove-requires-clause-held : goal.remove-requires-clause-held
remove-requires-clause-held c =
    let ring = c.self.inside in
    let full = length-full ring c.self.invariant (omega arith) in
    let low : ring.oldest < length ring.places.items = omega (arith, full, c.self.invariant.oldest_in) in
    let of_page : number_at ring.places.items ring.oldest ≡ c.index.result.now.number =
    number_at-is ring.places.items ring.oldest c.index.result.now low ∙ ap (λ (t : Translation). t.number) (sym c.index.ensures) in
    (ring.oldest, subst (λ (m : ℕ). Leads ring.table.slots m ring.oldest) of_page (c.self.invariant.index.leads ring.oldest low))

pub insert-requires-else-len-lt-PLACES-clause-absent : goal.insert-requires-else-len-lt-PLACES-clause-absent
insert-requires-else-len-lt-PLACES-clause-absent c =
    let ring = c.self.inside in
    let none : is_some (translation_of (from_oldest ring) c.args.translation.number) ≡ false =
    rw c.self.view_is (ap is_some (sym c.find.ensures) ∙ sym c.is_some.ensures ∙ c.if-is_some.false) in
    λ place leads. leads_nowhere ring.table.slots ring.places.items c.self.invariant.index c.args.translation.number
    (ap is_some (translation_of-around_from ring.places.items ring.oldest c.args.translation.number c.self.invariant.fits) ∙ none)
    place ((c.remove.ensures.drops.leads c.args.translation.number place).0 leads).0

pub invariant_of-self-else-len-lt-PLACES : goal.invariant_of-self-else-len-lt-PLACES
invariant_of-self-else-len-lt-PLACES c =
    let ring = c.self.inside in
    let full = length-full ring c.self.invariant (omega arith) in
    let none : is_some (translation_of (from_oldest ring) c.args.translation.number) ≡ false =
    rw c.self.view_is (ap is_some (sym c.find.ensures) ∙ sym c.is_some.ensures ∙ c.if-is_some.false) in
    record {
      oldest_in = omega arith;
      first_until_full = λ h. absurd (omega (arith, full, rw length-set at h));
      room = c.self.invariant.room;
      fits =
          rw (replaced ring.places.items ring.oldest c.args.translation c.self.invariant.oldest_in full none)
          (FitsCache-with_translation (from_oldest ring) c.args.translation (omega arith) c.self.invariant.fits);
      index =
          let low : ring.oldest < length ring.places.items = omega (arith, full, c.self.invariant.oldest_in) in
          let of_page : number_at ring.places.items ring.oldest ≡ c.index.result.now.number =
          number_at-is ring.places.items ring.oldest c.index.result.now low ∙ ap (λ (t : Translation). t.number) (sym c.index.ensures) in
          index_set ring.table.slots ring.places.items c.self.invariant.index ring.table.probed c.remove.new.self.slots
          c.insert-else-len-lt-PLACES.new.self.slots ring.oldest c.args.translation low
          (subst (λ (m : ℕ). Drops ring.table.slots c.remove.new.self.slots m) (sym of_page) c.remove.ensures.drops)
          c.insert-else-len-lt-PLACES.ensures.adds;
    }

pub returns-else-len-lt-PLACES : goal.returns-else-len-lt-PLACES
returns-else-len-lt-PLACES c =
    let ring = c.self.inside in
    let full = length-full ring c.self.invariant (omega arith) in
    let none : is_some (translation_of (from_oldest ring) c.args.translation.number) ≡ false =
    rw c.self.view_is (ap is_some (sym c.find.ensures) ∙ sym c.is_some.ensures ∙ c.if-is_some.false) in
    rw (← c.self.view_is) (replaced ring.places.items ring.oldest c.args.translation c.self.invariant.oldest_in full none)
