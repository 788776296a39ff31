-- The book goes on with one entry more.
use Rattle.std.proofs.Common.{ℕ, sym, subst, List, ◌∷◌, Option, None, Some, IfSome}
use Rattle.sgx_rules.specs.declared.entries.Entry.{Entry}
use Rattle.sgx_types.specs.declared.names.Page.{Page}
use Rattle.sgx_types.specs.Making.{Making}
use Rattle.job_grammar.specs.Jobs.{JobView}
use Rattle.backing_store.specs.Calls.{Call}
use Rattle.machine_laws.specs.inner.Histories.{StandsWithAllRules}
use Rattle.sgx_machine.specs.inner.Parts.{Parts, state_of}
use Rattle.driver_laws.specs.inner.Agrees.{drivers, Keeping}
use Rattle.driver_laws.specs.inner.Three.{TcsAreApart}
use Rattle.driver_laws.proofs.EndLaws.{their_rule}
use Rattle.driver_rules.specs.Spares.{outs_kept}
use Rattle.driver_laws.proofs.TcsLaws.{apart_stay}
use Rattle.driver_tables.specs.declared.driver.Driver.{Driver}
use Rattle.driver_tables.proofs.AgreesLaws.{agrees_more}
use Rattle.driver_tables.specs.inner.Agrees.{Agrees}
use Rattle.driver_tables.specs.inner.Tables.{ShowsTables}
use Rattle.due_tables.specs.declared.turns.Turns.{Turns}
use Rattle.due_tables.specs.inner.Holding.{KeepsHolds}
use Rattle.due_tables.specs.inner.Shown.{ShowsTurns}
use Rattle.due_tables.proofs.OrderLaws.{orderly_more}
use Rattle.history_rules.specs.Given.{UnforgedRun, made_in}
use Rattle.history_rules.proofs.RunLaws.{unforged_before}
use Rattle.run_calls.specs.inner.Stores.{TellsStore}
use Rattle.run_calls.proofs.StoreLaws.{tells_more}
use Rattle.run_laws.specs.inner.Books.{IsMade, KeepsBook, KeepsBytes, KeepsHonest, with_own}
use Rattle.run_laws.specs.inner.Honest.{IsHonestBook}
use Rattle.run_laws.proofs.HonestBook.{honest_goes}
use Rattle.history_rules.specs.Calls.{CallsAre}
use Rattle.history_rules.specs.Honest.{IsHonest}
use Rattle.history_rules.proofs.HonestLaws.{honest_before}

-- ---- holds change nothing else of the tables

pub shows_with : (k : Keeping) (j : JobView) (d : Driver) (past : List Entry) (own : List (List Page)) → ShowsTables k j d past
    → ShowsTables k j (with_own d own) past
shows_with k j d past own t = record {
  list = t.list;
  states = t.states;
  placed = t.placed;
  slots = t.slots;
  copies = t.copies;
  counts = t.counts;
  of_job = t.of_job;
  sized = t.sized;
  rooms = t.rooms;
  marks = t.marks;
  cpus = t.cpus;
  few = t.few;
  enclaves = t.enclaves;
  few_enclaves = t.few_enclaves;
  arrays = t.arrays;
  few_arrays = t.few_arrays;
}

agrees_with : (made : Making) (j : JobView) (past : List Entry) (d : Driver) (m : Parts) (own : List (List Page)) → Agrees made j past d m
    → Agrees made j past (with_own d own) m
agrees_with made j past d m own r = record {
  follows = r.follows;
  fits = r.fits;
  sound = r.sound;
  home = r.home;
  used = r.used;
  stand = r.stand;
  fixed = r.fixed;
  counted = r.counted;
  built = r.built;
  inits = r.inits;
  theirs = r.theirs;
  tracks = r.tracks;
  pages = r.pages;
  shows = shows_with (drivers j) j d past own r.shows;
  frames = r.frames;
  cpus = r.cpus;
}

tells_with : (key : List ℕ) (past : List Entry) (calls : List Call) (d : Driver) (own : List (List Page)) → TellsStore key past calls d
    → TellsStore key past calls (with_own d own)
tells_with key past calls d own t = record { store = t.store; gifts = t.gifts; lost = t.lost }

-- ---- one entry more

module _ (made : Making) (j : JobView) (past : List Entry) (d d' : Driver) (m m' : Parts) (t : Turns) (e : Entry)
    (own : List (List Page)) where
  store_more : (told told' : Option (List Call)) → KeepsBook made j past told d m t → IsMade made j past told d m e told' d' m'
      → IfSome told' (λ calls. TellsStore j.key (e ∷ past) calls (with_own d' own))
  store_more None None k n = tt
  store_more None (Some longer) k n = absurd n.store
  store_more (Some calls) None k n = absurd n.store
  store_more (Some calls) (Some longer) k n =
      tells_with j.key (e ∷ past) longer d' own
      (tells_more j.key past e longer d d' k.agrees.sound n.next.can k.agrees.theirs (their_rule j past e n.next.script)
      n.store.comes.comes n.store.tells n.store.comes.moves (subst (λ c. TellsStore j.key past c d) (sym n.store.comes.earlier) k.store))

  bytes_more : (told told' : Option (List Call)) → KeepsBook made j past told d m t → IsMade made j past told d m e told' d' m'
      → IfSome told' (KeepsBytes made j (e ∷ past) m')
  bytes_more None None k n = tt
  bytes_more None (Some longer) k n = absurd n.store
  bytes_more (Some calls) None k n = absurd n.store
  bytes_more (Some calls) (Some longer) k n = λ unforged.
      n.bytes unforged
      (subst (λ c. StandsWithAllRules made (state_of m) past (made_in past c)) (sym n.store.comes.earlier)
      (k.bytes (subst (UnforgedRun j.key past) n.store.comes.earlier (unforged_before j.key e past longer unforged))))

  honest_more : (told told' : Option (List Call)) → KeepsBook made j past told d m t → IsMade made j past told d m e told' d' m'
      → IfSome told' (KeepsHonest made (e ∷ past) m')
  honest_more None None k n = tt
  honest_more None (Some longer) k n = absurd n.store
  honest_more (Some calls) None k n = absurd n.store
  honest_more (Some calls) (Some longer) k n = λ honest.
      let before = subst (IsHonestBook made past m) (sym n.store.comes.earlier)
      (k.honest (subst IsHonest n.store.comes.earlier (honest_before e.event longer honest))) in
      honest_goes made j past d d' m m' e longer k.agrees n.next
      (n.store.comes.comes, subst (CallsAre past) (sym n.store.comes.earlier) k.store.store.calls_are) honest before (n.honest honest)

pub book_more : (made : Making) (j : JobView) (past : List Entry) (told told' : Option (List Call)) (d d' : Driver) (m m' : Parts)
    (t t' : Turns) (e : Entry) (own : List (List Page)) → TcsAreApart j → KeepsBook made j past told d m t
    → IsMade made j past told d m e told' d' m' → ShowsTurns j (e ∷ past) t' → KeepsHolds j own (e ∷ past)
    → KeepsBook made j (e ∷ past) told' (with_own d' own) m' t'
book_more made j past told told' d d' m m' t t' e own tcs k n turns holds = record {
  agrees = agrees_with made j (e ∷ past) d' m' own (agrees_more made j past d d' m m' e k.agrees n.next);
  turns = turns;
  orderly = orderly_more j past e k.turns.valid tcs (λ p. (k.apart p).own) n.next.can n.next.script n.enters k.orderly;
  holds = holds;
  apart = apart_stay j past (outs_kept j past) e tcs k.agrees.sound n.next.script n.next.age k.apart;
  flat = n.flat;
  script = (n.next.script, k.script);
  age = (n.next.age, k.age);
  kick = (n.next.kick, k.kick);
  slots = (n.next.slots, k.slots);
  tracking = (n.next.tracking, k.tracking);
  store = store_more made j past d d' m m' t e own told told' k n;
  bytes = bytes_more made j past d d' m m' t e own told told' k n;
  honest = honest_more made j past d d' m m' t e own told told' k n;
}
