-- A refused load counts alike for whatever reason it was refused: a state that stands for one stands for another.
use Rattle.std.proofs.Common.{ℕ, List, ◌∷◌, Option, Some, None, IfSome}
use Rattle.sgx_types.specs.declared.names.Actor.{Actor}
use Rattle.sgx_rules.specs.declared.entries.Entry.{Entry}
use Rattle.sgx_rules.specs.declared.entries.Action.TheVariants.{Eld}
use Rattle.sgx_types.specs.declared.names.Frame.{Frame}
use Rattle.sgx_rules.specs.declared.refusals.Refusal.{Refusal}
use Rattle.sgx_rules.specs.Ends.{IsNotBack}
use Rattle.sgx_types.specs.Making.{Making}
use Rattle.sgx_rules.specs.Processors.{stay}
use Rattle.sgx_rules.specs.Rules.{IsUndisturbed, Stale}
use Rattle.seal_record.specs.Records.{Made}
use Rattle.machine_laws.specs.inner.Columns.{HasColumns}
use Rattle.machine_laws.specs.inner.Histories.{OutsideBytes, StandsWithAllRules}
use Rattle.machine_laws.specs.inner.Shape.{ShapeWithRules}
use Rattle.machine_laws.specs.inner.Stands.{Stands}
use Rattle.machine_laws.specs.inner.State.{State}
use Rattle.machine_laws.specs.inner.Steps.{refused_by}

if_some : {A : Type 0} (P Q : A → Type 0) (o : Option A) → ((x : A) → P x → Q x) → IfSome o P → IfSome o Q
if_some P Q None f h = h
if_some P Q (Some x) f h = f x h

module _ (past : List Entry) (a : Actor) (f : Frame) (found other : Refusal) where
  abbrev one : List Entry
  one = refused_by a (Eld f) found ∷ past

  abbrev two : List Entry
  two = refused_by a (Eld f) other ∷ past

  columns : (s : State) → HasColumns s one → HasColumns s two
  columns s h = record { frames = h.frames; cpus = h.cpus; next_version = h.next_version; versions = h.versions; enclaves = h.enclaves }

  stale : Stale one → Stale two
  stale h = record {
    entries = h.entries;
    places = (
      (λ p. if_some (IsUndisturbed one p) (IsUndisturbed two p) (stay past p)
          (λ t u. record { tcs = u.tcs; ssa = u.ssa; translations = u.translations }) (h.places.0 p)),
      h.places.1,
    );
  }

  shaped : (k : Making) (s : State) → ShapeWithRules k s one → ShapeWithRules k s two
  shaped k s h = record {
    shape = record {
      making = h.shape.making;
      columns = columns s h.shape.columns;
      older = h.shape.older;
      newer = h.shape.newer;
      busy = λ g. record {
        taken = λ b. let t = (h.shape.busy g).taken b in record { cpu = t.cpu; by = t.by };
        busy = λ t. (h.shape.busy g).busy (record { cpu = t.cpu; by = t.by });
      };
      slots_busy = h.shape.slots_busy;
    };
    frames = h.frames;
    stale = stale h.stale;
    evict = h.evict;
    rising = h.rising;
    rest = record { rest = h.rest.rest; away = h.rest.away; below = h.rest.below; unmade = h.rest.unmade };
  }

  stands : (s : State) → Stands s one → Stands s two
  stands s h = record {
    columns = columns s h.columns;
    versions = h.versions;
    memory = record { enclaves = h.memory.enclaves; cpus = h.memory.cpus; words = h.memory.words; measure = h.memory.measure };
  }

  outside : (key : List ℕ) → OutsideBytes key one → OutsideBytes key two
  outside key h g slot v there =
      let b = h g slot v there in (
        b.0,
        record {
          made = b.1.made;
          version = b.1.version;
          cipher = b.1.cipher;
          size = b.1.size;
          back = record { array = b.1.back.array; own = b.1.back.own };
        },
      )

  pub other_refusal : (k : Making) (s : State) (records : List Made) → StandsWithAllRules k s one records → IsNotBack past f.0 other
      → StandsWithAllRules k s two records
  other_refusal k s records h unfit = record {
    positive = h.positive;
    shaped = shaped k s h.shaped;
    standing = record {
      stands = stands s h.standing.stands;
      rules = record {
        refusal = (unfit, h.standing.rules.refusal.1);
        flat = h.standing.rules.flat;
        fits = record { entries = h.standing.rules.fits.entries; pages = h.standing.rules.fits.pages };
        stale = stale h.standing.rules.stale;
      };
      measure = h.standing.measure;
    };
    fresh = (record { rising = h.fresh.0.rising; reload = h.fresh.0.reload }, h.fresh.1);
    sealed = h.sealed;
    records = h.records;
    outside = outside k.key h.outside;
  }
