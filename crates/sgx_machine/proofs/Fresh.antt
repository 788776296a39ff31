-- A machine as it is made is a fresh one: it stands for no entry, and keeps what every machine keeps.
use Rattle.std.proofs.Common.{ℕ, zero, suc, ◌≡◌, ◌==◌, ◌-◌, ◌≤◌, ◌+◌, refl, sym, ap, subst, ◌∙◌, true}
use Rattle.std.proofs.Common.{false, cond, mul-zero, ◌<◌, List, [], ◌∷◌, ◌++◌, Option, Some, None, length, replicate, get_or}
use Rattle.std.specs.Prelude.{Bool, IfSome, count_by, is_some}
use Rattle.evict_reload.specs.inner.Sights.{owner_in}
use Rattle.std.proofs.lemmas.Bool.{cond_both}
use Rattle.std.proofs.lemmas.List.{length-replicate, replicate-append-replicate}
use Rattle.std.proofs.lemmas.List.Elements.{All-nil}
use Rattle.std.proofs.lemmas.List.Folds.{sum_by-replicate}
use Rattle.std.specs.Prelude.{slice_get}
use Rattle.epcm_entry.specs.inner.EntryView.{block_of, goes_out}
use Rattle.epcm_entry.specs.inner.Epc.{EpcFrame, free_frame, free_frames}
use Rattle.epcm_entry.specs.inner.Sights.{held}
use Rattle.cached_translations.specs.declared.cache.Translation.{Translation}
use Rattle.cached_translations.specs.declared.processor.Processor.{Processor}
use Rattle.epcm_entry.specs.inner.Words.{zero_words}
use Rattle.track_epoch.specs.inner.Tracking.{Tracking, starting_at}
use Rattle.measure_log.specs.declared.measure.Measure.{Measure}
use Rattle.secs_state.specs.inner.Secs.{SecsState}
use Rattle.secs_state.specs.inner.Table.{empty_table, enclave_at}
use Rattle.track_epoch.specs.inner.Tracks.{track_of}
use Rattle.version_array.specs.inner.Slots.{IsVaTable}
use Rattle.version_array.proofs.TableLaws.{IsVaTable-none}
use Rattle.sgx_types.specs.declared.names.TheConstants.{MOST_FRAMES}
use Rattle.sgx_types.proofs.Lists.{get_or-like}
use Rattle.evict_reload.proofs.PageLaws.{pages-none}
use Rattle.sgx_machine.specs.declared.starts.Start as starts
use Rattle.machine_laws.specs.inner.Guarded.{IsGuarded}
use Rattle.machine_laws.specs.inner.Histories.{StandsWithAllRules}
use Rattle.machine_laws.specs.inner.State.{making_of}
use Rattle.machine_laws.specs.inner.Shape.{ShapeWithRules}
use Rattle.machine_laws.specs.inner.State.{fresh}
use Rattle.machine_laws.specs.inner.Stands.{IsSound, IsMeasured, IsFramed}
use Rattle.sgx_machine.specs.inner.Parts.{Parts, made, idle, is_noted, state_of, enclave_of, added_in, is_busy_in}
use Rattle.sgx_machine.specs.inner.Parts.{seat_of_mode, noted_by}
use Rattle.sgx_machine.specs.inner.Parts.{epoch_from, start_of}
use Rattle.sgx_machine.specs.inner.Whole.{AreHeld, IsNamedFor, IsTable, IsWithin, IsTracked, IsWhole, parts_of}
use Rattle.sgx_machine.specs.declared.machine.Machine.TheInside.{Inside}
use Rattle.machine_laws.proofs.ShapeSteps.{fresh_shaped}
use Rattle.machine_laws.proofs.WholeLaws.{fresh_all}

-- one item more
pub replicate_more : {X : Type 0} (n : ℕ) (x : X) → replicate n x ++ x ∷ [] ≡ replicate (n + 1) x
replicate_more n x = replicate-append-replicate n 1 x

no_enclave : (e : ℕ) → enclave_at empty_table e ≡ None
no_enclave e = cond_both (e == 0) None (get_or empty_table (e - 1) None) (λ (v : Option SecsState). v ≡ None) (λ _. refl)
    (λ _. get_or-like {X = Option SecsState} 8 (e - 1) None)

-- each enclave is at the first epoch
epochs_from : (n k epoch : ℕ) → epoch_from epoch (slice_get (replicate n (starting_at epoch)) k) ≡ epoch
epochs_from zero k epoch = refl
epochs_from (suc n) zero epoch = refl
epochs_from (suc n) (suc k) epoch = epochs_from n k epoch

first_epochs : (epoch e : ℕ) → epoch_from epoch (track_of (replicate 8 (starting_at epoch)) e) ≡ epoch
first_epochs epoch e =
    cond_both (e == 0) None (slice_get (replicate 8 (starting_at epoch)) (e - 1)) (λ (o : Option Tracking). epoch_from epoch o ≡ epoch)
    (λ _. refl) (λ _. epochs_from 8 (e - 1) epoch)

pub made_state : (frames cpus : ℕ) (key : List ℕ) (epoch version : ℕ)
    → state_of (made frames cpus key epoch version) ≡ fresh frames cpus key epoch version
made_state frames cpus key epoch version = λ i. record {
  frames = length-replicate frames free_frame i;
  content = λ n. ap (λ (x : EpcFrame). held x.entry) (get_or-like frames n free_frame) i;
  blocked = λ n. ap (λ (x : EpcFrame). block_of x.entry) (get_or-like frames n free_frame) i;
  is_sealing = λ n. ap (λ (x : EpcFrame). goes_out x.entry) (get_or-like frames n free_frame) i;
  words = λ n. ap (λ (x : EpcFrame). x.words) (get_or-like frames n free_frame) i;
  enclaves = λ e. ap enclave_of (no_enclave e) i;
  added = λ g. ap (λ o. added_in o g.number) (no_enclave g.enclave) i;
  vas_made = 0;
  is_busy = λ g. ap (λ o. is_busy_in o g.number) (no_enclave g.enclave) i;
  measure = λ e. get_or-like {X = Option Measure} 9 e None i;
  inside = λ p. ap (λ x. seat_of_mode x.mode) (get_or-like cpus p idle) i;
  acc = λ p. ap (λ x. x.acc) (get_or-like cpus p idle) i;
  cache = λ p. ap (λ x. x.cache) (get_or-like cpus p idle) i;
  noted = λ p. ap (λ x. noted_by x.mode) (get_or-like cpus p idle) i;
  epoch = λ e. first_epochs epoch e i;
  version_in = λ slot. 0;
  is_slot_named = λ slot. false;
  next_version = version;
  start = λ n. ap start_of (get_or-like {X = Option starts.Start} frames n None) i;
  cpus = length-replicate cpus idle i;
  key = key;
  first_epoch = epoch;
  first_version = version;
}

-- .. and so stands in all for no entry
pub made_all : (d : Parts) (frames cpus : ℕ) (key : List ℕ) (epoch version : ℕ) → 1 ≤ version → d ≡ made frames cpus key epoch version
    → StandsWithAllRules (making_of (state_of d)) (state_of d) [] []
made_all d frames cpus key epoch version low is =
    subst (λ s. StandsWithAllRules (making_of s) s [] []) (sym (ap state_of is ∙ made_state frames cpus key epoch version))
    (fresh_all frames cpus key epoch version low)

pub made_shaped : (d : Parts) (frames cpus : ℕ) (key : List ℕ) (epoch version : ℕ) → d ≡ made frames cpus key epoch version
    → ShapeWithRules (making_of (state_of d)) (state_of d) []
made_shaped d frames cpus key epoch version is = subst (λ s. ShapeWithRules (making_of s) s [])
    (sym (ap state_of is ∙ made_state frames cpus key epoch version)) (fresh_shaped frames cpus key epoch version)

zero_sized : length zero_words ≡ 512
unfolding zero_words
zero_sized = length-replicate {A = ℕ} 512 0

pub sound_made : (frames cpus : ℕ) (key : List ℕ) (epoch version : ℕ) → IsSound (state_of (made frames cpus key epoch version))
sound_made frames cpus key epoch version = rw (made_state frames cpus key epoch version)
    (record { seated = λ p. tt; busy = λ p. tt; apart = λ p q one other is. cc is; sized = λ n. zero_sized })

guarded_made : (frames cpus : ℕ) (key : List ℕ) (epoch version : ℕ) → IsGuarded (state_of (made frames cpus key epoch version))
guarded_made frames cpus key epoch version =
    subst IsGuarded (sym (made_state frames cpus key epoch version))
    (record {
      few = λ p past. refl;
      noted = λ p. tt;
      blocks = λ n. tt;
      sealing = λ n is own. cc is;
      taken = λ g is. cc is;
      opened = λ n. tt;
      written = λ n is. cc is;
      loaded = λ n g is. cc is;
      held = λ n is. cc is;
      apart = record {
        below = λ n x is. cc is;
        marked = λ n x is. cc is;
        named = λ slot is. cc is;
        alone = λ m n x y is too same. cc is;
      };
      kinds = λ g. tt;
      goes_out = λ n is. cc is;
      kept = record {
        covered = λ e m is. cc is;
        bounded = λ n past. refl;
        arrays = record { below = λ n number is. cc is; once = λ m n number is too. cc is };
        named = λ n. tt;
      };
    })

-- .. and keeps what every machine keeps
held_made : (frames : ℕ) → frames ≤ MOST_FRAMES → AreHeld (free_frames frames) empty_table (record { pages = []; made = 0 })
held_made frames small = record {
  pages = pages-none frames;
  places = refl;
  small = rw (length-replicate frames free_frame) small;
  counted = λ e. rw (no_enclave e) tt;
  owned = λ n. subst (λ (x : EpcFrame). IfSome (owner_in (held x.entry)) (λ e. is_some (enclave_at empty_table e) ≡ true))
      (sym (get_or-like frames n free_frame)) tt;
  named = λ n. subst (λ (x : EpcFrame). IsNamedFor x.entry) (sym (get_or-like frames n free_frame)) tt;
}

table_made : IsTable empty_table
table_made = record { places = refl; own = λ e x is. absurd (let none = no_enclave e in cc (none, is)) }

measured_made : (frames cpus : ℕ) (key : List ℕ) (epoch version : ℕ) → IsMeasured (state_of (made frames cpus key epoch version))
measured_made frames cpus key epoch version = subst IsMeasured (sym (made_state frames cpus key epoch version)) (λ e is. cc is)

framed_made : (frames cpus : ℕ) (key : List ℕ) (epoch version : ℕ) → IsFramed (state_of (made frames cpus key epoch version))
framed_made frames cpus key epoch version = subst IsFramed (sym (made_state frames cpus key epoch version)) (λ n g kind perm is. cc is)

within_made : (frames cpus : ℕ) (key : List ℕ) (epoch version : ℕ) → IsWithin (state_of (made frames cpus key epoch version))
within_made frames cpus key epoch version =
    subst IsWithin (sym (made_state frames cpus key epoch version)) (λ p. All-nil (λ (t : Translation). t.frame.0 < frames))

-- no processor is inside, by the tracks and by the processors
idle_unnoted : (n e : ℕ) (test : ℕ → Bool) → count_by (λ (c : Processor). is_noted e test c.mode) (replicate n idle) ≡ 0
idle_unnoted n e test = sum_by-replicate (λ (c : Processor). cond (is_noted e test c.mode) 1 0) n idle ∙ mul-zero n

starting : (n k epoch : ℕ) (t : Tracking) → slice_get (replicate n (starting_at epoch)) k ≡ Some t → t.noted ≡ []
starting zero k epoch t is = cc is
starting (suc n) zero epoch t is = let same : starting_at epoch ≡ t = cc is in ap (λ (x : Tracking). x.noted) (sym same)
starting (suc n) (suc k) epoch t is = starting n k epoch t is

tracked_made : (cpus epoch : ℕ) → IsTracked (replicate 8 (starting_at epoch)) (replicate cpus idle)
tracked_made cpus epoch e t at test =
    by_number (e == 0) at
  where
    by_number : (b : Bool) → cond b None (slice_get (replicate 8 (starting_at epoch)) (e - 1)) ≡ Some t
        → count_by test t.noted ≡ count_by (λ (c : Processor). is_noted e test c.mode) (replicate cpus idle)
    by_number true is = cc is
    by_number false is = ap (count_by test) (starting 8 (e - 1) epoch t is) ∙ sym (idle_unnoted cpus e test)

pub whole_made : (m : Inside) (frames cpus : ℕ) (key : List ℕ) (epoch version : ℕ) → parts_of m ≡ made frames cpus key epoch version
    → cpus ≤ 16 → frames ≤ MOST_FRAMES → IsWhole m
whole_made m frames cpus key epoch version is few small =
    let count : length m.cpus.items ≡ cpus = ap (λ (d : Parts). length d.cpus) is ∙ length-replicate cpus idle in
    record {
      processors = rw count few;
      places = ap (λ (d : Parts). length d.measures) is;
      table = subst (λ (d : Parts). IsTable d.secs) (sym is) table_made;
      measured = subst (λ (d : Parts). IsMeasured (state_of d)) (sym is) (measured_made frames cpus key epoch version);
      framed = subst (λ (d : Parts). IsFramed (state_of d)) (sym is) (framed_made frames cpus key epoch version);
      within = subst (λ (d : Parts). IsWithin (state_of d)) (sym is) (within_made frames cpus key epoch version);
      track_places = ap (λ (d : Parts). length d.tracks) is ∙ length-replicate 8 (starting_at epoch);
      tracked = subst (λ (d : Parts). IsTracked d.tracks d.cpus) (sym is) (tracked_made cpus epoch);
      slots = subst (λ (d : Parts). IsVaTable d.va.pages) (sym is) IsVaTable-none;
      held = subst (λ (d : Parts). AreHeld d.epc d.secs d.va) (sym is) (held_made frames small);
      start_places = ap (λ (d : Parts). length d.starts) is ∙ length-replicate {A = Option starts.Start} frames None
          ∙ sym (ap (λ (d : Parts). length d.epc) is ∙ length-replicate frames free_frame);
      sound = subst (λ (d : Parts). IsSound (state_of d)) (sym is) (sound_made frames cpus key epoch version);
      guarded = subst (λ (d : Parts). IsGuarded (state_of d)) (sym is) (guarded_made frames cpus key epoch version);
    }
