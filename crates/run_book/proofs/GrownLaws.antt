-- The entries that a turn made, and what the words say behind them.
use Rattle.std.proofs.Common.{◌≡◌, ◌+◌, ◌≤◌, ◌<◌, ◌⊎◌, inl, inr, ℕ, zero, suc, true, false, refl, sym, ap}
use Rattle.std.proofs.Common.{◌∙◌, subst, drop, replicate, reverse, List, [], ◌∷◌, ◌++◌, Some, None, length, arith}
use Rattle.std.specs.List.{All}
use Rattle.std.proofs.lemmas.List.{drop-append-le, drop_all, length-append, length-replicate, length-reverse, reverse-append}
use Rattle.std.proofs.lemmas.List.{reverse-reverse}
use Rattle.sgx_rules.specs.declared.entries.Action.TheVariants as actions
use Rattle.sgx_types.specs.declared.names.Actor.{Actor}
use Rattle.sgx_types.specs.declared.names.Actor.TheVariants as actors
use Rattle.sgx_rules.specs.declared.entries.Entry.{Entry}
use Rattle.sgx_rules.specs.declared.entries.Event.{Event}
use Rattle.sgx_rules.specs.declared.entries.Event.TheVariants.{Bus, Did, Refused}
use Rattle.sgx_types.specs.declared.names.Cpu.{Cpu}
use Rattle.sgx_rules.specs.Epochs.{is_track}
use Rattle.sgx_rules.specs.Rules.{Along}
use Rattle.driver_rules.specs.Ages.{KeptAgeRule}
use Rattle.driver_rules.specs.Spares.{outs_kept}
use Rattle.driver_rules.specs.Scripts.{ScriptRule}
use Rattle.driver_laws.proofs.StepLaws.{Builds, ByStep, NoStep, builds_or_none}
use Rattle.driver_laws.specs.inner.Tracking.{TrackingRule}
use Rattle.script_rules.specs.Script.{action_of, is_builder, step_action}
use Rattle.script_rules.specs.declared.steps.BuildStep.{BuildStep}
use Rattle.script_rules.specs.declared.steps.BuildStep.TheVariants as builds
use Rattle.job_grammar.specs.Jobs.{JobView}
use Rattle.job_grammar.specs.inner.Valid.{IsValid}
use Rattle.run_course.specs.declared.turn.Turn.{Turn}
use Rattle.run_course.specs.declared.turn.Turn.TheVariants as turns
use Rattle.run_course.specs.inner.Turns.{EndsBy, EndsLoad, EndsOut, RefusesLoad}
use Rattle.run_course.specs.inner.Views.{BookView, HasGrown, Holds, IsBuild, IsLoadEnd, IsOutEnd, IsReclaim, IsRun}
use Rattle.epoch_words.specs.declared.seen.Seen.{Seen}
use Rattle.epoch_words.specs.inner.Seen.{starting_at}
use Rattle.epoch_notes.specs.inner.Notes.{CanNote, IsOfCpus, NotesView, TableId, TellsEntries}
use Rattle.epoch_notes.proofs.NoteLaws.{tells_none, tells_other, tells_quiet}
use Rattle.run_book.specs.inner.Words.{KeepsWords}
use Rattle.run_book.proofs.CreatedLaws.{created_are_jobs}

-- ---- what a turn made

-- some entries more of one actor, of one job
pub record Made (old : BookView) (by : Actor) (new : BookView) : Type 0 where
  pub entries : List Entry
  pub actors : All (λ (e : Entry). e.actor ≡ by) entries
  pub past : new.past ≡ entries ++ old.past
  pub job : new.job ≡ old.job

abbrev made_of : (old : BookView) (by : Actor) (n : ℕ) (new : BookView) → HasGrown old by n new → Made old by new
made_of old by n new g = record { entries = g.entries; actors = g.actors; past = g.past; job = g.job }

none_made : (old : BookView) (by : Actor) (new : BookView) → new ≡ old → Made old by new
none_made old by new same = record {
  entries = [];
  actors = λ k d low. absurd (omega (arith, low));
  past = ap (λ (b : BookView). b.past) same;
  job = ap (λ (b : BookView). b.job) same;
}

pub run_made : (old : BookView) (cpu : Cpu) (turn : Turn) (new : BookView) → IsRun old cpu turn new → Made old (actors.Cpu cpu) new
run_made old cpu (turns.Did n) new (many, quiet, g) = made_of old (actors.Cpu cpu) n new g
run_made old cpu (turns.Unseal work) new (opens, inl g) = made_of old (actors.Cpu cpu) 1 new g
run_made old cpu (turns.Unseal work) new (opens, inr same) = none_made old (actors.Cpu cpu) new same
run_made old cpu (turns.Again why) new (due, there, same) = none_made old (actors.Cpu cpu) new same
run_made old cpu turns.Finished new (due, same) = none_made old (actors.Cpu cpu) new same
run_made old cpu turns.Stopped new (due, same) = none_made old (actors.Cpu cpu) new same
run_made old cpu (turns.Seal work) new is = absurd is

pub reclaim_made : (old : BookView) (turn : Turn) (new : BookView) → IsReclaim old turn new → Made old actors.Reclaimer new
reclaim_made old (turns.Did n) new (many, kicks, quiet, g) = made_of old actors.Reclaimer n new g
reclaim_made old (turns.Seal work) new (seals, inl g) = made_of old actors.Reclaimer 1 new g
reclaim_made old (turns.Seal work) new (seals, inr same) = none_made old actors.Reclaimer new same
reclaim_made old (turns.Again why) new (due, same) = none_made old actors.Reclaimer new same
reclaim_made old turns.Finished new (due, same) = none_made old actors.Reclaimer new same
reclaim_made old turns.Stopped new (due, same) = none_made old actors.Reclaimer new same
reclaim_made old (turns.Unseal work) new is = absurd is

-- a book's entries behind those that were there are the new ones
pub newest : (all entries past : List Entry) (k : ℕ) → reverse all ≡ entries ++ past → k ≡ length past → reverse (drop k all) ≡ entries
newest all entries past k is long =
    let whole : all ≡ reverse past ++ reverse entries = sym (reverse-reverse all) ∙ (ap reverse is ∙ reverse-append entries past) in
    let at : k ≡ length (reverse past) = long ∙ sym (length-reverse past) in
    let gone : drop k (reverse past) ≡ [] = drop_all k (reverse past) (omega (arith, at)) in
    ap reverse (ap (drop k) whole
    ∙ (drop-append-le k (reverse past) (reverse entries) (omega (arith, at)) ∙ ap (λ xs. xs ++ reverse entries) gone))
    ∙ reverse-reverse entries

pub long_enough : (all entries past : List Entry) (k : ℕ) → reverse all ≡ entries ++ past → k ≡ length past → k ≤ length all
long_enough all entries past k is long =
    let one = length-reverse all in
    let two = ap (λ (xs : List Entry). length xs) is in
    let three = length-append entries past in
    omega (arith, one, two, three, long)

-- ---- the words

each_of : (cpus : ℕ) (by : Actor) → IsOfCpus cpus by → (es : List Entry) → All (λ (e : Entry). e.actor ≡ by) es
    → All (λ (e : Entry). IsOfCpus cpus e.actor) es
each_of cpus by is es all = λ k d low. subst (IsOfCpus cpus) (sym (all k d low)) is

-- what a turn made can be taken in
pub can_note : (old new : BookView) (n : NotesView) (by : Actor) (m : Made old by new) → KeepsWords old n → Holds new
    → IsOfCpus (length old.job.scripts) by → CanNote n m.entries
can_note old new n by m k holds is =
    let script : Along (ScriptRule old.job) (m.entries ++ old.past) =
    subst (Along (ScriptRule old.job)) m.past (subst (λ (j : JobView). Along (ScriptRule j) new.past) m.job holds.anyhow.script) in
    let age : Along (KeptAgeRule old.job) (m.entries ++ old.past) =
    subst (Along (KeptAgeRule old.job)) m.past (subst (λ (j : JobView). Along (KeptAgeRule j) new.past) m.job holds.anyhow.age) in
    let few = k.valid.few_scripts in
    let cpus = k.cpus in
    record {
      first = old.job.start_epoch;
      past = old.past;
      tells = k.tells;
      rule = subst (Along (TrackingRule old.job.start_epoch)) m.past
          (subst (λ (j : JobView). Along (TrackingRule j.start_epoch) new.past) m.job holds.anyhow.tracking);
      begun = k.valid.few_epochs;
      enclaves = λ enclave made.
          let one = created_are_jobs old.job (m.entries ++ old.past) script age enclave made in
          (one.0, subst (λ x. enclave ≤ x) (sym k.enclaves) one.1);
      few = omega (arith, few, cpus);
      actors = each_of (length n.inside) by (subst (λ x. IsOfCpus x by) (sym k.cpus) is) m.entries m.actors;
    }

-- behind them the words say what the entries say
pub keeps_made : (old new : BookView) (n n' : NotesView) (by : Actor) (m : Made old by new) → KeepsWords old n
    → TellsEntries old.job.start_epoch (m.entries ++ old.past) n' → n'.words ≡ n.words → length n'.inside ≡ length n.inside
    → KeepsWords new n'
keeps_made old new n n' by m k tells words cpus = record {
  valid = subst IsValid (sym m.job) k.valid;
  tells = subst (λ (j : JobView). TellsEntries j.start_epoch new.past n') (sym m.job)
      (subst (λ past. TellsEntries old.job.start_epoch past n') (sym m.past) tells);
  cpus = cpus ∙ (k.cpus ∙ ap (λ (j : JobView). length j.scripts) (sym m.job));
  enclaves = ap (λ (w : _). w.words) words ∙ (k.enclaves ∙ ap (λ (j : JobView). length j.enclaves) (sym m.job));
}

-- ---- turns that change no word

same_words : (old new : BookView) (n : NotesView) → new ≡ old → KeepsWords old n → KeepsWords new n
same_words old new n same k = subst (λ b. KeepsWords b n) (sym same) k

-- the builder begins no epoch
no_track : (ev : Event) (step : BuildStep) (f : ℕ) → action_of ev ≡ Some (step_action step f) → (c : ℕ) → is_track ev c ≡ false
no_track (Did (actions.Track enclave) answer) step f is c = absurd (none step is)
  where
    none : (s : BuildStep) → Some (actions.Track enclave) ≡ Some (step_action s f) → ⊥
    none builds.Va k = cc
    none (builds.Create e b s) k = cc
    none (builds.Add e n k p i) same = cc
    none (builds.Extend e n x) k = cc
    none (builds.Init e x) k = cc
no_track _ step f is c = refl

build_grown : (old new : BookView) (n : NotesView) → HasGrown old actors.Builder 1 new → Holds new → KeepsWords old n → KeepsWords new n
build_grown old new n g holds k =
    keeps_made old new n n actors.Builder (made_of old actors.Builder 1 new g) k
    (by_entries g.entries g.count g.actors g.past) refl refl
  where
    by_entries : (es : List Entry) → length es ≡ 1 → All (λ (e : Entry). e.actor ≡ actors.Builder) es → new.past ≡ es ++ old.past
        → TellsEntries old.job.start_epoch (es ++ old.past) n
    by_entries [] long by past = absurd (omega (arith, long))
    by_entries (e ∷ x ∷ es) long by past = absurd (omega (arith, long))
    by_entries (e ∷ []) long by past =
        subst (λ (a : Actor). TellsEntries old.job.start_epoch (record { actor = a; event = e.event } ∷ old.past) n)
        (sym (by 0 e (omega arith)))
        (tells_other n old.job.start_epoch old.past k.tells actors.Builder e.event tt
        (calm (builds_or_none old.job old.past (outs_kept old.job old.past) e script.0 age.0)))
      where
        script : Along (ScriptRule old.job) (e ∷ old.past)
        script = subst (Along (ScriptRule old.job)) past (subst (λ (j : JobView). Along (ScriptRule j) new.past) g.job holds.anyhow.script)

        age : Along (KeptAgeRule old.job) (e ∷ old.past)
        age = subst (Along (KeptAgeRule old.job)) past (subst (λ (j : JobView). Along (KeptAgeRule j) new.past) g.job holds.anyhow.age)

        builder_else : true ≡ false → ⊥
        builder_else h = cc

        calm : Builds old.job old.past e.actor e.event → (c : ℕ) → is_track e.event c ≡ false
        calm (ByStep is s) c = no_track e.event s.step s.frame s.made c
        calm (NoStep other none) c = absurd (builder_else (ap is_builder (sym (by 0 e (omega arith))) ∙ other))

pub build_words : (old new : BookView) (turn : Turn) (n : NotesView) → IsBuild old turn new → Holds new → KeepsWords old n
    → KeepsWords new n
build_words old new (turns.Did x) n (one, g) holds k = build_grown old new n g holds k
build_words old new (turns.Again why) n (due, same) holds k = same_words old new n same k
build_words old new turns.Finished n (due, same) holds k = same_words old new n same k
build_words old new turns.Stopped n (due, same) holds k = same_words old new n same k
build_words old new (turns.Seal work) n is holds k = absurd is
build_words old new (turns.Unseal work) n is holds k = absurd is

-- ---- the ends of a write-out and of a load

pub out_words : (old new : BookView) (turn : Turn) (n : NotesView) → IsOutEnd old turn new → KeepsWords old n → KeepsWords new n
out_words old new (turns.Did zero) n (none, same) k = same_words old new n same k
out_words old new (turns.Did (suc x)) n (one, ends, kicks, g) k =
    keeps_made old new n n actors.Reclaimer (made_of old actors.Reclaimer 1 new g) k
    (by_entries g.entries g.count (subst EndsOut g.past ends)) refl refl
  where
    quiet : (e : Entry) → (ev : Event) → e.event ≡ ev → EndsOut (record { actor = e.actor; event = ev } ∷ old.past)
        → TellsEntries old.job.start_epoch (record { actor = e.actor; event = ev } ∷ old.past) n
    quiet e (Did (actions.Ewb f) answer) is h =
        tells_quiet n old.job.start_epoch old.past k.tells (record { actor = e.actor; event = Did (actions.Ewb f) answer }) refl (λ c. refl)
    quiet e _ is h = absurd h

    by_entries : (es : List Entry) → length es ≡ 1 → EndsOut (es ++ old.past) → TellsEntries old.job.start_epoch (es ++ old.past) n
    by_entries [] long h = absurd (omega (arith, long))
    by_entries (e ∷ y ∷ es) long h = absurd (omega (arith, long))
    by_entries (e ∷ []) long h = quiet e e.event refl h
out_words old new turns.Stopped n (spent, same) k = same_words old new n same k
out_words old new (turns.Seal work) n is k = absurd is
out_words old new (turns.Unseal work) n is k = absurd is
out_words old new (turns.Again why) n is k = absurd is
out_words old new turns.Finished n is k = absurd is

load_grown : (old new : BookView) (cpu : Cpu) (x : ℕ) (n : NotesView) → EndsLoad (suc x) new.past
    → HasGrown old (actors.Cpu cpu) (suc x) new → KeepsWords old n → KeepsWords new n
load_grown old new cpu x n ends g k =
    keeps_made old new n n (actors.Cpu cpu) (made_of old (actors.Cpu cpu) (suc x) new g) k
    (by_entries g.entries g.count (subst (EndsLoad (suc x)) g.past ends)) refl refl
  where
    first : ℕ
    first = old.job.start_epoch

    -- the entry of a refused load
    refused : (e : Entry) (ev : Event) → RefusesLoad ev → TellsEntries first (record { actor = e.actor; event = ev } ∷ old.past) n
    refused e (Refused (actions.Eld f) refusal) h =
        tells_quiet n first old.past k.tells (record { actor = e.actor; event = Refused (actions.Eld f) refusal }) refl (λ c. refl)
    refused e _ h = absurd h

    by_last : (e : Entry) (ev : Event) (rest : List Entry) → length rest ≡ x → EndsBy (suc x) ev (rest ++ old.past)
        → TellsEntries first (record { actor = e.actor; event = ev } ∷ rest ++ old.past) n
    by_last e (Did (actions.Eld f) answer) [] long h =
        tells_quiet n first old.past k.tells (record { actor = e.actor; event = Did (actions.Eld f) answer }) refl (λ c. refl)
    by_last e (Did (actions.Eld f) answer) (y ∷ rest) long h = absurd (omega (arith, long, h))
    by_last e (Bus page why) (y ∷ []) long h =
        tells_quiet n first (y ∷ old.past) (refused y y.event h.1) (record { actor = e.actor; event = Bus page why }) refl (λ c. refl)
    by_last e (Bus page why) [] long h = absurd (let two = h.0 in omega (arith, long, two))
    by_last e (Bus page why) (y ∷ z ∷ rest) long h = absurd (let two = h.0 in omega (arith, long, two))
    by_last e _ rest long h = absurd h

    by_entries : (es : List Entry) → length es ≡ suc x → EndsLoad (suc x) (es ++ old.past) → TellsEntries first (es ++ old.past) n
    by_entries [] long h = absurd (omega (arith, long))
    by_entries (e ∷ es) long h = by_last e e.event es (omega (arith, long)) h

pub load_words : (old new : BookView) (cpu : Cpu) (turn : Turn) (n : NotesView) → IsLoadEnd old cpu turn new → KeepsWords old n
    → KeepsWords new n
load_words old new cpu (turns.Did zero) n (none, same) k = same_words old new n same k
load_words old new cpu (turns.Did (suc x)) n (ends, g) k = load_grown old new cpu x n ends g k
load_words old new cpu turns.Stopped n (spent, same) k = same_words old new n same k
load_words old new cpu (turns.Seal work) n is k = absurd is
load_words old new cpu (turns.Unseal work) n is k = absurd is
load_words old new cpu (turns.Again why) n is k = absurd is
load_words old new cpu turns.Finished n is k = absurd is

-- ---- a turn by its entries

-- what a turn made, as the book has it behind the entries that were there
module _ (old new : BookView) (n : NotesView) (by : Actor) (m : Made old by new) (before after : List Entry)
    (was : reverse before ≡ old.past) (is : reverse after ≡ new.past) where
  at_end : length before ≡ length old.past
  at_end = sym (length-reverse before) ∙ ap (λ (xs : List Entry). length xs) was

  pub fits : length before ≤ length after
  fits = long_enough after m.entries old.past (length before) (is ∙ m.past) at_end

  pub new_ones : reverse (drop (length before) after) ≡ m.entries
  new_ones = newest after m.entries old.past (length before) (is ∙ m.past) at_end

  pub can_take : KeepsWords old n → Holds new → IsOfCpus (length old.job.scripts) by → CanNote n (reverse (drop (length before) after))
  can_take k holds own = subst (CanNote n) (sym new_ones) (can_note old new n by m k holds own)

  pub kept : (n' : NotesView) (k : KeepsWords old n) (holds : Holds new) (own : IsOfCpus (length old.job.scripts) by)
      → ((can : CanNote n (reverse (drop (length before) after)))
      → TellsEntries can.first (reverse (drop (length before) after) ++ can.past) n')
      → n'.words ≡ n.words → length n'.inside ≡ length n.inside → KeepsWords new n'
  unfolding can_note
  kept n' k holds own tells words cpus =
      keeps_made old new n n' by m k (by_list (reverse (drop (length before) after)) new_ones tells) words cpus
    where
      by_list : (xs : List Entry) → xs ≡ m.entries → ((can : CanNote n xs) → TellsEntries can.first (xs ++ can.past) n')
          → TellsEntries old.job.start_epoch (m.entries ++ old.past) n'
      by_list xs same each =
          subst (λ ys. (can : CanNote n ys) → TellsEntries can.first (ys ++ can.past) n') same each (can_note old new n by m k holds own)

-- ---- no entry yet

pub keeps_start : (b : BookView) (words : TableId) (seen : List Seen) (cpus : ℕ) → IsValid b.job → b.past ≡ []
    → words.words ≡ length b.job.enclaves → seen ≡ replicate (length b.job.enclaves) (starting_at b.job.start_epoch)
    → cpus ≡ length b.job.scripts → KeepsWords b (record { words = words; seen = seen; inside = replicate cpus None })
keeps_start b words seen cpus valid none wide says many = record {
  valid = valid;
  tells = subst (λ past. TellsEntries b.job.start_epoch past (record { words = words; seen = seen; inside = replicate cpus None }))
      (sym none)
      (subst (λ s. TellsEntries b.job.start_epoch [] (record { words = words; seen = s; inside = replicate cpus None }))
      (sym (says ∙ ap (λ w. replicate w (starting_at b.job.start_epoch)) (sym wide))) (tells_none b.job.start_epoch cpus words));
  cpus = length-replicate cpus None ∙ many;
  enclaves = wide;
}
