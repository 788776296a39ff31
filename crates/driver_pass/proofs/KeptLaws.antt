-- Behind the second refusal of a page's tries, those who keep it back are the processors inside since before the epoch that it told.
use Rattle.std.proofs.Common.{◌≡◌, ℕ, zero, suc, ◌+◌, ◌-◌, ◌≤◌, ◌==◌, ◌&&◌, Bool, false}
use Rattle.std.proofs.Common.{if◌then◌else◌, refl, sym, ◌∙◌, ap, subst}
use Rattle.std.proofs.Common.{List, [], ◌∷◌, ◌++◌, Option, Some, None, drop, length, nat_le, nat_lt, slice_get, arith}
use Rattle.std.proofs.lemmas.List.{get_or_past}
use Rattle.std.proofs.lemmas.Option.{same_Some}
use Rattle.machine_laws.proofs.ColumnLaws.{inside_is, noted_is}
use Rattle.sgx_rules.specs.inner.ByEpochs.{IsTrackedBlock, notes}
use Rattle.sgx_rules.specs.declared.entries.Entry.{Entry}
use Rattle.sgx_types.specs.declared.names.Page.{Page}
use Rattle.sgx_rules.specs.Epochs.{epoch}
use Rattle.sgx_rules.specs.inner.Epochs.{block_epoch, noted}
use Rattle.sgx_rules.specs.Frames.{content}
use Rattle.sgx_types.specs.Making.{Making}
use Rattle.sgx_rules.specs.Processors.{Stay, stay}
use Rattle.sgx_rules.proofs.Contents.{page_enclave}
use Rattle.job_grammar.specs.Jobs.{JobView}
use Rattle.cached_translations.specs.declared.processor.Mode.{Mode}
use Rattle.cached_translations.specs.declared.processor.Mode.TheVariants as modes
use Rattle.cached_translations.specs.declared.processor.Processor.{Processor}
use Rattle.machine_laws.specs.inner.Columns.{HasColumns, noted_inside, seat_of_stay}
use Rattle.machine_laws.specs.inner.State.{is_noting}
use Rattle.sgx_machine.specs.inner.Parts.{Parts, cpu_at, idle, noted_by, seat_of_mode, state_of}
use Rattle.driver_rules.specs.Passes.{keepers, pass}
use Rattle.driver_rules.specs.inner.Passes.{noting_from}
use Rattle.driver_laws.proofs.EpochLaws.{block_epoch_before}
use Rattle.driver_laws.proofs.KickLaws.{keepers_by_epochs}
use Rattle.driver_laws.proofs.TrackLaws.{own_holds, waiting_holds}
use Rattle.driver_laws.specs.inner.Agrees.{Keeping}
use Rattle.driver_laws.specs.inner.Sound.{IsSound}
use Rattle.driver_laws.specs.inner.Tracks.{IsTracked, KeepsTracks}
use Rattle.driver_tables.specs.declared.driver.Driver.{Driver}
use Rattle.driver_pass.specs.declared.stages.Form.{Form}
use Rattle.driver_pass.specs.declared.stages.Form.TheVariants as forms
use Rattle.driver_pass.specs.declared.stages.Stage.TheVariants as stages
use Rattle.driver_pass.specs.declared.stages.Taken.{Taken}
use Rattle.driver_pass.specs.inner.Keeping.{is_older, keepers_by, passing_from}
use Rattle.driver_tables.specs.inner.Tells.{Tells}
use Rattle.driver_pass.specs.inner.Standing.{epoch_told, IsForm, StandsAt, StandsFor}
use Rattle.driver_pass.specs.inner.Viewed.{form_in, PassView, tries_of}
use Rattle.driver_pass.proofs.ListLaws.{get_drop, head}

-- a processor inside before the enclave's epoch noted the one before it or an earlier one
older_notes : (mode : Mode) (enclave b : ℕ) → is_older mode enclave (b + 1) ≡ is_noting enclave (λ m. nat_le m b) (seat_of_mode mode)
    (noted_by mode)
older_notes modes.Outside enclave b = refl
older_notes (modes.Inside other tcs tf sf m) enclave b = ap (λ x. (other == enclave) && x) (below m b)
  where
    below : (m b : ℕ) → nat_lt m (b + 1) ≡ nat_le m b
    below m b = grind arith

noting_stay : (o : Option Stay) (m enclave b : ℕ) → is_noting enclave (λ k. nat_le k b) (seat_of_stay o) (noted_inside o m) ≡ notes enclave
    (λ k. nat_le k b) m o
noting_stay None m enclave b = refl
noting_stay (Some t) m enclave b = refl

older_is : (m : Parts) (past : List Entry) (enclave b p : ℕ) → HasColumns (state_of m) past
    → is_older (cpu_at m p).mode enclave (b + 1) ≡ notes enclave (λ k. nat_le k b) (noted (state_of m).first_epoch past p) (stay past p)
older_is m past enclave b p h =
    older_notes (cpu_at m p).mode enclave b
    ∙ ap (λ s. is_noting enclave (λ k. nat_le k b) s ((state_of m).noted p)) (inside_is h p)
    ∙ ap (λ n. is_noting enclave (λ k. nat_le k b) (seat_of_stay (stay past p)) n) (noted_is h p)
    ∙ noting_stay (stay past p) (noted (state_of m).first_epoch past p) enclave b

-- beyond the last processor nobody is inside
older_past : (m : Parts) (enclave e p : ℕ) → length m.cpus ≤ p → is_older (cpu_at m p).mode enclave e ≡ false
older_past m enclave e p high = ap (λ (c : Processor). is_older c.mode enclave e) (get_or_past m.cpus p idle high)

none_pass : (test : ℕ → Bool) (from count : ℕ) → ((p : ℕ) → from ≤ p → test p ≡ false) → passing_from test from count ≡ []
none_pass test from zero h = refl
none_pass test from (suc count) h =
    rw (h from (omega arith)) (none_pass test (from + 1) count (λ p low. h p (omega (arith, low))))

pass_more : (test : ℕ → Bool) (from few more : ℕ) → ((p : ℕ) → from + few ≤ p → test p ≡ false)
    → passing_from test from (few + more) ≡ passing_from test from few
pass_more test from zero more h =
    let e : zero + more ≡ more = omega arith in rw e (none_pass test from more (λ p low. h p (omega (arith, low))))
pass_more test from (suc few) more h =
    let e : suc few + more ≡ suc (few + more) = omega arith in
    rw e (ap (λ ps. (if test from then from ∷ [] else []) ++ ps) (pass_more test (from + 1) few more (λ p low. h p (omega (arith, low)))))

pass_same : (first : ℕ) (past : List Entry) (e b : ℕ) (test : ℕ → Bool) (p count : ℕ)
    → ((q : ℕ) → test q ≡ notes e (λ m. nat_le m b) (noted first past q) (stay past q))
    → passing_from test p count ≡ noting_from first past e b p count
pass_same first past e b test p zero each = refl
pass_same first past e b test p (suc count) each =
    rw (pass_same first past e b test (p + 1) count each)
    (ap (λ x. (if x then p ∷ [] else []) ++ noting_from first past e b (p + 1) count) (each p))

-- a tracked page is kept back by those who are inside since before the enclave's epoch
keepers_are : (m : Parts) (past : List Entry) (g : Page) (e : ℕ) → HasColumns (state_of m) past → IsSound past → IsTracked past g
    → length m.cpus ≤ 16 → e ≡ epoch (state_of m).first_epoch past g.enclave → keepers past g ≡ keepers_by m g.enclave e
keepers_are m past g e h s t few told =
    keepers_by_epochs first past g t.frame before.0 t.track t.waiting.leaving block
    ∙ sym (pass_same first past g.enclave before.0 (test (before.0 + 1)) 0 16 (λ q. older_is m past g.enclave before.0 q h))
    ∙ ap (λ n. passing_from (test n) 0 16) (before.2 ∙ sym told)
    ∙ ap (passing_from (test e) 0) (sym sixteen)
    ∙ pass_more (test e) 0 (length m.cpus) (16 - length m.cpus) (λ p low. older_past m g.enclave e p (omega (arith, low)))
  where
    first : ℕ
    first = (state_of m).first_epoch

    test : ℕ → ℕ → Bool
    test n p = is_older (cpu_at m p).mode g.enclave n

    before : (b : ℕ) × (block_epoch first past t.frame ≡ Some b) × (b + 1 ≡ epoch first past g.enclave)
    before = block_epoch_before first past g t s

    block : IsTrackedBlock first past t.frame g.enclave before.0 t.track
    block = record {
      place = t.block;
      page = page_enclave (content past t.frame) g
          (own_holds (content past t.frame) g (waiting_holds past g t.frame t.block s t.waiting) t.waiting.own);
      blocked = t.waiting.blocked;
      epoch = before.1;
      tracked = t.first;
    }

    sixteen : length m.cpus + (16 - length m.cpus) ≡ 16
    sixteen = omega (arith, few)

-- ---- within the tries of a page

module _ (k : Keeping) (made : Making) (j : JobView) (past : List Entry) (d : Driver) (m : Parts) (a : Tells k made j past d m) where
  by_tracks : (t : Taken) (e : ℕ) → IsTracked past t.page → e ≡ epoch made.first_epoch past t.page.enclave
      → keepers past t.page ≡ keepers_by m t.page.enclave e
  by_tracks t e tracked told =
      keepers_are m past t.page e a.follows.shape.columns a.sound tracked (subst (λ n. n ≤ 16) (sym a.cpus) a.shows.few)
      (told ∙ ap (λ n. epoch n past t.page.enclave) (ap (λ (x : Making). x.first_epoch) (sym a.follows.shape.making)))

  pub kept_told : (kicks : List ℕ) (form : Form) (t : Taken) (ts : List Taken) (e : ℕ)
      → pass j past ≡ tries_of (t ∷ ts) (form_in kicks form)
      → IsForm made.first_epoch past form (t ∷ ts) → epoch_told form ≡ Some e → keepers past t.page ≡ keepers_by m t.page.enclave e
  kept_told kicks (forms.Kick n is_made) t ts e same told known =
      by_tracks t e (subst (KeepsTracks past) same a.tracks) (sym (same_Some n e known) ∙ told)
  kept_told kicks (forms.Kicks n next) t ts e same told known =
      by_tracks t e (subst (KeepsTracks past) same a.tracks) (sym (same_Some n e known) ∙ told)
  kept_told kicks (forms.Third n) t ts e same told known =
      by_tracks t e (subst (KeepsTracks past) same a.tracks) (sym (same_Some n e known) ∙ told)
  kept_told kicks forms.First t ts e same told known = cc
  kept_told kicks forms.Track t ts e same told known = cc
  kept_told kicks forms.Second t ts e same told known = cc
  kept_told kicks forms.Sealing t ts e same told known = cc

  pub told_keepers : (v : PassView) (next e : ℕ) (form : Form) (t : Taken) → StandsAt made.first_epoch j past v
      → v.stage ≡ stages.Tries next form → epoch_told form ≡ Some e → slice_get v.taken next ≡ Some t
      → keepers past t.page ≡ keepers_by m t.page.enclave e
  told_keepers v next e form t s is known there =
      by_rest (drop next v.taken) (sym (get_drop v.taken next) ∙ there) here.same here.stage
    where
      here : StandsFor made.first_epoch past (record v { stage = stages.Tries next form }) (pass j past)
      here = subst (λ x. StandsFor made.first_epoch past (record v { stage = x }) (pass j past)) is s

      by_rest : (ts : List Taken) → head ts ≡ Some t → pass j past ≡ tries_of ts (form_in v.kicks form)
          → IsForm made.first_epoch past form ts → keepers past t.page ≡ keepers_by m t.page.enclave e
      by_rest [] first same told = cc
      by_rest (x ∷ xs) first same told =
          let one : x ≡ t = same_Some x t first in
          subst (λ (y : Taken). keepers past y.page ≡ keepers_by m y.page.enclave e) one (kept_told v.kicks form x xs e same told known)
