-- What is printed of a readable entry is read again as that entry, field by field.
use Rattle.std.proofs.Common.{◌≡◌, true, [], ◌∷◌, ◌++◌, Some, None, append_assoc, decimal, drop, refl, sym, ap, ◌∙◌}
use Rattle.sgx_rules.specs.declared.entries.Entry.{Entry}
use Rattle.sgx_rules.specs.declared.entries.Event.{Event}
use Rattle.sgx_rules.specs.declared.entries.Event.TheVariants as events
use Rattle.sgx_rules.specs.declared.entries.Action.{Action}
use Rattle.sgx_rules.specs.declared.entries.Action.TheVariants as actions
use Rattle.sgx_rules.specs.declared.entries.Answer.{Answer}
use Rattle.sgx_rules.specs.declared.entries.Answer.TheVariants as answers
use Rattle.sgx_types.specs.declared.lawful.PageInit.{PageInit}
use Rattle.sgx_types.specs.declared.lawful.PageInit.TheVariants as inits
use Rattle.sgx_rules.specs.declared.refusals.Refusal.{Refusal}
use Rattle.sgx_rules.specs.declared.refusals.Refusal.TheVariants as why
use Rattle.text_words.specs.Words.{Words}
use Rattle.sgx_types.specs.declared.names.Page.{Page}
use Rattle.sgx_rules.specs.declared.entries.BusWhy.{BusWhy}
use Rattle.sgx_rules.specs.declared.entries.BusWhy.TheVariants as stops
use Rattle.text_words.specs.Words.{digest_word}
use Rattle.trace_text.specs.declared.edition.Edition.{Edition}
use Rattle.trace_text.specs.declared.edition.Edition.TheVariants as editions
use Rattle.trace_text.specs.Names.{look_word, stop_word}
use Rattle.trace_text.specs.Fields.{AllFit, action_fields, answer_fields, answer_form, event_fields, form_of, init_fields}
use Rattle.trace_text.specs.Fields.{page_words, refusal_fields, words_of_fields}
use Rattle.trace_text.specs.TraceText.{actor_word}
use Rattle.trace_text.specs.Readable.{IsKnown, IsReadable, IsTold}
use Rattle.trace_text.proofs.FieldLaws.{words_append}
use Rattle.trace_lines.specs.inner.Names.{bare_of, row_of}
use Rattle.trace_lines.proofs.WordReads.{access-read, actor-read, address-read, byte-read, cause-read, cpu-read, dash-read, enclave-read}
use Rattle.trace_lines.proofs.WordReads.{IsPageRead, expect-read, fault-read, frame-read, kind-read, look-read, number-read}
use Rattle.trace_lines.proofs.WordReads.{page-read, perm-read, short-read, small-read, stop-read, tag-read}
use Rattle.trace_lines.specs.inner.WordReading.{enclave_in, page_number_in}
use Rattle.trace_lines.specs.inner.Reading.{action_of, answer_in, bus_of, done_of, entry_of, event_of, fielded_of, first, init_in}
use Rattle.trace_lines.specs.inner.Reading.{kick_of, knows, operands_in, refusal_of, refused_of}
use Rattle.trace_lines.proofs.FitLaws.{fit_behind, fit_front}

-- ---- the two words of a page

page-first : (p : Page) (words rest : Words) → IsPageRead p words → enclave_in (first (words ++ rest)) ≡ p.enclave
page-first p [] rest read = absurd read
page-first p (e ∷ []) rest read = absurd read
page-first p (e ∷ (n ∷ [])) rest read = read.0
page-first p (e ∷ (n ∷ (w ∷ words))) rest read = absurd read

page-second : (p : Page) (words rest : Words) → IsPageRead p words → page_number_in (first (drop 1 (words ++ rest))) ≡ p.number
page-second p [] rest read = absurd read
page-second p (e ∷ []) rest read = absurd read
page-second p (e ∷ (n ∷ [])) rest read = read.1
page-second p (e ∷ (n ∷ (w ∷ words))) rest read = absurd read

page-behind : (p : Page) (words rest : Words) → IsPageRead p words → drop 1 (drop 1 (words ++ rest)) ≡ rest
page-behind p [] rest read = absurd read
page-behind p (e ∷ []) rest read = absurd read
page-behind p (e ∷ (n ∷ [])) rest read = refl
page-behind p (e ∷ (n ∷ (w ∷ words))) rest read = absurd read

is-known : (edition : Edition) (stop : BusWhy) → IsKnown edition stop → knows edition stop ≡ true
is-known editions.One stops.Slot known = absurd (let e : editions.One ≡ editions.Two = known in cc)
is-known editions.One stop known = refl
is-known editions.Two stop known = refl

module _ (edition : Edition) where
  init-read : (init : PageInit) (rest : Words) → AllFit (init_fields init)
      → init_in (words_of_fields edition (init_fields init) ++ rest) ≡ (init, rest)
  unfolding init_in
  init-read (inits.Words v) rest fits = rw (number-read v fits.1.0) refl
  init-read (inits.Tcs ossa nssa) rest fits = rw (small-read ossa fits.1.0, small-read nssa fits.1.1.0) refl

  -- the words of an instruction, and any behind them
  action-read : (action : Action) (rest : Words) → AllFit (action_fields action)
      → let words : Words = words_of_fields edition (action_fields action) ++ rest in
      action_of (first words) (drop 1 words) ≡ Some (action, rest)
  unfolding action_of row_of operands_in
  action-read (actions.Epa f) rest fits = rw (frame-read f.0 fits.1.0) refl
  action-read (actions.Create e f base size) rest fits =
      rw (
        enclave-read e fits.1.0,
        frame-read f.0 fits.1.1.0,
        address-read base fits.1.1.1.0,
        address-read size fits.1.1.1.1.0,
      ) refl
  action-read (actions.Add e n f kind perm init) rest fits =
      rw (
        enclave-read e fits.1.0,
        small-read n fits.1.1.0,
        frame-read f.0 fits.1.1.1.0,
        kind-read kind,
        perm-read perm,
        init-read init rest fits.1.1.1.1.1.1,
      ) refl
  action-read (actions.Extend f chunk) rest fits = rw (frame-read f.0 fits.1.0, byte-read chunk fits.1.1.0) refl
  action-read (actions.Init e None) rest fits = rw (enclave-read e fits.1.0, dash-read) refl
  action-read (actions.Init e (Some bytes)) rest fits = rw (enclave-read e fits.1.0, expect-read bytes fits.1.1.0) refl
  action-read (actions.Enter e tcs tf sf) rest fits =
      rw (enclave-read e fits.1.0, small-read tcs fits.1.1.0, frame-read tf.0 fits.1.1.1.0, frame-read sf.0 fits.1.1.1.1.0) refl
  action-read (actions.Resume e tcs tf sf) rest fits =
      rw (enclave-read e fits.1.0, small-read tcs fits.1.1.0, frame-read tf.0 fits.1.1.1.0, frame-read sf.0 fits.1.1.1.1.0) refl
  action-read actions.Exit rest fits = refl
  action-read (actions.Aex cause) rest fits = rw (cause-read cause) refl
  action-read (actions.Fill n f) rest fits = rw (small-read n fits.1.0, frame-read f.0 fits.1.1.0) refl
  action-read (actions.Load off) rest fits = rw (address-read off fits.1.0) refl
  action-read (actions.Store off v) rest fits = rw (address-read off fits.1.0, number-read v fits.1.1.0) refl
  action-read (actions.Xadd off v) rest fits = rw (address-read off fits.1.0, number-read v fits.1.1.0) refl
  action-read (actions.Set v) rest fits = rw (number-read v fits.1.0) refl
  action-read (actions.Plus v) rest fits = rw (number-read v fits.1.0) refl
  action-read (actions.Pf op off) rest fits = rw (access-read op, address-read off fits.1.1.0) refl
  action-read (actions.OutLoad e off) rest fits = rw (enclave-read e fits.1.0, address-read off fits.1.1.0) refl
  action-read (actions.OutStore e off v) rest fits =
      rw (enclave-read e fits.1.0, address-read off fits.1.1.0, number-read v fits.1.1.1.0) refl
  action-read (actions.Block f) rest fits = rw (frame-read f.0 fits.1.0) refl
  action-read (actions.Track e) rest fits = rw (enclave-read e fits.1.0) refl
  action-read (actions.EwbStart f slot) rest fits =
      rw (frame-read f.0 fits.1.0, frame-read slot.frame.0 fits.1.1.0, short-read slot.index fits.1.1.1.0) refl
  action-read (actions.Ewb f) rest fits = rw (frame-read f.0 fits.1.0) refl
  action-read (actions.EldStart f p slot) rest fits =
      rw (
        frame-read f.0 fits.1.0,
        append_assoc (page_words edition p) (decimal slot.frame.0 ∷ decimal slot.index ∷ []) rest,
        page-first p (page_words edition p) (decimal slot.frame.0 ∷ decimal slot.index ∷ rest) (page-read edition p fits.1.1.0),
        page-second p (page_words edition p) (decimal slot.frame.0 ∷ decimal slot.index ∷ rest) (page-read edition p fits.1.1.0),
        page-behind p (page_words edition p) (decimal slot.frame.0 ∷ decimal slot.index ∷ rest) (page-read edition p fits.1.1.0),
        frame-read slot.frame.0 fits.1.1.1.0,
        short-read slot.index fits.1.1.1.1.0,
      ) refl
  action-read (actions.Eld f) rest fits = rw (frame-read f.0 fits.1.0) refl

  answer-read : (answer : Answer) → AllFit (answer_fields answer)
      → answer_in (answer_form answer) (words_of_fields edition (answer_fields answer)) ≡ (answer, [])
  unfolding answer_in
  answer-read answers.Plain fits = refl
  answer-read (answers.Cssa n) fits = rw (small-read n fits.0) refl
  answer-read (answers.Value v) fits = rw (number-read v fits.0) refl
  answer-read (answers.Hash bytes) fits = rw (tag-read bytes fits.0) refl
  answer-read (answers.Version v) fits = rw (number-read v fits.0) refl
  answer-read (answers.Moved p v tag) fits =
      let words : Words = decimal v ∷ digest_word tag ∷ [] in
      rw (
        page-first p (page_words edition p) words (page-read edition p fits.0),
        page-second p (page_words edition p) words (page-read edition p fits.0),
        page-behind p (page_words edition p) words (page-read edition p fits.0),
        number-read v fits.1.0,
        tag-read tag fits.1.1.0,
      ) refl
  answer-read (answers.Pf fault) fits = rw (fault-read fault) refl
  answer-read (answers.Va n) fits = rw (small-read n fits.0) refl

  refusal-read : (refusal : Refusal) → AllFit (refusal_fields refusal)
      → refusal_of (words_of_fields edition (refusal_fields refusal)) ≡ Some (refusal, [])
  unfolding refusal_of bare_of fielded_of
  refusal-read (why.PrevTrk older) fits = rw (small-read older fits.1.0) refl
  refusal-read (why.NotTracked epoch older) fits = rw (number-read epoch fits.1.0, small-read older fits.1.1.0) refl
  refusal-read (why.SlotOccupied v) fits = rw (number-read v fits.1.0) refl
  refusal-read (why.MacFail given computed) fits = rw (tag-read given fits.1.0, tag-read computed fits.1.1.0) refl
  refusal-read (why.BadHeader e at flags) fits =
      rw (number-read e fits.1.0, number-read at fits.1.1.0, number-read flags fits.1.1.1.0) refl
  refusal-read (why.ChildPresent count) fits = rw (small-read count fits.1.0) refl
  refusal-read (why.BadMeasure made) fits = rw (tag-read made fits.1.0) refl
  refusal-read refusal fits = refl

  -- ---- entries

  done-all : (action : Action) (answer : Answer) → AllFit (action_fields action) → AllFit (answer_fields answer)
      → answer_form answer ≡ form_of edition action
      → let words : Words = words_of_fields edition (action_fields action) ++ words_of_fields edition (answer_fields answer) in
      done_of edition (first words) (drop 1 words) ≡ Some (events.Did action answer, [])
  unfolding done_of
  done-all action answer fits own form =
      rw (action-read action (words_of_fields edition (answer_fields answer)) fits, sym form, answer-read answer own) refl

  -- no instruction has the name of another event
  done-read : (action : Action) (answer : Answer) → AllFit (action_fields action) → AllFit (answer_fields answer)
      → answer_form answer ≡ form_of edition action
      → event_of edition (words_of_fields edition (action_fields action) ++ words_of_fields edition (answer_fields answer))
      ≡ Some (events.Did action answer, [])
  unfolding event_of
  done-read actions.Exit answer fits own form = done-all actions.Exit answer fits own form
  done-read action answer fits own form = done-all action answer fits own form

  refused-read : (action : Action) (refusal : Refusal) → AllFit (action_fields action) → AllFit (refusal_fields refusal)
      → refused_of (words_of_fields edition (action_fields action) ++ words_of_fields edition (refusal_fields refusal))
      ≡ Some (events.Refused action refusal, [])
  unfolding refused_of
  refused-read action refusal fits own =
      rw (action-read action (words_of_fields edition (refusal_fields refusal)) fits, refusal-read refusal own) refl

  event-read : (event : Event) → AllFit (event_fields event) → IsTold edition event
      → event_of edition (words_of_fields edition (event_fields event)) ≡ Some (event, [])
  unfolding event_of kick_of bus_of
  event-read (events.Did action answer) fits told =
      let fields = action_fields action in
      let others = answer_fields answer in
      ap (event_of edition) (words_append edition fields others)
      ∙ done-read action answer (fit_front fields others fits) (fit_behind fields others fits) told
  event-read (events.Refused action refusal) fits told =
      let fields = action_fields action in
      let others = refusal_fields refusal in
      ap refused_of (words_append edition fields others)
      ∙ refused-read action refusal (fit_front fields others fits.1) (fit_behind fields others fits.1)
  event-read (events.Age p look) fits told =
      rw (
        page-first p (page_words edition p) (look_word look ∷ []) (page-read edition p fits.1.0),
        page-second p (page_words edition p) (look_word look ∷ []) (page-read edition p fits.1.0),
        page-behind p (page_words edition p) (look_word look ∷ []) (page-read edition p fits.1.0),
        look-read look,
      ) refl
  event-read (events.Kick cpu) fits told = rw (cpu-read cpu.0 fits.1.0) refl
  event-read (events.Bus p stop) fits told =
      rw (
        page-first p (page_words edition p) (stop_word stop ∷ []) (page-read edition p fits.1.0),
        page-second p (page_words edition p) (stop_word stop ∷ []) (page-read edition p fits.1.0),
        page-behind p (page_words edition p) (stop_word stop ∷ []) (page-read edition p fits.1.0),
        stop-read stop,
        is-known edition stop told,
      ) refl

  pub entry-read : (e : Entry) → IsReadable edition e
      → entry_of edition (actor_word e.actor ∷ words_of_fields edition (event_fields e.event)) ≡ Some e
  unfolding entry_of
  entry-read e readable =
      rw (actor-read e.actor readable.actor, event-read e.event readable.event readable.told, readable.own) refl
