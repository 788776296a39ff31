-- A readable entry's line is cut into the entry's words, and is read again as the entry.
use Rattle.std.proofs.Common.{◌≡◌, ◌==◌, ℕ, ◌^◌, ◌≤◌, Bool, true, false, if◌then◌else◌, eqb, leb, List, [], ◌∷◌, ◌++◌, None, Some}
use Rattle.std.proofs.Common.{codes, decimal, length, take}
use Rattle.std.proofs.Common.{refl, sym, ap, ◌∙◌, arith, lit≤}
use Rattle.std.specs.List.{join_with_byte, list_all, slice_split}
use Rattle.std.proofs.lemmas.Bool.{and_parts, leb-true}
use Rattle.std.proofs.lemmas.List.{length-append, take_all}
use Rattle.std.proofs.lemmas.Option.{same_Some}
use Rattle.sgx_rules.specs.declared.entries.Entry.{Entry}
use Rattle.sgx_rules.specs.declared.entries.Event.{Event}
use Rattle.sgx_rules.specs.declared.entries.Event.TheVariants as events
use Rattle.sgx_rules.specs.declared.entries.Action.{Action}
use Rattle.sgx_rules.specs.declared.entries.Action.TheVariants as actions
use Rattle.sgx_rules.specs.declared.entries.Answer.{Answer}
use Rattle.sgx_rules.specs.declared.entries.Answer.TheVariants as answers
use Rattle.sgx_types.specs.declared.lawful.PageInit.TheVariants as inits
use Rattle.sgx_rules.specs.declared.refusals.Refusal.{Refusal}
use Rattle.sgx_rules.specs.declared.refusals.Refusal.TheVariants as why
use Rattle.sgx_types.specs.declared.names.Page.{Page}
use Rattle.text_words.specs.Words.{Words, digest_word, enclave_word}
use Rattle.trace_text.specs.declared.edition.Edition.{Edition}
use Rattle.trace_text.specs.declared.edition.Edition.TheVariants as editions
use Rattle.trace_text.specs.Names.{look_word, stop_word}
use Rattle.text_words.proofs.Splits.{AreWords, IsApart, is_word, join-apart, split-join}
use Rattle.text_words.proofs.WordLaws.{decimal-is_word, digest-is_word, hexadecimal-is_word}
use Rattle.trace_text.specs.Fields.{AllFit, Field, Fits, field_words, words_of_fields}
use Rattle.trace_text.specs.Fields.{action_fields, answer_fields, event_fields, refusal_fields}
use Rattle.trace_text.specs.Fields.{name, number, address, enclave, page, digest, is_lettered_secs, page_words}
use Rattle.trace_text.specs.TraceText.{actor_word, spelling}
use Rattle.trace_text.specs.Readable.{IsReadable}
use Rattle.trace_text.proofs.FieldLaws.{words_append}
use Rattle.trace_lines.proofs.WordReads.{access-is_word, actor-is_word, cause-is_word, enclave-is_word, fault-is_word, kind-is_word}
use Rattle.trace_lines.proofs.WordReads.{look-is_word, page-are_words, perm-is_word, stop-is_word}
use Rattle.trace_lines.specs.inner.Reading.{entry_of, words_in}
use Rattle.trace_lines.proofs.FitLaws.{fit_behind, fit_front}
use Rattle.trace_lines.proofs.ReadLaws.{entry-read}

append-words : (words others : Words) → AreWords words → AreWords others → AreWords (words ++ others)
append-words [] others all rest = rest
append-words (word ∷ words) others all rest = (all.0, append-words words others all.1 rest)

-- ---- fields that fit are words, where each name is one and no number is longer than 64 bits

is_plain : Field → Bool
is_plain (name word) = is_word word
is_plain (number bits n) = leb (2 ^ bits) (2 ^ 64)
is_plain field = true

-- a page has two words
page-two : (edition : Edition) (p : Page) → length (page_words edition p) ≡ 2
page-two editions.One p = refl
page-two editions.Two p = by_kind (p.enclave == 0) (is_lettered_secs p)
  where
    by_kind : (va secs : Bool) → length (if va then codes "va" ∷ decimal p.number ∷ []
        else (if secs then enclave_word p.enclave ∷ codes "secs" ∷ [] else enclave_word p.enclave ∷ decimal p.number ∷ [])) ≡ 2
    by_kind true secs = refl
    by_kind false true = refl
    by_kind false false = refl

module _ (edition : Edition) where
  field-words : (field : Field) → Fits field → is_plain field ≡ true → AreWords (field_words edition field)
  unfolding is_plain
  field-words (name word) fits plain = (plain, tt)
  field-words (number bits n) fits plain =
      let short : 2 ^ bits ≤ 2 ^ 64 = leb-true (2 ^ bits) (2 ^ 64) plain in (decimal-is_word n (omega (arith, fits, short)), tt)
  field-words (address n) fits plain = (hexadecimal-is_word n fits, tt)
  field-words (enclave e) fits plain = (enclave-is_word e fits, tt)
  field-words (page p) fits plain = page-are_words edition p fits
  field-words (digest bytes) fits plain = (digest-is_word bytes fits, tt)

  fields-words : (fields : List Field) → AllFit fields → list_all is_plain fields ≡ true → AreWords (words_of_fields edition fields)
  fields-words [] fits plain = tt
  fields-words (field ∷ fields) fits plain =
      let parts = and_parts (is_plain field) (list_all is_plain fields) plain in
      append-words (field_words edition field) (words_of_fields edition fields) (field-words field fits.0 parts.0)
      (fields-words fields fits.1 parts.1)

  action-plain : (action : Action) → list_all is_plain (action_fields action) ≡ true
  unfolding is_plain
  action-plain (actions.Add e n f kind perm (inits.Words v)) = rw (kind-is_word kind, perm-is_word perm) refl
  action-plain (actions.Add e n f kind perm (inits.Tcs ossa nssa)) = rw (kind-is_word kind, perm-is_word perm) refl
  action-plain (actions.Init e None) = refl
  action-plain (actions.Init e (Some bytes)) = refl
  action-plain (actions.Aex cause) = rw (cause-is_word cause) refl
  action-plain (actions.Pf op off) = rw (access-is_word op) refl
  action-plain action = refl

  answer-plain : (answer : Answer) → list_all is_plain (answer_fields answer) ≡ true
  unfolding is_plain
  answer-plain (answers.Pf fault) = rw (fault-is_word fault) refl
  answer-plain answer = refl

  refusal-plain : (refusal : Refusal) → list_all is_plain (refusal_fields refusal) ≡ true
  unfolding is_plain
  refusal-plain why.WrongMode = refl
  refusal-plain refusal = refl

  both-words : (fields others : List Field) → AllFit (fields ++ others) → list_all is_plain fields ≡ true
      → list_all is_plain others ≡ true → AreWords (words_of_fields edition (fields ++ others))
  both-words fields others fits front behind =
      rw (words_append edition fields others) (append-words (words_of_fields edition fields) (words_of_fields edition others)
      (fields-words fields (fit_front fields others fits) front) (fields-words others (fit_behind fields others fits) behind))

  event-words : (event : Event) → AllFit (event_fields event) → AreWords (words_of_fields edition (event_fields event))
  unfolding is_plain
  event-words (events.Did action answer) fits =
      both-words (action_fields action) (answer_fields answer) fits (action-plain action) (answer-plain answer)
  event-words (events.Refused action refusal) fits =
      (refl, both-words (action_fields action) (refusal_fields refusal) fits.1 (action-plain action) (refusal-plain refusal))
  event-words (events.Age p look) fits = fields-words (event_fields (events.Age p look)) fits (rw (look-is_word look) refl)
  event-words (events.Kick cpu) fits = fields-words (event_fields (events.Kick cpu)) fits refl
  event-words (events.Bus p stop) fits = fields-words (event_fields (events.Bus p stop)) fits (rw (stop-is_word stop) refl)

  -- ---- how many

  action-few : (action : Action) → length (words_of_fields edition (action_fields action)) ≤ 9
  action-few (actions.Add e n f kind perm (inits.Words v)) = lit≤ tt
  action-few (actions.Add e n f kind perm (inits.Tcs ossa nssa)) = lit≤ tt
  action-few (actions.Init e None) = lit≤ tt
  action-few (actions.Init e (Some bytes)) = lit≤ tt
  action-few (actions.EldStart f p slot) =
      let words : Words = decimal slot.frame.0 ∷ decimal slot.index ∷ [] in
      omega (arith, length-append (page_words edition p) words, page-two edition p)
  action-few action = lit≤ tt

  answer-few : (answer : Answer) → length (words_of_fields edition (answer_fields answer)) ≤ 4
  answer-few (answers.Moved p v tag) =
      let words : Words = decimal v ∷ digest_word tag ∷ [] in
      omega (arith, length-append (page_words edition p) words, page-two edition p)
  answer-few answers.Plain = lit≤ tt
  answer-few answer = lit≤ tt

  refusal-few : (refusal : Refusal) → length (words_of_fields edition (refusal_fields refusal)) ≤ 4
  refusal-few why.WrongMode = lit≤ tt
  refusal-few refusal = lit≤ tt

  both-few : (fields others : List Field) → length (words_of_fields edition fields) ≤ 9 → length (words_of_fields edition others) ≤ 4
      → length (words_of_fields edition (fields ++ others)) ≤ 13
  both-few fields others few less =
      rw (words_append edition fields others)
      (omega (arith, length-append (words_of_fields edition fields) (words_of_fields edition others), few, less))

  event-few : (event : Event) → length (words_of_fields edition (event_fields event)) ≤ 14
  event-few (events.Did action answer) =
      let few = both-few (action_fields action) (answer_fields answer) (action-few action) (answer-few answer) in omega (arith, few)
  event-few (events.Refused action refusal) =
      let few = both-few (action_fields action) (refusal_fields refusal) (action-few action) (refusal-few refusal) in omega (arith, few)
  event-few (events.Age p look) =
      omega (arith, length-append (page_words edition p) (look_word look ∷ []), page-two edition p)
  event-few (events.Kick cpu) = lit≤ tt
  event-few (events.Bus p stop) =
      omega (arith, length-append (page_words edition p) (stop_word stop ∷ []), page-two edition p)

  -- ---- lines

  words-read : (e : Entry) → IsReadable edition e
      → words_in (spelling edition e) ≡ actor_word e.actor ∷ words_of_fields edition (event_fields e.event)
  unfolding words_in spelling
  words-read e readable =
      let words = actor_word e.actor ∷ words_of_fields edition (event_fields e.event) in
      let split : slice_split (λ b. eqb b 32) (join_with_byte 32 words) ≡ words =
      split-join words (actor-is_word e.actor readable.actor, event-words e.event readable.event) in
      ap (take 16) split ∙ take_all 16 words (omega (arith, event-few e.event))

  -- what is printed of a readable entry is read again as it
  pub line_read : (e : Entry) (line : List ℕ) → IsReadable edition e → line ≡ spelling edition e → entry_of edition (words_in line) ≡ Some e
  line_read e line readable same = ap (λ (l : List ℕ). entry_of edition (words_in l)) same ∙ ap (entry_of edition) (words-read e readable)
      ∙ entry-read edition e readable

  -- two readable entries with one spelling are one entry
  pub same_entry : (e f : Entry) → IsReadable edition e → IsReadable edition f → spelling edition e ≡ spelling edition f → e ≡ f
  same_entry e f own other same =
      same_Some e f (sym (line_read e (spelling edition e) own refl) ∙ line_read f (spelling edition e) other same)

  -- a readable entry's line has no line feed
  pub spelling_apart : (e : Entry) → IsReadable edition e → IsApart 10 (spelling edition e)
  unfolding spelling
  spelling_apart e readable =
      join-apart (actor_word e.actor ∷ words_of_fields edition (event_fields e.event))
      (actor-is_word e.actor readable.actor, event-words e.event readable.event)
