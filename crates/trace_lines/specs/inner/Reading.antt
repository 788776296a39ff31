-- Reading a line's words as an entry, in any spelling of its numbers. A word that tells no value is read as one all the same: whether
-- the line is an entry's the reader sees by printing again what it read.
use Rattle.std.specs.Prelude.{ℕ, ◌≡◌, ◌==◌, ◌&&◌, Bool, true, false, if◌then◌else◌, List, [], ◌∷◌, Option, Some, None, drop, map, take}
use Rattle.std.specs.Prelude.{codes, bytes_eq}
use Rattle.std.specs.List.{slice_split}
use denote.Ref.{Bor}
use Rattle.sgx_types.specs.declared.lawful.PageInit.{PageInit}
use Rattle.sgx_types.specs.declared.lawful.PageInit.TheVariants as inits
use Rattle.sgx_types.specs.declared.names.Page.{Page}
use Rattle.sgx_types.specs.declared.names.SlotAt.{SlotAt}
use Rattle.sgx_rules.specs.declared.entries.Entry.{Entry}
use Rattle.sgx_rules.specs.declared.entries.Event.{Event}
use Rattle.sgx_rules.specs.declared.entries.Event.TheVariants as events
use Rattle.sgx_rules.specs.declared.entries.Action.{Action}
use Rattle.sgx_rules.specs.declared.entries.Action.TheVariants as actions
use Rattle.sgx_rules.specs.declared.entries.Answer.{Answer}
use Rattle.sgx_rules.specs.declared.entries.Answer.TheVariants as answers
use Rattle.sgx_rules.specs.declared.entries.BusWhy.{BusWhy}
use Rattle.sgx_rules.specs.declared.entries.BusWhy.TheVariants as stops
use Rattle.sgx_rules.specs.declared.refusals.Refusal.{Refusal}
use Rattle.sgx_rules.specs.declared.refusals.Refusal.TheVariants as why
use Rattle.text_words.specs.Words.{Words}
use Rattle.text_words.specs.Reading.{◌>>=◌}
use Rattle.trace_text.specs.declared.edition.Edition.{Edition}
use Rattle.trace_text.specs.declared.edition.Edition.TheVariants as editions
use Rattle.trace_text.specs.Fields.{Form, plain, cssa, value, hash, version, moved, pf, va, form_of}
use Rattle.trace_text.specs.Readable.{may_make}
use Rattle.trace_lines.specs.inner.WordReading.{actor_of, byte_in, cpu_of, enclave_in, expect_in, frame_in, number_in, page_number_in}
use Rattle.trace_lines.specs.inner.WordReading.{short_in, small_in, tag_in}
use Rattle.trace_lines.specs.declared.names.Row.{Row}
use Rattle.trace_lines.specs.declared.names.Row.TheVariants as rows
use Rattle.trace_lines.specs.inner.Names.{access_in, bare_of, cause_in, fault_in, kind_in, look_in, perm_in, row_of, stop_in}
use Rattle.trace_lines.specs.declared.cursor.Cursor.{Cursor}

-- words where they stand in a line
abbrev pub texts : List (Bor (List ℕ)) → Words
texts words = map (λ word. word.now) words

-- the words that are still to be read
abbrev pub left : Cursor → Words
left cursor = texts cursor.rest.now

-- the words of a line; no entry has more
unfoldable pub words_in : List ℕ → Words
words_in line = take 16 (slice_split (λ b. b == 32) line)

-- ---- a reader takes its words off the front, and gives what they tell and the words behind them

-- where no word is left, an empty one
abbrev pub first : Words → List ℕ
first [] = []
first (w ∷ rest) = w

-- one word
abbrev pub word : {A : Type 0} → (List ℕ → A) → Words → A × Words
word value_in words = (value_in (first words), drop 1 words)

-- no word
abbrev pub give : {A : Type 0} → A → Words → A × Words
give x words = (x, words)

-- what one reader gives, applied to what the next one gives
infixl 10 ◌⊛◌
abbrev pub ◌⊛◌ : {A B : Type 0} → (Words → (A → B) × Words) → (Words → A × Words) → Words → B × Words
(f ⊛ x) words = ((f words).0 (x (f words).1).0, (x (f words).1).1)

abbrev pub page_in : Words → Page × Words
page_in = give (λ e n. record { enclave = e; number = n }) ⊛ word enclave_in ⊛ word page_number_in

abbrev pub slot_in : Words → SlotAt × Words
slot_in = give (λ f i. record { frame = f; index = i }) ⊛ word frame_in ⊛ word short_in

unfoldable pub init_in : Words → PageInit × Words
init_in words =
    if bytes_eq (first words) (codes "tcs") then (give inits.Tcs ⊛ word small_in ⊛ word small_in) (drop 1 words)
    else (give inits.Words ⊛ word number_in) (drop 1 words)

-- ---- instructions

-- what stands behind an instruction's name
unfoldable pub operands_in : Row → Words → Action × Words
operands_in rows.Epa = give actions.Epa ⊛ word frame_in
operands_in rows.Create = give actions.Create ⊛ word enclave_in ⊛ word frame_in ⊛ word number_in ⊛ word number_in
operands_in rows.Add =
    give actions.Add ⊛ word enclave_in ⊛ word small_in ⊛ word frame_in ⊛ word kind_in ⊛ word perm_in ⊛ init_in
operands_in rows.Extend = give actions.Extend ⊛ word frame_in ⊛ word byte_in
operands_in rows.Init = give actions.Init ⊛ word enclave_in ⊛ word expect_in
operands_in rows.Enter = give actions.Enter ⊛ word enclave_in ⊛ word small_in ⊛ word frame_in ⊛ word frame_in
operands_in rows.Resume = give actions.Resume ⊛ word enclave_in ⊛ word small_in ⊛ word frame_in ⊛ word frame_in
operands_in rows.Exit = give actions.Exit
operands_in rows.Aex = give actions.Aex ⊛ word cause_in
operands_in rows.Fill = give actions.Fill ⊛ word small_in ⊛ word frame_in
operands_in rows.Load = give actions.Load ⊛ word number_in
operands_in rows.Store = give actions.Store ⊛ word number_in ⊛ word number_in
operands_in rows.Xadd = give actions.Xadd ⊛ word number_in ⊛ word number_in
operands_in rows.Set = give actions.Set ⊛ word number_in
operands_in rows.Plus = give actions.Plus ⊛ word number_in
operands_in rows.Pf = give actions.Pf ⊛ word access_in ⊛ word number_in
operands_in rows.OutLoad = give actions.OutLoad ⊛ word enclave_in ⊛ word number_in
operands_in rows.OutStore = give actions.OutStore ⊛ word enclave_in ⊛ word number_in ⊛ word number_in
operands_in rows.Block = give actions.Block ⊛ word frame_in
operands_in rows.Track = give actions.Track ⊛ word enclave_in
operands_in rows.EwbStart = give actions.EwbStart ⊛ word frame_in ⊛ slot_in
operands_in rows.Ewb = give actions.Ewb ⊛ word frame_in
operands_in rows.EldStart = give actions.EldStart ⊛ word frame_in ⊛ page_in ⊛ slot_in
operands_in rows.Eld = give actions.Eld ⊛ word frame_in

unfoldable pub action_of : List ℕ → Words → Option (Action × Words)
action_of name words = do
  row ← row_of name
  Some (operands_in row words)

-- ---- answers and refusals

unfoldable pub answer_in : Form → Words → Answer × Words
answer_in plain = give answers.Plain
answer_in cssa = give answers.Cssa ⊛ word small_in
answer_in value = give answers.Value ⊛ word number_in
answer_in hash = give answers.Hash ⊛ word tag_in
answer_in version = give answers.Version ⊛ word number_in
answer_in moved = give answers.Moved ⊛ page_in ⊛ word number_in ⊛ word tag_in
answer_in pf = give answers.Pf ⊛ word fault_in
answer_in va = give answers.Va ⊛ word small_in

-- a refusal that has fields
unfoldable pub fielded_of : List ℕ → Words → Option (Refusal × Words)
fielded_of name words =
    if bytes_eq name (codes "PrevTrk") then Some ((give why.PrevTrk ⊛ word small_in) words)
    else (if bytes_eq name (codes "NotTracked") then Some ((give why.NotTracked ⊛ word number_in ⊛ word small_in) words)
    else (if bytes_eq name (codes "SlotOccupied") then Some ((give why.SlotOccupied ⊛ word number_in) words)
    else (if bytes_eq name (codes "MacFail") then Some ((give why.MacFail ⊛ word tag_in ⊛ word tag_in) words)
    else (if bytes_eq name (codes "BadHeader")
    then Some ((give why.BadHeader ⊛ word number_in ⊛ word number_in ⊛ word number_in) words)
    else (if bytes_eq name (codes "ChildPresent") then Some ((give why.ChildPresent ⊛ word small_in) words)
    else (if bytes_eq name (codes "BadMeasure") then Some ((give why.BadMeasure ⊛ word tag_in) words) else None))))))

unfoldable pub refusal_of : Words → Option (Refusal × Words)
refusal_of words = by_name (bare_of (first words))
  where
    by_name : Option Refusal → Option (Refusal × Words)
    by_name (Some refusal) = Some (refusal, drop 1 words)
    by_name None = fielded_of (first words) (drop 1 words)

-- ---- entries

unfoldable pub refused_of : Words → Option (Event × Words)
refused_of words = do
  action ← action_of (first words) (drop 1 words)
  refusal ← refusal_of action.1
  Some (events.Refused action.0 refusal.0, refusal.1)

unfoldable pub done_of : Edition → List ℕ → Words → Option (Event × Words)
done_of edition name words = do
  action ← action_of name words
  Some ((give (events.Did action.0) ⊛ answer_in (form_of edition action.0)) action.1)

unfoldable pub kick_of : Words → Option (Event × Words)
kick_of words = do
  cpu ← cpu_of (first words)
  Some (events.Kick cpu, drop 1 words)

-- whether an edition has a word for why a page could not be reloaded
abbrev pub knows : Edition → BusWhy → Bool
knows editions.One stops.Slot = false
knows edition stop = true

unfoldable pub bus_of : Edition → Words → Option (Event × Words)
bus_of edition words = by_stop (stop_in (first (page_in words).1))
  where
    by_stop : BusWhy → Option (Event × Words)
    by_stop stop = if knows edition stop then Some (events.Bus (page_in words).0 stop, drop 1 (page_in words).1) else None

unfoldable pub event_of : Edition → Words → Option (Event × Words)
event_of edition words = by_name (first words) (drop 1 words)
  where
    by_name : List ℕ → Words → Option (Event × Words)
    by_name name rest =
        if bytes_eq name (codes "refused") then refused_of rest
        else (if bytes_eq name (codes "age") then Some ((give events.Age ⊛ page_in ⊛ word look_in) rest)
        else (if bytes_eq name (codes "kick") then kick_of rest
        else (if bytes_eq name (codes "bus") then bus_of edition rest else done_of edition name rest)))

-- what a reader of the code gave, and the words that it left
abbrev pub Took : {A : Type 0} → Option A → Words → Option (A × Words) → Type 0
Took None rest read = read ≡ None
Took (Some x) rest read = read ≡ Some (x, rest)

-- no word is left behind an entry
abbrev pub is_none : Words → Bool
is_none [] = true
is_none (w ∷ rest) = false

unfoldable pub entry_of : Edition → Words → Option Entry
entry_of edition words = do
  actor ← actor_of (first words)
  event ← event_of edition (drop 1 words)
  if may_make actor event.0 && is_none event.1 then Some (record { actor = actor; event = event.0 }) else None
