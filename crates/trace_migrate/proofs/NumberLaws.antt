-- Entries whose version array pages are numbered, one after another, and that they are readable in the second edition.
use Rattle.std.proofs.Common.{◌≡◌, ℕ, suc, ◌+◌, ◌<◌, ◌≤◌, ◌^◌, true, List, [], ◌∷◌, ◌++◌, length, take, drop, reverse, set, get_or}
use Rattle.std.proofs.Common.{refl, sym, ap, ◌∙◌, arith}
use Rattle.std.proofs.Common.{subst}
use Rattle.std.proofs.Common.{append_assoc}
use Rattle.std.proofs.Math.Seq.{set-append_seam}
use Rattle.std.proofs.lemmas.List.{drop_more, length-reverse, length-take, reverse-append}
use Rattle.sgx_rules.specs.declared.entries.Action.{Action}
use Rattle.sgx_rules.specs.declared.entries.Action.TheVariants as actions
use Rattle.sgx_rules.specs.declared.entries.Answer.{Answer}
use Rattle.sgx_rules.specs.declared.entries.Answer.TheVariants as answers
use Rattle.sgx_rules.specs.declared.entries.BusWhy.{BusWhy}
use Rattle.sgx_rules.specs.declared.entries.BusWhy.TheVariants as stops
use Rattle.sgx_rules.specs.declared.entries.Entry.{Entry}
use Rattle.sgx_rules.specs.declared.entries.Event.{Event}
use Rattle.sgx_rules.specs.declared.entries.Event.TheVariants as events
use Rattle.sgx_rules.specs.Frames.{vas_after, vas_made}
use Rattle.sgx_types.specs.declared.names.Actor.{Actor}
use Rattle.sgx_types.specs.declared.names.Actor.TheVariants as actors
use Rattle.trace_text.specs.declared.edition.Edition.TheVariants as editions
use Rattle.trace_text.specs.Fields.{AllFit, answer_form, event_fields, form_of}
use Rattle.trace_text.specs.Readable.{AreReadable, IsKnown, IsReadable, IsTold, may_make}
use Rattle.trace_text.proofs.EntryLaws.{newest_more}
use Rattle.trace_migrate.specs.Migrated.{numbered_anew, numbered_event}

-- ---- how many pages are made

pub after_few : (event : Event) (made : ℕ) → vas_after event made ≤ made + 1
after_few (events.Did (actions.Epa f) answer) made = omega arith
after_few event made = omega arith

made_few : (past : List Entry) → vas_made past ≤ length past
made_few [] = omega arith
made_few (e ∷ past) = omega (arith, after_few e.event (vas_made past), made_few past)

-- ---- readable entries

own-did : (actor : Actor) (action : Action) (answer : Answer) → may_make actor (events.Did action answer) ≡ true
own-did actors.Builder action answer = refl
own-did (actors.Cpu p) action answer = refl
own-did actors.Reclaimer action answer = refl

known-more : (stop : BusWhy) → IsKnown editions.One stop → IsKnown editions.Two stop
known-more stops.Slot known = refl
known-more stop known = tt

readable-event : (actor : Actor) (event : Event) (made : ℕ) → made < 2 ^ 32
    → IsReadable editions.One (record { actor = actor; event = event })
    → IsReadable editions.Two (record { actor = actor; event = numbered_event made event })
readable-event actor (events.Did (actions.Epa f) answer) made few r = record {
  actor = r.actor;
  event = (tt, (r.event.1.0, (few, tt)));
  told = refl;
  own = own-did actor (actions.Epa f) (answers.Va made);
}
readable-event actor (events.Did actions.Exit answer) made few r =
    record { actor = r.actor; event = r.event; told = r.told; own = r.own }
readable-event actor (events.Did action answer) made few r =
    record { actor = r.actor; event = r.event; told = r.told; own = r.own }
readable-event actor (events.Bus page stop) made few r =
    record { actor = r.actor; event = r.event; told = known-more stop r.told; own = r.own }
readable-event actor event made few r = record { actor = r.actor; event = r.event; told = tt; own = r.own }

readable-past : (past : List Entry) → AreReadable editions.One past → length past ≤ 2 ^ 32 → AreReadable editions.Two (numbered_anew past)
readable-past [] all few = tt
readable-past (e ∷ past) all few = (
  readable-event e.actor e.event (vas_made past) (omega (arith, made_few past, few)) all.0,
  readable-past past all.1 (omega (arith, few)),
)

-- ---- entries that stand oldest first

numbered-length : (past : List Entry) → length (numbered_anew past) ≡ length past
numbered-length [] = refl
numbered-length (e ∷ past) = ap suc (numbered-length past)

all-append : (entries others : List Entry) → AreReadable editions.Two entries → AreReadable editions.Two others
    → AreReadable editions.Two (entries ++ others)
all-append [] others all rest = rest
all-append (e ∷ entries) others all rest = (all.0, all-append entries others all.1 rest)

all-reverse : (entries : List Entry) → AreReadable editions.Two entries → AreReadable editions.Two (reverse entries)
all-reverse [] all = tt
all-reverse (e ∷ entries) all =
    subst (AreReadable editions.Two) (sym (reverse-append (e ∷ []) entries))
    (all-append (reverse entries) (e ∷ []) (all-reverse entries all.1) (all.0, tt))

one-append : (entries others : List Entry) → AreReadable editions.One entries → AreReadable editions.One others
    → AreReadable editions.One (entries ++ others)
one-append [] others all rest = rest
one-append (e ∷ entries) others all rest = (all.0, one-append entries others all.1 rest)

one-reverse : (entries : List Entry) → AreReadable editions.One entries → AreReadable editions.One (reverse entries)
one-reverse [] all = tt
one-reverse (e ∷ entries) all =
    subst (AreReadable editions.One) (sym (reverse-append (e ∷ []) entries))
    (one-append (reverse entries) (e ∷ []) (one-reverse entries all.1) (all.0, tt))

pub migrated_readable : (entries : List Entry) → AreReadable editions.One entries → length entries ≤ 2 ^ 32
    → AreReadable editions.Two (reverse (numbered_anew (reverse entries)))
migrated_readable entries all few =
    all-reverse (numbered_anew (reverse entries))
    (readable-past (reverse entries) (one-reverse entries all) (omega (arith, length-reverse entries, few)))

abbrev pub along : List Entry → List Entry
along entries = reverse (numbered_anew (reverse entries))

pub along-length : (entries : List Entry) → length (along entries) ≡ length entries
along-length entries =
    length-reverse (numbered_anew (reverse entries)) ∙ numbered-length (reverse entries) ∙ length-reverse entries

abbrev numbered_entry : ℕ → Entry → Entry
numbered_entry made e = record { actor = e.actor; event = numbered_event made e.event }

pub along_more : (entries : List Entry) (i : ℕ) (d : Entry) → i < length entries
    → along (take (i + 1) entries) ≡ along (take i entries) ++ numbered_entry (vas_made (reverse (take i entries)))
    (get_or entries i d) ∷ []
along_more entries i d within =
    ap (λ (past : List Entry). reverse (numbered_anew past)) (newest_more entries i d within)
    ∙ reverse-append (numbered_entry (vas_made (reverse (take i entries))) (get_or entries i d) ∷ [])
    (numbered_anew (reverse (take i entries)))

pub made_more : (entries : List Entry) (i : ℕ) (d : Entry) → i < length entries
    → vas_made (reverse (take (i + 1) entries)) ≡ vas_after (get_or entries i d).event (vas_made (reverse (take i entries)))
made_more entries i d within = ap vas_made (newest_more entries i d within)

-- ---- one entry more

seam-get : (front : List Entry) (x : Entry) (rest : List Entry) (d : Entry) → get_or (front ++ x ∷ rest) (length front) d ≡ x
seam-get [] x rest d = refl
seam-get (f ∷ front) x rest d = seam-get front x rest d

module _ (old now : List Entry) (i made : ℕ) (d : Entry) (within : i < length old) (is : now ≡ along (take i old) ++ drop i old)
    (count : made ≡ vas_made (reverse (take i old))) where
  front-long : length (along (take i old)) ≡ i
  front-long = let long = along-length (take i old) in omega (arith, long, length-take i old, within)

  parted : now ≡ along (take i old) ++ get_or old i d ∷ drop (i + 1) old
  parted = is ∙ ap (λ (tail : List Entry). along (take i old) ++ tail) (drop_more old i d within)

  pub unnumbered : get_or now i d ≡ get_or old i d
  unnumbered =
      ap (λ (es : List Entry). get_or es i d) parted
      ∙ ap (λ (n : ℕ). get_or (along (take i old) ++ get_or old i d ∷ drop (i + 1) old) n d) (sym front-long)
      ∙ seam-get (along (take i old)) (get_or old i d) (drop (i + 1) old) d

  pub numbered_on : (event : Event) → event ≡ numbered_event made (get_or now i d).event
      → set now i (record { actor = (get_or now i d).actor; event = event }) ≡ along (take (i + 1) old) ++ drop (i + 1) old
  numbered_on event told =
      let front = along (take i old) in
      let rest = drop (i + 1) old in
      let new : Entry = record { actor = (get_or now i d).actor; event = event } in
      let event_is : event ≡ numbered_event (vas_made (reverse (take i old))) (get_or old i d).event =
      told ∙ ap (λ (m : ℕ). numbered_event m (get_or now i d).event) count
      ∙ ap (λ (y : Entry). numbered_event (vas_made (reverse (take i old))) y.event) unnumbered in
      let new_is : new ≡ numbered_entry (vas_made (reverse (take i old))) (get_or old i d) =
      λ k. record { actor = (unnumbered k).actor; event = event_is k } in
      ap (λ (es : List Entry). set es i new) parted
      ∙ ap (λ (n : ℕ). set (front ++ get_or old i d ∷ rest) n new) (sym front-long)
      ∙ set-append_seam front (get_or old i d) rest new
      ∙ ap (λ (y : Entry). front ++ y ∷ rest) new_is
      ∙ sym (append_assoc front (numbered_entry (vas_made (reverse (take i old))) (get_or old i d) ∷ []) rest)
      ∙ ap (λ (es : List Entry). es ++ rest) (sym (along_more old i d within))

  pub counted_on : (after : ℕ) → after ≡ vas_after (get_or now i d).event made → after ≡ vas_made (reverse (take (i + 1) old))
  counted_on after told =
      told ∙ ap (λ (m : ℕ). vas_after (get_or now i d).event m) count
      ∙ ap (λ (y : Entry). vas_after y.event (vas_made (reverse (take i old)))) unnumbered
      ∙ sym (made_more old i d within)
