-- The spans behind one entry more, and that the last one lasts where the page is cached.
use Rattle.std.proofs.Common.{◌≡◌, ℕ, suc, ◌+◌, ◌==◌, ◌&&◌, ◌||◌, Bool, true, false, if◌then◌else◌, nat_lt}
use Rattle.std.proofs.Common.{List, [], ◌∷◌, ◌++◌, length, map, drop, Option, Some, None, is_none, refl, sym, ap, ◌∙◌, subst}
use Rattle.std.proofs.lemmas.Bool.{false≢true, eqb-true, eq-eqb}
use Rattle.sgx_types.proofs.Truths.{eqb-swap, neither}
use Rattle.sgx_rules.specs.declared.entries.Entry.{Entry}
use Rattle.sgx_rules.specs.declared.entries.Event.{Event}
use Rattle.sgx_rules.specs.declared.entries.Event.TheVariants.{Did}
use Rattle.sgx_rules.specs.declared.entries.Action.TheVariants.{Enter, Resume, Exit, Aex, Fill}
use Rattle.sgx_types.specs.declared.names.Actor.{Actor}
use Rattle.sgx_types.specs.declared.names.Actor.TheVariants as actors
use Rattle.sgx_rules.specs.Processors.{Stay, Seat, stay, stay_from, stay_after, move_by, is_by, BareTranslation, holds_number, with_filled}
use Rattle.sgx_rules.specs.Processors.{translations, translations_after}
use Rattle.sgx_rules.specs.Processors as rules
use Rattle.sgx_types.specs.declared.names.Page.{Page}
use Rattle.sgx_types.specs.Pages.{page_at}
use Rattle.trace_spans.specs.declared.span_lists.Span.{Span}
use Rattle.trace_spans.specs.declared.span_lists.SpanKey.{SpanKey}
use Rattle.trace_query.specs.declared.processors.Filled.{Filled}
use Rattle.trace_query.specs.declared.steps.Step.{Step}
use Rattle.trace_query.specs.declared.steps.Step.TheVariants.{Turns, Fills}
use Rattle.trace_query.specs.Spans.{is_inside, caches}
use Rattle.trace_query.specs.inner.Insides.{is_in, sees}
use Rattle.trace_spans.specs.inner.SpanLists.{same_span_key, span_key, lasts, end_by, ended, begun, all_ended, ended_of}
use Rattle.trace_query.specs.inner.Sights.{Sight, sight_by, sight, step_of, step_by, is_among, newest, dropped, first_of, filled_in}
use Rattle.trace_query.specs.inner.Sights.{sight_filled, sight_after}
use Rattle.trace_query.specs.inner.Seen.{settled, spans, spans_filled, ended_if, spans_after}

-- ---- the last span

end_last : (o : Option ℕ) (place : ℕ) → is_none (end_by o place) ≡ false
end_last None place = refl
end_last (Some to) place = refl

end_closed : (o : Option ℕ) (place : ℕ) → is_none o ≡ false → end_by o place ≡ o
end_closed None place h = absurd (false≢true (sym h))
end_closed (Some to) place h = refl

lasts_begun : (place : ℕ) (s : List Span) → lasts (begun place s) ≡ true
lasts_begun place [] = refl
lasts_begun place (x ∷ []) = refl
lasts_begun place (x ∷ y ∷ s) = lasts_begun place (y ∷ s)

lasts_ended : (place : ℕ) (s : List Span) → lasts (ended place s) ≡ false
lasts_ended place [] = refl
lasts_ended place (x ∷ []) = end_last x.to place
lasts_ended place (x ∷ y ∷ []) = end_last y.to place
lasts_ended place (x ∷ y ∷ z ∷ s) = lasts_ended place (y ∷ z ∷ s)

ended_closed : (place : ℕ) (s : List Span) → lasts s ≡ false → ended place s ≡ s
ended_closed place [] h = refl
ended_closed place (x ∷ []) h = ap (λ to. record { from = x.from; to = to } ∷ []) (end_closed x.to place h)
ended_closed place (x ∷ y ∷ s) h = ap (λ rest. x ∷ rest) (ended_closed place (y ∷ s) h)

begun_lasts : (b : Bool) (place : ℕ) (s : List Span) → lasts s ≡ b → lasts (if b then s else begun place s) ≡ true
begun_lasts true place s h = h
begun_lasts false place s h = lasts_begun place s

settled_lasts : (b : Bool) (place : ℕ) (s : List Span) → lasts (settled b place s) ≡ b
settled_lasts true place s = begun_lasts (lasts s) place s refl
settled_lasts false place s = lasts_ended place s

settled_same : (b : Bool) (place : ℕ) (s : List Span) → lasts s ≡ b → settled b place s ≡ s
settled_same true place s h = rw h refl
settled_same false place s h = ended_closed place s h

-- ---- what is seen

among_map : (t : List BareTranslation) (n : ℕ) → holds_number t n ≡ is_among (map (λ x. x.number) t) n
among_map [] n = refl
among_map (x ∷ t) n = ap (λ b. (x.number == n) || b) (among_map t n)

seen_by : (o : Option Stay) (t : List BareTranslation) (enclave n : ℕ)
    → (is_inside o enclave && holds_number t n) ≡ sees (sight_by o t) enclave n
seen_by None t enclave n = refl
seen_by (Some here) t enclave n = ap (λ b. (here.seat.enclave == enclave) && b) (among_map t n)

pub caches_seen : (past : List Entry) (p : ℕ) (g : Page) → caches past p g ≡ sees (sight past p) g.enclave g.number
caches_seen past p g = seen_by (stay past p) (translations past p) g.enclave g.number

pub spans_last : (past : List Entry) (q : SpanKey) → lasts (spans past q) ≡ caches past q.cpu (page_at q.enclave q.number)
spans_last [] q = refl
spans_last (e ∷ past) q =
    settled_lasts (caches (e ∷ past) q.cpu (page_at q.enclave q.number)) (length past + 1) (spans past q)

-- ---- a sight behind one entry more

map_snoc : (t : List BareTranslation) (x : BareTranslation)
    → map (λ y. y.number) (t ++ x ∷ []) ≡ map (λ y. y.number) t ++ x.number ∷ []
map_snoc [] x = refl
map_snoc (y ∷ t) x = ap (λ r. y.number ∷ r) (map_snoc t x)

map_count : (t : List BareTranslation) → length (map (λ y. y.number) t) ≡ length t
map_count [] = refl
map_count (y ∷ t) = ap suc (map_count t)

map_rest : (t : List BareTranslation) → map (λ y. y.number) (drop 1 t) ≡ drop 1 (map (λ y. y.number) t)
map_rest [] = refl
map_rest (y ∷ t) = refl

newest_if : (b : Bool) (t : List BareTranslation)
    → map (λ y. y.number) (if b then drop 1 t else t) ≡ (if b then drop 1 (map (λ y. y.number) t) else map (λ y. y.number) t)
newest_if true t = map_rest t
newest_if false t = refl

newest_map : (t : List BareTranslation) → map (λ y. y.number) (rules.newest t) ≡ newest (map (λ y. y.number) t)
newest_map t = rw (map_count t) (newest_if (nat_lt 64 (length t)) t)

fill_if : (b : Bool) (here : Stay) (t : List BareTranslation) (x : BareTranslation)
    → is_among (map (λ y. y.number) t) x.number ≡ b
    → sight_by (Some here) (if b then t else rules.newest (t ++ x ∷ [])) ≡ sight_filled x.number (sight_by (Some here) t)
fill_if true here t x h = rw h refl
fill_if false here t x h =
    rw h (ap (λ ns. record { enclave = Some here.seat.enclave; numbers = ns }) (newest_map (t ++ x ∷ []) ∙ ap newest (map_snoc t x)))

fill_seen : (o : Option Stay) (t : List BareTranslation) (x : BareTranslation)
    → sight_by o (with_filled t x) ≡ sight_filled x.number (sight_by o t)
fill_seen None t x = refl
fill_seen (Some here) t x =
    ap (λ b. sight_by (Some here) (if b then t else rules.newest (t ++ x ∷ []))) (among_map t x.number)
    ∙ fill_if (is_among (map (λ y. y.number) t) x.number) here t x refl

fill_own : (b : Bool) (o : Option Stay) (t : List BareTranslation) (x : BareTranslation)
    → sight_by o (if b then with_filled t x else t) ≡ (if b then sight_filled x.number (sight_by o t) else sight_by o t)
fill_own true o t x = fill_seen o t x
fill_own false o t x = refl

enter_own : (b : Bool) (past : List Entry) (seat : Seat) (o : Option Stay) (t : List BareTranslation)
    → sight_by (if b then Some (stay_from past seat) else o) (if b then [] else t)
    ≡ (if b then record { enclave = Some seat.enclave; numbers = [] } else sight_by o t)
enter_own true past seat o t = refl
enter_own false past seat o t = refl

leave_own : (b : Bool) (o : Option Stay) (t : List BareTranslation)
    → sight_by (if b then None else o) (if b then [] else t)
    ≡ (if b then record { enclave = None; numbers = [] } else sight_by o t)
leave_own true o t = refl
leave_own false o t = refl

own_step : (event : Event) (p q : ℕ) (past : List Entry) (o : Option Stay) (t : List BareTranslation)
    → sight_by (stay_after (move_by event) (p == q) past o) (translations_after event (p == q) t)
    ≡ sight_after (step_of p event) q (sight_by o t)
own_step (Did (Enter enclave tcs tf sf) answer) p q past o t =
    enter_own (p == q) past (record { enclave = enclave; tcs = tcs; tcs_frame = tf.0; ssa_frame = sf.0 }) o t
own_step (Did (Resume enclave tcs tf sf) answer) p q past o t =
    enter_own (p == q) past (record { enclave = enclave; tcs = tcs; tcs_frame = tf.0; ssa_frame = sf.0 }) o t
own_step (Did Exit answer) p q past o t = leave_own (p == q) o t
own_step (Did (Aex cause) answer) p q past o t = leave_own (p == q) o t
own_step (Did (Fill number f) answer) p q past o t = fill_own (p == q) o t (record { number = number; frame = f.0 })
own_step event p q past o t = refl

other_step : (event : Event) (past : List Entry) (o : Option Stay) (t : List BareTranslation)
    → sight_by (stay_after (move_by event) false past o) (translations_after event false t) ≡ sight_by o t
other_step (Did (Enter enclave tcs tf sf) answer) past o t = refl
other_step (Did (Resume enclave tcs tf sf) answer) past o t = refl
other_step (Did Exit answer) past o t = refl
other_step (Did (Aex cause) answer) past o t = refl
other_step (Did (Fill number f) answer) past o t = refl
other_step event past o t = refl

step_seen : (actor : Actor) (event : Event) (q : ℕ) (past : List Entry) (o : Option Stay) (t : List BareTranslation)
    → sight_by (stay_after (move_by event) (is_by q actor) past o) (translations_after event (is_by q actor) t)
    ≡ sight_after (step_by actor event) q (sight_by o t)
step_seen (actors.Cpu p) event q past o t = own_step event p.0 q past o t
step_seen actors.Builder event q past o t = other_step event past o t
step_seen actors.Reclaimer event q past o t = other_step event past o t

pub sight_more : (e : Entry) (past : List Entry) (q : ℕ) → sight (e ∷ past) q ≡ sight_after (step_by e.actor e.event) q (sight past q)
sight_more e past q = step_seen e.actor e.event q past (stay past q) (translations past q)

-- ---- no number is held twice

IsOnce : List ℕ → Type 0
IsOnce [] = Unit {0}
IsOnce (n ∷ ns) = (is_among ns n ≡ false) × IsOnce ns

among_snoc : (ns : List ℕ) (n m : ℕ) → is_among (ns ++ n ∷ []) m ≡ (is_among ns m || (n == m))
among_snoc [] n m = or_false (n == m)
  where
    or_false : (b : Bool) → (b || false) ≡ b
    or_false true = refl
    or_false false = refl
among_snoc (k ∷ ns) n m = ap (λ b. (k == m) || b) (among_snoc ns n m) ∙ or_assoc (k == m) (is_among ns m) (n == m)
  where
    or_assoc : (a b c : Bool) → (a || (b || c)) ≡ ((a || b) || c)
    or_assoc true b c = refl
    or_assoc false b c = refl

once_snoc : (ns : List ℕ) (n : ℕ) → IsOnce ns → is_among ns n ≡ false → IsOnce (ns ++ n ∷ [])
unfolding IsOnce
once_snoc [] n h none = (refl, tt)
once_snoc (m ∷ ns) n h none =
    let parts = neither (m == n) (is_among ns n) none in
    (among_snoc ns n m ∙ rw (h.0, eqb-swap n m, parts.0) refl, once_snoc ns n h.1 parts.1)

once_newest : (b : Bool) (ns : List ℕ) → IsOnce ns → IsOnce (if b then drop 1 ns else ns)
unfolding IsOnce
once_newest true [] h = tt
once_newest true (n ∷ ns) h = h.1
once_newest false ns h = h

once_by : (b : Bool) (enclave n : ℕ) (ns : List ℕ) → is_among ns n ≡ b → IsOnce ns
    → IsOnce (sight_filled n (record { enclave = Some enclave; numbers = ns })).numbers
once_by true enclave n ns e h = rw e h
once_by false enclave n ns e h = rw e (once_newest (nat_lt 64 (length (ns ++ n ∷ []))) (ns ++ n ∷ []) (once_snoc ns n h e))

once_filled : (o : Option ℕ) (n : ℕ) (ns : List ℕ) → IsOnce ns → IsOnce (sight_filled n (record { enclave = o; numbers = ns })).numbers
once_filled None n ns h = h
once_filled (Some enclave) n ns h = once_by (is_among ns n) enclave n ns refl h

once_if : (b : Bool) (s r : Sight) → IsOnce s.numbers → IsOnce r.numbers → IsOnce (if b then s else r).numbers
once_if true s r h k = h
once_if false s r h k = k

once_after : (step : Option Step) (q : ℕ) (s : Sight) → IsOnce s.numbers → IsOnce (sight_after step q s).numbers
unfolding IsOnce
once_after None q s h = h
once_after (Some (Turns p to)) q s h = once_if (p == q) (record { enclave = to; numbers = [] }) s tt h
once_after (Some (Fills p n)) q s h = once_if (p == q) (sight_filled n s) s (once_filled s.enclave n s.numbers h) h

held_once : (past : List Entry) (p : ℕ) → IsOnce (sight past p).numbers
unfolding IsOnce
held_once [] p = tt
held_once (e ∷ past) p =
    let Once : Sight → Type 0 = λ s. IsOnce s.numbers in
    subst Once (sym (sight_more e past p)) (once_after (step_by e.actor e.event) p (sight past p) (held_once past p))

-- ---- spans behind a step

and_false : (b : Bool) → (b && false) ≡ false
and_false true = refl
and_false false = refl

-- a step of another processor
other_ended : (place p enclave : ℕ) (ns : List ℕ) (q : SpanKey) (l : List Span) → (p == q.cpu) ≡ false
    → all_ended place p enclave ns q l ≡ l
other_ended place p enclave [] q l h = refl
other_ended place p enclave (n ∷ ns) q l h = rw h (other_ended place p enclave ns q l h)

still_among : (a b c : Bool) → (a && b) ≡ false → (a && (b || c)) ≡ true → (a && c) ≡ true
still_among true true c h k = absurd (false≢true (sym h))
still_among true false c h k = k
still_among false b c h k = k

all_ended_if : (b : Bool) (place p enclave n : ℕ) (ns : List ℕ) (q : SpanKey) (l : List Span)
    → ((m : List Span) → (lasts m ≡ true → ((enclave == q.enclave) && is_among ns q.number) ≡ true)
    → all_ended place p enclave ns q m ≡ ended place m)
    → ((enclave == q.enclave) && (n == q.number)) ≡ b
    → (lasts l ≡ true → ((enclave == q.enclave) && ((n == q.number) || is_among ns q.number)) ≡ true)
    → all_ended place p enclave ns q (if b then ended place l else l) ≡ ended place l
all_ended_if true place p enclave n ns q l go here h =
    go (ended place l) (λ last. absurd (false≢true (sym (lasts_ended place l) ∙ last)))
    ∙ ended_closed place (ended place l) (lasts_ended place l)
all_ended_if false place p enclave n ns q l go here h =
    go l (λ last. still_among (enclave == q.enclave) (n == q.number) (is_among ns q.number) here (h last))

all_here : (place p enclave : ℕ) (ns : List ℕ) (q : SpanKey) (l : List Span) → (p == q.cpu) ≡ true
    → (lasts l ≡ true → ((enclave == q.enclave) && is_among ns q.number) ≡ true) → all_ended place p enclave ns q l ≡ ended place l
all_here place p enclave [] q l own h = by_test (lasts l) refl
  where
    by_test : (b : Bool) → lasts l ≡ b → l ≡ ended place l
    by_test true e = absurd (false≢true (sym (and_false (enclave == q.enclave)) ∙ h e))
    by_test false e = sym (ended_closed place l e)
all_here place p enclave (n ∷ ns) q l own h =
    rw own
    (all_ended_if ((enclave == q.enclave) && (n == q.number)) place p enclave n ns q l
    (λ m k. all_here place p enclave ns q m own k) refl h)

turned_here : (o to : Option ℕ) (place p : ℕ) (ns : List ℕ) (q : SpanKey) (l : List Span) → (p == q.cpu) ≡ true
    → lasts l ≡ sees (record { enclave = o; numbers = ns }) q.enclave q.number
    → ended_of o place p ns q l ≡ settled (sees (record { enclave = to; numbers = [] }) q.enclave q.number) place l
turned_here None to place p ns q l own h = rw (and_false (is_in to q.enclave)) (sym (ended_closed place l h))
turned_here (Some enclave) to place p ns q l own h =
    rw (and_false (is_in to q.enclave)) (all_here place p enclave ns q l own (λ last. sym h ∙ last))

turned_else : (o : Option ℕ) (place p : ℕ) (ns : List ℕ) (q : SpanKey) (l : List Span) → (p == q.cpu) ≡ false
    → ended_of o place p ns q l ≡ l
turned_else None place p ns q l h = refl
turned_else (Some enclave) place p ns q l h = other_ended place p enclave ns q l h

-- a page of another enclave, or of another number than those that come and go, stays as it is
fill_short : (y : Bool) (place n m : ℕ) (ns : List ℕ) (l : List Span) → (n == m) ≡ y → is_among ns n ≡ false → lasts l ≡ is_among ns m
    → (if y then begun place l else l) ≡ settled (is_among (ns ++ n ∷ []) m) place l
fill_short true place n m ns l e new h =
    let none : is_among ns m ≡ false = ap (is_among ns) (sym (eqb-true n m e)) ∙ new in
    rw (among_snoc ns n m, none, e, h, none) refl
fill_short false place n m ns l e new h =
    let same : is_among (ns ++ n ∷ []) m ≡ is_among ns m = among_snoc ns n m ∙ rw e (or_none (is_among ns m)) in
    sym (settled_same (is_among (ns ++ n ∷ []) m) place l (h ∙ sym same))
  where
    or_none : (b : Bool) → (b || false) ≡ b
    or_none true = refl
    or_none false = refl

fill_long : (y z : Bool) (place n k m : ℕ) (ns : List ℕ) (l : List Span) → (n == m) ≡ y → (k == m) ≡ z
    → ((k == n) || is_among ns n) ≡ false → is_among ns k ≡ false → lasts l ≡ ((k == m) || is_among ns m)
    → (if z then ended place (if y then begun place l else l) else (if y then begun place l else l))
    ≡ settled (is_among (ns ++ n ∷ []) m) place l
fill_long true true place n k m ns l e f new once h =
    let is : k ≡ n = eqb-true k m f ∙ sym (eqb-true n m e) in
    absurd (false≢true (sym (neither (k == n) (is_among ns n) new).0 ∙ eq-eqb k n is))
fill_long true false place n k m ns l e f new once h =
    let none : is_among ns m ≡ false =
    ap (is_among ns) (sym (eqb-true n m e)) ∙ (neither (k == n) (is_among ns n) new).1 in
    rw (among_snoc ns n m, none, e, h, f, none) refl
fill_long false true place n k m ns l e f new once h =
    let none : is_among ns m ≡ false = ap (is_among ns) (sym (eqb-true k m f)) ∙ once in
    rw (among_snoc ns n m, none, e) refl
fill_long false false place n k m ns l e f new once h =
    let same : is_among (ns ++ n ∷ []) m ≡ is_among ns m = among_snoc ns n m ∙ rw e (or_none (is_among ns m)) in
    let held : lasts l ≡ is_among ns m = h ∙ rw f refl in
    sym (settled_same (is_among (ns ++ n ∷ []) m) place l (held ∙ sym same))
  where
    or_none : (b : Bool) → (b || false) ≡ b
    or_none true = refl
    or_none false = refl

-- the span of a number that goes, if one does
end_it : Option ℕ → ℕ → ℕ → List Span → List Span
end_it None place m l = l
end_it (Some k) place m l = if k == m then ended place l else l

fill_by : (b : Bool) (place n m : ℕ) (ns : List ℕ) (l : List Span) → nat_lt 64 (length (ns ++ n ∷ [])) ≡ b → is_among ns n ≡ false
    → IsOnce ns → lasts l ≡ is_among ns m
    → end_it (if b then first_of (ns ++ n ∷ []) else None) place m (if n == m then begun place l else l)
    ≡ settled (is_among (if b then drop 1 (ns ++ n ∷ []) else ns ++ n ∷ []) m) place l
unfolding end_it IsOnce
fill_by false place n m ns l long new once h = fill_short (n == m) place n m ns l refl new h
fill_by true place n m [] l long new once h = absurd (false≢true long)
fill_by true place n m (k ∷ ns) l long new once h = fill_long (n == m) (k == m) place n k m ns l refl refl new once.0 h

-- of the keys only the numbers are left
own_ended : (o : Option ℕ) (place p enclave : ℕ) (q : SpanKey) (l : List Span) → (p == q.cpu) ≡ true → (enclave == q.enclave) ≡ true
    → ended_if o place p enclave q l ≡ end_it o place q.number l
unfolding end_it
own_ended None place p enclave q l own here = refl
own_ended (Some k) place p enclave q l own here = rw (own, here) refl

cpu_ended : (o : Option ℕ) (place p enclave : ℕ) (q : SpanKey) (l : List Span) → (p == q.cpu) ≡ false
    → ended_if o place p enclave q l ≡ l
cpu_ended None place p enclave q l other = refl
cpu_ended (Some k) place p enclave q l other = rw other refl

enclave_ended : (o : Option ℕ) (place p enclave : ℕ) (q : SpanKey) (l : List Span) → (p == q.cpu) ≡ true
    → (enclave == q.enclave) ≡ false → ended_if o place p enclave q l ≡ l
enclave_ended None place p enclave q l own other = refl
enclave_ended (Some k) place p enclave q l own other = rw (own, other) refl

opened : (x : Bool) (place p enclave n : ℕ) (ns : List ℕ) (q : SpanKey) (l : List Span) → (p == q.cpu) ≡ true
    → (enclave == q.enclave) ≡ x → is_among ns n ≡ false → IsOnce ns → lasts l ≡ ((enclave == q.enclave) && is_among ns q.number)
    → ended_if (dropped (ns ++ n ∷ [])) place p enclave q (if same_span_key (span_key p enclave n) q then begun place l else l)
    ≡ settled ((enclave == q.enclave) && is_among (newest (ns ++ n ∷ [])) q.number) place l
opened true place p enclave n ns q l own here new once h =
    let last : lasts l ≡ is_among ns q.number = h ∙ rw here refl in
    let m = if n == q.number then begun place l else l in
    let key : (if same_span_key (span_key p enclave n) q then begun place l else l) ≡ m = rw (own, here) refl in
    ap (ended_if (dropped (ns ++ n ∷ [])) place p enclave q) key
    ∙ own_ended (dropped (ns ++ n ∷ [])) place p enclave q m own here
    ∙ fill_by (nat_lt 64 (length (ns ++ n ∷ []))) place n q.number ns l refl new once last
    ∙ ap (λ b. settled (b && is_among (newest (ns ++ n ∷ [])) q.number) place l) (sym here)
opened false place p enclave n ns q l own here new once h =
    let last : lasts l ≡ false = h ∙ rw here refl in
    let key : (if same_span_key (span_key p enclave n) q then begun place l else l) ≡ l = rw (own, here) refl in
    ap (ended_if (dropped (ns ++ n ∷ [])) place p enclave q) key
    ∙ enclave_ended (dropped (ns ++ n ∷ [])) place p enclave q l own here
    ∙ sym (ended_closed place l last)
    ∙ ap (λ b. settled (b && is_among (newest (ns ++ n ∷ [])) q.number) place l) (sym here)

filled_by_test : (b : Bool) (place p enclave n : ℕ) (ns : List ℕ) (q : SpanKey) (l : List Span) → (p == q.cpu) ≡ true
    → is_among ns n ≡ b → IsOnce ns → lasts l ≡ ((enclave == q.enclave) && is_among ns q.number)
    → spans_filled (filled_in (Some enclave) ns n) place p n q l
    ≡ settled (sees (sight_filled n (record { enclave = Some enclave; numbers = ns })) q.enclave q.number) place l
filled_by_test true place p enclave n ns q l own e once h =
    rw e (sym (settled_same ((enclave == q.enclave) && is_among ns q.number) place l h))
filled_by_test false place p enclave n ns q l own e once h =
    rw e (opened (enclave == q.enclave) place p enclave n ns q l own refl e once h)

filled_here : (o : Option ℕ) (place p n : ℕ) (ns : List ℕ) (q : SpanKey) (l : List Span) → (p == q.cpu) ≡ true
    → IsOnce ns → lasts l ≡ sees (record { enclave = o; numbers = ns }) q.enclave q.number
    → spans_filled (filled_in o ns n) place p n q l
    ≡ settled (sees (sight_filled n (record { enclave = o; numbers = ns })) q.enclave q.number) place l
filled_here None place p n ns q l own once h = sym (ended_closed place l h)
filled_here (Some enclave) place p n ns q l own once h = filled_by_test (is_among ns n) place p enclave n ns q l own refl once h

filled_else : (o : Option Filled) (place p n : ℕ) (q : SpanKey) (l : List Span) → (p == q.cpu) ≡ false
    → spans_filled o place p n q l ≡ l
filled_else None place p n q l other = refl
filled_else (Some change) place p n q l other =
    let key : (if same_span_key (span_key p change.enclave n) q then begun place l else l) ≡ l = rw other refl in
    ap (ended_if change.dropped place p change.enclave q) key ∙ cpu_ended change.dropped place p change.enclave q l other

-- ---- all steps

Known : (ℕ → Sight) → SpanKey → List Span → Type 0
Known seen q l = lasts l ≡ sees (seen q.cpu) q.enclave q.number

turn_settles : (b : Bool) (p : ℕ) (to : Option ℕ) (place : ℕ) (seen : ℕ → Sight) (q : SpanKey) (l : List Span) → (p == q.cpu) ≡ b
    → Known seen q l
    → ended_of (seen p).enclave place p (seen p).numbers q l
    ≡ settled (sees (if b then record { enclave = to; numbers = [] } else seen q.cpu) q.enclave q.number) place l
unfolding Known
turn_settles true p to place seen q l own h =
    turned_here (seen p).enclave to place p (seen p).numbers q l own
    (h ∙ ap (λ k. sees (seen k) q.enclave q.number) (sym (eqb-true p q.cpu own)))
turn_settles false p to place seen q l other h =
    turned_else (seen p).enclave place p (seen p).numbers q l other
    ∙ sym (settled_same (sees (seen q.cpu) q.enclave q.number) place l h)

fill_settles : (b : Bool) (p n place : ℕ) (seen : ℕ → Sight) (q : SpanKey) (l : List Span) → (p == q.cpu) ≡ b
    → IsOnce (seen p).numbers → Known seen q l
    → spans_filled (filled_in (seen p).enclave (seen p).numbers n) place p n q l
    ≡ settled (sees (if b then sight_filled n (seen q.cpu) else seen q.cpu) q.enclave q.number) place l
unfolding Known
fill_settles true p n place seen q l own once h =
    let is : p ≡ q.cpu = eqb-true p q.cpu own in
    filled_here (seen p).enclave place p n (seen p).numbers q l own once
    (h ∙ ap (λ k. sees (seen k) q.enclave q.number) (sym is))
    ∙ ap (λ k. settled (sees (sight_filled n (seen k)) q.enclave q.number) place l) is
fill_settles false p n place seen q l other once h =
    filled_else (filled_in (seen p).enclave (seen p).numbers n) place p n q l other
    ∙ sym (settled_same (sees (seen q.cpu) q.enclave q.number) place l h)

step_settles : (step : Option Step) (place : ℕ) (seen : ℕ → Sight) (q : SpanKey) (l : List Span)
    → ((p : ℕ) → IsOnce (seen p).numbers) → Known seen q l
    → spans_after step place seen q l ≡ settled (sees (sight_after step q.cpu (seen q.cpu)) q.enclave q.number) place l
unfolding Known
step_settles None place seen q l once h = sym (settled_same (sees (seen q.cpu) q.enclave q.number) place l h)
step_settles (Some (Turns p to)) place seen q l once h = turn_settles (p == q.cpu) p to place seen q l refl h
step_settles (Some (Fills p n)) place seen q l once h = fill_settles (p == q.cpu) p n place seen q l refl (once p) h

pub spans_more : (e : Entry) (past : List Entry) (q : SpanKey)
    → spans_after (step_by e.actor e.event) (length past + 1) (sight past) q (spans past q) ≡ spans (e ∷ past) q
unfolding Known
spans_more e past q =
    let g = page_at q.enclave q.number in
    step_settles (step_by e.actor e.event) (length past + 1) (sight past) q (spans past q) (held_once past)
    (spans_last past q ∙ caches_seen past q.cpu g)
    ∙ ap (λ s. settled (sees s q.enclave q.number) (length past + 1) (spans past q)) (sym (sight_more e past q.cpu))
    ∙ ap (λ b. settled b (length past + 1) (spans past q)) (sym (caches_seen (e ∷ past) q.cpu g))
