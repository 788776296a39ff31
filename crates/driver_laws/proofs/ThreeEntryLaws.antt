-- What an entry leaves of the three pages that a processor holds at once.
use Rattle.std.proofs.Common.{◌≡◌, ℕ, ◌+◌, ◌-◌, ◌≤◌, ◌==◌, ◌||◌, ◌&&◌, not, Bool, true, false, if◌then◌else◌, zero, suc}
use Rattle.std.proofs.Common.{refl, sym, ◌∙◌, ap, subst, List, [], ◌∷◌, ◌++◌, Option, Some, None, is_some, arith}
use Rattle.std.proofs.Common.{◌⊎◌, inl, inr, ⊎_elim}
use Rattle.std.proofs.lemmas.Bool.{false≢true, or_left, or_right}
use Rattle.std.proofs.lemmas.List.Folds.{list_any-append}
use Rattle.sgx_types.proofs.Pages.{same_page-refl, same_pages}
use Rattle.sgx_rules.specs.declared.entries.Action.{Action}
use Rattle.sgx_rules.specs.declared.entries.Answer.{Answer}
use Rattle.sgx_rules.specs.declared.entries.Cause.{Cause}
use Rattle.sgx_rules.specs.declared.entries.Entry.{Entry}
use Rattle.sgx_rules.specs.declared.entries.Event.{Event}
use Rattle.sgx_rules.specs.declared.entries.Event.TheVariants.{Did, Refused}
use Rattle.sgx_types.specs.declared.names.Cpu.{Cpu}
use Rattle.sgx_types.specs.declared.names.Frame.{Frame}
use Rattle.sgx_types.specs.declared.names.Page.{Page}
use Rattle.sgx_rules.specs.declared.refusals.Refusal.{Refusal}
use Rattle.sgx_types.specs.Pages.{is_own_page, is_va_page, page_at, same_page}
use Rattle.sgx_types.proofs.Truths.{eqb-refl}
use Rattle.sgx_rules.specs.Frames.{Content, content, Free, Holds, IsLoading, IsVa, SecsOf, stands, vas_after, vas_made}
use Rattle.sgx_rules.specs.Processors.{Enters, is_by, Keeps, Leaves, Move, move_by, Stay, stay, stay_after, stay_from}
use Rattle.job_grammar.specs.declared.jobs.Op.{Op}
use Rattle.job_grammar.specs.declared.jobs.PageLine.{PageLine}
use Rattle.job_grammar.specs.Jobs.{JobView, lines_at, tcs_line}
use Rattle.script_rules.specs.Script.{action_of, interrupted_after, is_interrupted, is_reply, leaves_by, saved_frames, saved_after}
use Rattle.driver_rules.specs.Holds.{access_of_stay, front_to, holds, holds_by, is_among, pages_there, up_to}
use Rattle.driver_rules.specs.Needs.{access_page, interrupted_by, interrupted_in, Interruption, interruption, interruption_after}
use Rattle.driver_rules.specs.Needs.{last_save, listed, next_op, next_save}
use Rattle.driver_rules.specs.Places.{is_here, place}
use Rattle.driver_laws.specs.inner.Three.{AreAmong, HoldsThree, IsLaterArray, pages_by, tcs_by, tcs_of, three, three_by}
use Rattle.driver_rules.specs.Turns.{first_away}
use Rattle.driver_laws.proofs.SoundLaws.{entry_of}
use Rattle.sgx_rules.specs.declared.entries.Action.TheVariants as actions
use Rattle.sgx_types.specs.declared.names.Actor.TheVariants as actors
use Rattle.sgx_rules.specs.declared.entries.Cause.TheVariants as causes
use Rattle.job_grammar.specs.declared.jobs.Op.TheVariants as ops
use Rattle.job_grammar.specs.declared.jobs.PageLine.TheVariants as lines

-- ---- lists of pages

among-append : (xs ys : List Page) (g : Page) → is_among (xs ++ ys) g ≡ (is_among xs g || is_among ys g)
among-append xs ys g = list_any-append (λ h. same_page h g) xs ys

pub or_true : (a b : Bool) (X : Type 0) → (a || b) ≡ true → (a ≡ true → X) → (b ≡ true → X) → X
or_true true b X h f k = f refl
or_true false b X h f k = k h

pub all_refl : (pages : List Page) → AreAmong pages pages
all_refl pages g h = h

pub all_append : (xs ys zs : List Page) → AreAmong xs zs → AreAmong ys zs → AreAmong (xs ++ ys) zs
all_append xs ys zs h k g among =
    or_true (is_among xs g) (is_among ys g) (is_among zs g ≡ true) (sym (among-append xs ys g) ∙ among) (h g) (k g)

pub none_among : (zs : List Page) → AreAmong [] zs
none_among zs g h = cc

-- a list with one more in front
pub more_among : (x : Page) (xs ys : List Page) → AreAmong xs ys → AreAmong (x ∷ xs) (x ∷ ys)
more_among x xs ys h g among =
    or_true (same_page x g) (is_among xs g) ((same_page x g || is_among ys g) ≡ true) among (λ k. or_left (same_page x g) (is_among ys g) k)
    (λ k. or_right (same_page x g) (is_among ys g) (h g k))

front_among : (g : Page) (pages : List Page) → AreAmong (front_to g pages) pages
front_among g [] x h = cc
front_among g (y ∷ ys) x h = by_test (same_page y g) h (front_among g ys x)
  where
    by_test : (b : Bool) → is_among (if b then y ∷ [] else y ∷ front_to g ys) x ≡ true
        → (is_among (front_to g ys) x ≡ true → is_among ys x ≡ true) → (same_page y x || is_among ys x) ≡ true
    by_test true k later =
        or_true (same_page y x) false ((same_page y x || is_among ys x) ≡ true) k (λ m. or_left (same_page y x) (is_among ys x) m)
        (λ m. absurd (false≢true m))
    by_test false k later =
        or_true (same_page y x) (is_among (front_to g ys) x) ((same_page y x || is_among ys x) ≡ true) k
        (λ m. or_left (same_page y x) (is_among ys x) m) (λ m. or_right (same_page y x) (is_among ys x) (later m))

-- a page of a list and what stands before it
pub up_to_among : (g : Page) (pages : List Page) → is_among pages g ≡ true → AreAmong (up_to g pages) pages
up_to_among g pages there x h = front_among g pages x (rw there at h)

pub listed_in : (o : Option Page) (xs : List Page) → AreAmong (listed o) (listed o ++ xs)
listed_in None xs g h = cc
listed_in (Some y) xs g h =
    or_true (same_page y g) false ((same_page y g || is_among xs g) ≡ true) h (λ k. or_left (same_page y g) (is_among xs g) k)
    (λ k. absurd (false≢true k))

behind_in : (ys xs : List Page) → AreAmong xs (ys ++ xs)
behind_in ys xs g h = among-append ys xs g ∙ or_right (is_among ys g) (is_among xs g) h

-- the first page that is not here is of the list
pub away_among : (past : List Entry) (pages : List Page) (g : Page) → first_away past pages ≡ Some g → is_among pages g ≡ true
away_among past [] g h = cc
away_among past (x ∷ xs) g h = by_test (is_here (place past x)) h (away_among past xs g)
  where
    by_test : (b : Bool) → (if b then first_away past xs else Some x) ≡ Some g → (first_away past xs ≡ Some g → is_among xs g ≡ true)
        → (same_page x g || is_among xs g) ≡ true
    by_test true k later = or_right (same_page x g) (is_among xs g) (later k)
    by_test false k later =
        let same : x ≡ g = cc in or_left (same_page x g) (is_among xs g) (subst (λ y. same_page x y ≡ true) same (same_page-refl x))

-- ---- the three pages, one entry longer

-- they are by the stay, the interruption, the operation and the count of the TCS page alone
three_same : (j : JobView) (past now : List Entry) (s : Option Stay) (i : Option Interruption) (op : Option Op)
    → ((g : Page) → tcs_by s i op ≡ Some g → saved_frames now g ≡ saved_frames past g) → three_by j now s i op ≡ three_by j past s i op
three_same j past now s i None h = refl
three_same j past now (Some s) i (Some op) h =
    ap (λ n. pages_by j s.seat.enclave s.seat.tcs (n + 1) op) (h (page_at s.seat.enclave s.seat.tcs) refl)
three_same j past now None (Some i) (Some op) h = ap (λ n. pages_by j i.enclave i.tcs n op) (h (page_at i.enclave i.tcs) refl)
three_same j past now None None (Some (ops.Enter e t)) h =
    ap (λ n. page_at e t ∷ listed (next_save e n (tcs_line (lines_at j.enclaves e) t))) (h (page_at e t) refl)
three_same j past now None None (Some (ops.Resume e t)) h =
    ap (λ n. page_at e t ∷ listed (last_save e n (tcs_line (lines_at j.enclaves e) t))) (h (page_at e t) refl)
three_same j past now None None (Some _) h = refl

either_same : {X : Type 0} (b : Bool) (x : X) → (if b then x else x) ≡ x
either_same true x = refl
either_same false x = refl

-- ---- what is held

-- one of these pages, or a version array page that was made, but the first
abbrev pub Held : List Entry → List Page → Page → Type 0
Held past pages g = (is_among pages g ≡ true) ⊎ IsLaterArray past g

abbrev pub AreHeld : List Entry → List Page → List Page → Type 0
AreHeld past pages others = (g : Page) → is_among pages g ≡ true → Held past others g

pub among_held : (past : List Entry) (pages others : List Page) → AreAmong pages others → AreHeld past pages others
among_held past pages others h g among = inl (h g among)

pub none_held : (past : List Entry) (others : List Page) → AreHeld past [] others
none_held past others = among_held past [] others (none_among others)

pub held_append : (past : List Entry) (xs ys others : List Page) → AreHeld past xs others → AreHeld past ys others
    → AreHeld past (xs ++ ys) others
held_append past xs ys others h k g among =
    or_true (is_among xs g) (is_among ys g) (Held past others g) (sym (among-append xs ys g) ∙ among) (h g) (k g)

vas_more : (ev : Event) (n : ℕ) → n ≤ vas_after ev n
vas_more (Did (actions.Epa f) answer) n = omega arith
vas_more _ n = omega arith

-- version array pages that were made stay so
held_on : (past : List Entry) (e : Entry) (pages others now : List Page) → AreAmong others now → AreHeld past pages others
    → AreHeld (e ∷ past) pages now
held_on past e pages others now keeps h g among = ⊎_elim (λ m. inl (keeps g m)) (λ later. inr (record {
  va = later.va;
  later = later.later;
  made = let more = vas_more e.event (vas_made past) in let made = later.made in omega (arith, made, more);
})) (h g among)

array_not_own : (g : Page) → is_va_page g ≡ true → is_own_page g ≡ false
array_not_own g va = by_test (is_va_page g) (g.number == 4294967295) va
  where
    by_test : (b c : Bool) → b ≡ true → (not b && not c) ≡ false
    by_test true c h = refl
    by_test false c h = absurd (false≢true h)

held_three : (j : JobView) (past : List Entry) (p : ℕ) → HoldsThree j past p → AreHeld past (holds j past p) (three j past p)
held_three j past p h g among = by_own (is_own_page g) refl
  where
    by_own : (b : Bool) → is_own_page g ≡ b → Held past (three j past p) g
    by_own true own = inl (h.held g among own)
    by_own false other = h.arrays g among other

pub three_held : (j : JobView) (past : List Entry) (p : ℕ) → AreHeld past (holds j past p) (three j past p)
    → is_interrupted past p ≡ is_some (interruption past p)
    → (is_some (stay past p) ≡ true → interruption past p ≡ None) → HoldsThree j past p
three_held j past p h interrupted apart = record {
  held =
      λ g among own. ⊎_elim (λ m. m) (λ (later : IsLaterArray past g). absurd (false≢true (sym (array_not_own g later.va) ∙ own)))
      (h g among);
  arrays = λ g among other. h g among;
  interrupted = interrupted;
  apart = apart;
}

-- ---- an entry of another actor

pub other_stay : (m : Move) (past : List Entry) (s : Option Stay) → stay_after m false past s ≡ s
other_stay (Enters seat) past s = refl
other_stay Leaves past s = refl
other_stay Keeps past s = refl

-- another actor's entry that leaves the count of the TCS page leaves the three
pub three_others : (j : JobView) (past : List Entry) (e : Entry) (p : ℕ) → is_by p e.actor ≡ false
    → ((g : Page) → tcs_of j past p ≡ Some g → saved_frames (e ∷ past) g ≡ saved_frames past g)
    → HoldsThree j past p → HoldsThree j (e ∷ past) p
three_others j past e p other counted h =
    three_held j (e ∷ past) p
    (subst (λ pages. AreHeld (e ∷ past) pages (three j (e ∷ past) p)) (sym held)
    (held_on past e (holds j past p) (three j past p) (three j (e ∷ past) p)
    (subst (AreAmong (three j past p)) (sym same) (all_refl (three j past p))) (held_three j past p h)))
    (rw other h.interrupted) (λ k. same_break ∙ h.apart (ap is_some (sym stays) ∙ k))
  where
    held : holds j (e ∷ past) p ≡ holds j past p
    held = rw other refl

    next : next_op j (e ∷ past) p ≡ next_op j past p
    next = rw other refl

    stays : stay (e ∷ past) p ≡ stay past p
    stays = rw other (other_stay (move_by e.event) past (stay past p))

    same_break : interruption (e ∷ past) p ≡ interruption past p
    same_break = rw other refl

    same : three j (e ∷ past) p ≡ three j past p
    same = rw (stays, same_break, next) (three_same j past (e ∷ past) (stay past p) (interruption past p) (next_op j past p) counted)

-- ---- an entry of its own

abbrev pub own_past : List Entry → Cpu → Event → List Entry
own_past past c ev = entry_of (actors.Cpu c) ev ∷ past

-- a reply says whether a resumption is still due
reply_step : (b : Bool) (ev : Event) (s : Option Stay) (i : Option Interruption) → b ≡ is_some i → is_reply b ev ≡ true
    → interrupted_after ev b ≡ is_some (interruption_after ev s i)
reply_step b (Did (actions.Enter e t tf sf) answer) s i h k = refl
reply_step b (Did (actions.Resume e t tf sf) answer) s i h k = refl
reply_step b (Did actions.Exit answer) s i h k = refl
reply_step b (Did (actions.Aex causes.Timer) answer) s i h k = refl
reply_step b (Did (actions.Aex causes.End) answer) s i h k = refl
reply_step b (Did (actions.Aex causes.Fault) answer) s i h k = cc
reply_step b (Did (actions.Aex causes.Kick) answer) s i h k = cc
reply_step b _ s i h k = h

-- who is inside has not still to resume
apart_step : (past : List Entry) (ev : Event) (s : Option Stay) (i : Option Interruption) → (is_some s ≡ true → i ≡ None)
    → is_some (stay_after (move_by ev) true past s) ≡ true → interruption_after ev s i ≡ None
apart_step past (Did (actions.Enter e t tf sf) answer) s i h k = refl
apart_step past (Did (actions.Resume e t tf sf) answer) s i h k = refl
apart_step past (Did actions.Exit answer) s i h k = refl
apart_step past (Did (actions.Aex cause) answer) s i h k = cc
apart_step past _ s i h k = h k

own_apart : (j : JobView) (past : List Entry) (c : Cpu) (ev : Event) → HoldsThree j past c.0
    → is_some (stay (own_past past c ev) c.0) ≡ true → interruption (own_past past c ev) c.0 ≡ None
own_apart j past c ev h k =
    rw (eqb-refl c.0) (apart_step past ev (stay past c.0) (interruption past c.0) h.apart
    (subst (λ b. is_some (stay_after (move_by ev) b past (stay past c.0)) ≡ true) (eqb-refl c.0) k))

-- behind a reply it holds nothing
pub own_reply : (j : JobView) (past : List Entry) (c : Cpu) (ev : Event) → HoldsThree j past c.0
    → is_reply (is_interrupted past c.0) ev ≡ true → HoldsThree j (own_past past c ev) c.0
own_reply j past c ev h k =
    three_held j (own_past past c ev) c.0
    (λ g among. absurd (false≢true (subst (λ pages. is_among pages g ≡ true) dropped among)))
    (rw (eqb-refl c.0) (reply_step (is_interrupted past c.0) ev (stay past c.0) (interruption past c.0) h.interrupted k))
    (own_apart j past c ev h)
  where
    dropped : holds j (own_past past c ev) c.0 ≡ []
    dropped = rw (eqb-refl c.0, k) refl

-- else it holds what it held, and what it begins to hold
own_more : (j : JobView) (past : List Entry) (c : Cpu) (ev : Event) → HoldsThree j past c.0 → is_reply (is_interrupted past c.0) ev ≡ false
    → AreAmong (three j past c.0) (three j (own_past past c ev) c.0)
    → AreHeld (own_past past c ev) (holds_by j past c.0 (action_of ev)) (three j (own_past past c ev) c.0)
    → interrupted_after ev (is_interrupted past c.0) ≡ is_some (interruption_after ev (stay past c.0) (interruption past c.0))
    → HoldsThree j (own_past past c ev) c.0
own_more j past c ev h k keeps new broken =
    three_held j (own_past past c ev) c.0
    (subst (λ pages. AreHeld (own_past past c ev) pages (three j (own_past past c ev) c.0)) (sym longer)
    (held_append (own_past past c ev) (holds j past c.0) (holds_by j past c.0 (action_of ev)) (three j (own_past past c ev) c.0)
    (held_on past (entry_of (actors.Cpu c) ev) (holds j past c.0) (three j past c.0) (three j (own_past past c ev) c.0) keeps
    (held_three j past c.0 h)) new))
    (rw (eqb-refl c.0) broken) (own_apart j past c ev h)
  where
    longer : holds j (own_past past c ev) c.0 ≡ holds j past c.0 ++ holds_by j past c.0 (action_of ev)
    longer = rw (eqb-refl c.0, k) refl

own_next : (j : JobView) (past : List Entry) (c : Cpu) (ev : Event) → is_reply (is_interrupted past c.0) ev ≡ false
    → next_op j (own_past past c ev) c.0 ≡ next_op j past c.0
own_next j past c ev k = rw (eqb-refl c.0, k) refl

-- an entry that moves no processor and counts nothing
pub record IsStill (ev : Event) : Type 0 where
  pub moves : move_by ev ≡ Keeps
  pub breaks : (s : Option Stay) (i : Option Interruption) → interruption_after ev s i ≡ i
  pub interrupts : (b : Bool) → interrupted_after ev b ≡ b
  pub counts : (l : Bool) (g : Page) (n : ℕ) → saved_after ev l g n ≡ n

three_still : (j : JobView) (past : List Entry) (c : Cpu) (ev : Event) → IsStill ev → is_reply (is_interrupted past c.0) ev ≡ false
    → three j (own_past past c ev) c.0 ≡ three j past c.0
three_still j past c ev still k =
    rw (stays, breaks, own_next j past c ev k) (three_same j past (own_past past c ev) (stay past c.0) (interruption past c.0)
    (next_op j past c.0) (λ g named. still.counts (leaves_by (actors.Cpu c) past g) g (saved_frames past g)))
  where
    stays : stay (own_past past c ev) c.0 ≡ stay past c.0
    stays = ap (λ m. stay_after m (c.0 == c.0) past (stay past c.0)) still.moves

    breaks : interruption (own_past past c ev) c.0 ≡ interruption past c.0
    breaks = rw (eqb-refl c.0) (still.breaks (stay past c.0) (interruption past c.0))

pub own_still : (j : JobView) (past : List Entry) (c : Cpu) (ev : Event) → IsStill ev → HoldsThree j past c.0
    → is_reply (is_interrupted past c.0) ev ≡ false → AreHeld past (holds_by j past c.0 (action_of ev)) (three j past c.0)
    → HoldsThree j (own_past past c ev) c.0
own_still j past c ev still h k new =
    let same = three_still j past c ev still k in
    own_more j past c ev h k (subst (AreAmong (three j past c.0)) (sym same) (all_refl (three j past c.0)))
    (held_on past (entry_of (actors.Cpu c) ev) (holds_by j past c.0 (action_of ev)) (three j past c.0) (three j (own_past past c ev) c.0)
    (subst (AreAmong (three j past c.0)) (sym same) (all_refl (three j past c.0))) new)
    (still.interrupts (is_interrupted past c.0) ∙ h.interrupted ∙ ap is_some (sym (still.breaks (stay past c.0) (interruption past c.0))))

pub refused_still : (a : Action) (refusal : Refusal) → IsStill (Refused a refusal)
refused_still a refusal = record { moves = refl; breaks = λ s i. refl; interrupts = λ b. refl; counts = λ l g n. refl }

-- ---- exits that no operation asked for

abbrev left : Cause → Answer → Event
left cause answer = Did (actions.Aex cause) answer

-- such an exit leaves the three as they are: the state save page that it uses is then the last one
three_left : (j : JobView) (past : List Entry) (c : Cpu) (cause : Cause) (answer : Answer) (s : Stay) (for_page : Bool)
    → ((o : Option Stay) → interrupted_by cause o ≡ interrupted_in o for_page)
    → is_reply (is_interrupted past c.0) (left cause answer) ≡ false → stay past c.0 ≡ Some s
    → three j (own_past past c (left cause answer)) c.0 ≡ three j past c.0
three_left j past c cause answer s for_page system k inside =
    rw (outside, broken, own_next j past c (left cause answer) k, inside) (by_op (next_op j past c.0))
  where
    broken : interruption (own_past past c (left cause answer)) c.0 ≡ Some
        (record { enclave = s.seat.enclave; tcs = s.seat.tcs; for_page = for_page })
    broken = rw (eqb-refl c.0, system (stay past c.0), inside) refl

    counted : saved_frames (own_past past c (left cause answer)) (page_at s.seat.enclave s.seat.tcs) ≡ saved_frames past
        (page_at s.seat.enclave s.seat.tcs) + 1
    counted = rw (inside, same_page-refl (page_at s.seat.enclave s.seat.tcs)) refl

    outside : stay (own_past past c (left cause answer)) c.0 ≡ None
    outside = rw (eqb-refl c.0) refl

    by_op : (o : Option Op)
        → three_by j (own_past past c (left cause answer)) None (Some
        (record { enclave = s.seat.enclave; tcs = s.seat.tcs; for_page = for_page })) o ≡ three_by j past (Some s) (interruption past c.0) o
    by_op None = refl
    by_op (Some o) = ap (λ n. pages_by j s.seat.enclave s.seat.tcs n o) counted

-- the page of the access is one of the three
pub access_in : (j : JobView) (past : List Entry) (s : Stay) (i : Option Interruption) (o : Option Op)
    → AreAmong (listed (access_page s.seat.enclave o)) (three_by j past (Some s) i o)
access_in j past s i None = none_among []
access_in j past s i (Some o) = λ g k.
    or_right (same_page (page_at s.seat.enclave s.seat.tcs) g) (is_among
    (listed (last_save s.seat.enclave n line) ++ listed (access_page s.seat.enclave (Some o))) g)
    (behind_in (listed (last_save s.seat.enclave n line)) (listed (access_page s.seat.enclave (Some o))) g k)
  where
    n : ℕ
    n = saved_frames past (page_at s.seat.enclave s.seat.tcs) + 1

    line : Option PageLine
    line = tcs_line (lines_at j.enclaves s.seat.enclave) s.seat.tcs

pub own_fault : (j : JobView) (past : List Entry) (c : Cpu) (answer : Answer) (s : Stay) → HoldsThree j past c.0 → stay past c.0 ≡ Some s
    → HoldsThree j (own_past past c (left causes.Fault answer)) c.0
own_fault j past c answer s h inside =
    let same = three_left j past c causes.Fault answer s true (λ o. refl) refl inside in
    own_more j past c (left causes.Fault answer) h refl (subst (AreAmong (three j past c.0)) (sym same) (all_refl (three j past c.0)))
    (among_held (own_past past c (left causes.Fault answer)) (access_of_stay j past c.0 (stay past c.0))
    (three j (own_past past c (left causes.Fault answer)) c.0)
    (subst (AreAmong (access_of_stay j past c.0 (stay past c.0))) (sym same) access)) broken
  where
    access : AreAmong (access_of_stay j past c.0 (stay past c.0)) (three j past c.0)
    access =
        subst (λ x. AreAmong (access_of_stay j past c.0 x) (three_by j past x (interruption past c.0) (next_op j past c.0))) (sym inside)
        (access_in j past s (interruption past c.0) (next_op j past c.0))

    broken : true ≡ is_some (interrupted_in (stay past c.0) true)
    broken = rw inside refl

pub own_kick : (j : JobView) (past : List Entry) (c : Cpu) (answer : Answer) (s : Stay) → HoldsThree j past c.0 → stay past c.0 ≡ Some s
    → HoldsThree j (own_past past c (left causes.Kick answer)) c.0
own_kick j past c answer s h inside =
    let same = three_left j past c causes.Kick answer s false (λ o. refl) refl inside in
    own_more j past c (left causes.Kick answer) h refl (subst (AreAmong (three j past c.0)) (sym same) (all_refl (three j past c.0)))
    (none_held (own_past past c (left causes.Kick answer)) (three j (own_past past c (left causes.Kick answer)) c.0)) broken
  where
    broken : true ≡ is_some (interrupted_in (stay past c.0) false)
    broken = rw inside refl

-- at the end of its script it holds nothing
none_at_end : (j : JobView) (past : List Entry) (s : Option Stay) (i : Option Interruption) (op : Option Op) → op ≡ None
    → three_by j past s i op ≡ []
none_at_end j past s i op is = rw is refl

pub own_end : (j : JobView) (past : List Entry) (c : Cpu) (answer : Answer) → HoldsThree j past c.0 → next_op j past c.0 ≡ None
    → HoldsThree j (own_past past c (left causes.End answer)) c.0
own_end j past c answer h done =
    own_more j past c (left causes.End answer) h refl
    (λ g among. absurd (false≢true
    (subst (λ pages. is_among pages g ≡ true) (none_at_end j past (stay past c.0) (interruption past c.0)
    (next_op j past c.0) done) among)))
    (none_held (own_past past c (left causes.End answer)) (three j (own_past past c (left causes.End answer)) c.0)) refl

-- ---- resumptions

pub page_in_among : (content : Content) (g : Page) (zs : List Page) → stands content g ≡ true → is_among zs g ≡ true
    → AreAmong (pages_there content) zs
page_in_among (Holds page kind perm) g zs held there x k =
    or_true (same_page page x) false (is_among zs x ≡ true) k
    (λ m. subst (λ y. is_among zs y ≡ true) (sym (same_pages page g held) ∙ same_pages page x m) there) (λ m. absurd (false≢true m))
page_in_among Free g zs held there x k = absurd (false≢true k)
page_in_among (IsLoading page) g zs held there x k = absurd (false≢true k)
page_in_among (IsVa number) g zs held there x k = absurd (false≢true k)
page_in_among (SecsOf enclave) g zs held there x k = absurd (false≢true k)

pages_less : (j : JobView) (e t n : ℕ) (o : Op) → AreAmong (pages_by j e t n o) (pages_by j e t (n - 1 + 1) o)
pages_less j e t n o = by_count n (tcs_line (lines_at j.enclaves e) t)
  where
    access : List Page
    access = listed (access_page e (Some o))

    by_count : (m : ℕ) (line : Option PageLine)
        → AreAmong (page_at e t ∷ listed (last_save e m line) ++ access) (page_at e t ∷ listed (last_save e (m - 1 + 1) line) ++ access)
    by_count m None = all_refl (page_at e t ∷ access)
    by_count m (Some (lines.Reg first count perm value plain)) = all_refl (page_at e t ∷ access)
    by_count zero (Some (lines.Tcs page ossa nssa plain)) =
        more_among (page_at e t) access (listed (last_save e (0 - 1 + 1) (Some (lines.Tcs page ossa nssa plain))) ++ access)
        (behind_in (listed (last_save e (0 - 1 + 1) (Some (lines.Tcs page ossa nssa plain)))) access)
    by_count (suc m) (Some (lines.Tcs page ossa nssa plain)) =
        let same : suc m - 1 + 1 ≡ suc m = omega arith in
        subst (λ k. AreAmong (page_at e t ∷ listed (last_save e (suc m) (Some (lines.Tcs page ossa nssa plain))) ++ access)
        (page_at e t ∷ listed (last_save e k (Some (lines.Tcs page ossa nssa plain))) ++ access)) (sym same)
        (all_refl (page_at e t ∷ listed (last_save e (suc m) (Some (lines.Tcs page ossa nssa plain))) ++ access))

abbrev resumed : Interruption → Frame → Frame → Answer → Event
resumed i tf sf answer = Did (actions.Resume i.enclave i.tcs tf sf) answer

pub own_resume : (j : JobView) (past : List Entry) (c : Cpu) (i : Interruption) (tf sf : Frame) (answer : Answer) (op : Op)
    → HoldsThree j past c.0 → stay past c.0 ≡ None → interruption past c.0 ≡ Some i → next_op j past c.0 ≡ Some op
    → AreAmong (pages_there (content past sf.0)) (three j past c.0) → HoldsThree j (own_past past c (resumed i tf sf answer)) c.0
own_resume j past c i tf sf answer op h outside broken next used =
    own_more j past c (resumed i tf sf answer) h quiet longer
    (among_held (own_past past c (resumed i tf sf answer)) (page_at i.enclave i.tcs ∷ pages_there (content past sf.0))
    (three j (own_past past c (resumed i tf sf answer)) c.0) (λ g among. longer g (new g among))) refl
  where
    quiet : is_reply (is_interrupted past c.0) (resumed i tf sf answer) ≡ false
    quiet = ap not (h.interrupted ∙ ap is_some broken)

    now : three j past c.0 ≡ pages_by j i.enclave i.tcs (saved_frames past (page_at i.enclave i.tcs)) op
    now = rw (outside, broken, next) refl

    tcs_in : is_among (three j past c.0) (page_at i.enclave i.tcs) ≡ true
    tcs_in =
        subst (λ pages. is_among pages (page_at i.enclave i.tcs) ≡ true) (sym now)
        (or_left (same_page (page_at i.enclave i.tcs) (page_at i.enclave i.tcs)) _ (same_page-refl (page_at i.enclave i.tcs)))

    new : AreAmong (page_at i.enclave i.tcs ∷ pages_there (content past sf.0)) (three j past c.0)
    new g among =
        or_true (same_page (page_at i.enclave i.tcs) g) (is_among (pages_there (content past sf.0)) g)
        (is_among (three j past c.0) g ≡ true) among
        (λ k. subst (λ y. is_among (three j past c.0) y ≡ true) (same_pages (page_at i.enclave i.tcs) g k) tcs_in) (used g)

    counted : saved_frames (own_past past c (resumed i tf sf answer)) (page_at i.enclave i.tcs)
        ≡ saved_frames past (page_at i.enclave i.tcs) - 1
    counted = rw (same_page-refl (page_at i.enclave i.tcs)) refl

    inside : stay (own_past past c (resumed i tf sf answer)) c.0 ≡ Some
        (stay_from past (record { enclave = i.enclave; tcs = i.tcs; tcs_frame = tf.0; ssa_frame = sf.0 }))
    inside = rw (eqb-refl c.0) refl

    behind : three j (own_past past c (resumed i tf sf answer)) c.0 ≡ pages_by j i.enclave i.tcs
        (saved_frames past (page_at i.enclave i.tcs) - 1 + 1) op
    behind = rw (inside, own_next j past c (resumed i tf sf answer) quiet, next) (ap (λ n. pages_by j i.enclave i.tcs (n + 1) op) counted)

    longer : AreAmong (three j past c.0) (three j (own_past past c (resumed i tf sf answer)) c.0)
    longer g among =
        subst (λ pages. is_among pages g ≡ true) (sym behind)
        (pages_less j i.enclave i.tcs (saved_frames past (page_at i.enclave i.tcs)) op g
        (subst (λ pages. is_among pages g ≡ true) now among))
