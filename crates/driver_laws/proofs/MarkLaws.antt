-- The list with its marks, one entry longer.
use Rattle.std.proofs.Common.{◌≡◌, ℕ, ◌+◌, ◌||◌, not, Bool, true, false, if◌then◌else◌, refl, sym, ◌∙◌, ap}
use Rattle.std.proofs.Common.{subst, List, [], ◌∷◌, ◌++◌, drop, map, Some, arith}
use Rattle.std.proofs.lemmas.Bool.{false≢true, not-true}
use Rattle.sgx_types.proofs.Pages.{same_page-refl, same_pages}
use Rattle.sgx_rules.specs.declared.entries.Action.{Action}
use Rattle.sgx_rules.specs.declared.entries.Action.TheVariants.{Add, Eld, Enter, Fill, Load, Resume, Store, Xadd}
use Rattle.sgx_types.specs.declared.names.Actor.{Actor}
use Rattle.sgx_types.specs.declared.names.Actor.TheVariants.{Cpu}
use Rattle.sgx_rules.specs.declared.entries.Answer.{Answer}
use Rattle.sgx_rules.specs.declared.entries.Answer.TheVariants.{Moved}
use Rattle.sgx_rules.specs.declared.entries.Entry.{Entry}
use Rattle.sgx_rules.specs.declared.entries.Event.{Event}
use Rattle.sgx_rules.specs.declared.entries.Event.TheVariants.{Age, Bus, Did, Kick, Refused}
use Rattle.sgx_rules.specs.declared.entries.Look.{Look}
use Rattle.sgx_types.specs.declared.lawful.PageInit.{PageInit}
use Rattle.sgx_types.specs.declared.names.Frame.{Frame}
use Rattle.sgx_types.specs.declared.names.Kind.{Kind}
use Rattle.sgx_types.specs.declared.names.Page.{Page}
use Rattle.sgx_types.specs.declared.names.Perm.{Perm}
use Rattle.sgx_types.specs.Pages.{is_own_page, page_at, same_page}
use Rattle.driver_rules.specs.Ages.{head_of}
use Rattle.driver_laws.specs.inner.Agrees.{Listed, listed_by, marked, touched, turned}
use Rattle.driver_rules.specs.Holds.{is_among}
use Rattle.driver_laws.specs.inner.Kinds.{CanMove}
use Rattle.driver_rules.specs.Places.{active, active_after, is_here, is_young, place, to_tail, uses, young_after}
use Rattle.driver_laws.specs.inner.Sound.{IsSound, once_listed, times}
use Rattle.driver_laws.proofs.MoveLaws.{active-aside, active-eld, active-eld-other, active-held, active-noroom, active-taken}
use Rattle.driver_laws.proofs.MoveLaws.{active-young}
use Rattle.driver_laws.proofs.SoundLaws.{entry_of}
use Rattle.sgx_rules.specs.declared.entries.Look.TheVariants as looks

-- ---- lists

map-append : (f : Page → Listed) (xs ys : List Page) → map f (xs ++ ys) ≡ map f xs ++ map f ys
map-append f [] ys = refl
map-append f (x ∷ xs) ys = ap (λ zs. f x ∷ zs) (map-append f xs ys)

-- what is so of each page of a list
map_same : (f h : Page → Listed) (xs : List Page) → ((g : Page) → is_among xs g ≡ true → f g ≡ h g) → map f xs ≡ map h xs
map_same f h [] each = refl
map_same f h (x ∷ xs) each =
    λ i. each x (first (same_page x x) (same_page-refl x)) i ∷ map_same f h xs (λ g k. each g (later g (same_page x g) k)) i
  where
    first : (b : Bool) → b ≡ true → (b || is_among xs x) ≡ true
    first true k = refl
    first false k = cc

    later : (g : Page) (b : Bool) → is_among xs g ≡ true → (b || is_among xs g) ≡ true
    later g true k = refl
    later g false k = k

map_map : (f : Listed → Listed) (h : Page → Listed) (xs : List Page) → map f (map h xs) ≡ map (λ g. f (h g)) xs
map_map f h [] = refl
map_map f h (x ∷ xs) = ap (λ zs. f (h x) ∷ zs) (map_map f h xs)

-- a page that stands nowhere in a list is none of it
none_of : (xs : List Page) (a g : Page) → times xs a ≡ 0 → is_among xs g ≡ true → same_page a g ≡ false
none_of [] a g h k = cc
none_of (x ∷ xs) a g h k = by_head (same_page x a) refl h (same_page x g) refl k (none_of xs a g)
  where
    by_head : (b : Bool) → same_page x a ≡ b → (if b then 1 else 0) + times xs a ≡ 0 → (c : Bool) → same_page x g ≡ c
        → (c || is_among xs g) ≡ true → (times xs a ≡ 0 → is_among xs g ≡ true → same_page a g ≡ false) → same_page a g ≡ false
    by_head true is e c isc m later = absurd (omega (arith, e))
    by_head false is e true isc m later = by_test (same_page a g) refl
      where
        by_test : (d : Bool) → same_page a g ≡ d → same_page a g ≡ false
        by_test true same =
            absurd (false≢true (sym is ∙ subst (λ y. same_page x y ≡ true) (same_pages x g isc ∙ sym (same_pages a g same))
            (same_page-refl x)))
        by_test false same = same
    by_head false is e false isc m later = later (omega (arith, e)) m

-- ---- marks

-- a mark is the entry's
marked_same : (past : List Entry) (e : Entry) (g : Page) (b : Bool) → is_young (e ∷ past) g ≡ b
    → marked (e ∷ past) g ≡ record { page = g; young = b }
marked_same past e g b is = λ i. record { page = g; young = is i }

-- ---- a page comes

-- a page that is not listed comes to the end, without a mark
longer : (past : List Entry) (e : Entry) (a : Page) → active (e ∷ past) ≡ active past ++ a ∷ []
    → ((g : Page) → is_young (e ∷ past) g ≡ (if same_page a g then false else is_young past g)) → times (active past) a ≡ 0
    → listed_by (e ∷ past) ≡ listed_by past ++ record { page = a; young = false } ∷ []
longer past e a list marks none =
    ap (map (marked (e ∷ past))) list ∙ map-append (marked (e ∷ past)) (active past) (a ∷ [])
    ∙ λ i. map_same (marked (e ∷ past)) (marked past) (active past) (λ g k. marked_same past e g (is_young past g)
    (marks g ∙ ap (λ b. if b then false else is_young past g) (none_of (active past) a g none k))) i
    ++ marked_same past e a false (marks a ∙ ap (λ b. if b then false else is_young past a) (same_page-refl a)) i ∷ []

-- a page that is not here stands nowhere in the list
none_listed : (past : List Entry) (g : Page) → IsSound past → is_here (place past g) ≡ false → times (active past) g ≡ 0
none_listed past g s away = s.list g ∙ rw away (either (is_own_page g))
  where
    zero : ℕ
    zero = 0

    either : (b : Bool) → (if b then zero else 0) ≡ zero
    either true = refl
    either false = refl

-- the mark of a page that is none of the list changes
beside : (past : List Entry) (e : Entry) (a : Page) → is_own_page a ≡ false → IsSound past → active (e ∷ past) ≡ active past
    → ((g : Page) → is_young (e ∷ past) g ≡ (if same_page a g then false else is_young past g)) → listed_by (e ∷ past) ≡ listed_by past
beside past e a other s list marks =
    ap (map (marked (e ∷ past))) list ∙ map_same (marked (e ∷ past)) (marked past) (active past)
    (λ g k. marked_same past e g (is_young past g)
    (marks g ∙ ap (λ b. if b then false else is_young past g) (none_of (active past) a g none k)))
  where
    none : times (active past) a ≡ 0
    none = s.list a ∙ rw other refl

pub listed-add : (past : List Entry) (a : Actor) (e n : ℕ) (f : Frame) (kind : Kind) (perm : Perm) (init : PageInit) (answer : Answer)
    → CanMove past (Did (Add e n f kind perm init) answer) → IsSound past
    → listed_by (entry_of a
    (Did (Add e n f kind perm init) answer) ∷ past) ≡ listed_by past ++ record { page = page_at e n; young = false } ∷ []
listed-add past a e n f kind perm init answer can s =
    longer past (entry_of a (Did (Add e n f kind perm init) answer)) (page_at e n) refl (λ g. refl)
    (none_listed past (page_at e n) s (ap is_here can.1))

-- a TCS or REG page that comes back, and another page
pub listed-eld : (past : List Entry) (a : Actor) (f : Frame) (page : Page) (version : ℕ) (tag : List ℕ) → is_own_page page ≡ true
    → CanMove past (Did (Eld f) (Moved page version tag)) → IsSound past
    → listed_by (entry_of a (Did (Eld f) (Moved page version tag)) ∷ past) ≡ listed_by past ++ record { page = page; young = false } ∷ []
listed-eld past a f page version tag own can s =
    longer past (entry_of a (Did (Eld f) (Moved page version tag))) page (active-eld past a f page version tag own) (λ g. refl)
    (none_listed past page s (ap is_here can.1))

pub listed-eld-other : (past : List Entry) (a : Actor) (f : Frame) (page : Page) (version : ℕ) (tag : List ℕ) → is_own_page page ≡ false
    → IsSound past
    → listed_by (entry_of a (Did (Eld f) (Moved page version tag)) ∷ past) ≡ listed_by past
listed-eld-other past a f page version tag other s =
    beside past (entry_of a (Did (Eld f) (Moved page version tag))) page other s (active-eld-other past a f page version tag other)
    (λ g. refl)

-- ---- a page is looked at

-- the head of the list stands in it once
once_there : (past : List Entry) (a : Page) (xs : List Page) → IsSound past → active past ≡ a ∷ xs → times xs a ≡ 0
once_there past a xs s list =
    by_place (is_own_page a) (is_here (place past a)) (sym (ap (λ pages. times pages a) list) ∙ s.list a)
  where
    by_place : (own b : Bool) → (if same_page a a then 1 else 0) + times xs a ≡ (if own then (if b then 1 else 0) else 0) → times xs a ≡ 0
    by_place own b k = by_here own b (rw (same_page-refl a) at k)
      where
        by_here : (own b : Bool) → 1 + times xs a ≡ (if own then (if b then 1 else 0) else 0) → times xs a ≡ 0
        by_here true true m = omega (arith, m)
        by_here true false m = absurd (omega (arith, m))
        by_here false b m = absurd (omega (arith, m))

-- .. and is a TCS or REG page
pub head_own : (past : List Entry) (a : Page) → IsSound past → head_of (active past) ≡ Some a → is_own_page a ≡ true
head_own past a s head = by_list (active past) refl head
  where
    by_own : (own b : Bool) (n : ℕ) → is_own_page a ≡ own → 1 + n ≡ (if own then (if b then 1 else 0) else 0) → is_own_page a ≡ true
    by_own true b n is k = is
    by_own false b n is k = absurd (omega (arith, k))

    by_list : (pages : List Page) → active past ≡ pages → head_of pages ≡ Some a → is_own_page a ≡ true
    by_list [] is k = cc
    by_list (x ∷ xs) is k =
        let same : x ≡ a = cc in
        let list : active past ≡ a ∷ xs = is ∙ ap (λ y. y ∷ xs) same in
        let count : (if same_page a a then 1 else 0) + times xs a ≡ once_listed a (place past a) =
        sym (ap (λ pages. times pages a) list) ∙ s.list a in
        by_own (is_own_page a) (is_here (place past a)) (times xs a) refl (rw (same_page-refl a) at count)

-- those behind the head keep their marks
rest_same : (past : List Entry) (by : Actor) (a : Page) (look : Look) (xs : List Page) → times xs a ≡ 0
    → map (marked (entry_of by (Age a look) ∷ past)) xs ≡ map (marked past) xs
rest_same past by a look xs none = map_same (marked (entry_of by (Age a look) ∷ past)) (marked past) xs
    (λ g k. marked_same past (entry_of by (Age a look)) g (is_young past g)
    (ap (λ b. if b then false else is_young past g) (none_of xs a g none k)))

-- a page that is taken leaves the list
pub listed-taken : (past : List Entry) (by : Actor) (a : Page) → head_of (active past) ≡ Some a → IsSound past
    → listed_by (entry_of by (Age a looks.Taken) ∷ past) ≡ drop 1 (listed_by past)
listed-taken past by a head s = ap (map (marked (entry_of by (Age a looks.Taken) ∷ past)))
    (active-taken past by a (head_own past a s head)) ∙ by_list (active past) refl head
  where
    by_list : (pages : List Page) → active past ≡ pages → head_of pages ≡ Some a
        → map (marked (entry_of by (Age a looks.Taken) ∷ past)) (drop 1 (active past)) ≡ drop 1 (map (marked past) (active past))
    by_list [] is k = cc
    by_list (x ∷ xs) is k =
        let same : x ≡ a = cc in
        let list : active past ≡ a ∷ xs = is ∙ ap (λ y. y ∷ xs) same in
        rw list (rest_same past by a looks.Taken xs (once_there past a xs s list))

-- .. and another goes to the end without its mark
turned_by : (past : List Entry) (by : Actor) (a : Page) (look : Look) → head_of (active past) ≡ Some a → IsSound past
    → map (marked (entry_of by (Age a look) ∷ past)) (to_tail (active past)) ≡ turned (map (marked past) (active past))
turned_by past by a look head s = by_list (active past) refl head
  where
    by_list : (pages : List Page) → active past ≡ pages → head_of pages ≡ Some a
        → map (marked (entry_of by (Age a look) ∷ past)) (to_tail (active past)) ≡ turned (map (marked past) (active past))
    by_list [] is k = cc
    by_list (x ∷ xs) is k =
        let same : x ≡ a = cc in
        let list : active past ≡ a ∷ xs = is ∙ ap (λ y. y ∷ xs) same in
        rw list (map-append (marked (entry_of by (Age a look) ∷ past)) xs (a ∷ [])
        ∙ λ i. rest_same past by a look xs (once_there past a xs s list) i ++ marked_same past (entry_of by (Age a look)) a false
        (ap (λ b. if b then false else is_young past a) (same_page-refl a)) i ∷ [])

pub listed-young : (past : List Entry) (by : Actor) (a : Page) → head_of (active past) ≡ Some a → IsSound past
    → listed_by (entry_of by (Age a looks.Young) ∷ past) ≡ turned (listed_by past)
listed-young past by a head s =
    ap (map (marked (entry_of by (Age a looks.Young) ∷ past))) (active-young past by a (head_own past a s head))
    ∙ turned_by past by a looks.Young head s

pub listed-held : (past : List Entry) (by : Actor) (a : Page) → head_of (active past) ≡ Some a → IsSound past
    → listed_by (entry_of by (Age a looks.Held) ∷ past) ≡ turned (listed_by past)
listed-held past by a head s =
    ap (map (marked (entry_of by (Age a looks.Held) ∷ past))) (active-held past by a (head_own past a s head))
    ∙ turned_by past by a looks.Held head s

pub listed-noroom : (past : List Entry) (by : Actor) (a : Page) → head_of (active past) ≡ Some a → IsSound past
    → listed_by (entry_of by (Age a looks.NoRoom) ∷ past) ≡ turned (listed_by past)
listed-noroom past by a head s =
    ap (map (marked (entry_of by (Age a looks.NoRoom) ∷ past))) (active-noroom past by a (head_own past a s head))
    ∙ turned_by past by a looks.NoRoom head s

-- a look at a SECS or a version array page leaves the list
pub listed-aside : (past : List Entry) (by : Actor) (a : Page) (look : Look) → is_own_page a ≡ false → IsSound past
    → listed_by (entry_of by (Age a look) ∷ past) ≡ listed_by past
listed-aside past by a look other s = beside past (entry_of by (Age a look)) a other s (active-aside past by a look other) (λ g. refl)

-- ---- a page is used

-- an instruction that adds, writes out and brings back nothing turns no list
abbrev pub is_use : Action → Bool
is_use (Enter enclave tcs tf sf) = true
is_use (Resume enclave tcs tf sf) = true
is_use (Fill number f) = true
is_use (Load off) = true
is_use (Store off value) = true
is_use (Xadd off value) = true
is_use _ = false

-- one that uses a page and no other marks it
pub listed-use : (past : List Entry) (a : Actor) (action : Action) (answer : Answer) (page : Page) → is_use action ≡ true
    → ((g : Page) → uses past a action g ≡ same_page page g)
    → listed_by (entry_of a (Did action answer) ∷ past) ≡ map (touched page) (listed_by past)
listed-use past a action answer page used only = by_action action used only
  where
    each : (x : Action) → active_after (Did x answer) (active past) ≡ active past
        → ((g : Page) → young_after past a (Did x answer) g (is_young past g) ≡ (uses past a x g || is_young past g))
        → ((g : Page) → uses past a x g ≡ same_page page g)
        → listed_by (entry_of a (Did x answer) ∷ past) ≡ map (touched page) (listed_by past)
    each x list marks one = ap (map (marked (entry_of a (Did x answer) ∷ past))) list
        ∙ map_same (marked (entry_of a (Did x answer) ∷ past)) (λ g. touched page (marked past g)) (active past)
        (λ g k. marked_same past (entry_of a (Did x answer)) g (same_page page g || is_young past g)
        (marks g ∙ ap (λ b. b || is_young past g) (one g)))
        ∙ sym (map_map (touched page) (marked past) (active past))

    by_action : (x : Action) → is_use x ≡ true → ((g : Page) → uses past a x g ≡ same_page page g)
        → listed_by (entry_of a (Did x answer) ∷ past) ≡ map (touched page) (listed_by past)
    by_action (Enter enclave tcs tf sf) k one = each (Enter enclave tcs tf sf) refl (λ g. refl) one
    by_action (Resume enclave tcs tf sf) k one = each (Resume enclave tcs tf sf) refl (λ g. refl) one
    by_action (Fill number f) k one = each (Fill number f) refl (λ g. refl) one
    by_action (Load off) k one = each (Load off) refl (λ g. refl) one
    by_action (Store off value) k one = each (Store off value) refl (λ g. refl) one
    by_action (Xadd off value) k one = each (Xadd off value) refl (λ g. refl) one
    by_action _ k one = cc

-- .. and one that uses two marks both
pub listed-uses : (past : List Entry) (a : Actor) (action : Action) (answer : Answer) (page other : Page) → is_use action ≡ true
    → ((g : Page) → uses past a action g ≡ (same_page page g || same_page other g))
    → listed_by (entry_of a (Did action answer) ∷ past) ≡ map (touched page) (map (touched other) (listed_by past))
listed-uses past a action answer page other used only = by_action action used only
  where
    twice : (xs : List Page)
        → map (touched page) (map (touched other) (map (marked past) xs)) ≡ map (λ g. touched page (touched other (marked past g))) xs
    twice [] = refl
    twice (x ∷ xs) = ap (λ zs. touched page (touched other (marked past x)) ∷ zs) (twice xs)

    or_assoc : (x y z : Bool) → ((x || y) || z) ≡ (x || (y || z))
    or_assoc true y z = refl
    or_assoc false y z = refl

    each : (x : Action) → active_after (Did x answer) (active past) ≡ active past
        → ((g : Page) → young_after past a (Did x answer) g (is_young past g) ≡ (uses past a x g || is_young past g))
        → ((g : Page) → uses past a x g ≡ (same_page page g || same_page other g))
        → listed_by (entry_of a (Did x answer) ∷ past) ≡ map (touched page) (map (touched other) (listed_by past))
    each x list marks one = ap (map (marked (entry_of a (Did x answer) ∷ past))) list
        ∙ map_same (marked (entry_of a (Did x answer) ∷ past)) (λ g. touched page (touched other (marked past g))) (active past)
        (λ g k. marked_same past (entry_of a (Did x answer)) g (same_page page g || (same_page other g || is_young past g))
        (marks g ∙ ap (λ b. b || is_young past g) (one g) ∙ or_assoc (same_page page g) (same_page other g) (is_young past g)))
        ∙ sym (twice (active past))

    by_action : (x : Action) → is_use x ≡ true → ((g : Page) → uses past a x g ≡ (same_page page g || same_page other g))
        → listed_by (entry_of a (Did x answer) ∷ past) ≡ map (touched page) (map (touched other) (listed_by past))
    by_action (Enter enclave tcs tf sf) k one = each (Enter enclave tcs tf sf) refl (λ g. refl) one
    by_action (Resume enclave tcs tf sf) k one = each (Resume enclave tcs tf sf) refl (λ g. refl) one
    by_action (Fill number f) k one = each (Fill number f) refl (λ g. refl) one
    by_action (Load off) k one = each (Load off) refl (λ g. refl) one
    by_action (Store off value) k one = each (Store off value) refl (λ g. refl) one
    by_action (Xadd off value) k one = each (Xadd off value) refl (λ g. refl) one
    by_action _ k one = cc

-- ---- every other entry

-- an entry that turns no list and sets and clears no mark
abbrev pub is_markless : Event → Bool
is_markless (Did (Add enclave number f kind perm init) answer) = false
is_markless (Did (Eld f) answer) = false
is_markless (Did action answer) = not (is_use action)
is_markless (Age page look) = false
is_markless _ = true

no_uses : (past : List Entry) (a : Actor) (x : Action) (g : Page) → is_use x ≡ false → uses past a x g ≡ false
no_uses past (Cpu p) (Enter enclave tcs tf sf) g k = cc
no_uses past (Cpu p) (Resume enclave tcs tf sf) g k = cc
no_uses past (Cpu p) (Fill number f) g k = cc
no_uses past (Cpu p) (Load off) g k = cc
no_uses past (Cpu p) (Store off value) g k = cc
no_uses past (Cpu p) (Xadd off value) g k = cc
no_uses past (Cpu p) _ g k = refl
no_uses past _ x g k = refl

pub listed-quiet : (past : List Entry) (e : Entry) → is_markless e.event ≡ true → listed_by (e ∷ past) ≡ listed_by past
listed-quiet past e quiet = by_event e.event quiet
  where
    each : (ev : Event) → active_after ev (active past) ≡ active past
        → ((g : Page) → young_after past e.actor ev g (is_young past g) ≡ is_young past g)
        → listed_by (entry_of e.actor ev ∷ past) ≡ listed_by past
    each ev list marks =
        ap (map (marked (entry_of e.actor ev ∷ past))) list ∙ map_same (marked (entry_of e.actor ev ∷ past)) (marked past) (active past)
        (λ g k. marked_same past (entry_of e.actor ev) g (is_young past g) (marks g))

    by_event : (ev : Event) → is_markless ev ≡ true → listed_by (entry_of e.actor ev ∷ past) ≡ listed_by past
    by_event (Did (Add enclave number f kind perm init) answer) k = cc
    by_event (Did (Eld f) answer) k = cc
    by_event (Age page look) k = cc
    by_event (Did x answer) k =
        each (Did x answer) refl (λ g. ap (λ b. b || is_young past g) (no_uses past e.actor x g (not-true (is_use x) k)))
    by_event (Refused x refusal) k = each (Refused x refusal) refl (λ g. refl)
    by_event (Kick cpu) k = each (Kick cpu) refl (λ g. refl)
    by_event (Bus page why) k = each (Bus page why) refl (λ g. refl)
