-- Lists of pages that are held: what they hold, and how many.
use Rattle.std.proofs.Common.{◌≡◌, ℕ, zero, suc, ◌+◌, ◌-◌, ◌==◌, ◌<◌, ◌≤◌, ◌||◌, Bool}
use Rattle.std.proofs.Common.{true, false, if◌then◌else◌, List, [], ◌∷◌, ◌++◌, ⊎_elim, Option, Some, None, IfSome}
use Rattle.std.proofs.Common.{is_some, length, set, refl, sym, ap, subst, ◌∙◌, arith}
use Rattle.std.proofs.lemmas.Bool.{cases_eq, cases_lt, eqb-false, eqb-true, false_from_ne_true, false≢true, or_right}
use Rattle.std.proofs.lemmas.List.{get_or-set_same, get_or_past, length-set, set_past}
use Rattle.std.proofs.lemmas.List.Folds.{list_any-append}
use Rattle.std.proofs.Math.Bool.{or-false}
use Rattle.sgx_rules.specs.declared.entries.Action.{Action}
use Rattle.sgx_rules.specs.declared.entries.Action.TheVariants as actions
use Rattle.sgx_rules.specs.declared.entries.Entry.{Entry}
use Rattle.sgx_types.specs.declared.names.Frame.{Frame}
use Rattle.sgx_types.specs.declared.names.Page.{Page}
use Rattle.sgx_types.specs.declared.names.SlotAt.{SlotAt}
use Rattle.sgx_types.specs.Pages.{is_own_page, is_va_page, page_at, same_page, secs_page, va_page}
use Rattle.sgx_types.specs.declared.names.TheConstants.{SECS_NUMBER}
use Rattle.sgx_rules.specs.Frames.{Content, Free, Holds, IsLoading, IsVa, SecsOf, stands, vas_made}
use Rattle.sgx_types.proofs.Pages.{same_page-refl, same_page-swap, same_pages}
use Rattle.job_grammar.specs.declared.jobs.PageLine.{PageLine}
use Rattle.job_grammar.specs.declared.jobs.PageLine.TheVariants as lines
use Rattle.driver_list.specs.inner.Active.{ActiveList}
use Rattle.driver_list.specs.inner.Holds.{holds_page, joined, most_of, own_of}
use Rattle.driver_list.specs.declared.page_states.PageState.{PageState}
use Rattle.driver_list.specs.declared.page_states.PageState.TheVariants as states
use Rattle.driver_list.specs.inner.Places.{IsPlaced}
use Rattle.driver_rules.specs.Holds.{front_to, is_among}
use Rattle.driver_rules.specs.Holds.{pages_there, those_here, up_to}
use Rattle.driver_rules.specs.Needs.{last_save, listed}
use Rattle.driver_rules.specs.Places.{is_here, place}
use Rattle.driver_rules.specs.Turns.{first_away}
use Rattle.driver_laws.specs.inner.Sound.{times}
use Rattle.driver_laws.specs.inner.Three.{IsLaterArray}
use Rattle.driver_tables.proofs.HeldLaws.{SetsHolds, sets_holds}
use Rattle.driver_tables.specs.inner.Tables.{place_in}
use Rattle.due_tables.specs.declared.cpu_turns.Interruption as kept
use Rattle.due_tables.specs.declared.holding.HeldPages.{HeldPages}
use Rattle.due_tables.specs.inner.Asked.{here_if}
use Rattle.due_tables.specs.inner.CpuTurns.{interruption_told}
use Rattle.due_tables.specs.inner.Due.{IsWithin}
use Rattle.due_tables.specs.inner.Holding.{FitsAll, FitsHold, HoldsOnce}
use Rattle.due_tables.specs.inner.Holding.{array_held, aside_held}
use Rattle.due_tables.specs.inner.Holding.{holding, holding_all, if_here, loads_held}
use Rattle.due_tables.specs.inner.Holding.{pages_of}
use Rattle.due_tables.proofs.LineLaws.{IsTcsLine}
use Rattle.due_tables.proofs.NeedLaws.{secs_aside}
use Rattle.due_tables.proofs.OnceLaws.{join_all, join_if, longer_if}

-- ---- what is held of a list

or_twice : (a b : Bool) → (a || (a || b)) ≡ (a || b)
or_twice true b = refl
or_twice false b = refl

-- a page in front of others once more
again_same : (x g : Page) (b : Bool) → (same_page x g || (same_page x g || b)) ≡ (same_page x g || b)
again_same x g b = or_twice (same_page x g) b

abbrev pub Same : List Page → List Page → Type 0
Same xs ys = (g : Page) → is_among xs g ≡ is_among ys g

among_only : (x g : Page) → (same_page x g || false) ≡ true → x ≡ g
among_only x g h = same_pages x g (sym (or-false (same_page x g)) ∙ h)

-- a page that is brought back, with those before it
tail_same : (access : Option Page) (page g : Page) → is_among (listed access) page ≡ true
    → is_among (page ∷ []) g ≡ is_among (front_to page (listed access)) g
tail_same None page g h = cc
tail_same (Some a) page g h = ap (λ x. same_page x g || false) (sym (among_only a page h)) ∙ either (same_page a page)
  where
    either : (b : Bool) → is_among (a ∷ []) g ≡ is_among (if b then a ∷ [] else a ∷ []) g
    either true = refl
    either false = refl

save_same : (save access : Option Page) (page g : Page) → is_among (listed save ++ listed access) page ≡ true
    → is_among (listed save ++ page ∷ []) g ≡ is_among (front_to page (listed save ++ listed access)) g
save_same None access page g h = tail_same access page g h
save_same (Some s) access page g h = by_test (same_page s page) refl h
  where
    by_test : (b : Bool) → same_page s page ≡ b → (b || is_among (listed access) page) ≡ true
        → (same_page s g || is_among (page ∷ []) g) ≡ is_among (if b then s ∷ [] else s ∷ front_to page (listed access)) g
    by_test true is k =
        subst (λ y. (same_page s g || (same_page y g || false)) ≡ (same_page s g || false)) (same_pages s page is) (again_same s g false)
    by_test false is k = ap (λ b. same_page s g || b) (tail_same access page g k)

abbrev three_pages : Page → Bool → Option Page → Page → List Page
three_pages tcs b save page = tcs ∷ (listed (if b then None else save) ++ page ∷ [])

front_same : (tcs : Page) (save access : Option Page) (page : Page) → is_among (tcs ∷ (listed save ++ listed access)) page ≡ true
    → Same (pages_of (loads_held (Some (record { tcs = tcs; save = save })) page)) (front_to page (tcs ∷ (listed save ++ listed access)))
front_same tcs save access page there g =
    ap (λ b. is_among (three_pages tcs b save page) g) (same_page-swap page tcs) ∙ by_test (same_page tcs page) refl there
  where
    by_test : (b : Bool) → same_page tcs page ≡ b → (b || is_among (listed save ++ listed access) page) ≡ true
        → is_among (three_pages tcs b save page) g ≡ is_among (if b then tcs ∷ [] else tcs ∷ front_to page (listed save ++ listed access)) g
    by_test true is k =
        subst (λ y. (same_page tcs g || (same_page y g || false)) ≡ (same_page tcs g || false)) (same_pages tcs page is)
        (again_same tcs g false)
    by_test false is k = ap (λ b. same_page tcs g || b) (save_same save access page g k)

pub loads_same : (tcs : Page) (save access : Option Page) (pages : List Page) (page : Page) → pages ≡ tcs ∷ (listed save ++ listed access)
    → is_among pages page ≡ true
    → Same (pages_of (loads_held (Some (record { tcs = tcs; save = save })) page)) (up_to page pages)
loads_same tcs save access pages page is there g =
    front_same tcs save access page (subst (λ xs. is_among xs page ≡ true) is there) g
    ∙ ap (λ xs. is_among (front_to page xs) g) (sym is)
    ∙ ap (λ b. is_among (if b then front_to page pages else page ∷ []) g) (sym there)

pub one_same : (o : Option Page) (g : Page) → is_among (listed o ++ ([] ++ [])) g ≡ is_among (listed o) g
one_same None g = refl
one_same (Some x) g = refl

-- a frame in which a TCS or REG page stands holds that page
pub page_in_is : (c : Content) (g x : Page) → is_own_page g ≡ true → stands c g ≡ true
    → is_among (pages_there c) x ≡ (same_page g x || false)
page_in_is Free g x own h = cc
page_in_is (IsLoading page) g x own h = cc
page_in_is (IsVa number) g x own h =
    absurd (false≢true (subst (λ (y : Page). is_own_page y ≡ true) (sym (same_pages (va_page number) g h)) own))
page_in_is (SecsOf enclave) g x own h =
    absurd (secs_aside enclave (subst (λ (y : Page). is_own_page y ≡ true) (sym (same_pages (secs_page enclave) g h)) own))
page_in_is (Holds page kind perm) g x own h = ap (λ y. same_page y x || false) (same_pages page g h)

-- .. and one in which another page stands holds none
pub page_in_once : (c : Content) (g x : Page) → stands c g ≡ true
    → (same_page g x || false) ≡ (same_page g x || is_among (pages_there c) x)
page_in_once Free g x h = cc
page_in_once (IsLoading page) g x h = cc
page_in_once (IsVa number) g x h = refl
page_in_once (SecsOf enclave) g x h = refl
page_in_once (Holds page kind perm) g x h =
    subst (λ y. (same_page g x || false) ≡ (same_page g x || (same_page y x || false))) (sym (same_pages page g h))
    (sym (again_same g x false))

-- a state save page is a TCS or REG page
number_own : (e n : ℕ) → n ≤ 4096 → is_own_page (page_at (suc e) n) ≡ true
number_own e n low =
    rw (
      false_from_ne_true (suc e == 0) (λ t. absurd (omega (arith, eqb-true (suc e) 0 t))),
      false_from_ne_true (n == SECS_NUMBER) (λ t. absurd (omega (arith, eqb-true n SECS_NUMBER t, low))),
    ) refl

pub last_own : (e n : ℕ) (line : Option PageLine) (x : Page) → IsTcsLine line → IsWithin n line → last_save (suc e) n line ≡ Some x
    → is_own_page x ≡ true
last_own e n None x is within h = cc
last_own e n (Some (lines.Reg first count perm value plain)) x is within h = cc
last_own e n (Some (lines.Tcs page ossa nssa plain)) x is within h = by_test (n == 0) h
  where
    by_test : (b : Bool) → (if b then None else Some (page_at (suc e) (ossa + n - 1))) ≡ Some x → is_own_page x ≡ true
    by_test true k = cc
    by_test false k =
        let same : page_at (suc e) (ossa + n - 1) ≡ x = cc in
        subst (λ (y : Page). is_own_page y ≡ true) same
        (number_own e (ossa + n - 1) (let most = is.1 in omega (arith, most, within)))

pub none_in : (xs : List Page) (page : Page) → xs ≡ [] → is_among xs page ≡ true → ⊥
none_in xs page is h = false≢true (subst (λ ys. is_among ys page ≡ true) is h)

-- a SECS or a version array page that is brought back, with those that are needed and here
array_same : (page : Page) (b : Bool) → listed (if b then Some page else None) ≡ (if b then page ∷ [] else [])
array_same page true = refl
array_same page false = refl

none_here : (past : List Entry) (access : Option Page) (arrays : List Page) → is_some (first_away past (listed access)) ≡ true
    → arrays ≡ those_here past (listed access) ++ arrays
none_here past None arrays away = cc
none_here past (Some a) arrays away = by_access (is_here (place past a)) away
  where
    by_access : (b : Bool) → is_some (if b then None else Some a) ≡ true → arrays ≡ (if b then a ∷ [] else []) ++ arrays
    by_access true k = cc
    by_access false k = refl

here_same : (past : List Entry) (access : Option Page) (arrays : List Page) (save : Option Page)
    → is_some (first_away past (listed save ++ listed access)) ≡ true
    → listed (if_here (λ g. is_here (place past g)) save) ++ arrays ≡ those_here past (listed save ++ listed access) ++ arrays
here_same past access arrays None away = none_here past access arrays away
here_same past access arrays (Some s) away = by_save (is_here (place past s)) away (none_here past access arrays)
  where
    by_save : (b : Bool) → is_some (if b then first_away past (listed access) else Some s) ≡ true
        → (is_some (first_away past (listed access)) ≡ true → arrays ≡ those_here past (listed access) ++ arrays)
        → listed (if b then Some s else None) ++ arrays ≡ (if b then s ∷ those_here past (listed access) else []) ++ arrays
    by_save true k rest = ap (λ xs. s ∷ xs) (rest k)
    by_save false k rest = refl

abbrev pub array_list : Page → List Page
array_list page = if is_va_page page then page ∷ [] else []

abbrev pub here_by : List Entry → Page → Bool
here_by past g = is_here (place past g)

aside_list : (past : List Entry) (tcs : Page) (save access : Option Page) (page : Page)
    → is_some (first_away past (tcs ∷ (listed save ++ listed access))) ≡ true
    → pages_of (aside_held (here_by past) (Some (record { tcs = tcs; save = save })) page)
    ≡ those_here past (tcs ∷ (listed save ++ listed access)) ++ array_list page
aside_list past tcs save access page away = by_tcs (is_here (place past tcs)) away
  where
    by_tcs : (b : Bool) → is_some (if b then first_away past (listed save ++ listed access) else Some tcs) ≡ true
        → pages_of (if b then record { first = Some tcs; second = if_here (here_by past) save; third = array_held page }
        else record { first = None; second = None; third = array_held page })
        ≡ (if b then tcs ∷ those_here past (listed save ++ listed access) else []) ++ array_list page
    by_tcs true k =
        ap (λ xs. tcs ∷ xs) (here_same past access (listed (array_held page)) save k
        ∙ ap (λ xs. those_here past (listed save ++ listed access) ++ xs) (array_same page (is_va_page page)))
    by_tcs false k = array_same page (is_va_page page)

pub aside_load : (past : List Entry) (tcs : Page) (save access : Option Page) (pages : List Page) (page : Page)
    → pages ≡ tcs ∷ (listed save ++ listed access) → is_some (first_away past pages) ≡ true
    → pages_of (aside_held (here_by past) (Some (record { tcs = tcs; save = save })) page) ≡ those_here past pages ++ array_list page
aside_load past tcs save access pages page is away =
    aside_list past tcs save access page (subst (λ xs. is_some (first_away past xs) ≡ true) is away)
    ∙ ap (λ xs. those_here past xs ++ array_list page) (sym is)

pub none_away : (past : List Entry) (pages : List Page) → pages ≡ [] → is_some (first_away past pages) ≡ true → ⊥
none_away past pages is h = false≢true (subst (λ xs. is_some (first_away past xs) ≡ true) is h)

-- the tables tell at the start of a load which pages are here
abbrev pub TellsHere : List Entry → (Page → Bool) → Option Action → Type 0
TellsHere past here x =
    (f : Frame) (page : Page) (slot : SlotAt) → x ≡ Some (actions.EldStart f page slot) → (g : Page) → here g ≡ here_by past g

-- ---- lists that are held

-- a page that is held is among the pages, and the other way round
pub holds_among : (xs : List Page) (g : Page) → holds_page xs g ≡ is_among xs g
holds_among [] g = refl
holds_among (x ∷ xs) g = ap (λ b. b || holds_page xs g) (same_page-swap g x) ∙ ap (λ b. same_page x g || b) (holds_among xs g)

pub in_left : (xs ys : List Page) (g : Page) → is_among xs g ≡ true → is_among (xs ++ ys) g ≡ true
in_left xs ys g h = list_any-append (λ y. same_page y g) xs ys ∙ ap (λ b. b || is_among ys g) h

pub in_right : (xs ys : List Page) (g : Page) → is_among ys g ≡ true → is_among (xs ++ ys) g ≡ true
in_right xs ys g h = list_any-append (λ y. same_page y g) xs ys ∙ or_right (is_among xs g) (is_among ys g) h

-- version array pages 1 to n
abbrev pub arrays_to : ℕ → List Page
arrays_to zero = []
arrays_to (suc n) = va_page (suc n) ∷ arrays_to n

pub arrays_length : (n : ℕ) → length (arrays_to n) ≡ n
arrays_length zero = refl
arrays_length (suc n) = ap suc (arrays_length n)

array_among : (n k : ℕ) → 1 ≤ k → k ≤ n → is_among (arrays_to n) (va_page k) ≡ true
array_among zero k some low = absurd (omega (arith, some, low))
array_among (suc n) k some low =
    ⊎_elim last
    (λ other. or_right (same_page (va_page (suc n)) (va_page k)) (is_among (arrays_to n) (va_page k))
    (array_among n k some (omega (arith, low, other))))
    (cases_eq k (suc n))
  where
    last : k ≡ suc n → is_among (arrays_to (suc n)) (va_page k) ≡ true
    last same = subst (λ m. is_among (arrays_to (suc n)) (va_page m) ≡ true) (sym same) (rw (same_page-refl (va_page (suc n))) refl)

array_is : (g : Page) → is_va_page g ≡ true → g ≡ va_page g.number
array_is g is = ap (λ e. page_at e g.number) (eqb-true g.enclave 0 is)

-- a later version array page is one of these
pub later_among : (past : List Entry) (g : Page) (n : ℕ) → IsLaterArray past g → vas_made past ≤ n + 1 → is_among (arrays_to n) g ≡ true
later_among past g n later few =
    subst (λ (y : Page). is_among (arrays_to n) y ≡ true) (sym (array_is g later.va))
    (let some = eqb-false g.number 0 later.later in
    let made = later.made in
    array_among n g.number (omega (arith, some)) (omega (arith, made, few)))

-- a state tells whether its page is here
pub here_told : (x : PageState) → is_some (here_if true x) ≡ is_here (place_in x)
here_told states.Absent = refl
here_told (states.Here f) = refl
here_told (states.Leaving f) = refl
here_told (states.Loading f slot) = refl
here_told (states.Away slot) = refl
here_told (states.Lost slot) = refl

pub told_some : (i : Option kept.Interruption) → is_some (interruption_told i) ≡ is_some i
told_some None = refl
told_some (Some i) = refl

-- an actor's pages with one more
pub own_holding : (list : ActiveList) (holder : ℕ) (x : Option Page) → holder < length list.own
    → own_of (holding list holder x).own holder ≡ join_if (own_of list.own holder) x
own_holding list holder None low = refl
own_holding list holder (Some g) low = get_or-set_same list.own holder (joined (own_of list.own holder) g) [] low

length_holding : (list : ActiveList) (holder : ℕ) (x : Option Page) → length (holding list holder x).own ≡ length list.own
length_holding list holder None = refl
length_holding list holder (Some g) = length-set list.own holder (joined (own_of list.own holder) g)

counts_holding : (list : ActiveList) (holder : ℕ) (x : Option Page) → (holding list holder x).counts ≡ list.counts
counts_holding list holder None = refl
counts_holding list holder (Some g) = refl

sets_none : (own : List (List Page)) (holder : ℕ) → SetsHolds own own holder
sets_none own holder = record { holders = refl; others = λ p other. refl }

pub sets_holding : (list : ActiveList) (holder : ℕ) (x : Option Page) → SetsHolds list.own (holding list holder x).own holder
sets_holding list holder None = sets_none list.own holder
sets_holding list holder (Some g) = sets_holds list.own holder (joined (own_of list.own holder) g)

pub sets_then : (a b c : List (List Page)) (holder : ℕ) → SetsHolds a b holder → SetsHolds b c holder → SetsHolds a c holder
sets_then a b c holder one two =
    record { holders = two.holders ∙ one.holders; others = λ p other. two.others p other ∙ one.others p other }

pub own_dropped : (own : List (List Page)) (holder : ℕ) → own_of (set own holder []) holder ≡ []
own_dropped own holder = ⊎_elim (λ low. get_or-set_same own holder [] [] low)
    (λ high. ap (λ xs. own_of xs holder) (set_past own holder [] high) ∙ get_or_past own holder [] high) (cases_lt holder (length own))

-- each actor's pages once, where one actor's are
pub once_sets : (old new : List (List Page)) (holder : ℕ) → SetsHolds old new holder → ((g : Page) → times (own_of new holder) g ≤ 1)
    → HoldsOnce old → HoldsOnce new
once_sets old new holder sets own once p g = by_test (p == holder) refl
  where
    by_test : (b : Bool) → (p == holder) ≡ b → times (own_of new p) g ≤ 1
    by_test true is = subst (λ q. times (own_of new q) g ≤ 1) (sym (eqb-true p holder is)) (own g)
    by_test false is = subst (λ xs. times xs g ≤ 1) (sym (sets.others p (eqb-false p holder is))) (once p g)

in_first : (x : Option Page) (xs : List Page) (g : Page) → x ≡ Some g → is_among (listed x ++ xs) g ≡ true
in_first x xs g is = subst (λ y. is_among (listed y ++ xs) g ≡ true) (sym is) (rw (same_page-refl g) refl)

in_rest : (x : Option Page) (xs : List Page) (g : Page) → is_among xs g ≡ true → is_among (listed x ++ xs) g ≡ true
in_rest None xs g h = h
in_rest (Some y) xs g h = or_right (same_page y g) (is_among xs g) h

in_last : (x : Option Page) (g : Page) → x ≡ Some g → is_among (listed x) g ≡ true
in_last x g is = subst (λ y. is_among (listed y) g ≡ true) (sym is) (rw (same_page-refl g) refl)

most_eleven : (holder : ℕ) → holder < 16 → most_of holder ≡ 11
most_eleven holder low = by_test (holder == 16) refl
  where
    by_test : (b : Bool) → (holder == 16) ≡ b → ◌≡◌ {A = ℕ} (if b then 1 else 11) 11
    by_test true is = let same : holder ≡ 16 = eqb-true holder 16 is in absurd (omega (arith, low, same))
    by_test false is = refl

pub fits_one : (list : ActiveList) (holder : ℕ) (x : Option Page) → ((g : Page) → x ≡ Some g → IsPlaced list.counts g)
    → length (join_if (own_of list.own holder) x) ≤ most_of holder → IfSome x (FitsHold list holder)
fits_one list holder None placed room = tt
fits_one list holder (Some g) placed room = record { placed = placed g refl; room = room }

module _ (list : ActiveList) (holder : ℕ) (h : HeldPages) (low : holder < length list.own) where
  own_first : own_of (holding list holder h.first).own holder ≡ join_if (own_of list.own holder) h.first
  own_first = own_holding list holder h.first low

  low_first : holder < length (holding list holder h.first).own
  low_first = let same = length_holding list holder h.first in omega (arith, same, low)

  own_second : own_of (holding (holding list holder h.first) holder h.second).own holder
      ≡ join_if (join_if (own_of list.own holder) h.first) h.second
  own_second = own_holding (holding list holder h.first) holder h.second low_first ∙ ap (λ xs. join_if xs h.second) own_first

  low_second : holder < length (holding (holding list holder h.first) holder h.second).own
  low_second = let same = length_holding (holding list holder h.first) holder h.second in let before = low_first in omega
      (arith, same, before)

  pub own_all : own_of (holding_all list holder h).own holder ≡ join_all (own_of list.own holder) h
  own_all =
      own_holding (holding (holding list holder h.first) holder h.second) holder h.third low_second
      ∙ ap (λ xs. join_if xs h.third) own_second

  pub sets_all : SetsHolds list.own (holding_all list holder h).own holder
  sets_all =
      sets_then list.own (holding (holding list holder h.first) holder h.second).own (holding_all list holder h).own holder
      (sets_then list.own (holding list holder h.first).own (holding (holding list holder h.first) holder h.second).own holder
      (sets_holding list holder h.first) (sets_holding (holding list holder h.first) holder h.second))
      (sets_holding (holding (holding list holder h.first) holder h.second) holder h.third)

  pub fits_all : holder < 16 → ((g : Page) → is_among (pages_of h) g ≡ true → IsPlaced list.counts g)
      → length (join_all (own_of list.own holder) h) ≤ 11 → FitsAll list holder h
  fits_all few placed room = record {
    first = fits_one list holder h.first (λ g is. placed g (in_first h.first (listed h.second ++ listed h.third) g is))
        (let one = longer_if (join_if (own_of list.own holder) h.first) h.second in omega (arith, most, one, two, room));
    second = fits_one (holding list holder h.first) holder h.second
        (λ g is. subst (λ counts. IsPlaced counts g) (sym (counts_holding list holder h.first))
        (placed g (in_rest h.first (listed h.second ++ listed h.third) g (in_first h.second (listed h.third) g is))))
        (subst (λ xs. length (join_if xs h.second) ≤ most_of holder) (sym own_first) (omega (arith, most, two, room)));
    third = fits_one (holding (holding list holder h.first) holder h.second) holder h.third
        (λ g is. subst (λ counts. IsPlaced counts g)
        (sym (counts_holding (holding list holder h.first) holder h.second ∙ counts_holding list holder h.first))
        (placed g (in_rest h.first (listed h.second ++ listed h.third) g (in_rest h.second (listed h.third) g (in_last h.third g is)))))
        (subst (λ xs. length (join_if xs h.third) ≤ most_of holder) (sym own_second) (omega (arith, most, room)));
  }
    where
      most : most_of holder ≡ 11
      most = most_eleven holder few

      two : length (join_if (join_if (own_of list.own holder) h.first) h.second) ≤ length (join_all (own_of list.own holder) h)
      two = longer_if (join_if (join_if (own_of list.own holder) h.first) h.second) h.third
