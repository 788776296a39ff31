-- What stands at a place of a table, and what a change makes of the others.
use Rattle.std.proofs.Common.{◌≡◌, ℕ, zero, suc, ◌==◌, ◌<◌, ◌&&◌}
use Rattle.std.proofs.Common.{Bool, true, false, if◌then◌else◌, List, [], ◌∷◌, ◌++◌, Option, Some, None, IfSome}
use Rattle.std.proofs.Common.{length, map, drop, take, get_or, set, slice_index, refl, sym, ap, ◌∙◌, arith}
use Rattle.std.specs.Option.{option_map}
use Rattle.std.specs.Global.{Vec}
use Rattle.std.specs.List.{HoldsAt}
use Rattle.std.specs.Vec.{with_item}
use Rattle.std.proofs.lemmas.Bool.{eqb-true}
use Rattle.std.proofs.lemmas.List.{append-nil, drop_all, length-map, length-set, map-set}
use Rattle.std.proofs.lemmas.List.{take_all}
use Rattle.sgx_types.specs.declared.names.Page.{Page}
use Rattle.sgx_types.specs.Pages.{page_at, same_page}
use Rattle.sgx_types.proofs.Pages.{same_pages}
use Rattle.sgx_types.proofs.Lists.{place_below, there_below, get_or-set_if}
use Rattle.job_grammar.specs.declared.jobs.PageLine.{PageLine}
use Rattle.job_grammar.specs.declared.jobs.PageLine.TheVariants as lines
use Rattle.job_grammar.specs.Jobs.{covers, is_tcs_line, tcs_line}
use Rattle.due_tables.specs.declared.tcs_turns.TcsTurn.{TcsTurn}
use Rattle.due_tables.specs.inner.TcsTurns.{IsInRow, changed, tcs_at, tcs_by, with_turn}
use Rattle.due_tables.specs.inner.TcsPlaces.{or_line, turns_in}

-- ---- lists

row_within : {X : Type 0} (t : List (List (Option X))) (e n : ℕ) (x : X) → get_or (get_or t e []) n None ≡ Some x → e < length t
row_within [] e n x h = cc
row_within (r ∷ rs) zero n x h = omega arith
row_within (r ∷ rs) (suc e) n x h = let low = row_within rs e n x h in omega (arith, low)

lengths_stay : {X : Type 0} (t : List (List X)) (e n : ℕ) (x : X) → map length (set t e (set (get_or t e []) n x)) ≡ map length t
lengths_stay [] e n x = refl
lengths_stay (r ∷ rs) zero n x = ap (λ k. k ∷ map length rs) (length-set r n x)
lengths_stay (r ∷ rs) (suc e) n x = ap (λ ks. length r ∷ ks) (lengths_stay rs e n x)

-- ---- rows in vectors

len_read : (vs : List (Vec (Option TcsTurn))) (e : ℕ) (v : Vec (Option TcsTurn)) → e < length vs → v ≡ get_or vs e v
    → get_or (map length (map turns_in vs)) e 0 ≡ length v.items
len_read [] e v low is = absurd (omega (arith, low))
len_read (w ∷ vs) zero v low is = ap (λ (x : Vec (Option TcsTurn)). length x.items) (sym is)
len_read (w ∷ vs) (suc e) v low is = len_read vs e v (omega (arith, low)) is

row_read : (vs : List (Vec (Option TcsTurn))) (e : ℕ) (v : Vec (Option TcsTurn)) → e < length vs → v ≡ get_or vs e v
    → get_or (map turns_in vs) e [] ≡ v.items
row_read [] e v low is = absurd (omega (arith, low))
row_read (w ∷ vs) zero v low is = ap turns_in (sym is)
row_read (w ∷ vs) (suc e) v low is = row_read vs e v (omega (arith, low)) is

-- an enclave's row, looked up
pub count_there : (vs es : List (Vec (Option TcsTurn))) (t : List (List (Option TcsTurn))) (i e : ℕ) (v : Vec (Option TcsTurn))
    → map turns_in vs ≡ t → es ≡ vs → i ≡ e → (i < length es) × HoldsAt (λ y. v ≡ y) es i
    → slice_index (map length t) e ≡ length v.items
count_there vs es t i e v view same at found =
    ap (λ x. get_or (map length x) e 0) (sym view) ∙ ap (λ k. get_or (map length (map turns_in vs)) k 0) (sym at)
    ∙ len_read vs i v (let len = ap length same in let low = found.0 in omega (arith, len, low))
    (found.1 v ∙ ap (λ xs. get_or xs i v) same)

pub place_there : (vs es : List (Vec (Option TcsTurn))) (t : List (List (Option TcsTurn))) (i e n : ℕ) (v : Vec (Option TcsTurn))
    → map turns_in vs ≡ t → es ≡ vs → i ≡ e → (i < length es) × HoldsAt (λ y. v ≡ y) es i → n < length v.items
    → IsInRow (map length t) (page_at e n)
place_there vs es t i e n v view same at found low =
    let count : slice_index (map length t) e ≡ length v.items = count_there vs es t i e v view same at found in
    record { within = omega (arith, count, low) }

-- a place of the table, to be written
pub row_low : (vs : List (Vec (Option TcsTurn))) (t : List (List (Option TcsTurn))) (g : Page) → map turns_in vs ≡ t
    → IsInRow (map length t) g → g.enclave < length vs
row_low vs t g view placed =
    let low : g.enclave < length (map length t) = place_below (map length t) g.enclave g.number placed.within in
    let one = length-map t length in
    let two = ap length view in
    let three = length-map vs turns_in in omega (arith, low, one, two, three)

pub place_low : (vs : List (Vec (Option TcsTurn))) (t : List (List (Option TcsTurn))) (g : Page) (i : ℕ) (v : Vec (Option TcsTurn))
    → map turns_in vs ≡ t → IsInRow (map length t) g → i ≡ g.enclave → v ≡ get_or vs i v → g.number < length v.items
place_low vs t g i v view placed at is =
    let low : g.enclave < length vs = row_low vs t g view placed in
    let read : get_or (map length (map turns_in vs)) i 0 ≡ length v.items = len_read vs i v (omega (arith, low, at)) is in
    let told : get_or (map length (map turns_in vs)) i 0 ≡ get_or (map length t) g.enclave 0 = ap (λ x. get_or (map length x) i 0) view
    ∙ ap (λ k. get_or (map length t) k 0) at in
    let within = placed.within in
    omega (arith, read, told, within)

pub row_set : (vs : List (Vec (Option TcsTurn))) (t : List (List (Option TcsTurn))) (g : Page) (i : ℕ) (v : Vec (Option TcsTurn))
    (x : TcsTurn) → map turns_in vs ≡ t → IsInRow (map length t) g → i ≡ g.enclave → v ≡ get_or vs i v
    → map turns_in (set vs i (with_item v g.number (Some x))) ≡ with_turn t g x
row_set vs t g i v x view placed at is =
    map-set turns_in vs i (with_item v g.number (Some x))
    ∙ ap (λ r. set (map turns_in vs) i (set r g.number (Some x)))
    (sym (row_read vs i v (let low = row_low vs t g view placed in omega (arith, low, at)) is))
    ∙ ap (λ k. set (map turns_in vs) k (set (get_or (map turns_in vs) k []) g.number (Some x))) at
    ∙ ap (λ u. with_turn u g x) view

pub if_any : {X : Type 0} (P : Type 0) (o : Option X) → P → IfSome o (λ x. P)
if_any P None p = tt
if_any P (Some x) p = p

-- a slice of a vector that is written back whole
pub written_whole : {X : Type 0} (new items : List X) (len : ℕ) → length new ≡ length items → len ≡ length items
    → take len (new ++ drop (length new) items) ≡ new
written_whole new items len same all =
    ap (λ xs. take len (new ++ xs)) (drop_all (length new) items (omega (arith, same)))
    ∙ ap (take len) (append-nil new) ∙ take_all len new (omega (arith, same, all))

-- ---- the table of state save pages

-- a page that has a turn, given another one
turn_set : (t : List (List (Option TcsTurn))) (page g : Page) (x y : TcsTurn) → tcs_at t page ≡ Some x
    → tcs_at (with_turn t page y) g ≡ (if same_page page g then Some y else tcs_at t g)
turn_set t page g x y is =
    ap (λ row. get_or row g.number None)
    (get_or-set_if t page.enclave g.enclave (set (get_or t page.enclave []) page.number (Some y)) []
    (row_within t page.enclave page.number x is))
    ∙ by_enclave (page.enclave == g.enclave) refl
  where
    by_enclave : (b : Bool) → (page.enclave == g.enclave) ≡ b
        → get_or (if b then set (get_or t page.enclave []) page.number (Some y) else get_or t g.enclave []) g.number None
        ≡ (if b && (page.number == g.number) then Some y else tcs_at t g)
    by_enclave false other = refl
    by_enclave true same =
        get_or-set_if (get_or t page.enclave []) page.number g.number (Some y) None
        (there_below (get_or t page.enclave []) page.number x is)
        ∙ ap (λ e. if page.number == g.number then Some y else get_or (get_or t e []) g.number None)
        (eqb-true page.enclave g.enclave same)

pub changed_at : (t : List (List (Option TcsTurn))) (page g : Page) (f : TcsTurn → TcsTurn)
    → tcs_at (changed t page f (tcs_at t page)) g ≡ (if same_page page g then option_map f (tcs_at t page) else tcs_at t g)
changed_at t page g f = by_turn (tcs_at t page) refl
  where
    either : (b : Bool) → (page.enclave == g.enclave) && (page.number == g.number) ≡ b → tcs_at t page ≡ None
        → tcs_at t g ≡ (if b then None else tcs_at t g)
    either false other none = refl
    either true same none = ap (tcs_at t) (sym (same_pages page g same)) ∙ none

    by_turn : (o : Option TcsTurn) → tcs_at t page ≡ o
        → tcs_at (changed t page f o) g ≡ (if same_page page g then option_map f o else tcs_at t g)
    by_turn (Some x) is = turn_set t page g x (f x) is
    by_turn None is = either (same_page page g) refl is

pub lengths_changed : (t : List (List (Option TcsTurn))) (page : Page) (f : TcsTurn → TcsTurn) (o : Option TcsTurn)
    → map length (changed t page f o) ≡ map length t
lengths_changed t page f None = refl
lengths_changed t page f (Some x) = lengths_stay t page.enclave page.number (Some (f x))

-- ---- the lines of an enclave

-- one line more
pub line_more : (ls : List PageLine) (line : PageLine) (n : ℕ)
    → tcs_by (tcs_line (ls ++ line ∷ []) n) 0 ≡ or_line (tcs_by (tcs_line ls n) 0) line n
line_more [] line n = last (is_tcs_line line && covers n line)
  where
    last : (b : Bool) → tcs_by (if b then Some line else None) 0 ≡ (if b then tcs_by (Some line) 0 else None)
    last true = refl
    last false = refl
line_more (lines.Reg first count perm value plain ∷ ls) line n = line_more ls line n
line_more (lines.Tcs page ossa nssa plain ∷ ls) line n = by_test (page == n) (line_more ls line n)
  where
    by_test : (b : Bool) → tcs_by (tcs_line (ls ++ line ∷ []) n) 0 ≡ or_line (tcs_by (tcs_line ls n) 0) line n
        → tcs_by (if b then Some (lines.Tcs page ossa nssa plain) else tcs_line (ls ++ line ∷ []) n) 0
        ≡ or_line (tcs_by (if b then Some (lines.Tcs page ossa nssa plain) else tcs_line ls n) 0) line n
    by_test true more = refl
    by_test false more = more
