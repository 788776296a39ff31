-- The changes of a word rise by place, and the last one up to a place made the word what it was there.
use Rattle.std.proofs.Common.{inl, inr}
use Rattle.std.proofs.Common.{◌≡◌, ℕ, zero, suc, ◌+◌, ◌-◌, ◌<◌, ◌≤◌, Bool, true, false, nat_le, if◌then◌else◌}
use Rattle.std.proofs.Common.{List, [], ◌∷◌, ◌++◌, length, get_or, Option, Some, None, is_some, unwrap_or, refl, sym, ap, ◌∙◌, subst}
use Rattle.std.proofs.Common.{append-nil, arith}
use Rattle.std.proofs.lemmas.Bool.{false≢true, cases_lt, le-leb, lt-leb}
use Rattle.std.proofs.lemmas.List.Sorted.{IsNonDecreasingBy-push}
use Rattle.sgx_rules.specs.declared.entries.Entry.{Entry}
use Rattle.sgx_rules.specs.Flat.{FlatMemory, flat, first_words}
use Rattle.sgx_types.specs.declared.names.Page.{Page}
use Rattle.sgx_types.specs.Pages.{same_page, page_at}
use Rattle.sgx_types.proofs.Pages.{same_pages, same_page-swap}
use Rattle.sgx_types.proofs.Truths.{neither, either}
use Rattle.flat_words.specs.declared.writes.NewPage.{NewPage}
use Rattle.flat_words.specs.declared.writes.WordAt.{WordAt}
use Rattle.flat_words.specs.declared.writes.Writes.{Writes}
use Rattle.flat_words.specs.Words.{word_of, word_in, word}
use Rattle.flat_words.specs.Writes.{is_word, is_touched, touched, page_added, word_with}
use Rattle.flat_words.proofs.WriteLaws.{words_after, added_or_kept, none_before}
use Rattle.trace_query.specs.declared.page_words.Added.{Added}
use Rattle.trace_query.specs.declared.word_lists.Change.{Change}
use Rattle.trace_query.specs.Moves.{first_entries}
use Rattle.trace_query.specs.inner.WordLists.{same_word, word_at, value_at, ChangesRise}
use Rattle.trace_query.specs.inner.Written.{change_to, noted, changes_with, changes, added_with, added, word_by}
use Rattle.trace_spans.proofs.LastLaws.{last_append}
use Rattle.trace_query.proofs.WordKeys.{same_words, one_test}
use Rattle.trace_query.proofs.PlaceLaws.{before_more, before_all}

-- ---- what is noted at a place

noted_if : (b : Bool) (place : ℕ) (m : FlatMemory) (at w : WordAt) → same_word at w ≡ b
    → noted place m (Some at) w ≡ (if b then change_to place (word_in m (page_at w.enclave w.number) w.index) else [])
noted_if true place m at w h =
    rw h (ap (λ (x : WordAt). change_to place (word_in m (page_at x.enclave x.number) x.index)) (same_words at w h))
noted_if false place m at w h = rw h refl

not_noted : (place : ℕ) (m : FlatMemory) (o : Option WordAt) (g : Page) (k : ℕ) → is_word o g k ≡ false
    → noted place m o (word_at g k) ≡ []
not_noted place m None g k h = refl
not_noted place m (Some at) g k h = noted_if false place m at (word_at g k) (sym (one_test at g k) ∙ h)

is_noted : (place : ℕ) (m : FlatMemory) (o : Option WordAt) (g : Page) (k : ℕ) → is_word o g k ≡ true
    → noted place m o (word_at g k) ≡ change_to place (word_in m g k)
is_noted place m None g k h = absurd (false≢true h)
is_noted place m (Some at) g k h = noted_if true place m at (word_at g k) (sym (one_test at g k) ∙ h)

-- the changes are all at this place, and to this value
Say : ℕ → Option ℕ → List Change → Type 0
Say place o [] = Unit {0}
Say place o (x ∷ xs) = ((x.place ≡ place) × (Some x.value ≡ o)) × Say place o xs

change_says : (place : ℕ) (o : Option ℕ) → Say place o (change_to place o)
unfolding Say
change_says place None = tt
change_says place (Some v) = ((refl, refl), tt)

noted_says_if : (b : Bool) (place : ℕ) (m : FlatMemory) (at : WordAt) (g : Page) (k : ℕ) → same_word at (word_at g k) ≡ b
    → Say place (word_in m g k) (noted place m (Some at) (word_at g k))
unfolding Say
noted_says_if true place m at g k h =
    let Says : List Change → Type 0 = Say place (word_in m g k) in
    subst Says (sym (noted_if true place m at (word_at g k) h)) (change_says place (word_in m g k))
noted_says_if false place m at g k h =
    let Says : List Change → Type 0 = Say place (word_in m g k) in
    subst Says (sym (noted_if false place m at (word_at g k) h)) tt

noted_says : (place : ℕ) (m : FlatMemory) (o : Option WordAt) (g : Page) (k : ℕ)
    → Say place (word_in m g k) (noted place m o (word_at g k))
unfolding Say
noted_says place m None g k = tt
noted_says place m (Some at) g k = noted_says_if (same_word at (word_at g k)) place m at g k refl

says_none : (place : ℕ) (o : Option ℕ) (xs : List Change) → is_some o ≡ false → Say place o xs → xs ≡ []
unfolding Say
says_none place o [] none h = refl
says_none place o (x ∷ xs) none h = absurd (false≢true (sym none ∙ ap is_some (sym h.0.1)))

-- changes that are later than a place do not count there
not_yet : (place : ℕ) (o : Option ℕ) (xs : List Change) (first n : ℕ) → n < place → Say place o xs → value_at first xs n ≡ first
unfolding Say
not_yet place o [] first n lt h = refl
not_yet place o (x ∷ xs) first n lt h =
    rw (lt-leb x.place n (omega (arith, lt, h.0.0))) (not_yet place o xs first n lt h.1)

-- .. and others to the same value keep it
says_same : (place v : ℕ) (xs : List Change) (n : ℕ) → place ≤ n → Say place (Some v) xs → value_at v xs n ≡ v
unfolding Say
says_same place v [] n le h = refl
says_same place v (x ∷ xs) n le h =
    rw (le-leb x.place n (omega (arith, le, h.0.0)))
    (ap (λ a. value_at a xs n) (ap (λ o. unwrap_or o 0) h.0.1) ∙ says_same place v xs n le h.1)

-- ---- order

UpTo : ℕ → List Change → Type 0
UpTo b [] = Unit {0}
UpTo b (x ∷ xs) = (x.place ≤ b) × UpTo b xs

up_to_more : (b c : ℕ) (xs : List Change) → b ≤ c → UpTo b xs → UpTo c xs
unfolding UpTo
up_to_more b c [] le h = tt
up_to_more b c (x ∷ xs) le h = (omega (arith, le, h.0), up_to_more b c xs le h.1)

up_to_append : (b : ℕ) (xs ys : List Change) → UpTo b xs → UpTo b ys → UpTo b (xs ++ ys)
unfolding UpTo
up_to_append b [] ys h l = l
up_to_append b (x ∷ xs) ys h l = (h.0, up_to_append b xs ys h.1 l)

up_to_at : (b : ℕ) (xs : List Change) (k : ℕ) (d : Change) → UpTo b xs → k < length xs → (get_or xs k d).place ≤ b
unfolding UpTo
up_to_at b [] k d h within = absurd (omega (arith, within))
up_to_at b (x ∷ xs) zero d h within = h.0
up_to_at b (x ∷ xs) (suc k) d h within = up_to_at b xs k d h.1 (omega (arith, within))

change_up_to : (place : ℕ) (o : Option ℕ) → UpTo place (change_to place o)
unfolding UpTo
change_up_to place None = tt
change_up_to place (Some v) = (omega arith, tt)

rises_change : (place : ℕ) (xs : List Change) (o : Option ℕ) → ChangesRise xs → UpTo place xs → ChangesRise (xs ++ change_to place o)
rises_change place xs None rises up =
    let AreRising : List Change → Type 0 = ChangesRise in
    subst AreRising (sym (append-nil xs)) rises
rises_change place xs (Some v) rises up =
    IsNonDecreasingBy-push (λ change. change.place) xs (record { place = place; value = v }) rises
    (λ d some. up_to_at place xs (length xs - 1) d up (omega (arith, some)))

Ordered : ℕ → List Change → Type 0
Ordered b xs = ChangesRise xs × UpTo b xs

ordered_noted_if : (b : Bool) (place : ℕ) (m : FlatMemory) (at w : WordAt) (xs : List Change) → same_word at w ≡ b → Ordered place xs
    → Ordered place (xs ++ noted place m (Some at) w)
unfolding Ordered UpTo
ordered_noted_if true place m at w xs e h =
    let o = word_in m (page_at at.enclave at.number) at.index in
    rw e (rises_change place xs o h.0 h.1, up_to_append place xs (change_to place o) h.1 (change_up_to place o))
ordered_noted_if false place m at w xs e h =
    rw e (rises_change place xs None h.0 h.1, up_to_append place xs [] h.1 tt)

ordered_noted : (place : ℕ) (m : FlatMemory) (o : Option WordAt) (w : WordAt) (xs : List Change) → Ordered place xs
    → Ordered place (xs ++ noted place m o w)
unfolding Ordered UpTo
ordered_noted place m None w xs h = (rises_change place xs None h.0 h.1, up_to_append place xs [] h.1 tt)
ordered_noted place m (Some at) w xs h = ordered_noted_if (same_word at w) place m at w xs refl h

changes_ordered : (past : List Entry) (w : WordAt) → Ordered (length past) (changes past w)
unfolding Ordered UpTo
changes_ordered [] w = (λ i j d le within. absurd (omega (arith, within)), tt)
changes_ordered (e ∷ past) w =
    let place = length past + 1 in
    let writes = touched (flat past) e.actor e.event in
    let h = changes_ordered past w in
    let InOrder : ℕ → Type 0 = λ b. Ordered b (changes (e ∷ past) w) in
    let more : length past + 1 ≡ length (e ∷ past) = omega arith in
    subst InOrder more
    (ordered_noted place (flat (e ∷ past)) writes.second w (changes past w ++ noted place (flat (e ∷ past)) writes.first w)
    (ordered_noted place (flat (e ∷ past)) writes.first w (changes past w)
    (h.0, up_to_more (length past) place (changes past w) (omega arith) h.1)))

pub changes_rise : (past : List Entry) (w : WordAt) → ChangesRise (changes past w)
unfolding Ordered
changes_rise past w = (changes_ordered past w).0

-- ---- which pages were added

both_added_if : (b : Bool) (place first : ℕ) (x : NewPage) (o : Option Added) (p : Option ℕ) → is_some o ≡ is_some p
    → is_some (if b then Some (record { place = place; init = x.init }) else o) ≡ is_some (if b then Some first else p)
both_added_if true place first x o p h = refl
both_added_if false place first x o p h = h

both_added : (page : Option NewPage) (place : ℕ) (g : Page) (k : ℕ) (o : Option Added) (p : Option ℕ) → is_some o ≡ is_some p
    → is_some (added_with page place g o) ≡ is_some (word_with page g k p)
both_added None place g k o p h = h
both_added (Some x) place g k o p h =
    both_added_if (same_page (page_at x.enclave x.number) g) place (get_or (first_words x.init) k 0) x o p h
    ∙ ap (λ b. is_some (if b then Some (get_or (first_words x.init) k 0) else p)) (same_page-swap (page_at x.enclave x.number) g)

-- a page is there exactly where it was added
pub is_added : (past : List Entry) (g : Page) (k : ℕ) → is_some (added past g) ≡ is_some (word past g k)
is_added [] g k = refl
is_added (e ∷ past) g k =
    both_added (page_added (flat past) e.actor e.event) (length past + 1) g k (added past g) (word past g k) (is_added past g k)
    ∙ sym (added_or_kept (flat past) e g k)

-- a page that is added was not there
new_page : (past : List Entry) (e : Entry) (x : NewPage) (g : Page) → page_added (flat past) e.actor e.event ≡ Some x
    → same_page (page_at x.enclave x.number) g ≡ true → is_some (added past g) ≡ false
new_page past e x g is same =
    is_added past g 0
    ∙ ap (λ q. is_some (word past q 0)) (sym (same_pages (page_at x.enclave x.number) g same))
    ∙ ap (λ o. is_some (word_of o 0)) (none_before (flat past) e x is)

IsBy : ℕ → Option Added → Type 0
IsBy b None = Unit {0}
IsBy b (Some new) = new.place ≤ b

by_more : (b : ℕ) (o : Option Added) → IsBy b o → IsBy (b + 1) o
unfolding IsBy
by_more b None h = tt
by_more b (Some new) h = omega (arith, h)

by_if : (t : Bool) (b : ℕ) (x : NewPage) (o : Option Added) → IsBy b o
    → IsBy (b + 1) (if t then Some (record { place = b + 1; init = x.init }) else o)
unfolding IsBy
by_if true b x o h = omega arith
by_if false b x o h = by_more b o h

by_with : (page : Option NewPage) (b : ℕ) (g : Page) (o : Option Added) → IsBy b o → IsBy (b + 1) (added_with page (b + 1) g o)
by_with None b g o h = by_more b o h
by_with (Some x) b g o h = by_if (same_page (page_at x.enclave x.number) g) b x o h

added_by_end : (past : List Entry) (g : Page) → IsBy (length past) (added past g)
unfolding IsBy
added_by_end [] g = tt
added_by_end (e ∷ past) g =
    let By : ℕ → Type 0 = λ b. IsBy b (added (e ∷ past) g) in
    let more : length past + 1 ≡ length (e ∷ past) = omega arith in
    subst By more (by_with (page_added (flat past) e.actor e.event) (length past) g (added past g) (added_by_end past g))

-- ---- a page that was not added has no changes

none_if : (b : Bool) (x : Added) (o : Option Added) → is_some (if b then Some x else o) ≡ false → is_some o ≡ false
none_if true x o h = absurd (false≢true (sym h))
none_if false x o h = h

none_with : (page : Option NewPage) (place : ℕ) (g : Page) (o : Option Added) → is_some (added_with page place g o) ≡ false
    → is_some o ≡ false
none_with None place g o h = h
none_with (Some x) place g o h =
    none_if (same_page (page_at x.enclave x.number) g) (record { place = place; init = x.init }) o h

pub no_changes : (past : List Entry) (g : Page) (k : ℕ) → is_some (added past g) ≡ false → changes past (word_at g k) ≡ []
no_changes [] g k h = refl
no_changes (e ∷ past) g k h =
    let place = length past + 1 in
    let m = flat (e ∷ past) in
    let writes = touched (flat past) e.actor e.event in
    let none : is_some (word_in m g k) ≡ false = sym (is_added (e ∷ past) g k) ∙ h in
    let was = no_changes past g k (none_with (page_added (flat past) e.actor e.event) place g (added past g) h) in
    let one = says_none place (word_in m g k) (noted place m writes.first (word_at g k)) none (noted_says place m writes.first g k) in
    let two = says_none place (word_in m g k) (noted place m writes.second (word_at g k)) none (noted_says place m writes.second g k) in
    (λ i. (was i ++ one i) ++ two i)

-- ---- before the place of an entry

found_before : (o : Option Added) (xs ys : List Change) (n k : ℕ) → ((first : ℕ) → value_at first xs n ≡ value_at first ys n)
    → word_by o xs n k ≡ word_by o ys n k
found_before None xs ys n k same = refl
found_before (Some new) xs ys n k same =
    ap (λ v. if nat_le new.place n then Some v else None) (same (get_or (first_words new.init) k 0))

nothing_found : (o : Option Added) (xs : List Change) (n k : ℕ) → is_some o ≡ false → word_by o xs n k ≡ None
nothing_found None xs n k h = refl
nothing_found (Some new) xs n k h = absurd (false≢true (sym h))

not_yet_if : (b : Bool) (x : NewPage) (o : Option Added) (xs : List Change) (place n k : ℕ) → n < place → (b ≡ true → is_some o ≡ false)
    → word_by (if b then Some (record { place = place; init = x.init }) else o) xs n k ≡ word_by o xs n k
not_yet_if true x o xs place n k lt new = rw (lt-leb place n lt) (sym (nothing_found o xs n k (new refl)))
not_yet_if false x o xs place n k lt new = refl

not_yet_added : (page : Option NewPage) (place : ℕ) (g : Page) (o : Option Added) (xs : List Change) (n k : ℕ) → n < place
    → ((x : NewPage) → page ≡ Some x → same_page (page_at x.enclave x.number) g ≡ true → is_some o ≡ false)
    → word_by (added_with page place g o) xs n k ≡ word_by o xs n k
not_yet_added None place g o xs n k lt new = refl
not_yet_added (Some x) place g o xs n k lt new =
    not_yet_if (same_page (page_at x.enclave x.number) g) x o xs place n k lt (new x refl)

same_before : (e : Entry) (past : List Entry) (g : Page) (n k first : ℕ) → n ≤ length past
    → value_at first (changes (e ∷ past) (word_at g k)) n ≡ value_at first (changes past (word_at g k)) n
same_before e past g n k first le =
    let place = length past + 1 in
    let m = flat (e ∷ past) in
    let writes = touched (flat past) e.actor e.event in
    let w = word_at g k in
    let was = changes past w in
    let one = noted place m writes.first w in
    let two = noted place m writes.second w in
    last_append (λ (change : Change). change.place) (λ (change : Change). change.value) first (was ++ one) two n
    ∙ not_yet place (word_in m g k) two (value_at first (was ++ one) n) n (omega (arith, le)) (noted_says place m writes.second g k)
    ∙ last_append (λ (change : Change). change.place) (λ (change : Change). change.value) first was one n
    ∙ not_yet place (word_in m g k) one (value_at first was n) n (omega (arith, le)) (noted_says place m writes.first g k)

-- ---- behind an entry

-- a word that is not written is as it was, or its page's first
kept_if : (b : Bool) (x : NewPage) (o : Option Added) (xs : List Change) (place n k : ℕ) → place ≤ n → (b ≡ true → xs ≡ [])
    → word_by (if b then Some (record { place = place; init = x.init }) else o) xs n k
    ≡ (if b then Some (get_or (first_words x.init) k 0) else word_by o xs n k)
kept_if true x o xs place n k le none = rw (le-leb place n le, none refl) refl
kept_if false x o xs place n k le none = refl

kept_or_new : (page : Option NewPage) (place : ℕ) (g : Page) (o : Option Added) (xs : List Change) (n k : ℕ) → place ≤ n
    → ((x : NewPage) → page ≡ Some x → same_page (page_at x.enclave x.number) g ≡ true → xs ≡ [])
    → word_by (added_with page place g o) xs n k ≡ word_with page g k (word_by o xs n k)
kept_or_new None place g o xs n k le none = refl
kept_or_new (Some x) place g o xs n k le none =
    kept_if (same_page (page_at x.enclave x.number) g) x o xs place n k le (none x refl)
    ∙ ap (λ b. if b then Some (get_or (first_words x.init) k 0) else word_by o xs n k) (same_page-swap (page_at x.enclave x.number) g)

-- a word that is written
found_now : (o : Option Added) (xs : List Change) (b n k : ℕ) (p : Option ℕ) → is_some o ≡ is_some p → IsBy b o → b ≤ n
    → ((first v : ℕ) → p ≡ Some v → value_at first xs n ≡ v) → word_by o xs n k ≡ p
unfolding IsBy
found_now None xs b n k None there by le is = refl
found_now None xs b n k (Some v) there by le is = absurd (false≢true there)
found_now (Some new) xs b n k None there by le is = absurd (false≢true (sym there))
found_now (Some new) xs b n k (Some v) there by le is =
    rw (le-leb new.place n (omega (arith, by, le))) (ap Some (is (get_or (first_words new.init) k 0) v refl))

change_tells : (place n first v : ℕ) → place ≤ n → value_at first (change_to place (Some v)) n ≡ v
change_tells place n first v le = rw (le-leb place n le) refl

written_now : (place : ℕ) (m : FlatMemory) (writes : Writes) (was : List Change) (g : Page) (n k first v : ℕ) → place ≤ n
    → is_touched writes g k ≡ true → word_in m g k ≡ Some v
    → value_at first (changes_with place m writes (word_at g k) was) n ≡ v
written_now place m writes was g n k first v le is has =
    let w = word_at g k in
    let one = noted place m writes.first w in
    let two = noted place m writes.second w in
    let Says : Option ℕ → Type 0 = λ o. Say place o two in
    let says : Say place (Some v) two = subst Says has (noted_says place m writes.second g k) in
    let told : Option ℕ → List Change = change_to place in
    last_append (λ (change : Change). change.place) (λ (change : Change). change.value) first (was ++ one) two n
    ∙ (elim (either (is_word writes.first g k) (is_word writes.second g k) is) [
      | inl here ↦
          ap (λ a. value_at a two n)
          (last_append (λ (change : Change). change.place) (λ (change : Change). change.value) first was one n
          ∙ ap (λ xs. value_at (value_at first was n) xs n) (is_noted place m writes.first g k here ∙ ap told has)
          ∙ change_tells place n (value_at first was n) v le)
          ∙ says_same place v two n le says
      | inr there ↦
          ap (λ xs. value_at (value_at first (was ++ one) n) xs n) (is_noted place m writes.second g k there ∙ ap told has)
          ∙ change_tells place n (value_at first (was ++ one) n) v le
    ])

not_written : (place : ℕ) (m : FlatMemory) (writes : Writes) (was : List Change) (g : Page) (k : ℕ) → is_touched writes g k ≡ false
    → changes_with place m writes (word_at g k) was ≡ was
not_written place m writes was g k none =
    let both = neither (is_word writes.first g k) (is_word writes.second g k) none in
    let one = not_noted place m writes.first g k both.0 in
    let two = not_noted place m writes.second g k both.1 in
    (λ i. (was ++ one i) ++ two i) ∙ append-nil (was ++ []) ∙ append-nil was

-- ---- all entries

behind_entry : (b : Bool) (e : Entry) (past : List Entry) (g : Page) (n k : ℕ)
    → is_touched (touched (flat past) e.actor e.event) g k ≡ b → length past + 1 ≤ n
    → word_by (added past g) (changes past (word_at g k)) n k ≡ word past g k
    → word_by (added (e ∷ past) g) (changes (e ∷ past) (word_at g k)) n k ≡ word (e ∷ past) g k
behind_entry true e past g n k touches le was =
    let more : length past + 1 ≡ length (e ∷ past) = omega arith in
    found_now (added (e ∷ past) g) (changes (e ∷ past) (word_at g k)) (length (e ∷ past)) n k (word (e ∷ past) g k)
    (is_added (e ∷ past) g k) (added_by_end (e ∷ past) g) (omega (arith, le, more))
    (λ first v has.
    written_now (length past + 1) (flat (e ∷ past)) (touched (flat past) e.actor e.event) (changes past (word_at g k)) g n k first v
    le touches has)
behind_entry false e past g n k none le was =
    ap (λ xs. word_by (added (e ∷ past) g) xs n k)
    (not_written (length past + 1) (flat (e ∷ past)) (touched (flat past) e.actor e.event) (changes past (word_at g k)) g k none)
    ∙ kept_or_new (page_added (flat past) e.actor e.event) (length past + 1) g (added past g) (changes past (word_at g k)) n k le
    (λ x is same. no_changes past g k (new_page past e x g is same))
    ∙ ap (word_with (page_added (flat past) e.actor e.event) g k) was
    ∙ sym (words_after (flat past) e g k none)

pub word_before : (past : List Entry) (g : Page) (n k : ℕ)
    → word_by (added past g) (changes past (word_at g k)) n k ≡ word (first_entries n past) g k
word_before [] g n k = ap (λ past. word past g k) (sym (before_all [] n (omega arith)))
word_before (e ∷ past) g n k =
    elim (cases_lt (length past) n) [
      | inl behind ↦
          behind_entry (is_touched (touched (flat past) e.actor e.event) g k) e past g n k refl (omega (arith, behind))
          (word_before past g n k ∙ ap (λ q. word q g k) (before_all past n (omega (arith, behind))))
          ∙ ap (λ q. word q g k) (sym (before_all (e ∷ past) n (omega (arith, behind))))
      | inr up ↦
          found_before (added (e ∷ past) g) (changes (e ∷ past) (word_at g k)) (changes past (word_at g k)) n k
          (λ first. same_before e past g n k first up)
          ∙ not_yet_added (page_added (flat past) e.actor e.event) (length past + 1) g (added past g) (changes past (word_at g k)) n k
          (omega (arith, up)) (λ x is same. new_page past e x g is same)
          ∙ word_before past g n k
          ∙ ap (λ q. word q g k) (sym (before_more e past n up))
    ]
