-- The tracks of the enclaves and the processors, where one processor is written.
use Rattle.std.proofs.Common.{◌≡◌, ℕ, suc, ◌+◌, ◌<◌, ◌≤◌, ◌==◌, ◌&&◌, Bool, true, false, cond, refl, sym, ap}
use Rattle.std.proofs.Common.{◌∙◌, arith, Some, List, [], ◌∷◌, ◌++◌, length, get_or, set, length-set}
use Rattle.std.specs.Prelude.{Contains, count_by}
use Rattle.std.proofs.lemmas.Bool.{eqb-true, eq-eqb}
use Rattle.std.proofs.lemmas.List.Sums.{sum_by-set, sum_by_push, sum_by-cons, count_by-le-length}
use Rattle.sgx_types.specs.declared.names.Frame.{Frame}
use Rattle.sgx_types.proofs.CountLaws.{one_if}
use Rattle.cached_translations.specs.declared.processor.Processor.{Processor}
use Rattle.cached_translations.specs.declared.processor.Mode.{Mode}
use Rattle.cached_translations.specs.declared.processor.Mode.TheVariants as modes
use Rattle.cached_translations.specs.inner.Modes.{is_inside}
use Rattle.track_epoch.specs.inner.Tracking.{Tracking, entered, left}
use Rattle.track_epoch.specs.inner.Tracks.{track_of, with_track}
use Rattle.track_epoch.proofs.TrackingLaws.{count_by-without}
use Rattle.track_epoch.proofs.TracksLaws.{track_of-with_track}
use Rattle.sgx_machine.specs.inner.Parts.{is_noted, idle}
use Rattle.sgx_machine.specs.inner.Whole.{IsTracked}

-- how many processors pass, where one is written
count_written : (test : Mode → Bool) (cpus : List Processor) (p : ℕ) (v : Processor) → p < length cpus
    → count_by (λ (c : Processor). test c.mode) (set cpus p v) + one_if (test (let c : Processor = get_or cpus p idle in c).mode) ≡ count_by
    (λ (c : Processor). test c.mode) cpus + one_if (test v.mode)
count_written test cpus p v low = sum_by-set (λ (c : Processor). cond (test c.mode) 1 0) cpus p v idle low

-- a processor outside is noted by no track
outside_unnoted : (e : ℕ) (test : ℕ → Bool) (mode : Mode) → is_inside mode ≡ false → is_noted e test mode ≡ false
outside_unnoted e test modes.Outside is = refl
outside_unnoted e test (modes.Inside enclave tcs tf sf epoch) is = cc is

-- a processor that stays where it is
pub tracked_same : (tracks : List Tracking) (cpus : List Processor) (p : ℕ) (v : Processor) → p < length cpus
    → v.mode ≡ (let c : Processor = get_or cpus p idle in c).mode → IsTracked tracks cpus → IsTracked tracks (set cpus p v)
tracked_same tracks cpus p v low same h e t at test =
    let k = count_written (is_noted e test) cpus p v low in
    let passes : one_if (is_noted e test v.mode) ≡ one_if (is_noted e test (let c : Processor = get_or cpus p idle in c).mode) =
    ap (λ m. one_if (is_noted e test m)) same in
    omega (arith, k, passes, h e t at test)

-- each number counts where the test always passes
all_counted : (xs : List ℕ) → count_by (λ n. true) xs ≡ length xs
all_counted [] = refl
all_counted (x ∷ xs) = omega (arith, sum_by-cons {X = ℕ} (λ n. 1) x xs, all_counted xs)

module _ (tracks : List Tracking) (cpus : List Processor) (p e : ℕ) (t : Tracking) (v : Processor) (eight : length tracks ≡ 8)
    (first : 1 ≤ e) (last : e ≤ 8) (low : p < length cpus) (found : track_of tracks e ≡ Some t) (h : IsTracked tracks cpus) where
  abbrev old : Mode
  old = (let c : Processor = get_or cpus p idle in c).mode

  -- the tracks where one is written, and a processor changed with it
  written : (t' : Tracking) → ((test : ℕ → Bool) → count_by test t'.noted ≡ count_by (λ (c : Processor). is_noted e test c.mode)
      (set cpus p v))
      → ((k : ℕ) → (e == k) ≡ false → (test : ℕ → Bool) → one_if (is_noted k test v.mode) ≡ one_if (is_noted k test old))
      → IsTracked (with_track tracks e t') (set cpus p v)
  written t' own others k u at test = by_enclave (e == k) refl (sym (track_of-with_track tracks e k t' first (omega arith)) ∙ at)
    where
      by_enclave : (b : Bool) → (e == k) ≡ b → cond b (Some t') (track_of tracks k) ≡ Some u
          → count_by test u.noted ≡ count_by (λ (c : Processor). is_noted k test c.mode) (set cpus p v)
      by_enclave true same is = let new : t' ≡ u = cc is in rw (← new, ← eqb-true e k same) (own test)
      by_enclave false other is = omega (arith, h k u is test, count_written (is_noted k test) cpus p v low, others k other test)

  -- a processor outside enters the enclave at the track's epoch
  pub tracked_entered : (tcs : ℕ) (tf sf : Frame) → is_inside old ≡ false → v.mode ≡ modes.Inside e tcs tf sf t.epoch
      → IsTracked (with_track tracks e (entered t)) (set cpus p v)
  tracked_entered tcs tf sf outside is = written (entered t) own others
    where
      noted : (k : ℕ) (test : ℕ → Bool) → is_noted k test v.mode ≡ ((e == k) && test t.epoch)
      noted k test = ap (is_noted k test) is

      own : (test : ℕ → Bool) → count_by test (t.noted ++ t.epoch ∷ []) ≡ count_by (λ (c : Processor). is_noted e test c.mode)
          (set cpus p v)
      own test =
          let here : is_noted e test v.mode ≡ test t.epoch = noted e test ∙ ap (λ b. b && test t.epoch) (eq-eqb e e refl) in
          let k = count_written (is_noted e test) cpus p v low in
          let push = sum_by_push {X = ℕ} (λ n. cond (test n) 1 0) t.noted t.epoch in
          omega (arith, push, rw (here, outside_unnoted e test old outside) at k, h e t found test)

      others : (k : ℕ) → (e == k) ≡ false → (test : ℕ → Bool) → one_if (is_noted k test v.mode) ≡ one_if (is_noted k test old)
      others k other test = rw (noted k test, other, outside_unnoted k test old outside) refl

  -- the track has room for one more, as there are 16 processors at most and one of them is outside
  pub room : length cpus ≤ 16 → is_inside old ≡ false → length t.noted < 16
  room few outside =
      let in_it : Processor = record { mode = modes.Inside e 0 (record { 0 = 0 }) (record { 0 = 0 }) 0; acc = 0; cache = [] } in
      let all : ℕ → Bool = λ n. true in
      let k = count_written (is_noted e all) cpus p in_it low in
      let passes : is_noted e all in_it.mode ≡ true = ap (λ b. b && true) (eq-eqb e e refl) in
      let most = count_by-le-length (λ (c : Processor). is_noted e all c.mode) (set cpus p in_it) in
      let count : count_by all t.noted ≡ length t.noted = all_counted t.noted in
      omega (arith, rw (passes, outside_unnoted e all old outside) at k, rw length-set at most, count, h e t found all)

  -- a processor inside leaves
  pub tracked_left : (tcs : ℕ) (tf sf : Frame) (epoch : ℕ) → old ≡ modes.Inside e tcs tf sf epoch → v.mode ≡ modes.Outside
      → Contains t.noted epoch → IsTracked (with_track tracks e (left t epoch)) (set cpus p v)
  tracked_left tcs tf sf epoch was is counted = written (left t epoch) own others
    where
      noted : (k : ℕ) (test : ℕ → Bool) → is_noted k test old ≡ ((e == k) && test epoch)
      noted k test = ap (is_noted k test) was

      gone : (k : ℕ) (test : ℕ → Bool) → is_noted k test v.mode ≡ false
      gone k test = ap (is_noted k test) is

      own : (test : ℕ → Bool) → count_by test (left t epoch).noted ≡ count_by (λ (c : Processor). is_noted e test c.mode) (set cpus p v)
      own test =
          let here : is_noted e test old ≡ test epoch = noted e test ∙ ap (λ b. b && test epoch) (eq-eqb e e refl) in
          let k = count_written (is_noted e test) cpus p v low in
          omega (arith, count_by-without test t.noted epoch counted, rw (here, gone e test) at k, h e t found test)

      others : (k : ℕ) → (e == k) ≡ false → (test : ℕ → Bool) → one_if (is_noted k test v.mode) ≡ one_if (is_noted k test old)
      others k other test = rw (noted k test, other, gone k test) refl

-- a list with a number that passes has it
contains_counted : (xs : List ℕ) (x : ℕ) → 0 < count_by (λ n. n == x) xs → Contains xs x
contains_counted [] x some = absurd (omega arith)
contains_counted (y ∷ ys) x some = by_test (y == x) refl (sum_by-cons {X = ℕ} (λ n. one_if (n == x)) y ys) (contains_counted ys x)
  where
    by_test : (b : Bool) → (y == x) ≡ b → count_by (λ n. n == x) (y ∷ ys) ≡ one_if (y == x) + count_by (λ n. n == x) ys
        → (0 < count_by (λ n. n == x) ys → Contains ys x) → Contains (y ∷ ys) x
    by_test true same count more = (0, omega arith, eqb-true y x same)
    by_test false other count more =
        let none : one_if (y == x) ≡ 0 = ap one_if other in
        let rest = more (omega (arith, some, none, count)) in
        (suc rest.0, omega (arith, rest.1), rest.2)

-- a track counts a processor inside, by the epoch that it noted
pub counted : (tracks : List Tracking) (cpus : List Processor) (p e tcs : ℕ) (tf sf : Frame) (epoch : ℕ) (t : Tracking) → p < length cpus
    → track_of tracks e ≡ Some t
    → (let c : Processor = get_or cpus p idle in c).mode ≡ modes.Inside e tcs tf sf epoch → IsTracked tracks cpus → Contains t.noted epoch
counted tracks cpus p e tcs tf sf epoch t low found was h =
    let test : ℕ → Bool = λ n. n == epoch in
    let k = count_written (is_noted e test) cpus p idle low in
    let passes : is_noted e test (let c : Processor = get_or cpus p idle in c).mode ≡ true = ap (is_noted e test) was
    ∙ ap (λ b. b && (epoch == epoch)) (eq-eqb e e refl) ∙ eq-eqb epoch epoch refl in
    contains_counted t.noted epoch (omega (arith, rw passes at k, h e t found test))
