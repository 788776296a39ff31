-- What a word says is what was put into it, and what a change of it leaves.
use Rattle.std.proofs.Common.{◌≡◌, ℕ, ◌+◌, ◌-◌, ◌*◌, ◌/◌, ◌%◌, ◌<◌, inl, inr, Bool, true, false, cond, eqb}
use Rattle.std.proofs.Common.{refl, arith}
use Rattle.epoch_words.specs.declared.seen.Seen.{Seen}
use Rattle.epoch_words.specs.inner.Seen.{seen, word_of, seen_in, IsLawful, IsInside, Changes, IsNotAhead}

epoch_back : (e o n : ℕ) → o < 4096 → n < 4096 → (e * 16777216 + o * 4096 + n) / 16777216 ≡ e
epoch_back e o n a b = omega arith

older_back : (e o n : ℕ) → o < 4096 → n < 4096 → (e * 16777216 + o * 4096 + n) / 4096 % 4096 ≡ o
older_back e o n a b = omega arith

newer_back : (e o n : ℕ) → o < 4096 → n < 4096 → (e * 16777216 + o * 4096 + n) % 4096 ≡ n
newer_back e o n a b = omega arith

pub seen_in-word_of : (s : Seen) → IsLawful s → seen_in (word_of s) ≡ s
seen_in-word_of s h =
    let few = h.few in
    λ i. seen (epoch_back s.epoch s.older s.newer (omega arith) (omega arith) i)
    (older_back s.epoch s.older s.newer (omega arith) (omega arith) i)
    (newer_back s.epoch s.older s.newer (omega arith) (omega arith) i)

-- ---- the order

pub not_ahead_of_itself : (s : Seen) → IsNotAhead s s
not_ahead_of_itself s = record { epoch = omega arith; older = λ _. omega arith }

pub not_ahead_further : (s t u : Seen) → IsNotAhead s t → IsNotAhead t u → IsNotAhead s u
not_ahead_further s t u p q = record {
  epoch = omega (arith, p.epoch, q.epoch);
  older = λ same.
      let one = p.epoch in
      let two = q.epoch in
      omega (arith, p.older (omega arith), q.older (omega arith));
}

-- ---- a change

left_is : (s : Seen) (epoch : ℕ) (t : Seen) → IsInside s epoch → (b : Bool) → eqb epoch s.epoch ≡ b → IsLawful s
    → t ≡ cond b (seen s.epoch s.older (s.newer - 1)) (seen s.epoch (s.older - 1) s.newer) → IsNotAhead s t × IsLawful t
left_is s epoch t inside true same lawful is =
    rw is (record { epoch = omega arith; older = λ _. omega arith }, record { limited = lawful.limited; few = omega (arith, lawful.few) })
left_is s epoch t inside false other lawful is =
    rw is (record { epoch = omega arith; older = λ _. omega arith }, record { limited = lawful.limited; few = omega (arith, lawful.few) })

pub changes : (s t : Seen) → Changes s t → IsLawful s → IsNotAhead s t × IsLawful t
changes s t (inl (room, is)) lawful =
    rw is (record { epoch = omega arith; older = λ _. omega arith }, record { limited = lawful.limited; few = omega (arith, room) })
changes s t (inr (inl (epoch, inside, is))) lawful = left_is s epoch t inside (eqb epoch s.epoch) refl lawful is
changes s t (inr (inr (can, is))) lawful = rw is (
  record { epoch = omega arith; older = λ same. absurd (omega arith) },
  record
      { limited = omega (arith, can.1); few = omega (arith, lawful.few) },
)
