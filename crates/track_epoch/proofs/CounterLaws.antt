-- What leaving does to the two counts.
use Rattle.std.proofs.Common.{◌≡◌, ℕ, ◌-◌, ◌<◌, ◌≤◌, suc, zero, List, ◌∷◌, replicate, refl, sym, ap, ◌∙◌}
use Rattle.std.proofs.Common.{◌⊎◌, inl, inr, arith}
use Rattle.std.specs.Prelude.{Contains}
use Rattle.std.proofs.lemmas.Bool.{eq-eqb, ne_eqb}
use Rattle.std.proofs.lemmas.List.{length-replicate, get_or-replicate}
use Rattle.std.proofs.lemmas.List.Elements.{Contains-append_cases}
use Rattle.track_epoch.specs.inner.Counters.{noted_by}
use Rattle.track_epoch.specs.inner.Tracking.{without}

-- what is in a list of n times y
contains_replicate : (n y x : ℕ) → Contains (replicate n y) x → (x ≡ y) × (0 < n)
contains_replicate n y x (k, low, here) =
    let inside : k < n = rw length-replicate at low in
    (sym here ∙ get_or-replicate n k y x inside, omega arith)

-- a noted epoch is that of an older one or of a newer one
contains_noted_by : (epoch older newer x : ℕ) → Contains (noted_by epoch older newer) x
    → ((x ≡ epoch - 1) × (0 < older)) ⊎ ((x ≡ epoch) × (0 < newer))
contains_noted_by epoch older newer x h = by_cases (Contains-append_cases (replicate older (epoch - 1)) (replicate newer epoch) x h)
  where
    by_cases : Contains (replicate older (epoch - 1)) x ⊎ Contains (replicate newer epoch) x
        → ((x ≡ epoch - 1) × (0 < older)) ⊎ ((x ≡ epoch) × (0 < newer))
    by_cases (inl first) = inl (contains_replicate older (epoch - 1) x first)
    by_cases (inr second) = inr (contains_replicate newer epoch x second)

-- an older one fewer
without-older : (epoch older newer : ℕ) → 0 < older → noted_by epoch (older - 1) newer ≡ without (noted_by epoch older newer) (epoch - 1)
without-older epoch zero newer some = absurd (omega arith)
without-older epoch (suc older) newer some =
    let fewer : suc older - 1 ≡ older = omega arith in rw (eq-eqb (epoch - 1) (epoch - 1) refl, fewer) refl

-- a newer one fewer
without-newer : (epoch older newer : ℕ) → 1 ≤ epoch → 0 < newer
    → noted_by epoch older (newer - 1) ≡ without (noted_by epoch older newer) epoch
without-newer epoch zero zero positive some = absurd (omega arith)
without-newer epoch zero (suc newer) positive some =
    let fewer : suc newer - 1 ≡ newer = omega arith in rw (eq-eqb epoch epoch refl, fewer) refl
without-newer epoch (suc older) newer positive some =
    rw (ne_eqb (epoch - 1) epoch (λ same. omega arith))
    (ap (λ (xs : List ℕ). (epoch - 1) ∷ xs) (without-newer epoch older newer positive some))

-- a processor with an older epoch leaves
pub left_older : (epoch older newer x : ℕ) → 1 ≤ epoch → Contains (noted_by epoch older newer) x → x < epoch
    → noted_by epoch (older - 1) newer ≡ without (noted_by epoch older newer) x
left_older epoch older newer x positive inside is = by_cases (contains_noted_by epoch older newer x inside)
  where
    by_cases : ((x ≡ epoch - 1) × (0 < older)) ⊎ ((x ≡ epoch) × (0 < newer))
        → noted_by epoch (older - 1) newer ≡ without (noted_by epoch older newer) x
    by_cases (inl (same, some)) = rw same (without-older epoch older newer some)
    by_cases (inr (same, some)) = absurd (omega arith)

-- a processor with the present epoch leaves
pub left_newer : (epoch older newer x : ℕ) → 1 ≤ epoch → Contains (noted_by epoch older newer) x → epoch ≤ x
    → noted_by epoch older (newer - 1) ≡ without (noted_by epoch older newer) x
left_newer epoch older newer x positive inside is = by_cases (contains_noted_by epoch older newer x inside)
  where
    by_cases : ((x ≡ epoch - 1) × (0 < older)) ⊎ ((x ≡ epoch) × (0 < newer))
        → noted_by epoch older (newer - 1) ≡ without (noted_by epoch older newer) x
    by_cases (inl (same, some)) = absurd (omega arith)
    by_cases (inr (same, some)) = rw same (without-newer epoch older newer positive some)
