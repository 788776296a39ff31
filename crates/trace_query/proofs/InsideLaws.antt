-- Whether a processor is inside an enclave, or caches a page, is seen from those that were ever inside.
use Rattle.std.proofs.Common.{inl, inr}
use Rattle.std.proofs.Common.{◌≡◌, ℕ, zero, suc, ◌≤◌, ◌||◌, Bool, true, false, List, ◌∷◌, Option, Some, None}
use Rattle.std.proofs.Common.{refl, sym, ap, ◌∙◌, arith}
use Rattle.std.proofs.lemmas.Bool.{cases_lt}
use Rattle.sgx_rules.specs.declared.entries.Entry.{Entry}
use Rattle.sgx_rules.specs.Processors.{Stay, stay, BareTranslation, translations}
use Rattle.sgx_types.specs.declared.names.Page.{Page}
use Rattle.trace_query.specs.declared.insides.Insides.{Insides}
use Rattle.trace_query.specs.declared.steps.Step.{Step}
use Rattle.trace_query.specs.Spans.{is_inside, caches, is_any_below, is_entered, is_cached}
use Rattle.trace_query.specs.inner.Insides.{is_in, sees, entered_below, cached_below, InsidesFollow, InsidesMake}
use Rattle.trace_query.specs.inner.Sights.{sight, sight_by, sight_in, sight_after, step_by}
use Rattle.trace_query.proofs.SpanLaws.{caches_seen, sight_more}

-- ---- some of the numbers below one

or_none : (a b : Bool) → b ≡ false → a ≡ (a || b)
or_none true b h = refl
or_none false b h = sym h

any_within : (is : ℕ → Bool) (k n : ℕ) → k ≤ n → ((p : ℕ) → k ≤ p → is p ≡ false) → is_any_below k is ≡ is_any_below n is
any_within is k zero le none =
    let same : k ≡ 0 = omega (arith, le) in ap (λ j. is_any_below j is) same
any_within is k (suc n) le none =
    elim (cases_lt n k) [
      | inl all ↦
          (let same : k ≡ suc n = omega (arith, le, all) in
          ap (λ j. is_any_below j is) same)
      | inr up ↦ any_within is k n up none ∙ or_none (is_any_below n is) (is n) (none n up)
    ]

any_same : (is it : ℕ → Bool) (k : ℕ) → ((p : ℕ) → is p ≡ it p) → is_any_below k is ≡ is_any_below k it
any_same is it zero same = refl
any_same is it (suc k) same = λ i. any_same is it k same i || same k i

-- ---- what is seen of a processor

inside_by : (o : Option Stay) (t : List BareTranslation) (enclave : ℕ) → is_in (sight_by o t).enclave enclave ≡ is_inside o enclave
inside_by None t enclave = refl
inside_by (Some here) t enclave = refl

pub entered_all : (known : Insides) (past : List Entry) (k enclave : ℕ) → InsidesFollow known past → k ≡ known.cpus
    → entered_below k known.processors enclave ≡ is_entered past enclave
unfolding is_entered
entered_all known past k enclave f is =
    let here : ℕ → Bool = λ p. is_in (sight_in known.processors p).enclave enclave in
    any_within here k 256 (omega (arith, is, f.most)) (λ p le. ap (λ s. is_in s.enclave enclave) (f.outside p (omega (arith, is, le))))
    ∙ any_same here (λ p. is_inside (stay past p) enclave) 256
    (λ p. ap (λ s. is_in s.enclave enclave) (f.sights p) ∙ inside_by (stay past p) (translations past p) enclave)

pub cached_all : (known : Insides) (past : List Entry) (k : ℕ) (g : Page) → InsidesFollow known past → k ≡ known.cpus
    → cached_below k known.processors g ≡ is_cached past g
unfolding is_cached
cached_all known past k g f is =
    let here : ℕ → Bool = λ p. sees (sight_in known.processors p) g.enclave g.number in
    any_within here k 256 (omega (arith, is, f.most))
    (λ p le. ap (λ s. sees s g.enclave g.number) (f.outside p (omega (arith, is, le))))
    ∙ any_same here (λ p. caches past p g) 256
    (λ p. ap (λ s. sees s g.enclave g.number) (f.sights p) ∙ sym (caches_seen past p g))

-- ---- one entry more

pub inside_more : (old new : Insides) (e : Entry) (past : List Entry) (step : Option Step) → InsidesFollow old past
    → step ≡ step_by e.actor e.event → InsidesMake old step new → InsidesFollow new (e ∷ past)
inside_more old new e past step f is makes = record {
  sights = λ p.
      makes.sights p
      ∙ ap (sight_after step p) (f.sights p)
      ∙ ap (λ s. sight_after s p (sight past p)) is
      ∙ sym (sight_more e past p);
  most = makes.most f.most;
  outside = makes.outside f.outside;
}
