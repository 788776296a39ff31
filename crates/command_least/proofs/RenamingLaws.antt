-- A plan by other names of the pages is as good.
use Rattle.std.proofs.Common.{◌≡◌, ℕ, ◌+◌, Bool, true, false, not, ◌||◌, cond, List, [], ◌∷◌, ◌++◌, length, map}
use Rattle.std.proofs.Common.{refl, sym, ap, subst, ◌∙◌, arith}
use Rattle.std.specs.List.{IsDistinct}
use Rattle.std.proofs.lemmas.Bool.{false≢true}
use Rattle.std.proofs.lemmas.List.{length-map, map-append}
use Rattle.sgx_types.specs.declared.names.Page.{Page}
use Rattle.sgx_types.specs.Pages.{same_page}
use Rattle.sgx_types.proofs.Pages.{same_pages, same_page-refl}
use Rattle.least_reloads.specs.Plans.{StepView, PlanView, IsStep, IsRun, IsLawful, held_behind, has, kept, loads_of}
use Rattle.least_reloads.proofs.Pages.{distinct_cons, distinct_parts, none_distinct}
use Rattle.command_least.specs.Fewest.{IsFewest}
use Rattle.command_least.specs.inner.Naming.{Renaming}

-- the names the other way
abbrev pub turned : Renaming → Renaming
turned r = record { to = r.back; back = r.to; there = r.here; here = r.there }

same_by : (r : Renaming) (g x : Page) (a b : Bool) → same_page g (r.to x) ≡ a → same_page (r.back g) x ≡ b → a ≡ b
same_by r g x true true e f = refl
same_by r g x false false e f = refl
same_by r g x true false e f =
    let is : r.back g ≡ x = ap r.back (same_pages g (r.to x) e) ∙ r.there x in
    absurd (false≢true (sym f ∙ ap (λ y. same_page y x) is ∙ same_page-refl x))
same_by r g x false true e f =
    let is : r.to x ≡ g = ap r.to (sym (same_pages (r.back g) x f)) ∙ r.here g in
    absurd (false≢true (sym e ∙ ap (same_page g) is ∙ same_page-refl g))

pub same_named : (r : Renaming) (g x : Page) → same_page g (r.to x) ≡ same_page (r.back g) x
same_named r g x = same_by r g x (same_page g (r.to x)) (same_page (r.back g) x) refl refl

pub has_named : (r : Renaming) (pages : List Page) (g : Page) → has (map r.to pages) g ≡ has pages (r.back g)
has_named r [] g = refl
has_named r (x ∷ pages) g =
    ap (λ b. b || has (map r.to pages) g) (same_named r g x) ∙ ap (λ b. same_page (r.back g) x || b) (has_named r pages g)

has_to : (r : Renaming) (pages : List Page) (x : Page) → has (map r.to pages) (r.to x) ≡ has pages x
has_to r pages x = has_named r pages (r.to x) ∙ ap (has pages) (r.there x)

distinct_named : (r : Renaming) (pages : List Page) → IsDistinct same_page pages → IsDistinct same_page (map r.to pages)
distinct_named r [] once = none_distinct
distinct_named r (x ∷ pages) once =
    let parts = distinct_parts x pages once in
    distinct_cons (r.to x) (map r.to pages) (has_to r pages x ∙ parts.0) (distinct_named r pages parts.1)

abbrev pub step_named : Renaming → StepView → StepView
step_named r step = record { out = map r.to step.out; load = map r.to step.load }

map_cond : (r : Renaming) (b : Bool) (x : Page) (some none : List Page)
    → cond b (r.to x ∷ map r.to some) (map r.to none) ≡ map r.to (cond b (x ∷ some) none)
map_cond r true x some none = refl
map_cond r false x some none = refl

kept_named : (r : Renaming) (held : List Page) (step : StepView) → kept (map r.to held) (step_named r step) ≡ map r.to (kept held step)
kept_named r [] step = refl
kept_named r (x ∷ held) step =
    ap (λ b. cond (not b) (r.to x ∷ kept (map r.to held) (step_named r step)) (kept (map r.to held) (step_named r step)))
    (has_to r step.out x)
    ∙ ap (λ rest. cond (not (has step.out x)) (r.to x ∷ rest) rest) (kept_named r held step)
    ∙ map_cond r (not (has step.out x)) x (kept held step) (kept held step)

after_named : (r : Renaming) (held : List Page) (step : StepView)
    → held_behind (map r.to held) (step_named r step) ≡ map r.to (held_behind held step)
after_named r held step =
    ap (λ rest. rest ++ map r.to step.load) (kept_named r held step) ∙ sym (map-append r.to (kept held step) step.load)

named_step : (r : Renaming) (frames : ℕ) (held : List Page) (x : Page) (step : StepView) → IsStep frames held x step
    → IsStep frames (map r.to held) (r.to x) (step_named r step)
named_step r frames held x step is = record {
  out_held = λ g goes. has_named r held g ∙ is.out_held (r.back g) (sym (has_named r step.out g) ∙ goes);
  out_once = distinct_named r step.out is.out_once;
  load_absent = λ g comes.
      ap (λ pages. has pages g) (kept_named r held step) ∙ has_named r (kept held step) g
      ∙ is.load_absent (r.back g) (sym (has_named r step.load g) ∙ comes);
  load_once = distinct_named r step.load is.load_once;
  fits = let same : length (held_behind (map r.to held) (step_named r step)) ≡ length (held_behind held step) =
      ap length (after_named r held step) ∙ length-map (held_behind held step) r.to in omega (arith, same, is.fits);
  accessed_held = ap (λ pages. has pages (r.to x)) (after_named r held step) ∙ has_to r (held_behind held step) x ∙ is.accessed_held;
}

named_run : (r : Renaming) (frames : ℕ) (held accesses : List Page) (steps : List StepView) → IsRun frames held accesses steps
    → IsRun frames (map r.to held) (map r.to accesses) (map (step_named r) steps)
named_run r frames held [] [] run = tt
named_run r frames held [] (step ∷ steps) run = run
named_run r frames held (x ∷ accesses) [] run = run
named_run r frames held (x ∷ accesses) (step ∷ steps) run =
    let Goes : List Page → Type 0 = λ pages. IsRun frames pages (map r.to accesses) (map (step_named r) steps) in (
      named_step r frames held x step run.0,
      subst Goes (sym (after_named r held step)) (named_run r frames (held_behind held step) accesses steps run.1),
    )

named_loads : (r : Renaming) (steps : List StepView) → loads_of (map (step_named r) steps) ≡ loads_of steps
named_loads r [] = refl
named_loads r (step ∷ steps) = ap (λ n. n + loads_of (map (step_named r) steps)) (length-map step.load r.to)
    ∙ ap (λ n. length step.load + n) (named_loads r steps)

abbrev pub plan_named : Renaming → PlanView → PlanView
plan_named r plan = record { steps = map (step_named r) plan.steps; loads = plan.loads }

pub lawful_named : (r : Renaming) (accesses : List Page) (frames : ℕ) (plan : PlanView) → IsLawful accesses frames plan
    → IsLawful (map r.to accesses) frames (plan_named r plan)
lawful_named r accesses frames plan lawful = record {
  run = named_run r frames [] accesses plan.steps lawful.run;
  counted = lawful.counted ∙ sym (named_loads r plan.steps);
}

back_again : (r : Renaming) (accesses : List Page) → map r.back (map r.to accesses) ≡ accesses
back_again r [] = refl
back_again r (x ∷ accesses) = ap (λ y. y ∷ map r.back (map r.to accesses)) (r.there x) ∙ ap (λ rest. x ∷ rest) (back_again r accesses)

-- the fewest loads for accesses are those for the same accesses by other names
pub fewest_named : (r : Renaming) (accesses : List Page) (frames loads : ℕ) → IsFewest (map r.to accesses) frames loads
    → IsFewest accesses frames loads
fewest_named r accesses frames loads fewest =
    let Is : List Page → Type 0 = λ pages. IsLawful pages frames (plan_named (turned r) fewest.plan) in
    record {
      plan = plan_named (turned r) fewest.plan;
      lawful = subst Is (back_again r accesses) (lawful_named (turned r) (map r.to accesses) frames fewest.plan fewest.lawful);
      makes = fewest.makes;
      least = λ other is. fewest.least (plan_named r other) (lawful_named r accesses frames other is);
    }
