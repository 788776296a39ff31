-- Which pages there are, and where they are: a page is absent until it is made, created or added.
use Rattle.std.proofs.Common.{◌≡◌, ℕ, ◌+◌, ◌==◌, ◌&&◌, not, nat_lt, Bool, true, false, if◌then◌else◌, refl, sym, ◌∙◌, ap, subst, arith}
use Rattle.std.proofs.Common.{Option, Some, None, is_some}
use Rattle.std.proofs.lemmas.Bool.{eqb-true, eq-eqb, false≢true}
use Rattle.sgx_types.proofs.Pages.{same_pages}
use Rattle.sgx_types.specs.declared.names.Kind.{Kind}
use Rattle.sgx_types.specs.declared.names.Page.{Page}
use Rattle.sgx_types.specs.declared.names.Perm.{Perm}
use Rattle.sgx_rules.specs.Frames.{Content, Holds, IsVa, page_there, reloaded, reloaded_as, SecsOf, stands}
use Rattle.sgx_types.specs.Pages.{is_own_page, is_secs_page, is_va_page, same_page, secs_page, va_page}
use Rattle.sgx_rules.specs.Table.{is_loading}
use Rattle.driver_rules.specs.Places.{Here, Place}
use Rattle.driver_laws.specs.inner.Sound.{is_absent, MadeAreThere}

-- by how many version array pages were made, which enclaves were created and which pages added
abbrev pub there_by : ℕ → (ℕ → Bool) → (Page → Bool) → Page → Bool
there_by made created added g = if is_va_page g then nat_lt g.number made else if is_secs_page g then created g.enclave else added g

swapped : (m n : ℕ) → (m == n) ≡ false → (n == m) ≡ false
swapped m n h = by_eq (n == m) refl
  where
    by_eq : (b : Bool) → (n == m) ≡ b → (n == m) ≡ false
    by_eq true it = absurd (false≢true (sym h ∙ eq-eqb m n (sym (eqb-true n m it))))
    by_eq false it = it

-- one page more that there is, and the others as they were
made_more : (at : Page → Place) (f : ℕ) (a : Page) (was now : Page → Bool) → MadeAreThere at was → now a ≡ true
    → ((g : Page) → same_page a g ≡ false → now g ≡ was g) → MadeAreThere (λ g. if same_page a g then Here f else at g) now
made_more at f a was now s here others g = by_page (same_page a g) refl
  where
    by_page : (b : Bool) → same_page a g ≡ b → now g ≡ not (is_absent (if b then Here f else at g))
    by_page true is = subst (λ (x : Page). now x ≡ true) (same_pages a g is) here
    by_page false is = others g is ∙ s g

-- a version array page is made
pub made_epa : (at : Page → Place) (f made : ℕ) (created : ℕ → Bool) (added : Page → Bool) → MadeAreThere at (there_by made created added)
    → MadeAreThere (λ g. if same_page (va_page made) g then Here f else at g) (there_by (made + 1) created added)
made_epa at f made created added s =
    made_more at f (va_page made) (there_by made created added) (there_by (made + 1) created added) s (grind arith) others
  where
    others : (g : Page) → same_page (va_page made) g ≡ false → there_by (made + 1) created added g ≡ there_by made created added g
    others g other = by_va (g.enclave == 0) (made == g.number) refl refl other
      where
        by_va : (b c : Bool) → (g.enclave == 0) ≡ b → (made == g.number) ≡ c → same_page (va_page made) g ≡ false
            → (if b then nat_lt g.number (made + 1) else if (not b && (g.number == 4294967295)) then created g.enclave else added g)
            ≡ (if b then nat_lt g.number made else if (not b && (g.number == 4294967295)) then created g.enclave else added g)
        by_va true true is it h =
            absurd (false≢true (sym h ∙ rw (eq-eqb 0 g.enclave (sym (eqb-true g.enclave 0 is)), it) refl))
        by_va true false is it h = grind (arith, it)
        by_va false c is it h = refl

-- an enclave is created
pub made_create : (at : Page → Place) (f made e : ℕ) (created now : ℕ → Bool) (added : Page → Bool) → (e == 0) ≡ false → now e ≡ true
    → ((n : ℕ) → (n == e) ≡ false → now n ≡ created n) → MadeAreThere at (there_by made created added)
    → MadeAreThere (λ g. if same_page (secs_page e) g then Here f else at g) (there_by made now added)
made_create at f made e created now added some here same s =
    made_more at f (secs_page e) (there_by made created added) (there_by made now added) s (rw some here) others
  where
    others : (g : Page) → same_page (secs_page e) g ≡ false → there_by made now added g ≡ there_by made created added g
    others g other = by_kind (g.enclave == 0) (g.number == 4294967295) (g.enclave == e) refl refl refl
      where
        by_kind : (b c d : Bool) → (g.enclave == 0) ≡ b → (g.number == 4294967295) ≡ c → (g.enclave == e) ≡ d
            → (if b then nat_lt g.number made else if (not b && c) then now g.enclave else added g)
            ≡ (if b then nat_lt g.number made else if (not b && c) then created g.enclave else added g)
        by_kind true c d is it of = refl
        by_kind false false d is it of = refl
        by_kind false true true is it of =
            absurd (false≢true (sym other ∙ rw (
              eq-eqb e g.enclave (sym (eqb-true g.enclave e of)),
              eq-eqb 4294967295 g.number (sym (eqb-true g.number 4294967295 it)),
            ) refl))
        by_kind false true false is it of = same g.enclave of

-- a page is added
pub made_add : (at : Page → Place) (f made : ℕ) (a : Page) (created : ℕ → Bool) (added now : Page → Bool) → is_own_page a ≡ true
    → now a ≡ true → ((g : Page) → same_page a g ≡ false → now g ≡ added g) → MadeAreThere at (there_by made created added)
    → MadeAreThere (λ g. if same_page a g then Here f else at g) (there_by made created now)
made_add at f made a created added now own here same s =
    made_more at f a (there_by made created added) (there_by made created now) s
    (by_own (a.enclave == 0) (a.number == 4294967295) own)
    (λ g other. by_kind g (is_va_page g) (is_secs_page g) other)
  where
    by_own : (b c : Bool) → (not b && not c) ≡ true
        → (if b then nat_lt a.number made else if (not b && c) then created a.enclave else now a) ≡ true
    by_own false false h = here
    by_own true c h = absurd (false≢true h)
    by_own false true h = absurd (false≢true h)

    by_kind : (g : Page) (b c : Bool) → same_page a g ≡ false
        → (if b then nat_lt g.number made else if c then created g.enclave else now g)
        ≡ (if b then nat_lt g.number made else if c then created g.enclave else added g)
    by_kind g true c other = refl
    by_kind g false true other = refl
    by_kind g false false other = same g other

-- ---- a page that is back

pub own_added : (made : ℕ) (created : ℕ → Bool) (added : Page → Bool) (g : Page) → is_own_page g ≡ true
    → there_by made created added g ≡ true → added g ≡ true
own_added made created added g own there = by_tests (g.enclave == 0) (g.number == 4294967295) own there
  where
    by_tests : (b c : Bool) → (not b && not c) ≡ true
        → (if b then nat_lt g.number made else if (not b && c) then created g.enclave else added g) ≡ true → added g ≡ true
    by_tests false false h k = k
    by_tests true c h k = absurd (false≢true h)
    by_tests false true h k = absurd (false≢true h)

pub record IsBackAs (page : Page) (c : Content) : Type 0 where
  pub holds : (g : Page) → stands c g ≡ same_page page g
  pub no_load : is_loading c ≡ false

pub back_as : (page : Page) (k : Option (Kind × Perm)) → (is_own_page page ≡ true → is_some k ≡ true) → IsBackAs page (reloaded page k)
back_as page k own = by_kind (page.enclave == 0) (page.number == 4294967295) refl refl k own
  where
    by_kind : (b c : Bool) → (page.enclave == 0) ≡ b → (page.number == 4294967295) ≡ c → (o : Option (Kind × Perm))
        → ((not b && not c) ≡ true → is_some o ≡ true)
        → IsBackAs page (if b then IsVa page.number else if (not b && c) then SecsOf page.enclave else reloaded_as page o)
    by_kind true c is it o h =
        let itself : va_page page.number ≡ page =
        λ i. record { enclave = sym (eqb-true page.enclave 0 is) i; number = page.number } in
        record { holds = λ g. ap (λ (x : Page). same_page x g) itself; no_load = refl }
    by_kind false true is it o h =
        let itself : secs_page page.enclave ≡ page =
        λ i. record { enclave = page.enclave; number = sym (eqb-true page.number 4294967295 it) i } in
        record { holds = λ g. ap (λ (x : Page). same_page x g) itself; no_load = refl }
    by_kind false false is it None h = absurd (false≢true (h refl))
    by_kind false false is it (Some x) h = record { holds = λ g. refl; no_load = refl }
