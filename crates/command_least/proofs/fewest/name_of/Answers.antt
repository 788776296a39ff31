use Rattle.std.proofs.Common.{◌≡◌, ◌+◌, ℕ, Option, Some, None, cond, [], ◌∷◌, ◌++◌, refl, sym, ap, subst, ◌∙◌}
use Rattle.std.specs.HashMap.{get, hash_map_len}
use Rattle.std.specs.Option.{is_some}
use Rattle.sgx_types.specs.declared.names.Page.{Page}
use Rattle.sgx_types.specs.Pages.{same_page}
use Rattle.command_least.specs.inner.Kept.{page_of, same_access}
use Rattle.command_least.specs.inner.Naming.{AreNamed, access_of, name}
use Rattle.command_least.proofs.NamingLaws.{found_named, new_named}
use Rattle.command_least.proofs.fewest.name_of.Goals as goal

none_from : (o : Option ℕ) → ((n : ℕ) → o ≡ Some n → ⊥) → o ≡ None
none_from None unlike = refl
none_from (Some n) unlike = absurd (unlike n refl)

pub returns-in-Some : goal.returns-in-Some
returns-in-Some c = λ accesses pages was.
    found_named accesses pages (λ g. get same_access c.args.names.now (access_of g)) (hash_map_len c.args.names.now) (page_of c.args.access)
    c.in-Some.name was
    (sym c.get.ensures.value ∙ sym c.copied.ensures ∙ c.in-Some.is)

pub returns : goal.returns
returns c = λ accesses pages was.
    let count = hash_map_len c.args.names.now in
    let none : get same_access c.args.names.now c.args.access ≡ None =
    sym c.get.ensures.value ∙ sym c.copied.ensures ∙ none_from c.copied.result c.in_default.not-Some in
    let is : c.in-Ok.name ≡ count = c.in-Ok.ensures.1 ∙ c.len.ensures.len in
    let more : hash_map_len c.insert.new.self ≡ count + 1 = c.in_ok-insert.ensures.len
    ∙ ap (λ o. count + cond (is_some o) 0 1) (c.in_ok-insert.ensures.old ∙ none) in
    let look = λ (g : Page). get same_access c.args.names.now (access_of g) in
    let look' = λ (g : Page). get same_access c.insert.new.self (access_of g) in
    let x = page_of c.args.access in
    let Is : ℕ → Type 0 = λ n. AreNamed (accesses ++ x ∷ []) (pages ++ name c.in-Ok.name ∷ []) look' n in
    let Named : ℕ → Type 0 = λ n. AreNamed (accesses ++ x ∷ []) (pages ++ name n ∷ []) look' (count + 1) in
    subst Is (sym more)
    (subst Named (sym is)
    (new_named accesses pages look look' count x was none
    (λ g. c.in_ok-insert.ensures.updates.0 (access_of g) ∙ ap (λ n. cond (same_page x g) (Some n) (look g)) is)))
