-- What each kind of entry leaves of the SECSs and version array pages that have to be here.
use Rattle.std.proofs.Common.{◌≡◌, ℕ, zero, suc, ◌+◌, ◌<◌, ◌==◌, ◌&&◌, not, nat_lt, Bool}
use Rattle.std.proofs.Common.{true, false, if◌then◌else◌, refl, sym, ◌∙◌, ap, subst}
use Rattle.std.proofs.Common.{Option, Some, None, is_some, arith}
use Rattle.std.proofs.lemmas.Bool.{eqb-true, eq-eqb, false≢true}
use Rattle.sgx_types.proofs.Pages.{same_page-refl, same_pages}
use Rattle.sgx_types.specs.declared.names.Kind.{Kind}
use Rattle.sgx_types.specs.declared.names.Page.{Page}
use Rattle.sgx_types.specs.declared.names.Perm.{Perm}
use Rattle.sgx_rules.specs.Table.{is_loading, is_own}
use Rattle.sgx_rules.specs.Frames.{Content, Free, Holds, is_child, is_this, IsLoading, IsVa, page_there, reloaded, reloaded_as, SecsOf}
use Rattle.sgx_rules.specs.Frames.{stands}
use Rattle.sgx_types.specs.Pages.{is_own_page, is_secs_page, is_va_page, same_page, secs_page, va_page}
use Rattle.sgx_rules.specs.Starts.{Start}
use Rattle.driver_rules.specs.Places.{Absent, Away, back_from, comes_into, gone_to, Here, is_here, leaves, Leaving, Loading, Place}
use Rattle.driver_laws.specs.inner.Sound.{ArraysAreHere, HeldAreOwn, is_absent, SecsAreHere, waiting}

-- ---- in general

secs_by : (at now : Page → Place) (held later : ℕ → Content) → ((e : ℕ) → (e == 0) ≡ false → is_here (at (secs_page e)) ≡ true
    → is_here (now (secs_page e)) ≡ true)
    → ((n e : ℕ) → (e == 0) ≡ false → is_child (later n) e ≡ true → is_here (at (secs_page e)) ≡ true) → SecsAreHere now later
secs_by at now held later kept here n e some child = kept e some (here n e some child)

-- a page that comes here leaves the others that are
pub here_more : (at : Page → Place) (a : Page) (f : ℕ) (g : Page) → is_here (at g) ≡ true
    → is_here (if same_page a g then Here f else at g) ≡ true
here_more at a f g here = by_page (same_page a g)
  where
    by_page : (b : Bool) → is_here (if b then Here f else at g) ≡ true
    by_page true = refl
    by_page false = here

-- ---- SECSs

-- a page comes into a free frame for the first time, that is none of an enclave
pub secs_more : (at : Page → Place) (held : ℕ → Content) (f : ℕ) (a : Page) (c : Content) → SecsAreHere at held
    → ((e : ℕ) → (e == 0) ≡ false → is_child c e ≡ true → is_here (at (secs_page e)) ≡ true)
    → SecsAreHere (λ g. if same_page a g then Here f else at g) (λ n. if f == n then c else held n)
secs_more at held f a c s fits =
    secs_by at (λ g. if same_page a g then Here f else at g) held (λ n. if f == n then c else held n)
    (λ e some. here_more at a f (secs_page e)) (λ n e some. by_frame n e some (f == n))
  where
    by_frame : (n e : ℕ) → (e == 0) ≡ false → (b : Bool) → is_child (if b then c else held n) e ≡ true → is_here (at (secs_page e)) ≡ true
    by_frame n e some true child = fits e some child
    by_frame n e some false child = s n e some child

-- where none of the places that are here changes, and a frame takes what is no page of an enclave, or one whose SECS is here
pub secs_put : (at now : Page → Place) (held : ℕ → Content) (f : ℕ) (c : Content) → SecsAreHere at held
    → ((g : Page) → is_here (now g) ≡ is_here (at g))
    → ((e : ℕ) → (e == 0) ≡ false → is_child c e ≡ true → is_here (at (secs_page e)) ≡ true)
    → SecsAreHere now (λ n. if f == n then c else held n)
secs_put at now held f c s same fits =
    secs_by at now held (λ n. if f == n then c else held n) (λ e some here. same (secs_page e) ∙ here)
    (λ n e some. by_frame n e some (f == n))
  where
    by_frame : (n e : ℕ) → (e == 0) ≡ false → (b : Bool) → is_child (if b then c else held n) e ≡ true → is_here (at (secs_page e)) ≡ true
    by_frame n e some true child = fits e some child
    by_frame n e some false child = s n e some child

-- a page leaves, of whose enclave no page is in a frame where it is a SECS
pub secs_taken : (at : Page → Place) (held : ℕ → Content) (a : Page) → SecsAreHere at held
    → (is_secs_page a ≡ true → (n : ℕ) → is_child (held n) a.enclave ≡ false)
    → SecsAreHere (λ g. if same_page a g then leaves (at g) else at g) held
secs_taken at held a s alone n e some child = by_page (same_page a (secs_page e)) refl
  where
    secs : is_secs_page (secs_page e) ≡ true
    secs = rw some refl

    by_page : (b : Bool) → same_page a (secs_page e) ≡ b → is_here (if b then leaves (at (secs_page e)) else at (secs_page e)) ≡ true
    by_page true is =
        let itself : a ≡ secs_page e = same_pages a (secs_page e) is in
        let none = alone (subst (λ (g : Page). is_secs_page g ≡ true) (sym itself) secs) n in
        absurd (false≢true (sym none ∙ ap (λ (g : Page). is_child (held n) g.enclave) itself ∙ child))
    by_page false is = s n e some child

own_child : (b c : Bool) → (b && c) ≡ true → c ≡ true
own_child true c h = h
own_child false c h = absurd (false≢true h)

-- what a reloaded page is a child of, that for which the frame waited was
pub child_back : (page : Page) (k : Option (Kind × Perm)) (e : ℕ) → is_child (reloaded page k) e ≡ true → is_child (IsLoading page) e ≡ true
child_back page k e = by_kind (is_va_page page) (page.number == 4294967295) refl k
  where
    by_kind : (b c : Bool) → (page.number == 4294967295) ≡ c → (o : Option (Kind × Perm))
        → is_child (if b then IsVa page.number else if (not b && c) then SecsOf page.enclave else reloaded_as page o) e ≡ true
        → ((not b && not c) && (page.enclave == e)) ≡ true
    by_kind true c is o child = absurd (false≢true child)
    by_kind false true is o child = absurd (false≢true child)
    by_kind false false is None child = own_child (is_own_page page) (page.enclave == e) child
    by_kind false false is (Some x) child = child

-- ---- version array pages

pub arrays_more : (at : Page → Place) (opened : ℕ → Option Start) (made : ℕ) (a : Page) (f : ℕ) → ArraysAreHere at opened made
    → ArraysAreHere (λ g. if same_page a g then Here f else at g) opened made
arrays_more at opened made a f s = record {
  first = λ some. here_more at a f (va_page 0) (s.first some);
  named = λ n x now. here_more at a f (va_page x.slot.va) (s.named n x now);
}

pub arrays_made : (at : Page → Place) (opened : ℕ → Option Start) (made f : ℕ) → ArraysAreHere at opened made
    → ArraysAreHere (λ g. if same_page (va_page made) g then Here f else at g) opened (made + 1)
arrays_made at opened made f s = record {
  first = λ some. by_number made refl;
  named = λ n x now. here_more at (va_page made) f (va_page x.slot.va) (s.named n x now);
}
  where
    by_number : (m : ℕ) → made ≡ m → is_here (if same_page (va_page made) (va_page 0) then Here f else at (va_page 0)) ≡ true
    by_number zero is = rw (ap (λ n. same_page (va_page n) (va_page 0)) is) refl
    by_number (suc m) is = here_more at (va_page made) f (va_page 0) (s.first (omega (arith, is)))

-- an open start ends, and no place that is here changes
pub arrays_closed : (at now : Page → Place) (opened : ℕ → Option Start) (made f : ℕ) → ArraysAreHere at opened made
    → ((g : Page) → is_here (at g) ≡ true → is_here (now g) ≡ true) → ArraysAreHere now (λ n. if f == n then None else opened n) made
arrays_closed at now opened made f s kept = record {
  first = λ some. kept (va_page 0) (s.first some);
  named = λ n x is. by_frame n x (f == n) is;
}
  where
    by_frame : (n : ℕ) (x : Start) (b : Bool) → (if b then None else opened n) ≡ Some x → is_here (now (va_page x.slot.va)) ≡ true
    by_frame n x true is = cc
    by_frame n x false is = kept (va_page x.slot.va) (s.named n x is)

-- .. or starts, by a slot of a page that is here
pub arrays_opened : (at now : Page → Place) (opened : ℕ → Option Start) (made f : ℕ) (y : Start) → ArraysAreHere at opened made
    → ((g : Page) → is_here (at g) ≡ true → is_here (now g) ≡ true) → is_here (at (va_page y.slot.va)) ≡ true
    → ArraysAreHere now (λ n. if f == n then Some y else opened n) made
arrays_opened at now opened made f y s kept here = record {
  first = λ some. kept (va_page 0) (s.first some);
  named = λ n x is. by_frame n x (f == n) is;
}
  where
    told : (x : Start) → Some y ≡ Some x → y ≡ x
    told x h = cc

    by_frame : (n : ℕ) (x : Start) (b : Bool) → (if b then Some y else opened n) ≡ Some x → is_here (now (va_page x.slot.va)) ≡ true
    by_frame n x true is = kept (va_page x.slot.va) (subst (λ (z : Start). is_here (at (va_page z.slot.va)) ≡ true) (told x is) here)
    by_frame n x false is = kept (va_page x.slot.va) (s.named n x is)

-- a page leaves that is not the first, and of which no start names a slot
pub arrays_taken : (at : Page → Place) (opened : ℕ → Option Start) (made : ℕ) (a : Page) → ArraysAreHere at opened made
    → (is_va_page a ≡ true → (a.number == 0) ≡ false)
    → (is_va_page a ≡ true → (n : ℕ) (x : Start) → opened n ≡ Some x → (x.slot.va == a.number) ≡ false)
    → ArraysAreHere (λ g. if same_page a g then leaves (at g) else at g) opened made
arrays_taken at opened made a s later unnamed = record {
  first = λ some. by_page 0 (same_page a (va_page 0)) refl (s.first some) (λ va. eqb_swap a.number 0 (later va));
  named = λ n x now. by_page x.slot.va (same_page a (va_page x.slot.va)) refl (s.named n x now) (λ va. unnamed va n x now);
}
  where
    eqb_swap : (m n : ℕ) → (m == n) ≡ false → (n == m) ≡ false
    eqb_swap m n h = by_test (n == m) refl
      where
        by_test : (b : Bool) → (n == m) ≡ b → (n == m) ≡ false
        by_test true is = absurd (false≢true (sym h ∙ eq-eqb m n (sym (eqb-true n m is))))
        by_test false is = is

    by_page : (k : ℕ) (b : Bool) → same_page a (va_page k) ≡ b → is_here (at (va_page k)) ≡ true
        → (is_va_page a ≡ true → (k == a.number) ≡ false) → is_here (if b then leaves (at (va_page k)) else at (va_page k)) ≡ true
    by_page k true is here other =
        let itself : a ≡ va_page k = same_pages a (va_page k) is in
        let va : is_va_page a ≡ true = subst (λ (g : Page). is_va_page g ≡ true) (sym itself) refl in
        absurd (false≢true (sym (other va) ∙ eq-eqb k a.number (ap (λ (g : Page). g.number) (sym itself))))
    by_page k false is here other = here

-- ---- pages by their kind

pub held_put : (held : ℕ → Content) (f : ℕ) (c : Content) → HeldAreOwn held
    → ((page : Page) (kind : Kind) (perm : Perm) → c ≡ Holds page kind perm → is_own_page page ≡ true)
    → HeldAreOwn (λ n. if f == n then c else held n)
held_put held f c h new n page kind perm = by_frame (f == n)
  where
    by_frame : (b : Bool) → (if b then c else held n) ≡ Holds page kind perm → is_own_page page ≡ true
    by_frame true k = new page kind perm k
    by_frame false k = h n page kind perm k

-- .. as a page that is back does
pub held_back : (page : Page) (o : Option (Kind × Perm)) (p : Page) (kind : Kind) (perm : Perm) → reloaded page o ≡ Holds p kind perm
    → is_own_page p ≡ true
held_back page o p kind perm = by_kind (page.enclave == 0) (page.number == 4294967295) refl refl o
  where
    by_kind : (b c : Bool) → (page.enclave == 0) ≡ b → (page.number == 4294967295) ≡ c → (o : Option (Kind × Perm))
        → (if b then IsVa page.number else if (not b && c) then SecsOf page.enclave else reloaded_as page o) ≡ Holds p kind perm
        → is_own_page p ≡ true
    by_kind true c is it o h = absurd (false≢true (ap is_own h))
    by_kind false true is it o h = absurd (false≢true (ap is_own h))
    by_kind false false is it None h = absurd (false≢true (ap is_own h))
    by_kind false false is it (Some x) h =
        let same : page ≡ p = cc in
        let own : is_own_page page ≡ true = rw (is, it) refl in
        subst (λ (q : Page). is_own_page q ≡ true) same own
