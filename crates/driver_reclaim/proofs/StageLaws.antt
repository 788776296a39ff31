-- The page of the pass that is due, by how far it is.
use Rattle.std.proofs.Common.{◌≡◌, ℕ, zero, suc, true, false, refl, ◌∙◌, ap, subst, List, [], ◌∷◌, drop}
use Rattle.std.proofs.Common.{Option, Some, None, slice_get}
use Rattle.sgx_types.specs.Making.{Making}
use Rattle.sgx_types.specs.Pages.{is_own_page}
use Rattle.sgx_types.specs.declared.names.Page.{Page}
use Rattle.sgx_rules.specs.declared.entries.Entry.{Entry}
use Rattle.sgx_rules.specs.Starts.{open_start}
use Rattle.job_grammar.specs.Jobs.{JobView}
use Rattle.sgx_machine.specs.inner.Parts.{Parts}
use Rattle.driver_rules.specs.Passes as passes
use Rattle.driver_rules.specs.Passes.{aside, Blocking, Pass, pass, Tries}
use Rattle.driver_rules.specs.Places.{Leaving, place}
use Rattle.driver_laws.specs.inner.Stages.{HasAside, HasPages, IsTaken}
use Rattle.driver_laws.specs.inner.Tracks.{KeepsTracks}
use Rattle.driver_tables.specs.declared.driver.Driver.{Driver}
use Rattle.driver_pass.specs.declared.stages.Aside.TheVariants as asides
use Rattle.driver_pass.specs.declared.stages.Form.{Form}
use Rattle.driver_pass.specs.declared.stages.Stage.TheVariants as stages
use Rattle.driver_pass.specs.declared.stages.Taken.{Taken}
use Rattle.driver_pass.specs.inner.Standing.{AreInFrames, IsAside, IsForm, IsStage}
use Rattle.driver_pass.specs.inner.Viewed.{aside_by, form_in, pages_in, pass_by, PassView, tries_of, waiting_by}
use Rattle.driver_reclaim.specs.inner.Ready.{Ready}
use Rattle.driver_reclaim.specs.inner.Turning.{WithPage}
use Rattle.driver_reclaim.proofs.RowLaws.{in_frame}

-- ---- places in a list

pub drop_get : (n : ℕ) (xs : List Taken) (x : Taken) (ys : List Taken) → drop n xs ≡ x ∷ ys → slice_get xs n ≡ Some x
drop_get zero [] x ys h = cc
drop_get zero (z ∷ zs) x ys h = cc
drop_get (suc n) [] x ys h = cc
drop_get (suc n) (z ∷ zs) x ys h = drop_get n zs x ys h

pub frames_behind : (past : List Entry) (n : ℕ) (xs : List Taken) → AreInFrames past xs → AreInFrames past (drop n xs)
frames_behind past zero xs h = h
frames_behind past (suc n) [] h = h
frames_behind past (suc n) (x ∷ xs) h = frames_behind past n xs h.1

pub with_page : (o : Option Taken) (one : Taken) (none : Type 0) (says : Taken → Type 0) → o ≡ Some one → WithPage o none says → says one
with_page o one none says is k = subst (λ x. WithPage x none says) is k

-- ---- the page that is due

-- it is to be blocked
pub record InBlocks (j : JobView) (past : List Entry) (v : PassView) (next : ℕ) : Type 0 where
  pub one : Taken
  pub rest : List Taken
  pub found : slice_get v.taken next ≡ Some one
  pub passed : pass j past ≡ Blocking (one.page ∷ pages_in rest) (pages_in v.taken)
  pub at : place past one.page ≡ Leaving one.frame.0
  pub own : is_own_page one.page ≡ true
  pub waits : IsTaken past false one.page

-- it is tried
pub record InTries (first : ℕ) (j : JobView) (past : List Entry) (v : PassView) (next : ℕ) (form : Form) : Type 0 where
  pub one : Taken
  pub rest : List Taken
  pub is : drop next v.taken ≡ one ∷ rest
  pub found : slice_get v.taken next ≡ Some one
  pub passed : pass j past ≡ Tries one.page (pages_in rest) (form_in v.kicks form)
  pub at : place past one.page ≡ Leaving one.frame.0
  pub own : v.aside ≡ asides.None → is_own_page one.page ≡ true
  pub has : HasPages past (Tries one.page (pages_in rest) (form_in v.kicks form))
  pub tracks : KeepsTracks past (Tries one.page (pages_in rest) (form_in v.kicks form))
  pub told : IsForm first past form (one ∷ rest)

module _ (made : Making) (j : JobView) (past : List Entry) (v : PassView) (d : Driver) (m : Parts) (r : Ready made j past v d m) where
  -- where no page leaves beside the passes, each is a TCS or REG page
  pub owned : v.aside ≡ asides.None → (g : Page) (f : ℕ) → place past g ≡ Leaving f → is_own_page g ≡ true
  owned alone = subst (HasAside past) (r.stands.aside ∙ ap aside_by alone) r.agrees.pages.aside

  pub in_blocks : v.aside ≡ asides.None → (next : ℕ) → v.stage ≡ stages.Block next → InBlocks j past v next
  in_blocks alone next stage = by_list (drop next v.taken) refl
    where
      same : pass j past ≡ Blocking (pages_in (drop next v.taken)) (pages_in v.taken)
      same = r.stands.same ∙ ap (pass_by v.taken v.kicks) stage

      frames : AreInFrames past v.taken
      frames = subst (λ x. AreInFrames past (waiting_by v.taken x)) stage r.stands.frames

      by_list : (ts : List Taken) → drop next v.taken ≡ ts → InBlocks j past v next
      by_list [] is =
          absurd (subst (HasPages past) (same ∙ ap (λ ts. Blocking (pages_in ts) (pages_in v.taken)) is) r.agrees.pages.pages)
      by_list (one ∷ rest) is =
          let to = same ∙ ap (λ ts. Blocking (pages_in ts) (pages_in v.taken)) is in
          let at = subst (AreInFrames past) is (frames_behind past next v.taken frames) in
          let has = subst (HasPages past) to r.agrees.pages.pages in
          record {
            one = one;
            rest = rest;
            found = drop_get next v.taken one rest is;
            passed = to;
            at = at.0;
            own = owned alone one.page one.frame.0 at.0;
            waits = has.waiting.0;
          }

  pub in_tries : (next : ℕ) (form : Form) → v.stage ≡ stages.Tries next form → InTries made.first_epoch j past v next form
  in_tries next form stage = by_list (drop next v.taken) refl
    where
      same : pass j past ≡ tries_of (drop next v.taken) (form_in v.kicks form)
      same = r.stands.same ∙ ap (pass_by v.taken v.kicks) stage

      frames : AreInFrames past (drop next v.taken)
      frames = subst (λ x. AreInFrames past (waiting_by v.taken x)) stage r.stands.frames

      told : IsForm made.first_epoch past form (drop next v.taken)
      told = subst (IsStage made.first_epoch past v.taken) stage r.stands.stage

      by_list : (ts : List Taken) → drop next v.taken ≡ ts → InTries made.first_epoch j past v next form
      by_list [] is = absurd (subst (HasPages past) (same ∙ ap (λ ts. tries_of ts (form_in v.kicks form)) is) r.agrees.pages.pages)
      by_list (one ∷ rest) is =
          let to = same ∙ ap (λ ts. tries_of ts (form_in v.kicks form)) is in
          let at = subst (AreInFrames past) is frames in
          record {
            one = one;
            rest = rest;
            is = is;
            found = drop_get next v.taken one rest is;
            passed = to;
            at = at.0;
            own = λ alone. owned alone one.page one.frame.0 at.0;
            has = subst (HasPages past) to r.agrees.pages.pages;
            tracks = subst (KeepsTracks past) to r.agrees.tracks;
            told = subst (IsForm made.first_epoch past form) is told;
          }

-- ---- beside the passes

-- a page that was taken there, and goes out next
pub record IsToLeave (past : List Entry) (one : Taken) : Type 0 where
  pub going : aside past ≡ passes.IsToGo one.page
  pub at : place past one.page ≡ Leaving one.frame.0
  pub other : is_own_page one.page ≡ false
  pub none : open_start past one.frame.0 ≡ None

pub to_leave : (made : Making) (j : JobView) (past : List Entry) (v : PassView) (d : Driver) (m : Parts) (one : Taken)
    → Ready made j past v d m → v.aside ≡ asides.ToGo one → IsToLeave past one
to_leave made j past v d m one r is =
    let going : aside past ≡ passes.IsToGo one.page = r.stands.aside ∙ ap aside_by is in
    let has = subst (HasAside past) going r.agrees.pages.aside in
    let at : place past one.page ≡ Leaving one.frame.0 = subst (IsAside past) is r.stands.leaves in
    record { going = going; at = at; other = has.0.0; none = (in_frame past false one.page one.frame.0 at has.1).1 }
