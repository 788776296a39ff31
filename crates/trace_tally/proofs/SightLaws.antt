-- What the tests of the tally ask, behind one entry more.
use Rattle.std.proofs.Common.{◌≡◌, ℕ, ◌+◌, ◌==◌, Bool, true, false, if◌then◌else◌, List, ◌∷◌, Option, Some, None, refl, ap, ◌∙◌}
use Rattle.std.proofs.lemmas.Bool.{eqb-true}
use Rattle.sgx_rules.specs.declared.entries.Entry.{Entry}
use Rattle.trace_tally.specs.declared.blocks.Blocked.{Blocked}
use Rattle.trace_tally.specs.declared.blocks.Blocks.{Blocks}
use Rattle.trace_tally.specs.Tests.{blocked_by, untracked_by, is_frame, is_page_entered, tenant_page, was_entered, untracked}
use Rattle.trace_tally.specs.inner.Blocks.{blocked_in, blocked_after, BlocksFollow}
use Rattle.trace_tally.specs.inner.Sights.{is_blocked_entered}

-- ---- frames

frame_entered : (b c is : Bool) (known : Blocked) (was : Bool) → known.entered ≡ was
    → (if b then record { entered = is; untracked = 0 }
    else (if c then record { entered = known.entered; untracked = known.untracked + 1 } else known)).entered
    ≡ (if b then is else was)
frame_entered true c is known was h = refl
frame_entered false true is known was h = h
frame_entered false false is known was h = h

frame_untracked : (b c is : Bool) (known : Blocked) (count : ℕ) → known.untracked ≡ count
    → (if b then record { entered = is; untracked = 0 }
    else (if c then record { entered = known.entered; untracked = known.untracked + 1 } else known)).untracked
    ≡ (if b then 0 else (if c then count + 1 else count))
frame_untracked true c is known count h = refl
frame_untracked false true is known count h = ap (λ k. k + 1) h
frame_untracked false false is known count h = h

entered_if : (o : Option ℕ) (past : List Entry) (n : ℕ) (is was : Bool) → is ≡ is_blocked_entered past o
    → (if is_frame o n then is else was) ≡ (if is_frame o n then is_page_entered past (tenant_page past n) else was)
entered_if None past n is was h = refl
entered_if (Some m) past n is was h = by_test (m == n) refl
  where
    by_test : (b : Bool) → (m == n) ≡ b → (if b then is else was) ≡ (if b then is_page_entered past (tenant_page past n) else was)
    by_test true same = h ∙ ap (λ k. is_page_entered past (tenant_page past k)) (eqb-true m n same)
    by_test false other = refl

pub blocks_more : (old new : Blocks) (e : Entry) (past : List Entry) (is : Bool) → BlocksFollow old past
    → is ≡ is_blocked_entered past (blocked_by e.event)
    → ((n : ℕ) → blocked_in new n ≡ blocked_after e.event is n (blocked_in old n)) → BlocksFollow new (e ∷ past)
blocks_more old new e past is f entered after = record {
  entered = λ n.
      ap (λ (b : Blocked). b.entered) (after n)
      ∙ frame_entered (is_frame (blocked_by e.event) n) (is_frame (untracked_by e.event) n) is (blocked_in old n) (was_entered past n)
      (f.entered n)
      ∙ entered_if (blocked_by e.event) past n is (was_entered past n) entered;
  untracked = λ n.
      ap (λ (b : Blocked). b.untracked) (after n)
      ∙ frame_untracked (is_frame (blocked_by e.event) n) (is_frame (untracked_by e.event) n) is (blocked_in old n) (untracked past n)
      (f.untracked n);
}
