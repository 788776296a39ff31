-- A machine whose columns are those of its entries has their shape, and what one more entry needs.
use Rattle.std.proofs.Common.{◌≡◌, ℕ, ◌+◌, ◌==◌, ◌&&◌, not, Bool, true, false, ltb, leb, refl, sym, ap}
use Rattle.std.proofs.Common.{subst, arith, ◌∙◌, Option, Some, None, IfSome, List, ◌∷◌, map}
use Rattle.std.specs.List.{All}
use Rattle.std.specs.Option.{IsSomeAnd}
use Rattle.std.proofs.lemmas.List.Elements.{All-weaker, All-map}
use Rattle.std.proofs.lemmas.Option.{IfSome_then}
use Rattle.std.proofs.Math.Bool.{and-true}
use Rattle.sgx_rules.specs.declared.entries.Entry.{Entry}
use Rattle.sgx_types.specs.declared.names.Page.{Page}
use Rattle.sgx_types.specs.Counts.{count_below}
use Rattle.sgx_rules.specs.inner.ByEpochs.{notes, number_noting as number_noting_by, passed_block}
use Rattle.sgx_rules.specs.inner.Enclaves.{IsTaken}
use Rattle.sgx_rules.specs.Epochs.{epoch, is_before, is_in, is_in_before, last_track, older_at}
use Rattle.sgx_rules.specs.inner.Epochs.{noted, block_epoch, newer_at}
use Rattle.sgx_rules.specs.Eviction.{is_drained}
use Rattle.sgx_types.specs.Pages.{page_at}
use Rattle.sgx_rules.specs.Frames.{content, enclave_in, is_sealing}
use Rattle.sgx_rules.specs.Processors.{Seat, Stay, stay}
use Rattle.sgx_rules.specs.Rules.{EvictRule, FitsRule, IsCurrent, IsUndisturbed, NoneStale, RisingRule, StaleRule}
use Rattle.sgx_types.proofs.CountLaws.{count_below-agrees, count_below-splits, one_if, one_of_those}
use Rattle.sgx_rules.proofs.Keystone.{epochs_tell}
use Rattle.sgx_types.proofs.Pages.{same_page-at}
use Rattle.sgx_types.specs.Making.{Making}
use Rattle.cached_translations.specs.declared.cache.Translation.{Translation}
use Rattle.machine_laws.specs.inner.Columns.{HasAllVersions, HasBack, HasColumns, noted_inside, without_perm, seat_of_stay}
use Rattle.machine_laws.specs.inner.Guarded.{IsGuarded, IsTakenIn}
use Rattle.machine_laws.specs.inner.Shape.{IsShaped, ShapeWithRules}
use Rattle.machine_laws.specs.inner.Stands.{IsTranslation, IsSound}
use Rattle.machine_laws.specs.inner.State.{State, is_noting, number_noting, has_passed, making_of}
use Rattle.machine_laws.proofs.TestLaws.{last_place}
use Rattle.machine_laws.proofs.ColumnLaws.{content_is, blocked_is, sealing_is, inside_is, noted_is, translations_are, epoch_is}
use Rattle.machine_laws.proofs.SoundLaws.{seat_at}
use Rattle.machine_laws.proofs.SlotLaws.{arrays_as, busy_is, found_as}
use Rattle.machine_copies.specs.inner.Away.{EndsRight}
use Rattle.machine_copies.proofs.ArrayLaws.{rests_next}

-- ---- how many processors inside are older, and how many newer

-- the machine's processors have noted what the entries say
pub noting_agrees : (s : State) (past : List Entry) → HasColumns s past → (enclave : ℕ) (test : ℕ → Bool)
    → number_noting s enclave test ≡ number_noting_by s.first_epoch past enclave test
noting_agrees s past h enclave test =
    count_below-agrees _ _ (λ p. rw (inside_is h p, noted_is h p) (by_stay (noted s.first_epoch past p) (stay past p))) 16
  where
    by_stay : (m : ℕ) (o : Option Stay) → is_noting enclave test (seat_of_stay o) (noted_inside o m) ≡ notes enclave test m o
    by_stay m None = refl
    by_stay m (Some t) = refl

-- as many are older than the last track, by epochs and by places
pub older_agrees : (s : State) (past : List Entry) → HasColumns s past → (e : ℕ)
    → number_noting s e (λ m. ltb m (s.epoch e)) ≡ older_at past e
older_agrees s past h e =
    rw (epoch_is h e) (noting_agrees s past h e (λ m. ltb m (epoch s.first_epoch past e)) ∙ sym ((epochs_tell s.first_epoch past).older e))

-- what passes one test passes one of two that share it out
one_of_two : (b c : Bool) → one_if (b && c) + one_if (b && not c) ≡ one_if (b && true)
one_of_two true true = refl
one_of_two true false = refl
one_of_two false c = refl

-- all that are inside are older or newer, by epochs and by places
pub newer_agrees : (s : State) (past : List Entry) → HasColumns s past → (e : ℕ)
    → number_noting s e (λ m. not (ltb m (s.epoch e))) ≡ newer_at past e
newer_agrees s past h e = omega (arith, by_epochs, by_places, all_agree, older_agrees s past h e)
  where
    by_seat : (o : Option Seat) (m : ℕ) → one_if (is_noting e (λ m. ltb m (s.epoch e)) o m) + one_if
        (is_noting e (λ m. not (ltb m (s.epoch e))) o m) ≡ one_if (is_noting e (λ m. true) o m)
    by_seat None m = refl
    by_seat (Some seat) m = one_of_two (seat.enclave == e) (ltb m (s.epoch e))

    by_epochs : number_noting s e (λ m. ltb m (s.epoch e)) + number_noting s e (λ m. not (ltb m (s.epoch e))) ≡ number_noting s e
        (λ m. true)
    by_epochs = count_below-splits _ _ _ (λ p. by_seat (s.inside p) (s.noted p)) 16

    by_stay : (k : Option ℕ) (o : Option Stay) → one_if (is_in_before e k o) + one_if (is_in e o && not (is_in_before e k o)) ≡ one_if
        (is_in e o)
    by_stay k None = refl
    by_stay k (Some t) = one_of_those (t.seat.enclave == e) (is_before k t.entered)

    by_places : older_at past e + newer_at past e ≡ count_below (λ p. is_in e (stay past p)) 16
    by_places = count_below-splits _ _ _ (λ p. by_stay (last_track past e) (stay past p)) 16

    in_it : (o : Option Stay) (m : ℕ) → is_noting e (λ m. true) (seat_of_stay o) m ≡ is_in e o
    in_it None m = refl
    in_it (Some t) m = and-true (t.seat.enclave == e)

    all_agree : number_noting s e (λ m. true) ≡ count_below (λ p. is_in e (stay past p)) 16
    all_agree = count_below-agrees _ _ (λ p. rw (inside_is h p) (in_it (stay past p) (s.noted p))) 16

-- ---- who is inside by a TCS page

-- a processor that is inside by a TCS page is so by the entries
taken_by : (s : State) (past : List Entry) (g : Page) → HasColumns s past → IsTakenIn s g → IsTaken past g
taken_by s past g h k = record { cpu = k.cpu; by = by_stay (stay past k.cpu) (rw (inside_is h k.cpu) at k.by) }
  where
    by_stay : (o : Option Stay) → IsSomeAnd (seat_of_stay o) (λ seat. page_at seat.enclave seat.tcs ≡ g)
        → IsSomeAnd o (λ t. page_at t.seat.enclave t.seat.tcs ≡ g)
    by_stay None by = by
    by_stay (Some t) by = by

-- .. and the page is busy
busy_by : (s : State) (past : List Entry) (g : Page) → HasColumns s past → IsSound s → IsTaken past g → s.is_busy g ≡ true
busy_by s past g h sound k = by_stay (stay past k.cpu) k.by (rw (inside_is h k.cpu) at (sound.busy k.cpu))
  where
    by_stay : (o : Option Stay) → IsSomeAnd o (λ t. page_at t.seat.enclave t.seat.tcs ≡ g)
        → IfSome (seat_of_stay o) (λ seat. s.is_busy (page_at seat.enclave seat.tcs) ≡ true) → s.is_busy g ≡ true
    by_stay None by busy = absurd by
    by_stay (Some t) by busy = ap s.is_busy (sym by) ∙ busy

-- a sound and guarded machine with the columns of its entries has their shape
pub shaped_by : (s : State) (past : List Entry) → HasColumns s past → IsSound s → IsGuarded s → IsShaped (making_of s) s past
shaped_by s past h sound guarded = record {
  making = refl;
  columns = h;
  older = older_agrees s past h;
  newer = newer_agrees s past h;
  busy = λ g. record { taken = λ is. taken_by s past g h (guarded.taken g is); busy = busy_by s past g h sound };
  slots_busy = busy_is s past h guarded;
}

-- ---- no translation is stale

-- what a processor's two frames held at its entry they hold still
abbrev pub IsHeld : List Entry → Type 0
IsHeld past =
    (p : ℕ) → IfSome (stay past p) (λ t. (content past t.seat.tcs_frame ≡ t.tcs_held) × (content past t.seat.ssa_frame ≡ t.ssa_held))

-- a sound machine with the columns of its entries shows that no translation is stale
pub none_stale_by : (s : State) (past : List Entry) → HasColumns s past → IsSound s → IsHeld past → NoneStale past
none_stale_by s past h sound held p = by_stay (stay past p) refl (held p)
  where
    current : (enclave : ℕ) (xs : List Translation) → All (λ x. IsTranslation enclave x (s.content x.frame.0) (s.is_sealing x.frame.0)) xs
        → All (λ x. IsCurrent enclave x (content past x.frame) (is_sealing past x.frame)) (map without_perm xs)
    current enclave xs k =
        All-map (λ x. IsCurrent enclave x (content past x.frame) (is_sealing past x.frame)) without_perm xs
        (All-weaker
        (λ x. IsTranslation enclave x (s.content x.frame.0) (s.is_sealing x.frame.0))
        (λ x. IsCurrent enclave (without_perm x) (content past x.frame.0) (is_sealing past x.frame.0))
        (λ x i. record {
          page = rw (sym (content_is h x.frame.0) ∙ i.page) (same_page-at enclave x.number);
          settled = sym (sealing_is h x.frame.0) ∙ i.settled;
        })
        xs k)

    by_stay : (o : Option Stay) → stay past p ≡ o
        → IfSome o (λ t. (content past t.seat.tcs_frame ≡ t.tcs_held) × (content past t.seat.ssa_frame ≡ t.ssa_held))
        → IfSome o (IsUndisturbed past p)
    by_stay None e k = tt
    by_stay (Some t) e k =
        let is : s.inside p ≡ Some t.seat = rw (inside_is h p, e) refl in
        let seat = seat_at s sound p t.seat is in
        record {
          tcs = record { held = k.0; settled = sym (sealing_is h t.seat.tcs_frame) ∙ seat.tcs.settled };
          ssa = record { held = k.1; settled = sym (sealing_is h t.seat.ssa_frame) ∙ seat.ssa.settled };
          translations = rw (← translations_are h p) (current t.seat.enclave (s.cache p) seat.cache);
        }

-- ---- which pages are drained

-- what the row of EWB's start sees is drained exactly where the entries say so
pub drained_by : (s : State) (past : List Entry) → HasColumns s past → (n : ℕ)
    → has_passed s (enclave_in (s.content n)) (s.blocked n) ≡ is_drained past n
drained_by s past h n = rw (content_is h n, blocked_is h n)
    (by_block (enclave_in (content past n)) (block_epoch s.first_epoch past n) ∙ sym ((epochs_tell s.first_epoch past).drained n))
  where
    by_block : (c b : Option ℕ) → has_passed s c b ≡ passed_block s.first_epoch past c b
    by_block None b = refl
    by_block (Some enclave) None = refl
    by_block (Some enclave) (Some b) = rw (epoch_is h enclave, noting_agrees s past h enclave (λ m. leb m b)) refl

-- ---- one entry more

-- what the new entry brings
pub record IsNextTo (s t : State) (past : List Entry) (e : Entry) : Type 0 where
  pub making : making_of t ≡ making_of s
  pub columns : HasColumns t (e ∷ past)
  pub held : IsHeld (e ∷ past)
  pub access : StaleRule past e
  pub evict : EvictRule past e
  pub rising : RisingRule s.first_version past e
  pub right : EndsRight past e.event
  pub arrays : HasAllVersions s past → HasBack t past e → HasAllVersions t (e ∷ past)

-- the frames that processors use hold what they held at their entries
pub held_by : (made : Making) (s : State) (past : List Entry) → ShapeWithRules made s past → IsHeld past
held_by made s past h p = IfSome_then (stay past p) (last_place NoneStale past h.stale.places p) (λ t k. (k.tcs.held, k.ssa.held))

-- a machine that has the shape of its entries comes to that of one more
pub shaped_more : (made : Making) (s t : State) (past : List Entry) (e : Entry) → IsGuarded s → IsSound t → IsGuarded t
    → ShapeWithRules made s past → FitsRule s.frames past e → IsNextTo s t past e → ShapeWithRules made t (e ∷ past)
shaped_more made s t past e before sound guarded h fits next =
    let shape = shaped_by t (e ∷ past) next.columns sound guarded in
    record {
      shape = record {
        making = next.making ∙ h.shape.making;
        columns = shape.columns;
        older = shape.older;
        newer = shape.newer;
        busy = shape.busy;
        slots_busy = shape.slots_busy;
      };
      frames = (subst (λ (n : ℕ). FitsRule n past e) (ap (λ (m : Making). m.frames) h.shape.making) fits, h.frames);
      stale = record {
        entries = (next.access, h.stale.entries);
        places = (none_stale_by t (e ∷ past) next.columns sound next.held, h.stale.places);
      };
      evict = (next.evict, h.evict);
      rising = (subst (λ (n : ℕ). RisingRule n past e) (ap (λ (m : Making). m.first_version) h.shape.making) next.rising, h.rising);
      rest = rests_next past e.actor e.event (arrays_as s past h.shape.columns before) (found_as s past h.shape.columns before) next.right
          h.rest;
    }
