-- A page whose slots are all out, by its slots and by their count.
use Rattle.std.proofs.Common.{◌≡◌, ℕ, ◌<◌, ◌==◌, ◌&&◌, nat_le, nat_lt, not, Bool, true}
use Rattle.std.proofs.Common.{false, Option, Some, None, refl, sym, ap, subst, ◌∙◌, arith}
use Rattle.std.proofs.Common.{count_by, position, List, length}
use Rattle.std.proofs.lemmas.Bool.{false≢true, eqb-true}
use Rattle.sgx_types.specs.Counts.{any_below}
use Rattle.sgx_types.proofs.CountLaws.{any_below-none, any_below-some}
use Rattle.driver_slots.specs.inner.Keeper.{array_at, ArrayView, free_of, is_free_at, is_full, is_in, is_left, IsArray, Keeper}
use Rattle.driver_slots.proofs.ArrayLaws.{free_within, least_passes, some_least}
use Rattle.driver_slots.proofs.KeeperLaws.{some_free}

module _ (a : ArrayView) (is : IsArray a) where
  -- a slot that can be taken is free
  left_free : (index : ℕ) (b c : Bool) → is_in a index ≡ b → is_free_at a index ≡ c → (b && not (b && not c)) ≡ true
      → is_free_at a index ≡ true
  left_free index true true within free h = free
  left_free index true false within free h = cc
  left_free index false c within free h = cc

  -- .. and one that is free can be taken
  free_in : (index : ℕ) → is_free_at a index ≡ true → is_in a index ≡ true
  free_in index free =
      let low : index < 512 = omega (arith, free_within a.free index free, is.sized) in
      by_place (nat_le a.first index) refl low
    where
      by_place : (b : Bool) → nat_le a.first index ≡ b → index < 512 → (b && nat_lt index 512) ≡ true
      by_place true from low = grind arith
      by_place false from low =
          let before : index < a.first = grind arith in
          absurd (false≢true (sym (is.below index before) ∙ free))

  none_left : (free_of a == 0) ≡ true → (index : ℕ) → index < 512 → is_left (Some a) index ≡ false
  none_left zero index low = by_left (is_left (Some a) index) refl
    where
      by_left : (b : Bool) → is_left (Some a) index ≡ b → b ≡ false
      by_left false left = refl
      by_left true left =
          absurd (false≢true (sym (some_free a index (left_free index (is_in a index) (is_free_at a index) refl refl left)) ∙ zero))

  some_left : (free_of a == 0) ≡ false → any_below (is_left (Some a)) 512 ≡ true
  some_left some = by_place (position (λ b. b) a.free) refl
    where
      by_place : (o : Option ℕ) → position (λ b. b) a.free ≡ o → any_below (is_left (Some a)) 512 ≡ true
      by_place None at = absurd (some_least a.free some at)
      by_place (Some index) at =
          let free : is_free_at a index ≡ true = least_passes a.free index at in
          any_below-some (is_left (Some a)) 512 index (omega (arith, free_within a.free index free, is.sized))
          (rw (free_in index free, free) refl)

  by_count : (b : Bool) → (free_of a == 0) ≡ b → b ≡ not (any_below (is_left (Some a)) 512)
  by_count true zero = rw (any_below-none (is_left (Some a)) 512 (none_left zero)) refl
  by_count false some = rw (some_left some) refl

-- none of the slots can be taken exactly where none is free
pub full_is : (keeper : Keeper) (va : ℕ) (a : ArrayView) → IsArray a → array_at keeper va ≡ Some a → (free_of a == 0) ≡ is_full keeper va
unfolding is_full
full_is keeper va a is there =
    by_count a is (free_of a == 0) refl ∙ ap (λ o. not (any_below (is_left o) 512)) (sym there)
