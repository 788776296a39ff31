-- The addresses of an enclave's pages have 64 bits.
use Rattle.std.proofs.Common.{◌≡◌, ℕ, ◌+◌, ◌-◌, ◌*◌, ◌/◌, ◌%◌, ◌^◌, ◌<◌, ◌≤◌, ◌&&◌, ◌==◌}
use Rattle.std.proofs.Common.{nat_le, suc, true, arith, refl, sym, ap, ◌∙◌}
use Rattle.std.specs.Int.{is_power_of_two}
use Rattle.std.specs.Int.RustNames.{count_ones}
use Rattle.std.proofs.lemmas.Bool.{and_parts, eqb-true, leb-true}
use Rattle.std.proofs.lemmas.Nat.{leading_top, ones_cat, zero_from_ones, div_below, row_fits, pow_pos, pow-add, div-add-mod'}
use Rattle.secs_state.specs.inner.Secs.{SecsState, IsSecs, page_count}

one_of_one : count_ones 1 ≡ 1
unfolding count_ones
one_of_one = refl

-- a number with one bit set is the power of two at that bit
one_bit : (n : ℕ) → is_power_of_two n ≡ true → 0 < n → n < 2 ^ 25 → (j : ℕ) × (j < 25) × (n ≡ 2 ^ j)
one_bit n one some low =
    let top = leading_top 25 n some low in
    let j : ℕ = top.0 in
    let over : 2 ^ j ≤ n = top.2 in
    let under : n < 2 ^ j + 2 ^ j = omega (arith, top.3, double j) in
    let rest : ℕ = n - 2 ^ j in
    let whole : 1 * 2 ^ j + rest ≡ n = omega arith in
    let small : rest < 2 ^ j = omega arith in
    let bits : count_ones n ≡ count_ones 1 + count_ones rest = ap count_ones (sym whole) ∙ ones_cat j 1 rest small in
    let single : count_ones n ≡ 1 = eqb-true (count_ones n) 1 one in
    let none : rest ≡ 0 = zero_from_ones rest (omega (arith, one_of_one)) in
    (j, omega (arith, top.1), omega arith)
  where
    double : (j : ℕ) → 2 ^ suc j ≡ 2 ^ j + 2 ^ j
    double j = omega arith

-- a multiple of a power of two below 2 ^ 64 is below it by that power at least
room_above : (base j : ℕ) → j < 25 → base % 2 ^ j ≡ 0 → base < 2 ^ 64 → base + 2 ^ j ≤ 2 ^ 64
room_above base j few multiple low =
    let whole_width : 64 - j + j ≡ 64 = omega arith in
    let split : 2 ^ (64 - j) * 2 ^ j ≡ 2 ^ 64 = sym (pow-add 2 (64 - j) j) ∙ ap (λ (k : ℕ). 2 ^ k) whole_width in
    let some : 0 < 2 ^ j = pow_pos j in
    let whole : base / 2 ^ j * 2 ^ j + base % 2 ^ j ≡ base = div-add-mod' base (2 ^ j) in
    let fits : base / 2 ^ j * 2 ^ j + 2 ^ j ≤ 2 ^ (64 - j) * 2 ^ j =
    row_fits (base / 2 ^ j) (2 ^ j) (2 ^ (64 - j)) (2 ^ j) (div_below base (2 ^ j) (2 ^ (64 - j)) some (omega arith)) (omega arith) in
    omega (arith, whole, multiple, fits, split)

-- the last byte of a page of the range has an address of 64 bits
pub address_fits : (secs : SecsState) (number : ℕ) → IsSecs secs → secs.base < 2 ^ 64 → number < page_count secs.size
    → secs.base + 4096 * number < 2 ^ 64
address_fits secs number is low within =
    let parts = and_parts (is_power_of_two secs.size && nat_le 8192 secs.size && nat_le secs.size (2 ^ 24)) (secs.base % secs.size == 0)
    is.lawful in
    let sizes = and_parts (is_power_of_two secs.size && nat_le 8192 secs.size) (nat_le secs.size (2 ^ 24)) parts.0 in
    let first = and_parts (is_power_of_two secs.size) (nat_le 8192 secs.size) sizes.0 in
    let least : 8192 ≤ secs.size = leb-true 8192 secs.size first.1 in
    let most : secs.size ≤ 2 ^ 24 = leb-true secs.size (2 ^ 24) sizes.1 in
    let power = one_bit secs.size first.0 (omega arith) (omega arith) in
    let multiple : secs.base % secs.size ≡ 0 = eqb-true (secs.base % secs.size) 0 parts.1 in
    let same : secs.size ≡ 2 ^ power.0 = power.2 in
    let room : secs.base + 2 ^ power.0 ≤ 2 ^ 64 = room_above secs.base power.0 power.1 (rw same at multiple) low in
    omega (arith, room)
