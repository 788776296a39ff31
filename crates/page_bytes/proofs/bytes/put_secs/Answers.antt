use Rattle.std.proofs.Common.{◌≡◌, ◌∙◌, ◌++◌, List, ℕ, ap, append_assoc}
use Rattle.std.specs.Int.{w32, w64, to_le_bytes}
use Rattle.sgx_types.specs.Layouts.{zeros}
use Rattle.page_bytes.proofs.bytes.put_secs.Goals as goal

-- a piece more behind pieces
further : (t₀ y t x t' : List ℕ) → t ≡ t₀ ++ y → t' ≡ t ++ x → t' ≡ t₀ ++ (y ++ x)
further t₀ y t x t' before this = this ∙ ap (λ s. s ++ x) before ∙ append_assoc t₀ y x

pub returns : goal.returns
returns c =
    let onto = c.args.onto.now.items in
    let size = to_le_bytes w64 c.args.size in
    let base = to_le_bytes w64 c.args.base in
    let one = to_le_bytes w32 1 in
    let first = c.put.ensures.bytes ∙ ap (λ b. onto ++ b) c.to_le_bytes.ensures in
    let second = further onto size _ base _ first (c.put-2.ensures.bytes ∙ ap (λ b. c.put.new.onto.items ++ b) c.to_le_bytes-2.ensures) in
    let third = further onto (size ++ base) _ one _ second (c.put-3.ensures.bytes
    ∙ ap (λ b. c.put-2.new.onto.items ++ b) c.to_le_bytes-3.ensures) in
    let fourth = further onto (size ++ base ++ one) _ (zeros 44) _ third c.put_zeros.ensures.bytes in
    let fifth = further onto (size ++ base ++ one ++ zeros 44) _ c.args.digest.now _ fourth c.put-4.ensures.bytes in
    further onto (size ++ base ++ one ++ zeros 44 ++ c.args.digest.now) _ (zeros 4000) _ fifth c.put_zeros-2.ensures.bytes
