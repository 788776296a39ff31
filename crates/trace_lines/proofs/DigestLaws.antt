-- What is read of a word as a digest is 32 bytes.
use Rattle.std.proofs.Common.{◌≡◌, ℕ, zero, suc, ◌<◌, List, Some, Result, Ok, Err, All, replicate, refl, sym, ◌∙◌, arith, lit≤}
use Rattle.std.specs.Result.{result_ok}
use Rattle.std.proofs.lemmas.List.Elements.{All-from_get_or, All-nil, All-cons}
use Rattle.hex.specs.Hex.{decode_sized}
use Rattle.hex.specs.declared.error.FromHexError.{FromHexError}
use Rattle.hex.proofs.HexLemmas.{decode_of-ok, decode_sized-ok, decode_sized-twice}
use Rattle.sgx_types.specs.Digests.{IsDigest}
use Rattle.text_words.specs.Reading.{digest_of}

ok-from_some : (r : Result (List ℕ) FromHexError) (digest : List ℕ) → result_ok r ≡ Some digest → r ≡ Ok digest
ok-from_some (Ok bytes) digest same = cc
ok-from_some (Err e) digest same = cc

pub digest_fits : (word digest : List ℕ) → digest_of word ≡ Some digest → IsDigest digest
unfolding digest_of
digest_fits word digest read =
    let ok : decode_sized word 32 ≡ Ok digest = ok-from_some (decode_sized word 32) digest read in
    let long = decode_sized-ok word 32 digest ok in
    let told = decode_of-ok word digest (sym (decode_sized-twice word 32 long) ∙ ok) in
    record { sized = omega (arith, told.2); bytes = All-from_get_or (λ b. b < 256) digest 0 (λ i within. told.3 i) }

zeros-bytes : (n : ℕ) → All (λ b. b < 256) (replicate n 0)
zeros-bytes zero = All-nil (λ b. b < 256)
zeros-bytes (suc n) = All-cons (λ b. b < 256) 0 (replicate n 0) (lit≤ tt) (zeros-bytes n)

pub zeros_fit : IsDigest (replicate 32 0)
zeros_fit = record { sized = refl; bytes = zeros-bytes 32 }
